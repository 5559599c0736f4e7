-- The values of an index variable.
use Rattle.std.proofs.Common.{◌≡◌, ◌∙◌, ◌+◌, ◌-◌, ◌<◌, ◌≤◌, ℕ, Bool, true, false, List, [], ◌∷◌, Some, None, length, length-drop, drop, nat_lt, refl, ap, arith}
use Rattle.std.specs.Bool.{OnTrue}
use Rattle.std.specs.Option.{is_some}
use Rattle.std.proofs.lemmas.Bool.Decides.{nat_tests}
use Rattle.std.proofs.lemmas.List.{drop-drop}
use Rattle.var_table.specs.declared.styles.VarStyle.{VarStyle}
use Rattle.var_table.specs.declared.styles.VarStyle.TheVariants.{Index, Loop, Equal, AtomWise, Plain}
use Rattle.var_table.specs.Left.{left_of}
use Rattle.var_table.specs.Variables.{index_after}

index_more : (values : List (List ℕ)) → 1 < length values → index_after values ≡ Some (Index (drop 1 values))
index_more [] h = absurd (omega arith)
index_more (value ∷ []) h = absurd (omega arith)
index_more (value ∷ next ∷ values) h = refl

pub index_next : (values : List (List ℕ)) (past : ℕ) → 1 < length (drop past values) → index_after (drop past values) ≡ Some (Index (drop (past + 1) values))
index_next values past h = index_more (drop past values) h ∙ ap (λ vs. Some (Index vs)) (drop-drop 1 past values)

pub index_last : (values : List (List ℕ)) → length values ≤ 1 → index_after values ≡ None
index_last [] h = refl
index_last (value ∷ []) h = refl
index_last (value ∷ next ∷ values) h = absurd (omega arith)

pub left-none : (style : VarStyle) → left_of style 0 ≡ style
left-none (Index values) = refl
left-none (Loop first last) = refl
left-none (Equal formula) = refl
left-none (AtomWise formula) = refl
left-none (Plain text) = refl

more_by : (b : Bool) (values : List (List ℕ)) (past : ℕ) → nat_lt 1 (length values - past) ≡ b → b ≡ is_some (index_after (drop past values))
more_by true values past h =
    let n : 1 < length (drop past values) = grind (arith, nat_tests, length-drop past values) in
    rw (index_next values past n) refl
more_by false values past h =
    let n : length (drop past values) ≤ 1 = grind (arith, nat_tests, length-drop past values) in
    rw (index_last (drop past values) n) refl

pub more_is : (values : List (List ℕ)) (past left : ℕ) → left ≡ length values - past → nat_lt 1 left ≡ is_some (index_after (drop past values))
more_is values past left e = ap (nat_lt 1) e ∙ more_by (nat_lt 1 (length values - past)) values past refl

next_by : (b : Bool) (values : List (List ℕ)) (past : ℕ) → nat_lt 1 (length values - past) ≡ b → OnTrue b (index_after (drop past values) ≡ Some (Index (drop (past + 1) values)))
next_by true values past h =
    let n : 1 < length (drop past values) = grind (arith, nat_tests, length-drop past values) in
    index_next values past n
next_by false values past h = tt

pub next_is : (values : List (List ℕ)) (past left : ℕ) → left ≡ length values - past
    → OnTrue (nat_lt 1 left) (index_after (drop past values) ≡ Some (Index (drop (past + 1) values)))
next_is values past left e = rw e (next_by (nat_lt 1 (length values - past)) values past refl)
