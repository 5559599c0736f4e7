-- The branches of `if`, one after another.
use Rattle.std.proofs.Common.{◌≡◌, ◌∙◌, ◌+◌, ◌++◌, ◌∷◌, [], List, ℕ, suc, Some, None, Bool, true, false, cond, ap, sym, append_assoc, drop, take, arith}
use Rattle.std.proofs.lemmas.List.{append-nil}
use Rattle.std.specs.List.{prefix_len}
use Rattle.command_words.specs.Flow.{branches_behind, branches_from, is_other}
use Rattle.command_words.specs.declared.flow.Branch.{Branch}
use Rattle.command_words.specs.declared.vocabulary.Word.TheVariants as name

-- how many commands stand before the next `elif`
abbrev command_count : List (List ℕ) → ℕ
command_count words = prefix_len (is_other name.Elif) words

abbrev branch : List ℕ → List (List ℕ) → Branch
branch condition commands = record { condition = condition; commands = commands }

first_by : (b : Bool) (condition : List ℕ) (commands : List (List ℕ)) (text : List ℕ) (words : List (List ℕ))
    → branches_from (Some condition) (commands ++ text ∷ []) words
    ≡ branch condition (commands ++ text ∷ [] ++ take (command_count words) words) ∷ branches_behind (drop (command_count words) words)
    → cond b (branches_from (Some condition) (commands ++ text ∷ []) words) (branch condition commands ∷ branches_from None [] words)
    ≡ branch condition (commands ++ take (cond b (1 + command_count words) 0) (text ∷ words)) ∷ branches_behind (drop (cond b (1 + command_count words) 0) (text ∷ words))
first_by true condition commands text words rest =
    let e : 1 + command_count words ≡ suc (command_count words) = omega arith in
    let f : branches_from (Some condition) (commands ++ text ∷ []) words ≡ branch condition (commands ++ (text ∷ take (command_count words) words)) ∷ branches_behind (drop (command_count words) words) = rest ∙ ap (λ c. branch condition c ∷ branches_behind (drop (command_count words) words)) (append_assoc commands (text ∷ []) (take (command_count words) words)) in
    rw e f
first_by false condition commands text words rest = ap (λ c. branch condition c ∷ branches_from None [] words) (sym (append-nil commands))

pub branches_first : (condition : List ℕ) (commands words : List (List ℕ))
    → branches_from (Some condition) commands words
    ≡ branch condition (commands ++ take (command_count words) words) ∷ branches_behind (drop (command_count words) words)
branches_first condition commands [] = ap (λ c. branch condition c ∷ []) (sym (append-nil commands))
branches_first condition commands (text ∷ words) =
    first_by (is_other name.Elif text) condition commands text words (branches_first condition (commands ++ text ∷ []) words)

-- a branch that is appended to others
pub branch_pushed : (old : List Branch) (condition : List ℕ) (words : List (List ℕ)) (b : Branch)
    → b ≡ record { condition = condition; commands = take (prefix_len (is_other name.Elif) words) words }
    → old ++ b ∷ [] ++ branches_behind (drop (prefix_len (is_other name.Elif) words) words) ≡ old ++ branches_from (Some condition) [] words
branch_pushed old condition words b is =
    append_assoc old (b ∷ []) (branches_behind (drop (command_count words) words))
    ∙ ap (λ c. old ++ (c ∷ branches_behind (drop (command_count words) words))) is
    ∙ ap (λ bs. old ++ bs) (sym (branches_first condition [] words))
