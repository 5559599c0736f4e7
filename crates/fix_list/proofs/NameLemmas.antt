-- A list without the fixes of a name.
use Rattle.std.proofs.Common.{◌≡◌, Bool, true, false, cond, not, List, ℕ, [], ◌∷◌, refl, ap}
use Rattle.std.specs.Prelude.{◌||◌}
use Rattle.std.specs.Str.{bytes_eq}
use Rattle.fix_list.specs.declared.fixes.NamedFix.{NamedFix}
use Rattle.fix_list.specs.Fixes.{has_name, without}

-- where no fix has the name, it is the list
pub without-absent : (fixes : List NamedFix) (name : List ℕ) → has_name fixes name ≡ false → without fixes name ≡ fixes
without-absent [] name e = refl
without-absent (named ∷ fixes) name e = by_test (bytes_eq named.name name) (has_name fixes name) (without-absent fixes name) e
  where
    by_test : (b rest : Bool) → (rest ≡ false → without fixes name ≡ fixes) → (b || rest) ≡ false → cond (not b) (named ∷ without fixes name) (without fixes name) ≡ named ∷ fixes
    by_test false rest later e = ap (λ (l : List NamedFix). named ∷ l) (later e)
    by_test true rest later e = absurd (cc)
