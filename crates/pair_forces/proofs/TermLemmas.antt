-- The term of a pair of atoms, and the sums of a row with it.
use Rattle.std.proofs.Common.{◌≡◌, ◌^◌, ◌<◌, ◌==◌, Bool, false, ℕ, ℤ, ◌+ℤ◌, unsigned_abs, Option, Some, None, Result, IsSomeAnd, List, w64, to_z, of_z, refl, sym, ap, ◌∙◌, arith}
use Rattle.std.specs.Int.{w128}
use Rattle.std.proofs.lemmas.Int.{ints}
use Rattle.std.proofs.lemmas.Bool.Decides.{nat_tests}
use Rattle.box_geo.specs.declared.atoms.Atom.{Atom}
use Rattle.box_geo.specs.declared.sim_box.Sides.{Sides}
use Rattle.box_geo.specs.declared.term.Term.{Term}
use Rattle.box_geo.specs.Sides.{near_image}
use Rattle.pair_lj.specs.declared.close.Close.{Close}
use Rattle.pair_lj.specs.declared.pair_settings.PairCoefficients.{PairCoefficients}
use Rattle.pair_lj.specs.Pairs.{PairNumbers, numbers_at, term_by}
use Rattle.pair_forces.specs.declared.row.Row.{Row}
use Rattle.pair_forces.specs.Adds.{plus}
use Rattle.pair_forces.specs.Rows.{IsRowWithin}
use Rattle.serial_step.specs.Forces.{field_of, term_with, term_apart, term_of}

-- the term of a pair, by the numbers of its types
by_numbers : (o : Option PairNumbers) (d : List ℤ) (r : Result (Option Term) Close) → IsSomeAnd o (λ k. r ≡ term_by k (2 ^ 24) d) → r ≡ term_with (2 ^ 24) o d
by_numbers None d r h = absurd h
by_numbers (Some k) d r h = h

apart : (b : Bool) (w : ℕ) (o : Option PairNumbers) (d : List ℤ) → b ≡ false → term_apart b w o d ≡ term_with w o d
apart b w o d e = rw e refl

differ : (m n : ℕ) → (m ≡ n → ⊥) → (m == n) ≡ false
differ m n h = grind (arith, nat_tests)

pub term_is : (pairs : List PairCoefficients) (s : Sides) (i j : Atom) (r : Result (Option Term) Close) → (i.id ≡ j.id → ⊥)
    → IsSomeAnd (numbers_at pairs i.kind j.kind) (λ k. r ≡ term_by k (2 ^ 24) (near_image s i.x j.x))
    → r ≡ term_of (field_of pairs) s i j
unfolding term_of
term_is pairs s i j r other h =
    by_numbers (numbers_at pairs i.kind j.kind) (near_image s i.x j.x) r h
    ∙ sym (apart (i.id == j.id) (2 ^ 24) (numbers_at pairs i.kind j.kind) (near_image s i.x j.x) (differ i.id j.id other))

-- the sums with a term more
abbrev read : ℤ → ℤ
read x = to_z w64 (of_z w64 x)

small_read : (x : ℤ) → unsigned_abs x < 2 ^ 62 → read x ≡ x
small_read x a = omega (arith, ints)

abbrev read_wide : ℤ → ℤ
read_wide x = to_z w128 (of_z w128 x)

wide_sum : (x y : ℤ) → unsigned_abs x < 2 ^ 126 → unsigned_abs y < 2 ^ 126 → read_wide (read_wide x +ℤ read_wide y) ≡ x +ℤ y
wide_sum x y a b = omega (arith, ints)

same_row : (f g : List ℤ) (e d v w : ℤ) (k : ℕ) → f ≡ g → e ≡ d → v ≡ w
    → ◌≡◌ {A = Row} record { f = f; energy = e; virial = v; fault = k } record { f = g; energy = d; virial = w; fault = k }
same_row f g e d v w k p q r = cc

pub row_plus_is : (row : Row) (t : Term) (f : List ℤ) (e : ℤ) → IsRowWithin (2 ^ 40) row → unsigned_abs t.energy < 2 ^ 60 → unsigned_abs t.virial < 2 ^ 72 → f ≡ plus row.f t.f → e ≡ read t.energy
    → ◌≡◌ {A = Row} record { f = f; energy = read_wide (read_wide row.energy +ℤ read_wide e); virial = read_wide (read_wide row.virial +ℤ read_wide t.virial); fault = row.fault }
    record row { f = plus row.f t.f; energy = row.energy +ℤ t.energy; virial = row.virial +ℤ t.virial }
row_plus_is row t f e room low small force energy =
    same_row f (plus row.f t.f) _ _ _ _ row.fault force
    (ap (λ (z : ℤ). read_wide (read_wide row.energy +ℤ read_wide z)) (energy ∙ small_read t.energy (omega arith)) ∙ wide_sum row.energy t.energy (omega (arith, room.energy)) (omega arith))
    (wide_sum row.virial t.virial (omega (arith, room.virial)) (omega arith))
