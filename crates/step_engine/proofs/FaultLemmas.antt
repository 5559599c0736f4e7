-- The fault of an evaluation of forces, and what holds where there is none.
use Rattle.std.proofs.Common.{◌≡◌, ◌^◌, ◌<◌, ◌≤◌, ◌==◌, ◌||◌, Bool, true, false, cond, nat_lt, ℕ, unsigned_abs, List, [], ◌∷◌, All, map, refl, sym, ap, ◌∙◌, arith}
use Rattle.std.proofs.lemmas.Bool.Decides.{nat_tests}
use Rattle.std.proofs.lemmas.List.Elements.{All-cons, All-head, All-nil, All-tail, All-weaker}
use Rattle.box_geo.specs.declared.atoms.Atom.{Atom}
use Rattle.box_geo.specs.declared.fault.FaultKey.{FaultKey}
use Rattle.box_geo.specs.declared.fault.FaultPhase.TheVariants.{Forces}
use Rattle.box_geo.specs.declared.fault.FaultKind.TheVariants as kind
use Rattle.box_geo.specs.declared.limits.TheConstants.{MAX_ID}
use Rattle.box_geo.specs.declared.sim_box.Sides.{Sides}
use Rattle.box_geo.specs.Fault.{FitsWord, key_word, kind_number, no_fault, phase_number}
use Rattle.box_geo.specs.Sides.{x_of, y_of, z_of}
use Rattle.pair_lj.specs.Table.{Table}
use Rattle.serial_step.specs.Forces.{Field, force_word, forces_fault, is_too_great, least, terms_fault, with_forces, word}
use Rattle.serial_step.specs.Pairs.{word_between}
use Rattle.serial_step.proofs.LeastLemmas.{least-cons, least-le}
use Rattle.sums.specs.Totals.{half}
use Rattle.step_engine.specs.Engine.{IsKeyOf}
use Rattle.step_engine.specs.Ranges.{IsPlaced, IsWithin}

-- that of the terms comes first
chosen : (m n w : ℕ) → m < n → cond (m == n) w m ≡ m
chosen m n w lt = grind (arith, nat_tests)

passed : (m n w : ℕ) → n ≤ m → m ≤ n → cond (m == n) w m ≡ w
passed m n w low high = grind (arith, nat_tests)

terms_fault-le : (field : Field) (s : Sides) (atoms : List Atom) → terms_fault field s atoms ≤ no_fault
unfolding terms_fault
terms_fault-le field s atoms = least-le (map (word_between field s) (half atoms))

found_in_terms : (field : Field) (s : Sides) (atoms : List Atom) (w : ℕ) → w ≡ terms_fault field s atoms → w < no_fault → forces_fault field s atoms ≡ w
unfolding forces_fault
found_in_terms field s atoms w is lt = chosen (terms_fault field s atoms) no_fault _ (omega arith) ∙ sym is

pub found_in_forces : (field : Field) (s : Sides) (atoms xs : List Atom) (w v : ℕ) → w ≡ terms_fault field s atoms → no_fault ≤ w → xs ≡ with_forces field s atoms → v ≡ least (map force_word xs) → forces_fault field s atoms ≡ v
unfolding forces_fault
found_in_forces field s atoms xs w v is none on so =
    passed (terms_fault field s atoms) no_fault _ (omega arith) (terms_fault-le field s atoms)
    ∙ ap (λ (l : List Atom). least (map force_word l)) (sym on)
    ∙ sym so

key : (k : FaultKey) (w n : ℕ) → key_word k ≡ w → FitsWord k → n ≡ w → w < no_fault → IsKeyOf n k
key k w n is fits same lt = (is ∙ sym same, fits, omega arith)

pub key_of_terms : (field : Field) (s : Sides) (atoms : List Atom) (k : FaultKey) (w : ℕ) → w ≡ terms_fault field s atoms → w < no_fault → key_word k ≡ w → FitsWord k → IsKeyOf (forces_fault field s atoms) k
key_of_terms field s atoms k w is lt so fits = key k w (forces_fault field s atoms) so fits (found_in_terms field s atoms w is lt) lt

pub key_of_forces : (field : Field) (s : Sides) (atoms xs : List Atom) (k : FaultKey) (w v : ℕ) → w ≡ terms_fault field s atoms → no_fault ≤ w → xs ≡ with_forces field s atoms → v ≡ least (map force_word xs) → v < no_fault
    → key_word k ≡ v → FitsWord k → IsKeyOf (forces_fault field s atoms) k
key_of_forces field s atoms xs k w v is none on so lt same fits = key k v (forces_fault field s atoms) same fits (found_in_forces field s atoms xs w v is none on so) lt

pub none_found : (field : Field) (s : Sides) (atoms xs : List Atom) (w v : ℕ) → w ≡ terms_fault field s atoms → no_fault ≤ w → xs ≡ with_forces field s atoms → v ≡ least (map force_word xs) → no_fault ≤ v → forces_fault field s atoms ≡ no_fault
none_found field s atoms xs w v is none on so last =
    found_in_forces field s atoms xs w v is none on so ∙ omega (arith, least-le (map force_word xs))

-- with no fault each force is in its range
pub ids_of_placed : (t : Table) (s : Sides) (atoms : List Atom) → All (IsPlaced t s) atoms → All (λ a. a.id ≤ MAX_ID) atoms
ids_of_placed t s atoms all = All-weaker (IsPlaced t s) (λ a. a.id ≤ MAX_ID) (λ a h. h.id) atoms all

not_judged : (b : Bool) (w : ℕ) → no_fault ≤ cond b w no_fault → w < no_fault → b ≡ false
not_judged true w high low = absurd (omega arith)
not_judged false w high low = refl

all_within : (a b c : ℕ) → (nat_lt (2 ^ 44) a || nat_lt (2 ^ 44) b || nat_lt (2 ^ 44) c) ≡ false → (a ≤ 2 ^ 44) × (b ≤ 2 ^ 44) × (c ≤ 2 ^ 44)
all_within a b c h = (grind (arith, nat_tests), grind (arith, nat_tests), grind (arith, nat_tests))

within : (a : Atom) → a.id ≤ MAX_ID → no_fault ≤ force_word a → IsWithin (2 ^ 44) a.f
within a low none =
    all_within (unsigned_abs (x_of a.f)) (unsigned_abs (y_of a.f)) (unsigned_abs (z_of a.f))
    (not_judged (is_too_great a.f) (word (phase_number Forces) (kind_number kind.Force) a.id 0) none (omega arith))

pub in_range : (xs : List Atom) → All (λ a. a.id ≤ MAX_ID) xs → no_fault ≤ least (map force_word xs) → All (λ a. IsWithin (2 ^ 44) a.f) xs
in_range [] low none = All-nil (λ a. IsWithin (2 ^ 44) a.f)
in_range (x ∷ xs) low none =
    let here : no_fault ≤ force_word x = omega (arith, least-cons (force_word x) (map force_word xs)) in
    let rest : no_fault ≤ least (map force_word xs) = omega (arith, least-cons (force_word x) (map force_word xs)) in
    All-cons (λ a. IsWithin (2 ^ 44) a.f) x xs
    (within x (All-head (λ a. a.id ≤ MAX_ID) x xs low) here)
    (in_range xs (All-tail (λ a. a.id ≤ MAX_ID) x xs low) rest)
