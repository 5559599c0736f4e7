-- The rows of all atoms: what they leave in the forces and in the sums.
use Rattle.std.proofs.Common.{◌≡◌, ◌+◌, ◌-◌, ◌^◌, ◌<◌, ℕ, suc, ℤ, pos, ◌+ℤ◌, List, [], ◌∷◌, ◌++◌, length, length-append, map, take, drop, get_or, set, refl, sym, ap, subst, ◌∙◌, arith, min}
use Rattle.std.proofs.lemmas.Int.{ints}
use Rattle.std.proofs.lemmas.List.{append-nil, drop_all, drop_more, length-drop, length-map, map-append, take_all, take_rest}
use Rattle.std.proofs.lemmas.Simd.{map-map}
use borrow.Rule.Slice.PartMut.{put_mid}
use Rattle.box_geo.specs.declared.atoms.Atom.{Atom}
use Rattle.box_geo.specs.declared.sim_box.Sides.{Sides}
use Rattle.box_geo.specs.Fault.{no_fault}
use Rattle.sums.specs.Totals.{half, total}
use Rattle.sums.proofs.Totals.{total-append, total-map}
use Rattle.serial_step.specs.Forces.{Field, force_on, least, pair_energy, pair_virial, terms_fault, with_force}
use Rattle.serial_step.specs.Pairs.{energy_between, virial_between, word_between}
use Rattle.serial_step.proofs.LeastLemmas.{least-append, least-le}
use Rattle.step_engine.specs.declared.pairs.Sums.{Sums}
use Rattle.step_engine.specs.declared.rows.Row.{Row}
use Rattle.step_engine.specs.Rows.{AreSumsUpTo, AreSumsWithin, IsRowWithin, after_row, first_row, forced_up_to, pushed_by, row_of, sum_of, sums_plus}
use Rattle.step_engine.proofs.ForcedLemmas.{next_row, no_atom}
use Rattle.step_engine.proofs.RowLemmas.{read_wide, wide_sum}

-- the sums with a row more
same_sums : (e d v w : ℤ) (k l : ℕ) → e ≡ d → v ≡ w → k ≡ l → ◌≡◌ {A = Sums} record { energy = e; virial = v; fault = k } record { energy = d; virial = w; fault = l }
same_sums e d v w k l p q r = cc

pub sums_plus_is : (row : Row) (sums : Sums) (w : ℕ) → IsRowWithin (2 ^ 20) row → AreSumsWithin (2 ^ 20) sums → w ≡ min sums.fault row.fault
    → ◌≡◌ {A = Sums} record { energy = read_wide (read_wide sums.energy +ℤ read_wide row.energy); virial = read_wide (read_wide sums.virial +ℤ read_wide row.virial); fault = w } (sums_plus row sums)
sums_plus_is row sums w low room is =
    same_sums _ _ _ _ _ _
    (wide_sum sums.energy row.energy (omega (arith, room.energy)) (omega (arith, low.energy)))
    (wide_sum sums.virial row.virial (omega (arith, room.virial)) (omega (arith, low.virial)))
    is

-- the atoms after the row of the first
same_force : (a : Atom) (xs ys : List Atom) (f g : List ℤ) → f ≡ g → xs ≡ ys → with_force a f ∷ xs ≡ with_force a g ∷ ys
same_force a xs ys f g e h = cc

row_force : (field : Field) (s : Sides) (own : Atom) (xs : List Atom) → (row_of field s own xs).f ≡ force_on field s xs own
unfolding row_of
row_force field s own xs = refl

pub first_settled : (field : Field) (s : Sides) (xs ys : List Atom) (d : Atom) (row : Row) (f : List ℤ) → 0 < length xs
    → ys ≡ map (pushed_by field s (get_or xs 0 d)) (take (length xs - 1) (drop 1 xs))
    → row ≡ row_of field s (get_or xs 0 d) (take (length xs - 1) (drop 1 xs))
    → f ≡ sum_of (get_or xs 0 d).f row.f
    → set (put_mid 1 (length xs - 1) xs ys) 0 (with_force (get_or (put_mid 1 (length xs - 1) xs ys) 0 d) f) ≡ after_row field s xs
first_settled field s [] ys d row f some e h k = absurd (omega arith)
first_settled field s (x ∷ xs) ys d row f some e h k =
    let all : take (suc (length xs) - 1) xs ≡ xs = take_all (suc (length xs) - 1) xs (omega arith) in
    let none : drop (suc (length xs) - 1) xs ≡ [] = drop_all (suc (length xs) - 1) xs (omega arith) in
    let on : row.f ≡ force_on field s xs x = ap (λ (r : Row). r.f) (h ∙ ap (row_of field s x) all) ∙ row_force field s x xs in
    same_force x _ _ f (sum_of x.f (force_on field s xs x))
    (k ∙ ap (sum_of x.f) on)
    (ap (λ (l : List Atom). ys ++ l) none ∙ append-nil ys ∙ e ∙ ap (map (pushed_by field s x)) all)

-- the sums over the pairs behind a place, one row on
half_total : (f : Atom × Atom → ℤ) (x : Atom) (xs : List Atom) → total f (half (x ∷ xs)) ≡ total (λ y. f (x, y)) xs +ℤ total f (half xs)
half_total f x xs = omega (arith, ints, total-append f (map (λ y. (x, y)) xs) (half xs), total-map f (λ y. (x, y)) xs)

half_least : (f : Atom × Atom → ℕ) (x : Atom) (xs : List Atom) → least (map f (half (x ∷ xs))) ≡ min (least (map (λ y. f (x, y)) xs)) (least (map f (half xs)))
half_least f x xs =
    ap least (map-append f (map (λ y. (x, y)) xs) (half xs) ∙ ap (λ (l : List ℕ). l ++ map f (half xs)) (map-map f (λ y. (x, y)) xs))
    ∙ least-append (map (λ y. f (x, y)) xs) (map f (half xs))

half_length : (x : Atom) (xs : List Atom) → length (half (x ∷ xs)) ≡ length xs + length (half xs)
half_length x xs =
    let pair : Atom → Atom × Atom = λ y. (x, y) in
    omega (arith, length-append (map pair xs) (half xs), length-map xs pair)

moved : (a b c d e : ℤ) → a +ℤ b ≡ e → b ≡ c +ℤ d → (a +ℤ c) +ℤ d ≡ e
moved a b c d e h k = omega (arith, ints)

moved_least : (a b c d e : ℕ) → min a b ≡ e → b ≡ min c d → min (min a c) d ≡ e
moved_least a b c d e h k = omega arith

sums_more : (field : Field) (s : Sides) (atoms : List Atom) (i : ℕ) (x : Atom) (sums : Sums) → drop i atoms ≡ x ∷ drop (i + 1) atoms → AreSumsUpTo field s atoms i sums
    → AreSumsUpTo field s atoms (i + 1) (sums_plus (row_of field s x (drop (i + 1) atoms)) sums)
unfolding row_of
sums_more field s atoms i x sums split h =
    let rest : List Atom = drop (i + 1) atoms in
    record {
      energy = moved sums.energy _ _ _ _ h.energy (ap (λ (l : List Atom). total (energy_between field s) (half l)) split ∙ half_total (energy_between field s) x rest);
      virial = moved sums.virial _ _ _ _ h.virial (ap (λ (l : List Atom). total (virial_between field s) (half l)) split ∙ half_total (virial_between field s) x rest);
      fault = moved_least sums.fault _ _ _ _ h.fault (ap (λ (l : List Atom). least (map (word_between field s) (half l))) split ∙ half_least (word_between field s) x rest);
    }

pub sums_step : (field : Field) (s : Sides) (atoms xs : List Atom) (i : ℕ) (row : Row) (sums next : Sums) → i < length atoms → xs ≡ forced_up_to field s atoms i
    → row ≡ first_row field s (take (length xs - i) (drop i xs)) → next ≡ sums_plus row sums → AreSumsUpTo field s atoms i sums → AreSumsUpTo field s atoms (i + 1) next
sums_step field s atoms xs i row sums next lt is so plus h =
    let x : Atom = get_or atoms i no_atom in
    let same : next ≡ sums_plus (row_of field s x (drop (i + 1) atoms)) sums = plus ∙ ap (λ (r : Row). sums_plus r sums) (next_row field s atoms xs i no_atom row lt is so) in
    subst (AreSumsUpTo field s atoms (i + 1)) (sym same) (sums_more field s atoms i x sums (drop_more atoms i no_atom lt) h)

pub steps_step : (atoms xs : List Atom) (i a b n : ℕ) → i < length atoms → length xs ≡ length atoms → a + length (half (drop i atoms)) ≡ n → b ≡ a + (length (take (length xs - i) (drop i xs)) - 1) → b + length (half (drop (i + 1) atoms)) ≡ n
steps_step atoms xs i a b n lt each so more =
    omega (
      arith,
      ap (λ (l : List Atom). length (half l)) (drop_more atoms i no_atom lt),
      half_length (get_or atoms i no_atom) (drop (i + 1) atoms),
      length-drop (i + 1) atoms,
      ap (λ (l : List Atom). length l) (take_rest xs i),
      length-drop i xs,
    )

-- before the first row
pub sums_none : (field : Field) (s : Sides) (atoms : List Atom) → AreSumsUpTo field s atoms 0 record { energy = pos 0; virial = pos 0; fault = no_fault }
unfolding pair_energy pair_virial terms_fault
sums_none field s atoms = record {
  energy = omega (arith, ints);
  virial = omega (arith, ints);
  fault = omega (arith, least-le (map (word_between field s) (half atoms)));
}

pub sums_none-within : AreSumsWithin 0 record { energy = pos 0; virial = pos 0; fault = no_fault }
sums_none-within = record { energy = omega arith; virial = omega arith; fault = omega arith }
