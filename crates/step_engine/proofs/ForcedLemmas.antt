-- Atoms that have the force of the first of a list: one row more, their places and their bounds.
use Rattle.std.proofs.Common.{◌≡◌, ◌+◌, ◌-◌, ◌*◌, ◌^◌, ◌<◌, ◌≤◌, ◌==◌, Bool, true, false, ℕ, ℤ, pos, ◌+ℤ◌, ◌-ℤ◌, neg_ℤ, unsigned_abs, Option, Some, None, Result, Ok, Err, IfOk, IfSome, List, [], ◌∷◌, ◌++◌, All, length, length-take-le, map, take, drop, get_or, refl, sym, ap, subst, ◌∙◌, append_assoc, arith}
use Rattle.std.proofs.lemmas.Int.{ints}
use Rattle.std.proofs.lemmas.List.{append-nil, drop_all, drop_at, drop_more, length-drop, length-map, map-append, take_all, take_at, take_more, take-append-drop, take_rest}
use Rattle.std.proofs.lemmas.List.Elements.{All-drop, All-map, All-weaker}
use Rattle.std.proofs.lemmas.Simd.{map-map}
use borrow.Rule.Slice.PartMut.{put_mid}
use Rattle.box_geo.specs.declared.atoms.Atom.{Atom}
use Rattle.box_geo.specs.declared.sim_box.Sides.{Sides}
use Rattle.box_geo.specs.declared.term.Term.{Term}
use Rattle.box_geo.specs.Sides.{x_of, y_of, z_of, HasEdges, near_image, IsOpposite}
use Rattle.pair_lj.specs.declared.close.Close.{Close}
use Rattle.pair_lj.specs.Table.{Table}
use Rattle.box_geo.specs.Terms.{IsModerate}
use Rattle.pair_lj.specs.PairTerm.{HasModerateForce}
use Rattle.pair_lj.specs.Pairs.{PairNumbers, numbers_at}
use Rattle.pair_lj.proofs.PairLemmas.{pair_term-bounded}
use Rattle.sums.specs.Totals.{total}
use Rattle.sums.proofs.Totals.{total-append, total-map}
use Rattle.serial_step.specs.Forces.{Field, field_of, term_apart, term_of, force_of, energy_of, virial_of, close_word, force_on, least, with_force, with_forces}
use Rattle.serial_step.specs.Pairs.{IsFair}
use Rattle.serial_step.proofs.ForceLemmas.{force_of-opposite, term_of-opposite, term_of-alone}
use Rattle.step_engine.specs.declared.rows.Row.{Row}
use Rattle.step_engine.specs.Ranges.{IsPlaced, IsWithin}
use Rattle.step_engine.specs.Rows.{after_row, first_row, forced, forced_up_to, no_force, pushed, pushed_by, row_of, sum_of}
use Rattle.step_engine.proofs.RowLemmas.{same_row, three, total_one}

-- a term does not depend on the forces of its atoms, so no sum of them does
force_on-forced : (field : Field) (s : Sides) (ps xs : List Atom) (own : Atom) (f : List ℤ) → force_on field s (map (forced field s ps) xs) (with_force own f) ≡ force_on field s xs own
unfolding force_on term_of
force_on-forced field s ps xs own f =
    three _ _ _ _ _ _
    (total-map (λ other. x_of (force_of (term_of field s own other))) (forced field s ps) xs)
    (total-map (λ other. y_of (force_of (term_of field s own other))) (forced field s ps) xs)
    (total-map (λ other. z_of (force_of (term_of field s own other))) (forced field s ps) xs)

pub row_of-forced : (field : Field) (s : Sides) (ps xs : List Atom) (own : Atom) (f : List ℤ) → row_of field s (with_force own f) (map (forced field s ps) xs) ≡ row_of field s own xs
unfolding row_of term_of
row_of-forced field s ps xs own f =
    same_row _ _ _ _ _ _ _ _
    (force_on-forced field s ps xs own f)
    (total-map (λ other. energy_of (term_of field s own other)) (forced field s ps) xs)
    (total-map (λ other. virial_of (term_of field s own other)) (forced field s ps) xs)
    (ap least (map-map (λ other. close_word own.id other.id (term_of field s own other)) (forced field s ps) xs))

-- an atom that is pushed by one more has the force of one more
pushed_is : (r : Result (Option Term) Close) (b : Atom) (x y z : ℤ) → pushed r (with_force b (x ∷ y ∷ z ∷ [])) ≡ with_force b ((x -ℤ x_of (force_of r)) ∷ (y -ℤ y_of (force_of r)) ∷ (z -ℤ z_of (force_of r)) ∷ [])
pushed_is (Ok (Some t)) b x y z = refl
pushed_is (Ok None) b x y z = ap (with_force b) (three _ _ _ _ _ _ (omega (arith, ints)) (omega (arith, ints)) (omega (arith, ints)))
pushed_is (Err close) b x y z = ap (with_force b) (three _ _ _ _ _ _ (omega (arith, ints)) (omega (arith, ints)) (omega (arith, ints)))

turned : (a b s t : ℤ) → b ≡ neg_ℤ a → t ≡ s +ℤ b → s -ℤ a ≡ t
turned a b s t e h = omega (arith, ints)

pushed-forced : (field : Field) (s : Sides) → IsFair field → HasEdges s → (ps : List Atom) (x : Atom) (f : List ℤ) (b : Atom) → pushed_by field s (with_force x f) (forced field s ps b) ≡ forced field s (ps ++ x ∷ []) b
unfolding force_on term_of
pushed-forced field s fair edges ps x f b =
    let h : IsOpposite (force_of (term_of field s x b)) (force_of (term_of field s b x)) = force_of-opposite (term_of field s x b) (term_of field s b x) (term_of-opposite field s x b fair edges) in
    pushed_is (term_of field s x b) b _ _ _
    ∙ ap (with_force b) (three _ _ _ _ _ _
    (turned (x_of (force_of (term_of field s x b))) _ _ _ h.0 (total_one (λ other. x_of (force_of (term_of field s b other))) ps x))
    (turned (y_of (force_of (term_of field s x b))) _ _ _ h.1 (total_one (λ other. y_of (force_of (term_of field s b other))) ps x))
    (turned (z_of (force_of (term_of field s x b))) _ _ _ h.2 (total_one (λ other. z_of (force_of (term_of field s b other))) ps x)))

map-same : (f g : Atom → Atom) → ((b : Atom) → f b ≡ g b) → (xs : List Atom) → map f xs ≡ map g xs
map-same f g same [] = refl
map-same f g same (x ∷ xs) = let h = same x in let t = map-same f g same xs in cc

-- the force of those before an atom and of those behind it is the force of all
both_sides : (f : Atom → ℤ) (ps xs : List Atom) (x : Atom) → f x ≡ pos 0 → total f ps +ℤ total f xs ≡ total f (ps ++ x ∷ xs)
both_sides f ps xs x alone = omega (arith, ints, total-append f ps (x ∷ xs))

force_on-both : (field : Field) (s : Sides) (ps xs : List Atom) (x : Atom) → sum_of (force_on field s ps x) (force_on field s xs x) ≡ force_on field s (ps ++ x ∷ xs) x
unfolding force_on
force_on-both field s ps xs x =
    let none = term_of-alone field s x x refl in
    three _ _ _ _ _ _
    (both_sides (λ other. x_of (force_of (term_of field s x other))) ps xs x (ap (λ (r : Result (Option Term) Close). x_of (force_of r)) none))
    (both_sides (λ other. y_of (force_of (term_of field s x other))) ps xs x (ap (λ (r : Result (Option Term) Close). y_of (force_of r)) none))
    (both_sides (λ other. z_of (force_of (term_of field s x other))) ps xs x (ap (λ (r : Result (Option Term) Close). z_of (force_of r)) none))

-- the row of the first of those that have the force of some others
cons_same : (a b : Atom) (xs ys : List Atom) → a ≡ b → xs ≡ ys → a ∷ xs ≡ b ∷ ys
cons_same a b xs ys e h = cc

pub after_row-forced : (field : Field) (s : Sides) → IsFair field → HasEdges s → (ps xs : List Atom) (x : Atom)
    → after_row field s (map (forced field s ps) (x ∷ xs)) ≡ forced field s (ps ++ x ∷ xs) x ∷ map (forced field s (ps ++ x ∷ [])) xs
after_row-forced field s fair edges ps xs x =
    let f : List ℤ = force_on field s ps x in
    cons_same _ _ _ _
    (ap (with_force x) (ap (sum_of f) (force_on-forced field s ps xs x f) ∙ force_on-both field s ps xs x))
    (map-map (pushed_by field s (with_force x f)) (forced field s ps) xs
    ∙ map-same (λ b. pushed_by field s (with_force x f) (forced field s ps b)) (forced field s (ps ++ x ∷ [])) (pushed-forced field s fair edges ps x f) xs)

-- the atoms after the rows of the first i, before and behind that place
abbrev pub no_atom : Atom
no_atom = record { id = 0; mol = 0; kind = 0; x = []; v = []; f = []; image = [] }

length-before : (field : Field) (s : Sides) (atoms : List Atom) (i : ℕ) → i ≤ length atoms → length (map (forced field s atoms) (take i atoms)) ≡ i
length-before field s atoms i low = length-map (take i atoms) (forced field s atoms) ∙ length-take-le i atoms low

before : (field : Field) (s : Sides) (atoms : List Atom) (i : ℕ) → i ≤ length atoms → take i (forced_up_to field s atoms i) ≡ map (forced field s atoms) (take i atoms)
unfolding forced_up_to
before field s atoms i low = take_at (map (forced field s atoms) (take i atoms)) (map (forced field s (take i atoms)) (drop i atoms)) i (length-before field s atoms i low)

behind : (field : Field) (s : Sides) (atoms : List Atom) (i : ℕ) → i ≤ length atoms → drop i (forced_up_to field s atoms i) ≡ map (forced field s (take i atoms)) (drop i atoms)
unfolding forced_up_to
behind field s atoms i low = drop_at (map (forced field s atoms) (take i atoms)) (map (forced field s (take i atoms)) (drop i atoms)) i (length-before field s atoms i low)

all_behind : (field : Field) (s : Sides) (atoms xs : List Atom) (i : ℕ) → i ≤ length atoms → xs ≡ forced_up_to field s atoms i → take (length xs - i) (drop i xs) ≡ map (forced field s (take i atoms)) (drop i atoms)
all_behind field s atoms xs i low is = take_rest xs i ∙ ap (drop i) is ∙ behind field s atoms i low

-- the row that comes next
pub next_row : (field : Field) (s : Sides) (atoms xs : List Atom) (i : ℕ) (d : Atom) (row : Row) → i < length atoms → xs ≡ forced_up_to field s atoms i
    → row ≡ first_row field s (take (length xs - i) (drop i xs)) → row ≡ row_of field s (get_or atoms i d) (drop (i + 1) atoms)
next_row field s atoms xs i d row lt is so =
    so
    ∙ ap (first_row field s) (all_behind field s atoms xs i (omega arith) is ∙ ap (map (forced field s (take i atoms))) (drop_more atoms i d lt))
    ∙ row_of-forced field s (take i atoms) (drop (i + 1) atoms) (get_or atoms i d) (force_on field s (take i atoms) (get_or atoms i d))

after_next : (field : Field) (s : Sides) → IsFair field → HasEdges s → (atoms xs ys : List Atom) (i : ℕ) → i < length atoms → xs ≡ forced_up_to field s atoms i
    → ys ≡ after_row field s (take (length xs - i) (drop i xs)) → ys ≡ forced field s atoms (get_or atoms i no_atom) ∷ map (forced field s (take (i + 1) atoms)) (drop (i + 1) atoms)
after_next field s fair edges atoms xs ys i lt is so =
    let ps : List Atom = take i atoms in
    let x : Atom = get_or atoms i no_atom in
    let rest : List Atom = drop (i + 1) atoms in
    let split : drop i atoms ≡ x ∷ rest = drop_more atoms i no_atom lt in
    let whole : ps ++ x ∷ rest ≡ atoms = ap (λ (l : List Atom). ps ++ l) (sym split) ∙ take-append-drop i atoms in
    let more : ps ++ x ∷ [] ≡ take (i + 1) atoms = sym (take_more atoms i no_atom lt) in
    so
    ∙ ap (after_row field s) (all_behind field s atoms xs i (omega arith) is ∙ ap (map (forced field s ps)) split)
    ∙ after_row-forced field s fair edges ps rest x
    ∙ cons_same _ _ _ _ (ap (λ (l : List Atom). forced field s l x) whole) (ap (λ (l : List Atom). map (forced field s l) rest) more)

-- one row more
pub forced_step : (field : Field) (s : Sides) → IsFair field → HasEdges s → (atoms xs ys : List Atom) (i : ℕ) → i < length atoms → xs ≡ forced_up_to field s atoms i
    → ys ≡ after_row field s (take (length xs - i) (drop i xs)) → put_mid i (length xs - i) xs ys ≡ forced_up_to field s atoms (i + 1)
unfolding forced_up_to
forced_step field s fair edges atoms xs ys i lt is so =
    let x : Atom = get_or atoms i no_atom in
    let rest : List Atom = map (forced field s (take (i + 1) atoms)) (drop (i + 1) atoms) in
    let none : drop (length xs - i) (drop i xs) ≡ [] = drop_all (length xs - i) (drop i xs) (omega (arith, length-drop i xs)) in
    let front : take i xs ≡ map (forced field s atoms) (take i atoms) = ap (take i) is ∙ before field s atoms i (omega arith) in
    ap (λ (l : List Atom). take i xs ++ (ys ++ l)) none
    ∙ ap (λ (l : List Atom). take i xs ++ l) (append-nil ys ∙ after_next field s fair edges atoms xs ys i lt is so)
    ∙ ap (λ (l : List Atom). l ++ (forced field s atoms x ∷ rest)) front
    ∙ sym (append_assoc (map (forced field s atoms) (take i atoms)) (forced field s atoms x ∷ []) rest)
    ∙ ap (λ (l : List Atom). l ++ rest) (sym (map-append (forced field s atoms) (take i atoms) (x ∷ [])) ∙ ap (map (forced field s atoms)) (sym (take_more atoms i no_atom lt)))

-- before the first row and after the last
pub none_forced : (field : Field) (s : Sides) (atoms xs : List Atom) → xs ≡ map (λ a. with_force a no_force) atoms → xs ≡ forced_up_to field s atoms 0
unfolding forced_up_to force_on
none_forced field s atoms xs is = is

pub all_forced : (field : Field) (s : Sides) (atoms xs : List Atom) (i : ℕ) → length atoms ≤ i → xs ≡ forced_up_to field s atoms i → xs ≡ with_forces field s atoms
unfolding forced_up_to with_forces
all_forced field s atoms xs i all is =
    is
    ∙ ap (λ (l : List Atom). map (forced field s atoms) (take i atoms) ++ map (forced field s (take i atoms)) l) (drop_all i atoms all)
    ∙ append-nil (map (forced field s atoms) (take i atoms))
    ∙ ap (map (forced field s atoms)) (take_all i atoms all)

-- the atoms stay in their places
placed_forced : (t : Table) (s : Sides) (f : Atom → List ℤ) (atoms : List Atom) → All (IsPlaced t s) atoms → All (IsPlaced t s) (map (λ a. with_force a (f a)) atoms)
placed_forced t s f atoms all =
    All-map (IsPlaced t s) (λ a. with_force a (f a)) atoms
    (All-weaker (IsPlaced t s) (λ a. IsPlaced t s (with_force a (f a))) (λ a h. record { inside = h.inside; kind = h.kind; id = h.id }) atoms all)

pub placed_with_forces : (t : Table) (field : Field) (s : Sides) (atoms xs : List Atom) → xs ≡ with_forces field s atoms → All (IsPlaced t s) atoms → All (IsPlaced t s) xs
unfolding with_forces
placed_with_forces t field s atoms xs is all = subst (All (IsPlaced t s)) (sym is) (placed_forced t s (force_on field s atoms) atoms all)

pub placed_behind : (t : Table) (field : Field) (s : Sides) (atoms xs : List Atom) (i : ℕ) → i ≤ length atoms → xs ≡ forced_up_to field s atoms i → All (IsPlaced t s) atoms → All (IsPlaced t s) (take (length xs - i) (drop i xs))
placed_behind t field s atoms xs i low is all =
    subst (All (IsPlaced t s)) (sym (all_behind field s atoms xs i low is))
    (placed_forced t s (force_on field s (take i atoms)) (drop i atoms) (All-drop (IsPlaced t s) i atoms all))

-- and their forces have a bound for each row
moderate_outcome : (r : Result (Option Term) Close) → IfOk r (λ o. IfSome o HasModerateForce) → IsModerate (force_of r)
moderate_outcome (Ok (Some t)) h = h
moderate_outcome (Ok None) h = (omega arith, omega arith, omega arith)
moderate_outcome (Err close) h = (omega arith, omega arith, omega arith)

moderate_apart : (b : Bool) (o : Option PairNumbers) (d : List ℤ) → IsModerate (force_of (term_apart b (2 ^ 24) o d))
moderate_apart true o d = (omega arith, omega arith, omega arith)
moderate_apart false None d = (omega arith, omega arith, omega arith)
moderate_apart false (Some k) d = moderate_outcome _ (pair_term-bounded k.epsilon k.sigma k.cutoff (2 ^ 24) (pos 0) d (omega arith))

moderate : (t : Table) (s : Sides) (i j : Atom) → IsModerate (force_of (term_of (field_of t.pairs) s i j))
unfolding term_of
moderate t s i j = moderate_apart (i.id == j.id) (numbers_at t.pairs i.kind j.kind) (near_image s i.x j.x)

total_within : (f : Atom → ℤ) → ((a : Atom) → unsigned_abs (f a) ≤ 2 ^ 42) → (xs : List Atom) → unsigned_abs (total f xs) ≤ 2 ^ 42 * length xs
total_within f low [] = omega arith
total_within f low (x ∷ xs) = omega (arith, ints, low x, total_within f low xs)

force_within : (t : Table) (s : Sides) (atoms : List Atom) (own : Atom) → IsWithin (2 ^ 42 * length atoms) (force_on (field_of t.pairs) s atoms own)
unfolding force_on
force_within t s atoms own = (
  total_within (λ other. x_of (force_of (term_of (field_of t.pairs) s own other))) (λ other. let h = moderate t s own other in h.0) atoms,
  total_within (λ other. y_of (force_of (term_of (field_of t.pairs) s own other))) (λ other. let h = moderate t s own other in h.1) atoms,
  total_within (λ other. z_of (force_of (term_of (field_of t.pairs) s own other))) (λ other. let h = moderate t s own other in h.2) atoms,
)

mild : (t : Table) (s : Sides) (atoms : List Atom) (own : Atom) → length atoms < 2 ^ 20 → IsWithin (2 ^ 62 - 1) (force_on (field_of t.pairs) s atoms own)
mild t s atoms own few = let h = force_within t s atoms own in (omega (arith, h.0), omega (arith, h.1), omega (arith, h.2))

pub mild_behind : (t : Table) (s : Sides) (atoms xs : List Atom) (i : ℕ) → i < length atoms → length atoms ≤ 2 ^ 20 → xs ≡ forced_up_to (field_of t.pairs) s atoms i → All (λ a. IsWithin (2 ^ 62 - 1) a.f) (take (length xs - i) (drop i xs))
mild_behind t s atoms xs i lt few is =
    let P : Atom → Type 0 = λ a. IsWithin (2 ^ 62 - 1) a.f in
    let short : length (take i atoms) < 2 ^ 20 = omega (arith, length-take-le i atoms (omega arith)) in
    subst (All P) (sym (all_behind (field_of t.pairs) s atoms xs i (omega arith) is))
    (All-map P (forced (field_of t.pairs) s (take i atoms)) (drop i atoms) (λ k d _. mild t s (take i atoms) (get_or (drop i atoms) k d) short))
