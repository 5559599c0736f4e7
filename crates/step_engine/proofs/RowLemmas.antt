-- A row of pairs: its term, its sums and its bounds.
use Rattle.std.proofs.Common.{◌≡◌, ◌+◌, ◌-◌, ◌^◌, ◌<◌, ◌≤◌, ◌==◌, Bool, false, ℕ, ℤ, pos, ◌+ℤ◌, ◌-ℤ◌, unsigned_abs, Option, Some, None, Result, Ok, Err, IsSomeAnd, List, [], ◌∷◌, ◌++◌, All, length, length-take-le, map, take, drop, get_or, set, w64, to_z, of_z, refl, sym, ap, subst, ◌∙◌, arith, min}
use Rattle.std.specs.Int.{w128}
use Rattle.std.proofs.lemmas.Int.{ints}
use Rattle.std.proofs.lemmas.Bool.Decides.{nat_tests}
use Rattle.std.proofs.lemmas.List.{map-append, length-map, take_more, get_or-append_right, get_or-drop, get_or_default}
use Rattle.std.proofs.lemmas.List.Edits.{map_over_more}
use Rattle.std.proofs.lemmas.List.Elements.{All-get_or}
use Rattle.box_geo.specs.declared.atoms.Atom.{Atom}
use Rattle.box_geo.specs.declared.sim_box.Sides.{Sides}
use Rattle.box_geo.specs.declared.term.Term.{Term}
use Rattle.box_geo.specs.Fault.{no_fault}
use Rattle.box_geo.specs.Sides.{x_of, y_of, z_of, near_image}
use Rattle.pair_lj.specs.declared.close.Close.{Close}
use Rattle.pair_lj.specs.declared.pair_settings.PairCoefficients.{PairCoefficients}
use Rattle.pair_lj.specs.Pairs.{PairNumbers, numbers_at, term_by}
use Rattle.serial_step.specs.Forces.{Field, field_of, term_with, term_apart, term_of, force_of, energy_of, virial_of, close_word, force_on, least}
use Rattle.sums.specs.Totals.{total}
use Rattle.sums.proofs.Totals.{total-append}
use Rattle.serial_step.proofs.LeastLemmas.{least-append, least-cons, least-le}
use Rattle.step_engine.specs.declared.rows.Row.{Row}
use Rattle.step_engine.specs.Ranges.{IsWithin}
use Rattle.step_engine.specs.Rows.{IsRowWithin, sum_of, difference_of, row_of, row_plus, row_with}

-- vectors
pub three : (x y z u v w : ℤ) → x ≡ u → y ≡ v → z ≡ w → x ∷ y ∷ z ∷ [] ≡ u ∷ v ∷ w ∷ []
three x y z u v w f g h = cc

abbrev read : ℤ → ℤ
read x = to_z w64 (of_z w64 x)

small_read : (x : ℤ) → unsigned_abs x < 2 ^ 62 → read x ≡ x
small_read x a = omega (arith, ints)

small_sum : (x y : ℤ) → unsigned_abs x < 2 ^ 62 → unsigned_abs y < 2 ^ 62 → read (read x +ℤ read y) ≡ x +ℤ y
small_sum x y a b = omega (arith, ints)

small_difference : (x y : ℤ) → unsigned_abs x < 2 ^ 62 → unsigned_abs y < 2 ^ 62 → read (read x -ℤ read y) ≡ x -ℤ y
small_difference x y a b = omega (arith, ints)

pub sum_is : (a b : List ℤ) → IsWithin (2 ^ 62 - 1) a → IsWithin (2 ^ 62 - 1) b → read (read (x_of a) +ℤ read (x_of b)) ∷ read (read (y_of a) +ℤ read (y_of b)) ∷ read (read (z_of a) +ℤ read (z_of b)) ∷ [] ≡ sum_of a b
sum_is a b h k =
    three _ _ _ _ _ _
    (small_sum (x_of a) (x_of b) (omega (arith, h.0)) (omega (arith, k.0)))
    (small_sum (y_of a) (y_of b) (omega (arith, h.1)) (omega (arith, k.1)))
    (small_sum (z_of a) (z_of b) (omega (arith, h.2)) (omega (arith, k.2)))

pub difference_is : (a b : List ℤ) → IsWithin (2 ^ 62 - 1) a → IsWithin (2 ^ 62 - 1) b → read (read (x_of a) -ℤ read (x_of b)) ∷ read (read (y_of a) -ℤ read (y_of b)) ∷ read (read (z_of a) -ℤ read (z_of b)) ∷ [] ≡ difference_of a b
difference_is a b h k =
    three _ _ _ _ _ _
    (small_difference (x_of a) (x_of b) (omega (arith, h.0)) (omega (arith, k.0)))
    (small_difference (y_of a) (y_of b) (omega (arith, h.1)) (omega (arith, k.1)))
    (small_difference (z_of a) (z_of b) (omega (arith, h.2)) (omega (arith, k.2)))

-- the term of a pair, by the numbers of its types
by_numbers : (o : Option PairNumbers) (d : List ℤ) (r : Result (Option Term) Close) → IsSomeAnd o (λ k. r ≡ term_by k (2 ^ 24) d) → r ≡ term_with (2 ^ 24) o d
by_numbers None d r h = absurd h
by_numbers (Some k) d r h = h

apart : (b : Bool) (w : ℕ) (o : Option PairNumbers) (d : List ℤ) → b ≡ false → term_apart b w o d ≡ term_with w o d
apart b w o d e = rw e refl

differ : (m n : ℕ) → (m ≡ n → ⊥) → (m == n) ≡ false
differ m n h = grind (arith, nat_tests)

pub term_is : (pairs : List PairCoefficients) (s : Sides) (i j : Atom) (r : Result (Option Term) Close) → (i.id ≡ j.id → ⊥)
    → IsSomeAnd (numbers_at pairs i.kind j.kind) (λ k. r ≡ term_by k (2 ^ 24) (near_image s i.x j.x))
    → r ≡ term_of (field_of pairs) s i j
unfolding term_of
term_is pairs s i j r other h =
    by_numbers (numbers_at pairs i.kind j.kind) (near_image s i.x j.x) r h
    ∙ sym (apart (i.id == j.id) (2 ^ 24) (numbers_at pairs i.kind j.kind) (near_image s i.x j.x) (differ i.id j.id other))

-- the sums with a term more
abbrev pub read_wide : ℤ → ℤ
read_wide x = to_z w128 (of_z w128 x)

pub wide_sum : (x y : ℤ) → unsigned_abs x < 2 ^ 126 → unsigned_abs y < 2 ^ 126 → read_wide (read_wide x +ℤ read_wide y) ≡ x +ℤ y
wide_sum x y a b = omega (arith, ints)

pub same_row : (f g : List ℤ) (e d v w : ℤ) (k l : ℕ) → f ≡ g → e ≡ d → v ≡ w → k ≡ l
    → ◌≡◌ {A = Row} record { f = f; energy = e; virial = v; fault = k } record { f = g; energy = d; virial = w; fault = l }
same_row f g e d v w k l p q r t = cc

pub row_plus_is : (row : Row) (t : Term) (f : List ℤ) (e : ℤ) → IsRowWithin (2 ^ 20 - 1) row → unsigned_abs t.energy < 2 ^ 60 → unsigned_abs t.virial < 2 ^ 72 → f ≡ sum_of row.f t.f → e ≡ read t.energy
    → ◌≡◌ {A = Row} record { f = f; energy = read_wide (read_wide row.energy +ℤ read_wide e); virial = read_wide (read_wide row.virial +ℤ read_wide t.virial); fault = row.fault } (row_plus t row)
row_plus_is row t f e room low small force energy =
    same_row f (sum_of row.f t.f) _ _ _ _ row.fault row.fault force
    (ap (λ (z : ℤ). read_wide (read_wide row.energy +ℤ read_wide z)) (energy ∙ small_read t.energy (omega arith)) ∙ wide_sum row.energy t.energy (omega (arith, room.energy)) (omega arith))
    (wide_sum row.virial t.virial (omega (arith, room.virial)) (omega arith))
    refl

-- one pair more
row_with_is : (a b : ℕ) (r : Result (Option Term) Close) (x y z e v : ℤ) (w : ℕ) → w ≤ no_fault
    → row_with a b r record { f = x ∷ y ∷ z ∷ []; energy = e; virial = v; fault = w }
    ≡ record { f = (x +ℤ x_of (force_of r)) ∷ (y +ℤ y_of (force_of r)) ∷ (z +ℤ z_of (force_of r)) ∷ []; energy = e +ℤ energy_of r; virial = v +ℤ virial_of r; fault = min w (close_word a b r) }
row_with_is a b (Ok (Some t)) x y z e v w low = same_row _ _ _ _ _ _ _ _ refl refl refl (omega arith)
row_with_is a b (Ok None) x y z e v w low = same_row _ _ _ _ _ _ _ _ (three _ _ _ _ _ _ (omega (arith, ints)) (omega (arith, ints)) (omega (arith, ints))) (omega (arith, ints)) (omega (arith, ints)) (omega arith)
row_with_is a b (Err close) x y z e v w low = same_row _ _ _ _ _ _ _ _ (three _ _ _ _ _ _ (omega (arith, ints)) (omega (arith, ints)) (omega (arith, ints))) (omega (arith, ints)) (omega (arith, ints)) refl

pub total_one : (f : Atom → ℤ) (xs : List Atom) (y : Atom) → total f (xs ++ y ∷ []) ≡ total f xs +ℤ f y
total_one f xs y = omega (arith, ints, total-append f xs (y ∷ []))

least_one : (word : Atom → ℕ) (xs : List Atom) (y : Atom) → least (map word (xs ++ y ∷ [])) ≡ min (least (map word xs)) (word y)
least_one word xs y =
    ap least (map-append word xs (y ∷ []))
    ∙ omega (arith, least-append (map word xs) (word y ∷ []), least-cons (word y) [], least-le (map word xs))

row_of-append : (field : Field) (s : Sides) (own : Atom) (xs : List Atom) (y : Atom) → row_of field s own (xs ++ y ∷ []) ≡ row_with own.id y.id (term_of field s own y) (row_of field s own xs)
unfolding row_of force_on
row_of-append field s own xs y =
    let term : Atom → Result (Option Term) Close = λ other. term_of field s own other in
    let x = total_one (λ other. x_of (force_of (term other))) xs y in
    let y' = total_one (λ other. y_of (force_of (term other))) xs y in
    let z = total_one (λ other. z_of (force_of (term other))) xs y in
    let e = total_one (λ other. energy_of (term other)) xs y in
    let v = total_one (λ other. virial_of (term other)) xs y in
    let w = least_one (λ other. close_word own.id other.id (term other)) xs y in
    same_row _ _ _ _ _ _ _ _ (three _ _ _ _ _ _ x y' z) e v w
    ∙ sym (row_with_is own.id y.id (term y) _ _ _ _ _ _ (least-le (map (λ other. close_word own.id other.id (term other)) xs)))

-- a list whose first elements were mapped is as it was at the next
pub untouched : {X : Type 0} (f : X → X) (xs ys : List X) (i : ℕ) (d : X) → i < length xs → ys ≡ map f (take i xs) ++ drop i xs → get_or ys i d ≡ get_or xs i d
untouched {X} f xs ys i d lt is =
    ap (λ (l : List X). get_or l i d) is
    ∙ get_or-append_right (map f (take i xs)) (drop i xs) i i d (length-map (take i xs) f ∙ length-take-le i xs (omega arith)) (omega arith)
    ∙ get_or-drop i xs (i - i) d
    ∙ ap (λ (n : ℕ). get_or xs n d) (omega arith)

pub at_untouched : {X : Type 0} (P : X → Type 0) (f : X → X) (xs ys : List X) (i : ℕ) (d : X) → i < length xs → ys ≡ map f (take i xs) ++ drop i xs → All P xs → P (get_or ys i d)
at_untouched P f xs ys i d lt is all = subst P (sym (untouched f xs ys i d lt is)) (All-get_or P xs i d lt all)

-- the step of a row
pub row_step : (field : Field) (s : Sides) (own : Atom) (xs ys : List Atom) (i : ℕ) (d : Atom) (row next : Row) → i < length xs
    → get_or ys i d ≡ get_or xs i d → row ≡ row_of field s own (take i xs) → next ≡ row_with own.id (get_or ys i d).id (term_of field s own (get_or ys i d)) row
    → next ≡ row_of field s own (take (i + 1) xs)
row_step field s own xs ys i d row next lt same so here =
    let on : Atom → Row → Row = λ y r. row_with own.id y.id (term_of field s own y) r in
    here ∙ ap (λ y. on y row) same ∙ ap (on (get_or xs i d)) so
    ∙ sym (row_of-append field s own (take i xs) (get_or xs i d))
    ∙ ap (row_of field s own) (sym (take_more xs i d lt))

pub row_none : (field : Field) (s : Sides) (own : Atom) → ◌≡◌ {A = Row} record { f = pos 0 ∷ pos 0 ∷ pos 0 ∷ []; energy = pos 0; virial = pos 0; fault = no_fault } (row_of field s own [])
unfolding row_of force_on
row_none field s own = refl

pub row_none-within : IsRowWithin 0 record { f = pos 0 ∷ pos 0 ∷ pos 0 ∷ []; energy = pos 0; virial = pos 0; fault = no_fault }
row_none-within = record { f = (omega arith, omega arith, omega arith); energy = omega arith; virial = omega arith }

-- one element more is mapped
pub mapped_more : {X : Type 0} (f : X → X) (xs ys : List X) (i : ℕ) (d y : X) → i < length xs → i < length ys → ys ≡ map f (take i xs) ++ drop i xs → y ≡ f (get_or ys i d) → set ys i y ≡ map f (take (i + 1) xs) ++ drop (i + 1) xs
mapped_more f xs ys i d y lt inside is so = ap (set ys i) so ∙ map_over_more f xs ys i (get_or ys i d) lt is (get_or_default ys i d (get_or ys i d) inside)
