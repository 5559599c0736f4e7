-- Adds to the forces, one by one, for one component; and the sums of a row with one pair more.
use Rattle.std.proofs.Common.{◌≡◌, ◌+◌, ◌<◌, ◌≤◌, ◌==◌, Bool, true, false, ℕ, ℤ, pos, ◌+ℤ◌, ◌-ℤ◌, neg_ℤ, min, Option, Some, None, Result, Ok, Err, List, [], ◌∷◌, ◌++◌, length, map, take, get_or, set, w64, refl, sym, ap, subst, ◌∙◌, arith}
use Rattle.std.proofs.lemmas.Int.{SFits-int_wrap, int_wrap_fits, int_wrap-add_same, ints}
use Rattle.std.proofs.lemmas.Bool.Decides.{nat_tests}
use Rattle.std.proofs.lemmas.List.{get_or_default, get_or-set_other, get_or-set_same, length-set, map-append, take_all, take_more}
use Rattle.box_geo.specs.Sides.{x_of, y_of, z_of}
use Rattle.box_geo.specs.declared.atoms.Atom.{Atom}
use Rattle.box_geo.specs.declared.sim_box.Sides.{Sides}
use Rattle.box_geo.specs.declared.term.Term.{Term}
use Rattle.pair_lj.specs.declared.close.Close.{Close}
use Rattle.pair_forces.specs.declared.row.Row.{Row}
use Rattle.pair_forces.specs.Adds.{AreTaken, HasMore, in_word, taken_at}
use Rattle.pair_forces.specs.Rows.{IsRowOf, IsRowWithin, no_row, pushed, row_with}
use Rattle.serial_step.specs.Forces.{Field, close_word, energy_of, force_of, least, term_of, virial_of}
use Rattle.serial_step.proofs.LeastLemmas.{least-append, least-cons, least-le}
use Rattle.sums.specs.Totals.{into, total}
use Rattle.sums.proofs.Totals.{total-append, total_more}

pub again : (z : ℤ) → in_word (in_word z) ≡ in_word z
again z = int_wrap_fits w64 (in_word z) (SFits-int_wrap w64 z)

pub HasMore-same : (c : List ℤ → ℤ) (old new : List (List ℤ)) (b b' : ℕ → ℤ) → ((k : ℕ) → b k ≡ b' k) → HasMore c old new b → HasMore c old new b'
HasMore-same c old new b b' same h = λ k v lt. h k v lt ∙ ap (λ (z : ℤ). in_word (c (get_or old k v) +ℤ z)) (same k)

pub HasMore-none : (c : List ℤ → ℤ) (old : List (List ℤ)) (b : ℕ → ℤ) → ((k : ℕ) → b k ≡ pos 0) → HasMore c old old b
HasMore-none c old b none = λ k v lt. ap in_word (let e : c (get_or old k v) ≡ c (get_or old k v) +ℤ pos 0 = omega (arith, ints) in e ∙ ap (λ (z : ℤ). c (get_or old k v) +ℤ z) (sym (none k)))

-- one add at a place
same_place : (q k : ℕ) → (q == k) ≡ true → k ≡ q
same_place q k t = grind (arith, nat_tests)

other_place : (q k : ℕ) → (q == k) ≡ false → k ≡ q → ⊥
other_place q k t e = grind (arith, nat_tests)

pub HasMore-step : (c : List ℤ → ℤ) (old now : List (List ℤ)) (q : ℕ) (w f : List ℤ) (b : ℕ → ℤ) (g : ℤ) → length now ≡ length old → q < length now → HasMore c old now b
    → in_word (c f) ≡ in_word (c (get_or now q w) +ℤ g) → HasMore c old (set now q f) (λ k. b k +ℤ into k (q, g))
HasMore-step c old now q w f b g long lt h here = λ k v inside. by_test k v inside (q == k) refl
  where
    by_test : (k : ℕ) (v : List ℤ) → k < length old → (t : Bool) → (q == k) ≡ t → in_word (c (get_or (set now q f) k v)) ≡ in_word (c (get_or old k v) +ℤ (b k +ℤ into k (q, g)))
    by_test k v inside true e =
        let same : k ≡ q = same_place q k e in
        let at : get_or (set now q f) k v ≡ f = ap (λ (n : ℕ). get_or (set now q f) n v) same ∙ get_or-set_same now q f v lt in
        let found : get_or now q w ≡ get_or now k v = get_or_default now q w v lt ∙ ap (λ (n : ℕ). get_or now n v) (sym same) in
        let adds : into k (q, g) ≡ g = rw e refl in
        ap (λ (l : List ℤ). in_word (c l)) at ∙ here ∙ ap (λ (l : List ℤ). in_word (c l +ℤ g)) found
        ∙ int_wrap-add_same w64 (c (get_or now k v)) (c (get_or old k v) +ℤ b k) g (h k v inside)
        ∙ ap in_word (let e2 : (c (get_or old k v) +ℤ b k) +ℤ g ≡ c (get_or old k v) +ℤ (b k +ℤ g) = omega (arith, ints) in e2 ∙ ap (λ (z : ℤ). c (get_or old k v) +ℤ (b k +ℤ z)) (sym adds))
    by_test k v inside false e =
        let at : get_or (set now q f) k v ≡ get_or now k v = get_or-set_other now q k f v (other_place q k e) in
        let adds : into k (q, g) ≡ pos 0 = rw e refl in
        ap (λ (l : List ℤ). in_word (c l)) at ∙ h k v inside
        ∙ ap in_word (let e2 : c (get_or old k v) +ℤ b k ≡ c (get_or old k v) +ℤ (b k +ℤ pos 0) = omega (arith, ints) in e2 ∙ ap (λ (z : ℤ). c (get_or old k v) +ℤ (b k +ℤ z)) (sym adds))

-- what a term takes from the force on the second atom
less : (z : ℤ) → z ≡ z +ℤ neg_ℤ (pos 0)
less z = omega (arith, ints)

difference : (a b : ℤ) → in_word (in_word (a -ℤ b)) ≡ in_word (a +ℤ neg_ℤ b)
difference a b = again (a -ℤ b) ∙ ap in_word (let e : a -ℤ b ≡ a +ℤ neg_ℤ b = omega (arith, ints) in e)

pub pushed_x : (r : Result (Option Term) Close) (f : List ℤ) → in_word (x_of (pushed r f)) ≡ in_word (x_of f +ℤ neg_ℤ (x_of (force_of r)))
pushed_x (Ok (Some t)) f = difference (x_of f) (x_of t.f)
pushed_x (Ok None) f = ap in_word (less (x_of f))
pushed_x (Err close) f = ap in_word (less (x_of f))

pub pushed_y : (r : Result (Option Term) Close) (f : List ℤ) → in_word (y_of (pushed r f)) ≡ in_word (y_of f +ℤ neg_ℤ (y_of (force_of r)))
pushed_y (Ok (Some t)) f = difference (y_of f) (y_of t.f)
pushed_y (Ok None) f = ap in_word (less (y_of f))
pushed_y (Err close) f = ap in_word (less (y_of f))

pub pushed_z : (r : Result (Option Term) Close) (f : List ℤ) → in_word (z_of (pushed r f)) ≡ in_word (z_of f +ℤ neg_ℤ (z_of (force_of r)))
pushed_z (Ok (Some t)) f = difference (z_of f) (z_of t.f)
pushed_z (Ok None) f = ap in_word (less (z_of f))
pushed_z (Err close) f = ap in_word (less (z_of f))

-- one pair more of a row
pub taken_more : (field : Field) (s : Sides) (atoms : List Atom) (d own e : Atom) (c : List ℤ → ℤ) (others : List ℕ) (i q : ℕ) (old now : List (List ℤ)) (w : List ℤ) (f : List ℤ)
    → i < length others → q ≡ get_or others i 0 → q < length atoms → length now ≡ length old → q < length now
    → HasMore c old now (taken_at field s atoms d own c (take i others))
    → in_word (c f) ≡ in_word (c (get_or now q w) +ℤ neg_ℤ (c (force_of (term_of field s own (get_or atoms q e)))))
    → HasMore c old (set now q f) (taken_at field s atoms d own c (take (i + 1) others))
unfolding taken_at
taken_more field s atoms d own e c others i q old now w f lt is within long inside h here =
    let g : Atom → ℤ = λ a. neg_ℤ (c (force_of (term_of field s own a))) in
    let same : get_or atoms q e ≡ get_or atoms q d = get_or_default atoms q e d within in
    HasMore-same c old (set now q f) (λ k. total (λ p. into k (p, g (get_or atoms p d))) (take i others) +ℤ into k (q, g (get_or atoms q d))) _
    (λ k. ap (λ (p : ℕ). total (λ n. into k (n, g (get_or atoms n d))) (take i others) +ℤ into k (p, g (get_or atoms p d))) is
    ∙ sym (total_more (λ p. into k (p, g (get_or atoms p d))) others i 0 lt))
    (HasMore-step c old now q w f _ (g (get_or atoms q d)) long inside h (here ∙ ap (λ (a : Atom). in_word (c (get_or now q w) +ℤ g a)) same))

pub taken_none : (field : Field) (s : Sides) (atoms : List Atom) (d own : Atom) (c : List ℤ → ℤ) (old : List (List ℤ)) → HasMore c old old (taken_at field s atoms d own c [])
unfolding taken_at
taken_none field s atoms d own c old = HasMore-none c old _ (λ k. refl)

-- the sums of a row
total_one : (f : Atom → ℤ) (xs : List Atom) (y : Atom) → total f (xs ++ y ∷ []) ≡ total f xs +ℤ f y
total_one f xs y = omega (arith, ints, total-append f xs (y ∷ []))

least_one : (word : Atom → ℕ) (xs : List Atom) (y : Atom) → least (map word (xs ++ y ∷ [])) ≡ min (least (map word xs)) (word y)
least_one word xs y =
    ap least (map-append word xs (y ∷ []))
    ∙ omega (arith, least-append (map word xs) (word y ∷ []), least-cons (word y) [], least-le (map word xs))

force_more : (a b t u : ℤ) → in_word a ≡ in_word b → t ≡ b +ℤ u → in_word (in_word (a +ℤ u)) ≡ in_word t
force_more a b t u h e = again (a +ℤ u) ∙ int_wrap-add_same w64 a b u h ∙ ap in_word (sym e)

force_kept : (a b t : ℤ) → in_word a ≡ in_word b → t ≡ b +ℤ pos 0 → in_word a ≡ in_word t
force_kept a b t h e = h ∙ ap in_word (let e2 : b ≡ b +ℤ pos 0 = omega (arith, ints) in e2 ∙ sym e)

row_by_term : (field : Field) (s : Sides) (own : Atom) (xs : List Atom) (y : Atom) (r : Result (Option Term) Close) (row next : Row) → term_of field s own y ≡ r → next ≡ row_with own.id y.id r row
    → IsRowOf field s own xs row → IsRowOf field s own (xs ++ y ∷ []) next
row_by_term field s own xs y (Ok (Some t)) row next is so h =
    let on : (c : Result (Option Term) Close → ℤ) → total (λ other. c (term_of field s own other)) (xs ++ y ∷ []) ≡ total (λ other. c (term_of field s own other)) xs +ℤ c (Ok (Some t)) =
    λ c. total_one (λ other. c (term_of field s own other)) xs y ∙ ap (λ (q : Result (Option Term) Close). total (λ other. c (term_of field s own other)) xs +ℤ c q) is in
    let low = least_one (λ other. close_word own.id other.id (term_of field s own other)) xs y ∙ ap (λ (q : Result (Option Term) Close). min (least (map (λ other. close_word own.id other.id (term_of field s own other)) xs)) (close_word own.id y.id q)) is in
    rw so record {
      x = force_more _ _ _ _ h.x (on (λ q. x_of (force_of q)));
      y = force_more _ _ _ _ h.y (on (λ q. y_of (force_of q)));
      z = force_more _ _ _ _ h.z (on (λ q. z_of (force_of q)));
      energy = ap (λ (z : ℤ). z +ℤ t.energy) h.energy ∙ sym (on energy_of);
      virial = ap (λ (z : ℤ). z +ℤ t.virial) h.virial ∙ sym (on virial_of);
      fault = h.fault ∙ omega (arith, low, least-le (map (λ other. close_word own.id other.id (term_of field s own other)) xs));
    }
row_by_term field s own xs y (Ok None) row next is so h =
    let on : (c : Result (Option Term) Close → ℤ) → total (λ other. c (term_of field s own other)) (xs ++ y ∷ []) ≡ total (λ other. c (term_of field s own other)) xs +ℤ c (Ok None) =
    λ c. total_one (λ other. c (term_of field s own other)) xs y ∙ ap (λ (q : Result (Option Term) Close). total (λ other. c (term_of field s own other)) xs +ℤ c q) is in
    let low = least_one (λ other. close_word own.id other.id (term_of field s own other)) xs y ∙ ap (λ (q : Result (Option Term) Close). min (least (map (λ other. close_word own.id other.id (term_of field s own other)) xs)) (close_word own.id y.id q)) is in
    rw so record {
      x = force_kept _ _ _ h.x (on (λ q. x_of (force_of q)));
      y = force_kept _ _ _ h.y (on (λ q. y_of (force_of q)));
      z = force_kept _ _ _ h.z (on (λ q. z_of (force_of q)));
      energy = h.energy ∙ omega (arith, ints, on energy_of);
      virial = h.virial ∙ omega (arith, ints, on virial_of);
      fault = h.fault ∙ omega (arith, low, least-le (map (λ other. close_word own.id other.id (term_of field s own other)) xs));
    }
row_by_term field s own xs y (Err close) row next is so h =
    let on : (c : Result (Option Term) Close → ℤ) → total (λ other. c (term_of field s own other)) (xs ++ y ∷ []) ≡ total (λ other. c (term_of field s own other)) xs +ℤ c (Err close) =
    λ c. total_one (λ other. c (term_of field s own other)) xs y ∙ ap (λ (q : Result (Option Term) Close). total (λ other. c (term_of field s own other)) xs +ℤ c q) is in
    let low = least_one (λ other. close_word own.id other.id (term_of field s own other)) xs y ∙ ap (λ (q : Result (Option Term) Close). min (least (map (λ other. close_word own.id other.id (term_of field s own other)) xs)) (close_word own.id y.id q)) is in
    rw so record {
      x = force_kept _ _ _ h.x (on (λ q. x_of (force_of q)));
      y = force_kept _ _ _ h.y (on (λ q. y_of (force_of q)));
      z = force_kept _ _ _ h.z (on (λ q. z_of (force_of q)));
      energy = h.energy ∙ omega (arith, ints, on energy_of);
      virial = h.virial ∙ omega (arith, ints, on virial_of);
      fault = ap (λ (n : ℕ). min n (close_word own.id y.id (Err close))) h.fault ∙ sym low;
    }

pub row_more : (field : Field) (s : Sides) (atoms : List Atom) (own d e : Atom) (others : List ℕ) (i q : ℕ) (row next : Row) → i < length others → q ≡ get_or others i 0 → q < length atoms
    → next ≡ row_with own.id (get_or atoms q e).id (term_of field s own (get_or atoms q e)) row
    → IsRowOf field s own (map (λ p. get_or atoms p d) (take i others)) row → IsRowOf field s own (map (λ p. get_or atoms p d) (take (i + 1) others)) next
row_more field s atoms own d e others i q row next lt is within so h =
    let at : ℕ → Atom = λ p. get_or atoms p d in
    let same : get_or atoms q e ≡ at q = get_or_default atoms q e d within in
    let whole : map at (take (i + 1) others) ≡ map at (take i others) ++ at q ∷ [] =
    ap (map at) (take_more others i 0 lt) ∙ map-append at (take i others) (get_or others i 0 ∷ []) ∙ ap (λ (p : ℕ). map at (take i others) ++ at p ∷ []) (sym is) in
    subst (λ (l : List Atom). IsRowOf field s own l next) (sym whole)
    (row_by_term field s own (map at (take i others)) (at q) (term_of field s own (at q)) row next refl
    (so ∙ ap (λ (a : Atom). row_with own.id a.id (term_of field s own a) row) same) h)

pub row_all : (field : Field) (s : Sides) (atoms : List Atom) (own d : Atom) (others : List ℕ) (i : ℕ) (row : Row) → length others ≤ i
    → IsRowOf field s own (map (λ p. get_or atoms p d) (take i others)) row → IsRowOf field s own (map (λ p. get_or atoms p d) others) row
row_all field s atoms own d others i row le h = subst (λ (l : List ℕ). IsRowOf field s own (map (λ p. get_or atoms p d) l) row) (take_all i others le) h

pub row_none : (field : Field) (s : Sides) (own : Atom) → IsRowOf field s own [] no_row
row_none field s own = record { x = refl; y = refl; z = refl; energy = refl; virial = refl; fault = refl }

-- the pairs of an atom with others, one more
pub taken_step : (field : Field) (s : Sides) (atoms : List Atom) (own e : Atom) (others : List ℕ) (i q : ℕ) (old now : List (List ℤ)) (w f : List ℤ)
    → i < length others → q ≡ get_or others i 0 → q < length atoms → length old ≡ length atoms
    → AreTaken field s atoms own (take i others) old now → f ≡ pushed (term_of field s own (get_or atoms q e)) (get_or now q w)
    → AreTaken field s atoms own (take (i + 1) others) old (set now q f)
taken_step field s atoms own e others i q old now w f lt is within each h so =
    let r : Result (Option Term) Close = term_of field s own (get_or atoms q e) in
    let inside : q < length now = omega (arith, h.long, each) in
    record {
      long = length-set now q f ∙ h.long;
      x = λ d. taken_more field s atoms d own e x_of others i q old now w f lt is within h.long inside (h.x d) (ap (λ (l : List ℤ). in_word (x_of l)) so ∙ pushed_x r (get_or now q w));
      y = λ d. taken_more field s atoms d own e y_of others i q old now w f lt is within h.long inside (h.y d) (ap (λ (l : List ℤ). in_word (y_of l)) so ∙ pushed_y r (get_or now q w));
      z = λ d. taken_more field s atoms d own e z_of others i q old now w f lt is within h.long inside (h.z d) (ap (λ (l : List ℤ). in_word (z_of l)) so ∙ pushed_z r (get_or now q w));
    }

pub taken_first : (field : Field) (s : Sides) (atoms : List Atom) (own : Atom) (old : List (List ℤ)) → AreTaken field s atoms own [] old old
taken_first field s atoms own old = record {
  long = refl;
  x = λ d. taken_none field s atoms d own x_of old;
  y = λ d. taken_none field s atoms d own y_of old;
  z = λ d. taken_none field s atoms d own z_of old;
}

pub none_within : IsRowWithin 0 no_row
none_within = record { f = (omega (arith, ints), omega (arith, ints), omega (arith, ints)); energy = omega arith; virial = omega arith }
