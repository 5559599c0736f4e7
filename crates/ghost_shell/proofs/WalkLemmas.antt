-- The walk over bricks finds the ghosts.
use Rattle.std.proofs.Common.{◌≡◌, ◌++◌, ◌<◌, ◌≤◌, ◌+◌, ◌-◌, ◌^◌, ◌==◌, ◌&&◌, ◌||◌, Bool, true, false, not, cond, nat_lt, ℕ, ℤ, pos, neg_ℤ, ◌+ℤ◌, unsigned_abs, List, [], ◌∷◌, length, get_or, drop, map, filter, flat_map, append_assoc, refl, sym, ap, subst, ◌∙◌, add-one, drop-cons, arith}
use Rattle.std.specs.List.{All, range_with_len}
use Rattle.std.proofs.lemmas.Int.{ints}
use Rattle.std.proofs.lemmas.Bool.Decides.{nat_tests}
use Rattle.std.proofs.lemmas.List.{append-nil, get_or_default}
use Rattle.std.proofs.lemmas.List.Folds.{flat_map-map}
use Rattle.std.proofs.lemmas.List.Elements.{All-nil, All-cons, All-weaker, All-filter, All-map, filter_passes}
use Rattle.box_geo.specs.declared.atoms.Atom.{Atom}
use Rattle.box_geo.specs.declared.sim_box.Extent.{Extent}
use Rattle.box_geo.specs.declared.sim_box.Sides.{Sides}
use Rattle.box_geo.specs.Sides.{Holds, IsInside, IsSound, IsSoundExtent, edge, x_of, y_of, z_of, z_wraps}
use Rattle.rank_grid.specs.Bricks.{AreCounts, IsBetween, IsInBrick, low_side, high_side, owner}
use Rattle.rank_grid.specs.Owned.{atoms_of_rank, numbered, places_owned}
use Rattle.rank_grid.proofs.RankLemmas.{owner-holds}
use Rattle.rank_grid.proofs.OwnedLemmas.{All-numbered}
use Rattle.ghost_shell.specs.declared.atom.Ghost.{Ghost}
use Rattle.ghost_shell.specs.declared.halo.Halo.{Halo}
use Rattle.ghost_shell.specs.declared.lengths.Lengths.{Lengths}
use Rattle.ghost_shell.specs.Images.{is_beside, moved, shifts, shifts_along}
use Rattle.ghost_shell.specs.Ghosts.{IsNearBox}
use Rattle.ghost_shell.specs.Halos.{is_near_on, may_meet_along, may_meet_on}
use Rattle.ghost_shell.specs.Lengths.{AreLengths, AreNearLengths, are_some}
use Rattle.ghost_shell.specs.Walks.{atoms_at, ghost_by, ghosts_from}
use Rattle.sums.proofs.Lists.{All-each, All-flat_map, flat_map_none, flat_map_same, flat_map-flat_map}
use Rattle.ghost_shell.proofs.PlaceLemmas.{IsAt, all_at, atoms_at_places, one_at, range_end, range_step}

-- what is inside the box is near it, and so are shifts
near_along : (e : Extent) (x : ℤ) → IsSoundExtent e → Holds e x → unsigned_abs x ≤ 2 ^ 35
near_along e x s h = omega (arith, ints)

pub inside_near : (s : Sides) (p : List ℤ) → IsSound s → IsInside s p → IsNearBox p
inside_near s p sound h = (near_along s.x (x_of p) sound.0 h.0, near_along s.y (y_of p) sound.1 h.1, near_along s.z (z_of p) sound.2 h.2)

pub atoms_near : (s : Sides) (atoms : List Atom) → IsSound s → All (λ a. IsInside s a.x) atoms → All (λ a. IsNearBox a.x) atoms
atoms_near s atoms sound all = All-weaker (λ a. IsInside s a.x) (λ a. IsNearBox a.x) (λ a h. inside_near s a.x sound h) atoms all

lengths_short : (wraps : Bool) (e : Extent) → IsSoundExtent e → All (λ i. unsigned_abs i ≤ 2 ^ 34) (shifts_along wraps (edge e))
lengths_short true e h =
    All-cons (λ i. unsigned_abs i ≤ 2 ^ 34) (neg_ℤ (edge e)) (pos 0 ∷ edge e ∷ []) (omega (arith, ints))
    (All-cons (λ i. unsigned_abs i ≤ 2 ^ 34) (pos 0) (edge e ∷ []) (omega arith)
    (All-cons (λ i. unsigned_abs i ≤ 2 ^ 34) (edge e) [] (omega (arith, ints)) (All-nil (λ i. unsigned_abs i ≤ 2 ^ 34))))
lengths_short false e h = All-cons (λ i. unsigned_abs i ≤ 2 ^ 34) (pos 0) [] (omega arith) (All-nil (λ i. unsigned_abs i ≤ 2 ^ 34))

pub short_lengths : (wraps : Bool) (e : Extent) (l : List ℤ) → IsSoundExtent e → l ≡ shifts_along wraps (edge e) → All (λ i. unsigned_abs i ≤ 2 ^ 35) l
short_lengths wraps e l h is =
    subst (All (λ i. unsigned_abs i ≤ 2 ^ 35)) (sym is)
    (All-weaker (λ i. unsigned_abs i ≤ 2 ^ 34) (λ i. unsigned_abs i ≤ 2 ^ 35) (λ i short. omega arith) (shifts_along wraps (edge e)) (lengths_short wraps e h))

pub short_at : (l all : List ℤ) (i : ℕ) (d : ℤ) → l ≡ all → All (λ i. unsigned_abs i ≤ 2 ^ 35) all → i < length l → unsigned_abs (get_or l i d) ≤ 2 ^ 35
short_at l all i d is short lt = (subst (All (λ i. unsigned_abs i ≤ 2 ^ 35)) (sym is) short) i d lt

pub short_kept : (p : ℤ → Bool) (all l : List ℤ) → All (λ i. unsigned_abs i ≤ 2 ^ 35) all → l ≡ filter p all → All (λ i. unsigned_abs i ≤ 2 ^ 35) l
short_kept p all l short is = subst (All (λ i. unsigned_abs i ≤ 2 ^ 35)) (sym is) (All-filter p (λ i. unsigned_abs i ≤ 2 ^ 35) all short)

-- components within the greatest edge
abbrev pub IsShift : List ℤ → Type 0
IsShift d = (unsigned_abs (x_of d) ≤ 2 ^ 34) × (unsigned_abs (y_of d) ≤ 2 ^ 34) × (unsigned_abs (z_of d) ≤ 2 ^ 34)

short_of : (i j k : ℤ) → unsigned_abs i ≤ 2 ^ 34 → unsigned_abs j ≤ 2 ^ 34 → unsigned_abs k ≤ 2 ^ 34 → IsShift (i ∷ j ∷ k ∷ [])
short_of i j k f g h = (f, g, h)

pub shifts_short : (s : Sides) → IsSound s → All IsShift (shifts s)
unfolding shifts
shifts_short s sound =
    let zs : List ℤ = shifts_along (z_wraps s) (edge s.z) in
    let ys : List ℤ = shifts_along s.y.periodic (edge s.y) in
    let xs : List ℤ = shifts_along s.x.periodic (edge s.x) in
    All-flat_map IsShift (λ i. flat_map (λ j. map (λ k. i ∷ j ∷ k ∷ []) zs) ys) xs
    (All-weaker (λ i. unsigned_abs i ≤ 2 ^ 34) (λ i. All IsShift (flat_map (λ j. map (λ k. i ∷ j ∷ k ∷ []) zs) ys))
    (λ i f. All-flat_map IsShift (λ j. map (λ k. i ∷ j ∷ k ∷ []) zs) ys
    (All-weaker (λ j. unsigned_abs j ≤ 2 ^ 34) (λ j. All IsShift (map (λ k. i ∷ j ∷ k ∷ []) zs))
    (λ j g. All-map IsShift (λ k. i ∷ j ∷ k ∷ []) zs
    (All-weaker (λ k. unsigned_abs k ≤ 2 ^ 34) (λ k. IsShift (i ∷ j ∷ k ∷ [])) (λ k h. short_of i j k f g h) zs (lengths_short (z_wraps s) s.z sound.2)))
    ys (lengths_short s.y.periodic s.y sound.1)))
    xs (lengths_short s.x.periodic s.x sound.0))

sum_near : (e : Extent) (x d : ℤ) → IsSoundExtent e → Holds e x → unsigned_abs d ≤ 2 ^ 34 → unsigned_abs (x +ℤ d) ≤ 2 ^ 35
sum_near e x d s h f = omega (arith, ints)

-- an image of a position inside the box
pub image_near : (s : Sides) (p d : List ℤ) → IsSound s → IsInside s p → IsShift d → IsNearBox (moved p d)
image_near s p d sound h k =
    (sum_near s.x (x_of p) (x_of d) sound.0 h.0 k.0, sum_near s.y (y_of p) (y_of d) sound.1 h.1 k.1, sum_near s.z (z_of p) (z_of d) sound.2 h.2 k.2)

-- a brick that does not meet the halo brings nothing
meets_along : (low high reach from to x d : ℤ) → IsBetween from to x → is_beside low high reach (x +ℤ d) ≡ true → may_meet_along low high reach (from +ℤ d) (to +ℤ d) ≡ true
meets_along low high reach from to x d h near = grind (arith, ints)

false_by : (b c : Bool) → (b ≡ true → c ≡ true) → c ≡ false → b ≡ false
false_by true c f e = let g = f refl in cc
false_by false c f e = refl

-- the atoms of a rank are in its brick
in_brick : (counts : List ℕ) (s : Sides) (atoms : List Atom) (other : ℕ) → AreCounts counts → All (λ a. IsInside s a.x) atoms
    → All (λ e. IsInBrick counts s other e.1.x) (atoms_of_rank counts s atoms other)
in_brick counts s atoms other h all =
    λ k d lt.
    let own : List (ℕ × Atom) = atoms_of_rank counts s atoms other in
    let e : ℕ × Atom = get_or own k d in
    let inside : IsInside s e.1.x = All-filter (λ e. owner counts s e.1.x == other) (λ e. IsInside s e.1.x) (numbered 0 atoms) (All-numbered (λ a. IsInside s a.x) 0 atoms all) k d lt in
    let passes : (owner counts s e.1.x == other) ≡ true = filter_passes (λ e. owner counts s e.1.x == other) (numbered 0 atoms) k d lt in
    let is : owner counts s e.1.x ≡ other = grind (arith, nat_tests) in
    subst (λ (r : ℕ). IsInBrick counts s r e.1.x) is (owner-holds counts s e.1.x h inside)

-- one of the lengths that a visit tests does not bring an atom near: nothing is found by it
first_none : (a b c : Bool) (l : List Ghost) → a ≡ false → cond ((a && b) && c) l [] ≡ []
first_none true b c l f = cc
first_none false b c l f = refl

second_none : (a b c d : Bool) (l : List Ghost) → b ≡ false → cond ((a && (b && c)) && d) l [] ≡ []
second_none true true c d l f = cc
second_none true false c d l f = refl
second_none false b c d l f = refl

third_none : (a b c d : Bool) (l : List Ghost) → c ≡ false → cond ((a && (b && c)) && d) l [] ≡ []
third_none true true true d l f = cc
third_none true true false d l f = refl
third_none true false c d l f = refl
third_none false b c d l f = refl

none_by_x : (h : Halo) (own : Bool) (e : ℕ × Atom) (i j k : ℤ) → is_near_on h 0 e.1.x i ≡ false → ghost_by h own e (i ∷ j ∷ k ∷ []) ≡ []
none_by_x h own e i j k f = first_none _ _ _ _ f

none_by_y : (h : Halo) (own : Bool) (e : ℕ × Atom) (i j k : ℤ) → is_near_on h 1 e.1.x j ≡ false → ghost_by h own e (i ∷ j ∷ k ∷ []) ≡ []
none_by_y h own e i j k f = second_none _ _ _ _ _ f

none_by_z : (h : Halo) (own : Bool) (e : ℕ × Atom) (i j k : ℤ) → is_near_on h 2 e.1.x k ≡ false → ghost_by h own e (i ∷ j ∷ k ∷ []) ≡ []
none_by_z h own e i j k f = third_none _ _ _ _ _ f

pub none_on_plane : (h : Halo) (own : Bool) (e : ℕ × Atom) (i : ℤ) (ys zs : List ℤ) → is_near_on h 0 e.1.x i ≡ false → flat_map (λ j. flat_map (λ k. ghost_by h own e (i ∷ j ∷ k ∷ [])) zs) ys ≡ []
none_on_plane h own e i ys zs f =
    flat_map_none (λ j. flat_map (λ k. ghost_by h own e (i ∷ j ∷ k ∷ [])) zs) ys
    (All-each (λ j. flat_map (λ k. ghost_by h own e (i ∷ j ∷ k ∷ [])) zs ≡ [])
    (λ j. flat_map_none (λ k. ghost_by h own e (i ∷ j ∷ k ∷ [])) zs (All-each (λ k. ghost_by h own e (i ∷ j ∷ k ∷ []) ≡ []) (λ k. none_by_x h own e i j k f) zs)) ys)

pub none_on_line : (h : Halo) (own : Bool) (e : ℕ × Atom) (i j : ℤ) (zs : List ℤ) → is_near_on h 1 e.1.x j ≡ false → flat_map (λ k. ghost_by h own e (i ∷ j ∷ k ∷ [])) zs ≡ []
none_on_line h own e i j zs f = flat_map_none (λ k. ghost_by h own e (i ∷ j ∷ k ∷ [])) zs (All-each (λ k. ghost_by h own e (i ∷ j ∷ k ∷ []) ≡ []) (λ k. none_by_y h own e i j k f) zs)

pub stops_on_plane : (h : Halo) (own : Bool) (e : ℕ × Atom) (i : ℤ) (ys zs : List ℤ) (old : List Ghost) (b : Bool) → b ≡ is_near_on h 0 e.1.x i → b ≡ false
    → old ≡ old ++ flat_map (λ j. flat_map (λ k. ghost_by h own e (i ∷ j ∷ k ∷ [])) zs) ys
stops_on_plane h own e i ys zs old b is far =
    sym (append-nil old) ∙ ap (λ (l : List Ghost). old ++ l) (sym (none_on_plane h own e i ys zs (sym is ∙ far)))

pub stops_on_line : (h : Halo) (own : Bool) (e : ℕ × Atom) (i j : ℤ) (zs : List ℤ) (old : List Ghost) (b : Bool) → b ≡ is_near_on h 1 e.1.x j → b ≡ false
    → old ≡ old ++ flat_map (λ k. ghost_by h own e (i ∷ j ∷ k ∷ [])) zs
stops_on_line h own e i j zs old b is far =
    sym (append-nil old) ∙ ap (λ (l : List Ghost). old ++ l) (sym (none_on_line h own e i j zs (sym is ∙ far)))

-- a list is gone through element by element
drop_more : (xs : List ℤ) (i : ℕ) (d : ℤ) → i < length xs → drop i xs ≡ get_or xs i d ∷ drop (i + 1) xs
drop_more xs i d lt = rw add-one (drop-cons xs i d lt)

pub list_more : (f : ℤ → List Ghost) (xs : List ℤ) (i : ℕ) (d : ℤ) (old new all : List Ghost) → i < length xs → new ≡ old ++ f (get_or xs i d)
    → old ++ flat_map f (drop i xs) ≡ all → new ++ flat_map f (drop (i + 1) xs) ≡ all
list_more f xs i d old new all lt pushed so_far =
    let rest : List Ghost = flat_map f (drop (i + 1) xs) in
    ap (λ (l : List Ghost). l ++ rest) pushed
    ∙ append_assoc old (f (get_or xs i d)) rest
    ∙ ap (λ (l : List ℤ). old ++ flat_map f l) (sym (drop_more xs i d lt))
    ∙ so_far

pub kept_more : (p : ℤ → Bool) (xs : List ℤ) (i : ℕ) (d y : ℤ) (old new all : List ℤ) → i < length xs → p (get_or xs i d) ≡ true → new ≡ old ++ y ∷ [] → y ≡ get_or xs i d
    → old ++ filter p (drop i xs) ≡ all → new ++ filter p (drop (i + 1) xs) ≡ all
kept_more p xs i d y old new all lt passes pushed is so_far =
    let x : ℤ = get_or xs i d in
    let rest : List ℤ = filter p (drop (i + 1) xs) in
    ap (λ (l : List ℤ). l ++ rest) (pushed ∙ ap (λ (z : ℤ). old ++ z ∷ []) is)
    ∙ append_assoc old (x ∷ []) rest
    ∙ ap (λ (b : Bool). old ++ cond b (x ∷ rest) rest) (sym passes)
    ∙ ap (λ (l : List ℤ). old ++ filter p l) (sym (drop_more xs i d lt))
    ∙ so_far

pub left_more : (p : ℤ → Bool) (xs : List ℤ) (i : ℕ) (d : ℤ) (old new all : List ℤ) → i < length xs → p (get_or xs i d) ≡ false → new ≡ old
    → old ++ filter p (drop i xs) ≡ all → new ++ filter p (drop (i + 1) xs) ≡ all
left_more p xs i d old new all lt fails same so_far =
    let x : ℤ = get_or xs i d in
    let rest : List ℤ = filter p (drop (i + 1) xs) in
    ap (λ (l : List ℤ). l ++ rest) same
    ∙ ap (λ (b : Bool). old ++ cond b (x ∷ rest) rest) (sym fails)
    ∙ ap (λ (l : List ℤ). old ++ filter p l) (sym (drop_more xs i d lt))
    ∙ so_far

-- lengths that bring nothing may be left out
kept_alone : {X : Type 0} (p : X → Bool) (f : X → List Ghost) (xs : List X) → ((x : X) → p x ≡ false → f x ≡ []) → flat_map f (filter p xs) ≡ flat_map f xs
kept_alone p f [] none = refl
kept_alone p f (x ∷ xs) none = by_test (p x) refl (kept_alone p f xs none)
  where
    by_test : (b : Bool) → p x ≡ b → flat_map f (filter p xs) ≡ flat_map f xs → flat_map f (cond b (x ∷ filter p xs) (filter p xs)) ≡ f x ++ flat_map f xs
    by_test true t e = ap (λ (l : List Ghost). f x ++ l) e
    by_test false t e = e ∙ ap (λ (l : List Ghost). l ++ flat_map f xs) (sym (none x t))

abbrev nested : (ℤ → ℤ → ℤ → List Ghost) → List ℤ → List ℤ → List ℤ → List Ghost
nested g xs ys zs = flat_map (λ i. flat_map (λ j. flat_map (g i j) zs) ys) xs

nested_kept : (g : ℤ → ℤ → ℤ → List Ghost) (p q r : ℤ → Bool) (xs ys zs : List ℤ)
    → ((i : ℤ) → p i ≡ false → (j k : ℤ) → g i j k ≡ []) → ((j : ℤ) → q j ≡ false → (i k : ℤ) → g i j k ≡ []) → ((k : ℤ) → r k ≡ false → (i j : ℤ) → g i j k ≡ [])
    → nested g (filter p xs) (filter q ys) (filter r zs) ≡ nested g xs ys zs
nested_kept g p q r xs ys zs by_x by_y by_z =
    let line : ℤ → ℤ → List Ghost = λ i j. flat_map (g i j) (filter r zs) in
    let plane : ℤ → List Ghost = λ i. flat_map (line i) (filter q ys) in
    kept_alone p plane xs
    (λ i t. flat_map_none (line i) (filter q ys) (All-each (λ j. line i j ≡ []) (λ j. flat_map_none (g i j) (filter r zs) (All-each (λ k. g i j k ≡ []) (λ k. by_x i t j k) (filter r zs))) (filter q ys)))
    ∙ flat_map_same plane (λ i. flat_map (λ j. flat_map (g i j) zs) ys) xs
    (All-each (λ i. plane i ≡ flat_map (λ j. flat_map (g i j) zs) ys)
    (λ i.
    kept_alone q (line i) ys (λ j t. flat_map_none (g i j) (filter r zs) (All-each (λ k. g i j k ≡ []) (λ k. by_y j t i k) (filter r zs)))
    ∙ flat_map_same (line i) (λ j. flat_map (g i j) zs) ys
    (All-each (λ j. line i j ≡ flat_map (g i j) zs) (λ j. kept_alone r (g i j) zs (λ k t. by_z k t i j)) ys))
    xs)

nested_shifts : (g : List ℤ → List Ghost) (s : Sides) → nested (λ i j k. g (i ∷ j ∷ k ∷ [])) (shifts_along s.x.periodic (edge s.x)) (shifts_along s.y.periodic (edge s.y)) (shifts_along (z_wraps s) (edge s.z)) ≡ flat_map g (shifts s)
unfolding shifts
nested_shifts g s =
    let xs : List ℤ = shifts_along s.x.periodic (edge s.x) in
    let ys : List ℤ = shifts_along s.y.periodic (edge s.y) in
    let zs : List ℤ = shifts_along (z_wraps s) (edge s.z) in
    let line : ℤ → ℤ → List (List ℤ) = λ i j. map (λ k. i ∷ j ∷ k ∷ []) zs in
    sym (flat_map-flat_map g (λ i. flat_map (line i) ys) xs
    ∙ flat_map_same (λ i. flat_map g (flat_map (line i) ys)) (λ i. flat_map (λ j. flat_map (λ k. g (i ∷ j ∷ k ∷ [])) zs) ys) xs
    (All-each (λ i. flat_map g (flat_map (line i) ys) ≡ flat_map (λ j. flat_map (λ k. g (i ∷ j ∷ k ∷ [])) zs) ys)
    (λ i.
    flat_map-flat_map g (line i) ys
    ∙ flat_map_same (λ j. flat_map g (line i j)) (λ j. flat_map (λ k. g (i ∷ j ∷ k ∷ [])) zs) ys
    (All-each (λ j. flat_map g (line i j) ≡ flat_map (λ k. g (i ∷ j ∷ k ∷ [])) zs) (λ j. flat_map-map g (λ k. i ∷ j ∷ k ∷ []) zs) ys))
    xs))

or_by : (space b c : Bool) → (b ≡ true → c ≡ true) → (not space || b) ≡ true → (not space || c) ≡ true
or_by true b c f e = f e
or_by false b c f e = refl

-- what a visit finds of an atom in its brick
pub found_is : (counts : List ℕ) (s : Sides) (h : Halo) (own : Bool) (other : ℕ) (e : ℕ × Atom) (all near : Lengths) → IsInBrick counts s other e.1.x
    → AreLengths s all → AreNearLengths h (low_side counts s other) (high_side counts s other) all near
    → nested (λ i j k. ghost_by h own e (i ∷ j ∷ k ∷ [])) near.x.items near.y.items near.z.items ≡ flat_map (ghost_by h own e) (shifts s)
found_is counts s h own other e all near held are kept =
    let g : ℤ → ℤ → ℤ → List Ghost = λ i j k. ghost_by h own e (i ∷ j ∷ k ∷ []) in
    let low : List ℤ = low_side counts s other in
    let high : List ℤ = high_side counts s other in
    ap (λ (l : List ℤ). nested g l near.y.items near.z.items) kept.x
    ∙ ap (λ (l : List ℤ). nested g (filter (may_meet_on h low high 0) all.x.items) l near.z.items) kept.y
    ∙ ap (λ (l : List ℤ). nested g (filter (may_meet_on h low high 0) all.x.items) (filter (may_meet_on h low high 1) all.y.items) l) kept.z
    ∙ nested_kept g (may_meet_on h low high 0) (may_meet_on h low high 1) (may_meet_on h low high 2) all.x.items all.y.items all.z.items
    (λ i t j k. none_by_x h own e i j k (false_by (is_near_on h 0 e.1.x i) (may_meet_on h low high 0 i) (meets_along (x_of h.low) (x_of h.high) h.reach _ _ (x_of e.1.x) i held.x) t))
    (λ j t i k. none_by_y h own e i j k (false_by (is_near_on h 1 e.1.x j) (may_meet_on h low high 1 j) (meets_along (y_of h.low) (y_of h.high) h.reach _ _ (y_of e.1.x) j held.y) t))
    (λ k t i j. none_by_z h own e i j k (false_by (is_near_on h 2 e.1.x k) (may_meet_on h low high 2 k) (or_by h.space _ _ (meets_along (z_of h.low) (z_of h.high) h.reach _ _ (z_of e.1.x) k held.z)) t))
    ∙ ap (λ (l : List ℤ). nested g l all.y.items all.z.items) are.x
    ∙ ap (λ (l : List ℤ). nested g (shifts_along s.x.periodic (edge s.x)) l all.z.items) are.y
    ∙ ap (λ (l : List ℤ). nested g (shifts_along s.x.periodic (edge s.x)) (shifts_along s.y.periodic (edge s.y)) l) are.z
    ∙ nested_shifts (ghost_by h own e) s

-- and in the brick
pub found_in : (counts : List ℕ) (s : Sides) (atoms : List Atom) (h : Halo) (rank other : ℕ) (own : Bool) (all near : Lengths) → AreCounts counts → All (λ a. IsInside s a.x) atoms
    → AreLengths s all → AreNearLengths h (low_side counts s other) (high_side counts s other) all near → own ≡ (other == rank)
    → flat_map (λ e. nested (λ i j k. ghost_by h own e (i ∷ j ∷ k ∷ [])) near.x.items near.y.items near.z.items) (atoms_of_rank counts s atoms other) ≡ ghosts_from counts s atoms h rank other
found_in counts s atoms h rank other own all near some inside are kept is =
    let found : ℕ × Atom → List Ghost = λ e. nested (λ i j k. ghost_by h own e (i ∷ j ∷ k ∷ [])) near.x.items near.y.items near.z.items in
    flat_map_same found (λ e. flat_map (ghost_by h own e) (shifts s)) (atoms_of_rank counts s atoms other)
    (All-weaker (λ a. IsInBrick counts s other a.1.x) (λ e. found e ≡ flat_map (ghost_by h own e) (shifts s))
    (λ e held. found_is counts s h own other e all near held are kept) (atoms_of_rank counts s atoms other) (in_brick counts s atoms other some inside))
    ∙ ap (λ (b : Bool). flat_map (λ e. flat_map (ghost_by h b e) (shifts s)) (atoms_of_rank counts s atoms other)) is

pub found_by_row : (counts : List ℕ) (s : Sides) (atoms : List Atom) (h : Halo) (rank other : ℕ) (own : Bool) (all near : Lengths) (row : List ℕ) → AreCounts counts → All (λ a. IsInside s a.x) atoms
    → AreLengths s all → AreNearLengths h (low_side counts s other) (high_side counts s other) all near → own ≡ (other == rank) → row ≡ places_owned counts s atoms other
    → flat_map (λ e. nested (λ i j k. ghost_by h own e (i ∷ j ∷ k ∷ [])) near.x.items near.y.items near.z.items) (atoms_at atoms row) ≡ ghosts_from counts s atoms h rank other
unfolding places_owned
found_by_row counts s atoms h rank other own all near row some inside are kept is there =
    let found : ℕ × Atom → List Ghost = λ e. nested (λ i j k. ghost_by h own e (i ∷ j ∷ k ∷ [])) near.x.items near.y.items near.z.items in
    ap (λ (l : List ℕ). flat_map found (atoms_at atoms l)) there
    ∙ ap (flat_map found) (atoms_at_places atoms (λ e. owner counts s e.1.x == other))
    ∙ found_in counts s atoms h rank other own all near some inside are kept is

-- without a length along some axis there is nothing
abbrev nothing : List Ghost
nothing = []

no_nested : (g : ℤ → ℤ → ℤ → List Ghost) (xs ys zs : List ℤ) → (nat_lt 0 (length xs) && (nat_lt 0 (length ys) && nat_lt 0 (length zs))) ≡ false → nested g xs ys zs ≡ []
no_nested g [] ys zs e = refl
no_nested g (x ∷ xs) [] zs e = flat_map_none (λ i. nothing) (x ∷ xs) (All-each (λ i. nothing ≡ []) (λ i. refl) (x ∷ xs))
no_nested g (x ∷ xs) (y ∷ ys) [] e =
    flat_map_none (λ i. flat_map (λ j. nothing) (y ∷ ys)) (x ∷ xs)
    (All-each (λ i. flat_map (λ j. nothing) (y ∷ ys) ≡ []) (λ i. flat_map_none (λ j. nothing) (y ∷ ys) (All-each (λ j. nothing ≡ []) (λ j. refl) (y ∷ ys))) (x ∷ xs))
no_nested g (x ∷ xs) (y ∷ ys) (z ∷ zs) e =
    let a : nat_lt 0 (length (x ∷ xs)) ≡ true = grind (arith, nat_tests) in
    let b : nat_lt 0 (length (y ∷ ys)) ≡ true = grind (arith, nat_tests) in
    let c : nat_lt 0 (length (z ∷ zs)) ≡ true = grind (arith, nat_tests) in
    let f = rw (a, b, c) at e in
    cc

pub none_from : (counts : List ℕ) (s : Sides) (atoms : List Atom) (h : Halo) (rank other : ℕ) (all near : Lengths) → AreCounts counts → All (λ a. IsInside s a.x) atoms
    → AreLengths s all → AreNearLengths h (low_side counts s other) (high_side counts s other) all near
    → are_some near ≡ false → ghosts_from counts s atoms h rank other ≡ []
none_from counts s atoms h rank other all near some inside are kept empty =
    let found : ℕ × Atom → List Ghost = λ e. nested (λ i j k. ghost_by h (other == rank) e (i ∷ j ∷ k ∷ [])) near.x.items near.y.items near.z.items in
    sym (found_in counts s atoms h rank other (other == rank) all near some inside are kept refl)
    ∙ flat_map_none found (atoms_of_rank counts s atoms other)
    (All-each (λ e. found e ≡ []) (λ e. no_nested (λ i j k. ghost_by h (other == rank) e (i ∷ j ∷ k ∷ [])) near.x.items near.y.items near.z.items empty) (atoms_of_rank counts s atoms other))

drop_here : (places : List ℕ) (i k : ℕ) → i < length places → k ≡ get_or places i 0 → drop i places ≡ k ∷ drop (i + 1) places
drop_here places i k lt is = rw is (rw add-one (drop-cons places i 0 lt))

-- one place more
pub found_more : (f : ℕ × Atom → List Ghost) (atoms : List Atom) (places : List ℕ) (i k : ℕ) (d : Atom) (old new all : List Ghost)
    → i < length places → k ≡ get_or places i 0 → k < length atoms → new ≡ old ++ f (k, get_or atoms k d)
    → old ++ flat_map f (atoms_at atoms (drop i places)) ≡ all → new ++ flat_map f (atoms_at atoms (drop (i + 1) places)) ≡ all
found_more f atoms places i k d old new all lt is within pushed so_far =
    let a : Atom = get_or atoms k d in
    let at : a ≡ get_or atoms k a = get_or_default atoms k d a within in
    let rest : List (ℕ × Atom) = atoms_at atoms (drop (i + 1) places) in
    let step : flat_map f (atoms_at atoms (drop i places)) ≡ f (k, a) ++ flat_map f rest =
    ap (λ (l : List ℕ). flat_map f (atoms_at atoms l)) (drop_here places i k lt is)
    ∙ ap (λ (l : List (ℕ × Atom)). flat_map f (l ++ rest)) (one_at atoms k a within at) in
    ap (λ (l : List Ghost). l ++ flat_map f rest) pushed
    ∙ append_assoc old (f (k, a)) (flat_map f rest)
    ∙ ap (λ (l : List Ghost). old ++ l) (sym step)
    ∙ so_far

-- the walk goes on with the next brick
pub walk_more : (f : ℕ → List Ghost) (n k : ℕ) (old new all part : List Ghost) → k < n → part ≡ f k → new ≡ old ++ part
    → old ++ flat_map f (range_with_len k (n - k)) ≡ all → new ++ flat_map f (range_with_len (k + 1) (n - (k + 1))) ≡ all
walk_more f n k old new all part lt is pushed so_far =
    let rest : List Ghost = flat_map f (range_with_len (k + 1) (n - (k + 1))) in
    ap (λ (l : List Ghost). l ++ rest) (pushed ∙ ap (λ (l : List Ghost). old ++ l) is)
    ∙ append_assoc old (f k) rest
    ∙ ap (λ (l : List ℕ). old ++ flat_map f l) (sym (range_step k n lt))
    ∙ so_far

pub walk_end : (f : ℕ → List Ghost) (n k : ℕ) (old all : List Ghost) → n ≤ k → old ++ flat_map f (range_with_len k (n - k)) ≡ all → old ≡ all
walk_end f n k old all past so_far =
    sym (append-nil old) ∙ ap (λ (l : List ℕ). old ++ flat_map f l) (sym (range_end k n past)) ∙ so_far

-- the places of a rank are places of atoms
pub row_places : (counts : List ℕ) (s : Sides) (atoms : List Atom) (rank : ℕ) (row : List ℕ) → row ≡ places_owned counts s atoms rank → All (λ k. k < length atoms) row
unfolding places_owned
row_places counts s atoms rank row is =
    subst (All (λ k. k < length atoms)) (sym is)
    (All-map (λ k. k < length atoms) (λ e. e.0) (atoms_of_rank counts s atoms rank)
    (All-filter (λ e. owner counts s e.1.x == rank) (λ e. e.0 < length atoms) (numbered 0 atoms)
    (All-weaker (IsAt atoms) (λ e. e.0 < length atoms) (λ e h. h.0) (numbered 0 atoms) (all_at atoms))))
