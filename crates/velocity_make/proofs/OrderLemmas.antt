-- The order of the atoms does not matter: atoms that are permuted are given the same velocities.
use Rattle.std.proofs.Common.{◌≡◌, ◌∙◌, true, false, Bool, ℕ, ℤ, pos, List, [], ◌∷◌, length, refl, sym, ap, subst, arith}
use Rattle.std.specs.List.Sorted.{IsPermutation}
use Rattle.std.proofs.lemmas.Int.{ints}
use Rattle.std.proofs.lemmas.List.Sorted.{IsPermutation-map}
use Rattle.box_geo.specs.declared.atoms.Atom.{Atom}
use Rattle.sums.specs.Totals.{total}
use Rattle.sums.proofs.Lists.{IsPermutation-filter}
use Rattle.sums.proofs.Totals.{total-IsPermutation}
use Rattle.computes.specs.Quantities.{freedom, kinetic_of, kinetic_sum}
use Rattle.velocity_make.specs.declared.calls.Drawing.{Drawing}
use Rattle.velocity_make.specs.declared.changes.Change.{Change}
use Rattle.velocity_make.specs.declared.changes.Change.TheVariants.{TakeOff}
use Rattle.velocity_make.specs.Change.{changed, changed_all, scaling}
use Rattle.velocity_make.specs.Group.{is_member, mass_of, mean, mean_along, members, momentum, momentum_of, velocity_of, whole_mass}
use Rattle.velocity_make.specs.Make.{created, drawn, drawn_all, scaled, settled, stilled}

-- the sums over a group
members_permute : (ids : List ℕ) (xs ys : List Atom) → IsPermutation xs ys → IsPermutation (members ids xs) (members ids ys)
members_permute ids xs ys h = IsPermutation-filter (is_member ids) xs ys h

mean_along_same : (mass : List ℤ) (axis : ℕ) (xs ys : List Atom) → IsPermutation xs ys → mean_along mass axis ys ≡ mean_along mass axis xs
mean_along_same mass axis xs ys h =
    ap (λ (p : ℤ). velocity_of p (whole_mass mass ys)) (total-IsPermutation (momentum_of mass axis) xs ys h)
    ∙ ap (λ (m : ℤ). velocity_of (momentum mass axis xs) m) (total-IsPermutation (mass_of mass) xs ys h)

mean_same : (mass : List ℤ) (xs ys : List Atom) → IsPermutation xs ys → mean mass ys ≡ mean mass xs
mean_same mass xs ys h =
    ap (λ (x : ℤ). x ∷ mean_along mass 1 ys ∷ mean_along mass 2 ys ∷ []) (mean_along_same mass 0 xs ys h)
    ∙ ap (λ (y : ℤ). mean_along mass 0 xs ∷ y ∷ mean_along mass 2 ys ∷ []) (mean_along_same mass 1 xs ys h)
    ∙ ap (λ (z : ℤ). mean_along mass 0 xs ∷ mean_along mass 1 xs ∷ z ∷ []) (mean_along_same mass 2 xs ys h)

kinetic_same : (mass : List ℤ) (xs ys : List Atom) → IsPermutation xs ys → kinetic_sum mass ys ≡ kinetic_sum mass xs
unfolding kinetic_sum
kinetic_same mass xs ys h = total-IsPermutation (kinetic_of mass) xs ys h

ones : (xs : List Atom) → total (λ _. pos 1) xs ≡ pos (length xs)
ones [] = refl
ones (x ∷ xs) = omega (arith, ints, ones xs)

length_same : (xs ys : List Atom) → IsPermutation xs ys → length ys ≡ length xs
length_same xs ys h = omega (arith, ints, ones xs, ones ys, total-IsPermutation (λ (_ : Atom). pos 1) xs ys h)

-- what is made
change_permutes : (ids : List ℕ) (c d : Change) (xs ys : List Atom) → d ≡ c → IsPermutation xs ys → IsPermutation (changed_all ids c xs) (changed_all ids d ys)
change_permutes ids c d xs ys same h =
    subst (λ (e : Change). IsPermutation (changed_all ids c xs) (changed_all ids e ys)) (sym same) (IsPermutation-map (changed ids c) xs ys h)

stilled_permutes : (mass : List ℤ) (ids : List ℕ) (xs ys : List Atom) → IsPermutation xs ys → IsPermutation (stilled mass ids xs) (stilled mass ids ys)
unfolding stilled
stilled_permutes mass ids xs ys h =
    change_permutes ids (TakeOff (mean mass (members ids xs))) (TakeOff (mean mass (members ids ys))) xs ys (ap TakeOff (mean_same mass (members ids xs) (members ids ys) (members_permute ids xs ys h))) h

scaled_permutes : (mass : List ℤ) (dim : ℕ) (ids : List ℕ) (t : ℤ) (xs ys : List Atom) → IsPermutation xs ys → IsPermutation (scaled mass dim ids t xs) (scaled mass dim ids t ys)
unfolding scaled
scaled_permutes mass dim ids t xs ys h =
    let group = members_permute ids xs ys h in
    change_permutes ids (scaling t (kinetic_sum mass (members ids xs)) (freedom dim (length (members ids xs)))) (scaling t (kinetic_sum mass (members ids ys)) (freedom dim (length (members ids ys)))) xs ys
    (ap (λ (s : ℤ). scaling t s (freedom dim (length (members ids ys)))) (kinetic_same mass (members ids xs) (members ids ys) group)
    ∙ ap (λ (n : ℕ). scaling t (kinetic_sum mass (members ids xs)) (freedom dim n)) (length_same (members ids xs) (members ids ys) group)) h

settled_permutes : (mass : List ℤ) (ids : List ℕ) (still : Bool) (xs ys : List Atom) → IsPermutation xs ys → IsPermutation (settled mass ids still xs) (settled mass ids still ys)
unfolding settled
settled_permutes mass ids true xs ys h = stilled_permutes mass ids xs ys h
settled_permutes mass ids false xs ys h = h

pub created_permutes : (mass : List ℤ) (dim : ℕ) (ids : List ℕ) (d : Drawing) (xs ys : List Atom) → IsPermutation xs ys → IsPermutation (created mass dim ids d xs) (created mass dim ids d ys)
created_permutes mass dim ids d xs ys h =
    scaled_permutes mass dim ids d.temperature (settled mass ids d.still (drawn_all mass dim ids d.seed xs)) (settled mass ids d.still (drawn_all mass dim ids d.seed ys))
    (settled_permutes mass ids d.still (drawn_all mass dim ids d.seed xs) (drawn_all mass dim ids d.seed ys) (IsPermutation-map (drawn mass dim ids d.seed) xs ys h))
