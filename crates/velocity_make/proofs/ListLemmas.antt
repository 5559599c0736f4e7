-- What draws and changes leave as it is.
use Rattle.std.proofs.Common.{◌≡◌, ◌∙◌, ◌==◌, true, false, cond, Bool, ℕ, ℤ, None, List, [], ◌∷◌, length, map, All, refl, sym, ap, subst}
use Rattle.std.specs.List.{list_any}
use Rattle.std.proofs.lemmas.List.Elements.{All-head, All-tail, All-cons, All-nil}
use Rattle.box_geo.specs.declared.atoms.Atom.{Atom}
use Rattle.velocity_make.specs.declared.changes.Change.{Change}
use Rattle.velocity_make.specs.Change.{changed, changed_all, rest_of, scaling, velocity_after, with_velocity}
use Rattle.velocity_make.specs.Draw.{draw_of}
use Rattle.computes.specs.Quantities.{freedom, kinetic_sum}
use Rattle.velocity_make.specs.declared.changes.Change.TheVariants.{TakeOff}
use Rattle.velocity_make.specs.Group.{IsWeighed, is_member, mass_of, mean, members}
use Rattle.velocity_make.specs.Make.{drawn, drawn_all, scaled, settled, stilled, too_fast}

-- velocities alone change
moved_rest : (a : Atom) (v : List ℤ) (test : Bool) → rest_of (cond test (with_velocity a v) a) ≡ rest_of a
moved_rest a v true = refl
moved_rest a v false = refl

pub changed_rest : (ids : List ℕ) (change : Change) (atoms : List Atom) → map rest_of (changed_all ids change atoms) ≡ map rest_of atoms
changed_rest ids change [] = refl
changed_rest ids change (a ∷ atoms) =
    ap (λ (b : Atom). b ∷ map rest_of (changed_all ids change atoms)) (moved_rest a (velocity_after change a.v) (is_member ids a)) ∙ ap (λ (l : List Atom). rest_of a ∷ l) (changed_rest ids change atoms)

moved_same : (a : Atom) (v : List ℤ) (test : Bool) → test ≡ false → cond test (with_velocity a v) a ≡ a
moved_same a v true e = cc
moved_same a v false e = refl

pub drawn_rest : (mass : List ℤ) (dim : ℕ) (ids : List ℕ) (seed : ℕ) (atoms : List Atom) → map rest_of (drawn_all mass dim ids seed atoms) ≡ map rest_of atoms
drawn_rest mass dim ids seed [] = refl
drawn_rest mass dim ids seed (a ∷ atoms) =
    ap (λ (b : Atom). b ∷ map rest_of (drawn_all mass dim ids seed atoms)) (moved_rest a (draw_of dim seed a.id (mass_of mass a)) (is_member ids a)) ∙ ap (λ (l : List Atom). rest_of a ∷ l) (drawn_rest mass dim ids seed atoms)

-- what is told of an atom's type and id stays
moved_weighed : (mass : List ℤ) (ids : List ℕ) (a : Atom) (v : List ℤ) (test : Bool) → IsWeighed mass ids a → IsWeighed mass ids (cond test (with_velocity a v) a)
moved_weighed mass ids a v true h = h
moved_weighed mass ids a v false h = h

pub changed_weighed : (mass : List ℤ) (ids : List ℕ) (change : Change) (atoms : List Atom) → All (IsWeighed mass ids) atoms → All (IsWeighed mass ids) (changed_all ids change atoms)
changed_weighed mass ids change [] h = All-nil (IsWeighed mass ids)
changed_weighed mass ids change (a ∷ atoms) h =
    All-cons (IsWeighed mass ids) (changed ids change a) (changed_all ids change atoms)
    (moved_weighed mass ids a (velocity_after change a.v) (is_member ids a) (All-head (IsWeighed mass ids) a atoms h))
    (changed_weighed mass ids change atoms (All-tail (IsWeighed mass ids) a atoms h))

pub drawn_weighed : (mass : List ℤ) (dim : ℕ) (ids : List ℕ) (seed : ℕ) (atoms : List Atom) → All (IsWeighed mass ids) atoms → All (IsWeighed mass ids) (drawn_all mass dim ids seed atoms)
drawn_weighed mass dim ids seed [] h = All-nil (IsWeighed mass ids)
drawn_weighed mass dim ids seed (a ∷ atoms) h =
    All-cons (IsWeighed mass ids) (drawn mass dim ids seed a) (drawn_all mass dim ids seed atoms)
    (moved_weighed mass ids a (draw_of dim seed a.id (mass_of mass a)) (is_member ids a) (All-head (IsWeighed mass ids) a atoms h))
    (drawn_weighed mass dim ids seed atoms (All-tail (IsWeighed mass ids) a atoms h))

-- a group without ids
pub drawn_none : (mass : List ℤ) (dim seed : ℕ) (atoms : List Atom) → drawn_all mass dim [] seed atoms ≡ atoms
drawn_none mass dim seed [] = refl
drawn_none mass dim seed (a ∷ atoms) = ap (λ (l : List Atom). a ∷ l) (drawn_none mass dim seed atoms)

pub changed_none : (change : Change) (atoms : List Atom) → changed_all [] change atoms ≡ atoms
changed_none change [] = refl
changed_none change (a ∷ atoms) = ap (λ (l : List Atom). a ∷ l) (changed_none change atoms)

pub fast_none : (atoms : List Atom) → too_fast [] atoms ≡ None
fast_none [] = refl
fast_none (a ∷ atoms) = fast_none atoms

-- equal draws
pub same_draw : (mass : List ℤ) (dim : ℕ) (ids : List ℕ) (seed : ℕ) (a b : Atom) → is_member ids a ≡ true → a.id ≡ b.id → mass_of mass a ≡ mass_of mass b
    → (drawn mass dim ids seed a).v ≡ (drawn mass dim ids seed b).v
same_draw mass dim ids seed a b member id weight =
    let other : is_member ids b ≡ true = subst (λ (n : ℕ). list_any (λ i. i == n) ids ≡ true) id member in
    drawn_as a (is_member ids a) member ∙ ap (λ (n : ℕ). draw_of dim seed n (mass_of mass a)) id ∙ ap (λ (m : ℤ). draw_of dim seed b.id m) weight ∙ sym (drawn_as b (is_member ids b) other)
  where
    drawn_as : (x : Atom) (test : Bool) → test ≡ true → (cond test (with_velocity x (draw_of dim seed x.id (mass_of mass x))) x).v ≡ draw_of dim seed x.id (mass_of mass x)
    drawn_as x true e = refl
    drawn_as x false e = cc

-- what is made, by the parts of a call
pub stilled_is : (mass : List ℤ) (ids : List ℕ) (atoms : List Atom) (u : List ℤ) → u ≡ mean mass (members ids atoms) → changed_all ids (TakeOff u) atoms ≡ stilled mass ids atoms
unfolding stilled
stilled_is mass ids atoms u is = ap (λ (w : List ℤ). changed_all ids (TakeOff w) atoms) is

pub scaled_is : (mass : List ℤ) (dim : ℕ) (ids : List ℕ) (t given : ℤ) (atoms : List Atom) (change : Change) → given ≡ t → change ≡ scaling given (kinetic_sum mass (members ids atoms)) (freedom dim (length (members ids atoms)))
    → changed_all ids change atoms ≡ scaled mass dim ids t atoms
unfolding scaled
scaled_is mass dim ids t given atoms change same is =
    ap (λ (c : Change). changed_all ids c atoms) (is ∙ ap (λ (u : ℤ). scaling u (kinetic_sum mass (members ids atoms)) (freedom dim (length (members ids atoms)))) same)

pub settled_moving : (mass : List ℤ) (ids : List ℕ) (still : Bool) (atoms : List Atom) → still ≡ false → atoms ≡ settled mass ids still atoms
unfolding settled
settled_moving mass ids still atoms moving = sym (ap (λ (b : Bool). cond b (stilled mass ids atoms) atoms) moving)

pub settled_still : (mass : List ℤ) (ids : List ℕ) (still : Bool) (atoms : List Atom) → still ≡ true → stilled mass ids atoms ≡ settled mass ids still atoms
unfolding settled
settled_still mass ids still atoms e = sym (ap (λ (b : Bool). cond b (stilled mass ids atoms) atoms) e)

pub stilled_weighed : (mass : List ℤ) (ids : List ℕ) (atoms : List Atom) → All (IsWeighed mass ids) atoms → All (IsWeighed mass ids) (stilled mass ids atoms)
unfolding stilled
stilled_weighed mass ids atoms h = changed_weighed mass ids (TakeOff (mean mass (members ids atoms))) atoms h

pub stilled_rest : (mass : List ℤ) (ids : List ℕ) (atoms : List Atom) → map rest_of (stilled mass ids atoms) ≡ map rest_of atoms
unfolding stilled
stilled_rest mass ids atoms = changed_rest ids (TakeOff (mean mass (members ids atoms))) atoms
