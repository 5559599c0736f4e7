-- Sums over a group: sums over all atoms of what each brings, and how large a mean is.
use Rattle.std.proofs.Common.{◌≡◌, ◌∙◌, ◌==◌, ◌^◌, ◌+◌, ◌*◌, ◌<◌, ◌≤◌, true, false, cond, Bool, ℕ, zero, suc, ℤ, pos, ◌+ℤ◌, ◌*ℤ◌, ◌≤ℤ◌, unsigned_abs, List, [], ◌∷◌, length, take, slice_index_or, All, refl, sym, ap, subst, arith}
use Rattle.std.proofs.lemmas.Int.{ints, unsigned_abs-mul}
use Rattle.std.proofs.lemmas.List.{take_all}
use Rattle.std.proofs.lemmas.List.Elements.{All-head, All-tail}
use Rattle.std.proofs.Math.Nat.{mul-le-mul_left}
use Rattle.box_geo.specs.declared.atoms.Atom.{Atom}
use Rattle.fx_num.specs.Rounding.{div_rounded}
use Rattle.sums.specs.Totals.{total}
use Rattle.sums.proofs.Totals.{total-filter}
use Rattle.computes.specs.Quantities.{IsSlow}
use Rattle.computes.proofs.QuotientLemmas.{quotient_bound}
use Rattle.velocity_make.specs.Group.{IsWeighed, is_member, mass_of, mean_along, members, momentum, momentum_of, of_group, velocity_of, whole_mass}

-- a sum over the group
pub group_sum : (ids : List ℕ) (f : Atom → ℤ) (atoms : List Atom) (i : ℕ) (sum : ℤ) → length atoms ≤ i → sum ≡ total (of_group ids f) (take i atoms) → sum ≡ total f (members ids atoms)
group_sum ids f atoms i sum high is = is ∙ ap (total (of_group ids f)) (take_all i atoms high) ∙ sym (total-filter f (is_member ids) atoms)

-- the momentum of slow atoms is at most their mass times the bound of speeds
record Within (mass : List ℤ) (axis bound : ℕ) (atoms : List Atom) : Type 0 where
  low : pos 0 ≤ℤ whole_mass mass atoms
  part : unsigned_abs (momentum mass axis atoms) ≤ bound * unsigned_abs (whole_mass mass atoms)

times_within : (m v : ℤ) (bound : ℕ) → unsigned_abs v ≤ bound → unsigned_abs (m *ℤ v) ≤ bound * unsigned_abs m
times_within m v bound slow = omega (arith, unsigned_abs-mul m v, mul-le-mul_left (unsigned_abs m) slow)

both_within : (m w p q : ℤ) (bound : ℕ) → pos 0 ≤ℤ m → pos 0 ≤ℤ w → unsigned_abs p ≤ bound * unsigned_abs m → unsigned_abs q ≤ bound * unsigned_abs w
    → unsigned_abs (p +ℤ q) ≤ bound * unsigned_abs (m +ℤ w)
both_within m w p q bound low rest first others =
    let whole : unsigned_abs (m +ℤ w) ≡ unsigned_abs m + unsigned_abs w = omega (arith, ints) in
    let parted : bound * unsigned_abs (m +ℤ w) ≡ bound * unsigned_abs m + bound * unsigned_abs w = omega (arith, ap (λ (n : ℕ). bound * n) whole) in
    let sides : unsigned_abs (p +ℤ q) ≤ unsigned_abs p + unsigned_abs q = omega (arith, ints) in
    omega arith

within_more : (mass : List ℤ) (axis bound : ℕ) (a : Atom) (atoms : List Atom) (test : Bool) → (test ≡ true → pos 0 ≤ℤ mass_of mass a) → (test ≡ true → unsigned_abs (slice_index_or a.v axis (pos 0)) ≤ bound)
    → Within mass axis bound atoms → Within mass axis bound (cond test (a ∷ atoms) atoms)
within_more mass axis bound a atoms true weighed slow h = record {
  low = omega (arith, ints, weighed refl, h.low);
  part = both_within (mass_of mass a) (whole_mass mass atoms) (momentum_of mass axis a) (momentum mass axis atoms) bound (weighed refl) h.low (times_within (mass_of mass a) (slice_index_or a.v axis (pos 0)) bound (slow refl)) h.part;
}
within_more mass axis bound a atoms false weighed slow h = h

-- the atom is not of the group, or its velocity along an axis is at most the bound
abbrev pub IsSlowAlong : List ℕ → ℕ → ℕ → Atom → Type 0
IsSlowAlong ids axis bound a = is_member ids a ≡ true → unsigned_abs (slice_index_or a.v axis (pos 0)) ≤ bound

within : (mass : List ℤ) (ids : List ℕ) (axis bound : ℕ) (atoms : List Atom) → All (IsWeighed mass ids) atoms → All (IsSlowAlong ids axis bound) atoms → Within mass axis bound (members ids atoms)
within mass ids axis bound [] weighed slow = record { low = omega (arith, ints); part = omega arith }
within mass ids axis bound (a ∷ atoms) weighed slow =
    within_more mass axis bound a (members ids atoms) (is_member ids a)
    (λ e. let h = All-head (IsWeighed mass ids) a atoms weighed e in omega (arith, ints, h.2))
    (All-head (IsSlowAlong ids axis bound) a atoms slow)
    (within mass ids axis bound atoms (All-tail (IsWeighed mass ids) a atoms weighed) (All-tail (IsSlowAlong ids axis bound) a atoms slow))

pub momentum_within : (mass : List ℤ) (ids : List ℕ) (axis bound : ℕ) (atoms : List Atom) → All (IsWeighed mass ids) atoms → All (IsSlowAlong ids axis bound) atoms
    → unsigned_abs (momentum mass axis (members ids atoms)) ≤ bound * unsigned_abs (whole_mass mass (members ids atoms))
momentum_within mass ids axis bound atoms weighed slow = (within mass ids axis bound atoms weighed slow).part

-- and so is the mean at most the bound
some_from : (m : ℕ) → (m == 0) ≡ false → 0 < m
some_from m e = grind arith

quotient_within : (t : Bool) (p : ℤ) (m bound : ℕ) → (t ≡ false → 0 < m) → unsigned_abs p ≤ bound * m → unsigned_abs (cond t (pos 0) (div_rounded p (pos m))) ≤ bound
quotient_within true p m bound some h = omega arith
quotient_within false p m bound some h = quotient_bound p m bound (some refl) h

none_from : (m : ℕ) → 0 < m → (m == 0) ≡ false
none_from m some = grind arith

pub velocity_some : (p : ℤ) (m : ℕ) → 0 < m → velocity_of p (pos m) ≡ div_rounded p (pos m)
unfolding velocity_of
velocity_some p m some = ap (λ (t : Bool). cond t (pos 0) (div_rounded p (pos m))) (none_from m some)

velocity_within : (p : ℤ) (m bound : ℕ) → unsigned_abs p ≤ bound * m → unsigned_abs (velocity_of p (pos m)) ≤ bound
unfolding velocity_of
velocity_within p m bound h = quotient_within (m == 0) p m bound (λ e. some_from m e) h

pub mean_within : (mass : List ℤ) (ids : List ℕ) (axis bound : ℕ) (atoms : List Atom) → All (IsWeighed mass ids) atoms → All (IsSlowAlong ids axis bound) atoms
    → unsigned_abs (mean_along mass axis (members ids atoms)) ≤ bound
mean_within mass ids axis bound atoms weighed slow =
    let h = within mass ids axis bound atoms weighed slow in
    let m : ℤ = whole_mass mass (members ids atoms) in
    let positive : m ≡ pos (unsigned_abs m) = omega (arith, ints, h.low) in
    subst (λ (w : ℤ). unsigned_abs (velocity_of (momentum mass axis (members ids atoms)) w) ≤ bound) (sym positive) (velocity_within (momentum mass axis (members ids atoms)) (unsigned_abs m) bound h.part)

-- an atom within the limit of speeds is so along each axis
pub slow_along : (axis : ℕ) (a : Atom) → axis < 3 → IsSlow a → unsigned_abs (slice_index_or a.v axis (pos 0)) ≤ 2 ^ 32
slow_along zero a few h = h.0
slow_along (suc zero) a few h = h.1
slow_along (suc (suc zero)) a few h = h.2
slow_along (suc (suc (suc n))) a few h = absurd (omega (arith, few))
