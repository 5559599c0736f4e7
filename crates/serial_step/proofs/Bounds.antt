-- How large the sums over pairs are: the energy by the greatest depth of a well, the virial by the edges of the box.
use Rattle.std.proofs.Common.{◌≡◌, ⊎_elim, ◌+◌, ◌*◌, ◌^◌, ◌<◌, ◌≤◌, ◌==◌, Bool, true, false, cond, nat_le, ℕ, zero, suc, ℤ, pos, ◌+ℤ◌, ◌-ℤ◌, ◌*ℤ◌, ◌<ℤ◌, unsigned_abs, Option, Some, None, Result, Ok, Err, IfOk, IfSome, List, [], ◌∷◌, ◌++◌, length, map, refl, ap, ◌∙◌, arith}
use Rattle.std.specs.List.{All}
use Rattle.std.proofs.lemmas.Int.{ints, unsigned_abs-mul}
use Rattle.std.proofs.lemmas.Nat.{mul-le}
use Rattle.std.proofs.lemmas.Bool.{cases_lt}
use Rattle.std.proofs.lemmas.Bool.Decides.{nat_tests}
use Rattle.std.proofs.lemmas.List.{length-append, length-map}
use Rattle.std.proofs.lemmas.List.Elements.{All-nil, All-head, All-tail, All-append, All-weaker, All-map}
use Rattle.fx_num.specs.Rounding.{nearest_of, shr_rounded}
use Rattle.fx_num.proofs.RoundingLemmas.{nearest_of-le, unsigned_abs-div_rounded}
use Rattle.box_geo.specs.declared.atoms.Atom.{Atom}
use Rattle.box_geo.specs.declared.sim_box.Sides.{Sides}
use Rattle.box_geo.specs.declared.sim_box.Extent.{Extent}
use Rattle.box_geo.specs.declared.term.Term.{Term}
use Rattle.box_geo.specs.Sides.{x_of, y_of, z_of, edge, Holds, IsInside, near_along, near_image, length2, z_wraps}
use Rattle.box_geo.proofs.NearLemmas.{apart, has_edge}
use Rattle.pair_lj.specs.declared.close.Close.{Close}
use Rattle.pair_lj.specs.declared.pair_settings.PairCoefficients.{PairCoefficients}
use Rattle.box_geo.specs.Terms.{dot, is_too_strong, IsModerate}
use Rattle.pair_lj.specs.PairTerm.{inverse_square, sixth_power, twelfth_power, strength, energy_at, force_along, is_too_near, weighted_term, pair_term}
use Rattle.pair_lj.specs.Pairs.{IsSoundPair, PairNumbers, numbers_at}
use Rattle.pair_lj.proofs.PairLemmas.{force_along-weighted}
use Rattle.pair_lj.proofs.SetLemmas.{numbers_small}
use Rattle.sums.specs.Totals.{total, half}
use Rattle.serial_step.specs.Forces.{Field, field_of, term_with, term_apart, term_of, energy_of, virial_of, pair_energy, pair_virial}

-- a sum of numbers that are each at most the bound
pub total-within_all : {X : Type 0} (f : X → ℤ) (bound : ℕ) (xs : List X) → All (λ x. unsigned_abs (f x) ≤ bound) xs → unsigned_abs (total f xs) ≤ bound * length xs
total-within_all f bound [] small = omega arith
total-within_all f bound (x ∷ xs) small =
    let first : unsigned_abs (f x) ≤ bound = All-head (λ y. unsigned_abs (f y) ≤ bound) x xs small in
    let rest : unsigned_abs (total f xs) ≤ bound * length xs = total-within_all f bound xs (All-tail (λ y. unsigned_abs (f y) ≤ bound) x xs small) in
    omega (arith, ints)

pub total-within : {X : Type 0} (f : X → ℤ) (bound : ℕ) (xs : List X) → ((x : X) → unsigned_abs (f x) ≤ bound) → unsigned_abs (total f xs) ≤ bound * length xs
total-within f bound xs small = total-within_all f bound xs (λ k d lt. small _)

-- how many pairs there are
squared : (n h : ℕ) → 2 * h ≤ n * n → 2 * (n + h) ≤ suc n * suc n
squared n h low = grind arith

pub length-half : {X : Type 0} (xs : List X) → 2 * length (half xs) ≤ length xs * length xs
length-half [] = omega arith
length-half (x ∷ xs) =
    let all : length (map (λ y. (x, y)) xs ++ half xs) ≡ length xs + length (half xs) = length-append (map (λ y. (x, y)) xs) (half xs) ∙ ap (λ (n : ℕ). n + length (half xs)) (length-map xs (λ y. (x, y))) in
    omega (arith, squared (length xs) (length (half xs)) (length-half xs))

-- what holds of each element holds of both of each pair
pub All-half : {X : Type 0} (P : X → Type 0) (xs : List X) → All P xs → All (λ p. P p.0 × P p.1) (half xs)
All-half P [] all = All-nil (λ p. P p.0 × P p.1)
All-half P (x ∷ xs) all =
    let one : P x = All-head P x xs all in
    let rest : All P xs = All-tail P x xs all in
    All-append (λ p. P p.0 × P p.1) (map (λ y. (x, y)) xs) (half xs)
    (All-map (λ p. P p.0 × P p.1) (λ y. (x, y)) xs (All-weaker P (λ y. P x × P y) (λ y h. (one, h)) xs rest))
    (All-half P xs rest)

-- a fact of a term that the tests of its pair allow
abbrev outcome : Bool → Bool → Bool → Term → Result (Option Term) Close
outcome far near strong t = cond far (Ok None) (cond near (Err record {}) (cond strong (Err record {}) (Ok (Some t))))

abbrev HasTerm : (Term → Type 0) → Result (Option Term) Close → Type 0
HasTerm P r = IfOk r (λ o. IfSome o P)

outcome_has : (P : Term → Type 0) (far near strong : Bool) (t : Term) → (near ≡ false → strong ≡ false → P t) → HasTerm P (outcome far near strong t)
outcome_has P true near strong t h = tt
outcome_has P false true strong t h = tt
outcome_has P false false true t h = tt
outcome_has P false false false t h = h refl refl

-- the energy of a pair that is not too near
sixth_small : (w : ℕ) → w ≤ 2 ^ 36 → nearest_of (w * w * w) (2 ^ 64) ≤ 2 ^ 44
sixth_small w low =
    let two : w * w ≤ 2 ^ 36 * 2 ^ 36 = mul-le w w (2 ^ 36) (2 ^ 36) low low in
    let three : w * w * w ≤ 2 ^ 36 * 2 ^ 36 * 2 ^ 36 = mul-le (w * w) w (2 ^ 36 * 2 ^ 36) (2 ^ 36) two low in
    nearest_of-le (w * w * w) (2 ^ 64) (2 ^ 44) (omega arith) (omega arith)

twelfth_small : (s : ℕ) → s ≤ 2 ^ 44 → nearest_of (s * s) (2 ^ 32) ≤ 2 ^ 56
twelfth_small s low = nearest_of-le (s * s) (2 ^ 32) (2 ^ 56) (omega arith) (omega (arith, mul-le s s (2 ^ 44) (2 ^ 44) low low))

wide : (sigma r2 : ℕ) → is_too_near sigma r2 ≡ false → inverse_square sigma r2 ≤ 2 ^ 36
wide sigma r2 apart = grind (arith, nat_tests)

powers_small : (sigma r2 : ℕ) → is_too_near sigma r2 ≡ false → (sixth_power sigma r2 ≤ 2 ^ 44) × (twelfth_power sigma r2 ≤ 2 ^ 56)
unfolding twelfth_power sixth_power
powers_small sigma r2 apart =
    let sixth : sixth_power sigma r2 ≤ 2 ^ 44 = sixth_small (inverse_square sigma r2) (wide sigma r2 apart) in
    (sixth, twelfth_small (sixth_power sigma r2) sixth)

gap_small : (s t : ℕ) → s ≤ 2 ^ 44 → t ≤ 2 ^ 56 → unsigned_abs (pos t -ℤ pos s) ≤ 2 ^ 56
gap_small s t low high = omega (arith, ints)

shifted_small : (a : ℤ) (k m : ℕ) → 0 < 2 ^ k → unsigned_abs a ≤ m * 2 ^ k → unsigned_abs (shr_rounded a k) ≤ m
shifted_small a k m some low = omega (arith, unsigned_abs-div_rounded a (pos (2 ^ k)), nearest_of-le (unsigned_abs a) (2 ^ k) m some low)

energy_small : (eps sigma r2 : ℕ) → eps ≤ 2 ^ 32 → is_too_near sigma r2 ≡ false → unsigned_abs (energy_at eps sigma r2) ≤ 2 ^ 58
unfolding energy_at
energy_small eps sigma r2 weak apart =
    let powers = powers_small sigma r2 apart in
    let gap : ℤ = pos (twelfth_power sigma r2) -ℤ pos (sixth_power sigma r2) in
    let small : unsigned_abs gap ≤ 2 ^ 56 = gap_small (sixth_power sigma r2) (twelfth_power sigma r2) powers.0 powers.1 in
    let product : unsigned_abs (pos (4 * eps) *ℤ gap) ≡ 4 * eps * unsigned_abs gap = unsigned_abs-mul (pos (4 * eps)) gap in
    let bound : 4 * eps * unsigned_abs gap ≤ 4 * 2 ^ 32 * 2 ^ 56 = mul-le (4 * eps) (unsigned_abs gap) (4 * 2 ^ 32) (2 ^ 56) (omega arith) small in
    shifted_small (pos (4 * eps) *ℤ gap) 32 (2 ^ 58) (omega arith) (omega arith)

weighted_small : (e : ℤ) (weight m : ℕ) → weight ≤ 2 ^ 24 → unsigned_abs e ≤ m → unsigned_abs (shr_rounded (e *ℤ pos weight) 24) ≤ m
weighted_small e weight m light small =
    let product : unsigned_abs (e *ℤ pos weight) ≡ unsigned_abs e * weight = unsigned_abs-mul e (pos weight) in
    let bound : unsigned_abs e * weight ≤ m * 2 ^ 24 = mul-le (unsigned_abs e) weight m (2 ^ 24) small light in
    shifted_small (e *ℤ pos weight) 24 m (omega arith) (omega arith)

abbrev HasEnergyWithin : ℕ → Term → Type 0
HasEnergyWithin bound t = unsigned_abs t.energy ≤ bound

pair_term-energy : (eps sigma cut weight : ℕ) (d : List ℤ) → eps ≤ 2 ^ 32 → weight ≤ 2 ^ 24
    → HasTerm (HasEnergyWithin (2 ^ 58)) (pair_term eps sigma cut (pos 0) weight d)
unfolding pair_term weighted_term
pair_term-energy eps sigma cut weight d weak light =
    let e : ℤ = energy_at eps sigma (length2 d) in
    outcome_has (HasEnergyWithin (2 ^ 58)) (nat_le (cut * cut) (length2 d)) (is_too_near sigma (length2 d)) (is_too_strong (force_along (strength eps sigma (length2 d)) d))
    (weighted_term (strength eps sigma (length2 d)) (e -ℤ pos 0) weight d)
    (λ apart mild. weighted_small (e -ℤ pos 0) weight (2 ^ 58) light (same_size e (2 ^ 58) (energy_small eps sigma (length2 d) weak apart)))
  where
    same_size : (a : ℤ) (m : ℕ) → unsigned_abs a ≤ m → unsigned_abs (a -ℤ pos 0) ≤ m
    same_size a m small = omega (arith, ints)

-- what holds of each pair term holds of the term of two atoms
term_with-has : (P : Term → Type 0) (w : ℕ) (k : Option PairNumbers) (d : List ℤ)
    → ((n : PairNumbers) → k ≡ Some n → HasTerm P (pair_term n.epsilon n.sigma n.cutoff (pos 0) w d)) → HasTerm P (term_with w k d)
term_with-has P zero k d has = tt
term_with-has P (suc w) None d has = tt
term_with-has P (suc w) (Some n) d has = has n refl

term_apart-has : (P : Term → Type 0) (same : Bool) (w : ℕ) (k : Option PairNumbers) (d : List ℤ)
    → ((n : PairNumbers) → k ≡ Some n → HasTerm P (pair_term n.epsilon n.sigma n.cutoff (pos 0) w d)) → HasTerm P (term_apart same w k d)
term_apart-has P true w k d has = tt
term_apart-has P false w k d has = term_with-has P w k d has

energy_of-within : (r : Result (Option Term) Close) (bound : ℕ) → HasTerm (HasEnergyWithin bound) r → unsigned_abs (energy_of r) ≤ bound
energy_of-within (Ok (Some t)) bound h = h
energy_of-within (Ok None) bound h = omega arith
energy_of-within (Err close) bound h = omega arith

-- the energy of a field whose numbers keep to their limits
pub term_energy-within : (pairs : List PairCoefficients) (s : Sides) (i j : Atom) → All IsSoundPair pairs → unsigned_abs (energy_of (term_of (field_of pairs) s i j)) ≤ 2 ^ 58
unfolding term_of
term_energy-within pairs s i j sound =
    energy_of-within (term_of (field_of pairs) s i j) (2 ^ 58)
    (term_apart-has (HasEnergyWithin (2 ^ 58)) (i.id == j.id) (2 ^ 24) (numbers_at pairs i.kind j.kind) (near_image s i.x j.x)
    (λ n is. pair_term-energy n.epsilon n.sigma n.cutoff (2 ^ 24) (near_image s i.x j.x) (numbers_small pairs i.kind j.kind n sound is).epsilon (omega arith)))

pub pair_energy-within : (pairs : List PairCoefficients) (s : Sides) (atoms : List Atom) → All IsSoundPair pairs → unsigned_abs (pair_energy (field_of pairs) s atoms) ≤ 2 ^ 58 * length (half atoms)
unfolding pair_energy
pair_energy-within pairs s atoms sound =
    total-within (λ p. energy_of (term_of (field_of pairs) s p.0 p.1)) (2 ^ 58) (half atoms) (λ p. term_energy-within pairs s p.0 p.1 sound)

-- the nearest image is no longer than the edges
near_along-within : (wraps : Bool) (length d : ℤ) → pos 0 <ℤ length → unsigned_abs d < unsigned_abs length → unsigned_abs (near_along wraps length d) ≤ unsigned_abs length
near_along-within false length d some within = omega arith
near_along-within true length d some within = grind (arith, ints)

span : (wraps : Bool) (e : Extent) (a b : ℤ) → Holds e a → Holds e b → unsigned_abs (near_along wraps (edge e) (a -ℤ b)) ≤ unsigned_abs (edge e)
span wraps e a b h g = near_along-within wraps (edge e) (a -ℤ b) (has_edge e a h) (apart e a b h g)

abbrev IsSpannedBy : Sides → List ℤ → Type 0
IsSpannedBy s d = (unsigned_abs (x_of d) ≤ unsigned_abs (edge s.x)) × (unsigned_abs (y_of d) ≤ unsigned_abs (edge s.y)) × (unsigned_abs (z_of d) ≤ unsigned_abs (edge s.z))

near_image-spanned : (s : Sides) (a b : List ℤ) → IsInside s a → IsInside s b → IsSpannedBy s (near_image s a b)
unfolding near_image
near_image-spanned s a b h g =
    (span s.x.periodic s.x (x_of a) (x_of b) h.0 g.0, span s.y.periodic s.y (y_of a) (y_of b) h.1 g.1, span (z_wraps s) s.z (z_of a) (z_of b) h.2 g.2)

-- the edges of the box, one after another
abbrev pub edges_of : Sides → ℕ
edges_of s = unsigned_abs (edge s.x) + unsigned_abs (edge s.y) + unsigned_abs (edge s.z)

work_within : (x f : ℤ) (m : ℕ) → unsigned_abs x ≤ m → unsigned_abs f ≤ 2 ^ 42 → unsigned_abs (x *ℤ f) ≤ 2 ^ 42 * m
work_within x f m short mild =
    let product : unsigned_abs (x *ℤ f) ≡ unsigned_abs x * unsigned_abs f = unsigned_abs-mul x f in
    let bound : unsigned_abs x * unsigned_abs f ≤ m * 2 ^ 42 = mul-le (unsigned_abs x) (unsigned_abs f) m (2 ^ 42) short mild in
    omega arith

sum_within : (a b c : ℤ) (x y z : ℕ) → unsigned_abs a ≤ 2 ^ 42 * x → unsigned_abs b ≤ 2 ^ 42 * y → unsigned_abs c ≤ 2 ^ 42 * z → unsigned_abs (a +ℤ b +ℤ c) ≤ 2 ^ 42 * (x + y + z)
sum_within a b c x y z f g h = omega (arith, ints)

dot_within : (s : Sides) (d f : List ℤ) → IsSpannedBy s d → IsModerate f → unsigned_abs (dot d f) ≤ 2 ^ 42 * edges_of s
dot_within s d f short mild =
    sum_within (x_of d *ℤ x_of f) (y_of d *ℤ y_of f) (z_of d *ℤ z_of f) (unsigned_abs (edge s.x)) (unsigned_abs (edge s.y)) (unsigned_abs (edge s.z))
    (work_within (x_of d) (x_of f) (unsigned_abs (edge s.x)) short.0 mild.0)
    (work_within (y_of d) (y_of f) (unsigned_abs (edge s.y)) short.1 mild.1)
    (work_within (z_of d) (z_of f) (unsigned_abs (edge s.z)) short.2 mild.2)

abbrev HasVirialWithin : ℕ → Term → Type 0
HasVirialWithin bound t = unsigned_abs t.virial ≤ bound

pair_term-virial : (s : Sides) (eps sigma cut weight : ℕ) (d : List ℤ) → IsSpannedBy s d → weight ≤ 2 ^ 24
    → HasTerm (HasVirialWithin (2 ^ 42 * edges_of s)) (pair_term eps sigma cut (pos 0) weight d)
unfolding pair_term weighted_term
pair_term-virial s eps sigma cut weight d short light =
    let c : ℤ = strength eps sigma (length2 d) in
    outcome_has (HasVirialWithin (2 ^ 42 * edges_of s)) (nat_le (cut * cut) (length2 d)) (is_too_near sigma (length2 d)) (is_too_strong (force_along c d))
    (weighted_term c (energy_at eps sigma (length2 d) -ℤ pos 0) weight d)
    (λ apart mild. dot_within s d (force_along (shr_rounded (c *ℤ pos weight) 24) d) short (force_along-weighted c weight d light mild))

virial_of-within : (r : Result (Option Term) Close) (bound : ℕ) → HasTerm (HasVirialWithin bound) r → unsigned_abs (virial_of r) ≤ bound
virial_of-within (Ok (Some t)) bound h = h
virial_of-within (Ok None) bound h = omega arith
virial_of-within (Err close) bound h = omega arith

-- no special weight is above 1
abbrev pub IsLight : Field → Type 0
IsLight field = (a b : ℕ) → field.weight a b ≤ 2 ^ 24

pub field_of-light : (pairs : List PairCoefficients) → IsLight (field_of pairs)
field_of-light pairs a b = omega arith

pub term_virial-within : (field : Field) (s : Sides) (i j : Atom) → IsLight field → IsInside s i.x → IsInside s j.x → unsigned_abs (virial_of (term_of field s i j)) ≤ 2 ^ 42 * edges_of s
unfolding term_of
term_virial-within field s i j light inside other =
    virial_of-within (term_of field s i j) (2 ^ 42 * edges_of s)
    (term_apart-has (HasVirialWithin (2 ^ 42 * edges_of s)) (i.id == j.id) (field.weight i.id j.id) (numbers_at field.pairs i.kind j.kind) (near_image s i.x j.x)
    (λ n is. pair_term-virial s n.epsilon n.sigma n.cutoff (field.weight i.id j.id) (near_image s i.x j.x) (near_image-spanned s i.x j.x inside other) (light i.id j.id)))

pub pair_virial-within : (field : Field) (s : Sides) (atoms : List Atom) → IsLight field → All (λ a. IsInside s a.x) atoms
    → unsigned_abs (pair_virial field s atoms) ≤ 2 ^ 42 * edges_of s * length (half atoms)
unfolding pair_virial
pair_virial-within field s atoms light inside =
    total-within_all (λ p. virial_of (term_of field s p.0 p.1)) (2 ^ 42 * edges_of s) (half atoms)
    (All-weaker (λ p. IsInside s p.0.x × IsInside s p.1.x) (λ p. unsigned_abs (virial_of (term_of field s p.0 p.1)) ≤ 2 ^ 42 * edges_of s)
    (λ p both. term_virial-within field s p.0 p.1 light both.0 both.1) (half atoms) (All-half (λ a. IsInside s a.x) atoms inside))

-- nothing acts at a distance of 2^28 or more, so each component of a displacement that acts is shorter
outcome_near : (P : Term → Type 0) (far near strong : Bool) (t : Term) → (far ≡ false → near ≡ false → strong ≡ false → P t) → HasTerm P (outcome far near strong t)
outcome_near P true near strong t h = tt
outcome_near P false true strong t h = tt
outcome_near P false false true t h = tt
outcome_near P false false false t h = h refl refl refl

root_below : (x : ℕ) → x * x ≤ 2 ^ 56 → x ≤ 2 ^ 28
root_below x low = ⊎_elim (λ (long : 2 ^ 28 < x). absurd (omega (arith, mul-le (2 ^ 28 + 1) (2 ^ 28 + 1) x x (omega arith) (omega arith)))) (λ short. short) (cases_lt (2 ^ 28) x)

squares_below : (x y z cut : ℕ) → cut ≤ 2 ^ 28 → nat_le (cut * cut) (x * x + y * y + z * z) ≡ false → (x * x ≤ 2 ^ 56) × (y * y ≤ 2 ^ 56) × (z * z ≤ 2 ^ 56)
squares_below x y z cut short near =
    let most : cut * cut ≤ 2 ^ 28 * 2 ^ 28 = mul-le cut cut (2 ^ 28) (2 ^ 28) short short in
    let below : x * x + y * y + z * z < cut * cut = grind (arith, nat_tests) in
    (omega arith, omega arith, omega arith)

abbrev IsShort : List ℤ → Type 0
IsShort d = (unsigned_abs (x_of d) ≤ 2 ^ 28) × (unsigned_abs (y_of d) ≤ 2 ^ 28) × (unsigned_abs (z_of d) ≤ 2 ^ 28)

short_within : (d : List ℤ) (cut : ℕ) → cut ≤ 2 ^ 28 → nat_le (cut * cut) (length2 d) ≡ false → IsShort d
short_within d cut short near =
    let below = squares_below (unsigned_abs (x_of d)) (unsigned_abs (y_of d)) (unsigned_abs (z_of d)) cut short near in
    (root_below (unsigned_abs (x_of d)) below.0, root_below (unsigned_abs (y_of d)) below.1, root_below (unsigned_abs (z_of d)) below.2)

dot_short : (d f : List ℤ) → IsShort d → IsModerate f → unsigned_abs (dot d f) ≤ 3 * 2 ^ 70
dot_short d f short mild =
    let all : unsigned_abs (dot d f) ≤ 2 ^ 42 * (2 ^ 28 + 2 ^ 28 + 2 ^ 28) =
    sum_within (x_of d *ℤ x_of f) (y_of d *ℤ y_of f) (z_of d *ℤ z_of f) (2 ^ 28) (2 ^ 28) (2 ^ 28)
    (work_within (x_of d) (x_of f) (2 ^ 28) short.0 mild.0)
    (work_within (y_of d) (y_of f) (2 ^ 28) short.1 mild.1)
    (work_within (z_of d) (z_of f) (2 ^ 28) short.2 mild.2) in
    omega arith

pair_term-reached : (eps sigma cut weight : ℕ) (d : List ℤ) → cut ≤ 2 ^ 28 → weight ≤ 2 ^ 24
    → HasTerm (HasVirialWithin (3 * 2 ^ 70)) (pair_term eps sigma cut (pos 0) weight d)
unfolding pair_term weighted_term
pair_term-reached eps sigma cut weight d short light =
    let c : ℤ = strength eps sigma (length2 d) in
    outcome_near (HasVirialWithin (3 * 2 ^ 70)) (nat_le (cut * cut) (length2 d)) (is_too_near sigma (length2 d)) (is_too_strong (force_along c d))
    (weighted_term c (energy_at eps sigma (length2 d) -ℤ pos 0) weight d)
    (λ near apart mild. dot_short d (force_along (shr_rounded (c *ℤ pos weight) 24) d) (short_within d cut short near) (force_along-weighted c weight d light mild))

term_virial-reached : (pairs : List PairCoefficients) (s : Sides) (i j : Atom) → All IsSoundPair pairs → unsigned_abs (virial_of (term_of (field_of pairs) s i j)) ≤ 3 * 2 ^ 70
unfolding term_of
term_virial-reached pairs s i j sound =
    virial_of-within (term_of (field_of pairs) s i j) (3 * 2 ^ 70)
    (term_apart-has (HasVirialWithin (3 * 2 ^ 70)) (i.id == j.id) (2 ^ 24) (numbers_at pairs i.kind j.kind) (near_image s i.x j.x)
    (λ n is. pair_term-reached n.epsilon n.sigma n.cutoff (2 ^ 24) (near_image s i.x j.x) (numbers_small pairs i.kind j.kind n sound is).cutoff (omega arith)))

-- a virial by the greatest cutoff, whatever the edges
pub pair_virial-reached : (pairs : List PairCoefficients) (s : Sides) (atoms : List Atom) → All IsSoundPair pairs → unsigned_abs (pair_virial (field_of pairs) s atoms) ≤ 3 * 2 ^ 70 * length (half atoms)
unfolding pair_virial
pair_virial-reached pairs s atoms sound =
    total-within (λ p. virial_of (term_of (field_of pairs) s p.0 p.1)) (3 * 2 ^ 70) (half atoms) (λ p. term_virial-reached pairs s p.0 p.1 sound)

-- for as many atoms as there may be
few_pairs : (n h : ℕ) → n ≤ 2 ^ 20 → 2 * h ≤ n * n → (h ≤ n * 2 ^ 19) × (h ≤ 2 ^ 39)
few_pairs n h few low =
    let most : n * n ≤ n * 2 ^ 20 = mul-le n n n (2 ^ 20) (omega arith) few in
    (omega arith, omega arith)

pub pair_energy-small : (pairs : List PairCoefficients) (s : Sides) (atoms : List Atom) → All IsSoundPair pairs → length atoms ≤ 2 ^ 20 → unsigned_abs (pair_energy (field_of pairs) s atoms) ≤ length atoms * 2 ^ 79
pair_energy-small pairs s atoms sound few =
    let most : length (half atoms) ≤ length atoms * 2 ^ 19 = (few_pairs (length atoms) (length (half atoms)) few (length-half atoms)).0 in
    omega (arith, pair_energy-within pairs s atoms sound)

pub pair_virial-small : (pairs : List PairCoefficients) (s : Sides) (atoms : List Atom) → length atoms ≤ 2 ^ 20 → All (λ a. IsInside s a.x) atoms
    → unsigned_abs (pair_virial (field_of pairs) s atoms) ≤ 2 ^ 81 * edges_of s
pair_virial-small pairs s atoms few inside =
    let some : length (half atoms) ≤ 2 ^ 39 = (few_pairs (length atoms) (length (half atoms)) few (length-half atoms)).1 in
    let most : 2 ^ 42 * edges_of s * length (half atoms) ≤ 2 ^ 42 * edges_of s * 2 ^ 39 = mul-le (2 ^ 42 * edges_of s) (length (half atoms)) (2 ^ 42 * edges_of s) (2 ^ 39) (omega arith) some in
    omega (arith, pair_virial-within (field_of pairs) s atoms (field_of-light pairs) inside)
