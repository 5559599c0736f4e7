-- The rows of sections. Each is judged against the rows before it: the number of its words, its numbers, their limits, and what was met.
use Rattle.std.specs.Prelude.{◌==◌, ◌≤◌, ◌&&◌, ◌||◌, ◌+◌, ◌-◌, ◌^◌, Bool, true, not, cond, is_some, nat_le, int_le, ℕ, ℤ, pos, neg_ℤ, ◌+ℤ◌, ◌*ℤ◌, unsigned_abs, Option, Some, None, Result, Ok, Err, List, [], ◌∷◌, length, unwrap_or}
use Rattle.box_geo.specs.declared.atoms.Angle.{Angle}
use Rattle.box_geo.specs.declared.atoms.Atom.{Atom}
use Rattle.box_geo.specs.declared.atoms.Bond.{Bond}
use Rattle.box_geo.specs.declared.limits.TheConstants.{MAX_ANGLES_OF_ATOM, MAX_BONDS_OF_ATOM, MAX_CUTOFF, MAX_EPSILON, MAX_IMAGE, MAX_MASS, MAX_POSITION, MAX_REST_LENGTH, MAX_SIGMA, MAX_SPEED, MAX_STIFFNESS, MIN_MASS}
use Rattle.box_geo.specs.declared.sim_box.Axis.{Axis}
use Rattle.box_geo.specs.declared.sim_box.Extent.{Extent}
use Rattle.box_geo.specs.declared.sim_box.Sides.{Sides}
use Rattle.box_geo.specs.declared.styles.AtomStyle.{AtomStyle}
use Rattle.box_geo.specs.declared.styles.AtomStyle.TheVariants as style
use Rattle.box_geo.specs.Sides.{x_of, y_of, z_of, z_wraps}
use Rattle.box_geo.specs.Wrap.{is_lost, taken_off, wrap, Wrapped}
use Rattle.data_file.specs.declared.contents.AngleLine.{AngleLine}
use Rattle.data_file.specs.declared.contents.BondLine.{BondLine}
use Rattle.data_file.specs.declared.contents.PairLine.{PairLine}
use Rattle.data_file.specs.declared.fault.DataFault.{DataFault}
use Rattle.data_file.specs.declared.fault.DataFault.TheVariants as fault
use Rattle.data_file.specs.Fields.{both, decimal_field, id_field, images_field, kind_field, made, vector_field, whole_field}
use Rattle.data_file.specs.Header.{counted, then}
use Rattle.data_file.specs.Tables.{is_met, under, zeros}
use Rattle.data_file.specs.Words.{word}

-- the fault of the first test that finds one, or the value
abbrev pub unless : {A : Type 0} → Bool → DataFault → Result A DataFault → Result A DataFault
unless found why judged = cond found (Err why) judged

-- type, mass
unfoldable pub mass_row : ℕ → List ℕ → List (List ℕ) → Result (ℕ × ℤ) DataFault
mass_row kinds met words =
    counted 2 words (then (both (kind_field kinds (word 0 words)) (decimal_field MIN_MASS MAX_MASS (word 1 words))) (λ r.
    unless (is_met r.0 met) fault.Twice (Ok r)))

-- four cutoffs reach over a size
abbrev pub is_covered : ℤ → Option ℤ → Bool
is_covered sigma None = true
is_covered sigma (Some cutoff) = int_le sigma (pos 4 *ℤ cutoff)

-- the cutoff, which may be left out
abbrev pub cutoff_field : List (List ℕ) → Result (Option ℤ) DataFault
cutoff_field words = cond (length words == 4) (made Some (decimal_field (pos 1) MAX_CUTOFF (word 3 words))) (Ok None)

abbrev pub pair_of : (ℕ × ℤ) × (ℤ × Option ℤ) → PairLine
pair_of r = record { kind = r.0.0; epsilon = r.0.1; sigma = r.1.0; cutoff = r.1.1 }

unfoldable pub pair_parts : ℕ → List (List ℕ) → Result ((ℕ × ℤ) × (ℤ × Option ℤ)) DataFault
pair_parts kinds words =
    both
    (both (kind_field kinds (word 0 words)) (decimal_field (pos 0) MAX_EPSILON (word 1 words)))
    (both (decimal_field (pos 1) MAX_SIGMA (word 2 words)) (cutoff_field words))

abbrev pub pair_fields : ℕ → List (List ℕ) → Result PairLine DataFault
pair_fields kinds words = made pair_of (pair_parts kinds words)

-- type, epsilon, sigma, and the cutoff, which may be left out
unfoldable pub pair_row : ℕ → List ℕ → List (List ℕ) → Result PairLine DataFault
pair_row kinds met words =
    unless (not ((length words == 3) || (length words == 4))) fault.Count (then (pair_fields kinds words) (λ p.
    unless (not (is_covered p.sigma p.cutoff)) fault.Limit (unless (is_met p.kind met) fault.Twice (Ok p))))

abbrev pub bond_line_of : ℕ × (ℤ × ℤ) → BondLine
bond_line_of r = record { kind = r.0; stiffness = r.1.0; rest_length = r.1.1 }

unfoldable pub bond_line_parts : ℕ → List (List ℕ) → Result (ℕ × (ℤ × ℤ)) DataFault
bond_line_parts kinds words =
    both (kind_field kinds (word 0 words)) (both (decimal_field (pos 0) MAX_STIFFNESS (word 1 words)) (decimal_field (pos 0) MAX_REST_LENGTH (word 2 words)))

-- type, stiffness, rest length
unfoldable pub bond_line_row : ℕ → List ℕ → List (List ℕ) → Result BondLine DataFault
bond_line_row kinds met words =
    counted 3 words (then (bond_line_parts kinds words) (λ r.
    unless (is_met r.0 met) fault.Twice (Ok (bond_line_of r))))

-- type, stiffness
unfoldable pub angle_line_row : ℕ → List ℕ → List (List ℕ) → Result AngleLine DataFault
angle_line_row kinds met words =
    counted 2 words (then (both (kind_field kinds (word 0 words)) (decimal_field (pos 0) MAX_STIFFNESS (word 1 words))) (λ (r : ℕ × ℤ).
    unless (is_met r.0 met) fault.Twice (Ok record { kind = r.0; stiffness = r.1 })))

-- the molecule, which stands behind the id, but not in style atomic
abbrev pub molecules : AtomStyle → ℕ
molecules style.Atomic = 0
molecules s = 1

abbrev pub molecule_field : AtomStyle → List (List ℕ) → Result ℕ DataFault
molecule_field style.Atomic words = Ok 0
molecule_field s words = whole_field 0 (2 ^ 32 - 1) (word 1 words)

abbrev pub images_given : AtomStyle → List (List ℕ) → Bool
images_given s words = length words == 8 + molecules s

abbrev pub image_fields : AtomStyle → List (List ℕ) → Result (List ℤ) DataFault
image_fields s words = cond (images_given s words) (images_field (5 + molecules s) words) (Ok zeros)

abbrev pub atom_of : ((ℕ × ℕ) × ℕ) × (List ℤ × List ℤ) → Atom
atom_of r = record { id = r.0.0.0; mol = r.0.0.1; kind = r.0.1; x = r.1.0; v = zeros; f = zeros; image = r.1.1 }

-- an atom as its row gives it
unfoldable pub atom_parts : AtomStyle → ℕ → List (List ℕ) → Result (((ℕ × ℕ) × ℕ) × (List ℤ × List ℤ)) DataFault
atom_parts s kinds words =
    both
    (both (both (id_field (word 0 words)) (molecule_field s words)) (kind_field kinds (word (1 + molecules s) words)))
    (both (vector_field (neg_ℤ MAX_POSITION) MAX_POSITION (2 + molecules s) words) (image_fields s words))

abbrev pub atom_fields : AtomStyle → ℕ → List (List ℕ) → Result Atom DataFault
atom_fields s kinds words = made atom_of (atom_parts s kinds words)

-- how many edges are taken off a position along each axis: none where the axis does not wrap
unfoldable pub edges_off : Sides → List ℤ → List ℤ
edges_off s x =
    taken_off s.x.periodic s.x (x_of x) ∷ taken_off s.y.periodic s.y (y_of x) ∷ taken_off (z_wraps s) s.z (z_of x) ∷ []

-- each component of a vector is of magnitude at most 2^40
abbrev pub IsNear : List ℤ → Type 0
IsNear v = (unsigned_abs (x_of v) ≤ 2 ^ 40) × (unsigned_abs (y_of v) ≤ 2 ^ 40) × (unsigned_abs (z_of v) ≤ 2 ^ 40)

-- a position, with the least number of an axis in the place of one that the axis loses
abbrev pub kept_at : Bool → Extent → ℤ → ℤ
kept_at wraps e x = cond (is_lost wraps e x) e.lo x

abbrev pub kept : Sides → List ℤ → List ℤ
kept s x = kept_at s.x.periodic s.x (x_of x) ∷ kept_at s.y.periodic s.y (y_of x) ∷ kept_at (z_wraps s) s.z (z_of x) ∷ []

abbrev pub plus : List ℤ → List ℤ → List ℤ
plus a b = (x_of a +ℤ x_of b) ∷ (y_of a +ℤ y_of b) ∷ (z_of a +ℤ z_of b) ∷ []

-- image counts within their limit
abbrev pub are_images : List ℤ → Bool
are_images n = nat_le (unsigned_abs (x_of n)) (unsigned_abs MAX_IMAGE) && nat_le (unsigned_abs (y_of n)) (unsigned_abs MAX_IMAGE) && nat_le (unsigned_abs (z_of n)) (unsigned_abs MAX_IMAGE)

-- the atom in the box, with its images changed
abbrev pub wrapped_atom : Atom → List ℤ → Result Wrapped Axis → Result Atom DataFault
wrapped_atom a image (Err axis) = Err fault.Outside
wrapped_atom a image (Ok w) = Ok record a { x = w.x; image = image }

unfoldable pub placed : Sides → List ℕ → Atom → Result Atom DataFault
placed s met a =
    let image = plus a.image (edges_off s a.x) in
    unless (not (are_images image)) fault.Limit (unless (is_met a.id met) fault.Twice (wrapped_atom a image (wrap s a.x)))

-- id, molecule where the style has them, type, position, and image counts, which may be left out
unfoldable pub atom_row : AtomStyle → ℕ → Sides → List ℕ → List (List ℕ) → Result Atom DataFault
atom_row s kinds sides met words =
    unless (not ((length words == 5 + molecules s) || images_given s words)) fault.Count (then (atom_fields s kinds words) (placed sides met))

-- id, velocity
unfoldable pub velocity_row : List ℕ → List (ℕ × Atom) → List (List ℕ) → Result (ℕ × List ℤ) DataFault
velocity_row met atoms words =
    counted 4 words (then (both (id_field (word 0 words)) (vector_field (neg_ℤ MAX_SPEED) MAX_SPEED 1 words)) (λ (r : ℕ × List ℤ).
    unless (is_met r.0 met) fault.Twice (unless (not (is_some (under r.0 atoms))) fault.NoSuch (Ok r))))

-- how many bonds or angles an atom has
abbrev pub number_of : ℕ → List (ℕ × ℕ) → ℕ
number_of id numbers = unwrap_or (under id numbers) 0

-- whether an atom has as many as it may
abbrev pub is_bound : ℕ → ℕ → List (ℕ × ℕ) → Bool
is_bound most id numbers = nat_le most (number_of id numbers)

abbrev pub is_absent : ℕ → List (ℕ × Atom) → Bool
is_absent id atoms = not (is_some (under id atoms))

abbrev pub bond_of : ℕ × (ℕ × ℕ) → Bond
bond_of r = record { kind = r.0; a = r.1.0; b = r.1.1 }

unfoldable pub bond_parts : ℕ → List (List ℕ) → Result (ℕ × (ℕ × ℕ)) DataFault
bond_parts kinds words = both (kind_field kinds (word 1 words)) (both (id_field (word 2 words)) (id_field (word 3 words)))

unfoldable pub bond_fields : ℕ → List (List ℕ) → Result (ℕ × Bond) DataFault
bond_fields kinds words = both (id_field (word 0 words)) (made bond_of (bond_parts kinds words))

-- id, type, two atoms that differ
unfoldable pub bond_row : ℕ → List ℕ → List (ℕ × Atom) → List (ℕ × ℕ) → List (List ℕ) → Result (ℕ × Bond) DataFault
bond_row kinds met atoms bonds words =
    counted 4 words (then (bond_fields kinds words) (λ (r : ℕ × Bond).
    unless (is_bound MAX_BONDS_OF_ATOM r.1.a bonds || is_bound MAX_BONDS_OF_ATOM r.1.b bonds) fault.Limit
    (unless (is_met r.0 met || (r.1.a == r.1.b)) fault.Twice
    (unless (is_absent r.1.a atoms || is_absent r.1.b atoms) fault.NoSuch (Ok r)))))

abbrev pub angle_of : ℕ × ((ℕ × ℕ) × ℕ) → Angle
angle_of r = record { kind = r.0; a = r.1.0.0; b = r.1.0.1; c = r.1.1 }

unfoldable pub angle_parts : ℕ → List (List ℕ) → Result (ℕ × ((ℕ × ℕ) × ℕ)) DataFault
angle_parts kinds words =
    both (kind_field kinds (word 1 words)) (both (both (id_field (word 2 words)) (id_field (word 3 words))) (id_field (word 4 words)))

unfoldable pub angle_fields : ℕ → List (List ℕ) → Result (ℕ × Angle) DataFault
angle_fields kinds words = both (id_field (word 0 words)) (made angle_of (angle_parts kinds words))

abbrev pub are_bound : Angle → List (ℕ × ℕ) → Bool
are_bound a numbers = is_bound MAX_ANGLES_OF_ATOM a.a numbers || is_bound MAX_ANGLES_OF_ATOM a.b numbers || is_bound MAX_ANGLES_OF_ATOM a.c numbers

abbrev pub has_twice : Angle → Bool
has_twice a = (a.a == a.b) || (a.b == a.c) || (a.a == a.c)

abbrev pub lacks_atom : Angle → List (ℕ × Atom) → Bool
lacks_atom a atoms = is_absent a.a atoms || is_absent a.b atoms || is_absent a.c atoms

-- id, type, three atoms that differ, the centre in the middle
unfoldable pub angle_row : ℕ → List ℕ → List (ℕ × Atom) → List (ℕ × ℕ) → List (List ℕ) → Result (ℕ × Angle) DataFault
angle_row kinds met atoms angles words =
    counted 5 words (then (angle_fields kinds words) (λ (r : ℕ × Angle).
    unless (are_bound r.1 angles) fault.Limit (unless (is_met r.0 met || has_twice r.1) fault.Twice (unless (lacks_atom r.1 atoms) fault.NoSuch (Ok r)))))
