-- A header keeps to its limits, line by line.
use Rattle.std.proofs.Common.{◌≡◌, ◌≤◌, ◌<ℤ◌, Bool, true, false, is_some, ℕ, ℤ, pos, neg_ℤ, Option, Some, None, List, slice_index_or, refl, subst, arith}
use Rattle.std.proofs.lemmas.Bool.Decides.{nat_tests}
use Rattle.std.proofs.lemmas.Int.{ints}
use Rattle.std.specs.Option.{IfSome}
use Rattle.box_geo.specs.declared.limits.TheConstants.{MAX_ATOMS, MAX_BONDS, MAX_BOUND, MAX_KINDS}
use Rattle.box_geo.specs.declared.sim_box.Axis.{Axis}
use Rattle.box_geo.specs.declared.sim_box.Axis.TheVariants.{X, Y, Z}
use Rattle.box_geo.specs.declared.sim_box.BoxRefusal.{BoxRefusal}
use Rattle.box_geo.specs.declared.sim_box.Extent.{Extent}
use Rattle.box_geo.specs.declared.sim_box.Sides.{Sides}
use Rattle.box_geo.specs.Sides.{edge, extent_of, extent_refusal, HasEdges, IsSoundExtent}
use Rattle.data_file.specs.declared.header.Header.{Header}
use Rattle.data_file.specs.declared.keywords.Keyword.{Keyword}
use Rattle.data_file.specs.declared.keywords.Keyword.TheVariants as keyword
use Rattle.data_file.specs.Fields.{both, decimal_field, whole_field}
use Rattle.data_file.specs.Header.{empty, extra_line, fixed_line, given_or_zero, header_line, keyword_of, number_line, once, side_line, side_with, sides_of, sides_with, with_keyword}
use Rattle.data_file.specs.Sound.{IsKind}
use Rattle.data_file.specs.Words.{word}
use Rattle.data_file.proofs.OutcomeLemmas.{On, on_any, on_counted, on_made, on_once, on_then, on_whole}

abbrev AtMost : ℕ → ℕ → Type 0
AtMost high n = n ≤ high

pub record IsSoundHeader (h : Header) : Type 0 where
  pub atoms : IfSome h.atoms (AtMost MAX_ATOMS)
  pub bonds : IfSome h.bonds (AtMost MAX_BONDS)
  pub angles : IfSome h.angles (AtMost MAX_BONDS)
  pub atom_types : IfSome h.atom_types (IsKind MAX_KINDS)
  pub bond_types : IfSome h.bond_types (AtMost MAX_KINDS)
  pub angle_types : IfSome h.angle_types (AtMost MAX_KINDS)
  pub x : IfSome h.x IsSoundExtent
  pub y : IfSome h.y IsSoundExtent
  pub z : IfSome h.z IsSoundExtent

pub sound_empty : IsSoundHeader empty
sound_empty = record { atoms = tt; bonds = tt; angles = tt; atom_types = tt; bond_types = tt; angle_types = tt; x = tt; y = tt; z = tt }

number_on : (count : ℕ) (given : Bool) (low high : ℕ) (words : List (List ℕ)) → On (λ (n : ℕ). (low ≤ n) × (n ≤ high)) (number_line count given low high words)
unfolding number_line
number_on count given low high words =
    on_counted (λ (n : ℕ). (low ≤ n) × (n ≤ high)) count words _
    (on_then (λ (n : ℕ). (low ≤ n) × (n ≤ high)) (λ (n : ℕ). (low ≤ n) × (n ≤ high)) (whole_field low high (word 0 words)) (once given) (on_whole low high (word 0 words)) (λ n h. on_once (λ (m : ℕ). (low ≤ m) × (m ≤ high)) given n h))

extent_sound : (axis : Axis) (lo hi : ℤ) (periodic : Bool) → extent_refusal axis lo hi ≡ None → IsSoundExtent (extent_of lo hi periodic)
extent_sound axis lo hi periodic fine = grind (arith, ints, nat_tests)

extent_on : (axis : Axis) (lo hi : ℤ) (periodic : Bool) (o : Option BoxRefusal) → extent_refusal axis lo hi ≡ o → On IsSoundExtent (side_with o (extent_of lo hi periodic))
extent_on axis lo hi periodic None e = extent_sound axis lo hi periodic e
extent_on axis lo hi periodic (Some why) e = tt

side_on : (axis : Axis) (given periodic : Bool) (words : List (List ℕ)) → On IsSoundExtent (side_line axis given periodic words)
unfolding side_line
side_on axis given periodic words =
    let bounds = both (decimal_field (neg_ℤ MAX_BOUND) MAX_BOUND (word 0 words)) (decimal_field (neg_ℤ MAX_BOUND) MAX_BOUND (word 1 words)) in
    on_counted IsSoundExtent 4 words _
    (on_then (λ (b : ℤ × ℤ). Unit {0}) IsSoundExtent bounds _ (on_any bounds) (λ b h.
    on_then IsSoundExtent IsSoundExtent (side_with (extent_refusal axis b.0 b.1) (extent_of b.0 b.1 periodic)) (once given) (extent_on axis b.0 b.1 periodic (extent_refusal axis b.0 b.1) refl) (λ e g. on_once IsSoundExtent given e g)))

-- the header with another line
line_on : (o : Option Keyword) (periodic : List Bool) (h : Header) (words : List (List ℕ)) → IsSoundHeader h → On IsSoundHeader (with_keyword o periodic h words)
line_on None periodic h words s = tt
line_on (Some keyword.Atoms) periodic h words s = on_made (λ (n : ℕ). (0 ≤ n) × (n ≤ MAX_ATOMS)) IsSoundHeader (λ n. record h { atoms = Some n }) (number_line 2 (is_some h.atoms) 0 MAX_ATOMS words) (number_on 2 (is_some h.atoms) 0 MAX_ATOMS words) (λ n g. record { atoms = g.1; bonds = s.bonds; angles = s.angles; atom_types = s.atom_types; bond_types = s.bond_types; angle_types = s.angle_types; x = s.x; y = s.y; z = s.z })
line_on (Some keyword.Bonds) periodic h words s = on_made (λ (n : ℕ). (0 ≤ n) × (n ≤ MAX_BONDS)) IsSoundHeader (λ n. record h { bonds = Some n }) (number_line 2 (is_some h.bonds) 0 MAX_BONDS words) (number_on 2 (is_some h.bonds) 0 MAX_BONDS words) (λ n g. record { atoms = s.atoms; bonds = g.1; angles = s.angles; atom_types = s.atom_types; bond_types = s.bond_types; angle_types = s.angle_types; x = s.x; y = s.y; z = s.z })
line_on (Some keyword.Angles) periodic h words s = on_made (λ (n : ℕ). (0 ≤ n) × (n ≤ MAX_BONDS)) IsSoundHeader (λ n. record h { angles = Some n }) (number_line 2 (is_some h.angles) 0 MAX_BONDS words) (number_on 2 (is_some h.angles) 0 MAX_BONDS words) (λ n g. record { atoms = s.atoms; bonds = s.bonds; angles = g.1; atom_types = s.atom_types; bond_types = s.bond_types; angle_types = s.angle_types; x = s.x; y = s.y; z = s.z })
line_on (Some keyword.AtomTypes) periodic h words s = on_made (λ (n : ℕ). (1 ≤ n) × (n ≤ MAX_KINDS)) IsSoundHeader (λ n. record h { atom_types = Some n }) (number_line 3 (is_some h.atom_types) 1 MAX_KINDS words) (number_on 3 (is_some h.atom_types) 1 MAX_KINDS words) (λ n g. record { atoms = s.atoms; bonds = s.bonds; angles = s.angles; atom_types = g; bond_types = s.bond_types; angle_types = s.angle_types; x = s.x; y = s.y; z = s.z })
line_on (Some keyword.BondTypes) periodic h words s = on_made (λ (n : ℕ). (0 ≤ n) × (n ≤ MAX_KINDS)) IsSoundHeader (λ n. record h { bond_types = Some n }) (number_line 3 (is_some h.bond_types) 0 MAX_KINDS words) (number_on 3 (is_some h.bond_types) 0 MAX_KINDS words) (λ n g. record { atoms = s.atoms; bonds = s.bonds; angles = s.angles; atom_types = s.atom_types; bond_types = g.1; angle_types = s.angle_types; x = s.x; y = s.y; z = s.z })
line_on (Some keyword.AngleTypes) periodic h words s = on_made (λ (n : ℕ). (0 ≤ n) × (n ≤ MAX_KINDS)) IsSoundHeader (λ n. record h { angle_types = Some n }) (number_line 3 (is_some h.angle_types) 0 MAX_KINDS words) (number_on 3 (is_some h.angle_types) 0 MAX_KINDS words) (λ n g. record { atoms = s.atoms; bonds = s.bonds; angles = s.angles; atom_types = s.atom_types; bond_types = s.bond_types; angle_types = g.1; x = s.x; y = s.y; z = s.z })
line_on (Some keyword.SideX) periodic h words s = on_made IsSoundExtent IsSoundHeader (λ e. record h { x = Some e }) (side_line X (is_some h.x) (slice_index_or periodic 0 false) words) (side_on X (is_some h.x) (slice_index_or periodic 0 false) words) (λ e g. record { atoms = s.atoms; bonds = s.bonds; angles = s.angles; atom_types = s.atom_types; bond_types = s.bond_types; angle_types = s.angle_types; x = g; y = s.y; z = s.z })
line_on (Some keyword.SideY) periodic h words s = on_made IsSoundExtent IsSoundHeader (λ e. record h { y = Some e }) (side_line Y (is_some h.y) (slice_index_or periodic 1 false) words) (side_on Y (is_some h.y) (slice_index_or periodic 1 false) words) (λ e g. record { atoms = s.atoms; bonds = s.bonds; angles = s.angles; atom_types = s.atom_types; bond_types = s.bond_types; angle_types = s.angle_types; x = s.x; y = g; z = s.z })
line_on (Some keyword.SideZ) periodic h words s = on_made IsSoundExtent IsSoundHeader (λ e. record h { z = Some e }) (side_line Z (is_some h.z) (slice_index_or periodic 2 false) words) (side_on Z (is_some h.z) (slice_index_or periodic 2 false) words) (λ e g. record { atoms = s.atoms; bonds = s.bonds; angles = s.angles; atom_types = s.atom_types; bond_types = s.bond_types; angle_types = s.angle_types; x = s.x; y = s.y; z = g })
line_on (Some keyword.Dihedrals) periodic h words s = on_made (λ (b : Bool). Unit {0}) IsSoundHeader (λ b. record h { dihedrals = b }) (fixed_line 2 h.dihedrals words) (on_any (fixed_line 2 h.dihedrals words)) (λ b g. record { atoms = s.atoms; bonds = s.bonds; angles = s.angles; atom_types = s.atom_types; bond_types = s.bond_types; angle_types = s.angle_types; x = s.x; y = s.y; z = s.z })
line_on (Some keyword.Impropers) periodic h words s = on_made (λ (b : Bool). Unit {0}) IsSoundHeader (λ b. record h { impropers = b }) (fixed_line 2 h.impropers words) (on_any (fixed_line 2 h.impropers words)) (λ b g. record { atoms = s.atoms; bonds = s.bonds; angles = s.angles; atom_types = s.atom_types; bond_types = s.bond_types; angle_types = s.angle_types; x = s.x; y = s.y; z = s.z })
line_on (Some keyword.DihedralTypes) periodic h words s = on_made (λ (b : Bool). Unit {0}) IsSoundHeader (λ b. record h { dihedral_types = b }) (fixed_line 3 h.dihedral_types words) (on_any (fixed_line 3 h.dihedral_types words)) (λ b g. record { atoms = s.atoms; bonds = s.bonds; angles = s.angles; atom_types = s.atom_types; bond_types = s.bond_types; angle_types = s.angle_types; x = s.x; y = s.y; z = s.z })
line_on (Some keyword.ImproperTypes) periodic h words s = on_made (λ (b : Bool). Unit {0}) IsSoundHeader (λ b. record h { improper_types = b }) (fixed_line 3 h.improper_types words) (on_any (fixed_line 3 h.improper_types words)) (λ b g. record { atoms = s.atoms; bonds = s.bonds; angles = s.angles; atom_types = s.atom_types; bond_types = s.bond_types; angle_types = s.angle_types; x = s.x; y = s.y; z = s.z })
line_on (Some keyword.ExtraBond) periodic h words s = on_made (λ (n : ℕ). Unit {0}) IsSoundHeader (λ n. record h { extra_bond = true }) (extra_line h.extra_bond words) (on_any (extra_line h.extra_bond words)) (λ n g. record { atoms = s.atoms; bonds = s.bonds; angles = s.angles; atom_types = s.atom_types; bond_types = s.bond_types; angle_types = s.angle_types; x = s.x; y = s.y; z = s.z })
line_on (Some keyword.ExtraAngle) periodic h words s = on_made (λ (n : ℕ). Unit {0}) IsSoundHeader (λ n. record h { extra_angle = true }) (extra_line h.extra_angle words) (on_any (extra_line h.extra_angle words)) (λ n g. record { atoms = s.atoms; bonds = s.bonds; angles = s.angles; atom_types = s.atom_types; bond_types = s.bond_types; angle_types = s.angle_types; x = s.x; y = s.y; z = s.z })
line_on (Some keyword.ExtraSpecial) periodic h words s = on_made (λ (n : ℕ). Unit {0}) IsSoundHeader (λ n. record h { extra_special = true }) (extra_line h.extra_special words) (on_any (extra_line h.extra_special words)) (λ n g. record { atoms = s.atoms; bonds = s.bonds; angles = s.angles; atom_types = s.atom_types; bond_types = s.bond_types; angle_types = s.angle_types; x = s.x; y = s.y; z = s.z })

pub header_on : (periodic : List Bool) (h : Header) (words : List (List ℕ)) → IsSoundHeader h → On IsSoundHeader (header_line periodic h words)
unfolding header_line
header_on periodic h words s = line_on (keyword_of words) periodic h words s

-- the sides of the box
has_edge : (e : Extent) → IsSoundExtent e → pos 0 <ℤ edge e
has_edge e h = omega (arith, ints, h.2)

sides_by : (dim : ℕ) (x y z : Option Extent) (s : Sides) → IfSome x IsSoundExtent → IfSome y IsSoundExtent → IfSome z IsSoundExtent → sides_with dim x y z ≡ Some s → HasEdges s × (s.dim ≡ dim)
sides_by dim (Some x) (Some y) (Some z) s p q r e =
    let same : record { x = x; y = y; z = z; dim = dim } ≡ s = cc in
    subst (λ (t : Sides). HasEdges t × (t.dim ≡ dim)) same ((has_edge x p, has_edge y q, has_edge z r), refl)
sides_by dim None y z s p q r e = absurd cc
sides_by dim (Some x) None z s p q r e = absurd cc
sides_by dim (Some x) (Some y) None s p q r e = absurd cc

pub sides_on : (dim : ℕ) (h : Header) (s : Sides) → IsSoundHeader h → sides_of dim h ≡ Some s → HasEdges s × (s.dim ≡ dim)
unfolding sides_of
sides_on dim h s sound e = sides_by dim h.x h.y h.z s sound.x sound.y sound.z e

-- numbers that the header gives
pub given_on : (high : ℕ) (n : Option ℕ) → IfSome n (λ m. m ≤ high) → given_or_zero n ≤ high
given_on high (Some n) h = h
given_on high None h = omega arith

pub kinds_on : (n : Option ℕ) → IfSome n (IsKind MAX_KINDS) → is_some n ≡ true → IsKind MAX_KINDS (given_or_zero n)
kinds_on (Some n) h e = h
kinds_on None h e = absurd cc
