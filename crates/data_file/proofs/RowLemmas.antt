-- Rows that are accepted keep to their limits.
use Rattle.std.proofs.Common.{◌≡◌, ◌≢◌, ◌∙◌, ◌+◌, ◌==◌, ◌||◌, ◌≤ℤ◌, ◌<ℤ◌, ◌*ℤ◌, Bool, true, false, not, cond, is_some, int_le, ℕ, ℤ, pos, unsigned_abs, Option, Some, None, Result, Ok, Err, List, length, refl, sym, subst, inr, arith}
use Rattle.std.proofs.lemmas.Bool.Decides.{nat_tests}
use Rattle.std.proofs.lemmas.Int.{ints}
use Rattle.std.proofs.lemmas.Map.Made.{is_some-lookup}
use Rattle.std.specs.BTreeMap.{is_at}
use Rattle.std.specs.Map.{keys_of}
use Rattle.std.specs.Option.{IfSome}
use Rattle.std.specs.Ordering.{nat_cmp}
use Rattle.box_geo.specs.declared.atoms.Angle.{Angle}
use Rattle.box_geo.specs.declared.atoms.Atom.{Atom}
use Rattle.box_geo.specs.declared.atoms.Bond.{Bond}
use Rattle.box_geo.specs.declared.limits.TheConstants.{MAX_BONDS_OF_ATOM, MAX_CUTOFF, MAX_EPSILON, MAX_ID, MAX_IMAGE, MAX_MASS, MAX_REST_LENGTH, MAX_SIGMA, MAX_SPEED, MAX_STIFFNESS, MIN_MASS}
use Rattle.box_geo.specs.declared.sim_box.Axis.{Axis}
use Rattle.box_geo.specs.declared.sim_box.Sides.{Sides}
use Rattle.box_geo.specs.declared.styles.AtomStyle.{AtomStyle}
use Rattle.box_geo.specs.Sides.{HasEdges, IsWithin}
use Rattle.box_geo.specs.Wrap.{wrap, Wrapped}
use Rattle.box_geo.proofs.WrapLemmas.{wrap-inside}
use Rattle.data_file.specs.declared.contents.PairLine.{PairLine}
use Rattle.data_file.specs.declared.fault.DataFault.{DataFault}
use Rattle.data_file.specs.declared.fault.DataFault.TheVariants as fault
use Rattle.data_file.specs.Fields.{both, decimal_field, id_field, kind_field, made}
use Rattle.data_file.specs.Header.{then}
use Rattle.data_file.specs.Rows.{unless, is_bound, angle_fields, angle_line_row, angle_of, angle_parts, angle_row, are_bound, are_images, atom_fields, atom_of, atom_parts, atom_row, bond_fields, bond_line_of, bond_line_parts, bond_line_row, bond_of, bond_parts, bond_row, cutoff_field, edges_off, has_twice, is_absent, is_covered, lacks_atom, mass_row, molecule_field, molecules, pair_fields, pair_of, pair_parts, pair_row, placed, plus, velocity_row, wrapped_atom}
use Rattle.data_file.specs.Sound.{IsAngleLine, IsAtom, IsBondLine, IsCutoff, IsKind, IsMass, IsPairLine}
use Rattle.data_file.specs.Tables.{is_met, under, zeros}
use Rattle.data_file.specs.Words.{word}
use Rattle.data_file.proofs.OutcomeLemmas.{On, on_any, on_both, on_counted, on_decimal, on_made, on_then, on_unless, on_vector_field, on_weaker, on_whole}

abbrev Between : ℤ → ℤ → ℤ → Type 0
Between low high v = (low ≤ℤ v) × (v ≤ℤ high)

abbrev Any : {A : Type 0} → A → Type 0
Any a = Unit {0}

kind_on : (kinds : ℕ) (text : List ℕ) → On (IsKind kinds) (kind_field kinds text)
kind_on kinds text = on_whole 1 kinds text

id_on : (text : List ℕ) → On (IsKind MAX_ID) (id_field text)
id_on text = on_whole 1 MAX_ID text

-- masses and coefficients
pub mass_on : (kinds : ℕ) (met : List ℕ) (words : List (List ℕ)) → On (λ (r : ℕ × ℤ). IsMass r.1) (mass_row kinds met words)
unfolding mass_row
mass_on kinds met words =
    on_counted (λ (r : ℕ × ℤ). IsMass r.1) 2 words _
    (on_then (λ (r : ℕ × ℤ). IsKind kinds r.0 × Between MIN_MASS MAX_MASS r.1) (λ (r : ℕ × ℤ). IsMass r.1) (both (kind_field kinds (word 0 words)) (decimal_field MIN_MASS MAX_MASS (word 1 words))) _
    (on_both (IsKind kinds) (Between MIN_MASS MAX_MASS) (kind_field kinds (word 0 words)) (decimal_field MIN_MASS MAX_MASS (word 1 words)) (kind_on kinds (word 0 words)) (on_decimal MIN_MASS MAX_MASS (word 1 words)))
    (λ r h. on_unless (λ (r : ℕ × ℤ). IsMass r.1) (is_met r.0 met) _ (Ok r) (λ _. inr h.1)))

abbrev IsReach : Option ℤ → Type 0
IsReach cutoff = IfSome cutoff (Between (pos 1) MAX_CUTOFF)

cutoff_by : (b : Bool) (words : List (List ℕ)) → On IsReach (cond b (made Some (decimal_field (pos 1) MAX_CUTOFF (word 3 words))) (Ok None))
cutoff_by true words = on_made (Between (pos 1) MAX_CUTOFF) IsReach Some (decimal_field (pos 1) MAX_CUTOFF (word 3 words)) (on_decimal (pos 1) MAX_CUTOFF (word 3 words)) (λ c h. h)
cutoff_by false words = tt

abbrev IsPairParts : ℕ → (ℕ × ℤ) × (ℤ × Option ℤ) → Type 0
IsPairParts kinds p = (IsKind kinds p.0.0 × Between (pos 0) MAX_EPSILON p.0.1) × (Between (pos 1) MAX_SIGMA p.1.0 × IsReach p.1.1)

pair_parts_on : (kinds : ℕ) (words : List (List ℕ)) → On (IsPairParts kinds) (pair_parts kinds words)
unfolding pair_parts
pair_parts_on kinds words =
    on_both (λ (p : ℕ × ℤ). IsKind kinds p.0 × Between (pos 0) MAX_EPSILON p.1) (λ (p : ℤ × Option ℤ). Between (pos 1) MAX_SIGMA p.0 × IsReach p.1)
    (both (kind_field kinds (word 0 words)) (decimal_field (pos 0) MAX_EPSILON (word 1 words))) (both (decimal_field (pos 1) MAX_SIGMA (word 2 words)) (cutoff_field words))
    (on_both (IsKind kinds) (Between (pos 0) MAX_EPSILON) (kind_field kinds (word 0 words)) (decimal_field (pos 0) MAX_EPSILON (word 1 words)) (kind_on kinds (word 0 words)) (on_decimal (pos 0) MAX_EPSILON (word 1 words)))
    (on_both (Between (pos 1) MAX_SIGMA) IsReach (decimal_field (pos 1) MAX_SIGMA (word 2 words)) (cutoff_field words) (on_decimal (pos 1) MAX_SIGMA (word 2 words)) (cutoff_by (length words == 4) words))

above_zero : (v high : ℤ) → Between (pos 1) high v → pos 0 <ℤ v
above_zero v high h = omega (arith, ints, h.0)

covers : (sigma cutoff : ℤ) → not (int_le sigma (pos 4 *ℤ cutoff)) ≡ false → sigma ≤ℤ (pos 4 *ℤ cutoff)
covers sigma cutoff t = grind (arith, ints, nat_tests)

cutoff_is : (sigma : ℤ) (cutoff : Option ℤ) → IsReach cutoff → not (is_covered sigma cutoff) ≡ false → IfSome cutoff (IsCutoff sigma)
cutoff_is sigma None h t = tt
cutoff_is sigma (Some cutoff) h t = (above_zero cutoff MAX_CUTOFF h, h.1, covers sigma cutoff t)

pair_is : (kinds : ℕ) (p : PairLine) → IsPairParts kinds ((p.kind, p.epsilon), (p.sigma, p.cutoff)) → not (is_covered p.sigma p.cutoff) ≡ false → IsPairLine kinds p
pair_is kinds p h t = record {
  kind = h.0.0;
  epsilon_low = h.0.1.0;
  epsilon_high = h.0.1.1;
  sigma_low = above_zero p.sigma MAX_SIGMA h.1.0;
  sigma_high = h.1.0.1;
  cutoff = cutoff_is p.sigma p.cutoff h.1.1 t;
}

abbrev IsPairGiven : ℕ → PairLine → Type 0
IsPairGiven kinds p = IsPairParts kinds ((p.kind, p.epsilon), (p.sigma, p.cutoff))

abbrev checked_pair : List ℕ → PairLine → Result PairLine DataFault
checked_pair met p = unless (not (is_covered p.sigma p.cutoff)) fault.Limit (unless (is_met p.kind met) fault.Twice (Ok p))

pub pair_on : (kinds : ℕ) (met : List ℕ) (words : List (List ℕ)) → On (IsPairLine kinds) (pair_row kinds met words)
unfolding pair_row
pair_on kinds met words =
    on_unless (IsPairLine kinds) (not ((length words == 3) || (length words == 4))) fault.Count (then (pair_fields kinds words) (checked_pair met)) (λ _.
    on_then (IsPairGiven kinds) (IsPairLine kinds) (pair_fields kinds words) (checked_pair met)
    (on_made (IsPairParts kinds) (IsPairGiven kinds) pair_of (pair_parts kinds words) (pair_parts_on kinds words) (λ r h. h))
    (λ p h. on_unless (IsPairLine kinds) (not (is_covered p.sigma p.cutoff)) fault.Limit (unless (is_met p.kind met) fault.Twice (Ok p)) (λ t.
    on_unless (IsPairLine kinds) (is_met p.kind met) fault.Twice (Ok p) (λ _. pair_is kinds p h t))))

pub bond_line_on : (kinds : ℕ) (met : List ℕ) (words : List (List ℕ)) → On (IsBondLine kinds) (bond_line_row kinds met words)
unfolding bond_line_row bond_line_parts
bond_line_on kinds met words =
    on_counted (IsBondLine kinds) 3 words _
    (on_then (λ (r : ℕ × (ℤ × ℤ)). IsKind kinds r.0 × (Between (pos 0) MAX_STIFFNESS r.1.0 × Between (pos 0) MAX_REST_LENGTH r.1.1)) (IsBondLine kinds) (bond_line_parts kinds words) _
    (on_both (IsKind kinds) (λ (r : ℤ × ℤ). Between (pos 0) MAX_STIFFNESS r.0 × Between (pos 0) MAX_REST_LENGTH r.1) (kind_field kinds (word 0 words)) _ (kind_on kinds (word 0 words))
    (on_both (Between (pos 0) MAX_STIFFNESS) (Between (pos 0) MAX_REST_LENGTH) (decimal_field (pos 0) MAX_STIFFNESS (word 1 words)) (decimal_field (pos 0) MAX_REST_LENGTH (word 2 words)) (on_decimal (pos 0) MAX_STIFFNESS (word 1 words)) (on_decimal (pos 0) MAX_REST_LENGTH (word 2 words))))
    (λ r h. on_unless (IsBondLine kinds) (is_met r.0 met) _ (Ok (bond_line_of r)) (λ _. record { kind = h.0; stiffness_low = h.1.0.0; stiffness_high = h.1.0.1; length_low = h.1.1.0; length_high = h.1.1.1 })))

pub angle_line_on : (kinds : ℕ) (met : List ℕ) (words : List (List ℕ)) → On (IsAngleLine kinds) (angle_line_row kinds met words)
unfolding angle_line_row
angle_line_on kinds met words =
    on_counted (IsAngleLine kinds) 2 words _
    (on_then (λ (r : ℕ × ℤ). IsKind kinds r.0 × Between (pos 0) MAX_STIFFNESS r.1) (IsAngleLine kinds) (both (kind_field kinds (word 0 words)) (decimal_field (pos 0) MAX_STIFFNESS (word 1 words))) _
    (on_both (IsKind kinds) (Between (pos 0) MAX_STIFFNESS) (kind_field kinds (word 0 words)) (decimal_field (pos 0) MAX_STIFFNESS (word 1 words)) (kind_on kinds (word 0 words)) (on_decimal (pos 0) MAX_STIFFNESS (word 1 words)))
    (λ r h. on_unless (IsAngleLine kinds) (is_met r.0 met) _ (Ok record { kind = r.0; stiffness = r.1 }) (λ _. record { kind = h.0; stiffness_low = h.1.0; stiffness_high = h.1.1 })))

-- atoms
record IsGiven (kinds : ℕ) (a : Atom) : Type 0 where
  pub kind : IsKind kinds a.kind
  pub id : IsKind MAX_ID a.id
  pub v : a.v ≡ zeros
  pub f : a.f ≡ zeros

abbrev AreParts : ℕ → ((ℕ × ℕ) × ℕ) × (List ℤ × List ℤ) → Type 0
AreParts kinds p = ((IsKind MAX_ID p.0.0.0 × Any p.0.0.1) × IsKind kinds p.0.1) × Any p.1

parts_on : (style : AtomStyle) (kinds : ℕ) (words : List (List ℕ)) → On (AreParts kinds) (atom_parts style kinds words)
unfolding atom_parts
parts_on style kinds words =
    on_both (λ (p : (ℕ × ℕ) × ℕ). (IsKind MAX_ID p.0.0 × Any p.0.1) × IsKind kinds p.1) Any _ _
    (on_both (λ (p : ℕ × ℕ). IsKind MAX_ID p.0 × Any p.1) (IsKind kinds) (both (id_field (word 0 words)) (molecule_field style words)) (kind_field kinds (word (1 + molecules style) words))
    (on_both (IsKind MAX_ID) Any (id_field (word 0 words)) (molecule_field style words) (id_on (word 0 words)) (on_any (molecule_field style words)))
    (kind_on kinds (word (1 + molecules style) words)))
    (on_any _)

given_on : (style : AtomStyle) (kinds : ℕ) (words : List (List ℕ)) → On (IsGiven kinds) (atom_fields style kinds words)
given_on style kinds words = on_made (AreParts kinds) (IsGiven kinds) atom_of (atom_parts style kinds words) (parts_on style kinds words) (λ p h. record { kind = h.0.1; id = h.0.0.0; v = refl; f = refl })

pub zeros_slow : IsWithin (unsigned_abs MAX_SPEED) zeros
zeros_slow = (omega arith, omega arith, omega arith)

images_are : (n : List ℤ) → not (are_images n) ≡ false → IsWithin (unsigned_abs MAX_IMAGE) n
images_are n t = grind (arith, nat_tests)

-- an atom with an id that was not met
abbrev pub IsNewAtom : Sides → ℕ → List ℕ → Atom → Type 0
IsNewAtom s kinds met a = IsAtom s kinds a × (is_met a.id met ≡ false)

wrapped_on : (s : Sides) (kinds : ℕ) (met : List ℕ) (a : Atom) (image : List ℤ) (r : Result Wrapped Axis) → HasEdges s → IsGiven kinds a → IsWithin (unsigned_abs MAX_IMAGE) image → is_met a.id met ≡ false → wrap s a.x ≡ r → On (IsNewAtom s kinds met) (wrapped_atom a image r)
wrapped_on s kinds met a image (Ok w) some h near new e = (
  record {
    inside = wrap-inside s a.x w some e;
    kind = h.kind;
    id_low = h.id.0;
    id_high = h.id.1;
    v = subst (IsWithin (unsigned_abs MAX_SPEED)) (sym h.v) zeros_slow;
    f = h.f;
    image = near;
  },
  new,
)
wrapped_on s kinds met a image (Err axis) some h near new e = tt

placed_on : (s : Sides) (kinds : ℕ) (met : List ℕ) (a : Atom) → HasEdges s → IsGiven kinds a → On (IsNewAtom s kinds met) (placed s met a)
unfolding placed
placed_on s kinds met a some h =
    on_unless (IsNewAtom s kinds met) (not (are_images (plus a.image (edges_off s a.x)))) _ _ (λ t.
    on_unless (IsNewAtom s kinds met) (is_met a.id met) _ _ (λ new.
    wrapped_on s kinds met a (plus a.image (edges_off s a.x)) (wrap s a.x) some h (images_are (plus a.image (edges_off s a.x)) t) new refl))

pub atom_on : (style : AtomStyle) (kinds : ℕ) (s : Sides) (met : List ℕ) (words : List (List ℕ)) → HasEdges s → On (IsNewAtom s kinds met) (atom_row style kinds s met words)
unfolding atom_row
atom_on style kinds s met words some =
    on_unless (IsNewAtom s kinds met) _ _ _ (λ _.
    on_then (IsGiven kinds) (IsNewAtom s kinds met) (atom_fields style kinds words) (placed s met) (given_on style kinds words) (λ a h. placed_on s kinds met a some h))

pub velocity_on : (met : List ℕ) (atoms : List (ℕ × Atom)) (words : List (List ℕ)) → On (λ (r : ℕ × List ℤ). IsWithin (unsigned_abs MAX_SPEED) r.1) (velocity_row met atoms words)
unfolding velocity_row
velocity_on met atoms words =
    on_counted (λ (r : ℕ × List ℤ). IsWithin (unsigned_abs MAX_SPEED) r.1) 4 words _
    (on_then (λ (r : ℕ × List ℤ). IsKind MAX_ID r.0 × IsWithin (unsigned_abs MAX_SPEED) r.1) (λ (r : ℕ × List ℤ). IsWithin (unsigned_abs MAX_SPEED) r.1) _ _
    (on_both (IsKind MAX_ID) (IsWithin (unsigned_abs MAX_SPEED)) (id_field (word 0 words)) _ (id_on (word 0 words)) (on_vector_field (unsigned_abs MAX_SPEED) 1 words))
    (λ r h. on_unless (λ (r : ℕ × List ℤ). IsWithin (unsigned_abs MAX_SPEED) r.1) (is_met r.0 met) _ _ (λ _. on_unless (λ (r : ℕ × List ℤ). IsWithin (unsigned_abs MAX_SPEED) r.1) _ _ (Ok r) (λ _. h.1))))

-- bonds and angles: tests that fail
neither : (a b : Bool) → (a || b) ≡ false → (a ≡ false) × (b ≡ false)
neither false false e = (refl, refl)
neither true b e = absurd cc
neither false true e = absurd cc

none_of : (a b c : Bool) → (a || b || c) ≡ false → (a ≡ false) × (b ≡ false) × (c ≡ false)
none_of false false false e = (refl, refl, refl)
none_of true b c e = absurd cc
none_of false true c e = absurd cc
none_of false false true e = absurd cc

differs : (a b : ℕ) → (a == b) ≡ false → a ≢ b
differs a b e = grind (arith, nat_tests)

there_by : (b : Bool) → not b ≡ false → b ≡ true
there_by true e = refl
there_by false e = absurd cc

-- an id is among those of atoms
abbrev pub IsThere : List ℕ → ℕ → Type 0
IsThere ids id = is_met id ids ≡ true

there : (id : ℕ) (atoms : List (ℕ × Atom)) → is_absent id atoms ≡ false → IsThere (keys_of atoms) id
there id atoms e = sym (is_some-lookup (is_at (nat_cmp id)) atoms) ∙ there_by (is_some (under id atoms)) e

pub record IsBondIn (kinds : ℕ) (ids : List ℕ) (bond : Bond) : Type 0 where
  pub kind : IsKind kinds bond.kind
  pub a : IsThere ids bond.a
  pub b : IsThere ids bond.b
  pub differ : bond.a ≢ bond.b

pub record IsAngleIn (kinds : ℕ) (ids : List ℕ) (t : Angle) : Type 0 where
  pub kind : IsKind kinds t.kind
  pub a : IsThere ids t.a
  pub b : IsThere ids t.b
  pub c : IsThere ids t.c
  pub first : t.a ≢ t.b
  pub second : t.b ≢ t.c
  pub outer : t.a ≢ t.c

-- a bond or an angle with an id that was not met
abbrev pub IsNewBond : ℕ → List ℕ → List ℕ → ℕ × Bond → Type 0
IsNewBond kinds met ids r = IsBondIn kinds ids r.1 × (is_met r.0 met ≡ false)

abbrev pub IsNewAngle : ℕ → List ℕ → List ℕ → ℕ × Angle → Type 0
IsNewAngle kinds met ids r = IsAngleIn kinds ids r.1 × (is_met r.0 met ≡ false)

bond_fields_on : (kinds : ℕ) (words : List (List ℕ)) → On (λ (r : ℕ × Bond). IsKind kinds r.1.kind) (bond_fields kinds words)
unfolding bond_fields bond_parts
bond_fields_on kinds words =
    on_weaker (λ (r : ℕ × Bond). IsKind MAX_ID r.0 × IsKind kinds r.1.kind) (λ (r : ℕ × Bond). IsKind kinds r.1.kind) (both (id_field (word 0 words)) (made bond_of (bond_parts kinds words)))
    (on_both (IsKind MAX_ID) (λ (b : Bond). IsKind kinds b.kind) (id_field (word 0 words)) (made bond_of (bond_parts kinds words)) (id_on (word 0 words))
    (on_made (λ (p : ℕ × (ℕ × ℕ)). IsKind kinds p.0 × Any p.1) (λ (b : Bond). IsKind kinds b.kind) bond_of (bond_parts kinds words)
    (on_both (IsKind kinds) Any (kind_field kinds (word 1 words)) (both (id_field (word 2 words)) (id_field (word 3 words))) (kind_on kinds (word 1 words)) (on_any (both (id_field (word 2 words)) (id_field (word 3 words)))))
    (λ p h. h.0)))
    (λ r h. h.1)

abbrev tied_bond : List (ℕ × Atom) → ℕ × Bond → Result (ℕ × Bond) DataFault
tied_bond atoms r = unless (is_absent r.1.a atoms || is_absent r.1.b atoms) fault.NoSuch (Ok r)

abbrev new_bond : List ℕ → List (ℕ × Atom) → ℕ × Bond → Result (ℕ × Bond) DataFault
new_bond met atoms r = unless (is_met r.0 met || (r.1.a == r.1.b)) fault.Twice (tied_bond atoms r)

abbrev checked_bond : List ℕ → List (ℕ × Atom) → List (ℕ × ℕ) → ℕ × Bond → Result (ℕ × Bond) DataFault
checked_bond met atoms bonds r = unless (is_bound MAX_BONDS_OF_ATOM r.1.a bonds || is_bound MAX_BONDS_OF_ATOM r.1.b bonds) fault.Limit (new_bond met atoms r)

pub bond_on : (kinds : ℕ) (met : List ℕ) (atoms : List (ℕ × Atom)) (bonds : List (ℕ × ℕ)) (words : List (List ℕ)) → On (IsNewBond kinds met (keys_of atoms)) (bond_row kinds met atoms bonds words)
unfolding bond_row
bond_on kinds met atoms bonds words =
    let New : ℕ × Bond → Type 0 = IsNewBond kinds met (keys_of atoms) in
    on_counted New 4 words (then (bond_fields kinds words) (checked_bond met atoms bonds)) (on_then (λ (r : ℕ × Bond). IsKind kinds r.1.kind) New (bond_fields kinds words) (checked_bond met atoms bonds) (bond_fields_on kinds words) (λ r h.
    on_unless New (is_bound MAX_BONDS_OF_ATOM r.1.a bonds || is_bound MAX_BONDS_OF_ATOM r.1.b bonds) fault.Limit (new_bond met atoms r) (λ _.
    on_unless New (is_met r.0 met || (r.1.a == r.1.b)) fault.Twice (tied_bond atoms r) (λ t.
    on_unless New (is_absent r.1.a atoms || is_absent r.1.b atoms) fault.NoSuch (Ok r) (λ u.
    let m = neither (is_met r.0 met) (r.1.a == r.1.b) t in
    let n = neither (is_absent r.1.a atoms) (is_absent r.1.b atoms) u in
    (record { kind = h; a = there r.1.a atoms n.0; b = there r.1.b atoms n.1; differ = differs r.1.a r.1.b m.1 }, m.0))))))

angle_fields_on : (kinds : ℕ) (words : List (List ℕ)) → On (λ (r : ℕ × Angle). IsKind kinds r.1.kind) (angle_fields kinds words)
unfolding angle_fields angle_parts
angle_fields_on kinds words =
    let atoms = both (both (id_field (word 2 words)) (id_field (word 3 words))) (id_field (word 4 words)) in
    on_weaker (λ (r : ℕ × Angle). IsKind MAX_ID r.0 × IsKind kinds r.1.kind) (λ (r : ℕ × Angle). IsKind kinds r.1.kind) (both (id_field (word 0 words)) (made angle_of (angle_parts kinds words)))
    (on_both (IsKind MAX_ID) (λ (b : Angle). IsKind kinds b.kind) (id_field (word 0 words)) (made angle_of (angle_parts kinds words)) (id_on (word 0 words))
    (on_made (λ (p : ℕ × ((ℕ × ℕ) × ℕ)). IsKind kinds p.0 × Any p.1) (λ (b : Angle). IsKind kinds b.kind) angle_of (angle_parts kinds words)
    (on_both (IsKind kinds) Any (kind_field kinds (word 1 words)) atoms (kind_on kinds (word 1 words)) (on_any atoms))
    (λ p h. h.0)))
    (λ r h. h.1)

abbrev tied_angle : List (ℕ × Atom) → ℕ × Angle → Result (ℕ × Angle) DataFault
tied_angle atoms r = unless (lacks_atom r.1 atoms) fault.NoSuch (Ok r)

abbrev new_angle : List ℕ → List (ℕ × Atom) → ℕ × Angle → Result (ℕ × Angle) DataFault
new_angle met atoms r = unless (is_met r.0 met || has_twice r.1) fault.Twice (tied_angle atoms r)

abbrev checked_angle : List ℕ → List (ℕ × Atom) → List (ℕ × ℕ) → ℕ × Angle → Result (ℕ × Angle) DataFault
checked_angle met atoms angles r = unless (are_bound r.1 angles) fault.Limit (new_angle met atoms r)

pub angle_on : (kinds : ℕ) (met : List ℕ) (atoms : List (ℕ × Atom)) (angles : List (ℕ × ℕ)) (words : List (List ℕ)) → On (IsNewAngle kinds met (keys_of atoms)) (angle_row kinds met atoms angles words)
unfolding angle_row
angle_on kinds met atoms angles words =
    let New : ℕ × Angle → Type 0 = IsNewAngle kinds met (keys_of atoms) in
    on_counted New 5 words (then (angle_fields kinds words) (checked_angle met atoms angles)) (on_then (λ (r : ℕ × Angle). IsKind kinds r.1.kind) New (angle_fields kinds words) (checked_angle met atoms angles) (angle_fields_on kinds words) (λ r h.
    on_unless New (are_bound r.1 angles) fault.Limit (new_angle met atoms r) (λ _.
    on_unless New (is_met r.0 met || has_twice r.1) fault.Twice (tied_angle atoms r) (λ t.
    on_unless New (lacks_atom r.1 atoms) fault.NoSuch (Ok r) (λ u.
    let m = neither (is_met r.0 met) (has_twice r.1) t in
    let d = none_of (r.1.a == r.1.b) (r.1.b == r.1.c) (r.1.a == r.1.c) m.1 in
    let n = none_of (is_absent r.1.a atoms) (is_absent r.1.b atoms) (is_absent r.1.c atoms) u in (
      record {
        kind = h;
        a = there r.1.a atoms n.0;
        b = there r.1.b atoms n.1;
        c = there r.1.c atoms n.2;
        first = differs r.1.a r.1.b d.0;
        second = differs r.1.b r.1.c d.1;
        outer = differs r.1.a r.1.c d.2;
      },
      m.0,
    ))))))
