-- What is read keeps to the limits, row by row.
use Rattle.std.proofs.Common.{◌≡◌, ◌+◌, ◌<◌, ◌≤◌, Bool, true, false, ℕ, ℤ, unsigned_abs, Option, Some, None, List, [], ◌∷◌, ◌++◌, length, map, refl, sym, ap, subst, arith, length-append}
use Rattle.std.proofs.lemmas.List.Elements.{All-append, All-cons, All-nil, All-weaker}
use Rattle.std.specs.List.{All}
use Rattle.std.specs.List.Sorted.{IsStrictlySortedBy}
use Rattle.std.specs.Map.{keys_of}
use Rattle.std.specs.Option.{IfSome}
use Rattle.std.specs.Ordering.{nat_cmp}
use Rattle.box_geo.specs.declared.atoms.Angle.{Angle}
use Rattle.box_geo.specs.declared.atoms.Atom.{Atom}
use Rattle.box_geo.specs.declared.atoms.Bond.{Bond}
use Rattle.box_geo.specs.declared.limits.TheConstants.{MAX_SPEED}
use Rattle.box_geo.specs.declared.sim_box.Sides.{Sides}
use Rattle.box_geo.specs.declared.styles.AtomStyle.{AtomStyle}
use Rattle.data_file.specs.declared.contents.AngleLine.{AngleLine}
use Rattle.data_file.specs.declared.contents.BondLine.{BondLine}
use Rattle.data_file.specs.declared.contents.PairLine.{PairLine}
use Rattle.data_file.specs.declared.header.Header.{Header}
use Rattle.data_file.specs.declared.reading.Reading.{Reading}
use Rattle.data_file.specs.declared.sections.Begun.{Begun}
use Rattle.data_file.specs.declared.sections.Section.{Section}
use Rattle.data_file.specs.declared.sections.Section.TheVariants.{Masses, PairCoeffs, BondCoeffs, AngleCoeffs, Atoms, Velocities, Bonds, Angles}
use Rattle.data_file.specs.Data.{angle_types, atom_row_in, atom_types, bond_types, row, start, with_angle, with_angle_line, with_atom, with_bond, with_bond_line, with_mass, with_pair, with_vector}
use Rattle.data_file.specs.Fields.{made}
use Rattle.data_file.specs.Header.{given_or_zero, sides_of}
use Rattle.data_file.specs.Rows.{angle_line_row, angle_row, atom_row, bond_line_row, bond_row, mass_row, pair_row, velocity_row}
use Rattle.data_file.specs.Sections.{has_angles, has_begun, has_bonds, has_style, rows_of}
use Rattle.box_geo.specs.Sides.{IsWithin}
use Rattle.data_file.specs.Sound.{IsAngleLine, IsAtom, IsBondLine, IsMass, IsPairLine}
use Rattle.data_file.specs.Tables.{add, is_met, put}
use Rattle.data_file.proofs.HeaderLemmas.{IsSoundHeader, sides_on}
use Rattle.data_file.proofs.OutcomeLemmas.{On, on_made}
use Rattle.data_file.proofs.RowLemmas.{angle_line_on, angle_on, atom_on, bond_line_on, bond_on, mass_on, pair_on, velocity_on, IsAngleIn, IsBondIn, IsNewAngle, IsNewAtom, IsNewBond, IsThere}
use Rattle.data_file.proofs.TableLemmas.{All_put, keys_put, length_add, length_put, met_add, named_put, sorted_add, sorted_none}

pub record AreLines (h : Header) (ms : List (ℕ × ℤ)) (ps : List PairLine) (bs : List BondLine) (ts : List AngleLine) : Type 0 where
  pub mass : All (λ (q : ℕ × ℤ). IsMass q.1) ms
  pub pair : All (IsPairLine (given_or_zero h.atom_types)) ps
  pub bond : All (IsBondLine (given_or_zero h.bond_types)) bs
  pub angle : All (IsAngleLine (given_or_zero h.angle_types)) ts

pub record AreAtoms (dim : ℕ) (h : Header) (es : List (ℕ × Atom)) (vs : List (ℕ × List ℤ)) : Type 0 where
  pub each : (s : Sides) → sides_of dim h ≡ Some s → All (λ (q : ℕ × Atom). IsAtom s (given_or_zero h.atom_types) q.1) es
  pub named : map (λ (q : ℕ × Atom). q.1.id) es ≡ keys_of es
  pub sorted : IsStrictlySortedBy nat_cmp (keys_of es)
  pub slow : All (λ (q : ℕ × List ℤ). IsWithin (unsigned_abs MAX_SPEED) q.1) vs

pub record AreTied (h : Header) (es : List (ℕ × Atom)) (bs : List Bond) (ts : List Angle) : Type 0 where
  pub bonds : All (IsBondIn (given_or_zero h.bond_types) (keys_of es)) bs
  pub angles : All (IsAngleIn (given_or_zero h.angle_types) (keys_of es)) ts

-- the rows of the section that is open are no more than the ids that were met
abbrev pub Filled : Option Section → ℕ → ℕ → ℕ → ℕ → Type 0
Filled (Some Atoms) e b t m = e ≤ m
Filled (Some Bonds) e b t m = b ≤ m
Filled (Some Angles) e b t m = t ≤ m
Filled o e b t m = Unit {0}

pub record AreCounted (h : Header) (o : Option Section) (g : Begun) (met : List ℕ) (es : List (ℕ × Atom)) (bs : List Bond) (ts : List Angle) : Type 0 where
  pub few_atoms : length es ≤ given_or_zero h.atoms
  pub few_bonds : length bs ≤ given_or_zero h.bonds
  pub few_angles : length ts ≤ given_or_zero h.angles
  pub filled : Filled o (length es) (length bs) (length ts) (length met)
  pub no_atoms : g.atoms ≡ false → length es ≡ 0
  pub no_bonds : g.bonds ≡ false → length bs ≡ 0
  pub no_angles : g.angles ≡ false → length ts ≡ 0

abbrev pub IsOpened : Begun → Option Section → Type 0
IsOpened g o = IfSome o (λ (section : Section). has_begun section g ≡ true)

abbrev pub IsOfStyle : AtomStyle → Option Section → Type 0
IsOfStyle style o = IfSome o (λ (section : Section). has_style section style ≡ true)

pub record AreStyled (style : AtomStyle) (o : Option Section) (g : Begun) (bs : List Bond) (ts : List Angle) : Type 0 where
  pub bonds : has_bonds style ≡ false → bs ≡ []
  pub angles : has_angles style ≡ false → ts ≡ []
  pub opened : IsOpened g o
  pub styled : IsOfStyle style o

-- only header lines are read where no section is open
abbrev pub Fresh : Option Section → Reading → Type 0
Fresh None s = s ≡ record (start s.style s.periodic s.dim) { header = s.header }
Fresh (Some section) s = Unit {0}

pub record IsSoundState (style : AtomStyle) (dimensions : ℕ) (s : Reading) : Type 0 where
  pub style_is : s.style ≡ style
  pub dim_is : s.dim ≡ dimensions
  pub header : IsSoundHeader s.header
  pub lines : AreLines s.header s.masses s.pair s.bond s.angle
  pub atoms : AreAtoms s.dim s.header s.atoms s.velocities
  pub tied : AreTied s.header s.atoms s.bonds s.angles
  pub counted : AreCounted s.header s.section s.begun s.met s.atoms s.bonds s.angles
  pub styled : AreStyled s.style s.section s.begun s.bonds s.angles
  pub fresh : Fresh s.section s

pub fresh_state : (style : AtomStyle) (periodic : List Bool) (dim : ℕ) (h : Header) → IsSoundHeader h → IsSoundState style dim (record (start style periodic dim) { header = h })
fresh_state style periodic dim h sound = record {
  style_is = refl;
  dim_is = refl;
  header = sound;
  lines = record { mass = All-nil _; pair = All-nil _; bond = All-nil _; angle = All-nil _ };
  atoms = record { each = λ s e. All-nil _; named = refl; sorted = sorted_none; slow = All-nil _ };
  tied = record { bonds = All-nil _; angles = All-nil _ };
  counted = record { few_atoms = omega arith; few_bonds = omega arith; few_angles = omega arith; filled = tt; no_atoms = λ e. refl; no_bonds = λ e. refl; no_angles = λ e. refl };
  styled = record { bonds = λ e. refl; angles = λ e. refl; opened = tt; styled = tt };
  fresh = refl;
}

-- a header line
pub header_state : (style : AtomStyle) (dim : ℕ) (s : Reading) (h : Header) → IsSoundState style dim s → s.section ≡ None → IsSoundHeader h → IsSoundState style dim (record s { header = h })
header_state style dim s h state none sound =
    let e : s ≡ record (start s.style s.periodic s.dim) { header = s.header } = subst (λ (o : Option Section). Fresh o s) none state.fresh in
    let f : IsSoundState s.style s.dim (record (start s.style s.periodic s.dim) { header = h }) = fresh_state s.style s.periodic s.dim h sound in
    let g : IsSoundState s.style s.dim (record s { header = h }) = subst (IsSoundState s.style s.dim) (sym (ap (λ (t : Reading). record t { header = h }) e)) f in
    subst (λ (d : ℕ). IsSoundState style d (record s { header = h })) state.dim_is (subst (λ (y : AtomStyle). IsSoundState y s.dim (record s { header = h })) state.style_is g)

recount : (h : Header) (o : Option Section) (g : Begun) (met new : List ℕ) (es : List (ℕ × Atom)) (bs : List Bond) (ts : List Angle) → AreCounted h o g met es bs ts → Filled o (length es) (length bs) (length ts) (length new) → AreCounted h o g new es bs ts
recount h o g met new es bs ts c f = record { few_atoms = c.few_atoms; few_bonds = c.few_bonds; few_angles = c.few_angles; filled = f; no_atoms = c.no_atoms; no_bonds = c.no_bonds; no_angles = c.no_angles }

module _ (style : AtomStyle) (dim : ℕ) (s : Reading) (state : IsSoundState style dim s) where
  -- a row that ties no atoms
  counted_as : (section : Section) (new : List ℕ) → s.section ≡ Some section → Filled (Some section) (length s.atoms) (length s.bonds) (length s.angles) (length new) → AreCounted s.header s.section s.begun new s.atoms s.bonds s.angles
  counted_as section new e f =
      recount s.header s.section s.begun s.met new s.atoms s.bonds s.angles state.counted (subst (λ (o : Option Section). Filled o (length s.atoms) (length s.bonds) (length s.angles) (length new)) (sym e) f)

  fresh_as : (section : Section) (t : Reading) → s.section ≡ Some section → Fresh s.section t
  fresh_as section t e = subst (λ (o : Option Section). Fresh o t) (sym e) tt

  pub mass_state : (words : List (List ℕ)) → s.section ≡ Some Masses → On (IsSoundState style dim) (row Masses s words)
  mass_state words e = on_made (λ (r : ℕ × ℤ). IsMass r.1) (IsSoundState style dim) (with_mass s) (mass_row (atom_types s) s.met words) (mass_on (atom_types s) s.met words) (λ r g. record {
    style_is = state.style_is;
    dim_is = state.dim_is;
    header = state.header;
    lines = record { mass = All_put IsMass s.masses r.0 r.1 g state.lines.mass; pair = state.lines.pair; bond = state.lines.bond; angle = state.lines.angle };
    atoms = state.atoms;
    tied = state.tied;
    counted = counted_as Masses (add s.met r.0) e tt;
    styled = state.styled;
    fresh = fresh_as Masses (with_mass s r) e;
  })

  pub pair_state : (words : List (List ℕ)) → s.section ≡ Some PairCoeffs → On (IsSoundState style dim) (row PairCoeffs s words)
  pair_state words e = on_made (IsPairLine (atom_types s)) (IsSoundState style dim) (with_pair s) (pair_row (atom_types s) s.met words) (pair_on (atom_types s) s.met words) (λ p g. record {
    style_is = state.style_is;
    dim_is = state.dim_is;
    header = state.header;
    lines = record { mass = state.lines.mass; pair = All-append (IsPairLine (atom_types s)) s.pair (p ∷ []) state.lines.pair (All-cons (IsPairLine (atom_types s)) p [] g (All-nil _)); bond = state.lines.bond; angle = state.lines.angle };
    atoms = state.atoms;
    tied = state.tied;
    counted = counted_as PairCoeffs (add s.met p.kind) e tt;
    styled = state.styled;
    fresh = fresh_as PairCoeffs (with_pair s p) e;
  })

  pub bond_line_state : (words : List (List ℕ)) → s.section ≡ Some BondCoeffs → On (IsSoundState style dim) (row BondCoeffs s words)
  bond_line_state words e = on_made (IsBondLine (bond_types s)) (IsSoundState style dim) (with_bond_line s) (bond_line_row (bond_types s) s.met words) (bond_line_on (bond_types s) s.met words) (λ p g. record {
    style_is = state.style_is;
    dim_is = state.dim_is;
    header = state.header;
    lines = record { mass = state.lines.mass; pair = state.lines.pair; bond = All-append (IsBondLine (bond_types s)) s.bond (p ∷ []) state.lines.bond (All-cons (IsBondLine (bond_types s)) p [] g (All-nil _)); angle = state.lines.angle };
    atoms = state.atoms;
    tied = state.tied;
    counted = counted_as BondCoeffs (add s.met p.kind) e tt;
    styled = state.styled;
    fresh = fresh_as BondCoeffs (with_bond_line s p) e;
  })

  pub angle_line_state : (words : List (List ℕ)) → s.section ≡ Some AngleCoeffs → On (IsSoundState style dim) (row AngleCoeffs s words)
  angle_line_state words e = on_made (IsAngleLine (angle_types s)) (IsSoundState style dim) (with_angle_line s) (angle_line_row (angle_types s) s.met words) (angle_line_on (angle_types s) s.met words) (λ p g. record {
    style_is = state.style_is;
    dim_is = state.dim_is;
    header = state.header;
    lines = record { mass = state.lines.mass; pair = state.lines.pair; bond = state.lines.bond; angle = All-append (IsAngleLine (angle_types s)) s.angle (p ∷ []) state.lines.angle (All-cons (IsAngleLine (angle_types s)) p [] g (All-nil _)) };
    atoms = state.atoms;
    tied = state.tied;
    counted = counted_as AngleCoeffs (add s.met p.kind) e tt;
    styled = state.styled;
    fresh = fresh_as AngleCoeffs (with_angle_line s p) e;
  })

  pub velocity_state : (words : List (List ℕ)) → s.section ≡ Some Velocities → On (IsSoundState style dim) (row Velocities s words)
  velocity_state words e = on_made (λ (r : ℕ × List ℤ). IsWithin (unsigned_abs MAX_SPEED) r.1) (IsSoundState style dim) (with_vector s) (velocity_row s.met s.atoms words) (velocity_on s.met s.atoms words) (λ r g. record {
    style_is = state.style_is;
    dim_is = state.dim_is;
    header = state.header;
    lines = state.lines;
    atoms = record { each = state.atoms.each; named = state.atoms.named; sorted = state.atoms.sorted; slow = All_put (IsWithin (unsigned_abs MAX_SPEED)) s.velocities r.0 r.1 g state.atoms.slow };
    tied = state.tied;
    counted = counted_as Velocities (add s.met r.0) e tt;
    styled = state.styled;
    fresh = fresh_as Velocities (with_vector s r) e;
  })

  -- what the section that is open tells
  opened_as : (section : Section) → s.section ≡ Some section → has_begun section s.begun ≡ true
  opened_as section e = subst (IsOpened s.begun) e state.styled.opened

  style_as : (section : Section) → s.section ≡ Some section → has_style section s.style ≡ true
  style_as section e = subst (IsOfStyle s.style) e state.styled.styled

  filled_as : (section : Section) → s.section ≡ Some section → Filled (Some section) (length s.atoms) (length s.bonds) (length s.angles) (length s.met)
  filled_as section e = subst (λ (o : Option Section). Filled o (length s.atoms) (length s.bonds) (length s.angles) (length s.met)) e state.counted.filled

  more_there : (k : ℕ) (a : Atom) (id : ℕ) → IsThere (keys_of s.atoms) id → IsThere (keys_of (put s.atoms k a)) id
  more_there k a id h = subst (λ (ks : List ℕ). is_met id ks ≡ true) (sym (keys_put s.atoms k a)) (met_add id (keys_of s.atoms) k h)

  more_bond : (k : ℕ) (a : Atom) (b : Bond) → IsBondIn (bond_types s) (keys_of s.atoms) b → IsBondIn (bond_types s) (keys_of (put s.atoms k a)) b
  more_bond k a b h = record { kind = h.kind; a = more_there k a b.a h.a; b = more_there k a b.b h.b; differ = h.differ }

  more_angle : (k : ℕ) (a : Atom) (t : Angle) → IsAngleIn (angle_types s) (keys_of s.atoms) t → IsAngleIn (angle_types s) (keys_of (put s.atoms k a)) t
  more_angle k a t h = record { kind = h.kind; a = more_there k a t.a h.a; b = more_there k a t.b h.b; c = more_there k a t.c h.c; first = h.first; second = h.second; outer = h.outer }

  -- an atom more
  atom_more : (sides : Sides) (a : Atom) → s.section ≡ Some Atoms → length s.met < given_or_zero s.header.atoms → sides_of s.dim s.header ≡ Some sides → IsNewAtom sides (atom_types s) s.met a → IsSoundState style dim (with_atom s a)
  atom_more sides a e room made g =
      let e1 : length s.atoms ≤ length s.met = filled_as Atoms e in
      let e2 : length (put s.atoms a.id a) ≤ length s.atoms + 1 = length_put s.atoms a.id a in
      let e3 : length (add s.met a.id) ≡ length s.met + 1 = length_add s.met a.id g.1 in
      record {
        style_is = state.style_is;
        dim_is = state.dim_is;
        header = state.header;
        lines = state.lines;
        atoms = record {
          each = λ t is. All_put (IsAtom t (atom_types s)) s.atoms a.id a (let same : sides ≡ t = cc (made, is) in subst (λ (u : Sides). IsAtom u (atom_types s) a) same g.0) (state.atoms.each t is);
          named = named_put (λ (b : Atom). b.id) s.atoms a.id a refl state.atoms.named;
          sorted = subst (IsStrictlySortedBy nat_cmp) (sym (keys_put s.atoms a.id a)) (sorted_add (keys_of s.atoms) a.id state.atoms.sorted);
          slow = state.atoms.slow;
        };
        tied = record {
          bonds = All-weaker (IsBondIn (bond_types s) (keys_of s.atoms)) (IsBondIn (bond_types s) (keys_of (put s.atoms a.id a))) (more_bond a.id a) s.bonds state.tied.bonds;
          angles = All-weaker (IsAngleIn (angle_types s) (keys_of s.atoms)) (IsAngleIn (angle_types s) (keys_of (put s.atoms a.id a))) (more_angle a.id a) s.angles state.tied.angles;
        };
        counted = record {
          few_atoms = omega (arith, e1, e2, room);
          few_bonds = state.counted.few_bonds;
          few_angles = state.counted.few_angles;
          filled = subst (λ (o : Option Section). Filled o (length (put s.atoms a.id a)) (length s.bonds) (length s.angles) (length (add s.met a.id))) (sym e) (omega (arith, e1, e2, e3));
          no_atoms = λ f. absurd (cc (f, opened_as Atoms e));
          no_bonds = state.counted.no_bonds;
          no_angles = state.counted.no_angles;
        };
        styled = state.styled;
        fresh = fresh_as Atoms (with_atom s a) e;
      }

  atom_by : (o : Option Sides) (words : List (List ℕ)) → s.section ≡ Some Atoms → length s.met < given_or_zero s.header.atoms → sides_of s.dim s.header ≡ o → On (IsSoundState style dim) (made (with_atom s) (atom_row_in s o words))
  atom_by None words e room is = tt
  atom_by (Some sides) words e room is =
      on_made (IsNewAtom sides (atom_types s) s.met) (IsSoundState style dim) (with_atom s) (atom_row s.style (atom_types s) sides s.met words)
      (atom_on s.style (atom_types s) sides s.met words (sides_on s.dim s.header sides state.header is).0) (λ a g. atom_more sides a e room is g)

  pub atom_state : (words : List (List ℕ)) → s.section ≡ Some Atoms → length s.met < given_or_zero s.header.atoms → On (IsSoundState style dim) (row Atoms s words)
  atom_state words e room = atom_by (sides_of s.dim s.header) words e room refl

  pub bond_state : (words : List (List ℕ)) → s.section ≡ Some Bonds → length s.met < given_or_zero s.header.bonds → On (IsSoundState style dim) (row Bonds s words)
  bond_state words e room = on_made (IsNewBond (bond_types s) s.met (keys_of s.atoms)) (IsSoundState style dim) (with_bond s) (bond_row (bond_types s) s.met s.atoms s.bonds_of words) (bond_on (bond_types s) s.met s.atoms s.bonds_of words) (λ r g.
      let e1 : length s.bonds ≤ length s.met = filled_as Bonds e in
      let e2 : length (s.bonds ++ r.1 ∷ []) ≡ length s.bonds + 1 = length-append s.bonds (r.1 ∷ []) in
      let e3 : length (add s.met r.0) ≡ length s.met + 1 = length_add s.met r.0 g.1 in
      record {
        style_is = state.style_is;
        dim_is = state.dim_is;
        header = state.header;
        lines = state.lines;
        atoms = state.atoms;
        tied = record { bonds = All-append (IsBondIn (bond_types s) (keys_of s.atoms)) s.bonds (r.1 ∷ []) state.tied.bonds (All-cons (IsBondIn (bond_types s) (keys_of s.atoms)) r.1 [] g.0 (All-nil _)); angles = state.tied.angles };
        counted = record {
          few_atoms = state.counted.few_atoms;
          few_bonds = omega (arith, e1, e2, room);
          few_angles = state.counted.few_angles;
          filled = subst (λ (o : Option Section). Filled o (length s.atoms) (length (s.bonds ++ r.1 ∷ [])) (length s.angles) (length (add s.met r.0))) (sym e) (omega (arith, e1, e2, e3));
          no_atoms = state.counted.no_atoms;
          no_bonds = λ f. absurd (cc (f, opened_as Bonds e));
          no_angles = state.counted.no_angles;
        };
        styled = record { bonds = λ f. absurd (cc (f, style_as Bonds e)); angles = state.styled.angles; opened = state.styled.opened; styled = state.styled.styled };
        fresh = fresh_as Bonds (with_bond s r) e;
      })

  pub angle_state : (words : List (List ℕ)) → s.section ≡ Some Angles → length s.met < given_or_zero s.header.angles → On (IsSoundState style dim) (row Angles s words)
  angle_state words e room = on_made (IsNewAngle (angle_types s) s.met (keys_of s.atoms)) (IsSoundState style dim) (with_angle s) (angle_row (angle_types s) s.met s.atoms s.angles_of words) (angle_on (angle_types s) s.met s.atoms s.angles_of words) (λ r g.
      let e1 : length s.angles ≤ length s.met = filled_as Angles e in
      let e2 : length (s.angles ++ r.1 ∷ []) ≡ length s.angles + 1 = length-append s.angles (r.1 ∷ []) in
      let e3 : length (add s.met r.0) ≡ length s.met + 1 = length_add s.met r.0 g.1 in
      record {
        style_is = state.style_is;
        dim_is = state.dim_is;
        header = state.header;
        lines = state.lines;
        atoms = state.atoms;
        tied = record { bonds = state.tied.bonds; angles = All-append (IsAngleIn (angle_types s) (keys_of s.atoms)) s.angles (r.1 ∷ []) state.tied.angles (All-cons (IsAngleIn (angle_types s) (keys_of s.atoms)) r.1 [] g.0 (All-nil _)) };
        counted = record {
          few_atoms = state.counted.few_atoms;
          few_bonds = state.counted.few_bonds;
          few_angles = omega (arith, e1, e2, room);
          filled = subst (λ (o : Option Section). Filled o (length s.atoms) (length s.bonds) (length (s.angles ++ r.1 ∷ [])) (length (add s.met r.0))) (sym e) (omega (arith, e1, e2, e3));
          no_atoms = state.counted.no_atoms;
          no_bonds = state.counted.no_bonds;
          no_angles = λ f. absurd (cc (f, opened_as Angles e));
        };
        styled = record { bonds = state.styled.bonds; angles = λ f. absurd (cc (f, style_as Angles e)); opened = state.styled.opened; styled = state.styled.styled };
        fresh = fresh_as Angles (with_angle s r) e;
      })

  -- a row of whatever section is open
  pub row_state : (section : Section) (words : List (List ℕ)) → s.section ≡ Some section → length s.met < rows_of section s.header → On (IsSoundState style dim) (row section s words)
  row_state Masses words e room = mass_state words e
  row_state PairCoeffs words e room = pair_state words e
  row_state BondCoeffs words e room = bond_line_state words e
  row_state AngleCoeffs words e room = angle_line_state words e
  row_state Atoms words e room = atom_state words e room
  row_state Velocities words e room = velocity_state words e
  row_state Bonds words e room = bond_state words e room
  row_state Angles words e room = angle_state words e room
