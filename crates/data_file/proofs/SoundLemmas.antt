-- What a data file says keeps to the limits.
use Rattle.std.proofs.Common.{◌≡◌, ◌∙◌, ◌+◌, ◌<◌, ◌==◌, ◌&&◌, Bool, true, false, not, cond, is_some, nat_lt, ℕ, ℤ, unsigned_abs, Option, Some, None, Result, Ok, Err, List, [], ◌∷◌, length, map, unwrap_or, refl, sym, ap, subst, arith}
use Rattle.std.proofs.lemmas.Bool.Decides.{nat_tests}
use Rattle.std.proofs.lemmas.List.{length-map}
use Rattle.std.proofs.lemmas.List.Elements.{All-map, All-weaker}
use Rattle.std.proofs.lemmas.Map.Entries.{All-lookup}
use Rattle.std.specs.BTreeMap.{is_at}
use Rattle.std.specs.Map.{keys_of}
use Rattle.std.specs.Option.{IfSome}
use Rattle.std.specs.Ordering.{nat_cmp}
use Rattle.box_geo.specs.declared.atoms.Angle.{Angle}
use Rattle.box_geo.specs.declared.atoms.Atom.{Atom}
use Rattle.box_geo.specs.declared.atoms.Bond.{Bond}
use Rattle.box_geo.specs.declared.limits.TheConstants.{MAX_ATOMS, MAX_BONDS, MAX_KINDS, MAX_SPEED}
use Rattle.box_geo.specs.declared.sim_box.Sides.{Sides}
use Rattle.box_geo.specs.declared.styles.AtomStyle.{AtomStyle}
use Rattle.data_file.specs.declared.fault.DataFault.{DataFault}
use Rattle.data_file.specs.declared.fault.DataFault.TheVariants as fault
use Rattle.data_file.specs.declared.header.Header.{Header}
use Rattle.data_file.specs.declared.reading.Reading.{Reading}
use Rattle.data_file.specs.declared.sections.Begun.{Begun}
use Rattle.data_file.specs.declared.sections.Section.{Section}
use Rattle.data_file.specs.declared.sections.Section.TheVariants.{Masses, PairCoeffs, BondCoeffs, AngleCoeffs, Atoms, Velocities, Bonds, Angles}
use Rattle.data_file.specs.Data.{angle_types, at_line, atom_types, bond_types, contents_with, data_of, finished, goes_on, is_ready, is_whole, judge, judge_line, read_lines, row, start, titled, with_title, within, words_in, Contents}
use Rattle.data_file.specs.Header.{empty, header_line, is_complete, sides_of}
use Rattle.script_lines.specs.Physical.{physical_lines}
use Rattle.data_file.specs.Rows.{unless}
use Rattle.data_file.specs.Sections.{begin, has_angles, has_begun, has_bonds, has_style, rows_of, section_of}
use Rattle.box_geo.specs.Ids.{Rises}
use Rattle.box_geo.specs.Sides.{IsWithin}
use Rattle.data_file.specs.Sound.{IsAngle, IsAtom, IsBond, IsSoundSet}
use Rattle.data_file.specs.Tables.{under, with_velocity, zeros}
use Rattle.data_file.proofs.HeaderLemmas.{given_on, header_on, kinds_on, sides_on, sound_empty, IsSoundHeader}
use Rattle.data_file.proofs.OutcomeLemmas.{On, on_made, on_unless}
use Rattle.data_file.proofs.RowLemmas.{zeros_slow, IsAngleIn, IsBondIn}
use Rattle.data_file.proofs.StateLemmas.{fresh_state, header_state, row_state, AreCounted, IsSoundState}
use Rattle.data_file.proofs.TableLemmas.{All_masses, contains_met, length_masses, rises_sorted}

-- titles
begun_after : (section : Section) (g : Begun) → has_begun section (begin section g) ≡ true
begun_after Masses g = refl
begun_after PairCoeffs g = refl
begun_after BondCoeffs g = refl
begun_after AngleCoeffs g = refl
begun_after Atoms g = refl
begun_after Velocities g = refl
begun_after Bonds g = refl
begun_after Angles g = refl

not_true : (b : Bool) → not b ≡ false → b ≡ true
not_true true e = refl
not_true false e = absurd cc

counted_titled : (section : Section) (h : Header) (o : Option Section) (g : Begun) (met : List ℕ) (es : List (ℕ × Atom)) (bs : List Bond) (ts : List Angle)
    → has_begun section g ≡ false → AreCounted h o g met es bs ts → AreCounted h (Some section) (begin section g) [] es bs ts
counted_titled Masses h o g met es bs ts new c = record { few_atoms = c.few_atoms; few_bonds = c.few_bonds; few_angles = c.few_angles; filled = tt; no_atoms = c.no_atoms; no_bonds = c.no_bonds; no_angles = c.no_angles }
counted_titled PairCoeffs h o g met es bs ts new c = record { few_atoms = c.few_atoms; few_bonds = c.few_bonds; few_angles = c.few_angles; filled = tt; no_atoms = c.no_atoms; no_bonds = c.no_bonds; no_angles = c.no_angles }
counted_titled BondCoeffs h o g met es bs ts new c = record { few_atoms = c.few_atoms; few_bonds = c.few_bonds; few_angles = c.few_angles; filled = tt; no_atoms = c.no_atoms; no_bonds = c.no_bonds; no_angles = c.no_angles }
counted_titled AngleCoeffs h o g met es bs ts new c = record { few_atoms = c.few_atoms; few_bonds = c.few_bonds; few_angles = c.few_angles; filled = tt; no_atoms = c.no_atoms; no_bonds = c.no_bonds; no_angles = c.no_angles }
counted_titled Velocities h o g met es bs ts new c = record { few_atoms = c.few_atoms; few_bonds = c.few_bonds; few_angles = c.few_angles; filled = tt; no_atoms = c.no_atoms; no_bonds = c.no_bonds; no_angles = c.no_angles }
counted_titled Atoms h o g met es bs ts new c = record { few_atoms = c.few_atoms; few_bonds = c.few_bonds; few_angles = c.few_angles; filled = omega (arith, c.no_atoms new); no_atoms = λ f. absurd cc; no_bonds = c.no_bonds; no_angles = c.no_angles }
counted_titled Bonds h o g met es bs ts new c = record { few_atoms = c.few_atoms; few_bonds = c.few_bonds; few_angles = c.few_angles; filled = omega (arith, c.no_bonds new); no_atoms = c.no_atoms; no_bonds = λ f. absurd cc; no_angles = c.no_angles }
counted_titled Angles h o g met es bs ts new c = record { few_atoms = c.few_atoms; few_bonds = c.few_bonds; few_angles = c.few_angles; filled = omega (arith, c.no_angles new); no_atoms = c.no_atoms; no_bonds = c.no_bonds; no_angles = λ f. absurd cc }

module _ (style : AtomStyle) (dim : ℕ) where
  abbrev Sound : Reading → Type 0
  Sound s = IsSoundState style dim s

  title_more : (section : Section) (s : Reading) → Sound s → has_begun section s.begun ≡ false → has_style section s.style ≡ true → Sound (record s { begun = begin section s.begun; section = Some section; met = [] })
  title_more section s state new styled = record {
    style_is = state.style_is;
    dim_is = state.dim_is;
    header = state.header;
    lines = state.lines;
    atoms = state.atoms;
    tied = state.tied;
    counted = counted_titled section s.header s.section s.begun s.met s.atoms s.bonds s.angles new state.counted;
    styled = record { bonds = state.styled.bonds; angles = state.styled.angles; opened = begun_after section s.begun; styled = styled };
    fresh = tt;
  }

  title_state : (section : Section) (s : Reading) → Sound s → On Sound (titled section s)
  unfolding titled
  title_state section s state =
      let after : Reading = record s { begun = begin section s.begun; section = Some section; met = [] } in
      on_unless Sound (has_begun section s.begun) fault.Twice (unless (not (has_style section s.style)) fault.Style (unless (not (is_ready section s)) fault.Missing (Ok after))) (λ new.
      on_unless Sound (not (has_style section s.style)) fault.Style (unless (not (is_ready section s)) fault.Missing (Ok after)) (λ styled.
      on_unless Sound (not (is_ready section s)) fault.Missing (Ok after) (λ _. title_more section s state new (not_true (has_style section s.style) styled))))

  room_from : (m n : ℕ) → not (nat_lt m n) ≡ false → m < n
  room_from m n e = grind (arith, nat_tests)

  within_state : (o : Option Section) (s : Reading) (words : List (List ℕ)) → Sound s → s.section ≡ o → On Sound (within o s words)
  within_state None s words state e =
      on_made IsSoundHeader Sound (λ (h : Header). record s { header = h }) (header_line s.periodic s.header words) (header_on s.periodic s.header words state.header) (λ h g. header_state style dim s h state e g)
  within_state (Some section) s words state e =
      on_unless Sound (not (nat_lt (length s.met) (rows_of section s.header))) fault.NotALine (row section s words) (λ t.
      row_state style dim s state section words e (room_from (length s.met) (rows_of section s.header) t))

  titles_state : (o : Option Section) (s : Reading) (words : List (List ℕ)) → Sound s → On Sound (with_title o s words)
  titles_state (Some section) s words state = title_state section s state
  titles_state None s words state = within_state s.section s words state refl

  skip_or : (b : Bool) (s : Reading) (r : Result Reading DataFault) → Sound s → On Sound r → On Sound (cond b (Ok s) r)
  skip_or true s r state h = state
  skip_or false s r state h = h

  judge_state : (s : Reading) (words : List (List ℕ)) → Sound s → On Sound (judge s words)
  unfolding judge
  judge_state s words state = skip_or (length words == 0) s (with_title (section_of words) s words) state (titles_state (section_of words) s words state)

  line_state : (n : ℕ) (s : Reading) (line : List ℕ) → Sound s → On Sound (judge_line n s line)
  line_state n s line state = skip_or (n == 1) s (judge s (words_in line)) state (judge_state s (words_in line) state)

-- the end: the types are there
part_left : (a b : Bool) → (a && b) ≡ true → a ≡ true
part_left true b e = refl
part_left false b e = absurd cc

part_right : (a b : Bool) → (a && b) ≡ true → b ≡ true
part_right true true e = refl
part_right true false e = absurd cc
part_right false b e = absurd cc

first_part : (a b c d e : Bool) → not (a && b && c && d && e) ≡ false → a ≡ true
first_part a b c d e t = part_left a b (part_left (a && b) c (part_left (a && b && c) d (part_left (a && b && c && d) e (not_true (a && b && c && d && e) t))))

types_of : (s : Reading) → not (is_whole s) ≡ false → is_some s.header.atom_types ≡ true
types_of s t = part_right (is_some s.header.x && is_some s.header.y && is_some s.header.z) (is_some s.header.atom_types) (first_part (is_complete s.header) _ _ _ _ t)

module _ (style : AtomStyle) (dim : ℕ) (s : Reading) (state : IsSoundState style dim s) where
  velocity_or : (v : Option (List ℤ)) → IfSome v (IsWithin (unsigned_abs MAX_SPEED)) → IsWithin (unsigned_abs MAX_SPEED) (unwrap_or v zeros)
  velocity_or (Some v) h = h
  velocity_or None h = zeros_slow

  moving : (sides : Sides) (q : ℕ × Atom) → IsAtom sides (atom_types s) q.1 → IsAtom sides (atom_types s) (with_velocity s.velocities q)
  moving sides q h = record {
    inside = h.inside;
    kind = h.kind;
    id_low = h.id_low;
    id_high = h.id_high;
    v = velocity_or (under q.0 s.velocities) (All-lookup (IsWithin (unsigned_abs MAX_SPEED)) (is_at (nat_cmp q.0)) s.velocities state.atoms.slow);
    f = h.f;
    image = h.image;
  }

  ids_same : (es : List (ℕ × Atom)) → map (λ (a : Atom). a.id) (map (with_velocity s.velocities) es) ≡ map (λ (q : ℕ × Atom). q.1.id) es
  ids_same [] = refl
  ids_same (e ∷ es) = ap (λ (ids : List ℕ). e.1.id ∷ ids) (ids_same es)

  ids_are : map (λ (a : Atom). a.id) (map (with_velocity s.velocities) s.atoms) ≡ keys_of s.atoms
  ids_are = ids_same s.atoms ∙ state.atoms.named

  bond_of : (ids : List ℕ) (b : Bond) → ids ≡ keys_of s.atoms → IsBondIn (bond_types s) (keys_of s.atoms) b → IsBond (bond_types s) ids b
  bond_of ids b e h = subst (λ (ks : List ℕ). IsBond (bond_types s) ks b) (sym e) (record { kind = h.kind; a = contains_met b.a (keys_of s.atoms) h.a; b = contains_met b.b (keys_of s.atoms) h.b; differ = h.differ })

  angle_of : (ids : List ℕ) (t : Angle) → ids ≡ keys_of s.atoms → IsAngleIn (angle_types s) (keys_of s.atoms) t → IsAngle (angle_types s) ids t
  angle_of ids t e h = subst (λ (ks : List ℕ). IsAngle (angle_types s) ks t) (sym e) (record {
    kind = h.kind;
    a = contains_met t.a (keys_of s.atoms) h.a;
    b = contains_met t.b (keys_of s.atoms) h.b;
    c = contains_met t.c (keys_of s.atoms) h.c;
    first = h.first;
    second = h.second;
    outer = h.outer;
  })

  set_of : (sides : Sides) → is_some s.header.atom_types ≡ true → sides_of s.dim s.header ≡ Some sides → On (IsSoundSet style dim) (contents_with s (Some sides))
  set_of sides typed is =
      let kinds = kinds_on s.header.atom_types state.header.atom_types typed in
      record {
        dim = (sides_on s.dim s.header sides state.header is).1 ∙ state.dim_is;
        kinds = record {
          some = kinds.0;
          atoms = kinds.1;
          bonds = given_on MAX_KINDS s.header.bond_types state.header.bond_types;
          angles = given_on MAX_KINDS s.header.angle_types state.header.angle_types;
          masses = length_masses (atom_types s) s.masses;
          mass = All_masses (atom_types s) s.masses state.lines.mass;
        };
        coefficients = record { pair = state.lines.pair; bond = state.lines.bond; angle = state.lines.angle };
        bound = record {
          few_atoms = omega (arith, length-map s.atoms (with_velocity s.velocities), state.counted.few_atoms, given_on MAX_ATOMS s.header.atoms state.header.atoms);
          atoms = All-map (IsAtom sides (atom_types s)) (with_velocity s.velocities) s.atoms
              (All-weaker (λ (q : ℕ × Atom). IsAtom sides (atom_types s) q.1) (λ (q : ℕ × Atom). IsAtom sides (atom_types s) (with_velocity s.velocities q)) (moving sides) s.atoms (state.atoms.each sides is));
          rising = subst Rises (sym ids_are) (rises_sorted (keys_of s.atoms) state.atoms.sorted);
          few_bonds = omega (arith, state.counted.few_bonds, given_on MAX_BONDS s.header.bonds state.header.bonds);
          bonds = All-weaker (IsBondIn (bond_types s) (keys_of s.atoms)) (IsBond (bond_types s) (map (λ (a : Atom). a.id) (map (with_velocity s.velocities) s.atoms))) (λ b h. bond_of _ b ids_are h) s.bonds state.tied.bonds;
          few_angles = omega (arith, state.counted.few_angles, given_on MAX_BONDS s.header.angles state.header.angles);
          angles = All-weaker (IsAngleIn (angle_types s) (keys_of s.atoms)) (IsAngle (angle_types s) (map (λ (a : Atom). a.id) (map (with_velocity s.velocities) s.atoms))) (λ t h. angle_of _ t ids_are h) s.angles state.tied.angles;
          without_bonds = λ e. state.styled.bonds (ap has_bonds state.style_is ∙ e);
          without_angles = λ e. state.styled.angles (ap has_angles state.style_is ∙ e);
        };
      }

  set_by : (o : Option Sides) → is_some s.header.atom_types ≡ true → sides_of s.dim s.header ≡ o → On (IsSoundSet style dim) (contents_with s o)
  set_by None typed is = tt
  set_by (Some sides) typed is = set_of sides typed is

  pub finished_on : On (IsSoundSet style dim) (finished s)
  unfolding finished
  finished_on = on_unless (IsSoundSet style dim) (not (is_whole s)) fault.Missing (contents_with s (sides_of s.dim s.header)) (λ t. set_by (sides_of s.dim s.header) (types_of s t) refl)

-- whole files
abbrev OnRead : AtomStyle → ℕ → Result Contents (ℕ × DataFault) → Type 0
OnRead style dim (Ok c) = IsSoundSet style dim c
OnRead style dim (Err why) = Unit {0}

end_on : (style : AtomStyle) (dim n : ℕ) (r : Result Contents DataFault) → On (IsSoundSet style dim) r → OnRead style dim (at_line n r)
end_on style dim n (Ok c) h = h
end_on style dim n (Err why) h = tt

goes_on_on : (style : AtomStyle) (dim n : ℕ) (next : Reading → Result Contents (ℕ × DataFault)) (r : Result Reading DataFault) → On (IsSoundState style dim) r → ((t : Reading) → IsSoundState style dim t → OnRead style dim (next t)) → OnRead style dim (goes_on n next r)
goes_on_on style dim n next (Ok t) h f = f t h
goes_on_on style dim n next (Err why) h f = tt

lines_on : (style : AtomStyle) (dim : ℕ) (lines : List (List ℕ)) (n : ℕ) (s : Reading) → IsSoundState style dim s → OnRead style dim (read_lines lines n s)
lines_on style dim [] n s state = end_on style dim n (finished s) (finished_on style dim s state)
lines_on style dim (line ∷ lines) n s state = goes_on_on style dim n (read_lines lines (n + 1)) (judge_line n s line) (line_state style dim n s line state) (lines_on style dim lines (n + 1))

read_on : (style : AtomStyle) (periodic : List Bool) (dim : ℕ) (bytes : List ℕ) → OnRead style dim (data_of style periodic dim bytes)
unfolding data_of
read_on style periodic dim bytes = lines_on style dim (physical_lines bytes) 1 (start style periodic dim) (fresh_state style periodic dim empty sound_empty)

pub sound_read : (style : AtomStyle) (periodic : List Bool) (dim : ℕ) (bytes : List ℕ) (c : Contents) → data_of style periodic dim bytes ≡ Ok c → IsSoundSet style dim c
sound_read style periodic dim bytes c e = subst (OnRead style dim) e (read_on style periodic dim bytes)
