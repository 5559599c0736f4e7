-- Written files worked out.
use Rattle.std.proofs.Common.{◌≡◌, ◌∷◌, ◌^◌, [], ℕ, true, pos, neg_ℤ, refl}
use Rattle.std.specs.Prelude.{codes}
use Rattle.std.specs.Fmt.{digits}
use Rattle.fx_num.specs.Rounding.{nearest_of}
use Rattle.fx_num.specs.Print.{fix_text}
use Rattle.box_geo.specs.declared.atoms.Atom.{Atom}
use Rattle.box_geo.specs.declared.sim_box.Sides.{Sides}
use Rattle.box_geo.specs.declared.styles.AtomStyle.TheVariants as style
use Rattle.box_geo.specs.Limits.{units}
use Rattle.box_geo.specs.Sides.{sides_of}
use Rattle.data_text.specs.DataText.{angle_counts, angle_lines, angle_types, atom_lines, atom_row, bond_counts, bond_lines, bond_row, bond_types, bonded_counts, box_lines, count_line, data_lines, data_text, first_line, header_lines, mass_lines, mass_row, mass_rows, side_line, velocity_lines, velocity_row}

-- a box from -5 to 10, periodic along each axis
cube : Sides
cube = sides_of (neg_ℤ (units 5) ∷ neg_ℤ (units 5) ∷ neg_ℤ (units 5) ∷ []) (units 10 ∷ units 10 ∷ units 10 ∷ []) (true ∷ true ∷ true ∷ []) 3

-- an atom of this id and type at (1/4, 5, 5), which has left the box once along x and twice back along z
wrapped : ℕ → ℕ → Atom
wrapped id kind = record {
  id = id;
  mol = 9;
  kind = kind;
  x = pos (2 ^ 22) ∷ units 5 ∷ units 5 ∷ [];
  v = units 1 ∷ neg_ℤ (units 2) ∷ pos 0 ∷ [];
  f = units 3 ∷ pos 0 ∷ pos 0 ∷ [];
  image = pos 1 ∷ pos 0 ∷ neg_ℤ (pos 2) ∷ [];
}

-- two atoms, the type of one of which has no mass
file_without_mass : data_text 7 cube (units 1 ∷ pos 0 ∷ []) (wrapped 3 1 ∷ wrapped 8 2 ∷ []) [] [] style.Atomic
    ≡ codes "LAMMPS data file by fxlmp at step 7\n\n2 atoms\n2 atom types\n\n-5.00000000 10.00000000 xlo xhi\n-5.00000000 10.00000000 ylo yhi\n-5.00000000 10.00000000 zlo zhi\n\nAtoms # atomic\n\n3 1 0.25000000 5.00000000 5.00000000 1 0 -2\n8 2 0.25000000 5.00000000 5.00000000 1 0 -2\n\nVelocities\n\n3 1.00000000 -2.00000000 0.00000000\n8 1.00000000 -2.00000000 0.00000000\n"
unfolding cube wrapped data_text data_lines header_lines first_line count_line bonded_counts box_lines side_line mass_lines mass_rows mass_row atom_lines atom_row velocity_lines velocity_row bond_lines angle_lines fix_text nearest_of digits
file_without_mass = refl

-- two atoms and two bonds, the greater type first
file_of_bonds : data_text 0 cube (units 1 ∷ units 2 ∷ []) (wrapped 3 1 ∷ wrapped 8 2 ∷ []) (record { kind = 2; a = 3; b = 8 } ∷ record { kind = 1; a = 8; b = 3 } ∷ []) [] style.Bond
    ≡ codes "LAMMPS data file by fxlmp at step 0\n\n2 atoms\n2 atom types\n2 bonds\n2 bond types\n0 angles\n0 angle types\n\n-5.00000000 10.00000000 xlo xhi\n-5.00000000 10.00000000 ylo yhi\n-5.00000000 10.00000000 zlo zhi\n\nMasses\n\n1 1.00000000\n2 2.00000000\n\nAtoms # bond\n\n3 9 1 0.25000000 5.00000000 5.00000000 1 0 -2\n8 9 2 0.25000000 5.00000000 5.00000000 1 0 -2\n\nVelocities\n\n3 1.00000000 -2.00000000 0.00000000\n8 1.00000000 -2.00000000 0.00000000\n\nBonds\n\n1 2 3 8\n2 1 8 3\n"
unfolding cube wrapped data_text data_lines header_lines first_line count_line bonded_counts bond_counts bond_types angle_counts angle_types box_lines side_line mass_lines mass_rows mass_row atom_lines atom_row velocity_lines velocity_row bond_lines bond_row angle_lines fix_text nearest_of digits
file_of_bonds = refl
