-- Worked frames.
use Rattle.std.proofs.Common.{◌≡◌, ◌∷◌, ◌^◌, [], ℕ, true, false, pos, neg_ℤ, refl}
use Rattle.std.specs.Prelude.{codes}
use Rattle.std.specs.Fmt.{digits}
use Rattle.fx_num.specs.Rounding.{nearest_of}
use Rattle.fx_num.specs.Print.{fix_text, scaled_text}
use Rattle.box_geo.specs.declared.atoms.Atom.{Atom}
use Rattle.box_geo.specs.declared.sim_box.Sides.{Sides}
use Rattle.box_geo.specs.Limits.{units}
use Rattle.box_geo.specs.Sides.{sides_of}
use Rattle.dump_text.specs.declared.columns.Column.TheVariants.{Id, Mol, Mass, X, Ix, Vx}
use Rattle.dump_text.specs.Columns.{style_atom}
use Rattle.dump_text.specs.Frame.{boundaries_text, bounds_text, columns_text, frame_text, header_text, members, row_text, rows_text, scaled_along}

-- a box from 0 to 10, periodic along each axis
cube : Sides
cube = sides_of (pos 0 ∷ pos 0 ∷ pos 0 ∷ []) (units 10 ∷ units 10 ∷ units 10 ∷ []) (true ∷ true ∷ true ∷ []) 3

-- an atom of this id at (1/4, 5, 5), which has left the box once along x
wrapped : ℕ → Atom
wrapped id = record {
  id = id;
  mol = 0;
  kind = 1;
  x = pos (2 ^ 22) ∷ units 5 ∷ units 5 ∷ [];
  v = units 1 ∷ pos 0 ∷ pos 0 ∷ [];
  f = pos 0 ∷ pos 0 ∷ pos 0 ∷ [];
  image = pos 1 ∷ pos 0 ∷ pos 0 ∷ [];
}

frame_of_one : frame_text 1 cube (units 1 ∷ []) (wrapped 1 ∷ []) (1 ∷ []) (style_atom true)
    ≡ codes "ITEM: TIMESTEP\n1\nITEM: NUMBER OF ATOMS\n1\nITEM: BOX BOUNDS pp pp pp\n0.00000000 10.00000000\n0.00000000 10.00000000\n0.00000000 10.00000000\nITEM: ATOMS id type xs ys zs\n1 1 0.02500000 0.50000000 0.50000000\n"
unfolding cube wrapped frame_text header_text rows_text row_text boundaries_text bounds_text columns_text fix_text scaled_text nearest_of digits
frame_of_one = refl

-- a slab from -5 to 5, fixed along z
slab : Sides
slab = sides_of (neg_ℤ (units 5) ∷ neg_ℤ (units 5) ∷ neg_ℤ (units 5) ∷ []) (units 5 ∷ units 5 ∷ units 5 ∷ []) (true ∷ true ∷ false ∷ []) 3

-- a system without atoms
frame_of_none : frame_text 0 slab (units 1 ∷ []) [] [] (style_atom false)
    ≡ codes "ITEM: TIMESTEP\n0\nITEM: NUMBER OF ATOMS\n0\nITEM: BOX BOUNDS pp pp ff\n-5.00000000 5.00000000\n-5.00000000 5.00000000\n-5.00000000 5.00000000\nITEM: ATOMS id type x y z\n"
unfolding slab frame_text header_text rows_text row_text boundaries_text bounds_text columns_text fix_text scaled_text nearest_of digits
frame_of_none = refl

-- a position is scaled from the lower bound
scaled_in_slab : scaled_along slab.x (pos (2 ^ 22)) ≡ codes "0.52500000"
unfolding slab scaled_text nearest_of digits
scaled_in_slab = refl

-- of three atoms those of the group
rows_of_two : rows_text cube (units 1 ∷ []) (Id ∷ Mol ∷ Mass ∷ X ∷ Ix ∷ Vx ∷ []) (members (3 ∷ 7 ∷ []) (wrapped 3 ∷ wrapped 5 ∷ wrapped 7 ∷ []))
    ≡ codes "3 0 1.00000000 0.25000000 1 1.00000000\n7 0 1.00000000 0.25000000 1 1.00000000\n"
unfolding cube wrapped rows_text row_text fix_text nearest_of digits
rows_of_two = refl
