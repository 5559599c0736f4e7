-- Worked numbers: the definitions compute what was worked out by hand.
use Rattle.std.proofs.Common.{◌≡◌, pos, [], ◌∷◌, refl}
use Rattle.fx_num.specs.Rounding.{div_rounded, nearest_of}
use Rattle.fx_num.specs.Roots.{cbrt_of}
use Rattle.box_geo.specs.declared.styles.LatticeStyle.TheVariants.{Fcc}
use Rattle.lattice_fill.specs.Lattice.{spacing_of, lengths, even}
use Rattle.lattice_fill.specs.Points.{coordinate, points_of_cell}

-- the density 0.8442 is 14163326 units; the spacing 1.6795962
melt_spacing : lengths (spacing_of Fcc 14163326) ≡ pos 28178948 ∷ pos 28178948 ∷ pos 28178948 ∷ []
unfolding spacing_of cbrt_of nearest_of
melt_spacing = refl

-- the four points of its first cell
melt_cell : points_of_cell Fcc (even 28178948) record { x = pos 0; y = pos 0; z = pos 0 } ≡
    (pos 0 ∷ pos 0 ∷ pos 0 ∷ [])
    ∷ (pos 0 ∷ pos 14089474 ∷ pos 14089474 ∷ [])
    ∷ (pos 14089474 ∷ pos 0 ∷ pos 14089474 ∷ [])
    ∷ (pos 14089474 ∷ pos 14089474 ∷ pos 0 ∷ [])
    ∷ []
unfolding coordinate div_rounded nearest_of
melt_cell = refl
