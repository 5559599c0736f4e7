-- Sites that moved with their atoms since a build.
use Rattle.std.specs.Prelude.{ℤ, List}
use Rattle.box_geo.specs.Sides.{near_image}
use Rattle.box_geo.specs.declared.sim_box.Sides.{Sides}
use Rattle.ghost_shell.specs.Images.{moved}
use Rattle.ghost_shell.specs.Lists.{difference, nearest_shift}

-- where the site of an atom is now: where it was built, and the atom's displacement since then, to the nearest image
abbrev pub site_now : Sides → List ℤ → List ℤ → List ℤ → List ℤ
site_now s now reference built = moved built (near_image s now reference)

-- the displacement from the site of b, at its image nearest to a at the build, to the site of a
abbrev pub sites_apart : Sides → List ℤ → List ℤ → List ℤ → List ℤ → List ℤ
sites_apart s a b a_built b_built = difference (site_now s a a_built a_built) (site_now s b b_built (moved b_built (nearest_shift s a_built b_built)))
