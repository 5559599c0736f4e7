-- The neighbours of a site in a half list.
use Rattle.std.specs.Prelude.{◌*◌, ◌&&◌, Bool, nat_lt, ℕ, ℤ, ◌-ℤ◌, List, [], ◌∷◌, map}
use Rattle.std.specs.List.{filter}
use Rattle.box_geo.specs.Sides.{length2, x_of, y_of, z_of}
use Rattle.box_geo.specs.declared.atoms.Site.{Site}

-- the displacement from b to a, without images
abbrev pub displacement : List ℤ → List ℤ → List ℤ
displacement a b = (x_of a -ℤ x_of b) ∷ (y_of a -ℤ y_of b) ∷ (z_of a -ℤ z_of b) ∷ []

-- two positions are nearer than the reach
abbrev pub is_near : ℕ → List ℤ → List ℤ → Bool
is_near reach a b = nat_lt (length2 (displacement a b)) (reach * reach)

-- a site has a greater id and is nearer than the reach
abbrev pub is_listed : ℕ → Site → Site → Bool
is_listed reach own s = nat_lt own.id s.id && is_near reach own.x s.x

-- the places of the sites of greater id that are nearer than the reach
abbrev pub neighbours : ℕ → Site → List Site → List ℕ
neighbours reach own sites = map (λ s. s.place) (filter (is_listed reach own) sites)
