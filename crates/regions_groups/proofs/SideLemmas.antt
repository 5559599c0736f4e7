-- The other side of a region.
use Rattle.std.proofs.Common.{◌≡◌, ℕ, ℤ, Bool, true, false, eqb, not, List, [], ◌∷◌, refl}
use Rattle.std.proofs.lemmas.Bool.{eq-eqb}
use Rattle.std.specs.List.{list_all, list_any}
use Rattle.std.specs.Str.{bytes_eq}
use Rattle.regions_groups.specs.declared.shapes.Region.{Region}
use Rattle.regions_groups.specs.declared.shapes.Region.TheVariants.{Block, Sphere, Union, Intersect}
use Rattle.regions_groups.specs.Regions.{block_holds, holds, on_side, other_side, region_holds, sphere_holds, NamedRegion}

turned : (inside within : Bool) → on_side (not inside) within ≡ not (on_side inside within)
turned true true = refl
turned true false = refl
turned false true = refl
turned false false = refl

other_holds : (earlier : List ℕ → Bool) (region : Region) (x : List ℤ) → region_holds earlier (other_side region) x ≡ not (region_holds earlier region x)
other_holds earlier (Block lo hi inside) x = turned inside (block_holds lo hi x)
other_holds earlier (Sphere centre radius inside) x = turned inside (sphere_holds centre radius x)
other_holds earlier (Union names inside) x = turned inside (list_any earlier names)
other_holds earlier (Intersect names inside) x = turned inside (list_all earlier names)

bytes_same : (bytes : List ℕ) → bytes_eq bytes bytes ≡ true
bytes_same [] = refl
bytes_same (b ∷ bytes) = let e : eqb b b ≡ true = eq-eqb b b refl in rw e (bytes_same bytes)

pub complement : (earlier : List NamedRegion) (name : List ℕ) (region : Region) (x : List ℤ)
    → holds (record { name = name; region = other_side region } ∷ earlier) name x ≡ not (holds (record { name = name; region = region } ∷ earlier) name x)
complement earlier name region x =
    let same : bytes_eq name name ≡ true = bytes_same name in
    rw same (other_holds (λ other. holds earlier other x) region x)
