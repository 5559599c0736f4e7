-- Worked numbers: the definitions compute what was worked out by hand.
use Rattle.std.proofs.Common.{◌≡◌, ◌*◌, ◌^◌, true, ℕ, ℤ, pos, neg_ℤ, List, [], ◌∷◌, Some, refl}
use Rattle.fx_num.specs.Rounding.{nearest_of}
use Rattle.box_geo.specs.declared.fault.FaultKind.TheVariants.{Close}
use Rattle.box_geo.specs.declared.fault.FaultPhase.TheVariants.{Forces}
use Rattle.box_geo.specs.declared.sim_box.Axis.TheVariants.{X}
use Rattle.box_geo.specs.declared.sim_box.BoxRefusal.TheVariants.{TooFar}
use Rattle.box_geo.specs.declared.sim_box.Sides.{Sides}
use Rattle.box_geo.specs.Fault.{phase_number, kind_number, key_word}
use Rattle.box_geo.specs.Sides.{sides_of, box_refusal, near_image, length2, volume_of}

-- a vector of three equal components
along_all : ℤ → List ℤ
along_all x = x ∷ x ∷ x ∷ []

-- a cube from 0, periodic along every axis
cube_of : ℤ → ℕ → Sides
cube_of length dim = sides_of (along_all (pos 0)) (along_all length) (true ∷ true ∷ true ∷ []) dim

-- the box from 0 to 10; 0.25 is 4194304 units, 9.75 is 163577856, 5 is 83886080
image_above : near_image (cube_of (pos 167772160) 3) (along_all (pos 4194304)) (along_all (pos 163577856)) ≡ along_all (pos 8388608)
unfolding near_image cube_of along_all
image_above = refl

image_below : near_image (cube_of (pos 167772160) 3) (along_all (pos 163577856)) (along_all (pos 4194304)) ≡ along_all (neg_ℤ (pos 8388608))
unfolding near_image cube_of along_all
image_below = refl

half_stays : near_image (cube_of (pos 167772160) 3) (along_all (pos 83886080)) (along_all (pos 0)) ≡ along_all (pos 83886080)
unfolding near_image cube_of along_all
half_stays = refl

half_back_stays : near_image (cube_of (pos 167772160) 3) (along_all (pos 0)) (along_all (pos 83886080)) ≡ along_all (neg_ℤ (pos 83886080))
unfolding near_image cube_of along_all
half_back_stays = refl

flat_z_stays : near_image (cube_of (pos 167772160) 2) (along_all (pos 4194304)) (along_all (pos 163577856)) ≡ pos 8388608 ∷ pos 8388608 ∷ neg_ℤ (pos 159383552) ∷ []
unfolding near_image cube_of along_all
flat_z_stays = refl

three_halves : length2 (along_all (neg_ℤ (pos 8388608))) ≡ 3 * 2 ^ 46
unfolding along_all
three_halves = refl

ten_cubed : volume_of (cube_of (pos 167772160) 3) ≡ 1000 * 2 ^ 24
unfolding volume_of nearest_of cube_of along_all
ten_cubed = refl

eight_squared : volume_of (cube_of (pos 134217728) 2) ≡ 64 * 2 ^ 24
unfolding volume_of nearest_of cube_of along_all
eight_squared = refl

-- bounds beyond 1024 are judged before the edge between them
far_before_short : box_refusal (along_all (pos 17179869185)) (along_all (pos 17179869186)) ≡ Some (TooFar X)
unfolding box_refusal along_all
far_before_short = refl

-- atoms 3 and 5 are too close in forces
close_pair : key_word record { phase = phase_number Forces; kind = kind_number Close; a = 3; b = 5 } ≡ 144396663102898181
close_pair = refl
