-- Ghost atoms as they are kept: where they are, and how they move with their atoms.
use Rattle.std.specs.Prelude.{◌≡◌, ◌^◌, ◌<◌, ◌≤◌, ℕ, ℤ, unsigned_abs, List, [], map, length, slice_index_or}
use Rattle.box_geo.specs.declared.atoms.Atom.{Atom}
use Rattle.box_geo.specs.declared.sim_box.Sides.{Sides}
use Rattle.box_geo.specs.Sides.{IsInside, near_image, x_of, y_of, z_of}
use Rattle.ghost_shell.specs.declared.atom.Ghost.{Ghost}
use Rattle.ghost_shell.specs.Images.{Image, position, moved, ghost_images}

-- the ghost that is made of an image
abbrev pub ghost_of : Image → Ghost
ghost_of p = record {
  site = record { x = position p; id = p.0.1.id; place = p.0.0 };
  built = position p;
  reference = p.0.1.x;
}

-- the ghosts of a rank, in no order that counts
abbrev pub ghosts : List ℕ → Sides → ℕ → ℤ → List Atom → List Ghost
ghosts counts s rank reach atoms = map ghost_of (ghost_images counts s rank reach atoms)

-- the position of the atom at a place
abbrev pub position_at : List Atom → ℕ → List ℤ
position_at atoms place = slice_index_or (map (λ a. a.x) atoms) place []

-- a ghost has moved with its atom: to its position at the build and the displacement of its atom since then, to the nearest image
unfoldable pub forwarded : Sides → List Atom → Ghost → Ghost
forwarded s atoms g = record g { site = record g.site { x = moved g.built (near_image s (position_at atoms g.site.place) g.reference) } }

-- the atom of a ghost stands at its place
abbrev pub IsGhostOf : List Atom → Ghost → Type 0
IsGhostOf atoms g = (g.site.place < length atoms) × (slice_index_or (map (λ a. a.id) atoms) g.site.place 0 ≡ g.site.id)

-- components within 2^35
abbrev pub IsNearBox : List ℤ → Type 0
IsNearBox p = (unsigned_abs (x_of p) ≤ 2 ^ 35) × (unsigned_abs (y_of p) ≤ 2 ^ 35) × (unsigned_abs (z_of p) ≤ 2 ^ 35)

-- the atom was inside the box at the build, and the image at most an edge away
abbrev pub IsSoundGhost : Sides → Ghost → Type 0
IsSoundGhost s g = IsInside s g.reference × IsNearBox g.built
