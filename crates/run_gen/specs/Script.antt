-- The generated script: a cube of lattice cells along each edge, four atoms in a cell, with velocities drawn by a seed. It runs for 20 steps
-- under a Lennard-Jones pair term, and prints a summary.
use Rattle.std.specs.Prelude.{ℕ, List, [], ◌∷◌, ◌++◌, codes}
use Rattle.std.specs.Fmt.{decimal}
use Rattle.std.specs.List.{flat_map}

-- a line with its line feed
abbrev pub line_text : List ℕ → List ℕ
line_text line = line ++ 10 ∷ []

-- lines as one text
abbrev pub lines_text : List (List ℕ) → List ℕ
lines_text lines = flat_map line_text lines

-- the region of the box, in lattice cells
unfoldable pub region_line : ℕ → List ℕ
region_line cells = codes "region box block 0 " ++ decimal cells ++ codes " 0 " ++ decimal cells ++ codes " 0 " ++ decimal cells

-- velocities of temperature 3
unfoldable pub velocity_line : ℕ → List ℕ
velocity_line seed = codes "velocity all create 3.0 " ++ decimal seed

-- the pairs, the run, and its summary
abbrev pub run_lines : List (List ℕ)
run_lines =
    codes "pair_style lj/cut 2.5"
    ∷ codes "pair_coeff 1 1 1.0 1.0"
    ∷ codes "fix 1 all nve"
    ∷ codes "thermo 10"
    ∷ codes "run 20"
    ∷ codes "print \"atoms $(atoms) step $(step) etotal $(etotal)\""
    ∷ []

-- all lines, of so many cells along an edge, and this seed
abbrev pub script_lines : ℕ → ℕ → List (List ℕ)
script_lines cells seed =
    codes "units lj"
    ∷ codes "lattice fcc 0.8442"
    ∷ region_line cells
    ∷ codes "create_box 1 box"
    ∷ codes "create_atoms 1 box"
    ∷ codes "mass 1 1.0"
    ∷ velocity_line seed
    ∷ run_lines

-- the generated script
unfoldable pub script_text : ℕ → ℕ → List ℕ
script_text cells seed = lines_text (script_lines cells seed)
