-- The generated script, from the texts that it is pushed in.
use Rattle.std.proofs.Common.{◌≡◌, ◌∙◌, ◌++◌, List, ℕ, refl, append_assoc}
use Rattle.std.specs.Prelude.{codes}
use Rattle.run_gen.specs.Script.{line_text, lines_text, region_line, run_lines, script_text, velocity_line}

-- the lines before the region, and those between it and the velocities
abbrev before_region : List ℕ
before_region = codes "units lj\nlattice fcc 0.8442\n"

abbrev behind_region : List ℕ
behind_region = codes "create_box 1 box\ncreate_atoms 1 box\nmass 1 1.0\n"

parts : (a region b velocity run : List ℕ) → (((a ++ region) ++ b) ++ velocity) ++ run ≡ a ++ (region ++ (b ++ (velocity ++ run)))
parts a region b velocity run = simp append_assoc

whole_is : (cells seed : ℕ)
    → before_region ++ (line_text (region_line cells) ++ (behind_region ++ (line_text (velocity_line seed) ++ lines_text run_lines))) ≡ script_text cells seed
unfolding script_text
whole_is cells seed = refl

pub pushed_is : (cells seed : ℕ)
    → (((before_region ++ line_text (region_line cells)) ++ behind_region) ++ line_text (velocity_line seed)) ++ lines_text run_lines ≡ script_text cells seed
pushed_is cells seed =
    parts before_region (line_text (region_line cells)) behind_region (line_text (velocity_line seed)) (lines_text run_lines) ∙ whole_is cells seed
