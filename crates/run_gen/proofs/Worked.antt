-- A generated script, written out.
use Rattle.std.proofs.Common.{◌≡◌, refl}
use Rattle.std.specs.Prelude.{codes}
use Rattle.std.specs.Fmt.{digits}
use Rattle.run_gen.specs.Script.{region_line, script_text, velocity_line}

four_cells : script_text 4 2147483647
    ≡ codes "units lj\nlattice fcc 0.8442\nregion box block 0 4 0 4 0 4\ncreate_box 1 box\ncreate_atoms 1 box\nmass 1 1.0\nvelocity all create 3.0 2147483647\npair_style lj/cut 2.5\npair_coeff 1 1 1.0 1.0\nfix 1 all nve\nthermo 10\nrun 20\nprint \"atoms $(atoms) step $(step) etotal $(etotal)\"\n"
unfolding region_line script_text velocity_line digits
four_cells = refl
