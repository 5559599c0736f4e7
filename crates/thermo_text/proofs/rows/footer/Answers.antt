use Rattle.std.proofs.Common.{arith}
use Rattle.std.proofs.lemmas.Grind.{common_steps}
use Rattle.thermo_text.specs.Thermo.{footer_text}
use Rattle.thermo_text.proofs.rows.footer.Goals as goal

pub returns : goal.returns
unfolding footer_text
returns c = grind (arith, common_steps)
