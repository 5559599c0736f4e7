use Rattle.std.proofs.Common.{sym, arith}
use Rattle.ave_time.proofs.WindowLemmas.{on_time, too_early}
use Rattle.ave_time.proofs.window.is_sample.Goals as goal

pub returns-then-parts-gap : goal.returns-then-parts-gap
returns-then-parts-gap c = sym (too_early c.args.parts.now c.args.step c.requires.window c.requires.within (omega arith))

pub returns : goal.returns
returns c = on_time c.args.parts.now c.args.step c.requires.window c.requires.within (omega arith)
