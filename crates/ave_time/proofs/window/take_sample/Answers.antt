use Rattle.std.proofs.Common.{ℤ, List, subst, sym}
use Rattle.ave_time.specs.Windows.{IsWindow, sampled}
use Rattle.ave_time.proofs.WindowLemmas.{few_samples, sampled_window}
use Rattle.ave_time.proofs.window.take_sample.Goals as goal

pub returns-clause-window : goal.returns-clause-window
returns-clause-window c = subst (λ (sums : List ℤ). IsWindow (record (sampled c.args.parts.now c.args.values.now) { sums = sums })) (sym c.add.ensures) (sampled_window c.args.parts.now c.args.values.now c.requires.window (few_samples c.args.parts.now c.args.step c.requires.window c.requires.before c.requires.sample c.requires.samples) c.requires.small)
