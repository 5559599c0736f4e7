use Rattle.std.proofs.Common.{sym, subst, arith}
use Rattle.ave_time.specs.Windows.{IsWindow}
use Rattle.ave_time.proofs.WindowLemmas.{first_is_window}
use Rattle.ave_time.proofs.window.Window.new.Goals as goal

pub from_parts-requires : goal.from_parts-requires
from_parts-requires c =
    subst IsWindow
    (λ i. record { every = c.args.every; repeat = c.args.repeat; freq = c.args.freq; end = sym c.end_after.ensures i; samples = 0; sums = sym c.in_ok-zeros.ensures i })
    (first_is_window c.args.every c.args.repeat c.args.freq c.args.values c.args.step c.requires.schedule c.requires.values (omega (arith, c.ranges.values.fits)) c.requires.step)
