use Rattle.std.proofs.Common.{◌++◌, take, arith, length-append}
use Rattle.std.proofs.lemmas.Grind.{common_steps}
use Rattle.std.proofs.KnownBytes.{Consumes-trans}
use Rattle.disk_real.proofs.reading.read_whole.Goals as goal

-- the bytes of the reads before, and those of the last one
pub returns-then-length-gt-MAX_READ-clause-too_long :
    goal.returns-then-length-gt-MAX_READ-clause-too_long
returns-then-length-gt-MAX_READ-clause-too_long g c = λ told. (
  c.loop.bytes ++ take c.in_ok-count.count c.read_some.new.buffer,
  Consumes-trans _ _ _ _ _ c.loop.invariant.1 c.in_ok-count.ensures.read,
  grind (arith, common_steps, length-append c.loop.bytes (take c.in_ok-count.count c.read_some.new.buffer), c.as_bytes.ensures, c.if-length-gt-MAX_READ.true, c.in_ok-count.ensures.within),
)
