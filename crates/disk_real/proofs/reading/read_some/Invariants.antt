use Rattle.std.proofs.Common.{◌≡◌, [], length}
use Rattle.std.specs.Io.KnownBytes.{Consumes}
use Rattle.disk_real.proofs.reading.read_some.Given as goal

-- the reads so far were interrupted, and took nothing
abbrev pub invariant-loop : goal.invariant-loop
invariant-loop g l = Consumes (g.F.Read.remaining l.initial.file) (g.F.Read.remaining l.file) [] × (length l.buffer ≡ length l.initial.buffer)
