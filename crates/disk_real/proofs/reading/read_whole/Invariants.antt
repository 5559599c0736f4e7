use Rattle.std.proofs.Common.{◌≤◌, length}
use Rattle.std.specs.Io.KnownBytes.{Consumes}
use Rattle.disk_outside.specs.declared.disk.TheConstants.{MAX_READ}
use Rattle.disk_real.proofs.reading.read_whole.Given as goal

abbrev pub invariant-loop : goal.invariant-loop
invariant-loop g l = (length l.bytes ≤ MAX_READ) × Consumes (g.F.Read.remaining l.initial.file) (g.F.Read.remaining l.file) l.bytes
