use Rattle.std.proofs.Common.{◌≤◌, length}
use Rattle.std.specs.Io.KnownBytes.{Consumes}
use Rattle.outside.specs.declared.shelf.TheConstants.{MAX_FETCHED}
use Rattle.outside_real.proofs.reading.read_whole.Given as goal

abbrev pub invariant-loop : goal.invariant-loop
invariant-loop g l = (length l.bytes ≤ MAX_FETCHED) × Consumes (g.F.Read.remaining l.initial.file) (g.F.Read.remaining l.file) l.bytes
