-- The state at the start keeps to its limits.
use Rattle.std.proofs.Common.{arith, refl, inr, List}
use Rattle.std.proofs.lemmas.Int.{ints}
use Rattle.std.proofs.lemmas.List.Elements.{All-nil}
use Rattle.meaning.specs.declared.output.Output.{Output}
use Rattle.meaning.specs.Session.{begun_with}
use Rattle.meaning.specs.Sound.{IsSound}
use Rattle.pair_lj.specs.Pairs.{IsSoundPair}
use Rattle.var_table.specs.Variables.{Named}

-- the state at the start, and after `clear`
pub IsSound-begun_with : (o : Output) (vars : List Named) → IsSound (begun_with o vars)
IsSound-begun_with o vars = record {
  setup = record { style = refl; lattice = tt; dim = inr refl; together = refl; slow = omega (arith, ints); quick = omega (arith, ints) };
  force = record { style = tt; pairs = All-nil IsSoundPair; comm_low = omega (arith, ints); comm_high = omega (arith, ints); skin_low = omega (arith, ints); skin_high = omega (arith, ints) };
  body = tt;
  dim = tt;
}
