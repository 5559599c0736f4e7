use Rattle.std.proofs.Common.{◌≡◌, ◌≤◌, ◌^◌, drop, fold, max, unsigned_abs}
use Rattle.script_runs.proofs.parts.reach_of.Given as goal

abbrev pub invariant-loop-pair : goal.invariant-loop-pair
invariant-loop-pair l = record {
  is : fold (λ most p. max most (unsigned_abs p.cutoff)) l.most (drop l.pair-index l.pair-items) ≡ fold (λ most p. max most (unsigned_abs p.cutoff)) (unsigned_abs l.force.comm_cutoff) l.pair-items;
  high : l.most ≤ 2 ^ 28;
}
