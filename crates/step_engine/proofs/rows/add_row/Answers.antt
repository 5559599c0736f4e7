use Rattle.std.proofs.Common.{◌^◌, ◌-◌, refl, arith}
use Rattle.serial_step.specs.Forces.{field_of}
use Rattle.step_engine.specs.Ranges.{IsPlaced, IsWithin}
use Rattle.step_engine.specs.Rows.{pushed_by}
use Rattle.step_engine.proofs.RowLemmas.{at_untouched, mapped_more, untouched, row_step, row_none, row_none-within}
use Rattle.step_engine.proofs.rows.add_row.Goals as goal

pub loop-other-init : goal.loop-other-init
loop-other-init g c = record {
  row = row_none (field_of c.args.pairs.now.pairs) c.args.cell.now.sides c.args.own.now;
  others = refl;
  bound = row_none-within;
  steps = omega arith;
}

pub add_pair-requires-clause-other : goal.add_pair-requires-clause-other
add_pair-requires-clause-other g c =
    at_untouched (IsPlaced c.args.pairs.now c.args.cell.now.sides) (pushed_by (field_of c.args.pairs.now.pairs) c.args.cell.now.sides c.args.own.now) c.args.others.now c.loop-other.others c.loop-other.other-index _
    (omega arith) c.loop-other.invariant.others c.requires.placed

pub add_pair-requires-clause-mild : goal.add_pair-requires-clause-mild
add_pair-requires-clause-mild g c =
    at_untouched (λ a. IsWithin (2 ^ 62 - 1) a.f) (pushed_by (field_of c.args.pairs.now.pairs) c.args.cell.now.sides c.args.own.now) c.args.others.now c.loop-other.others c.loop-other.other-index _
    (omega arith) c.loop-other.invariant.others c.requires.mild

pub loop-other-preserved : goal.loop-other-preserved
loop-other-preserved g c =
    let field = field_of c.args.pairs.now.pairs in
    let s = c.args.cell.now.sides in
    let own = c.args.own.now in
    let xs = c.args.others.now in
    let ys = c.loop-other.others in
    let i = c.loop-other.other-index in
    record {
      row = row_step field s own xs ys i _ c.loop-other.row c.add_pair.new.row (omega arith)
          (untouched (pushed_by field s own) xs ys i _ (omega arith) c.loop-other.invariant.others) c.loop-other.invariant.row c.add_pair.ensures.row;
      others = mapped_more (pushed_by field s own) xs ys i _ c.add_pair.new.other (omega arith) (omega arith) c.loop-other.invariant.others c.add_pair.ensures.other;
      bound = c.add_pair.ensures.bound i c.loop-other.invariant.bound;
      steps = omega (arith, c.add_pair.ensures.steps, c.loop-other.invariant.steps);
    }
