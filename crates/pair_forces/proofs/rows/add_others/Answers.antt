use Rattle.std.proofs.Common.{get_or, refl, sym, subst, arith}
use Rattle.std.proofs.lemmas.List.Elements.{All-set}
use Rattle.serial_step.specs.Forces.{field_of}
use Rattle.pair_forces.specs.Adds.{FitWords}
use Rattle.pair_forces.specs.Rows.{IsRowOf, IsRowWithin}
use Rattle.pair_forces.proofs.PushLemmas.{none_within, row_all, row_more, row_none, taken_first, taken_step}
use Rattle.pair_forces.proofs.rows.add_others.Goals as goal

pub loop-other-init : goal.loop-other-init
loop-other-init g c =
    let field = field_of c.args.pairs.now.pairs in
    let s = c.args.cell.now.sides in
    record {
      row = λ d. subst (IsRowOf field s c.args.own.now _) (sym c.new-row.ensures) (row_none field s c.args.own.now);
      forces = taken_first field s c.args.atoms.now c.args.own.now c.args.forces.now;
      words = c.requires.words;
      bound = subst (IsRowWithin 0) (sym c.new-row.ensures) none_within;
      steps = omega arith;
    }

pub loop-other-preserved : goal.loop-other-preserved
loop-other-preserved g c =
    let field = field_of c.args.pairs.now.pairs in
    let s = c.args.cell.now.sides in
    let i = c.loop-other.other-index in
    let q = get_or c.args.others.now i 0 in
    let within = c.requires.others i 0 c.loop-other-test.true in
    record {
      row = λ d. row_more field s c.args.atoms.now c.args.own.now d _ c.args.others.now i q c.loop-other.row c.add_pair.new.row c.loop-other-test.true refl within c.add_pair.ensures.row (c.loop-other.invariant.row d);
      forces = taken_step field s c.args.atoms.now c.args.own.now _ c.args.others.now i q c.args.forces.now c.loop-other.forces _ c.add_pair.new.force c.loop-other-test.true refl within c.requires.each c.loop-other.invariant.forces c.add_pair.ensures.force;
      words = All-set FitWords c.loop-other.forces q c.add_pair.new.force c.add_pair.ensures.words c.loop-other.invariant.words;
      bound = c.add_pair.ensures.bound i c.loop-other.invariant.bound;
      steps = omega (arith, c.add_pair.ensures.steps, c.loop-other.invariant.steps);
    }

pub returns-clause-row : goal.returns-clause-row
returns-clause-row g c = λ d.
    row_all (field_of c.args.pairs.now.pairs) c.args.cell.now.sides c.args.atoms.now c.args.own.now d c.args.others.now c.loop-other.other-index c.loop-other.row (omega arith) (c.loop-other.invariant.row d)
