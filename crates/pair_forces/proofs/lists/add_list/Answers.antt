use Rattle.std.proofs.Common.{◌^◌, ap, get_or, length, sym, subst, arith, ℕ, List}
use Rattle.std.proofs.lemmas.Int.{ints}
use Rattle.half_list.specs.Lists.{row_of}
use Rattle.serial_step.specs.Forces.{field_of}
use Rattle.serial_step.specs.Pairs.{pair_at}
use Rattle.std.specs.Prelude.{map}
use Rattle.pair_forces.specs.Adds.{AreAdded}
use Rattle.pair_forces.specs.Sums.{AreSums, AreSumsWithin}
use Rattle.pair_forces.proofs.ListLemmas.{done, done_all, done_length, list_added, list_sums, none_added, row_room, row_within, wider_row, wider_sums}
use Rattle.pair_forces.proofs.lists.add_list.Goals as goal

pub loop-k-init : goal.loop-k-init
loop-k-init g c = record {
  sums = λ d. record { energy = c.new-sums.ensures.energy; virial = c.new-sums.ensures.virial; fault = c.new-sums.ensures.fault };
  forces = none_added (field_of c.args.pairs.now.pairs) c.args.cell.now.sides c.args.atoms.now c.args.forces.now;
  words = c.requires.words;
  bound = record { energy = omega (arith, ints, c.new-sums.ensures.energy); virial = omega (arith, ints, c.new-sums.ensures.virial) };
  steps = omega arith;
}

pub add_row-row-requires-clause-others : goal.add_row-row-requires-clause-others
add_row-row-requires-clause-others g c =
    row_within (row_of c.args.list.now.rows) c.args.list.now.own.items (length c.args.atoms.now) c.loop-k.k c.row.result.now (omega arith) c.row.ensures c.requires.others

pub add_row-row-requires-clause-few : goal.add_row-row-requires-clause-few
add_row-row-requires-clause-few g c =
    omega (arith, row_room (row_of c.args.list.now.rows) c.args.list.now.own.items c.loop-k.k c.row.result.now (omega arith) c.row.ensures, c.requires.few)

pub add-requires-clause-row : goal.add-requires-clause-row
add-requires-clause-row g c =
    wider_row (length c.row.result.now) (2 ^ 40) c.add_row-row.result
    (omega (arith, row_room (row_of c.args.list.now.rows) c.args.list.now.own.items c.loop-k.k c.row.result.now (omega arith) c.row.ensures, c.requires.few)) c.add_row-row.ensures.bound

pub add-requires-clause-room : goal.add-requires-clause-room
add-requires-clause-room g c =
    wider_sums (length (done (row_of c.args.list.now.rows) c.args.list.now.own.items c.loop-k.k)) (2 ^ 40) c.loop-k.sums
    (omega (arith, row_room (row_of c.args.list.now.rows) c.args.list.now.own.items c.loop-k.k c.row.result.now (omega arith) c.row.ensures, c.requires.few)) c.loop-k.invariant.bound

pub loop-k-preserved : goal.loop-k-preserved
loop-k-preserved g c =
    let field = field_of c.args.pairs.now.pairs in
    let s = c.args.cell.now.sides in
    let rows = row_of c.args.list.now.rows in
    let own = c.args.list.now.own.items in
    let k = c.loop-k.k in
    let p = get_or c.own.result.now k 0 in
    let qs = c.row.result.now in
    let place = ap (λ (l : List ℕ). get_or l k 0) c.own.ensures in
    let more = done_length rows own k p qs (omega arith) place c.row.ensures in
    record {
      sums = λ d. list_sums rows own field s c.args.atoms.now d k p qs _ _ _ _ _ _ _ _ _ (omega arith) place c.row.ensures (c.loop-k.invariant.sums d) (c.add_row-row.ensures.sums d) c.add.ensures.energy c.add.ensures.virial c.add.ensures.fault;
      forces = list_added rows own field s c.args.atoms.now k p qs c.args.forces.now c.loop-k.forces c.add_row-row.new.forces (omega arith) place c.row.ensures c.loop-k.invariant.forces c.add_row-row.ensures.forces;
      words = c.add_row-row.ensures.words;
      bound = subst (λ (n : ℕ). AreSumsWithin n c.add.new.self) (sym more) (c.add.ensures.bound _ _ c.loop-k.invariant.bound c.add_row-row.ensures.bound);
      steps = omega (arith, more, c.add_row-row.ensures.steps, c.loop-k.invariant.steps);
    }

pub returns-clause-sums : goal.returns-clause-sums
returns-clause-sums g c = λ d.
    subst (λ (l : List (ℕ × ℕ)). AreSums (field_of c.args.pairs.now.pairs) c.args.cell.now.sides (map (pair_at c.args.atoms.now d) l) c.loop-k.sums.energy c.loop-k.sums.virial c.loop-k.sums.fault)
    (done_all (row_of c.args.list.now.rows) c.args.list.now.own.items c.loop-k.k (omega arith)) (c.loop-k.invariant.sums d)

pub returns-clause-forces : goal.returns-clause-forces
returns-clause-forces g c =
    subst (λ (l : List (ℕ × ℕ)). AreAdded (field_of c.args.pairs.now.pairs) c.args.cell.now.sides c.args.atoms.now l c.args.forces.now c.loop-k.forces)
    (done_all (row_of c.args.list.now.rows) c.args.list.now.own.items c.loop-k.k (omega arith)) c.loop-k.invariant.forces

pub returns-clause-steps : goal.returns-clause-steps
returns-clause-steps g c = omega (arith, ap (λ (l : List (ℕ × ℕ)). length l) (done_all (row_of c.args.list.now.rows) c.args.list.now.own.items c.loop-k.k (omega arith)), c.loop-k.invariant.steps)
