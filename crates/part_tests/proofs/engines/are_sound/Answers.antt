use Rattle.std.proofs.Common.{rules, ◌^◌, [], ◌∷◌, pos, All, subst, List}
use Rattle.std.proofs.lemmas.List.{take_all}
use Rattle.std.proofs.lemmas.List.Elements.{All-more}
use Rattle.box_geo.specs.declared.atoms.Atom.{Atom}
use Rattle.step_engine.specs.Ranges.{IsMovable, IsPlaced}
use Rattle.part_tests.proofs.engines.are_sound.Goals as goal

pub loop-atom-preserved : goal.loop-atom-preserved
loop-atom-preserved c = record {
  placed = All-more (IsPlaced c.args.pairs.now c.args.cell.now.sides) c.args.atoms.now c.loop-atom.atom-index _ c.loop-atom-test.true c.loop-atom.invariant.placed (c.is_placed.ensures (search rules));
  movable = All-more (IsMovable (pos (2 ^ 24) ∷ [])) c.args.atoms.now c.loop-atom.atom-index _ c.loop-atom-test.true c.loop-atom.invariant.movable (c.is_movable.ensures (search rules));
}

pub returns-clause-placed : goal.returns-clause-placed
returns-clause-placed c = λ e. subst (λ (xs : List Atom). All (IsPlaced c.args.pairs.now c.args.cell.now.sides) xs) (take_all c.loop-atom.atom-index c.args.atoms.now c.loop-atom-test.false) c.loop-atom.invariant.placed

pub returns-clause-movable : goal.returns-clause-movable
returns-clause-movable c = λ e. subst (λ (xs : List Atom). All (IsMovable (pos (2 ^ 24) ∷ [])) xs) (take_all c.loop-atom.atom-index c.args.atoms.now c.loop-atom-test.false) c.loop-atom.invariant.movable
