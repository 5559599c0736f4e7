use Rattle.std.proofs.Common.{Some, ◌∙◌, ap, sym}
use Rattle.std.specs.Option.{option_map}
use Rattle.pair_lj.specs.Pairs.{numbers_at, numbers_of}
use Rattle.pair_lj.proofs.SetLemmas.{found_sound}
use Rattle.pair_lj.proofs.table.found.Goals as goal

pub kept-requires : goal.kept-requires
kept-requires c = found_sound c.args.pairs.now c.args.i c.args.j c.in-Some.pair c.requires (sym c.in-Some.ensures)

pub returns-in-Some : goal.returns-in-Some
unfolding numbers_at
returns-in-Some c = ap (option_map numbers_of) (sym c.in-Some.ensures) ∙ ap Some c.kept.ensures

pub returns-in-None : goal.returns-in-None
unfolding numbers_at
returns-in-None c = ap (option_map numbers_of) (sym c.in-None.ensures)
