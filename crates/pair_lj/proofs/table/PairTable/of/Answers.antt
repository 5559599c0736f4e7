use Rattle.std.proofs.Common.{◌≡◌, ◌*◌, ◌∙◌, false, true, subst, sym, arith, List}
use Rattle.std.specs.List.{All}
use Rattle.pair_lj.specs.declared.pair_settings.PairCoefficients.{PairCoefficients}
use Rattle.pair_lj.specs.Pairs.{IsSoundPair}
use Rattle.pair_lj.proofs.RoomLemmas.{open_few}
use Rattle.pair_lj.proofs.table.PairTable.of.Goals as goal

pub invariant_of-result : goal.invariant_of-result
invariant_of-result c =
    let items = c.in_ok-with_room.field-0.items in
    record {
      few = c.requires.few;
      squared = omega (arith, c.in_ok-vec.ensures.len, c.from-places.ensures);
      sound = subst (All IsSoundPair) (sym c.in_ok-with_room.ensures.items) c.requires.sound;
      room = rw c.in_ok-with_room.ensures.items (omega (arith, c.in_ok-with_room.ensures.room, open_few c.args.pairs.now (64 * c.args.kinds)));
      filled = λ e. absurd (let d : false ≡ true = e in cc);
    }
