use Rattle.std.proofs.Common.{◌≡◌, ◌∙◌, ◌+◌, ◌*◌, ◌≤◌, false, List, [], ◌∷◌, ◌++◌, ap, sym, arith}
use Rattle.pair_lj.specs.declared.pair_settings.PairCoefficients.{PairCoefficients}
use Rattle.pair_lj.specs.Pairs.{is_set}
use Rattle.pair_lj.specs.Places.{open_below}
use Rattle.pair_lj.proofs.RoomLemmas.{open_pushed, room_replaced}
use Rattle.pair_lj.proofs.SetLemmas.{all_replaced}
use Rattle.std.proofs.lemmas.List.{length-append}
use Rattle.std.proofs.lemmas.List.Elements.{All-push}
use Rattle.pair_lj.specs.Pairs.{IsSoundPair}
use Rattle.pair_lj.proofs.table.put.Goals as goal

pub returns-then-is_set-clause-sound : goal.returns-then-is_set-clause-sound
returns-then-is_set-clause-sound c = rw c.replace_in.ensures.items (all_replaced c.args.pair.now c.args.pairs.now.items c.requires.pair c.requires.sound)

pub returns-then-is_set-clause-room : goal.returns-then-is_set-clause-room
returns-then-is_set-clause-room c =
    rw c.replace_in.ensures.items
    (omega (arith, room_replaced c.args.pair.now c.args.pairs.now.items (64 * c.args.kinds) c.requires.pair.ordered, c.requires.room, c.replace_in.ensures.room))

pub append-requires : goal.append-requires
append-requires c =
    let p = c.args.pair.now in
    let items = c.args.pairs.now.items in
    let off : is_set items p.i p.j ≡ false = ap (λ (l : List PairCoefficients). is_set l p.i p.j) (sym c.deref.ensures.value) ∙ sym c.is_set.ensures ∙ c.if-is_set.false in
    let less : open_below (items ++ p ∷ []) (64 * c.args.kinds) + 1 ≤ open_below items (64 * c.args.kinds) = open_pushed p items c.args.kinds c.requires.pair c.requires.high c.requires.few off in
    omega (arith, less, c.requires.room)

pub returns-clause-sound : goal.returns-clause-sound
returns-clause-sound c = rw c.append.ensures.items (All-push IsSoundPair c.args.pairs.now.items c.args.pair.now c.requires.sound c.requires.pair)

pub returns-clause-room : goal.returns-clause-room
returns-clause-room c =
    let p = c.args.pair.now in
    let items = c.args.pairs.now.items in
    let off : is_set items p.i p.j ≡ false = ap (λ (l : List PairCoefficients). is_set l p.i p.j) (sym c.deref.ensures.value) ∙ sym c.is_set.ensures ∙ c.if-is_set.false in
    let less : open_below (items ++ p ∷ []) (64 * c.args.kinds) + 1 ≤ open_below items (64 * c.args.kinds) = open_pushed p items c.args.kinds c.requires.pair c.requires.high c.requires.few off in
    rw c.append.ensures.items (omega (arith, less, c.requires.room, c.append.ensures.room, length-append items (p ∷ [])))
