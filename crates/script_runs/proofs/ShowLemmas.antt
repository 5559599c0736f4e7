-- Texts of the log, shown one after another.
use Rattle.std.proofs.Common.{◌≡◌, [], ◌∷◌, ◌++◌, ℕ, List, Option, Result, Ok, Err, refl, sym, ap, subst}
use Rattle.meaning.specs.declared.output.Output.{Output}
use Rattle.meaning.specs.declared.uses.NameUse.{NameUse}
use Rattle.meaning.specs.Sends.{PutStopped, Shows}
use Rattle.meaning.specs.Shown.{Shown, shown, shown_in_log, shown_on_screen, shown_then}
use Rattle.outside.specs.declared.press.Piece.{Piece}
use Rattle.outside.specs.declared.press.PutRefusal.{PutRefusal}
use Rattle.outside.specs.declared.press.PutRefusal.TheVariants as put
use Rattle.outside.specs.Sent.{plus, PutsCut}
use Rattle.outside.proofs.Sending.{plus_after, PutsCut-sends, SendsCut-after, SendsCut-more, SendsFront-after, SendsFront-more, SendsFront-same}

stopped_after : (why : PutRefusal) (old mid new : Option (List Piece)) (ps qs : List Piece) → mid ≡ plus old ps → PutStopped why mid qs new → PutStopped why old (ps ++ qs) new
stopped_after put.Faulted old mid new ps qs first s = SendsCut-after ps first s
stopped_after put.NoMemory old mid new ps qs first s = SendsFront-after ps first s

pub stopped_more : (why : PutRefusal) (old new : Option (List Piece)) (ps qs : List Piece) → PutStopped why old ps new → PutStopped why old (ps ++ qs) new
stopped_more put.Faulted old new ps qs s = SendsCut-more qs s
stopped_more put.NoMemory old new ps qs s = SendsFront-more qs s

-- all of the first text, and then the next call
shows_both : {X T : Type 0} (first : Shown) (next : List NameUse → Shown) (old mid new : Option (List Piece)) (x : X) (r : Result T PutRefusal) (between after : List NameUse) → Shows first old (Ok x) mid between → Shows (next first.uses) mid r new after → Shows (shown_then first next) old r new after
shows_both first next old mid new x (Ok y) between after e h =
    record { sent = plus_after old first.pieces (next first.uses).pieces e.sent h.sent; used = h.used; stopped = tt }
shows_both first next old mid new x (Err why) between after e h =
    record { sent = tt; used = tt; stopped = stopped_after why old mid new first.pieces (next first.uses).pieces e.sent h.stopped }

pub shows_then : {X T : Type 0} (first : Shown) (next : List NameUse → Shown) (old mid new : Option (List Piece)) (x : X) (r : Result T PutRefusal) (between after : List NameUse) → Shows first old (Ok x) mid between → Shows (next between) mid r new after → Shows (shown_then first next) old r new after
shows_then first next old mid new x r between after e h =
    shows_both first next old mid new x r between after e (subst (λ (uses : List NameUse). Shows (next uses) mid r new after) e.used h)

-- the first call stopped
pub shows_stop : {X T : Type 0} (first : Shown) (next : List NameUse → Shown) (old new : Option (List Piece)) (why : PutRefusal) (between after : List NameUse) → Shows {T = X} first old (Err why) new between → Shows {T = T} (shown_then first next) old (Err why) new after
shows_stop first next old new why between after h =
    record { sent = tt; used = tt; stopped = stopped_more why old new first.pieces (next first.uses).pieces h.stopped }

-- a text is shown in the log and then on the screen
pub shown_is : (o : Output) (text : List ℕ) (uses : List NameUse) → shown o text uses ≡ shown_then (shown_in_log o.log text uses) (shown_on_screen o.screen text)
unfolding shown
shown_is o text uses = refl

pub shown_both : {T : Type 0} (o : Output) (text : List ℕ) (uses after : List NameUse) (old new : Option (List Piece)) (r : Result T PutRefusal) → Shows (shown_then (shown_in_log o.log text uses) (shown_on_screen o.screen text)) old r new after → Shows (shown o text uses) old r new after
shown_both o text uses after old new r h = subst (λ (s : Shown). Shows s old r new after) (sym (shown_is o text uses)) h

-- a piece was not put as a whole
pub put_stopped : (why : PutRefusal) (old new : Option (List Piece)) (piece : Piece) → (why ≡ put.Faulted → PutsCut old piece new) → (why ≡ put.NoMemory → new ≡ old) → PutStopped why old (piece ∷ []) new
put_stopped put.Faulted old new piece cut none = PutsCut-sends (cut refl)
put_stopped put.NoMemory old new piece cut none = SendsFront-same (piece ∷ []) (none refl)

-- a text is shown in the same way whatever the uses of names that output has
pub shown-others : (o p : Output) (text : List ℕ) (uses : List NameUse) → p ≡ record o { uses = p.uses } → shown p text uses ≡ shown o text uses
unfolding shown
shown-others o p text uses same = ap (λ (x : Output). shown_then (shown_in_log x.log text uses) (shown_on_screen x.screen text)) same

pub shows_others : {T : Type 0} (o p : Output) (text : List ℕ) (uses after : List NameUse) (old new : Option (List Piece)) (r : Result T PutRefusal) → p ≡ record o { uses = p.uses } → Shows (shown p text uses) old r new after → Shows (shown o text uses) old r new after
shows_others o p text uses after old new r same h = subst (λ (s : Shown). Shows s old r new after) (shown-others o p text uses same) h
