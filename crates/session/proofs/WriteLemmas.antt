-- Writing a data file: the name is judged, and then whether there is a box.
use Rattle.std.proofs.Common.{◌≡◌, ℕ, Option, None, Some, List, Result, Ok, Err, refl, sym, ap, subst, ◌∙◌}
use Rattle.meaning.specs.declared.code.Code.{Code}
use Rattle.meaning.specs.declared.code.Code.TheVariants.{NoBox}
use Rattle.meaning.specs.declared.refusal.Refusal.{Refusal}
use Rattle.meaning.specs.declared.refusal.Refusal.TheVariants as why
use Rattle.meaning.specs.declared.settings.Body.{Body}
use Rattle.meaning.specs.declared.settings.Settings.{Settings}
use Rattle.meaning.specs.declared.uses.NameUse.{NameUse}
use Rattle.meaning.specs.declared.uses.UseKind.TheVariants.{Put}
use Rattle.meaning.specs.Causes.{Counted}
use Rattle.meaning.specs.Outcome.{Outcome, refused}
use Rattle.meaning.specs.Output.{after_shown, with_uses}
use Rattle.meaning.specs.Sends.{Does, PutStopped, Shows, StoppedBy, put_refusal}
use Rattle.meaning.specs.Shown.{Shown, put_anew}
use Rattle.meaning.specs.SystemFiles.{before_put, text_of_body, with_box, write_data}
use Rattle.meaning.specs.Uses.{code_in, names}
use Rattle.outside.specs.declared.press.Piece.{Piece}
use Rattle.outside.specs.declared.press.PutRefusal.{PutRefusal}
use Rattle.outside.specs.declared.press.PutRefusal.TheVariants as put
use Rattle.outside.proofs.Sending.{SendsFront-none}
use Rattle.session.proofs.ExecuteLemmas.{none_counted, stops_silent}

-- a refusal with which nothing was sent and the state is as it was
refused_does : (meant : Outcome) (s : Settings) (code : Code) (sent : Option (List Piece)) → meant ≡ refused s code → Does {T = Unit {0}} meant sent (Err (why.Code code)) sent s
refused_does meant s code sent h = record { goes_on = tt; sent = tt; after = tt; stopped = stops_silent (why.Code code) meant sent s h }

-- the name has another use, or is that of a compressed file
by_name : (name : List ℕ) (s : Settings) (r : Result (List NameUse) Code) (code : Code) → code_in r ≡ Some code → before_put name s r ≡ refused s code
by_name name s (Ok uses) code h = cc
by_name name s (Err other) code h = let same : other ≡ code = cc in ap (refused s) same

pub named_does : (name : List ℕ) (s : Settings) (code : Code) (sent : Option (List Piece)) → code_in (names Put name s.output.uses) ≡ Some code → Does {T = Unit {0}} (write_data name s) sent (Err (why.Code code)) sent s
named_does name s code sent h = refused_does (write_data name s) s code sent (by_name name s (names Put name s.output.uses) code h)

-- there is no box
by_box : (name : List ℕ) (s : Settings) (r : Result (List NameUse) Code) → code_in r ≡ None → s.body ≡ None → before_put name s r ≡ refused s NoBox
by_box name s (Ok uses) h none = ap (with_box name s uses) none
by_box name s (Err other) h none = cc

pub boxless_does : (name : List ℕ) (s : Settings) (sent : Option (List Piece)) → code_in (names Put name s.output.uses) ≡ None → s.body ≡ None → Does {T = Unit {0}} (write_data name s) sent (Err (why.Code NoBox)) sent s
boxless_does name s sent h none = refused_does (write_data name s) s NoBox sent (by_box name s (names Put name s.output.uses) h none)

-- no terms of pairs are summed
boxed_pairs : (name : List ℕ) (s : Settings) (uses : List NameUse) (b : Option Body) → (with_box name s uses b).pairs ≡ 0
boxed_pairs name s uses (Some b) = refl
boxed_pairs name s uses None = refl

named_pairs : (name : List ℕ) (s : Settings) (r : Result (List NameUse) Code) → (before_put name s r).pairs ≡ 0
named_pairs name s (Ok uses) = boxed_pairs name s uses s.body
named_pairs name s (Err why) = refl

pub write_counted : {T : Type 0} (name : List ℕ) (s : Settings) (r : Result T Refusal) (n : ℕ) → Counted (write_data name s).pairs n r n
write_counted {T} name s r n = none_counted (write_data name s).pairs n r (named_pairs name s (names Put name s.output.uses))
