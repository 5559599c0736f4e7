-- Stops that blame nothing outside, and what commands that lead elsewhere leave of how far a script is.
use Rattle.std.proofs.Common.{◌≡◌, ◌∙◌, ℕ, Bool, true, false, cond, Option, Some, None, List, [], ◌∷◌, Result, Ok, Err, IfErr, refl, sym, ap, subst}
use Rattle.std.specs.Prelude.{nat_lt, length}
use Rattle.std.proofs.lemmas.Bool.{false≢true}
use Rattle.box_geo.specs.declared.limits.TheConstants.{MAX_INCLUDES}
use Rattle.control_flow.specs.declared.refusals.FlowRefusal.{FlowRefusal}
use Rattle.control_flow.specs.declared.refusals.FlowRefusal.TheVariants as flow
use Rattle.control_flow.specs.Flow.{FlowState, OpenFile, at_label, gone_to, included, jumped, opened, skipping, target}
use Rattle.command_words.specs.declared.flow.Jump.{Jump}
use Rattle.meaning.specs.declared.code.Code.{Code}
use Rattle.meaning.specs.declared.code.Code.TheVariants as code
use Rattle.meaning.specs.declared.progress.Progress.{Progress}
use Rattle.meaning.specs.declared.refusal.Refusal.{Refusal}
use Rattle.meaning.specs.declared.refusal.Refusal.TheVariants as why
use Rattle.meaning.specs.declared.refusal.SettingsRefusal.{SettingsRefusal}
use Rattle.meaning.specs.declared.refusal.SettingsRefusal.TheVariants as settings
use Rattle.meaning.specs.declared.settings.Settings.{Settings}
use Rattle.meaning.specs.Answers.{Gets, is_absence}
use Rattle.meaning.specs.Causes.{Outside}
use Rattle.meaning.specs.Flow.{Fetch, Moved, goes_to, in_flow, include, into_file, jump, jump_to, led, led_by, led_by_text, script_fetched, stops}
use Rattle.meaning.specs.Outcome.{Outcome, refuses, silent}
use Rattle.meaning.specs.Sends.{RefusesWith}
use Rattle.outside.specs.declared.files.File.{File}
use Rattle.script_lines.specs.declared.refusals.LineRefusal.{LineRefusal}
use Rattle.script_lines.specs.declared.refusals.LineRefusal.TheVariants as line
use Rattle.session.specs.declared.stops.Stop.{Stop}
use Rattle.session.specs.declared.stops.Stop.TheVariants as stop
use Rattle.session.specs.Refusals.{widened}
use Rattle.session.specs.Ends.{GetsFile}
use Rattle.session.specs.Stops.{Fetches, IsIdle, StopRests, stop_of}

-- a code that is not that of a missing file
pub idle_code : (told : Code) → is_absence told ≡ false → IsIdle (stop.Command (why.Code told))
idle_code told h = record { rests = λ a b e. absurd (false≢true (sym h ∙ ap is_absence e)) }

idle_line : (told : Code) (file : List ℕ) (number : ℕ) → is_absence told ≡ false → IsIdle (stop.Refused told file number)
idle_line told file number h = record { rests = λ a b e. absurd (false≢true (sym h ∙ ap is_absence e)) }

pub idle_memory : IsIdle (stop.Command why.NoMemory)
idle_memory = record { rests = λ a b. tt }

-- a flow that does not go on
idle_flow : (r : FlowRefusal) → IsIdle (stop_of r)
idle_flow (flow.Line file (line.UnclosedQuote n)) = idle_line code.UnclosedQuote file n refl
idle_flow (flow.Line file (line.ContinuationAtEnd n)) = idle_line code.ContinuationAtEnd file n refl
idle_flow (flow.Line file (line.QuoteTail n)) = idle_line code.QuoteTail file n refl
idle_flow (flow.Line file line.NoMemory) = idle_memory
idle_flow (flow.Budget file n) = record { rests = λ a b. tt }
idle_flow (flow.NoLabel label) = idle_code code.NoLabel refl
idle_flow flow.IncludeTooDeep = idle_code code.IncludeTooDeep refl
idle_flow flow.NoMemory = idle_memory

pub idle_stop : (r : FlowRefusal) (s : Stop) → s ≡ stop_of r → IsIdle s
idle_stop r s e = subst (λ (t : Stop). IsIdle t) (sym e) (idle_flow r)

-- a refusal of what settings are asked for
pub idle_widened : {X : Type 0} (meant : Result X Code) (r : SettingsRefusal) → Gets meant (Err r) → IsIdle (stop.Command (widened r))
idle_widened {X} meant (settings.Code told) h = idle_code told h.1
idle_widened {X} meant settings.NoMemory h = idle_memory

-- what blames nothing has its cause
pub idle_causes : (r : Result Unit Stop) (old new : Outside) → IfErr r IsIdle → IfErr r (λ s. StopRests s old new)
idle_causes (Ok done) old new h = tt
idle_causes (Err s) old new h = h.rests old new

-- a jump and an include run no line
count_in : FlowState → Result (Bool × FlowState) FlowRefusal → ℕ
count_in f (Ok a) = a.1.count
count_in f (Err r) = f.count

gone_count : (f : FlowState) (b : Bool) (r : Result OpenFile FlowRefusal) → count_in f (cond b (Ok (false, skipping f false)) (gone_to f r)) ≡ f.count
unfolding count_in
gone_count f true r = refl
gone_count f false (Ok file) = refl
gone_count f false (Err e) = refl

pub jumped_count : (f new : FlowState) (other : Option (List ℕ × List ℕ)) (label : Option (List ℕ)) (goes : Bool) → jumped f other label ≡ Ok (goes, new) → new.count ≡ f.count
unfolding count_in
jumped_count f new other label goes e = sym (ap (count_in f) e) ∙ gone_count f f.skips (at_label (target f other) label)

count_of : FlowState → Result FlowState FlowRefusal → ℕ
count_of f (Ok g) = g.count
count_of f (Err r) = f.count

one_more_count : (f g : FlowState) (b : Bool) → g.count ≡ f.count → count_of f (cond b (Ok g) (Err flow.IncludeTooDeep)) ≡ f.count
unfolding count_of
one_more_count f g true h = h
one_more_count f g false h = refl

pub included_count : (f new : FlowState) (name text : List ℕ) → included f name text ≡ Ok new → new.count ≡ f.count
unfolding count_of
included_count f new name text e =
    sym (ap (count_of f) e) ∙ one_more_count f (record f { file = opened name text; outer = f.file ∷ f.outer }) (nat_lt (length f.outer) MAX_INCLUDES) refl

-- a script's file that is fetched once its name is used
pub fetched_by : (meant : Fetch) (r : Result (List ℕ) Refusal) (new : Settings) → GetsFile meant.text r → meant.state ≡ new → Fetches meant r new
fetched_by meant (Ok text) new h s = (h, s)
fetched_by meant (Err (why.Code told)) new h s = (h, s)
fetched_by meant (Err (why.Range key step)) new h s = h
fetched_by meant (Err why.ReadFault) new h s = tt
fetched_by meant (Err why.WriteFault) new h s = h
fetched_by meant (Err why.DiskFault) new h s = h
fetched_by meant (Err why.NoMemory) new h s = tt
fetched_by meant (Err why.NotBuilt) new h s = h

-- the commands whose file is not there stop with the state that is meant
led_silent : (s : Settings) (p : Progress) (r : Result FlowState FlowRefusal) → (led s p r).outcome.pieces ≡ []
led_silent s p (Ok f) = refl
led_silent s p (Err e) = refl

text_silent : (change : List ℕ → Result FlowState FlowRefusal) (s : Settings) (p : Progress) (r : Result (List ℕ) Code) → (led_by_text change s p r).outcome.pieces ≡ []
text_silent change s p (Ok text) = led_silent s p (change text)
text_silent change s p (Err told) = refl

pub led_refuses : (change : List ℕ → Result FlowState FlowRefusal) (p : Progress) (meant : Fetch) (r : Refusal) (new : Settings) → Fetches meant (Err r) new → RefusesWith r (led_by change p meant).outcome new
led_refuses change p meant (why.Code told) new h =
    ap (λ (t : Result (List ℕ) Code). (led_by_text change meant.state p t).outcome) h.0 ∙ ap (λ (s : Settings). silent s (refuses told)) h.1
led_refuses change p meant (why.Range key step) new h = absurd h
led_refuses change p meant why.ReadFault new h = text_silent change meant.state p meant.text
led_refuses change p meant why.WriteFault new h = absurd h
led_refuses change p meant why.DiskFault new h = absurd h
led_refuses change p meant why.NoMemory new h = text_silent change meant.state p meant.text
led_refuses change p meant why.NotBuilt new h = absurd h

-- an include that may be open, and a jump that isn't skipped
pub include_is : (files : List File) (name : List ℕ) (s : Settings) (p : Progress) → nat_lt (length p.flow.outer) MAX_INCLUDES ≡ true
    → include files name s p ≡ led_by (included p.flow name) p (script_fetched files name s)
include_is files name s p fits =
    ap (λ (b : Bool). cond b (led_by (included p.flow name) p (script_fetched files name s)) (stops s p (refuses code.IncludeTooDeep))) fits

pub jump_is : (files : List File) (j : Jump) (name : List ℕ) (s : Settings) (p : Progress) → p.flow.skips ≡ false → j.file ≡ Some name
    → jump files j s p ≡ led_by (into_file p.flow j.label name) p (script_fetched files name s)
jump_is files j name s p goes there =
    ap (λ (b : Bool). cond b (goes_to s (in_flow p (skipping p.flow false))) (jump_to files j.label s p j.file)) goes ∙ ap (jump_to files j.label s p) there
