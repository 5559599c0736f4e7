-- Why a run is refused.
use Rattle.std.proofs.Common.{◌≡◌, ◌<◌, ◌&&◌, ◌||◌, ◌+ℤ◌, Bool, true, false, cond, not, ℕ, ℤ, pos, Option, Some, None, IfSome, IsSome, IsTrue, Err, List, [], ◌∷◌, length, refl, sym, ap, ◌∙◌, subst, arith}
use Rattle.std.specs.List.{list_any}
use Rattle.std.specs.Option.{is_none}
use Rattle.std.proofs.lemmas.Bool.Decides.{nat_tests}
use Rattle.box_geo.specs.declared.sim_box.Axis.{Axis}
use Rattle.fix_list.specs.declared.fixes.NamedFix.{NamedFix}
use Rattle.fix_list.proofs.LeastLemmas.{movers-le}
use Rattle.meaning.specs.declared.code.Code.{Code}
use Rattle.meaning.specs.declared.code.Code.TheVariants.{BadValue, EdgeTooSmall, TwiceMoved, Unset}
use Rattle.meaning.specs.declared.refusal.Refusal.{Refusal}
use Rattle.meaning.specs.declared.refusal.Refusal.TheVariants.{DiskFault, NoMemory, NotBuilt, Range, ReadFault, WriteFault}
use Rattle.meaning.specs.declared.refusal.Refusal.TheVariants as why
use Rattle.meaning.specs.declared.settings.Body.{Body}
use Rattle.meaning.specs.declared.settings.Settings.{Settings}
use Rattle.meaning.specs.Answers.{is_absence}
use Rattle.meaning.specs.Causes.{Outside, Rests}
use Rattle.meaning.specs.Fixes.{is_twice}
use Rattle.meaning.specs.MassesGroups.{are_massive}
use Rattle.meaning.specs.Outcome.{Outcome, Way, refused, refuses, silent, unbuilt}
use Rattle.meaning.specs.Pairs.{reach_of}
use Rattle.meaning.specs.Runs.{after_run, early_code, have_own, is_mixed, is_ready, last_step, late_code, run, run_in, run_of, run_ready, setting_of, unless_refused}
use Rattle.meaning.specs.Sends.{Does, EndsWhole, StoppedBy}
use Rattle.outside.specs.declared.press.Piece.{Piece}
use Rattle.outside.specs.Sent.{plus}
use Rattle.outside.proofs.Sending.{SendsFront-none, plus-nil}
use Rattle.pair_lj.specs.Pairs.{are_all_had}
use Rattle.pair_lj.proofs.TypeLemmas.{both_true}
use Rattle.script_runs.specs.Engines.{IsReady}
use Rattle.script_runs.specs.Judged.{Stops, code_or, refusal_of}
use Rattle.serial_step.specs.Room.{edge_too_small}

-- fewer than two fixes move nothing twice
pub few_once : (fixes : List NamedFix) (ids : List ℕ) → length fixes < 2 → list_any (is_twice fixes) ids ≡ false
few_once fixes [] few = refl
few_once fixes (id ∷ ids) few =
    either (is_twice fixes id) (list_any (is_twice fixes) ids) (grind (arith, nat_tests, movers-le fixes id)) (few_once fixes ids few)
  where
    either : (b c : Bool) → b ≡ false → c ≡ false → (b || c) ≡ false
    either true c e d = absurd cc
    either false c e d = d

-- what refuses a run is told in the order in which it is judged
abbrev judged : Option Code → Bool → Option Code → Option Refusal
judged early mixed late = code_or early (cond mixed (Some NotBuilt) (code_or late None))

-- and what is meant goes by it
abbrev meant_by : Settings → Outcome → Option Code → Bool → Option Code → Outcome
meant_by s ready early mixed late = unless_refused s early (cond mixed (silent s unbuilt) (unless_refused s late ready))

by_code : (s : Settings) (ready : Outcome) (early : Option Code) (mixed : Bool) (late : Option Code) (code : Code) → judged early mixed late ≡ Some (why.Code code) → meant_by s ready early mixed late ≡ refused s code
by_code s ready (Some first) mixed late code e = let same : first ≡ code = cc in ap (λ (c : Code). refused s c) same
by_code s ready None true late code e = absurd cc
by_code s ready None false (Some last) code e = let same : last ≡ code = cc in ap (λ (c : Code). refused s c) same
by_code s ready None false None code e = absurd cc

by_unbuilt : (s : Settings) (ready : Outcome) (early : Option Code) (mixed : Bool) (late : Option Code) → judged early mixed late ≡ Some NotBuilt → meant_by s ready early mixed late ≡ silent s unbuilt
by_unbuilt s ready (Some first) mixed late e = absurd cc
by_unbuilt s ready None true late e = refl
by_unbuilt s ready None false (Some last) e = absurd cc
by_unbuilt s ready None false None e = absurd cc

by_none : (s : Settings) (ready : Outcome) (early : Option Code) (mixed : Bool) (late : Option Code) → judged early mixed late ≡ None → meant_by s ready early mixed late ≡ ready
by_none s ready (Some first) mixed late e = absurd cc
by_none s ready None true late e = absurd cc
by_none s ready None false (Some last) e = absurd cc
by_none s ready None false None e = refl

-- where a run is judged to pass, nothing refuses it
none_told : (early : Option Code) (mixed : Bool) (late : Option Code) → judged early mixed late ≡ None → (early ≡ None) × (mixed ≡ false) × (late ≡ None)
none_told (Some first) mixed late e = absurd cc
none_told None true late e = absurd cc
none_told None false (Some last) e = absurd cc
none_told None false None e = (refl, refl, refl)

-- a run is refused by a code, or since it is not built
abbrev IsJudgement : Refusal → Type 0
IsJudgement (why.Code code) = Unit {0}
IsJudgement NotBuilt = Unit {0}
IsJudgement r = ⊥

-- a run that is refused leaves all as it was
ends_whole : (s : Settings) (how : Way) (meant : Outcome) (sent : Option (List Piece)) → meant ≡ silent s how → EndsWhole how meant sent sent s
ends_whole s how meant sent is = record {
  way = ap (λ (o : Outcome). o.way) is;
  sent = sym (plus-nil sent) ∙ ap (λ (o : Outcome). plus sent o.pieces) (sym is);
  state_is = sym (ap (λ (o : Outcome). o.state) is);
}

never : (early : Option Code) (mixed : Bool) (late : Option Code) (r : Refusal) → judged early mixed late ≡ Some r → IsJudgement r
never (Some first) mixed late r e = subst (λ (o : Option Refusal). IfSome o IsJudgement) e tt
never None true late r e = subst (λ (o : Option Refusal). IfSome o IsJudgement) e tt
never None false (Some last) r e = subst (λ (o : Option Refusal). IfSome o IsJudgement) e tt
never None false None r e = absurd cc

-- what a run over a body in the settings means
run_over : (upto : Bool) (n : ℕ) (s : Settings) (b : Body) → s.body ≡ Some b → run upto n s ≡ meant_by s (run_ready upto n s b) (early_code upto n s b) (is_mixed s b) (late_code s b)
run_over upto n s b has = ap (λ (o : Option Body). run_in upto n s o) has

-- what a run means that nothing refuses, up to this last step
pub run_passes : (upto : Bool) (n : ℕ) (s : Settings) (b : Body) (last : ℕ) → s.body ≡ Some b → refusal_of upto n s b ≡ None → last ≡ last_step upto n b.step
    → run upto n s ≡ after_run s b (run_of (setting_of s b) s.output last b.step b.atoms s.output.uses)
run_passes upto n s b last has none ends =
    run_over upto n s b has
    ∙ by_none s (run_ready upto n s b) (early_code upto n s b) (is_mixed s b) (late_code s b) none
    ∙ ap (λ (k : ℕ). after_run s b (run_of (setting_of s b) s.output k b.step b.atoms s.output.uses)) (sym ends)

run_stops : (upto : Bool) (n : ℕ) (s : Settings) (b : Body) (r : Refusal) (sent : Option (List Piece)) → s.body ≡ Some b → Stops r (refusal_of upto n s b) → StoppedBy r (run upto n s) sent sent s
run_stops upto n s b (why.Code code) sent has told =
    ends_whole s (refuses code) (run upto n s) sent (run_over upto n s b has ∙ by_code s (run_ready upto n s b) (early_code upto n s b) (is_mixed s b) (late_code s b) code told)
run_stops upto n s b NotBuilt sent has told =
    ends_whole s unbuilt (run upto n s) sent (run_over upto n s b has ∙ by_unbuilt s (run_ready upto n s b) (early_code upto n s b) (is_mixed s b) (late_code s b) told)
run_stops upto n s b NoMemory sent has told = SendsFront-none sent (run upto n s).pieces
run_stops upto n s b (Range key step) sent has told = absurd (never (early_code upto n s b) (is_mixed s b) (late_code s b) (Range key step) told)
run_stops upto n s b ReadFault sent has told = absurd (never (early_code upto n s b) (is_mixed s b) (late_code s b) ReadFault told)
run_stops upto n s b WriteFault sent has told = absurd (never (early_code upto n s b) (is_mixed s b) (late_code s b) WriteFault told)
run_stops upto n s b DiskFault sent has told = absurd (never (early_code upto n s b) (is_mixed s b) (late_code s b) DiskFault told)

-- a run that is refused does what is meant, where the body is put back
pub does_stop : (upto : Bool) (n : ℕ) (s : Settings) (b : Body) (r : Refusal) (sent : Option (List Piece)) → s.body ≡ Some b → Stops r (refusal_of upto n s b) → Does {T = Unit {0}} (run upto n s) sent (Err r) sent (record s { body = Some b })
does_stop upto n s b r sent has told =
    let put_back : s ≡ record s { body = Some b } = ap (λ (o : Option Body). record s { body = o }) has in
    subst (λ (now : Settings). Does {T = Unit {0}} (run upto n s) sent (Err r) sent now) put_back
    record { goes_on = tt; sent = tt; after = tt; stopped = run_stops upto n s b r sent has told }

-- a code of a run tells of no file
no_absence : (a b : Bool) (x y code : Code) → is_absence x ≡ false → is_absence y ≡ false → cond a (Some x) (cond b (Some y) None) ≡ Some code → is_absence code ≡ false
no_absence true b x y code first last e = let same : x ≡ code = cc in ap is_absence (sym same) ∙ first
no_absence false true x y code first last e = let same : y ≡ code = cc in ap is_absence (sym same) ∙ last
no_absence false false x y code first last e = absurd cc

by_either : (early : Option Code) (mixed : Bool) (late : Option Code) (code : Code) → (early ≡ Some code → is_absence code ≡ false) → (late ≡ Some code → is_absence code ≡ false) → judged early mixed late ≡ Some (why.Code code) → is_absence code ≡ false
by_either (Some first) mixed late code here there e = let same : first ≡ code = cc in here (ap Some same)
by_either None true late code here there e = absurd cc
by_either None false (Some last) code here there e = let same : last ≡ code = cc in there (ap Some same)
by_either None false None code here there e = absurd cc

not_absence : (b : Bool) → b ≡ false → IsTrue b → ⊥
not_absence true e h = cc
not_absence false e h = cc

pub stops_rest : (upto : Bool) (n : ℕ) (s : Settings) (b : Body) (r : Refusal) (o : Outside) → Stops r (refusal_of upto n s b) → Rests r o o
stops_rest upto n s b (why.Code code) o told = λ absent.
    absurd (not_absence (is_absence code) (by_either (early_code upto n s b) (is_mixed s b) (late_code s b) code (no_absence _ _ BadValue Unset code refl refl) (no_absence _ _ EdgeTooSmall TwiceMoved code refl refl) told) absent)
stops_rest upto n s b NotBuilt o told = tt
stops_rest upto n s b NoMemory o told = tt
stops_rest upto n s b (Range key step) o told = absurd (never (early_code upto n s b) (is_mixed s b) (late_code s b) (Range key step) told)
stops_rest upto n s b ReadFault o told = absurd (never (early_code upto n s b) (is_mixed s b) (late_code s b) ReadFault told)
stops_rest upto n s b WriteFault o told = absurd (never (early_code upto n s b) (is_mixed s b) (late_code s b) WriteFault told)
stops_rest upto n s b DiskFault o told = absurd (never (early_code upto n s b) (is_mixed s b) (late_code s b) DiskFault told)

-- where no code is told: the last step is not behind, and all that a run rests on is set
not_one : (b : Bool) (code : Code) (rest : Option Code) → cond b (Some code) rest ≡ None → (b ≡ false) × (rest ≡ None)
not_one true code rest e = absurd cc
not_one false code rest e = (refl, e)

not_not : (b : Bool) → not b ≡ false → b ≡ true
not_not true e = refl
not_not false e = absurd cc

some_style : (o : Option ℤ) → not (is_none o) ≡ true → IsSome o
some_style None e = absurd cc
some_style (Some x) e = refl

none_small : (o : Option Axis) → is_none o ≡ true → o ≡ None
none_small None e = refl
none_small (Some x) e = absurd cc

pub is_all_ready : (upto : Bool) (n : ℕ) (s : Settings) (b : Body) → refusal_of upto n s b ≡ None → IsReady s b
is_all_ready upto n s b none =
    let told = none_told (early_code upto n s b) (is_mixed s b) (late_code s b) none in
    let all = both_true (not (is_none s.force.pair_style) && are_massive b.mass) (have_own (length b.mass) s.force.pairs) (not_not (is_ready s b) (not_one _ _ _ (not_one _ _ _ told.0).1).0) in
    let first = both_true (not (is_none s.force.pair_style)) (are_massive b.mass) all.0 in
    record {
      style = some_style s.force.pair_style first.0;
      massive = first.1;
      set = not_not (are_all_had (length b.mass) s.force.pairs) told.1;
      room = none_small _ (not_not (is_none (edge_too_small b.sides (pos (reach_of s.force) +ℤ s.force.skin))) (not_one _ _ _ told.2).0);
    }
