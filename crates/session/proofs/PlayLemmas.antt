-- A script's pieces, sent line by line.
use Rattle.std.proofs.Common.{◌≡◌, ◌≤◌, ◌<◌, ◌+◌, ◌-◌, ◌⊎◌, inl, inr, ℕ, suc, Option, Some, None, List, [], ◌∷◌, ◌++◌, Result, Ok, Err, IfErr, OnOk, refl, sym, ap, subst, ◌∙◌, arith}
use Rattle.std.proofs.lemmas.List.{append_assoc}
use Rattle.box_geo.specs.declared.limits.TheConstants.{MAX_LINES}
use Rattle.control_flow.specs.Flow.{FlowState, LineName}
use Rattle.log_output.specs.Errors.{budget_text, fault_text}
use Rattle.meaning.specs.declared.output.Output.{Output}
use Rattle.meaning.specs.declared.progress.Progress.{Progress}
use Rattle.meaning.specs.declared.refusal.Refusal.{Refusal}
use Rattle.meaning.specs.declared.refusal.Refusal.TheVariants as why
use Rattle.meaning.specs.declared.settings.Settings.{Settings}
use Rattle.meaning.specs.Flow.{Moved}
use Rattle.meaning.specs.Lines.{line_moved}
use Rattle.meaning.specs.Outcome.{Outcome, Way, exceeds, fails, goes, quits, refuses, refuses_at, unbuilt}
use Rattle.meaning.specs.Play.{Line, Played, after, begun, complete, ends_with, goes_by, next_line, play, played, played_after, played_line}
use Rattle.meaning.specs.Sends.{EndsBy, EndsWhole, StoppedBy}
use Rattle.outside.specs.declared.files.File.{File}
use Rattle.outside.specs.declared.press.Piece.{Piece}
use Rattle.outside.specs.Sent.{plus, SendsCut, SendsFront}
use Rattle.outside.specs.Stock.{Rose}
use Rattle.outside.proofs.Sending.{plus-nil, plus_after, SendsCut-after, SendsCut-more, SendsFront-after, SendsFront-more, SendsFront-none}
use Rattle.script_lines.specs.declared.words.RawWord.{RawWord}
use Rattle.session.specs.declared.status.Status.{Status}
use Rattle.session.specs.declared.status.Status.TheVariants as status
use Rattle.session.specs.declared.stops.Stop.{Stop}
use Rattle.session.specs.declared.stops.Stop.TheVariants as stop
use Rattle.session.specs.Ends.{EndsAs, EndsLine, EndsStop, IsAhead, IsTold, StatusCounted, line_status, lines_left, status_of, stop_status}
use Rattle.session.specs.Stops.{Reaches, StoppedAt}

-- all pieces of a first list were sent; then a call ends as what is left
pub sends_then : (state : Status) (old new : Option (List Piece)) {mid : Option (List Piece)} (ps : List Piece) (rest whole : Played) → whole.pieces ≡ ps ++ rest.pieces → whole.end ≡ rest.end → mid ≡ plus old ps → EndsAs state mid rest new → EndsAs state old whole new
sends_then status.ReadFault old new {mid} ps rest whole e f m h = subst (λ (qs : List Piece). SendsFront old qs new) (sym e) (SendsFront-after ps m h)
sends_then status.DiskFault old new {mid} ps rest whole e f m h = subst (λ (qs : List Piece). SendsFront old qs new) (sym e) (SendsFront-after ps m h)
sends_then status.NoMemory old new {mid} ps rest whole e f m h = subst (λ (qs : List Piece). SendsFront old qs new) (sym e) (SendsFront-after ps m h)
sends_then status.WriteFault old new {mid} ps rest whole e f m h = subst (λ (qs : List Piece). SendsCut old qs new) (sym e) (SendsCut-after ps m h)
sends_then status.Done old new {mid} ps rest whole e f m h = (ap status_of f ∙ h.0, plus_after old ps rest.pieces m h.1 ∙ ap (plus old) (sym e))
sends_then (status.ScriptRefused code file line) old new {mid} ps rest whole e f m h = (ap status_of f ∙ h.0, plus_after old ps rest.pieces m h.1 ∙ ap (plus old) (sym e))
sends_then (status.RangeFault key step) old new {mid} ps rest whole e f m h = (ap status_of f ∙ h.0, plus_after old ps rest.pieces m h.1 ∙ ap (plus old) (sym e))
sends_then (status.Usage place) old new {mid} ps rest whole e f m h = (ap status_of f ∙ h.0, plus_after old ps rest.pieces m h.1 ∙ ap (plus old) (sym e))
sends_then (status.Budget file line) old new {mid} ps rest whole e f m h = (ap status_of f ∙ h.0, plus_after old ps rest.pieces m h.1 ∙ ap (plus old) (sym e))
sends_then (status.NotBuilt file line) old new {mid} ps rest whole e f m h = (ap status_of f ∙ h.0, plus_after old ps rest.pieces m h.1 ∙ ap (plus old) (sym e))

-- a script that was sent up to here, and then ends as what is left
pub ahead_ends : (state : Status) (new : Option (List Piece)) {whole rest : Played} {old mid : Option (List Piece)} {a b : ℕ} → IsAhead whole old mid a b rest → EndsAs state mid rest new → EndsAs state old whole new
ahead_ends state new {whole} {rest} {old} {mid} h e = sends_then state old new h.sent rest whole h.pieces_are h.end_is h.now_is e

pub ahead_counted : {state : Status} {whole rest : Played} {old mid : Option (List Piece)} {a b c : ℕ} → IsAhead whole old mid a b rest → StatusCounted rest.pairs b state c → StatusCounted whole.pairs a state c
ahead_counted {state} {whole} {rest} {old} {mid} {a} {b} {c} h e = record { few = omega (arith, h.pairs_are, h.after_is, e.few); exact = λ done. omega (arith, h.pairs_are, h.after_is, e.exact done) }

-- before the first line nothing was sent
pub ahead_first : (whole : Played) (old : Option (List Piece)) (n : ℕ) → IsAhead whole old old n n whole
ahead_first whole old n = record { sent = []; pairs = 0; now_is = sym (plus-nil old); pieces_are = refl; end_is = refl; pairs_are = omega arith; after_is = omega arith }

-- the next line, and then as many as are left behind it
turn_unfolds : (files : List File) (n : ℕ) (s : Settings) (p : Progress) → played (suc n) files s p ≡ played_line files s p.flow (next_line p.flow p.pending) (played n files)
unfolding played
turn_unfolds files n s p = refl

turn_played : (files : List File) (s : Settings) (p : Progress) → p.flow.count ≤ MAX_LINES → played (lines_left p.flow) files s p ≡ played_line files s p.flow (next_line p.flow p.pending) (played (MAX_LINES - p.flow.count) files)
turn_played files s p few =
    let one : MAX_LINES + 1 - p.flow.count ≡ suc (MAX_LINES - p.flow.count) = omega (arith, few) in
    ap (λ (n : ℕ). played n files s p) one ∙ turn_unfolds files (MAX_LINES - p.flow.count) s p

-- the script goes on behind a line, or quits there
goes_next : (m : Moved) (at : LineName) (rest : Settings → Progress → Played) → m.outcome.way ≡ goes → played_after m at rest ≡ after m.outcome (rest m.outcome.state m.progress)
goes_next m at rest e = ap (λ (w : Way). after m.outcome (goes_by w m.outcome.state.output at (rest m.outcome.state m.progress))) e

goes_quit : (m : Moved) (at : LineName) (rest : Settings → Progress → Played) → m.outcome.way ≡ quits → played_after m at rest ≡ after m.outcome (ends_with complete)
goes_quit m at rest e = ap (λ (w : Way). after m.outcome (goes_by w m.outcome.state.output at (rest m.outcome.state m.progress))) e

-- a line more was carried out
after_more : (whole : Played) (o : Outcome) (rest : Played) {old mid new : Option (List Piece)} {a b c : ℕ} → IsAhead whole old mid a b (after o rest) → new ≡ plus mid o.pieces → c ≡ b + o.pairs → IsAhead whole old new a c rest
after_more whole o rest {old} {mid} {new} h m n =
    record {
      sent = h.sent ++ o.pieces;
      pairs = h.pairs + o.pairs;
      now_is = plus_after old h.sent o.pieces h.now_is m;
      pieces_are = h.pieces_are ∙ sym (append_assoc h.sent o.pieces rest.pieces);
      end_is = h.end_is;
      pairs_are = omega (arith, h.pairs_are);
      after_is = omega (arith, h.after_is, n);
    }

pub ahead_goes : (whole : Played) (m : Moved) (at : LineName) (rest : Settings → Progress → Played) (s : Settings) (p : Progress) {old mid new : Option (List Piece)} {a b c : ℕ} → IsAhead whole old mid a b (played_after m at rest) → m.outcome.way ≡ goes → new ≡ plus mid m.outcome.pieces → s ≡ m.outcome.state → p ≡ m.progress → c ≡ b + m.outcome.pairs → IsAhead whole old new a c (rest s p)
ahead_goes whole m at rest s p {old} {mid} {new} {a} {b} {c} h w sent e f n =
    subst (λ (t : Settings). IsAhead whole old new a c (rest t p)) (sym e)
    (subst (λ (q : Progress). IsAhead whole old new a c (rest m.outcome.state q)) (sym f)
    (after_more whole m.outcome (rest m.outcome.state m.progress) (subst (λ (q : Played). IsAhead whole old mid a b q) (goes_next m at rest w) h) sent n))

-- the script quits behind a line
pub quit_ends : (m : Moved) (at : LineName) (rest : Settings → Progress → Played) (mid : Option (List Piece)) {new : Option (List Piece)} → m.outcome.way ≡ quits → new ≡ plus mid m.outcome.pieces → EndsAs status.Done mid (played_after m at rest) new
quit_ends m at rest mid {new} w sent =
    subst (λ (p : Played). EndsAs status.Done mid p new) (sym (goes_quit m at rest w))
    (sends_then status.Done mid new m.outcome.pieces (ends_with complete) (after m.outcome (ends_with complete)) refl refl sent (refl, sym (plus-nil new)))

pub quit_counted : (m : Moved) (at : LineName) (rest : Settings → Progress → Played) {b c : ℕ} → m.outcome.way ≡ quits → c ≡ b + m.outcome.pairs → StatusCounted (played_after m at rest).pairs b status.Done c
quit_counted m at rest {b} {c} w n =
    subst (λ (p : Played). StatusCounted p.pairs b status.Done c) (sym (goes_quit m at rest w)) record { few = omega (arith, n); exact = λ e. omega (arith, n) }

-- the script ends at a line: behind the line of the error
told_ends : (o : Outcome) (way : Way) (at : LineName) (rest : Played) (s : Settings) (state : Status) (new : Option (List Piece)) {mid mid2 : Option (List Piece)} → EndsBy way o mid mid2 s → EndsAs state mid2 (goes_by way s.output at rest) new → EndsAs state mid (after o (goes_by o.way o.state.output at rest)) new
told_ends o way at rest s state new {mid} {mid2} h e =
    sends_then state mid new o.pieces (goes_by o.way o.state.output at rest) (after o (goes_by o.way o.state.output at rest)) refl refl h.sent
    (subst (λ (p : Played). EndsAs state mid2 p new) (ap (λ (u : Output). goes_by way u at rest) h.output ∙ ap (λ (w : Way). goes_by w o.state.output at rest) (sym h.way)) e)

whole_by : {how : Way} {o : Outcome} {mid mid2 : Option (List Piece)} {s : Settings} → EndsWhole how o mid mid2 s → EndsBy how o mid mid2 s
whole_by {how} {o} {mid} {mid2} {s} h = record { way = h.way; sent = h.sent; output = ap (λ (t : Settings). t.output) h.state_is }

front_ends : (o : Outcome) (rest : Played) (mid : Option (List Piece)) {mid2 new : Option (List Piece)} → SendsFront mid o.pieces mid2 → new ≡ mid2 → SendsFront mid (after o rest).pieces new
front_ends o rest mid {mid2} {new} h e = subst (λ (q : Option (List Piece)). SendsFront mid (o.pieces ++ rest.pieces) q) (sym e) (SendsFront-more rest.pieces h)

pub stop_ends : (why : Stop) (m : Moved) (at : LineName) (rest : Settings → Progress → Played) (s : Settings) (state : Status) (mid mid2 new : Option (List Piece)) → StoppedAt why m.outcome mid mid2 s → EndsStop why s.output at.file at.number state mid2 new → EndsAs state mid (played_after m at rest) new
stop_ends (stop.Command (why.Code code)) m at rest s state mid mid2 new h e = told_ends m.outcome (refuses code) at (rest m.outcome.state m.progress) s state new (whole_by h) e
stop_ends (stop.Command (why.Range key step)) m at rest s state mid mid2 new h e = told_ends m.outcome (fails key step) at (rest m.outcome.state m.progress) s state new h e
stop_ends (stop.Command why.NotBuilt) m at rest s state mid mid2 new h e = told_ends m.outcome unbuilt at (rest m.outcome.state m.progress) s state new (whole_by h) e
stop_ends (stop.Command why.ReadFault) m at rest s state mid mid2 new h e =
    subst (λ (t : Status). EndsAs t mid (played_after m at rest) new) (sym e.0) (front_ends m.outcome (goes_by m.outcome.way m.outcome.state.output at (rest m.outcome.state m.progress)) mid h e.1)
stop_ends (stop.Command why.WriteFault) m at rest s state mid mid2 new h e =
    subst (λ (t : Status). EndsAs t mid (played_after m at rest) new) (sym e.0)
    (subst (λ (q : Option (List Piece)). SendsCut mid (played_after m at rest).pieces q) (sym e.1) (SendsCut-more (goes_by m.outcome.way m.outcome.state.output at (rest m.outcome.state m.progress)).pieces h))
stop_ends (stop.Command why.DiskFault) m at rest s state mid mid2 new h e =
    subst (λ (t : Status). EndsAs t mid (played_after m at rest) new) (sym e.0) (front_ends m.outcome (goes_by m.outcome.way m.outcome.state.output at (rest m.outcome.state m.progress)) mid h e.1)
stop_ends (stop.Command why.NoMemory) m at rest s state mid mid2 new h e =
    subst (λ (t : Status). EndsAs t mid (played_after m at rest) new) (sym e.0) (front_ends m.outcome (goes_by m.outcome.way m.outcome.state.output at (rest m.outcome.state m.progress)) mid h e.1)
stop_ends (stop.Refused code file number) m at rest s state mid mid2 new h e = told_ends m.outcome (refuses_at code file number) at (rest m.outcome.state m.progress) s state new (whole_by h) e
stop_ends (stop.Budget file number) m at rest s state mid mid2 new h e = told_ends m.outcome (exceeds file number) at (rest m.outcome.state m.progress) s state new (whole_by h) e

-- at the start of the text
pub ahead_start : (files : List File) (file text : List ℕ) (s : Settings) (p : Progress) (old : Option (List Piece)) (n : ℕ) → p ≡ begun file text → IsAhead (play files file text s) old old n n (played (lines_left p.flow) files s p)
ahead_start files file text s p old n e =
    subst (λ (q : Progress). IsAhead (play files file text s) old old n n (played (lines_left q.flow) files s q)) (sym e) (ahead_first (play files file text s) old n)

-- no line is left
none_is : (files : List File) (s : Settings) (p : Progress) → p.flow.count ≤ MAX_LINES → next_line p.flow p.pending ≡ Ok None → played (lines_left p.flow) files s p ≡ ends_with complete
none_is files s p few e = turn_played files s p few ∙ ap (λ (t : Result (Option Line) Way). played_line files s p.flow t (played (MAX_LINES - p.flow.count) files)) e

pub none_ends : (files : List File) (s : Settings) (p : Progress) (sent : Option (List Piece)) → p.flow.count ≤ MAX_LINES → next_line p.flow p.pending ≡ Ok None → EndsAs status.Done sent (played (lines_left p.flow) files s p) sent
none_ends files s p sent few e = subst (λ (q : Played). EndsAs status.Done sent q sent) (sym (none_is files s p few e)) (refl, sym (plus-nil sent))

pub none_counted : (files : List File) (s : Settings) (p : Progress) (n : ℕ) → p.flow.count ≤ MAX_LINES → next_line p.flow p.pending ≡ Ok None → StatusCounted (played (lines_left p.flow) files s p).pairs n status.Done n
none_counted files s p n few e =
    subst (λ (q : Played). StatusCounted q.pairs n status.Done n) (sym (none_is files s p few e)) record { few = omega arith; exact = λ e. omega arith }

-- no line is reached
unreached_is : (files : List File) (s : Settings) (p : Progress) (way : Way) → p.flow.count ≤ MAX_LINES → next_line p.flow p.pending ≡ Err way → played (lines_left p.flow) files s p ≡ goes_by way s.output p.flow.last (ends_with complete)
unreached_is files s p way few e = turn_played files s p few ∙ ap (λ (t : Result (Option Line) Way). played_line files s p.flow t (played (MAX_LINES - p.flow.count) files)) e

unreached_by : (files : List File) (s : Settings) (p : Progress) (way : Way) (state : Status) (mid new : Option (List Piece)) → p.flow.count ≤ MAX_LINES → next_line p.flow p.pending ≡ Err way → EndsAs state mid (goes_by way s.output p.flow.last (ends_with complete)) new → EndsAs state mid (played (lines_left p.flow) files s p) new
unreached_by files s p way state mid new few e h = subst (λ (q : Played). EndsAs state mid q new) (sym (unreached_is files s p way few e)) h

pub unreached_ends : (files : List File) (s : Settings) (p next : Progress) (why : Stop) (state : Status) (mid new : Option (List Piece)) → p.flow.count ≤ MAX_LINES → Reaches (next_line p.flow p.pending) (Err why) next → EndsStop why s.output p.flow.last.file p.flow.last.number state mid new → EndsAs state mid (played (lines_left p.flow) files s p) new
unreached_ends files s p next (stop.Command (why.Code code)) state mid new few r e = unreached_by files s p (refuses code) state mid new few r e
unreached_ends files s p next (stop.Command (why.Range key step)) state mid new few r e = absurd r
unreached_ends files s p next (stop.Command why.NotBuilt) state mid new few r e = absurd r
unreached_ends files s p next (stop.Command why.ReadFault) state mid new few r e = absurd r
unreached_ends files s p next (stop.Command why.WriteFault) state mid new few r e = absurd r
unreached_ends files s p next (stop.Command why.DiskFault) state mid new few r e = absurd r
unreached_ends files s p next (stop.Command why.NoMemory) state mid new few r e =
    subst (λ (t : Status). EndsAs t mid (played (lines_left p.flow) files s p) new) (sym e.0)
    (subst (λ (q : Option (List Piece)). SendsFront mid (played (lines_left p.flow) files s p).pieces q) (sym e.1) (SendsFront-none mid (played (lines_left p.flow) files s p).pieces))
unreached_ends files s p next (stop.Refused code file number) state mid new few r e = unreached_by files s p (refuses_at code file number) state mid new few r e
unreached_ends files s p next (stop.Budget file number) state mid new few r e = unreached_by files s p (exceeds file number) state mid new few r e

pub unreached_counted : (whole : Played) (state : Status) (n : ℕ) → (state ≡ status.Done → ⊥) → StatusCounted whole.pairs n state n
unreached_counted whole state n not = record { few = omega arith; exact = λ e. absurd (not e) }

-- a line is reached
reached : List RawWord → Progress → Line
reached words p = record { words = words; progress = p }

pub line_ahead : (files : List File) (s : Settings) (p next : Progress) (words : List RawWord) {whole : Played} {old mid : Option (List Piece)} {a b : ℕ} → p.flow.count ≤ MAX_LINES → Reaches (next_line p.flow p.pending) (Ok (Some words)) next → IsAhead whole old mid a b (played (lines_left p.flow) files s p) → IsAhead whole old mid a b (played_after (line_moved files s next words) next.flow.last (played (MAX_LINES - p.flow.count) files))
line_ahead files s p next words {whole} {old} {mid} {a} {b} few r k =
    let is : played (lines_left p.flow) files s p ≡ played_after (line_moved files s next words) next.flow.last (played (MAX_LINES - p.flow.count) files) =
    turn_played files s p few ∙ ap (λ (t : Result (Option Line) Way). played_line files s p.flow t (played (MAX_LINES - p.flow.count) files)) r in
    subst (λ (q : Played). IsAhead whole old mid a b q) is k

-- a line fewer is left
pub fewer : (old new : FlowState) → old.count < MAX_LINES → new.count ≡ old.count + 1 → MAX_LINES - old.count ≡ lines_left new
fewer old new few one = omega (arith, few, one)

-- the terms of pairs up to a line at which the script ends
pub stop_counted : (m : Moved) (at : LineName) (rest : Settings → Progress → Played) (state : Status) {b c : ℕ} → c ≤ b + m.outcome.pairs → (state ≡ status.Done → ⊥) → StatusCounted (played_after m at rest).pairs b state c
stop_counted m at rest state {b} {c} h n = record { few = omega (arith, h); exact = λ e. absurd (n e) }

told_not_done : (meant result : Status) (w v : ℕ) → (status.Done ≡ meant → ⊥) → IsTold meant result w v → result ≡ status.Done → ⊥
told_not_done meant result w v n (inl e) d = n (sym d ∙ e.0)
told_not_done meant result w v n (inr (inl e)) d = let q : status.Done ≡ status.WriteFault = sym d ∙ e.0 in cc
told_not_done meant result w v n (inr (inr e)) d = let q : status.Done ≡ status.NoMemory = sym d ∙ e.0 in cc

line_not_done : (why : Refusal) (file : List ℕ) (n : ℕ) → status.Done ≡ line_status why file n → ⊥
line_not_done (why.Code code) file n e = cc
line_not_done (why.Range key step) file n e = cc
line_not_done why.ReadFault file n e = cc
line_not_done why.WriteFault file n e = cc
line_not_done why.DiskFault file n e = cc
line_not_done why.NoMemory file n e = cc
line_not_done why.NotBuilt file n e = cc

stop_status_not_done : (why : Stop) (file : List ℕ) (n : ℕ) → status.Done ≡ stop_status why file n → ⊥
stop_status_not_done (stop.Command why) file n e = line_not_done why file n e
stop_status_not_done (stop.Refused code other number) file n e = cc
stop_status_not_done (stop.Budget other number) file n e = cc

pub stop_not_done : (why : Stop) (file : List ℕ) (n : ℕ) (result : Status) (w v : ℕ) → IsTold (stop_status why file n) result w v → result ≡ status.Done → ⊥
stop_not_done why file n result w v = told_not_done (stop_status why file n) result w v (stop_status_not_done why file n)

-- at the start no line was run
pub begun_few : (file text : List ℕ) (p : Progress) → p ≡ begun file text → p.flow.count ≤ MAX_LINES
begun_few file text p e = let none : p.flow.count ≡ 0 = ap (λ (q : Progress). q.flow.count) e in omega (arith, none)
