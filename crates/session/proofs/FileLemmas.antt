-- Reading a data file: the name is judged, the file is fetched, and what it says is taken.
use Rattle.std.proofs.Common.{◌≡◌, ℕ, Bool, Option, None, Some, List, [], Result, Ok, Err, refl, sym, ap, subst, ◌∙◌, true, false}
use Rattle.std.proofs.lemmas.Bool.{false≢true}
use Rattle.std.specs.Prelude.{cond, is_some, IsErr, IsErrAnd}
use Rattle.data_file.specs.declared.fault.DataFault.{DataFault}
use Rattle.data_file.specs.Data.{Contents, data_of}
use Rattle.meaning.specs.declared.code.Code.{Code}
use Rattle.meaning.specs.declared.code.Code.TheVariants as code
use Rattle.meaning.specs.declared.refusal.Refusal.{Refusal}
use Rattle.meaning.specs.declared.refusal.Refusal.TheVariants as why
use Rattle.meaning.specs.declared.settings.Settings.{Settings}
use Rattle.meaning.specs.declared.uses.NameUse.{NameUse}
use Rattle.meaning.specs.declared.uses.UseKind.{UseKind}
use Rattle.meaning.specs.declared.uses.UseKind.TheVariants.{Fetched}
use Rattle.meaning.specs.Answers.{is_absence}
use Rattle.meaning.specs.Outcome.{Outcome, answered, done, goes, refused, refuses, unbuilt}
use Rattle.meaning.specs.Output.{with_uses}
use Rattle.meaning.specs.Sends.{Changes, RefusesWith}
use Rattle.meaning.specs.SystemFiles.{before_fetch, fetched, read_data, taken, used, with_data, with_file}
use Rattle.meaning.specs.Uses.{code_in, is_same_kind, kind_of, names, uncompressed, used_as, used_beside}
use Rattle.names.specs.Names.{is_compressed}
use Rattle.outside.specs.declared.files.File.{File}
use Rattle.outside.specs.declared.shelf.TheConstants.{MAX_FETCHED}
use Rattle.session.specs.Ends.{GetsFile}

goes_not_refuses : {why : Code} → goes ≡ refuses why → ⊥
goes_not_refuses {why} e = cc

goes_not_unbuilt : goes ≡ unbuilt → ⊥
goes_not_unbuilt e = cc

some_none : {why : Code} → Some why ≡ None → ⊥
some_none {why} e = cc

some_same : {a b : Code} → Some a ≡ Some b → a ≡ b
some_same {a} {b} e = cc

-- the code of a name is not that of a file that is missing
abbrev blames_file : Result (List NameUse) Code → Bool
blames_file (Ok uses) = false
blames_file (Err why) = is_absence why

beside_good : (kind : UseKind) (name : List ℕ) (uses : List NameUse) (old : Option UseKind) → blames_file (used_beside kind name uses old) ≡ false
beside_good kind name uses None = refl
beside_good kind name uses (Some old) =
    elim (is_same_kind kind old) as (λ b. blames_file (cond b (Ok uses) (Err code.NameUse)) ≡ false)
    [ true ↦ refl | false ↦ refl ]

uncompressed_good : (name : List ℕ) (r : Result (List NameUse) Code) → blames_file r ≡ false → blames_file (uncompressed name r) ≡ false
uncompressed_good name (Ok uses) h =
    elim (is_compressed name) as (λ b. blames_file (cond b (Err code.CompressedName) (Ok uses)) ≡ false)
    [ true ↦ refl | false ↦ refl ]
uncompressed_good name (Err why) h = h

code_good : (r : Result (List NameUse) Code) (why : Code) → blames_file r ≡ false → code_in r ≡ Some why → is_absence why ≡ false
code_good (Ok uses) why h e = cc
code_good (Err old) why h e = ap is_absence (sym (some_same e)) ∙ h

pub name_blames_none : (kind : UseKind) (name : List ℕ) (uses : List NameUse) (why : Code) → code_in (names kind name uses) ≡ Some why → is_absence why ≡ false
name_blames_none kind name uses why e =
    code_good (names kind name uses) why (uncompressed_good name (used_as kind name uses) (beside_good kind name uses (kind_of uses name))) e

-- nothing is sent
answered_silent : (s : Settings) (r : Result Settings Code) → (answered s r).pieces ≡ []
answered_silent s (Ok new) = refl
answered_silent s (Err why) = refl

data_silent : (s : Settings) (uses : List NameUse) (r : Result Contents (ℕ × DataFault)) → (with_data s uses r).pieces ≡ []
data_silent s uses (Ok c) = answered_silent s (used uses (taken c s))
data_silent s uses (Err line) = refl

file_silent : (s : Settings) (uses : List NameUse) (r : Result (List ℕ) Code) → (with_file s uses r).pieces ≡ []
file_silent s uses (Ok text) = data_silent s uses (data_of s.setup.style s.setup.periodic s.setup.dim text)
file_silent s uses (Err code) = refl

-- once the name is judged and there is no box, the file decides
before_is : (files : List File) (name : List ℕ) (s : Settings) (uses : List NameUse) → is_some s.body ≡ false → before_fetch files name s (Ok uses) ≡ with_file s uses (fetched MAX_FETCHED files name)
before_is files name s uses fresh =
    ap (λ (b : Bool). cond b (refused s code.BoxExists) (with_file s uses (fetched MAX_FETCHED files name))) fresh

-- what holds of reading the file under any uses holds of `read_data`, once the name is judged
judged : (files : List File) (name : List ℕ) (s : Settings) (P : Outcome → Type 0) (r : Result (List NameUse) Code) → code_in r ≡ None → is_some s.body ≡ false
    → ((uses : List NameUse) → P (with_file s uses (fetched MAX_FETCHED files name))) → P (before_fetch files name s r)
judged files name s P (Ok uses) good fresh h = subst P (sym (before_is files name s uses fresh)) (h uses)
judged files name s P (Err why) good fresh h = absurd (some_none good)

-- the file can't be fetched
stops_unfetched : (s : Settings) (uses : List NameUse) (r : Result (List ℕ) Code) (why : Refusal) → GetsFile r (Err why) → RefusesWith why (with_file s uses r) s
stops_unfetched s uses r (why.Code code) h = ap (with_file s uses) h
stops_unfetched s uses r (why.Range key step) h = absurd h
stops_unfetched s uses r why.ReadFault h = file_silent s uses r
stops_unfetched s uses r why.WriteFault h = absurd h
stops_unfetched s uses r why.DiskFault h = absurd h
stops_unfetched s uses r why.NoMemory h = file_silent s uses r
stops_unfetched s uses r why.NotBuilt h = absurd h

pub read_unfetched : (files : List File) (name : List ℕ) (s : Settings) (why : Refusal) → code_in (names Fetched name s.output.uses) ≡ None → is_some s.body ≡ false
    → GetsFile (fetched MAX_FETCHED files name) (Err why) → RefusesWith why (read_data files name s) s
read_unfetched files name s why good fresh h =
    judged files name s (λ (o : Outcome). RefusesWith why o s) (names Fetched name s.output.uses) good fresh
    (λ (uses : List NameUse). stops_unfetched s uses (fetched MAX_FETCHED files name) why h)

-- what the file says can't be taken: whatever the uses
answers_stop : (s : Settings) (u v : List NameUse) (t : Result Settings Code) (why : Refusal) (new : Settings) → RefusesWith why (answered s (used u t)) new → RefusesWith why (answered s (used v t)) new
answers_stop s u v (Err code) why new h = h
answers_stop s u v (Ok m) (why.Code code) new h = absurd (goes_not_refuses (ap (λ (o : Outcome). o.way) h))
answers_stop s u v (Ok m) (why.Range key step) new h = absurd h
answers_stop s u v (Ok m) why.ReadFault new h = refl
answers_stop s u v (Ok m) why.WriteFault new h = absurd h
answers_stop s u v (Ok m) why.DiskFault new h = absurd h
answers_stop s u v (Ok m) why.NoMemory new h = refl
answers_stop s u v (Ok m) why.NotBuilt new h = absurd (goes_not_unbuilt (ap (λ (o : Outcome). o.way) h))

data_stops : (s : Settings) (u v : List NameUse) (r : Result Contents (ℕ × DataFault)) (why : Refusal) (new : Settings) → RefusesWith why (with_data s u r) new → RefusesWith why (with_data s v r) new
data_stops s u v (Ok c) why new h = answers_stop s u v (taken c s) why new h
data_stops s u v (Err line) why new h = h

pub read_untaken : (files : List File) (name text : List ℕ) (s : Settings) (why : Refusal) (new : Settings) → code_in (names Fetched name s.output.uses) ≡ None → is_some s.body ≡ false
    → fetched MAX_FETCHED files name ≡ Ok text → RefusesWith why (with_data s s.output.uses (data_of s.setup.style s.setup.periodic s.setup.dim text)) new
    → RefusesWith why (read_data files name s) new
read_untaken files name text s why new good fresh got h =
    judged files name s (λ (o : Outcome). RefusesWith why o new) (names Fetched name s.output.uses) good fresh
    (λ (uses : List NameUse). subst (λ (r : Result (List ℕ) Code). RefusesWith why (with_file s uses r) new) (sym got)
    (data_stops s s.output.uses uses (data_of s.setup.style s.setup.periodic s.setup.dim text) why new h))

-- the file is fetched and then memory runs out
pub read_silent : (files : List File) (name : List ℕ) (s : Settings) → code_in (names Fetched name s.output.uses) ≡ None → is_some s.body ≡ false → (read_data files name s).pieces ≡ []
read_silent files name s good fresh =
    judged files name s (λ (o : Outcome). o.pieces ≡ []) (names Fetched name s.output.uses) good fresh
    (λ (uses : List NameUse). file_silent s uses (fetched MAX_FETCHED files name))

-- what the file says is taken, and then the name is used
answers_done : (s : Settings) (u v : List NameUse) (t : Result Settings Code) (new : Settings) → answered s (used u t) ≡ done new → answered s (used v t) ≡ done (with_uses new v)
answers_done s u v (Ok m) new h = ap (λ (o : Outcome). done (with_uses o.state v)) h
answers_done s u v (Err code) new h = absurd (goes_not_refuses (sym (ap (λ (o : Outcome). o.way) h)))

data_done : (s : Settings) (u v : List NameUse) (r : Result Contents (ℕ × DataFault)) (new : Settings) → with_data s u r ≡ done new → with_data s v r ≡ done (with_uses new v)
data_done s u v (Ok c) new h = answers_done s u v (taken c s) new h
data_done s u v (Err line) new h = absurd (goes_not_refuses (sym (ap (λ (o : Outcome). o.way) h)))

answers_uses : (s : Settings) (u : List NameUse) (t : Result Settings Code) (new : Settings) → answered s (used u t) ≡ done new → new.output.uses ≡ u
answers_uses s u (Ok m) new h = sym (ap (λ (o : Outcome). o.state.output.uses) h)
answers_uses s u (Err code) new h = absurd (goes_not_refuses (sym (ap (λ (o : Outcome). o.way) h)))

data_uses : (s : Settings) (u : List NameUse) (r : Result Contents (ℕ × DataFault)) (new : Settings) → with_data s u r ≡ done new → new.output.uses ≡ u
data_uses s u (Ok c) new h = answers_uses s u (taken c s) new h
data_uses s u (Err line) new h = absurd (goes_not_refuses (sym (ap (λ (o : Outcome). o.way) h)))

pub read_done : (files : List File) (name text : List ℕ) (s new : Settings) (uses : List NameUse) → is_some s.body ≡ false → fetched MAX_FETCHED files name ≡ Ok text
    → with_data s s.output.uses (data_of s.setup.style s.setup.periodic s.setup.dim text) ≡ done new → names Fetched name new.output.uses ≡ Ok uses
    → read_data files name s ≡ done (with_uses new uses)
read_done files name text s new uses fresh got done_is named =
    let contents : Result Contents (ℕ × DataFault) = data_of s.setup.style s.setup.periodic s.setup.dim text in
    let judged_is : names Fetched name s.output.uses ≡ Ok uses = ap (names Fetched name) (sym (data_uses s s.output.uses contents new done_is)) ∙ named in
    ap (before_fetch files name s) judged_is ∙ before_is files name s uses fresh ∙ ap (with_file s uses) got ∙ data_done s s.output.uses uses contents new done_is

-- an error that is passed on
pub changes_from : (r : Result Unit Refusal) (why : Refusal) (meant : Outcome) (new : Settings) → IsErr r → IsErrAnd r (λ (e : Refusal). e ≡ why) → RefusesWith why meant new → Changes meant r new
changes_from (Ok x) why meant new is same h = absurd (false≢true is)
changes_from (Err e) why meant new is same h = subst (λ (w : Refusal). RefusesWith w meant new) (sym same) h
