-- How a call ends that is to send pieces and change the state, against its meaning.
use Rattle.std.specs.Prelude.{◌≡◌, OnOk, IfOk, IfErr, Option, Result, Ok, Err, List, []}
use Rattle.meaning.specs.declared.refusal.Refusal.{Refusal}
use Rattle.meaning.specs.declared.refusal.Refusal.TheVariants.{DiskFault, NoMemory, NotBuilt, Range, ReadFault, WriteFault}
use Rattle.meaning.specs.declared.refusal.Refusal.TheVariants as why
use Rattle.meaning.specs.declared.settings.Settings.{Settings}
use Rattle.meaning.specs.declared.uses.NameUse.{NameUse}
use Rattle.meaning.specs.declared.going.Going.{Going}
use Rattle.meaning.specs.declared.going.Going.TheVariants.{On, Quit}
use Rattle.meaning.specs.Outcome.{Outcome, Way, done, fails, goes, quits, refuses, silent, unbuilt}
use Rattle.meaning.specs.Shown.{Shown}
use Rattle.outside.specs.declared.press.Piece.{Piece}
use Rattle.outside.specs.declared.press.PutRefusal.{PutRefusal}
use Rattle.outside.specs.declared.press.PutRefusal.TheVariants as put
use Rattle.outside.specs.Sent.{plus, SendsCut, SendsFront}

-- why a command ends whose piece was not put
abbrev pub put_refusal : PutRefusal → Refusal
put_refusal put.Faulted = WriteFault
put_refusal put.NoMemory = NoMemory

-- where putting pieces stopped: a prefix of them was sent, and after a failure of the press the next one cut
abbrev pub PutStopped : PutRefusal → Option (List Piece) → List Piece → Option (List Piece) → Type 0
PutStopped put.Faulted old pieces new = SendsCut old pieces new
PutStopped put.NoMemory old pieces new = SendsFront old pieces new

-- a call shows a text: its pieces were sent and the uses are those after it, or sending stopped among them
pub record Shows {T : Type 0} (first : Shown) (old : Option (List Piece)) (result : Result T PutRefusal) (new : Option (List Piece)) (uses : List NameUse) : Type 0 where
  pub sent : OnOk result (new ≡ plus old first.pieces)
  pub used : OnOk result (uses ≡ first.uses)
  pub stopped : IfErr result (λ why. PutStopped why old first.pieces new)

-- a call that is to do what is meant ends by what is meant: all pieces were sent, and output goes on as is meant
pub record EndsBy (how : Way) (meant : Outcome) (old new : Option (List Piece)) (state : Settings) : Type 0 where
  pub way : meant.way ≡ how
  pub sent : new ≡ plus old meant.pieces
  pub output : state.output ≡ meant.state.output

-- the same where nothing of the state is lost: it is the one that is meant
pub record EndsWhole (how : Way) (meant : Outcome) (old new : Option (List Piece)) (state : Settings) : Type 0 where
  pub way : meant.way ≡ how
  pub sent : new ≡ plus old meant.pieces
  pub state_is : state ≡ meant.state

-- it ends by a refusal: by that which is meant; or by a fault or want of memory, with a prefix of the pieces
abbrev pub StoppedBy : Refusal → Outcome → Option (List Piece) → Option (List Piece) → Settings → Type 0
StoppedBy (why.Code code) meant old new state = EndsWhole (refuses code) meant old new state
StoppedBy (Range key step) meant old new state = EndsBy (fails key step) meant old new state
StoppedBy ReadFault meant old new state = SendsFront old meant.pieces new
StoppedBy WriteFault meant old new state = SendsCut old meant.pieces new
StoppedBy DiskFault meant old new state = SendsFront old meant.pieces new
StoppedBy NoMemory meant old new state = SendsFront old meant.pieces new
StoppedBy NotBuilt meant old new state = EndsWhole unbuilt meant old new state

-- a call does what a command means: it goes on, its pieces were sent and the state is the one after it; or it ends by a refusal
pub record Does {T : Type 0} (meant : Outcome) (old : Option (List Piece)) (result : Result T Refusal) (new : Option (List Piece)) (state : Settings) : Type 0 where
  pub goes_on : OnOk result (meant.way ≡ goes)
  pub sent : OnOk result (new ≡ plus old meant.pieces)
  pub after : OnOk result (state ≡ meant.state)
  pub stopped : IfErr result (λ why. StoppedBy why meant old new state)

-- the same of a call that answers whether the script goes on or quits
abbrev pub way_of : Going → Way
way_of On = goes
way_of Quit = quits

pub record Executes (meant : Outcome) (old : Option (List Piece)) (result : Result Going Refusal) (new : Option (List Piece)) (state : Settings) : Type 0 where
  pub goes_on : IfOk result (λ going. meant.way ≡ way_of going)
  pub sent : OnOk result (new ≡ plus old meant.pieces)
  pub after : OnOk result (state ≡ meant.state)
  pub stopped : IfErr result (λ why. StoppedBy why meant old new state)

-- a call that sends nothing ends by a refusal: by that which is meant, with the state that is meant; or by a fault of the shelf or want of memory
abbrev pub RefusesWith : Refusal → Outcome → Settings → Type 0
RefusesWith (why.Code code) meant new = meant ≡ silent new (refuses code)
RefusesWith (Range key step) meant new = ⊥
RefusesWith ReadFault meant new = meant.pieces ≡ []
RefusesWith WriteFault meant new = ⊥
RefusesWith DiskFault meant new = ⊥
RefusesWith NoMemory meant new = meant.pieces ≡ []
RefusesWith NotBuilt meant new = meant ≡ silent new unbuilt

-- a call that sends nothing does what a command means
abbrev pub Changes : {T : Type 0} → Outcome → Result T Refusal → Settings → Type 0
Changes meant (Ok x) new = meant ≡ done new
Changes meant (Err why) new = RefusesWith why meant new
