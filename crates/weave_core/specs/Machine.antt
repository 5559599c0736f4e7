-- The machine of workers: what each step does, and what every order of steps ends with.
use Rattle.std.specs.Prelude.{◌≡◌, ℕ, ◌+◌, ◌-◌, ◌%◌, ◌^◌, ◌<◌, ◌≤◌, min, Bool, true, false, ◌&&◌, ◌||◌, List, [], ◌∷◌, length, ℤ, Option, Some, None, is_none, unwrap_or, option_map, option_and_then, nat_lt, nat_le, if◌then◌else◌, slice_get, slice_index, slice_index_or, slice_set, replicate, unsigned_abs, All}
use Rattle.std.specs.Int.{cast_unsigned}
use mir.Syntax.{w64}
use Rattle.sums.specs.Totals.{total}
use Rattle.weave_core.specs.declared.plan.Piece.{Piece}
use Rattle.weave_core.specs.declared.plan.Plan.{Plan}
use Rattle.weave_core.specs.declared.event.Event.{Event}
use Rattle.weave_core.specs.declared.event.Event.TheVariants.{Claim, Add, Lower}
use Rattle.weave_core.specs.declared.event.Hand.{Hand}
use Rattle.weave_core.specs.declared.event.Hand.TheVariants.{Free, Missed, Holds}
use Rattle.weave_core.specs.declared.part.Part.{Part}
use Rattle.weave_core.specs.declared.limits.TheConstants.{SHARES, MAX_ADD, NO_KEY}
use Rattle.weave_core.specs.Parts.{total_at, least, fresh, claimed, added, lowered}
use Rattle.weave_core.specs.Agree.{Wraps, HoldEachBelow, Agree}

-- ---- plans

-- an add to one of so many words, of a magnitude that is allowed
pub record IsAdd (words : ℕ) (add : ℕ × ℤ) : Type 0 where
  pub inside : add.0 < words
  pub small : unsigned_abs add.1 ≤ MAX_ADD

-- each add of each piece is to one of the plan's words, of a magnitude that is allowed
abbrev pub IsPlan : Plan → Type 0
IsPlan plan = All (λ (piece : Piece). All (IsAdd plan.words) piece.adds) plan.pieces

-- the key of a piece, or what stands for no key
abbrev pub key_of : Piece → ℕ
key_of piece = unwrap_or piece.key NO_KEY

-- the piece of this number; past the end, one with nothing to do
abbrev pub piece_at : Plan → ℕ → Piece
piece_at plan number = slice_index_or plan.pieces number (record { adds = []; key = None })

-- ---- hands

-- whether so many adds and, where lowered, the key are all of a piece
abbrev pub is_played : Piece → ℕ → Bool → Bool
is_played piece played lowered = nat_le (length piece.adds) played && (lowered || is_none piece.key)

-- holding a piece, or nothing where all of the piece is played
abbrev pub still : Plan → ℕ → ℕ → Bool → Hand
still plan piece played lowered = if is_played (piece_at plan piece) played lowered then Free else Holds piece played lowered

-- after a claim that drew this number
abbrev pub drawn : Plan → ℕ → Hand
drawn plan number = if nat_lt number (length plan.pieces) then still plan number 0 false else Missed

-- the add to play next, if one is left
abbrev pub next_add : Plan → Hand → Option (ℕ × ℤ)
next_add plan Free = None
next_add plan Missed = None
next_add plan (Holds piece played lowered) = slice_get (piece_at plan piece).adds played

-- the key to play, if it is there and not yet played
abbrev pub next_key : Plan → Hand → Option ℕ
next_key plan Free = None
next_key plan Missed = None
next_key plan (Holds piece played lowered) = if lowered then None else (piece_at plan piece).key

-- after the next add, and after the key
abbrev pub past_add : Plan → Hand → Hand
past_add plan Free = Free
past_add plan Missed = Missed
past_add plan (Holds piece played lowered) = still plan piece (played + 1) lowered

abbrev pub past_key : Plan → Hand → Hand
past_key plan Free = Free
past_key plan Missed = Missed
past_key plan (Holds piece played lowered) = still plan piece played true

-- how many adds of the piece in hand are played
abbrev pub played_of : Hand → ℕ
played_of Free = 0
played_of Missed = 0
played_of (Holds piece played lowered) = played

-- whether a worker may claim, and whether a piece is in hand
abbrev pub is_free : Hand → Bool
is_free Free = true
is_free Missed = false
is_free (Holds piece played lowered) = false

abbrev pub is_missed : Hand → Bool
is_missed Free = false
is_missed Missed = true
is_missed (Holds piece played lowered) = false

abbrev pub is_holding : Hand → Bool
is_holding Free = false
is_holding Missed = false
is_holding (Holds piece played lowered) = true

-- ---- the machine

-- the plan, the counter of claims, the fault word, the force words and the workers' hands
pub record Machine : Type 0 where
  pub plan : Plan
  pub counter : ℕ
  pub fault : ℕ
  pub words : List ℕ
  pub hands : List Hand

-- at the start nothing is claimed and every word is 0
abbrev pub begin : Plan → ℕ → Machine
begin plan workers = record { plan = plan; counter = 0; fault = NO_KEY; words = replicate plan.words 0; hands = replicate workers Free }

-- the hand of a worker; who is no worker has nothing to do
abbrev pub hand_of : Machine → ℕ → Hand
hand_of m worker = slice_index_or m.hands worker Missed

-- the words after an add, modulo 2^64
abbrev pub with_add : List ℕ → ℕ × ℤ → List ℕ
with_add words add = slice_set words add.0 ((slice_index words add.0 + cast_unsigned w64 add.1) % 2 ^ 64)

-- the machine after an event, if the event is enabled
abbrev pub play : Machine → Event → Option Machine
play m (Claim worker) =
    if is_free (hand_of m worker) then Some (record m { counter = m.counter + 1; hands = slice_set m.hands worker (drawn m.plan m.counter) }) else None
play m (Add worker) =
    option_map (λ (add : ℕ × ℤ). record m { words = with_add m.words add; hands = slice_set m.hands worker (past_add m.plan (hand_of m worker)) }) (next_add m.plan (hand_of m worker))
play m (Lower worker) =
    option_map (λ (key : ℕ). record m { fault = min m.fault key; hands = slice_set m.hands worker (past_key m.plan (hand_of m worker)) }) (next_key m.plan (hand_of m worker))

-- the machine after all events, if each was enabled at its turn
abbrev pub play_all : Machine → List Event → Option Machine
play_all m [] = Some m
play_all m (event ∷ events) = option_and_then (λ n. play_all n events) (play m event)

-- no piece is in hand
abbrev pub IsDone : Machine → Type 0
IsDone m = All (λ hand. is_holding hand ≡ false) m.hands

-- ---- what the workers hold

-- at the start: each worker has a share, and the first has the rest
abbrev pub first_parts : ℕ → List Part
first_parts workers = fresh (SHARES - (workers - 1)) ∷ replicate (workers - 1) (fresh 1)

abbrev pub part_of : List Part → ℕ → Part
part_of parts worker = slice_index_or parts worker (fresh 0)

-- what they hold after an event that is enabled
abbrev pub gains : Machine → Event → List Part → List Part
gains m (Claim worker) parts = slice_set parts worker (claimed (length m.plan.pieces) (part_of parts worker) m.counter)
gains m (Add worker) parts =
    unwrap_or (option_map (λ (add : ℕ × ℤ). slice_set parts worker (added (part_of parts worker) add.0 add.1)) (next_add m.plan (hand_of m worker))) parts
gains m (Lower worker) parts =
    unwrap_or (option_map (λ (key : ℕ). slice_set parts worker (lowered (part_of parts worker) key)) (next_key m.plan (hand_of m worker))) parts

-- what they hold after all events
abbrev pub gains_all : Machine → List Event → List Part → List Part
gains_all m [] parts = parts
gains_all m (event ∷ events) parts = gains_all (unwrap_or (play m event) m) events (gains m event parts)

-- ---- the theorem

-- the words of the machine: the counter, the fault word, the force words
abbrev pub words_of : Machine → List ℕ
words_of m = m.counter ∷ m.fault ∷ m.words

-- Each piece of the plan is held once, each force word is the sum of all adds of the plan to it modulo 2^64,
-- and the fault word is the least key of all pieces.
pub record Ended (plan : Plan) (m : Machine) (parts : List Part) : Type 0 where
  pub pieces : HoldEachBelow (length plan.pieces) parts
  pub forces : (word : ℕ) → word < plan.words → Wraps (slice_index m.words word) (total (λ (piece : Piece). total_at word piece.adds) plan.pieces)
  pub fault : m.fault ≡ least key_of plan.pieces

-- Whatever events were played, each being enabled at its turn: the words agree with what the workers hold.
-- And once no piece is in hand and the counter has reached the number of pieces, all is done, each once.
abbrev pub OrderFree : Type 0
OrderFree =
    (plan : Plan) (workers : ℕ) (events : List Event) (m : Machine) → IsPlan plan → 0 < workers → workers ≤ SHARES
    → play_all (begin plan workers) events ≡ Some m
    → Agree (length plan.pieces) plan.words (words_of m) (gains_all (begin plan workers) events (first_parts workers))
    × (IsDone m → length plan.pieces ≤ m.counter → Ended plan m (gains_all (begin plan workers) events (first_parts workers)))
