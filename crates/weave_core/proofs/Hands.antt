-- Where a piece is looked up, and where it isn't there.
use Rattle.std.proofs.Common.{◌≡◌, ℕ, zero, suc, ◌≤◌, Bool, true, false, cond, ◌||◌, List, [], ◌∷◌, length, get_or, ℤ, Option, Some, None, refl, sym, ap, ◌∙◌, subst, arith, nat_le, le-leb, slice_get, All}
use Rattle.std.proofs.lemmas.Option.{get_or_from_slice_get, slice_get_within}
use Rattle.weave_core.specs.declared.plan.Piece.{Piece}
use Rattle.weave_core.specs.declared.plan.Plan.{Plan}
use Rattle.weave_core.specs.declared.event.Hand.{Hand}
use Rattle.weave_core.specs.declared.event.Hand.TheVariants.{Free, Missed, Holds}
use Rattle.weave_core.specs.Machine.{IsAdd, IsPlan, piece_at, still, next_add, next_key}

get_none : {X : Type 0} (xs : List X) (i : ℕ) (d : X) → slice_get xs i ≡ None → get_or xs i d ≡ d
get_none [] i d none_there = refl
get_none (x ∷ xs) zero d none_there = absurd (cc)
get_none (x ∷ xs) (suc i) d none_there = get_none xs i d none_there

pub All-got : {X : Type 0} (P : X → Type 0) (xs : List X) (i : ℕ) (x : X) → All P xs → slice_get xs i ≡ Some x → P x
All-got P xs i x all got = subst P (get_or_from_slice_get xs i x x got) (all i x (slice_get_within xs i x got))

pub no_piece : (plan : Plan) (i : ℕ) → slice_get plan.pieces i ≡ None → piece_at plan i ≡ record { adds = []; key = None }
no_piece plan i none_there = get_none plan.pieces i (record { adds = []; key = None }) none_there

pub a_piece : (plan : Plan) (i : ℕ) (work : Piece) → slice_get plan.pieces i ≡ Some work → piece_at plan i ≡ work
a_piece plan i work found = get_or_from_slice_get plan.pieces i work (record { adds = []; key = None }) found

pub still-none : (plan : Plan) (i played : ℕ) (lowered : Bool) → slice_get plan.pieces i ≡ None → still plan i played lowered ≡ Free
still-none plan i played lowered none_there =
    let e = no_piece plan i none_there in
    let small : nat_le 0 played ≡ true = le-leb 0 played (omega arith) in
    rw e (rw small (either_way lowered))
  where
    either_way : (b : Bool) → cond (b || true) Free (Holds i played lowered) ≡ Free
    either_way true = refl
    either_way false = refl

pub next_key-none : (plan : Plan) (hand : Hand) (i played : ℕ) (lowered : Bool) → hand ≡ Holds i played lowered → lowered ≡ false → slice_get plan.pieces i ≡ None → next_key plan hand ≡ None
next_key-none plan hand i played lowered is yet none_there = let e = no_piece plan i none_there in rw is (rw yet (rw e refl))

pub next_key-found : (plan : Plan) (hand : Hand) (i played : ℕ) (lowered : Bool) (work : Piece) → hand ≡ Holds i played lowered → lowered ≡ false → slice_get plan.pieces i ≡ Some work → work.key ≡ next_key plan hand
next_key-found plan hand i played lowered work is yet found = let e = a_piece plan i work found in rw is (rw yet (rw e refl))

pub next_add-none : (plan : Plan) (hand : Hand) (i played : ℕ) (lowered : Bool) → hand ≡ Holds i played lowered → slice_get plan.pieces i ≡ None → next_add plan hand ≡ None
next_add-none plan hand i played lowered is none_there = let e = no_piece plan i none_there in rw is (rw e refl)

pub next_add-found : (plan : Plan) (hand : Hand) (i played : ℕ) (lowered : Bool) (work : Piece) → hand ≡ Holds i played lowered → slice_get plan.pieces i ≡ Some work → slice_get work.adds played ≡ next_add plan hand
next_add-found plan hand i played lowered work is found = let e = a_piece plan i work found in rw is (rw e refl)

pub get_past : {X : Type 0} (xs : List X) (i : ℕ) → length xs ≤ i → slice_get xs i ≡ None
get_past [] i past = refl
get_past (x ∷ xs) zero past = absurd (omega arith)
get_past (x ∷ xs) (suc i) past = get_past xs i (omega arith)

-- the next add of a plan's hand is to one of the plan's words
pub next_add-inside : (plan : Plan) (hand : Hand) (add : ℕ × ℤ) → IsPlan plan → next_add plan hand ≡ Some add → IsAdd plan.words add
next_add-inside plan Free add sound is = absurd (cc)
next_add-inside plan Missed add sound is = absurd (cc)
next_add-inside plan (Holds piece played lowered) add sound is = found (slice_get plan.pieces piece) refl
  where
    found : (o : Option Piece) → slice_get plan.pieces piece ≡ o → IsAdd plan.words add
    found None none_there = absurd (let e = no_piece plan piece none_there in let n : slice_get {X = ℕ × ℤ} [] played ≡ Some add = ap (λ (w : Piece). slice_get w.adds played) (sym e) ∙ is in some_nothing played n)
      where
        some_nothing : (k : ℕ) → slice_get {X = ℕ × ℤ} [] k ≡ Some add → ⊥
        some_nothing k e = cc
    found (Some work) there =
        let e = a_piece plan piece work there in
        let get : slice_get work.adds played ≡ Some add = ap (λ (w : Piece). slice_get w.adds played) (sym e) ∙ is in
        let each : All (IsAdd plan.words) work.adds = All-got (λ (w : Piece). All (IsAdd plan.words) w.adds) plan.pieces piece work sound there in
        All-got (IsAdd plan.words) work.adds played add each get
