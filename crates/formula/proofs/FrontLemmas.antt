-- Every state that can be reached goes on to some formula.
use Rattle.std.proofs.Common.{◌⊎◌, ◌≡◌, ◌==◌, ◌+◌, ◌||◌, nat_le, Bool, true, false, ℕ, zero, suc, ℤ, pos, Option, Ok, Some, None, List, [], ◌∷◌, ◌++◌, ⊎_elim, arith, refl, ap, ◌∙◌, inl, inr}
use Rattle.std.specs.Option.{is_some}
use Rattle.std.proofs.lemmas.Bool.{eqb-true, le-leb}
use Rattle.fx_num.specs.Decimal.{read_number, decimal_of, decimal_units}
use Rattle.fx_num.specs.Rounding.{nearest_of}
use Rattle.formula.specs.declared.tree.Expr.{Expr}
use Rattle.formula.specs.declared.tree.Expr.TheVariants as expr
use Rattle.formula.specs.declared.tree.Operator.{Operator}
use Rattle.formula.specs.declared.tree.Operator.TheVariants.{Or, And, Equal, NotEqual, LessEqual, GreaterEqual}
use Rattle.formula.specs.declared.tree.Sign.{Sign}
use Rattle.formula.specs.declared.tree.Function.{Function}
use Rattle.formula.specs.declared.state.Frame.{Frame}
use Rattle.formula.specs.declared.state.Frame.TheVariants.{Group, Call, Signed, Left}
use Rattle.formula.specs.declared.state.State.{State}
use Rattle.formula.specs.declared.state.State.TheVariants.{Needs, Called, Has, Number, Word, Half}
use Rattle.formula.specs.Words.{function_of, is_operand_name, is_word_front}
use Rattle.formula.specs.Numbers.{literal_of, is_there, is_number_front}
use Rattle.formula.specs.Reading.{level_of, begins_pair, pair_of, with_operator, run, step}
use Rattle.formula.proofs.CloseLemmas.{number_closed, word_closed, word_opened}

-- some text leads from a state at a place to a formula
pub record Completes (at : ℕ) (s : State) : Type 0 where
  pub rest : List ℕ
  pub tree : Expr
  pub is_read : run at rest s ≡ Ok tree

-- so many closing parentheses
closing : ℕ → List ℕ
closing zero = []
closing (suc n) = 41 ∷ closing n

-- how many parentheses are open
opened : List Frame → ℕ
opened [] = 0
opened (Group ∷ frames) = suc (opened frames)
opened (Call at f ∷ frames) = suc (opened frames)
opened (Signed s ∷ frames) = opened frames
opened (Left at o left ∷ frames) = opened frames

-- the tree that closing all of them gives
closed_tree : List Frame → Expr → Expr
closed_tree [] e = e
closed_tree (Group ∷ frames) e = closed_tree frames (expr.Group e)
closed_tree (Call at f ∷ frames) e = closed_tree frames (expr.Call at f e)
closed_tree (Signed s ∷ frames) e = closed_tree frames (expr.Signed s e)
closed_tree (Left at o left ∷ frames) e = closed_tree frames (expr.Binary at o left e)

past_sign : (n at : ℕ) (s : Sign) (frames : List Frame) (e : Expr) → run at (closing n) (Has (Signed s ∷ frames) e) ≡ run at (closing n) (Has frames (expr.Signed s e))
unfolding closing
past_sign zero at s frames e = refl
past_sign (suc n) at s frames e = refl

past_left : (n at place : ℕ) (o : Operator) (left : Expr) (frames : List Frame) (e : Expr) → run at (closing n) (Has (Left place o left ∷ frames) e) ≡ run at (closing n) (Has frames (expr.Binary place o left e))
unfolding closing
past_left zero at place o left frames e = let all : nat_le 0 (level_of o) ≡ true = le-leb 0 (level_of o) (omega arith) in rw all refl
past_left (suc n) at place o left frames e = let all : nat_le 0 (level_of o) ≡ true = le-leb 0 (level_of o) (omega arith) in rw all refl

closes : (frames : List Frame) (e : Expr) (at : ℕ) → run at (closing (opened frames)) (Has frames e) ≡ Ok (closed_tree frames e)
unfolding closing opened closed_tree
closes [] e at = refl
closes (Group ∷ frames) e at = closes frames (expr.Group e) (at + 1)
closes (Call place f ∷ frames) e at = closes frames (expr.Call place f e) (at + 1)
closes (Signed s ∷ frames) e at = past_sign (opened frames) at s frames e ∙ closes frames (expr.Signed s e) at
closes (Left place o left ∷ frames) e at = past_left (opened frames) at place o left frames e ∙ closes frames (expr.Binary place o left e) at

pub has_completes : (at : ℕ) (frames : List Frame) (e : Expr) → Completes at (Has frames e)
has_completes at frames e = record { rest = closing (opened frames); tree = closed_tree frames e; is_read = closes frames e at }

-- one byte more
pub steps_to : (at c : ℕ) (s t : State) → step at c s ≡ Some t → Completes (at + 1) t → Completes at s
steps_to at c s t goes done = record { rest = c ∷ done.rest; tree = done.tree; is_read = rw goes done.is_read }

-- a complete decimal text
number_ended : (n at place : ℕ) (text : List ℕ) (units : Option ℤ) (frames : List Frame) → literal_of text ≡ Some units → run at (closing n) (Number frames place text) ≡ run at (closing n) (Has frames (expr.Number place units))
unfolding closing
number_ended zero at place text units frames is = rw is refl
number_ended (suc n) at place text units frames is = let here : is_number_front (text ++ 41 ∷ []) ≡ false = number_closed text in rw here (rw is refl)

number_closes : (at : ℕ) (frames : List Frame) (place : ℕ) (text : List ℕ) (units : Option ℤ) → literal_of text ≡ Some units → Completes at (Number frames place text)
number_closes at frames place text units is =
    record { rest = closing (opened frames); tree = closed_tree frames (expr.Number place units); is_read = number_ended (opened frames) at place text units frames is ∙ closes frames (expr.Number place units) at }

-- a decimal text that is complete, or is so with a digit more
pub number_completes : (at : ℕ) (frames : List Frame) (place : ℕ) (text : List ℕ) → is_number_front text ≡ true → Completes at (Number frames place text)
number_completes at frames place text front = now (literal_of text) refl
  where
    later : (o : Option (Option ℤ)) → literal_of (text ++ 48 ∷ []) ≡ o → is_there o ≡ true → Completes at (Number frames place text)
    later None e some = absurd (cc)
    later (Some units) e some =
        let more : is_there (literal_of (text ++ 48 ∷ [])) ≡ true = ap is_there e in
        let goes : is_number_front (text ++ 48 ∷ []) ≡ true = rw more refl in
        steps_to at 48 (Number frames place text) (Number frames place (text ++ 48 ∷ [])) (rw goes refl) (number_closes (at + 1) frames place (text ++ 48 ∷ []) units e)

    now : (o : Option (Option ℤ)) → literal_of text ≡ o → Completes at (Number frames place text)
    now (Some units) e = number_closes at frames place text units e
    now None e = later (literal_of (text ++ 48 ∷ [])) refl (rw e at front)

-- where an operand is wanted, 0 may stand
zero_is : literal_of (48 ∷ []) ≡ Some (Some (pos 0))
unfolding read_number decimal_of decimal_units nearest_of
zero_is = refl

pub need_completes : (at : ℕ) (frames : List Frame) → Completes at (Needs frames)
need_completes at frames =
    steps_to at 48 (Needs frames) (Number frames at (48 ∷ [])) refl (number_closes (at + 1) frames at (48 ∷ []) (Some (pos 0)) zero_is)

-- behind the name of a function, its parenthesis
pub call_completes : (at : ℕ) (frames : List Frame) (place : ℕ) (f : Function) → Completes at (Called frames place f)
call_completes at frames place f = steps_to at 40 (Called frames place f) (Needs (Call place f ∷ frames)) refl (need_completes (at + 1) (Call place f ∷ frames))

-- behind the first byte of an operator of two
pair_completes : (at : ℕ) (frames : List Frame) (e : Expr) (place first c : ℕ) (o : Operator) → pair_of first c ≡ Some o → Completes at (Half frames e place first)
pair_completes at frames e place first c o pair =
    steps_to at c (Half frames e place first) (Needs (with_operator place o frames e)) (rw pair refl) (need_completes (at + 1) (with_operator place o frames e))

either : (a b : Bool) → (a || b) ≡ true → (a ≡ true) ⊎ (b ≡ true)
either true b some = inl refl
either false b some = inr some

pub half_completes : (at : ℕ) (frames : List Frame) (e : Expr) (place first : ℕ) → begins_pair first ≡ true → Completes at (Half frames e place first)
half_completes at frames e place first begins = last (either ((first == 60) || (first == 62) || (first == 61) || (first == 33) || (first == 38)) (first == 124) begins)
  where
    with : (n c : ℕ) (o : Operator) → pair_of n c ≡ Some o → (first == n) ≡ true → Completes at (Half frames e place first)
    with n c o pair same = pair_completes at frames e place first c o (ap (λ (x : ℕ). pair_of x c) (eqb-true first n same) ∙ pair)

    second : ((first == 60) ≡ true) ⊎ ((first == 62) ≡ true) → Completes at (Half frames e place first)
    second c = ⊎_elim (λ same. with 60 61 LessEqual refl same) (λ same. with 62 61 GreaterEqual refl same) c

    third : (((first == 60) || (first == 62)) ≡ true) ⊎ ((first == 61) ≡ true) → Completes at (Half frames e place first)
    third c = ⊎_elim (λ more. second (either (first == 60) (first == 62) more)) (λ same. with 61 61 Equal refl same) c

    fourth : (((first == 60) || (first == 62) || (first == 61)) ≡ true) ⊎ ((first == 33) ≡ true) → Completes at (Half frames e place first)
    fourth c = ⊎_elim (λ more. third (either ((first == 60) || (first == 62)) (first == 61) more)) (λ same. with 33 61 NotEqual refl same) c

    fifth : (((first == 60) || (first == 62) || (first == 61) || (first == 33)) ≡ true) ⊎ ((first == 38) ≡ true) → Completes at (Half frames e place first)
    fifth c = ⊎_elim (λ more. fourth (either ((first == 60) || (first == 62) || (first == 61)) (first == 33) more)) (λ same. with 38 38 And refl same) c

    last : (((first == 60) || (first == 62) || (first == 61) || (first == 33) || (first == 38)) ≡ true) ⊎ ((first == 124) ≡ true) → Completes at (Half frames e place first)
    last c = ⊎_elim (λ more. fifth (either ((first == 60) || (first == 62) || (first == 61) || (first == 33)) (first == 38) more)) (λ same. with 124 124 Or refl same) c

-- a word that is an operand
name_ended : (n at place : ℕ) (word : List ℕ) (frames : List Frame) → is_operand_name word ≡ true → run at (closing n) (Word frames place word) ≡ run at (closing n) (Has frames (expr.Named place word))
unfolding closing
name_ended zero at place word frames is = rw is refl
name_ended (suc n) at place word frames is = let here : is_word_front (word ++ 41 ∷ []) ≡ false = word_closed word in rw here (rw is refl)

name_completes : (at : ℕ) (frames : List Frame) (place : ℕ) (word : List ℕ) → is_operand_name word ≡ true → Completes at (Word frames place word)
name_completes at frames place word is =
    record { rest = closing (opened frames); tree = closed_tree frames (expr.Named place word); is_read = name_ended (opened frames) at place word frames is ∙ closes frames (expr.Named place word) at }

-- the name of a function
function_completes : (at : ℕ) (frames : List Frame) (place : ℕ) (word : List ℕ) (f : Function) → is_operand_name word ≡ false → function_of word ≡ Some f → Completes at (Word frames place word)
function_completes at frames place word f other is =
    let here : is_word_front (word ++ 40 ∷ []) ≡ false = word_opened word in
    steps_to at 40 (Word frames place word) (Needs (Call place f ∷ frames)) (rw here (rw other (rw is refl))) (need_completes (at + 1) (Call place f ∷ frames))

abbrev pub whole_word : List ℕ → Bool
whole_word word = is_operand_name word || is_some (function_of word)

pub whole_completes : (at : ℕ) (frames : List Frame) (place : ℕ) (word : List ℕ) → whole_word word ≡ true → Completes at (Word frames place word)
whole_completes at frames place word is = named (is_operand_name word) refl
  where
    called : (o : Option Function) → function_of word ≡ o → is_operand_name word ≡ false → is_some o ≡ true → Completes at (Word frames place word)
    called None e other some = absurd (cc)
    called (Some f) e other some = function_completes at frames place word f other e

    named : (b : Bool) → is_operand_name word ≡ b → Completes at (Word frames place word)
    named true e = name_completes at frames place word e
    named false e = called (function_of word) refl e (rw e at is)
