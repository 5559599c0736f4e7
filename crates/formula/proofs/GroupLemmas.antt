-- What is read is grouped by the levels of its operators.
use Rattle.std.proofs.Common.{◌≡◌, ◌==◌, ◌+◌, ◌<◌, ◌≤◌, ◌&&◌, cond, nat_le, nat_lt, Bool, true, false, ℕ, suc, ℤ, Option, Ok, Err, Some, None, List, [], ◌∷◌, ◌++◌, arith, refl, sym, ap, ◌∙◌, subst}
use Rattle.std.proofs.lemmas.Bool.{leb-true, leb-false, le-leb, lt-ltb}
use Rattle.formula.specs.declared.tree.Expr.{Expr}
use Rattle.formula.specs.declared.tree.Expr.TheVariants as expr
use Rattle.formula.specs.declared.tree.Expr.TheOpen.{Expr-F}
use Rattle.formula.specs.declared.tree.Expr.TheFolds.{fold-roll-Expr}
use Rattle.formula.specs.declared.tree.Operator.{Operator}
use Rattle.formula.specs.declared.tree.Operator.TheVariants.{Or, And, Equal, NotEqual, Less, LessEqual, Greater, GreaterEqual, Add, Subtract, Multiply, Divide, Remainder, Power}
use Rattle.formula.specs.declared.tree.Sign.{Sign}
use Rattle.formula.specs.declared.tree.Function.{Function}
use Rattle.formula.specs.declared.state.Frame.{Frame}
use Rattle.formula.specs.declared.state.Frame.TheVariants.{Group, Call, Signed, Left}
use Rattle.formula.specs.declared.state.State.{State}
use Rattle.formula.specs.declared.state.State.TheVariants.{Needs, Called, Has, Number, Word, Half}
use Rattle.formula.specs.Words.{function_of, is_operand_name, is_word_front}
use Rattle.formula.specs.Numbers.{literal_of, is_number_front, begins_number}
use Rattle.formula.specs.Grammar.{Grouping, grouping, grouping_step, IsGrouped}
use Rattle.formula.specs.Reading.{level_of, begins_pair, run, step, ok_or, finish, complete, whole, ended, close, joined, with_operator, signed, sign_of, is_blank, is_behind_power, after_need, after_call, after_operand, operated, operator_of, outside, second, pair_of, single_of, number_end, word_end, literal, called_by}

-- a tree that is grouped and binds at least so tightly
pub record Tight (n : ℕ) (e : Expr) : Type 0 where
  pub holds : (grouping e).holds ≡ true
  pub binds : n ≤ (grouping e).level

both_true : (a b : Bool) → a ≡ true → b ≡ true → (a && b) ≡ true
both_true a b x y = rw x y

pub number_tight : (place : ℕ) (units : Option ℤ) → Tight 9 (expr.Number place units)
number_tight place units =
    let g : grouping (expr.Number place units) ≡ record { level = 9; holds = true } = ap grouping (sym (expr.rolls-Number place units)) ∙ fold-roll-Expr Grouping grouping_step (Expr-F.Number place units) in
    record { holds = ap (λ x. x.holds) g; binds = omega (arith, ap (λ x. x.level) g) }

named_tight : (place : ℕ) (name : List ℕ) → Tight 9 (expr.Named place name)
named_tight place name =
    let g : grouping (expr.Named place name) ≡ record { level = 9; holds = true } = ap grouping (sym (expr.rolls-Named place name)) ∙ fold-roll-Expr Grouping grouping_step (Expr-F.Named place name) in
    record { holds = ap (λ x. x.holds) g; binds = omega (arith, ap (λ x. x.level) g) }

group_tight : (inner : Expr) → (grouping inner).holds ≡ true → Tight 9 (expr.Group inner)
group_tight inner holds =
    let g : grouping (expr.Group inner) ≡ record { level = 9; holds = (grouping inner).holds } = ap grouping (sym (expr.rolls-Group inner)) ∙ fold-roll-Expr Grouping grouping_step (Expr-F.Group inner) in
    record { holds = ap (λ x. x.holds) g ∙ holds; binds = omega (arith, ap (λ x. x.level) g) }

call_tight : (place : ℕ) (f : Function) (inner : Expr) → (grouping inner).holds ≡ true → Tight 9 (expr.Call place f inner)
call_tight place f inner holds =
    let g : grouping (expr.Call place f inner) ≡ record { level = 9; holds = (grouping inner).holds } = ap grouping (sym (expr.rolls-Call place f inner)) ∙ fold-roll-Expr Grouping grouping_step (Expr-F.Call place f inner) in
    record { holds = ap (λ x. x.holds) g ∙ holds; binds = omega (arith, ap (λ x. x.level) g) }

signed_tight : (s : Sign) (inner : Expr) → Tight 7 inner → Tight 7 (expr.Signed s inner)
signed_tight s inner t =
    let g : grouping (expr.Signed s inner) ≡ record { level = 7; holds = (grouping inner).holds && nat_le 7 (grouping inner).level } = ap grouping (sym (expr.rolls-Signed s inner)) ∙ fold-roll-Expr Grouping grouping_step (Expr-F.Signed s inner) in
    record { holds = ap (λ x. x.holds) g ∙ both_true (grouping inner).holds (nat_le 7 (grouping inner).level) t.holds (le-leb 7 (grouping inner).level t.binds); binds = omega (arith, ap (λ x. x.level) g) }

binary_tight : (place : ℕ) (o : Operator) (left right : Expr) → Tight (level_of o) left → Tight (suc (level_of o)) right → Tight (level_of o) (expr.Binary place o left right)
binary_tight place o left right l r =
    let g : grouping (expr.Binary place o left right) ≡ record { level = level_of o; holds = (grouping left).holds && nat_le (level_of o) (grouping left).level && ((grouping right).holds && nat_lt (level_of o) (grouping right).level) } = ap grouping (sym (expr.rolls-Binary place o left right)) ∙ fold-roll-Expr Grouping grouping_step (Expr-F.Binary place o left right) in
    let first = both_true (grouping left).holds (nat_le (level_of o) (grouping left).level) l.holds (le-leb (level_of o) (grouping left).level l.binds) in
    let second = both_true (grouping right).holds (nat_lt (level_of o) (grouping right).level) r.holds (lt-ltb (level_of o) (grouping right).level r.binds) in
    record { holds = ap (λ x. x.holds) g ∙ both_true ((grouping left).holds && nat_le (level_of o) (grouping left).level) ((grouping right).holds && nat_lt (level_of o) (grouping right).level) first second; binds = omega (arith, ap (λ x. x.level) g) }

looser : (m n : ℕ) (e : Expr) → m ≤ n → Tight n e → Tight m e
looser m n e le t = record { holds = t.holds; binds = omega (arith, t.binds) }

-- an operand of a frame binds more tightly than this
abbrev pub floor : List Frame → ℕ
floor [] = 0
floor (Group ∷ frames) = 0
floor (Call at f ∷ frames) = 0
floor (Signed s ∷ frames) = 6
floor (Left at o left ∷ frames) = level_of o

-- between two parentheses, what stands further in binds more tightly
abbrev pub Rising : List Frame → Type 0
Rising [] = Unit {0}
Rising (Group ∷ frames) = Rising frames
Rising (Call at f ∷ frames) = Rising frames
Rising (Signed s ∷ frames) = (floor frames < 7) × Rising frames
Rising (Left at o left ∷ frames) = Tight (level_of o) left × (floor frames < level_of o) × Rising frames

pub level_bounds : (o : Operator) → (0 < level_of o) × (level_of o < 9)
level_bounds Or = (omega arith, omega arith)
level_bounds And = (omega arith, omega arith)
level_bounds Equal = (omega arith, omega arith)
level_bounds NotEqual = (omega arith, omega arith)
level_bounds Less = (omega arith, omega arith)
level_bounds LessEqual = (omega arith, omega arith)
level_bounds Greater = (omega arith, omega arith)
level_bounds GreaterEqual = (omega arith, omega arith)
level_bounds Add = (omega arith, omega arith)
level_bounds Subtract = (omega arith, omega arith)
level_bounds Multiply = (omega arith, omega arith)
level_bounds Divide = (omega arith, omega arith)
level_bounds Remainder = (omega arith, omega arith)
level_bounds Power = (omega arith, omega arith)

not_power : (o : Operator) → (level_of o == 8) ≡ false → level_of o < 7
not_power Or e = omega arith
not_power And e = omega arith
not_power Equal e = omega arith
not_power NotEqual e = omega arith
not_power Less e = omega arith
not_power LessEqual e = omega arith
not_power Greater e = omega arith
not_power GreaterEqual e = omega arith
not_power Add e = omega arith
not_power Subtract e = omega arith
not_power Multiply e = omega arith
not_power Divide e = omega arith
not_power Remainder e = omega arith
not_power Power e = absurd (cc)

floor_small : (frames : List Frame) → floor frames < 9
floor_small [] = omega arith
floor_small (Group ∷ frames) = omega arith
floor_small (Call at f ∷ frames) = omega arith
floor_small (Signed s ∷ frames) = omega arith
floor_small (Left at o left ∷ frames) = (level_bounds o).1

before_sign : (frames : List Frame) → is_behind_power frames ≡ false → floor frames < 7
before_sign [] e = omega arith
before_sign (Group ∷ frames) e = omega arith
before_sign (Call at f ∷ frames) e = omega arith
before_sign (Signed s ∷ frames) e = omega arith
before_sign (Left at o left ∷ frames) e = not_power o e

-- what joining leaves
pub record Joined (m : ℕ) (r : List Frame × Expr) : Type 0 where
  pub rising : Rising r.0
  pub tight : Tight m r.1
  pub inside : Tight (suc (floor r.0)) r.1
  pub stops : 0 < m → floor r.0 < m

joined_is : (m : ℕ) (frames : List Frame) (e : Expr) → Rising frames → Tight m e → Tight (suc (floor frames)) e → Joined m (joined m frames e)
joined_is m [] e rising tight inside = record { rising = tt; tight = tight; inside = inside; stops = λ some. some }
joined_is m (Group ∷ frames) e rising tight inside = record { rising = rising; tight = tight; inside = inside; stops = λ some. some }
joined_is m (Call at f ∷ frames) e rising tight inside = record { rising = rising; tight = tight; inside = inside; stops = λ some. some }
joined_is m (Signed s ∷ frames) e rising tight inside = by_test (nat_le m 7) refl (joined_is m frames (expr.Signed s e))
  where
    by_test : (b : Bool) → nat_le m 7 ≡ b → (Rising frames → Tight m (expr.Signed s e) → Tight (suc (floor frames)) (expr.Signed s e) → Joined m (joined m frames (expr.Signed s e))) → Joined m (cond b (joined m frames (expr.Signed s e)) (Signed s ∷ frames, e))
    by_test true le again =
        let whole = signed_tight s e inside in
        again rising.1 (looser m 7 (expr.Signed s e) (leb-true m 7 le) whole) (looser (suc (floor frames)) 7 (expr.Signed s e) rising.0 whole)
    by_test false more again = let above : 7 < m = leb-false m 7 more in record { rising = rising; tight = tight; inside = inside; stops = λ some. omega arith }
joined_is m (Left at o left ∷ frames) e rising tight inside = by_test (nat_le m (level_of o)) refl (joined_is m frames (expr.Binary at o left e))
  where
    by_test : (b : Bool) → nat_le m (level_of o) ≡ b → (Rising frames → Tight m (expr.Binary at o left e) → Tight (suc (floor frames)) (expr.Binary at o left e) → Joined m (joined m frames (expr.Binary at o left e))) → Joined m (cond b (joined m frames (expr.Binary at o left e)) (Left at o left ∷ frames, e))
    by_test true le again =
        let whole = binary_tight at o left e rising.0 inside in
        again rising.2 (looser m (level_of o) (expr.Binary at o left e) (leb-true m (level_of o) le) whole) (looser (suc (floor frames)) (level_of o) (expr.Binary at o left e) rising.1 whole)
    by_test false more again = record { rising = rising; tight = tight; inside = inside; stops = λ some. leb-false m (level_of o) more }

-- what is open behind an operator
with_operator_is : (at : ℕ) (o : Operator) (frames : List Frame) (e : Expr) → Rising frames → Tight 9 e → Rising (with_operator at o frames e)
with_operator_is at o frames e rising tight =
    let bounds = level_bounds o in
    let small = floor_small frames in
    let j = joined_is (level_of o) frames e rising (looser (level_of o) 9 e (omega (arith, bounds.1)) tight) (looser (suc (floor frames)) 9 e small tight) in
    (j.tight, j.stops bounds.0, j.rising)

-- what is known of a state
abbrev pub Good : State → Type 0
Good (Needs frames) = Rising frames
Good (Called frames at f) = Rising frames
Good (Has frames e) = Rising frames × Tight 9 e
Good (Number frames at text) = Rising frames
Good (Word frames at word) = Rising frames
Good (Half frames e at first) = Rising frames × Tight 9 e

abbrev pub GoodNext : Option State → Type 0
GoodNext None = Unit {0}
GoodNext (Some s) = Good s

either_next : (b : Bool) (x y : Option State) → (b ≡ true → GoodNext x) → (b ≡ false → GoodNext y) → GoodNext (cond b x y)
either_next true x y first second = first refl
either_next false x y first second = second refl

closed_is : (frames : List Frame) (e : Expr) → Rising frames → (grouping e).holds ≡ true → GoodNext (close frames e)
closed_is [] e rising holds = tt
closed_is (Group ∷ frames) e rising holds = (rising, group_tight e holds)
closed_is (Call at f ∷ frames) e rising holds = (rising, call_tight at f e holds)
closed_is (Signed s ∷ frames) e rising holds = tt
closed_is (Left at o left ∷ frames) e rising holds = tt

signed_is : (o : Option Sign) (frames : List Frame) → Rising frames → GoodNext (signed o frames)
signed_is None frames rising = tt
signed_is (Some s) frames rising = either_next (is_behind_power frames) None (Some (Needs (Signed s ∷ frames))) (λ e. tt) (λ e. (before_sign frames e, rising))

need_is : (at c : ℕ) (frames : List Frame) → Rising frames → GoodNext (after_need at c frames)
need_is at c frames rising =
    either_next (is_blank c) _ _ (λ e. rising) (λ e. either_next (c == 40) _ _ (λ f. rising) (λ f. either_next (begins_number c) _ _ (λ n. rising) (λ n. either_next (is_word_front (c ∷ [])) _ _ (λ w. rising) (λ w. signed_is (sign_of c) frames rising))))

call_is : (c : ℕ) (frames : List Frame) (at : ℕ) (f : Function) → Rising frames → GoodNext (after_call c frames at f)
call_is c frames at f rising = either_next (is_blank c) _ _ (λ e. rising) (λ e. either_next (c == 40) _ _ (λ g. rising) (λ g. tt))

operated_is : (at : ℕ) (o : Option Operator) (frames : List Frame) (e : Expr) → Rising frames → Tight 9 e → GoodNext (operated at o frames e)
operated_is at None frames e rising tight = tt
operated_is at (Some o) frames e rising tight = with_operator_is at o frames e rising tight

all_joined : (frames : List Frame) (e : Expr) → Rising frames → Tight 9 e → Joined 0 (joined 0 frames e)
all_joined frames e rising tight = joined_is 0 frames e rising (looser 0 9 e (omega arith) tight) (looser (suc (floor frames)) 9 e (floor_small frames) tight)

operand_is : (at c : ℕ) (frames : List Frame) (e : Expr) → Rising frames → Tight 9 e → GoodNext (after_operand at c frames e)
operand_is at c frames e rising tight =
    let j = all_joined frames e rising tight in
    either_next (is_blank c) _ _ (λ b. (rising, tight)) (λ b. either_next (c == 41) _ _ (λ f. closed_is (joined 0 frames e).0 (joined 0 frames e).1 j.rising j.tight.holds) (λ f. either_next (begins_pair c) _ _ (λ p. (rising, tight)) (λ p. operated_is at (operator_of c) frames e rising tight)))

literal_is : (o : Option (Option ℤ)) (frames : List Frame) (at : ℕ) → Rising frames → GoodNext (literal frames at o)
literal_is None frames at rising = tt
literal_is (Some units) frames at rising = (rising, number_tight at units)

called_is : (o : Option Function) (frames : List Frame) (at : ℕ) → Rising frames → GoodNext (called_by frames at o)
called_is None frames at rising = tt
called_is (Some f) frames at rising = rising

word_end_is : (frames : List Frame) (at : ℕ) (word : List ℕ) → Rising frames → GoodNext (word_end frames at word)
word_end_is frames at word rising = either_next (is_operand_name word) _ _ (λ e. (rising, named_tight at word)) (λ e. called_is (function_of word) frames at rising)

outside_is : (at c : ℕ) (o : Option State) → GoodNext o → GoodNext (outside at c o)
outside_is at c None good = tt
outside_is at c (Some (Needs frames)) good = need_is at c frames good
outside_is at c (Some (Called frames place f)) good = call_is c frames place f good
outside_is at c (Some (Has frames e)) good = operand_is at c frames e good.0 good.1
outside_is at c (Some (Number frames place text)) good = tt
outside_is at c (Some (Word frames place word)) good = tt
outside_is at c (Some (Half frames e place first)) good = tt

second_is : (place : ℕ) (o : Option Operator) (frames : List Frame) (e : Expr) (next : Option State) → Rising frames → Tight 9 e → GoodNext next → GoodNext (second place o frames e next)
second_is place None frames e next rising tight good = good
second_is place (Some o) frames e next rising tight good = with_operator_is place o frames e rising tight

step_is : (at c : ℕ) (s : State) → Good s → GoodNext (step at c s)
step_is at c (Needs frames) good = need_is at c frames good
step_is at c (Called frames place f) good = call_is c frames place f good
step_is at c (Has frames e) good = operand_is at c frames e good.0 good.1
step_is at c (Number frames place text) good = either_next (is_number_front (text ++ c ∷ [])) _ _ (λ f. good) (λ f. outside_is at c (number_end frames place text) (literal_is (literal_of text) frames place good))
step_is at c (Word frames place word) good = either_next (is_word_front (word ++ c ∷ [])) _ _ (λ f. good) (λ f. outside_is at c (word_end frames place word) (word_end_is frames place word good))
step_is at c (Half frames e place first) good = second_is place (pair_of first c) frames e (outside at c (operated place (single_of first) frames e)) good.0 good.1 (outside_is at c (operated place (single_of first) frames e) (operated_is place (single_of first) frames e good.0 good.1))

ended_is : (s : State) → Good s → GoodNext (ended s)
ended_is (Needs frames) good = good
ended_is (Called frames at f) good = good
ended_is (Has frames e) good = good
ended_is (Number frames at text) good = literal_is (literal_of text) frames at good
ended_is (Word frames at word) good = word_end_is frames at word good
ended_is (Half frames e at first) good = operated_is at (single_of first) frames e good.0 good.1

-- the tree that is answered
abbrev pub GoodTree : Option Expr → Type 0
GoodTree None = Unit {0}
GoodTree (Some tree) = IsGrouped tree

whole_is : (frames : List Frame) (e : Expr) → (grouping e).holds ≡ true → GoodTree (whole frames e)
whole_is [] e holds = holds
whole_is (frame ∷ frames) e holds = tt

complete_is : (o : Option State) → GoodNext o → GoodTree (complete o)
complete_is None good = tt
complete_is (Some (Has frames e)) good = let j = all_joined frames e good.0 good.1 in whole_is (joined 0 frames e).0 (joined 0 frames e).1 j.tight.holds
complete_is (Some (Needs frames)) good = tt
complete_is (Some (Called frames at f)) good = tt
complete_is (Some (Number frames at text)) good = tt
complete_is (Some (Word frames at word)) good = tt
complete_is (Some (Half frames e at first)) good = tt

found_tree : (at : ℕ) (o : Option Expr) (tree : Expr) → GoodTree o → ok_or at o ≡ Ok tree → IsGrouped tree
found_tree at None tree good is = absurd (cc)
found_tree at (Some t) tree good is = let same : t ≡ tree = cc in subst IsGrouped same good

pub run_is : (text : List ℕ) (at : ℕ) (s : State) (tree : Expr) → Good s → run at text s ≡ Ok tree → IsGrouped tree
run_is [] at s tree good is = found_tree at (finish s) tree (complete_is (ended s) (ended_is s good)) is
run_is (c ∷ text) at s tree good is = by_step (step at c s) refl (run_is text (at + 1))
  where
    by_step : (o : Option State) → step at c s ≡ o → ((t : State) (u : Expr) → Good t → run (at + 1) text t ≡ Ok u → IsGrouped u) → IsGrouped tree
    by_step None e again = let no : Err at ≡ Ok tree = rw e at is in absurd (cc)
    by_step (Some t) e again = again t tree (subst GoodNext e (step_is at c s good)) (rw e at is)
