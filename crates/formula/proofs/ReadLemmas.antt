-- The place at which a text is refused: what stands before it begins a formula, and with it no formula goes on.
use Rattle.std.proofs.Common.{⊎_elim, ◌-◌, ◌≡◌, ◌==◌, ◌+◌, ◌<◌, ◌≤◌, cond, nat_le, Bool, true, false, ℕ, zero, suc, Option, Ok, Err, Some, None, List, [], ◌∷◌, ◌++◌, length, take, arith, refl, sym, ap, ◌∙◌, subst}
use Rattle.formula.specs.declared.tree.Expr.{Expr}
use Rattle.formula.specs.declared.tree.Operator.{Operator}
use Rattle.formula.specs.declared.tree.Sign.{Sign}
use Rattle.formula.specs.declared.tree.Function.{Function}
use Rattle.formula.specs.declared.state.Frame.{Frame}
use Rattle.formula.specs.declared.state.Frame.TheVariants.{Group, Call, Signed, Left}
use Rattle.formula.specs.declared.state.State.{State}
use Rattle.formula.specs.declared.state.State.TheVariants.{Needs, Called, Has, Number, Word, Half}
use Rattle.formula.specs.Words.{is_word_front}
use Rattle.std.specs.Char.{is_ascii_digit}
use Rattle.std.proofs.lemmas.Bool.{eqb-true, leb-true}
use Rattle.fx_num.specs.Decimal.{read_number, decimal_of, decimal_units}
use Rattle.fx_num.specs.Rounding.{nearest_of}
use Rattle.formula.specs.Numbers.{is_number_front, begins_number}
use Rattle.formula.specs.Fronts.{reading, Begins}
use Rattle.formula.specs.Reading.{begins_pair, run, step, ok_or, finish, close, joined, signed, sign_of, is_blank, is_behind_power, after_need, after_call, after_operand, operated, operator_of, outside, second, pair_of, single_of, number_end, word_end}
use Rattle.formula.proofs.FrontLemmas.{Completes, need_completes, call_completes, has_completes, number_completes, half_completes}
use Rattle.formula.proofs.CloseLemmas.{first_true, second_true}
use Rattle.formula.proofs.WordFronts.{word_completes, either}

-- what is being read is a front of what it is read as
abbrev pub Sound : State → Type 0
Sound (Needs frames) = Unit {0}
Sound (Called frames place f) = Unit {0}
Sound (Has frames e) = Unit {0}
Sound (Number frames place text) = is_number_front text ≡ true
Sound (Word frames place word) = is_word_front word ≡ true
Sound (Half frames e place first) = begins_pair first ≡ true

completes : (at : ℕ) (s : State) → Sound s → Completes at s
completes at (Needs frames) sound = need_completes at frames
completes at (Called frames place f) sound = call_completes at frames place f
completes at (Has frames e) sound = has_completes at frames e
completes at (Number frames place text) sound = number_completes at frames place text sound
completes at (Word frames place word) sound = word_completes at frames place word sound
completes at (Half frames e place first) sound = half_completes at frames e place first sound

-- so is what stands behind one byte more
abbrev pub SoundNext : Option State → Type 0
SoundNext None = Unit {0}
SoundNext (Some s) = Sound s

either_next : (b : Bool) (x y : Option State) → (b ≡ true → SoundNext x) → (b ≡ false → SoundNext y) → SoundNext (cond b x y)
either_next true x y first second = first refl
either_next false x y first second = second refl

-- each digit, and a point, begin a decimal text
digit_front : (k : ℕ) → k < 10 → is_number_front ((48 + k) ∷ []) ≡ true
unfolding read_number decimal_of decimal_units nearest_of
digit_front zero below = refl
digit_front (suc zero) below = refl
digit_front (suc (suc zero)) below = refl
digit_front (suc (suc (suc zero))) below = refl
digit_front (suc (suc (suc (suc zero)))) below = refl
digit_front (suc (suc (suc (suc (suc zero))))) below = refl
digit_front (suc (suc (suc (suc (suc (suc zero)))))) below = refl
digit_front (suc (suc (suc (suc (suc (suc (suc zero))))))) below = refl
digit_front (suc (suc (suc (suc (suc (suc (suc (suc zero)))))))) below = refl
digit_front (suc (suc (suc (suc (suc (suc (suc (suc (suc zero))))))))) below = refl
digit_front (suc (suc (suc (suc (suc (suc (suc (suc (suc (suc k)))))))))) below = absurd (omega arith)

point_front : is_number_front (46 ∷ []) ≡ true
unfolding read_number decimal_of decimal_units nearest_of
point_front = refl

number_front : (c : ℕ) → begins_number c ≡ true → is_number_front (c ∷ []) ≡ true
number_front c begins = ⊎_elim digit point (either (is_ascii_digit c) (c == 46) begins)
  where
    point : (c == 46) ≡ true → is_number_front (c ∷ []) ≡ true
    point same = ap (λ (x : ℕ). is_number_front (x ∷ [])) (eqb-true c 46 same) ∙ point_front

    digit : is_ascii_digit c ≡ true → is_number_front (c ∷ []) ≡ true
    digit is =
        let low : 48 ≤ c = leb-true 48 c (first_true (nat_le 48 c) (nat_le c 57) is) in
        let high : c ≤ 57 = leb-true c 57 (second_true (nat_le 48 c) (nat_le c 57) is) in
        let back : 48 + (c - 48) ≡ c = omega arith in
        ap (λ (x : ℕ). is_number_front (x ∷ [])) (sym back) ∙ digit_front (c - 48) (omega arith)

sound_close : (frames : List Frame) (e : Expr) → SoundNext (close frames e)
sound_close [] e = tt
sound_close (Group ∷ frames) e = tt
sound_close (Call at f ∷ frames) e = tt
sound_close (Signed s ∷ frames) e = tt
sound_close (Left at o left ∷ frames) e = tt

sound_signed : (o : Option Sign) (frames : List Frame) → SoundNext (signed o frames)
sound_signed None frames = tt
sound_signed (Some s) frames = either_next (is_behind_power frames) None (Some (Needs (Signed s ∷ frames))) (λ e. tt) (λ e. tt)

sound_need : (at c : ℕ) (frames : List Frame) → SoundNext (after_need at c frames)
sound_need at c frames =
    either_next (is_blank c) _ _ (λ e. tt) (λ e. either_next (c == 40) _ _ (λ f. tt) (λ f. either_next (begins_number c) _ _ (λ n. number_front c n) (λ n. either_next (is_word_front (c ∷ [])) _ _ (λ w. w) (λ w. sound_signed (sign_of c) frames))))

sound_call : (c : ℕ) (frames : List Frame) (at : ℕ) (f : Function) → SoundNext (after_call c frames at f)
sound_call c frames at f = either_next (is_blank c) _ _ (λ e. tt) (λ e. either_next (c == 40) _ _ (λ g. tt) (λ g. tt))

sound_operated : (at : ℕ) (o : Option Operator) (frames : List Frame) (e : Expr) → SoundNext (operated at o frames e)
sound_operated at None frames e = tt
sound_operated at (Some o) frames e = tt

sound_operand : (at c : ℕ) (frames : List Frame) (e : Expr) → SoundNext (after_operand at c frames e)
sound_operand at c frames e =
    either_next (is_blank c) _ _ (λ b. tt) (λ b. either_next (c == 41) _ _ (λ f. sound_close (joined 0 frames e).0 (joined 0 frames e).1) (λ f. either_next (begins_pair c) _ _ (λ p. p) (λ p. sound_operated at (operator_of c) frames e)))

sound_outside : (at c : ℕ) (o : Option State) → SoundNext (outside at c o)
sound_outside at c None = tt
sound_outside at c (Some (Needs frames)) = sound_need at c frames
sound_outside at c (Some (Called frames place f)) = sound_call c frames place f
sound_outside at c (Some (Has frames e)) = sound_operand at c frames e
sound_outside at c (Some (Number frames place text)) = tt
sound_outside at c (Some (Word frames place word)) = tt
sound_outside at c (Some (Half frames e place first)) = tt

sound_second : (place : ℕ) (o : Option Operator) (frames : List Frame) (e : Expr) (next : Option State) → SoundNext next → SoundNext (second place o frames e next)
sound_second place None frames e next sound = sound
sound_second place (Some o) frames e next sound = tt

sound_step : (at c : ℕ) (s : State) → SoundNext (step at c s)
sound_step at c (Needs frames) = sound_need at c frames
sound_step at c (Called frames place f) = sound_call c frames place f
sound_step at c (Has frames e) = sound_operand at c frames e
sound_step at c (Number frames place text) = either_next (is_number_front (text ++ c ∷ [])) _ _ (λ f. f) (λ f. sound_outside at c (number_end frames place text))
sound_step at c (Word frames place word) = either_next (is_word_front (word ++ c ∷ [])) _ _ (λ f. f) (λ f. sound_outside at c (word_end frames place word))
sound_step at c (Half frames e place first) = sound_second place (pair_of first c) frames e (outside at c (operated place (single_of first) frames e)) (sound_outside at c (operated place (single_of first) frames e))

stays_sound : (at c : ℕ) (s t : State) → step at c s ≡ Some t → Sound t
stays_sound at c s t goes = subst SoundNext goes (sound_step at c s)

place_of : (at p : ℕ) (o : Option Expr) → ok_or at o ≡ Err p → p ≡ at
place_of at p None fails = cc
place_of at p (Some tree) fails = absurd (cc)

-- k bytes of the text begin a formula, one more does not
pub record IsFirst (at : ℕ) (s : State) (text : List ℕ) (p k : ℕ) : Type 0 where
  pub place : p ≡ at + k
  pub within : k ≤ length text
  pub rest : List ℕ
  pub tree : Expr
  pub begins : run at (take k text ++ rest) s ≡ Ok tree
  pub ends : k < length text → (more : List ℕ) (other : Expr) → run at (take (suc k) text ++ more) s ≡ Ok other → ⊥

pub record Refused (at : ℕ) (s : State) (text : List ℕ) (p : ℕ) : Type 0 where
  pub count : ℕ
  pub is_first : IsFirst at s text p count

one_more : (at c : ℕ) (s t : State) (text : List ℕ) (p k : ℕ) → step at c s ≡ Some t → IsFirst (at + 1) t text p k → IsFirst at s (c ∷ text) p (suc k)
one_more at c s t text p k goes f = record {
  place = omega (arith, f.place);
  within = omega (arith, f.within);
  rest = f.rest;
  tree = f.tree;
  begins = rw goes f.begins;
  ends = λ below more other reads. f.ends (omega arith) more other (rw goes at reads);
}

pub refused : (text : List ℕ) (at : ℕ) (s : State) (p : ℕ) → Sound s → run at text s ≡ Err p → Refused at s text p
refused [] at s p sound fails =
    let done = completes at s sound in
    let here : p ≡ at = place_of at p (finish s) fails in
    record {
      count = 0;
      is_first = record {
        place = omega arith;
        within = omega arith;
        rest = done.rest;
        tree = done.tree;
        begins = done.is_read;
        ends = λ below more other reads. absurd (omega arith);
      };
    }
refused (c ∷ text) at s p sound fails = by_step (step at c s) refl (refused text (at + 1))
  where
    by_step : (o : Option State) → step at c s ≡ o → ((t : State) (q : ℕ) → Sound t → run (at + 1) text t ≡ Err q → Refused (at + 1) t text q) → Refused at s (c ∷ text) p
    by_step None e again =
        let done = completes at s sound in
        let err : Err at ≡ Err p = rw e at fails in
        let here : p ≡ at = place_of at p None err in
        record {
          count = 0;
          is_first = record {
            place = omega arith;
            within = omega arith;
            rest = done.rest;
            tree = done.tree;
            begins = done.is_read;
            ends = λ below more other reads. (let no : Err at ≡ Ok other = rw e at reads in absurd (cc));
          };
        }
    by_step (Some t) e again =
        let r = again t p (stays_sound at c s t e) (rw e at fails) in
        record { count = suc r.count; is_first = one_more at c s t text p r.count e r.is_first }

-- the same of a whole text
first_place : (at count : ℕ) → at ≡ 0 + count → count ≡ at
first_place at count place = omega arith

pub refused_within : (text : List ℕ) (at : ℕ) → reading text ≡ Err at → at ≤ length text
refused_within text at fails =
    let r = refused text 0 (Needs []) at tt fails in
    omega (arith, r.is_first.place, r.is_first.within)

pub refused_before : (text : List ℕ) (at : ℕ) → reading text ≡ Err at → Begins (take at text)
refused_before text at fails =
    let r = refused text 0 (Needs []) at tt fails in
    let same : r.count ≡ at = first_place at r.count r.is_first.place in
    subst (λ (k : ℕ). Begins (take k text)) same (record { rest = r.is_first.rest; tree = r.is_first.tree; is_read = r.is_first.begins })

pub refused_behind : (text : List ℕ) (at : ℕ) → reading text ≡ Err at → at < length text → Begins (take (at + 1) text) → ⊥
refused_behind text at fails below b =
    let r = refused text 0 (Needs []) at tt fails in
    let same : at + 1 ≡ suc r.count = omega (arith, r.is_first.place) in
    let one : Begins (take (suc r.count) text) = subst (λ (k : ℕ). Begins (take k text)) same b in
    r.is_first.ends (omega (arith, r.is_first.place)) one.rest one.tree one.is_read
