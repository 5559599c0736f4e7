-- Every front of a decimal text is one, or is one with a digit more.
use Rattle.std.proofs.Common.{◌⊎◌, ◌≡◌, ◌+◌, ◌<◌, ◌≤◌, Bool, true, false, ℕ, zero, suc, ℤ, pos, Option, Some, List, [], ◌∷◌, ◌++◌, length, ⊎_elim, arith, refl, sym, ap, ◌∙◌, subst, inl, inr, append_assoc, append-nil}
use Rattle.std.specs.Char.{is_ascii_digit}
use Rattle.std.specs.List.{list_all, AllPass}
use Rattle.std.specs.Str.Parse.{digits_value}
use Rattle.std.proofs.lemmas.List.{length-append}
use Rattle.std.proofs.lemmas.List.Folds.{list_all-append}
use Rattle.std.proofs.lemmas.List.Sums.{AllPass-from_list_all, list_all-from_AllPass}
use Rattle.fx_num.specs.Rounding.{nearest_of, with_sign}
use Rattle.fx_num.specs.Decimal.{Decimal, IsDecimalText, IsSign, IsPoint, IsExponent, WritesExponent, decimal_of, decimal_units, digits_of, read_number, significant}
use Rattle.fx_num.proofs.DecimalLemmas.{significant-append_some}
use Rattle.formula.specs.Numbers.{literal_of, is_there, begins_number, is_number_front}
use Rattle.formula.specs.Spelling.{is_unsigned}
use Rattle.formula.proofs.CloseLemmas.{first_true}
use Rattle.formula.proofs.NumberLemmas.{formed, there}
use Rattle.formula.proofs.WordFronts.{or_true, first_byte, other_bytes}

-- two ways to cut a text: the first front lies within the second, or goes beyond it
data Cut (p q a b : List ℕ) : Type 0 where
  within : (r : List ℕ) → a ≡ p ++ r → q ≡ r ++ b → Cut p q a b
  beyond : (r : List ℕ) → p ≡ a ++ r → b ≡ r ++ q → Cut p q a b

cut : (p q a b : List ℕ) → p ++ q ≡ a ++ b → Cut p q a b
cut [] q a b e = within a refl e
cut (x ∷ p) q [] b e = beyond (x ∷ p) refl (sym e)
cut (x ∷ p) q (y ∷ a) b e = one_more (cut p q a b (other_bytes x y (p ++ q) (a ++ b) e))
  where
    same : x ≡ y
    same = first_byte x y (p ++ q) (a ++ b) e

    one_more : Cut p q a b → Cut (x ∷ p) q (y ∷ a) b
    one_more (within r in_p in_q) = within r (ap (λ t. y ∷ t) in_p ∙ ap (λ (z : ℕ). z ∷ (p ++ r)) (sym same)) in_q
    one_more (beyond r in_p in_b) = beyond r (ap (λ t. x ∷ t) in_p ∙ ap (λ (z : ℕ). z ∷ (a ++ r)) same) in_b

-- what holds of a text's bytes holds of its fronts'
all_front : (p r : List ℕ) → AllPass is_ascii_digit (p ++ r) → AllPass is_ascii_digit p
all_front p r all = AllPass-from_list_all is_ascii_digit p (first_true (list_all is_ascii_digit p) (list_all is_ascii_digit r) (sym (list_all-append is_ascii_digit p r) ∙ list_all-from_AllPass is_ascii_digit (p ++ r) all))

fewer : (ds es : List ℕ) → significant ds ≤ significant (ds ++ es)
fewer ds es = by_count (significant ds) refl
  where
    by_count : (n : ℕ) → significant ds ≡ n → significant ds ≤ significant (ds ++ es)
    by_count zero e = omega (arith, e)
    by_count (suc n) e = omega (arith, e, significant-append_some ds es (omega (arith, e)))

-- a decimal text without a sign
abbrev pub unsigned_of : List ℕ → List ℕ → ℤ → Decimal
unsigned_of whole fraction exponent = record { negative = false; whole = whole; fraction = fraction; exponent = exponent }

unsigned_text : (whole point fraction exponent : List ℕ) (e : ℤ) → AllPass is_ascii_digit whole → IsPoint fraction point → AllPass is_ascii_digit fraction → IsExponent e exponent → 0 < length whole + length fraction → IsDecimalText (whole ++ (point ++ (fraction ++ exponent))) (unsigned_of whole fraction e)
unsigned_text whole point fraction exponent e whole_digits pointed fraction_digits written some = record {
  sign = [];
  point = point;
  exponent = exponent;
  is_text = refl;
  is_sign = inl refl;
  whole_digits = whole_digits;
  is_point = pointed;
  fraction_digits = fraction_digits;
  is_exponent = written;
  some_digit = some;
}

now_front : (text : List ℕ) (d : Decimal) → IsDecimalText text d → significant (digits_of d) ≤ 24 → is_number_front text ≡ true
now_front text d form few = let is : is_there (literal_of text) ≡ true = there text d form few in rw is refl

later_front : (text : List ℕ) (d : Decimal) → IsDecimalText (text ++ 48 ∷ []) d → significant (digits_of d) ≤ 24 → is_number_front text ≡ true
later_front text d form few = or_true (is_there (literal_of text)) (is_there (literal_of (text ++ 48 ∷ []))) (there (text ++ 48 ∷ []) d form few)

point_front : is_number_front (46 ∷ []) ≡ true
unfolding read_number decimal_of decimal_units nearest_of
point_front = refl

-- digits, and a point among them or behind
short_literal : (whole point fraction : List ℕ) → AllPass is_ascii_digit whole → IsPoint fraction point → AllPass is_ascii_digit fraction → significant (whole ++ fraction) ≤ 24 → 0 < length whole + length fraction → is_number_front (whole ++ (point ++ fraction)) ≡ true
short_literal whole point fraction whole_digits pointed fraction_digits few some =
    let text : whole ++ (point ++ (fraction ++ [])) ≡ whole ++ (point ++ fraction) = ap (λ t. whole ++ (point ++ t)) (append-nil fraction) in
    subst (λ t. is_number_front t ≡ true) text (now_front (whole ++ (point ++ (fraction ++ []))) (unsigned_of whole fraction (pos 0)) (unsigned_text whole point fraction [] (pos 0) whole_digits pointed fraction_digits (inl (refl, refl)) some) few)

short_front : (whole point fraction : List ℕ) → AllPass is_ascii_digit whole → IsPoint fraction point → AllPass is_ascii_digit fraction → significant (whole ++ fraction) ≤ 24 → 0 < length (whole ++ (point ++ fraction)) → is_number_front (whole ++ (point ++ fraction)) ≡ true
short_front [] point [] whole_digits pointed fraction_digits few some =
    ⊎_elim (λ dot. subst (λ t. is_number_front (t ++ []) ≡ true) (sym dot) point_front) (λ none. absurd (omega (arith, some, ap (λ (t : List ℕ). length (t ++ [])) none.0))) pointed
short_front [] point (f ∷ fraction) whole_digits pointed fraction_digits few some = short_literal [] point (f ∷ fraction) whole_digits pointed fraction_digits few (omega arith)
short_front (w ∷ whole) point fraction whole_digits pointed fraction_digits few some = short_literal (w ∷ whole) point fraction whole_digits pointed fraction_digits few (omega arith)

-- what has an exponent, of which some digits may be missing
pub record Mantissa (whole point fraction : List ℕ) : Type 0 where
  pub whole_digits : AllPass is_ascii_digit whole
  pub pointed : IsPoint fraction point
  pub fraction_digits : AllPass is_ascii_digit fraction
  pub few : significant (whole ++ fraction) ≤ 24
  pub some : 0 < length whole + length fraction

written : (c : ℕ) (negative : Bool) (sign digits : List ℕ) → (c ≡ 101) ⊎ (c ≡ 69) → IsSign negative sign → AllPass is_ascii_digit digits → 0 < length digits → length digits ≤ 3 → WritesExponent (with_sign negative (digits_value 10 digits)) (c ∷ (sign ++ digits))
written c negative sign digits letter signed all some few = record {
  letter = c;
  negative = negative;
  sign = sign;
  digits = digits;
  is_text = refl;
  is_letter = letter;
  is_sign = signed;
  all_digits = all;
  some_digit = some;
  few_digits = few;
  is_value = refl;
}

behind_parts : (a b c d e : List ℕ) → (a ++ (b ++ (c ++ d))) ++ e ≡ a ++ (b ++ (c ++ (d ++ e)))
behind_parts a b c d e = append_assoc a (b ++ (c ++ d)) e ∙ ap (λ t. a ++ t) (append_assoc b (c ++ d) e ∙ ap (λ t. b ++ t) (append_assoc c d e))

zero_digit : AllPass is_ascii_digit (48 ∷ [])
zero_digit = AllPass-from_list_all is_ascii_digit (48 ∷ []) refl

exponent_front : (whole point fraction : List ℕ) (c : ℕ) (negative : Bool) (sign digits : List ℕ) → Mantissa whole point fraction → (c ≡ 101) ⊎ (c ≡ 69) → IsSign negative sign → AllPass is_ascii_digit digits → length digits ≤ 3 → is_number_front (whole ++ (point ++ (fraction ++ (c ∷ (sign ++ digits))))) ≡ true
exponent_front whole point fraction c negative sign [] m letter signed all few =
    let shown : WritesExponent (with_sign negative (digits_value 10 (48 ∷ []))) (c ∷ (sign ++ 48 ∷ [])) = written c negative sign (48 ∷ []) letter signed zero_digit (omega arith) (omega arith) in
    let form = unsigned_text whole point fraction (c ∷ (sign ++ 48 ∷ [])) (with_sign negative (digits_value 10 (48 ∷ []))) m.whole_digits m.pointed m.fraction_digits (inr shown) m.some in
    let plain : sign ++ 48 ∷ [] ≡ (sign ++ []) ++ 48 ∷ [] = ap (λ t. t ++ 48 ∷ []) (sym (append-nil sign)) in
    let text : whole ++ (point ++ (fraction ++ (c ∷ (sign ++ 48 ∷ [])))) ≡ (whole ++ (point ++ (fraction ++ (c ∷ (sign ++ []))))) ++ 48 ∷ [] = ap (λ t. whole ++ (point ++ (fraction ++ (c ∷ t)))) plain ∙ sym (behind_parts whole point fraction (c ∷ (sign ++ [])) (48 ∷ [])) in
    later_front (whole ++ (point ++ (fraction ++ (c ∷ (sign ++ []))))) (unsigned_of whole fraction (with_sign negative (digits_value 10 (48 ∷ [])))) (subst (λ t. IsDecimalText t (unsigned_of whole fraction (with_sign negative (digits_value 10 (48 ∷ []))))) text form) m.few
exponent_front whole point fraction c negative sign (d ∷ digits) m letter signed all few =
    now_front (whole ++ (point ++ (fraction ++ (c ∷ (sign ++ d ∷ digits))))) (unsigned_of whole fraction (with_sign negative (digits_value 10 (d ∷ digits))))
    (unsigned_text whole point fraction (c ∷ (sign ++ d ∷ digits)) (with_sign negative (digits_value 10 (d ∷ digits))) m.whole_digits m.pointed m.fraction_digits (inr (written c negative sign (d ∷ digits) letter signed all (omega arith) few)) m.some) m.few

-- a front of a sign is a sign
one_byte : (s x : ℕ) (p r : List ℕ) → s ∷ [] ≡ x ∷ (p ++ r) → s ∷ [] ≡ x ∷ p
one_byte s x [] r e = ap (λ (z : ℕ). z ∷ []) (first_byte s x [] r e)
one_byte s x (y ∷ p) r e = absurd (omega (arith, ap length e))

sign_front : (negative : Bool) (sign p r : List ℕ) → IsSign negative sign → sign ≡ p ++ r → (n : Bool) × IsSign n p
sign_front negative sign [] r is e = (false, inl refl)
sign_front true sign (x ∷ p) r is e = (true, sym (one_byte 45 x p r (sym is ∙ e)))
sign_front false sign (x ∷ p) r is e = (false, ⊎_elim (λ none. absurd (omega (arith, ap length none, ap length e))) (λ plus. inr (sym (one_byte 43 x p r (sym plus ∙ e)))) is)

-- a front of an exponent
in_exponent : (whole point fraction : List ℕ) (e : ℤ) (p q : List ℕ) → Mantissa whole point fraction → IsExponent e (p ++ q) → is_number_front (whole ++ (point ++ (fraction ++ p))) ≡ true
in_exponent whole point fraction e [] q m is =
    subst (λ t. is_number_front (whole ++ (point ++ t)) ≡ true) (sym (append-nil fraction)) (short_literal whole point fraction m.whole_digits m.pointed m.fraction_digits m.few m.some)
in_exponent whole point fraction e (x ∷ p) q m is = ⊎_elim (λ none. absurd (omega (arith, ap length none.0))) found is
  where
    in_digits : (w : WritesExponent e (x ∷ (p ++ q))) → x ≡ w.letter → Cut p q w.sign w.digits → is_number_front (whole ++ (point ++ (fraction ++ (x ∷ p)))) ≡ true
    in_digits w same (within r in_sign behind) =
        let s = sign_front w.negative w.sign p r w.is_sign in_sign in
        let letter : (x ≡ 101) ⊎ (x ≡ 69) = subst (λ (z : ℕ). (z ≡ 101) ⊎ (z ≡ 69)) (sym same) w.is_letter in
        subst (λ t. is_number_front (whole ++ (point ++ (fraction ++ (x ∷ t)))) ≡ true) (append-nil p) (exponent_front whole point fraction x s.0 p [] m letter s.1 (all_front [] w.digits w.all_digits) (omega arith))
    in_digits w same (beyond r in_p in_digit) =
        let letter : (x ≡ 101) ⊎ (x ≡ 69) = subst (λ (z : ℕ). (z ≡ 101) ⊎ (z ≡ 69)) (sym same) w.is_letter in
        let all : AllPass is_ascii_digit r = all_front r q (subst (AllPass is_ascii_digit) in_digit w.all_digits) in
        let few : length r ≤ 3 = omega (arith, w.few_digits, ap length in_digit, length-append r q) in
        subst (λ t. is_number_front (whole ++ (point ++ (fraction ++ (x ∷ t)))) ≡ true) (sym in_p) (exponent_front whole point fraction x w.negative w.sign r m letter w.is_sign all few)

    found : WritesExponent e (x ∷ (p ++ q)) → is_number_front (whole ++ (point ++ (fraction ++ (x ∷ p)))) ≡ true
    found w = in_digits w (first_byte x w.letter (p ++ q) (w.sign ++ w.digits) w.is_text) (cut p q w.sign w.digits (other_bytes x w.letter (p ++ q) (w.sign ++ w.digits) w.is_text))

-- a text that begins with no sign
no_sign : (negative : Bool) (sign rest p q : List ℕ) → IsSign negative sign → is_unsigned p ≡ true → p ++ q ≡ sign ++ rest → p ++ q ≡ rest
no_sign negative sign rest [] q is unsigned e = absurd (cc)
no_sign true sign rest (c ∷ p) q is unsigned e =
    let same : c ≡ 45 = first_byte c 45 (p ++ q) rest (e ∙ ap (λ s. s ++ rest) is) in
    let never : begins_number 45 ≡ true = subst (λ (z : ℕ). begins_number z ≡ true) same unsigned in
    absurd (cc)
no_sign false sign rest (c ∷ p) q is unsigned e = ⊎_elim (λ none. e ∙ ap (λ s. s ++ rest) none) plus is
  where
    plus : sign ≡ 43 ∷ [] → (c ∷ p) ++ q ≡ rest
    plus one =
        let same : c ≡ 43 = first_byte c 43 (p ++ q) rest (e ∙ ap (λ s. s ++ rest) one) in
        let never : begins_number 43 ≡ true = subst (λ (z : ℕ). begins_number z ≡ true) same unsigned in
        absurd (cc)

-- a front of a point, and the point before a front of what follows it
point_cut : (fraction point p r : List ℕ) → IsPoint fraction point → point ≡ p ++ r → IsPoint [] p
point_cut fraction point [] r is e = inr (refl, refl)
point_cut fraction point (x ∷ p) r is e = ⊎_elim (λ dot. inl (sym (one_byte 46 x p r (sym dot ∙ e)))) (λ none. absurd (omega (arith, ap length none.0, ap length e))) is

none_front : (p r : List ℕ) → p ++ r ≡ [] → p ≡ []
none_front [] r e = refl
none_front (x ∷ p) r e = absurd (omega (arith, ap length e))

point_before : (fraction point p r : List ℕ) → IsPoint fraction point → fraction ≡ p ++ r → IsPoint p point
point_before fraction point p r is e = ⊎_elim (λ dot. inl dot) (λ none. inr (none.0, none_front p r (sym e ∙ none.1))) is

some_byte : (p : List ℕ) → is_unsigned p ≡ true → 0 < length p
some_byte [] unsigned = absurd (cc)
some_byte (c ∷ p) unsigned = omega arith

front_of_parts : (p q whole point fraction exponent : List ℕ) (e : ℤ) → 0 < length p → Mantissa whole point fraction → IsExponent e exponent → p ++ q ≡ whole ++ (point ++ (fraction ++ exponent)) → is_number_front p ≡ true
front_of_parts p q whole point fraction exponent e some m is same = in_whole (cut p q whole (point ++ (fraction ++ exponent)) same)
  where
    in_fraction : (r s : List ℕ) → p ≡ whole ++ r → r ≡ point ++ s → Cut s q fraction exponent → is_number_front p ≡ true
    in_fraction r s in_p in_r (within t in_digits behind) =
        let text : p ≡ whole ++ (point ++ s) = in_p ∙ ap (λ x. whole ++ x) in_r in
        let digits : significant (whole ++ fraction) ≡ significant ((whole ++ s) ++ t) = ap (λ x. significant (whole ++ x)) in_digits ∙ ap significant (sym (append_assoc whole s t)) in
        let few : significant (whole ++ s) ≤ 24 = omega (arith, digits, fewer (whole ++ s) t, m.few) in
        subst (λ x. is_number_front x ≡ true) (sym text) (short_front whole point s m.whole_digits (point_before fraction point s t m.pointed in_digits) (all_front s t (subst (AllPass is_ascii_digit) in_digits m.fraction_digits)) few (omega (arith, some, ap length text)))
    in_fraction r s in_p in_r (beyond t in_s in_letter) =
        let text : p ≡ whole ++ (point ++ (fraction ++ t)) = in_p ∙ ap (λ x. whole ++ x) (in_r ∙ ap (λ x. point ++ x) in_s) in
        subst (λ x. is_number_front x ≡ true) (sym text) (in_exponent whole point fraction e t q m (subst (IsExponent e) in_letter is))

    in_point : (r : List ℕ) → p ≡ whole ++ r → Cut r q point (fraction ++ exponent) → is_number_front p ≡ true
    in_point r in_p (within s in_dot behind) =
        let text : p ≡ whole ++ (r ++ []) = in_p ∙ ap (λ x. whole ++ x) (sym (append-nil r)) in
        let few : significant (whole ++ []) ≤ 24 = omega (arith, ap significant (append-nil whole), fewer whole fraction, m.few) in
        subst (λ x. is_number_front x ≡ true) (sym text) (short_front whole r [] m.whole_digits (point_cut fraction point r s m.pointed in_dot) (all_front [] whole m.whole_digits) few (omega (arith, some, ap length text)))
    in_point r in_p (beyond s in_r in_more) = in_fraction r s in_p in_r (cut s q fraction exponent (sym in_more))

    in_whole : Cut p q whole (point ++ (fraction ++ exponent)) → is_number_front p ≡ true
    in_whole (within r in_digits behind) =
        let text : p ++ ([] ++ []) ≡ p = append-nil p in
        let digits : significant (whole ++ fraction) ≡ significant (p ++ (r ++ fraction)) = ap (λ x. significant (x ++ fraction)) in_digits ∙ ap significant (append_assoc p r fraction) in
        let few : significant (p ++ []) ≤ 24 = omega (arith, ap significant (append-nil p), digits, fewer p (r ++ fraction), m.few) in
        subst (λ x. is_number_front x ≡ true) text (short_literal p [] [] (all_front p r (subst (AllPass is_ascii_digit) in_digits m.whole_digits)) (inr (refl, refl)) (all_front [] whole m.whole_digits) few (omega (arith, some)))
    in_whole (beyond r in_p in_more) = in_point r in_p (cut r q point (fraction ++ exponent) (sym in_more))

pub front_is : (p q : List ℕ) (units : Option ℤ) → is_unsigned p ≡ true → literal_of (p ++ q) ≡ Some units → is_number_front p ≡ true
front_is p q units unsigned is =
    let f = formed (p ++ q) units is in
    let plain = no_sign f.parts.negative f.form.sign (f.parts.whole ++ (f.form.point ++ (f.parts.fraction ++ f.form.exponent))) p q f.form.is_sign unsigned f.form.is_text in
    front_of_parts p q f.parts.whole f.form.point f.parts.fraction f.form.exponent f.parts.exponent (some_byte p unsigned)
    record {
      whole_digits = f.form.whole_digits;
      pointed = f.form.is_point;
      fraction_digits = f.form.fraction_digits;
      few = f.few;
      some = f.form.some_digit;
    } f.form.is_exponent plain
