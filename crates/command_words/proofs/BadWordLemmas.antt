-- A bad word is told exactly at the first word with which the words so far begin no form.
use Rattle.std.proofs.Common.{◌≡◌, ◌≢◌, ◌∙◌, ◌+◌, ◌-◌, ◌<◌, ◌≤◌, ◌||◌, ◌⊎◌, inl, inr, ⊎_elim, Bool, true, false, cond, ℕ, zero, suc, min, Option, Some, None, Result, Ok, Err, List, [], ◌∷◌, ◌++◌, length, length-drop, take, drop, refl, sym, ap, subst, arith}
use Rattle.std.specs.List.{list_any}
use Rattle.std.specs.Option.{is_none}
use Rattle.std.proofs.lemmas.Bool.{cases_lt, false≢true}
use Rattle.std.proofs.lemmas.Bool.Decides.{nat_tests}
use Rattle.std.proofs.lemmas.List.{take-append-drop, take-take}
use Rattle.command_words.specs.Forms.{places_of}
use Rattle.command_words.specs.Places.{behind, stuck, takes}
use Rattle.command_words.specs.Prefixes.{IsFirstBad, begin_a_form, begin_form, have_a_form, have_form, is_taken}
use Rattle.command_words.specs.Read.{begins, best, best_from, form_among, form_of, form_or, is_counted, is_known}
use Rattle.command_words.specs.Values.{word}
use Rattle.command_words.specs.declared.forms.Form.{Form}
use Rattle.command_words.specs.declared.forms.TheConstants.{FORMS}
use Rattle.command_words.specs.declared.places.Place.{Place}
use Rattle.command_words.specs.declared.places.Place.TheVariants as place
use Rattle.command_words.specs.declared.refusal.WordRefusal.TheVariants.{BadWord, UnknownCommand, WordCount}
use Rattle.command_words.proofs.PrefixLemmas.{AllTaken, AtMost, Follows, stuck_few, stuck_follows}

-- words of which all are taken, and words of which a form leaves some
pub taken_by : (o : Option ℕ) → AllTaken o → is_taken o ≡ true
taken_by None all = refl
taken_by (Some zero) all = refl
taken_by (Some (suc left)) all = absurd all

-- words that others follow: where more of them all are left than the others, or none, some of the words are left
over_by : (o : Option ℕ) (back : List (List ℕ)) (left : ℕ) → Follows o back (Some left) → length back < left → is_taken o ≡ false
over_by None back left few more = absurd (omega arith)
over_by (Some zero) back left few more = absurd (omega arith)
over_by (Some (suc l)) back left e more = grind arith

within_by : (o : Option ℕ) (back : List (List ℕ)) (left : ℕ) → Follows o back (Some left) → left ≤ length back → is_taken o ≡ true
within_by None back left few less = refl
within_by (Some zero) back left few less = refl
within_by (Some (suc l)) back left e less = absurd (grind arith)

formless_by : (o : Option ℕ) (back : List (List ℕ)) (after : Option ℕ) → Follows o back after → is_taken o ≡ false → is_none after ≡ false
formless_by None back after follows is = absurd (cc)
formless_by (Some zero) back after follows is = absurd (cc)
formless_by (Some (suc l)) back after e is = rw e refl

-- the words before a place, and from it on
split : (f : Form) (words : List (List ℕ)) (i : ℕ) → Follows (stuck (places_of f) (take i words)) (drop i words) (stuck (places_of f) words)
split f words i =
    subst (λ (all : List (List ℕ)). Follows (stuck (places_of f) (take i words)) (drop i words) (stuck (places_of f) all)) (take-append-drop i words)
    (stuck_follows (places_of f) (take i words) (drop i words))

-- a form that leaves so many words begins with the words before them, and with no more
begun_before : (f : Form) (words : List (List ℕ)) (i left : ℕ) → stuck (places_of f) words ≡ Some left → left + i ≤ length words → begin_form (take i words) f ≡ true
begun_before f words i left e within =
    within_by (stuck (places_of f) (take i words)) (drop i words) left
    (subst (λ (o : Option ℕ). Follows (stuck (places_of f) (take i words)) (drop i words) o) e (split f words i))
    (omega (arith, length-drop i words))

over_behind : (f : Form) (words : List (List ℕ)) (i left : ℕ) → stuck (places_of f) words ≡ Some left → i ≤ length words → length words < left + i → begin_form (take i words) f ≡ false
over_behind f words i left e small past =
    over_by (stuck (places_of f) (take i words)) (drop i words) left
    (subst (λ (o : Option ℕ). Follows (stuck (places_of f) (take i words)) (drop i words) o) e (split f words i))
    (omega (arith, length-drop i words))

-- what is told of the fewest words that are left where each of some forms takes no more
record Left (forms : List Form) (words : List (List ℕ)) (fewest left : ℕ) : Type 0 where
  low : left ≤ fewest
  formless : list_any (have_form words) forms ≡ false
  there : (i : ℕ) → i ≤ length words → length words < left + i → list_any (begin_form (take i words)) forms ≡ false
  before : (left ≡ fewest) ⊎ ((i : ℕ) → left + i ≤ length words → list_any (begin_form (take i words)) forms ≡ true)

lesser : (a b : ℕ) → (min a b ≤ a) × (min a b ≤ b) × ((min a b ≡ a) ⊎ (min a b ≡ b))
lesser a b = grind arith

pub any_here : (b c : Bool) → b ≡ true → (b || c) ≡ true
any_here b c e = rw e refl

pub any_behind : (b c : Bool) → c ≡ true → (b || c) ≡ true
any_behind true c e = refl
any_behind false c e = e

any_neither : (b c : Bool) → b ≡ false → c ≡ false → (b || c) ≡ false
any_neither b c d e = rw d e

before_by : (f : Form) (forms : List Form) (words : List (List ℕ)) (l fewest left : ℕ) → stuck (places_of f) words ≡ Some l
    → ((left ≡ min fewest l) ⊎ ((i : ℕ) → left + i ≤ length words → list_any (begin_form (take i words)) forms ≡ true))
    → (left ≡ fewest) ⊎ ((i : ℕ) → left + i ≤ length words → list_any (begin_form (take i words)) (f ∷ forms) ≡ true)
before_by f forms words l fewest left is (inl e) =
    ⊎_elim
    (λ there. inl (e ∙ there))
    (λ here. inr (λ i within. any_here (begin_form (take i words) f) (list_any (begin_form (take i words)) forms) (begun_before f words i l is (omega (arith, e ∙ here)))))
    (lesser fewest l).2
before_by f forms words l fewest left is (inr each) = inr (λ i within. any_behind (begin_form (take i words) f) (list_any (begin_form (take i words)) forms) (each i within))

left_more : (o : Option ℕ) (f : Form) (forms : List Form) (words : List (List ℕ)) (fewest left : ℕ) → stuck (places_of f) words ≡ o
    → ((n : ℕ) → best forms words n ≡ Err left → Left forms words n left) → best_from f o (best forms words) fewest ≡ Err left
    → Left (f ∷ forms) words fewest left
left_more None f forms words fewest left is each e = absurd (cc)
left_more (Some l) f forms words fewest left is each e =
    let r : Left forms words (min fewest l) left = each (min fewest l) e in
    record {
      low = omega (arith, r.low, (lesser fewest l).0);
      formless = rw is r.formless;
      there = λ i small past. any_neither (begin_form (take i words) f) (list_any (begin_form (take i words)) forms)
          (over_behind f words i l is small (omega (arith, r.low, (lesser fewest l).1))) (r.there i small past);
      before = before_by f forms words l fewest left is r.before;
    }

best_left : (forms : List Form) (words : List (List ℕ)) (fewest left : ℕ) → best forms words fewest ≡ Err left → Left forms words fewest left
best_left [] words fewest left e =
    let same : left ≡ fewest = cc in
    record { low = omega arith; formless = refl; there = λ i small past. refl; before = inl same }
best_left (f ∷ forms) words fewest left e = left_more (stuck (places_of f) words) f forms words fewest left refl (λ n d. best_left forms words n left d) e

-- no words begin a form
nothing_begins : begin_a_form [] ≡ true
unfolding begin_a_form
nothing_begins = refl

before_at : (words : List (List ℕ)) (left : ℕ) → ((left ≡ length words) ⊎ ((i : ℕ) → left + i ≤ length words → list_any (begin_form (take i words)) FORMS.now ≡ true))
    → left ≤ length words → begin_a_form (take (length words - left) words) ≡ true
unfolding begin_a_form
before_at words left (inl e) low =
    let none : length words - left ≡ 0 = omega arith in
    rw none nothing_begins
before_at words left (inr each) low = each (length words - left) (omega arith)

first_bad : (words : List (List ℕ)) (left : ℕ) → best FORMS.now words (length words) ≡ Err left → IsFirstBad words (length words - left)
unfolding begin_a_form have_a_form
first_bad words left e =
    let r : Left FORMS.now words (length words) left = best_left FORMS.now words (length words) left e in
    record {
      formless = r.formless;
      within = omega arith;
      before = before_at words left r.before r.low;
      there = λ less. r.there (length words - left + 1) (omega arith) (omega (arith, r.low));
    }

-- a word that is told
told_by : (known counted : Bool) (r : Result Form ℕ) (n i : ℕ) → cond known (cond counted (form_or n r) (Err WordCount)) (Err UnknownCommand) ≡ Err (BadWord i)
    → (left : ℕ) × (r ≡ Err left) × (i ≡ n - left)
told_by true true (Ok f) n i e = absurd (cc)
told_by true true (Err left) n i e = (left, refl, cc)
told_by true false r n i e = absurd (cc)
told_by false counted r n i e = absurd (cc)

told : (words : List (List ℕ)) (i : ℕ) → form_of words ≡ Err (BadWord i) → (left : ℕ) × (best FORMS.now words (length words) ≡ Err left) × (i ≡ length words - left)
unfolding form_among
told words i e = told_by (is_known FORMS.now (word 0 words)) (is_counted FORMS.now (word 0 words) (length words)) (best FORMS.now words (length words)) (length words) i e

pub bad_words_are_the_first : (words : List (List ℕ)) (i : ℕ) → form_of words ≡ Err (BadWord i) → IsFirstBad words i
bad_words_are_the_first words i e =
    let t = told words i e in
    subst (λ (k : ℕ). IsFirstBad words k) (sym t.2) (first_bad words t.0 t.1)

-- words that begin no form are of none, whatever follows
any_none : (p q : Form → Bool) (forms : List Form) → ((f : Form) → p f ≡ false → q f ≡ false) → list_any p forms ≡ false → list_any q forms ≡ false
any_none p q [] each e = refl
any_none p q (f ∷ forms) each e = none_by (p f) (list_any p forms) (q f) (list_any q forms) (each f) (any_none p q forms each) e
  where
    none_by : (a b c d : Bool) → (a ≡ false → c ≡ false) → (b ≡ false → d ≡ false) → (a || b) ≡ false → (c || d) ≡ false
    none_by true b c d first second e = absurd (cc)
    none_by false b c d first second e = any_neither c d (first refl) (second e)

pub no_form_follows : (words more : List (List ℕ)) → begin_a_form words ≡ false → have_a_form (words ++ more) ≡ false
unfolding begin_a_form have_a_form
no_form_follows words more e =
    any_none (begin_form words) (have_form (words ++ more)) FORMS.now
    (λ f none. formless_by (stuck (places_of f) words) more (stuck (places_of f) (words ++ more)) (stuck_follows (places_of f) words more) none) e

-- a form of a command that is known takes its word
named_by : (b : Bool) (places : List Place) (words : List (List ℕ)) → b ≡ true → AtMost (behind (stuck places) (cond b (Ok words) (Err (length words + 1)))) (length words)
named_by true places words e = stuck_few places words
named_by false places words e = absurd (cc)

named_few : (places : List Place) (name : List ℕ) (words : List (List ℕ)) → begins places name ≡ true → AtMost (stuck places (name ∷ words)) (length words)
named_few [] name words e = absurd (cc)
named_few (place.One k ∷ places) name words e = named_by (takes k name) places words e
named_few (place.Many k ∷ places) name words e = absurd (cc)
named_few (place.Counted k ∷ places) name words e = absurd (cc)
named_few (place.Rest ∷ places) name words e = absurd (cc)
named_few (place.Branches ∷ places) name words e = absurd (cc)
named_few (place.Options o ∷ places) name words e = absurd (cc)
named_few (place.SomeOptions o ∷ places) name words e = absurd (cc)

known_by : (b : Bool) (o : Option ℕ) (f : Form) (forms : List Form) (name : List ℕ) (words : List (List ℕ)) (fewest left : ℕ)
    → (b ≡ true → AtMost o (length words)) → ((n : ℕ) → best forms (name ∷ words) n ≡ Err left → is_known forms name ≡ true → left ≤ length words)
    → best_from f o (best forms (name ∷ words)) fewest ≡ Err left → (b || is_known forms name) ≡ true → left ≤ length words
known_by b None f forms name words fewest left few each e known = absurd (cc)
known_by true (Some l) f forms name words fewest left few each e known =
    let r : Left forms (name ∷ words) (min fewest l) left = best_left forms (name ∷ words) (min fewest l) left e in
    omega (arith, r.low, (lesser fewest l).1, few refl)
known_by false (Some l) f forms name words fewest left few each e known = each (min fewest l) e known

known_left : (forms : List Form) (name : List ℕ) (words : List (List ℕ)) (fewest left : ℕ) → best forms (name ∷ words) fewest ≡ Err left
    → is_known forms name ≡ true → left ≤ length words
known_left [] name words fewest left e known = absurd (cc)
known_left (f ∷ forms) name words fewest left e known =
    known_by (begins (places_of f) name) (stuck (places_of f) (name ∷ words)) f forms name words fewest left (named_few (places_of f) name words)
    (λ n d k. known_left forms name words n left d k) e known

nameless : is_known FORMS.now [] ≡ false
nameless = refl

known_from : (known counted : Bool) (r : Result Form ℕ) (n i : ℕ) → cond known (cond counted (form_or n r) (Err WordCount)) (Err UnknownCommand) ≡ Err (BadWord i) → known ≡ true
known_from true counted r n i e = refl
known_from false counted r n i e = absurd (cc)

known : (words : List (List ℕ)) (i : ℕ) → form_of words ≡ Err (BadWord i) → is_known FORMS.now (word 0 words) ≡ true
unfolding form_among
known words i e = known_from (is_known FORMS.now (word 0 words)) (is_counted FORMS.now (word 0 words) (length words)) (best FORMS.now words (length words)) (length words) i e

-- the command's own word is never a bad one
pub bad_words_stand_behind_the_first : (words : List (List ℕ)) (i : ℕ) → form_of words ≡ Err (BadWord i) → 1 ≤ i
bad_words_stand_behind_the_first [] i e = absurd (false≢true (sym nameless ∙ known [] i e))
bad_words_stand_behind_the_first (name ∷ words) i e =
    let t = told (name ∷ words) i e in
    let less : t.0 ≤ length words = known_left FORMS.now name words (length (name ∷ words)) t.0 t.1 (known (name ∷ words) i e) in
    omega (arith, t.2)

-- with fewer words they begin a form too
fewer_by : (o : Option ℕ) (back : List (List ℕ)) (after : Option ℕ) → Follows o back after → is_taken after ≡ true → is_taken o ≡ true
fewer_by None back after follows is = refl
fewer_by (Some zero) back after follows is = refl
fewer_by (Some (suc l)) back after e is = absurd (grind (arith, nat_tests))

any_all : (p q : Form → Bool) (forms : List Form) → ((f : Form) → p f ≡ true → q f ≡ true) → list_any p forms ≡ true → list_any q forms ≡ true
any_all p q [] each e = e
any_all p q (f ∷ forms) each e = all_by (p f) (list_any p forms) (q f) (list_any q forms) (each f) (any_all p q forms each) e
  where
    all_by : (a b c d : Bool) → (a ≡ true → c ≡ true) → (b ≡ true → d ≡ true) → (a || b) ≡ true → (c || d) ≡ true
    all_by true b c d first second e = any_here c d (first refl)
    all_by false b c d first second e = any_behind c d (second e)

begun_with_fewer : (words : List (List ℕ)) (i : ℕ) → begin_a_form words ≡ true → begin_a_form (take i words) ≡ true
unfolding begin_a_form
begun_with_fewer words i e =
    any_all (begin_form words) (begin_form (take i words)) FORMS.now
    (λ f all. fewer_by (stuck (places_of f) (take i words)) (drop i words) (stuck (places_of f) words) (split f words i) all) e

begun_up_to : (words : List (List ℕ)) (i j : ℕ) → i ≤ j → begin_a_form (take j words) ≡ true → begin_a_form (take i words) ≡ true
begun_up_to words i j less e =
    subst (λ (front : List (List ℕ)). begin_a_form front ≡ true) (take-take i j words less) (begun_with_fewer (take j words) i e)

-- there is one first bad word only
no_earlier : (words : List (List ℕ)) (i j : ℕ) → IsFirstBad words i → IsFirstBad words j → j ≤ i
no_earlier words i j a b =
    ⊎_elim
    (λ less. absurd (false≢true (sym (a.there (omega (arith, b.within))) ∙ begun_up_to words (i + 1) j (omega arith) b.before)))
    (λ more. more) (cases_lt i j)

one_first_bad : (words : List (List ℕ)) (i j : ℕ) → IsFirstBad words i → IsFirstBad words j → i ≡ j
one_first_bad words i j a b = omega (arith, no_earlier words i j a b, no_earlier words j i b a)

-- words that are of a form have one
formed : (forms : List Form) (words : List (List ℕ)) (fewest : ℕ) (f : Form) → best forms words fewest ≡ Ok f → list_any (have_form words) forms ≡ true
formed [] words fewest f e = absurd (cc)
formed (g ∷ forms) words fewest f e = formed_by (stuck (places_of g) words) g forms words fewest f refl (λ n d. formed forms words n f d) e
  where
    formed_by : (o : Option ℕ) (g : Form) (forms : List Form) (words : List (List ℕ)) (fewest : ℕ) (f : Form) → stuck (places_of g) words ≡ o
        → ((n : ℕ) → best forms words n ≡ Ok f → list_any (have_form words) forms ≡ true) → best_from g o (best forms words) fewest ≡ Ok f
        → list_any (have_form words) (g ∷ forms) ≡ true
    formed_by None g forms words fewest f is each e = rw is refl
    formed_by (Some l) g forms words fewest f is each e = any_behind (have_form words g) (list_any (have_form words) forms) (each (min fewest l) e)

-- words of no form are told by their first bad word, where neither the command nor the number of words is refused
first_told_by : (named counted : Bool) (r : Result Form ℕ) (words : List (List ℕ)) (i : ℕ) → best FORMS.now words (length words) ≡ r
    → cond named (cond counted (form_or (length words) r) (Err WordCount)) (Err UnknownCommand) ≢ Err UnknownCommand
    → cond named (cond counted (form_or (length words) r) (Err WordCount)) (Err UnknownCommand) ≢ Err WordCount → IsFirstBad words i
    → cond named (cond counted (form_or (length words) r) (Err WordCount)) (Err UnknownCommand) ≡ Err (BadWord i)
unfolding have_a_form
first_told_by true true (Ok f) words i e one many bad = absurd (false≢true (sym bad.formless ∙ formed FORMS.now words (length words) f e))
first_told_by true true (Err left) words i e one many bad =
    ap (λ (k : ℕ). Err (BadWord k)) (one_first_bad words (length words - left) i (first_bad words left e) bad)
first_told_by true false r words i e one many bad = absurd (many refl)
first_told_by false counted r words i e one many bad = absurd (one refl)

pub first_bad_words_are_told : (words : List (List ℕ)) (i : ℕ) → form_of words ≢ Err UnknownCommand → form_of words ≢ Err WordCount → IsFirstBad words i
    → form_of words ≡ Err (BadWord i)
unfolding form_among
first_bad_words_are_told words i one many bad =
    first_told_by (is_known FORMS.now (word 0 words)) (is_counted FORMS.now (word 0 words) (length words)) (best FORMS.now words (length words)) words i refl one many bad
