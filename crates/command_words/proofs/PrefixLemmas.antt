-- Places take words front by front: where a form takes no more is told by the words up to there.
use Rattle.std.proofs.Common.{◌≡◌, ◌+◌, ◌-◌, ◌==◌, ◌<◌, ◌≤◌, ◌⊎◌, inl, inr, Bool, true, false, cond, ℕ, zero, suc, Option, Some, None, Result, Ok, Err, List, [], ◌∷◌, ◌++◌, length, length-append, length-drop, drop, refl, ap, arith}
use Rattle.std.specs.Prelude.{nat_le}
use Rattle.std.specs.List.{prefix_len}
use Rattle.std.proofs.lemmas.Bool.Decides.{nat_tests}
use Rattle.std.proofs.lemmas.List.{drop-append-le, drop_all}
use Rattle.std.proofs.lemmas.List.Folds.{prefix_len-append}
use Rattle.std.proofs.lemmas.List.Sums.{prefix_len-le-length}
use Rattle.command_words.specs.Branches.{go_on, is_whole, next, stuck_branches, stuck_from}
use Rattle.command_words.specs.Options.{choices_in, kind_of_option}
use Rattle.command_words.specs.Places.{behind, count_of, left_by, left_by_counted, none_left, stuck, stuck_key, stuck_options, stuck_pair, takes}
use Rattle.command_words.specs.declared.branches.Part.{Part}
use Rattle.command_words.specs.declared.branches.Part.TheVariants as part
use Rattle.command_words.specs.declared.options.Choice.{Choice}
use Rattle.command_words.specs.declared.places.Kind.{Kind}
use Rattle.command_words.specs.declared.places.Place.{Place}
use Rattle.command_words.specs.declared.places.Place.TheVariants as place

-- at most n words are left where no more are taken
abbrev pub AtMost : Option ℕ → ℕ → Type 0
AtMost None n = Unit {0}
AtMost (Some left) n = left ≤ n

-- all words are taken
abbrev pub AllTaken : Option ℕ → Type 0
AllTaken None = Unit {0}
AllTaken (Some zero) = Unit {0}
AllTaken (Some (suc left)) = ⊥

-- how many words are left of words that others follow, by how many are left of the words alone: where all are taken, at most the others
abbrev pub Follows : Option ℕ → List (List ℕ) → Option ℕ → Type 0
Follows None back after = AtMost after (length back)
Follows (Some zero) back after = AtMost after (length back)
Follows (Some (suc left)) back after = after ≡ Some (suc left + length back)

-- the same of what a place leaves
abbrev LeavesAtMost : Result (List (List ℕ)) ℕ → ℕ → Type 0
LeavesAtMost (Ok rest) n = length rest ≤ n
LeavesAtMost (Err left) n = left ≤ n

abbrev LeavesNone : Result (List (List ℕ)) ℕ → Type 0
LeavesNone (Ok []) = Unit {0}
LeavesNone (Ok (word ∷ rest)) = ⊥
LeavesNone (Err zero) = Unit {0}
LeavesNone (Err (suc left)) = ⊥

abbrev Leaves : Result (List (List ℕ)) ℕ → List (List ℕ) → Result (List (List ℕ)) ℕ → Type 0
Leaves (Ok []) back after = LeavesAtMost after (length back)
Leaves (Ok (word ∷ rest)) back after = after ≡ Ok (word ∷ (rest ++ back))
Leaves (Err zero) back after = LeavesAtMost after (length back)
Leaves (Err (suc left)) back after = after ≡ Err (suc left + length back)

-- words that are left, and a word that is not taken
rest_leaves : (rest back : List (List ℕ)) → Leaves (Ok rest) back (Ok (rest ++ back))
rest_leaves [] back = omega arith
rest_leaves (word ∷ rest) back = refl

stop_leaves : (left total : ℕ) (back : List (List ℕ)) → 1 ≤ left → total ≡ left + length back → Leaves (Err left) back (Err total)
stop_leaves zero total back some e = absurd (omega arith)
stop_leaves (suc left) total back some e = ap Err e

stop_follows : (left total : ℕ) (back : List (List ℕ)) → 1 ≤ left → total ≡ left + length back → Follows (Some left) back (Some total)
stop_follows zero total back some e = absurd (omega arith)
stop_follows (suc left) total back some e = ap Some e

all_follow : (taken : Option ℕ) (back : List (List ℕ)) (after : Option ℕ) → AllTaken taken → AtMost after (length back) → Follows taken back after
all_follow None back after all few = few
all_follow (Some zero) back after all few = few
all_follow (Some (suc left)) back after all few = absurd all

few_by : (o : Option ℕ) (m n : ℕ) → m ≤ n → AtMost o m → AtMost o n
few_by None m n more few = tt
few_by (Some left) m n more few = omega arith

-- a place of one word
one_by : (b : Bool) (words back : List (List ℕ)) → Leaves (cond b (Ok words) (Err (length words + 1))) back (cond b (Ok (words ++ back)) (Err (length (words ++ back) + 1)))
one_by true words back = rest_leaves words back
one_by false words back = stop_leaves (length words + 1) (length (words ++ back) + 1) back (omega arith) (omega (arith, length-append words back))

one_few : (b : Bool) (words : List (List ℕ)) → LeavesAtMost (cond b (Ok words) (Err (length words + 1))) (length words + 1)
one_few true words = omega arith
one_few false words = omega arith

one_first : (k : Kind) (back : List (List ℕ)) → LeavesAtMost (left_by (place.One k) back) (length back)
one_first k [] = omega arith
one_first k (word ∷ words) =
    let same : length (word ∷ words) ≡ length words + 1 = omega arith in
    rw same (one_few (takes k word) words)

one_leaves : (k : Kind) (front back : List (List ℕ)) → Leaves (left_by (place.One k) front) back (left_by (place.One k) (front ++ back))
one_leaves k [] back = one_first k back
one_leaves k (word ∷ words) back = one_by (takes k word) words back

few_left : (o : Option ℕ) (n : ℕ) → AtMost o n → LeavesAtMost (none_left o) n
few_left None n few = omega arith
few_left (Some left) n few = few

none_leaves : (o : Option ℕ) (back : List (List ℕ)) (after : Option ℕ) → Follows o back after → Leaves (none_left o) back (none_left after)
none_leaves None back after few = few_left after (length back) few
none_leaves (Some zero) back after few = few_left after (length back) few
none_leaves (Some (suc left)) back after e = ap none_left e

all_leave : (r : Result (List (List ℕ)) ℕ) (back : List (List ℕ)) (after : Result (List (List ℕ)) ℕ) → LeavesNone r → LeavesAtMost after (length back) → Leaves r back after
all_leave (Ok []) back after none few = few
all_leave (Ok (word ∷ rest)) back after none few = absurd none
all_leave (Err zero) back after none few = few
all_leave (Err (suc left)) back after none few = absurd none

-- how many words stand first that are of a kind, alone and with others behind: the same number, or all of them
abbrev pub Passes : ℕ → ℕ → ℕ → Type 0
Passes n p q = ((p < n) × (q ≡ p)) ⊎ ((p ≡ n) × (n ≤ q))

pub passes : (k : Kind) (front back : List (List ℕ)) → Passes (length front) (prefix_len (takes k) front) (prefix_len (takes k) (front ++ back))
passes k front back = grind (arith, nat_tests, prefix_len-append (takes k) front back, prefix_len-le-length (takes k) front)

-- a place of words of a kind
past_few : (c : Bool) (q m n : ℕ) (words : List (List ℕ)) → (q == 0) ≡ c → length words ≡ m + n → m ≤ q → LeavesAtMost (cond c (Err (length words)) (Ok (drop q words))) n
past_few true q m n words is e more = grind (arith, nat_tests)
past_few false q m n words is e more = omega (arith, length-drop q words)

many_none : (b : Bool) (p : ℕ) (front : List (List ℕ)) → (p == 0) ≡ b → p ≡ length front → LeavesNone (cond b (Err (length front)) (Ok (drop p front)))
many_none true p front is e =
    let none : length front ≡ 0 = grind (arith, nat_tests) in
    rw none tt
many_none false p front is e = rw (drop_all p front (omega arith)) tt

many_same : (b : Bool) (p : ℕ) (front back : List (List ℕ)) → p < length front
    → Leaves (cond b (Err (length front)) (Ok (drop p front))) back (cond b (Err (length (front ++ back))) (Ok (drop p (front ++ back))))
many_same true p front back less = stop_leaves (length front) (length (front ++ back)) back (omega arith) (length-append front back)
many_same false p front back less = rw (drop-append-le p front back (omega arith)) (rest_leaves (drop p front) back)

many_by : (p q : ℕ) (front back : List (List ℕ)) → Passes (length front) p q
    → Leaves (cond (p == 0) (Err (length front)) (Ok (drop p front))) back (cond (q == 0) (Err (length (front ++ back))) (Ok (drop q (front ++ back))))
many_by p q front back (inl some) = rw some.1 (many_same (p == 0) p front back some.0)
many_by p q front back (inr whole) =
    all_leave (cond (p == 0) (Err (length front)) (Ok (drop p front))) back (cond (q == 0) (Err (length (front ++ back))) (Ok (drop q (front ++ back))))
    (many_none (p == 0) p front refl whole.0) (past_few (q == 0) q (length front) (length back) (front ++ back) refl (length-append front back) whole.1)

many_leaves : (k : Kind) (front back : List (List ℕ)) → Leaves (left_by (place.Many k) front) back (left_by (place.Many k) (front ++ back))
many_leaves k front back = many_by (prefix_len (takes k) front) (prefix_len (takes k) (front ++ back)) front back (passes k front back)

-- a place of as many words as a number tells
count_few : (b : Bool) (n p : ℕ) (words : List (List ℕ)) → LeavesAtMost (cond b (Ok (drop n words)) (Err (length words - p))) (length words + 1)
count_few true n p words = omega (arith, length-drop n words)
count_few false n p words = omega arith

counted_few : (o : Option ℕ) (k : Kind) (words : List (List ℕ)) → LeavesAtMost (left_by_counted o k words) (length words + 1)
counted_few None k words = omega arith
counted_few (Some n) k words = count_few (nat_le n (prefix_len (takes k) words)) n (prefix_len (takes k) words) words

counted_first : (k : Kind) (back : List (List ℕ)) → LeavesAtMost (left_by (place.Counted k) back) (length back)
counted_first k [] = omega arith
counted_first k (number ∷ words) =
    let same : length (number ∷ words) ≡ length words + 1 = omega arith in
    rw same (counted_few (count_of number) k words)

count_by : (b c : Bool) (n p q : ℕ) (words back : List (List ℕ)) → nat_le n p ≡ b → nat_le n q ≡ c → p ≤ length words → Passes (length words) p q
    → Leaves (cond b (Ok (drop n words)) (Err (length words - p))) back (cond c (Ok (drop n (words ++ back))) (Err (length (words ++ back) - q)))
count_by true true n p q words back is so within pass =
    let few : n ≤ length words = grind (arith, nat_tests) in
    rw (drop-append-le n words back few) (rest_leaves (drop n words) back)
count_by true false n p q words back is so within pass = absurd (grind (arith, nat_tests))
count_by false true n p q words back is so within (inl some) = absurd (grind (arith, nat_tests, some.0, some.1))
count_by false true n p q words back is so within (inr whole) =
    let none : length words - p ≡ 0 = omega (arith, whole.0) in
    let past : length words ≤ n = grind (arith, nat_tests, whole.0) in
    rw none (omega (arith, length-drop n (words ++ back), length-append words back))
count_by false false n p q words back is so within (inl some) =
    stop_leaves (length words - p) (length (words ++ back) - q) back (omega (arith, some.0)) (omega (arith, some.0, some.1, length-append words back))
count_by false false n p q words back is so within (inr whole) =
    let none : length words - p ≡ 0 = omega (arith, whole.0) in
    rw none (omega (arith, whole.1, length-append words back))

counted_by : (o : Option ℕ) (k : Kind) (words back : List (List ℕ)) → Leaves (left_by_counted o k words) back (left_by_counted o k (words ++ back))
counted_by None k words back = stop_leaves (length words + 1) (length (words ++ back) + 1) back (omega arith) (omega (arith, length-append words back))
counted_by (Some n) k words back =
    count_by (nat_le n (prefix_len (takes k) words)) (nat_le n (prefix_len (takes k) (words ++ back))) n (prefix_len (takes k) words) (prefix_len (takes k) (words ++ back)) words back
    refl refl (prefix_len-le-length (takes k) words) (passes k words back)

counted_leaves : (k : Kind) (front back : List (List ℕ)) → Leaves (left_by (place.Counted k) front) back (left_by (place.Counted k) (front ++ back))
counted_leaves k [] back = counted_first k back
counted_leaves k (number ∷ words) back = counted_by (count_of number) k words back

-- the parts of `if`
end_taken : (b : Bool) → AllTaken (cond b None (Some 0))
end_taken true = tt
end_taken false = tt

end_few : (b : Bool) (n : ℕ) → AtMost (cond b None (Some 0)) n
end_few true n = tt
end_few false n = omega arith

part_few : (o : Option Part) (words : List (List ℕ)) → ((p : Part) → AtMost (stuck_from words p) (length words))
    → AtMost (go_on o (stuck_from words) (length words + 1)) (length words + 1)
part_few None words each = omega arith
part_few (Some p) words each = few_by (stuck_from words p) (length words) (length words + 1) (omega arith) (each p)

parts_few : (words : List (List ℕ)) (p : Part) → AtMost (stuck_from words p) (length words)
parts_few [] p = end_few (is_whole p) 0
parts_few (word ∷ words) p =
    let same : length (word ∷ words) ≡ length words + 1 = omega arith in
    rw same (part_few (next p word) words (parts_few words))

part_follows : (o : Option Part) (words back : List (List ℕ)) → ((p : Part) → Follows (stuck_from words p) back (stuck_from (words ++ back) p))
    → Follows (go_on o (stuck_from words) (length words + 1)) back (go_on o (stuck_from (words ++ back)) (length (words ++ back) + 1))
part_follows None words back each = stop_follows (length words + 1) (length (words ++ back) + 1) back (omega arith) (omega (arith, length-append words back))
part_follows (Some p) words back each = each p

parts_follow : (front back : List (List ℕ)) (p : Part) → Follows (stuck_from front p) back (stuck_from (front ++ back) p)
parts_follow [] back p = all_follow (cond (is_whole p) None (Some 0)) back (stuck_from back p) (end_taken (is_whole p)) (parts_few back p)
parts_follow (word ∷ words) back p = part_follows (next p word) words back (parts_follow words back)

-- options
key_few : (o : Option Kind) → AtMost (stuck_key o) 1
key_few None = omega arith
key_few (Some k) = omega arith

value_few : (b : Bool) (o : Option ℕ) (n : ℕ) → AtMost o n → AtMost (cond b o (Some (n + 1))) (n + 1)
value_few true o n few = few_by o n (n + 1) (omega arith) few
value_few false o n few = omega arith

pair_few : (o : Option Kind) (value : List ℕ) (words : List (List ℕ)) (more : Option ℕ) → AtMost more (length words)
    → AtMost (stuck_pair o value words more) (length words + 2)
pair_few None value words more few = omega arith
pair_few (Some k) value words more few =
    few_by (cond (takes k value) more (Some (length words + 1))) (length words + 1) (length words + 2) (omega arith) (value_few (takes k value) more (length words) few)

options_few : (cs : List Choice) (words : List (List ℕ)) → AtMost (stuck_options cs words) (length words)
options_few cs [] = tt
options_few cs (key ∷ []) = key_few (kind_of_option cs key)
options_few cs (key ∷ value ∷ words) =
    let same : length (key ∷ value ∷ words) ≡ length words + 2 = omega arith in
    rw same (pair_few (kind_of_option cs key) value words (stuck_options cs words) (options_few cs words))

key_alone : (o : Option Kind) → Follows (stuck_key o) [] (stuck_key o)
key_alone None = stop_follows 1 1 [] (omega arith) (omega arith)
key_alone (Some k) = omega arith

key_follows : (o : Option Kind) (value : List ℕ) (words : List (List ℕ)) (more : Option ℕ) → AtMost more (length words)
    → Follows (stuck_key o) (value ∷ words) (stuck_pair o value words more)
key_follows None value words more few = stop_follows 1 (length words + 2) (value ∷ words) (omega arith) (omega arith)
key_follows (Some k) value words more few =
    let same : length (value ∷ words) ≡ length words + 1 = omega arith in
    rw same (value_few (takes k value) more (length words) few)

value_follows : (b : Bool) (words back : List (List ℕ)) (o more : Option ℕ) → Follows o back more
    → Follows (cond b o (Some (length words + 1))) back (cond b more (Some (length (words ++ back) + 1)))
value_follows true words back o more follows = follows
value_follows false words back o more follows =
    stop_follows (length words + 1) (length (words ++ back) + 1) back (omega arith) (omega (arith, length-append words back))

pair_follows : (o : Option Kind) (value : List ℕ) (words back : List (List ℕ)) (here more : Option ℕ) → Follows here back more
    → Follows (stuck_pair o value words here) back (stuck_pair o value (words ++ back) more)
pair_follows None value words back here more follows =
    stop_follows (length words + 2) (length (words ++ back) + 2) back (omega arith) (omega (arith, length-append words back))
pair_follows (Some k) value words back here more follows = value_follows (takes k value) words back here more follows

options_follow : (cs : List Choice) (front back : List (List ℕ)) → Follows (stuck_options cs front) back (stuck_options cs (front ++ back))
options_follow cs [] back = options_few cs back
options_follow cs (key ∷ []) [] = key_alone (kind_of_option cs key)
options_follow cs (key ∷ []) (value ∷ words) = key_follows (kind_of_option cs key) value words (stuck_options cs words) (options_few cs words)
options_follow cs (key ∷ value ∷ words) back =
    pair_follows (kind_of_option cs key) value words back (stuck_options cs words) (stuck_options cs (words ++ back)) (options_follow cs words back)

-- what a place leaves
left_follows : (p : Place) (front back : List (List ℕ)) → Leaves (left_by p front) back (left_by p (front ++ back))
left_follows (place.One k) front back = one_leaves k front back
left_follows (place.Many k) front back = many_leaves k front back
left_follows (place.Counted k) front back = counted_leaves k front back
left_follows place.Rest front back = omega arith
left_follows place.Branches front back = none_leaves (stuck_branches front) back (stuck_branches (front ++ back)) (parts_follow front back part.Condition)
left_follows (place.Options o) front back =
    none_leaves (stuck_options (choices_in o) front) back (stuck_options (choices_in o) (front ++ back)) (options_follow (choices_in o) front back)
left_follows (place.SomeOptions o) [] [] = omega arith
left_follows (place.SomeOptions o) [] (word ∷ words) = few_left (stuck_options (choices_in o) (word ∷ words)) (length (word ∷ words)) (options_few (choices_in o) (word ∷ words))
left_follows (place.SomeOptions o) (word ∷ words) back =
    none_leaves (stuck_options (choices_in o) (word ∷ words)) back (stuck_options (choices_in o) (word ∷ (words ++ back))) (options_follow (choices_in o) (word ∷ words) back)

-- no words are taken by every form
pub none_stuck : (places : List Place) → AllTaken (stuck places [])
none_stuck [] = tt
none_stuck (place.One k ∷ places) = tt
none_stuck (place.Many k ∷ places) = tt
none_stuck (place.Counted k ∷ places) = tt
none_stuck (place.Rest ∷ places) = none_stuck places
none_stuck (place.Branches ∷ places) = tt
none_stuck (place.Options o ∷ places) = none_stuck places
none_stuck (place.SomeOptions o ∷ places) = tt

few_from : (taken : Option ℕ) (back : List (List ℕ)) (after : Option ℕ) → AllTaken taken → Follows taken back after → AtMost after (length back)
few_from None back after all few = few
few_from (Some zero) back after all few = few
few_from (Some (suc left)) back after all e = absurd all

-- where the places behind one take no more
behind_few : (places : List Place) (after : Result (List (List ℕ)) ℕ) (n : ℕ) → ((words : List (List ℕ)) → AtMost (stuck places words) (length words))
    → LeavesAtMost after n → AtMost (behind (stuck places) after) n
behind_few places (Ok rest) n each few = few_by (stuck places rest) (length rest) n few (each rest)
behind_few places (Err left) n each few = few

behind_follows : (places : List Place) (r : Result (List (List ℕ)) ℕ) (back : List (List ℕ)) (after : Result (List (List ℕ)) ℕ)
    → ((front back : List (List ℕ)) → Follows (stuck places front) back (stuck places (front ++ back))) → Leaves r back after
    → Follows (behind (stuck places) r) back (behind (stuck places) after)
behind_follows places (Ok []) back after each few =
    all_follow (stuck places []) back (behind (stuck places) after) (none_stuck places)
    (behind_few places after (length back) (λ words. few_from (stuck places []) words (stuck places words) (none_stuck places) (each [] words)) few)
behind_follows places (Ok (word ∷ rest)) back after each e = rw e (each (word ∷ rest) back)
behind_follows places (Err zero) back after each few =
    behind_few places after (length back) (λ words. few_from (stuck places []) words (stuck places words) (none_stuck places) (each [] words)) few
behind_follows places (Err (suc left)) back after each e = ap (behind (stuck places)) e

-- how many words a form leaves of words that others follow
pub stuck_follows : (places : List Place) (front back : List (List ℕ)) → Follows (stuck places front) back (stuck places (front ++ back))
stuck_follows [] [] [] = tt
stuck_follows [] [] (word ∷ words) = omega arith
stuck_follows [] (word ∷ words) back = stop_follows (length words + 1) (length (words ++ back) + 1) back (omega arith) (omega (arith, length-append words back))
stuck_follows (p ∷ places) front back = behind_follows places (left_by p front) back (left_by p (front ++ back)) (stuck_follows places) (left_follows p front back)

pub stuck_few : (places : List Place) (words : List (List ℕ)) → AtMost (stuck places words) (length words)
stuck_few places words = few_from (stuck places []) words (stuck places words) (none_stuck places) (stuck_follows places [] words)
