-- Words that begin a form are of it with some further words.
use Rattle.std.proofs.Common.{◌≡◌, ◌∙◌, ◌+◌, ◌-◌, ◌==◌, ◌<◌, ◌≤◌, ◌||◌, ⊎_elim, Bool, true, false, cond, ℕ, Option, Some, None, Ok, Err, List, [], ◌∷◌, ◌++◌, length, length-append, drop, refl, replicate, sym, ap, arith}
use Rattle.std.specs.Prelude.{codes, nat_le}
use Rattle.std.specs.List.{list_all, list_any, prefix_len}
use Rattle.std.specs.Option.{is_none}
use Rattle.std.specs.Str.{bytes_eq}
use Rattle.std.proofs.lemmas.Bool.{and_parts, cases_lt}
use Rattle.std.proofs.lemmas.Bool.Decides.{nat_tests}
use Rattle.std.proofs.lemmas.List.{append-nil, append_assoc, drop-append-le, drop_all, drop_at, length-replicate}
use Rattle.std.proofs.lemmas.List.Folds.{prefix_len-append, prefix_len-replicate}
use Rattle.std.proofs.lemmas.List.Sums.{prefix_len-le-length}
use Rattle.std.proofs.lemmas.Slice.Eq.{bytes_eq-Decides}
use Rattle.fx_num.specs.Decimal.{decimal_of, decimal_units, read_count, read_number}
use Rattle.fx_num.specs.Rounding.{nearest_of}
use Rattle.command_words.specs.Branches.{go_on, next, stuck_branches, stuck_from}
use Rattle.command_words.specs.Forms.{places_of}
use Rattle.command_words.specs.Options.{choices_in, kind_of_option}
use Rattle.command_words.specs.Ranges.{is_count, is_id_range, is_kind_range}
use Rattle.command_words.specs.Places.{behind, count_of, from_one, is_number, left_by_count, left_by_counted, none_left, stuck, stuck_key, stuck_options, stuck_pair, takes}
use Rattle.command_words.specs.Prefixes.{begin_a_form, begin_form, have_a_form, have_form, is_taken}
use Rattle.command_words.specs.Vocabulary.{is_among, text_of, words_in}
use Rattle.command_words.specs.declared.branches.Part.{Part}
use Rattle.command_words.specs.declared.branches.Part.TheVariants as part
use Rattle.command_words.specs.declared.forms.Form.{Form}
use Rattle.command_words.specs.declared.forms.TheConstants.{FORMS}
use Rattle.command_words.specs.declared.options.Choice.{Choice}
use Rattle.command_words.specs.declared.options.Options.{Options}
use Rattle.command_words.specs.declared.options.Options.TheVariants as options
use Rattle.command_words.specs.declared.places.Kind.{Kind}
use Rattle.command_words.specs.declared.places.Kind.TheVariants as kind
use Rattle.command_words.specs.declared.places.Place.{Place}
use Rattle.command_words.specs.declared.places.Place.TheVariants as place
use Rattle.command_words.specs.declared.vocabulary.Word.{Word}
use Rattle.command_words.specs.declared.vocabulary.Word.TheVariants as name
use Rattle.command_words.specs.declared.vocabulary.Words.{Words}
use Rattle.command_words.specs.declared.vocabulary.Words.TheVariants as set
use Rattle.command_words.proofs.BadWordLemmas.{any_behind, any_here, taken_by}
use Rattle.command_words.proofs.PrefixLemmas.{none_stuck, passes}

-- a word of each kind
first_of : List Word → Word
first_of [] = name.Lj
first_of (w ∷ words) = w

sample : Kind → List ℕ
unfolding first_of
sample (kind.Fixed w) = text_of w
sample (kind.OneOf words) = text_of (first_of (words_in words))
sample kind.Name = codes "a"
sample kind.File = codes "a"
sample kind.Compute = codes "c_a"
sample (kind.ComputeOr words) = codes "c_a"
sample kind.Number = codes "1"
sample (kind.NumberOr words) = codes "1"
sample kind.Whole = codes "1"
sample (kind.WholeOr words) = codes "1"
sample kind.Kinds = codes "1"
sample kind.Ids = codes "1"
sample kind.Any = []

same_text : (text : List ℕ) → bytes_eq text text ≡ true
same_text text = (bytes_eq-Decides text text).1 refl

among_first : (words : Words) → is_among words (text_of (first_of (words_in words))) ≡ true
unfolding first_of
among_first set.Boundary = refl
among_first set.AtomStyles = refl
among_first set.Lattices = refl
among_first set.Star = refl
among_first set.Open = refl
among_first set.Null = refl
among_first set.Weights = refl
among_first set.Bins = refl
among_first set.Sides = refl
among_first set.Scales = refl
among_first set.YesNo = refl
among_first set.Mixes = refl
among_first set.Loops = refl
among_first set.ThermoKeys = refl
among_first set.DumpKeys = refl

number_one : is_number (codes "1") ≡ true
unfolding read_number decimal_of decimal_units nearest_of
number_one = refl

count_one : read_count (codes "1") ≡ Ok 1
unfolding read_count
count_one = refl

whole_one : is_count (codes "1") ≡ true
unfolding read_count
whole_one = refl

kinds_one : is_kind_range (codes "1") ≡ true
unfolding read_count
kinds_one = refl

ids_one : is_id_range (codes "1") ≡ true
unfolding read_count
ids_one = refl

takes_sample : (k : Kind) → takes k (sample k) ≡ true
unfolding sample
takes_sample (kind.Fixed w) = same_text (text_of w)
takes_sample (kind.OneOf words) = among_first words
takes_sample kind.Name = refl
takes_sample kind.File = refl
takes_sample kind.Compute = refl
takes_sample (kind.ComputeOr words) = any_behind (is_among words (codes "c_a")) true refl
takes_sample kind.Number = number_one
takes_sample (kind.NumberOr words) = any_behind (is_among words (codes "1")) (is_number (codes "1")) number_one
takes_sample kind.Whole = whole_one
takes_sample (kind.WholeOr words) = any_behind (is_among words (codes "1")) (is_count (codes "1")) whole_one
takes_sample kind.Kinds = kinds_one
takes_sample kind.Ids = ids_one
takes_sample kind.Any = refl

one_counted : count_of (codes "1") ≡ Some 1
one_counted = ap from_one count_one

-- some further words, with which none is missing
abbrev Completes : (List (List ℕ) → Option ℕ) → List (List ℕ) → Type 0
Completes left words = (more : List (List ℕ)) × (left (words ++ more) ≡ None)

with_nothing : (left : List (List ℕ) → Option ℕ) (words : List (List ℕ)) → left words ≡ None → Completes left words
with_nothing left words e = ([], ap left (append-nil words) ∙ e)

-- the parts of `if`
last_words : Part → List (List ℕ)
last_words part.Condition = [] ∷ text_of name.Then ∷ [] ∷ []
last_words part.Then = text_of name.Then ∷ [] ∷ []
last_words part.First = [] ∷ []
last_words part.More = []
last_words part.Other = [] ∷ text_of name.Then ∷ [] ∷ []
last_words part.Last = [] ∷ []
last_words part.Rest = []

last_words_end : (p : Part) → stuck_from (last_words p) p ≡ None
unfolding last_words
last_words_end part.Condition = refl
last_words_end part.Then = refl
last_words_end part.First = refl
last_words_end part.More = refl
last_words_end part.Other = refl
last_words_end part.Last = refl
last_words_end part.Rest = refl

step_completes : (o : Option Part) (words : List (List ℕ)) → ((p : Part) → is_taken (stuck_from words p) ≡ true → Completes (λ all. stuck_from all p) words)
    → is_taken (go_on o (stuck_from words) (length words + 1)) ≡ true
    → (more : List (List ℕ)) × (go_on o (stuck_from (words ++ more)) (length (words ++ more) + 1) ≡ None)
step_completes None words each e = absurd (grind (arith, nat_tests))
step_completes (Some p) words each e = each p e

parts_complete : (words : List (List ℕ)) (p : Part) → is_taken (stuck_from words p) ≡ true → Completes (λ all. stuck_from all p) words
parts_complete [] p e = (last_words p, last_words_end p)
parts_complete (word ∷ words) p e = step_completes (next p word) words (parts_complete words) e

-- options
pair_done : (o : Option Kind) (k : Kind) (value : List ℕ) → o ≡ Some k → takes k value ≡ true → stuck_pair o value [] None ≡ None
pair_done o k value e f = rw (e, f) refl

key_completes : (cs : List Choice) (o : Option Kind) (key : List ℕ) → kind_of_option cs key ≡ o → is_taken (stuck_key o) ≡ true → Completes (stuck_options cs) (key ∷ [])
key_completes cs None key is e = absurd (cc)
key_completes cs (Some k) key is e = (sample k ∷ [], pair_done (kind_of_option cs key) k (sample k) is (takes_sample k))

value_completes : (b : Bool) (words : List (List ℕ)) (cs : List Choice) → (is_taken (stuck_options cs words) ≡ true → Completes (stuck_options cs) words)
    → is_taken (cond b (stuck_options cs words) (Some (length words + 1))) ≡ true
    → (more : List (List ℕ)) × (cond b (stuck_options cs (words ++ more)) (Some (length (words ++ more) + 1)) ≡ None)
value_completes true words cs each e = each e
value_completes false words cs each e = absurd (grind (arith, nat_tests))

pair_completes : (o : Option Kind) (value : List ℕ) (words : List (List ℕ)) (cs : List Choice) → (is_taken (stuck_options cs words) ≡ true → Completes (stuck_options cs) words)
    → is_taken (stuck_pair o value words (stuck_options cs words)) ≡ true
    → (more : List (List ℕ)) × (stuck_pair o value (words ++ more) (stuck_options cs (words ++ more)) ≡ None)
pair_completes None value words cs each e = absurd (grind (arith, nat_tests))
pair_completes (Some k) value words cs each e = value_completes (takes k value) words cs each e

options_complete : (cs : List Choice) (words : List (List ℕ)) → is_taken (stuck_options cs words) ≡ true → Completes (stuck_options cs) words
options_complete cs [] e = ([], refl)
options_complete cs (key ∷ []) e = key_completes cs (kind_of_option cs key) key refl e
options_complete cs (key ∷ value ∷ words) e = pair_completes (kind_of_option cs key) value words cs (options_complete cs words) e

first_option : (c : Choice) (cs : List Choice) → kind_of_option (c ∷ cs) (text_of c.word) ≡ Some c.kind
first_option c cs = rw (same_text (text_of c.word)) refl

one_option : (c : Choice) (cs : List Choice) → stuck_options (c ∷ cs) (text_of c.word ∷ sample c.kind ∷ []) ≡ None
one_option c cs = pair_done (kind_of_option (c ∷ cs) (text_of c.word)) c.kind (sample c.kind) (first_option c cs) (takes_sample c.kind)

some_options : (o : Options) → (c : Choice) × (cs : List Choice) × (choices_in o ≡ c ∷ cs)
some_options options.Region = (_, _, refl)
some_options options.Units = (_, _, refl)
some_options options.Box = (_, _, refl)
some_options options.Pair = (_, _, refl)
some_options options.Neigh = (_, _, refl)
some_options options.Draw = (_, _, refl)
some_options options.Average = (_, _, refl)
some_options options.Thermo = (_, _, refl)
some_options options.Dump = (_, _, refl)

-- a form of places that can be met: a place that takes as many words as there are stands last, or before options
is_met : List Place → Bool
is_met [] = true
is_met (place.One k ∷ places) = is_met places
is_met (place.Counted k ∷ places) = is_met places
is_met (place.Many k ∷ []) = true
is_met (place.Many k ∷ place.Options o ∷ []) = true
is_met (place.Rest ∷ []) = true
is_met (place.Branches ∷ []) = true
is_met (place.Options o ∷ []) = true
is_met (place.SomeOptions o ∷ []) = true
is_met (p ∷ places) = false

forms_are_met : list_all (λ f. is_met (places_of f)) FORMS.now ≡ true
unfolding is_met
forms_are_met = refl

-- places one after another
one_done : (k : Kind) (places : List Place) (more : List (List ℕ)) → stuck places more ≡ None → stuck (place.One k ∷ places) (sample k ∷ more) ≡ None
one_done k places more e = rw (takes_sample k) e

one_completes : (b : Bool) (places : List Place) (words : List (List ℕ)) → (is_taken (stuck places words) ≡ true → Completes (stuck places) words)
    → is_taken (behind (stuck places) (cond b (Ok words) (Err (length words + 1)))) ≡ true
    → (more : List (List ℕ)) × (behind (stuck places) (cond b (Ok (words ++ more)) (Err (length (words ++ more) + 1))) ≡ None)
one_completes true places words each e = each e
one_completes false places words each e = absurd (grind (arith, nat_tests))

counted_done : (o : Option ℕ) (k : Kind) (places : List Place) (more : List (List ℕ)) → o ≡ Some 1 → stuck places more ≡ None
    → behind (stuck places) (left_by_counted o k (sample k ∷ more)) ≡ None
counted_done o k places more is e =
    let few : nat_le 1 (1 + prefix_len (takes k) more) ≡ true = grind (arith, nat_tests) in
    rw (is, takes_sample k, few) e

-- as many words of the kind as are missing, and then the others
count_filled : (n : ℕ) (k : Kind) (places : List Place) (words more : List (List ℕ)) → prefix_len (takes k) words ≡ length words → length words < n → stuck places more ≡ None
    → behind (stuck places) (left_by_count n k (words ++ (replicate (n - length words) (sample k) ++ more))) ≡ None
count_filled n k places words more all few e =
    let fill : List (List ℕ) = replicate (n - length words) (sample k) in
    let filled : prefix_len (takes k) fill ≡ n - length words = prefix_len-replicate (takes k) (n - length words) (sample k) (takes_sample k) in
    let size : length fill ≡ n - length words = length-replicate (n - length words) (sample k) in
    let passed : n ≤ prefix_len (takes k) (words ++ (fill ++ more)) = grind (arith, nat_tests, prefix_len-append (takes k) words (fill ++ more), prefix_len-append (takes k) fill more) in
    let enough : nat_le n (prefix_len (takes k) (words ++ (fill ++ more))) ≡ true = grind (arith, nat_tests) in
    let whole : length (words ++ fill) ≡ n = omega (arith, length-append words fill) in
    let left : drop n (words ++ (fill ++ more)) ≡ more = ap (drop n) (sym (append_assoc words fill more)) ∙ drop_at (words ++ fill) more n whole in
    rw (enough, left) e

count_completes : (b : Bool) (n : ℕ) (k : Kind) (places : List Place) (words : List (List ℕ)) → nat_le n (prefix_len (takes k) words) ≡ b
    → ((rest : List (List ℕ)) → is_taken (stuck places rest) ≡ true → Completes (stuck places) rest)
    → is_taken (behind (stuck places) (cond b (Ok (drop n words)) (Err (length words - prefix_len (takes k) words)))) ≡ true
    → (more : List (List ℕ)) × (behind (stuck places) (left_by_count n k (words ++ more)) ≡ None)
count_completes true n k places words is each e =
    let m : Completes (stuck places) (drop n words) = each (drop n words) e in
    let enough : nat_le n (prefix_len (takes k) (words ++ m.0)) ≡ true = grind (arith, nat_tests, passes k words m.0) in
    let within : n ≤ length words = grind (arith, nat_tests, prefix_len-le-length (takes k) words) in
    (m.0, rw (enough, drop-append-le n words m.0 within) m.1)
count_completes false n k places words is each e =
    let all : prefix_len (takes k) words ≡ length words = grind (arith, nat_tests, prefix_len-le-length (takes k) words) in
    let few : length words < n = grind (arith, nat_tests) in
    let m : Completes (stuck places) [] = each [] (taken_by (stuck places []) (none_stuck places)) in
    (replicate (n - length words) (sample k) ++ m.0, count_filled n k places words m.0 all few m.1)

counted_completes : (o : Option ℕ) (k : Kind) (places : List Place) (words : List (List ℕ))
    → ((rest : List (List ℕ)) → is_taken (stuck places rest) ≡ true → Completes (stuck places) rest)
    → is_taken (behind (stuck places) (left_by_counted o k words)) ≡ true
    → (more : List (List ℕ)) × (behind (stuck places) (left_by_counted o k (words ++ more)) ≡ None)
counted_completes None k places words each e = absurd (grind (arith, nat_tests))
counted_completes (Some n) k places words each e = count_completes (nat_le n (prefix_len (takes k) words)) n k places words refl each e

-- the last place of a form
alone : (o : Option ℕ) → behind (stuck []) (none_left o) ≡ o
alone None = refl
alone (Some left) = refl

none_behind : (rest : List (List ℕ)) → is_taken (stuck [] rest) ≡ true → stuck [] rest ≡ None
none_behind [] e = refl
none_behind (word ∷ rest) e = absurd (grind (arith, nat_tests))

many_done : (k : Kind) (places : List Place) → stuck places [] ≡ None → stuck (place.Many k ∷ places) (sample k ∷ []) ≡ None
many_done k places e = rw (takes_sample k) e

many_last : (b : Bool) (p : ℕ) (word : List ℕ) (words : List (List ℕ)) → is_taken (behind (stuck []) (cond b (Err (length (word ∷ words))) (Ok (drop p (word ∷ words))))) ≡ true
    → behind (stuck []) (cond b (Err (length (word ∷ words))) (Ok (drop p (word ∷ words)))) ≡ None
many_last true p word words e = absurd (grind (arith, nat_tests))
many_last false p word words e = none_behind (drop p (word ∷ words)) e

options_completed : (o : Options) (words : List (List ℕ)) → is_taken (stuck (place.Options o ∷ []) words) ≡ true → Completes (stuck (place.Options o ∷ [])) words
options_completed o words e =
    let m : Completes (stuck_options (choices_in o)) words = options_complete (choices_in o) words (ap is_taken (sym (alone (stuck_options (choices_in o) words))) ∙ e) in
    (m.0, alone (stuck_options (choices_in o) (words ++ m.0)) ∙ m.1)

many_options : (b : Bool) (k : Kind) (o : Options) (word : List ℕ) (words : List (List ℕ)) → (prefix_len (takes k) (word ∷ words) == 0) ≡ b
    → is_taken (behind (stuck (place.Options o ∷ [])) (cond b (Err (length (word ∷ words))) (Ok (drop (prefix_len (takes k) (word ∷ words)) (word ∷ words))))) ≡ true
    → Completes (stuck (place.Many k ∷ place.Options o ∷ [])) (word ∷ words)
many_options true k o word words is e = absurd (grind (arith, nat_tests))
many_options false k o word words is e =
    ⊎_elim
    (λ some.
    let m : Completes (stuck (place.Options o ∷ [])) (drop (prefix_len (takes k) (word ∷ words)) (word ∷ words)) = options_completed o (drop (prefix_len (takes k) (word ∷ words)) (word ∷ words)) e in
    let same : prefix_len (takes k) ((word ∷ words) ++ m.0) ≡ prefix_len (takes k) (word ∷ words) = grind (arith, passes k (word ∷ words) m.0) in
    let left : drop (prefix_len (takes k) (word ∷ words)) ((word ∷ words) ++ m.0) ≡ drop (prefix_len (takes k) (word ∷ words)) (word ∷ words) ++ m.0 =
    drop-append-le (prefix_len (takes k) (word ∷ words)) (word ∷ words) m.0 (omega arith) in
    (m.0, many_behind (prefix_len (takes k) ((word ∷ words) ++ m.0)) (prefix_len (takes k) (word ∷ words)) o ((word ∷ words) ++ m.0) (drop (prefix_len (takes k) (word ∷ words)) (word ∷ words) ++ m.0) same is left m.1))
    (λ all.
    with_nothing (stuck (place.Many k ∷ place.Options o ∷ [])) (word ∷ words)
    (many_behind (prefix_len (takes k) (word ∷ words)) (prefix_len (takes k) (word ∷ words)) o (word ∷ words) [] refl is (drop_all (prefix_len (takes k) (word ∷ words)) (word ∷ words) all) refl))
    (cases_lt (prefix_len (takes k) (word ∷ words)) (length (word ∷ words)))
  where
    many_behind : (q p : ℕ) (o : Options) (words rest : List (List ℕ)) → q ≡ p → (p == 0) ≡ false → drop p words ≡ rest → stuck (place.Options o ∷ []) rest ≡ None
        → behind (stuck (place.Options o ∷ [])) (cond (q == 0) (Err (length words)) (Ok (drop q words))) ≡ None
    many_behind q p o words rest same some left e = rw (same, some, left) e

many_completes : (k : Kind) (places : List Place) (words : List (List ℕ)) → is_met (place.Many k ∷ places) ≡ true → is_taken (stuck (place.Many k ∷ places) words) ≡ true
    → Completes (stuck (place.Many k ∷ places)) words
unfolding is_met
many_completes k [] [] met e = (sample k ∷ [], many_done k [] refl)
many_completes k [] (word ∷ words) met e =
    with_nothing (stuck (place.Many k ∷ [])) (word ∷ words) (many_last (prefix_len (takes k) (word ∷ words) == 0) (prefix_len (takes k) (word ∷ words)) word words e)
many_completes k (place.Options o ∷ []) [] met e = (sample k ∷ [], many_done k (place.Options o ∷ []) refl)
many_completes k (place.Options o ∷ []) (word ∷ words) met e = many_options (prefix_len (takes k) (word ∷ words) == 0) k o word words refl e
many_completes k (p ∷ places) words met e = absurd (cc)

some_options_complete : (o : Options) (words : List (List ℕ)) → is_taken (stuck (place.SomeOptions o ∷ []) words) ≡ true → Completes (stuck (place.SomeOptions o ∷ [])) words
some_options_complete o [] e =
    let c = some_options o in
    let more : List (List ℕ) = text_of c.0.word ∷ sample c.0.kind ∷ [] in
    (more, alone (stuck_options (choices_in o) more) ∙ ap (λ (cs : List Choice). stuck_options cs more) c.2 ∙ one_option c.0 c.1)
some_options_complete o (word ∷ words) e =
    let m : Completes (stuck_options (choices_in o)) (word ∷ words) =
    options_complete (choices_in o) (word ∷ words) (ap is_taken (sym (alone (stuck_options (choices_in o) (word ∷ words)))) ∙ e) in
    (m.0, alone (stuck_options (choices_in o) ((word ∷ words) ++ m.0)) ∙ m.1)

places_complete : (places : List Place) → is_met places ≡ true → (words : List (List ℕ)) → is_taken (stuck places words) ≡ true → Completes (stuck places) words
unfolding is_met
places_complete [] met [] e = ([], refl)
places_complete [] met (word ∷ words) e = absurd (grind (arith, nat_tests))
places_complete (place.One k ∷ places) met [] e =
    let m : Completes (stuck places) [] = places_complete places met [] (taken_by (stuck places []) (none_stuck places)) in
    (sample k ∷ m.0, one_done k places m.0 m.1)
places_complete (place.One k ∷ places) met (word ∷ words) e = one_completes (takes k word) places words (places_complete places met words) e
places_complete (place.Counted k ∷ places) met [] e =
    let m : Completes (stuck places) [] = places_complete places met [] (taken_by (stuck places []) (none_stuck places)) in
    (codes "1" ∷ sample k ∷ m.0, counted_done (count_of (codes "1")) k places m.0 one_counted m.1)
places_complete (place.Counted k ∷ places) met (number ∷ words) e = counted_completes (count_of number) k places words (places_complete places met) e
places_complete (place.Many k ∷ places) met words e = many_completes k places words met e
places_complete (place.Rest ∷ []) met words e = ([], refl)
places_complete (place.Rest ∷ p ∷ places) met words e = absurd (cc)
places_complete (place.Branches ∷ []) met words e =
    let m : Completes (λ all. stuck_from all part.Condition) words =
    parts_complete words part.Condition (ap is_taken (sym (alone (stuck_branches words))) ∙ e) in
    (m.0, alone (stuck_branches (words ++ m.0)) ∙ m.1)
places_complete (place.Branches ∷ p ∷ places) met words e = absurd (cc)
places_complete (place.Options o ∷ []) met words e = options_completed o words e
places_complete (place.Options o ∷ p ∷ places) met words e = absurd (cc)
places_complete (place.SomeOptions o ∷ []) met words e = some_options_complete o words e
places_complete (place.SomeOptions o ∷ p ∷ places) met words e = absurd (cc)

-- one of some forms
form_completes : (b : Bool) (f : Form) (forms : List Form) (words : List (List ℕ)) → begin_form words f ≡ b → is_met (places_of f) ≡ true
    → (list_any (begin_form words) forms ≡ true → (more : List (List ℕ)) × (list_any (have_form (words ++ more)) forms ≡ true))
    → (b || list_any (begin_form words) forms) ≡ true → (more : List (List ℕ)) × (list_any (have_form (words ++ more)) (f ∷ forms) ≡ true)
form_completes true f forms words is met each e =
    let m : Completes (stuck (places_of f)) words = places_complete (places_of f) met words is in
    (m.0, any_here (have_form (words ++ m.0) f) (list_any (have_form (words ++ m.0)) forms) (ap is_none m.1))
form_completes false f forms words is met each e =
    let m = each e in
    (m.0, any_behind (have_form (words ++ m.0) f) (list_any (have_form (words ++ m.0)) forms) m.1)

forms_complete : (forms : List Form) (words : List (List ℕ)) → list_all (λ f. is_met (places_of f)) forms ≡ true → list_any (begin_form words) forms ≡ true
    → (more : List (List ℕ)) × (list_any (have_form (words ++ more)) forms ≡ true)
forms_complete [] words met e = absurd (cc)
forms_complete (f ∷ forms) words met e =
    let both : (is_met (places_of f) ≡ true) × (list_all (λ g. is_met (places_of g)) forms ≡ true) = and_parts (is_met (places_of f)) (list_all (λ g. is_met (places_of g)) forms) met in
    form_completes (begin_form words f) f forms words refl both.0 (forms_complete forms words both.1) e

pub a_form_follows : (words : List (List ℕ)) → begin_a_form words ≡ true → (more : List (List ℕ)) × (have_a_form (words ++ more) ≡ true)
unfolding begin_a_form have_a_form
a_form_follows words e = forms_complete FORMS.now words forms_are_met e
