-- What holds of whatever judgements accept.
use Rattle.std.proofs.Common.{◌≡◌, ◌+◌, ◌≤◌, ◌==◌, ◌&&◌, ◌≤ℤ◌, Bool, true, false, cond, nat_le, int_le, ℕ, ℤ, pos, neg_ℤ, unsigned_abs, Result, Ok, Err, List, length, refl, subst, arith}
use Rattle.std.proofs.lemmas.Bool.Decides.{nat_tests}
use Rattle.std.proofs.lemmas.Int.{ints}
use Rattle.fx_num.specs.declared.decimal.NumError.{NumError}
use Rattle.fx_num.specs.declared.decimal.NumError.TheVariants.{NotNumber, TooManyDigits, OutOfRange}
use Rattle.fx_num.specs.Decimal.{read_count, read_number}
use Rattle.data_file.specs.declared.fault.DataFault.{DataFault}
use Rattle.data_file.specs.declared.fault.DataFault.TheVariants as fault
use Rattle.data_file.specs.Fields.{both, decimal_field, decimal_with, list3, made, vector, vector_field, whole_field, whole_with}
use Rattle.data_file.specs.Header.{counted, once, then}
use Rattle.data_file.specs.Rows.{unless}
use Rattle.box_geo.specs.Sides.{IsWithin}
use Rattle.data_file.specs.Words.{word}

-- what holds of a value that is accepted
abbrev pub On : {A : Type 0} → (A → Type 0) → Result A DataFault → Type 0
On P (Ok a) = P a
On P (Err why) = Unit {0}

pub on_ok : {A : Type 0} (P : A → Type 0) (r : Result A DataFault) (a : A) → On P r → r ≡ Ok a → P a
on_ok P (Ok b) a h e = let same : b ≡ a = cc in subst P same h
on_ok P (Err why) a h e = absurd cc

pub on_weaker : {A : Type 0} (P Q : A → Type 0) (r : Result A DataFault) → On P r → ((a : A) → P a → Q a) → On Q r
on_weaker P Q (Ok a) h g = g a h
on_weaker P Q (Err why) h g = tt

counted_by : {A : Type 0} (P : A → Type 0) (b : Bool) (r : Result A DataFault) (why : DataFault) → On P r → On P (cond b r (Err why))
counted_by P true r why h = h
counted_by P false r why h = tt

pub on_counted : {A : Type 0} (P : A → Type 0) (n : ℕ) (words : List (List ℕ)) (r : Result A DataFault) → On P r → On P (counted n words r)
on_counted P n words r h = counted_by P (length words == n) r fault.Count h

pub on_unless : {A : Type 0} (P : A → Type 0) (found : Bool) (why : DataFault) (r : Result A DataFault) → (found ≡ false → On P r) → On P (unless found why r)
on_unless P true why r h = tt
on_unless P false why r h = h refl

pub on_then : {A B : Type 0} (P : A → Type 0) (Q : B → Type 0) (r : Result A DataFault) (f : A → Result B DataFault) → On P r → ((a : A) → P a → On Q (f a)) → On Q (then r f)
on_then P Q (Ok a) f h g = g a h
on_then P Q (Err why) f h g = tt

pub on_made : {A B : Type 0} (P : A → Type 0) (Q : B → Type 0) (f : A → B) (r : Result A DataFault) → On P r → ((a : A) → P a → Q (f a)) → On Q (made f r)
on_made P Q f (Ok a) h g = g a h
on_made P Q f (Err why) h g = tt

pub on_both : {A B : Type 0} (P : A → Type 0) (Q : B → Type 0) (a : Result A DataFault) (b : Result B DataFault) → On P a → On Q b → On (λ (p : A × B). P p.0 × Q p.1) (both a b)
on_both P Q (Ok a) (Ok b) h g = (h, g)
on_both P Q (Ok a) (Err why) h g = tt
on_both P Q (Err why) (Ok b) h g = tt
on_both P Q (Err why) (Err what) h g = tt

pub on_once : {A : Type 0} (P : A → Type 0) (given : Bool) (a : A) → P a → On P (once given a)
on_once P true a h = tt
on_once P false a h = h

-- fields
cond_on : {A : Type 0} (P : A → Type 0) (b : Bool) (a : A) (why : DataFault) → (b ≡ true → P a) → On P (cond b (Ok a) (Err why))
cond_on P true a why h = h refl
cond_on P false a why h = tt

whole_on : (low high : ℕ) (r : Result ℕ NumError) → On (λ (n : ℕ). (low ≤ n) × (n ≤ high)) (whole_with low high r)
whole_on low high (Ok n) = cond_on (λ (m : ℕ). (low ≤ m) × (m ≤ high)) (nat_le low n && nat_le n high) n _ (λ t. grind (arith, nat_tests))
whole_on low high (Err why) = tt

pub on_whole : (low high : ℕ) (text : List ℕ) → On (λ (n : ℕ). (low ≤ n) × (n ≤ high)) (whole_field low high text)
unfolding whole_field
on_whole low high text = whole_on low high (read_count text)

decimal_on : (low high : ℤ) (r : Result ℤ NumError) → On (λ (v : ℤ). (low ≤ℤ v) × (v ≤ℤ high)) (decimal_with low high r)
decimal_on low high (Ok v) = cond_on (λ (w : ℤ). (low ≤ℤ w) × (w ≤ℤ high)) (int_le low v && int_le v high) v _ (λ t. grind (arith, ints, nat_tests))
decimal_on low high (Err NotNumber) = tt
decimal_on low high (Err TooManyDigits) = tt
decimal_on low high (Err OutOfRange) = tt

pub on_decimal : (low high : ℤ) (text : List ℕ) → On (λ (v : ℤ). (low ≤ℤ v) × (v ≤ℤ high)) (decimal_field low high text)
unfolding decimal_field
on_decimal low high text = decimal_on low high (read_number text)

-- vectors
abbrev Within : ℕ → ℤ → Type 0
Within bound v = unsigned_abs v ≤ bound

pub on_vector : (bound : ℕ) (a b c : Result ℤ DataFault) → On (Within bound) a → On (Within bound) b → On (Within bound) c → On (IsWithin bound) (vector a b c)
on_vector bound a b c p q r =
    on_made (λ (v : (ℤ × ℤ) × ℤ). (Within bound v.0.0 × Within bound v.0.1) × Within bound v.1) (IsWithin bound) list3 (both (both a b) c)
    (on_both (λ (v : ℤ × ℤ). Within bound v.0 × Within bound v.1) (Within bound) (both a b) c (on_both (Within bound) (Within bound) a b p q) r)
    (λ v h. (h.0.0, h.0.1, h.1))

between_within : (m : ℕ) (v : ℤ) → neg_ℤ (pos m) ≤ℤ v → v ≤ℤ pos m → unsigned_abs v ≤ m
between_within m v low high = omega (arith, ints)

within_on : (m : ℕ) (r : Result ℤ DataFault) → On (λ (v : ℤ). (neg_ℤ (pos m) ≤ℤ v) × (v ≤ℤ pos m)) r → On (Within m) r
within_on m (Ok v) h = between_within m v h.0 h.1
within_on m (Err why) h = tt

pub on_vector_field : (m k : ℕ) (words : List (List ℕ)) → On (IsWithin m) (vector_field (neg_ℤ (pos m)) (pos m) k words)
unfolding vector_field
on_vector_field m k words =
    let at : (text : List ℕ) → On (Within m) (decimal_field (neg_ℤ (pos m)) (pos m) text) = λ text. within_on m (decimal_field (neg_ℤ (pos m)) (pos m) text) (on_decimal (neg_ℤ (pos m)) (pos m) text) in
    on_vector m (decimal_field (neg_ℤ (pos m)) (pos m) (word k words)) (decimal_field (neg_ℤ (pos m)) (pos m) (word (k + 1) words)) (decimal_field (neg_ℤ (pos m)) (pos m) (word (k + 2) words)) (at (word k words)) (at (word (k + 1) words)) (at (word (k + 2) words))

pub on_any : {A : Type 0} (r : Result A DataFault) → On (λ (a : A). Unit {0}) r
on_any (Ok a) = tt
on_any (Err why) = tt
