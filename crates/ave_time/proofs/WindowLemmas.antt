-- Windows keep to their rules, and code finds their sample steps.
use Rattle.std.proofs.Common.{◌≡◌, inl, inr, ◌<◌, ◌≤◌, ◌+◌, ◌-◌, ◌*◌, ◌/◌, ◌%◌, ℕ, ℤ, zero, suc, pos, Bool, true, false, nat_eq, All, List, length, replicate, refl, sym, ◌∙◌, ap, arith, mul-div_cancel, mul-le-mul_left}
use Rattle.std.proofs.lemmas.Bool.Decides.{leb_tells, nat_tests}
use Rattle.std.proofs.lemmas.List.Elements.{All-replicate}
use Rattle.std.proofs.lemmas.List.{length-replicate}
use Rattle.std.proofs.Math.Nat.{add-mul-mod_self_left, mul-mod_left, mul-mod_right, mul-div-le}
use Rattle.box_geo.specs.declared.limits.TheConstants.{MAX_STEP}
use Rattle.ave_time.specs.Windows.{IsFirstAfter, IsSchedule, IsSmall, IsWindow, first_window, is_sample, next_window, sampled, samples_below}
use Rattle.ave_time.specs.declared.parts.WindowParts.{WindowParts}
use Rattle.ave_time.proofs.SampleLemmas.{below_bound, found, not_found}
use Rattle.ave_time.proofs.SumLemmas.{length-plus, small_plus}

pub sampled_window : (p : WindowParts) (values : List ℤ) → IsWindow p → p.samples + 1 < p.repeat → All (IsSmall 1) values → IsWindow (sampled p values)
sampled_window p values w more small = record {
  schedule = w.schedule;
  whole = w.whole;
  least = w.least;
  greatest = w.greatest;
  begun = more;
  some = omega (arith, w.some, length-plus p.sums values);
  few = omega (arith, w.few, length-plus p.sums values);
  small = small_plus p.samples p.sums values w.small small;
}

zeros_small : (n : ℕ) → All (IsSmall 0) (replicate n (pos 0))
zeros_small n = All-replicate (IsSmall 0) n (pos 0) (omega arith)

same_rest : (n d : ℕ) → n % d ≡ 0 → (n + d) % d ≡ 0
same_rest n d h = ap (λ m. m % d) one ∙ add-mul-mod_self_left n d 1 ∙ h
  where
    one : n + d ≡ n + d * 1
    one = omega arith

pub next_is_window : (p : WindowParts) → IsWindow p → p.end ≤ MAX_STEP → IsWindow (next_window p)
next_is_window p w last = record {
  schedule = w.schedule;
  whole = same_rest p.end p.freq w.whole;
  least = omega (arith, w.least);
  greatest = omega (arith, last, w.schedule.short);
  begun = w.schedule.some;
  some = omega (arith, w.some, length-replicate (length p.sums) (pos 0));
  few = omega (arith, w.few, length-replicate (length p.sums) (pos 0));
  small = zeros_small (length p.sums);
}

pub first_is_window : (every repeat freq values step : ℕ) → IsSchedule every repeat freq → 0 < values → values ≤ 255 → step ≤ MAX_STEP → IsWindow (first_window every repeat freq values step)
first_is_window every repeat freq values step h some few near = record {
  schedule = h;
  whole = same_rest (freq * start) freq (mul-mod_right freq start);
  least = omega arith;
  greatest = omega (arith, near, h.room, h.short, mul-div-le (step + (every * repeat - every)) freq);
  begun = h.some;
  some = omega (arith, some, length-replicate values (pos 0));
  few = omega (arith, few, length-replicate values (pos 0));
  small = zeros_small values;
}
  where
    start : ℕ
    start = (step + (every * repeat - every)) / freq

freq_above : (every repeat freq : ℕ) → IsSchedule every repeat freq → 0 < freq
freq_above every repeat freq h =
    let one : 1 ≤ repeat = omega (arith, h.some) in
    let least : every * 1 ≤ every * repeat = mul-le-mul_left every one in
    omega (arith, least, h.apart, h.room)

pub first_is_first : (every repeat freq values step : ℕ) → IsSchedule every repeat freq → IsFirstAfter step (first_window every repeat freq values step)
first_is_first every repeat freq values step h =
    let some : 0 < freq = freq_above every repeat freq h in
    record { after = omega (arith, some); first = omega (arith, some) }

-- a step that lies too many times `every` before the end is no sample step
pub too_early : (p : WindowParts) (step : ℕ) → IsWindow p → step ≤ p.end → p.repeat ≤ (p.end - step) / p.every → is_sample p step ≡ false
too_early p step w within far = not_found p.end p.every p.repeat step (omega (arith, w.schedule.room, w.least)) (λ k h e. never k h e)
  where
    never : (k : ℕ) → k < p.repeat → k * p.every + step ≡ p.end → ⊥
    never k h e =
        let gap : k * p.every ≡ p.end - step = omega (arith, e) in
        let same : k ≡ (p.end - step) / p.every = sym (mul-div_cancel k w.schedule.apart) ∙ ap (λ n. n / p.every) gap in
        omega (arith, h, far, same)

-- any other is one exactly where it lies whole times `every` before it
pub on_time : (p : WindowParts) (step : ℕ) → IsWindow p → step ≤ p.end → (p.end - step) / p.every < p.repeat → nat_eq ((p.end - step) % p.every) 0 ≡ is_sample p step
on_time p step w within near = both (nat_eq ((p.end - step) % p.every) 0) refl
  where
    both : (b : Bool) → nat_eq ((p.end - step) % p.every) 0 ≡ b → nat_eq ((p.end - step) % p.every) 0 ≡ is_sample p step
    both true is =
        let none_left : (p.end - step) % p.every ≡ 0 = grind (arith, nat_tests, is) in
        let place : (p.end - step) / p.every * p.every + step ≡ p.end = omega (arith, none_left, within, w.schedule.apart) in
        is ∙ sym (found p.end p.every p.repeat step ((p.end - step) / p.every) near place)
    both false is = is ∙ sym (not_found p.end p.every p.repeat step (omega (arith, w.schedule.room, w.least)) (λ k h e. never k e))
      where
        never : (k : ℕ) → k * p.every + step ≡ p.end → ⊥
        never k e =
            let gap : k * p.every ≡ p.end - step = omega (arith, e) in
            let rest : (p.end - step) % p.every ≡ 0 = ap (λ n. n % p.every) (sym gap) ∙ mul-mod_left k p.every in
            grind (arith, nat_tests, is, rest)

-- at a sample step before the end, with a sample for each earlier one, there is room for more than one
pub few_samples : (p : WindowParts) (step : ℕ) → IsWindow p → step < p.end → is_sample p step ≡ true → p.samples ≡ samples_below p step → p.samples + 1 < p.repeat
few_samples p step w before is counted = elim (leb_tells p.repeat ((p.end - step) / p.every)) [
  | inl far ↦ absurd (differs (sym is ∙ too_early p step w (omega arith) far.1))
  | inr near ↦ by near.1
]
  where
    differs : true ≡ false → ⊥
    differs e = absurd (cc)

    by : (p.end - step) / p.every < p.repeat → p.samples + 1 < p.repeat
    by near =
        let test : nat_eq ((p.end - step) % p.every) 0 ≡ true = on_time p step w (omega arith) near ∙ is in
        let none_left : (p.end - step) % p.every ≡ 0 = grind (arith, nat_tests, test) in
        let place : (p.end - step) / p.every * p.every + step ≡ p.end = omega (arith, none_left, before, w.schedule.apart) in
        let bound : samples_below p step ≤ p.repeat - ((p.end - step) / p.every + 1) = below_bound p.end p.every p.repeat step ((p.end - step) / p.every) place in
        let apart : 0 < (p.end - step) / p.every = above ((p.end - step) / p.every) place in
        omega (arith, bound, apart, counted, near)
      where
        above : (k : ℕ) → k * p.every + step ≡ p.end → 0 < k
        above zero e = absurd (omega (arith, e, before))
        above (suc k) e = omega arith
