-- How a physical line is joined, and how places pass along a text.
use Rattle.std.proofs.Common.{◌≡◌, ◌∙◌, ◌+◌, ◌-◌, ◌<◌, ℕ, Bool, List, [], ◌∷◌, ◌++◌, Option, length, drop, refl, sym, ap, arith}
use Rattle.std.specs.Option.{is_some}
use Rattle.std.proofs.lemmas.List.{drop-drop}
use Rattle.script_lines.specs.declared.joining.Joint.{Joint}
use Rattle.script_lines.specs.declared.modes.Mode.{Mode}
use Rattle.script_lines.specs.Joining.{Passes, IsRead, front_of, joined_lines, joint_by, joint_of, logical_lines, mark_of}
use Rattle.script_lines.specs.Modes.{is_triple, mode_after}
use Rattle.script_lines.specs.Physical.{physical_lines}
use Rattle.script_lines.proofs.ReadingLemmas.{mode_at_end}

-- the joint, from the mode that is carried and the mark that was found
pub joint_is : (before line text : List ℕ) (m : Mode) (flags : List Bool) (triple : Bool) (mark : Option ℕ)
    → text ≡ before ++ front_of line → IsRead text m flags → triple ≡ is_triple m → mark ≡ mark_of line
    → joint_by triple (is_some mark) ≡ joint_of before line
joint_is before line text m flags triple mark t read is found =
    let e : mode_after _ (before ++ front_of line) ≡ m = ap (mode_after _) (sym t) ∙ mode_at_end text m flags read in
    rw (is, found, e) refl

-- one place after another
pub passes_then : (text mid after : List ℕ) (ended passed beyond : ℕ) → Passes text mid ended passed → Passes mid after passed beyond → Passes text after ended beyond
passes_then text mid after ended passed beyond p q =
    let n : length text - length mid + (length mid - length after) ≡ length text - length after = omega (arith, p.shorter, q.shorter) in
    record {
      suffix = q.suffix ∙ ap (drop (length mid - length after)) p.suffix ∙ drop-drop (length mid - length after) (length text - length mid) text ∙ ap (λ k. drop k text) n;
      shorter = omega (arith, p.shorter, q.shorter);
      counted = omega (arith, p.counted, q.counted);
      bound = omega (arith, p.bound, q.bound);
    }

pub passes_none : (text : List ℕ) (ended : ℕ) → Passes text text ended ended
passes_none text ended =
    let n : length text - length text ≡ 0 = omega arith in
    record { suffix = rw n refl; shorter = omega arith; counted = refl; bound = omega arith }

-- what is joined of the first logical line of a text, and what stands behind it
pub record Joins (text : List ℕ) (ended : ℕ) (joint : Joint) (joined : List ℕ) (m : Mode) (flags : List Bool) (after : List ℕ) (passed : ℕ) : Type 0 where
  pub is : logical_lines (ended + 1) (physical_lines text) ≡ joined_lines joint (ended + 1) joined (passed + 1) (physical_lines after)
  pub read : IsRead joined m flags
  pub passes : Passes text after ended passed

-- the numbers of lines don't matter where none is left
same_number : (joint : Joint) (first : ℕ) (joined : List ℕ) (n m : ℕ) (after : List ℕ) → (0 < length after → n ≡ m)
    → joined_lines joint first joined n (physical_lines after) ≡ joined_lines joint first joined m (physical_lines after)
same_number joint first joined n m [] h = refl
same_number joint first joined n m (c ∷ after) h = rw (h (omega arith)) refl
