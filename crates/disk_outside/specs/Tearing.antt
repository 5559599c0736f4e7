-- What is written and what is cut is one of the things that a crash may leave of it.
use Rattle.std.proofs.Common.{◌≡◌, ℕ, ◌+◌, ◌-◌, ◌≤◌, ◌++◌, length, take, drop, refl, ◌∙◌, ap, arith, append_assoc, length-append}
use Rattle.std.proofs.lemmas.List.{take_at, drop_at, take_all, length-take, length-take-le, length-drop}
use Rattle.disk_outside.specs.Disk.{Bytes, Torn, Cut, written}

length-written : (old : Bytes) (at : ℕ) (bytes : Bytes) → at ≤ length old → length (written old at bytes) ≡ at + length bytes + (length old - (at + length bytes))
length-written old at bytes h =
    let is : length ((take at old ++ bytes) ++ drop (at + length bytes) old) ≡ at + length bytes + (length old - (at + length bytes)) =
    omega (arith, length-append (take at old ++ bytes) (drop (at + length bytes) old), length-append (take at old) bytes, length-take-le at old h, length-drop (at + length bytes) old) in
    is

pub torn_written : (old : Bytes) (at : ℕ) (bytes : Bytes) → at ≤ length old → Torn at (length bytes) old (written old at bytes)
torn_written old at bytes h = record {
  before = ap (take at) (append_assoc (take at old) bytes behind) ∙ take_at (take at old) (bytes ++ behind) at (length-take-le at old h);
  after = drop_at (take at old ++ bytes) behind (at + length bytes) front;
  no_shorter = omega (arith, length-written old at bytes h);
  no_longer = omega (arith, length-written old at bytes h);
}
  where
    behind : Bytes
    behind = drop (at + length bytes) old

    front : length (take at old ++ bytes) ≡ at + length bytes
    front = omega (arith, length-append (take at old) bytes, length-take-le at old h)

pub cut_taken : (old : Bytes) (n : ℕ) → Cut n old (take n old)
cut_taken old n = record {
  front = take_all n (take n old) (omega (arith, length-take n old));
  no_longer = omega (arith, length-take n old);
}

-- a write that does nothing
pub torn_same : (at n : ℕ) (c : Bytes) → Torn at n c c
torn_same at n c = record { before = refl; after = refl; no_shorter = omega arith; no_longer = omega arith }

-- a cut that does nothing
pub cut_same : (n : ℕ) (c : Bytes) → Cut n c c
cut_same n c = record { front = refl; no_longer = omega arith }
