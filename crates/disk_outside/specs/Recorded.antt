-- The view of a disk in memory, before and after one call more.
use Rattle.std.proofs.Common.{◌≡◌, ◌≢◌, ◌⊎◌, inl, inr, ℕ, ◌+◌, ◌≤◌, ◌<◌, Bool, true, false, min, List, [], ◌∷◌, ◌++◌, length, take, refl, sym, ◌∙◌, ap, subst, arith, length-append}
use Rattle.std.specs.Str.{bytes_eq}
use Rattle.std.proofs.lemmas.List.{take_all, take-append-le}
use Rattle.std.proofs.lemmas.Slice.Eq.{bytes_eq-Decides}
use Rattle.std.proofs.lemmas.Bool.Decides.{leb_tells}
use Rattle.outside.specs.declared.files.File.{File}
use Rattle.disk_outside.specs.Disk.{Bytes, Image, MayBe, IsSame, IsOrderly, Elapses, Steps, Stays}
use Rattle.disk_outside.specs.Memory.{Op, changed, tears, torn, seen_step, leaves_step, seen_after, leaves_after, first_bytes, seen_by, leaves_by, view_after}
use Rattle.disk_outside.specs.declared.calls.Kind.{Kind}
use Rattle.disk_outside.specs.declared.calls.Kind.TheVariants as kind
use Rattle.disk_outside.specs.Tearing.{torn_written, cut_taken}

-- one call more at the end
seen_more : (name : Bytes) (ops : List Op) (op : Op) (seen : Bytes) → seen_after name (ops ++ op ∷ []) seen ≡ seen_step (bytes_eq op.name name) op (seen_after name ops seen)
seen_more name [] op seen = refl
seen_more name (o ∷ ops) op seen = seen_more name ops op (seen_step (bytes_eq o.name name) o seen)

leaves_more : (name : Bytes) (ops : List Op) (op : Op) (seen : Bytes) (leaves : Bytes → Type 0) → leaves_after name (ops ++ op ∷ []) seen leaves ≡ leaves_step (bytes_eq op.name name) op (seen_after name ops seen) (leaves_after name ops seen leaves)
leaves_more name [] op seen leaves = refl
leaves_more name (o ∷ ops) op seen leaves = leaves_more name ops op (seen_step (bytes_eq o.name name) o seen) (leaves_step (bytes_eq o.name name) o seen leaves)

-- what a read gives is one of the images
one_call : (k : Kind) (at : ℕ) (bytes seen : Bytes) (leaves : Bytes → Type 0) → leaves seen → torn k at bytes seen leaves (changed k at bytes seen)
one_call kind.Write at bytes seen leaves h = (seen, h, torn_written seen (min at (length seen)) bytes (omega arith))
one_call kind.Cut at bytes seen leaves h = (seen, h, cut_taken seen at)
one_call kind.Sync at bytes seen leaves h = refl

one_step : (b : Bool) (op : Op) (seen : Bytes) (leaves : Bytes → Type 0) → leaves seen → leaves_step b op seen leaves (seen_step b op seen)
one_step true op seen leaves h = one_call op.kind op.at op.bytes seen leaves h
one_step false op seen leaves h = h

one_after : (name : Bytes) (ops : List Op) (seen : Bytes) (leaves : Bytes → Type 0) → leaves seen → leaves_after name ops seen leaves (seen_after name ops seen)
one_after name [] seen leaves h = h
one_after name (op ∷ ops) seen leaves h = one_after name ops (seen_step (bytes_eq op.name name) op seen) (leaves_step (bytes_eq op.name name) op seen leaves) (one_step (bytes_eq op.name name) op seen leaves h)

one_by : (files : List File) (ops : List Op) (name : Bytes) → leaves_by files ops name (seen_by files ops name)
one_by files ops name = one_after name ops (first_bytes files name) (λ c. c ≡ first_bytes files name) refl

same_name : (name : Bytes) → bytes_eq name name ≡ true
same_name name = (bytes_eq-Decides name name).1 refl

other_name : (name other : Bytes) → other ≢ name → bytes_eq name other ≡ false
other_name name other apart = by (bytes_eq name other) refl
  where
    by : (b : Bool) → bytes_eq name other ≡ b → bytes_eq name other ≡ false
    by true e = absurd (apart (sym ((bytes_eq-Decides name other).0 e)))
    by false e = e

-- the view keeps what holds of each
pub orderly : (files : List File) (ops : List Op) (faults : ℕ) → IsOrderly (view_after files ops faults)
orderly files ops faults = record {
  counts_now = λ t image before all. (length ops, before, omega arith, λ name. subst (λ (o : List Op). leaves_by files o name (image name)) (sym (take_all (length ops) ops (omega arith))) (all name));
  only_now = λ image h name. subst (λ (o : List Op). leaves_by files o name (image name)) (take_all h.0 ops h.1) (h.3 name);
  is_one = one_by files ops;
}

module _ (files : List File) (ops : List Op) (op : Op) (f g : ℕ) where
  more : List Op
  more = ops ++ op ∷ []

  length-more : length (ops ++ op ∷ []) ≡ length ops + 1
  length-more = length-append ops (op ∷ [])

  -- what a read gives of the file of the call
  pub seen_now : seen_by files (ops ++ op ∷ []) op.name ≡ changed op.kind op.at op.bytes (seen_by files ops op.name)
  seen_now = seen_more op.name ops op (first_bytes files op.name) ∙ ap (λ b. seen_step b op (seen_by files ops op.name)) (same_name op.name)

  -- what a crash may leave of it
  pub leaves_now : leaves_by files (ops ++ op ∷ []) op.name ≡ torn op.kind op.at op.bytes (seen_by files ops op.name) (leaves_by files ops op.name)
  leaves_now = leaves_more op.name ops op (first_bytes files op.name) (λ c. c ≡ first_bytes files op.name) ∙ ap (λ b. leaves_step b op (seen_by files ops op.name) (leaves_by files ops op.name)) (same_name op.name)

  from_torn : (k : Kind) (at : ℕ) (bytes seen : Bytes) (leaves : Bytes → Type 0) (c : Bytes) → leaves seen → torn k at bytes seen leaves c → (d : Bytes) × leaves d × tears k at bytes seen d c
  from_torn kind.Write at bytes seen leaves c one h = h
  from_torn kind.Cut at bytes seen leaves c one h = h
  from_torn kind.Sync at bytes seen leaves c one h = (seen, one, h)

  other : (name : Bytes) → name ≢ op.name → IsSame name (view_after files ops f) (view_after files (ops ++ op ∷ []) g)
  other name apart = record {
    seen = seen_more name ops op (first_bytes files name) ∙ ap (λ b. seen_step b op (seen_by files ops name)) is;
    kept = λ c h. subst (λ (P : Bytes → Type 0). P c) (sym as_was) h;
    only = λ c h. subst (λ (P : Bytes → Type 0). P c) as_was h;
  }
    where
      is : bytes_eq op.name name ≡ false
      is = other_name op.name name apart

      as_was : leaves_by files (ops ++ op ∷ []) name ≡ leaves_by files ops name
      as_was = leaves_more name ops op (first_bytes files name) (λ c. c ≡ first_bytes files name) ∙ ap (λ b. leaves_step b op (seen_by files ops name) (leaves_by files ops name)) is

  elapses : Elapses (view_after files ops f) (view_after files (ops ++ op ∷ []) g)
  elapses = record {
    later = omega (arith, length-more);
    nothing_else = λ t image before h. split t image h.0 h.1 h.2 h.3 (elim (leb_tells h.0 (length ops)) [ inl few ↦ inl few.1 | inr many ↦ inr many.1 ]);
    keeps = λ t image before h. (h.0, h.1, omega (arith, length-more, h.2), λ name. subst (λ (o : List Op). leaves_by files o name (image name)) (sym (take-append-le h.0 ops (op ∷ []) h.2)) (h.3 name));
  }
    where
      split : (t : ℕ) (image : Image) (k : ℕ) → t ≤ k → k ≤ length (ops ++ op ∷ []) → ((name : Bytes) → leaves_by files (take k (ops ++ op ∷ [])) name (image name)) → (k ≤ length ops) ⊎ (length ops < k) → (view_after files ops f).left t image ⊎ MayBe (view_after files (ops ++ op ∷ []) g) image
      split t image k from to all (inl few) = inl (k, from, few, λ name. subst (λ (o : List Op). leaves_by files o name (image name)) (take-append-le k ops (op ∷ []) few) (all name))
      split t image k from to all (inr many) = inr (λ name. subst (λ (o : List Op). leaves_by files o name (image name)) (take_all k (ops ++ op ∷ []) (omega (arith, length-more, many))) (all name))

  -- a call that is done
  pub recorded : Steps op.name (tears op.kind op.at op.bytes (seen_by files ops op.name)) (view_after files ops f) (view_after files (ops ++ op ∷ []) g)
  recorded = record {
    here = λ c h. from_torn op.kind op.at op.bytes (seen_by files ops op.name) (leaves_by files ops op.name) c (one_by files ops op.name) (subst (λ (P : Bytes → Type 0). P c) leaves_now h);
    others = other;
    time = elapses;
  }

module _ (files : List File) (ops : List Op) (f g : ℕ) where
  unchanged : (name : Bytes) → IsSame name (view_after files ops f) (view_after files ops g)
  unchanged name = record { seen = refl; kept = λ c h. h; only = λ c h. h }

  no_time : Elapses (view_after files ops f) (view_after files ops g)
  no_time = record { later = omega arith; nothing_else = λ t image before h. inl h; keeps = λ t image before h. h }

  -- a call that changes nothing
  pub stays : Stays (view_after files ops f) (view_after files ops g)
  stays = record { all = unchanged; time = no_time }

  -- a call that failed
  pub idle : (name : Bytes) (step : Bytes → Bytes → Type 0) → ((c : Bytes) → step c c) → Steps name step (view_after files ops f) (view_after files ops g)
  idle name step same = record { here = λ c h. (c, h, same c); others = λ name apart. unchanged name; time = no_time }
