-- A call that a disk in memory takes down does what a disk's call is to do.
use Rattle.std.proofs.Common.{◌≡◌, ℕ, ◌≤◌, min, take, length, refl, sym, ◌∙◌, ap, subst, arith}
use Rattle.std.specs.Prelude.{Result, Ok, Err, OnOk}
use Rattle.outside.specs.Memory.{next}
use Rattle.disk_outside.specs.Disk.{Bytes, Cut, IsSettled, Stays, Steps, Torn, Unmoved, written}
use Rattle.disk_outside.specs.Memory.{Counts, Does, MemState, Op, changed, cutting, done, leaves_by, seen_by, syncing, tears, view_of, writing}
use Rattle.disk_outside.specs.Recorded.{idle, leaves_now, recorded, seen_now, stays}
use Rattle.disk_outside.specs.Tearing.{cut_same, torn_same}
use Rattle.disk_outside.specs.declared.disk.Failed.{Failed}

-- what a read gives after a call that is done
does_seen : (old new : MemState) (op : Op) (r : Result Unit Failed) → Does old op r new → OnOk r (seen_by new.files new.calls op.name ≡ changed op.kind op.at op.bytes (seen_by old.files old.calls op.name))
does_seen old new op (Ok unit) d = ap (λ (s : MemState). seen_by s.files s.calls op.name) d.1 ∙ seen_now old.files old.calls op old.faults old.faults
does_seen old new op (Err why) d = tt

-- what a crash may leave after a call, done or not
does_steps : (old new : MemState) (op : Op) (r : Result Unit Failed) → ((c : Bytes) → tears op.kind op.at op.bytes (seen_by old.files old.calls op.name) c c) → Does old op r new
    → Steps op.name (tears op.kind op.at op.bytes (seen_by old.files old.calls op.name)) (view_of old) (view_of new)
does_steps old new op (Ok unit) same d = subst (λ (s : MemState). Steps op.name (tears op.kind op.at op.bytes (seen_by old.files old.calls op.name)) (view_of old) (view_of s)) (sym d.1) (recorded old.files old.calls op old.faults old.faults)
does_steps old new op (Err why) same d = subst (λ (s : MemState). Steps op.name (tears op.kind op.at op.bytes (seen_by old.files old.calls op.name)) (view_of old) (view_of s)) (sym d.1) (idle old.files old.calls old.faults (next old.faults) op.name (tears op.kind op.at op.bytes (seen_by old.files old.calls op.name)) same)

-- where the place is in the file, nothing is clipped
clipped : (at : ℕ) (seen : Bytes) → at ≤ length seen → min at (length seen) ≡ at
clipped at seen h = omega arith

pub write_seen : (old new : MemState) (name : Bytes) (at : ℕ) (bytes : Bytes) (r : Result Unit Failed) → at ≤ length (seen_by old.files old.calls name) → Does old (writing old name at bytes) r new
    → OnOk r (seen_by new.files new.calls name ≡ written (seen_by old.files old.calls name) at bytes)
write_seen old new name at bytes (Ok unit) h d = does_seen old new (writing old name at bytes) (Ok unit) d ∙ ap (λ n. written (seen_by old.files old.calls name) n bytes) (clipped at (seen_by old.files old.calls name) h)
write_seen old new name at bytes (Err why) h d = tt

pub write_steps : (old new : MemState) (name : Bytes) (at : ℕ) (bytes : Bytes) (r : Result Unit Failed) → at ≤ length (seen_by old.files old.calls name) → Does old (writing old name at bytes) r new
    → Steps name (Torn at (length bytes)) (view_of old) (view_of new)
write_steps old new name at bytes r h d = subst (λ n. Steps name (Torn n (length bytes)) (view_of old) (view_of new)) (clipped at (seen_by old.files old.calls name) h) (does_steps old new (writing old name at bytes) r (λ c. torn_same _ _ c) d)

pub cut_seen : (old new : MemState) (name : Bytes) (at : ℕ) (r : Result Unit Failed) → Does old (cutting old name at) r new → OnOk r (seen_by new.files new.calls name ≡ take at (seen_by old.files old.calls name))
cut_seen old new name at r d = does_seen old new (cutting old name at) r d

pub cut_steps : (old new : MemState) (name : Bytes) (at : ℕ) (r : Result Unit Failed) → Does old (cutting old name at) r new → Steps name (Cut at) (view_of old) (view_of new)
cut_steps old new name at r d = does_steps old new (cutting old name at) r (λ c. cut_same at c) d

pub sync_seen : (old new : MemState) (name : Bytes) (r : Result Unit Failed) → Does old (syncing old name) r new → seen_by new.files new.calls name ≡ seen_by old.files old.calls name
sync_seen old new name (Ok unit) d = does_seen old new (syncing old name) (Ok unit) d
sync_seen old new name (Err why) d = ap (λ (s : MemState). seen_by s.files s.calls name) d.1

pub sync_settles : (old new : MemState) (name : Bytes) (r : Result Unit Failed) → Does old (syncing old name) r new → OnOk r (IsSettled (view_of new) name)
sync_settles old new name (Ok unit) d = λ c h. was c (subst (λ (s : MemState). leaves_by s.files s.calls name c) d.1 h) ∙ sym (sync_seen old new name (Ok unit) d)
  where
    was : (c : Bytes) → leaves_by old.files (done old (syncing old name)).calls name c → c ≡ seen_by old.files old.calls name
    was c h = subst (λ (P : Bytes → Type 0). P c) (leaves_now old.files old.calls (syncing old name) old.faults old.faults) h
sync_settles old new name (Err why) d = tt

pub sync_steps : (old new : MemState) (name : Bytes) (r : Result Unit Failed) → Does old (syncing old name) r new → Steps name Unmoved (view_of old) (view_of new)
sync_steps old new name r d = does_steps old new (syncing old name) r (λ c. refl) d

-- a read changes no file
pub read_stays : (old new : MemState) (r : Result Unit Failed) → Counts old r new → Stays (view_of old) (view_of new)
read_stays old new (Ok unit) d = subst (λ (s : MemState). Stays (view_of old) (view_of s)) (sym d.1) (stays old.files old.calls old.faults old.faults)
read_stays old new (Err why) d = subst (λ (s : MemState). Stays (view_of old) (view_of s)) (sym d.1) (stays old.files old.calls old.faults (next old.faults))
