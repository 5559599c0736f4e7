-- Work on one file of a disk, step by step: what a crash at any moment of it leaves.
use Rattle.std.proofs.Common.{◌≢◌, inl, inr, refl, ◌∙◌, arith}
use Rattle.disk_outside.specs.Disk.{Bytes, Image, View, MayBe, IsSame, Steps, Stays, IsOrderly}
use Rattle.disk_outside.specs.Moments.{Between, Within, OldOr, LeavesOnly}

pub same : (name : Bytes) (v : View) → IsSame name v v
same name v = record { seen = refl; kept = λ c h. h; only = λ c h. h }

pub same_on : (name : Bytes) (v w x : View) → IsSame name v w → IsSame name w x → IsSame name v x
same_on name v w x first then = record {
  seen = then.seen ∙ first.seen;
  kept = λ c h. then.kept c (first.kept c h);
  only = λ c h. first.only c (then.only c h);
}

-- a disk of which all files but one are as they were is one on which this file is at work
between : (name : Bytes) (T : Bytes → Type 0) (old new : View) → ((c : Bytes) → new.leaves name c → T c) → ((other : Bytes) → other ≢ name → IsSame other old new) → (image : Image) → MayBe new image → Between name T old image
between name T old new now same image all = record {
  others = λ other apart. (same other apart).only (image other) (all other);
  this = now (image name) (all name);
}

-- where nothing is done, nothing changes
pub untouched : (name : Bytes) (T : Bytes → Type 0) (v : View) → ((c : Bytes) → v.leaves name c → T c) → Within name T v v
untouched name T v now = record {
  later = omega arith;
  now = now;
  same = λ other apart. same other v;
  since = λ t image before was. inl was;
  keeps = λ t image before was. was;
}

-- a call on the file, after which each image of it has T
pub stepped : (name : Bytes) (T : Bytes → Type 0) (step : Bytes → Bytes → Type 0) (old new : View) → Steps name step old new → ((c : Bytes) → new.leaves name c → T c) → Within name T old new
stepped name T step old new by now = record {
  later = by.time.later;
  now = now;
  same = by.others;
  since = λ t image before was. elim (by.time.nothing_else t image before was) [
    | inl earlier ↦ inl earlier
    | inr all ↦ inr (between name T old new now by.others image all)
  ];
  keeps = by.time.keeps;
}

-- a read, of any file
pub stayed : (name : Bytes) (T : Bytes → Type 0) (old new : View) → Stays old new → ((c : Bytes) → old.leaves name c → T c) → Within name T old new
stayed name T old new by was =
    let now : (c : Bytes) → new.leaves name c → T c = λ c h. was c ((by.all name).only c h) in
    let others : (other : Bytes) → other ≢ name → IsSame other old new = λ other apart. by.all other in
    record {
      later = by.time.later;
      now = now;
      same = others;
      since = λ t image before h. elim (by.time.nothing_else t image before h) [
        | inl earlier ↦ inl earlier
        | inr all ↦ inr (between name T old new now others image all)
      ];
      keeps = by.time.keeps;
    }

-- less may be said of what is left
pub weaker : (name : Bytes) (S T : Bytes → Type 0) (old new : View) → ((c : Bytes) → S c → T c) → Within name S old new → Within name T old new
weaker name S T old new less by = record {
  later = by.later;
  now = λ c h. less c (by.now c h);
  same = by.same;
  since = λ t image before h. elim (by.since t image before h) [
    | inl earlier ↦ inl earlier
    | inr b ↦ inr (record { others = b.others; this = less (image name) b.this })
  ];
  keeps = by.keeps;
}

-- one piece of work after another
pub joined : (name : Bytes) (T : Bytes → Type 0) (old mid new : View) → Within name T old mid → Within name T mid new → Within name T old new
joined name T old mid new first then = record {
  later = omega (arith, first.later, then.later);
  now = then.now;
  same = λ other apart. same_on other old mid new (first.same other apart) (then.same other apart);
  since = λ t image before h. elim (then.since t image (omega (arith, before, first.later)) h) [
    | inl earlier ↦ first.since t image before earlier
    | inr b ↦ inr (record { others = λ other apart. (first.same other apart).only (image other) (b.others other apart); this = b.this })
  ];
  keeps = λ t image before h. then.keeps t image (omega (arith, before, first.later)) (first.keeps t image before h);
}

-- a save after others: what a crash leaves is what stood before them all, or something that was saved
pub saved : (name : Bytes) (Saved : Bytes → Type 0) (first mid new : View) → Within name (OldOr first name Saved) first mid → Within name (OldOr mid name Saved) mid new → Within name (OldOr first name Saved) first new
saved name Saved first mid new before then = joined name (OldOr first name Saved) first mid new before (weaker name (OldOr mid name Saved) (OldOr first name Saved) mid new back then)
  where
    back : (c : Bytes) → OldOr mid name Saved c → OldOr first name Saved c
    back c (inl was) = before.now c was
    back c (inr is) = inr is

-- longer work, of which one file is the last part
pub worked : (name : Bytes) (T : Bytes → Type 0) (P : Image → Type 0) (v w x : View) → LeavesOnly v w P → Within name T w x → ((image : Image) → Between name T w image → P image) → LeavesOnly v x P
worked name T P v w x long by gives = record {
  later = omega (arith, long.later, by.later);
  each = λ image h. elim (by.since v.moment image long.later h) [
    | inl earlier ↦ long.each image earlier
    | inr b ↦ gives image b
  ];
  before = λ t image past h. elim (by.since t image (omega (arith, past, long.later)) h) [
    | inl earlier ↦ long.before t image past earlier
    | inr b ↦ inr (gives image b)
  ];
}

-- work that has not begun: a crash may leave what it may leave now
pub begun : (P : Image → Type 0) (v : View) → IsOrderly v → ((image : Image) → MayBe v image → P image) → LeavesOnly v v P
begun P v orderly gives = record {
  later = omega arith;
  each = λ image h. gives image (orderly.only_now image h);
  before = λ t image past h. inl h;
}
