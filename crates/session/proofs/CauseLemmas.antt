-- What shows that a refusal had its cause: of a call that is lent less, in one that is lent more.
use Rattle.std.proofs.Common.{◌≡◌, ◌≤◌, ℕ, Bool, true, false, Option, List, Result, Ok, Err, IfErr, refl, sym, ◌∙◌, arith}
use Rattle.std.proofs.lemmas.Bool.{false≢true}
use Rattle.meaning.specs.declared.code.Code.{Code}
use Rattle.meaning.specs.declared.going.Going.{Going}
use Rattle.meaning.specs.declared.refusal.Refusal.{Refusal}
use Rattle.meaning.specs.declared.refusal.Refusal.TheVariants as why
use Rattle.meaning.specs.declared.refusal.SettingsRefusal.{SettingsRefusal}
use Rattle.meaning.specs.declared.refusal.SettingsRefusal.TheVariants as settings
use Rattle.meaning.specs.Answers.{Answers, Decides}
use Rattle.meaning.specs.Causes.{Outside, Rests, Stays, nothing_lent, press_alone, seen_of, shelf_alone}
use Rattle.outside.specs.Sent.{Pressed}
use Rattle.outside.specs.Stock.{Shelved}
use Rattle.session.specs.Refusals.{changed_of, coded_of, on_of, widened}

-- a call that is lent nothing
idle_rests : (why : Refusal) (old new : Outside) → Rests why nothing_lent nothing_lent → Rests why old new
idle_rests (why.Code code) old new h = λ absent. absurd (omega (arith, h absent))
idle_rests (why.Range key step) old new h = tt
idle_rests why.ReadFault old new h = absurd (omega (arith, h))
idle_rests why.WriteFault old new h = absurd (omega (arith, h))
idle_rests why.DiskFault old new h = absurd (omega (arith, h))
idle_rests why.NoMemory old new h = tt
idle_rests why.NotBuilt old new h = tt

pub idle_cause : {T : Type 0} (r : Result T Refusal) (old new : Outside) → IfErr r (λ why. Rests why nothing_lent nothing_lent) → IfErr r (λ why. Rests why old new)
idle_cause {T} (Ok x) old new h = tt
idle_cause {T} (Err why) old new h = idle_rests why old new h

-- a code of a command that changes settings alone is not that of a file
pub coded_cause : {X : Type 0} (meant : Result X Code) (r : Result Unit Code) (s new : X) (a b : Outside) → Decides meant r s new → IfErr (coded_of r) (λ why. Rests why a b)
coded_cause {X} meant (Ok x) s new a b h = tt
coded_cause {X} meant (Err code) s new a b h = λ absent. absurd (false≢true (sym h.1 ∙ absent))

pub changed_cause : {X : Type 0} (meant : Result X Code) (r : Result Unit SettingsRefusal) (s new : X) (a b : Outside) → Answers meant r s new → IfErr (changed_of r) (λ why. Rests why a b)
changed_cause {X} meant (Ok x) s new a b h = tt
changed_cause {X} meant (Err (settings.Code code)) s new a b h = λ absent. absurd (false≢true (sym h.1 ∙ absent))
changed_cause {X} meant (Err settings.NoMemory) s new a b h = tt

pub on_idle_cause : (r : Result Unit Refusal) (a b : Outside) → IfErr r (λ why. Rests why nothing_lent nothing_lent) → IfErr (on_of r) (λ why. Rests why a b)
on_idle_cause (Ok x) a b h = tt
on_idle_cause (Err why) a b h = idle_rests why a b h

-- a call that is lent a press, or a shelf
press_rests : (why : Refusal) (shelf shelf' : Shelved) (old new : Pressed) (disk disk' : ℕ) → Rests why (press_alone old) (press_alone new) → Rests why (seen_of shelf old disk) (seen_of shelf' new disk')
press_rests (why.Code code) shelf shelf' old new disk disk' h = λ it. absurd (omega (arith, h it))
press_rests (why.Range key step) shelf shelf' old new disk disk' h = tt
press_rests why.ReadFault shelf shelf' old new disk disk' h = absurd (omega (arith, h))
press_rests why.WriteFault shelf shelf' old new disk disk' h = h
press_rests why.DiskFault shelf shelf' old new disk disk' h = absurd (omega (arith, h))
press_rests why.NoMemory shelf shelf' old new disk disk' h = tt
press_rests why.NotBuilt shelf shelf' old new disk disk' h = tt

pub on_press_cause : (r : Result Unit Refusal) (shelf shelf' : Shelved) (old new : Pressed) (disk disk' : ℕ)
    → IfErr r (λ why. Rests why (press_alone old) (press_alone new)) → IfErr (on_of r) (λ why. Rests why (seen_of shelf old disk) (seen_of shelf' new disk'))
on_press_cause (Ok x) shelf shelf' old new disk disk' h = tt
on_press_cause (Err why) shelf shelf' old new disk disk' h = press_rests why shelf shelf' old new disk disk' h

shelf_rests : (why : Refusal) (old new : Shelved) (press press' : Pressed) (disk disk' : ℕ) → Rests why (shelf_alone old) (shelf_alone new) → Rests why (seen_of old press disk) (seen_of new press' disk')
shelf_rests (why.Code code) old new press press' disk disk' h = h
shelf_rests (why.Range key step) old new press press' disk disk' h = tt
shelf_rests why.ReadFault old new press press' disk disk' h = h
shelf_rests why.WriteFault old new press press' disk disk' h = absurd (omega (arith, h))
shelf_rests why.DiskFault old new press press' disk disk' h = absurd (omega (arith, h))
shelf_rests why.NoMemory old new press press' disk disk' h = tt
shelf_rests why.NotBuilt old new press press' disk disk' h = tt

pub on_shelf_cause : (r : Result Unit Refusal) (old new : Shelved) (press press' : Pressed) (disk disk' : ℕ)
    → IfErr r (λ why. Rests why (shelf_alone old) (shelf_alone new)) → IfErr (on_of r) (λ why. Rests why (seen_of old press disk) (seen_of new press' disk'))
on_shelf_cause (Ok x) old new press press' disk disk' h = tt
on_shelf_cause (Err why) old new press press' disk disk' h = shelf_rests why old new press press' disk disk' h

-- counts that stay
pub coded_stays : (r : Result Unit Code) (a : Outside) → Stays (coded_of r) a a
coded_stays (Ok x) a = (refl, (refl, refl))
coded_stays (Err code) a = (refl, (refl, refl))

idle_stays : (why : Refusal) (a : Outside) → Stays {T = Going} (Err why) a a
idle_stays (why.Code code) a = (refl, (refl, refl))
idle_stays (why.Range key step) a = (refl, (refl, refl))
idle_stays why.ReadFault a = (refl, refl)
idle_stays why.WriteFault a = (refl, refl)
idle_stays why.DiskFault a = (refl, refl)
idle_stays why.NoMemory a = (refl, (refl, refl))
idle_stays why.NotBuilt a = (refl, (refl, refl))

pub changed_stays : (r : Result Unit SettingsRefusal) (a : Outside) → Stays (changed_of r) a a
changed_stays (Ok x) a = (refl, (refl, refl))
changed_stays (Err why) a = idle_stays (widened why) a

pub on_idle_stays : (r : Result Unit Refusal) (a : Outside) → Stays (on_of r) a a
on_idle_stays (Ok x) a = (refl, (refl, refl))
on_idle_stays (Err why) a = idle_stays why a

pub on_press_stays : (r : Result Unit Refusal) (shelf : Shelved) (old new : Pressed) (disk : ℕ) → Stays r (press_alone old) (press_alone new) → Stays (on_of r) (seen_of shelf old disk) (seen_of shelf new disk)
on_press_stays (Ok x) shelf old new disk h = (refl, (h.1.0, refl))
on_press_stays (Err (why.Code code)) shelf old new disk h = (refl, (h.1.0, refl))
on_press_stays (Err (why.Range key step)) shelf old new disk h = (refl, (h.1.0, refl))
on_press_stays (Err why.ReadFault) shelf old new disk h = (h.0, refl)
on_press_stays (Err why.WriteFault) shelf old new disk h = (refl, refl)
on_press_stays (Err why.DiskFault) shelf old new disk h = (refl, h.1)
on_press_stays (Err why.NoMemory) shelf old new disk h = (refl, (h.1.0, refl))
on_press_stays (Err why.NotBuilt) shelf old new disk h = (refl, (h.1.0, refl))

pub on_shelf_stays : (r : Result Unit Refusal) (old new : Shelved) (press : Pressed) (disk : ℕ) → Stays r (shelf_alone old) (shelf_alone new) → Stays (on_of r) (seen_of old press disk) (seen_of new press disk)
on_shelf_stays (Ok x) old new press disk h = (h.0, (refl, refl))
on_shelf_stays (Err (why.Code code)) old new press disk h = (h.0, (refl, refl))
on_shelf_stays (Err (why.Range key step)) old new press disk h = (h.0, (refl, refl))
on_shelf_stays (Err why.ReadFault) old new press disk h = (refl, refl)
on_shelf_stays (Err why.WriteFault) old new press disk h = (h.0, refl)
on_shelf_stays (Err why.DiskFault) old new press disk h = (h.0, refl)
on_shelf_stays (Err why.NoMemory) old new press disk h = (h.0, (refl, refl))
on_shelf_stays (Err why.NotBuilt) old new press disk h = (h.0, (refl, refl))
