-- What `velocity` answers, and that it leaves all within its limits.
use Rattle.std.proofs.Common.{arith, refl, sym, ap, subst, ◌≡◌, ◌∙◌, ◌++◌, ◌≤◌, ℕ, ℤ, Bool, true, false, cond, not, List, [], ◌∷◌, drop, length, map, take, Option, Some, None, Result, Ok, Err}
use Rattle.std.specs.List.{All}
use Rattle.std.proofs.lemmas.Grind.{common_steps}
use Rattle.std.proofs.lemmas.List.{length-map}
use Rattle.std.proofs.lemmas.List.Elements.{All-cons, All-head, All-map, All-nil, All-same, All-tail, All-weaker}
use Rattle.std.proofs.lemmas.Simd.{map-map}
use Rattle.box_geo.specs.declared.atoms.Atom.{Atom}
use Rattle.box_geo.specs.declared.limits.TheConstants.{MAX_ATOMS}
use Rattle.box_geo.specs.declared.sim_box.Sides.{Sides}
use Rattle.box_geo.specs.Ids.{Rises}
use Rattle.command_words.specs.declared.velocity.VelocityAction.{VelocityAction}
use Rattle.command_words.specs.declared.velocity.VelocityAction.TheVariants as action
use Rattle.command_words.specs.declared.velocity.VelocityChange.{VelocityChange}
use Rattle.computes.specs.Quantities.{IsSlow}
use Rattle.meaning.specs.declared.code.Code.{Code}
use Rattle.meaning.specs.declared.code.Code.TheVariants.{BadValue, SpeedRange, UnknownName}
use Rattle.meaning.specs.declared.refusal.SettingsRefusal.{SettingsRefusal}
use Rattle.meaning.specs.declared.refusal.SettingsRefusal.TheVariants as why
use Rattle.meaning.specs.declared.settings.Body.{Body}
use Rattle.meaning.specs.declared.settings.Settings.{Settings}
use Rattle.meaning.specs.declared.setup.LatticeChoice.{LatticeChoice}
use Rattle.meaning.specs.Answers.{Answers, with_body}
use Rattle.meaning.specs.MassesGroups.{ids_in, ids_of}
use Rattle.meaning.specs.Sound.{IsSoundAtom, IsSoundBody}
use Rattle.meaning.specs.Velocity.{moved_body, sets_fast, unless_fast, velocity, velocity_in}
use Rattle.regions_groups.specs.Groups.{is_there}
use Rattle.run_settings.specs.declared.velocity.BoxAction.{BoxAction}
use Rattle.run_settings.specs.Velocity.{atoms_after, body_after, box_action, members_after, moved_by, unless_fast_action, unless_one_fast}
use Rattle.velocity_make.specs.Change.{rest_of}
use Rattle.velocity_make.specs.Make.{too_fast}

-- atoms whose velocities alone changed, to slow ones
rest_sound : (s : Sides) (kinds : ℕ) (a : Atom) → IsSoundAtom s kinds a → IsSoundAtom s kinds (rest_of a)
rest_sound s kinds a h = record {
  inside = h.inside;
  kind_low = h.kind_low;
  kind_high = h.kind_high;
  id_low = h.id_low;
  id_high = h.id_high;
  v = (omega arith, omega arith, omega arith);
  f = h.f;
  image = h.image;
}

sound_by_rest : (s : Sides) (kinds : ℕ) (a : Atom) → IsSoundAtom s kinds (rest_of a) → IsSlow a → IsSoundAtom s kinds a
sound_by_rest s kinds a h slow = record {
  inside = h.inside;
  kind_low = h.kind_low;
  kind_high = h.kind_high;
  id_low = h.id_low;
  id_high = h.id_high;
  v = slow;
  f = h.f;
  image = h.image;
}

all_by_rest : (s : Sides) (kinds : ℕ) (atoms : List Atom) → All (IsSoundAtom s kinds) (map rest_of atoms) → All IsSlow atoms → All (IsSoundAtom s kinds) atoms
all_by_rest s kinds [] h slow = All-nil (IsSoundAtom s kinds)
all_by_rest s kinds (a ∷ atoms) h slow =
    All-cons (IsSoundAtom s kinds) a atoms
    (sound_by_rest s kinds a (All-head (IsSoundAtom s kinds) (rest_of a) (map rest_of atoms) h) (All-head IsSlow a atoms slow))
    (all_by_rest s kinds atoms (All-tail (IsSoundAtom s kinds) (rest_of a) (map rest_of atoms) h) (All-tail IsSlow a atoms slow))

atoms_sound : (s : Sides) (kinds : ℕ) (atoms old : List Atom) → All (IsSoundAtom s kinds) old → All IsSlow atoms → map rest_of atoms ≡ map rest_of old → All (IsSoundAtom s kinds) atoms
atoms_sound s kinds atoms old h slow e =
    all_by_rest s kinds atoms
    (All-same (IsSoundAtom s kinds) (map rest_of atoms) (map rest_of old) e
    (All-map (IsSoundAtom s kinds) rest_of old (All-weaker (IsSoundAtom s kinds) (λ a. IsSoundAtom s kinds (rest_of a)) (rest_sound s kinds) old h)))
    slow

same_ids : (atoms old : List Atom) → map rest_of atoms ≡ map rest_of old → ids_of atoms ≡ ids_of old
same_ids atoms old e = sym (map-map (λ (a : Atom). a.id) rest_of atoms) ∙ ap ids_of e ∙ map-map (λ (a : Atom). a.id) rest_of old

same_many : (atoms old : List Atom) → map rest_of atoms ≡ map rest_of old → length atoms ≡ length old
same_many atoms old e = sym (length-map atoms rest_of) ∙ ap (λ (l : List Atom). length l) e ∙ length-map old rest_of

speeds_sound : (b : Body) (atoms : List Atom) → IsSoundBody b → All IsSlow atoms → map rest_of atoms ≡ map rest_of b.atoms → IsSoundBody (record b { atoms = atoms })
speeds_sound b atoms h slow e = record {
  step = h.step;
  sides = h.sides;
  some = h.some;
  kinds = h.kinds;
  mass = h.mass;
  few = subst (λ (n : ℕ). n ≤ MAX_ATOMS) (sym (same_many atoms b.atoms e)) h.few;
  atoms = atoms_sound b.sides (length b.mass) atoms b.atoms h.atoms slow e;
  rising = subst (λ (l : List ℕ). Rises l) (sym (same_ids atoms b.atoms e)) h.rising;
  bonds = h.bonds;
  angles = h.angles;
}

pub changed_sound : (b : Body) (lent new atoms : List Atom) → IsSoundBody b → lent ≡ b.atoms → atoms ≡ new → All IsSlow new → map rest_of new ≡ map rest_of lent → IsSoundBody (record b { atoms = atoms })
changed_sound b lent new atoms h whole is slow e =
    subst (λ (l : List Atom). IsSoundBody (record b { atoms = l })) (sym is) (speeds_sound b new h slow (e ∙ ap (map rest_of) whole))

-- what is answered of the atoms is answered of the body with them
in_body : (fast : Option ℕ) (b : Body) (made new : List Atom) (r : Result Unit SettingsRefusal) → Answers (unless_one_fast fast made) r b.atoms new
    → Answers (unless_fast fast b made) r b (record b { atoms = new })
in_body None b made new (Ok done) h = let same : made ≡ new = cc in ap (λ (l : List Atom). Ok (record b { atoms = l })) same
in_body None b made new (Err (why.Code code)) h = absurd cc
in_body None b made new (Err why.NoMemory) h = ap (λ (l : List Atom). record b { atoms = l }) h
in_body (Some id) b made new (Ok done) h = absurd cc
in_body (Some id) b made new (Err (why.Code code)) h = let same : SpeedRange ≡ code = cc in (ap Err same, h.1, ap (λ (l : List Atom). record b { atoms = l }) h.2)
in_body (Some id) b made new (Err why.NoMemory) h = ap (λ (l : List Atom). record b { atoms = l }) h

-- what a call wrote over a whole list that it was lent
written : (n : ℕ) (new old : List Atom) → length new ≡ length old → n ≡ length old → take n (new ++ drop (length new) old) ≡ new
written n new old same size = grind (arith, common_steps)

pub put_back : (n : ℕ) (atoms new lent old : List Atom) → atoms ≡ take n (new ++ drop (length new) old) → length new ≡ length lent → lent ≡ old → n ≡ length old → atoms ≡ new
put_back n atoms new lent old is same whole size = is ∙ written n new old (same ∙ ap (λ (l : List Atom). length l) whole) size

pub members_changed : (a : BoxAction) (mass : List ℤ) (ids : List ℕ) (b : Body) (lent new atoms : List Atom) (r : Result Unit SettingsRefusal) → mass ≡ b.mass → lent ≡ b.atoms → atoms ≡ new
    → Answers (atoms_after a mass b.sides.dim ids lent) r lent new → Answers (members_after a ids b) r b (record b { atoms = atoms })
members_changed a mass ids b lent new atoms r weights whole is h =
    let own : Answers (atoms_after a b.mass b.sides.dim ids lent) r lent new = subst (λ (m : List ℤ). Answers (atoms_after a m b.sides.dim ids lent) r lent new) weights h in
    let of : Answers (atoms_after a b.mass b.sides.dim ids b.atoms) r b.atoms new = subst (λ (l : List Atom). Answers (atoms_after a b.mass b.sides.dim ids l) r l new) whole own in
    subst (λ (l : List Atom). Answers (members_after a ids b) r b (record b { atoms = l })) (sym is)
    (in_body (too_fast ids (moved_by a b.mass b.sides.dim ids b.atoms)) b (moved_by a b.mass b.sides.dim ids b.atoms) new r of)

-- an action in the units of the box does what is meant
box_moved : (lattice : Option LatticeChoice) (a : VelocityAction) (ids : List ℕ) (b : Body) → body_after (box_action lattice a) ids b ≡ moved_body lattice a ids b
box_moved lattice (action.Create d) ids b = refl
box_moved lattice (action.Set c) ids b = refl
box_moved lattice (action.Scale t) ids b = refl
box_moved lattice action.Zero ids b = refl

unless_some : (b : Bool) (x y : BoxAction) → cond b None (Some x) ≡ Some y → (b ≡ false) × (x ≡ y)
unless_some true x y e = absurd cc
unless_some false x y e = (refl, cc)

past_tests : {X : Type 0} (fast there : Bool) (x y z : X) → fast ≡ false → there ≡ true → cond fast x (cond (not there) y z) ≡ z
past_tests true there x y z e f = absurd cc
past_tests false true x y z e f = refl
past_tests false false x y z e f = absurd cc

-- what is answered of the body is answered of the state with it
with_body_answers : (s : Settings) (b new : Body) (m : Result Body Code) (r : Result Unit SettingsRefusal) → s.body ≡ Some b → Answers m r b new → Answers (with_body s m) r s (record s { body = Some new })
with_body_answers s b new (Ok made) (Ok done) e h = let same : made ≡ new = cc in ap (λ (x : Body). Ok (record s { body = Some x })) same
with_body_answers s b new (Ok made) (Err (why.Code code)) e h = absurd cc
with_body_answers s b new (Err cause) (Ok done) e h = absurd cc
with_body_answers s b new (Err cause) (Err (why.Code code)) e h =
    let same : cause ≡ code = cc in
    (ap Err same, h.1, ap (λ (x : Body). record s { body = Some x }) h.2 ∙ ap (λ (o : Option Body). record s { body = o }) (sym e))
with_body_answers s b new m (Err why.NoMemory) e h = ap (λ (x : Body). record s { body = Some x }) h ∙ ap (λ (o : Option Body). record s { body = o }) (sym e)

pub velocity_answers : (s : Settings) (v : VelocityChange) (a : BoxAction) (b new : Body) (r : Result Unit SettingsRefusal) → unless_fast_action s.setup.lattice v.action ≡ Some a
    → is_there s.named.groups v.group ≡ true → s.body ≡ Some b → Answers (body_after a (ids_in s.named.groups b.atoms v.group) b) r b new
    → Answers (velocity v s) r s (record s { body = Some new })
velocity_answers s v a b new r chosen there e h =
    let ids = ids_in s.named.groups b.atoms v.group in
    let past = unless_some _ _ _ chosen in
    let tests : velocity v s ≡ velocity_in v s s.body = past_tests (sets_fast s.setup.lattice v.action) (is_there s.named.groups v.group) (Err BadValue) (Err UnknownName) (velocity_in v s s.body) past.0 there in
    let inside : velocity_in v s s.body ≡ velocity_in v s (Some b) = ap (velocity_in v s) e in
    let moved : moved_body s.setup.lattice v.action ids b ≡ body_after a ids b = sym (box_moved s.setup.lattice v.action ids b) ∙ ap (λ (x : BoxAction). body_after x ids b) past.1 in
    subst (λ (m : Result Settings Code). Answers m r s (record s { body = Some new })) (sym (tests ∙ inside ∙ ap (with_body s) moved))
    (with_body_answers s b new (body_after a ids b) r e h)
