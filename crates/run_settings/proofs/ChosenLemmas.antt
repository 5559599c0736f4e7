-- The atoms that `group` adds, by their ids.
use Rattle.std.proofs.Common.{◌≡◌, ◌∙◌, ℕ, Bool, Result, List, IfOk, ap, filter, length, refl, subst, sym, [], ◌∷◌}
use Rattle.std.proofs.lemmas.List.Elements.{filter_agree}
use Rattle.std.specs.List.{list_any}
use Rattle.box_geo.specs.Ids.{Rises}
use Rattle.command_words.specs.declared.masses_groups.Members.{Members}
use Rattle.command_words.specs.declared.masses_groups.Members.TheVariants as members
use Rattle.command_words.specs.declared.ranges.KindRange.{KindRange}
use Rattle.fx_num.specs.declared.memory.NoMemory.{NoMemory}
use Rattle.meaning.specs.declared.named.Named.{Named}
use Rattle.meaning.specs.declared.settings.Body.{Body}
use Rattle.meaning.specs.MassesGroups.{chosen, has_kind, ids_of, is_chosen, is_left}
use Rattle.meaning.specs.Sound.{IsSoundBody}
use Rattle.box_geo.specs.declared.atoms.Atom.{Atom}
use Rattle.run_settings.specs.Members.{ids_where, is_left_member}
use Rattle.run_settings.proofs.MemberLemmas.{ids_where-id, rises_where}

pub by_ids : (n : Named) (m : Members) (b : Body) (p : ℕ → Bool) (ids : List ℕ) (r : Result (List ℕ) NoMemory) → ids ≡ ids_of b.atoms → chosen n m b ≡ ids_where (λ a. p a.id) b.atoms
    → IfOk r (λ out. out ≡ filter p ids) → IfOk r (λ out. out ≡ chosen n m b)
by_ids n m b p ids r all meant made =
    subst (λ (l : List ℕ). IfOk r (λ out. out ≡ l)) (ap (filter p) all ∙ sym (ids_where-id p b.atoms) ∙ sym meant) made

-- those of types
pub by_kinds : (n : Named) (m : Members) (b : Body) (ranges : List KindRange) (kinds : ℕ) (atoms : List Atom) (r : Result (List ℕ) NoMemory)
    → m ≡ members.Kinds ranges → kinds ≡ length b.mass → atoms ≡ b.atoms
    → IfOk r (λ out. out ≡ ids_where (λ a. list_any (λ k. has_kind k kinds a.kind) ranges) atoms) → IfOk r (λ out. out ≡ chosen n m b)
by_kinds n m b ranges kinds atoms r of many all made =
    subst (λ (l : List ℕ). IfOk r (λ out. out ≡ l))
    (ap (λ (k : ℕ). ids_where (is_chosen n k (members.Kinds ranges)) atoms) many ∙ ap (λ (l : List Atom). ids_where (is_chosen n (length b.mass) (members.Kinds ranges)) l) all
    ∙ ap (λ (s : Members). chosen n s b) (sym of))
    made

-- those of the first of some groups and of none of the others
left_is : (n : Named) (a : Atom) (names : List (List ℕ)) → is_left n.groups a names ≡ is_left_member n.groups a.id names
left_is n a [] = refl
left_is n a (name ∷ names) = refl

pub left_chosen : (n : Named) (names : List (List ℕ)) (b : Body) → chosen n (members.Subtract names) b ≡ ids_where (λ a. is_left_member n.groups a.id names) b.atoms
left_chosen n names b =
    ap ids_of (filter_agree (λ (a : Atom). is_left n.groups a names) (λ (a : Atom). is_left_member n.groups a.id names) (λ a. left_is n a names) b.atoms)

-- the ids that are added rise
pub rises_chosen : (n : Named) (m : Members) (b : Body) → IsSoundBody b → Rises (chosen n m b)
rises_chosen n m b h = rises_where (is_chosen n (length b.mass) m) b.atoms h.rising
