use Rattle.std.proofs.Common.{◌≡◌, ◌∙◌, ◌++◌, ◌∷◌, [], ℕ, List, Some, None, length, true, false, ap, sym, subst, refl, arith, length-append}
use Rattle.std.proofs.lemmas.List.Elements.{All-push}
use Rattle.regions_groups.specs.declared.group_table.NamedGroup.{NamedGroup}
use Rattle.regions_groups.specs.Groups.{added, is_there, place_from, AllRise}
use Rattle.box_geo.specs.Ids.{Rises}
use Rattle.regions_groups.specs.Ids.{union_of}
use Rattle.regions_groups.proofs.GroupLemmas.{absent, placed, united_at, Absent}
use Rattle.regions_groups.proofs.group_table.Groups.add.Goals as goal

pub index-requires : goal.index-requires
index-requires c =
    let groups = c.self.inside.items.items in
    let e : place_from 0 groups c.args.name ≡ Some c.in-Some.i = cc in
    omega (arith, (placed groups c.args.name 0 c.in-Some.i e).within, c.deref.ensures.len, ap length c.deref.ensures.value)

pub index_mut-requires : goal.index_mut-requires
index_mut-requires c =
    let groups = c.self.inside.items.items in
    let e : place_from 0 groups c.args.name ≡ Some c.in-Some.i = cc in
    omega (arith, (placed groups c.args.name 0 c.in-Some.i e).within, c.deref.ensures.len, ap length c.deref.ensures.value)

pub returns-in_err-united-in-Some-clause-too_many : goal.returns-in_err-united-in-Some-clause-too_many
returns-in_err-united-in-Some-clause-too_many c =
    let groups = c.args.self.now in
    let e : place_from 0 groups c.args.name ≡ Some c.in-Some.i = cc in
    let here : is_there groups c.args.name ≡ true = (placed groups c.args.name 0 c.in-Some.i e).there in
    (λ h. let bad = rw h at c.from_residual.ensures.1 in cc, λ h. let f : is_there groups c.args.name ≡ false = h.0 in cc)

pub invariant_of-self : goal.invariant_of-self
invariant_of-self c =
    let groups = c.self.inside.items.items in
    let e : place_from 0 groups c.args.name ≡ Some c.in-Some.i = cc in
    let is : c.in_ok-united-in-Some.united ≡ union_of c.index.result.now.ids c.args.ids =
    c.in_ok-united-in-Some.ensures ∙ ap (λ (xs : List ℕ). union_of xs c.as_slice-in-Some.result.now) c.as_slice.ensures
    ∙ ap (λ (xs : List ℕ). union_of c.index.result.now.ids xs) c.as_slice-in-Some.ensures in
    let u = united_at groups c.args.name c.args.ids c.in_ok-united-in-Some.united c.in-Some.i c.index_mut.result.now c.index.result.now e c.index_mut.ensures.value c.index.ensures is c.self.invariant.0 c.requires in
    (u.rise, omega (arith, u.count, c.self.invariant.1))

pub returns-then-len-clause-too_many : goal.returns-then-len-clause-too_many
returns-then-len-clause-too_many c =
    let groups = c.args.self.now in
    let e : place_from 0 groups c.args.name ≡ None = cc in
    let none : is_there groups c.args.name ≡ false = (absent groups c.args.name 0 e).absent in
    (λ e. (none, omega (arith, c.if-len.true, c.len.ensures, ap length c.self.view_is)), λ e. refl)

pub invariant_of-self-in-Continue-branch-2 : goal.invariant_of-self-in-Continue-branch-2
invariant_of-self-in-Continue-branch-2 c =
    let groups = c.self.inside.items.items in
    let pushed : c.push.new.self.items ≡ groups ++ record { name = c.args.name; ids = c.args.ids } ∷ [] = c.in_ok-push-in-None.ensures.items in
    let rises : AllRise (groups ++ record { name = c.args.name; ids = c.args.ids } ∷ []) =
    All-push (λ (g : NamedGroup). Rises g.ids) groups record { name = c.args.name; ids = c.args.ids } c.self.invariant.0 c.requires in
    (subst AllRise (sym pushed) rises, omega (arith, ap length pushed, length-append groups (record { name = c.args.name; ids = c.args.ids } ∷ []), c.if-len.false, c.len.ensures))

pub returns-in_ok-united-in-Some-clause-added : goal.returns-in_ok-united-in-Some-clause-added
returns-in_ok-united-in-Some-clause-added c =
    let groups = c.self.inside.items.items in
    let e : place_from 0 groups c.args.name ≡ Some c.in-Some.i = cc in
    let is : c.in_ok-united-in-Some.united ≡ union_of c.index.result.now.ids c.args.ids =
    c.in_ok-united-in-Some.ensures ∙ ap (λ (xs : List ℕ). union_of xs c.as_slice-in-Some.result.now) c.as_slice.ensures
    ∙ ap (λ (xs : List ℕ). union_of c.index.result.now.ids xs) c.as_slice-in-Some.ensures in
    let u = united_at groups c.args.name c.args.ids c.in_ok-united-in-Some.united c.in-Some.i c.index_mut.result.now c.index.result.now e c.index_mut.ensures.value c.index.ensures is c.self.invariant.0 c.requires in
    u.adds ∙ ap (λ (gs : List NamedGroup). added gs c.args.name c.args.ids) c.self.view_is

pub returns-in_ok-united-in-Some-clause-too_many : goal.returns-in_ok-united-in-Some-clause-too_many
returns-in_ok-united-in-Some-clause-too_many c =
    let groups = c.args.self.now in
    let e : place_from 0 groups c.args.name ≡ Some c.in-Some.i = cc in
    let here : is_there groups c.args.name ≡ true = (placed groups c.args.name 0 c.in-Some.i e).there in
    (λ e. cc, λ h. let f : is_there groups c.args.name ≡ false = h.0 in cc)

pub returns-in_ok-push-in-None-clause-added : goal.returns-in_ok-push-in-None-clause-added
returns-in_ok-push-in-None-clause-added c =
    let groups = c.args.self.now in
    let e : place_from 0 groups c.args.name ≡ None = cc in
    let p : Absent groups c.args.name = absent groups c.args.name 0 e in
    c.in_ok-push-in-None.ensures.items ∙ ap (λ (gs : List NamedGroup). gs ++ record { name = c.args.name; ids = c.args.ids } ∷ []) c.self.view_is ∙ sym (p.adds c.args.ids)
