use Rattle.std.proofs.Common.{◌≡◌, ◌∷◌, [], Some, Option, List, ℤ, to_z, of_z, ap, subst, sym, ◌∙◌}
use Rattle.std.specs.Int.{w128}
use Rattle.box_geo.specs.Terms.{is_too_strong, IsModerate}
use Rattle.bonded.specs.Lengths.{divided, unless_strong}
use Rattle.bonded.proofs.LengthLemmas.{cast_all, cast_fits, divided_is, mild_is, mild_list, strong_is}
use Rattle.bonded.proofs.lengths.force_over.Goals as goal

pub returns-then-is_too_strong-clause-is : goal.returns-then-is_too_strong-clause-is
returns-then-is_too_strong-clause-is c =
    let x = to_z w128 (of_z w128 c.rdiv.result) in
    let y = to_z w128 (of_z w128 c.rdiv-2.result) in
    let z = to_z w128 (of_z w128 c.rdiv-3.result) in
    let is : x ∷ y ∷ z ∷ [] ≡ divided c.args.v.now c.args.n = divided_is c.args.v.now c.args.n c.rdiv.result c.rdiv-2.result c.rdiv-3.result c.requires.v c.requires.divisor c.rdiv.ensures.is c.rdiv.ensures.bound c.rdiv-2.ensures.is c.rdiv-2.ensures.bound c.rdiv-3.ensures.is c.rdiv-3.ensures.bound in
    strong_is (divided c.args.v.now c.args.n) c.is_too_strong.result c.if-is_too_strong.true (c.is_too_strong.ensures ∙ ap is_too_strong is)

pub overflow_cast-result : goal.overflow_cast-result
overflow_cast-result c =
    let x = to_z w128 (of_z w128 c.rdiv.result) in
    let y = to_z w128 (of_z w128 c.rdiv-2.result) in
    let z = to_z w128 (of_z w128 c.rdiv-3.result) in
    let mild : IsModerate (x ∷ y ∷ z ∷ []) = mild_list (x ∷ y ∷ z ∷ []) c.is_too_strong.result c.if-is_too_strong.false c.is_too_strong.ensures in
    cast_fits x mild.0

pub overflow_cast-result-2 : goal.overflow_cast-result-2
overflow_cast-result-2 c =
    let x = to_z w128 (of_z w128 c.rdiv.result) in
    let y = to_z w128 (of_z w128 c.rdiv-2.result) in
    let z = to_z w128 (of_z w128 c.rdiv-3.result) in
    let mild : IsModerate (x ∷ y ∷ z ∷ []) = mild_list (x ∷ y ∷ z ∷ []) c.is_too_strong.result c.if-is_too_strong.false c.is_too_strong.ensures in
    cast_fits y mild.1

pub overflow_cast-result-3 : goal.overflow_cast-result-3
overflow_cast-result-3 c =
    let x = to_z w128 (of_z w128 c.rdiv.result) in
    let y = to_z w128 (of_z w128 c.rdiv-2.result) in
    let z = to_z w128 (of_z w128 c.rdiv-3.result) in
    let mild : IsModerate (x ∷ y ∷ z ∷ []) = mild_list (x ∷ y ∷ z ∷ []) c.is_too_strong.result c.if-is_too_strong.false c.is_too_strong.ensures in
    cast_fits z mild.2

pub returns-clause-is : goal.returns-clause-is
returns-clause-is c =
    let x = to_z w128 (of_z w128 c.rdiv.result) in
    let y = to_z w128 (of_z w128 c.rdiv-2.result) in
    let z = to_z w128 (of_z w128 c.rdiv-3.result) in
    let is : x ∷ y ∷ z ∷ [] ≡ divided c.args.v.now c.args.n = divided_is c.args.v.now c.args.n c.rdiv.result c.rdiv-2.result c.rdiv-3.result c.requires.v c.requires.divisor c.rdiv.ensures.is c.rdiv.ensures.bound c.rdiv-2.ensures.is c.rdiv-2.ensures.bound c.rdiv-3.ensures.is c.rdiv-3.ensures.bound in
    let mild : IsModerate (x ∷ y ∷ z ∷ []) = mild_list (x ∷ y ∷ z ∷ []) c.is_too_strong.result c.if-is_too_strong.false c.is_too_strong.ensures in
    let some : List ℤ → Option (List ℤ) = λ f. Some f in
    ap some (cast_all x y z mild)
    ∙ mild_is (x ∷ y ∷ z ∷ []) c.is_too_strong.result c.if-is_too_strong.false c.is_too_strong.ensures
    ∙ ap unless_strong is

pub returns-clause-bounded : goal.returns-clause-bounded
returns-clause-bounded c =
    let x = to_z w128 (of_z w128 c.rdiv.result) in
    let y = to_z w128 (of_z w128 c.rdiv-2.result) in
    let z = to_z w128 (of_z w128 c.rdiv-3.result) in
    let mild : IsModerate (x ∷ y ∷ z ∷ []) = mild_list (x ∷ y ∷ z ∷ []) c.is_too_strong.result c.if-is_too_strong.false c.is_too_strong.ensures in
    subst IsModerate (sym (cast_all x y z mild)) mild
