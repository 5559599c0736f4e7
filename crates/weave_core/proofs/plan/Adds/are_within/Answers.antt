use Rattle.std.proofs.Common.{◌≡◌, pos, All, get_or, take, sym, refl, subst, arith, rules, take_all, w64, FitsSigned}
use Rattle.std.proofs.lemmas.Int.{to_z-of_z}
use Rattle.std.proofs.lemmas.Option.{get_or_from_slice_get}
use Rattle.std.proofs.lemmas.List.Elements.{All-more}
use Rattle.weave_core.specs.Machine.{IsAdd}
use Rattle.weave_core.proofs.plan.Adds.are_within.Goals as goal

pub loop-place-preserved : goal.loop-place-preserved
loop-place-preserved c =
    let got : get_or c.args.self.now c.loop-place.place (0, pos 0) ≡ (c.in-Some.word, c.in-Some.value) = get_or_from_slice_get c.args.self.now c.loop-place.place (c.in-Some.word, c.in-Some.value) (0, pos 0) (sym c.in-Some.ensures) in
    let fits : FitsSigned w64 c.in-Some.value = search rules in
    let magnitude = rw (to_z-of_z w64 c.in-Some.value fits) at c.unsigned_abs.ensures.value in
    let small = c.if-unsigned_abs-gt-MAX_ADD.false in
    let allowed : IsAdd c.args.words (c.in-Some.word, c.in-Some.value) = record { inside = omega arith; small = omega (arith, magnitude, small) } in
    All-more (IsAdd c.args.words) c.args.self.now c.loop-place.place (0, pos 0) (omega arith) c.loop-place.invariant (rw got allowed)

pub returns : goal.returns
returns c =
    let all : take c.loop-place.place c.args.self.now ≡ c.args.self.now = take_all c.loop-place.place c.args.self.now (omega arith) in
    (λ _. subst (All (IsAdd c.args.words)) all c.loop-place.invariant, λ _. refl)
