use Rattle.std.proofs.Common.{◌≡◌, ◌∙◌, ◌++◌, ◌∷◌, [], List, All, ap, map, take, sym, subst}
use Rattle.std.proofs.lemmas.List.{map_more}
use Rattle.std.proofs.lemmas.List.Elements.{All-append, All-cons, All-nil}
use Rattle.box_geo.specs.declared.atoms.Atom.{Atom}
use Rattle.velocity_make.specs.Group.{IsCalm}
use Rattle.velocity_make.specs.Make.{drawn}
use Rattle.velocity_make.proofs.draws.draw_all.Goals as goal

pub loop-atom-preserved : goal.loop-atom-preserved
loop-atom-preserved c =
    let f : Atom → Atom = drawn c.args.mass.now c.args.dim c.args.ids.now c.args.seed in
    let old : List Atom = c.loop-atom.made.items in
    let added : c.push.new.self.items ≡ old ++ c.drawn.result ∷ [] = c.in_ok-push.ensures.items in (
      added ∙ ap (λ (l : List Atom). l ++ c.drawn.result ∷ []) c.loop-atom.invariant.0 ∙ ap (λ (a : Atom). map f (take c.loop-atom.atom-index c.args.atoms.now) ++ a ∷ []) c.drawn.ensures.is ∙ sym (map_more f c.args.atoms.now c.loop-atom.atom-index _ c.loop-atom-test.true),
      subst (λ (l : List Atom). All (IsCalm c.args.ids.now) l) (sym added) (All-append (IsCalm c.args.ids.now) old (c.drawn.result ∷ []) c.loop-atom.invariant.1 (All-cons (IsCalm c.args.ids.now) c.drawn.result [] c.drawn.ensures.calm (All-nil (IsCalm c.args.ids.now)))),
    )
