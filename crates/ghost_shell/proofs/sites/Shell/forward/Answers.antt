use Rattle.std.proofs.Common.{◌≡◌, ◌∙◌, ap, List, map, rules, sym, subst}
use Rattle.box_geo.specs.declared.atoms.Atom.{Atom}
use Rattle.std.specs.List.{All}
use Rattle.ghost_shell.specs.Ghosts.{IsGhostOf, IsSoundGhost, forwarded}
use Rattle.ghost_shell.proofs.ForwardLemmas.{forwarded-of, forwarded-sound}
use Rattle.ghost_shell.proofs.sites.Shell.forward.Goals as goal

pub returns-clause-atoms : goal.returns-clause-atoms
returns-clause-atoms c =
    let is : c.forward_vec.new.ghosts.items ≡ map (forwarded c.args.self.now.cell.sides c.args.atoms.now) c.args.self.now.ghosts.items =
    c.forward_vec.ensures ∙ ap (λ (atoms : List Atom). map (forwarded c.args.self.now.cell.sides atoms) c.args.self.now.ghosts.items) c.as_slice.ensures in
    subst (All (IsGhostOf c.args.atoms.now)) (sym is) (forwarded-of c.args.self.now.cell.sides c.args.atoms.now c.args.self.now.ghosts.items c.requires.atoms)

pub invariant_of-self : goal.invariant_of-self
invariant_of-self c =
    let sound : All (IsSoundGhost c.args.self.now.cell.sides) c.args.self.now.ghosts.items = search rules in
    record { sound = subst (All (IsSoundGhost c.args.self.now.cell.sides)) (sym c.forward_vec.ensures) (forwarded-sound c.args.self.now.cell.sides c.as_slice.result.now c.args.self.now.ghosts.items sound) }
