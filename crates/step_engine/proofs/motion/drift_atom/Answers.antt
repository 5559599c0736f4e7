use Rattle.std.proofs.Common.{rules, ◌≡◌, ◌^◌, List, ℕ, ℤ, ap, sym, subst}
use Rattle.box_geo.specs.declared.atoms.Atom.{Atom}
use Rattle.step_engine.specs.Ranges.{HasMass, IsWithin}
use Rattle.step_engine.proofs.motion.drift_atom.Goals as goal

pub returns-in-Ok-clause-movable : goal.returns-in-Ok-clause-movable
returns-in-Ok-clause-movable c =
    let atom = c.settled.ensures.atom in
    let kind : c.settled.result.0.kind ≡ c.args.atom.now.kind = ap (λ (a : Atom). a.kind) atom in
    let v : c.settled.result.0.v ≡ c.kicked-v.result = ap (λ (a : Atom). a.v) atom in
    let f : c.settled.result.0.f ≡ c.args.atom.now.f = ap (λ (a : Atom). a.f) atom in
    let slow : IsWithin (2 ^ 32) c.kicked-v.result = search rules in
    λ none. record {
      massive = subst (λ (n : ℕ). HasMass c.args.rules.now.mass n) (sym kind) c.requires.movable.massive;
      v = subst (λ (u : List ℤ). IsWithin (2 ^ 32) u) (sym v) slow;
      f = subst (λ (u : List ℤ). IsWithin (2 ^ 44) u) (sym f) c.requires.movable.f;
      image = c.settled.ensures.within none;
    }
