use Rattle.std.proofs.Common.{rules, ◌≡◌, ◌≤◌, ap, subst, sym, List}
use Rattle.box_geo.specs.declared.atoms.Atom.{Atom}
use Rattle.box_geo.specs.declared.limits.TheConstants.{MAX_ID}
use Rattle.meaning.specs.Lattice.{greatest_id}
use Rattle.run_settings.proofs.LatticeLemmas.{greatest_high}
use Rattle.run_settings.proofs.lattice.atoms_after.Goals as goal

pub atoms_with-requires-clause-ids : goal.atoms_with-requires-clause-ids
atoms_with-requires-clause-ids c =
    let is : c.as_slice.result.now ≡ c.args.body.now.atoms = search rules in
    subst (λ (atoms : List Atom). greatest_id atoms ≤ MAX_ID) (sym is) (greatest_high c.args.body.now c.requires.body)
