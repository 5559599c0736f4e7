use Rattle.std.proofs.Common.{◌≡◌, ◌∙◌, ℕ, List, ap, subst}
use Rattle.meaning.specs.Known.{atom_numbers, known_in}
use Rattle.run_settings.proofs.ValueLemmas.{known_for}
use Rattle.variable_values.specs.Known.{numbers_of}
use Rattle.variable_values.specs.Values.{Answers, KnownNumbers, value_of}
use Rattle.run_settings.proofs.value_groups.value_for.Goals as goal

pub returns : goal.returns
returns c =
    let s = c.args.settings.now in
    let own = c.in_ok-own.ensures ∙ ap (λ m. atom_numbers m c.args.atom.now) c.as_slice.ensures in
    let known = known_for (numbers_of c.of_atom-known.result) c.args.state.now c.in_ok-own.own (known_in s) (atom_numbers c.args.body.now.mass c.args.atom.now) c.of_atom-known.ensures c.requires own in
    c.valued.ensures (value_of s.vars record { state = known_in s; atom = atom_numbers c.args.body.now.mass c.args.atom.now } c.args.name.now 0)
    (subst (λ (k : KnownNumbers). Answers c.value_of.result (value_of s.vars k c.args.name.now 0)) known
    (subst (λ (n : List ℕ). Answers c.value_of.result (value_of s.vars (numbers_of c.of_atom-known.result) n 0)) c.as_bytes.ensures c.value_of.ensures.is))
