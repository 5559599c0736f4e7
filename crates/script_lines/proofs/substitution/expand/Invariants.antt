use Rattle.std.proofs.Common.{◌≡◌, ◌≤◌, drop}
use Rattle.script_lines.specs.Substitution.{expansion, expansion_from, open_in, with_text}
use Rattle.script_lines.proofs.substitution.expand.Given as goal

-- the text so far, and then that of the rest, is that of the whole
abbrev pub invariant-loop-i : goal.invariant-loop-i
invariant-loop-i g l =
    (with_text l.out (expansion_from (g.T.Texts.table l.texts) l.i l.reference l.at (drop l.i l.text)) ≡ expansion (g.T.Texts.table l.texts) l.text)
    × (open_in l.reference ≤ l.i)
