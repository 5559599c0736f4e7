use Rattle.std.proofs.Common.{◌≡◌, drop}
use Rattle.fxlmp_top.specs.Words.{asked, asked_from}
use Rattle.fxlmp_top.proofs.words.asked.Given as goal

abbrev pub invariant-loop-word : goal.invariant-loop-word
invariant-loop-word l = (l.place ≡ l.word-index) × (asked_from l.place (drop l.word-index l.words) l.asked l.wanted ≡ asked l.words)
