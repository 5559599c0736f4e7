use Rattle.std.proofs.Common.{◌≡◌, map, take}
use Rattle.command_words.specs.Fixes.{id_of}
use Rattle.command_words.proofs.fixes.ids.Given as goal

abbrev pub invariant-loop-word : goal.invariant-loop-word
invariant-loop-word l = l.ids ≡ map id_of (take l.word-index l.words)
