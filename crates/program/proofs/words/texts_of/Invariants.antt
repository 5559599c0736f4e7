use Rattle.std.proofs.Common.{◌≡◌, map, take, string_bytes}
use Rattle.program.proofs.words.texts_of.Given as goal

abbrev pub invariant-loop-word : goal.invariant-loop-word
invariant-loop-word l = l.texts ≡ map (λ word. string_bytes word) (take l.word-index l.words)
