use Rattle.std.proofs.Common.{◌≡◌, ◌∙◌, ◌<◌, ◌≤◌, [], length, sym, ap, arith}
use Rattle.std.proofs.lemmas.Bool.Decides.{nat_tests}
use Rattle.std.proofs.lemmas.List.{nil_from_length}
use Rattle.std.specs.List.{prefix_len}
use Rattle.data_file.specs.Words.{is_word_byte, words_of}
use Rattle.data_file.proofs.WordLemmas.{words_first, words_none}
use Rattle.data_file.proofs.words.first_word.Goals as goal

pub returns-then-is_empty-clause-cut : goal.returns-then-is_empty-clause-cut
returns-then-is_empty-clause-cut c =
    let rest = c.after_blanks-rest.result.now in
    let nil : rest ≡ [] = nil_from_length rest (grind (arith, nat_tests, c.if-is_empty.true)) in
    sym c.after_blanks-rest.ensures.words ∙ ap words_of nil ∙ words_none

pub returns-clause-cut : goal.returns-clause-cut
returns-clause-cut c =
    let rest = c.after_blanks-rest.result.now in
    let n : c.word_len.result ≡ prefix_len is_word_byte rest = c.word_len.ensures.is in
    let long : 0 < length rest = grind (arith, nat_tests, c.if-is_empty.false) in
    let some : 0 < prefix_len is_word_byte rest = c.after_blanks-rest.ensures.begins long in
    let few : prefix_len is_word_byte rest ≤ length rest = omega arith in
    let first = words_first rest some few in
    cc (n, first)
