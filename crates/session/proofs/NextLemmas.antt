-- The first line of a command's text, where it cannot be read.
use Rattle.std.proofs.Common.{◌≡◌, Option, List, Err, ap}
use Rattle.meaning.specs.Play.{first_words}
use Rattle.script_lines.specs.declared.refusals.LineRefusal.{LineRefusal}
use Rattle.script_lines.specs.declared.refusals.LineRefusal.TheVariants as line
use Rattle.script_lines.specs.declared.words.RawWord.{RawWord}
use Rattle.script_lines.specs.Script.{Refuses, Script}
use Rattle.session.specs.Refusals.{unread_refusal}
use Rattle.session.specs.Stops.{ReadsBy}

pub unread_reads : (why : LineRefusal) (script : Script) → Refuses why script → ReadsBy {X = Option (List RawWord)} (first_words script.refusal script.lines) (Err (unread_refusal why))
unread_reads (line.UnclosedQuote n) script h = ap (λ (s : Script). first_words s.refusal s.lines) h
unread_reads (line.ContinuationAtEnd n) script h = ap (λ (s : Script). first_words s.refusal s.lines) h
unread_reads (line.QuoteTail n) script h = ap (λ (s : Script). first_words s.refusal s.lines) h
unread_reads line.NoMemory script h = tt
