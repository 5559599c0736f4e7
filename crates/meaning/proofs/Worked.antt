-- Worked scripts: what they mean, against pieces that were worked out by hand.
use Rattle.std.proofs.Common.{◌≡◌, ◌++◌, ◌∷◌, [], ℕ, List, Bool, true, false, refl}
use Rattle.std.specs.Prelude.{codes, Some}
use Rattle.std.specs.Fmt.{digits}
use Rattle.command_words.specs.Read.{form_among, read}
use Rattle.fx_num.specs.Decimal.{read_count}
use Rattle.log_output.specs.Errors.{refusal_text}
use Rattle.meaning.specs.declared.code.Code.TheVariants.{UnclosedQuote, WrongStyle}
use Rattle.meaning.specs.declared.settings.Settings.{Settings}
use Rattle.meaning.specs.declared.uses.NameUse.{NameUse}
use Rattle.meaning.specs.declared.uses.UseKind.TheVariants.{Put}
use Rattle.meaning.specs.Lines.{line_command}
use Rattle.meaning.specs.Play.{Played, begun, complete, played, refused_at}
use Rattle.meaning.specs.Session.{begun_with}
use Rattle.meaning.specs.Shown.{screen_name, shown}
use Rattle.outside.specs.declared.press.Piece.{Piece}
use Rattle.outside.specs.Sent.{piece_of}
use Rattle.var_table.specs.declared.styles.VarStyle.TheVariants.{Index}
use Rattle.var_table.specs.Variables.{Named}
use Rattle.variable_values.specs.Values.{text_of as value_text}

-- the state at the start: a log, a screen, and no variable but those of the command line
unfoldable pub log_name : List ℕ
log_name = codes "log.lammps"

unfoldable pub put_later : List ℕ → NameUse
put_later name = record { name = name; kind = Put; begun = false }

unfoldable pub start : List Named → Settings
start vars = begun_with (record { every = 0; log = Some log_name; screen = true; uses = put_later screen_name ∷ put_later log_name ∷ [] }) vars

-- a script of fewer than a hundred lines, so that no line is too many
unfoldable pub few : List ℕ → Settings → Played
few text s = played 100 [] s (begun (codes "s.in") text)

script : List ℕ → Played
script text = few text (start [])

-- what is sent, to the end of the script
sends : List Piece → Played
sends pieces = record { pieces = pieces; end = complete; pairs = 0 }

-- a text in the log of this name and on the screen, each fresh where nothing was put there before
unfoldable pub both : List ℕ → Bool → Bool → List ℕ → List Piece
both log fresh first text = piece_of log fresh text ∷ piece_of screen_name first text ∷ []

-- a line goes on behind `&`
joined_line : script (codes "print &\n  a\nprint 'b c'\n") ≡ sends (both log_name true true (codes "a\n") ++ both log_name false false (codes "b c\n"))
unfolding log_name put_later start few script sends both line_command played shown form_among read
joined_line = refl

-- the log goes to another file and back: a file is fresh once
log_there_and_back : script (codes "print a\nlog two\nprint b\nlog log.lammps\nprint c\n")
    ≡ sends (both log_name true true (codes "a\n") ++ both (codes "two") true false (codes "b\n") ++ both log_name false false (codes "c\n"))
unfolding log_name put_later start few script sends both line_command played shown form_among read
log_there_and_back = refl

-- `clear` takes back what was set up, and the log stays where it went
cleared : script (codes "dimension 2\nlog two\nclear\nboundary p p f\nprint a\n") ≡ sends (both (codes "two") true true (codes "a\n"))
unfolding log_name put_later start few script sends both line_command played shown form_among read read_count
cleared = refl

-- without it two dimensions want a periodic z
not_cleared : script (codes "dimension 2\nboundary p p f\nprint a\n")
    ≡ record {
      pieces = both log_name true true (codes "ERROR: WrongStyle at s.in:2\n");
      end = refused_at WrongStyle (codes "s.in") 2;
      pairs = 0;
    }
unfolding log_name put_later start few script sends both line_command played shown form_among read read_count refusal_text digits
not_cleared = refl

-- a variable of the command line stays beside the script's own index
variable_of_the_command_line : few (codes "variable n index 7\nprint ${n}\n") (start (record { name = codes "n"; style = Index (codes "5" ∷ []) } ∷ []))
    ≡ sends (both log_name true true (codes "5\n"))
unfolding log_name put_later start few script sends both line_command played shown form_among read value_text
variable_of_the_command_line = refl

-- a line that can't be read ends the script where it is reached
unread_line : script (codes "print a\n\nprint \"b\nprint c\n")
    ≡ record {
      pieces = both log_name true true (codes "a\n") ++ both log_name false false (codes "ERROR: UnclosedQuote at s.in:3\n");
      end = refused_at UnclosedQuote (codes "s.in") 3;
      pairs = 0;
    }
unfolding log_name put_later start few script sends both line_command played shown form_among read refusal_text digits
unread_line = refl
