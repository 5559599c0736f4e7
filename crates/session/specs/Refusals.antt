-- Answers of the parts of a script as refusals of a command.
use Rattle.std.specs.Prelude.{Result, Ok, Err}
use Rattle.command_words.specs.declared.refusal.WordRefusal.{WordRefusal}
use Rattle.command_words.specs.declared.refusal.WordRefusal.TheVariants as word
use Rattle.meaning.specs.declared.code.Code.{Code}
use Rattle.meaning.specs.declared.code.Code.TheVariants as code
use Rattle.meaning.specs.declared.going.Going.{Going}
use Rattle.meaning.specs.declared.going.Going.TheVariants.{On}
use Rattle.meaning.specs.declared.refusal.Refusal.{Refusal}
use Rattle.meaning.specs.declared.refusal.Refusal.TheVariants as refusal
use Rattle.meaning.specs.declared.refusal.SettingsRefusal.{SettingsRefusal}
use Rattle.meaning.specs.declared.refusal.SettingsRefusal.TheVariants as settings
use Rattle.meaning.specs.Lines.{word_code}
use Rattle.meaning.specs.Variables.{expand_code, fault_code}
use Rattle.fx_num.specs.declared.faults.VarFault.{VarFault}
use Rattle.fx_num.specs.declared.faults.VarFault.TheVariants as var_fault
use Rattle.script_lines.specs.declared.refusals.ExpandRefusal.{ExpandRefusal}
use Rattle.script_lines.specs.declared.refusals.LineRefusal.{LineRefusal}
use Rattle.script_lines.specs.declared.refusals.LineRefusal.TheVariants as line
use Rattle.session.specs.declared.stops.Stop.{Stop}
use Rattle.script_lines.specs.declared.refusals.ExpandRefusal.TheVariants as expand

-- of a text in which a `$` stands for nothing
abbrev pub expand_refusal : ExpandRefusal → SettingsRefusal
expand_refusal expand.NoMemory = settings.NoMemory
expand_refusal (expand.BadDollar place) = settings.Code (expand_code (expand.BadDollar place))
expand_refusal (expand.Inner fault) = settings.Code (expand_code (expand.Inner fault))

-- of variables that have no next value
abbrev pub next_refusal : VarFault → Refusal
next_refusal var_fault.NoMemory = refusal.NoMemory
next_refusal (var_fault.UnknownVariable name) = refusal.Code (fault_code (var_fault.UnknownVariable name))
next_refusal (var_fault.Mixed name) = refusal.Code (fault_code (var_fault.Mixed name))
next_refusal (var_fault.NotText name) = refusal.Code (fault_code (var_fault.NotText name))
next_refusal (var_fault.Formula fault) = refusal.Code (fault_code (var_fault.Formula fault))

-- of a command that changes settings alone
abbrev pub widened : SettingsRefusal → Refusal
widened (settings.Code why) = refusal.Code why
widened settings.NoMemory = refusal.NoMemory

-- what a command answers that does not quit
abbrev pub on_of : Result Unit Refusal → Result Going Refusal
on_of (Ok done) = Ok On
on_of (Err why) = Err why

abbrev pub coded_of : Result Unit Code → Result Going Refusal
coded_of (Ok done) = Ok On
coded_of (Err why) = Err (refusal.Code why)

abbrev pub changed_of : Result Unit SettingsRefusal → Result Going Refusal
changed_of (Ok done) = Ok On
changed_of (Err why) = Err (widened why)

-- what a command answers that leads a script elsewhere
abbrev pub led_of : Result Unit Stop → Result Going Stop
led_of (Ok done) = Ok On
led_of (Err stop) = Err stop

-- of words that are no command
abbrev pub word_refusal : WordRefusal → Refusal
word_refusal word.NoMemory = refusal.NoMemory
word_refusal word.UnknownCommand = refusal.Code (word_code word.UnknownCommand)
word_refusal word.WordCount = refusal.Code (word_code word.WordCount)
word_refusal (word.BadWord place) = refusal.Code (word_code (word.BadWord place))
word_refusal (word.BadValue place) = refusal.Code (word_code (word.BadValue place))

-- of a command's text that cannot be read
abbrev pub unread_refusal : LineRefusal → Refusal
unread_refusal line.NoMemory = refusal.NoMemory
unread_refusal (line.UnclosedQuote number) = refusal.Code code.UnclosedQuote
unread_refusal (line.ContinuationAtEnd number) = refusal.Code code.ContinuationAtEnd
unread_refusal (line.QuoteTail number) = refusal.Code code.QuoteTail
