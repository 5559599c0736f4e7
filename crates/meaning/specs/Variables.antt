-- Variables, and what stands for their names in texts.
use Rattle.std.specs.Prelude.{cond, ℕ, ℤ, Result, Ok, Err, List}
use Rattle.fx_num.specs.declared.faults.FormulaFault.{FormulaFault}
use Rattle.fx_num.specs.declared.faults.FormulaFault.TheVariants as formula
use Rattle.fx_num.specs.declared.faults.VarFault.{VarFault}
use Rattle.fx_num.specs.declared.faults.VarFault.TheVariants as var_fault
use Rattle.fx_num.specs.declared.numbers.Number.{Number}
use Rattle.command_words.specs.declared.variables.NewVariable.{NewVariable}
use Rattle.command_words.specs.declared.variables.VariableStyle.{VariableStyle}
use Rattle.command_words.specs.declared.variables.VariableStyle.TheVariants as new
use Rattle.meaning.specs.declared.code.Code.{Code}
use Rattle.meaning.specs.declared.code.Code.TheVariants as code
use Rattle.meaning.specs.declared.refusal.SettingsRefusal.{SettingsRefusal}
use Rattle.meaning.specs.declared.refusal.SettingsRefusal.TheVariants as refusal
use Rattle.meaning.specs.declared.settings.Settings.{Settings}
use Rattle.meaning.specs.Known.{known_in}
use Rattle.meaning.specs.Outcome.{Outcome, done, refused}
use Rattle.script_lines.specs.declared.refusals.ExpandRefusal.{ExpandRefusal}
use Rattle.script_lines.specs.declared.refusals.ExpandRefusal.TheVariants.{BadDollar, Inner, NoMemory}
use Rattle.script_lines.specs.Substitution.{expansion}
use Rattle.script_lines.specs.Table.{Table, is_no_memory}
use Rattle.var_table.specs.declared.styles.VarStyle.{VarStyle}
use Rattle.var_table.specs.declared.styles.VarStyle.TheVariants as style
use Rattle.var_table.specs.Variables.{Named, defined, without}
use Rattle.variable_values.specs.Values.{formula_text, formula_value, text_of as value_text}

-- the code of a formula's fault
abbrev pub formula_code : FormulaFault → Code
formula_code (formula.Syntax place) = code.Syntax
formula_code (formula.Unknown name) = code.UnknownName
formula_code (formula.DivideByZero place) = code.DivideByZero
formula_code (formula.Range place) = code.FormulaRange
formula_code (formula.NotNumber name) = code.NotNumber
formula_code formula.TooDeep = code.TooDeep
formula_code formula.NoMemory = code.Syntax

-- the code of a variable's fault
abbrev pub fault_code : VarFault → Code
fault_code (var_fault.UnknownVariable name) = code.UnknownName
fault_code (var_fault.Mixed name) = code.Mixed
fault_code (var_fault.NotText name) = code.NotText
fault_code (var_fault.Formula fault) = formula_code fault
fault_code var_fault.NoMemory = code.UnknownName

-- why a variable or a formula has no value, as a refusal
abbrev pub fault_refusal : VarFault → SettingsRefusal
fault_refusal fault = cond (is_no_memory fault) refusal.NoMemory (refusal.Code (fault_code fault))

-- what stands for names and formulas: the texts of variables and of values, by what is known in the state
abbrev pub table_over : List Named → List Number → Table
table_over vars known = record { names = value_text vars known; formulas = formula_text vars known }

abbrev pub table_of : Settings → Table
table_of s = table_over s.vars (known_in s)

-- the code of a text in which a `$` stands for nothing
abbrev pub expand_code : ExpandRefusal → Code
expand_code (BadDollar place) = code.BadDollar
expand_code (Inner fault) = fault_code fault
expand_code NoMemory = code.BadDollar

abbrev pub coded : {X : Type 0} → Result X ExpandRefusal → Result X Code
coded (Ok x) = Ok x
coded (Err why) = Err (expand_code why)

-- a text with what stands for its names
abbrev pub text_of : Settings → List ℕ → Result (List ℕ) Code
text_of s text = coded (expansion (table_of s) text)

-- the value of a formula's text, in units
abbrev pub valued : Result ℤ VarFault → Result ℤ Code
valued (Ok v) = Ok v
valued (Err fault) = Err (fault_code fault)

abbrev pub formula_of : Settings → List ℕ → Result ℤ Code
formula_of s text = valued (formula_value s.vars (known_in s) text 0)

abbrev pub with_vars : Settings → List Named → Settings
with_vars s vars = record s { vars = vars }

-- a variable of this style: index and loop leave one that is there
abbrev pub defines : List ℕ → VarStyle → Settings → Outcome
defines name style s = done (with_vars s (defined s.vars name style))

abbrev pub defines_text : List ℕ → Settings → Result (List ℕ) Code → Outcome
defines_text name s (Ok text) = defines name (style.Plain text) s
defines_text name s (Err why) = refused s why

-- `variable`; a formula is kept as it is written, and read where its value is asked for
abbrev pub variable_of : List ℕ → VariableStyle → Settings → Outcome
variable_of name (new.Index values) s = defines name (style.Index values) s
variable_of name (new.Loop range) s = defines name (style.Loop range.first range.last) s
variable_of name (new.Equal formula) s = defines name (style.Equal formula) s
variable_of name (new.Atom formula) s = defines name (style.AtomWise formula) s
variable_of name (new.Plain text) s = defines_text name s (text_of s text)
variable_of name new.Delete s = done (with_vars s (without s.vars name))

abbrev pub variable : NewVariable → Settings → Outcome
variable v s = variable_of v.name v.style s
