use Rattle.std.proofs.Common.{◌≡◌, List, sym, subst}
use Rattle.std.proofs.lemmas.Result.{IfOk-weaker}
use Rattle.fx_num.specs.declared.numbers.Number.{Number}
use Rattle.script_runs.specs.Line.{numbers_under}
use Rattle.script_runs.proofs.NumberLemmas.{printable_ready}
use Rattle.thermo_text.specs.Thermo.{HasEachNumber, style_one}
use Rattle.script_runs.proofs.numbers.numbers.Goals as goal

pub returns-clause-ready : goal.returns-clause-ready
returns-clause-ready c =
    IfOk-weaker c.under_keywords.result
    (λ (n : List Number). n ≡ numbers_under c.values_of-values.result)
    (λ (n : List Number). HasEachNumber n style_one)
    (λ n same. subst (λ (m : List Number). HasEachNumber m style_one) (sym same) (printable_ready c.values_of-values.result c.values_of-values.ensures.printable)) c.under_keywords.ensures
