use Rattle.std.specs.Char.{is_ascii_digit}
use Rattle.fx_num.proofs.DecimalLemmas.{list_all-prefix}
use Rattle.fx_num.proofs.decimal.split_digits.Goals as goal

pub returns-clause-all : goal.returns-clause-all
returns-clause-all c = rw c.count_digits-count.ensures.is (list_all-prefix is_ascii_digit c.args.text.now)
