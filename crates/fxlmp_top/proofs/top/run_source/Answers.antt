use Rattle.std.proofs.Common.{rules}
use Rattle.outside.proofs.Sending.{SendsFront-none}
use Rattle.fxlmp_top.proofs.top.run_source.Goals as goal

-- nothing was sent
pub returns-in-Err-clause-ends : goal.returns-in-Err-clause-ends
returns-in-Err-clause-ends g c = λ files told. SendsFront-none (g.P.Press.seen c.args.press.now).sent _

pub returns-in-Err-first_settings-clause-ends : goal.returns-in-Err-first_settings-clause-ends
returns-in-Err-first_settings-clause-ends g c = λ files told. SendsFront-none (g.P.Press.seen c.args.press.now).sent _

pub returns-in-Err-ReadFault-clause-ends : goal.returns-in-Err-ReadFault-clause-ends
returns-in-Err-ReadFault-clause-ends g c = λ files told. SendsFront-none (g.P.Press.seen c.args.press.now).sent _

pub returns : goal.returns
returns g c = record {
  ends = λ files told. SendsFront-none (g.P.Press.seen c.args.press.now).sent _;
  counted = search rules;
  cause = search rules;
  kept = search rules;
  stays = search rules;
  no_usage = search rules;
}
