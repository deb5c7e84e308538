use Rattle.plan_keys.proofs.Operators.{operator_keyed}
use Rattle.plan_keys.proofs.law.keyed_operators.Goals as goal

pub returns : goal.returns
returns c = operator_keyed
