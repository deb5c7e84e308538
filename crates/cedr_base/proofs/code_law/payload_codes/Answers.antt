use Rattle.cedr_base.specs.CodeLaws.{code_order, code_exact, code_prefix_free, code_joined}
use Rattle.cedr_base.proofs.code_law.payload_codes.Goals as goal

pub returns-clause-in_order : goal.returns-clause-in_order
returns-clause-in_order c = code_order

pub returns-clause-exact : goal.returns-clause-exact
returns-clause-exact c = code_exact

pub returns-clause-prefix_free : goal.returns-clause-prefix_free
returns-clause-prefix_free c = code_prefix_free

pub returns-clause-joined : goal.returns-clause-joined
returns-clause-joined c = code_joined
