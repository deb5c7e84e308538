use Rattle.op_except.proofs.AgreeLemmas.{except_keeps}
use Rattle.op_except.proofs.law.agreeing_excepts.Goals as goal

pub returns : goal.returns
returns c = except_keeps
