use Rattle.plan_answer.proofs.ChangesLemmas.{leads}
use Rattle.plan_answer.proofs.law.streamed_changes.Goals as goal

pub returns : goal.returns
returns c = leads c.strong_passing.ensures.no_cut c.strong_passing.ensures.ascend
