use Rattle.std.proofs.lemmas.Result.{IfOk-weaker}
use Rattle.pat_state.proofs.crossing.Crossing.find_seconds.Goals as goal

pub returns : goal.returns
returns c = IfOk-weaker c.find_seconds.result _ _ (λ rows found firsts. found firsts c.args.self.now.rows c.requires.crossed.second_are) c.find_seconds.ensures
