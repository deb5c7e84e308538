use Rattle.std.proofs.lemmas.Result.{IfOk-weaker}
use Rattle.pat_state.proofs.crossing.Crossing.find_firsts.Goals as goal

pub returns : goal.returns
returns c = IfOk-weaker c.find_firsts.result _ _ (λ rows found seconds. found c.args.self.now.rows seconds c.requires.crossed.first_are) c.find_firsts.ensures
