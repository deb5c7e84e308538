use Rattle.std.proofs.Common.{subst}
use Rattle.cedr_save.specs.declared.states.Spot.{Spot}
use Rattle.cedr_save.specs.Reading.{StandsAtSpot}
use Rattle.cedr_save.proofs.StandLemmas.{comes_ended}
use Rattle.cedr_save.proofs.TakeLemmas.{behind_head}
use Rattle.cedr_save.proofs.states.StateReader.take.Goals as goal

pub returns-in-Begun : goal.returns-in-Begun
returns-in-Begun c = behind_head c.take_next.result c.args.self.now c.take_next.new.self c.args.nodes.now c.args.line.now c.in-Begun.is c.take_next.ensures

pub returns-in-Ended : goal.returns-in-Ended
returns-in-Ended c = λ before stands next.
    comes_ended c.args.self.now c.args.nodes.now before c.args.line.now (subst (λ (s : Spot). StandsAtSpot s c.args.self.now c.args.nodes.now before) c.in-Ended.is stands) next
