use Rattle.cedr_save.specs.Reading.{other_sources}
use Rattle.cedr_save.proofs.FrontStands.{end_may}
use Rattle.cedr_save.proofs.states.StateReader.may_begin_next.Goals as goal

pub returns-in-None : goal.returns-in-None
returns-in-None c = end_may c.starts_with.result (other_sources c.args.self.now c.args.nodes.now) c.args.front.now c.in-None.ensures c.starts_with.ensures.value
