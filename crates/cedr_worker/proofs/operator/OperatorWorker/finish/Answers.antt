use Rattle.cedr_worker.specs.Inputs.{taken_in}
use Rattle.cedr_worker.proofs.EndLemmas.{sound_end, lost_end, inputs_end}
use Rattle.cedr_worker.proofs.operator.OperatorWorker.finish.Goals as goal

pub returns-clause-sound : goal.returns-clause-sound
returns-clause-sound c =
    let w = c.args.self in sound_end w.node (taken_in w.inputs.items) w.outlets c.into_edges.result.items w.lacked w.broke (c.into_edges.ensures.all c.requires.over) c.requires.works

pub returns-clause-lost : goal.returns-clause-lost
returns-clause-lost c =
    let w = c.args.self in lost_end w.node (taken_in w.inputs.items) w.outlets c.into_edges.result.items w.lacked w.broke (c.into_edges.ensures.all c.requires.over) c.requires.over c.requires.works

pub returns-clause-over : goal.returns-clause-over
returns-clause-over c =
    let w = c.args.self in inputs_end w.node (taken_in w.inputs.items) w.outlets c.into_edges.result.items w.lacked w.broke (c.into_edges.ensures.all c.requires.over) c.requires.over c.requires.works
