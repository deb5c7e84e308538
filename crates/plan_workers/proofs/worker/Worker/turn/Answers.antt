use Rattle.std.proofs.Common.{◌∙◌}
use Rattle.plan_workers.proofs.worker.Worker.turn.Goals as goal

pub returns-in-Source-clause-works : goal.returns-in-Source-clause-works
returns-in-Source-clause-works g c = λ role works.
    let reads = rw c.in-Source.is at works in
    record {
      kind = reads.kind;
      types = reads.types;
      works = c.turn.ensures.works role.shape role.content role.count reads.works;
      number = c.turn.ensures.same.number ∙ reads.number;
      takes = reads.takes;
      puts = c.turn.ensures.same.edges ∙ reads.puts;
    }
