use Rattle.filed_rows.proofs.SpanLemmas.{ended_are}
use Rattle.filed_rows.proofs.spans.Spans.ended_by.Goals as goal

pub returns-clause-rows : goal.returns-clause-rows
returns-clause-rows c = ended_are c.args.time c.self.inside.longest c.self.inside.ending c.self.inside.unended c.args.self.now _ c.self.invariant c.requires c.self.view_is c.ended_by.ensures.rows
