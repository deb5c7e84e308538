use Rattle.cedr_table.specs.Counted.{spread}
use Rattle.filed_rows.specs.Spans.{begins_before}
use Rattle.filed_rows.proofs.SpanLemmas.{meeting_is, among_filtered, among_first, among_second}
use Rattle.filed_rows.proofs.spans.Spans.meeting.Goals as goal

pub returns-clause-rows : goal.returns-clause-rows
returns-clause-rows c = meeting_is c.args.time c.args.last c.self.inside.ending c.self.inside.unended c.args.self.now _ _ c.self.view_is c.ending_meeting.ensures.rows c.begun_before.ensures.rows

pub returns-clause-among : goal.returns-clause-among
returns-clause-among c = (
  among_first (spread c.ending_meeting.result) c.self.inside.ending c.self.inside.unended c.args.self.now c.self.view_is c.ending_meeting.ensures.among,
  among_second (spread c.begun_before.result) c.self.inside.ending c.self.inside.unended c.args.self.now c.self.view_is (among_filtered (begins_before c.args.last) c.self.inside.unended _ c.begun_before.ensures.rows),
)
