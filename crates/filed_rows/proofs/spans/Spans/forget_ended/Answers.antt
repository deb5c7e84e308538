use Rattle.cedr_table.specs.Counted.{ends_after}
use Rattle.filed_rows.proofs.SpanLemmas.{spans_left}
use Rattle.filed_rows.proofs.spans.Spans.forget_ended.Goals as goal

pub invariant_of-self : goal.invariant_of-self
invariant_of-self c =
    spans_left c.self.inside.longest (ends_after c.args.time) c.self.inside.ending c.forget_ended.new.self c.self.inside.unended c.forget_ended-2.new.self c.self.invariant c.forget_ended.ensures c.forget_ended-2.ensures
