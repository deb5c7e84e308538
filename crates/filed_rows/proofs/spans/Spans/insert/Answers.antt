use Rattle.std.proofs.Common.{◌∙◌, ap, max}
use Rattle.filed_rows.proofs.SpanLemmas.{after_insert, open_comes, ending_comes}
use Rattle.filed_rows.proofs.spans.Spans.insert.Goals as goal

pub invariant_of-self : goal.invariant_of-self
invariant_of-self c =
    open_comes c.self.inside.longest c.args.row c.self.inside.ending c.self.inside.unended c.insert.new.self c.if-row-eq-FOREVER.true c.self.invariant (after_insert c.insert.result c.args.row c.self.inside.unended c.insert.new.self c.insert.ensures.ok c.insert.ensures.err)

pub invariant_of-self-2 : goal.invariant_of-self-2
invariant_of-self-2 c =
    ending_comes c.self.inside.longest c.max-self-inside.result c.args.row c.self.inside.ending c.insert-2.new.self c.self.inside.unended c.if-row-eq-FOREVER.false (c.max-self-inside.ensures ∙ ap (max c.self.inside.longest) c.saturating_sub.ensures) c.self.invariant
    (after_insert c.insert-2.result c.args.row c.self.inside.ending c.insert-2.new.self c.insert-2.ensures.ok c.insert-2.ensures.err)
