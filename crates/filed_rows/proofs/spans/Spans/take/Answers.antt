use Rattle.std.proofs.Common.{◌<◌, ◌++◌, sym, subst, List}
use Rattle.cedr_base.specs.declared.row.Row.{Row}
use Rattle.cedr_base.specs.Rows.{count_of}
use Rattle.filed_rows.proofs.SpanLemmas.{open_there, ending_there, open_goes, ending_goes}
use Rattle.filed_rows.proofs.spans.Spans.take.Goals as goal

pub invariant_of-self : goal.invariant_of-self
invariant_of-self c =
    let there : 0 < count_of c.args.row.now (c.self.inside.ending ++ c.self.inside.unended) = subst (λ (rows : List Row). 0 < count_of c.args.row.now rows) (sym c.self.view_is) c.requires in
    open_goes c.self.inside.longest c.args.row.now c.self.inside.ending c.self.inside.unended c.take.new.self c.self.invariant (c.take.ensures.taken (open_there c.self.inside.longest c.args.row.now c.self.inside.ending c.self.inside.unended c.self.invariant c.if-row-eq-FOREVER.true there))

pub invariant_of-self-else-row-eq-FOREVER : goal.invariant_of-self-else-row-eq-FOREVER
invariant_of-self-else-row-eq-FOREVER c =
    let there : 0 < count_of c.args.row.now (c.self.inside.ending ++ c.self.inside.unended) = subst (λ (rows : List Row). 0 < count_of c.args.row.now rows) (sym c.self.view_is) c.requires in
    ending_goes c.self.inside.longest c.args.row.now c.self.inside.ending c.take-else-row-eq-FOREVER.new.self c.self.inside.unended c.self.invariant
    (c.take-else-row-eq-FOREVER.ensures.taken (ending_there c.self.inside.longest c.args.row.now c.self.inside.ending c.self.inside.unended c.self.invariant c.if-row-eq-FOREVER.false there))
