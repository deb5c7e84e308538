use Rattle.std.proofs.Common.{sym, ap, ◌∙◌}
use Rattle.std.specs.Ordering.{ordering_reverse}
use Rattle.cedr_base.specs.Order.{payload_cmp}
use Rattle.cedr_base.specs.OrderLaws.{payload_total}
use Rattle.cedr_text.proofs.payload_text.PayloadTextOrd.cmp.Goals as goal

pub returns-in-Read-Bare : goal.returns-in-Read-Bare
returns-in-Read-Bare c =
    let compared = c.compare_bare_with_read-in-Read-Bare.ensures ∙ ap (payload_cmp c.in-Read-Bare.bare) c.deref-in-Read-Bare.ensures in
    rw (← c.self.view_is, ← c.other.view_is, c.in-Read-Bare.is-0, c.in-Read-Bare.is-1)
    (c.reverse.ensures ∙ (ap ordering_reverse compared ∙ sym (payload_total.antisymm c.in-Read-Bare.read.value c.in-Read-Bare.bare)))
