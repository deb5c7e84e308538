use Rattle.std.proofs.Common.{◌≡◌, ◌∙◌, ap, sym}
use Rattle.std.proofs.lemmas.Result.{IfOk-weaker}
use Rattle.cedr_base.specs.Rows.{in_order}
use Rattle.cedr_table.specs.Counted.{spread}
use Rattle.cedr_table.proofs.OrderLemmas.{spread_in_order}
use Rattle.cedr_table.proofs.table.Table.canonical.Goals as goal

pub returns : goal.returns
returns c = IfOk-weaker c.all_rows.result (λ rows. rows.items ≡ spread c.self.inside.rows.entries) (λ rows. rows.items ≡ in_order c.args.self.now)
    (λ rows is. is ∙ (sym (spread_in_order c.self.inside.rows.entries c.self.invariant.ordered) ∙ ap in_order c.self.view_is)) c.all_rows.ensures
