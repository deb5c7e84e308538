use Rattle.std.proofs.Common.{◌∙◌, ap, sym}
use Rattle.cedr_base.specs.Rows.{count_of}
use Rattle.cedr_table.proofs.CountLemmas.{count_spread}
use Rattle.cedr_table.proofs.table.Table.count.Goals as goal

pub returns : goal.returns
returns c = c.copies_in.ensures ∙ (sym (count_spread c.self.inside.rows.entries c.self.invariant.ordered c.args.row.now) ∙ ap (count_of c.args.row.now) c.self.view_is)
