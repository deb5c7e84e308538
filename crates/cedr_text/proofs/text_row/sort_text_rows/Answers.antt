use Rattle.cedr_text.proofs.text_row.sort_text_rows.Goals as goal

pub returns : goal.returns
returns c = c.canonical_order.ensures.sorted c.args.rows.now.items c.sort_unstable.new.self.items c.sort_unstable.ensures.permutation c.sort_unstable.ensures.sorted
