use Rattle.std.proofs.Common.{◌++◌, ◌∙◌, ap, sym}
use Rattle.std.proofs.lemmas.Result.{on_ok_weaker}
use Rattle.std.proofs.lemmas.List.{append-nil}
use Rattle.pat_unless.proofs.ScanLemmas.{waited_copies, waited_none}
use Rattle.pat_unless.proofs.terms.Terms.push_waited.Goals as goal

pub returns-then-begin-end : goal.returns-then-begin-end
returns-then-begin-end c = on_ok_weaker c.push_copies.result
    (λ is. is ∙ ap (λ rows. c.args.rows.now.items ++ rows) (waited_copies c.args.self.now.scope c.args.self.now.hold c.args.row.now c.args.count c.later-begin.result c.later-end.result c.later-begin.ensures c.later-end.ensures c.if-begin-end.true))
    c.push_copies.ensures

pub returns-else-begin-end : goal.returns-else-begin-end
returns-else-begin-end c = sym (ap (λ rows. c.args.rows.now.items ++ rows) (waited_none c.args.self.now.scope c.args.self.now.hold c.args.row.now c.args.count c.later-begin.result c.later-end.result c.later-begin.ensures c.later-end.ensures c.if-begin-end.false) ∙ append-nil c.args.rows.now.items)
