use Rattle.std.proofs.Common.{◌≡◌, ◌+◌, ◌*◌, ◌∙◌, ap, ℕ, None}
use Rattle.std.specs.Prelude.{unwrap_or, Option}
use Rattle.cedr_base.specs.Rows.{one_if_same}
use Rattle.cedr_table.specs.Counted.{copies}
use Rattle.cedr_table.proofs.CountLemmas.{taken_all, still_there}
use Rattle.cedr_table.proofs.counted.take_all.Goals as goal

pub returns-clause-counts : goal.returns-clause-counts
returns-clause-counts c = λ q.
    let is : c.unwrap_or.result ≡ copies c.args.map.now.entries c.args.row.now = c.unwrap_or.ensures ∙ ap (λ (o : Option ℕ). unwrap_or o 0) c.remove.ensures.value in
    ap (λ (n : ℕ). copies c.remove.new.self.entries q + n * one_if_same q c.args.row.now) is ∙ taken_all c.args.row.now c.args.map.now.entries c.remove.new.self.entries c.remove.ensures.updates.0 q

pub returns-clause-there : goal.returns-clause-there
returns-clause-there c = still_there c.args.row.now None c.args.map.now.entries c.remove.new.self.entries (λ e. cc) c.requires.there c.remove.ensures.updates.0
