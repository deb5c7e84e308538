use Rattle.std.proofs.Common.{◌≡◌, ◌+◌, ℕ, List, ◌∙◌, ap, sym, subst, arith, None}
use Rattle.cedr_base.specs.declared.row.Row.{Row}
use Rattle.cedr_base.specs.Rows.{one_if_same}
use Rattle.cedr_table.specs.Counted.{copies}
use Rattle.cedr_table.proofs.CountLemmas.{taken, still_there}
use Rattle.cedr_table.proofs.counted.take_one.Goals as goal

pub returns-then-count-eq1-clause-counts : goal.returns-then-count-eq1-clause-counts
returns-then-count-eq1-clause-counts c = λ some.
    let low = c.lower-count.new.map.entries in
    let same = c.lower-count.ensures.others (omega (arith, c.if-count-eq1.true)) in
    let one : 1 ≡ copies low c.args.row.now = sym c.if-count-eq1.true ∙ c.lower-count.ensures.count ∙ ap (λ (es : List (Row × ℕ)). copies es c.args.row.now) (sym same) in
    subst (λ (es : List (Row × ℕ)). (q : Row) → copies c.remove.new.self.entries q + one_if_same q c.args.row.now ≡ copies es q) same
    (taken c.args.row.now None low c.remove.new.self.entries one c.remove.ensures.updates.0)

pub returns-then-count-eq1-clause-there : goal.returns-then-count-eq1-clause-there
returns-then-count-eq1-clause-there c = still_there c.args.row.now None c.lower-count.new.map.entries c.remove.new.self.entries (λ e. cc) c.lower-count.ensures.there c.remove.ensures.updates.0
