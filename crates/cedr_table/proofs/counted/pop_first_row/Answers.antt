use Rattle.std.proofs.Common.{◌≡◌, ◌+◌, ◌*◌, ◌∙◌, ap, sym, ℕ, List, None}
use Rattle.std.specs.Prelude.{unwrap_or, Option}
use Rattle.std.specs.List.{slice_get}
use Rattle.cedr_base.specs.declared.row.Row.{Row}
use Rattle.cedr_base.specs.Rows.{one_if_same}
use Rattle.cedr_table.specs.Counted.{copies}
use Rattle.cedr_table.proofs.OrderLemmas.{first_of_map}
use Rattle.cedr_table.proofs.CountLemmas.{taken_all, still_there}
use Rattle.cedr_table.proofs.counted.pop_first_row.Goals as goal

pub returns-in-Some-clause-some : goal.returns-in-Some-clause-some
returns-in-Some-clause-some c = (
  first_of_map c.args.map.now.entries c.in-Some.row c.in-Some.count c.requires.ordered c.requires.there (ap (λ (es : List (Row × ℕ)). slice_get es 0) c.in-Some.ensures.removal),
  sym (ap (λ (o : Option ℕ). unwrap_or o 0) c.in-Some.ensures.value),
)

pub returns-in-Some-clause-counts : goal.returns-in-Some-clause-counts
returns-in-Some-clause-counts c = λ q.
    let old = c.args.map.now.entries in
    let is : c.in-Some.count ≡ copies old c.in-Some.row = sym (ap (λ (o : Option ℕ). unwrap_or o 0) c.in-Some.ensures.value) in
    ap (λ (n : ℕ). copies c.pop_first.new.self.entries q + n * one_if_same q c.in-Some.row) is ∙ taken_all c.in-Some.row old c.pop_first.new.self.entries c.in-Some.ensures.updates.0 q

pub returns-in-Some-clause-there : goal.returns-in-Some-clause-there
returns-in-Some-clause-there c = still_there c.in-Some.row None c.args.map.now.entries c.pop_first.new.self.entries (λ e. cc) c.requires.there c.in-Some.ensures.updates.0
