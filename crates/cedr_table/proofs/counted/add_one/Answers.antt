use Rattle.std.proofs.Common.{◌≡◌, ◌+◌, ℕ, Option, Some, ◌∙◌, ap, subst, arith}
use Rattle.std.specs.Prelude.{unwrap_or}
use Rattle.std.specs.BTreeMap.Entry.{map_with_value}
use Rattle.cedr_table.specs.Counted.{copies}
use Rattle.cedr_table.proofs.CountLemmas.{added, IsUpdate, still_there, one_more}
use Rattle.cedr_table.proofs.counted.add_one.Goals as goal

pub returns-clause-ok : goal.returns-clause-ok
returns-clause-ok c = λ q.
    let old = c.args.map.now.entries in
    let count = c.or_insert-count.result.now in
    let new = (map_with_value c.in_ok-map.field-0 (count + 1)).entries in
    let had : count ≡ copies old c.args.row = c.or_insert-count.ensures.value ∙ ap (λ (o : Option ℕ). unwrap_or o 0) c.in_ok-map.ensures.value in
    let more = added c.args.row old new (subst (λ (k : ℕ). IsUpdate c.args.row (Some (k + 1)) old new) had (c.in_ok-map.ensures.update.0 (count + 1)).0) q in
    grind (arith, more)

pub returns-clause-there : goal.returns-clause-there
returns-clause-there c = λ q none.
    let count = c.or_insert-count.result.now in
    let there = still_there c.args.row (Some (count + 1)) c.args.map.now.entries (map_with_value c.in_ok-map.field-0 (count + 1)).entries (one_more count) c.requires.there (c.in_ok-map.ensures.update.0 (count + 1)).0 q in
    there (grind (arith, none))
