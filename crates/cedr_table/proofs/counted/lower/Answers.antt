use Rattle.std.proofs.Common.{◌≡◌, ℕ, Option, Some, ◌∙◌, ap, sym, arith, rules}
use Rattle.std.specs.Prelude.{unwrap_or}
use Rattle.std.specs.BTreeMap.{is_at}
use Rattle.std.proofs.lemmas.Map.Steps.{set_value_same}
use Rattle.cedr_base.specs.Rows.{row_cmp}
use Rattle.cedr_table.specs.Counted.{copies}
use Rattle.cedr_table.proofs.CountLemmas.{taken, still_there, there_before, some_left}
use Rattle.cedr_table.proofs.counted.lower.Goals as goal

pub returns-in-Some-clause-lowered : goal.returns-in-Some-clause-lowered
returns-in-Some-clause-lowered c = λ many.
    let old = c.args.map.now.entries in
    let left = c.lower_count.new.count in
    let was : copies old c.args.row.now ≡ c.in-Some.count.now = ap (λ (o : Option ℕ). unwrap_or o 0) (sym c.in-Some.ensures.value) in
    let less = c.lower_count.ensures.lowered (omega (arith, c.lower_count.ensures.was)) in
    taken c.args.row.now (Some left) old (c.get_mut.follows.lender left).entries (less ∙ sym was) ((c.get_mut.follows.holds left).3 (search rules)).0

pub returns-in-Some-clause-others : goal.returns-in-Some-clause-others
returns-in-Some-clause-others c = λ few.
    let same = c.lower_count.ensures.others (omega (arith, c.lower_count.ensures.was)) in
    (c.get_mut.follows.holds c.lower_count.new.count).0
    ∙ set_value_same (is_at (row_cmp c.args.row.now)) c.args.map.now.entries c.lower_count.new.count (sym c.in-Some.ensures.value ∙ ap Some (sym same))

pub returns-in-Some-clause-there : goal.returns-in-Some-clause-there
returns-in-Some-clause-there c =
    let old = c.args.map.now.entries in
    let left = c.lower_count.new.count in
    let some = there_before c.args.row.now c.in-Some.count.now old c.requires.there (sym c.in-Some.ensures.value) in
    still_there c.args.row.now (Some left) old (c.get_mut.follows.lender left).entries (some_left c.in-Some.count.now left some c.lower_count.ensures.lowered c.lower_count.ensures.others) c.requires.there ((c.get_mut.follows.holds left).3 (search rules)).0
