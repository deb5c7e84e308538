use Rattle.std.proofs.Common.{◌≡◌, ◌<◌, length, drop, rules}
use Rattle.cedr_base.proofs.StoredLemmas.{one_passed, none_left}
use Rattle.cedr_base.proofs.field_refs.behind.Goals as goal

pub loop-before-preserved : goal.loop-before-preserved
loop-before-preserved c = λ fields holds.
    let some : 0 < length c.loop-before.rest.now = (let test = c.if-not-is_empty.ensures in search rules) in
    let left = c.loop-before.invariant fields holds in
    one_passed c.loop-before.rest.now c.field_len.result c.loop-before.before left.0 (drop c.args.count fields) left.1.0 some c.loop-before-test.true c.field_len.ensures.first left.1.1

pub returns-else-not-is_empty : goal.returns-else-not-is_empty
returns-else-not-is_empty c = λ fields holds.
    let none : length c.loop-before.rest.now ≡ 0 = (let test = c.if-not-is_empty.ensures in search rules) in
    let left = c.loop-before.invariant fields holds in
    none_left c.loop-before.rest.now c.loop-before.before left.0 (drop c.args.count fields) left.1.0 left.1.1 none
