use Rattle.std.proofs.Common.{arith}
use Rattle.std.proofs.lemmas.Option.{IfSome_then}
use Rattle.op_group.proofs.PointLemmas.{first_taken, least_first, none_in_empty}
use Rattle.op_group.proofs.forget.take_first.Goals as goal
use Rattle.op_group.proofs.forget.take_first.Goals.{in_default-via-in-Some+else-point-mark, in_default-via-in_default}

pub returns-in-Some-clause-some : goal.returns-in-Some-clause-some
returns-in-Some-clause-some c = first_taken c.args.due.now.keys c.pop_first.new.self.keys c.args.mark c.in-Some.point.now c.pop_first.result c.in-Some.ensures.first c.if-point-mark.true c.pop_first.ensures.removal c.pop_first.ensures.member c.pop_first.ensures.least
    (IfSome_then c.pop_first.result c.pop_first.ensures.updates (λ k u. u.0))

pub returns-in_default-clause-none : goal.returns-in_default-clause-none
returns-in_default-clause-none c = λ t key there. elim c.in_default.branch [
  | in_default-via-in-Some+else-point-mark w ↦
      let late = w.if-point-mark.false in
      let first = least_first c.args.due.now.keys w.in-Some.point.now w.in-Some.ensures.least t key there in omega arith
  | in_default-via-in_default w ↦ absurd (none_in_empty c.args.due.now.keys t key (λ some. let e = w.in_default.ensures.variant.1 some in let f = e in cc) there)
]
