use Rattle.op_except.proofs.RangeLemmas.{none_some}
use Rattle.op_except.proofs.LifeLemmas.{earliest_found, earliest_later, earliest_none}
use Rattle.op_except.proofs.lives.Lives.earliest.Goals as goal

pub returns-in-Some : goal.returns-in-Some
returns-in-Some c = λ are. earliest_found c.args.self.now.by_begin.keys c.args.self.now.by_end c.in-Some.life.now c.args.mark are c.in-Some.ensures.member c.in-Some.ensures.least c.if-life-mark.true

pub returns-in_default : goal.returns-in_default
returns-in_default c = λ are. earliest_later c.args.self.now.by_begin.keys c.args.self.now.by_end c.in-Some.life.now c.args.mark are c.in-Some.ensures.least c.if-life-mark.false

pub returns-in_default-2 : goal.returns-in_default-2
returns-in_default-2 c = λ are. earliest_none c.args.self.now.by_begin.keys c.args.self.now.by_end c.args.mark are (λ some. none_some c.first.result c.in_default.is (c.first.ensures.variant.1 some))
