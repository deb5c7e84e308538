use Rattle.std.proofs.Common.{refl}
use Rattle.cedr_align.proofs.Aligned.{mark_came, end_came, broken_came}
use Rattle.cedr_align.proofs.aligner.Aligner.take_message.Goals as goal

pub returns-in_ok-settle-in-Mark-clause-taken : goal.returns-in_ok-settle-in-Mark-clause-taken
returns-in_ok-settle-in-Mark-clause-taken c = λ ms al may.
    let same = c.in_ok-settle-in-Mark.ensures.same in
    mark_came c.args.self.now _ ms c.args.message c.in-Mark.t _ _ c.guarantee-before.result c.args.out.now.items c.settle.new.out.items al may c.in-Mark.is c.guarantee-before.ensures c.in_ok-settle-in-Mark.ensures.settled
    same.level same.mark same.high same.ended c.max-self.ensures refl

pub returns-in_ok-push-in-End-clause-taken : goal.returns-in_ok-push-in-End-clause-taken
returns-in_ok-push-in-End-clause-taken c = λ ms al may.
    let same = c.in_ok-settle-in-End.ensures.same in
    end_came c.args.self.now _ ms c.args.message _ c.guarantee-before-in-End.result c.args.out.now.items c.settle-in-End.new.out.items c.push.new.self.items al may c.in-End.is c.guarantee-before-in-End.ensures c.in_ok-settle-in-End.ensures.settled
    same.level same.mark same.high same.ended c.in_ok-push-in-End.ensures.items refl

pub returns-in_ok-push-in-Broken-clause-taken : goal.returns-in_ok-push-in-Broken-clause-taken
returns-in_ok-push-in-Broken-clause-taken c = λ ms al may. broken_came c.args.self.now ms c.args.message _ c.args.out.now.items c.push-in-Broken.new.self.items al may c.in-Broken.is c.in_ok-push-in-Broken.ensures.items refl
