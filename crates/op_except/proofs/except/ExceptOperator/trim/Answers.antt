use Rattle.cedr_table.specs.Operators.{least_of}
use Rattle.cedr_table.specs.PortLaws.{least_rises}
use Rattle.op_except.specs.Parts.{all_excepted}
use Rattle.op_except.proofs.TrimLemmas.{sides_trimmed, holds_trimmed, parts_trimmed}
use Rattle.op_except.proofs.except.ExceptOperator.trim.Goals as goal

pub returns-clause-stands : goal.returns-clause-stands
returns-clause-stands c = λ tables earlier stands rise.
    let op = c.args.self.now in
    let left = c.forget_before-3.ensures in
    let right = c.forget_ended.ensures in
    let lives = c.forget_before-2.ensures in
    let parts = c.forget_before.ensures in
    record {
      sides = sides_trimmed c.args.self.now c.forget_before-3.new.filed c.forget_ended.new.self c.forget_before-2.new.self c.forget_before.new.self tables earlier c.args.marks.now c.least_mark-least.result c.earliest-first.result rise c.least_mark-least.ensures stands.sides
          left.kept left.ends left.ordered right.kept right.ends right.ordered lives.lives lives.left (c.earliest-first.ensures lives.lives);
      parts = parts_trimmed op.parts c.forget_before.new.self (all_excepted op.tests tables) (least_of earlier) (least_of c.args.marks.now) c.least_mark-least.result (least_rises earlier c.args.marks.now rise) c.least_mark-least.ensures stands.parts parts.lives parts.left;
    }

pub returns-clause-held : goal.returns-clause-held
returns-clause-held c = λ tables earlier stands rise.
    let left = c.forget_before-3.ensures in
    let right = c.forget_ended.ensures in
    let lives = c.forget_before-2.ensures in
    let parts = c.forget_before.ensures in
    holds_trimmed c.args.self.now c.forget_before-3.new.filed c.forget_ended.new.self c.forget_before-2.new.self c.forget_before.new.self tables earlier c.args.marks.now c.least_mark-least.result c.earliest-first.result rise c.least_mark-least.ensures stands.sides
    left.kept left.ends left.ordered right.kept right.ends right.ordered lives.lives lives.left (c.earliest-first.ensures lives.lives) stands.parts parts.left
