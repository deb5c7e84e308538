use Rattle.std.proofs.lemmas.Result.{on_ok_weaker}
use Rattle.op_group.specs.Groups.{grouping_with}
use Rattle.op_group.proofs.Standing.{stands_after, gains_after, on_ok_both}
use Rattle.op_group.proofs.group.GroupOperator.apply.Goals as goal

pub returns-else-is_err-clause-stands : goal.returns-else-is_err-clause-stands
returns-else-is_err-clause-stands c = on_ok_weaker c.answer-result.result
    (λ e tables marks after stands can moved. stands_after (grouping_with c.args.self.now.keys c.args.self.now.count c.args.self.now.totalled) c.args.self.now.groups.entries c.answer-result.new.groups.entries c.args.self.now.points c.answer-result.new.points c.args.self.now.bags c.answer-result.new.bags tables marks c.args._port c.args.change after e.0 e.1 stands can moved)
    (on_ok_both _ _ c.answer-result.result c.answer-result.ensures.keeps c.answer-result.ensures.fields)

pub returns-else-is_err-clause-repairs : goal.returns-else-is_err-clause-repairs
returns-else-is_err-clause-repairs c = on_ok_weaker c.answer-result.result
    (λ e tables marks after stands can moved. gains_after (grouping_with c.args.self.now.keys c.args.self.now.count c.args.self.now.totalled) c.args.self.now.groups.entries c.args.self.now.points c.args.self.now.bags tables marks c.args._port c.args.change after c.args.out.now.items c.answer-result.new.out.items e stands can moved)
    c.answer-result.ensures.answers
