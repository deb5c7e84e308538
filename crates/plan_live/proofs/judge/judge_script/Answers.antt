use Rattle.std.proofs.Common.{subst, arith}
use Rattle.std.proofs.lemmas.List.{length-take}
use Rattle.cedr_guard.specs.declared.refusal.TheConstants.{FILE_LIMIT}
use Rattle.plan_live.specs.Judged.{JudgesAll}
use Rattle.plan_live.proofs.ScriptLemmas.{played_small, played_large}
use Rattle.plan_live.proofs.judge.judge_script.Goals as goal

pub slice_bounds-judge_lines-end : goal.slice_bounds-judge_lines-end
slice_bounds-judge_lines-end c = omega (arith, c.if-script-gt-FILE_LIMIT.true, length-take FILE_LIMIT c.args.script.now)

pub judge_lines-requires-clause-limit : goal.judge_lines-requires-clause-limit
judge_lines-requires-clause-limit c = omega (arith, length-take FILE_LIMIT c.args.script.now)

pub returns-then-script-gt-FILE_LIMIT : goal.returns-then-script-gt-FILE_LIMIT
returns-then-script-gt-FILE_LIMIT c = λ before stands.
    subst (JudgesAll c.judge_lines.result c.args.nodes.now c.judge_lines.new.guards.items) (played_large c.args.nodes.now c.args.shapes.now before c.args.script.now c.if-script-gt-FILE_LIMIT.true) (c.judge_lines.ensures before stands)

pub returns-else-script-gt-FILE_LIMIT : goal.returns-else-script-gt-FILE_LIMIT
returns-else-script-gt-FILE_LIMIT c = λ before stands.
    subst (JudgesAll c.judge_lines-else-script-gt-FILE_LIMIT.result c.args.nodes.now c.judge_lines-else-script-gt-FILE_LIMIT.new.guards.items) (played_small c.args.nodes.now c.args.shapes.now before c.args.script.now c.if-script-gt-FILE_LIMIT.false)
    (c.judge_lines-else-script-gt-FILE_LIMIT.ensures before stands)
