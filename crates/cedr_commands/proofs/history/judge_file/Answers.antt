use Rattle.std.proofs.Common.{subst, arith}
use Rattle.std.proofs.lemmas.List.{length-take}
use Rattle.cedr_guard.specs.declared.refusal.TheConstants.{FILE_LIMIT}
use Rattle.cedr_commands.specs.Events.{JudgesFile}
use Rattle.cedr_commands.proofs.FileLemmas.{judged_small, judged_large}
use Rattle.cedr_commands.proofs.history.judge_file.Goals as goal

pub slice_bounds-judge_lines-end : goal.slice_bounds-judge_lines-end
slice_bounds-judge_lines-end c = omega (arith, c.if-bytes-gt-FILE_LIMIT.true, length-take FILE_LIMIT c.args.bytes.now)

pub judge_lines-requires : goal.judge_lines-requires
judge_lines-requires c = omega (arith, length-take FILE_LIMIT c.args.bytes.now)

pub returns-then-bytes-gt-FILE_LIMIT : goal.returns-then-bytes-gt-FILE_LIMIT
returns-then-bytes-gt-FILE_LIMIT c = subst (JudgesFile c.judge_lines.result) (judged_large c.args.bytes.now c.if-bytes-gt-FILE_LIMIT.true) c.judge_lines.ensures

pub returns-else-bytes-gt-FILE_LIMIT : goal.returns-else-bytes-gt-FILE_LIMIT
returns-else-bytes-gt-FILE_LIMIT c = subst (JudgesFile c.judge_lines-else-bytes-gt-FILE_LIMIT.result) (judged_small c.args.bytes.now c.if-bytes-gt-FILE_LIMIT.false) c.judge_lines-else-bytes-gt-FILE_LIMIT.ensures
