use Rattle.op_except.proofs.TrimLemmas.{held_all, lives_held}
use Rattle.op_except.proofs.law.held_rows.Goals as goal

pub returns-clause-rows : goal.returns-clause-rows
returns-clause-rows c = held_all

pub returns-clause-lives : goal.returns-clause-lives
returns-clause-lives c = lives_held
