use Rattle.plan_follow.proofs.CutScripts.{none_refused, all_sent, tables_meet, marks_meet}
use Rattle.plan_follow.proofs.ShapesAlike.{sifted_alike}
use Rattle.plan_follow.proofs.law.cut_scripts.Goals as goal

pub returns-clause-taken : goal.returns-clause-taken
returns-clause-taken c = none_refused c.reading_law.ensures

pub returns-clause-table : goal.returns-clause-table
returns-clause-table c = λ nodes shapes first more whole front rest planned save may gave. tables_meet nodes planned save shapes first more (all_sent c.reading_law.ensures nodes shapes first more may) whole front rest gave

pub returns-clause-mark : goal.returns-clause-mark
returns-clause-mark c = λ nodes shapes first more whole front rest planned save may gave. marks_meet nodes planned save shapes first more (all_sent c.reading_law.ensures nodes shapes first more may) whole front rest gave

pub returns-clause-shapes : goal.returns-clause-shapes
returns-clause-shapes c = sifted_alike
