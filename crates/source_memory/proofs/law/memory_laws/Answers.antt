use Rattle.source_memory.proofs.MemoryLemmas.{remembers_left, continues_first, continues_behind, continues_left, remembered_not_over}
use Rattle.source_memory.proofs.law.memory_laws.Goals as goal

pub returns-clause-begins : goal.returns-clause-begins
returns-clause-begins c = continues_first

pub returns-clause-goes_on : goal.returns-clause-goes_on
returns-clause-goes_on c = continues_behind

pub returns-clause-forgets : goal.returns-clause-forgets
returns-clause-forgets c = continues_left

pub returns-clause-remembers : goal.returns-clause-remembers
returns-clause-remembers c = remembers_left

pub returns-clause-none_over : goal.returns-clause-none_over
returns-clause-none_over c = remembered_not_over
