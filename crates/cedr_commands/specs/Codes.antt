-- The exit statuses.
use Rattle.std.specs.Prelude.{ℕ}
use Rattle.cedr_commands.specs.declared.status.Status.{Status}
use Rattle.cedr_commands.specs.declared.status.Status.TheVariants as status

-- the number of a status, which is the exit status
abbrev pub code_of : Status → ℕ
code_of status.Done = 0
code_of status.Usage = 1
code_of status.Plan = 2
code_of status.Events = 3
code_of status.Read = 4
code_of status.Write = 5
code_of status.OutOfMemory = 6
code_of status.Checkpoint = 7
