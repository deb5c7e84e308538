-- The lists that a writer publishes.
use Rattle.std.specs.Prelude.{◌≡◌, ◌≢◌, ◌≤◌, List, [], ◌∷◌, ◌++◌, max, fold}
use Rattle.std.specs.Arc.{arc_value}
use mathlib.Core.List.{IsPrefix}
use Rattle.cedr_history.specs.declared.step.Step.{Step}
use Rattle.cedr_history.specs.declared.step.Step.TheVariants as step
use Rattle.cedr_history.specs.declared.close.Close.{Close}
use Rattle.cedr_history.specs.declared.close.Close.TheVariants.{Open, Ended, Broken}
use Rattle.cedr_history.specs.declared.listed.Listed.{Listed}

-- the list of a new history
abbrev pub nothing : Listed
nothing = record { changes = []; mark = 0; close = Open }

-- the list with a step: a change at the end, the greater of its mark and another one, or a close
abbrev pub step_added : Listed → Step → Listed
step_added l (step.Change c) = record l { changes = l.changes ++ arc_value c ∷ [] }
step_added l (step.Mark t) = record l { mark = max l.mark t }
step_added l (step.Close how) = record l { close = how }

-- after a close other than Open nothing changes
abbrev pub going : Close → Listed → Step → Listed
going Open l o = step_added l o
going Ended l o = l
going Broken l o = l

-- what a step leaves of a list
abbrev pub stepped : Listed → Step → Listed
stepped l o = going l.close l o

-- the list that these steps leave
abbrev pub listed : List Step → Listed
listed steps = fold stepped nothing steps

-- the list goes on from the earlier one
abbrev pub Extends : Listed → Listed → Type 0
Extends old new = IsPrefix old.changes new.changes × (old.mark ≤ new.mark) × (old.close ≢ Open → new ≡ old)
