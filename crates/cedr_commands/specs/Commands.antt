-- The commands that words name, and the files that each names.
use Rattle.std.specs.Prelude.{ℕ, ◌≡◌, ◌≢◌, ◌<◌, ◌≤◌, List, [], ◌∷◌, length, codes, nat_lt, if◌then◌else◌, Option, None, Some}
use Rattle.std.specs.Str.{bytes_eq}
use Rattle.cedr_text.specs.Numbers.{whole_number}
use Rattle.cedr_commands.specs.declared.command.Job.{Job}
use Rattle.cedr_commands.specs.declared.command.Job.TheVariants.{History, Check, Serial, Run, Pool, Parts, Stream, Audit, Live, Make, Save, Resume, Follow, FollowFrom}

-- what to do, with which file, from which checkpoint, and with which script
pub record Command : Type 0 where
  pub job : Job
  pub file : List ℕ
  pub checkpoint : List ℕ
  pub script : List ℕ

-- the command of a word, which takes one file
abbrev pub job_of : List ℕ → Option Job
job_of word =
    if bytes_eq word (codes "history") then Some History
    else if bytes_eq word (codes "check") then Some Check
    else if bytes_eq word (codes "serial") then Some Serial
    else if bytes_eq word (codes "run") then Some Run
    else if bytes_eq word (codes "stream") then Some Stream
    else if bytes_eq word (codes "audit") then Some Audit
    else None

-- the command that does a job with one file
abbrev pub with_file : Option Job → List ℕ → Option Command
with_file None file = None
with_file (Some job) file = Some (record { job = job; file = file; checkpoint = []; script = [] })

-- a number that is at least 1
abbrev pub if_positive : Option ℕ → Option ℕ
if_positive None = None
if_positive (Some n) = if nat_lt 0 n then Some n else None

-- a number from 1 to this last one, of at most so many digits
abbrev pub number_up_to : ℕ → ℕ → List ℕ → Option ℕ
number_up_to digits last word = if nat_lt digits (length word) then None else if_positive (whole_number last word)

-- a number of events from 1 to 100,000, of one to six digits
abbrev pub events_of : List ℕ → Option ℕ
events_of word = number_up_to 6 100000 word

-- a number of threads from 1 to 16, of one or two digits
abbrev pub threads_of : List ℕ → Option ℕ
threads_of word = number_up_to 2 16 word

-- the command `make` with so many events a source
abbrev pub with_events : Option ℕ → Option Command
with_events None = None
with_events (Some n) = Some (record { job = Make n; file = []; checkpoint = []; script = [] })

-- the command `pool` with so many threads for the nodes of a plan
abbrev pub with_threads : Option ℕ → List ℕ → Option Command
with_threads None plan = None
with_threads (Some n) plan = Some (record { job = Pool n; file = plan; checkpoint = []; script = [] })

-- a number of parts from 1 to 16, of one or two digits
abbrev pub part_count : List ℕ → Option ℕ
part_count word = number_up_to 2 16 word

-- the command `parts` with so many parts of a plan's keys
abbrev pub with_parts : Option ℕ → List ℕ → Option Command
with_parts None plan = None
with_parts (Some n) plan = Some (record { job = Parts n; file = plan; checkpoint = []; script = [] })

-- the command of a word, which takes a plan, a checkpoint and a script
abbrev pub checkpoint_job : List ℕ → Option Job
checkpoint_job word =
    if bytes_eq word (codes "resume") then Some Resume
    else if bytes_eq word (codes "follow") then Some FollowFrom
    else None

-- the command that does a job with these
abbrev pub with_checkpoint : Option Job → List ℕ → List ℕ → List ℕ → Option Command
with_checkpoint None plan checkpoint script = None
with_checkpoint (Some job) plan checkpoint script = Some (record { job = job; file = plan; checkpoint = checkpoint; script = script })

-- `history FILE`, `check PLAN`, `serial PLAN`, `run PLAN`, `stream PLAN`, `audit PLAN`, `live PLAN SCRIPT`, `make N`, `pool N PLAN`,
-- `parts N PLAN`, `save PLAN SCRIPT`, `resume PLAN CHECKPOINT SCRIPT`, `follow PLAN SCRIPT`, `follow PLAN CHECKPOINT SCRIPT`
abbrev pub command_of : List (List ℕ) → Option Command
command_of (word ∷ file ∷ []) = if bytes_eq word (codes "make") then with_events (events_of file) else with_file (job_of word) file
command_of (word ∷ first ∷ second ∷ []) =
    if bytes_eq word (codes "live") then Some (record { job = Live; file = first; checkpoint = []; script = second })
    else if bytes_eq word (codes "save") then Some (record { job = Save; file = first; checkpoint = []; script = second })
    else if bytes_eq word (codes "follow") then Some (record { job = Follow; file = first; checkpoint = []; script = second })
    else if bytes_eq word (codes "pool") then with_threads (threads_of first) second
    else if bytes_eq word (codes "parts") then with_parts (part_count first) second
    else None
command_of (word ∷ first ∷ second ∷ third ∷ []) = with_checkpoint (checkpoint_job word) first second third
command_of words = None

-- the number of a job is in its range: a workload has from 1 to 100,000 events a source, a pool from 1 to 16 threads, and a plan
-- from 1 to 16 parts
abbrev pub IsNumbered : Job → Type 0
IsNumbered (Make n) = (0 < n) × (n ≤ 100000)
IsNumbered (Pool n) = (0 < n) × (n ≤ 16)
IsNumbered (Parts n) = (0 < n) × (n ≤ 16)
IsNumbered job = Unit {0}

-- a job that is ended by its own text: `stream` may wait, and `follow` writes and tells as its script goes on
abbrev pub StandsAlone : Job → Type 0
StandsAlone Stream = ⊥
StandsAlone Follow = ⊥
StandsAlone FollowFrom = ⊥
StandsAlone job = Unit {0}

-- the words match none of `run PLAN`, `stream PLAN`, `pool N PLAN` and `follow PLAN .. SCRIPT`
abbrev pub IsAlone : List (List ℕ) → Type 0
IsAlone (command ∷ plan ∷ []) = (command ≢ codes "run") × (command ≢ codes "stream")
IsAlone (command ∷ first ∷ second ∷ []) = (command ≡ codes "pool" → threads_of first ≡ None) × (command ≢ codes "follow")
IsAlone (command ∷ plan ∷ checkpoint ∷ script ∷ []) = command ≢ codes "follow"
IsAlone words = Unit {0}

-- the files that a command names
abbrev pub named_files : Command → List (List ℕ)
named_files command = files_of command.job command.file command.checkpoint command.script where
  files_of : Job → List ℕ → List ℕ → List ℕ → List (List ℕ)
  files_of Live file checkpoint script = file ∷ script ∷ []
  files_of Save file checkpoint script = file ∷ script ∷ []
  files_of Resume file checkpoint script = file ∷ checkpoint ∷ script ∷ []
  files_of Follow file checkpoint script = file ∷ script ∷ []
  files_of FollowFrom file checkpoint script = file ∷ checkpoint ∷ script ∷ []
  files_of (Make n) file checkpoint script = []
  files_of job file checkpoint script = file ∷ []
