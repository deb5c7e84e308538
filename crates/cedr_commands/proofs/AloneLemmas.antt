-- Words that match no command which waits or goes on name one that stands alone.
use Rattle.std.proofs.Common.{◌≡◌, ◌≢◌, ℕ, List, [], ◌∷◌, Bool, true, false, codes, Option, Some, None, refl, sym, subst}
use Rattle.std.specs.Prelude.{IfSome, if◌then◌else◌, option_map}
use Rattle.std.specs.Str.{bytes_eq}
use Rattle.std.proofs.lemmas.Slice.Eq.{bytes_eq-Decides}
use Rattle.cedr_commands.specs.declared.command.Job.{Job}
use Rattle.cedr_commands.specs.declared.command.Job.TheVariants.{History, Check, Serial, Run, Stream, Audit, Live, Save, Resume, Follow, FollowFrom}
use Rattle.cedr_commands.specs.Commands.{Command, IsAlone, StandsAlone, checkpoint_job, command_of, events_of, job_of, part_count, threads_of, with_checkpoint, with_events, with_file, with_parts, with_threads}

-- what holds of either choice
chosen : {T : Type 0} (P : T → Type 0) (b : Bool) {x y : T} → (b ≡ true → P x) → (b ≡ false → P y) → P (if b then x else y)
chosen P true does isnt = does refl
chosen P false does isnt = isnt refl

-- where it is a command
abbrev Alone : Option Command → Type 0
Alone named = IfSome named (λ command. StandsAlone command.job)

events_alone : (n : Option ℕ) → Alone (with_events n)
events_alone None = tt
events_alone (Some n) = tt

threads_alone : (n : Option ℕ) (plan : List ℕ) → Alone (with_threads n plan)
threads_alone None plan = tt
threads_alone (Some n) plan = tt

parts_alone : (n : Option ℕ) (plan : List ℕ) → Alone (with_parts n plan)
parts_alone None plan = tt
parts_alone (Some n) plan = tt

-- a word isn't another one that it would be
other_word : {P : Type 0} (word other : List ℕ) → word ≢ other → bytes_eq word other ≡ true → P
other_word word other isnt same = absurd (isnt ((bytes_eq-Decides word other).0 same))

file_alone : (word file : List ℕ) → word ≢ codes "stream" → Alone (with_file (job_of word) file)
file_alone word file isnt =
    let P : Option Job → Type 0 = λ job. Alone (with_file job file) in
    chosen P (bytes_eq word (codes "history")) {x = Some History} (λ does. tt) (λ h.
    chosen P (bytes_eq word (codes "check")) {x = Some Check} (λ does. tt) (λ c.
    chosen P (bytes_eq word (codes "serial")) {x = Some Serial} (λ does. tt) (λ s.
    chosen P (bytes_eq word (codes "run")) {x = Some Run} (λ does. tt) (λ r.
    chosen P (bytes_eq word (codes "stream")) {x = Some Stream} (λ does. other_word word (codes "stream") isnt does) (λ t.
    chosen P (bytes_eq word (codes "audit")) {x = Some Audit} {y = None} (λ does. tt) (λ a. tt))))))

checkpoint_alone : (word plan checkpoint script : List ℕ) → word ≢ codes "follow" → Alone (with_checkpoint (checkpoint_job word) plan checkpoint script)
checkpoint_alone word plan checkpoint script isnt =
    let P : Option Job → Type 0 = λ job. Alone (with_checkpoint job plan checkpoint script) in
    chosen P (bytes_eq word (codes "resume")) {x = Some Resume} (λ does. tt) (λ r.
    chosen P (bytes_eq word (codes "follow")) {x = Some FollowFrom} {y = None} (λ does. other_word word (codes "follow") isnt does) (λ f. tt))

pub words_alone : (words : List (List ℕ)) → IsAlone words → IfSome (command_of words) (λ command. StandsAlone command.job)
words_alone [] alone = tt
words_alone (word ∷ []) alone = tt
words_alone (word ∷ file ∷ []) alone = chosen Alone (bytes_eq word (codes "make")) (λ does. events_alone (events_of file)) (λ isnt. file_alone word file alone.1)
words_alone (word ∷ first ∷ second ∷ []) alone =
    chosen Alone (bytes_eq word (codes "live")) {x = Some (record { job = Live; file = first; checkpoint = []; script = second })} (λ does. tt) (λ l.
    chosen Alone (bytes_eq word (codes "save")) {x = Some (record { job = Save; file = first; checkpoint = []; script = second })} (λ does. tt) (λ s.
    chosen Alone (bytes_eq word (codes "follow")) {x = Some (record { job = Follow; file = first; checkpoint = []; script = second })} (λ does. other_word word (codes "follow") alone.1 does) (λ f.
    chosen Alone (bytes_eq word (codes "pool")) (λ does. threads_alone (threads_of first) second) (λ p.
    chosen Alone (bytes_eq word (codes "parts")) {y = None} (λ does. parts_alone (part_count first) second) (λ n. tt)))))
words_alone (word ∷ plan ∷ checkpoint ∷ script ∷ []) alone = checkpoint_alone word plan checkpoint script alone
words_alone (word ∷ a ∷ b ∷ c ∷ d ∷ words) alone = tt

-- so does what is answered of them
pub named_alone : {T : Type 0} (drawn : T → Command) (named : Option T) (command : Option Command) → option_map drawn named ≡ command → IfSome command (λ c. StandsAlone c.job) → IfSome named (λ n. StandsAlone (drawn n).job)
named_alone drawn None command is h = tt
named_alone drawn (Some n) command is h = subst (λ (c : Option Command). IfSome c (λ c. StandsAlone c.job)) (sym is) h
