-- The lines of a file, one after the other.
use Rattle.std.proofs.Common.{◌≡◌, ◌≢◌, ℕ, ◌+◌, ◌<◌, ◌≤◌, List, [], ◌∷◌, ◌++◌, Bool, true, false, cond, length, take, Option, None, Some, Result, Ok, Err, refl, ap, sym, ◌∙◌, subst, arith}
use Rattle.std.specs.Prelude.{nat_lt, IfSome}
use Rattle.std.specs.Io.KnownBytes.{Consumes}
use Rattle.std.specs.List.{slice_split, onto_first}
use Rattle.std.proofs.KnownBytes.{Consumes-trans}
use Rattle.std.proofs.lemmas.Bool.{ltb-true, ltb-false, lt-ltb, le-ltb}
use Rattle.std.proofs.lemmas.List.{append-nil, take-append-le, length-append, length-take}
use Rattle.cedr_base.specs.Bytes.{line_feed}
use Rattle.cedr_text.specs.Parts.{parts_of}
use Rattle.cedr_text.specs.Lines.{without_empty_end, raw_lines}
use Rattle.cedr_text.specs.declared.event_line.EventLine.{EventLine}
use Rattle.cedr_text.specs.declared.event_line.Shape.TheVariants.{AnyText}
use Rattle.cedr_text.specs.declared.fault.LineFault.{LineFault}
use Rattle.cedr_guard.specs.declared.fault.GuardFault.{GuardFault}
use Rattle.cedr_guard.specs.declared.fault.GuardFault.TheVariants as guard_fault
use Rattle.cedr_guard.specs.declared.refusal.Refusal.{Refusal}
use Rattle.cedr_guard.specs.declared.refusal.TheConstants.{FILE_LIMIT}
use Rattle.cedr_guard.specs.Sources.{with_reading, line_reading, Judged, go_on, judged_behind, judged_lines, judged_front, whole_lines, unfinished_line, first_refusal, limit_fault, judged}
use Rattle.cedr_commands.specs.declared.events.Events.{Events}
use Rattle.plan_live.specs.Scripts.{Accepted, played_behind, front_after, played_after}
use Rattle.cedr_plan.specs.declared.plan.PlanNode.{PlanNode}
use Rattle.cedr_text.specs.declared.event_line.Shape.{Shape}
use Rattle.cedr_guard.specs.History.{history_of}
use Rattle.cedr_text.specs.Texts.{rows_text}
use Rattle.cedr_plan.specs.Drawn.{Drawn}
use Rattle.cedr_plan.specs.Plans as plans
use Rattle.cedr_commands.specs.Answers.{GivesHistory}
use Rattle.cedr_plan.specs.Plans.{plan_of, plan_of_json, json_of, longest, IsFaultOf}
use Rattle.cedr_plan.specs.declared.fault.PlanFault.{PlanFault}
use Rattle.cedr_plan.specs.declared.fault.PlanFault.TheVariants as plan_fault
use Rattle.cedr_plan.specs.declared.fault.PlanKind.{PlanKind}
use Rattle.cedr_plan.specs.declared.fault.PlanKind.TheVariants as kind
use Rattle.cedr_commands.specs.Files.{IsFileFront}
use Rattle.cedr_commands.specs.Refusals.{fault_at}
use Rattle.cedr_commands.specs.Events.{AreEventsOf, TakesEvent, JudgesFile, parts_behind}

-- ---- what is read of a file

-- a block more than the limit, at most
pub took_more : (a b c : Option (List ℕ)) (bytes block : List ℕ) (count limit : ℕ) → Consumes a b bytes → Consumes b c (take count block) → length bytes ≤ limit → length block ≡ 4096
    → (all : List ℕ) × Consumes a c all × (length all ≤ limit + 4096)
took_more a b c bytes block count limit before now few room =
    (bytes ++ take count block, Consumes-trans a b c bytes (take count block) before now, omega (arith, length-append bytes (take count block), length-take count block, few, room))

-- ---- the parts of a file

onto_some : (b : ℕ) (parts : List (List ℕ)) → onto_first b parts ≡ [] → ⊥
onto_some b [] none = cc
onto_some b (part ∷ parts) none = cc

cut_some : (cut : Bool) (b : ℕ) (parts : List (List ℕ)) → cond cut ([] ∷ parts) (onto_first b parts) ≡ [] → ⊥
cut_some true b parts none = cc
cut_some false b parts none = onto_some b parts none

-- there is always one
pub some_part : (p : ℕ → Bool) (text : List ℕ) → slice_split p text ≡ [] → ⊥
some_part p [] none = cc
some_part p (b ∷ text) none = cut_some (p b) b (slice_split p text) none

-- ---- a line that is there or not

go_on-alike : (number : ℕ) (good : List EventLine) (r : Result (List EventLine) LineFault) (f g : List EventLine → Judged) → ((now : List EventLine) → f now ≡ g now) → go_on number good r f ≡ go_on number good r g
go_on-alike number good (Ok now) f g same = same now
go_on-alike number good (Err fault) f g same = refl

-- an empty last line says nothing
pub judged_parts : (count : ℕ) (good : List EventLine) (parts : List (List ℕ)) → judged_behind AnyText count good (without_empty_end parts) ≡ judged_behind AnyText count good parts
judged_parts count good [] = refl
judged_parts count good ([] ∷ []) = refl
judged_parts count good ((b ∷ bs) ∷ []) = refl
judged_parts count good ([] ∷ next ∷ lines) = judged_parts (count + 1) good (next ∷ lines)
judged_parts count good ((b ∷ bs) ∷ next ∷ lines) = go_on-alike (count + 1) good (with_reading good (line_reading AnyText (b ∷ bs))) _ _ (λ now. judged_parts (count + 1) now (next ∷ lines))

-- ---- one line of a file

behind_more : (count : ℕ) (good now : List EventLine) (line : List ℕ) (lines : List (List ℕ)) → with_reading good (line_reading AnyText line) ≡ Ok now → judged_behind AnyText count good (line ∷ lines) ≡ judged_behind AnyText (count + 1) now lines
behind_more count good now line lines reads = ap (λ r. go_on (count + 1) good r (λ then. judged_behind AnyText (count + 1) then lines)) reads

behind_fault : (count : ℕ) (good : List EventLine) (line : List ℕ) (lines : List (List ℕ)) (fault : LineFault) → with_reading good (line_reading AnyText line) ≡ Err fault
    → judged_behind AnyText count good (line ∷ lines) ≡ record { good = good; fault = Some (record { line = count + 1; fault = fault }) }
behind_fault count good line lines fault reads = ap (λ r. go_on (count + 1) good r (λ then. judged_behind AnyText (count + 1) then lines)) reads

abbrev at_limit : Judged → ℕ → LineFault → Judged
at_limit file line fault = record { good = file.good; fault = Some (first_refusal file.fault (record { line = line; fault = fault })) }

-- a line that is taken goes on; over the limit it isn't the last part
pub taken : (over : Bool) (count : ℕ) (good now : List EventLine) (line : List ℕ) (lines : List (List ℕ)) → (over ≡ true → lines ≢ []) → with_reading good (line_reading AnyText line) ≡ Ok now
    → parts_behind over count good (line ∷ lines) ≡ parts_behind over (count + 1) now lines
taken false count good now line lines more reads = behind_more count good now line lines reads
taken true count good now line [] more reads = absurd (more refl refl)
taken true count good now line (next ∷ lines) more reads =
    let place : count + length (line ∷ whole_lines (next ∷ lines)) + 1 ≡ (count + 1) + length (whole_lines (next ∷ lines)) + 1 = omega arith in
    ap (λ file. at_limit file (count + length (line ∷ whole_lines (next ∷ lines)) + 1) (limit_fault (unfinished_line (next ∷ lines)))) (behind_more count good now line (whole_lines (next ∷ lines)) reads)
    ∙ ap (λ n. at_limit (judged_behind AnyText (count + 1) now (whole_lines (next ∷ lines))) n (limit_fault (unfinished_line (next ∷ lines)))) place

-- a line with a fault is the file's first
pub refused : (over : Bool) (count : ℕ) (good : List EventLine) (line : List ℕ) (lines : List (List ℕ)) (fault : LineFault) → (over ≡ true → lines ≢ []) → with_reading good (line_reading AnyText line) ≡ Err fault
    → (parts_behind over count good (line ∷ lines)).fault ≡ Some (record { line = count + 1; fault = fault })
refused false count good line lines fault more reads = ap (λ (file : Judged). file.fault) (behind_fault count good line lines fault reads)
refused true count good line [] fault more reads = absurd (more refl refl)
refused true count good line (next ∷ lines) fault more reads =
    ap (λ (file : Judged). Some (first_refusal file.fault (record { line = count + length (line ∷ whole_lines (next ∷ lines)) + 1; fault = limit_fault (unfinished_line (next ∷ lines)) }))) (behind_fault count good line (whole_lines (next ∷ lines)) fault reads)

-- the last part over the limit is the line that isn't finished
pub unfinished : (count : ℕ) (good : List EventLine) (line : List ℕ) → (parts_behind true count good (line ∷ [])).fault ≡ Some (record { line = count + 1; fault = limit_fault line })
unfinished count good line = ap {B = Option Refusal} (λ n. Some (record { line = n; fault = limit_fault line })) (omega arith)

-- a line that isn't taken is the file's answer
pub refused_file : (over : Bool) (count : ℕ) (good : List EventLine) (line : List ℕ) (lines : List (List ℕ)) (fault : GuardFault) (events : Events) → (over ≡ true → lines ≢ []) → TakesEvent (Err fault) events (with_reading good (line_reading AnyText line))
    → JudgesFile (Err (fault_at (count + 1) fault)) (parts_behind over count good (line ∷ lines))
refused_file over count good line lines (guard_fault.Line fault) events more takes = refused over count good line lines fault more takes
refused_file over count good line lines guard_fault.OutOfMemory events more takes = tt

-- at the end all lines were taken
pub finished : (over : Bool) (count : ℕ) (good : List EventLine) (events : Events) → (over ≡ true → ◌≡◌ {A = List (List ℕ)} [] [] → ⊥) → AreEventsOf events good → JudgesFile (Ok events) (parts_behind over count good [])
finished false count good events more are = (refl, are)
finished true count good events more are = absurd (more refl refl)

-- ---- the whole file

-- a file up to the limit
pub judged_small : (bytes : List ℕ) → length bytes ≤ FILE_LIMIT → parts_behind false 0 [] (parts_of line_feed bytes) ≡ judged AnyText bytes
judged_small bytes short =
    sym (judged_parts 0 [] (parts_of line_feed bytes))
    ∙ sym (ap (λ long. cond long (judged_front AnyText (parts_of line_feed (take FILE_LIMIT bytes))) (judged_lines AnyText (raw_lines bytes))) (le-ltb FILE_LIMIT (length bytes) short))

-- a file over it
pub judged_large : (bytes : List ℕ) → FILE_LIMIT < length bytes → parts_behind true 0 [] (parts_of line_feed (take FILE_LIMIT bytes)) ≡ judged AnyText bytes
judged_large bytes long =
    let parts = parts_of line_feed (take FILE_LIMIT bytes) in
    ap (λ n. at_limit (judged_lines AnyText (whole_lines parts)) n (limit_fault (unfinished_line parts))) (omega arith)
    ∙ sym (ap (λ over. cond over (judged_front AnyText (parts_of line_feed (take FILE_LIMIT bytes))) (judged_lines AnyText (raw_lines bytes))) (lt-ltb FILE_LIMIT (length bytes) long))

-- what was read of a file over the limit is judged as the file is
front_at : (all front : List ℕ) (long_front long_all : Bool) → nat_lt FILE_LIMIT (length front) ≡ long_front → nat_lt FILE_LIMIT (length all) ≡ long_all → IsFileFront FILE_LIMIT all front
    → judged AnyText front ≡ judged AnyText all
front_at all front false long_all is_front is_all read =
    let nothing = read.whole (ltb-false FILE_LIMIT (length front) is_front) in
    ap (judged AnyText) (sym (read.begins ∙ (ap (λ rest. front ++ rest) nothing ∙ append-nil front)))
front_at all front true true is_front is_all read =
    let same = take-append-le FILE_LIMIT front read.rest (omega (arith, ltb-true FILE_LIMIT (length front) is_front)) in
    ap (λ long. cond long (judged_front AnyText (parts_of line_feed (take FILE_LIMIT front))) (judged_lines AnyText (raw_lines front))) is_front
    ∙ (ap (λ bytes. judged_front AnyText (parts_of line_feed bytes)) (sym same ∙ ap (take FILE_LIMIT) (sym read.begins))
    ∙ sym (ap (λ long. cond long (judged_front AnyText (parts_of line_feed (take FILE_LIMIT all))) (judged_lines AnyText (raw_lines all))) is_all))
front_at all front true false is_front is_all read =
    absurd (omega (arith, ltb-true FILE_LIMIT (length front) is_front, ltb-false FILE_LIMIT (length all) is_all, ap length read.begins, length-append front read.rest))

-- what was read of a file, all of it unless it passes the limit, is judged as the file is
pub front_judged : (all front : List ℕ) → IsFileFront FILE_LIMIT all front → judged AnyText front ≡ judged AnyText all
front_judged all front read = front_at all front (nat_lt FILE_LIMIT (length front)) (nat_lt FILE_LIMIT (length all)) refl refl read

-- and a front of what is no plan, for its length, is none either
front_plan : (all front : List ℕ) (long_front long_all : Bool) → nat_lt longest (length front) ≡ long_front → nat_lt longest (length all) ≡ long_all → IsFileFront longest all front
    → plan_of all ≡ plan_of front
unfolding plan_of
front_plan all front false long_all is_front is_all read =
    let nothing = read.whole (ltb-false longest (length front) is_front) in
    ap (λ bytes. cond (nat_lt longest (length bytes)) (plans.refused kind.TooLong 0) (plan_of_json (json_of bytes))) (read.begins ∙ (ap (λ rest. front ++ rest) nothing ∙ append-nil front))
front_plan all front true true is_front is_all read =
    ap (λ long. cond long (plans.refused kind.TooLong 0) (plan_of_json (json_of all))) is_all
    ∙ sym (ap (λ long. cond long (plans.refused kind.TooLong 0) (plan_of_json (json_of front))) is_front)
front_plan all front true false is_front is_all read =
    absurd (omega (arith, ltb-true longest (length front) is_front, ltb-false longest (length all) is_all, ap length read.begins, length-append front read.rest))

-- what was read of a plan's file, all of it unless it passes the longest plan, describes what the file does
pub plan_of_front : (all front : List ℕ) → IsFileFront longest all front → plan_of all ≡ plan_of front
plan_of_front all front read = front_plan all front (nat_lt longest (length front)) (nat_lt longest (length all)) refl refl read

-- ---- a script over the limit

played_at : (nodes : List PlanNode) (shapes : List Shape) (before : Accepted) (all front : List ℕ) (long_front long_all : Bool) → nat_lt FILE_LIMIT (length front) ≡ long_front → nat_lt FILE_LIMIT (length all) ≡ long_all → IsFileFront FILE_LIMIT all front
    → played_after nodes shapes before front ≡ played_after nodes shapes before all
played_at nodes shapes before all front false long_all is_front is_all read =
    let nothing = read.whole (ltb-false FILE_LIMIT (length front) is_front) in
    ap (played_after nodes shapes before) (sym (read.begins ∙ (ap (λ rest. front ++ rest) nothing ∙ append-nil front)))
played_at nodes shapes before all front true true is_front is_all read =
    let same = take-append-le FILE_LIMIT front read.rest (omega (arith, ltb-true FILE_LIMIT (length front) is_front)) in
    ap (λ long. cond long (front_after nodes shapes before (parts_of line_feed (take FILE_LIMIT front))) (played_behind nodes shapes 0 before (raw_lines front))) is_front
    ∙ (ap (λ bytes. front_after nodes shapes before (parts_of line_feed bytes)) (sym same ∙ ap (take FILE_LIMIT) (sym read.begins))
    ∙ sym (ap (λ long. cond long (front_after nodes shapes before (parts_of line_feed (take FILE_LIMIT all))) (played_behind nodes shapes 0 before (raw_lines all))) is_all))
played_at nodes shapes before all front true false is_front is_all read =
    absurd (omega (arith, ltb-true FILE_LIMIT (length front) is_front, ltb-false FILE_LIMIT (length all) is_all, ap length read.begins, length-append front read.rest))

-- what was read of a script, all of it unless it passes the limit, is played behind accepted lines as the script is
pub played_of_front : (nodes : List PlanNode) (shapes : List Shape) (before : Accepted) (all front : List ℕ) → IsFileFront FILE_LIMIT all front → played_after nodes shapes before front ≡ played_after nodes shapes before all
played_of_front nodes shapes before all front read = played_at nodes shapes before all front (nat_lt FILE_LIMIT (length front)) (nat_lt FILE_LIMIT (length all)) refl refl read

-- ---- a file of which it is known what it holds

known_front : (limit : ℕ) (content : Option (List ℕ)) (bytes front : List ℕ) → content ≡ Some bytes → IfSome content (λ all. IsFileFront limit all front) → IsFileFront limit bytes front
known_front limit content bytes front is h = subst (λ (known : Option (List ℕ)). IfSome known (λ all. IsFileFront limit all front)) is h

-- where it is known what a file holds, the canonical history of what was read is that of the file
pub given_history : (content : Option (List ℕ)) (bytes front seen items written : List ℕ) → content ≡ Some bytes → IfSome content (λ all. IsFileFront FILE_LIMIT all front) → seen ≡ front → GivesHistory seen items → written ≡ items → GivesHistory bytes written
given_history content bytes front seen items written is read same h wrote =
    let alike = front_judged bytes seen (subst (IsFileFront FILE_LIMIT bytes) (sym same) (known_front FILE_LIMIT content bytes front is read)) in
    record { accepted = ap (λ (file : Judged). file.fault) (sym alike) ∙ h.accepted; text_is = wrote ∙ (h.text_is ∙ ap (λ (file : Judged). rows_text (history_of file.good)) alike) }

-- where it is known what a file holds, the first fault of what was read is that of the file
pub refused_history : (content : Option (List ℕ)) (bytes front seen : List ℕ) (refusal : Refusal) → content ≡ Some bytes → IfSome content (λ all. IsFileFront FILE_LIMIT all front) → seen ≡ front → (judged AnyText seen).fault ≡ Some refusal
    → (judged AnyText bytes).fault ≡ Some refusal
refused_history content bytes front seen refusal is read same h =
    let alike = front_judged bytes seen (subst (IsFileFront FILE_LIMIT bytes) (sym same) (known_front FILE_LIMIT content bytes front is read)) in
    ap (λ (file : Judged). file.fault) (sym alike) ∙ h

-- where it is known what a plan's file holds, it describes what the bytes that were read describe
pub opened_front : (content : Option (List ℕ)) (front seen : List ℕ) (r : Result Drawn plans.Refusal) → IfSome content (λ all. IsFileFront longest all front) → seen ≡ front → plan_of seen ≡ r → IfSome content (λ bytes. plan_of bytes ≡ r)
opened_front None front seen r read same h = tt
opened_front (Some all) front seen r read same h = plan_of_front all front read ∙ (ap plan_of (sym same) ∙ h)

-- the fault of a plan that was read
pub fault_found : (bytes : List ℕ) (fault : PlanFault) (kind : PlanKind) (node : ℕ) → fault ≡ plan_fault.Refused kind node → IsFaultOf bytes fault → plan_of bytes ≡ Err (record { kind = kind; node = node })
fault_found bytes fault kind node is h = subst (IsFaultOf bytes) is h

-- a script of which a front was played is played so as a whole, where it is known what its file holds
pub played_known : (content : Option (List ℕ)) (bytes front seen : List ℕ) (nodes : List PlanNode) (shapes : List Shape) (before : Accepted) → content ≡ Some bytes → IfSome content (λ all. IsFileFront FILE_LIMIT all front) → seen ≡ front
    → played_after nodes shapes before seen ≡ played_after nodes shapes before bytes
played_known content bytes front seen nodes shapes before is read same =
    played_of_front nodes shapes before bytes seen (subst (IsFileFront FILE_LIMIT bytes) (sym same) (known_front FILE_LIMIT content bytes front is read))
