-- How a run ended.
use Rattle.std.proofs.Common.{◌≡◌, ℕ, zero, suc, ◌+◌, Bool, true, false, ◌||◌, List, [], ◌∷◌, ◌++◌, length, map, Result, Ok, Err, refl, sym, ap, ◌∙◌, subst, arith}
use Rattle.std.specs.Prelude.{Option, IfOk, OnOk, is_err}
use Rattle.std.specs.Result.{result_unwrap_or}
use Rattle.std.specs.List.{list_any}
use Rattle.cedr_worker.specs.declared.source.SourceEnd.{SourceEnd}
use Rattle.cedr_worker.specs.declared.stop.SourceStop.{SourceStop}
use Rattle.cedr_worker.specs.declared.stop.SourceStop.TheVariants as stop
use Rattle.cedr_guard.specs.declared.refusal.Refusal.{Refusal}
use Rattle.cedr_plan.specs.declared.plan.PlanNode.{PlanNode}
use Rattle.cedr_plan.specs.Places.{is_source}
use Rattle.plan_answer.specs.Sources.{fault_here, faulty_from}
use Rattle.plan_workers.specs.Stopping.{is_short, is_unread, stop_in}
use Rattle.plan_workers.specs.Tellings.{is_faulty, node_faults}
use Rattle.plan_workers.specs.Wents.{HaveClosed}
use Rattle.plan_workers.proofs.EndLemmas.{faults_other, faults_source}
use Rattle.plan_report.specs.declared.report.Outcome.{Outcome}
use Rattle.plan_report.specs.declared.report.Outcome.TheVariants as outcome
use Rattle.plan_report.specs.Reports.{HasOutcome, source_lacked, source_refused}

-- a source for which memory was found, of which no read was refused and which has no fault, closed
has_closed : (s : SourceStop) → is_short s ≡ false → is_unread s ≡ false → is_faulty s ≡ false → s ≡ stop.Closed
has_closed stop.Closed found read faultless = refl
has_closed (stop.Refused line fault) found read faultless = absurd (cc faultless)
has_closed stop.ReadFault found read faultless = absurd (cc read)
has_closed stop.OutOfMemory found read faultless = absurd (cc found)

-- where neither of two is so, the first isn't
pub left_false : (a b : Bool) → a || b ≡ false → a ≡ false
left_false false b none = refl
left_false true b none = absurd (cc none)

-- where neither of two is so, the second isn't
pub right_false : (a b : Bool) → a || b ≡ false → b ≡ false
right_false false b none = none
right_false true b none = absurd (cc none)

-- what is said of a value is so of what stands there, where there was no error
pub ok_value : {T E : Type 0} (Q : T → Type 0) (r : Result T E) (d v : T) → IfOk r Q → v ≡ result_unwrap_or r d → is_err r ≡ false → Q v
ok_value Q (Ok x) d v holds is none = subst Q (sym is) holds
ok_value Q (Err e) d v holds is none = absurd (cc none)

-- where memory was lacking that is the outcome
short_is : {S : Type 0} (nodes : List PlanNode) (ends : List (SourceEnd S)) (o : Outcome) → HasOutcome nodes ends true o → o ≡ outcome.Memory
short_is nodes ends outcome.Memory h = refl
short_is nodes ends outcome.Done h = absurd (cc h.0)
short_is nodes ends outcome.Read h = absurd (cc h.0)
short_is nodes ends (outcome.Events faulty) h = absurd (cc h.0)

-- so it is after something that lacked memory, where an answer says that nothing did
pub short_outcome : {S T E : Type 0} (lacked : Bool) (nodes : List PlanNode) (ends : List (SourceEnd S)) (a : Bool) (r : Result T E) (o : Outcome) → HasOutcome nodes ends (a || is_err r) o → OnOk r (lacked ≡ false) → lacked ≡ true → o ≡ outcome.Memory
short_outcome lacked nodes ends a (Ok x) o h found short = absurd (cc (found, short))
short_outcome lacked nodes ends true (Err e) o h found short = short_is nodes ends o h
short_outcome lacked nodes ends false (Err e) o h found short = short_is nodes ends o h

-- each source closed
pub all_closed : {S : Type 0} (ends : List (SourceEnd S)) → list_any source_lacked ends ≡ false → list_any source_refused ends ≡ false → list_any is_faulty (map stop_in ends) ≡ false → HaveClosed ends
all_closed [] found read faultless k d less = absurd (omega (arith, less))
all_closed (e ∷ es) found read faultless zero d less =
    has_closed e.stop (left_false (is_short e.stop) (list_any source_lacked es) found) (left_false (is_unread e.stop) (list_any source_refused es) read) (left_false (is_faulty e.stop) (list_any is_faulty (map stop_in es)) faultless)
all_closed (e ∷ es) found read faultless (suc k) d less =
    all_closed es (right_false (is_short e.stop) (list_any source_lacked es) found) (right_false (is_unread e.stop) (list_any source_refused es) read) (right_false (is_faulty e.stop) (list_any is_faulty (map stop_in es)) faultless) k d (omega (arith, less))

-- what can't be so isn't
pub not_so : (b : Bool) → (b ≡ true → ⊥) → b ≡ false
not_so true never = absurd (never refl)
not_so false never = refl

-- the faulty sources from a node on that is none are those behind it
pub other_listed : (place : ℕ) (n : PlanNode) (nodes : List PlanNode) (faults : List (Option Refusal)) → is_source n.kind ≡ false → faulty_from place (node_faults (n ∷ nodes) faults) ≡ faulty_from (place + 1) (node_faults nodes faults)
other_listed place n nodes faults isnt = ap (faulty_from place) (faults_other n nodes faults isnt)

-- those from a source on are itself where it is faulty, and those behind it
pub source_listed : (place : ℕ) (n : PlanNode) (nodes : List PlanNode) (f : Option Refusal) (faults : List (Option Refusal)) → is_source n.kind ≡ true → faulty_from place (node_faults (n ∷ nodes) (f ∷ faults)) ≡ fault_here place f ++ faulty_from (place + 1) (node_faults nodes faults)
source_listed place n nodes f faults is = ap (faulty_from place) (faults_source n nodes f faults is)

-- nothing was listed after an empty list that is empty still
pub none_listed : {X : Type 0} (old new more : List X) → old ≡ [] → new ≡ old ++ more → length new ≡ 0 → more ≡ []
none_listed old new [] empty is none = refl
none_listed old new (x ∷ more) empty is none = absurd (omega (arith, ap length (is ∙ ap (λ xs. xs ++ x ∷ more) empty), none))
