-- What was read of a plan's file describes what the file does.
use Rattle.std.proofs.Common.{◌≡◌, ℕ, ◌+◌, ◌<◌, ◌≤◌, List, [], ◌∷◌, ◌++◌, Bool, true, false, cond, length, Option, None, Some, Result, Ok, Err, refl, ap, sym, ◌∙◌, subst, arith}
use Rattle.std.specs.Prelude.{nat_lt, IfSome}
use Rattle.std.proofs.lemmas.Bool.{ltb-true, ltb-false}
use Rattle.std.proofs.lemmas.List.{append-nil, length-append}
use Rattle.cedr_plan.specs.Drawn.{Drawn}
use Rattle.cedr_plan.specs.Plans as plans
use Rattle.cedr_plan.specs.Plans.{plan_of, plan_of_json, json_of, longest, IsFaultOf}
use Rattle.cedr_plan.specs.declared.fault.PlanFault.{PlanFault}
use Rattle.cedr_plan.specs.declared.fault.PlanFault.TheVariants as plan_fault
use Rattle.cedr_plan.specs.declared.fault.PlanKind.{PlanKind}
use Rattle.cedr_plan.specs.declared.fault.PlanKind.TheVariants as kind
use Rattle.cedr_keys.specs.Ends.{IsPlanFront}

front_plan : (all front : List ℕ) (long_front long_all : Bool) → nat_lt longest (length front) ≡ long_front → nat_lt longest (length all) ≡ long_all → IsPlanFront all front → plan_of all ≡ plan_of front
unfolding plan_of
front_plan all front false long_all is_front is_all read =
    let nothing = read.whole (ltb-false longest (length front) is_front) in
    ap (λ bytes. cond (nat_lt longest (length bytes)) (plans.refused kind.TooLong 0) (plan_of_json (json_of bytes))) (read.begins ∙ (ap (λ rest. front ++ rest) nothing ∙ append-nil front))
front_plan all front true true is_front is_all read =
    ap (λ long. cond long (plans.refused kind.TooLong 0) (plan_of_json (json_of all))) is_all
    ∙ sym (ap (λ long. cond long (plans.refused kind.TooLong 0) (plan_of_json (json_of front))) is_front)
front_plan all front true false is_front is_all read =
    absurd (omega (arith, ltb-true longest (length front) is_front, ltb-false longest (length all) is_all, ap length read.begins, length-append front read.rest))

-- where it is known what the file holds, it describes what the bytes that were read describe
pub opened_front : (content : Option (List ℕ)) (front seen : List ℕ) (r : Result Drawn plans.Refusal) → IfSome content (λ all. IsPlanFront all front) → seen ≡ front → plan_of seen ≡ r → IfSome content (λ bytes. plan_of bytes ≡ r)
opened_front None front seen r read same h = tt
opened_front (Some all) front seen r read same h = front_plan all front (nat_lt longest (length front)) (nat_lt longest (length all)) refl refl read ∙ (ap plan_of (sym same) ∙ h)

-- the fault of a plan that was read
pub fault_found : (bytes : List ℕ) (fault : PlanFault) (kind : PlanKind) (node : ℕ) → fault ≡ plan_fault.Refused kind node → IsFaultOf bytes fault → plan_of bytes ≡ Err (record { kind = kind; node = node })
fault_found bytes fault kind node is h = subst (IsFaultOf bytes) is h
