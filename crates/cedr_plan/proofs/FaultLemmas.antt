-- The first fault of a node, and of two lists of tests, one after the other.
use Rattle.std.proofs.Common.{◌≡◌, ℕ, Bool, true, false, List, [], ◌∷◌, ◌++◌, Some, None, refl, ap, sym}
use Rattle.std.specs.Option.{option_map_or}
use Rattle.serde_json.specs.Data.{Data}
use Rattle.cedr_plan.specs.Drawn.{Node}
use Rattle.cedr_plan.specs.Operators.{operator_row}
use Rattle.cedr_plan.specs.declared.operator.Operator.{Operator}
use Rattle.cedr_plan.specs.Nodes.{first_fault, fault_under, fault_without_operator, node_fault, operator_at}
use Rattle.cedr_plan.specs.declared.fault.PlanKind.{PlanKind}

-- a fault of the front is the first one
pub first_in_front : (front rest : List (Bool × PlanKind)) (kind : PlanKind) → first_fault front ≡ Some kind → first_fault (front ++ rest) ≡ Some kind
first_in_front [] rest kind h = cc
first_in_front ((true, first) ∷ front) rest kind h = h
first_in_front ((false, first) ∷ front) rest kind h = first_in_front front rest kind h

-- where the front has none, the first fault is that of the rest
pub first_behind : (front rest : List (Bool × PlanKind)) → first_fault front ≡ None → first_fault (front ++ rest) ≡ first_fault rest
first_behind [] rest h = refl
first_behind ((true, first) ∷ front) rest h = cc
first_behind ((false, first) ∷ front) rest h = first_behind front rest h

-- the fault of a node whose operator is known
pub fault_known : (version : ℕ) (earlier : List Node) (d : Data) (operator : Operator) → Some operator ≡ operator_at version d → node_fault version earlier d ≡ fault_under (operator_row operator) earlier d
fault_known version earlier d operator e = ap (λ found. option_map_or (λ o. fault_under (operator_row o) earlier d) found (Some (fault_without_operator d))) (sym e)
