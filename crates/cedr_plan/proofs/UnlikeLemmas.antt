-- The fault of a node whose result isn't too wide: that of its columns, or that its ports have different types.
use Rattle.std.proofs.Common.{◌≡◌, ◌≤◌, ℕ, Bool, true, false, List, [], ◌∷◌, Some, None, refl, ap, sym, subst, ◌∙◌, arith}
use Rattle.std.specs.Prelude.{nat_lt, ◌||◌}
use Rattle.std.proofs.lemmas.Bool.Decides.{nat_tests}
use Rattle.std.specs.List.{list_any}
use Rattle.serde_json.specs.Data.{Data}
use Rattle.cedr_base.specs.declared.field.FieldType.{FieldType}
use Rattle.cedr_plan.specs.Drawn.{Node}
use Rattle.cedr_plan.specs.Operators.{Row}
use Rattle.cedr_plan.specs.declared.operator.Outcome.{Outcome}
use Rattle.cedr_plan.specs.declared.fault.PlanKind.{PlanKind}
use Rattle.cedr_plan.specs.declared.fault.PlanKind.TheVariants.{TypeDiffers}
use Rattle.cedr_plan.specs.declared.fault.NodeFault.{NodeFault}
use Rattle.cedr_plan.specs.declared.fault.NodeFault.TheVariants as fault
use Rattle.cedr_plan.specs.NodeFaults.{IsNodeFault, column_fault}
use Rattle.cedr_plan.specs.Nodes.{ports_at, first_port, all_ports, counted_ports, column_types, result_types, result_width, types_under, first_fault, typed_faults, is_too_wide, is_bad_column, has_bad_column, member_has_two_types, has_unlike_ports, has_type_difference}

first_passes : (b c : Bool) (k l : PlanKind) → first_fault ((b, k) ∷ (c, l) ∷ []) ≡ None → b ≡ false
first_passes true c k l h = cc
first_passes false c k l h = refl

third_is_first : (a b c : Bool) (k l m : PlanKind) → a ≡ false → b ≡ false → c ≡ true → first_fault ((a, k) ∷ (b, l) ∷ (c, m) ∷ []) ≡ Some m
third_is_first true b c k l m e f g = cc
third_is_first false true c k l m e f g = cc
third_is_first false false true k l m e f g = refl
third_is_first false false false k l m e f g = cc

-- where the first test fails, what the second and the last find alone is found before what else the third asks
column_first : (a b u t : Bool) (k l m kind : PlanKind) → a ≡ false → first_fault ((b, l) ∷ (t, m) ∷ []) ≡ Some kind → first_fault ((a, k) ∷ (b, l) ∷ (u || t, m) ∷ []) ≡ Some kind
column_first true b u t k l m kind e h = cc
column_first false true u t k l m kind e h = h
column_first false false true true k l m kind e h = h
column_first false false true false k l m kind e h = cc
column_first false false false t k l m kind e h = h

module _ (earlier : List Node) (row : Row) (d : Data) (outcome : Outcome) (ports : List (List FieldType)) (first all types : List FieldType) (width : ℕ)
    (outcome_is : outcome ≡ row.outcome) (ports_are : ports ≡ ports_at earlier row d) (first_is : first ≡ first_port ports) (all_are : all ≡ all_ports (counted_ports outcome d ports))
    (types_are : types ≡ result_types outcome d first all) (width_is : width ≡ result_width outcome d types) where
  all_of : all ≡ column_types row earlier d
  all_of =
      all_are
      ∙ (ap (λ ps. all_ports (counted_ports outcome d ps)) ports_are
      ∙ ap (λ o. all_ports (counted_ports o d (ports_at earlier row d))) outcome_is)

  width_of : width ≡ result_width row.outcome d (types_under row earlier d)
  width_of =
      width_is
      ∙ (ap (λ ts. result_width outcome d ts) (types_are
      ∙ (ap (λ ts. result_types outcome d ts all) (first_is ∙ ap first_port ports_are)
      ∙ ap (λ ts. result_types outcome d (first_port (ports_at earlier row d)) ts) all_of))
      ∙ ap (λ o. result_width o d (result_types o d (first_port (ports_at earlier row d)) (column_types row earlier d))) outcome_is)

  not_wide : width ≤ 16 → is_too_wide earlier row d ≡ false
  unfolding is_too_wide
  not_wide narrow = ap (λ n. nat_lt 16 n) (sym width_of) ∙ grind (arith, nat_tests)

  no_bad_column : column_fault all row.members d ≡ None → has_bad_column earlier row d ≡ false
  unfolding has_bad_column
  no_bad_column none =
      ap (λ ts. list_any (is_bad_column ts d) row.members) (sym all_of)
      ∙ first_passes (list_any (is_bad_column all d) row.members) (list_any (member_has_two_types all d) row.members) _ _ none

  -- its columns have this fault
  pub only_columns : width ≤ 16 → (found : NodeFault) → IsNodeFault (column_fault all row.members d) found → IsNodeFault (first_fault (typed_faults row earlier d)) found
  unfolding has_bad_column has_type_difference
  only_columns narrow (fault.Fault kind) h =
      column_first (is_too_wide earlier row d) (list_any (is_bad_column (column_types row earlier d) d) row.members) (has_unlike_ports row.outcome (ports_at earlier row d)) (list_any (member_has_two_types (column_types row earlier d) d) row.members) _ _ _ kind (not_wide narrow)
      (subst (λ ts. column_fault ts row.members d ≡ Some kind) all_of h)
  only_columns narrow fault.OutOfMemory h = tt

  some_difference : has_unlike_ports outcome ports ≡ true → has_type_difference earlier row d ≡ true
  unfolding has_type_difference
  some_difference unlike =
      ap (λ b. b || list_any (member_has_two_types (column_types row earlier d) d) row.members)
      (ap (λ o. has_unlike_ports o (ports_at earlier row d)) (sym outcome_is) ∙ (ap (λ ps. has_unlike_ports outcome ps) (sym ports_are) ∙ unlike))

  -- its ports have different types, and nothing that is looked at before is wrong
  pub only_unlike : width ≤ 16 → column_fault all row.members d ≡ None → has_unlike_ports outcome ports ≡ true → first_fault (typed_faults row earlier d) ≡ Some TypeDiffers
  only_unlike narrow none unlike = third_is_first (is_too_wide earlier row d) (has_bad_column earlier row d) (has_type_difference earlier row d) _ _ _ (not_wide narrow) (no_bad_column none) (some_difference unlike)
