-- A node without a fault keeps the rules of a node.
use Rattle.std.proofs.Common.{◌≡◌, ℕ, ◌^◌, ◌≤◌, Bool, true, false, not, ◌&&◌, ◌||◌, List, [], ◌∷◌, ◌++◌, length, map, Some, None, is_some, codes, nat_lt, refl, sym, ◌∙◌, subst, true≢false, arith}
use Rattle.std.specs.List.{AllByRecursion, list_any, slice_get}
use Rattle.std.proofs.lemmas.Bool.{or_parts, ltb-false}
use Rattle.std.proofs.lemmas.List.{length-map, length-append}
use Rattle.std.proofs.lemmas.List.Elements.{All-from_recursion}
use Rattle.serde_json.specs.Data.{Data}
use Rattle.cedr_base.specs.declared.field.FieldType.{FieldType}
use Rattle.cedr_base.specs.declared.field.FieldType.TheVariants as field_type
use Rattle.cedr_expr.specs.Columns.{kept_columns}
use Rattle.cedr_plan.specs.Drawn.{Node}
use Rattle.cedr_plan.specs.Json.{has, is_list, is_number, is_text, is_whole_within}
use Rattle.cedr_plan.specs.Levels.{has_bad_bound}
use Rattle.cedr_plan.specs.Nodes.{is_name_value, has_ports, input_values, inputs_at, ports_at, types_of, first_port, all_ports, like_first, counted_ports, column_types, some_are_unlike, number_at, tests_at, columns_at, truth_at, count_types, group_types, group_width, level_at, result_types, result_width, types_under, lacks_inputs, lacks_member, has_odd_level, has_missing_part, has_too_many, has_bad_number, has_bad_level, is_named_twice, has_unknown_input, is_too_wide, has_bad_column, has_type_difference, kind_from, node_from, first_fault, fault_under, untyped_faults, typed_faults, is_too_long, is_bad_number, is_bad_column, member_has_two_types, has_unlike_ports, is_text_column}
use Rattle.cedr_plan.specs.Operators.{Row, operator_row, member_key, form_of}
use Rattle.cedr_expr.specs.Types.{first_bad_column, first_differing, first_past_end}
use Rattle.cedr_plan.specs.declared.operator.Form.TheVariants as form
use Rattle.cedr_plan.specs.declared.operator.Member.{Member}
use Rattle.cedr_plan.specs.declared.operator.Member.TheVariants as member
use Rattle.cedr_plan.specs.Rules.{AreTests, AreSums, AreAlike, operator_of_kind, IsInput, IsNumber, numbers_of, FitsPorts, HasTypes, HasSourceLevel, IsNode}
use Rattle.cedr_plan.specs.declared.fault.PlanKind.{PlanKind}
use Rattle.cedr_plan.specs.declared.operator.Operator.{Operator}
use Rattle.cedr_plan.specs.declared.operator.Operator.TheVariants as operator
use Rattle.cedr_plan.specs.declared.operator.Outcome.{Outcome}
use Rattle.cedr_plan.specs.declared.operator.Outcome.TheVariants as outcome
use Rattle.cedr_plan.proofs.TestLemmas.{not_false, length-filter_map}
use Rattle.cedr_plan.proofs.NoFaults.{name_there, inputs_known, number_there, level_at_ports, few_tests, tests_fit, columns_fit, sums_fit, ports_alike}

-- no predicate of a fault holds
pub record HasNoFault (row : Row) (earlier : List Node) (d : Data) : Type 0 where
  pub missing : has_missing_part row d ≡ false
  pub many : has_too_many row d ≡ false
  pub number : has_bad_number row d ≡ false
  pub level : has_bad_level row d ≡ false
  pub twice : is_named_twice earlier d ≡ false
  pub unknown : has_unknown_input earlier row d ≡ false
  pub wide : is_too_wide earlier row d ≡ false
  pub column : has_bad_column earlier row d ≡ false
  pub types : has_type_difference earlier row d ≡ false

not_first : (b : Bool) (kind : PlanKind) (rest : List (Bool × PlanKind)) → first_fault ((b, kind) ∷ rest) ≡ None → (b ≡ false) × (first_fault rest ≡ None)
not_first true kind rest h = cc
not_first false kind rest h = (refl, h)

-- where no fault is found, each test is false
pub none_hold : (tests : List (Bool × PlanKind)) → first_fault tests ≡ None → AllByRecursion (λ (test : Bool × PlanKind). test.0 ≡ false) tests
none_hold [] h = tt
none_hold (test ∷ tests) h =
    let parts = not_first test.0 test.1 tests h in
    (parts.0, none_hold tests parts.1)

-- where no fault is found, none holds
pub no_fault : (row : Row) (earlier : List Node) (d : Data) → fault_under row earlier d ≡ None → HasNoFault row earlier d
no_fault row earlier d h =
    let all = none_hold (untyped_faults row earlier d ++ typed_faults row earlier d) h in
    record {
      missing = all.0;
      many = all.1.0;
      number = all.1.1.0;
      level = all.1.1.1.0;
      twice = all.1.1.1.1.0;
      unknown = all.1.1.1.1.1.0;
      wide = all.1.1.1.1.1.1.0;
      column = all.1.1.1.1.1.1.1.0;
      types = all.1.1.1.1.1.1.1.1.0;
    }

four_parts : (a b c e : Bool) → (not a || (b || (c || e))) ≡ false → (a ≡ true) × (b ≡ false) × (c ≡ false) × (e ≡ false)
four_parts a b c e h =
    let first = or_parts (not a) (b || (c || e)) h in
    let second = or_parts b (c || e) first.1 in
    let third = or_parts c e second.1 in
    (not_false a first.0, second.0, third.0, third.1)

-- the parts of a node that misses none
parts_there : (row : Row) (d : Data) → has_missing_part row d ≡ false
    → (has (codes "name") is_name_value d ≡ true) × (lacks_inputs row d ≡ false) × (list_any (lacks_member d) row.members ≡ false) × (has_odd_level row d ≡ false)
unfolding has_missing_part
parts_there row d h = four_parts (has (codes "name") is_name_value d) (lacks_inputs row d) (list_any (lacks_member d) row.members) (has_odd_level row d) h

many_parts : (row : Row) (d : Data) → has_too_many row d ≡ false
    → (nat_lt row.most (length (input_values row d)) ≡ false) × (list_any (λ m. has (member_key m) (is_too_long (form_of m)) d) row.members ≡ false)
unfolding has_too_many
many_parts row d h = or_parts (nat_lt row.most (length (input_values row d))) (list_any (λ m. has (member_key m) (is_too_long (form_of m)) d) row.members) h

-- at a node that has so many inputs, a member has a bad number
abbrev has_bad_one : ℕ → Data → List Member → Bool
has_bad_one inputs d members = list_any (λ m. has (member_key m) (is_bad_number inputs (form_of m)) d) members

number_parts : (row : Row) (d : Data) → has_bad_number row d ≡ false
    → (has_bad_one (length (input_values row d)) d row.members ≡ false) × ((has_ports row && has (codes "level") has_bad_bound d) ≡ false)
unfolding has_bad_number
number_parts row d h = or_parts (has_bad_one (length (input_values row d)) d row.members) (has_ports row && has (codes "level") has_bad_bound d) h

-- ---- ports

least_by : (ports lacks : Bool) (n least : ℕ) → (ports && (lacks || nat_lt n least)) ≡ false → (ports ≡ false → least ≡ 0) → least ≤ n
least_by true lacks n least h none = ltb-false n least (or_parts lacks (nat_lt n least) h).1
least_by false lacks n least h none = let zero_least : least ≡ 0 = none refl in omega arith

-- ---- numbers

member_number : (most : ℕ) (key : List ℕ) (d : Data) (lacking bad : Bool) → (not (has key is_number d) || lacking) ≡ false → (has key (λ x. not (is_whole_within 1 most x)) d || bad) ≡ false
    → ((1 ≤ number_at key d) × (number_at key d ≤ most)) × (lacking ≡ false) × (bad ≡ false)
member_number most key d lacking bad there whole =
    let a = or_parts (not (has key is_number d)) lacking there in
    let b = or_parts (has key (λ x. not (is_whole_within 1 most x)) d) bad whole in
    (number_there most key d (not_false _ a.0) b.0, a.1, b.1)

-- ---- columns

tests_there : (d : Data) (ports : List (List FieldType)) (long bad : Bool) → (has (codes "where") (is_too_long form.Tests) d || long) ≡ false
    → (is_some (first_bad_column (tests_at d) (all_ports ports) []) || false) ≡ false → (is_some (first_differing (tests_at d) (all_ports ports) []) || false) ≡ false → AreTests ports (tests_at d)
tests_there d ports long bad few column types = (
  few_tests d (or_parts (has (codes "where") (is_too_long form.Tests) d) long few).0,
  tests_fit d (all_ports ports) (or_parts (is_some (first_bad_column (tests_at d) (all_ports ports) [])) false column).0 (or_parts (is_some (first_differing (tests_at d) (all_ports ports) [])) false types).0,
)

-- a column of the member is past the end
abbrev past_end : List ℕ → Data → List (List FieldType) → Bool
past_end key d ports = is_some (first_past_end (columns_at key d) (all_ports ports))

numbers_fit : (d : Data) (ports : List (List FieldType)) → past_end (codes "sum") d ports ≡ false → list_any (is_text_column (all_ports ports)) (columns_at (codes "sum") d) ≡ false → AreSums ports (columns_at (codes "sum") d)
numbers_fit d ports past text =
    All-from_recursion (λ column. slice_get (all_ports ports) column ≡ Some field_type.Number) (columns_at (codes "sum") d) (sums_fit (all_ports ports) (columns_at (codes "sum") d) past text)

-- ---- what holds of an operator by its row in the table

-- with no ports it asks for no inputs
none_asked : (o : Operator) → has_ports (operator_row o) ≡ false → (operator_row o).least ≡ 0
none_asked operator.Source h = refl
none_asked o h = absurd (true≢false h)

-- the operator of what a node does has as many ports as the one that it was read by
ports_are : (o : Operator) (d : Data) → ((operator_row (operator_of_kind (kind_from o d))).least ≡ (operator_row o).least) × ((operator_row (operator_of_kind (kind_from o d))).most ≡ (operator_row o).most)
ports_are operator.Source d = (refl, refl)
ports_are o d = (refl, refl)

-- the numbers that its members ask for are such
numbers_are : (o : Operator) (inputs : ℕ) (d : Data) → list_any (lacks_member d) (operator_row o).members ≡ false → has_bad_one inputs d (operator_row o).members ≡ false → AllByRecursion IsNumber (numbers_of (kind_from o d))
numbers_are operator.Window inputs d there whole = ((member_number (2 ^ 40) (codes "width") d false false there whole).0, tt)
numbers_are operator.Shift inputs d there whole = ((member_number (2 ^ 40) (codes "by") d false false there whole).0, tt)
numbers_are operator.Hop inputs d there whole =
    let first = member_number (2 ^ 40) (codes "every") d (list_any (lacks_member d) (member.Width ∷ [])) (has_bad_one inputs d (member.Width ∷ [])) there whole in
    (first.0, ((member_number (2 ^ 40) (codes "width") d false false first.1 first.2).0, tt))
numbers_are operator.Sequence inputs d there whole =
    ((member_number (2 ^ 40) (codes "scope") d (list_any (lacks_member d) (member.Where ∷ [])) (has_bad_one inputs d (member.Where ∷ [])) there whole).0, tt)
numbers_are operator.Unless inputs d there whole =
    let first = member_number (2 ^ 40) (codes "scope") d (list_any (lacks_member d) (member.Hold ∷ member.Where ∷ [])) (has_bad_one inputs d (member.Hold ∷ member.Where ∷ [])) there whole in
    (first.0, ((member_number (2 ^ 40) (codes "hold") d (list_any (lacks_member d) (member.Where ∷ [])) (has_bad_one inputs d (member.Where ∷ [])) first.1 first.2).0, tt))
numbers_are operator.AtLeast inputs d there whole =
    let first = member_number inputs (codes "number") d (list_any (lacks_member d) (member.Scope ∷ member.Where ∷ [])) (has_bad_one inputs d (member.Scope ∷ member.Where ∷ [])) there whole in
    ((member_number (2 ^ 40) (codes "scope") d (list_any (lacks_member d) (member.Where ∷ [])) (has_bad_one inputs d (member.Where ∷ [])) first.1 first.2).0, tt)
numbers_are o inputs d there whole = tt

-- ports that aren't unlike are all alike, and what is asked besides is false
alike_there : (ports : List (List FieldType)) (rest : Bool) → (some_are_unlike ports || rest) ≡ false → AreAlike ports × (rest ≡ false)
alike_there ports rest types =
    let parts = or_parts (some_are_unlike ports) rest types in
    (All-from_recursion (λ types. types ≡ first_port ports) ports (ports_alike (first_port ports) ports parts.0), parts.1)

-- what its members say of inputs and of columns fits the ports
fits_are : (o : Operator) (d : Data) (ports : List (List FieldType)) → list_any (lacks_member d) (operator_row o).members ≡ false → has_bad_one (length ports) d (operator_row o).members ≡ false
    → list_any (λ m. has (member_key m) (is_too_long (form_of m)) d) (operator_row o).members ≡ false → list_any (is_bad_column (all_ports (counted_ports (operator_row o).outcome d ports)) d) (operator_row o).members ≡ false
    → (has_unlike_ports (operator_row o).outcome ports || list_any (member_has_two_types (all_ports (counted_ports (operator_row o).outcome d ports)) d) (operator_row o).members) ≡ false → FitsPorts (kind_from o d) ports
fits_are operator.Select d ports there whole few column types = tests_there d ports false false few column types
fits_are operator.Project d ports there whole few column types =
    columns_fit (columns_at (codes "keep") d) (all_ports ports) (or_parts (is_some (first_past_end (columns_at (codes "keep") d) (all_ports ports))) false column).0
fits_are operator.Union d ports there whole few column types = (alike_there ports false types).0
fits_are operator.Join d ports there whole few column types = tests_there d ports false false few column types
fits_are operator.Group d ports there whole few column types =
    let keys = or_parts (past_end (codes "keys") d ports) (past_end (codes "sum") d ports || false) column in
    let sums = or_parts (past_end (codes "sum") d ports) false keys.1 in
    let texts = or_parts (list_any (is_text_column (all_ports ports)) (columns_at (codes "sum") d)) false types in
    (columns_fit (columns_at (codes "keys") d) (all_ports ports) keys.0, numbers_fit d ports sums.0 texts.0, refl, refl)
fits_are operator.RangedGroup d ports there whole few column types =
    let keys = or_parts (past_end (codes "keys") d ports) (past_end (codes "sum") d ports || (past_end (codes "least") d ports || (past_end (codes "greatest") d ports || false))) column in
    let sums = or_parts (past_end (codes "sum") d ports) (past_end (codes "least") d ports || (past_end (codes "greatest") d ports || false)) keys.1 in
    let least = or_parts (past_end (codes "least") d ports) (past_end (codes "greatest") d ports || false) sums.1 in
    let greatest = or_parts (past_end (codes "greatest") d ports) false least.1 in
    let texts = or_parts (list_any (is_text_column (all_ports ports)) (columns_at (codes "sum") d)) false types in (
      columns_fit (columns_at (codes "keys") d) (all_ports ports) keys.0,
      numbers_fit d ports sums.0 texts.0,
      columns_fit (columns_at (codes "least") d) (all_ports ports) least.0,
      columns_fit (columns_at (codes "greatest") d) (all_ports ports) greatest.0,
    )
fits_are operator.Sequence d ports there whole few column types =
    tests_there d ports false false (or_parts (has (codes "scope") (is_too_long form.Number) d) (has (codes "where") (is_too_long form.Tests) d || false) few).1 column types
fits_are operator.Unless d ports there whole few column types =
    let scope = or_parts (has (codes "scope") (is_too_long form.Number) d) (has (codes "hold") (is_too_long form.Number) d || (has (codes "where") (is_too_long form.Tests) d || false)) few in
    tests_there d ports false false (or_parts (has (codes "hold") (is_too_long form.Number) d) (has (codes "where") (is_too_long form.Tests) d || false) scope.1).1 column types
fits_are operator.AtLeast d ports there whole few column types =
    let number = member_number (length ports) (codes "number") d (list_any (lacks_member d) (member.Scope ∷ member.Where ∷ [])) (has_bad_one (length ports) d (member.Scope ∷ member.Where ∷ [])) there whole in
    let counted = like_first (number_at (codes "number") d) ports in
    let alike = alike_there ports (list_any (member_has_two_types (all_ports counted) d) (member.Where ∷ [])) types in
    let scope = or_parts (has (codes "number") (is_too_long form.InputCount) d) (has (codes "scope") (is_too_long form.Number) d || (has (codes "where") (is_too_long form.Tests) d || false)) few in
    let rest = or_parts (has (codes "scope") (is_too_long form.Number) d) (has (codes "where") (is_too_long form.Tests) d || false) scope.1 in
    (number.0, alike.0, tests_there d counted false false rest.1 column alike.1)
fits_are operator.Except d ports there whole few column types = tests_there d ports false false few column types
fits_are o d ports there whole few column types = tt

-- its result has the types that its row says
types_are : (o : Operator) (d : Data) (ports : List (List FieldType)) → HasTypes (kind_from o d) ports (result_types (operator_row o).outcome d (first_port ports) (all_ports (counted_ports (operator_row o).outcome d ports)))
types_are operator.Source d ports = tt
types_are o d ports = refl

-- a source has the level of sources
level_is : (o : Operator) (d : Data) → HasSourceLevel (kind_from o d) (level_at (operator_row o) d)
level_is operator.Source d = refl
level_is o d = tt

group_length : (keys sums least greatest : List ℕ) (count : Bool) (all : List FieldType) → length (group_types keys count sums least greatest all) ≤ group_width keys count sums least greatest
group_length keys sums least greatest count all =
    let extremes = kept_columns least all ++ kept_columns greatest all in
    omega (
      arith,
      length-append (kept_columns keys all) (count_types count ++ (map (λ _. field_type.Number) sums ++ extremes)),
      length-append (count_types count) (map (λ _. field_type.Number) sums ++ extremes),
      length-append (map (λ _. field_type.Number) sums) extremes,
      length-append (kept_columns least all) (kept_columns greatest all),
      length-map sums (λ _. field_type.Number),
      length-filter_map (slice_get all) keys,
      length-filter_map (slice_get all) least,
      length-filter_map (slice_get all) greatest,
    )

-- a result has at most as many fields as it is wide
width_covers : (result : Outcome) (d : Data) (first all : List FieldType) → length (result_types result d first all) ≤ result_width result d (result_types result d first all)
width_covers outcome.Declared d first all = omega arith
width_covers outcome.First d first all = omega arith
width_covers outcome.Alike d first all = omega arith
width_covers outcome.Kept d first all = length-filter_map (slice_get all) (columns_at (codes "keep") d)
width_covers outcome.Joined d first all = omega arith
width_covers outcome.Repeated d first all = omega arith
width_covers outcome.Grouped d first all = group_length (columns_at (codes "keys") d) (columns_at (codes "sum") d) [] [] (truth_at (codes "count") d) all
width_covers outcome.Ranged d first all = group_length (columns_at (codes "keys") d) (columns_at (codes "sum") d) (columns_at (codes "least") d) (columns_at (codes "greatest") d) (truth_at (codes "count") d) all

wide_enough : (row : Row) (earlier : List Node) (d : Data) → is_too_wide earlier row d ≡ false → length (types_under row earlier d) ≤ 16
unfolding is_too_wide
wide_enough row earlier d h =
    omega (
      arith,
      ltb-false 16 (result_width row.outcome d (types_under row earlier d)) h,
      width_covers row.outcome d (first_port (ports_at earlier row d)) (column_types row earlier d),
    )

least_there : (o : Operator) (earlier : List Node) (d : Data) → lacks_inputs (operator_row o) d ≡ false → length (inputs_at earlier (operator_row o) d) ≡ length (input_values (operator_row o) d)
    → (operator_row (operator_of_kind (kind_from o d))).least ≤ length (inputs_at earlier (operator_row o) d)
least_there o earlier d h e =
    let least : (operator_row o).least ≤ length (input_values (operator_row o) d) = least_by (has_ports (operator_row o)) (not (has (codes "from") (is_list is_text) d)) (length (input_values (operator_row o) d)) (operator_row o).least h (none_asked o) in
    subst (λ (n : ℕ). n ≤ length (inputs_at earlier (operator_row o) d)) (sym (ports_are o d).0)
    (subst (λ (n : ℕ). (operator_row o).least ≤ n) (sym e) least)

most_there : (o : Operator) (earlier : List Node) (d : Data) → nat_lt (operator_row o).most (length (input_values (operator_row o) d)) ≡ false → length (inputs_at earlier (operator_row o) d) ≡ length (input_values (operator_row o) d)
    → length (inputs_at earlier (operator_row o) d) ≤ (operator_row (operator_of_kind (kind_from o d))).most
most_there o earlier d h e =
    let most : length (input_values (operator_row o) d) ≤ (operator_row o).most = ltb-false (operator_row o).most (length (input_values (operator_row o) d)) h in
    subst (λ (n : ℕ). length (inputs_at earlier (operator_row o) d) ≤ n) (sym (ports_are o d).1)
    (subst (λ (n : ℕ). n ≤ (operator_row o).most) (sym e) most)

-- a node without a fault keeps the rules
pub node_is : (o : Operator) (earlier : List Node) (d : Data) → HasNoFault (operator_row o) earlier d → IsNode earlier (node_from o earlier d)
unfolding is_named_twice has_unknown_input has_bad_column has_type_difference has_bad_level
node_is o earlier d n =
    let parts = parts_there (operator_row o) d n.missing in
    let many = many_parts (operator_row o) d n.many in
    let numbers = number_parts (operator_row o) d n.number in
    let inputs = inputs_known earlier (input_values (operator_row o) d) n.unknown in
    let count : length (ports_at earlier (operator_row o) d) ≡ length (input_values (operator_row o) d) = length-map (inputs_at earlier (operator_row o) d) (types_of earlier) ∙ inputs.0 in
    let whole = subst (λ n. has_bad_one n d (operator_row o).members ≡ false) (sym count) numbers.0 in
    record {
      name = name_there d parts.0;
      new_name = n.twice;
      least_ports = least_there o earlier d parts.1 inputs.0;
      most_ports = most_there o earlier d many.0 inputs.0;
      inputs = All-from_recursion (IsInput earlier) (inputs_at earlier (operator_row o) d) inputs.1;
      level = level_at_ports (has_ports (operator_row o)) d numbers.1 n.level;
      source_level = level_is o d;
      numbers = All-from_recursion IsNumber (numbers_of (kind_from o d)) (numbers_are o (length (input_values (operator_row o) d)) d parts.2 numbers.0);
      fits = fits_are o d (ports_at earlier (operator_row o) d) parts.2 whole many.1 n.column n.types;
      types = types_are o d (ports_at earlier (operator_row o) d);
      width = wide_enough (operator_row o) earlier d n.wide;
    }
