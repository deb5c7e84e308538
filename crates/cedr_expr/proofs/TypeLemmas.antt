-- What fitting types promise of payloads.
use Rattle.std.proofs.Common.{◌≡◌, ℕ, ◌<◌, Bool, true, false, cond, ltb, not, List, ◌++◌, length, map, get_or, nat_le, All, Option, None, Some, refl, ap, sym, ◌∙◌, arith}
use Rattle.std.specs.Option.{is_none, option_map, option_zip, option_map_or, IsSomeAnd}
use Rattle.std.specs.List.{slice_get, position, position_or_len}
use Rattle.std.proofs.lemmas.Bool.{ltb-false, leb-false}
use Rattle.std.proofs.lemmas.List.{map-append}
use Rattle.std.proofs.lemmas.List.Sums.{fails_before_first}
use Rattle.std.proofs.lemmas.Option.{slice_get-map}
use Rattle.cedr_base.specs.declared.field.Field.{Field}
use Rattle.cedr_base.specs.declared.field.FieldType.{FieldType}
use Rattle.cedr_base.specs.declared.field.FieldType.TheVariants as field_type
use Rattle.cedr_expr.specs.declared.test.Operand.{Operand}
use Rattle.cedr_expr.specs.declared.test.Operand.TheVariants as operand
use Rattle.cedr_expr.specs.declared.test.Test.{Test}
use Rattle.cedr_expr.specs.declared.fault.TypeFault.TheVariants.{BadColumn}
use Rattle.cedr_expr.specs.Columns.{column}
use Rattle.cedr_expr.specs.Tests.{operand_value}
use Rattle.cedr_expr.specs.Types.{type_of, same_type, operand_type, sides_of, test_has_bad_column, has_two_types, first_bad_column, first_differing, first_type_fault, type_fault_of, first_past_end, keep_fault_of, HasLikeSides}

none_if_false : (b : Bool) (n : ℕ) → cond b (Some n) None ≡ None → b ≡ false
none_if_false true n h = cc
none_if_false false n h = refl

-- where no first place passes a test, none does
fails_at_each : {X : Type 0} (p : X → Bool) (xs : List X) → position p xs ≡ None → (k : ℕ) (d : X) → k < length xs → p (get_or xs k d) ≡ false
fails_at_each p xs nowhere k d within =
    let past = ltb-false (position_or_len p xs) (length xs) (none_if_false (ltb (position_or_len p xs) (length xs)) (position_or_len p xs) nowhere) in
    fails_before_first p xs k d (omega (arith, past, within))

no_fault : (bad differing : Option ℕ) → first_type_fault bad differing ≡ None → (bad ≡ None) × (differing ≡ None)
no_fault (Some bad) differing h = cc
no_fault None (Some differing) h = cc
no_fault None None h = (refl, refl)

type_of_column : (left right : List Field) (place : ℕ) → column (map type_of left) (map type_of right) place ≡ option_map type_of (column left right place)
type_of_column left right place = ap (λ xs. slice_get xs place) (sym (map-append type_of left right)) ∙ slice_get-map type_of (left ++ right) place

type_of_operand : (o : Operand) (left right : List Field) → operand_type o (map type_of left) (map type_of right) ≡ option_map type_of (operand_value o left right)
type_of_operand (operand.Column place) left right = type_of_column left right place
type_of_operand (operand.Number n) left right = refl
type_of_operand (operand.Bytes text) left right = refl

one_type : (a b : FieldType) → not (same_type a b) ≡ false → a ≡ b
one_type field_type.Number field_type.Number h = refl
one_type field_type.Number field_type.Bytes h = cc
one_type field_type.Bytes field_type.Number h = cc
one_type field_type.Bytes field_type.Bytes h = refl

-- a pair of types that are there and don't differ are those of a pair of fields with one type
like_sides : (a b : Option Field) → is_none (option_zip (option_map type_of a) (option_map type_of b)) ≡ false
    → option_map_or (λ sides. not (same_type sides.0 sides.1)) (option_zip (option_map type_of a) (option_map type_of b)) false ≡ false
    → IsSomeAnd (option_zip a b) (λ sides. type_of sides.0 ≡ type_of sides.1)
like_sides None b there alike = cc
like_sides (Some x) None there alike = cc
like_sides (Some x) (Some y) there alike = one_type (type_of x) (type_of y) alike

sides_of_types : (left right : List Field) (test : Test) → sides_of (map type_of left) (map type_of right) test ≡ option_zip (option_map type_of (column left right test.left)) (option_map type_of (operand_value test.right left right))
sides_of_types left right test =
    ap (λ one. option_zip one (operand_type test.right (map type_of left) (map type_of right))) (type_of_column left right test.left)
    ∙ ap (λ other. option_zip (option_map type_of (column left right test.left)) other) (type_of_operand test.right left right)

-- tests that fit the types of two payloads have their columns there, and sides of one type
pub all_like_sides : (tests : List Test) (left right : List Field) → type_fault_of tests (map type_of left) (map type_of right) ≡ None → All (HasLikeSides left right) tests
all_like_sides tests left right fits k d within =
    let both = no_fault (first_bad_column tests (map type_of left) (map type_of right)) (first_differing tests (map type_of left) (map type_of right)) fits in
    let there = fails_at_each (test_has_bad_column (map type_of left) (map type_of right)) tests both.0 k d within in
    let alike = fails_at_each (has_two_types (map type_of left) (map type_of right)) tests both.1 k d within in
    let test = get_or tests k d in
    let types = sides_of_types left right test in
    like_sides (column left right test.left) (operand_value test.right left right)
    (sym (ap (λ sides. is_none sides) types) ∙ there)
    (sym (ap (λ sides. option_map_or (λ s. not (same_type s.0 s.1)) sides false) types) ∙ alike)

no_keep_fault : (place : Option ℕ) → option_map (λ n. BadColumn n) place ≡ None → place ≡ None
no_keep_fault (Some n) h = cc
no_keep_fault None h = refl

-- columns that fit some types are below their number
pub kept_within : (columns : List ℕ) (types : List FieldType) → keep_fault_of columns types ≡ None → (k : ℕ) → k < length columns → get_or columns k 0 < length types
kept_within columns types fits k within =
    leb-false (length types) (get_or columns k 0) (fails_at_each (λ column. nat_le (length types) column) columns (no_keep_fault (first_past_end columns types) fits) k 0 within)
