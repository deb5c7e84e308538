-- What tests want equal is equal in payloads that pass them together.
use Rattle.std.proofs.Common.{◌≡◌, ℕ, zero, suc, ◌+◌, ◌-◌, ◌<◌, ◌≤◌, List, [], ◌∷◌, ◌++◌, length, take, get_or, Bool, true, false, cond, ◌&&◌, Option, Some, None, refl, ap, sym, ◌∙◌, arith}
use Rattle.std.specs.Prelude.{nat_lt, nat_le}
use Rattle.std.specs.Option.{option_and_then}
use Rattle.std.specs.List.{slice_get, cons_option}
use Rattle.std.specs.Ordering.{is_eq, int_cmp}
use Rattle.std.specs.declared.cmp.Ordering.{Ordering}
use Rattle.std.specs.declared.cmp.Ordering.TheVariants.{Less, Equal, Greater}
use Rattle.std.proofs.lemmas.Bool.{ltb-true, leb-true}
use Rattle.std.proofs.lemmas.List.{take_more}
use Rattle.std.proofs.lemmas.List.Elements.{filter_map-append}
use Rattle.std.proofs.lemmas.Map.Lookups.{exact_signed, exact_bytes}
use Rattle.cedr_base.specs.declared.field.Field.{Field}
use Rattle.cedr_base.specs.declared.field.Field.TheVariants.{Number, Bytes}
use Rattle.cedr_base.specs.Order.{text_cmp}
use Rattle.cedr_expr.specs.declared.test.Op.{Op}
use Rattle.cedr_expr.specs.declared.test.Op.TheVariants.{Eq, Ne, Lt, Le, Gt, Ge}
use Rattle.cedr_expr.specs.declared.test.Operand.{Operand}
use Rattle.cedr_expr.specs.declared.test.Operand.TheVariants as operand
use Rattle.cedr_expr.specs.declared.test.Test.{Test}
use Rattle.cedr_expr.specs.Columns.{column}
use Rattle.cedr_expr.specs.Tests.{passes, both_pass, operand_value, test_holds}
use Rattle.cedr_expr.specs.declared.side.Side.{Side}
use Rattle.cedr_expr.specs.declared.side.Side.TheVariants.{Left, Right}
use Rattle.cedr_expr.specs.Ties.{split_by, field_on, tied_field, tied_fields}

-- one test more adds its field to the tied ones
pub tied_more : (side : Side) (width : ℕ) (payload : List Field) (tests : List Test) (i : ℕ) (d : Test) → i < length tests
    → tied_fields side width payload (take (i + 1) tests) ≡ tied_fields side width payload (take i tests) ++ tied_fields side width payload (get_or tests i d ∷ [])
tied_more side width payload tests i d within =
    ap (tied_fields side width payload) (take_more tests i d within)
    ∙ filter_map-append (tied_field side width payload) (take i tests) (get_or tests i d ∷ [])

-- a test that two values compare as equal, as a fact
pub from_is_eq : (o : Ordering) → is_eq o ≡ true → o ≡ Equal
from_is_eq Less h = cc
from_is_eq Equal h = refl
from_is_eq Greater h = cc

-- fields that an equality test lets pass are one
pub equal_sides : (x y : Option Field) → both_pass Eq x y ≡ true → x ≡ y
equal_sides None y h = cc
equal_sides (Some a) None h = cc
equal_sides (Some (Number m)) (Some (Number n)) h = ap (λ z. Some (Number z)) (exact_signed m n (from_is_eq (int_cmp m n) h))
equal_sides (Some (Number m)) (Some (Bytes t)) h = cc
equal_sides (Some (Bytes s)) (Some (Number n)) h = cc
equal_sides (Some (Bytes s)) (Some (Bytes t)) h = ap (λ z. Some (Bytes z)) (exact_bytes s t (from_is_eq (text_cmp s t) h))

-- a column before a left payload's end is its field
pub column_left : (left right : List Field) (i : ℕ) → i < length left → column left right i ≡ slice_get left i
column_left [] right i h = absurd (omega arith)
column_left (x ∷ left) right zero h = refl
column_left (x ∷ left) right (suc i) h = column_left left right i (omega arith)

-- a later column is a field of the right payload
pub column_right : (left right : List Field) (i : ℕ) → length left ≤ i → column left right i ≡ slice_get right (i - length left)
column_right [] right i h = let e : i - 0 ≡ i = omega arith in rw e
column_right (x ∷ left) right zero h = absurd (omega arith)
column_right (x ∷ left) right (suc i) h = let e : suc i - suc (length left) ≡ i - length left = omega arith in rw e (column_right left right i (omega arith))

pub both_true : (a b : Bool) → a && b ≡ true → (a ≡ true) × (b ≡ true)
both_true true b h = (refl, h)
both_true false b h = cc

module _ (left right : List Field) where
  abbrev width : ℕ
  width = length left

  -- of columns that lie on different sides both payloads have the same field
  split_same : (i j : ℕ) (b d : Bool) → nat_lt i width && nat_le width j ≡ b → nat_lt j width && nat_le width i ≡ d → column left right i ≡ column left right j
      → option_and_then (field_on Left left) (cond b (Some (i, j - width)) (cond d (Some (j, i - width)) None))
      ≡ option_and_then (field_on Right right) (cond b (Some (i, j - width)) (cond d (Some (j, i - width)) None))
  split_same i j true d p q same =
      let tests = both_true (nat_lt i width) (nat_le width j) p in
      sym (column_left left right i (ltb-true i width tests.0)) ∙ (same ∙ column_right left right j (leb-true width j tests.1))
  split_same i j false true p q same =
      let tests = both_true (nat_lt j width) (nat_le width i) q in
      sym (column_left left right j (ltb-true j width tests.0)) ∙ (sym same ∙ column_right left right i (leb-true width i tests.1))
  split_same i j false false p q same = refl

  field_same : (i : ℕ) (op : Op) (o : Operand) → both_pass op (column left right i) (operand_value o left right) ≡ true
      → option_and_then (field_on Left left) (split_by width i op o) ≡ option_and_then (field_on Right right) (split_by width i op o)
  field_same i Eq (operand.Column j) h = split_same i j (nat_lt i width && nat_le width j) (nat_lt j width && nat_le width i) refl refl (equal_sides (column left right i) (column left right j) h)
  field_same i Eq (operand.Number n) h = refl
  field_same i Eq (operand.Bytes t) h = refl
  field_same i Ne o h = refl
  field_same i Lt o h = refl
  field_same i Le o h = refl
  field_same i Gt o h = refl
  field_same i Ge o h = refl

  -- a left payload of this width and a right one that pass tests have the same tied fields
  pub tied_same : (tests : List Test) → passes tests left right ≡ true → tied_fields Left width left tests ≡ tied_fields Right width right tests
  tied_same [] h = refl
  tied_same (test ∷ tests) h =
      let both = both_true (test_holds test left right) (passes tests left right) h in
      ap (λ o. cons_option o (tied_fields Left width left tests)) (field_same test.left test.op test.right both.0)
      ∙ ap (λ rest. cons_option (tied_field Right width right test) rest) (tied_same tests both.1)
