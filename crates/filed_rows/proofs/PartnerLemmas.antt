-- The rows that pass with a payload of the other side are among those that are looked at.
use Rattle.std.proofs.Common.{◌≡◌, ℕ, ◌+◌, ◌≤◌, List, Bool, true, false, cond, refl, ap, ◌∙◌, subst, arith, length}
use Rattle.std.specs.Prelude.{nat_eq}
use Rattle.std.specs.List.Sorted.{IsStrictlySortedBy}
use Rattle.std.specs.Map.{keys_of}
use Rattle.std.specs.Ordering.{nat_cmp}
use Rattle.std.proofs.lemmas.Bool.{eqb-true, ne_eqb}
use Rattle.cedr_base.specs.declared.field.Field.{Field}
use Rattle.cedr_base.specs.declared.row.Row.{Row}
use Rattle.cedr_base.specs.Rows.{count_of}
use Rattle.cedr_expr.specs.declared.side.Side.TheVariants.{Left}
use Rattle.cedr_expr.specs.declared.test.Test.{Test}
use Rattle.cedr_expr.specs.Tests.{passes}
use Rattle.cedr_expr.specs.Tags.{tag_of, left_tag, right_tag}
use Rattle.cedr_expr.proofs.TagLemmas.{tag_same}
use Rattle.filed_rows.specs.Filed.{FiledRows, under, all_under, Files, right_partners}
use Rattle.filed_rows.proofs.NoteLemmas.{all_same, under_most}

module _ (width : ℕ) (tests : List Test) (filed : FiledRows) (rows : List Row) where
  tag_is : (left right : List Field) → nat_eq (length left) width ≡ true → passes tests left right ≡ true → tag_of Left width tests left ≡ right_tag width tests right
  tag_is left right is pass = subst (λ (w : ℕ). tag_of Left w tests left ≡ right_tag w tests right) (eqb-true (length left) width is) (tag_same tests left right pass)

  module _ (sorted : IsStrictlySortedBy nat_cmp (keys_of filed)) (files : Files (right_tag width tests) filed rows) where
    right_at : (payload : List Field) (o : Row) (fits : Bool) → nat_eq (length payload) width ≡ fits → passes tests payload o.payload ≡ true → count_of o (right_partners filed (cond fits (tag_of Left width tests payload) 0)) ≡ count_of o rows
    right_at payload o true is pass =
        let t = tag_of Left width tests payload in
        ap (λ b. count_of o (cond b (all_under filed) (under filed t))) (ne_eqb t 0 (λ e. omega (arith, e)))
        ∙ (ap (λ (k : ℕ). count_of o (under filed k)) (tag_is payload o.payload is pass)
        ∙ files.there o)
    right_at payload o false is pass = (all_same (right_tag width tests) filed rows sorted files).each o

    -- a right row that passes with a left payload
    pub right_partner : (payload : List Field) (o : Row) → passes tests payload o.payload ≡ true → count_of o (right_partners filed (left_tag width tests payload)) ≡ count_of o rows
    right_partner payload o pass = right_at payload o (nat_eq (length payload) width) refl pass

    fewer_at : (t : ℕ) (o : Row) (all : Bool) → count_of o (cond all (all_under filed) (under filed t)) ≤ count_of o rows
    fewer_at t o true = omega (arith, (all_same (right_tag width tests) filed rows sorted files).each o)
    fewer_at t o false = under_most (right_tag width tests) filed rows t o files

    -- no right row is looked at more often than it is there
    pub right_fewer : (t : ℕ) (o : Row) → count_of o (right_partners filed t) ≤ count_of o rows
    right_fewer t o = fewer_at t o (nat_eq t 0)

  module _ (files : Files (left_tag width tests) filed rows) where
    left_at : (payload : List Field) (o : Row) (fits : Bool) → nat_eq (length o.payload) width ≡ fits → left_tag width tests o.payload ≡ cond fits (tag_of Left width tests o.payload) 0 → passes tests o.payload payload ≡ true
        → count_of o (under filed (right_tag width tests payload)) + count_of o (under filed 0) ≡ count_of o rows
    left_at payload o true is t pass =
        let one = tag_is o.payload payload is pass in
        let at = ap (λ (k : ℕ). count_of o (under filed k)) (t ∙ one) in
        let there = files.there o in
        let nothing = files.only 0 o (λ e. omega (arith, e, t)) in
        omega (arith, at, there, nothing)
    left_at payload o false is t pass =
        let at = ap (λ (k : ℕ). count_of o (under filed k)) t in
        let there = files.there o in
        let nothing = files.only (right_tag width tests payload) o (λ e. omega (arith, e, t)) in
        omega (arith, at, there, nothing)

    -- a left row that passes with a right payload
    pub left_partner : (payload : List Field) (o : Row) → passes tests o.payload payload ≡ true → count_of o (under filed (right_tag width tests payload)) + count_of o (under filed 0) ≡ count_of o rows
    left_partner payload o pass = left_at payload o (nat_eq (length o.payload) width) refl refl pass
