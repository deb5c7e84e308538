-- Sums over tables that agree up to a time, of weights that see no further.
use Rattle.std.proofs.Common.{◌≡◌, ℕ, ◌<◌, ◌≤◌, List, [], ◌∷◌, Bool, true, false, cond, refl, ap, sym, ◌∙◌, arith, min}
use Rattle.std.specs.Prelude.{sum_by, nat_lt}
use Rattle.std.proofs.lemmas.Bool.{ltb-true, ltb-false, le-ltb}
use Rattle.std.proofs.lemmas.List.Sums.{sum_by-cons, sum_by-append}
use Rattle.cedr_base.specs.declared.field.Field.{Field}
use Rattle.cedr_base.specs.declared.row.Row.{Row}
use Rattle.cedr_base.specs.Rows.{IsRow, AreRows, count_of, one_if_same}
use Rattle.change_laws.specs.Agreeing.{row_up_to, rows_up_to, AgreeUpTo}
use Rattle.change_laws.proofs.BagSums.{sum_by-same, sum_by-flat_map, count_of-itself}
use Rattle.cedr_base.proofs.Bags.{count_of-cons}
use Rattle.change_laws.proofs.AgreeLemmas.{share, up_to_late}

-- A weight of rows sees them up to a time: a row that begins then or later weighs nothing, and of an earlier one it doesn't
-- matter how long it is valid from then on.
pub record SeesUpTo (t : ℕ) (w : Row → ℕ) : Type 0 where
  pub late : (x : Row) → IsRow x → t ≤ x.begin → w x ≡ 0
  pub early : (x : Row) → IsRow x → x.begin < t → w (record x { end = min x.end t }) ≡ w x

-- so a row weighs what it does as it is before that time
clipped_at : (t : ℕ) (w : Row → ℕ) (x : Row) (b : Bool) → nat_lt x.begin (min x.end t) ≡ b → IsRow x → SeesUpTo t w → sum_by w (cond b (record x { end = min x.end t } ∷ []) []) ≡ w x
clipped_at t w x true is row sees = let less = ltb-true x.begin (min x.end t) is in omega (arith, sees.early x row (omega arith))
clipped_at t w x false is row sees =
    let over = ltb-false x.begin (min x.end t) is in
    let lives = row.lives in
    sym (sees.late x row (omega arith))

-- a weight that sees rows up to a time weighs a table as what it is before that time
clipped_sum : (t : ℕ) (w : Row → ℕ) (xs : List Row) → AreRows xs → SeesUpTo t w → sum_by w (rows_up_to t xs) ≡ sum_by w xs
clipped_sum t w [] are sees = refl
clipped_sum t w (x ∷ xs) are sees =
    omega (arith, sum_by-append w (row_up_to t x) (rows_up_to t xs), sum_by-cons w x xs, clipped_at t w x (nat_lt x.begin (min x.end t)) refl (are.each x (count_of-itself x xs)) sees, clipped_sum t w xs (record { each = λ r there. are.each r (omega (arith, count_of-cons r x xs)) }) sees)

-- tables that agree up to a time have the same sum of each weight that sees no further
pub agree_sum : (t : ℕ) (w : Row → ℕ) (xs ys : List Row) → AreRows xs → AreRows ys → SeesUpTo t w → AgreeUpTo t xs ys → sum_by w xs ≡ sum_by w ys
agree_sum t w xs ys xs_are ys_are sees agree = sym (clipped_sum t w xs xs_are sees) ∙ (sum_by-same w (rows_up_to t xs) (rows_up_to t ys) agree.same ∙ clipped_sum t w ys ys_are sees)

-- tables whose rows add the same before a time agree up to it
pub shares_agree : (t : ℕ) (xs ys : List Row) → ((q : Row) → sum_by (share t q) xs ≡ sum_by (share t q) ys) → AgreeUpTo t xs ys
shares_agree t xs ys h = record { same = record { each = λ q. sum_by-flat_map (one_if_same q) (row_up_to t) xs ∙ (h q ∙ sym (sum_by-flat_map (one_if_same q) (row_up_to t) ys)) } }

-- and the rows of tables that agree add the same
pub agree_shares : (t : ℕ) (xs ys : List Row) (q : Row) → AgreeUpTo t xs ys → sum_by (share t q) xs ≡ sum_by (share t q) ys
agree_shares t xs ys q h = sym (sum_by-flat_map (one_if_same q) (row_up_to t) xs) ∙ (h.same.each q ∙ sum_by-flat_map (one_if_same q) (row_up_to t) ys)

-- a row that begins at a time or later adds nothing before it
pub late_share : (t : ℕ) (q x : Row) → t ≤ x.begin → share t q x ≡ 0
late_share t q x h = ap (count_of q) (up_to_late t x h)

-- nor does one that ends no later than it begins
pub empty_share : (t : ℕ) (q x : Row) → x.end ≤ x.begin → share t q x ≡ 0
empty_share t q x h = ap (count_of q) (ap {B = List Row} (λ b. cond b (record x { end = min x.end t } ∷ []) []) (le-ltb x.begin (min x.end t) (omega arith)))

-- rows that begin together with the same payload, and end together but for what is from a time on, add the same before it
pub same_share : (t : ℕ) (q : Row) (begin e f : ℕ) (payload : List Field) → min e t ≡ min f t → share t q (record { end = e; begin = begin; payload = payload }) ≡ share t q (record { end = f; begin = begin; payload = payload })
same_share t q begin e f payload h = ap (λ n. count_of q (cond (nat_lt begin n) (record { end = n; begin = begin; payload = payload } ∷ []) [])) h

-- a list of one row or none where that is empty adds what the row does
pub one_share : (t : ℕ) (q x : Row) (b : Bool) → nat_lt x.begin x.end ≡ b → sum_by (share t q) (cond b (x ∷ []) []) ≡ share t q x
one_share t q x true is = omega arith
one_share t q x false is = sym (empty_share t q x (ltb-false x.begin x.end is))

-- up to a time, what a row is before that time adds what the row does
pub clipped_share : (t : ℕ) (q x : Row) → share t q (record x { end = min x.end t }) ≡ share t q x
clipped_share t q x = same_share t q x.begin (min x.end t) x.end x.payload (omega arith)
