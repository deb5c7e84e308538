-- Rows that no other row blocks, of tables that agree.
use Rattle.std.proofs.Common.{◌≡◌, ℕ, ◌≤◌, List, [], Bool, true, false, cond, refl, ap, sym, ◌∙◌, arith, inl, inr}
use Rattle.std.specs.Prelude.{sum_by, nat_lt, ◌&&◌}
use Rattle.std.specs.List.{flat_map}
use Rattle.std.proofs.lemmas.Bool.{ltb-true, and_parts, cases_lt}
use Rattle.cedr_base.specs.declared.row.Row.{Row}
use Rattle.change_laws.specs.Times.{later}
use Rattle.change_laws.proofs.BagSums.{sum_by-flat_map}
use Rattle.cedr_table.specs.Operators.{table_at, least_of}
use Rattle.cedr_expr.specs.declared.test.Test.{Test}
use Rattle.cedr_expr.specs.Tests.{passes}
use Rattle.pat_unless.specs.Blocking.{blocks, is_blocked_by, waited, unblocked, all_unblocked, unless_of}
use Rattle.pat_unless.specs.BlockingLaws.{any_is}
use Rattle.cedr_table.specs.Agreements.{KeepsAgreement}
use Rattle.change_laws.proofs.AgreeLemmas.{share}
use Rattle.change_laws.proofs.AgreeSums.{SeesUpTo, agree_sum, shares_agree, late_share, one_share}
use Rattle.cedr_table.proofs.ChoiceLemmas.{sum_by-like}
use Rattle.cedr_table.proofs.PortsAgree.{RowsAgree, rows_agree, least_agree}

no_block : (scope : ℕ) (tests : List Test) (a b : Row) (blocking : Bool) → blocks scope tests a b ≡ blocking → later a.begin scope ≤ b.begin → cond {A = ℕ} blocking 1 0 ≡ 0
no_block scope tests a b true is over =
    let both = and_parts (nat_lt a.begin b.begin) (nat_lt b.begin (later a.begin scope) && passes tests a.payload b.payload) is in
    let within = ltb-true b.begin (later a.begin scope) (and_parts (nat_lt b.begin (later a.begin scope)) (passes tests a.payload b.payload) both.1).0 in
    absurd (omega arith)
no_block scope tests a b false is over = refl

-- of a row whose scope ends by a time, tables that agree up to it say alike whether it is blocked
blocked_alike : (t scope : ℕ) (tests : List Test) (xs ys : List Row) (a : Row) → RowsAgree t xs ys → later a.begin scope ≤ t → is_blocked_by scope tests xs a ≡ is_blocked_by scope tests ys a
blocked_alike t scope tests xs ys a h within =
    any_is (blocks scope tests a) xs
    ∙ (ap (λ n. nat_lt 0 n) (agree_sum t (λ b. cond (blocks scope tests a b) 1 0) xs ys h.rows h.others (record {
      late = λ b row from. no_block scope tests a b (blocks scope tests a b) refl (omega arith);
      early = λ b row before. refl;
    }) h.agree)
    ∙ sym (any_is (blocks scope tests a) ys))

module _ (t : ℕ) (q : Row) (scope hold : ℕ) (tests : List Test) where
  waited_share : (a : Row) → sum_by (share t q) (waited scope hold a) ≡ share t q (record { end = later (later a.begin scope) hold; begin = later a.begin scope; payload = a.payload })
  waited_share a = one_share t q (record { end = later (later a.begin scope) hold; begin = later a.begin scope; payload = a.payload }) (nat_lt (later a.begin scope) (later (later a.begin scope) hold)) refl

  late_at : (a : Row) (blocked : Bool) → t ≤ later a.begin scope → sum_by (share t q) (cond blocked [] (waited scope hold a)) ≡ 0
  late_at a true from = refl
  late_at a false from = waited_share a ∙ late_share t q (record { end = later (later a.begin scope) hold; begin = later a.begin scope; payload = a.payload }) from

  -- a row gives the same before a time, whichever of two tables that agree up to it has the blockers
  unblocked_alike : (xs ys : List Row) (a : Row) → RowsAgree t xs ys → sum_by (share t q) (unblocked scope hold tests xs a) ≡ sum_by (share t q) (unblocked scope hold tests ys a)
  unblocked_alike xs ys a h = elim (cases_lt t (later a.begin scope)) [
    | inl over ↦ late_at a (is_blocked_by scope tests xs a) (omega arith) ∙ sym (late_at a (is_blocked_by scope tests ys a) (omega arith))
    | inr within ↦ ap (λ b. sum_by (share t q) (cond b [] (waited scope hold a))) (blocked_alike t scope tests xs ys a h within)
  ]

  unblocked_sees : (blockers : List Row) → SeesUpTo t (λ a. sum_by (share t q) (unblocked scope hold tests blockers a))
  unblocked_sees blockers = record {
    late = λ a row from. let begins = row.begins in late_at a (is_blocked_by scope tests blockers a) (omega arith);
    early = λ a row before. refl;
  }

  unblocked_shares : (xs xs' bs bs' : List Row) → RowsAgree t xs xs' → RowsAgree t bs bs' → sum_by (share t q) (flat_map (unblocked scope hold tests bs) xs) ≡ sum_by (share t q) (flat_map (unblocked scope hold tests bs') xs')
  unblocked_shares xs xs' bs bs' h k =
      sum_by-flat_map (share t q) (unblocked scope hold tests bs) xs
      ∙ (sum_by-like (λ a. sum_by (share t q) (unblocked scope hold tests bs a)) (λ a. sum_by (share t q) (unblocked scope hold tests bs' a)) xs (λ a. unblocked_alike bs bs' a k)
      ∙ (agree_sum t (λ a. sum_by (share t q) (unblocked scope hold tests bs' a)) xs xs' h.rows h.others (unblocked_sees bs') h.agree
      ∙ sym (sum_by-flat_map (share t q) (unblocked scope hold tests bs') xs')))

-- an unless keeps agreement
pub unless_keeps : (scope hold : ℕ) (tests : List Test) → KeepsAgreement (unless_of scope hold tests)
unless_keeps scope hold tests = record {
  agree = λ tables others marks rows others_rows h.
      let all = least_agree marks tables others rows others_rows h in
      shares_agree (least_of marks) (all_unblocked scope hold tests tables) (all_unblocked scope hold tests others)
      (λ q. unblocked_shares (least_of marks) q scope hold tests (table_at tables 0) (table_at others 0) (table_at tables 1) (table_at others 1) (rows_agree (least_of marks) 0 tables others all) (rows_agree (least_of marks) 1 tables others all));
  same_bound = λ tables others marks rows others_rows h. refl;
}
