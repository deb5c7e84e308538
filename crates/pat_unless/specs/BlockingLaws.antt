-- The laws of unless: which rows are blocked depends on bags alone.
use Rattle.std.proofs.Common.{◌≡◌, ℕ, ◌+◌, List, [], ◌∷◌, Bool, true, false, cond, refl, ap, sym, ◌∙◌, arith}
use Rattle.std.specs.Prelude.{sum_by, nat_lt, ◌||◌}
use Rattle.std.specs.List.{list_any}
use Rattle.std.proofs.lemmas.Bool.{lt-ltb}
use Rattle.std.proofs.lemmas.List.Sums.{sum_by-cons}
use Rattle.cedr_base.specs.declared.row.Row.{Row}
use Rattle.cedr_base.specs.Rows.{count_of, SameRows}
use Rattle.change_laws.proofs.BagSums.{sum_by-same, same_flat_map}
use Rattle.cedr_table.specs.Operators.{Tables, table_at, SameTables}
use Rattle.cedr_table.specs.PortLaws.{same_at, least_rises, least_is_time}
use Rattle.cedr_table.specs.OperatorLaws.{OperatorLaws}
use Rattle.pat_state.specs.declared.tied.Tied.{Tied}
use Rattle.pat_state.specs.Tied.{left_rows, right_rows}
use Rattle.pat_state.proofs.EndlessLemmas.{stands_later, stands_alike}
use Rattle.cedr_expr.specs.declared.test.Test.{Test}
use Rattle.pat_state.proofs.FlatLemmas.{flat_map-like}
use Rattle.pat_unless.specs.declared.terms.Terms.{Terms}
use Rattle.pat_unless.specs.Blocking.{blocks, waited, unblocked, all_unblocked, unless_of}
use Rattle.pat_unless.specs.Standing.{UnlessStands}

any_at : (p : Row → Bool) (x : Row) (xs : List Row) (b : Bool) → p x ≡ b → list_any p xs ≡ nat_lt 0 (sum_by (λ y. cond (p y) 1 0) xs) → (b || list_any p xs) ≡ nat_lt 0 (cond b 1 0 + sum_by (λ y. cond (p y) 1 0) xs)
any_at p x xs true is rest = sym (lt-ltb 0 (1 + sum_by (λ y. cond (p y) 1 0) xs) (omega arith))
any_at p x xs false is rest = rest ∙ ap (λ n. nat_lt 0 n) (omega arith)

-- whether one passes is whether some are counted
pub any_is : (p : Row → Bool) (xs : List Row) → list_any p xs ≡ nat_lt 0 (sum_by (λ y. cond (p y) 1 0) xs)
any_is p [] = refl
any_is p (x ∷ xs) = any_at p x xs (p x) refl (any_is p xs) ∙ ap (λ n. nat_lt 0 n) (sym (sum_by-cons (λ y. cond (p y) 1 0) x xs))

-- whether some row of a bag passes a test depends on the bag alone
pub any_same : (p : Row → Bool) (xs ys : List Row) → SameRows xs ys → list_any p xs ≡ list_any p ys
any_same p xs ys same = any_is p xs ∙ (ap (λ n. nat_lt 0 n) (sum_by-same (λ y. cond (p y) 1 0) xs ys same) ∙ sym (any_is p ys))

-- what a row gives depends on the bag of the blockers alone
pub unblocked_same : (scope hold : ℕ) (tests : List Test) (xs ys : List Row) (a : Row) → SameRows xs ys → unblocked scope hold tests xs a ≡ unblocked scope hold tests ys a
unblocked_same scope hold tests xs ys a same = ap (λ b. cond b [] (waited scope hold a)) (any_same (blocks scope tests a) xs ys same)

-- tables that are the same bags have the same result
pub same_unblocked : (scope hold : ℕ) (tests : List Test) (tables others : Tables) → SameTables tables others → SameRows (all_unblocked scope hold tests tables) (all_unblocked scope hold tests others)
same_unblocked scope hold tests tables others same = record {
  each = λ r.
      ap (count_of r) (flat_map-like (unblocked scope hold tests (table_at tables 1)) (unblocked scope hold tests (table_at others 1)) (table_at tables 0) (λ a. unblocked_same scope hold tests (table_at tables 1) (table_at others 1) a (same_at 1 tables others same)))
      ∙ (same_flat_map (unblocked scope hold tests (table_at others 1)) (table_at tables 0) (table_at others 0) (same_at 0 tables others same)).each r;
}

-- the laws of the meaning of unless, and of what its state stands for
pub unless_laws : (terms : Terms) (tied : Tied) → OperatorLaws (unless_of terms.scope terms.hold terms.tests) (UnlessStands terms tied)
unless_laws terms tied = record {
  sized = λ tables marks h. (h.kept.table, h.kept.mark);
  rising = λ tables marks later h k. record { kept = stands_later terms.scope (left_rows tied ∷ right_rows tied ∷ []) tables marks later h.kept k; tags = h.tags };
  alike = λ tables others marks k h. record { kept = stands_alike terms.scope (left_rows tied ∷ right_rows tied ∷ []) tables others marks k h.kept; tags = h.tags };
  same_rows = λ tables others k. same_unblocked terms.scope terms.hold terms.tests tables others k;
  nothing = record { each = λ r. refl };
  bound_rises = λ tables marks later h k. least_rises marks later k;
  bound_stays = λ tables marks port change after h k m. omega arith;
  bound_is_time = λ tables marks h k. least_is_time marks;
  echo_bound = λ tables marks e h. cc;
}
