-- Groups of tables that agree.
use Rattle.std.proofs.Common.{◌≡◌, ℕ, ◌+◌, ◌<◌, ◌≤◌, inl, inr, List, Bool, true, false, cond, refl, ap, sym, ◌∙◌, arith, min}
use Rattle.std.specs.Prelude.{sum_by, nat_lt, nat_le, nat_eq, ◌&&◌}
use Rattle.std.proofs.lemmas.Bool.{cases_lt, ltb-true, ltb-false, lt-ltb}
use Rattle.cedr_base.specs.declared.field.Field.{Field}
use Rattle.cedr_base.specs.declared.row.Row.{Row}
use Rattle.cedr_base.specs.Rows.{count_of}
use Rattle.change_laws.specs.Agreeing.{AgreeUpTo}
use Rattle.cedr_table.specs.Counted.{SameAmong}
use Rattle.cedr_table.specs.Operators.{table_at, mark_at}
use Rattle.cedr_table.proofs.FilterLemmas.{sum_by-among}
use Rattle.op_group.specs.Groups.{Grouping, key_of, same_payload, rows_of, grouped, open_from, lives_at, group_of}
use Rattle.op_group.specs.Cuts.{one_at}
use Rattle.op_group.specs.Measures.{edge_at, part_at, key_in}
use Rattle.op_group.specs.LawWords.{keyed, SameAt}
use Rattle.op_group.specs.TimeLaws.{above_test, one_elsewhere, not_valid_yet}
use Rattle.op_group.specs.FilterLaws.{sum_by-filter}
use Rattle.op_group.specs.GroupLaws.{same_at, count_alike}
use Rattle.op_group.specs.BoundLaws.{open_at, open_below, test_open, bound_within}
use Rattle.cedr_table.specs.Agreements.{KeepsAgreement}
use Rattle.change_laws.proofs.AgreeLemmas.{share, agree_back}
use Rattle.change_laws.proofs.AgreeSums.{SeesUpTo, agree_sum, shares_agree, late_share}
use Rattle.change_laws.proofs.BagSums.{sum_by-alike_there}
use Rattle.change_laws.proofs.Moves.{none_either}
use Rattle.cedr_table.proofs.PortsAgree.{RowsAgree}

-- a weight that sees rows up to a time sees those of one group so
keyed_sees : (g : Grouping) (key : List Field) (t : ℕ) (w : Row → ℕ) → SeesUpTo t w → SeesUpTo t (keyed g key w)
keyed_sees g key t w sees = record {
  late = λ x row from. none_either (same_payload key (key_of g x)) (w x) (sees.late x row from);
  early = λ x row before. ap (λ n. cond (same_payload key (key_of g x)) n 0) (sees.early x row before);
}

-- a sum over a group is the same for tables that agree up to a time
group_alike : (g : Grouping) (key : List Field) (t : ℕ) (w : Row → ℕ) (xs ys : List Row) → SeesUpTo t w → RowsAgree t xs ys → sum_by w (rows_of g key xs) ≡ sum_by w (rows_of g key ys)
group_alike g key t w xs ys sees h =
    sum_by-filter w (λ r. same_payload key (key_of g r)) xs
    ∙ (agree_sum t (keyed g key w) xs ys h.rows h.others (keyed_sees g key t w sees) h.agree
    ∙ sym (sum_by-filter w (λ r. same_payload key (key_of g r)) ys))

same_test : (end t u : ℕ) → u < t → nat_eq (min end t) u ≡ nat_eq end u
same_test end t u h = elim (cases_lt end t) [
  | inl early ↦ (let same : min end t ≡ end = omega arith in ap (λ n. nat_eq n u) same)
  | inr late ↦ above_test (min end t) u (omega arith) ∙ sym (above_test end u (omega arith))
]

still_before : (begin end t u : ℕ) → u < t → (nat_le begin u && nat_lt u (min end t)) ≡ (nat_le begin u && nat_lt u end)
still_before begin end t u h = elim (cases_lt end t) [
  | inl early ↦ (let same : min end t ≡ end = omega arith in ap (λ n. nat_le begin u && nat_lt u n) same)
  | inr late ↦ (let same : min end t ≡ t = omega arith in ap (λ n. nat_le begin u && nat_lt u n) same ∙ ap (λ b. nat_le begin u && b) (lt-ltb u t h ∙ sym (lt-ltb u end (omega arith))))
]

edges_see : (t u : ℕ) → u < t → SeesUpTo t (edge_at u)
edges_see t u h = record {
  late = λ x row from. let lives = row.lives in omega (arith, one_elsewhere x.begin u (above_test x.begin u (omega arith)), one_elsewhere x.end u (above_test x.end u (omega arith)));
  early = λ x row before. ap {B = ℕ} (λ b. one_at x.begin u + cond b 1 0) (same_test x.end t u h);
}

parts_see : (t u : ℕ) (weight : Row → ℕ) → ((x : Row) (end : ℕ) → weight (record x { end = end }) ≡ weight x) → u < t → SeesUpTo t (part_at weight u)
parts_see t u weight keeps h = record {
  late = λ x row from. ap {B = ℕ} (λ b. cond b (weight x) 0) (not_valid_yet x.begin x.end u (omega arith));
  early = λ x row before.
      ap {B = ℕ} (λ b. cond b (weight (record x { end = min x.end t })) 0) (still_before x.begin x.end t u h)
      ∙ ap (λ n. cond (lives_at u x) n 0) (keeps x (min x.end t));
}

-- before the time up to which two tables agree their groups are the same
pub same_before : (g : Grouping) (key : List Field) (t u : ℕ) (xs ys : List Row) → RowsAgree t xs ys → u < t → SameAt g key xs ys u
same_before g key t u xs ys h before = same_at g key xs ys u
    (group_alike g key t (edge_at u) xs ys (edges_see t u before) h)
    (λ w. group_alike g key t (part_at (λ (r : Row). w r.payload) u) xs ys (parts_see t u (λ (r : Row). w r.payload) (λ x end. refl) before) h)

turned : (t : ℕ) (xs ys : List Row) → RowsAgree t xs ys → RowsAgree t ys xs
turned t xs ys h = record { agree = agree_back t xs ys h.agree; rows = h.others; others = h.rows }

-- the bounds of tables that agree up to the mark are the same
pub bound_alike : (g : Grouping) (t : ℕ) (xs ys : List Row) → RowsAgree t xs ys → open_from t (grouped g xs) ≡ open_from t (grouped g ys)
bound_alike g t xs ys h =
    let there = bound_within g xs ys t (λ key u early. same_before g key t u xs ys h early) in
    let back = bound_within g ys xs t (λ key u early. same_before g key t u ys xs (turned t xs ys h) early) in
    omega arith

-- a row of the result that doesn't end before the mark doesn't begin before the bound
begins_from : (g : Grouping) (t : ℕ) (xs : List Row) (r : Row) → 0 < count_of r (grouped g xs) → t ≤ r.end → open_from t (grouped g xs) ≤ r.begin
begins_from g t xs r there within = elim (cases_lt r.begin t) [
  | inl less ↦ open_at t (grouped g xs) r there (test_open t r less within)
  | inr late ↦ (let low = open_below t (grouped g xs) in omega arith)
]

-- what a row that ends before the mark adds before the bound
abbrev ended_share : ℕ → ℕ → Row → Row → ℕ
ended_share t b q r = cond (nat_lt r.end t) (share b q r) 0

ended_at : (t b : ℕ) (q r : Row) (early : Bool) → nat_lt r.end t ≡ early → (t ≤ r.end → b ≤ r.begin) → share b q r ≡ cond early (share b q r) 0
ended_at t b q r true is late = refl
ended_at t b q r false is late = late_share b q r (late (ltb-false r.end t is))

-- the other rows add nothing before the bound
only_ended : (g : Grouping) (t b : ℕ) (q : Row) (xs : List Row) → b ≡ open_from t (grouped g xs) → sum_by (share b q) (grouped g xs) ≡ sum_by (ended_share t b q) (grouped g xs)
only_ended g t b q xs is = sum_by-alike_there (share b q) (ended_share t b q) (grouped g xs) (λ r there. ended_at t b q r (nat_lt r.end t) refl (λ within. let low = begins_from g t xs r there within in omega arith))

same_ended : (g : Grouping) (t : ℕ) (xs ys : List Row) → RowsAgree t xs ys → SameAmong (λ r. nat_lt r.end t) (grouped g xs) (grouped g ys)
same_ended g t xs ys h = record { each = λ r early. let ends = ltb-true r.end t early in count_alike g xs ys r (λ u over within. same_before g (key_in g r) t u xs ys h (omega arith)) }

-- what groups make of tables that agree up to the mark agrees up to the bound
pub grouped_agree : (g : Grouping) (t : ℕ) (xs ys : List Row) → RowsAgree t xs ys → AgreeUpTo (open_from t (grouped g xs)) (grouped g xs) (grouped g ys)
grouped_agree g t xs ys h =
    let b = open_from t (grouped g xs) in
    shares_agree b (grouped g xs) (grouped g ys)
    (λ q.
    only_ended g t b q xs refl
    ∙ (sum_by-among (λ r. nat_lt r.end t) (ended_share t b q) (grouped g xs) (grouped g ys) (same_ended g t xs ys h) (λ r late. ap {B = ℕ} (λ c. cond c (share b q r) 0) late)
    ∙ sym (only_ended g t b q ys (bound_alike g t xs ys h))))

-- groups keep agreement
pub group_keeps : (g : Grouping) → KeepsAgreement (group_of g)
group_keeps g = record {
  agree = λ tables others marks rows others_rows h. grouped_agree g (mark_at marks 0) (table_at tables 0) (table_at others 0) (record { agree = h.each 0; rows = rows.each 0; others = others_rows.each 0 });
  same_bound = λ tables others marks rows others_rows h. bound_alike g (mark_at marks 0) (table_at tables 0) (table_at others 0) (record { agree = h.each 0; rows = rows.each 0; others = others_rows.each 0 });
}
