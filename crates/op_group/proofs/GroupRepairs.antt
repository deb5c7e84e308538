-- A change of one group repairs the result of all.
use Rattle.std.proofs.Common.{◌≡◌, ℕ, ◌+◌, ◌<◌, ◌≤◌, inl, inr, List, [], Bool, true, false, cond, refl, ap, sym, ◌∙◌, arith}
use Rattle.std.specs.Prelude.{sum_by}
use Rattle.std.proofs.lemmas.Bool.{cases_lt}
use Rattle.cedr_base.specs.declared.field.Field.{Field}
use Rattle.cedr_base.specs.declared.row.Row.{Row}
use Rattle.cedr_base.specs.declared.change.Change.{Change}
use Rattle.cedr_base.specs.declared.change.Change.TheVariants.{Add, Cut}
use Rattle.cedr_base.specs.Rows.{IsRow, AreRows, one_if_same, count_of}
use Rattle.cedr_base.specs.Changes.{IsChange, sync_of, puts, takes, MayFollow, changed_row}
use Rattle.cedr_base.proofs.Bags.{count_of-append, one_of_itself}
use Rattle.change_laws.specs.Repairs.{IsMoved, Repair}
use Rattle.change_laws.proofs.BagSums.{sum_by-without}
use Rattle.change_laws.proofs.Moves.{sum_by-moved, remnant_some, remnant_none}
use Rattle.change_laws.proofs.RepairLemmas.{repair_by_turns}
use Rattle.op_group.specs.declared.segment.Segment.{Segment}
use Rattle.op_group.specs.Groups.{Grouping, key_of, same_payload, rows_of, segments, grouped, open_from}
use Rattle.op_group.specs.Cuts.{differences}
use Rattle.op_group.specs.Measures.{edge_at, part_at, is_cut_of, key_in, IsGroupRow}
use Rattle.op_group.specs.FilterLaws.{sum_by-filter}
use Rattle.op_group.specs.SegmentLaws.{segments_are, segment_fits}
use Rattle.op_group.specs.PayloadLaws.{payload_exact, payload_itself}
use Rattle.op_group.specs.KeyLaws.{fits_key}
use Rattle.op_group.specs.GroupLaws.{grouped_count, made_from_there, there_from_made, same_at, count_alike}
use Rattle.op_group.specs.LawWords.{Untouched, keyed, SameAt}
use Rattle.op_group.specs.BoundLaws.{open_below, open_at, test_open, was_open, same_outside, untouched_sums}
use Rattle.op_group.specs.State.{ShowsFrom, grouping_asked, Turned}
use Rattle.op_group.specs.StateLaws.{from_alike}
use Rattle.cedr_table.proofs.RowsLemmas.{fewer_are, moved_are}
use Rattle.op_group.proofs.Turning.{edges_are_times}
use Rattle.op_group.proofs.Differences.{differences_turn}

-- the rows of a group are rows
pub rows_of_are : (g : Grouping) (key : List Field) (rows : List Row) → AreRows rows → AreRows (rows_of g key rows)
rows_of_are g key rows are = fewer_are (rows_of g key rows) rows (λ r there. omega (arith, there, sum_by-filter (one_if_same r) (λ x. same_payload key (key_of g x)) rows, fewer r rows)) are
  where
    fewer_at : (r x : Row) (b : Bool) → cond b (one_if_same r x) 0 ≤ one_if_same r x
    fewer_at r x true = omega arith
    fewer_at r x false = omega arith

    fewer : (r : Row) (xs : List Row) → sum_by (λ x. cond (same_payload key (key_of g x)) (one_if_same r x) 0) xs ≤ count_of r xs
    fewer r xs = Rattle.std.proofs.lemmas.List.Sums.sum_by-le-sum_by (λ x. cond (same_payload key (key_of g x)) (one_if_same r x) 0) (one_if_same r) xs (λ x. fewer_at r x (same_payload key (key_of g x)))

-- each row of a change has the same key
keyed_one : (g : Grouping) (key : List Field) (w : Row → ℕ) (c : Change) → same_payload key (key_of g (changed_row c)) ≡ true → (sum_by (keyed g key w) (takes c) ≡ sum_by w (takes c)) × (sum_by (keyed g key w) (puts c) ≡ sum_by w (puts c))
keyed_one g key w (Add a) same = (refl, omega (arith, ap (λ b. cond b (w a) 0) same))
keyed_one g key w (Cut a e) same = (
  omega (arith, ap (λ b. cond b (w a) 0) same),
  elim (cases_lt a.begin e) [
    | inl lives ↦ omega (arith, ap (sum_by (keyed g key w)) (remnant_some a e lives), ap (sum_by w) (remnant_some a e lives), ap (λ b. cond b (w (record a { end = e })) 0) same)
    | inr gone ↦ omega (arith, ap (sum_by (keyed g key w)) (remnant_none a e gone), ap (sum_by w) (remnant_none a e gone))
  ],
)

-- a change of a table changes its row's group
pub group_moves : (g : Grouping) (key : List Field) (c : Change) (old new : List Row) → same_payload key (key_of g (changed_row c)) ≡ true → IsMoved c old new → IsMoved c (rows_of g key old) (rows_of g key new)
group_moves g key c old new same moved = record {
  sums = record {
    each = λ r.
        let one = keyed_one g key (one_if_same r) c same in
        omega (
          arith,
          count_of-append r (rows_of g key new) (takes c),
          count_of-append r (rows_of g key old) (puts c),
          sum_by-filter (one_if_same r) (λ x. same_payload key (key_of g x)) new,
          sum_by-filter (one_if_same r) (λ x. same_payload key (key_of g x)) old,
          sum_by-moved (keyed g key (one_if_same r)) c old new moved.sums,
          one.0,
          one.1,
        );
  };
}

-- and what may follow in the table may follow in the group
pub group_follows : (g : Grouping) (key : List Field) (c : Change) (old : List Row) → same_payload key (key_of g (changed_row c)) ≡ true → MayFollow old [] c → MayFollow (rows_of g key old) [] c
group_follows g key (Add a) old same may = may
group_follows g key (Cut a e) old same may =
    let there : 0 < count_of a old = let h = may.1 in omega arith in
    (may.0, (let one = sum_by-without (keyed g key (one_if_same a)) a old there in omega (arith, one, sum_by-filter (one_if_same a) (λ x. same_payload key (key_of g x)) old, ap (λ b. cond b (one_if_same a a) 0) same, one_of_itself a)))

-- a change doesn't touch the other groups
other_untouched : (g : Grouping) (key : List Field) (w : Row → ℕ) (c : Change) → same_payload key (key_of g (changed_row c)) ≡ false → Untouched (keyed g key w) c
other_untouched g key w (Add a) other = ap (λ b. cond b (w a) 0) other
other_untouched g key w (Cut a e) other = (λ lives. ap (λ b. cond b (w a) 0) other ∙ sym (ap (λ b. cond b (w (record a { end = e })) 0) other), λ gone. ap (λ b. cond b (w a) 0) other)

pub other_sum : (g : Grouping) (key : List Field) (w : Row → ℕ) (c : Change) (old new : List Row) → same_payload key (key_of g (changed_row c)) ≡ false → IsMoved c old new → sum_by w (rows_of g key old) ≡ sum_by w (rows_of g key new)
other_sum g key w c old new other moved = omega (
  arith,
  sum_by-filter w (λ x. same_payload key (key_of g x)) old,
  sum_by-filter w (λ x. same_payload key (key_of g x)) new,
  sum_by-moved (keyed g key w) c old new moved.sums,
  untouched_sums (keyed g key w) c (other_untouched g key w c other),
)

-- a change leaves each group of another key the same at each time
pub other_same : (g : Grouping) (key : List Field) (c : Change) (old new : List Row) (t : ℕ) → same_payload key (key_of g (changed_row c)) ≡ false → IsMoved c old new → SameAt g key old new t
other_same g key c old new t other moved = same_at g key old new t (other_sum g key (edge_at t) c old new other moved) (λ w. other_sum g key (part_at (λ (r : Row). w r.payload) t) c old new other moved)

-- a map that shows another group goes on showing it
pub other_shows : (g : Grouping) (key : List Field) (c : Change) (old new : List Row) (mark from : ℕ) (cuts : List (ℕ × Segment)) → same_payload key (key_of g (changed_row c)) ≡ false → IsMoved c old new → ShowsFrom g.totalled mark from cuts (rows_of g key old) → ShowsFrom g.totalled mark from cuts (rows_of g key new)
other_shows g key c old new mark from cuts other moved shows = from_alike g.totalled mark from cuts (rows_of g key old) (rows_of g key new)
    (λ t. (other_same g key c old new t other moved).edges) (λ t. (other_same g key c old new t other moved).living) (λ t. (other_same g key c old new t other moved).totals) shows

segments_asked : (g : Grouping) (key : List Field) (rows : List Row) → segments (grouping_asked g.counted g.totalled) key rows ≡ segments g key rows
segments_asked g key rows = segments_are (grouping_asked g.counted g.totalled) key rows ∙ sym (segments_are g key rows)

-- a row of a result is there once
one_made : (g : Grouping) (rows : List Row) (r : Row) → count_of r (grouped g rows) ≤ 1
one_made g rows r = elim (cases_lt 0 (count_of r (grouped g rows))) [
  | inl there ↦ omega (arith, there_from_made g rows r (made_from_there g rows r there))
  | inr none ↦ omega arith
]

-- and is a row
pub made_is_row : (g : Grouping) (rows : List Row) (r : Row) → AreRows rows → IsGroupRow g rows r → IsRow r
made_is_row g rows r are made =
    let order = made.order in
    let time = edges_are_times (rows_of g (key_in g r) rows) r.end (rows_of_are g (key_in g r) rows are) made.ends in
    record { lives = order; begins = omega arith; ends = time }

module _ (g : Grouping) (key : List Field) (c : Change) (old new : List Row) (mark : ℕ) (olds news : List Row)
    (own : key ≡ key_of g (changed_row c)) (is : IsChange c) (moved : IsMoved c old new) (from : mark ≤ sync_of c) (old_rows : AreRows old)
    (turned : Turned g.counted g.totalled key (rows_of g key old) (rows_of g key new) olds news) where
  new_rows : AreRows new
  new_rows = moved_are c old new is moved old_rows

  shows_key : (rows : List Row) (r : Row) → 0 < count_of r (segments (grouping_asked g.counted g.totalled) key (rows_of g key rows)) → key_in g r ≡ key
  shows_key rows r there = fits_key g key rows (is_cut_of (rows_of g key rows)) r (segment_fits (grouping_asked g.counted g.totalled) key (rows_of g key rows) r there)

  -- what one group makes is what all make, at its rows
  own_count : (rows : List Row) (r : Row) → key_in g r ≡ key → count_of r (segments (grouping_asked g.counted g.totalled) key (rows_of g key rows)) ≡ count_of r (grouped g rows)
  own_count rows r same =
      ap (count_of r) (segments_asked g key (rows_of g key rows))
      ∙ (ap (λ k. count_of r (segments g k (rows_of g k rows))) (sym same)
      ∙ sym (grouped_count g rows r))

  old_key : (r : Row) → 0 < count_of r olds → key_in g r ≡ key
  old_key r there = shows_key old r (omega (arith, there, turned.some_old r))

  new_key : (r : Row) → 0 < count_of r news → key_in g r ≡ key
  new_key r there = shows_key new r (omega (arith, there, turned.some_new r))

  sums_at : (r : Row) (b : Bool) → same_payload (key_in g r) key ≡ b → count_of r (grouped g new) + count_of r olds ≡ count_of r (grouped g old) + count_of r news
  sums_at r true h =
      let same = payload_exact (key_in g r) key h in
      omega (arith, turned.others r, own_count old r same, own_count new r same)
  sums_at r false h =
      let apart : key_in g r ≡ key → ⊥ = λ e. let k : true ≡ false = sym (payload_itself (key_in g r)) ∙ (ap (same_payload (key_in g r)) e ∙ h) in cc in
      let other : same_payload (key_in g r) (key_of g (changed_row c)) ≡ false = ap (same_payload (key_in g r)) (sym own) ∙ h in
      let none : count_of r olds ≡ 0 = elim (cases_lt 0 (count_of r olds)) [ inl there ↦ absurd (apart (old_key r there)) | inr gone ↦ omega arith ] in
      let nothing : count_of r news ≡ 0 = elim (cases_lt 0 (count_of r news)) [ inl there ↦ absurd (apart (new_key r there)) | inr gone ↦ omega arith ] in
      omega (arith, none, nothing, count_alike g old new r (λ t over under. other_same g (key_in g r) c old new t other moved))

  sums_all : (r : Row) → count_of r (grouped g new) + count_of r olds ≡ count_of r (grouped g old) + count_of r news
  sums_all r = sums_at r (same_payload (key_in g r) key) refl

  part_old : (r : Row) → count_of r olds ≤ count_of r (grouped g old)
  part_old r = elim (cases_lt 0 (count_of r olds)) [
    | inl there ↦ omega (arith, turned.some_old r, own_count old r (old_key r there))
    | inr none ↦ omega arith
  ]

  part_new : (r : Row) → count_of r news ≤ count_of r (grouped g new)
  part_new r = elim (cases_lt 0 (count_of r news)) [
    | inl there ↦ omega (arith, turned.some_new r, own_count new r (new_key r there))
    | inr none ↦ omega arith
  ]

  -- a row that ends before the mark is made of both tables or of none
  early_same : (r : Row) → r.end < mark → count_of r (grouped g old) ≡ count_of r (grouped g new)
  early_same r early = count_alike g old new r (λ t over under. same_outside g (key_in g r) c old new t is moved (inl (omega arith)))

  -- no row that goes begins before the bound
  goes_from : (r : Row) → 0 < count_of r olds → count_of r news ≡ 0 → open_from mark (grouped g old) ≤ r.begin
  goes_from r there none = elim (cases_lt r.begin mark) [
    | inr late ↦ omega (arith, open_below mark (grouped g old))
    | inl less ↦ elim (cases_lt r.end mark) [
      | inl early ↦ absurd (omega (arith, early_same r early, sums_all r, part_old r, one_made g old r, there, none))
      | inr within ↦ open_at mark (grouped g old) r (omega (arith, part_old r, there)) (test_open mark r less within)
    ]
  ]

  -- no row that comes begins before it
  comes_from : (r : Row) → 0 < count_of r news → count_of r olds ≡ 0 → open_from mark (grouped g old) ≤ r.begin
  comes_from r there none = elim (cases_lt r.begin mark) [
    | inr late ↦ omega (arith, open_below mark (grouped g old))
    | inl less ↦ elim (cases_lt r.end mark) [
      | inl early ↦ absurd (omega (arith, early_same r early, sums_all r, part_new r, one_made g new r, there, none))
      | inr within ↦
          let was = was_open g c old new mark r is moved from (made_from_there g new r (omega (arith, part_new r, there))) less within in
          let begins = was.begins in
          omega (arith, begins, open_at mark (grouped g old) was.row was.there (test_open mark was.row (omega arith) was.within))
    ]
  ]

  -- the difference between one group's rows repairs the result
  pub group_repairs : Repair (grouped g old) (grouped g new) (open_from mark (grouped g old)) (differences olds news)
  group_repairs = repair_by_turns (grouped g old) (grouped g new) olds news (open_from mark (grouped g old)) (differences olds news)
      (differences_turn (open_from mark (grouped g old)) olds news
      (record { each = λ r there. made_is_row g old r old_rows (made_from_there g old r (omega (arith, part_old r, there))) })
      (record { each = λ r there. made_is_row g new r new_rows (made_from_there g new r (omega (arith, part_new r, there))) })
      (λ r. omega (arith, part_old r, one_made g old r))
      (λ r. omega (arith, part_new r, one_made g new r))
      goes_from comes_from)
      sums_all part_old
