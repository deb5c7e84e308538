-- What the groups hold at a mark may be held.
use Rattle.std.proofs.Common.{◌≡◌, ℕ, zero, suc, ◌<◌, ◌≤◌, ◌⊎◌, inl, inr, List, [], ◌∷◌, Bool, true, false, cond, Some, refl, ap, sym, ◌∙◌, subst, arith}
use Rattle.std.specs.Prelude.{nat_eq, nat_lt, nat_le, ◌&&◌, ◌||◌, is_some}
use Rattle.std.specs.List.{AllByRecursion, count_by}
use Rattle.std.specs.List.Sorted.{IsStrictlySortedBy}
use Rattle.std.specs.Map.{lookup, keys_of}
use Rattle.std.specs.BTreeMap.{BTreeMap, is_at}
use Rattle.std.specs.Ordering.{is_eq}
use Rattle.std.specs.declared.cmp.Ordering.TheVariants.{Less}
use Rattle.std.proofs.lemmas.Bool.{cases_lt, lt-ltb}
use Rattle.std.proofs.lemmas.Bool.Decides.{nat_tests}
use Rattle.cedr_base.specs.declared.time.TheConstants.{FOREVER}
use Rattle.cedr_base.specs.declared.field.Field.{Field}
use Rattle.cedr_base.specs.declared.row.Row.{Row}
use Rattle.cedr_base.specs.Order.{payload_cmp}
use Rattle.cedr_base.specs.Rows.{count_of, one_if_same}
use Rattle.cedr_base.proofs.Bags.{count_of-append, count_of-cons, one_if_same_exact}
use Rattle.cedr_table.specs.Operators.{Tables, table_at, mark_at, OnlyHolds}
use Rattle.op_group.specs.declared.segment.Segment.{Segment}
use Rattle.op_group.specs.declared.points.CutPoint.{CutPoint}
use Rattle.op_group.specs.Groups.{Grouping, same_payload, rows_of, group_of, may_be_held, field_may_be_held, lives_at}
use Rattle.op_group.specs.declared.bags.Bags.{Bags}
use Rattle.op_group.specs.Cuts.{segment_at}
use Rattle.op_group.specs.Measures.{Ascends, AllAbove, living_of}
use Rattle.op_group.specs.Points.{has_point, NoneBefore}
use Rattle.op_group.specs.PayloadLaws.{payload_exact, payload_itself}
use Rattle.op_group.specs.State.{KeepsGroups, KeepsFields, IsPassed, cuts_of, entries_of}
use Rattle.op_group.specs.Held.{first_cut, cut_rows, group_rows, bag_rows, group_held}
use Rattle.op_group.proofs.HeldFields.{field_may}
use Rattle.op_group.specs.TimeLaws.{false_not_true}
use Rattle.op_group.proofs.Regions.{times_of, times_ascend, head_found, tail_found}
use Rattle.op_group.proofs.SinceLemmas.{there_from_some}

-- a row goes from one cut point to the next
record IsCutRow (key : List Field) (cuts : List (ℕ × Segment)) (r : Row) : Type 0 where
  payload_is : r.payload ≡ key
  begins : is_some (segment_at r.begin cuts) ≡ true
  ends : (r.end ≡ FOREVER) ⊎ ((r.begin < r.end) × (is_some (segment_at r.end cuts) ≡ true))

-- what is in the tail is in the whole
in_tail : (p : ℕ) (s : Segment) (cuts : List (ℕ × Segment)) (t : ℕ) → AllAbove p (times_of cuts) → is_some (segment_at t cuts) ≡ true → is_some (segment_at t ((p, s) ∷ cuts)) ≡ true
in_tail p s cuts t above some =
    let found = there_from_some (segment_at t cuts) some in
    ap (λ o. is_some o) (tail_found t p found.segment s cuts above found.is)

first_row : (key : List Field) (p : ℕ) (s : Segment) (cuts : List (ℕ × Segment)) (r : Row) → Ascends (p ∷ times_of cuts) → r ≡ record { end = first_cut cuts; begin = p; payload = key } → IsCutRow key ((p, s) ∷ cuts) r
first_row key p s [] r up is =
    let begin : r.begin ≡ p = ap (λ (x : Row). x.begin) is in
    record {
      payload_is = ap (λ (x : Row). x.payload) is;
      begins = ap (λ t. is_some (segment_at t ((p, s) ∷ []))) begin ∙ ap (λ o. is_some o) (head_found p s []);
      ends = inl (ap (λ (x : Row). x.end) is);
    }
first_row key p s ((q, s') ∷ cuts) r up is =
    let begin : r.begin ≡ p = ap (λ (x : Row). x.begin) is in
    let end : r.end ≡ q = ap (λ (x : Row). x.end) is in
    let less : p < q = up.0.0 in
    record {
      payload_is = ap (λ (x : Row). x.payload) is;
      begins = ap (λ t. is_some (segment_at t ((p, s) ∷ (q, s') ∷ cuts))) begin ∙ ap (λ o. is_some o) (head_found p s ((q, s') ∷ cuts));
      ends = inr (omega arith, ap (λ t. is_some (segment_at t ((p, s) ∷ (q, s') ∷ cuts))) end ∙ in_tail p s ((q, s') ∷ cuts) q up.0 (ap (λ o. is_some o) (head_found q s' cuts)));
    }

later_row : (key : List Field) (p : ℕ) (s : Segment) (cuts : List (ℕ × Segment)) (r : Row) → AllAbove p (times_of cuts) → IsCutRow key cuts r → IsCutRow key ((p, s) ∷ cuts) r
later_row key p s cuts r above row = record {
  payload_is = row.payload_is;
  begins = in_tail p s cuts r.begin above row.begins;
  ends = elim row.ends [ inl last ↦ inl last | inr next ↦ inr (next.0, in_tail p s cuts r.end above next.1) ];
}

-- the rows of a group's cut points
cut_row_is : (key : List Field) (cuts : List (ℕ × Segment)) (r : Row) → Ascends (times_of cuts) → 0 < count_of r (cut_rows key cuts) → IsCutRow key cuts r
cut_row_is key [] r up there = absurd (omega arith)
cut_row_is key ((p, s) ∷ cuts) r up there = elim (cases_lt 0 (one_if_same r (record { end = first_cut cuts; begin = p; payload = key }))) [
  | inl here ↦ first_row key p s cuts r up (one_if_same_exact r (record { end = first_cut cuts; begin = p; payload = key }) here)
  | inr not_here ↦ later_row key p s cuts r up.0 (cut_row_is key cuts r up.1 (omega (arith, there, not_here, count_of-cons r (record { end = first_cut cuts; begin = p; payload = key }) (cut_rows key cuts))))
]

-- a row of a group's cut points
record IsOfGroup (groups : List (List Field × BTreeMap ℕ Segment)) (r : Row) : Type 0 where
  key : List Field
  there : 0 < count_of r (cut_rows key (cuts_of groups key))

none_beyond : (key : List Field) (groups : List (List Field × BTreeMap ℕ Segment)) → AllByRecursion (λ y. payload_cmp key y ≡ Less) (keys_of groups) → cuts_of groups key ≡ []
none_beyond key [] h = refl
none_beyond key (group ∷ groups) h = ap (λ o. entries_of (cond (is_eq o) (Some group.1) (lookup (is_at (payload_cmp key)) groups))) h.0 ∙ none_beyond key groups h.1

in_later : (group : List Field × BTreeMap ℕ Segment) (groups : List (List Field × BTreeMap ℕ Segment)) (key : List Field) (r : Row) (b : Bool) → same_payload key group.0 ≡ b → AllByRecursion (λ y. payload_cmp group.0 y ≡ Less) (keys_of groups) → 0 < count_of r (cut_rows key (cuts_of groups key))
    → 0 < count_of r (cut_rows key (entries_of (cond b (Some group.1) (lookup (is_at (payload_cmp key)) groups))))
in_later group groups key r true is above there =
    let none : cuts_of groups key ≡ [] = ap (cuts_of groups) (payload_exact key group.0 is) ∙ none_beyond group.0 groups above in
    absurd (omega (arith, there, ap (λ cs. count_of r (cut_rows key cs)) none))
in_later group groups key r false is above there = there

-- the rows of all groups' cut points
of_group : (groups : List (List Field × BTreeMap ℕ Segment)) (r : Row) → IsStrictlySortedBy payload_cmp (keys_of groups) → 0 < count_of r (group_rows groups) → IsOfGroup groups r
unfolding IsStrictlySortedBy
of_group [] r sorted there = absurd (omega arith)
of_group (group ∷ groups) r sorted there = elim (cases_lt 0 (count_of r (cut_rows group.0 group.1.entries))) [
  | inl here ↦
      let own : cuts_of (group ∷ groups) group.0 ≡ group.1.entries = ap (λ b. entries_of (cond b (Some group.1) (lookup (is_at (payload_cmp group.0)) groups))) (payload_itself group.0) in
      record { key = group.0; there = subst (λ cs. 0 < count_of r (cut_rows group.0 cs)) (sym own) here }
  | inr not_here ↦
      let later = of_group groups r sorted.1 (omega (arith, there, not_here, count_of-append r (cut_rows group.0 group.1.entries) (group_rows groups))) in
      record { key = later.key; there = in_later group groups later.key r (same_payload later.key group.0) refl sorted.0 later.there }
]

le_true : (m n : ℕ) → m ≤ n → nat_le m n ≡ true
le_true m n h = grind (arith, nat_tests)

may_at : (late in_time lives : Bool) → (late ≡ true) ⊎ ((in_time ≡ true) × (lives ≡ true)) → (late || (in_time && lives)) ≡ true
may_at true in_time lives h = refl
may_at false in_time lives (inl h) = cc
may_at false in_time lives (inr h) = ap (λ b. b && lives) h.0 ∙ h.1

module _ (g : Grouping) (groups : List (List Field × BTreeMap ℕ Segment)) (all due : List CutPoint) (rows : List Row) (mark : ℕ) (keeps : KeepsGroups g groups all due rows mark) (passed : NoneBefore due mark) (time : mark ≤ FOREVER) where
  -- a cut point before the mark was passed
  is_passed : (t : ℕ) (key : List Field) → t < mark → is_some (segment_at t (cuts_of groups key)) ≡ true → IsPassed g groups rows mark t key
  is_passed t key early there = keeps.passed t key (keeps.entered t key ∙ there) (gone (has_point due t key) refl) where
    gone : (b : Bool) → has_point due t key ≡ b → b ≡ false
    gone true is = let late = passed t key is in absurd (omega arith)
    gone false is = refl

  ends_late : (key : List Field) (r : Row) → r.begin < mark → IsCutRow key (cuts_of groups key) r → mark ≤ r.end
  ends_late key r early row = elim row.ends [
    | inl last ↦ omega (arith, last, time)
    | inr next ↦ elim (cases_lt r.end mark) [
      | inr late ↦ late
      | inl before ↦
          let gone : is_some (segment_at r.begin (cuts_of groups key)) ≡ false = ap (λ o. is_some o) ((is_passed r.end key before next.1).first r.begin next.0) in
          absurd (false_not_true (is_some (segment_at r.begin (cuts_of groups key))) gone row.begins)
    ]
  ]

  pub may_hold : (r : Row) → 0 < count_of r (group_rows groups) → may_be_held g rows mark r ≡ true
  may_hold r there =
      let of = of_group groups r keeps.sorted there in
      let row = cut_row_is of.key (cuts_of groups of.key) r (times_ascend (cuts_of groups of.key) (keeps.ordered of.key)) of.there in
      may_at (nat_le mark r.begin) (nat_le mark r.end) (nat_lt 0 (count_by (lives_at r.begin) (rows_of g r.payload rows)))
      (elim (cases_lt r.begin mark) [
        | inr late ↦ inl (le_true mark r.begin late)
        | inl early ↦ inr (
          le_true mark r.end (ends_late of.key r early row),
          subst (λ k. nat_lt 0 (count_by (lives_at r.begin) (rows_of g k rows)) ≡ true) (sym row.payload_is) (lt-ltb 0 (living_of (rows_of g of.key rows) r.begin) (is_passed r.begin of.key early row.begins).lives),
        )
      ])

or_left : (b c : Bool) → b ≡ true → (b || c) ≡ true
or_left true c h = refl
or_left false c h = cc

or_right : (b c : Bool) → c ≡ true → (b || c) ≡ true
or_right true c h = refl
or_right false c h = h

-- all that is held may be held
pub only_holds : (g : Grouping) (groups : List (List Field × BTreeMap ℕ Segment)) (all due : List CutPoint) (bags : Bags) (tables : Tables) (marks : List ℕ) → KeepsGroups g groups all due (table_at tables 0) (mark_at marks 0) → KeepsFields g bags due (table_at tables 0) (mark_at marks 0)
    → NoneBefore due (mark_at marks 0) → mark_at marks 0 ≤ FOREVER → OnlyHolds (group_of g) tables marks (group_held groups bags.all.entries)
only_holds g groups all due bags tables marks keeps fields passed time = record { each = each_at } where
  each_at : (port : ℕ) (r : Row) → 0 < count_of r (table_at (group_held groups bags.all.entries) port) → (nat_eq port 0 && (may_be_held g (table_at tables 0) (mark_at marks 0) r || field_may_be_held g (table_at tables 0) (mark_at marks 0) r)) ≡ true
  each_at zero r there = elim (cases_lt 0 (count_of r (group_rows groups))) [
    | inl here ↦ or_left (may_be_held g (table_at tables 0) (mark_at marks 0) r) (field_may_be_held g (table_at tables 0) (mark_at marks 0) r) (may_hold g groups all due (table_at tables 0) (mark_at marks 0) keeps passed time r here)
    | inr not_here ↦ or_right (may_be_held g (table_at tables 0) (mark_at marks 0) r) (field_may_be_held g (table_at tables 0) (mark_at marks 0) r)
        (field_may g bags due (table_at tables 0) (mark_at marks 0) fields passed r (omega (arith, there, not_here, count_of-append r (group_rows groups) (bag_rows bags.all.entries))))
  ]
  each_at (suc port) r there = absurd (omega arith)

le_from : (m n : ℕ) → nat_le m n ≡ true → m ≤ n
le_from m n h = grind (arith, nat_tests)

ends_at : (begin end mark : ℕ) (late in_time lives : Bool) → nat_le mark begin ≡ late → nat_le mark end ≡ in_time → (late || (in_time && lives)) ≡ true → begin < end → mark ≤ end
ends_at begin end mark true in_time lives is ends h less = let low = le_from mark begin is in omega arith
ends_at begin end mark false true lives is ends h less = le_from mark end ends
ends_at begin end mark false false lives is ends h less = cc

-- a row that may be held doesn't end before the mark
pub held_ends : (g : Grouping) (rows : List Row) (mark : ℕ) (r : Row) → may_be_held g rows mark r ≡ true → r.begin < r.end → mark ≤ r.end
held_ends g rows mark r h less = ends_at r.begin r.end mark (nat_le mark r.begin) (nat_le mark r.end) (nat_lt 0 (count_by (lives_at r.begin) (rows_of g r.payload rows))) refl refl h less
