-- The groups after a change of one of them.
use Rattle.std.proofs.Common.{◌≡◌, ℕ, ◌<◌, ◌≤◌, inl, List, [], ◌∷◌, Bool, true, false, cond, None, length, refl, ap, sym, ◌∙◌, subst, arith}
use Rattle.std.specs.Prelude.{nat_eq, nat_lt, is_some, ◌&&◌, ◌||◌, nat_le, Option, Some}
use Rattle.std.specs.List.Sorted.{IsStrictlySortedBy}
use Rattle.std.specs.Map.{keys_of}
use Rattle.std.specs.BTreeMap.{BTreeMap}
use Rattle.std.specs.Ordering.{nat_cmp}
use Rattle.cedr_base.specs.declared.field.Field.{Field}
use Rattle.cedr_base.specs.declared.row.Row.{Row}
use Rattle.cedr_base.specs.declared.change.Change.{Change}
use Rattle.cedr_base.specs.declared.change.Change.TheVariants.{Add, Cut}
use Rattle.cedr_base.specs.Changes.{IsChange, MayFollow, sync_of, changed_row}
use Rattle.cedr_base.specs.Rows.{AreRows}
use Rattle.change_laws.specs.Repairs.{IsMoved}
use Rattle.change_laws.proofs.Moves.{may_is}
use Rattle.cedr_table.proofs.RowsLemmas.{moved_are}
use Rattle.op_group.specs.declared.segment.Segment.{Segment}
use Rattle.op_group.specs.declared.points.CutPoint.{CutPoint}
use Rattle.cedr_living.specs.declared.living.LivingFields.{LivingFields}
use Rattle.cedr_living.specs.Bags.{KeepsLives}
use Rattle.op_group.specs.Bags.{lives_of}
use Rattle.op_group.specs.Groups.{Grouping, key_of, same_payload, rows_of}
use Rattle.op_group.specs.Cuts.{segment_at}
use Rattle.op_group.specs.declared.points.Touched.{Touched}
use Rattle.op_group.specs.Points.{has_point, Had, Follows}
use Rattle.op_group.specs.Cuts.{one_at}
use Rattle.op_group.specs.Measures.{edge_at, edges_of}
use Rattle.op_group.specs.TimeLaws.{above_test, one_elsewhere, false_not_true}
use Rattle.op_group.specs.LawWords.{last_time, Untouched}
use Rattle.op_group.specs.BoundLaws.{untouched_sums, same_outside}
use Rattle.cedr_base.specs.Order.{payload_cmp}
use Rattle.change_laws.proofs.Moves.{sum_by-moved}
use Rattle.op_group.proofs.SinceLemmas.{cut_since}
use Rattle.op_group.specs.PayloadLaws.{payload_exact, payload_itself}
use Rattle.op_group.specs.State.{ShowsFrom, ShowsRows, KeepsGroups, NoneEmpty, IsPassed, AnswersGroup, cuts_of}
use Rattle.op_group.proofs.GroupRepairs.{group_moves, group_follows, rows_of_are, other_shows}

-- the last time that a change touches is the end of its row
pub last_row : (c : Change) → (changed_row c).end ≡ last_time c
last_row (Add r) = refl
last_row (Cut r e) = refl

-- a list of cut points of length 0 is empty
pub nil_from_length : (cuts : List (ℕ × Segment)) → length cuts ≡ 0 → cuts ≡ []
nil_from_length [] h = refl
nil_from_length (e ∷ cuts) h = absurd (omega arith)

empty_at : (groups : List (List Field × BTreeMap ℕ Segment)) (key other : List Field) (cuts : List (ℕ × Segment)) (b : Bool) → same_payload key other ≡ b → cuts ≡ [] → cuts_of groups key ≡ [] → cuts_of groups other ≡ cond b cuts (cuts_of groups other)
empty_at groups key other cuts true h none gone = ap (cuts_of groups) (sym (payload_exact key other h)) ∙ (gone ∙ sym none)
empty_at groups key other cuts false h none gone = refl

-- a group without cut points needs no place
pub empty_put : (groups : List (List Field × BTreeMap ℕ Segment)) (key other : List Field) (cuts : List (ℕ × Segment)) → cuts ≡ [] → cuts_of groups key ≡ [] → cuts_of groups other ≡ cond (same_payload key other) cuts (cuts_of groups other)
empty_put groups key other cuts none gone = empty_at groups key other cuts (same_payload key other) refl none gone

-- a test of two payloads is the same the other way round, where it fails
pub turned_test : (key other : List Field) (b : Bool) → same_payload other key ≡ b → same_payload key other ≡ false → b ≡ false
turned_test key other true h k = let same = payload_exact other key h in let e : true ≡ false = sym (payload_itself key) ∙ (ap (same_payload key) (sym same) ∙ k) in cc
turned_test key other false h k = refl

edges_elsewhere : (t : ℕ) (c : Change) → IsChange c → nat_eq (sync_of c) t ≡ false → nat_eq (last_time c) t ≡ false → Untouched (edge_at t) c
edges_elsewhere t (Add a) is first last = omega (arith, one_elsewhere a.begin t first, one_elsewhere a.end t last)
edges_elsewhere t (Cut a e) is first last =
    let low = is.1 in (
      λ lives. omega (arith, one_elsewhere e t first, one_elsewhere a.end t last),
      λ gone. let same : a.begin ≡ e = omega arith in omega (arith, ap (λ n. one_at n t) same, one_elsewhere e t first, one_elsewhere a.end t last),
    )

-- at other times than the two that a change touches no begin and no end comes or goes
same_edges : (c : Change) (old new : List Row) (t : ℕ) → IsChange c → IsMoved c old new → nat_eq (sync_of c) t ≡ false → nat_eq (last_time c) t ≡ false → edges_of old t ≡ edges_of new t
same_edges c old new t is moved first last = omega (arith, sum_by-moved (edge_at t) c old new moved.sums, untouched_sums (edge_at t) c (edges_elsewhere t c is first last))

-- a change is seen before the last time that it touches
pub seen_before : (c : Change) → IsChange c → sync_of c < last_time c
seen_before (Add a) is = is.lives
seen_before (Cut a e) is = is.2

-- where nothing is, there is nothing
pub none_from : (o : Option Segment) → is_some o ≡ false → o ≡ None
none_from None h = refl
none_from (Some s) h = cc

follow_true : (q x d a d' a' : Bool) → d' ≡ cond q x d → a' ≡ cond q x a → (d ≡ true → a ≡ true) → d' ≡ true → a' ≡ true
follow_true true x d a d' a' e f h k = f ∙ (sym e ∙ k)
follow_true false x d a d' a' e f h k = f ∙ h (sym e ∙ k)

-- a set has a cut point that another lacks only where neither follows the change
pub follow_apart : (q x d a d' a' : Bool) → d' ≡ cond q x d → a' ≡ cond q x a → a' ≡ true → d' ≡ false → (a ≡ true) × (d ≡ false)
follow_apart true x d a d' a' e f h k = absurd (false_not_true a' (f ∙ (sym e ∙ k)) h)
follow_apart false x d a d' a' e f h k = (sym f ∙ h, sym e ∙ k)

module _ (key : List Field) (before between after : List (List Field × BTreeMap ℕ Segment)) (cuts cuts' : List (ℕ × Segment))
    (out : cuts ≡ cuts_of before key)
    (without_it : (other : List Field) → cuts_of between other ≡ cond (same_payload key other) [] (cuts_of before other))
    (back : (other : List Field) → cuts_of after other ≡ cond (same_payload key other) cuts' (cuts_of between other)) where
  other_at : (other : List Field) → same_payload key other ≡ false → cuts_of after other ≡ cuts_of before other
  other_at other h = back other ∙ (ap (λ b. cond b cuts' (cuts_of between other)) h ∙ (without_it other ∙ ap (λ b. cond b [] (cuts_of before other)) h))

  own_at : (other : List Field) → same_payload key other ≡ true → cuts_of after other ≡ cuts'
  own_at other h = back other ∙ ap (λ b. cond b cuts' (cuts_of between other)) h

  module _ (g : Grouping) (c : Change) (old new : List Row) (mark : ℕ) (all all' due due' : List CutPoint)
      (own : key ≡ key_of g (changed_row c)) (may : MayFollow old [] c) (moved : IsMoved c old new) (late : mark ≤ sync_of c)
      (living : LivingFields) (kept : KeepsLives living (lives_of g.totalled (rows_of g key new))) (low : living.from ≤ sync_of c)
      (change : (xs ys : List Row) (m from : ℕ) → ShowsFrom g.totalled m from cuts xs → KeepsLives living (lives_of g.totalled ys) → living.from ≤ sync_of c → MayFollow xs [] c → IsMoved c xs ys → m ≤ sync_of c → ShowsFrom g.totalled m from cuts' ys)
      (follows_all : Follows all all' key cuts' (sync_of c) (last_time c)) (follows_due : Follows due due' key cuts' (sync_of c) (last_time c))
      (keeps : KeepsGroups g before all due old mark) where
    is : IsChange c
    is = may_is old [] c may

    own_test : same_payload key (key_of g (changed_row c)) ≡ true
    own_test = ap (same_payload key) (sym own) ∙ payload_itself key

    group_moved : IsMoved c (rows_of g key old) (rows_of g key new)
    group_moved = group_moves g key c old new own_test moved

    from : ℕ
    from = (keeps.shown key).from

    shown_old : ShowsFrom g.totalled mark (keeps.shown key).from cuts (rows_of g key old)
    shown_old = subst (λ cs. ShowsFrom g.totalled mark (keeps.shown key).from cs (rows_of g key old)) (sym out) (keeps.shown key).shown

    shown_new : ShowsFrom g.totalled mark (keeps.shown key).from cuts' (rows_of g key new)
    shown_new = change (rows_of g key old) (rows_of g key new) mark (keeps.shown key).from shown_old kept low (group_follows g key c old own_test may) group_moved late

    shown_at : (other : List Field) (b : Bool) → same_payload key other ≡ b → ShowsRows g.totalled mark (cuts_of after other) (rows_of g other new)
    shown_at other true h = record {
      from = (keeps.shown key).from;
      shown = subst (λ cs. ShowsFrom g.totalled mark (keeps.shown key).from cs (rows_of g other new)) (sym (own_at other h)) (subst (λ k. ShowsFrom g.totalled mark (keeps.shown key).from cuts' (rows_of g k new)) (payload_exact key other h) shown_new);
    }
    shown_at other false h =
        let apart : same_payload other (key_of g (changed_row c)) ≡ false = ap (same_payload other) (sym own) ∙ turned_test key other (same_payload other key) refl h in
        record {
          from = (keeps.shown other).from;
          shown = subst (λ cs. ShowsFrom g.totalled mark (keeps.shown other).from cs (rows_of g other new)) (sym (other_at other h)) (other_shows g other c old new mark (keeps.shown other).from (cuts_of before other) apart moved (keeps.shown other).shown);
        }

    -- at other times than the two that the change touches the group has the same cut points
    same_cut : (t : ℕ) → nat_eq (sync_of c) t ≡ false → nat_eq (last_time c) t ≡ false → is_some (segment_at t cuts') ≡ is_some (segment_at t cuts)
    same_cut t first last =
        cut_since g.totalled mark (keeps.shown key).from cuts' (rows_of g key new) t shown_new
        ∙ (ap (λ n. nat_lt 0 (cond (nat_le (keeps.shown key).from t) n 0)) (sym (same_edges c (rows_of g key old) (rows_of g key new) t is group_moved first last))
        ∙ sym (cut_since g.totalled mark (keeps.shown key).from cuts (rows_of g key old) t shown_old))

    entered_at : (t : ℕ) (other : List Field) (f l d : Bool) → nat_eq (sync_of c) t ≡ f → nat_eq (last_time c) t ≡ l → same_payload key other ≡ d → has_point all' t other ≡ cond ((f || l) && d) (is_some (segment_at t cuts')) (has_point all t other) → has_point all' t other ≡ is_some (segment_at t (cuts_of after other))
    entered_at t other true l true first last h e = e ∙ ap (λ cs. is_some (segment_at t cs)) (sym (own_at other h))
    entered_at t other true l false first last h e = e ∙ (keeps.entered t other ∙ ap (λ cs. is_some (segment_at t cs)) (sym (other_at other h)))
    entered_at t other false true true first last h e = e ∙ ap (λ cs. is_some (segment_at t cs)) (sym (own_at other h))
    entered_at t other false true false first last h e = e ∙ (keeps.entered t other ∙ ap (λ cs. is_some (segment_at t cs)) (sym (other_at other h)))
    entered_at t other false false true first last h e =
        e ∙ (keeps.entered t other
        ∙ (ap (λ k. is_some (segment_at t (cuts_of before k))) (sym (payload_exact key other h))
        ∙ (ap (λ cs. is_some (segment_at t cs)) (sym out)
        ∙ (sym (same_cut t first last)
        ∙ ap (λ cs. is_some (segment_at t cs)) (sym (own_at other h))))))
    entered_at t other false false false first last h e = e ∙ (keeps.entered t other ∙ ap (λ cs. is_some (segment_at t cs)) (sym (other_at other h)))

    -- before the mark no cut point of a group comes
    none_at : (u : ℕ) (other : List Field) (d : Bool) → same_payload key other ≡ d → u < mark → segment_at u (cuts_of before other) ≡ None → segment_at u (cuts_of after other) ≡ None
    none_at u other true h early none =
        let seen = seen_before c is in
        let gone : is_some (segment_at u cuts) ≡ false = ap (λ cs. is_some (segment_at u cs)) (out ∙ ap (cuts_of before) (payload_exact key other h)) ∙ ap (λ o. is_some o) none in
        ap (segment_at u) (own_at other h) ∙ none_from (segment_at u cuts') (same_cut u (above_test (sync_of c) u (omega arith)) (above_test (last_time c) u (omega arith)) ∙ gone)
    none_at u other false h early none = ap (segment_at u) (other_at other h) ∙ none

    still_passed : (t : ℕ) (other : List Field) → IsPassed g before old mark t other → IsPassed g after new mark t other
    still_passed t other passed =
        let past = passed.past in
        record {
          past = past;
          first = λ u under. none_at u other (same_payload key other) refl (omega arith) (passed.first u under);
          lives = subst (λ (n : ℕ). 0 < n) (same_outside g other c old new t is moved (inl (omega arith))).living passed.lives;
        }

    -- the groups keep the new rows
    pub keeps_after : IsStrictlySortedBy payload_cmp (keys_of after) → (NoneEmpty before → NoneEmpty after) → IsStrictlySortedBy nat_cmp (keys_of cuts') → KeepsGroups g after all' due' new mark
    keeps_after sorted some_cuts new_ordered = record {
      sorted = sorted;
      ordered = λ other. ordered_at other (same_payload key other) refl;
      some_cuts = some_cuts keeps.some_cuts;
      shown = λ other. shown_at other (same_payload key other) refl;
      entered = λ t other. entered_at t other (nat_eq (sync_of c) t) (nat_eq (last_time c) t) (same_payload key other) refl refl refl (follows_all t other);
      still = λ t other. follow_true ((nat_eq (sync_of c) t || nat_eq (last_time c) t) && same_payload key other) (is_some (segment_at t cuts')) (has_point due t other) (has_point all t other) (has_point due' t other) (has_point all' t other) (follows_due t other) (follows_all t other) (keeps.still t other);
      passed = λ t other there gone.
          let both = follow_apart ((nat_eq (sync_of c) t || nat_eq (last_time c) t) && same_payload key other) (is_some (segment_at t cuts')) (has_point due t other) (has_point all t other) (has_point due' t other) (has_point all' t other) (follows_due t other) (follows_all t other) there gone in
          still_passed t other (keeps.passed t other both.0 both.1);
    }
      where
        ordered_at : (other : List Field) (b : Bool) → same_payload key other ≡ b → IsStrictlySortedBy nat_cmp (keys_of (cuts_of after other))
        ordered_at other true h = subst (λ cs. IsStrictlySortedBy nat_cmp (keys_of cs)) (sym (own_at other h)) new_ordered
        ordered_at other false h = subst (λ cs. IsStrictlySortedBy nat_cmp (keys_of cs)) (sym (other_at other h)) (keeps.ordered other)

-- the group's answer, from the whole table
pub own_answers : (key : List Field) (before : List (List Field × BTreeMap ℕ Segment)) (cuts : List (ℕ × Segment)) → cuts ≡ cuts_of before key → (g : Grouping) (c : Change) (old new : List Row) (mark : ℕ) (all due : List CutPoint) (outs outs' : List Change) → key ≡ key_of g (changed_row c)
    → (living : LivingFields) → KeepsLives living (lives_of g.totalled (rows_of g key new)) → living.from ≤ sync_of c
    → ((xs ys : List Row) (m from : ℕ) → ShowsFrom g.totalled m from cuts xs → KeepsLives living (lives_of g.totalled ys) → living.from ≤ sync_of c → MayFollow xs [] c → IsMoved c xs ys → m ≤ sync_of c → AreRows xs → AreRows ys → AnswersGroup g.counted g.totalled key xs ys outs outs')
    → KeepsGroups g before all due old mark → MayFollow old [] c → IsMoved c old new → mark ≤ sync_of c → AreRows old → AnswersGroup g.counted g.totalled (key_of g (changed_row c)) (rows_of g (key_of g (changed_row c)) old) (rows_of g (key_of g (changed_row c)) new) outs outs'
own_answers key before cuts out g c old new mark all due outs outs' own living kept low answers keeps may moved late are =
    let test : same_payload key (key_of g (changed_row c)) ≡ true = ap (same_payload key) (sym own) ∙ payload_itself key in
    subst (λ k. AnswersGroup g.counted g.totalled k (rows_of g k old) (rows_of g k new) outs outs') own
    (answers (rows_of g key old) (rows_of g key new) mark (keeps.shown key).from (subst (λ cs. ShowsFrom g.totalled mark (keeps.shown key).from cs (rows_of g key old)) (sym out) (keeps.shown key).shown) kept low (group_follows g key c old test may) (group_moves g key c old new test moved) late
    (rows_of_are g key old are) (rows_of_are g key new (moved_are c old new (may_is old [] c may) moved are)))

module _ (g : Grouping) (groups : List (List Field × BTreeMap ℕ Segment)) (all due : List CutPoint) (rows : List Row) (mark : ℕ) (key : List Field) (cuts : List (ℕ × Segment))
    (keeps : KeepsGroups g groups all due rows mark) (out : cuts ≡ cuts_of groups key) where
  all_at : (t : ℕ) (was : Bool) → was ≡ is_some (segment_at t cuts) → has_point all t key ≡ was
  all_at t was is = keeps.entered t key ∙ (ap (λ cs. is_some (segment_at t cs)) (sym out) ∙ sym is)

  due_at : (t : ℕ) (b d : Bool) → mark ≤ t → has_point all t key ≡ b → has_point due t key ≡ d → has_point due t key ≡ b
  due_at t true true late there is = is
  due_at t false true late there is = absurd (false_not_true (has_point all t key) there (keeps.still t key is))
  due_at t true false late there is = let past = (keeps.passed t key there is).past in absurd (omega arith)
  due_at t false false late there is = is

  -- the set of all cut points had those of a group at two times as the group's map had them
  pub all_had : (first last : ℕ) (was : Touched) → was.first ≡ is_some (segment_at first cuts) → was.last ≡ is_some (segment_at last cuts) → Had all key first last was
  all_had first last was one two = (all_at first was.first one, all_at last was.last two)

  -- and so, from the mark on, had the set of those that no mark has passed
  pub due_had : (first last : ℕ) (was : Touched) → mark ≤ first → first < last → was.first ≡ is_some (segment_at first cuts) → was.last ≡ is_some (segment_at last cuts) → Had due key first last was
  due_had first last was late ascend one two = (
    due_at first was.first _ late (all_at first was.first one) refl,
    due_at last was.last _ (omega arith) (all_at last was.last two) refl,
  )

-- a set follows a change at its two times
pub follows_change : (old new : List CutPoint) (key : List Field) (cuts : List (ℕ × Segment)) (c : Change) (first : ℕ) (r : Row) → first ≡ sync_of c → r ≡ changed_row c → Follows old new key cuts first r.end → Follows old new key cuts (sync_of c) (last_time c)
follows_change old new key cuts c first r e f h =
    let end : r.end ≡ last_time c = ap (λ (x : Row). x.end) f ∙ last_row c in
    subst (λ (n : ℕ). Follows old new key cuts n (last_time c)) e (subst (λ (n : ℕ). Follows old new key cuts first n) end h)
