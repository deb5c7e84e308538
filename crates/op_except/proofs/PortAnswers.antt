-- The answers of both ports, as the code gives them.
use Rattle.std.proofs.Common.{◌≡◌, ◌≢◌, ℕ, ◌+◌, ◌<◌, ◌≤◌, ◌⊎◌, inl, inr, List, [], ◌∷◌, ◌++◌, length, Bool, true, false, cond, refl, ap, sym, ◌∙◌, subst, arith}
use Rattle.std.specs.Prelude.{nat_lt, nat_eq, ◌||◌, ◌&&◌, sum_by}
use Rattle.std.specs.List.{flat_map, filter}
use Rattle.std.specs.List.Sorted.{IsStrictlySortedBy}
use Rattle.std.specs.Map.{keys_of}
use Rattle.std.specs.Ordering.{nat_cmp}
use Rattle.std.proofs.lemmas.Bool.{cases_lt, cases_eq, eq-eqb, ne_eqb, le-leb}
use Rattle.cedr_base.specs.declared.row.Row.{Row}
use Rattle.cedr_base.specs.declared.change.Change.{Change}
use Rattle.cedr_base.specs.declared.change.Change.TheVariants.{Add, Cut}
use Rattle.cedr_base.specs.Rows.{AreRows, count_of, one_if_same, SameRows}
use Rattle.cedr_base.specs.Changes.{sync_of, changed_row, puts, takes, all_takes, all_puts, remnant}
use Rattle.cedr_base.proofs.Bags.{count_of-append, count_of-cons}
use Rattle.change_laws.specs.Agreeing.{AgreeUpTo}
use Rattle.change_laws.specs.Repairs.{IsMoved, Leads}
use Rattle.change_laws.specs.Bags.{without}
use Rattle.change_laws.proofs.BagSums.{count_of-itself, sum_by-without, same_flat_map}
use Rattle.std.proofs.lemmas.List.Concat.{flat_map-append}
use Rattle.std.proofs.lemmas.List.Sums.{sum_by-cons}
use Rattle.change_laws.proofs.Moves.{applied, may_is}
use Rattle.cedr_table.specs.Operators.{Tables, table_at, with_table, CanTake, least_of}
use Rattle.cedr_table.proofs.FilterLemmas.{count-filter, sum_by-among}
use Rattle.cedr_table.proofs.RowsLemmas.{fewer_are}
use Rattle.cedr_expr.specs.declared.test.Test.{Test}
use Rattle.cedr_expr.specs.Tests.{passes}
use Rattle.cedr_expr.specs.Tags.{left_tag, right_tag}
use Rattle.filed_rows.specs.declared.filed.Filed.{Filed}
use Rattle.filed_rows.specs.Filed.{FiledRows, under, Files, right_partners}
use Rattle.filed_rows.specs.Ends.{AreEnds}
use Rattle.filed_rows.specs.Spans.{lives_within}
use Rattle.filed_rows.proofs.NoteLemmas.{under_most}
use Rattle.filed_rows.proofs.PartnerLemmas.{left_partner}
use Rattle.op_except.specs.declared.lives.Lives.{Lives}
use Rattle.op_except.specs.declared.except.Except.{Except}
use Rattle.op_except.specs.Parts.{parts, matching, excepted, all_excepted, growing_from}
use Rattle.op_except.specs.OpenLaws.{open_mark, open_at_least}
use Rattle.op_except.specs.Parts.{open_below}
use Rattle.op_except.specs.ExceptLaws.{took_agrees, stays_agrees}
use Rattle.op_except.specs.Steps.{own_at, turns_on}
use Rattle.op_except.specs.Turns.{CanTurn, HasTurned}
use Rattle.op_except.specs.Lives.{life_row, bares, lasts_to, AreLives}
use Rattle.op_except.specs.Standing.{KeptRows, IsFiled, SidesStand, KnowsLives, ExceptStands}
use Rattle.op_except.specs.Answered.{ExceptAnswered}
use Rattle.op_except.proofs.TurnLemmas.{turns_are}
use Rattle.op_except.proofs.TurnedLemmas.{CanAll, late_fewer, turned_along, turned_alike, turned_more}
use Rattle.op_except.proofs.AgreeLemmas.{agree_at}
use Rattle.op_except.proofs.AnswerLemmas.{late_change, left_stands, right_stands, left_turns, left_repairs, right_late, right_repairs, rest_moves, taken_late, taken_there, lefts_are}
use Rattle.op_except.proofs.SideLemmas.{found_beside, partners_same, partners_are, moved_lefts, life_taken, lives_moved, filed_moved, filed_rest, filed_put, rest_of, rest_same, right_follows, there_bare}

rights_are : (lefts rights : List Row) (tables : Tables) (marks : List ℕ) → KeptRows lefts rights tables marks → AreRows rights
rights_are lefts rights tables marks h = fewer_are rights (table_at tables 1) (λ r there. omega (arith, h.right.each r, count_of-append r rights h.rights_gone)) h.right_rows

module _ (tests : List Test) (lefts rights : List Row) (tables : Tables) (marks : List ℕ) (c : Change) (after : List Row) (h : KeptRows lefts rights tables marks) where
  agree_left : CanTake tables marks 0 c → IsMoved c (table_at tables 0) after → AgreeUpTo (least_of marks) (all_excepted tests tables) (all_excepted tests (with_table tables 0 after))
  agree_left can moved =
      let sizes : length tables ≡ length marks = h.table ∙ sym h.mark in
      agree_at tests (least_of marks) tables (with_table tables 0 after) (took_agrees (least_of marks) tables marks 0 c after sizes (omega arith) h.left_rows can moved) (stays_agrees (least_of marks) tables 0 1 after h.right_rows (λ e. omega arith))

  agree_right : CanTake tables marks 1 c → IsMoved c (table_at tables 1) after → AgreeUpTo (least_of marks) (all_excepted tests tables) (all_excepted tests (with_table tables 1 after))
  agree_right can moved =
      let sizes : length tables ≡ length marks = h.table ∙ sym h.mark in
      agree_at tests (least_of marks) tables (with_table tables 1 after) (stays_agrees (least_of marks) tables 1 0 after h.left_rows (λ e. omega arith)) (took_agrees (least_of marks) tables marks 1 c after sizes (omega arith) h.right_rows can moved)

module _ (op : Except) (c : Change) (t : ℕ) (outs later : List Change) where
  -- a change of port 0
  pub left_answered : (left' : Filed) (lives' : Lives) (found : List Row) → t ≡ left_tag op.width op.tests (changed_row c).payload
      → (AreRows (right_partners op.right.by_tag.entries t) → SameRows found (filter (lives_within (sync_of c) (changed_row c).end) (excepted op.tests (right_partners op.right.by_tag.entries t) (changed_row c)))) → later ≡ outs ++ flat_map (own_at c) found
      → (AreLives op.lives.by_begin.keys op.lives.by_end → ((r : Row) → 0 < count_of r (bares (takes c)) → 0 < count_of r op.lives.by_end) → AreLives lives'.by_begin.keys lives'.by_end × SameRows (lives'.by_end ++ bares (takes c)) (op.lives.by_end ++ bares (puts c)))
      → SameRows (under left'.by_tag.entries t ++ takes c) (under op.left.by_tag.entries t ++ puts c) → ((q : ℕ) → q ≢ t → under left'.by_tag.entries q ≡ under op.left.by_tag.entries q) → AreEnds left'.by_tag.entries left'.ends → IsStrictlySortedBy nat_cmp (keys_of left'.by_tag.entries)
      → (tables : Tables) (marks : List ℕ) (after : List Row) → SidesStand op tables marks → CanTake tables marks 0 c → IsMoved c (table_at tables 0) after → ExceptAnswered op.tests (record op { left = left'; lives = lives' }) tables marks 0 after outs later
  left_answered left' lives' found tag finds appended note here others ends ordered tables marks after h can moved =
      let noted = note h.lives_are (life_taken h.lefts h.rights tables marks c h.kept can op.lives.by_end h.lives) in
      let moved' = moved_lefts h.lefts h.rights tables marks c h.kept can in
      let found_is = found_beside op.tests op.width op.right h.rights h.right (changed_row c) t (lives_within (sync_of c) (changed_row c).end) found tag (finds (partners_are op.tests op.width op.right h.rights h.right t (rights_are h.lefts h.rights tables marks h.kept))) in
      let turns = left_turns op.tests h.lefts h.rights tables marks c found h.kept can found_is in
      let repairs = left_repairs op.tests h.lefts h.rights tables marks c after found h.kept can moved found_is in
      record {
        stands = record {
          lefts = applied c h.lefts;
          rights = h.rights;
          kept = left_stands h.lefts (applied c h.lefts) h.rights tables marks c after h.kept can moved' moved;
          left = filed_moved (left_tag op.width op.tests) c t op.left left' h.lefts (applied c h.lefts) tag h.left here others ends ordered moved';
          right = h.right;
          lives_are = noted.0;
          lives = lives_moved h.lefts h.rights tables marks c h.kept can op.lives.by_end lives'.by_end h.lives noted.1;
        };
        changes = flat_map (own_at c) found;
        appended = appended;
        repair = repairs;
        there = λ r. taken_there (growing_from (least_of marks) (all_excepted op.tests tables)) (all_excepted op.tests tables) (all_excepted op.tests (with_table tables 0 after)) (flat_map (own_at c) found) r repairs turns.apart;
        taken = λ r there. taken_late (growing_from (least_of marks) (all_excepted op.tests tables)) (least_of marks) (all_excepted op.tests tables) (all_excepted op.tests (with_table tables 0 after)) (flat_map (own_at c) found) r repairs turns.changes turns.apart (agree_left op.tests h.lefts h.rights tables marks c after h.kept can moved) there;
      }

-- ---- port 1
under_tag : (tag : List Rattle.cedr_base.specs.declared.field.Field.Field → ℕ) (filed : FiledRows) (rows : List Row) (t : ℕ) (a : Row) → Files tag filed rows → 0 < count_of a (under filed t) → t ≡ tag a.payload
under_tag tag filed rows t a files there = elim (cases_eq t (tag a.payload)) [
  | inl same ↦ same
  | inr other ↦ absurd (let none = files.only t a other in omega arith)
]

-- a row that doesn't pass gives the same before and after
fails_still : (tests : List Test) (c : Change) (others : List Row) (a r : Row) (pass : Bool) → passes tests a.payload (changed_row c).payload ≡ pass → pass ≡ false → count_of r (excepted tests (puts c ++ others) a) ≡ count_of r (excepted tests (takes c ++ others) a)
fails_still tests (Add b) others a r true is fails = absurd (cc)
fails_still tests (Add b) others a r false is fails = ap (λ (p : Bool). count_of r (parts a (cond p (b ∷ matching tests a others) (matching tests a others)))) is
fails_still tests (Cut b e) others a r true is fails = absurd (cc)
fails_still tests (Cut b e) others a r false is fails = put_at (nat_lt b.begin e) ∙ sym (ap (λ (p : Bool). count_of r (parts a (cond p (b ∷ matching tests a others) (matching tests a others)))) is)
  where
    put_at : (lives : Bool) → count_of r (excepted tests (cond lives (record b { end = e } ∷ []) [] ++ others) a) ≡ count_of r (excepted tests others a)
    put_at true = ap (λ (p : Bool). count_of r (parts a (cond p (record b { end = e } ∷ matching tests a others) (matching tests a others)))) is
    put_at false = refl

module _ (op : Except) (c : Change) (t : ℕ) (outs mid later : List Change) (right_mid right' : Filed)
    (tag : t ≡ right_tag op.width op.tests (changed_row c).payload)
    (here : SameRows (takes c ++ under right_mid.by_tag.entries t) (under op.right.by_tag.entries t)) (others : (q : ℕ) → q ≢ t → under right_mid.by_tag.entries q ≡ under op.right.by_tag.entries q) (ends : AreEnds right_mid.by_tag.entries right_mid.ends)
    (ordered : IsStrictlySortedBy nat_cmp (keys_of op.right.by_tag.entries) → IsStrictlySortedBy nat_cmp (keys_of right_mid.by_tag.entries))
    (first : CanAll op.tests c (right_partners right_mid.by_tag.entries t) (under op.left.by_tag.entries t) outs mid)
    (second : CanAll op.tests c (right_partners right_mid.by_tag.entries 0) (under op.left.by_tag.entries 0) mid later)
    (here' : SameRows (under right'.by_tag.entries t) (puts c ++ under right_mid.by_tag.entries t)) (others' : (q : ℕ) → q ≢ t → under right'.by_tag.entries q ≡ under right_mid.by_tag.entries q) (ends' : AreEnds right'.by_tag.entries right'.ends)
    (ordered' : IsStrictlySortedBy nat_cmp (keys_of right_mid.by_tag.entries) → IsStrictlySortedBy nat_cmp (keys_of right'.by_tag.entries))
    (tables : Tables) (marks : List ℕ) (after : List Row) (h : SidesStand op tables marks) (can : CanTake tables marks 1 c) (moved : IsMoved c (table_at tables 1) after) where
  abbrev rest : List Row
  rest = rest_of c h.rights

  abbrev bound : ℕ
  bound = growing_from (least_of marks) (all_excepted op.tests tables)

  may : Rattle.cedr_base.specs.Changes.MayFollow h.rights [] c
  may = right_follows h.lefts h.rights tables marks c h.kept can

  same : SameRows (takes c ++ rest) h.rights
  same = rest_same c h.rights may

  mid_filed : IsFiled (right_tag op.width op.tests) right_mid rest
  mid_filed = filed_rest (right_tag op.width op.tests) c t op.right right_mid h.rights tag h.right may here others ends (ordered h.right.ordered)

  new_filed : IsFiled (right_tag op.width op.tests) right' (puts c ++ rest)
  new_filed = filed_put (right_tag op.width op.tests) c t right_mid right' rest tag mid_filed here' others' ends' (ordered' mid_filed.ordered)

  rest_are : AreRows rest
  rest_are = fewer_are rest h.rights (λ r there. omega (arith, same.each r, count_of-append r (takes c) rest)) (rights_are h.lefts h.rights tables marks h.kept)

  kept_under : (k : ℕ) (r : Row) → 0 < count_of r (under op.left.by_tag.entries k) → 0 < count_of r h.lefts
  kept_under k r there = omega (arith, under_most (left_tag op.width op.tests) op.left.by_tag.entries h.lefts k r h.left.files, there)

  can_turn : (k : ℕ) → CanTurn op.tests bound c (right_partners right_mid.by_tag.entries k) rest (under op.left.by_tag.entries k)
  can_turn k = record {
    is = may_is (table_at tables 1) [] c can.legal;
    from = (let late = late_change marks 1 (sync_of c) h.kept.mark (omega arith) can.from in omega (arith, open_mark (least_of marks) (all_excepted op.tests tables)));
    rows_are = fewer_are (under op.left.by_tag.entries k) h.lefts (kept_under k) (lefts_are op.tests h.lefts h.rights tables marks h.kept);
    filed_are = partners_are op.tests op.width right_mid rest mid_filed k rest_are;
    same = λ a there. partners_same op.tests op.width right_mid rest mid_filed a k (under_tag (left_tag op.width op.tests) op.left.by_tag.entries h.lefts k a h.left.files there);
    late = late_fewer op.tests bound c rest (under op.left.by_tag.entries k) h.lefts (kept_under k) (right_late op.tests h.lefts h.rights rest tables marks c h.kept can same);
  }

  abbrev looked_at : Row → Bool
  looked_at a = nat_eq (left_tag op.width op.tests a.payload) t || nat_eq (left_tag op.width op.tests a.payload) 0

  some_tag : t ≢ 0
  some_tag e = omega (arith, e, tag)

  under_both : (r : Row) (k : ℕ) → left_tag op.width op.tests r.payload ≡ k → (k ≡ t) ⊎ (k ≢ t) → (k ≡ 0) ⊎ (k ≢ 0) → count_of r (under op.left.by_tag.entries t) + count_of r (under op.left.by_tag.entries 0) ≡ cond (nat_eq k t || nat_eq k 0) (count_of r h.lefts) 0
  under_both r k is (inl at) zero_or =
      let there = h.left.files.there r in
      let here_too : count_of r (under op.left.by_tag.entries t) ≡ count_of r h.lefts = ap (λ (n : ℕ). count_of r (under op.left.by_tag.entries n)) (sym at ∙ sym is) ∙ there in
      let none = h.left.files.only 0 r (λ e. some_tag (sym (e ∙ (is ∙ at)))) in
      omega (arith, here_too, none) ∙ sym (ap (λ (b : Bool). cond (b || nat_eq k 0) (count_of r h.lefts) 0) (eq-eqb k t at))
  under_both r k is (inr other) (inl zero_tag) =
      let there = h.left.files.there r in
      let here_too : count_of r (under op.left.by_tag.entries 0) ≡ count_of r h.lefts = ap (λ (n : ℕ). count_of r (under op.left.by_tag.entries n)) (sym zero_tag ∙ sym is) ∙ there in
      let none = h.left.files.only t r (λ e. other (sym (e ∙ is))) in
      omega (arith, here_too, none) ∙ sym (λ i. cond (ne_eqb k t other i || eq-eqb k 0 zero_tag i) (count_of r h.lefts) 0)
  under_both r k is (inr other) (inr not_zero) =
      let none = h.left.files.only t r (λ e. other (sym (e ∙ is))) in
      let none_else = h.left.files.only 0 r (λ e. not_zero (sym (e ∙ is))) in
      omega (arith, none, none_else) ∙ sym (λ i. cond (ne_eqb k t other i || ne_eqb k 0 not_zero i) (count_of r h.lefts) 0)

  looked : SameRows (under op.left.by_tag.entries t ++ under op.left.by_tag.entries 0) (filter looked_at h.lefts)
  looked = record {
    each = λ r.
        count_of-append r (under op.left.by_tag.entries t) (under op.left.by_tag.entries 0)
        ∙ (under_both r (left_tag op.width op.tests r.payload) refl (cases_eq (left_tag op.width op.tests r.payload) t) (cases_eq (left_tag op.width op.tests r.payload) 0)
        ∙ sym (count-filter r looked_at h.lefts));
  }

  not_looked : (a r : Row) (pass : Bool) → passes op.tests a.payload (changed_row c).payload ≡ pass → 0 < count_of a h.lefts → looked_at a ≡ false → pass ≡ false
  not_looked a r true is there unseen =
      let all = left_partner op.width op.tests op.left.by_tag.entries h.lefts h.left.files (changed_row c).payload a is in
      let at = ap (λ (n : ℕ). count_of a (under op.left.by_tag.entries n)) tag in
      let none = under_both a (left_tag op.width op.tests a.payload) refl (cases_eq (left_tag op.width op.tests a.payload) t) (cases_eq (left_tag op.width op.tests a.payload) 0) ∙ ap (λ (b : Bool). cond b (count_of a h.lefts) 0) unseen in
      absurd (omega (arith, all, at, none))
  not_looked a r false is there unseen = refl

  all_turned : HasTurned op.tests bound c rest h.lefts outs later
  all_turned =
      turned_more op.tests bound c rest looked_at h.lefts outs later
      (λ a r there unseen. fails_still op.tests c rest a r (passes op.tests a.payload (changed_row c).payload) refl (not_looked a r (passes op.tests a.payload (changed_row c).payload) refl there unseen))
      (turned_alike op.tests bound c rest (under op.left.by_tag.entries t ++ under op.left.by_tag.entries 0) (filter looked_at h.lefts) outs later looked
      (turned_along op.tests bound c rest (under op.left.by_tag.entries t) (under op.left.by_tag.entries 0) outs mid later (first bound rest (can_turn t)) (second bound rest (can_turn 0))))

  -- a change of port 1
  pub right_answered : ExceptAnswered op.tests (record op { right = right' }) tables marks 1 after outs later
  right_answered =
      let turned = all_turned in
      let turns = turns_are bound (turns_on c) (flat_map (excepted op.tests (takes c ++ rest)) h.lefts) (flat_map (excepted op.tests (puts c ++ rest)) h.lefts) turned.changes turned.turns in
      let repairs = right_repairs op.tests h.lefts h.rights rest tables marks c after turned.changes h.kept can moved same turned.turns in
      record {
        stands = record {
          lefts = h.lefts;
          rights = puts c ++ rest;
          kept = right_stands h.lefts h.rights (puts c ++ rest) tables marks c after h.kept can (rest_moves c rest h.rights same) moved;
          left = h.left;
          right = new_filed;
          lives_are = h.lives_are;
          lives = h.lives;
        };
        changes = turned.changes;
        appended = turned.appended;
        repair = repairs;
        there = λ r. taken_there bound (all_excepted op.tests tables) (all_excepted op.tests (with_table tables 1 after)) turned.changes r repairs turns.apart;
        taken = λ r there. taken_late bound (least_of marks) (all_excepted op.tests tables) (all_excepted op.tests (with_table tables 1 after)) turned.changes r repairs turns.changes turns.apart (agree_right op.tests h.lefts h.rights tables marks c after h.kept can moved) there;
      }

-- ---- the lives of the result
bares_most : (r : Row) (xs ys : List Row) → ((q : Row) → count_of q xs ≤ count_of q ys) → count_of r (bares xs) ≤ count_of r (bares ys)
bares_most r [] ys most = omega arith
bares_most r (x ∷ xs) ys most =
    let there : 0 < count_of x ys = (let one = most x in let self = count_of-itself x xs in omega arith) in
    let rest = bares_most r xs (without x ys) (λ q. let one = most q in omega (arith, count_of-cons q x xs, sum_by-without (one_if_same q) x ys there)) in
    omega (
      arith,
      rest,
      count_of-cons r (life_row x.begin x.end) (bares xs),
      count_of-cons r (life_row x.begin x.end) (bares (without x ys)),
      (same_flat_map (λ (q : Row). life_row q.begin q.end ∷ []) (x ∷ without x ys) ys (record { each = λ q. omega (arith, count_of-cons q x (without x ys), sum_by-without (one_if_same q) x ys there) })).each r,
    )

bares_two : (r : Row) (xs ys : List Row) → count_of r (bares (xs ++ ys)) ≡ count_of r (bares xs) + count_of r (bares ys)
bares_two r xs ys = ap (count_of r) (flat_map-append (λ (q : Row). life_row q.begin q.end ∷ []) xs ys) ∙ count_of-append r (bares xs) (bares ys)

module _ (known : Lives) (mark : ℕ) (old new : List Row) (cs : List Change) (knows : KnowsLives known mark old) (leads : Leads old cs new) (there : (r : Row) → count_of r (all_takes cs) ≤ count_of r old) (taken : (r : Row) → 0 < count_of r (all_takes cs) → mark ≤ r.end) where
  known_at : (r : Row) (b : Bool) → lasts_to mark r ≡ b → count_of r (bares (all_takes cs)) ≤ count_of r known.by_end
  known_at r true is = let most = bares_most r (all_takes cs) old there in omega (arith, knows.same.each r is)
  known_at r false is = elim (cases_lt 0 (count_of r (bares (all_takes cs)))) [
    | inr none ↦ omega arith
    | inl some ↦ (
        let one = there_bare r (all_takes cs) some in
        let late = taken one.0 one.1 in
        absurd (let at : r.end ≡ one.0.end = ap (λ (q : Row). q.end) one.2 in let yes = le-leb mark r.end (omega (arith, at)) in let wrong = sym yes ∙ is in cc))
  ]

  -- the lives of what is cut are known
  pub cuts_known : (r : Row) → count_of r (bares (all_takes cs)) ≤ count_of r known.by_end
  cuts_known r = known_at r (lasts_to mark r) refl

  -- and so are those of the new result
  pub knows_new : (known' : Lives) → AreLives known'.by_begin.keys known'.by_end → SameRows (known'.by_end ++ bares (all_takes cs)) (known.by_end ++ bares (all_puts cs)) → KnowsLives known' mark new
  knows_new known' are noted = record {
    lives_are = are;
    same = record {
      each = λ r is. omega (
        arith,
        knows.same.each r is,
        noted.each r,
        count_of-append r known'.by_end (bares (all_takes cs)),
        count_of-append r known.by_end (bares (all_puts cs)),
        (same_flat_map (λ (q : Row). life_row q.begin q.end ∷ []) (new ++ all_takes cs) (old ++ all_puts cs) leads.sums).each r,
        bares_two r new (all_takes cs),
        bares_two r old (all_puts cs),
      );
    };
  }

-- the state stands for the tables after a change
pub all_stands : (op new : Except) (parts' : Lives) (tables : Tables) (marks : List ℕ) (port : ℕ) (after : List Row) (before later items : List Change) → new.tests ≡ op.tests → new.parts ≡ op.parts → ExceptStands op tables marks → (a : ExceptAnswered op.tests new tables marks port after before later) → items ≡ a.changes
    → (AreLives new.parts.by_begin.keys new.parts.by_end → ((r : Row) → count_of r (bares (all_takes items)) ≤ count_of r new.parts.by_end) → AreLives parts'.by_begin.keys parts'.by_end × SameRows (parts'.by_end ++ bares (all_takes items)) (new.parts.by_end ++ bares (all_puts items)))
    → ExceptStands (record new { parts = parts' }) (with_table tables port after) marks
all_stands op new parts' tables marks port after before later items tests_are parts_are h a items_are note =
    let knows : KnowsLives new.parts (least_of marks) (all_excepted op.tests tables) = subst (λ (l : Lives). KnowsLives l (least_of marks) (all_excepted op.tests tables)) (sym parts_are) h.parts in
    let noted = note knows.lives_are (subst (λ (cs : List Change). (r : Row) → count_of r (bares (all_takes cs)) ≤ count_of r new.parts.by_end) (sym items_are) (cuts_known new.parts (least_of marks) (all_excepted op.tests tables) (all_excepted op.tests (with_table tables port after)) a.changes knows a.repair.leads a.there a.taken)) in
    record {
      sides = record {
        lefts = a.stands.lefts;
        rights = a.stands.rights;
        kept = a.stands.kept;
        left = a.stands.left;
        right = a.stands.right;
        lives_are = a.stands.lives_are;
        lives = a.stands.lives;
      };
      parts = subst (λ (ts : List Test). KnowsLives parts' (least_of marks) (all_excepted ts (with_table tables port after))) (sym tests_are)
          (knows_new new.parts (least_of marks) (all_excepted op.tests tables) (all_excepted op.tests (with_table tables port after)) a.changes knows a.repair.leads a.there a.taken parts' noted.0
          (subst (λ (cs : List Change). SameRows (parts'.by_end ++ bares (all_takes cs)) (new.parts.by_end ++ bares (all_puts cs))) items_are noted.1));
    }

-- ---- the bound
bare_sum : (mark k : ℕ) (rows : List Row) → sum_by (open_below mark k) (bares rows) ≡ sum_by (open_below mark k) rows
bare_sum mark k [] = refl
bare_sum mark k (x ∷ rows) = omega (arith, sum_by-cons (open_below mark k) (life_row x.begin x.end) (bares rows), sum_by-cons (open_below mark k) x rows, bare_sum mark k rows)

shut : (mark k : ℕ) (r : Row) → lasts_to mark r ≡ false → open_below mark k r ≡ 0
shut mark k r is = ap {B = ℕ} (λ b. cond ((nat_lt r.begin mark && b) && nat_lt r.begin k) 1 0) is ∙ none (nat_lt r.begin mark)
  where
    none : (c : Bool) → cond {A = ℕ} ((c && false) && nat_lt r.begin k) 1 0 ≡ 0
    none true = refl
    none false = refl

-- the known lives say the bound
pub open_known : (known : Lives) (mark : ℕ) (rows : List Row) → KnowsLives known mark rows → growing_from mark known.by_end ≡ growing_from mark rows
open_known known mark rows h =
    let sums : (k : ℕ) → sum_by (open_below mark k) known.by_end ≡ sum_by (open_below mark k) rows = λ k. sum_by-among (lasts_to mark) (open_below mark k) known.by_end (bares rows) h.same (λ o fails. shut mark k o fails) ∙ bare_sum mark k rows in
    omega (arith, open_at_least mark known.by_end rows sums, open_at_least mark rows known.by_end (λ k. sym (sums k)))

pub second_port : (tables : Tables) (marks : List ℕ) (port : ℕ) (c : Change) → length tables ≡ 2 → (port ≡ 0 → ⊥) → CanTake tables marks port c → port ≡ 1
second_port tables marks port c two other can = let within = can.port_is in elim (cases_lt 0 port) [ inl more ↦ omega arith | inr none ↦ absurd (other (omega arith)) ]
