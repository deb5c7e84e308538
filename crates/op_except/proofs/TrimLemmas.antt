-- The state that stands for empty tables, what it is filed anew at, and what is left of it when it is trimmed.
use Rattle.std.proofs.Common.{◌≡◌, ℕ, zero, suc, ◌+◌, ◌<◌, ◌≤◌, ◌⊎◌, inl, inr, List, [], ◌∷◌, ◌++◌, length, Bool, true, false, cond, not, refl, ap, sym, ◌∙◌, subst, arith}
use Rattle.std.specs.Prelude.{nat_lt, nat_le, ◌&&◌, ◌||◌}
use Rattle.std.specs.List.{filter, list_any}
use Rattle.std.specs.List.Sorted.{IsStrictlySortedBy}
use Rattle.std.specs.Map.{keys_of}
use Rattle.std.specs.Ordering.{nat_cmp}
use Rattle.std.proofs.lemmas.Bool.{cases_lt, ltb-true, ltb-false, lt-ltb, leb-true, le-leb, eq-eqb}
use Rattle.std.proofs.lemmas.Bool.Decides.{nat_tests}
use Rattle.cedr_base.specs.declared.field.Field.{Field}
use Rattle.cedr_base.specs.declared.row.Row.{Row}
use Rattle.cedr_base.specs.Rows.{count_of, AreRows, SameRows}
use Rattle.cedr_base.proofs.Bags.{count_of-append, count_of-cons, one_if_same_exact}
use Rattle.change_laws.proofs.BagSums.{same_itself}
use Rattle.cedr_table.specs.Operators.{Tables, table_at, least_of, AllRise, OnlyHolds}
use Rattle.cedr_table.specs.PortLaws.{rise_length, least_rises}
use Rattle.cedr_table.specs.Counted.{SameAmong, ends_after}
use Rattle.cedr_table.proofs.FilterLemmas.{count-filter, count-rest, filtered_same, among_same, among_along, among_filter}
use Rattle.cedr_expr.specs.Tags.{left_tag, right_tag}
use Rattle.filed_rows.specs.declared.filed.Filed.{Filed}
use Rattle.filed_rows.specs.Filed.{under, all_under, Files}
use Rattle.filed_rows.specs.Ends.{AreEnds}
use Rattle.filed_rows.proofs.NoteLemmas.{all_same, none_filed, filed_anew}
use Rattle.filed_rows.proofs.FiledLemmas.{files_alike}
use Rattle.op_except.specs.declared.lives.Lives.{Lives}
use Rattle.op_except.specs.declared.except.Except.{Except}
use Rattle.op_except.specs.Parts.{meets, is_life_of, all_excepted, except_holds, except_of}
use Rattle.op_except.specs.ExceptLaws.{lives_later, reaches_later}
use Rattle.op_except.specs.Lives.{life_row, bares, lasts_to, AreLives, IsEarliest}
use Rattle.op_except.specs.Standing.{KeptRows, IsFiled, SidesStand, KnowsLives, ExceptStands}
use Rattle.op_except.proofs.SideLemmas.{life_there, there_bare}

no_rows : AreRows []
no_rows = record { each = λ r there. absurd (omega arith) }

none_kept : KeptRows [] [] ([] ∷ [] ∷ []) (0 ∷ 0 ∷ [])
none_kept = record {
  table = refl;
  mark = refl;
  lefts_gone = [];
  rights_gone = [];
  left = same_itself [];
  right = same_itself [];
  left_rows = no_rows;
  right_rows = no_rows;
  lefts_ended = λ r there. absurd (omega arith);
  rights_ended = λ r there. absurd (omega arith);
  apart = λ a b there gone. absurd (omega arith);
}

filed_none : (tag : List Field → ℕ) (filed : Filed) → AreEnds filed.by_tag.entries filed.ends → ((q : ℕ) → under filed.by_tag.entries q ≡ []) → IsStrictlySortedBy nat_cmp (keys_of filed.by_tag.entries) → IsFiled tag filed []
filed_none tag filed ends none ordered = record { files = none_filed tag filed.by_tag.entries none; ends = ends; ordered = ordered }

-- what has no row stands for empty tables
pub stands_first : (op : Except) → AreEnds op.left.by_tag.entries op.left.ends → ((q : ℕ) → under op.left.by_tag.entries q ≡ []) → IsStrictlySortedBy nat_cmp (keys_of op.left.by_tag.entries)
    → AreEnds op.right.by_tag.entries op.right.ends → ((q : ℕ) → under op.right.by_tag.entries q ≡ []) → IsStrictlySortedBy nat_cmp (keys_of op.right.by_tag.entries)
    → AreLives op.lives.by_begin.keys op.lives.by_end → op.lives.by_end ≡ [] → AreLives op.parts.by_begin.keys op.parts.by_end → op.parts.by_end ≡ [] → ExceptStands op ([] ∷ [] ∷ []) (0 ∷ 0 ∷ [])
stands_first op left_ends left_none left_ordered right_ends right_none right_ordered lives_are no_lives parts_are no_parts = record {
  sides = record {
    lefts = [];
    rights = [];
    kept = none_kept;
    left = filed_none (left_tag op.width op.tests) op.left left_ends left_none left_ordered;
    right = filed_none (right_tag op.width op.tests) op.right right_ends right_none right_ordered;
    lives_are = lives_are;
    lives = record { each = λ r. ap (count_of r) no_lives };
  };
  parts = record { lives_are = parts_are; same = record { each = λ r is. ap (count_of r) no_parts } };
}

-- where no row of port 0 is filed, those of port 1 may be filed anew
pub sides_settled : (op : Except) (width : ℕ) (filed : Filed) (tables : Tables) (marks : List ℕ) → length op.left.by_tag.entries ≡ 0 → Files (right_tag width op.tests) filed.by_tag.entries (all_under op.right.by_tag.entries)
    → AreEnds filed.by_tag.entries filed.ends → IsStrictlySortedBy nat_cmp (keys_of filed.by_tag.entries) → SidesStand op tables marks → SidesStand (record op { width = width; right = filed }) tables marks
sides_settled op width filed tables marks empty files ends ordered h = record {
  lefts = h.lefts;
  rights = h.rights;
  kept = h.kept;
  left = record { files = filed_anew (left_tag op.width op.tests) (left_tag width op.tests) op.left.by_tag.entries h.lefts empty h.left.files; ends = h.left.ends; ordered = h.left.ordered };
  right = record {
    files = files_alike (right_tag width op.tests) filed.by_tag.entries (all_under op.right.by_tag.entries) h.rights (all_same (right_tag op.width op.tests) op.right.by_tag.entries h.rights h.right.ordered h.right.files) files;
    ends = ends;
    ordered = ordered;
  };
  lives_are = h.lives_are;
  lives = h.lives;
}

-- ---- trimming
cond_zero : (b : Bool) → cond {A = ℕ} b 0 0 ≡ 0
cond_zero true = refl
cond_zero false = refl

filed_left : (tag : List Field → ℕ) (p : Row → Bool) (filed filed' : Filed) (rows : List Row) → IsFiled tag filed rows → ((q : ℕ) → SameRows (under filed'.by_tag.entries q) (filter p (under filed.by_tag.entries q))) → AreEnds filed'.by_tag.entries filed'.ends
    → IsStrictlySortedBy nat_cmp (keys_of filed'.by_tag.entries) → IsFiled tag filed' (filter p rows)
filed_left tag p filed filed' rows h left ends ordered = record {
  files = record {
    there = λ r. (left (tag r.payload)).each r ∙ (count-filter r p (under filed.by_tag.entries (tag r.payload)) ∙ (ap (λ n. cond (p r) n 0) (h.files.there r) ∙ sym (count-filter r p rows)));
    only = λ q r apart. (left q).each r ∙ (count-filter r p (under filed.by_tag.entries q) ∙ (ap (λ n. cond (p r) n 0) (h.files.only q r apart) ∙ cond_zero (p r)));
  };
  ends = ends;
  ordered = ordered;
}

bares_at : (mark : ℕ) (x : Row) (xs : List Row) (ys : List Row) (b : Bool) → filter (lasts_to mark) (bares xs) ≡ bares ys → cond b (life_row x.begin x.end ∷ filter (lasts_to mark) (bares xs)) (filter (lasts_to mark) (bares xs)) ≡ bares (cond b (x ∷ ys) ys)
bares_at mark x xs ys true is = ap (λ (rows : List Row). life_row x.begin x.end ∷ rows) is
bares_at mark x xs ys false is = is

bares_filter : (mark : ℕ) (rows : List Row) → filter (lasts_to mark) (bares rows) ≡ bares (filter (lasts_to mark) rows)
bares_filter mark [] = refl
bares_filter mark (x ∷ rows) = bares_at mark x rows (filter (lasts_to mark) rows) (lasts_to mark x) (bares_filter mark rows)

stays_count : (p : Row → Bool) (r : Row) (xs : List Row) → count_of r (filter p xs) + count_of r (filter (λ x. not (p x)) xs) ≡ count_of r xs
stays_count p r xs = pick (p r) (count_of r xs) (count_of r (filter p xs)) (count_of r (filter (λ x. not (p x)) xs)) (count-filter r p xs) (count-rest r p xs)
  where
    pick : (b : Bool) (n k m : ℕ) → k ≡ cond b n 0 → m ≡ cond b 0 n → k + m ≡ n
    pick true n k m h j = omega (arith, h, j)
    pick false n k m h j = omega (arith, h, j)

went_away : (p : Row → Bool) (r : Row) (xs : List Row) → 0 < count_of r (filter (λ x. not (p x)) xs) → p r ≡ false
went_away p r xs there = pick (p r) refl (count_of r (filter (λ x. not (p x)) xs)) (count-rest r p xs) there
  where
    pick : (b : Bool) → p r ≡ b → (m : ℕ) → m ≡ cond b 0 (count_of r xs) → 0 < m → p r ≡ false
    pick true is m h some = absurd (omega (arith, h))
    pick false is m h some = is

stayed : (p : Row → Bool) (r : Row) (xs : List Row) → 0 < count_of r (filter p xs) → (p r ≡ true) × (0 < count_of r xs)
stayed p r xs there = pick (p r) refl (count_of r (filter p xs)) (count-filter r p xs) there
  where
    pick : (b : Bool) → p r ≡ b → (m : ℕ) → m ≡ cond b (count_of r xs) 0 → 0 < m → (p r ≡ true) × (0 < count_of r xs)
    pick true is m h some = (is, omega (arith, h))
    pick false is m h some = absurd (omega (arith, h))

joined_same : (p : Row → Bool) (kept gone table : List Row) → SameRows (kept ++ gone) table → SameRows (filter p kept ++ (gone ++ filter (λ x. not (p x)) kept)) table
joined_same p kept gone table same = record {
  each = λ r. omega (arith, same.each r, count_of-append r kept gone, count_of-append r (filter p kept) (gone ++ filter (λ x. not (p x)) kept), count_of-append r gone (filter (λ x. not (p x)) kept), stays_count p r kept);
}

not_reached : (mark : ℕ) (r : Row) → lasts_to mark r ≡ false → r.end < mark
not_reached mark r is = elim (cases_lt r.end mark) [ inl less ↦ less | inr over ↦ absurd (let yes = le-leb mark r.end over in let wrong = sym yes ∙ is in cc) ]

any_at : (p : Row → Bool) (x y : Row) (ys : List Row) (b : Bool) → p y ≡ b → p x ≡ true → 0 < count_of x (y ∷ ys) → (0 < count_of x ys → list_any p ys ≡ true) → (b || list_any p ys) ≡ true
any_at p x y ys true is h there rest = refl
any_at p x y ys false is h there rest = elim (cases_lt 0 (count_of x ys)) [
  | inl more ↦ rest more
  | inr over ↦ absurd (let same = ap p (one_if_same_exact x y (omega (arith, count_of-cons x y ys))) in let wrong = sym h ∙ (same ∙ is) in cc)
]

any_there : (p : Row → Bool) (x : Row) (ys : List Row) → p x ≡ true → 0 < count_of x ys → list_any p ys ≡ true
any_there p x [] h there = absurd (omega arith)
any_there p x (y ∷ ys) h there = any_at p x y ys (p y) refl h there (any_there p x ys h)

-- a life that is left of those that are known doesn't end before the mark, and is that of a row
pub lives_may : (known known' : Lives) (rows : List Row) (before least : ℕ) → before ≤ least → KnowsLives known before rows → SameRows known'.by_end (filter (lasts_to least) known.by_end)
    → (r : Row) → 0 < count_of r known'.by_end → (nat_le least r.end && list_any (is_life_of r) rows) ≡ true
lives_may known known' rows before least rise knows left r there =
    let both = stayed (lasts_to least) r known.by_end (omega (arith, left.each r, there)) in
    let known_there = both.1 in
    let same = knows.same.each r (reaches_later before least r rise both.0) in
    let of = there_bare r rows (omega (arith, same, known_there)) in
    let begins = eq-eqb r.begin of.0.begin (ap (λ (x : Row). x.begin) of.2) in
    let ends = eq-eqb r.end of.0.end (ap (λ (x : Row). x.end) of.2) in
    let its = any_there (is_life_of r) of.0 rows (λ i. begins i && ends i) of.1 in
    (λ i. both.0 i && its i)

module _ (op : Except) (left' right' : Filed) (lives' parts' : Lives) (tables : Tables) (earlier marks : List ℕ) (least first : ℕ) (rise : AllRise earlier marks) (is : least ≡ least_of marks) (h : SidesStand op tables earlier)
    (left_rows : (q : ℕ) → SameRows (under left'.by_tag.entries q) (filter (lasts_to least) (under op.left.by_tag.entries q))) (left_ends : AreEnds left'.by_tag.entries left'.ends) (left_ordered : IsStrictlySortedBy nat_cmp (keys_of left'.by_tag.entries))
    (right_rows : (q : ℕ) → SameRows (under right'.by_tag.entries q) (filter (ends_after first) (under op.right.by_tag.entries q))) (right_ends : AreEnds right'.by_tag.entries right'.ends) (right_ordered : IsStrictlySortedBy nat_cmp (keys_of right'.by_tag.entries))
    (lives_are : AreLives lives'.by_begin.keys lives'.by_end) (lives_left : SameRows lives'.by_end (filter (lasts_to least) op.lives.by_end)) (earliest : IsEarliest lives'.by_end least first) where
  abbrev lefts' : List Row
  lefts' = filter (lasts_to least) h.lefts

  abbrev rights' : List Row
  rights' = filter (ends_after first) h.rights

  lives_same : SameRows lives'.by_end (bares (filter (lasts_to least) h.lefts))
  lives_same = record {
    each = λ r. lives_left.each r ∙ ((filtered_same (lasts_to least) op.lives.by_end (bares h.lefts) (among_same (lasts_to least) op.lives.by_end (bares h.lefts) h.lives)).each r ∙ ap (count_of r) (bares_filter least h.lefts));
  }

  -- no kept row of port 0 begins before what is forgotten of port 1 has ended
  begins_later : (a : Row) → 0 < count_of a (filter (lasts_to least) h.lefts) → first ≤ a.begin
  begins_later a there = earliest.first (life_row a.begin a.end) (omega (arith, lives_same.each (life_row a.begin a.end), life_there a (filter (lasts_to least) h.lefts) there))

  rises : least_of earlier ≤ least_of marks
  rises = least_rises earlier marks rise

  kept_trimmed : KeptRows (filter (lasts_to least) h.lefts) (filter (ends_after first) h.rights) tables marks
  kept_trimmed = record {
    table = h.kept.table;
    mark = rise_length earlier marks rise ∙ h.kept.mark;
    lefts_gone = h.kept.lefts_gone ++ filter (λ x. not (lasts_to least x)) h.lefts;
    rights_gone = h.kept.rights_gone ++ filter (λ x. not (ends_after first x)) h.rights;
    left = joined_same (lasts_to least) h.lefts h.kept.lefts_gone (table_at tables 0) h.kept.left;
    right = joined_same (ends_after first) h.rights h.kept.rights_gone (table_at tables 1) h.kept.right;
    left_rows = h.kept.left_rows;
    right_rows = h.kept.right_rows;
    lefts_ended = λ r there. elim (cases_lt 0 (count_of r h.kept.lefts_gone)) [
      | inl was ↦ (let ended = h.kept.lefts_ended r was in omega (arith, rises))
      | inr none ↦ (let ended = not_reached least r (went_away (lasts_to least) r h.lefts (omega (arith, count_of-append r h.kept.lefts_gone (filter (λ x. not (lasts_to least x)) h.lefts)))) in omega (arith, is))
    ];
    rights_ended = λ r there. elim (cases_lt 0 (count_of r h.kept.rights_gone)) [
      | inl was ↦ (let ended = h.kept.rights_ended r was in omega (arith, rises))
      | inr none ↦ (let ended = ltb-false first r.end (went_away (ends_after first) r h.rights (omega (arith, count_of-append r h.kept.rights_gone (filter (λ x. not (ends_after first x)) h.rights)))) in let below = earliest.below in omega (arith, is))
    ];
    apart = λ a b there gone. elim (cases_lt 0 (count_of b h.kept.rights_gone)) [
      | inl was ↦ h.kept.apart a b (stayed (lasts_to least) a h.lefts there).1 was
      | inr none ↦ (
          let ended = ltb-false first b.end (went_away (ends_after first) b h.rights (omega (arith, count_of-append b h.kept.rights_gone (filter (λ x. not (ends_after first x)) h.rights)))) in
          let later = begins_later a there in
          inr (omega arith))
    ];
  }

  left_filed : IsFiled (left_tag op.width op.tests) left' (filter (lasts_to least) h.lefts)
  left_filed = filed_left (left_tag op.width op.tests) (lasts_to least) op.left left' h.lefts h.left left_rows left_ends left_ordered

  right_filed : IsFiled (right_tag op.width op.tests) right' (filter (ends_after first) h.rights)
  right_filed = filed_left (right_tag op.width op.tests) (ends_after first) op.right right' h.rights h.right right_rows right_ends right_ordered

  -- the sides stand for the same full tables
  pub sides_trimmed : SidesStand (record op { left = left'; right = right'; lives = lives'; parts = parts' }) tables marks
  sides_trimmed = record {
    lefts = filter (lasts_to least) h.lefts;
    rights = filter (ends_after first) h.rights;
    kept = kept_trimmed;
    left = left_filed;
    right = right_filed;
    lives_are = lives_are;
    lives = lives_same;
  }

  left_held : (a : Row) → 0 < count_of a (all_under left'.by_tag.entries) → (lasts_to least a ≡ true) × (0 < count_of a (table_at tables 0))
  left_held a there =
      let both = stayed (lasts_to least) a h.lefts (omega (arith, (all_same (left_tag op.width op.tests) left'.by_tag.entries (filter (lasts_to least) h.lefts) left_ordered left_filed.files).each a, there)) in
      let some = both.1 in
      (both.0, omega (arith, h.kept.left.each a, count_of-append a h.lefts h.kept.lefts_gone))

  right_held : (b : Row) → 0 < count_of b (all_under right'.by_tag.entries) → (first < b.end) × (0 < count_of b (table_at tables 1))
  right_held b there =
      let both = stayed (ends_after first) b h.rights (omega (arith, (all_same (right_tag op.width op.tests) right'.by_tag.entries (filter (ends_after first) h.rights) right_ordered right_filed.files).each b, there)) in
      let some = both.1 in
      (ltb-true first b.end both.0, omega (arith, h.kept.right.each b, count_of-append b h.rights h.kept.rights_gone))

  held_by : (b : Row) → first < b.end → 0 < count_of b (table_at tables 1) → b.end ≤ least → (first ≡ least) ⊎ ((q : Row) × (0 < count_of q lives'.by_end) × (q.begin ≡ first)) → list_any (λ a. nat_le least a.end && meets a b) (table_at tables 0) ≡ true
  held_by b later there ended (inl at) = absurd (omega (arith, at))
  held_by b later there ended (inr found) =
      let q_there = found.1 in
      let one = there_bare found.0 (filter (lasts_to least) h.lefts) (omega (arith, lives_same.each found.0, q_there)) in
      let a = one.0 in
      let begin_is : one.0.begin ≡ first = sym (ap (λ (x : Row). x.begin) one.2) ∙ found.2 in
      let both = stayed (lasts_to least) one.0 h.lefts one.1 in
      let reaching = leb-true least one.0.end both.0 in
      let some = both.1 in
      let lives = (h.kept.right_rows.each b there).lives in
      any_there (λ x. nat_le least x.end && meets x b) one.0 (table_at tables 0)
      (λ i. both.0 i && (lt-ltb one.0.begin b.end (omega (arith, begin_is)) i && lt-ltb b.begin one.0.end (omega arith) i))
      (omega (arith, h.kept.left.each one.0, count_of-append one.0 h.lefts h.kept.lefts_gone, some))

  right_may : (b : Row) (after : Bool) → nat_lt least b.end ≡ after → first < b.end → 0 < count_of b (table_at tables 1) → (after || list_any (λ a. nat_le least a.end && meets a b) (table_at tables 0)) ≡ true
  right_may b true is_after later there = refl
  right_may b false is_after later there = held_by b later there (ltb-false least b.end is_after) earliest.found

  -- what is held may be held
  pub holds_trimmed : KnowsLives op.parts (least_of earlier) (all_excepted op.tests tables) → SameRows parts'.by_end (filter (lasts_to least) op.parts.by_end)
      → OnlyHolds (except_of op.tests) tables marks (all_under left'.by_tag.entries ∷ all_under right'.by_tag.entries ∷ parts'.by_end ∷ [])
  holds_trimmed knows parts_left = record { each = each }
    where
      each : (port : ℕ) (r : Row) → 0 < count_of r (table_at (all_under left'.by_tag.entries ∷ all_under right'.by_tag.entries ∷ parts'.by_end ∷ []) port) → except_holds op.tests tables (least_of marks) port r ≡ true
      each zero r there = ap (λ n. nat_le n r.end) (sym is) ∙ (left_held r there).0
      each (suc zero) r there =
          let held = right_held r there in
          subst (λ (n : ℕ). (nat_lt n r.end || list_any (λ a. nat_le n a.end && meets a r) (table_at tables 0)) ≡ true) is (right_may r (nat_lt least r.end) refl held.0 held.1)
      each (suc (suc zero)) r there =
          subst (λ (n : ℕ). (nat_le n r.end && list_any (is_life_of r) (all_excepted op.tests tables)) ≡ true) is
          (lives_may op.parts parts' (all_excepted op.tests tables) (least_of earlier) least (omega (arith, rises, is)) knows parts_left r there)
      each (suc (suc (suc port))) r there = absurd (omega arith)

-- what is known of the lives of the result is known at the later marks
pub parts_trimmed : (known known' : Lives) (rows : List Row) (before later least : ℕ) → before ≤ later → least ≡ later → KnowsLives known before rows → AreLives known'.by_begin.keys known'.by_end → SameRows known'.by_end (filter (lasts_to least) known.by_end) → KnowsLives known' later rows
parts_trimmed known known' rows before later least rise is h are left =
    let at_later = lives_later known before later rows rise h in
    record {
      lives_are = are;
      same = among_along (lasts_to later) known'.by_end known.by_end (bares rows) (subst (λ (n : ℕ). SameAmong (lasts_to n) known'.by_end known.by_end) is (among_filter (lasts_to least) known'.by_end known.by_end left)) at_later.same;
    }

reach_before : (last mark end : ℕ) → mark ≡ suc last → nat_lt last end ≡ nat_le mark end
reach_before last mark end is = grind (arith, nat_tests, is)

pub filter_before : (last mark : ℕ) (rows others : List Row) → mark ≡ last + 1 → SameRows rows (filter (ends_after last) others) → SameRows rows (filter (lasts_to mark) others)
filter_before last mark rows others is same = record {
  each = λ r. same.each r ∙ (count-filter r (ends_after last) others ∙ (ap (λ b. cond b (count_of r others) 0) (reach_before last mark r.end (omega (arith, is))) ∙ sym (count-filter r (lasts_to mark) others)));
}

reach_none : (mark end : ℕ) → mark ≡ 0 → nat_le mark end ≡ true
reach_none mark end is = grind (arith, nat_tests, is)

pub filter_none : (mark : ℕ) (rows : List Row) → mark ≡ 0 → SameRows rows (filter (lasts_to mark) rows)
filter_none mark rows is = record { each = λ r. sym (count-filter r (lasts_to mark) rows ∙ ap (λ b. cond b (count_of r rows) 0) (reach_none mark r.end is)) }

pub zero_mark : (n : ℕ) → (1 ≤ n → ⊥) → n ≡ 0
zero_mark n none = elim (cases_lt 0 n) [ inl some ↦ absurd (none (omega arith)) | inr zero_is ↦ omega arith ]

-- a row of port 0 that doesn't end before the least mark is held as often as it is there
pub held_all : (op : Except) (tables : Tables) (marks : List ℕ) (a : Row) → ExceptStands op tables marks → least_of marks ≤ a.end → count_of a (all_under op.left.by_tag.entries) ≡ count_of a (table_at tables 0)
held_all op tables marks a h lasts =
    let s = h.sides in
    let all = (all_same (left_tag op.width op.tests) op.left.by_tag.entries s.lefts s.left.ordered s.left.files).each a in
    elim (cases_lt 0 (count_of a s.kept.lefts_gone)) [
      | inl gone ↦ absurd (let ended = s.kept.lefts_ended a gone in omega arith)
      | inr none ↦ omega (arith, all, s.kept.left.each a, count_of-append a s.lefts s.kept.lefts_gone, none)
    ]

-- the life of a row of the result that doesn't end before the least mark is held as often as it is there
pub lives_held : (op : Except) (tables : Tables) (marks : List ℕ) (begin end : ℕ) → ExceptStands op tables marks → least_of marks ≤ end → count_of (life_row begin end) op.parts.by_end ≡ count_of (life_row begin end) (bares (all_excepted op.tests tables))
lives_held op tables marks begin end h lasts = h.parts.same.each (life_row begin end) (le-leb (least_of marks) end lasts)
