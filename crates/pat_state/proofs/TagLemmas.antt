-- Bags of rows, each with a tag.
use Rattle.std.proofs.Common.{◌≡◌, ℕ, zero, suc, ◌+◌, ◌*◌, ◌≤◌, inl, inr, List, [], ◌∷◌, ◌++◌, Bool, true, false, cond, length, refl, ap, sym, subst, ◌∙◌, arith}
use Rattle.std.specs.Prelude.{sum_by, nat_eq, ◌&&◌, map, replicate}
use Rattle.std.specs.List.{filter}
use Rattle.std.proofs.lemmas.Bool.{cases_lt, eq-eqb, eqb-true, ne_eqb}
use Rattle.std.proofs.lemmas.List.Sums.{sum_by-cons, sum_by-append}
use Rattle.std.proofs.lemmas.List.Folds.{sum_by-replicate}
use Rattle.cedr_base.specs.declared.field.Field.{Field}
use Rattle.cedr_base.specs.declared.row.Row.{Row}
use Rattle.cedr_base.specs.declared.change.Change.{Change}
use Rattle.cedr_base.specs.declared.change.Change.TheVariants.{Add, Cut}
use Rattle.cedr_base.specs.Rows.{count_of, one_if_same, same_row, SameRows}
use Rattle.cedr_base.specs.Changes.{puts, takes, remnant, changed_row}
use Rattle.cedr_base.proofs.Bags.{count_of-append, count_of-cons, one_of_itself, same_row_exact}
use Rattle.change_laws.proofs.BagSums.{sum_by-same}
use Rattle.change_laws.proofs.Moves.{remnant_some, remnant_none}
use Rattle.cedr_expr.specs.declared.side.Side.TheVariants.{Left, Right}
use Rattle.cedr_expr.specs.declared.test.Test.{Test}
use Rattle.cedr_expr.specs.Tags.{tag_of, left_tag, right_tag}
use Rattle.cedr_expr.specs.Tests.{passes}
use Rattle.cedr_expr.proofs.TagLemmas.{tag_same}
use Rattle.pat_state.specs.Starts.{endless, all_endless, begins_within, HasRow}
use Rattle.pat_state.specs.Tags.{marked, has_tag_within, HasMarked, IsRetagged, IsTagged, IsSought}

-- a sum over chosen rows
pub sum_by-filter : (w : Row → ℕ) (p : Row → Bool) (xs : List Row) → sum_by w (filter p xs) ≡ sum_by (λ x. cond (p x) (w x) 0) xs
sum_by-filter w p [] = refl
sum_by-filter w p (x ∷ xs) = omega (arith, chosen (p x), sum_by-cons (λ (y : Row). cond (p y) (w y) 0) x xs, sum_by-filter w p xs) where
  chosen : (b : Bool) → sum_by w (cond b (x ∷ filter p xs) (filter p xs)) ≡ cond b (w x) 0 + sum_by w (filter p xs)
  chosen true = sum_by-cons w x (filter p xs)
  chosen false = omega arith

-- a sum over changed rows
pub sum_by-changed : (v w : Row → ℕ) (f : Row → Row) (xs : List Row) → ((x : Row) → v (f x) ≡ w x) → sum_by v (map f xs) ≡ sum_by w xs
sum_by-changed v w f [] each = refl
sum_by-changed v w f (x ∷ xs) each = omega (arith, sum_by-cons v (f x) (map f xs), sum_by-cons w x xs, each x, sum_by-changed v w f xs each)

-- a sum of sums
sum_by-both : (v w u : Row → ℕ) (xs : List Row) → ((x : Row) → v x + w x ≡ u x) → sum_by v xs + sum_by w xs ≡ sum_by u xs
sum_by-both v w u [] each = refl
sum_by-both v w u (x ∷ xs) each = omega (arith, sum_by-cons v x xs, sum_by-cons w x xs, sum_by-cons u x xs, each x, sum_by-both v w u xs each)

-- where all copies of a row are taken, the others are left
pub all_gone : (row : Row) (count n : ℕ) (old new rest : List Row) → n ≡ count_of row old → SameRows (replicate n row ++ new) old → count_of row rest ≡ 0 → SameRows old (replicate count row ++ rest) → SameRows new rest
all_gone row count n old new rest is out none was =
    let size : n ≡ count = omega (arith, is, none, was.each row, count_of-append row (replicate count row) rest, sum_by-replicate (one_if_same row) count row, ap (λ k. count * k) (one_of_itself row)) in
    record {
      each = λ r. omega (arith, out.each r, was.each r, count_of-append r (replicate n row) new, count_of-append r (replicate count row) rest, ap (λ k. count_of r (replicate k row)) size);
    }

module _ (tag : List Field → ℕ) where
  -- a row with its tag in place of its end
  abbrev pub with_tag : Row → Row
  with_tag r = marked (tag r.payload) r

  abbrev pub weight : Row → Row → ℕ
  weight r x = one_if_same r (with_tag x)

  -- a count of rows with tags is a sum over the rows
  pub count_tagged : (r : Row) (rows : List Row) → count_of r (map with_tag rows) ≡ sum_by (weight r) rows
  count_tagged r rows = sum_by-changed (one_if_same r) (weight r) with_tag rows (λ x. refl)

  -- no row is tagged by none
  pub none_tagged : IsTagged tag [] []
  none_tagged = record { same = record { each = λ r. refl } }

  -- a bag with one row more, and its tag
  pub one_tagged : (t : ℕ) (row : Row) (rows rows' tags tags' : List Row) → tag row.payload ≡ t → IsTagged tag rows tags → SameRows rows' (row ∷ rows) → SameRows tags' (marked t row ∷ tags) → IsTagged tag rows' tags'
  one_tagged t row rows rows' tags tags' at was more tagged = record {
    same = record {
      each = λ r. let e = ap (λ n. one_if_same r (marked n row)) at in omega (
        arith,
        e,
        tagged.each r,
        count_of-cons r (marked t row) tags,
        was.same.each r,
        count_tagged r rows,
        count_tagged r rows',
        sum_by-same (weight r) rows' (row ∷ rows) more,
        sum_by-cons (weight r) row rows,
      );
    };
  }

  -- a bag with one row less, and without its tag
  pub one_untagged : (t : ℕ) (row : Row) (rows rows' tags tags' : List Row) → tag row.payload ≡ t → IsTagged tag rows tags → SameRows (row ∷ rows') rows → SameRows (marked t row ∷ tags') tags → IsTagged tag rows' tags'
  one_untagged t row rows rows' tags tags' at was less tagged = record {
    same = record {
      each = λ r. let e = ap (λ n. one_if_same r (marked n row)) at in omega (
        arith,
        e,
        tagged.each r,
        count_of-cons r (marked t row) tags',
        was.same.each r,
        count_tagged r rows,
        count_tagged r rows',
        sum_by-same (weight r) (row ∷ rows') rows less,
        sum_by-cons (weight r) row rows',
      );
    };
  }

  -- bags that are the same are tagged alike
  pub tagged_alike : (rows rows' tags : List Row) → SameRows rows' rows → IsTagged tag rows tags → IsTagged tag rows' tags
  tagged_alike rows rows' tags same was = record {
    same = record { each = λ r. omega (arith, was.same.each r, count_tagged r rows, count_tagged r rows', sum_by-same (weight r) rows' rows same) };
  }

  -- a row is tagged by its begin and its payload
  pub tagged_there : (t : ℕ) (row : Row) (rows tags : List Row) → tag row.payload ≡ t → IsTagged tag rows tags → count_of (endless row) rows ≤ count_of (marked t row) tags
  tagged_there t row rows tags at was = omega (arith, was.same.each (marked t row), count_tagged (marked t row) rows, at_least rows) where
    counts_at : (x : Row) (b : Bool) → same_row (endless row) x ≡ b → cond b 1 0 ≤ weight (marked t row) x
    counts_at x true h =
        let e = ap with_tag (same_row_exact (endless row) x h) in
        let k = ap (λ n. one_if_same (marked t row) (marked n row)) at in
        let m = ap (one_if_same (marked t row)) e in
        omega (arith, k, m, one_of_itself (marked t row))
    counts_at x false h = omega arith

    one_at_least : (x : Row) → one_if_same (endless row) x ≤ weight (marked t row) x
    one_at_least x = counts_at x (same_row (endless row) x) refl

    at_least : (xs : List Row) → count_of (endless row) xs ≤ sum_by (weight (marked t row)) xs
    at_least [] = omega arith
    at_least (x ∷ xs) = omega (arith, count_of-cons (endless row) x xs, sum_by-cons (weight (marked t row)) x xs, one_at_least x, at_least xs)

  -- where no row has a begin and a payload, none is tagged with them
  pub none_marked : (t : ℕ) (row : Row) (rows : List Row) → ((r : Row) → r.begin ≡ row.begin → r.payload ≡ row.payload → count_of r rows ≡ 0) → count_of (marked t row) (map with_tag rows) ≡ 0
  none_marked t row [] alone = refl
  none_marked t row (x ∷ xs) alone = omega (
    arith,
    count_of-cons (marked t row) (with_tag x) (map with_tag xs),
    apart (same_row (marked t row) (with_tag x)) refl,
    none_marked t row xs (λ r begins pays. let all = alone r begins pays in omega (arith, all, count_of-cons r x xs)),
  ) where
    apart : (b : Bool) → same_row (marked t row) (with_tag x) ≡ b → one_if_same (marked t row) (with_tag x) ≡ 0
    apart true same =
        let is = same_row_exact (marked t row) (with_tag x) same in
        let none = alone x (sym (ap (λ (r : Row). r.begin) is)) (sym (ap (λ (r : Row). r.payload) is)) in
        absurd (omega (arith, none, count_of-cons x x xs, one_of_itself x))
    apart false same = ap {B = ℕ} (λ b. cond b 1 0) same

  sum_by-copies : (r row : Row) (t n : ℕ) → tag row.payload ≡ t → sum_by (weight r) (replicate n row) ≡ sum_by (one_if_same r) (replicate n (marked t row))
  sum_by-copies r row t zero at = refl
  sum_by-copies r row t (suc n) at =
      let e = ap (λ k. one_if_same r (marked k row)) at in
      omega (arith, e, sum_by-cons (weight r) row (replicate n row), sum_by-cons (one_if_same r) (marked t row) (replicate n (marked t row)), sum_by-copies r row t n at)

  -- copies of a row stand among the tagged rows, and then those of the others
  pub tagged_copies : (t n : ℕ) (row : Row) (rows rows' tags : List Row) → tag row.payload ≡ t → IsTagged tag rows tags → SameRows (replicate n row ++ rows') rows → SameRows tags (replicate n (marked t row) ++ map with_tag rows')
  tagged_copies t n row rows rows' tags at was parts = record {
    each = λ r. omega (
      arith,
      was.same.each r,
      count_tagged r rows,
      count_tagged r rows',
      sum_by-same (weight r) (replicate n row ++ rows') rows parts,
      sum_by-append (weight r) (replicate n row) rows',
      sum_by-copies r row t n at,
      count_of-append r (replicate n (marked t row)) (map with_tag rows'),
    );
  }

  -- a row that a change cuts is there with its tag
  pub marked_there : (t : ℕ) (c : Change) (rows tags : List Row) → tag (changed_row c).payload ≡ t → IsTagged tag rows tags → HasRow rows c → HasMarked t tags c
  marked_there t (Add a) rows tags at was there = tt
  marked_there t (Cut a e) rows tags at was there = omega (arith, there, tagged_there t a rows tags at was)

  -- a bag goes through a change with its tags
  pub tagged_step : (t : ℕ) (c : Change) (rows rows' tags tags' : List Row) → tag (changed_row c).payload ≡ t → IsTagged tag rows tags → IsRetagged t c tags tags' → SameRows (rows' ++ all_endless (takes c)) (rows ++ all_endless (puts c)) → IsTagged tag rows' tags'
  tagged_step t (Add a) rows rows' tags tags' at was tagged step =
      one_tagged t (endless a) rows rows' tags tags' at was (record { each = λ r. omega (arith, step.each r, count_of-append r rows' [], count_of-append r rows (endless a ∷ []), count_of-cons r (endless a) rows, count_of-cons r (endless a) []) }) tagged
  tagged_step t (Cut a e) rows rows' tags tags' at was tagged step = elim (cases_lt a.begin e) [
    | inl left ↦
        (let some = ap all_endless (remnant_some a e left) in
        let same : SameRows rows' rows = record { each = λ r. let k = ap (count_of r) some in omega (arith, k, step.each r, count_of-append r rows' (endless a ∷ []), count_of-append r rows (all_endless (remnant a e))) } in
        subst (λ (ts : List Row). IsTagged tag rows' ts) (sym (tagged.1 left)) (tagged_alike rows rows' tags same was))
    | inr gone ↦
        (let none = ap all_endless (remnant_none a e gone) in
        let less : SameRows (endless a ∷ rows') rows = record { each = λ r. let k = ap (count_of r) none in omega (arith, k, step.each r, count_of-append r rows' (endless a ∷ []), count_of-append r rows (all_endless (remnant a e)), count_of-cons r (endless a) rows', count_of-cons r (endless a) []) } in
        one_untagged t (endless a) rows rows' tags tags' at was less (tagged.0 gone))
  ]

  -- a sum over the rows that have a tag and begin within some times
  found_by : (t from before : ℕ) (w v : Row → ℕ) (rows tags : List Row) → IsTagged tag rows tags
      → ((x : Row) → cond (nat_eq (tag x.payload) t && begins_within from before x) (w (with_tag x)) 0 ≡ v x)
      → sum_by w (filter (has_tag_within t from before) tags) ≡ sum_by v rows
  found_by t from before w v rows tags was each =
      let chosen = λ (x : Row). cond (has_tag_within t from before x) (w x) 0 in
      sum_by-filter w (has_tag_within t from before) tags
      ∙ (sum_by-same chosen tags (map with_tag rows) was.same ∙ sum_by-changed chosen v with_tag rows each)

  -- a sum over all of them that begin within some times
  pub all_found : (from before : ℕ) (w : Row → ℕ) (rows tags : List Row) → IsTagged tag rows tags → ((x : Row) (end : ℕ) → w (record x { end = end }) ≡ w x)
      → sum_by w (filter (begins_within from before) tags) ≡ sum_by w (filter (begins_within from before) rows)
  all_found from before w rows tags was endless_weight =
      let chosen = λ (x : Row). cond (begins_within from before x) (w x) 0 in
      sum_by-filter w (begins_within from before) tags
      ∙ (sum_by-same chosen tags (map with_tag rows) was.same
      ∙ (sum_by-changed chosen chosen with_tag rows (λ x. ap (λ n. cond (begins_within from before x) n 0) (endless_weight x (tag x.payload)))
      ∙ sym (sum_by-filter w (begins_within from before) rows)))

inside_at : (from before : ℕ) (x : Row) (xs : List Row) (b w : Bool) → begins_within from before x ≡ w → filter (begins_within from before) xs ≡ xs
    → filter (begins_within from before) (cond (b && w) (x ∷ xs) xs) ≡ cond (b && w) (x ∷ xs) xs
inside_at from before x xs true true is rest = ap (λ c. cond c (x ∷ filter (begins_within from before) xs) (filter (begins_within from before) xs)) is ∙ ap (λ rows. x ∷ rows) rest
inside_at from before x xs true false is rest = rest
inside_at from before x xs false w is rest = rest

-- what has a tag and begins within some times begins within them
pub filter_inside : (tag from before : ℕ) (xs : List Row) → filter (begins_within from before) (filter (has_tag_within tag from before) xs) ≡ filter (has_tag_within tag from before) xs
filter_inside tag from before [] = refl
filter_inside tag from before (x ∷ xs) = inside_at from before x (filter (has_tag_within tag from before) xs) (nat_eq x.end tag) (begins_within from before x) refl (filter_inside tag from before xs)

-- nothing is nothing, whatever is chosen
none_either : (b c : Bool) (m n : ℕ) → m ≡ 0 → n ≡ 0 → cond b m 0 ≡ cond c n 0
none_either true true m n h k = h ∙ sym k
none_either true false m n h k = h
none_either false true m n h k = sym k
none_either false false m n h k = refl

module _ (tests : List Test) (width from before : ℕ) (w : Row → ℕ) where
  -- of right rows with the tag of a left payload of the width none is missed that is sought
  pub right_found : (payload : List Field) (rows tags : List Row) → length payload ≡ width → IsTagged (right_tag width tests) rows tags → IsSought (λ fields. passes tests payload fields) w
      → sum_by w (filter (has_tag_within (tag_of Left width tests payload) from before) tags) ≡ sum_by w (filter (begins_within from before) rows)
  right_found payload rows tags fits was sought =
      found_by (right_tag width tests) (tag_of Left width tests payload) from before w (λ x. cond (begins_within from before x) (w x) 0) rows tags was (λ x. each x (passes tests payload x.payload) refl)
      ∙ sym (sum_by-filter w (begins_within from before) rows) where
        each : (x : Row) (b : Bool) → passes tests payload x.payload ≡ b
            → cond (nat_eq (right_tag width tests x.payload) (tag_of Left width tests payload) && begins_within from before x) (w (marked (right_tag width tests x.payload) x)) 0 ≡ cond (begins_within from before x) (w x) 0
        each x true h =
            let one : right_tag width tests x.payload ≡ tag_of Left width tests payload = subst (λ n. tag_of Right n tests x.payload ≡ tag_of Left n tests payload) fits (sym (tag_same tests payload x.payload h)) in
            let yes = eq-eqb (right_tag width tests x.payload) (tag_of Left width tests payload) one in
            ap (λ b. cond (b && begins_within from before x) (w (marked (right_tag width tests x.payload) x)) 0) yes
            ∙ ap (λ n. cond (begins_within from before x) n 0) (sought.endless x (right_tag width tests x.payload))
        each x false h = none_either (nat_eq (right_tag width tests x.payload) (tag_of Left width tests payload) && begins_within from before x) (begins_within from before x) (w (marked (right_tag width tests x.payload) x)) (w x) (sought.endless x (right_tag width tests x.payload) ∙ sought.none x h) (sought.none x h)

  -- the same of left rows with the tag of a right payload, and of those of another width
  pub left_found : (payload : List Field) (rows tags : List Row) → IsTagged (left_tag width tests) rows tags → IsSought (λ fields. passes tests fields payload) w
      → sum_by w (filter (has_tag_within (tag_of Right width tests payload) from before) tags) + sum_by w (filter (has_tag_within 0 from before) tags) ≡ sum_by w (filter (begins_within from before) rows)
  left_found payload rows tags was sought =
      let first = λ (x : Row). cond (nat_eq (left_tag width tests x.payload) (tag_of Right width tests payload) && begins_within from before x) (w (marked (left_tag width tests x.payload) x)) 0 in
      let second = λ (x : Row). cond (nat_eq (left_tag width tests x.payload) 0 && begins_within from before x) (w (marked (left_tag width tests x.payload) x)) 0 in
      let some = found_by (left_tag width tests) (tag_of Right width tests payload) from before w first rows tags was (λ x. refl) in
      let others = found_by (left_tag width tests) 0 from before w second rows tags was (λ x. refl) in
      let all = sum_by-both first second (λ x. cond (begins_within from before x) (w x) 0) rows (λ x. each x (nat_eq (length x.payload) width) refl (passes tests x.payload payload) refl) in
      omega (arith, some, others, all, sum_by-filter w (begins_within from before) rows) where
        each : (x : Row) (fits : Bool) → nat_eq (length x.payload) width ≡ fits → (b : Bool) → passes tests x.payload payload ≡ b
            → cond (nat_eq (cond fits (tag_of Left width tests x.payload) 0) (tag_of Right width tests payload) && begins_within from before x) (w (marked (cond fits (tag_of Left width tests x.payload) 0) x)) 0
            + cond (nat_eq (cond fits (tag_of Left width tests x.payload) 0) 0 && begins_within from before x) (w (marked (cond fits (tag_of Left width tests x.payload) 0) x)) 0
            ≡ cond (begins_within from before x) (w x) 0
        each x true fits true h =
            let one : tag_of Left width tests x.payload ≡ tag_of Right width tests payload = subst (λ n. tag_of Left n tests x.payload ≡ tag_of Right n tests payload) (eqb-true (length x.payload) width fits) (tag_same tests x.payload payload h) in
            let yes = eq-eqb (tag_of Left width tests x.payload) (tag_of Right width tests payload) one in
            let no = ne_eqb (tag_of Left width tests x.payload) 0 (λ e. omega (arith, e)) in
            let here = ap (λ b. cond (b && begins_within from before x) (w (marked (tag_of Left width tests x.payload) x)) 0) yes in
            let there = ap (λ b. cond (b && begins_within from before x) (w (marked (tag_of Left width tests x.payload) x)) 0) no in
            let same = ap (λ n. cond (begins_within from before x) n 0) (sought.endless x (tag_of Left width tests x.payload)) in
            omega (arith, here, there, same)
        each x true fits false h =
            let none = sought.endless x (tag_of Left width tests x.payload) ∙ sought.none x h in
            let here = none_either (nat_eq (tag_of Left width tests x.payload) (tag_of Right width tests payload) && begins_within from before x) false (w (marked (tag_of Left width tests x.payload) x)) 0 none refl in
            let there = none_either (nat_eq (tag_of Left width tests x.payload) 0 && begins_within from before x) (begins_within from before x) (w (marked (tag_of Left width tests x.payload) x)) (w x) none (sought.none x h) in
            omega (arith, here, there)
        each x false fits b h =
            let no = ne_eqb 0 (tag_of Right width tests payload) (λ e. omega (arith, e)) in
            let here = ap (λ b. cond (b && begins_within from before x) (w (marked 0 x)) 0) no in
            let same = ap (λ n. cond (begins_within from before x) n 0) (sought.endless x 0) in
            omega (arith, here, same)
