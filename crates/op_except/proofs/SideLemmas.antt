-- The sides of an except go through a change.
use Rattle.std.proofs.Common.{◌≡◌, ◌≢◌, ℕ, ◌+◌, ◌<◌, ◌⊎◌, inl, inr, List, [], ◌∷◌, ◌++◌, Bool, true, false, cond, refl, ap, sym, ◌∙◌, subst, arith}
use Rattle.std.specs.Prelude.{nat_lt}
use Rattle.std.specs.List.{filter}
use Rattle.std.specs.List.Sorted.{IsStrictlySortedBy}
use Rattle.std.specs.Map.{keys_of}
use Rattle.std.specs.Ordering.{nat_cmp}
use Rattle.std.proofs.lemmas.Bool.{cases_lt, cases_eq}
use Rattle.std.proofs.lemmas.List.Concat.{flat_map-append}
use Rattle.cedr_base.specs.declared.field.Field.{Field}
use Rattle.cedr_base.specs.declared.row.Row.{Row}
use Rattle.cedr_base.specs.declared.change.Change.{Change}
use Rattle.cedr_base.specs.declared.change.Change.TheVariants.{Add, Cut}
use Rattle.cedr_base.specs.Rows.{AreRows, count_of, one_if_same, SameRows}
use Rattle.cedr_base.specs.Changes.{changed_row, puts, takes, remnant, MayFollow}
use Rattle.cedr_base.proofs.Bags.{count_of-append, count_of-cons, one_if_same_exact}
use Rattle.change_laws.specs.Bags.{without}
use Rattle.change_laws.specs.Repairs.{IsMoved}
use Rattle.change_laws.proofs.BagSums.{sum_by-without, count_of-itself, same_flat_map}
use Rattle.change_laws.proofs.Moves.{applied, applied_moves, remnant_none}
use Rattle.cedr_table.specs.Operators.{Tables, CanTake}
use Rattle.cedr_table.specs.Counted.{LacksRow}
use Rattle.cedr_table.proofs.FilterLemmas.{count-filter}
use Rattle.cedr_table.proofs.RowsLemmas.{fewer_are}
use Rattle.cedr_expr.specs.declared.test.Test.{Test}
use Rattle.cedr_expr.specs.Tests.{passes}
use Rattle.cedr_expr.specs.Tags.{left_tag, right_tag}
use Rattle.filed_rows.specs.declared.filed.Filed.{Filed}
use Rattle.filed_rows.specs.Filed.{FiledRows, under, Files, right_partners}
use Rattle.filed_rows.specs.Ends.{AreEnds}
use Rattle.filed_rows.proofs.NoteLemmas.{files_after, row_there}
use Rattle.filed_rows.proofs.PartnerLemmas.{right_partner, right_fewer}
use Rattle.op_except.specs.Parts.{matching, excepted}
use Rattle.op_except.specs.PartLaws.{parts_same}
use Rattle.op_except.specs.Lives.{life_row, bares}
use Rattle.op_except.specs.Standing.{KeptRows, IsFiled}
use Rattle.op_except.proofs.AnswerLemmas.{left_there, right_there}

pick_filter : (b : Bool) (n m : ℕ) → (b ≡ true → n ≡ m) → cond b n 0 ≡ cond b m 0
pick_filter true n m same = same refl
pick_filter false n m same = refl

module _ (tests : List Test) (width : ℕ) (filed : Filed) (rows : List Row) (is : IsFiled (right_tag width tests) filed rows) where
  -- those of the filed rows that pass with a row are found under its tag
  pub partners_same : (a : Row) (t : ℕ) → t ≡ left_tag width tests a.payload → SameRows (matching tests a (right_partners filed.by_tag.entries t)) (matching tests a rows)
  partners_same a t tag_is = subst (λ (k : ℕ). SameRows (matching tests a (right_partners filed.by_tag.entries k)) (matching tests a rows)) (sym tag_is) (record {
    each = λ r.
        count-filter r (λ b. passes tests a.payload b.payload) (right_partners filed.by_tag.entries (left_tag width tests a.payload))
        ∙ (pick_filter (passes tests a.payload r.payload) (count_of r (right_partners filed.by_tag.entries (left_tag width tests a.payload))) (count_of r rows) (λ pass. right_partner width tests filed.by_tag.entries rows is.ordered is.files a.payload r pass)
        ∙ sym (count-filter r (λ b. passes tests a.payload b.payload) rows));
  })

  pub partners_are : (t : ℕ) → AreRows rows → AreRows (right_partners filed.by_tag.entries t)
  partners_are t are = fewer_are (right_partners filed.by_tag.entries t) rows (λ r there. omega (arith, right_fewer width tests filed.by_tag.entries rows is.ordered is.files t r)) are

  -- and what is found of the parts of a row beside them
  pub found_beside : (a : Row) (t : ℕ) (p : Row → Bool) (found : List Row) → t ≡ left_tag width tests a.payload → SameRows found (filter p (excepted tests (right_partners filed.by_tag.entries t) a)) → SameRows found (filter p (excepted tests rows a))
  found_beside a t p found tag_is finds = record {
    each = λ r.
        finds.each r
        ∙ (count-filter r p (excepted tests (right_partners filed.by_tag.entries t) a)
        ∙ (ap (λ n. cond (p r) n 0) (parts_same (one_if_same r) a (matching tests a (right_partners filed.by_tag.entries t)) (matching tests a rows) (partners_same a t tag_is))
        ∙ sym (count-filter r p (excepted tests rows a))));
  }

-- ---- port 0
kept_follows : (lefts rights : List Row) (tables : Tables) (marks : List ℕ) (c : Change) → KeptRows lefts rights tables marks → CanTake tables marks 0 c → MayFollow lefts [] c
kept_follows lefts rights tables marks (Add x) h can = can.legal
kept_follows lefts rights tables marks (Cut x e) h can = let there = left_there lefts rights tables marks x e h can in (can.legal.0, omega (arith, there))

bare_there : (r : Row) (rows : List Row) → 0 < count_of r rows → 0 < count_of (life_row r.begin r.end) (bares rows)
bare_there r [] there = absurd (omega arith)
bare_there r (x ∷ rows) there = elim (cases_lt 0 (count_of r rows)) [
  | inl more ↦ omega (arith, bare_there r rows more, count_of-cons (life_row r.begin r.end) (life_row x.begin x.end) (bares rows))
  | inr none ↦
      let same : r ≡ x = one_if_same_exact r x (omega (arith, count_of-cons r x rows)) in
      subst (λ (q : Row). 0 < count_of (life_row r.begin r.end) (life_row q.begin q.end ∷ bares rows)) same (count_of-itself (life_row r.begin r.end) (bares rows))
]

-- what lives there is a row's life
pub there_bare : (q : Row) (rows : List Row) → 0 < count_of q (bares rows) → (a : Row) × (0 < count_of a rows) × (q ≡ life_row a.begin a.end)
there_bare q [] there = absurd (omega arith)
there_bare q (a ∷ rows) there = elim (cases_lt 0 (count_of q (bares rows))) [
  | inl more ↦ (let h = there_bare q rows more in (h.0, omega (arith, count_of-cons h.0 a rows, h.1), h.2))
  | inr none ↦ (a, count_of-itself a rows, one_if_same_exact q (life_row a.begin a.end) (omega (arith, count_of-cons q (life_row a.begin a.end) (bares rows))))
]

pub life_there : (r : Row) (rows : List Row) → 0 < count_of r rows → 0 < count_of (life_row r.begin r.end) (bares rows)
life_there = bare_there

module _ (lefts rights : List Row) (tables : Tables) (marks : List ℕ) (c : Change) (h : KeptRows lefts rights tables marks) (can : CanTake tables marks 0 c) where
  pub moved_lefts : IsMoved c lefts (applied c lefts)
  moved_lefts = applied_moves c lefts (kept_follows lefts rights tables marks c h can)

  taken_life : (lives : List Row) → SameRows lives (bares lefts) → (d : Change) → d ≡ c → MayFollow lefts [] d → (r : Row) → 0 < count_of r (bares (takes d)) → 0 < count_of r lives
  taken_life lives same (Add x) is may r there = absurd (omega arith)
  taken_life lives same (Cut x e) is may r there =
      let x_there = may.1 in
      let at : r ≡ life_row x.begin x.end = one_if_same_exact r (life_row x.begin x.end) (omega (arith, count_of-cons r (life_row x.begin x.end) [])) in
      subst (λ (q : Row). 0 < count_of q lives) (sym at) (omega (arith, same.each (life_row x.begin x.end), bare_there x lefts (omega (arith, x_there))))

  -- the life of a row that goes is known
  pub life_taken : (lives : List Row) → SameRows lives (bares lefts) → (r : Row) → 0 < count_of r (bares (takes c)) → 0 < count_of r lives
  life_taken lives same = taken_life lives same c refl (kept_follows lefts rights tables marks c h can)

  bares_both : (r : Row) (xs ys : List Row) → count_of r (bares (xs ++ ys)) ≡ count_of r (bares xs) + count_of r (bares ys)
  bares_both r xs ys = ap (count_of r) (flat_map-append (λ (q : Row). life_row q.begin q.end ∷ []) xs ys) ∙ count_of-append r (bares xs) (bares ys)

  -- the lives go through a change as the rows do
  pub lives_moved : (lives lives' : List Row) → SameRows lives (bares lefts) → SameRows (lives' ++ bares (takes c)) (lives ++ bares (puts c)) → SameRows lives' (bares (applied c lefts))
  lives_moved lives lives' same noted = record {
    each = λ r. omega (
      arith,
      same.each r,
      noted.each r,
      count_of-append r lives' (bares (takes c)),
      count_of-append r lives (bares (puts c)),
      (same_flat_map (λ (q : Row). life_row q.begin q.end ∷ []) (applied c lefts ++ takes c) (lefts ++ puts c) moved_lefts.sums).each r,
      bares_both r (applied c lefts) (takes c),
      bares_both r lefts (puts c),
    );
  }

-- a row that is filed goes through a change
pub filed_moved : (tag : List Field → ℕ) (c : Change) (t : ℕ) (filed filed' : Filed) (rows after : List Row) → t ≡ tag (changed_row c).payload → IsFiled tag filed rows
    → SameRows (under filed'.by_tag.entries t ++ takes c) (under filed.by_tag.entries t ++ puts c) → ((q : ℕ) → q ≢ t → under filed'.by_tag.entries q ≡ under filed.by_tag.entries q) → AreEnds filed'.by_tag.entries filed'.ends → IsStrictlySortedBy nat_cmp (keys_of filed'.by_tag.entries) → IsMoved c rows after → IsFiled tag filed' after
filed_moved tag c t filed filed' rows after is h here others ends ordered moved = record {
  files = files_after tag c t filed.by_tag.entries filed'.by_tag.entries rows after is h.files here others moved;
  ends = ends;
  ordered = ordered;
}

pub filed_there : (tag : List Field → ℕ) (c : Change) (t : ℕ) (filed : Filed) (rows : List Row) → t ≡ tag (changed_row c).payload → IsFiled tag filed rows → MayFollow rows [] c → LacksRow (under filed.by_tag.entries t) c → ⊥
filed_there tag c t filed rows is h may = row_there tag c t filed.by_tag.entries rows is h.files may

pub left_follows : (lefts rights : List Row) (tables : Tables) (marks : List ℕ) (c : Change) → KeptRows lefts rights tables marks → CanTake tables marks 0 c → MayFollow lefts [] c
left_follows = kept_follows

-- ---- port 1
pub right_follows : (lefts rights : List Row) (tables : Tables) (marks : List ℕ) (c : Change) → KeptRows lefts rights tables marks → CanTake tables marks 1 c → MayFollow rights [] c
right_follows lefts rights tables marks (Add x) h can = can.legal
right_follows lefts rights tables marks (Cut x e) h can = let there = right_there lefts rights tables marks x e h can in (can.legal.0, omega (arith, there))

-- the rows beside a changed one
abbrev pub rest_of : Change → List Row → List Row
rest_of (Add x) rows = rows
rest_of (Cut x e) rows = without x rows

pub rest_same : (c : Change) (rows : List Row) → MayFollow rows [] c → SameRows (takes c ++ rest_of c rows) rows
rest_same (Add x) rows may = record { each = λ r. refl }
rest_same (Cut x e) rows may = let there = may.1 in record { each = λ r. omega (arith, sum_by-without (one_if_same r) x rows (omega (arith, there)), count_of-cons r x (without x rows)) }

files_same : (tag : List Field → ℕ) (t : ℕ) (old new : FiledRows) (rows : List Row) → Files tag old rows → SameRows (under new t) (under old t) → ((q : ℕ) → q ≢ t → under new q ≡ under old q) → Files tag new rows
files_same tag t old new rows h here others = record {
  there = λ r. same (tag r.payload) r (cases_eq (tag r.payload) t) ∙ h.there r;
  only = λ q r apart. same q r (cases_eq q t) ∙ h.only q r apart;
}
  where
    same : (q : ℕ) (r : Row) → (q ≡ t) ⊎ (q ≢ t) → count_of r (under new q) ≡ count_of r (under old q)
    same q r (inl at) = subst (λ (k : ℕ). count_of r (under new k) ≡ count_of r (under old k)) (sym at) (here.each r)
    same q r (inr other) = ap (count_of r) (others q other)

-- where the changed row was taken out, the others are filed
pub filed_rest : (tag : List Field → ℕ) (c : Change) (t : ℕ) (filed filed' : Filed) (rows : List Row) → t ≡ tag (changed_row c).payload → IsFiled tag filed rows → MayFollow rows [] c
    → SameRows (takes c ++ under filed'.by_tag.entries t) (under filed.by_tag.entries t) → ((q : ℕ) → q ≢ t → under filed'.by_tag.entries q ≡ under filed.by_tag.entries q) → AreEnds filed'.by_tag.entries filed'.ends → IsStrictlySortedBy nat_cmp (keys_of filed'.by_tag.entries) → IsFiled tag filed' (rest_of c rows)
filed_rest tag (Add x) t filed filed' rows is h may here others ends ordered = record { files = files_same tag t filed.by_tag.entries filed'.by_tag.entries rows h.files here others; ends = ends; ordered = ordered }
filed_rest tag (Cut x e) t filed filed' rows is h may here others ends ordered =
    let there = may.1 in
    let none = remnant_none x x.begin (omega arith) in
    record {
      files = files_after tag (Cut x x.begin) t filed.by_tag.entries filed'.by_tag.entries rows (without x rows) is h.files
          (record { each = λ r. omega (arith, here.each r, count_of-cons r x (under filed'.by_tag.entries t), count_of-append r (under filed'.by_tag.entries t) (x ∷ []), count_of-cons r x [], count_of-append r (under filed.by_tag.entries t) (remnant x x.begin), ap (count_of r) none) })
          others
          (record { sums = record { each = λ r. omega (arith, sum_by-without (one_if_same r) x rows (omega (arith, there)), count_of-append r (without x rows) (x ∷ []), count_of-cons r x [], count_of-append r rows (remnant x x.begin), ap (count_of r) none) } });
      ends = ends;
      ordered = ordered;
    }

filed_added : (tag : List Field → ℕ) (x : Row) (t : ℕ) (filed filed' : Filed) (rows : List Row) → t ≡ tag x.payload → IsFiled tag filed rows → SameRows (under filed'.by_tag.entries t) (x ∷ under filed.by_tag.entries t) → ((q : ℕ) → q ≢ t → under filed'.by_tag.entries q ≡ under filed.by_tag.entries q)
    → AreEnds filed'.by_tag.entries filed'.ends → IsStrictlySortedBy nat_cmp (keys_of filed'.by_tag.entries) → IsFiled tag filed' (x ∷ rows)
filed_added tag x t filed filed' rows is h here others ends ordered = record {
  files = files_after tag (Add x) t filed.by_tag.entries filed'.by_tag.entries rows (x ∷ rows) is h.files
      (record { each = λ r. omega (arith, here.each r, count_of-append r (under filed'.by_tag.entries t) [], count_of-append r (under filed.by_tag.entries t) (x ∷ []), count_of-cons r x (under filed.by_tag.entries t), count_of-cons r x []) })
      others
      (record { sums = record { each = λ r. omega (arith, count_of-append r (x ∷ rows) [], count_of-append r rows (x ∷ []), count_of-cons r x rows, count_of-cons r x []) } });
  ends = ends;
  ordered = ordered;
}

put_at : (tag : List Field → ℕ) (x : Row) (e t : ℕ) (filed filed' : Filed) (rows : List Row) (lives : Bool) → t ≡ tag x.payload → IsFiled tag filed rows → SameRows (under filed'.by_tag.entries t) (cond lives (record x { end = e } ∷ []) [] ++ under filed.by_tag.entries t) → ((q : ℕ) → q ≢ t → under filed'.by_tag.entries q ≡ under filed.by_tag.entries q)
    → AreEnds filed'.by_tag.entries filed'.ends → IsStrictlySortedBy nat_cmp (keys_of filed'.by_tag.entries) → IsFiled tag filed' (cond lives (record x { end = e } ∷ []) [] ++ rows)
put_at tag x e t filed filed' rows true is h here others ends ordered = filed_added tag (record x { end = e }) t filed filed' rows is h here others ends ordered
put_at tag x e t filed filed' rows false is h here others ends ordered = record { files = files_same tag t filed.by_tag.entries filed'.by_tag.entries rows h.files here others; ends = ends; ordered = ordered }

-- and with what the change puts
pub filed_put : (tag : List Field → ℕ) (c : Change) (t : ℕ) (filed filed' : Filed) (rows : List Row) → t ≡ tag (changed_row c).payload → IsFiled tag filed rows → SameRows (under filed'.by_tag.entries t) (puts c ++ under filed.by_tag.entries t) → ((q : ℕ) → q ≢ t → under filed'.by_tag.entries q ≡ under filed.by_tag.entries q)
    → AreEnds filed'.by_tag.entries filed'.ends → IsStrictlySortedBy nat_cmp (keys_of filed'.by_tag.entries) → IsFiled tag filed' (puts c ++ rows)
filed_put tag (Add x) t filed filed' rows is h here others ends ordered = filed_added tag x t filed filed' rows is h here others ends ordered
filed_put tag (Cut x e) t filed filed' rows is h here others ends ordered = put_at tag x e t filed filed' rows (nat_lt x.begin e) is h here others ends ordered
