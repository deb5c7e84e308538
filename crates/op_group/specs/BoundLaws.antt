-- What may be promised at a mark never falls.
use Rattle.std.proofs.Common.{◌≡◌, ℕ, ◌+◌, ◌<◌, ◌≤◌, ◌⊎◌, inl, inr, List, [], ◌∷◌, Bool, true, false, cond, refl, ap, sym, ◌∙◌, subst, arith}
use Rattle.std.specs.Prelude.{◌↔◌, nat_eq, nat_lt, nat_le, ◌&&◌, map, sum_by}
use Rattle.std.specs.List.{filter}
use Rattle.std.proofs.lemmas.Bool.{cases_lt, lt-ltb}
use Rattle.std.proofs.lemmas.Bool.Decides.{nat_tests}
use Rattle.std.proofs.lemmas.List.Sums.{sum_by-cons}
use Rattle.cedr_base.specs.declared.field.Field.{Field}
use Rattle.cedr_base.specs.declared.row.Row.{Row}
use Rattle.cedr_base.specs.declared.change.Change.{Change}
use Rattle.cedr_base.specs.declared.change.Change.TheVariants.{Add, Cut}
use Rattle.cedr_base.specs.Rows.{one_if_same, count_of, SameRows}
use Rattle.cedr_base.specs.Changes.{IsChange, sync_of, puts, takes}
use Rattle.cedr_base.proofs.Bags.{count_of-cons, one_if_same_exact}
use Rattle.change_laws.specs.Repairs.{IsMoved}
use Rattle.change_laws.proofs.BagSums.{count_of-itself, same_back}
use Rattle.change_laws.proofs.Moves.{sum_by-moved, remnant_some, remnant_none, none_either}
use Rattle.op_group.specs.Groups.{Grouping, key_of, same_payload, rows_of, segments, grouped, cut_points, least_from, is_open, open_from, lives_at}
use Rattle.op_group.specs.Measures.{edge_at, part_at, edges_of, living_of, tally_of, among, row_from, Fits, is_cut_of, key_in, IsGroupRow}
use Rattle.op_group.specs.TimeLaws.{below_test, above_test, one_elsewhere, false_not_true}
use Rattle.op_group.specs.CutLaws.{next_of}
use Rattle.op_group.specs.FilterLaws.{sum_by-filter}
use Rattle.op_group.specs.SegmentLaws.{cuts_ascend, among_cuts, edge_there, fits_alike, segment_fits}
use Rattle.op_group.specs.KeyLaws.{fits_key}
use Rattle.op_group.specs.GroupLaws.{made_from_there, there_from_made, same_at}
use Rattle.op_group.specs.LawWords.{IsLeastOpen, Untouched, keyed, Outside, Aside, IsBegun, SameAt}

open_test : (mark : ℕ) (begin end : ℕ) → (nat_lt begin mark && nat_le mark end) ≡ true → (begin < mark) × (mark ≤ end)
open_test mark begin end h = (grind (arith, nat_tests), grind (arith, nat_tests))

-- a row that begins before a mark and doesn't end before it is open at it
pub test_open : (mark : ℕ) (r : Row) → r.begin < mark → mark ≤ r.end → is_open mark r ≡ true
test_open mark r less within = grind (arith, nat_tests)

-- the bound is at most the mark
pub open_below : (mark : ℕ) (rows : List Row) → open_from mark rows ≤ mark
open_below mark [] = omega arith
open_below mark (r ∷ rows) = below_at (is_open mark r) (open_below mark rows)
  where
    below_at : (b : Bool) → open_from mark rows ≤ mark → least_from mark (map (λ (x : Row). x.begin) (cond b (r ∷ filter (is_open mark) rows) (filter (is_open mark) rows))) ≤ mark
    below_at true h = omega arith
    below_at false h = h

open_first : (mark : ℕ) (r x : Row) (rows : List Row) (b : Bool) → is_open mark x ≡ b → r ≡ x → is_open mark r ≡ true → least_from mark (map (λ (y : Row). y.begin) (cond b (x ∷ filter (is_open mark) rows) (filter (is_open mark) rows))) ≤ r.begin
open_first mark r x rows true is same test = let begins = ap (λ (y : Row). y.begin) same in omega arith
open_first mark r x rows false is same test = absurd (false_not_true (is_open mark x) is (sym (ap (is_open mark) same) ∙ test))

open_rest : (mark : ℕ) (x : Row) (rows : List Row) (n : ℕ) (b : Bool) → open_from mark rows ≤ n → least_from mark (map (λ (y : Row). y.begin) (cond b (x ∷ filter (is_open mark) rows) (filter (is_open mark) rows))) ≤ n
open_rest mark x rows n true h = omega arith
open_rest mark x rows n false h = h

-- and at most the begin of a row that is open
pub open_at : (mark : ℕ) (rows : List Row) (r : Row) → 0 < count_of r rows → is_open mark r ≡ true → open_from mark rows ≤ r.begin
open_at mark [] r there test = absurd (omega arith)
open_at mark (x ∷ rows) r there test = elim (cases_lt 0 (one_if_same r x)) [
  | inl here ↦ open_first mark r x rows (is_open mark x) refl (one_if_same_exact r x here) test
  | inr not_here ↦ open_rest mark x rows r.begin (is_open mark x) (open_at mark rows r (omega (arith, count_of-cons r x rows)) test)
]

least_is : (mark : ℕ) (x : Row) (rows : List Row) (b : Bool) → is_open mark x ≡ b → (open_from mark rows ≡ mark) ⊎ IsLeastOpen mark rows (open_from mark rows)
    → let bound = least_from mark (map (λ (y : Row). y.begin) (cond b (x ∷ filter (is_open mark) rows) (filter (is_open mark) rows))) in (bound ≡ mark) ⊎ IsLeastOpen mark (x ∷ rows) bound
least_is mark x rows false is (inl h) = inl h
least_is mark x rows false is (inr h) = inr (record { row = h.row; there = (let t = h.there in omega (arith, count_of-cons h.row x rows)); less = h.less; within = h.within; is = h.is })
least_is mark x rows true is rest = elim (cases_lt x.begin (open_from mark rows)) [
  | inl less ↦
      let test = open_test mark x.begin x.end is in
      inr (record { row = x; there = count_of-itself x rows; less = test.0; within = test.1; is = omega arith })
  | inr not_less ↦ elim rest [
    | inl h ↦ inl (omega (arith, h))
    | inr h ↦ inr (record { row = h.row; there = (let t = h.there in omega (arith, count_of-cons h.row x rows)); less = h.less; within = h.within; is = (let e = h.is in omega arith) })
  ]
]

-- the bound is the mark, or the begin of a row that is open
pub open_is : (mark : ℕ) (rows : List Row) → (open_from mark rows ≡ mark) ⊎ IsLeastOpen mark rows (open_from mark rows)
open_is mark [] = inl refl
open_is mark (r ∷ rows) = least_is mark r rows (is_open mark r) refl (open_is mark rows)

-- the bound of the same result rises with the mark
pub open_rises : (mark higher : ℕ) (rows : List Row) → mark ≤ higher → open_from mark rows ≤ open_from higher rows
open_rises mark higher rows rise = elim (open_is higher rows) [
  | inl top ↦ omega (arith, top, open_below mark rows)
  | inr open_row ↦
      let is = open_row.is in
      let within = open_row.within in
      elim (cases_lt open_row.row.begin mark) [
        | inl less ↦ omega (arith, is, open_at mark rows open_row.row open_row.there (test_open mark open_row.row less (omega arith)))
        | inr not_less ↦ omega (arith, is, open_below mark rows)
      ]
]

-- the bound of one list isn't above that of another with the same rows
open_below_same : (mark : ℕ) (xs ys : List Row) → SameRows xs ys → open_from mark xs ≤ open_from mark ys
open_below_same mark xs ys same = elim (open_is mark ys) [
  | inl top ↦ omega (arith, top, open_below mark xs)
  | inr open_row ↦
      let there = open_row.there in
      let is = open_row.is in
      omega (arith, is, open_at mark xs open_row.row (omega (arith, there, same.each open_row.row)) (test_open mark open_row.row open_row.less open_row.within))
]

-- the bound depends on the bag alone
pub same_open : (mark : ℕ) (xs ys : List Row) → SameRows xs ys → open_from mark xs ≡ open_from mark ys
same_open mark xs ys same = omega (arith, open_below_same mark xs ys same, open_below_same mark ys xs (same_back xs ys same))

-- a weight that a change doesn't touch has the same sum over the rows that it takes and those that it puts
pub untouched_sums : (w : Row → ℕ) (c : Change) → Untouched w c → sum_by w (takes c) ≡ sum_by w (puts c)
untouched_sums w (Add a) h = omega (arith, h)
untouched_sums w (Cut a e) h = elim (cases_lt a.begin e) [
  | inl lives ↦ omega (arith, ap (sum_by w) (remnant_some a e lives), h.0 lives)
  | inr gone ↦ omega (arith, ap (sum_by w) (remnant_none a e gone), h.1 gone)
]

keyed_untouched : (g : Grouping) (key : List Field) (w : Row → ℕ) (c : Change) → Untouched w c → Untouched (keyed g key w) c
keyed_untouched g key w (Add a) h = none_either (same_payload key (key_of g a)) (w a) h
keyed_untouched g key w (Cut a e) h = (λ lives. ap (λ n. cond (same_payload key (key_of g a)) n 0) (h.0 lives), λ gone. none_either (same_payload key (key_of g a)) (w a) (h.1 gone))

-- a sum over a group that a change doesn't touch
still : (g : Grouping) (key : List Field) (w : Row → ℕ) (c : Change) (old new : List Row) → Untouched w c → IsMoved c old new → sum_by w (rows_of g key old) ≡ sum_by w (rows_of g key new)
still g key w c old new untouched moved = omega (
  arith,
  sum_by-filter w (λ r. same_payload key (key_of g r)) old,
  sum_by-filter w (λ r. same_payload key (key_of g r)) new,
  sum_by-moved (keyed g key w) c old new moved.sums,
  untouched_sums (keyed g key w) c (keyed_untouched g key w c untouched),
)

no_edges : (t : ℕ) (r : Row) → nat_eq r.begin t ≡ false → nat_eq r.end t ≡ false → edge_at t r ≡ 0
no_edges t r b e = omega (arith, one_elsewhere r.begin t b, one_elsewhere r.end t e)

-- at a time outside those that a change touches it doesn't touch how many begins and ends stand there
pub edges_untouched : (t : ℕ) (c : Change) → IsChange c → Outside c t → Untouched (edge_at t) c
edges_untouched t (Add a) is (inl before) = let lives = is.lives in no_edges t a (above_test a.begin t (omega arith)) (above_test a.end t (omega arith))
edges_untouched t (Add a) is (inr after) = let lives = is.lives in no_edges t a (below_test a.begin t (omega arith)) (below_test a.end t (omega arith))
edges_untouched t (Cut a e) is (inl before) =
    let less = is.2 in (
      λ lives. omega (arith, one_elsewhere a.end t (above_test a.end t (omega arith)), one_elsewhere e t (above_test e t before)),
      λ gone. no_edges t a (above_test a.begin t (omega arith)) (above_test a.end t (omega arith)),
    )
edges_untouched t (Cut a e) is (inr after) =
    let less = is.2 in
    let row = is.0.lives in (
      λ lives. omega (arith, one_elsewhere a.end t (below_test a.end t after), one_elsewhere e t (below_test e t (omega arith))),
      λ gone. no_edges t a (below_test a.begin t (omega arith)) (below_test a.end t after),
    )

not_before : (begin end t : ℕ) → t < begin → (nat_le begin t && nat_lt t end) ≡ false
not_before begin end t h = grind (arith, nat_tests)

not_after : (begin end t : ℕ) → end ≤ t → (nat_le begin t && nat_lt t end) ≡ false
not_after begin end t h = grind (arith, nat_tests)

same_before : (begin end earlier t : ℕ) → t < earlier → earlier < end → (nat_le begin t && nat_lt t end) ≡ (nat_le begin t && nat_lt t earlier)
same_before begin end earlier t h k = grind (arith, nat_tests)

module _ (weight : Row → ℕ) (cut_keeps : (r : Row) (end : ℕ) → weight (record r { end = end }) ≡ weight r) where
  no_part : (t : ℕ) (r : Row) → lives_at t r ≡ false → part_at weight t r ≡ 0
  no_part t r h = ap {B = ℕ} (λ b. cond b (weight r) 0) h

  -- and at a time aside from them it doesn't touch how many rows are valid, nor what these weigh
  pub parts_untouched : (t : ℕ) (c : Change) → IsChange c → Aside c t → Untouched (part_at weight t) c
  parts_untouched t (Add a) is (inl before) = no_part t a (not_before a.begin a.end t before)
  parts_untouched t (Add a) is (inr after) = no_part t a (not_after a.begin a.end t (omega arith))
  parts_untouched t (Cut a e) is (inl before) = (
    λ lives. ap {B = ℕ} (λ b. cond b (weight a) 0) (same_before a.begin a.end e t before is.2) ∙ ap {B = ℕ} (λ n. cond (lives_at t (record a { end = e })) n 0) (sym (cut_keeps a e)),
    λ gone. no_part t a (not_before a.begin a.end t (omega arith)),
  )
  parts_untouched t (Cut a e) is (inr after) =
      let less = is.2 in (
        λ lives. no_part t a (not_after a.begin a.end t (omega arith)) ∙ sym (no_part t (record a { end = e }) (not_after a.begin e t (omega arith))),
        λ gone. no_part t a (not_after a.begin a.end t (omega arith)),
      )

-- a time outside those that a change touches is aside from them
pub outside_aside : (c : Change) (t : ℕ) → Outside c t → Aside c t
outside_aside c t (inl before) = inl before
outside_aside c t (inr after) = inr (omega arith)

-- outside the times that a change touches each group stays the same
pub same_outside : (g : Grouping) (key : List Field) (c : Change) (old new : List Row) (t : ℕ) → IsChange c → IsMoved c old new → Outside c t → SameAt g key old new t
same_outside g key c old new t is moved outside = same_at g key old new t
    (still g key (edge_at t) c old new (edges_untouched t c is outside) moved)
    (λ w. still g key (part_at (λ (r : Row). w r.payload) t) c old new (parts_untouched (λ (r : Row). w r.payload) (λ r e. refl) t c is (outside_aside c t outside)) moved)

record IsLater (rows : List Row) (p : ℕ) : Type 0 where
  time : ℕ
  above : p < time
  cut : 0 < edges_of rows time

ends_later_at : (x : Row) (rows : List Row) (p : ℕ) (b : Bool) → lives_at p x ≡ b → 0 < cond {A = ℕ} b 1 0 + living_of rows p → (0 < living_of rows p → IsLater rows p) → IsLater (x ∷ rows) p
ends_later_at x rows p true is some rest =
    let after : p < x.end = grind (arith, nat_tests) in
    record { time = x.end; above = after; cut = edge_there (x ∷ rows) x (count_of-itself x rows) }
ends_later_at x rows p false is some rest =
    let later = rest (omega arith) in
    record { time = later.time; above = later.above; cut = (let c = later.cut in omega (arith, sum_by-cons (edge_at later.time) x rows)) }

-- what is valid at a time ends later
ends_later : (rows : List Row) (p : ℕ) → 0 < living_of rows p → IsLater rows p
ends_later [] p some = absurd (omega arith)
ends_later (x ∷ rows) p some = ends_later_at x rows p (lives_at p x) refl (omega (arith, some, sum_by-cons (part_at (λ _. 1) p) x rows)) (ends_later rows p)

-- a cut point from which rows are valid begins a row, which doesn't end before a mark that no other cut point precedes
pub begins_row : (g : Grouping) (key : List Field) (rows : List Row) (p mark : ℕ) → 0 < living_of (rows_of g key rows) p → is_cut_of (rows_of g key rows) p ≡ true → ((u : ℕ) → p < u → u < mark → is_cut_of (rows_of g key rows) u ≡ false) → IsBegun g rows p mark
begins_row g key rows p mark lives cut none =
    let later = ends_later (rows_of g key rows) p lives in
    let next = next_of g.counted key (living_of (rows_of g key rows)) (tally_of g.totalled (rows_of g key rows)) (cut_points (rows_of g key rows)) p later.time (cuts_ascend (rows_of g key rows)) lives later.above
    (among_cuts p (rows_of g key rows) ∙ cut) (among_cuts later.time (rows_of g key rows) ∙ lt-ltb 0 (edges_of (rows_of g key rows) later.time) later.cut) in
    begun_by next.next
    (fits_alike g.counted key (living_of (rows_of g key rows)) (living_of (rows_of g key rows)) (tally_of g.totalled (rows_of g key rows)) (tally_of g.totalled (rows_of g key rows))
    (λ t. among t (cut_points (rows_of g key rows))) (is_cut_of (rows_of g key rows)) (row_from g.counted key (living_of (rows_of g key rows)) (tally_of g.totalled (rows_of g key rows)) p next.next)
    (λ t over under. among_cuts t (rows_of g key rows)) refl refl next.fits)
  where
    begun_by : (q : ℕ) → Fits g.counted key (living_of (rows_of g key rows)) (tally_of g.totalled (rows_of g key rows)) (is_cut_of (rows_of g key rows)) (row_from g.counted key (living_of (rows_of g key rows)) (tally_of g.totalled (rows_of g key rows)) p q) → IsBegun g rows p mark
    begun_by q fits =
        let key_is = fits_key g key rows (is_cut_of (rows_of g key rows)) (row_from g.counted key (living_of (rows_of g key rows)) (tally_of g.totalled (rows_of g key rows)) p q) fits in
        let over : p < q = fits.order in
        record {
          row = row_from g.counted key (living_of (rows_of g key rows)) (tally_of g.totalled (rows_of g key rows)) p q;
          there = (let one = there_from_made g rows (row_from g.counted key (living_of (rows_of g key rows)) (tally_of g.totalled (rows_of g key rows)) p q)
              (subst (λ k. Fits g.counted k (living_of (rows_of g k rows)) (tally_of g.totalled (rows_of g k rows)) (is_cut_of (rows_of g k rows)) (row_from g.counted key (living_of (rows_of g key rows)) (tally_of g.totalled (rows_of g key rows)) p q)) (sym key_is) fits) in omega arith);
          begins = refl;
          within = elim (cases_lt q mark) [
            | inl early ↦ absurd (false_not_true (is_cut_of (rows_of g key rows) q) (none q over early) fits.ends)
            | inr not_early ↦ not_early
          ];
        }

-- where a row of one result is open at a mark before which each group is the same in two tables, a row with the same begin is
-- open in the other result
pub open_alike : (g : Grouping) (xs ys : List Row) (mark : ℕ) (r : Row) → ((key : List Field) (u : ℕ) → u < mark → SameAt g key xs ys u) → IsGroupRow g ys r → r.begin < mark → mark ≤ r.end → IsBegun g xs r.begin mark
open_alike g xs ys mark r alike made less within =
    let same = alike (key_in g r) r.begin less in
    begins_row g (key_in g r) xs r.begin mark
    (let some = made.lives in let e = same.living in omega arith)
    (ap (nat_lt 0) same.edges ∙ made.starts)
    (λ u over under. ap (nat_lt 0) (alike (key_in g r) u under).edges ∙ made.apart u over (omega arith))

-- and the bound of the one isn't above that of the other
pub bound_within : (g : Grouping) (xs ys : List Row) (mark : ℕ) → ((key : List Field) (u : ℕ) → u < mark → SameAt g key xs ys u) → open_from mark (grouped g xs) ≤ open_from mark (grouped g ys)
bound_within g xs ys mark alike = elim (open_is mark (grouped g ys)) [
  | inl top ↦ omega (arith, top, open_below mark (grouped g xs))
  | inr open_row ↦
      let was = open_alike g xs ys mark open_row.row alike (made_from_there g ys open_row.row open_row.there) open_row.less open_row.within in
      let begins = was.begins in
      let less = open_row.less in
      let e = open_row.is in
      omega (arith, open_at mark (grouped g xs) was.row was.there (test_open mark was.row (omega arith) was.within))
]

-- where a row of the new result is open at a mark before which nothing changed, a row with the same begin was
-- open before
pub was_open : (g : Grouping) (c : Change) (old new : List Row) (mark : ℕ) (r : Row) → IsChange c → IsMoved c old new → mark ≤ sync_of c → IsGroupRow g new r → r.begin < mark → mark ≤ r.end → IsBegun g old r.begin mark
was_open g c old new mark r is moved from = open_alike g old new mark r (λ key u early. same_outside g key c old new u is moved (inl (omega arith)))

-- a legal change doesn't lower the bound
pub open_stays : (g : Grouping) (c : Change) (old new : List Row) (mark : ℕ) → IsChange c → IsMoved c old new → mark ≤ sync_of c → open_from mark (grouped g old) ≤ open_from mark (grouped g new)
open_stays g c old new mark is moved from = bound_within g old new mark (λ key u early. same_outside g key c old new u is moved (inl (omega arith)))

-- a row that a group makes and that begins below a mark is open at it exactly where it begins at the group's greatest
-- cut point below the mark
pub open_is_greatest : (g : Grouping) (rows : List Row) (mark : ℕ) (key : List Field) (r : Row) → 0 < count_of r (segments g key (rows_of g key rows)) → r.begin < mark → (mark ≤ r.end) ↔ ((t : ℕ) → t < mark → is_cut_of (rows_of g key rows) t ≡ true → t ≤ r.begin)
open_is_greatest g rows mark key r there less =
    let made = segment_fits g key (rows_of g key rows) r there in
    let order = made.order in (
      λ within t before cut. elim (cases_lt r.begin t) [
        | inl over ↦ absurd (false_not_true (is_cut_of (rows_of g key rows) t) (made.apart t over (omega arith)) cut)
        | inr not_over ↦ not_over
      ],
      λ greatest. elim (cases_lt r.end mark) [
        | inl early ↦ let low = greatest r.end early made.ends in absurd (omega arith)
        | inr within ↦ within
      ],
    )
