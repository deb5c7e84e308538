-- What a change of a port makes of the state, and how its answer repairs the result.
use Rattle.std.proofs.Common.{◌≡◌, ℕ, ◌+◌, ◌<◌, ◌≤◌, ◌⊎◌, inl, inr, List, [], ◌∷◌, ◌++◌, length, Bool, true, false, cond, refl, ap, sym, ◌∙◌, subst, arith, length-set}
use Rattle.std.specs.Prelude.{sum_by, nat_lt}
use Rattle.std.specs.List.{flat_map, filter}
use Rattle.std.proofs.lemmas.Bool.{cases_lt}
use Rattle.std.proofs.lemmas.List.{append-nil}
use Rattle.cedr_base.specs.declared.row.Row.{Row}
use Rattle.cedr_base.specs.declared.change.Change.{Change}
use Rattle.cedr_base.specs.declared.change.Change.TheVariants.{Add, Cut}
use Rattle.cedr_base.specs.Rows.{IsRow, AreRows, count_of, one_if_same, SameRows}
use Rattle.cedr_base.specs.Changes.{sync_of, changed_row, puts, takes, all_takes, all_puts, MayFollow, IsChange}
use Rattle.cedr_base.proofs.Bags.{count_of-append, count_of-cons, one_if_same_exact}
use Rattle.change_laws.specs.Repairs.{IsMoved, Repair}
use Rattle.change_laws.proofs.BagSums.{sum_by-flat_map, count_of-itself, same_back}
use Rattle.change_laws.proofs.Moves.{sum_by-moved, sum_by-there, may_is, row_came}
use Rattle.change_laws.proofs.RepairLemmas.{AllChanges, Turns, repair_by_turns}
use Rattle.cedr_table.specs.Operators.{Tables, table_at, with_table, CanTake, least_of, mark_at}
use Rattle.cedr_table.specs.PortLaws.{least_below, table_at-with, table_at-with_other}
use Rattle.cedr_table.proofs.RowsLemmas.{fewer_are, moved_are}
use Rattle.cedr_expr.specs.declared.test.Test.{Test}
use Rattle.cedr_expr.specs.Tests.{passes}
use Rattle.op_except.specs.Parts.{row_until, row_since, parts, matching, excepted, all_excepted, growing_from}
use Rattle.op_except.specs.PartLaws.{excepted_same}
use Rattle.op_except.specs.OpenLaws.{open_mark}
use Rattle.cedr_table.proofs.PortsAgree.{RowsAgree}
use Rattle.op_except.specs.ExceptLaws.{took_agrees}
use Rattle.op_except.specs.Standing.{KeptRows, NeverMeet}
use Rattle.op_except.specs.Steps.{own_at, turns_on}
use Rattle.op_except.specs.Turns.{TurnsBy, IsLate}
use Rattle.filed_rows.specs.Spans.{lives_within}
use Rattle.change_laws.specs.Agreeing.{AgreeUpTo}
use Rattle.change_laws.proofs.AgreeLemmas.{agree_ended}
use Rattle.op_except.proofs.PartLemmas.{parts_last, single}
use Rattle.op_except.proofs.TurnLemmas.{turns_are, turns_alike}
use Rattle.op_except.proofs.RepairLemmas.{member_most, bound_low, left_cut, left_add, kept_same, result_is, gone_same}

-- a change isn't seen before the least mark
pub late_change : (marks : List ℕ) (port n : ℕ) → length marks ≡ 2 → port < 2 → mark_at marks port ≤ n → least_of marks ≤ n
late_change marks port n two within from = omega (arith, least_below port marks (omega arith))

-- a row of port 0 that is cut is kept
pub left_there : (lefts rights : List Row) (tables : Tables) (marks : List ℕ) (x : Row) (e : ℕ) → KeptRows lefts rights tables marks → CanTake tables marks 0 (Cut x e) → 0 < count_of x lefts
left_there lefts rights tables marks x e h can =
    let late = late_change marks 0 e h.mark (omega arith) can.from in
    let shorter = can.legal.0.2 in
    let was = can.legal.1 in
    elim (cases_lt 0 (count_of x h.lefts_gone)) [
      | inl gone ↦ absurd (let ended = h.lefts_ended x gone in omega arith)
      | inr none ↦ omega (arith, h.left.each x, count_of-append x lefts h.lefts_gone)
    ]

-- so is one of port 1
pub right_there : (lefts rights : List Row) (tables : Tables) (marks : List ℕ) (x : Row) (e : ℕ) → KeptRows lefts rights tables marks → CanTake tables marks 1 (Cut x e) → 0 < count_of x rights
right_there lefts rights tables marks x e h can =
    let late = late_change marks 1 e h.mark (omega arith) can.from in
    let shorter = can.legal.0.2 in
    let was = can.legal.1 in
    elim (cases_lt 0 (count_of x h.rights_gone)) [
      | inl gone ↦ absurd (let ended = h.rights_ended x gone in omega arith)
      | inr none ↦ omega (arith, h.right.each x, count_of-append x rights h.rights_gone)
    ]

-- a shorter row doesn't meet what the row doesn't
pub shorter_apart : (x b : Row) (e : ℕ) → e < x.end → NeverMeet x b → NeverMeet (record x { end = e }) b
shorter_apart x b e shorter (inl before) = inl (omega arith)
shorter_apart x b e shorter (inr after) = inr after

remnant_apart : (x a b : Row) (e : ℕ) (lives : Bool) → e < x.end → NeverMeet x b → 0 < count_of a (cond lives (record x { end = e } ∷ []) []) → NeverMeet a b
remnant_apart x a b e true shorter apart there = subst (λ (y : Row). NeverMeet y b) (sym (one_if_same_exact a (record x { end = e }) (omega (arith, count_of-cons a (record x { end = e }) [])))) (shorter_apart x b e shorter apart)
remnant_apart x a b e false shorter apart there = absurd (omega arith)

pub put_apart : (lefts rights : List Row) (tables : Tables) (marks : List ℕ) (c : Change) (a b : Row) → (h : KeptRows lefts rights tables marks) → CanTake tables marks 0 c → 0 < count_of b h.rights_gone → 0 < count_of a (puts c) → NeverMeet a b
put_apart lefts rights tables marks (Add x) a b h can gone there =
    let late = late_change marks 0 x.begin h.mark (omega arith) can.from in
    let ended = h.rights_ended b gone in
    subst (λ (y : Row). NeverMeet y b) (sym (one_if_same_exact a x (omega (arith, count_of-cons a x [])))) (inr (omega arith))
put_apart lefts rights tables marks (Cut x e) a b h can gone there =
    remnant_apart x a b e (nat_lt x.begin e) can.legal.0.2 (h.apart x b (left_there lefts rights tables marks x e h can) gone) there

pub same_after : (c : Change) (kept kept' gone table after : List Row) → IsMoved c kept kept' → IsMoved c table after → SameRows (kept ++ gone) table → SameRows (kept' ++ gone) after
same_after c kept kept' gone table after moved' moved same = record {
  each = λ r. omega (
    arith,
    moved'.sums.each r,
    moved.sums.each r,
    same.each r,
    count_of-append r kept' gone,
    count_of-append r kept gone,
    count_of-append r kept' (takes c),
    count_of-append r kept (puts c),
    count_of-append r after (takes c),
    count_of-append r table (puts c),
  );
}

-- the state after a change of port 0
abbrev pub left_stands : (lefts lefts' rights : List Row) (tables : Tables) (marks : List ℕ) (c : Change) (after : List Row) → KeptRows lefts rights tables marks → CanTake tables marks 0 c → IsMoved c lefts lefts' → IsMoved c (table_at tables 0) after
    → KeptRows lefts' rights (with_table tables 0 after) marks
left_stands lefts lefts' rights tables marks c after h can moved' moved = record {
  table = length-set tables 0 after ∙ h.table;
  mark = h.mark;
  lefts_gone = h.lefts_gone;
  rights_gone = h.rights_gone;
  left = subst (λ (rows : List Row). SameRows (lefts' ++ h.lefts_gone) rows) (sym (table_at-with tables 0 after can.port_is)) (same_after c lefts lefts' h.lefts_gone (table_at tables 0) after moved' moved h.left);
  right = subst (λ (rows : List Row). SameRows (rights ++ h.rights_gone) rows) (sym (table_at-with_other tables 0 1 after (λ e. omega arith))) h.right;
  left_rows = subst (λ (rows : List Row). AreRows rows) (sym (table_at-with tables 0 after can.port_is)) (moved_are c (table_at tables 0) after (may_is (table_at tables 0) [] c can.legal) moved h.left_rows);
  right_rows = subst (λ (rows : List Row). AreRows rows) (sym (table_at-with_other tables 0 1 after (λ e. omega arith))) h.right_rows;
  lefts_ended = h.lefts_ended;
  rights_ended = h.rights_ended;
  apart = λ a b there gone. elim (row_came c lefts lefts' a moved' there) [ inl was ↦ h.apart a b was gone | inr put ↦ put_apart lefts rights tables marks c a b h can gone put ];
}

-- the state after a change of port 1
abbrev pub right_stands : (lefts rights rights' : List Row) (tables : Tables) (marks : List ℕ) (c : Change) (after : List Row) → KeptRows lefts rights tables marks → CanTake tables marks 1 c → IsMoved c rights rights' → IsMoved c (table_at tables 1) after
    → KeptRows lefts rights' (with_table tables 1 after) marks
right_stands lefts rights rights' tables marks c after h can moved' moved = record {
  table = length-set tables 1 after ∙ h.table;
  mark = h.mark;
  lefts_gone = h.lefts_gone;
  rights_gone = h.rights_gone;
  left = subst (λ (rows : List Row). SameRows (lefts ++ h.lefts_gone) rows) (sym (table_at-with_other tables 1 0 after (λ e. omega arith))) h.left;
  right = subst (λ (rows : List Row). SameRows (rights' ++ h.rights_gone) rows) (sym (table_at-with tables 1 after can.port_is)) (same_after c rights rights' h.rights_gone (table_at tables 1) after moved' moved h.right);
  left_rows = subst (λ (rows : List Row). AreRows rows) (sym (table_at-with_other tables 1 0 after (λ e. omega arith))) h.left_rows;
  right_rows = subst (λ (rows : List Row). AreRows rows) (sym (table_at-with tables 1 after can.port_is)) (moved_are c (table_at tables 1) after (may_is (table_at tables 1) [] c can.legal) moved h.right_rows);
  lefts_ended = h.lefts_ended;
  rights_ended = h.rights_ended;
  apart = h.apart;
}

rows_repair : (f : Row → List Row) (c : Change) (old after : List Row) (t : ℕ) (cs : List Change) → MayFollow old [] c → IsMoved c old after → Turns t (flat_map f (takes c)) (flat_map f (puts c)) cs → Repair (flat_map f old) (flat_map f after) t cs
rows_repair f c old after t cs may moved turns = repair_by_turns (flat_map f old) (flat_map f after) (flat_map f (takes c)) (flat_map f (puts c)) t cs turns
    (λ r. omega (
      arith,
      sum_by-flat_map (one_if_same r) f old,
      sum_by-flat_map (one_if_same r) f after,
      sum_by-flat_map (one_if_same r) f (takes c),
      sum_by-flat_map (one_if_same r) f (puts c),
      sum_by-moved (λ x. count_of r (f x)) c old after moved.sums,
    ))
    (λ r. omega (arith, sum_by-flat_map (one_if_same r) f old, sum_by-flat_map (one_if_same r) f (takes c), sum_by-there (λ x. count_of r (f x)) c old may))

-- what is left beside a changed row goes through the change
pub rest_moves : (c : Change) (rest rows : List Row) → SameRows (takes c ++ rest) rows → IsMoved c rows (puts c ++ rest)
rest_moves c rest rows same = record {
  sums = record {
    each = λ r. omega (
      arith,
      same.each r,
      count_of-append r (takes c) rest,
      count_of-append r (puts c ++ rest) (takes c),
      count_of-append r (puts c) rest,
      count_of-append r rows (puts c),
    );
  };
}

module _ (tests : List Test) where
  with_lefts : (tables : Tables) (after : List Row) → 0 < length tables → all_excepted tests (with_table tables 0 after) ≡ flat_map (excepted tests (table_at tables 1)) after
  with_lefts tables after within = λ i. flat_map (excepted tests (table_at-with_other tables 0 1 after (λ same. omega arith) i)) (table_at-with tables 0 after within i)

  abbrev bound_at_least : Tables → List ℕ → ℕ
  bound_at_least tables marks = growing_from (least_of marks) (all_excepted tests tables)

  left_repair : (tables : Tables) (marks : List ℕ) (c : Change) (after : List Row) (cs : List Change) → CanTake tables marks 0 c → IsMoved c (table_at tables 0) after
      → Turns (bound_at_least tables marks) (flat_map (excepted tests (table_at tables 1)) (takes c)) (flat_map (excepted tests (table_at tables 1)) (puts c)) cs
      → Repair (all_excepted tests tables) (all_excepted tests (with_table tables 0 after)) (bound_at_least tables marks) cs
  left_repair tables marks c after cs can moved turns =
      subst (λ (rows : List Row). Repair (all_excepted tests tables) rows (bound_at_least tables marks) cs) (sym (with_lefts tables after can.port_is))
      (rows_repair (excepted tests (table_at tables 1)) c (table_at tables 0) after (bound_at_least tables marks) cs can.legal moved turns)

  remnant_same : (lefts rights : List Row) (tables : Tables) (marks : List ℕ) (x : Row) (e : ℕ) (w : Row → ℕ) (lives : Bool) → (h : KeptRows lefts rights tables marks) → e < x.end → ((b : Row) → 0 < count_of b h.rights_gone → NeverMeet x b)
      → sum_by w (flat_map (excepted tests rights) (cond lives (record x { end = e } ∷ []) [])) ≡ sum_by w (flat_map (excepted tests (table_at tables 1)) (cond lives (record x { end = e } ∷ []) []))
  remnant_same lefts rights tables marks x e w true h shorter apart =
      ap (sum_by w) (append-nil (excepted tests rights (record x { end = e })))
      ∙ (kept_same tests lefts rights tables marks (record x { end = e }) w h (λ b gone. shorter_apart x b e shorter (apart b gone))
      ∙ sym (ap (sum_by w) (append-nil (excepted tests (table_at tables 1) (record x { end = e })))))
  remnant_same lefts rights tables marks x e w false h shorter apart = refl

  -- what a change of port 0 turns, where those parts are found that it may touch
  pub left_turns : (lefts rights : List Row) (tables : Tables) (marks : List ℕ) (c : Change) (found : List Row) → KeptRows lefts rights tables marks → CanTake tables marks 0 c → SameRows found (filter (lives_within (sync_of c) (changed_row c).end) (excepted tests rights (changed_row c)))
      → Turns (bound_at_least tables marks) (flat_map (excepted tests (table_at tables 1)) (takes c)) (flat_map (excepted tests (table_at tables 1)) (puts c)) (flat_map (own_at c) found)
  left_turns lefts rights tables marks (Add x) found h can finds =
      let late = late_change marks 0 x.begin h.mark (omega arith) can.from in
      left_add tests (bound_at_least tables marks) x found rights (table_at tables 1) can.legal (omega (arith, open_mark (least_of marks) (all_excepted tests tables))) finds
      (λ w. kept_same tests lefts rights tables marks x w h (λ b gone. let ended = h.rights_ended b gone in inr (omega arith)))
  left_turns lefts rights tables marks (Cut x e) found h can finds =
      let late = late_change marks 0 e h.mark (omega arith) can.from in
      let there = left_there lefts rights tables marks x e h can in
      left_cut tests (bound_at_least tables marks) x e found rights (table_at tables 1) can.legal.0.0 can.legal.0.2 (omega (arith, open_mark (least_of marks) (all_excepted tests tables))) finds
      (λ w. kept_same tests lefts rights tables marks x w h (λ b gone. h.apart x b there gone))
      (λ w. remnant_same lefts rights tables marks x e w (nat_lt x.begin e) h can.legal.0.2 (λ b gone. h.apart x b there gone))

  pub left_repairs : (lefts rights : List Row) (tables : Tables) (marks : List ℕ) (c : Change) (after found : List Row) → KeptRows lefts rights tables marks → CanTake tables marks 0 c → IsMoved c (table_at tables 0) after → SameRows found (filter (lives_within (sync_of c) (changed_row c).end) (excepted tests rights (changed_row c)))
      → Repair (all_excepted tests tables) (all_excepted tests (with_table tables 0 after)) (bound_at_least tables marks) (flat_map (own_at c) found)
  left_repairs lefts rights tables marks c after found h can moved finds = left_repair tables marks c after (flat_map (own_at c) found) can moved (left_turns lefts rights tables marks c found h can finds)

  pub right_repair : (goes : Row → Bool) (lefts rights rights' : List Row) (tables : Tables) (marks : List ℕ) (c : Change) (after : List Row) (cs : List Change) → (h : KeptRows lefts rights tables marks) → (can : CanTake tables marks 1 c) → (moved' : IsMoved c rights rights') → (moved : IsMoved c (table_at tables 1) after)
      → TurnsBy (bound_at_least tables marks) goes (flat_map (excepted tests rights) lefts) (flat_map (excepted tests rights') lefts) cs
      → Repair (all_excepted tests tables) (all_excepted tests (with_table tables 1 after)) (bound_at_least tables marks) cs
  right_repair goes lefts rights rights' tables marks c after cs h can moved' moved turns =
      let h' : KeptRows lefts rights' (with_table tables 1 after) marks = right_stands lefts rights rights' tables marks c after h can moved' moved in
      let sizes : length tables ≡ length marks = h.table ∙ sym h.mark in
      let agree : RowsAgree (least_of marks) (table_at tables 1) (table_at (with_table tables 1 after) 1) = took_agrees (least_of marks) tables marks 1 c after sizes (omega arith) h.right_rows can moved in
      repair_by_turns (all_excepted tests tables) (all_excepted tests (with_table tables 1 after)) (flat_map (excepted tests rights) lefts) (flat_map (excepted tests rights') lefts) (bound_at_least tables marks) cs
      (turns_are (bound_at_least tables marks) goes (flat_map (excepted tests rights) lefts) (flat_map (excepted tests rights') lefts) cs turns)
      (λ r. omega (
        arith,
        result_is tests lefts rights tables marks r h,
        result_is tests lefts rights' (with_table tables 1 after) marks r (right_stands lefts rights rights' tables marks c after h can moved' moved),
        gone_same tests (least_of marks) r h.lefts_gone (table_at tables 1) (table_at (with_table tables 1 after) 1) agree.rows agree.others agree.agree
            (λ a there. (let ended = h.lefts_ended a there in omega arith, (h.left_rows.each a (omega (arith, h.left.each a, count_of-append a lefts h.lefts_gone))).ends)),
      ))
      (λ r. omega (arith, result_is tests lefts rights tables marks r h))

  pub others_alike : (r : Row) (rights rights' lefts : List Row) → SameRows rights rights' → count_of r (flat_map (excepted tests rights) lefts) ≡ count_of r (flat_map (excepted tests rights') lefts)
  others_alike r rights rights' [] same = refl
  others_alike r rights rights' (a ∷ lefts) same =
      omega (
        arith,
        count_of-append r (excepted tests rights a) (flat_map (excepted tests rights) lefts),
        count_of-append r (excepted tests rights' a) (flat_map (excepted tests rights') lefts),
        excepted_same tests (one_if_same r) rights rights' a same,
        others_alike r rights rights' lefts same,
      )

  pub lefts_are : (lefts rights : List Row) (tables : Tables) (marks : List ℕ) → KeptRows lefts rights tables marks → AreRows lefts
  lefts_are lefts rights tables marks h = fewer_are lefts (table_at tables 0) (λ r there. omega (arith, h.left.each r, count_of-append r lefts h.lefts_gone)) h.left_rows

  -- what ends where b begins is in the result
  before_there : (a b x : Row) (rest : List Row) (pass : Bool) → passes tests a.payload b.payload ≡ pass → pass ≡ true → x.begin < b.begin → b.begin < x.end → 0 < count_of x (excepted tests rest a) → 0 < count_of (row_until b.begin x) (parts a (cond pass (b ∷ matching tests a rest) (matching tests a rest)))
  before_there a b x rest true is pass less more there =
      let y = row_until b.begin x in
      let one : parts (row_until b.begin x) [] ≡ row_until b.begin x ∷ [] = single (row_until b.begin x) (omega arith) in
      omega (
        arith,
        parts_last (one_if_same (row_until b.begin x)) a b (matching tests a rest),
        member_most (λ z. count_of (row_until b.begin x) (parts z (b ∷ []))) x (excepted tests rest a) there,
        count_of-append (row_until b.begin x) (parts (row_until b.begin x) []) (parts (row_since b.end x) []),
        ap (count_of (row_until b.begin x)) one,
        count_of-itself (row_until b.begin x) [],
      )
  before_there a b x rest false is pass less more there = absurd (cc)

  -- what ends where a row of port 1 begins that goes whole begins at the bound or later
  pub right_late : (lefts rights rest : List Row) (tables : Tables) (marks : List ℕ) (c : Change) → KeptRows lefts rights tables marks → CanTake tables marks 1 c → SameRows (takes c ++ rest) rights → IsLate tests (bound_at_least tables marks) c rest lefts
  right_late lefts rights rest tables marks (Add b) h can same = tt
  right_late lefts rights rest tables marks (Cut b e) h can same = λ a x there pass has at less more.
      let late = late_change marks 1 e h.mark (omega arith) can.from in
      let mark = open_mark (least_of marks) (all_excepted tests tables) in
      let y_there = before_there a b x rest (passes tests a.payload b.payload) refl pass less more has in
      elim (cases_lt x.begin (least_of marks)) [
        | inl early ↦ bound_low (least_of marks) (all_excepted tests tables) (row_until b.begin x)
            (omega (
              arith,
              y_there,
              excepted_same tests (one_if_same (row_until b.begin x)) (b ∷ rest) rights a same,
              member_most (λ z. count_of (row_until b.begin x) (excepted tests rights z)) a lefts there,
              sum_by-flat_map (one_if_same (row_until b.begin x)) (excepted tests rights) lefts,
              result_is tests lefts rights tables marks (row_until b.begin x) h,
            ))
            early (omega arith)
        | inr over ↦ omega arith
      ]

  -- the answer to a change of port 1 repairs the result
  pub right_repairs : (lefts rights rest : List Row) (tables : Tables) (marks : List ℕ) (c : Change) (after : List Row) (cs : List Change) → KeptRows lefts rights tables marks → CanTake tables marks 1 c → IsMoved c (table_at tables 1) after → SameRows (takes c ++ rest) rights
      → TurnsBy (bound_at_least tables marks) (turns_on c) (flat_map (excepted tests (takes c ++ rest)) lefts) (flat_map (excepted tests (puts c ++ rest)) lefts) cs
      → Repair (all_excepted tests tables) (all_excepted tests (with_table tables 1 after)) (bound_at_least tables marks) cs
  right_repairs lefts rights rest tables marks c after cs h can moved same turns =
      right_repair (turns_on c) lefts rights (puts c ++ rest) tables marks c after cs h can (rest_moves c rest rights same) moved
      (turns_alike (bound_at_least tables marks) (turns_on c) (flat_map (excepted tests (takes c ++ rest)) lefts) (flat_map (excepted tests rights) lefts) (flat_map (excepted tests (puts c ++ rest)) lefts) (flat_map (excepted tests (puts c ++ rest)) lefts) cs
      (λ r. others_alike r rights (takes c ++ rest) lefts (same_back (takes c ++ rest) rights same))
      (λ r. refl)
      turns)

-- No row is cut of a result that ends before a time up to which the results agree.
pub taken_late : (t m : ℕ) (old new : List Row) (cs : List Change) (r : Row) → Repair old new t cs → AllChanges cs → ((q : Row) → (count_of q (all_takes cs) ≡ 0) ⊎ (count_of q (all_puts cs) ≡ 0)) → AgreeUpTo m old new → 0 < count_of r (all_takes cs) → m ≤ r.end
taken_late t m old new cs r repair changes apart agree there = elim (cases_lt r.end m) [
  | inr over ↦ over
  | inl early ↦
      let row = taken_is cs r changes there in
      let same = agree_ended m old new r agree row early in
      let sums : count_of r new + count_of r (all_takes cs) ≡ count_of r old + count_of r (all_puts cs) = sym (count_of-append r new (all_takes cs)) ∙ (repair.leads.sums.each r ∙ count_of-append r old (all_puts cs)) in
      elim (apart r) [ inl none ↦ absurd (omega arith) | inr none ↦ absurd (omega (arith, sums, same, none)) ]
]
  where
    taken_one : (c : Change) (rest : ℕ) → IsChange c → 0 < count_of r (takes c) → IsRow r
    taken_one (Add a) rest is some = absurd (omega arith)
    taken_one (Cut a e) rest is some = subst IsRow (sym (one_if_same_exact r a (omega (arith, count_of-cons r a [])))) is.0

    taken_is : (cs : List Change) (r' : Row) → AllChanges cs → 0 < count_of r (all_takes cs) → IsRow r
    taken_is [] r' all some = absurd (omega arith)
    taken_is (c ∷ cs) r' all some = elim (cases_lt 0 (count_of r (takes c))) [
      | inl here ↦ taken_one c 0 all.0 here
      | inr none ↦ taken_is cs r' all.1 (omega (arith, count_of-append r (takes c) (all_takes cs)))
    ]

-- what is cut of a result is there
pub taken_there : (t : ℕ) (old new : List Row) (cs : List Change) (r : Row) → Repair old new t cs → ((q : Row) → (count_of q (all_takes cs) ≡ 0) ⊎ (count_of q (all_puts cs) ≡ 0)) → count_of r (all_takes cs) ≤ count_of r old
taken_there t old new cs r repair apart =
    let sums : count_of r new + count_of r (all_takes cs) ≡ count_of r old + count_of r (all_puts cs) = sym (count_of-append r new (all_takes cs)) ∙ (repair.leads.sums.each r ∙ count_of-append r old (all_puts cs)) in
    elim (apart r) [ inl none ↦ omega (arith, none) | inr none ↦ omega (arith, sums, none) ]
