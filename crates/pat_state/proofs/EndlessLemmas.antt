-- Tables whose rows count by their begins and payloads alone.
use Rattle.std.proofs.Common.{◌≡◌, ℕ, zero, suc, ◌<◌, ◌≤◌, List, [], ◌∷◌, ◌++◌, Bool, true, false, cond, length, refl, ap, sym, ◌∙◌, subst, arith}
use Rattle.std.specs.Prelude.{sum_by, replicate, map, filter}
use Rattle.std.proofs.lemmas.Bool.{lt-ltb, ltb-true}
use Rattle.std.proofs.lemmas.List.{length-replicate}
use Rattle.std.proofs.lemmas.List.Sums.{sum_by-cons}
use Rattle.cedr_base.specs.declared.time.TheConstants.{FOREVER}
use Rattle.cedr_base.specs.declared.row.Row.{Row}
use Rattle.cedr_base.specs.declared.change.Change.{Change}
use Rattle.cedr_base.specs.declared.change.Change.TheVariants.{Add, Cut}
use Rattle.cedr_base.specs.Rows.{same_row, count_of, one_if_same, SameRows}
use Rattle.cedr_base.specs.Changes.{sync_of, puts, takes, MayFollow}
use Rattle.cedr_base.proofs.Bags.{same_row_exact, count_of-append, count_of-cons, one_of_itself}
use Rattle.change_laws.specs.Repairs.{IsMoved}
use Rattle.change_laws.specs.Times.{later}
use Rattle.change_laws.proofs.BagSums.{sum_by-same, same_along, same_itself}
use Rattle.change_laws.proofs.Moves.{sum_by-moved, sum_by-there, remnant_some, applied, applied_moves}
use Rattle.cedr_table.specs.Counted.{SameAmong}
use Rattle.cedr_table.specs.Operators.{Tables, table_at, with_table, least_of, AllRise, CanTake, SameTables}
use Rattle.cedr_table.specs.PortLaws.{same_at, same_length, rise_length, least_below, least_rises}
use Rattle.cedr_table.proofs.FilterLemmas.{among_itself, among_along, among_same, among_fewer, among_moved, filtered_same}
use Rattle.pat_state.specs.Starts.{endless, all_endless, endless_tables, scope_reaches, HasRow}
use Rattle.pat_state.specs.Answers.{AllAmong, StandsByBegin, IsKeptStep}
use Rattle.pat_state.proofs.StepLemmas.{kept_rows}

-- a count of rows without their ends is a sum over the rows
pub count_endless : (r : Row) (rows : List Row) → count_of r (all_endless rows) ≡ sum_by (λ x. one_if_same r (endless x)) rows
count_endless r [] = refl
count_endless r (x ∷ rows) = omega (arith, sum_by-cons (one_if_same r) (endless x) (all_endless rows), sum_by-cons (λ x. one_if_same r (endless x)) x rows, count_endless r rows)

-- bags that are the same are so without the ends of their rows, too
pub same_endless : (xs ys : List Row) → SameRows xs ys → SameRows (all_endless xs) (all_endless ys)
same_endless xs ys h = record { each = λ r. count_endless r xs ∙ (sum_by-same (λ x. one_if_same r (endless x)) xs ys h ∙ sym (count_endless r ys)) }

-- what follows a change of a table follows the change of what is kept of it
pub kept_moved : (c : Change) (kept kept' old new : List Row) → SameRows kept (all_endless old) → SameRows (kept' ++ all_endless (takes c)) (kept ++ all_endless (puts c)) → IsMoved c old new → SameRows kept' (all_endless new)
kept_moved c kept kept' old new was step moved = record {
  each = λ r. omega (
    arith,
    was.each r,
    step.each r,
    count_of-append r kept' (all_endless (takes c)),
    count_of-append r kept (all_endless (puts c)),
    count_endless r old,
    count_endless r new,
    count_endless r (takes c),
    count_endless r (puts c),
    sum_by-moved (λ x. one_if_same r (endless x)) c old new moved.sums,
  );
}

-- a row that may be cut is kept
pub has_row : (c : Change) (kept table : List Row) → SameRows kept (all_endless table) → MayFollow table [] c → HasRow kept c
has_row (Add a) kept table same may = tt
has_row (Cut a e) kept table same may =
    omega (arith, same.each (endless a), count_endless (endless a) table, sum_by-there (λ x. one_if_same (endless a) (endless x)) (Cut a e) table may, one_of_itself (endless a))

-- the table of a port among tables without ends is its table without ends
pub endless_at : (tables : Tables) (port : ℕ) → table_at (endless_tables tables) port ≡ all_endless (table_at tables port)
endless_at [] port = refl
endless_at (t ∷ ts) zero = refl
endless_at (t ∷ ts) (suc port) = endless_at ts port

-- a table may be put on a port before or after the ends are left out
pub endless_with : (tables : Tables) (port : ℕ) (rows : List Row) → endless_tables (with_table tables port rows) ≡ with_table (endless_tables tables) port (all_endless rows)
endless_with [] port rows = refl
endless_with (t ∷ ts) zero rows = refl
endless_with (t ∷ ts) (suc port) rows = ap (λ us. all_endless t ∷ us) (endless_with ts port rows)

-- tables that are the same bags are so without the ends of their rows, too
pub same_tables : (ts us : Tables) → SameTables ts us → SameTables (endless_tables ts) (endless_tables us)
same_tables [] [] h = tt
same_tables [] (u ∷ us) h = absurd h
same_tables (t ∷ ts) [] h = absurd h
same_tables (t ∷ ts) (u ∷ us) h = (same_endless t u h.0, same_tables ts us h.1)

-- tables are the same bags as themselves
pub tables_itself : (ts : Tables) → SameTables ts ts
tables_itself [] = tt
tables_itself (t ∷ ts) = (same_itself t, tables_itself ts)

-- where tables are the same bags as others, and these as third ones, the first are the same as the third
pub tables_along : (ts us vs : Tables) → SameTables ts us → SameTables us vs → SameTables ts vs
tables_along [] [] [] h k = tt
tables_along [] [] (v ∷ vs) h k = absurd k
tables_along [] (u ∷ us) vs h k = absurd h
tables_along (t ∷ ts) [] vs h k = absurd h
tables_along (t ∷ ts) (u ∷ us) [] h k = absurd k
tables_along (t ∷ ts) (u ∷ us) (v ∷ vs) h k = (same_along t u v h.0 k.0, tables_along ts us vs h.1 k.1)

-- tables that are the same but on one port
pub same_with : (ts us : Tables) (port : ℕ) (xs ys : List Row) → SameTables ts us → SameRows xs ys → SameTables (with_table ts port xs) (with_table us port ys)
same_with [] [] port xs ys h k = tt
same_with [] (u ∷ us) port xs ys h k = absurd h
same_with (t ∷ ts) [] port xs ys h k = absurd h
same_with (t ∷ ts) (u ∷ us) zero xs ys h k = (k, h.1)
same_with (t ∷ ts) (u ∷ us) (suc port) xs ys h k = (h.0, same_with ts us port xs ys h.1 k)

-- another table on a port leaves the number of tables as it is
pub length-with : (tables : Tables) (port : ℕ) (rows : List Row) → length (with_table tables port rows) ≡ length tables
length-with [] port rows = refl
length-with (t ∷ ts) zero rows = refl
length-with (t ∷ ts) (suc port) rows = ap (λ n. suc n) (length-with ts port rows)

among_alike : (p : Row → Bool) (ts us vs : Tables) → SameTables us vs → AllAmong p ts us → AllAmong p ts vs
among_alike p [] [] [] same are = tt
among_alike p [] [] (v ∷ vs) same are = absurd same
among_alike p [] (u ∷ us) vs same are = absurd are
among_alike p (t ∷ ts) [] vs same are = absurd are
among_alike p (t ∷ ts) (u ∷ us) [] same are = absurd same
among_alike p (t ∷ ts) (u ∷ us) (v ∷ vs) same are = (among_along p t u v are.0 (among_same p u v same.0), among_alike p ts us vs same.1 are.1)

among_later : (p q : Row → Bool) (ts us : Tables) → ((r : Row) → q r ≡ true → p r ≡ true) → AllAmong p ts us → AllAmong q ts us
among_later p q [] [] stricter are = tt
among_later p q [] (u ∷ us) stricter are = absurd are
among_later p q (t ∷ ts) [] stricter are = absurd are
among_later p q (t ∷ ts) (u ∷ us) stricter are = (among_fewer p q t u stricter are.0, among_later p q ts us stricter are.1)

-- so are those of one port
pub among_at : (p : Row → Bool) (ts us : Tables) (port : ℕ) → AllAmong p ts us → SameAmong p (table_at ts port) (table_at us port)
among_at p [] [] port are = among_itself p []
among_at p [] (u ∷ us) port are = absurd are
among_at p (t ∷ ts) [] port are = absurd are
among_at p (t ∷ ts) (u ∷ us) zero are = are.0
among_at p (t ∷ ts) (u ∷ us) (suc port) are = among_at p ts us port are.1

among_with : (p : Row → Bool) (ts us : Tables) (port : ℕ) (xs ys : List Row) → AllAmong p ts us → SameAmong p xs ys → AllAmong p (with_table ts port xs) (with_table us port ys)
among_with p [] [] port xs ys are here = tt
among_with p [] (u ∷ us) port xs ys are here = absurd are
among_with p (t ∷ ts) [] port xs ys are here = absurd are
among_with p (t ∷ ts) (u ∷ us) zero xs ys are here = (here, are.1)
among_with p (t ∷ ts) (u ∷ us) (suc port) xs ys are here = (are.0, among_with p ts us port xs ys are.1 here)

all_among : (p : Row → Bool) (ts : Tables) → AllAmong p ts ts
all_among p [] = tt
all_among p (t ∷ ts) = (among_itself p t, all_among p ts)

-- on each port the rows that pass are the same bag
pub filtered_tables : (p : Row → Bool) (ts us : Tables) → AllAmong p ts us → SameTables (map (filter p) ts) (map (filter p) us)
filtered_tables p [] [] are = tt
filtered_tables p [] (u ∷ us) are = absurd are
filtered_tables p (t ∷ ts) [] are = absurd are
filtered_tables p (t ∷ ts) (u ∷ us) are = (filtered_same p t u are.0, filtered_tables p ts us are.1)

-- what reaches beyond a later time reaches beyond an earlier one
reaches_earlier : (scope time until : ℕ) (r : Row) → time ≤ until → scope_reaches scope until r ≡ true → scope_reaches scope time r ≡ true
reaches_earlier scope time until r rise h = let ends = ltb-true until (later r.begin scope) h in lt-ltb time (later r.begin scope) (omega arith)

-- a row that begins at a time or later reaches beyond it
pub reaches_itself : (scope time : ℕ) (r : Row) → 1 ≤ scope → r.begin < FOREVER → time ≤ r.begin → scope_reaches scope time r ≡ true
reaches_itself scope time r long finite from = lt-ltb time (later r.begin scope) (omega arith)

-- the kept rows stand for the same bags
pub stands_alike : {range : Type 0} (scope : ℕ) (kept tables others : Tables) (marks : List ℕ) → SameTables tables others → StandsByBegin range scope kept tables marks → StandsByBegin range scope kept others marks
stands_alike scope kept tables others marks same h = record {
  range = h.range;
  table = same_length tables others same ∙ h.table;
  mark = h.mark;
  left = h.left;
  same = among_alike (scope_reaches scope (least_of marks)) h.left tables others same h.same;
  rows = h.rows;
}

-- they stand for greater marks
pub stands_later : {range : Type 0} (scope : ℕ) (kept tables : Tables) (marks later : List ℕ) → StandsByBegin range scope kept tables marks → AllRise marks later → StandsByBegin range scope kept tables later
stands_later scope kept tables marks later h rise = record {
  range = h.range;
  table = h.table;
  mark = rise_length marks later rise ∙ h.mark;
  left = h.left;
  same = among_later (scope_reaches scope (least_of marks)) (scope_reaches scope (least_of later)) h.left tables (λ r reach. reaches_earlier scope (least_of marks) (least_of later) r (least_rises marks later rise) reach) h.same;
  rows = h.rows;
}

module _ {range : Type 0} (scope : ℕ) (kept tables : Tables) (marks : List ℕ) (port : ℕ) (h : StandsByBegin range scope kept tables marks) where
  -- the kept rows of a port are those that are left of its table
  pub kept_at : SameRows (table_at kept port) (all_endless (table_at h.left port))
  kept_at = subst (SameRows (table_at kept port)) (endless_at h.left port) (same_at port kept (endless_tables h.left) h.rows)

  -- these are the table's among the rows whose scope ends after the least mark
  pub left_at : SameAmong (scope_reaches scope (least_of marks)) (table_at h.left port) (table_at tables port)
  left_at = among_at (scope_reaches scope (least_of marks)) h.left tables port h.same

  -- the row that a change cuts is kept where it is left
  pub stands_has : (c : Change) → MayFollow (table_at h.left port) [] c → HasRow (table_at kept port) c
  stands_has c may = has_row c (table_at kept port) (table_at h.left port) kept_at may

  -- rows of the port stand for another table, with what is left of that
  stands_with : (rows left after : List Row) → SameAmong (scope_reaches scope (least_of marks)) left after → SameRows rows (all_endless left) → StandsByBegin range scope (with_table kept port rows) (with_table tables port after) marks
  stands_with rows left after among same = record {
    range = h.range;
    table = length-with tables port after ∙ (h.table ∙ sym (length-with kept port rows));
    mark = h.mark ∙ sym (length-with kept port rows);
    left = with_table h.left port left;
    same = among_with (scope_reaches scope (least_of marks)) h.left tables port left after h.same among;
    rows = subst (SameTables (with_table kept port rows)) (sym (endless_with h.left port left)) (same_with kept (endless_tables h.left) port rows (all_endless left) h.rows same);
  }

  -- they stand for the tables after a change that may follow in what is left
  pub stands_after : (c : Change) (rows after : List Row) → MayFollow (table_at h.left port) [] c → SameRows (rows ++ all_endless (takes c)) (table_at kept port ++ all_endless (puts c)) → IsMoved c (table_at tables port) after
      → StandsByBegin range scope (with_table kept port rows) (with_table tables port after) marks
  stands_after c rows after may step moved = stands_with rows (applied c (table_at h.left port)) after
      (among_moved (scope_reaches scope (least_of marks)) c (table_at h.left port) (table_at tables port) after left_at may moved)
      (kept_moved c (table_at kept port) rows (table_at h.left port) (applied c (table_at h.left port)) kept_at step (applied_moves c (table_at h.left port) may))

with_itself : (tables : Tables) (port : ℕ) → with_table tables port (table_at tables port) ≡ tables
with_itself [] port = refl
with_itself (t ∷ ts) zero = refl
with_itself (t ∷ ts) (suc port) = ap (λ us. t ∷ us) (with_itself ts port)

module _ {range : Type 0} (scope : ℕ) (kept tables : Tables) (marks : List ℕ) (port : ℕ) (h : StandsByBegin range scope kept tables marks) (c : Change) (can : CanTake tables marks port c) where
  -- a change isn't seen before the least mark
  pub from_least : least_of marks ≤ sync_of c
  from_least =
      let within = can.port_is in
      let sizes = h.table in
      let lengths = h.mark in
      let below = least_below port marks (omega arith) in
      let from = can.from in
      omega arith

  -- an addition may follow in what is left
  pub left_adds : (x : Row) → c ≡ Add x → MayFollow (table_at h.left port) [] c
  left_adds x is = subst (MayFollow (table_at h.left port) []) (sym is) (subst (MayFollow (table_at tables port) []) is can.legal)

  -- so may the withdrawal of a row
  pub left_withdraws : (x : Row) (end : ℕ) → 1 ≤ scope → c ≡ Cut x end → end ≤ x.begin → MayFollow (table_at h.left port) [] c
  left_withdraws x end long is gone =
      let may = subst (MayFollow (table_at tables port) []) is can.legal in
      let there = may.1 in
      let finite = may.0.0.begins in
      let from : least_of marks ≤ end = subst (λ (d : Change). least_of marks ≤ sync_of d) is from_least in
      let all = (left_at scope kept tables marks port h).each x (reaches_itself scope (least_of marks) x long finite (omega arith)) in
      subst (MayFollow (table_at h.left port) []) (sym is) (may.0, omega (arith, all, there))

  apart_at : (x : Row) (r : Row) (b : Bool) → same_row r x ≡ b → scope_reaches scope (least_of marks) x ≡ false → scope_reaches scope (least_of marks) r ≡ true → cond {A = ℕ} b 1 0 ≡ 0
  apart_at x r true same none reach = let e = ap (scope_reaches scope (least_of marks)) (same_row_exact r x same) in cc
  apart_at x r false same none reach = refl

  still_at : (x : Row) (end : ℕ) (after : List Row) (b : Bool) → scope_reaches scope (least_of marks) x ≡ b → c ≡ Cut x end → x.begin < end → IsMoved c (table_at tables port) after
      → StandsByBegin range scope (with_table kept port (table_at kept port)) (with_table tables port after) marks
  still_at x end after true reach is lives moved =
      let may = subst (MayFollow (table_at tables port) []) is can.legal in
      let there = may.1 in
      let all = (left_at scope kept tables marks port h).each x reach in
      stands_after scope kept tables marks port h c (table_at kept port) after (subst (MayFollow (table_at h.left port) []) (sym is) (may.0, omega (arith, all, there))) (kept_rows c x end (table_at kept port) is lives) moved
  still_at x end after false reach is lives moved =
      let sums = subst (λ (d : Change). SameRows (after ++ takes d) (table_at tables port ++ puts d)) is moved.sums in
      let among = left_at scope kept tables marks port h in
      stands_with scope kept tables marks port h (table_at kept port) (table_at h.left port) after
      (record {
        each = λ r passes. omega (
          arith,
          among.each r passes,
          sums.each r,
          count_of-append r after (x ∷ []),
          count_of-append r (table_at tables port) (puts (Cut x end)),
          ap (count_of r) (remnant_some x end lives),
          count_of-cons r x [],
          count_of-cons r (record x { end = end }) [],
          apart_at x r (same_row r x) refl reach passes,
          apart_at (record x { end = end }) r (same_row r (record x { end = end })) refl reach passes,
        );
      })
      (kept_at scope kept tables marks port h)

  -- the kept rows stand for the tables after a row ends earlier, too
  pub stands_still : (x : Row) (end : ℕ) (after : List Row) → c ≡ Cut x end → x.begin < end → IsMoved c (table_at tables port) after → StandsByBegin range scope kept (with_table tables port after) marks
  stands_still x end after is lives moved =
      subst (λ (us : Tables). StandsByBegin range scope us (with_table tables port after) marks) (with_itself kept port)
      (still_at x end after (scope_reaches scope (least_of marks) x) refl is lives moved)

empty_tables : (ports : ℕ) → SameTables (replicate ports []) (endless_tables (replicate ports []))
empty_tables zero = tt
empty_tables (suc ports) = (record { each = λ r. refl }, empty_tables ports)

-- nothing kept stands for empty tables
pub stands_new : {range : Type 0} (scope ports : ℕ) → range → StandsByBegin range scope (replicate ports []) (replicate ports []) (replicate ports 0)
stands_new scope ports in_range = record {
  range = in_range;
  table = refl;
  mark = length-replicate ports 0 ∙ sym (length-replicate ports []);
  left = replicate ports [];
  same = all_among (scope_reaches scope (least_of (replicate ports 0))) (replicate ports []);
  rows = empty_tables ports;
}

-- the tables that a row that ends earlier leaves are alike but for the ends of their rows
pub tables_ends : (tables : Tables) (port : ℕ) (c : Change) (x : Row) (end : ℕ) (after : List Row) → c ≡ Cut x end → x.begin < end → IsMoved c (table_at tables port) after → SameTables (endless_tables tables) (endless_tables (with_table tables port after))
tables_ends tables port c x end after is lives moved =
    let was = all_endless (table_at tables port) in
    let now = kept_moved c was was (table_at tables port) after (same_itself was) (kept_rows c x end was is lives) moved in
    subst (SameTables (endless_tables tables)) (sym (endless_with tables port after))
    (subst (λ (us : Tables). SameTables us (with_table (endless_tables tables) port (all_endless after))) (with_itself (endless_tables tables) port)
    (same_with (endless_tables tables) (endless_tables tables) port (table_at (endless_tables tables) port) (all_endless after) (tables_itself (endless_tables tables)) (subst (λ rows. SameRows rows (all_endless after)) (sym (endless_at tables port)) now)))

-- the kept rows stand for the tables after a change that may follow in what is left
pub stands_step : (in_range : ℕ → Type 0) (scope : ℕ) (kept kept' tables : Tables) (marks : List ℕ) (port : ℕ) (c : Change) (after : List Row) → (stands : StandsByBegin (in_range (length kept)) scope kept tables marks) → MayFollow (table_at stands.left port) [] c → IsMoved c (table_at tables port) after → IsKeptStep kept kept' port c
    → StandsByBegin (in_range (length kept')) scope kept' (with_table tables port after) marks
stands_step in_range scope kept kept' tables marks port c after stands may moved step =
    let next = stands_after scope kept tables marks port stands c step.rows after may step.step moved in
    subst (λ (us : Tables). StandsByBegin (in_range (length us)) scope us (with_table tables port after) marks) (sym step.kept_is)
    (record {
      range = subst in_range (sym (length-with kept port step.rows)) stands.range;
      table = next.table;
      mark = next.mark;
      left = next.left;
      same = next.same;
      rows = next.rows;
    })

-- bags with no row stand for empty tables
pub stands_empty : (in_range : ℕ → Type 0) (scope ports : ℕ) (kept : Tables) → in_range ports → kept ≡ replicate ports [] → StandsByBegin (in_range (length kept)) scope kept (replicate ports []) (replicate ports 0)
stands_empty in_range scope ports kept range is =
    subst (λ (us : Tables). StandsByBegin (in_range (length us)) scope us (replicate ports []) (replicate ports 0)) (sym is)
    (stands_new scope ports (subst in_range (sym (length-replicate {A = List Row} ports [])) range))
