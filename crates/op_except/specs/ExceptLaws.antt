-- The laws of except.
use Rattle.std.proofs.Common.{◌≡◌, ℕ, zero, suc, ◌≤◌, List, [], ◌∷◌, refl, sym, ◌∙◌, subst, arith, true}
use Rattle.std.specs.Prelude.{length}
use Rattle.std.specs.List.{flat_map}
use Rattle.cedr_base.specs.declared.row.Row.{Row}
use Rattle.cedr_base.specs.declared.change.Change.{Change}
use Rattle.cedr_base.specs.Rows.{one_if_same, AreRows, SameRows}
use Rattle.change_laws.specs.Repairs.{IsMoved}
use Rattle.change_laws.proofs.AgreeLemmas.{agree_itself, leads_agree}
use Rattle.change_laws.proofs.BagSums.{sum_by-same, same_along, same_back, same_flat_map}
use Rattle.change_laws.proofs.Moves.{may_is}
use Rattle.change_laws.proofs.RepairLemmas.{own_repair}
use Rattle.cedr_table.specs.Operators.{Tables, table_at, with_table, CanTake, AllRise, SameTables, least_of}
use Rattle.cedr_table.specs.PortLaws.{rise_length, same_length, same_at, least_rises, least_is_time, least_below, table_at-with, table_at-with_other}
use Rattle.cedr_table.specs.OperatorLaws.{OperatorLaws}
use Rattle.cedr_table.proofs.PortsAgree.{RowsAgree}
use Rattle.cedr_table.proofs.RowsLemmas.{same_are, moved_are}
use Rattle.cedr_table.proofs.FilterLemmas.{among_along, among_same, among_fewer}
use Rattle.std.proofs.lemmas.Bool.{leb-true, le-leb}
use Rattle.cedr_expr.specs.declared.test.Test.{Test}
use Rattle.op_except.specs.Parts.{excepted, all_excepted, growing_from, except_of}
use Rattle.op_except.specs.PartLaws.{same_excepted, excepted_agree}
use Rattle.op_except.specs.OpenLaws.{open_sees, open_at_least, open_mark, open_rises}
use Rattle.op_except.specs.Parts.{open_below}
use Rattle.op_except.specs.declared.except.Except.{Except}
use Rattle.op_except.specs.declared.lives.Lives.{Lives}
use Rattle.op_except.specs.Lives.{bares, life_row, lasts_to}
use Rattle.op_except.specs.Standing.{KeptRows, SidesStand, KnowsLives, ExceptStands}

-- results of tables that agree up to the least mark have the same bound
pub same_open : (tests : List Test) (mark : ℕ) (xs ys bs cs : List Row) → RowsAgree mark xs ys → RowsAgree mark bs cs → growing_from mark (flat_map (excepted tests bs) xs) ≤ growing_from mark (flat_map (excepted tests cs) ys)
same_open tests mark xs ys bs cs h k =
    open_at_least mark (flat_map (excepted tests bs) xs) (flat_map (excepted tests cs) ys)
    (λ n. excepted_agree tests mark (open_below mark n) xs ys bs cs (open_sees mark n) h.rows h.others k.rows k.others h.agree k.agree)

-- a table that took a change from a time on agrees up to it
pub took_agrees : (t : ℕ) (tables : Tables) (marks : List ℕ) (port : ℕ) (change : Change) (after : List Row) → length tables ≡ length marks → t ≤ least_of marks → AreRows (table_at tables port)
    → CanTake tables marks port change → IsMoved change (table_at tables port) after → RowsAgree t (table_at tables port) (table_at (with_table tables port after) port)
took_agrees t tables marks port change after sizes below are can moved =
    let old = table_at tables port in
    let is = may_is old [] change can.legal in
    let port_is = can.port_is in
    let from = can.from in
    let late : t ≤ _ = omega (arith, least_below port marks (omega arith)) in
    subst (λ (rows : List Row). RowsAgree t old rows) (sym (table_at-with tables port after port_is))
    (record {
      agree = leads_agree t old after (change ∷ []) (is, tt) (late, tt) ((own_repair old after t change can.legal late moved).leads);
      rows = are;
      others = moved_are change old after is moved are;
    })

-- and one that took none
pub stays_agrees : (t : ℕ) (tables : Tables) (port k : ℕ) (after : List Row) → AreRows (table_at tables k) → (k ≡ port → ⊥) → RowsAgree t (table_at tables k) (table_at (with_table tables port after) k)
stays_agrees t tables port k after are other =
    subst (λ (rows : List Row). RowsAgree t (table_at tables k) rows) (sym (table_at-with_other tables port k after other))
    (record { agree = agree_itself t (table_at tables k); rows = are; others = are })

-- the bound stays or rises where a legal change comes
bound_stays_at : (tests : List Test) (lefts rights : List Row) (tables : Tables) (marks : List ℕ) (port : ℕ) (change : Change) (after : List Row) → KeptRows lefts rights tables marks
    → CanTake tables marks port change → IsMoved change (table_at tables port) after
    → growing_from (least_of marks) (all_excepted tests tables) ≤ growing_from (least_of marks) (all_excepted tests (with_table tables port after))
bound_stays_at tests lefts rights tables marks zero change after h can moved =
    let sizes : length tables ≡ length marks = h.table ∙ sym h.mark in
    same_open tests (least_of marks) _ _ _ _
    (took_agrees (least_of marks) tables marks 0 change after sizes (omega arith) h.left_rows can moved)
    (stays_agrees (least_of marks) tables 0 1 after h.right_rows (λ e. omega arith))
bound_stays_at tests lefts rights tables marks (suc zero) change after h can moved =
    let sizes : length tables ≡ length marks = h.table ∙ sym h.mark in
    same_open tests (least_of marks) _ _ _ _
    (stays_agrees (least_of marks) tables 1 0 after h.left_rows (λ e. omega arith))
    (took_agrees (least_of marks) tables marks 1 change after sizes (omega arith) h.right_rows can moved)
bound_stays_at tests lefts rights tables marks (suc (suc port)) change after h can moved =
    let size = h.table in let within = can.port_is in absurd (omega arith)

kept_alike : (lefts rights : List Row) (tables others : Tables) (marks : List ℕ) → SameTables tables others → KeptRows lefts rights tables marks → KeptRows lefts rights others marks
kept_alike lefts rights tables others marks k h = record {
  table = same_length tables others k ∙ h.table;
  mark = h.mark;
  lefts_gone = h.lefts_gone;
  rights_gone = h.rights_gone;
  left = same_along _ _ _ h.left (same_at 0 tables others k);
  right = same_along _ _ _ h.right (same_at 1 tables others k);
  left_rows = same_are _ _ (same_back _ _ (same_at 0 tables others k)) h.left_rows;
  right_rows = same_are _ _ (same_back _ _ (same_at 1 tables others k)) h.right_rows;
  lefts_ended = h.lefts_ended;
  rights_ended = h.rights_ended;
  apart = h.apart;
}

pub kept_later : (lefts rights : List Row) (tables : Tables) (marks later : List ℕ) → AllRise marks later → KeptRows lefts rights tables marks → KeptRows lefts rights tables later
kept_later lefts rights tables marks later k h = record {
  table = h.table;
  mark = rise_length marks later k ∙ h.mark;
  lefts_gone = h.lefts_gone;
  rights_gone = h.rights_gone;
  left = h.left;
  right = h.right;
  left_rows = h.left_rows;
  right_rows = h.right_rows;
  lefts_ended = λ r there. let e = h.lefts_ended r there in omega (arith, least_rises marks later k);
  rights_ended = λ r there. let e = h.rights_ended r there in omega (arith, least_rises marks later k);
  apart = h.apart;
}

sides_alike : (op : Except) (tables others : Tables) (marks : List ℕ) → SameTables tables others → SidesStand op tables marks → SidesStand op others marks
sides_alike op tables others marks k h = record {
  lefts = h.lefts;
  rights = h.rights;
  kept = kept_alike h.lefts h.rights tables others marks k h.kept;
  left = h.left;
  right = h.right;
  lives_are = h.lives_are;
  lives = h.lives;
}

pub sides_later : (op : Except) (tables : Tables) (marks later : List ℕ) → AllRise marks later → SidesStand op tables marks → SidesStand op tables later
sides_later op tables marks later k h = record {
  lefts = h.lefts;
  rights = h.rights;
  kept = kept_later h.lefts h.rights tables marks later k h.kept;
  left = h.left;
  right = h.right;
  lives_are = h.lives_are;
  lives = h.lives;
}

-- tables that are the same bags have the same result
pub same_result : (tests : List Test) (tables others : Tables) → SameTables tables others → SameRows (all_excepted tests tables) (all_excepted tests others)
same_result tests tables others k = record { each = λ r. same_excepted tests (one_if_same r) _ _ _ _ (same_at 0 tables others k) (same_at 1 tables others k) }

bound_below : (mark : ℕ) (rows others : List Row) → SameRows rows others → growing_from mark rows ≤ growing_from mark others
bound_below mark rows others same = open_at_least mark rows others (λ k. sum_by-same (open_below mark k) rows others same)

-- and the same bound
pub same_bound : (tests : List Test) (tables others : Tables) (marks : List ℕ) → SameTables tables others → growing_from (least_of marks) (all_excepted tests tables) ≡ growing_from (least_of marks) (all_excepted tests others)
same_bound tests tables others marks k =
    let same = same_result tests tables others k in
    omega (arith, bound_below (least_of marks) (all_excepted tests tables) (all_excepted tests others) same, bound_below (least_of marks) (all_excepted tests others) (all_excepted tests tables) (same_back _ _ same))

lives_alike : (known : Lives) (mark : ℕ) (rows others : List Row) → SameRows rows others → KnowsLives known mark rows → KnowsLives known mark others
lives_alike known mark rows others same h = record {
  lives_are = h.lives_are;
  same = among_along (lasts_to mark) known.by_end (bares rows) (bares others) h.same (among_same (lasts_to mark) (bares rows) (bares others) (same_flat_map (λ r. life_row r.begin r.end ∷ []) rows others same));
}

pub reaches_later : (mark later : ℕ) (r : Row) → mark ≤ later → lasts_to later r ≡ true → lasts_to mark r ≡ true
reaches_later mark later r rise is = let late = leb-true later r.end is in le-leb mark r.end (omega arith)

pub lives_later : (known : Lives) (mark later : ℕ) (rows : List Row) → mark ≤ later → KnowsLives known mark rows → KnowsLives known later rows
lives_later known mark later rows rise h = record {
  lives_are = h.lives_are;
  same = among_fewer (lasts_to mark) (lasts_to later) known.by_end (bares rows) (λ r late. reaches_later mark later r rise late) h.same;
}

-- the laws of the meaning of an except, and of what its state stands for
pub except_laws : (op : Except) → OperatorLaws (except_of op.tests) (ExceptStands op)
except_laws op = record {
  sized = λ tables marks h. (h.sides.kept.table, h.sides.kept.mark);
  rising = λ tables marks later h k. record { sides = sides_later op tables marks later k h.sides; parts = lives_later op.parts (least_of marks) (least_of later) (all_excepted op.tests tables) (least_rises marks later k) h.parts };
  alike = λ tables others marks k h. record { sides = sides_alike op tables others marks k h.sides; parts = lives_alike op.parts (least_of marks) (all_excepted op.tests tables) (all_excepted op.tests others) (same_result op.tests tables others k) h.parts };
  same_rows = λ tables others k. same_result op.tests tables others k;
  nothing = record { each = λ r. refl };
  bound_rises = λ tables marks later h k. open_rises (least_of marks) (least_of later) (all_excepted op.tests tables) (least_rises marks later k);
  bound_stays = λ tables marks port change after h can moved. bound_stays_at op.tests h.sides.lefts h.sides.rights tables marks port change after h.sides.kept can moved;
  bound_is_time = λ tables marks h k. omega (arith, open_mark (least_of marks) (all_excepted op.tests tables), least_is_time marks);
  echo_bound = λ tables marks e h. cc;
}
