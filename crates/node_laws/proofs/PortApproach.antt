-- What a port that forgets nothing passed on of a list that is on the way to a table.
use Rattle.std.proofs.Common.{◌≡◌, ◌≤◌, List, Bool, true, false, refl, ap, sym, subst, arith}
use Rattle.std.specs.Prelude.{Some, None}
use Rattle.cedr_base.specs.declared.level.Level.{Level}
use Rattle.cedr_base.specs.declared.row.Row.{Row}
use Rattle.cedr_base.specs.declared.change.Message.{Message}
use Rattle.cedr_base.specs.Rows.{count_of, AreRows, SameRows}
use Rattle.cedr_base.specs.Messages.{IsTableOf, mark_of}
use Rattle.change_laws.specs.Agreeing.{AgreeUpTo}
use Rattle.change_laws.proofs.AgreeLemmas.{agree_earlier, agree_back, agree_along, agree_same, table_rows}
use Rattle.node_laws.specs.Kept.{kept_table}
use Rattle.node_laws.specs.Pass.{has_end, held, passed_table, front_at, front, pass}
use Rattle.node_laws.proofs.Holds.{least-mark}
use Rattle.node_laws.proofs.Middle.{middle_held, middle_table, ended_passed}
use Rattle.node_laws.proofs.PassedAgree.{passed_agrees}
use Rattle.node_laws.proofs.Passes.{one_table, table_alike, passes}
use Rattle.node_laws.proofs.Steps.{count-both}
use Rattle.node_laws.specs.Approaching.{Approaches}

-- before the end the front isn't above the mark
front_low : (level : Level) (ms : List Message) → has_end ms ≡ false → front level ms ≤ mark_of ms
front_low level ms going = let e = ap (λ (b : Bool). front_at b (mark_of ms) (held level ms)) going in omega (arith, e, least-mark (mark_of ms) (held level ms))

module _ (level : Level) (ms : List Message) (rows : List Row) (endless : level.memory ≡ None) (a : Approaches ms rows) where
  -- all that came is kept
  pub kept_all : IsTableOf ms (kept_table level.memory ms)
  kept_all =
      let open_level : Level = record { block = Some 0; memory = level.memory } in
      table_alike ms (passed_table open_level ms) (kept_table level.memory ms) (record { each = λ r. omega (arith, count-both open_level ms r, ap (count_of r) (middle_held open_level ms refl)) }) (middle_table open_level ms refl endless a.legal)

  -- the kept table agrees with that table up to the mark
  pub kept_agrees : AgreeUpTo (mark_of ms) (kept_table level.memory ms) rows
  kept_agrees = a.agrees (kept_table level.memory ms) kept_all

  -- after the end what was passed is that table
  pub passed_whole : has_end ms ≡ true → SameRows (passed_table level ms) rows
  passed_whole ended = one_table ms (passed_table level ms) rows (subst (λ (t : List Row). IsTableOf ms t) (sym (ended_passed level ms ended)) kept_all) (a.whole ended)

  passed_at : (b : Bool) → has_end ms ≡ b → AgreeUpTo (front level ms) (passed_table level ms) rows
  passed_at true ended = agree_same (front level ms) (passed_table level ms) rows (passed_whole ended)
  passed_at false going =
      agree_along (front level ms) (passed_table level ms) (kept_table level.memory ms) rows (agree_back (front level ms) (kept_table level.memory ms) (passed_table level ms) (passed_agrees level ms))
      (agree_earlier (front level ms) (mark_of ms) (kept_table level.memory ms) rows (front_low level ms going) kept_agrees)

  -- what was passed agrees with that table up to the front
  pub port_agrees : AgreeUpTo (front level ms) (passed_table level ms) rows
  port_agrees = passed_at (has_end ms) refl

  -- what was passed has rows only
  pub passed_rows : AreRows (passed_table level ms)
  passed_rows = table_rows (pass level ms) (passed_table level ms) ((passes level ms a.legal).legal) ((passes level ms a.legal).table)
