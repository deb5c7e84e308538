-- What the ports of a run passed on, over the whole tables of the lists that came.
use Rattle.std.proofs.Common.{◌≡◌, ℕ, List, [], ◌++◌, true, ap, ◌∙◌, arith}
use Rattle.std.specs.Prelude.{Option, None}
use Rattle.std.proofs.lemmas.List.{append-nil}
use Rattle.cedr_base.specs.declared.level.Level.{Level}
use Rattle.cedr_base.specs.declared.row.Row.{Row}
use Rattle.cedr_base.specs.declared.change.Message.{Message}
use Rattle.cedr_base.specs.Rows.{count_of, SameRows}
use Rattle.cedr_base.specs.Changes.{all_puts, all_takes}
use Rattle.cedr_base.specs.Messages.{changes_of, IsTableOf, IsLegal}
use Rattle.cedr_base.proofs.Bags.{count_of-append}
use Rattle.change_laws.proofs.RepairLemmas.{takes-append, puts-append}
use Rattle.node_laws.specs.declared.forgotten.Forgotten.{Forgotten}
use Rattle.node_laws.specs.Kept.{kept, forgot, changes_in, kept_table}
use Rattle.node_laws.specs.Pass.{has_end, passed_table}
use Rattle.node_laws.proofs.Order.{count-less}
use Rattle.node_laws.proofs.Middle.{middle_table, ended_passed}
use Rattle.node_laws.proofs.Parts.{all_put, all_taken, kept_sound}
use Rattle.node_laws.proofs.Parts as parts
use Rattle.plan_runs.specs.Middle.{IsMiddle}
use Rattle.plan_runs.specs.Without.{left_out}
use Rattle.node_laws.proofs.Passes.{one_table}

-- the kept table is the whole one less what was forgotten
pub kept_left : (level : Level) (ms : List Message) (rows : List Row) → IsLegal ms → IsTableOf ms rows → SameRows (kept_table level.memory ms) (left_out rows (forgot level.memory ms))
kept_left level ms rows legal table =
    let k = kept level.memory ms in
    let f = changes_in (forgot level.memory ms) in
    record {
      each = λ r. omega (
        arith,
        (all_put level.memory ms).each r,
        puts-append r (kept level.memory ms) f,
        (all_taken level.memory ms).each r,
        takes-append r (kept level.memory ms) f,
        (kept_sound level ms legal).each r,
        count_of-append r (kept_table level.memory ms) (all_takes k),
        table.sums.each r,
        count_of-append r rows (all_takes (changes_of ms)),
        count-less r (rows ++ all_takes f) (all_puts f),
        count_of-append r rows (all_takes f),
      );
    }

-- after its end a port passed the whole table less what it forgot
pub ended_left : (level : Level) (ms : List Message) (rows : List Row) → IsLegal ms → has_end ms ≡ true → IsTableOf ms rows → SameRows (passed_table level ms) (left_out rows (forgot level.memory ms))
ended_left level ms rows legal ended table = record { each = λ r. ap (count_of r) (ended_passed level ms ended) ∙ (kept_left level ms rows legal table).each r }

-- a port without a limit on its memory forgets nothing of a legal list
pub none_forgot : (level : Level) (ms : List Message) → level.memory ≡ None → IsLegal ms → forgot level.memory ms ≡ []
none_forgot level ms endless legal = ap (λ (memory : Option ℕ). forgot memory ms) endless ∙ parts.none_forgot ms legal

-- where nothing was forgotten, nothing is left out of a table
pub left_none : (rows : List Row) (fs : List Forgotten) → fs ≡ [] → left_out rows fs ≡ rows
left_none rows fs e = ap (left_out rows) e ∙ append-nil rows

-- the passed table of a middle port is the whole one
pub middle_passed : (level : Level) (ms : List Message) (rows : List Row) → IsMiddle level → IsLegal ms → IsTableOf ms rows → SameRows (passed_table level ms) rows
middle_passed level ms rows middle legal table = one_table ms (passed_table level ms) rows (middle_table level ms middle.block middle.memory legal) table
