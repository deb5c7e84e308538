use Rattle.std.proofs.Common.{None, ◌≡◌, ℕ, ◌<◌, inl, inr, List, length, length-set, sym, ◌∙◌, subst, arith}
use Rattle.std.specs.Prelude.{slice_set}
use Rattle.std.specs.List.{filter}
use Rattle.std.proofs.lemmas.Bool.{cases_lt}
use Rattle.std.proofs.lemmas.List.Elements.{All-set}
use Rattle.cedr_base.specs.declared.row.Row.{Row}
use Rattle.cedr_base.specs.Rows.{SameRows}
use Rattle.cedr_table.specs.Operators.{table_at}
use Rattle.pat_state.specs.Starts.{scope_reaches}
use Rattle.pat_state.proofs.ForgetLemmas.{all_forgotten}
use Rattle.pat_state.specs.Groups.{all_seen, IsKeyed}
use Rattle.pat_state.proofs.PortLemmas.{rows_at, length-seen, one_forgotten, others_stay}
use Rattle.pat_state.proofs.grouped.forget_each.Goals as goal

pub loop-port-preserved : goal.loop-port-preserved
loop-port-preserved c =
    let was = c.loop-port.invariant in
    let port = c.loop-port.port in
    let ports = c.loop-port.ports.items in
    let rows = c.forget.new.self in
    let within : c.loop-port.port < length c.loop-port.ports.items = let same = was.same_length in omega arith in
    let first = sym (rows_at ports port c.index_mut.result.now within c.index_mut.ensures.value) ∙ was.rest port (omega arith) in
    record {
      same_length = length-set ports port rows ∙ was.same_length;
      done = λ k below. elim (cases_lt k port) [
        | inl before ↦
            subst (λ (xs : List Row). SameRows xs (filter (scope_reaches c.args.scope c.args.time) (table_at (all_seen None c.args.ports.now.items) k))) (sym (others_stay ports port k rows (λ e. omega arith))) (was.done k before)
        | inr not_before ↦
            (let same : k ≡ c.loop-port.port = omega arith in
            subst (λ (n : ℕ). SameRows (table_at (all_seen None (slice_set c.loop-port.ports.items c.loop-port.port c.forget.new.self)) n) (filter (scope_reaches c.args.scope c.args.time) (table_at (all_seen None c.args.ports.now.items) n))) (sym same)
            (one_forgotten (filter (scope_reaches c.args.scope c.args.time)) ports port rows (table_at (all_seen None c.args.ports.now.items) port) c.index_mut.result.now.rows within first c.forget.ensures.rows))
      ];
      rest = λ k above. others_stay ports port k rows (λ e. omega arith) ∙ was.rest k (omega arith);
      tags = All-set (IsKeyed c.args.width c.args.column) ports port rows c.forget.ensures.keyed was.tags;
    }

pub returns-clause-rows : goal.returns-clause-rows
returns-clause-rows c =
    let was = c.loop-port.invariant in
    all_forgotten c.args.scope c.args.time (all_seen None c.args.ports.now.items) (all_seen None c.loop-port.ports.items)
    (length-seen c.loop-port.ports.items ∙ (was.same_length ∙ sym (length-seen c.args.ports.now.items)))
    (λ port within. was.done port (omega (arith, within, length-seen c.args.ports.now.items)))
