use Rattle.std.proofs.Common.{ℕ, ◌≡◌, length, List, [], ap, sym, ◌∙◌}
use Rattle.std.proofs.lemmas.List.{length-replicate}
use Rattle.cedr_base.specs.declared.row.Row.{Row}
use Rattle.pat_state.proofs.EndlessLemmas.{stands_empty}
use Rattle.pat_atleast.specs.Arrangements.{arranged, ports_from}
use Rattle.pat_atleast.specs.AtLeasts.{IsAtLeast}
use Rattle.pat_atleast.specs.Keeping.{bags_in}
use Rattle.pat_atleast.proofs.at_least.AtLeast.new.Goals as goal

pub returns-clause-stands : goal.returns-clause-stands
returns-clause-stands c =
    let ports : length (bags_in c.in_ok-kept.kept) ≡ c.args.ports = ap length c.in_ok-kept.ensures.rows ∙ length-replicate {A = List Row} c.args.ports [] in
    record {
      kept_stand = stands_empty (λ n. IsAtLeast n c.args.number c.args.scope) c.args.scope c.args.ports (bags_in c.in_ok-kept.kept)
          (record { least = c.requires.ports.0; most = c.requires.ports.1; some = c.requires.number.0; enough = c.requires.number.1; scope_is = c.requires.scope }) c.in_ok-kept.ensures.rows;
      orders_are = c.in_ok-orders.ensures ∙ ap (λ (n : ℕ). arranged c.args.number (ports_from 0 n)) (sym ports);
      tags = c.in_ok-kept.ensures.tags c.args.tests;
      suits = c.in_ok-kept.ensures.suits;
    }
