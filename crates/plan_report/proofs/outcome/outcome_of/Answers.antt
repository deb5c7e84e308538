use Rattle.std.proofs.Common.{rules, ◌≡◌, length, map, vec_len, sym, ap, ◌∙◌, arith}
use Rattle.std.proofs.lemmas.Bool.{eqb-true}
use Rattle.std.specs.List.{list_any}
use Rattle.plan_answer.specs.Sources.{faulty_from}
use Rattle.plan_workers.specs.Stopping.{stop_in}
use Rattle.plan_workers.specs.Tellings.{is_faulty, node_faults, refusal_in}
use Rattle.plan_workers.proofs.EndLemmas.{some_faulty}
use Rattle.plan_report.proofs.OutcomeLemmas.{all_closed, none_listed, not_so}
use Rattle.plan_report.proofs.outcome.outcome_of.Goals as goal

pub returns-then-is_empty : goal.returns-then-is_empty
returns-then-is_empty g c =
    let nodes = c.args.nodes.now in
    let ends = c.args.ends.now in
    let empty = eqb-true (vec_len c.list_faulty.new.faulty) 0 (sym c.is_empty.ensures ∙ c.if-is_empty.true) in
    let none : length c.list_faulty.new.faulty.items ≡ 0 = omega (arith, empty, c.list_faulty.new.faulty.ok.0) in
    let listed = none_listed c.args.faulty.items c.list_faulty.new.faulty.items (faulty_from 0 (node_faults nodes (map refusal_in ends))) c.requires.empty c.list_faulty.ensures none in (
      search rules,
      all_closed ends (sym c.any_lacked.ensures ∙ c.if-any_lacked.false) (sym c.any_refused.ensures ∙ c.if-any_refused.false)
          (not_so (list_any is_faulty (map stop_in ends)) (λ so. let some = some_faulty g.S.Source.rest g.S.Source.faults nodes 0 ends c.requires.count so in omega (arith, some, ap length listed))),
    )
