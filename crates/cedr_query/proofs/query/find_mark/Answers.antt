use Rattle.std.proofs.Common.{◌≡◌, ◌∙◌, sym, ap, subst, ℕ, List, Bool, arith}
use Rattle.std.specs.Prelude.{if◌then◌else◌, map}
use Rattle.std.proofs.lemmas.List.{take_all}
use Rattle.cedr_table.specs.Operators.{AreTimes, mark_at}
use Rattle.cedr_table.specs.PortLaws.{time_at}
use Rattle.cedr_query.specs.Queries.{input_tables, input_marks}
use Rattle.cedr_plan.specs.Places.{source_count}
use Rattle.op_node.specs.Meanings.{meaning_of}
use Rattle.cedr_query.proofs.Feeding.{same_tables_itself}
use Rattle.cedr_query.proofs.QueryLemmas.{same_inputs, are_times_at}
use Rattle.cedr_query.proofs.query.find_mark.Goals as goal

pub returns-then-is_source-clause-time : goal.returns-then-is_source-clause-time
returns-then-is_source-clause-time c = time_at c.count_sources.result c.args.sources.now c.requires.source_times

pub ask_node-requires-clause-times : goal.ask_node-requires-clause-times
ask_node-requires-clause-times c =
    let marks = c.args.marks.now in
    let inputs = c.args.node.now.inputs.items in
    let given_is = c.as_slice.ensures.value ∙ (c.loop-input.invariant ∙ ap (λ (ps : List ℕ). map (mark_at c.args.marks.now) ps) (take_all c.loop-input.input-index c.as_slice-input-items.result.now (omega arith) ∙ c.as_slice-input-items.ensures.value)) in
    subst (λ (ms : List ℕ). AreTimes ms) (sym given_is) (are_times_at marks inputs c.requires.times)

pub returns-clause-is : goal.returns-clause-is
returns-clause-is c = λ others same.
    let node = c.args.node.now in
    let given_is = c.as_slice.ensures.value ∙ (c.loop-input.invariant ∙ ap (λ (ps : List ℕ). map (mark_at c.args.marks.now) ps) (take_all c.loop-input.input-index c.as_slice-input-items.result.now (omega arith) ∙ c.as_slice-input-items.ensures.value)) in
    let isnt = sym c.is_source.ensures ∙ c.if-is_source.false in
    let a = c.in_ok-answer.ensures (input_tables others node) (same_inputs c.args.tables.now others node.inputs.items same) in
    subst (λ (b : Bool). c.in_ok-answer.answer.mark ≡ (if b then mark_at c.args.sources.now (source_count c.args.before.now) else (meaning_of node).bound (input_tables others node) (input_marks c.args.marks.now node))) (sym isnt)
    (a.bound ∙ ap (λ (ms : List ℕ). (meaning_of node).bound (input_tables others node) ms) given_is)

pub returns-clause-time : goal.returns-clause-time
returns-clause-time c = (c.in_ok-answer.ensures (input_tables c.args.tables.now c.args.node.now) (same_tables_itself (input_tables c.args.tables.now c.args.node.now))).time
