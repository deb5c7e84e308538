use Rattle.std.proofs.Common.{◌∙◌, sym, subst}
use Rattle.node_laws.specs.Lists.{Lists}
use Rattle.plan_parts.specs.Parts.{AreLists}
use Rattle.plan_parts.proofs.AnswerLemmas.{entry_lists}
use Rattle.plan_parts.proofs.answer.answer_entries.Goals as goal

pub answer_in_parts-requires-clause-lists : goal.answer_in_parts-requires-clause-lists
answer_in_parts-requires-clause-lists g c κs within =
    let nodes = c.args.plan.now.nodes.items in
    subst (λ (lists : Lists). AreLists nodes lists) (sym (c.as_slice.ensures.value ∙ c.in_ok-lists.ensures)) (entry_lists nodes c.args.left.items c.requires.sources)
