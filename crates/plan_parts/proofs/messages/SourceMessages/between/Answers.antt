use Rattle.std.proofs.Common.{◌≡◌, ◌++◌, ◌-◌, List, take, drop, subst, ◌∙◌}
use Rattle.cedr_base.specs.declared.change.Message.{Message}
use Rattle.plan_parts.proofs.ListLemmas.{take_between}
use Rattle.plan_parts.proofs.messages.SourceMessages.between.Goals as goal

pub returns : goal.returns
returns c =
    let all = c.as_slice-messages.result.now in
    let part = take (c.min-end.result - c.min-first.result) (drop c.min-first.result all) in
    subst (λ (ms : List Message). take c.args.from ms ++ part ≡ take c.args.until ms) (c.as_slice-messages.ensures.value ∙ c.self.view_is)
    (take_between all c.args.from c.args.until c.min-first.result c.min-end.result c.requires c.min-first.ensures c.min-end.ensures)
