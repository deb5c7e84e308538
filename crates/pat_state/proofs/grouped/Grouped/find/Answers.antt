use Rattle.std.proofs.Common.{◌∙◌, List, ap}
use Rattle.std.proofs.lemmas.Result.{IfOk-weaker}
use Rattle.pat_state.specs.declared.keyed.Keyed.{Keyed}
use Rattle.pat_state.specs.Steps.{matches, picked}
use Rattle.pat_state.specs.Groups.{all_seen}
use Rattle.pat_state.proofs.GroupLemmas.{found_seen}
use Rattle.pat_state.proofs.grouped.Grouped.find.Goals as goal

pub returns : goal.returns
returns c =
    let op = c.args.self.now in
    let tag = c.common_tag-tag in
    IfOk-weaker c.find_among.result _ _
    (λ rows is. found_seen c.args.scope c.args.tests.now op.number op.width op.column c.args.row.now c.args.changed c.args.order.now op.ports.items tag.result rows.items c.requires.tags.key c.requires.tags.ports tag.ensures.number tag.ensures.width tag.ensures.tag tag.ensures.others c.requires.changed
    (is ∙ ap (λ (ports : List Keyed). matches c.args.scope c.args.tests.now c.args.row.now c.args.changed (picked c.args.order.now (all_seen c.common_tag-tag.result ports))) c.as_slice-ports.ensures.value))
    c.find_among.ensures
