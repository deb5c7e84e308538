use Rattle.std.proofs.Common.{◌≡◌, ◌≤◌, ◌∙◌, List, Some, true, false, length, subst, sym}
use Rattle.std.specs.Prelude.{All}
use Rattle.plan_key_choice.specs.declared.range.RangedPort.{RangedPort}
use Rattle.plan_key_choice.specs.Partial.{chosen_at}
use Rattle.plan_key_choice.specs.Ranges.{IsNarrow}
use Rattle.plan_key_choice.proofs.Places.{few_ports, narrow_ports, repeats_few, kept_may, may_kept, seen_ports, if_answered}
use Rattle.plan_key_choice.proofs.node.may_keep_at.Goals as goal

pub may_keep-requires-clause-few : goal.may_keep-requires-clause-few
may_keep-requires-clause-few c =
    let n = c.index-nodes-place.result in
    let same = seen_ports c.args.nodes.now c.args.choice.now c.args.place n c.deref-2.result.now c.in_ok-ports.ports.items c.deref.result.now c.deref-2.ensures.value c.in_ok-ports.ensures c.deref.ensures.value in
    subst (λ (ports : List RangedPort). length ports ≤ 4) (sym same) (few_ports c.args.nodes.now c.requires.nodes c.args.place n c.requires.within c.index-nodes-place.is c.args.choice.now)

pub may_keep-requires-clause-narrow : goal.may_keep-requires-clause-narrow
may_keep-requires-clause-narrow c =
    let n = c.index-nodes-place.result in
    let same = seen_ports c.args.nodes.now c.args.choice.now c.args.place n c.deref-2.result.now c.in_ok-ports.ports.items c.deref.result.now c.deref-2.ensures.value c.in_ok-ports.ensures c.deref.ensures.value in
    subst (λ (ports : List RangedPort). All IsNarrow ports) (sym same) (narrow_ports c.args.nodes.now c.requires.nodes c.args.place n c.requires.within c.index-nodes-place.is c.args.choice.now)

pub may_keep-requires-clause-repeats : goal.may_keep-requires-clause-repeats
may_keep-requires-clause-repeats c = repeats_few c.args.nodes.now c.requires.nodes c.args.place c.index-nodes-place.result c.requires.within c.index-nodes-place.is

pub returns-clause-none : goal.returns-clause-none
returns-clause-none c =
    let n = c.index-nodes-place.result in
    let choice = c.args.choice.now in
    let own : chosen_at choice c.args.place ≡ Some c.in-Some.column = sym c.chosen_at.ensures ∙ c.in-Some.is in
    let same = seen_ports c.args.nodes.now choice c.args.place n c.deref-2.result.now c.in_ok-ports.ports.items c.deref.result.now c.deref-2.ensures.value c.in_ok-ports.ensures c.deref.ensures.value in
    if_answered c.may_keep.result _ false c.may_keep.ensures
    (λ no columns extends widths keeps. let may = kept_may c.args.nodes.now c.requires.nodes c.args.place n c.requires.within c.index-nodes-place.is choice columns c.in-Some.column own extends widths keeps in cc (may, same, no))

pub returns-clause-keeps : goal.returns-clause-keeps
returns-clause-keeps c =
    let n = c.index-nodes-place.result in
    let choice = c.args.choice.now in
    let own : chosen_at choice c.args.place ≡ Some c.in-Some.column = sym c.chosen_at.ensures ∙ c.in-Some.is in
    let same = seen_ports c.args.nodes.now choice c.args.place n c.deref-2.result.now c.in_ok-ports.ports.items c.deref.result.now c.deref-2.ensures.value c.in_ok-ports.ensures c.deref.ensures.value in
    if_answered c.may_keep.result _ true c.may_keep.ensures
    (λ yes all widths. may_kept c.args.nodes.now c.requires.nodes c.args.place n c.requires.within c.index-nodes-place.is choice c.in-Some.column c.requires.count own all widths (cc (yes, same)))
