use Rattle.std.proofs.Common.{List, [], map, ap, ◌∙◌, subst}
use Rattle.cedr_plan.specs.Drawn.{Drawn, node_of}
use Rattle.cedr_plan.specs.declared.plan.PlanNode.{PlanNode}
use Rattle.plan_serial.specs.Sources.{AreReadByLine}
use Rattle.cedr_commands.specs.Answers.{made_file}
use Rattle.cedr_commands.proofs.MakeLemmas.{told_made, made_faultless}
use Rattle.cedr_commands.proofs.make.read_made.Goals as goal

pub returns-in-Ok-clause-read : goal.returns-in-Ok-clause-read
returns-in-Ok-clause-read c =
    let events = c.args.events in
    let same = c.as_slice.ensures.value in
    let are = ap (map node_of) same ∙ ap (λ (d : Drawn). d.nodes) c.requires.plan in
    let told = told_made _ events c.as_slice.result.now are c.in_ok-files.ensures.first c.in_ok-files.ensures.second in
    subst (λ (nodes : List PlanNode). AreReadByLine (made_file events) nodes c.in-Ok.left.items []) same (c.in-Ok.ensures.answer (made_file events) told)

pub unreachable-requires : goal.unreachable-requires
unreachable-requires c =
    let events = c.args.events in
    let nodes = c.as_slice.result.now in
    let are = ap (map node_of) c.as_slice.ensures.value ∙ ap (λ (d : Drawn). d.nodes) c.requires.plan in
    let told = told_made _ events nodes are c.in_ok-files.ensures.first c.in_ok-files.ensures.second in
    made_faultless c.made_sources.ensures events nodes c.in-Err-Events.field-0 c.in-Err-Events.field-0-0 c.requires.most are c.in-Err-Events.field-0-is (c.in-Err-Events.ensures.answer (made_file events) told)
