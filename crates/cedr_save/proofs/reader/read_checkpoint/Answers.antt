use Rattle.std.proofs.Common.{List, sym, subst}
use Rattle.cedr_plan.specs.declared.plan.PlanNode.{PlanNode}
use Rattle.cedr_save.specs.Checkpoints.{plan_sources}
use Rattle.cedr_save.specs.Reading.{AreNamed}
use Rattle.cedr_save.proofs.NameLemmas.{named_plan}
use Rattle.cedr_save.proofs.reader.read_checkpoint.Goals as goal

pub read_lines-requires-clause-named : goal.read_lines-requires-clause-named
read_lines-requires-clause-named c = subst (λ (nodes : List PlanNode). AreNamed (plan_sources nodes)) (sym c.deref.ensures.value) (named_plan c.args.plan.now c.requires)
