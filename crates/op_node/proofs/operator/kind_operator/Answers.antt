use Rattle.std.proofs.Common.{◌∙◌, ap, sym}
use Rattle.cedr_plan.specs.declared.plan.NodeKind.{NodeKind}
use Rattle.op_join.specs.Joins.{join_of}
use Rattle.pat_seq.specs.Sequences.{sequence_of}
use Rattle.op_node.specs.Meanings.{node_meaning}
use Rattle.op_node.proofs.operator.kind_operator.Goals as goal

pub returns-in_ok-copy-in-Join-clause-meaning : goal.returns-in_ok-copy-in-Join-clause-meaning
returns-in_ok-copy-in-Join-clause-meaning c =
    c.new-in-Join.ensures.meaning ∙ (ap join_of c.in_ok-copy-in-Join.ensures ∙ ap (λ (k : NodeKind). node_meaning k c.args.ports) (sym c.in-Join.is))

pub returns-in_ok-sequence-in-Sequence-clause-meaning : goal.returns-in_ok-sequence-in-Sequence-clause-meaning
returns-in_ok-sequence-in-Sequence-clause-meaning c =
    c.in_ok-sequence-in-Sequence.ensures.meaning ∙ (ap (sequence_of c.args.ports c.in-Sequence.scope) c.in_ok-copy-in-Sequence.ensures ∙ ap (λ (k : NodeKind). node_meaning k c.args.ports) (sym c.in-Sequence.is))
