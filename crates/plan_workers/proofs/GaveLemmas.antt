-- What the worker of one node gave, and what its end says of it.
use Rattle.std.proofs.Common.{◌≡◌, ℕ, ◌++◌, Bool, true, false, List, [], ◌∷◌, Option, refl, sym, subst, ap}
use Rattle.std.specs.List.{All}
use Rattle.std.proofs.lemmas.List.Elements.{All-nil}
use Rattle.cedr_base.specs.declared.change.Message.{Message}
use Rattle.cedr_base.specs.declared.change.Message.TheVariants as message
use Rattle.cedr_edge.specs.Ends.{OutEnd}
use Rattle.node_laws.specs.Lawful.{IsLawful}
use Rattle.node_laws.specs.Lists.{Lists, list_at}
use Rattle.cedr_node.specs.declared.node.Node.{Node}
use Rattle.cedr_node.specs.Nodes.{made_of, NodeStands}
use Rattle.cedr_node.proofs.NodeLemmas.{same_ports, stands_lawful}
use Rattle.worker_outlets.specs.Outgoing.{last_message}
use Rattle.cedr_plan.specs.declared.plan.NodeKind.{NodeKind}
use Rattle.cedr_plan.specs.declared.plan.NodeKind.TheVariants as kind
use Rattle.cedr_plan.specs.declared.plan.PlanNode.{PlanNode}
use Rattle.cedr_plan.specs.Drawn.{Node as DrawnNode, node_of}
use Rattle.node_laws.specs.Pass.{pass}
use Rattle.cedr_plan.specs.Places.{is_output, is_source}
use Rattle.cedr_text.specs.Shapes.{ShapeHasTypes}
use Rattle.cedr_text.specs.declared.event_line.Shape.{Shape}
use Rattle.cedr_worker.specs.declared.source.SourceEnd.{SourceEnd}
use Rattle.cedr_worker.specs.Outputs.{passed_by}
use Rattle.cedr_worker.specs.Sources.{SourceEnds}
use Rattle.cedr_worker.specs.Stops.{last_at}
use Rattle.op_node.specs.Meanings.{meaning_of, port_levels}
use Rattle.op_node.proofs.ReadyMeanings.{alike}
use Rattle.plan_workers.specs.declared.ended.Part.{Part}
use Rattle.plan_workers.specs.declared.ended.Part.TheVariants as part
use Rattle.plan_workers.specs.Ends.{OperatorEndsAs, PartEndsAs}
use Rattle.plan_workers.specs.Roles.{Role}
use Rattle.plan_workers.specs.Wents.{LostWent, part_lacked, source_left}
use Rattle.plan_workers.proofs.MakeLemmas.{output_no_source}

-- what is left of the source of a node says what it gave
pub record SourceGave {S : Type 0} (rest : S → Option (List ℕ)) (faults : S → ℕ) (node : PlanNode) (content : Option (List ℕ)) (count : ℕ) (end : SourceEnd S) (given : List Message) : Type 0 where
  pub shape : Shape
  pub types : ShapeHasTypes shape node.types.items
  pub ends : SourceEnds rest faults shape content count end
  pub given_is : given ≡ ends.given ++ last_message (last_at end.stop) ∷ []

-- a part is what is left of a source, whose end has the worker's number and no edges
pub record SourcePart {S R : Type 0} (rest : S → Option (List ℕ)) (faults : S → ℕ) (role : Role) (left : Part S R) (given : List Message) : Type 0 where
  pub end : SourceEnd S
  pub alone : source_left left ≡ end ∷ []
  pub number : end.number ≡ role.number
  pub outputs : end.outputs.items ≡ []
  pub gave : SourceGave rest faults role.node role.content role.count end given

-- The list that a worker gave over each edge that comes from its node, where these lists came on its ports.
pub record Gave {S R : Type 0} (rest : S → Option (List ℕ)) (faults : S → ℕ) (role : Role) (lists : Lists) (putters : List OutEnd) (left : Part S R) : Type 0 where
  pub given : List Message
  pub sent : All (λ (e : OutEnd). e.sent ≡ given) putters
  pub source : is_source role.node.kind ≡ true → SourcePart rest faults role left given
  pub other : is_source role.node.kind ≡ false → source_left left ≡ []
  pub sound : is_source role.node.kind ≡ false → part_lacked left ≡ false → IsLawful (meaning_of role.node) (port_levels role.node) lists given
  pub lost : is_source role.node.kind ≡ false → is_output role.node.kind ≡ false → part_lacked left ≡ true → LostWent role.node lists given
  pub passed : is_output role.node.kind ≡ true → given ≡ pass role.node.level (list_at lists 0)

-- what is lawful as the copy of a node is lawful as the node
as_made : (made n : PlanNode) (lists : Lists) (given : List Message) → node_of made ≡ node_of n → IsLawful (meaning_of made) (port_levels made) lists given → IsLawful (meaning_of n) (port_levels n) lists given
as_made made n lists given same lawful =
    subst (λ vs. IsLawful (meaning_of n) vs lists given) (same_ports made n same)
    (subst (λ k. IsLawful k (port_levels made) lists given) (alike made n same) lawful)

-- a node that stands between lists is lawful as the node that it was made for
node_lawful : (node : Node) (n : PlanNode) (lists : Lists) (given : List Message) → node_of (made_of node) ≡ node_of n → NodeStands node lists given → IsLawful (meaning_of n) (port_levels n) lists given
node_lawful node n lists given same stands = as_made (made_of node) n lists given same (stands_lawful node lists given stands)

-- an operator gave its node's list, or where memory was lacking a beginning and one Broken
operator_gave : {S R : Type 0} (rest : S → Option (List ℕ)) (faults : S → ℕ) (role : Role) (lists : Lists) (putters : List OutEnd) (node : Node) (lacked : Bool) → OperatorEndsAs role lists putters node lacked → Gave {S = S} {R = R} rest faults role lists putters (part.Operator node lacked)
operator_gave rest faults role lists putters node false is =
    let s = is.sound refl in
    record {
      given = s.given;
      sent = s.sent;
      source = λ source. absurd (cc (source, is.source));
      other = λ source. refl;
      sound = λ source found. node_lawful node role.node lists s.given is.made s.stands;
      lost = λ source output lacked. absurd (cc lacked);
      passed = λ output. absurd (cc (output, is.output));
    }
operator_gave rest faults role lists putters node true is =
    let s = is.lost refl in
    record {
      given = s.given ++ message.Broken ∷ [];
      sent = s.sent;
      source = λ source. absurd (cc (source, is.source));
      other = λ source. refl;
      sound = λ source found. absurd (cc found);
      lost = λ source output lacked. record { before = s.before; prefixes = s.prefixes; first = s.given; lawful = as_made (made_of node) role.node s.before s.given is.made s.lawful; goes = s.goes; given_is = refl };
      passed = λ output. absurd (cc (output, is.output));
    }

-- a worker gave what its end says
pub gave : {S R : Type 0} (rest : S → Option (List ℕ)) (faults : S → ℕ) (role : Role) (lists : Lists) (putters : List OutEnd) (left : Part S R) → PartEndsAs rest faults role lists putters left → Gave rest faults role lists putters left
gave rest faults role lists putters (part.Source end) is = record {
  given = is.ends.given ++ last_message (last_at end.stop) ∷ [];
  sent = is.sent;
  source = λ source. record { end = end; alone = refl; number = is.number; outputs = is.outputs; gave = record { shape = role.shape; types = is.types; ends = is.ends; given_is = refl } };
  other = λ source. absurd (cc (source, is.kind));
  sound = λ source found. absurd (cc (source, is.kind));
  lost = λ source output lacked. absurd (cc (source, is.kind));
  passed = λ output. absurd (cc (is.kind, output_no_source role.node.kind output));
}
gave rest faults role lists putters (part.Operator node lacked) is = operator_gave rest faults role lists putters node lacked is
gave rest faults role lists putters (part.Output node lacked held) is = record {
  given = passed_by node (list_at lists 0);
  sent = subst (λ ends. All (λ (e : OutEnd). e.sent ≡ passed_by node (list_at lists 0)) ends) (sym is.nobody) (All-nil (λ (e : OutEnd). e.sent ≡ passed_by node (list_at lists 0)));
  source = λ source. absurd (cc (source, output_no_source role.node.kind is.output));
  other = λ source. refl;
  sound = λ source found. node_lawful node role.node lists (passed_by node (list_at lists 0)) is.made (is.stands found);
  lost = λ source output lacked. absurd (cc (output, is.output));
  passed = λ output. ap (λ (n : DrawnNode). pass n.level (list_at lists 0)) is.made;
}
