use Rattle.std.proofs.Common.{◌≡◌, ◌+◌, ◌∷◌, ℕ, List, Option, refl, ap, sym, ◌∙◌, subst, arith, drop, rules}
use Rattle.cedr_text.specs.declared.event_line.Shape.TheVariants.{Fields}
use Rattle.cedr_plan.specs.declared.plan.PlanNode.{PlanNode}
use Rattle.cedr_save.specs.declared.states.Spot.TheVariants.{InSource}
use Rattle.cedr_save.specs.Checkpoints.{plan_sources, source_line}
use Rattle.cedr_save.specs.Lines.{ReadsMark}
use Rattle.cedr_save.specs.Reading.{read_states, other_sources}
use Rattle.cedr_save.proofs.SourceLemmas.{source_of}
use Rattle.cedr_save.proofs.StandLemmas.{closed, opened}
use Rattle.cedr_save.proofs.states.StateReader.take_next.Goals as goal

pub returns : goal.returns
returns c = λ before can.
    let place = c.in-Some.ensures in
    let within = place.within in
    let all = closed c.args.self.now c.close_source.new.self c.args.nodes.now before can c.in_ok-close_source.ensures in
    let reads = subst (λ (o : Option ℕ). ReadsMark o c.bytes.result.now c.args.line.now) c.in-Some-2.is c.in_ok-mark.ensures in
    let named : c.bytes.result.now ≡ c.index-nodes-place.result.name = c.bytes.ensures ∙ ap (λ (n : PlanNode). n.name) (sym c.index-nodes-place.is) in
    let line = reads.1 ∙ ap (λ (bs : List ℕ). source_line bs c.in-Some-2.mark) named in
    let more : other_sources c.args.self.now c.args.nodes.now ≡ source_of c.index-nodes-place.result ∷ plan_sources (drop (c.in-Some.place + 1) c.args.nodes.now) =
    place.sources c.index-nodes-place.result ∙ ap (λ (n : PlanNode). source_of n ∷ plan_sources (drop (c.in-Some.place + 1) c.args.nodes.now)) (sym c.index-nodes-place.is) in
    opened (record c.close_source.new.self { spot = InSource; next = c.in-Some.place + 1; shape = Fields c.in_ok-types.types; mark = c.in-Some-2.mark }) (read_states c.close_source.new.self) (other_sources c.args.self.now c.args.nodes.now) (source_of c.index-nodes-place.result)
    c.args.nodes.now before c.args.line.now all.0 more refl (omega arith) all.1 (search rules) reads.0 line
