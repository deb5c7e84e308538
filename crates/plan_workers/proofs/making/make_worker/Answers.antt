use Rattle.std.proofs.Common.{rules, ◌≡◌, [], true, false, None, refl, map, sym, ap, subst}
use Rattle.cedr_plan.specs.Places.{is_output, is_source}
use Rattle.cedr_text.specs.declared.event_line.Shape.TheVariants.{AnyText}
use Rattle.plan_edges.specs.Wires.{in_edge, out_edge}
use Rattle.plan_workers.specs.Crews.{content_in, count_in}
use Rattle.plan_workers.specs.Making.{HasWriter, role_for}
use Rattle.plan_workers.proofs.MakeLemmas.{source_told, other_told, output_no_source}
use Rattle.plan_workers.proofs.making.make_worker.Goals as goal

pub returns-then-is_source-clause-made : goal.returns-then-is_source-clause-made
returns-then-is_source-clause-made g c = λ history has.
    let w = c.in_ok-make_source.field-0 in
    let made = c.in_ok-make_source.ensures.made in
    let is : is_source c.args.node.now.kind ≡ true = search rules in
    let role = role_for c.args.number c.args.node.now [] c.args.outs history made.0 (g.S.Source.rest w.source) (g.S.Source.faults w.source) in
    record {
      role = role;
      numbered = refl;
      stands = refl;
      takes = sym (ap (map in_edge) (c.requires.can.portless is));
      puts = refl;
      contents = source_told content_in g.S.Source.rest role w.source is refl;
      counts = source_told count_in g.S.Source.faults role w.source is refl;
      history_is = refl;
      works = made.1 history;
    }

pub returns-then-not-is_output-clause-made : goal.returns-then-not-is_output-clause-made
returns-then-not-is_output-clause-made g c = λ history has.
    let isnt : is_source c.args.node.now.kind ≡ false = search rules in
    let role = role_for c.args.number c.args.node.now c.args.ends c.args.outs history AnyText None 0 in
    record {
      role = role;
      numbered = refl;
      stands = refl;
      takes = refl;
      puts = refl;
      contents = other_told content_in role isnt;
      counts = other_told count_in role isnt;
      history_is = refl;
      works = c.in_ok-make_operator.ensures history;
    }

pub returns-clause-made : goal.returns-clause-made
returns-clause-made g c = λ history has.
    let is : is_output c.args.node.now.kind ≡ true = search rules in
    let isnt = output_no_source c.args.node.now.kind is in
    let role = role_for c.args.number c.args.node.now c.args.ends [] history AnyText None 0 in
    record {
      role = role;
      numbered = refl;
      stands = refl;
      takes = refl;
      puts = sym (ap (map out_edge) (c.requires.can.unread is));
      contents = other_told content_in role isnt;
      counts = other_told count_in role isnt;
      history_is = refl;
      works = c.in_ok-make_output.ensures history (subst (HasWriter {R = g.row.R.Denot} history) (sym c.in-Some.ensures.value) (has is));
    }
