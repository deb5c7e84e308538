use Rattle.std.proofs.Common.{ℕ, List, [], ◌++◌, ap, ◌∙◌}
use Rattle.cedr_make.specs.Summary.{summary_text}
use Rattle.cedr_plan.specs.Drawn.{Drawn}
use Rattle.plan_runs.specs.Runs.{sources_in}
use Rattle.plan_serial.specs.Rounds.{all_messages}
use Rattle.plan_serial.proofs.SourceLemmas.{messages_read}
use Rattle.cedr_commands.specs.Answers.{made_file}
use Rattle.cedr_commands.proofs.MakeLemmas.{made_remembers}
use Rattle.cedr_commands.proofs.make.summary.Goals as goal

pub returns : goal.returns
returns c =
    let nodes = c.in_ok-plan.plan.nodes.items in
    let left = c.in_ok-left.left.items in
    let are = ap (λ (d : Drawn). d.nodes) c.in_ok-plan.ensures.made in
    let of = c.accepted_sources.ensures (made_file c.args.events) nodes (all_messages left) (messages_read (made_file c.args.events) nodes left [] c.in_ok-left.ensures.read) in
    let rows = c.deref.ensures.value ∙ c.in_ok-rows.ensures of.0 of.2 of.3 (made_remembers nodes are) in
    record {
      nodes = nodes;
      nodes_are = are;
      sources = sources_in nodes (all_messages left);
      histories = of.0;
      accepted = of.1;
      text_is = c.in_ok-write_summary.ensures.ok ∙ (ap (λ (before : List ℕ). before ++ summary_text c.deref.result.now) c.new-text.ensures.items ∙ ap summary_text rows);
    }
