use Rattle.std.proofs.Common.{map}
use Rattle.plan_answer.specs.Forgettings.{port_forgot}
use Rattle.plan_answer.specs.Answers.{nodes_text}
use Rattle.plan_answer.specs.Reports.{all_forgotten_text}
use Rattle.plan_answer.proofs.ListedLemmas.{all_texts, all_within, behind_both}
use Rattle.plan_answer.proofs.text.write_tail.Goals as goal

pub write_ports-requires : goal.write_ports-requires
write_ports-requires c = let f = c.requires in all_within c.args.nodes.now c.args.forgotten.now f.0 f.1 f.2

pub returns : goal.returns
returns c = λ listed forgotten same.
    let nodes = c.args.nodes.now in
    behind_both c.args.out.now.items _ (nodes_text nodes listed) c.extend_from_slice.new.self.items c.write_ports.new.out.items (all_forgotten_text nodes (map port_forgot c.args.forgotten.now))
    c.in_ok-extend_from_slice.ensures.items c.in_ok-write_ports.ensures (all_texts nodes (map port_forgot c.args.forgotten.now) listed forgotten same)
