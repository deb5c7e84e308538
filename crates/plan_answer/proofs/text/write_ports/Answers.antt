use Rattle.std.proofs.Common.{◌≡◌, ◌++◌, ◌<◌, ◌∙◌, List, ℕ, ap, sym, get_or, length, map, take, rules, append_assoc}
use Rattle.plan_answer.specs.Forgettings.{port_forgot}
use Rattle.node_laws.specs.declared.forgotten.Forgotten.{Forgotten}
use Rattle.plan_answer.specs.Answers.{port_text}
use Rattle.plan_answer.specs.Reports.{name_at, all_forgotten_text}
use Rattle.plan_answer.proofs.ListedLemmas.{name_here, text_more}
use Rattle.plan_answer.proofs.text.write_ports.Goals as goal

pub loop-port-preserved : goal.loop-port-preserved
loop-port-preserved c =
    let nodes = c.args.nodes.now in
    let forgotten = c.args.forgotten.now in
    let l = c.loop-port in
    let p = c.port-item.result in
    let n = c.index-nodes-port.result in
    let first = c.args.out.now.items in
    let there : p.node < length nodes = search rules in
    let at = get_or nodes p.node n in
    let name : at.name ≡ name_at nodes p.node = sym (name_here nodes p.node n there) in
    let list : c.deref.result.now ≡ p.list.items = c.deref.ensures.value in
    let wrote : c.write_port.new.out.items ≡ l.out.items ++ port_text at.name p.port c.deref.result.now = c.in_ok-write_port.ensures in
    let done = all_forgotten_text nodes (map port_forgot (take l.port-index forgotten)) in
    let here = port_text (name_at nodes p.node) p.port p.list.items in
    let more = text_more nodes forgotten l.port-index p c.loop-port-test.true (sym c.port-item.is) in
    wrote
    ∙ (ap (λ (fs : List Forgotten). l.out.items ++ port_text at.name p.port fs) list
    ∙ (ap (λ (t : List ℕ). l.out.items ++ port_text t p.port p.list.items) name
    ∙ (ap (λ (t : List ℕ). t ++ here) c.loop-port.invariant
    ∙ (append_assoc first done here ∙ ap (λ (t : List ℕ). first ++ t) (sym more)))))
