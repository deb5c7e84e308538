use Rattle.std.proofs.Common.{◌<◌, ◌++◌, ◌∙◌, [], List, arith, ap, length, map, refl, sym}
use Rattle.std.proofs.lemmas.List.{get_or-map, length-map, take_all}
use Rattle.node_laws.specs.declared.forgotten.Forgotten.{Forgotten}
use Rattle.node_laws.specs.Kept.{forgot}
use Rattle.cedr_node.specs.Nodes.{made_of}
use Rattle.cedr_node.proofs.NodeLemmas.{stands_ports}
use Rattle.plan_answer.specs.Forgettings.{ports_forgot, port_forgot}
use Rattle.plan_workers.proofs.ForgottenLemmas.{port_told}
use Rattle.plan_workers.proofs.forgotten.tell_ports.Goals as goal

pub loop-port-preserved : goal.loop-port-preserved
loop-port-preserved c = λ lists given stands.
    let port = c.loop-port.port in
    let f = forgot (made_of c.args.node.now).level.memory in
    let within : port < length lists = omega (arith, stands_ports c.args.node.now lists given stands, c.loop-port-test.true, c.requires) in
    let list = c.in_ok-list.ensures ∙ (c.forgotten.ensures lists given stands ∙ sym (get_or-map f lists port [] [] within)) in
    port_told c.args.place port (map f lists) (map port_forgot c.args.all.now.items) c.loop-port.all.items c.push.new.self.items (record { node = c.args.place; port = port; list = c.in_ok-list.list })
    (c.loop-port.invariant lists given stands) c.in_ok-push.ensures.items refl refl list (omega (arith, within, length-map lists f))

pub returns : goal.returns
returns c = λ lists given stands.
    let f = forgot (made_of c.args.node.now).level.memory in
    let all = take_all c.loop-port.port (map f lists) (omega (arith, length-map lists f, stands_ports c.args.node.now lists given stands, c.loop-port-test.false, c.requires)) in
    c.loop-port.invariant lists given stands ∙ ap (λ (ls : List (List Forgotten)). map port_forgot c.args.all.now.items ++ ports_forgot c.args.place 0 ls) all
