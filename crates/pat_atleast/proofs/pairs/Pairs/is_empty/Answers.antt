use Rattle.std.proofs.Common.{◌≡◌, ◌+◌, ◌<◌, ◌++◌, ◌∷◌, ◌∙◌, List, [], length, take, get_or, ap, sym, subst, arith}
use Rattle.std.specs.List.{All}
use Rattle.std.proofs.lemmas.List.{take_more, take_all}
use Rattle.pat_state.specs.declared.crossing.Crossing.{Crossing}
use Rattle.pat_atleast.specs.Crossings.{HaveNoRow}
use Rattle.pat_atleast.proofs.CrossingLemmas.{all_more, no_row}
use Rattle.pat_atleast.proofs.pairs.Pairs.is_empty.Goals as goal

pub loop-port-preserved : goal.loop-port-preserved
loop-port-preserved c =
    let ports = c.args.self.now.ports.items in
    let i = c.loop-port.port-index in
    let same = c.deref-port-items.ensures.value in
    let within : c.loop-port.port-index < length c.args.self.now.ports.items = subst (λ (ps : List Crossing). c.loop-port.port-index < length ps) same c.loop-port-test.true in
    let is : c.port-item.result ≡ get_or c.args.self.now.ports.items c.loop-port.port-index c.port-item.result = subst (λ (ps : List Crossing). c.port-item.result ≡ get_or ps c.loop-port.port-index c.port-item.result) same c.port-item.is in
    let none : length c.port-item.result.rows ≡ 0 = (let size = c.len.ensures in let few = c.if-len-gt0.false in omega arith) in
    all_more HaveNoRow (take i ports) (take (i + 1) ports) c.port-item.result
    (take_more ports i c.port-item.result within ∙ ap (λ (port : Crossing). take c.loop-port.port-index c.args.self.now.ports.items ++ port ∷ []) (sym is))
    (no_row c.port-item.result.rows none) c.loop-port.invariant

pub returns : goal.returns
returns c = λ yes.
    let end = c.loop-port-test.false in
    let same = ap (λ (ps : List Crossing). length ps) c.deref-port-items.ensures.value in
    subst (λ (ports : List Crossing). All HaveNoRow ports) (take_all c.loop-port.port-index c.args.self.now.ports.items (omega (arith, end, same))) c.loop-port.invariant
