use Rattle.std.proofs.Common.{rules, ◌≡◌, ◌<◌, ◌++◌, ◌∷◌, [], ℕ, List, true, length, sym, subst, arith, suc, length-append}
use Rattle.std.proofs.lemmas.List.{nil_from_length}
use Rattle.std.specs.List.{All}
use Rattle.node_laws.specs.Lawful.{is_over}
use Rattle.cedr_edge.specs.Ends.{InEnd}
use Rattle.plan_edges.specs.Wires.{AreLeft, AreWithin, SomeClosed}
use Rattle.plan_edges.proofs.CloseLemmas.{next_left, left_closed, port_count_stays, none_closed, first_closed}
use Rattle.plan_edges.proofs.closing.+close_ports.Goals as goal

pub returns-in_default-clause-closed : goal.returns-in_default-clause-closed
returns-in_default-clause-closed t c =
    let ins : c.args.inputs.now ≡ [] = nil_from_length c.args.inputs.now (search rules) in
    let ends : c.args.ends ≡ [] = nil_from_length c.args.ends (search rules) in
    subst (λ (z : List ℕ × List InEnd). SomeClosed z.0 z.1 c.args.putters.now.items c.args.putters.now.items c.args.records.now.items c.args.records.now.items) (λ i. (sym ins i, sym ends i)) (none_closed c.args.putters.now.items c.args.records.now.items)

pub close_port-requires-clause-next : goal.close_port-requires-clause-next
close_port-requires-clause-next t c =
    let ins : c.args.inputs.now ≡ c.in-Some.from.now ∷ c.in-Some.others.now = search rules in
    let ends : c.args.ends ≡ c.in-Some-take_first.end ∷ c.take_first.new.self = search rules in
    let l = c.requires.left in
    let left = subst (λ (z : List ℕ × List InEnd). AreLeft (z.0 ++ l.0) (z.1 ++ l.1) c.args.putters.now.items) (λ i. (ins i, ends i)) l.2 in
    next_left c.in-Some.from.now (c.in-Some.others.now ++ l.0) c.in-Some-take_first.end (c.take_first.new.self ++ l.1) c.args.putters.now.items left

pub close_ports-requires : goal.close_ports-requires
close_ports-requires t c =
    let ins : c.args.inputs.now ≡ c.in-Some.from.now ∷ c.in-Some.others.now = search rules in
    let ends : c.args.ends ≡ c.in-Some-take_first.end ∷ c.take_first.new.self = search rules in
    let l = c.requires.left in
    let left = subst (λ (z : List ℕ × List InEnd). AreLeft (z.0 ++ l.0) (z.1 ++ l.1) c.args.putters.now.items) (λ i. (ins i, ends i)) l.2 in
    let closed = c.close_port.ensures.closed in
    let lt : c.in-Some.from.now < length c.args.putters.now.items = subst (AreWithin (length c.args.putters.now.items)) ins c.requires.within 0 c.in-Some.from.now (omega arith) in
    let count = port_count_stays c.in-Some.from.now c.in-Some-take_first.end c.args.putters.now.items c.close_port.new.putters.items c.args.records.now.items c.close_port.new.records.items closed in
    let within = subst (AreWithin (length c.args.putters.now.items)) ins c.requires.within in
    let over = subst (All (λ (e : InEnd). is_over e.taken ≡ true)) ends c.requires.over in (
      search rules,
      (
        search rules,
        (
          subst (λ (k : ℕ). AreWithin k c.in-Some.others.now) (sym count) (λ k d less. within (suc k) d (omega (arith, less))),
          (
            (l.0, l.1, left_closed c.in-Some.from.now (c.in-Some.others.now ++ l.0) c.in-Some-take_first.end (c.take_first.new.self ++ l.1) c.args.putters.now.items _ c.args.records.now.items _ lt left closed),
            ((λ k d less. over (suc k) d (omega (arith, less))), search (rules, length-append)),
          ),
        ),
      ),
    )

pub returns-clause-closed : goal.returns-clause-closed
returns-clause-closed t c =
    let ins : c.args.inputs.now ≡ c.in-Some.from.now ∷ c.in-Some.others.now = search rules in
    let ends : c.args.ends ≡ c.in-Some-take_first.end ∷ c.take_first.new.self = search rules in
    let lt : c.in-Some.from.now < length c.args.putters.now.items = subst (AreWithin (length c.args.putters.now.items)) ins c.requires.within 0 c.in-Some.from.now (omega arith) in
    let all = first_closed c.in-Some.from.now c.in-Some.others.now c.in-Some-take_first.end c.take_first.new.self c.args.putters.now.items _ c.close_ports.new.putters.items c.args.records.now.items _ c.close_ports.new.records.items lt c.close_port.ensures.closed c.close_ports.ensures.closed in
    subst (λ (z : List ℕ × List InEnd). SomeClosed z.0 z.1 c.args.putters.now.items c.close_ports.new.putters.items c.args.records.now.items c.close_ports.new.records.items) (λ i. (sym ins i, sym ends i)) all

pub returns-clause-left : goal.returns-clause-left
returns-clause-left t c fs es left =
    let ins : c.args.inputs.now ≡ c.in-Some.from.now ∷ c.in-Some.others.now = search rules in
    let ends : c.args.ends ≡ c.in-Some-take_first.end ∷ c.take_first.new.self = search rules in
    let lt : c.in-Some.from.now < length c.args.putters.now.items = subst (AreWithin (length c.args.putters.now.items)) ins c.requires.within 0 c.in-Some.from.now (omega arith) in
    let at = subst (λ (z : List ℕ × List InEnd). AreLeft (z.0 ++ fs) (z.1 ++ es) c.args.putters.now.items) (λ i. (ins i, ends i)) left in
    c.close_ports.ensures.left fs es (left_closed c.in-Some.from.now (c.in-Some.others.now ++ fs) c.in-Some-take_first.end (c.take_first.new.self ++ es) c.args.putters.now.items _ c.args.records.now.items _ lt at c.close_port.ensures.closed)
