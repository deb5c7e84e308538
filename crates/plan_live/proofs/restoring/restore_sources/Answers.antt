use Rattle.std.proofs.Common.{◌≡◌, ◌<◌, ◌+◌, ℕ, length, get_or, sym, subst, arith}
use Rattle.plan_live.specs.Resumed.{states_in}
use Rattle.plan_live.proofs.RestoreLemmas.{IsOnTheWayTo, begun, state_within, state_fit, source_at, with_source, with_other, ended_way}
use Rattle.plan_live.proofs.restoring.restore_sources.Goals as goal
use Rattle.plan_live.proofs.restoring.restore_sources.Goals.{then-is_source+in_ok-restore_source, else-is_source}

pub loop-place-init : goal.loop-place-init
loop-place-init g c = begun c.args.nodes.now (states_in c.args.states.now) (g.R.Restores.stands c.args.nodes.now c.args.restored.now) c.requires.stands

pub bounds-states-number : goal.bounds-states-number
bounds-states-number g c =
    let nodes = c.args.nodes.now in
    let place = c.loop-place.place in
    let n = c.index-nodes-place.result in
    let within : place < length nodes = omega (arith, c.loop-place-test.true) in
    let at : n ≡ get_or nodes place n = (let is = c.index-nodes-place.is in cc) in
    state_within nodes c.args.states.now c.requires.states place c.loop-place.number (g.R.Restores.stands nodes c.loop-place.restored) c.loop-place.invariant n within at (sym c.if-is_source.ensures)

pub restore_source-requires-clause-fit : goal.restore_source-requires-clause-fit
restore_source-requires-clause-fit g c =
    let nodes = c.args.nodes.now in
    let place = c.loop-place.place in
    let n = c.index-nodes-place.result in
    let stands = g.R.Restores.stands nodes c.loop-place.restored in
    let within : place < length nodes = omega (arith, c.loop-place-test.true) in
    let at : n ≡ get_or nodes place n = (let is = c.index-nodes-place.is in cc) in
    let some = state_within nodes c.args.states.now c.requires.states place c.loop-place.number stands c.loop-place.invariant n within at (sym c.if-is_source.ensures) in
    state_fit nodes c.args.states.now c.requires.states place c.loop-place.number stands c.loop-place.invariant n within at c.index-states-number.result some c.index-states-number.is

pub restore_source-requires-clause-stands : goal.restore_source-requires-clause-stands
restore_source-requires-clause-stands g c =
    let nodes = c.args.nodes.now in
    let place = c.loop-place.place in
    let n = c.index-nodes-place.result in
    let inv = c.loop-place.invariant in
    let within : place < length nodes = omega (arith, c.loop-place-test.true) in
    let at : n ≡ get_or nodes place n = (let is = c.index-nodes-place.is in cc) in
    let source = source_at nodes c.args.states.now c.requires.states place c.loop-place.number (g.R.Restores.stands nodes c.loop-place.restored) inv n within at (sym c.if-is_source.ensures) in
    (nodes, inv.before, inv.stands, within, source, inv.restored.left place (omega arith))

pub loop-place-preserved : goal.loop-place-preserved
loop-place-preserved g c =
    let nodes = c.args.nodes.now in
    let states = c.args.states.now in
    let place = c.loop-place.place in
    let number = c.loop-place.number in
    let stands = g.R.Restores.stands nodes in
    let old = stands c.loop-place.restored in
    let n = c.index-nodes-place.result in
    let inv = c.loop-place.invariant in
    let within : place < length nodes = omega (arith, c.loop-place-test.true) in
    let at : n ≡ get_or nodes place n = (let is = c.index-nodes-place.is in cc) in
    elim c.if-is_source.branch [
      | then-is_source+in_ok-restore_source w ↦
          let is = sym w.if-is_source.ensures in
          let s = w.index-states-number.result in
          let new = stands w.restore_source.new.self in
          let source = source_at nodes states c.requires.states place number old inv n within at is in
          let next = with_source nodes states c.requires.states place number old inv n within at s new is w.index-states-number.is (w.in_ok-restore_source.ensures nodes inv.before inv.stands within source (inv.restored.left place (omega arith))) in
          subst (λ r. IsOnTheWayTo nodes (states_in states) (place + 1) c.if-is_source.number (stands r)) (sym w.restored-is) (subst (λ (k : ℕ). IsOnTheWayTo nodes (states_in states) (place + 1) k new) (sym w.number-is) next)
      | else-is_source w ↦
          let next = with_other nodes states c.requires.states place number old inv n within at (sym w.if-is_source.ensures) in
          subst (λ r. IsOnTheWayTo nodes (states_in states) (place + 1) c.if-is_source.number (stands r)) (sym w.restored-is) (subst (λ (k : ℕ). IsOnTheWayTo nodes (states_in states) (place + 1) k old) (sym w.number-is) next)
    ]

pub returns : goal.returns
returns g c =
    let nodes = c.args.nodes.now in
    let end : c.loop-place.place ≡ length nodes = omega (arith, c.loop-place-test.false, c.loop-place.auto.place-end) in
    ended_way nodes (states_in c.args.states.now) c.loop-place.place c.loop-place.number (g.R.Restores.stands nodes c.loop-place.restored) end c.loop-place.invariant
