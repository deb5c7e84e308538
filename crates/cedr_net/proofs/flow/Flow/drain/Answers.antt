use Rattle.std.proofs.Common.{◌∙◌, refl}
use Rattle.cedr_net.proofs.SettleLemmas.{way_first, way_on, turn_fewer, drained}
use Rattle.cedr_net.proofs.flow.Flow.drain.Goals as goal

pub loop-init : goal.loop-init
loop-init c = (refl, λ nodes ports given h within. way_first nodes c.args.self.now ports given c.args.place h)

pub turn-requires : goal.turn-requires
turn-requires c =
    let w = c.loop.invariant.1 c.requires.0 c.requires.1 c.requires.2 c.requires.3 c.requires.4 in
    (c.requires.0, w.ports, w.given', w.stands, c.requires.4)

pub loop-smaller : goal.loop-smaller
loop-smaller c =
    let w = c.loop.invariant.1 c.requires.0 c.requires.1 c.requires.2 c.requires.3 c.requires.4 in
    let t = c.in_ok-turn.ensures.turned c.if-branch.true in
    turn_fewer c.requires.0 c.loop.self c.turn.new.self w.ports w.given' c.args.place t.0 (t.1 c.requires.0 w.ports w.given' w.stands c.requires.4)

pub loop-preserved : goal.loop-preserved
loop-preserved c = (
  c.turn.ensures.keeps ∙ c.loop.invariant.0,
  λ nodes ports given h within.
      let w = c.loop.invariant.1 nodes ports given h within in
      let t = c.in_ok-turn.ensures.turned c.if-branch.true in
      way_on nodes c.args.self.now c.loop.self c.turn.new.self ports given c.args.place t.0 within w (t.1 nodes w.ports w.given' w.stands within),
)

pub returns-clause-drained : goal.returns-clause-drained
returns-clause-drained c = λ nodes ports given h within.
    let w = c.loop.invariant.1 nodes ports given h within in
    let idle = c.in_ok-turn.ensures.idle c.if-branch.false in
    drained nodes c.args.self.now c.loop.self c.turn.new.self ports given c.args.place w (idle.2 nodes w.ports w.given' w.stands) idle.1 idle.0
