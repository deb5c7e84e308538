use Rattle.std.proofs.Common.{◌≡◌, ◌∙◌, refl, subst, arith, length, ℕ}
use Rattle.cedr_net.specs.Networks.{IsSettledUpTo}
use Rattle.cedr_net.proofs.SettleLemmas.{settled_first, settled_on}
use Rattle.cedr_net.proofs.flow.Flow.settle.Goals as goal

pub loop-place-init : goal.loop-place-init
loop-place-init c = (refl, λ nodes ports given h. settled_first nodes c.args.self.now ports given h)

pub drain-requires : goal.drain-requires
drain-requires c =
    let u = c.loop-place.invariant.1 c.requires.0 c.requires.1 c.requires.2 c.requires.3 in
    (c.requires.0, u.ports, u.given', u.stands, omega (arith, c.requires.3.flows.works_count))

pub loop-place-preserved : goal.loop-place-preserved
loop-place-preserved c = (
  c.drain.ensures.keeps ∙ c.loop-place.invariant.0,
  λ nodes ports given h.
      let u = c.loop-place.invariant.1 nodes ports given h in
      settled_on nodes c.loop-place.self c.drain.new.self ports given c.loop-place.place u (c.in_ok-drain.ensures.drained nodes u.ports u.given' u.stands (omega (arith, h.flows.works_count))),
)

pub returns-clause-settled : goal.returns-clause-settled
returns-clause-settled c = λ nodes ports given h.
    let end : c.loop-place.place ≡ length nodes = omega (arith, h.flows.works_count, c.len-place-end.ensures) in
    subst (λ (n : ℕ). IsSettledUpTo nodes c.loop-place.self ports given n) end (c.loop-place.invariant.1 nodes ports given h)
