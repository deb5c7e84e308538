use Rattle.std.proofs.Common.{refl, ap, sym, ◌∙◌, subst, arith}
use Rattle.cedr_net.proofs.SettleLemmas.{grow_none}
use Rattle.plan_follow.specs.Playing.{PlayerHolds}
use Rattle.plan_follow.specs.Sifted.{sifted_behind}
use Rattle.plan_follow.specs.declared.follower.Follower.{Follower}
use Rattle.plan_follow.proofs.FollowerLemmas.{still_run, first_came}
use Rattle.plan_follow.proofs.follower.Follower.restored.Goals as goal
use Rattle.plan_live.specs.Resumed.{lines_from, states_in}

pub returns-clause-stands : goal.returns-clause-stands
returns-clause-stands c =
    let nodes = c.args.plan.now.nodes.items in
    let s = sifted_behind (lines_from nodes (states_in c.args.states.now)) in
    let held = c.in_ok-player.ensures in
    let given = held.0 in
    let took = c.in-Some.ensures nodes s.kept s.sent given held.1 in
    let made = c.of_player.ensures.made in (
      given,
      record { ports = held.1.still.ports; run = still_run nodes c.in_ok-player.player s.kept s.sent given held.1 },
      λ name.
          first_came nodes name c.of_player.result s given given refl refl (subst (λ (f : Follower). PlayerHolds nodes f.player s.kept s.sent given) (sym made) took.1) (grow_none given) refl
          (ap (λ (f : Follower). f.taken) made ∙ (c.len.ensures ∙ omega (arith, took.0.ends, c.in-Some.messages.ok.0))) (ap (λ (f : Follower). f.number) made) (ap (λ (f : Follower). f.faulty) made) c.of_player.ensures.clear,
    )
