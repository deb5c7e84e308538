use Rattle.std.proofs.Common.{[], List, length, refl, ap, sym, ◌∙◌, subst}
use Rattle.cedr_base.specs.declared.change.Message.{Message}
use Rattle.plan_follow.specs.Playing.{PlayerHolds}
use Rattle.plan_follow.specs.Sifted.{sifted_behind}
use Rattle.plan_follow.specs.declared.follower.Follower.{Follower}
use Rattle.plan_follow.proofs.FollowerLemmas.{first_came, grow_first}
use Rattle.plan_follow.proofs.follower.Follower.new.Goals as goal
use Rattle.plan_live.specs.Scripts.{no_lines}

pub returns-clause-stands : goal.returns-clause-stands
returns-clause-stands c = λ name.
    let nodes = c.args.plan.now.nodes.items in
    let first = c.in_ok-player.ensures in
    let s = sifted_behind (no_lines nodes) in
    let made = c.of_player.ensures.made in
    first_came nodes name c.of_player.result s [] first.0 refl refl (subst (λ (f : Follower). PlayerHolds nodes f.player s.kept s.sent first.0) (sym made) first.1) (grow_first first.0) first.2
    (ap (λ (f : Follower). f.taken) made ∙ ap (λ (ms : List Message). length ms) (sym first.2)) (ap (λ (f : Follower). f.number) made) (ap (λ (f : Follower). f.faulty) made) c.of_player.ensures.clear
