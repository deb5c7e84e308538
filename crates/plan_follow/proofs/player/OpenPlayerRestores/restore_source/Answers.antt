use Rattle.std.proofs.lemmas.Result.{on_ok_weaker}
use Rattle.std.proofs.Common.{refl}
use Rattle.std.specs.Vec.{with_item}
use Rattle.cedr_guard.specs.Spelt.{state_in}
use Rattle.plan_follow.specs.declared.player.OpenPlayer.{OpenPlayer}
use Rattle.plan_follow.proofs.StateLemmas.{state_legal, state_holds}
use Rattle.plan_follow.proofs.player.OpenPlayerRestores.restore_source.Goals as goal

pub feed_still-requires : goal.feed_still-requires
feed_still-requires c =
    let r = c.requires.stands in
    let held = r.2 in
    let old = c.args.self.now in
    (r.0, held.0, held.1.still, r.3, r.4, state_legal r.0 old old r.1 held.0 c.args.place held.1 r.3 r.4 r.5 (state_in c.args.state.now) c.requires.fit c.in_ok-messages.messages.items c.in_ok-messages.ensures)

pub returns : goal.returns
returns c = on_ok_weaker c.feed_still.result (λ fed nodes before held within source none.
    let place = c.args.place in
    let state = state_in c.args.state.now in
    let ms = c.in_ok-messages.messages.items in
    let guard = c.in_ok-guard.guard in
    let old = c.args.self.now in
    let new : OpenPlayer = record { guards = with_item c.args.self.now.guards place guard; net = c.feed_still.new.net } in
    let p = held.1 in
    state_holds nodes old new before held.0 place p within source none state c.requires.fit ms c.in_ok-messages.ensures guard refl c.in_ok-guard.ensures
    (fed nodes held.0 p.still within source (state_legal nodes old new before held.0 place p within source none state c.requires.fit ms c.in_ok-messages.ensures)))
    c.feed_still.ensures
