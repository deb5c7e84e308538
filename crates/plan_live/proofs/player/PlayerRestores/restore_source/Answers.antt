use Rattle.std.proofs.Common.{refl, []}
use Rattle.std.specs.Vec.{with_item}
use Rattle.std.proofs.lemmas.Result.{on_ok_weaker}
use Rattle.node_laws.specs.Lists.{list_at}
use Rattle.cedr_guard.specs.Spelt.{state_in, lines_of}
use Rattle.plan_live.specs.declared.player.Player.{Player}
use Rattle.plan_live.specs.Scripts.{lines_at}
use Rattle.plan_live.proofs.FeedLemmas.{legal_more, stands_on}
use Rattle.plan_live.proofs.RestoreLemmas.{first_messages}
use Rattle.plan_live.proofs.player.PlayerRestores.restore_source.Goals as goal

pub feed_on-requires : goal.feed_on-requires
feed_on-requires c =
    let r = c.requires.stands in
    let p = r.2 in
    let lines = lines_of (state_in c.args.state.now) in
    let ms = c.in_ok-messages.messages.items in
    let before = lines_at r.1 c.args.place in
    (r.0, p.given, p.settled, r.3, r.4, legal_more (list_at p.given c.args.place) ms before lines c.in_ok-guard.guard (p.sources c.args.place r.3 r.4) c.in_ok-guard.ensures (first_messages before lines ms r.5 c.in_ok-messages.ensures))

pub returns : goal.returns
returns c = on_ok_weaker c.feed_on.result (λ fed nodes before p within source none.
    let place = c.args.place in
    let lines = lines_of (state_in c.args.state.now) in
    let ms = c.in_ok-messages.messages.items in
    let guard = c.in_ok-guard.guard in
    let old = c.args.self.now in
    let new : Player = record { guards = with_item c.args.self.now.guards place guard; net = c.feed_on.new.net } in
    let more = first_messages (lines_at before place) lines ms none c.in_ok-messages.ensures in
    let legal = legal_more (list_at p.given place) ms (lines_at before place) lines guard (p.sources place within source) c.in_ok-guard.ensures more in
    stands_on nodes old new before [] place p within lines ms guard refl c.in_ok-guard.ensures more (fed nodes p.given p.settled within source legal))
    c.feed_on.ensures
