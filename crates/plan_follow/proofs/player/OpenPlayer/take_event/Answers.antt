use Rattle.std.proofs.Common.{◌≡◌, None, get_or, refl, ◌∙◌, subst}
use Rattle.std.proofs.lemmas.Result.{IfOk-weaker}
use Rattle.cedr_net.proofs.EdgeLemmas.{any_default}
use Rattle.cedr_text.specs.Reading.{reading}
use Rattle.cedr_text.specs.declared.event_line.Shape.{Shape}
use Rattle.cedr_text.specs.declared.event_line.Shape.TheVariants.{AnyText}
use Rattle.plan_follow.specs.Playing.{GoesOnTo}
use Rattle.plan_follow.specs.Sifted.{with_read}
use Rattle.plan_follow.specs.declared.player.OpenPlayer.{OpenPlayer}
use Rattle.plan_follow.proofs.PlayerLemmas.{event_legal, event_taken, refused_told}
use Rattle.plan_follow.proofs.player.OpenPlayer.take_event.Goals as goal
use Rattle.plan_live.specs.Scripts.{lines_at}

pub feed_still-requires : goal.feed_still-requires
feed_still-requires c =
    let r = c.requires.holds in
    let place = c.args.place in
    let p = r.3 in
    let old = c.args.self.now in
    let j = c.in-Ok.ensures in
    let sifts = j.sifts j.now (lines_at r.1.kept place) (p.recall.each place j.now r.4) in
    (r.0, r.2, p.still, r.4, r.5, event_legal r.0 old old r.1 r.2 place p r.4 r.5 c.in-Ok.messages (reading c.index-shapes-place.result c.args.line.now) j.now sifts)

pub returns-in_ok-feed_still-in-Ok : goal.returns-in_ok-feed_still-in-Ok
returns-in_ok-feed_still-in-Ok c = λ nodes s given p within source.
    let place = c.args.place in
    let line = c.args.line.now in
    let old = c.args.self.now in
    let new : OpenPlayer = record { guards = c.sift_at.new.guards; net = c.feed_still.new.net } in
    let j = c.in-Ok.ensures in
    let said = reading c.index-shapes-place.result line in
    let shape : c.index-shapes-place.result ≡ get_or c.args.shapes.now place AnyText = c.index-shapes-place.is ∙ any_default c.args.shapes.now place c.index-shapes-place.result AnyText c.requires.shape in
    let sifts = j.sifts j.now (lines_at s.kept place) (p.recall.each place j.now within) in
    let fed = c.in_ok-feed_still-in-Ok.ensures nodes given p.still within source (event_legal nodes old old s given place p within source c.in-Ok.messages said j.now sifts) in
    subst (λ (shape : Shape). GoesOnTo nodes new s (with_read s place (reading shape line)) given None) shape
    (event_taken nodes old new s given place p within source c.in-Ok.messages said j.now sifts j.set_to fed)

pub returns-in-Err : goal.returns-in-Err
returns-in-Err c = IfOk-weaker c.line_fault.result _ _ (λ told is nodes s given p within source.
    let place = c.args.place in
    let line = c.args.line.now in
    let old = c.args.self.now in
    let new : OpenPlayer = record { guards = c.sift_at.new.guards; net = c.args.self.now.net } in
    let j = c.in-Err.ensures in
    let said = reading c.index-shapes-place.result line in
    let shape : c.index-shapes-place.result ≡ get_or c.args.shapes.now place AnyText = c.index-shapes-place.is ∙ any_default c.args.shapes.now place c.index-shapes-place.result AnyText c.requires.shape in
    subst (λ (shape : Shape). GoesOnTo nodes new s (with_read s place (reading shape line)) given told) shape
    (refused_told nodes old new s given place p within source c.in-Err.fault told said j.now is (j.sifts j.now (lines_at s.kept place) (p.recall.each place j.now within)) j.set_to refl))
    c.line_fault.ensures
