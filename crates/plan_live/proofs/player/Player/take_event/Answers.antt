use Rattle.std.proofs.Common.{◌≡◌, List, [], ◌++◌, Result, Err, get_or, set, ap, sym, ◌∙◌, subst}
use Rattle.std.proofs.lemmas.Result.{err_from_is_err_and}
use Rattle.cedr_guard.specs.declared.fault.GuardFault.{GuardFault}
use Rattle.cedr_base.specs.declared.change.Message.{Message}
use Rattle.cedr_guard.specs.Messages.{messages_behind}
use Rattle.cedr_guard.specs.Sources.{with_reading}
use Rattle.node_laws.specs.Lists.{list_at}
use Rattle.cedr_net.proofs.EdgeLemmas.{any_default}
use Rattle.cedr_text.specs.Reading.{reading}
use Rattle.cedr_text.specs.declared.event_line.Shape.{Shape}
use Rattle.cedr_text.specs.declared.event_line.Shape.TheVariants.{AnyText}
use Rattle.plan_live.specs.declared.player.Player.{Player}
use Rattle.plan_live.specs.Scripts.{lines_at, with_lines}
use Rattle.plan_live.specs.Playing.{PlaysLine}
use Rattle.plan_live.proofs.GuardLemmas.{fault_passes}
use Rattle.plan_live.proofs.FeedLemmas.{legal_more, stands_on}
use Rattle.plan_live.proofs.player.Player.take_event.Goals as goal

pub returns-in_err-messages : goal.returns-in_err-messages
returns-in_err-messages c = λ nodes before shown p within source.
    let place = c.args.place in
    let line = c.args.line.now in
    let j = c.in_err-messages.ensures in
    let fault = c.in_err-messages.field-0.0 in
    let player : Player = record { guards = c.judge_at.new.guards; net = c.args.self.now.net } in
    let q = err_from_is_err_and c.from_residual.result c.from_residual.ensures.1 in
    let shape : c.index-shapes-place.result ≡ get_or c.args.shapes.now place AnyText = c.index-shapes-place.is ∙ any_default c.args.shapes.now place c.index-shapes-place.result AnyText c.requires.shape in
    let judged = j.judged j.now (lines_at before place) (p.judged.each place j.now within) in
    let passes = fault_passes fault j.now before place (with_reading (lines_at before place) (reading c.index-shapes-place.result line)) judged in
    subst (λ (r : Result (Unit {0}) GuardFault). PlaysLine r nodes player shown (with_lines before place (with_reading (lines_at before place) (reading (get_or c.args.shapes.now place AnyText) line)))) (sym (q.1 ∙ ap (λ f. Err f) q.2))
    (subst (λ (s : Shape). PlaysLine (Err fault) nodes player shown (with_lines before place (with_reading (lines_at before place) (reading s line)))) shape passes)

pub feed_on-requires : goal.feed_on-requires
feed_on-requires c =
    let r = c.requires.stands in
    let place = c.args.place in
    let p = r.3 in
    let j = c.in_ok-messages.ensures in
    let judged = j.judged j.now (lines_at r.1 place) (p.judged.each place j.now r.4) in
    (r.0, p.given, p.settled, r.4, r.5, legal_more (list_at p.given place) c.in_ok-messages.messages.items (lines_at r.1 place) judged.0 j.now (p.sources place r.4 r.5) judged.2 (judged.5 ∙ ap (λ (ms : List Message). messages_behind [] (lines_at r.1 place) ++ ms) (sym judged.4)))

pub returns : goal.returns
returns c = λ nodes before shown p within source.
    let place = c.args.place in
    let line = c.args.line.now in
    let ms = c.in_ok-messages.messages.items in
    let old = c.args.self.now in
    let new : Player = record { guards = c.judge_at.new.guards; net = c.feed_on.new.net } in
    let j = c.in_ok-messages.ensures in
    let shape : c.index-shapes-place.result ≡ get_or c.args.shapes.now place AnyText = c.index-shapes-place.is ∙ any_default c.args.shapes.now place c.index-shapes-place.result AnyText c.requires.shape in
    let judged = j.judged j.now (lines_at before place) (p.judged.each place j.now within) in
    let more = judged.5 ∙ ap (λ (xs : List Message). messages_behind [] (lines_at before place) ++ xs) (sym judged.4) in
    let legal = legal_more (list_at p.given place) ms (lines_at before place) judged.0 j.now (p.sources place within source) judged.2 more in
    let fed = c.in_ok-feed_on.ensures nodes p.given p.settled within source legal in (
      set before place judged.0,
      ap (with_lines before place) (ap (λ (s : Shape). with_reading (lines_at before place) (reading s line)) (sym shape) ∙ judged.1),
      stands_on nodes old new before shown place p within judged.0 ms j.now j.set_to judged.2 more fed,
    )
