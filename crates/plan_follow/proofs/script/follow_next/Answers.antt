use Rattle.std.proofs.Common.{◌==◌, Bool, Result, Err, take, refl, ap, sym, ◌∙◌, subst, arith}
use Rattle.std.proofs.lemmas.List.{length-take}
use Rattle.std.proofs.lemmas.Result.{err_from_is_err_and}
use Rattle.cedr_script.specs.Cutters.{begun_of}
use Rattle.plan_follow.proofs.HeldLemmas.{next_unread, next_untaken, next_unsent, next_sent}
use Rattle.plan_follow.proofs.script.follow_next.Goals as goal
use Rattle.plan_follow.specs.Holding.{FollowsNext, followed}
use Rattle.plan_follow.specs.Sending.{outside_of}
use Rattle.plan_follow.specs.declared.fault.FollowFault.{FollowFault}

pub returns-in_err-count-clause-followed : goal.returns-in_err-count-clause-followed
returns-in_err-count-clause-followed g c = λ before start first u.
    let f = followed c.args.nodes.now c.args.shapes.now c.args.name.now before start in
    let mid = outside_of g.W.Wire.rest g.W.Wire.written g.W.Wire.log g.E.Sink.faults g.E.Sink.written c.args.wire.now c.args.err.now in
    let new = outside_of g.W.Wire.rest g.W.Wire.written g.W.Wire.log g.E.Sink.faults g.E.Sink.written c.read_piece.new.wire c.args.err.now in
    let q = err_from_is_err_and c.from_residual.result c.from_residual.ensures.1 in
    subst (λ (r : Result Bool FollowFault). FollowsNext r f (begun_of c.args.cutter.now) c.args.follower.now first new) (sym (q.1 ∙ ap (λ e. Err e) q.2))
    (next_unread f c.requires.types (begun_of c.args.cutter.now) c.args.follower.now first mid u c.in_err-count.field-0.0 new c.read_piece.new.buf c.in_err-count.ensures.read c.in_err-count.ensures.written refl refl)

pub returns-in_err-take_more-clause-followed : goal.returns-in_err-take_more-clause-followed
returns-in_err-take_more-clause-followed g c = λ before start first u.
    let f = followed c.args.nodes.now c.args.shapes.now c.args.name.now before start in
    let mid = outside_of g.W.Wire.rest g.W.Wire.written g.W.Wire.log g.E.Sink.faults g.E.Sink.written c.args.wire.now c.args.err.now in
    let after = outside_of g.W.Wire.rest g.W.Wire.written g.W.Wire.log g.E.Sink.faults g.E.Sink.written c.read_piece.new.wire c.args.err.now in
    let piece = take c.in_ok-count.count c.read_piece.new.buf in
    let read = c.in_ok-count.ensures.read in
    let q = err_from_is_err_and c.from_residual-in_err-take_more.result c.from_residual-in_err-take_more.ensures.1 in
    subst (λ (r : Result Bool FollowFault). FollowsNext r f (begun_of c.take_more.new.cutter) c.take_more.new.follower first after) (sym (q.1 ∙ ap (λ e. Err e) q.2))
    (next_untaken f c.requires.types (begun_of c.args.cutter.now) c.args.follower.now first mid u after piece read.0 c.in_ok-count.ensures.written read.2 refl refl)

pub returns-in_err-send_kept-clause-followed : goal.returns-in_err-send_kept-clause-followed
returns-in_err-send_kept-clause-followed g c = λ before start first u.
    let f = followed c.args.nodes.now c.args.shapes.now c.args.name.now before start in
    let mid = outside_of g.W.Wire.rest g.W.Wire.written g.W.Wire.log g.E.Sink.faults g.E.Sink.written c.args.wire.now c.args.err.now in
    let after = outside_of g.W.Wire.rest g.W.Wire.written g.W.Wire.log g.E.Sink.faults g.E.Sink.written c.read_piece.new.wire c.args.err.now in
    let new = outside_of g.W.Wire.rest g.W.Wire.written g.W.Wire.log g.E.Sink.faults g.E.Sink.written c.send_kept.new.wire c.send_kept.new.err in
    let count = c.in_ok-count.count in
    let buf = c.read_piece.new.buf in
    let piece = take count buf in
    let read = c.in_ok-count.ensures.read in
    let fault = c.in_err-send_kept.field-0.0 in
    let q = err_from_is_err_and c.from_residual-in_err-send_kept.result c.from_residual-in_err-send_kept.ensures.1 in
    subst (λ (r : Result Bool FollowFault). FollowsNext r f (begun_of c.take_more.new.cutter) c.send_kept.new.follower first new) (sym (q.1 ∙ ap (λ e. Err e) q.2))
    (next_unsent f c.requires.types (begun_of c.args.cutter.now) (begun_of c.take_more.new.cutter) c.args.follower.now c.take_more.new.follower first mid after u count piece (omega (arith, length-take count buf, c.in_ok-count.ensures.within))
    read.0 read.1 c.in_ok-count.ensures.written read.2 refl refl c.in_ok-take_more.ensures c.take_more.new.cutter.none fault new c.in_err-send_kept.ensures.sent)

pub returns-clause-followed : goal.returns-clause-followed
returns-clause-followed g c = λ before start first u.
    let f = followed c.args.nodes.now c.args.shapes.now c.args.name.now before start in
    let mid = outside_of g.W.Wire.rest g.W.Wire.written g.W.Wire.log g.E.Sink.faults g.E.Sink.written c.args.wire.now c.args.err.now in
    let after = outside_of g.W.Wire.rest g.W.Wire.written g.W.Wire.log g.E.Sink.faults g.E.Sink.written c.read_piece.new.wire c.args.err.now in
    let new = outside_of g.W.Wire.rest g.W.Wire.written g.W.Wire.log g.E.Sink.faults g.E.Sink.written c.send_kept.new.wire c.send_kept.new.err in
    let count = c.in_ok-count.count in
    let buf = c.read_piece.new.buf in
    let piece = take count buf in
    let read = c.in_ok-count.ensures.read in
    let sent = c.in_ok-send_kept.ensures.sent in
    next_sent f c.requires.types (begun_of c.args.cutter.now) (begun_of c.take_more.new.cutter) c.args.follower.now c.take_more.new.follower first mid after u count piece (omega (arith, length-take count buf, c.in_ok-count.ensures.within))
    read.0 read.1 c.in_ok-count.ensures.written read.2 refl refl c.in_ok-take_more.ensures c.take_more.new.cutter.none c.send_kept.new.follower new (count == 0) refl sent.0 sent.1
