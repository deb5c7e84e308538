use Rattle.plan_follow.specs.Sending.{outside_of}
use Rattle.plan_follow.proofs.SendLemmas.{both_sent}
use Rattle.plan_follow.proofs.sending.send_both.Goals as goal

pub returns-clause-sent : goal.returns-clause-sent
returns-clause-sent g c =
    both_sent c.tell.result (outside_of g.W.Wire.rest g.W.Wire.written g.W.Wire.log g.E.Sink.faults g.E.Sink.written c.args.wire.now c.args.err.now) (outside_of g.W.Wire.rest g.W.Wire.written g.W.Wire.log g.E.Sink.faults g.E.Sink.written c.send_text.new.wire c.tell.new.err) c.args.text.now c.args.said.now
    c.in_ok-send_text.ensures.rest c.in_ok-send_text.ensures.sent.0 c.in_ok-send_text.ensures.sent.1 c.tell.ensures
