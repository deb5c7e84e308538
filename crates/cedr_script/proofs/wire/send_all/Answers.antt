use Rattle.std.proofs.Common.{length, subst, ap, ◌∙◌, arith, refl}
use Rattle.std.specs.Io.KnownBytes.{Appends}
use Rattle.std.proofs.KnownBytes.{Appends-nil, Appends-trans, Keeps-refl, Keeps-trans}
use Rattle.std.proofs.lemmas.List.{length-drop}
use Rattle.cedr_io.proofs.Copies.{part_after, rest_of}
use Rattle.cedr_script.specs.Logs.{Sends}
use Rattle.cedr_script.proofs.LogLemmas.{sends_none, sends_more}
use Rattle.cedr_script.proofs.wire.send_all.Goals as goal

pub loop-done-init : goal.loop-done-init
loop-done-init g c =
    let wire = c.args.wire.now in
    record {
      within = omega arith;
      taken = Appends-nil (g.W.Wire.written wire);
      sent = sends_none (g.W.Wire.log wire);
      kept = Keeps-refl (g.W.Wire.rest wire);
      counted = refl;
      reads = refl;
      loans = refl;
    }

pub loop-done-preserved : goal.loop-done-preserved
loop-done-preserved g c =
    let call = c.in_ok-taken.ensures in
    let was = c.loop-done.invariant in
    let bytes = c.args.bytes.now in
    let done = c.loop-done.done in
    let first = c.args.wire.now in
    let before = c.loop-done.wire in
    let after = c.write.new.self in
    record {
      within = omega (arith, call.within, ap length (rest_of bytes done), length-drop done bytes);
      taken = subst (Appends (g.W.Wire.written first) (g.W.Wire.written after)) (part_after bytes done c.in_ok-taken.taken) (Appends-trans (g.W.Wire.written first) (g.W.Wire.written before) (g.W.Wire.written after) _ _ was.taken call.bytes);
      sent = subst (Sends (g.W.Wire.log first) (g.W.Wire.log after)) (part_after bytes done c.in_ok-taken.taken) (sends_more (g.W.Wire.log first) (g.W.Wire.log before) (g.W.Wire.log after) _ _ was.sent call.logged);
      kept = Keeps-trans (g.W.Wire.rest first) (g.W.Wire.rest before) (g.W.Wire.rest after) was.kept call.kept;
      counted = call.counted ∙ was.counted;
      reads = call.reads ∙ was.reads;
      loans = call.loans ∙ was.loans;
    }
