use Rattle.std.proofs.Common.{length, subst, ap, ◌∙◌, arith}
use Rattle.std.specs.Io.KnownBytes.{Appends}
use Rattle.std.proofs.KnownBytes.{Appends-trans}
use Rattle.std.proofs.lemmas.List.{length-drop}
use Rattle.cedr_io.proofs.Copies.{part_after, rest_of}
use Rattle.cedr_io.proofs.sink.write_all.Goals as goal

pub loop-done-preserved : goal.loop-done-preserved
loop-done-preserved g c =
    let call = c.in_ok-taken.ensures in
    let bytes = c.args.bytes.now in
    let done = c.loop-done.done in
    record {
      within = omega (arith, call.within, ap length (rest_of bytes done), length-drop done bytes);
      taken = subst (Appends (g.K.Sink.written c.args.sink.now) (g.K.Sink.written c.write.new.self)) (part_after bytes done c.in_ok-taken.taken) (Appends-trans (g.K.Sink.written c.args.sink.now) (g.K.Sink.written c.loop-done.sink) (g.K.Sink.written c.write.new.self) _ _ c.loop-done.invariant.taken call.bytes);
      counted = call.counted ∙ c.loop-done.invariant.counted;
    }
