use Rattle.std.proofs.Common.{◌+◌, ap, arith, length, length-drop}
use Rattle.cedr_base.proofs.FieldBytes.{text_step, text_end, tail_of}
use Rattle.cedr_base.proofs.field_code.push_text.Goals as goal

pub loop-out-preserved : goal.loop-out-preserved
loop-out-preserved c = record {
  whole = text_step c.loop-out.out c.extend.new.self c.push-in-loop-out.new.self c.push-in-loop-out-2.new.self c.loop-out.rest.now _ c.run_len-run.result c.loop-out.invariant.whole c.run_len-run.ensures.within c.if-run-rest.false c.run_len-run.ensures.before c.run_len-run.ensures.found c.in_ok-extend.ensures c.in_ok-push-2.ensures c.in_ok-push-3.ensures;
  within = omega (arith, c.loop-out.invariant.within, ap length (tail_of c.loop-out.rest.now (c.run_len-run.result + 1)), length-drop (c.run_len-run.result + 1) c.loop-out.rest.now);
}

pub returns : goal.returns
returns c =
    text_end c.args.out.now c.push.new.self c.loop-out.out c.extend.new.self c.push-2.new.self c.loop-out.rest.now c.args.bytes.now c.run_len-run.result c.in_ok-push.ensures c.loop-out.invariant.whole c.if-run-rest.true c.run_len-run.ensures.before c.in_ok-extend.ensures c.in_ok-push-4.ensures
