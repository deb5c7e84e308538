use Rattle.std.proofs.Common.{sym, rules}
use Rattle.cedr_worker.proofs.WorkLemmas.{input_open, inputs_over}
use Rattle.cedr_worker.proofs.taking.all_closed.Goals as goal

pub returns-then-not-is_over : goal.returns-then-not-is_over
returns-then-not-is_over c = sym (input_open c.args.inputs.now.items c.loop-i.i c.index.result.now (search rules) (search rules) (search rules))

pub returns : goal.returns
returns c = sym (inputs_over c.args.inputs.now.items (λ k d less. c.loop-i.invariant k d (search rules) less))
