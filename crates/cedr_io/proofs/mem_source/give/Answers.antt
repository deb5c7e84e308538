use Rattle.std.proofs.Common.{arith}
use Rattle.std.proofs.lemmas.List.{length-take}
use Rattle.cedr_io.proofs.Copies.{given_at}
use Rattle.cedr_io.proofs.mem_source.give.Goals as goal

pub returns-clause-given : goal.returns-clause-given
returns-clause-given c =
    let long = c.copy_from_slice.ensures.len in
    given_at c.args.bytes.now _ _ c.args.read.now c.min-count.result (omega (arith, length-take c.min-count.result c.args.buf.now)) c.copy_from_slice.ensures.after
