use Rattle.std.proofs.Common.{arith, rules}
use Rattle.cedr_commands.proofs.FileLemmas.{took_more}
use Rattle.cedr_commands.proofs.file.read_all.Goals as goal

pub returns-in_err-extend_from_slice-clause-took : goal.returns-in_err-extend_from_slice-clause-took
returns-in_err-extend_from_slice-clause-took g c =
    took_more (g.S.Source.rest c.args.source.now) (g.S.Source.rest c.loop-block.source) (g.S.Source.rest c.read.new.self) c.loop-block.bytes.items c.read.new.buf c.in-Ok.count c.args.limit
    c.loop-block.invariant.taken c.in-Ok.ensures.bytes.0 (omega (arith, c.loop-block-test.true, c.len.ensures)) (search rules)
