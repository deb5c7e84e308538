use Rattle.std.proofs.Common.{arith}
use Rattle.cedr_text.proofs.BareLemmas.{short_line}
use Rattle.cedr_text.proofs.read.read_event.Goals as goal

pub returns-in_default : goal.returns-in_default
returns-in_default c = short_line c.args.shape.now c.args.separator c.args.bytes.now (omega (arith, c.in_default.len_below))
