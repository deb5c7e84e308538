use Rattle.cedr_base.proofs.StoredLemmas.{given_written}
use Rattle.cedr_base.proofs.writer.PayloadWriter.written.Goals as goal

pub returns : goal.returns
returns c = λ fields holds. given_written c.args.code c.args.width c.result-1.given.0 fields holds
