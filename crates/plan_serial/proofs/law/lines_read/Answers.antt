use Rattle.plan_serial.proofs.SourceLemmas.{messages_read}
use Rattle.plan_serial.proofs.law.lines_read.Goals as goal

pub returns : goal.returns
returns c = messages_read
