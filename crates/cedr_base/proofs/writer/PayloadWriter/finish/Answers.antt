use Rattle.cedr_base.proofs.StoredLemmas.{written_wide}
use Rattle.cedr_base.proofs.writer.PayloadWriter.finish.Goals as goal

pub finish-requires : goal.finish-requires
finish-requires c = written_wide c.self.inside.code c.self.inside.width c.self.inside.held.0 c.self.inside.held.1
