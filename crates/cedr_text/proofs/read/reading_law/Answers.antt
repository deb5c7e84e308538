use Rattle.cedr_text.proofs.ReadingLemmas.{reading_event}
use Rattle.cedr_text.proofs.read.reading_law.Goals as goal

pub returns : goal.returns
returns c = reading_event
