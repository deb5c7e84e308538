use Rattle.cedr_history.proofs.Rules.{enters}
use Rattle.cedr_history.proofs.reading.enter.Goals as goal

pub enter_as-requires : goal.enter_as-requires
enter_as-requires c x = enters _ _ x
