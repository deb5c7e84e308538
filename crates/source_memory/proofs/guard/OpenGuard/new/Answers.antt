use Rattle.std.proofs.Common.{refl}
use Rattle.source_memory.proofs.OpenLemmas.{recalls_none}
use Rattle.source_memory.proofs.guard.OpenGuard.new.Goals as goal

pub returns : goal.returns
returns c = recalls_none _ refl c.new.ensures
