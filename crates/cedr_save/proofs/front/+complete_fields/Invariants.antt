use Rattle.std.proofs.Common.{length}
use Rattle.cedr_save.proofs.front.+complete_fields.Given as goal

abbrev pub decreases-complete_fields : goal.decreases-complete_fields
decreases-complete_fields l = length l.types.now
