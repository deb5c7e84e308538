use Rattle.std.proofs.Common.{subst}
use Rattle.cedr_base.specs.declared.change.Change.{Change}
use Rattle.pat_state.specs.Tags.{HasMarked}
use Rattle.pat_state.proofs.by_tag.apply_tagged.Goals as goal

pub take-requires : goal.take-requires
take-requires c = subst (λ (change : Change). HasMarked c.args.tag c.args.tags.now change) c.in-Cut.is c.requires
