use Rattle.cedr_make.proofs.MadeLemmas.{made_accepted}
use Rattle.cedr_make.proofs.law.made_sources.Goals as goal

pub returns : goal.returns
returns c = made_accepted
