use Rattle.cedr_base.proofs.StoredLemmas.{given_stored}
use Rattle.cedr_base.proofs.payload.Payload.stored.Goals as goal

pub returns : goal.returns
returns c = λ fields holds. given_stored c.args.bytes c.result-1.given.0 fields holds
