use Rattle.cedr_base.proofs.StoredLemmas.{given_codes}
use Rattle.cedr_base.proofs.field_refs.FieldRefs.new.Goals as goal

pub returns : goal.returns
returns c = λ fields holds. given_codes c.args.rest.now c.result-1.given.0 fields holds
