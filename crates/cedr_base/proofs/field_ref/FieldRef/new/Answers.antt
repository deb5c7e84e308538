use Rattle.cedr_base.proofs.StoredLemmas.{given_field}
use Rattle.cedr_base.proofs.field_ref.FieldRef.new.Goals as goal

pub returns : goal.returns
returns c = λ field holds. given_field c.args.bytes.now c.result-1.given.0 field holds
