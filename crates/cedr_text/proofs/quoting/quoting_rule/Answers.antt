use Rattle.cedr_text.proofs.RuleLemmas.{cut_are_fields, fields_are_cut}
use Rattle.cedr_text.proofs.quoting.quoting_rule.Goals as goal

pub returns : goal.returns
returns c = λ line values. (cut_are_fields line values, fields_are_cut line values)
