use Rattle.std.proofs.Common.{◌∙◌, ap}
use Rattle.cedr_living.specs.Fields.{least_field}
use Rattle.cedr_living.specs.Bags.{after}
use Rattle.cedr_living.proofs.LivingLemmas.{fields_after}
use Rattle.cedr_living.proofs.living.LivingFields.least.Goals as goal

pub returns : goal.returns
returns c = λ lives keeps early. c.outermost.ensures (after c.args.self.now.from lives) keeps.index ∙ ap least_field (fields_after c.args.column c.args.at c.args.self.now.from early lives)
