use Rattle.cedr_expr.proofs.MoreLemmas.{fails_more}
use Rattle.cedr_expr.proofs.law.columns_law.Goals as goal

pub returns : goal.returns
returns c = λ tests left right more fails. fails_more left right more tests fails
