use Rattle.plan_keys.proofs.Query.{wide_query}
use Rattle.plan_keys.proofs.law.query_widths.Goals as goal

pub returns : goal.returns
returns c = λ nodes sources are fit. wide_query nodes sources fit are
