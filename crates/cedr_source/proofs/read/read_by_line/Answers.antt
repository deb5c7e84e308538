use Rattle.std.proofs.Common.{Err, ap, ◌∙◌}
use Rattle.std.proofs.lemmas.Result.{err_from_is_err_and}
use Rattle.cedr_source.specs.declared.read.Reading.{Reading}
use Rattle.cedr_source.proofs.WholeLemmas.{closed_answer, closed_count, broken_answer, broken_count, answered_all}
use Rattle.cedr_source.proofs.read.read_by_line.Goals as goal

pub returns-in_err-reading-clause-answer : goal.returns-in_err-reading-clause-answer
returns-in_err-reading-clause-answer g c =
    let p = err_from_is_err_and c.from_residual.result c.from_residual.ensures.1 in
    answered_all c.from_residual.result c.args.shape _ _ (broken_answer c.from_residual.result c.in_err-reading.field-0.0 c.args.shape _ _ (p.1 ∙ ap (λ f. Err f) p.2) c.in_err-reading.ensures.read)

pub returns-in_err-reading-clause-read : goal.returns-in_err-reading-clause-read
returns-in_err-reading-clause-read g c =
    let p = err_from_is_err_and c.from_residual.result c.from_residual.ensures.1 in
    broken_answer c.from_residual.result c.in_err-reading.field-0.0 c.args.shape _ _ (p.1 ∙ ap (λ f. Err f) p.2) c.in_err-reading.ensures.read

pub returns-in_err-reading-clause-counted : goal.returns-in_err-reading-clause-counted
returns-in_err-reading-clause-counted g c =
    let p = err_from_is_err_and c.from_residual.result c.from_residual.ensures.1 in
    broken_count Reading c.from_residual.result c.in_err-reading.field-0.0 _ _ (p.1 ∙ ap (λ f. Err f) p.2) c.in_err-reading.ensures.counted

pub returns-clause-answer : goal.returns-clause-answer
returns-clause-answer g c = answered_all c.into_entries.result c.args.shape _ _ (closed_answer c.into_entries.result c.in_ok-reading.reading c.args.shape _ _ c.in_ok-reading.ensures.read c.into_entries.ensures)

pub returns-clause-read : goal.returns-clause-read
returns-clause-read g c = closed_answer c.into_entries.result c.in_ok-reading.reading c.args.shape _ _ c.in_ok-reading.ensures.read c.into_entries.ensures

pub returns-clause-counted : goal.returns-clause-counted
returns-clause-counted g c = closed_count c.into_entries.result c.in_ok-reading.reading c.args.shape _ _ _ _ c.in_ok-reading.ensures.read c.into_entries.ensures c.in_ok-reading.ensures.counted
