use Rattle.std.proofs.Common.{List, Result, Err, sym, ap, ◌∙◌, subst}
use Rattle.std.proofs.lemmas.Result.{err_from_is_err_and}
use Rattle.cedr_base.specs.declared.change.Message.{Message}
use Rattle.cedr_source.specs.declared.fault.Unread.{Unread}
use Rattle.cedr_source.specs.Whole.{Closes}
use Rattle.cedr_source.proofs.EntryLemmas.{with_end}
use Rattle.cedr_source.proofs.WholeLemmas.{all_taken, refused_end}
use Rattle.cedr_source.proofs.read.Reading.into_entries.Goals as goal

pub returns-in_err-take_all : goal.returns-in_err-take_all
returns-in_err-take_all c = λ shape bytes holds within.
    let took = c.in_err-take_all.ensures.took shape bytes (record { reads = c.finish.ensures.by_line shape bytes _ holds.reads; counted = holds.counted }) in
    let p = err_from_is_err_and c.from_residual.result c.from_residual.ensures.1 in
    subst (λ (answer : Result (List (List Message)) Unread). Closes answer shape bytes) (sym (p.1 ∙ ap (λ f. Err f) p.2)) (refused_end c.in_err-take_all.field-0.0 c.take_all.new.self shape bytes took)

pub returns : goal.returns
returns c = λ shape bytes holds within.
    let took = c.in_ok-take_all.ensures.took shape bytes (record { reads = c.finish.ensures.by_line shape bytes _ holds.reads; counted = holds.counted }) in
    let whole = all_taken c.take_all.new.self shape bytes (c.take_all.ensures.finished ∙ c.finish.ensures.finished shape bytes _ holds.reads.reads within) took in
    (whole.closed.faultless, c.from_parts.ensures ∙ with_end c.take_all.new.self _ _ shape bytes took.0 c.in_ok-push.ensures.items c.in_ok-push-2.ensures.items whole)
