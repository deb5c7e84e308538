use Rattle.std.proofs.Common.{◌≡◌, ℕ, sym, ◌∙◌, ap, rules}
use Rattle.cedr_save.specs.Checkpoints.{source_line}
use Rattle.cedr_save.proofs.ReadLemmas.{some_number}
use Rattle.cedr_save.proofs.SourceFronts.{mark_read}
use Rattle.cedr_save.proofs.line.read_source.Goals as goal

pub returns-in_default : goal.returns-in_default
returns-in_default c = λ mark low is.
    c.in_default.not-Some mark (mark_read c.args.name.now c.args.line.now c.rest_from.result.now mark c.cut_time-found.result.0 _ low is c.rest_from.ensures c.cut_time-found.ensures)

pub returns : goal.returns
returns c = λ mark low is.
    let same : c.in-Some.mark ≡ mark = some_number c.cut_time-found.result.0 c.in-Some.mark mark c.in-Some.is (mark_read c.args.name.now c.args.line.now c.rest_from.result.now mark c.cut_time-found.result.0 _ low is c.rest_from.ensures c.cut_time-found.ensures) in
    let text : c.in_ok-text.text.items ≡ c.args.line.now = c.in_ok-text.ensures ∙ (ap (λ (m : ℕ). source_line c.args.name.now m) same ∙ sym is) in
    search rules
