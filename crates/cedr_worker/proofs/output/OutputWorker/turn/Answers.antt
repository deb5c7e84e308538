use Rattle.std.proofs.Common.{true≢false, refl, sym, ◌∙◌}
use Rattle.cedr_worker.proofs.OutputLemmas.{over_ended, ended_over, begins_extends, idle_output}
use Rattle.cedr_worker.proofs.output.OutputWorker.turn.Goals as goal

pub returns-then-is_over-clause-ended : goal.returns-then-is_over-clause-ended
returns-then-is_over-clause-ended g c =
    let w = c.step-moved.new.self in
    let works = c.step-moved.ensures.works in
    (λ e. over_ended w.node w.input.taken w.writer w.lacked w.pending works.outputs works.published (sym c.is_over.ensures ∙ c.if-is_over.true), λ h. refl)

pub returns-then-is_over-clause-short : goal.returns-then-is_over-clause-short
returns-then-is_over-clause-short g c =
    let w = c.step-moved.new.self in
    let o = c.step-moved.ensures.works.outputs in begins_extends w.node w.input.taken w.writer.all o.legal o.all

pub returns-then-moved-clause-ended : goal.returns-then-moved-clause-ended
returns-then-moved-clause-ended g c =
    let w = c.step-moved.new.self in
    (λ e. cc, λ h. absurd (true≢false (sym (ended_over w.node w.input.taken w.writer w.lacked w.pending c.step-moved.ensures.works.outputs h) ∙ (sym c.is_over.ensures ∙ c.if-is_over.false))))

pub returns-then-moved-clause-short : goal.returns-then-moved-clause-short
returns-then-moved-clause-short g c =
    let w = c.step-moved.new.self in
    let o = c.step-moved.ensures.works.outputs in begins_extends w.node w.input.taken w.writer.all o.legal o.all

pub returns-else-moved-clause-ended : goal.returns-else-moved-clause-ended
returns-else-moved-clause-ended g c =
    let w = c.step-moved.new.self in
    (λ e. cc, λ h. absurd (true≢false (sym (ended_over w.node w.input.taken w.writer w.lacked w.pending c.step-moved.ensures.works.outputs h) ∙ (sym c.is_over.ensures ∙ c.if-is_over.false))))

pub returns-else-moved-clause-moved : goal.returns-else-moved-clause-moved
returns-else-moved-clause-moved g c =
    let old = c.args.self.now in
    let w = c.step-moved.new.self in
    let rests = c.if-moved.ensures.moved in
    (λ e. cc, λ both. absurd (idle_output old.input w.input old.writer w.writer rests.0 rests.1 both.1))

pub returns-else-moved-clause-short : goal.returns-else-moved-clause-short
returns-else-moved-clause-short g c =
    let w = c.step-moved.new.self in
    let o = c.step-moved.ensures.works.outputs in begins_extends w.node w.input.taken w.writer.all o.legal o.all
