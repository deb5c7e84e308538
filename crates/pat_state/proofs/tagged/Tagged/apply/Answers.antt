use Rattle.pat_state.proofs.DueLemmas.{due_step}
use Rattle.pat_state.proofs.tagged.Tagged.apply.Goals as goal

pub invariant_of-self-2 : goal.invariant_of-self-2
invariant_of-self-2 c =
    due_step c.args.tag c.args.change.now c.self.inside.tags c.apply_tagged.new.tags c.limit_due.new.due c.note_due.new.due c.in_ok-limit_due.ensures c.in_ok-apply_tagged.ensures.ok c.in_ok-note_due.ensures.there c.in_ok-note_due.ensures.others
