use Rattle.pat_state.proofs.key.+are_among.Given as goal

abbrev pub decreases-are_among : goal.decreases-are_among
decreases-are_among l = l.count
