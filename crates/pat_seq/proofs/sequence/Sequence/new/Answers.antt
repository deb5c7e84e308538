use Rattle.pat_seq.specs.Keeping.{rows_in}
use Rattle.pat_seq.specs.Sequences.{IsSequence}
use Rattle.pat_state.proofs.EndlessLemmas.{stands_empty}
use Rattle.pat_seq.proofs.sequence.Sequence.new.Goals as goal

pub returns-clause-stands : goal.returns-clause-stands
returns-clause-stands c = record {
  kept_stand = stands_empty (λ n. IsSequence n c.args.scope) c.args.scope c.args.ports (rows_in c.in_ok-kept.kept) (record { least = c.requires.ports.0; most = c.requires.ports.1; scope_is = c.requires.scope }) c.in_ok-kept.ensures.rows;
  tags = c.in_ok-kept.ensures.tags c.args.tests;
}
