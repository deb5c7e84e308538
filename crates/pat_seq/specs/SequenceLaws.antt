-- The laws of sequences.
use Rattle.std.proofs.Common.{ℕ, zero, suc, List, [], refl, replicate, length, arith}
use Rattle.cedr_base.specs.Rows.{SameRows}
use Rattle.cedr_table.specs.Choices.{chosen}
use Rattle.cedr_table.proofs.ChoiceLemmas.{nothing_chosen, same_chosen}
use Rattle.cedr_table.specs.OperatorLaws.{OperatorLaws}
use Rattle.cedr_table.specs.PortLaws.{least_rises, least_is_time}
use Rattle.pat_state.proofs.EndlessLemmas.{stands_later, stands_alike}
use Rattle.cedr_expr.specs.declared.test.Test.{Test}
use Rattle.pat_seq.specs.declared.kept.Kept.{Kept}
use Rattle.pat_seq.specs.Keeping.{rows_in, SequenceStands}
use Rattle.pat_seq.specs.Sequences.{sequence, sequence_of}

-- empty tables give no row
pub no_sequence : (scope : ℕ) (tests : List Test) (ports : ℕ) → SameRows (chosen (sequence scope tests) (replicate ports [])) []
no_sequence scope tests zero = record { each = λ r. refl }
no_sequence scope tests (suc ports) = nothing_chosen (sequence scope tests) ports

-- the laws of the meaning of a sequence, and of what its state stands for
pub sequence_laws : (scope : ℕ) (tests : List Test) (kept : Kept) → OperatorLaws (sequence_of (length (rows_in kept)) scope tests) (SequenceStands scope tests kept)
sequence_laws scope tests kept = record {
  sized = λ tables marks h. (h.kept_stand.table, h.kept_stand.mark);
  rising = λ tables marks later h k. record { kept_stand = stands_later scope (rows_in kept) tables marks later h.kept_stand k; tags = h.tags };
  alike = λ tables others marks k h. record { kept_stand = stands_alike scope (rows_in kept) tables others marks k h.kept_stand; tags = h.tags };
  same_rows = λ tables others k. same_chosen (sequence scope tests) tables others k;
  nothing = no_sequence scope tests (length (rows_in kept));
  bound_rises = λ tables marks later h k. least_rises marks later k;
  bound_stays = λ tables marks port change after h k m. omega arith;
  bound_is_time = λ tables marks h k. least_is_time marks;
  echo_bound = λ tables marks e h. cc;
}
