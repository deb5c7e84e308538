use Rattle.std.proofs.Common.{◌≡◌}
use Rattle.csv.specs.Records.{fields_of}
use Rattle.cedr_text.proofs.JoinLemmas.{IsJoinedTo}
use Rattle.cedr_text.proofs.quoting.join.Given as goal

abbrev pub invariant-loop-field : goal.invariant-loop-field
invariant-loop-field l = record {
  can_next : (goal.iterator-loop-field).can_next l.field-iterator;
  is_finite : (goal.iterator-loop-field).is_finite l.field-iterator;
  same : l.field-iterator.row.now ≡ l.row;
  all : IsJoinedTo 13 (fields_of l.row) l.joined.items l.field-iterator.at;
}
