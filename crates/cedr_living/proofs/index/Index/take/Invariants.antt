use Rattle.std.proofs.Common.{◌≡◌, Some}
use Rattle.cedr_living.specs.Ends.{life_of}
use Rattle.cedr_living.specs.Indexes.{Loses}
use Rattle.cedr_living.proofs.index.Index.take.Given as goal

abbrev pub invariant-loop : goal.invariant-loop
invariant-loop l = record {
  column : l.place.column ≡ l.fn.life.column;
  field : l.place.field ≡ Some l.fn.life.field;
  gone : Loses l.counter l.initial.self l.self (life_of l.fn.life);
}
