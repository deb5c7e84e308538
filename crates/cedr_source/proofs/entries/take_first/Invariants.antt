use Rattle.std.proofs.Common.{◌≡◌, take, drop}
use Rattle.cedr_source.proofs.entries.take_first.Given as goal

abbrev pub invariant-loop : goal.invariant-loop
invariant-loop l = record {
  first : l.first.items ≡ take l.counter l.initial.messages.items;
  rest : l.messages.items ≡ drop l.counter l.initial.messages.items;
}
