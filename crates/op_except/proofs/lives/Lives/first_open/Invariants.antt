use Rattle.std.proofs.Common.{◌≡◌, ◌<◌, ◌⊎◌, ℕ, true}
use Rattle.std.specs.List.Sorted.{IsStrictlySortedBy}
use Rattle.op_except.specs.Lives.{life_cmp, has_life}
use Rattle.op_except.proofs.lives.Lives.first_open.Given as goal

abbrev pub invariant-loop-life : goal.invariant-loop-life
invariant-loop-life l = record {
  sorted : IsStrictlySortedBy life_cmp l.life-iterator;
  part : (begin end : ℕ) → has_life l.life-iterator begin end ≡ true → has_life l.self.by_begin.keys begin end ≡ true;
  rest : (begin end : ℕ) → has_life l.self.by_begin.keys begin end ≡ true → (has_life l.life-iterator begin end ≡ true) ⊎ (end < l.mark);
}
