-- What a reader reads, and a watcher looks at.
use Rattle.std.proofs.Common.{◌≡◌, ℕ, ◌≤◌, ◌++◌, List, [], length, ap, ◌∙◌, arith, Option, Some, None}
use Rattle.std.specs.Prelude.{IfSome}
use Rattle.std.proofs.lemmas.List.{take_all}
use Rattle.cedr_base.specs.declared.change.Change.{Change}
use Rattle.cedr_history.specs.declared.listed.Listed.{Listed}
use Rattle.cedr_history.specs.Ends.{part, ReaderSeen}
use Rattle.plan_report.specs.Watching.{ReadsOn}
use Rattle.cedr_history.proofs.Extending.{extends_trans}

-- a reader that read, and read again
pub reads_along : (a b c : ReaderSeen) → ReadsOn a b → ReadsOn b c → ReadsOn a c
reads_along a b c first next = record {
  history = next.history ∙ first.history;
  last = next.last ∙ first.last;
  later = extends_trans a.seen b.seen c.seen first.later next.later;
}

-- a read of all changes gives those of the list that it entered, which is that of the last note where it was
-- learnt
pub whole_list : (last : Option Listed) (new : Listed) (max len : ℕ) (empty out : List Change) → IfSome last (λ l. new ≡ l) → len ≡ length new.changes → len ≤ max → empty ≡ [] → out ≡ empty ++ part 0 max new.changes → IfSome last (λ l. out ≡ l.changes)
whole_list None new max len empty out told count few none is = tt
whole_list (Some l) new max len empty out told count few none is =
    is ∙ (ap (λ xs. xs ++ part 0 max new.changes) none ∙ (take_all max new.changes (omega (arith, count, few)) ∙ ap (λ (l : Listed). l.changes) told))
