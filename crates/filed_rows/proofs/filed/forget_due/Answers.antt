use Rattle.std.proofs.Common.{ℕ, ◌∷◌, arith}
use Rattle.std.proofs.lemmas.List.Sorted.{length_permutation}
use Rattle.cedr_table.specs.Counted.{ends_after}
use Rattle.cedr_table.proofs.FilterLemmas.{among_itself, none_goes}
use Rattle.filed_rows.specs.Filed.{under}
use Rattle.filed_rows.proofs.EndLemmas.{ends_forgotten, rows_left, none_ended}
use Rattle.filed_rows.proofs.filed.forget_due.Goals as goal

pub loop-tag-init : goal.loop-tag-init
loop-tag-init c = record {
  ends = c.requires.ends;
  ordered = c.requires.ordered;
  same = λ q. among_itself (ends_after c.args.time) (under c.args.by_tag.now.entries q);
}

pub loop-tag-smaller : goal.loop-tag-smaller
loop-tag-smaller c = omega (arith, length_permutation c.loop-tag.ends ((c.in-Some.field-0-0, c.in-Some.tag) ∷ c.pop_due.new.self) c.in-Some.ensures.left)

pub loop-tag-preserved : goal.loop-tag-preserved
loop-tag-preserved c =
    let was = c.loop-tag.invariant in
    let due : ℕ × ℕ = (c.in-Some.field-0-0, c.in-Some.tag) in
    record {
      ends = ends_forgotten c.args.time due c.loop-tag.by_tag.entries c.forget_under.new.by_tag.entries c.loop-tag.ends c.pop_due.new.self was.ends c.in-Some.ensures.due c.in-Some.ensures.left
          c.forget_under.ensures.here c.forget_under.ensures.others c.forget_under.ensures.apart c.forget_under.ensures.in_use;
      ordered = c.forget_under.ensures.ordered;
      same = λ q.
          rows_left c.args.time due c.loop-tag.by_tag.entries c.forget_under.new.by_tag.entries c.loop-tag.ends c.pop_due.new.self was.ends c.in-Some.ensures.due c.in-Some.ensures.left
          c.forget_under.ensures.here c.forget_under.ensures.others c.forget_under.ensures.apart c.forget_under.ensures.in_use c.args.by_tag.now.entries q (was.same q);
    }

pub returns-clause-kept : goal.returns-clause-kept
returns-clause-kept c = λ q.
    none_goes (ends_after c.args.time) (under c.args.by_tag.now.entries q) (under c.loop-tag.by_tag.entries q)
    (none_ended c.loop-tag.by_tag.entries c.loop-tag.ends c.args.time c.requires.time c.loop-tag.invariant.ends c.in_default.ensures.none q) (c.loop-tag.invariant.same q)
