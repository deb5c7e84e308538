use Rattle.std.proofs.Common.{[], ◌++◌, List, sym, ◌∙◌, subst, replicate}
use Rattle.std.specs.List.{filter}
use Rattle.cedr_base.specs.declared.row.Row.{Row}
use Rattle.cedr_base.specs.Changes.{sync_of, changed_row}
use Rattle.cedr_table.specs.Counted.{spread}
use Rattle.filed_rows.specs.Filed.{right_partners}
use Rattle.filed_rows.specs.Spans.{lives_within}
use Rattle.op_except.proofs.RangeLemmas.{further, all_done, kept_along, kept_itself}
use Rattle.op_except.proofs.TurnedLemmas.{CanAll, all_none, all_met, all_unmet}
use Rattle.op_except.proofs.turns.turn_range.Goals as goal

pub loop-row-init : goal.loop-row-init
loop-row-init c = record {
  done = [];
  all = λ i. spread (c.into_iter-row-iterator.ensures.into_iter_gives i);
  turned = all_none c.args.tests.now c.args.change.now (right_partners c.args.right.now.entries c.args.tag) c.args.out.now.items;
  kept = kept_itself c.args.out.now.items;
}

pub loop-row-preserved-in-Continue-1 : goal.loop-row-preserved-in-Continue-1
loop-row-preserved-in-Continue-1 c =
    let inv = c.loop-row.invariant in
    record {
      done = inv.done ++ replicate c.in-Some.count.now c.in-Some.row.now;
      all = further c.in-Some.row.now c.in-Some.count.now c.loop-row.row-iterator c.next.new.self c.in-Some.ensures.steps inv.done (spread c.args.rows) inv.all;
      turned = all_met c.args.tests.now c.args.change.now (right_partners c.args.right.now.entries c.args.tag) (sync_of c.args.change.now) (changed_row c.args.change.now).end inv.done c.in-Some.count.now c.in-Some.row.now c.args.out.now.items c.loop-row.out.items c.turn_copies.new.out.items
          ((λ i. lives_within (sym c.sync-from.ensures i) ((sym c.row.ensures i).end) c.in-Some.row.now) ∙ (sym c.meets_time.ensures ∙ c.if-meets_time.true)) inv.turned c.in_ok-turn_copies.ensures.ok;
      kept = kept_along c.args.out.now.items c.loop-row.out.items c.turn_copies.new.out.items inv.kept c.turn_copies.ensures.kept;
    }

pub loop-row-preserved : goal.loop-row-preserved
loop-row-preserved c =
    let inv = c.loop-row.invariant in
    record {
      done = inv.done ++ replicate c.in-Some.count.now c.in-Some.row.now;
      all = further c.in-Some.row.now c.in-Some.count.now c.loop-row.row-iterator c.next.new.self c.in-Some.ensures.steps inv.done (spread c.args.rows) inv.all;
      turned = all_unmet c.args.tests.now c.args.change.now (right_partners c.args.right.now.entries c.args.tag) (sync_of c.args.change.now) (changed_row c.args.change.now).end inv.done c.in-Some.count.now c.in-Some.row.now c.args.out.now.items c.loop-row.out.items
          ((λ i. lives_within (sym c.sync-from.ensures i) ((sym c.row.ensures i).end) c.in-Some.row.now) ∙ (sym c.meets_time.ensures ∙ c.if-meets_time.false)) inv.turned;
      kept = inv.kept;
    }

pub returns-clause-ok : goal.returns-clause-ok
returns-clause-ok c =
    let inv = c.loop-row.invariant in
    subst (λ (rows : List Row). CanAll c.args.tests.now c.args.change.now (right_partners c.args.right.now.entries c.args.tag) (filter (lives_within (sync_of c.args.change.now) (changed_row c.args.change.now).end) rows) c.args.out.now.items c.loop-row.out.items)
    (all_done c.loop-row.row-iterator inv.done (spread c.args.rows) c.in-None.ensures.steps.0 inv.all) inv.turned
