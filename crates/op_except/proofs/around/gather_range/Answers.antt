use Rattle.std.proofs.Common.{◌++◌, ◌∷◌, List, sym, ◌∙◌, subst, replicate}
use Rattle.std.proofs.lemmas.Bool.{and_parts}
use Rattle.cedr_base.specs.declared.field.Field.{Field}
use Rattle.cedr_base.specs.declared.row.Row.{Row}
use Rattle.cedr_base.specs.Rows.{SameRows}
use Rattle.cedr_table.specs.Counted.{spread}
use Rattle.cedr_expr.specs.Tests.{passes}
use Rattle.filed_rows.specs.Spans.{lives_within}
use Rattle.op_except.specs.Around.{Gathers}
use Rattle.op_except.proofs.RangeLemmas.{head_copies, head_in, tail_there, further, all_done, in_all}
use Rattle.op_except.proofs.AroundLemmas.{gathers_along, gathers_copies, gathers_away, not_both}
use Rattle.op_except.proofs.around.gather_range.Goals as goal

pub loop-other-preserved-in-Continue-1 : goal.loop-other-preserved-in-Continue-1
loop-other-preserved-in-Continue-1 c =
    let inv = c.loop-other.invariant in
    let both = and_parts (lives_within c.args.part.now.begin c.args.part.now.end c.in-Some.other.now) (passes c.args.tests.now c.args.part.now.payload c.in-Some.other.now.payload) (sym c.is_busy.ensures ∙ c.if-is_busy.true) in
    record {
      done = inv.done ++ replicate c.in-Some.field-0-1.now c.in-Some.other.now;
      all = further c.in-Some.other.now c.in-Some.field-0-1.now c.loop-other.other-iterator c.next.new.self c.in-Some.ensures.steps inv.done (spread c.args.others) inv.all;
      there = tail_there c.in-Some.other.now c.in-Some.field-0-1.now c.loop-other.other-iterator c.next.new.self c.in-Some.ensures.steps inv.there;
      gathers = λ are.
          gathers_along c.args.tests.now c.args.part.now inv.done (replicate c.in-Some.field-0-1.now c.in-Some.other.now) c.args.busy.now c.loop-other.busy c.insert.new.self (inv.gathers are)
          (gathers_copies c.args.tests.now c.args.part.now c.in-Some.other.now c.in-Some.field-0-1.now c.loop-other.busy c.insert.new.self
          (head_copies c.in-Some.other.now c.in-Some.field-0-1.now c.loop-other.other-iterator c.next.new.self c.in-Some.ensures.steps inv.there)
          (are.each c.in-Some.other.now (in_all c.loop-other.other-iterator inv.done (spread c.args.others) c.in-Some.other.now inv.all (head_in c.in-Some.other.now c.in-Some.field-0-1.now c.loop-other.other-iterator c.next.new.self c.in-Some.ensures.steps inv.there)))
          both.1
          (subst (λ (p : List Field). SameRows c.insert.new.self (record { end = c.in-Some.other.now.begin; begin = c.in-Some.other.now.end; payload = p } ∷ c.loop-other.busy)) c.new.ensures c.in_ok-insert.ensures.ok));
    }

pub loop-other-preserved : goal.loop-other-preserved
loop-other-preserved c =
    let inv = c.loop-other.invariant in
    record {
      done = inv.done ++ replicate c.in-Some.field-0-1.now c.in-Some.other.now;
      all = further c.in-Some.other.now c.in-Some.field-0-1.now c.loop-other.other-iterator c.next.new.self c.in-Some.ensures.steps inv.done (spread c.args.others) inv.all;
      there = tail_there c.in-Some.other.now c.in-Some.field-0-1.now c.loop-other.other-iterator c.next.new.self c.in-Some.ensures.steps inv.there;
      gathers = λ are.
          gathers_along c.args.tests.now c.args.part.now inv.done (replicate c.in-Some.field-0-1.now c.in-Some.other.now) c.args.busy.now c.loop-other.busy c.loop-other.busy (inv.gathers are)
          (gathers_away c.args.tests.now c.args.part.now c.in-Some.other.now c.in-Some.field-0-1.now c.loop-other.busy
          (are.each c.in-Some.other.now (in_all c.loop-other.other-iterator inv.done (spread c.args.others) c.in-Some.other.now inv.all (head_in c.in-Some.other.now c.in-Some.field-0-1.now c.loop-other.other-iterator c.next.new.self c.in-Some.ensures.steps inv.there)))
          (not_both c.args.tests.now c.args.part.now c.in-Some.other.now (sym c.is_busy.ensures ∙ c.if-is_busy.false)));
    }

pub returns : goal.returns
returns c = λ are.
    let inv = c.loop-other.invariant in
    subst (λ (rows : List Row). Gathers c.args.tests.now rows c.args.part.now c.args.busy.now c.loop-other.busy) (all_done c.loop-other.other-iterator inv.done (spread c.args.others) c.in-None.ensures.steps.0 inv.all) (inv.gathers are)
