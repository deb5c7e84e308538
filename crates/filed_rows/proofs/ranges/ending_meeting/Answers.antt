use Rattle.std.proofs.Common.{ap, ◌∙◌}
use Rattle.std.specs.List.{filter}
use Rattle.filed_rows.specs.Spans.{ends_within, lives_within}
use Rattle.cedr_table.specs.Counted.{ends_after}
use Rattle.filed_rows.proofs.SpanLemmas.{window_meets, later_meets, among_filtered}
use Rattle.filed_rows.proofs.ranges.ending_meeting.Goals as goal

pub returns-in-Some-clause-rows : goal.returns-in-Some-clause-rows
returns-in-Some-clause-rows c =
    ap (filter (lives_within c.args.time c.args.last)) (c.ending_within.ensures.rows ∙ ap (λ n. filter (ends_within c.args.time n) c.args.rows.now) c.in-Some.ensures.1)
    ∙ window_meets c.args.time c.args.last c.args.longest c.args.rows.now c.requires.short

pub returns-in_default-clause-rows : goal.returns-in_default-clause-rows
returns-in_default-clause-rows c = ap (filter (lives_within c.args.time c.args.last)) c.ending_after.ensures.rows ∙ later_meets c.args.time c.args.last c.args.rows.now

pub returns-in-Some-clause-among : goal.returns-in-Some-clause-among
returns-in-Some-clause-among c = among_filtered (ends_within c.args.time c.in-Some.beyond) c.args.rows.now _ c.ending_within.ensures.rows

pub returns-in_default-clause-among : goal.returns-in_default-clause-among
returns-in_default-clause-among c = among_filtered (ends_after c.args.time) c.args.rows.now _ c.ending_after.ensures.rows
