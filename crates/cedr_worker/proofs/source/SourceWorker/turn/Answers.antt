use Rattle.std.proofs.Common.{true≢false, refl, sym, ◌∙◌}
use Rattle.std.proofs.lemmas.Bool.{or_parts}
use Rattle.std.specs.Prelude.{is_none}
use Rattle.cedr_worker.proofs.SourceLemmas.{put_works, moved_seen, seen_moved, stepped_sent, rests, stays_stopped, over_told, not_over, stopped_over, broken_only}
use Rattle.cedr_worker.proofs.TryLemmas.{all_tried}
use Rattle.cedr_worker.proofs.source.SourceWorker.turn.Goals as goal
use Rattle.cedr_worker.proofs.TurnLemmas.{bare_edges, puts_edges}

pub step_where-stepped-requires : goal.step_where-stepped-requires
step_where-stepped-requires g c =
    let w = c.requires in
    (w.0, w.1, w.2, put_works g.S.Source.rest g.S.Source.faults w.0 w.1 w.2 c.args.self.now c.put_each-puts.new.self c.put_each-puts.result.moved c.put_each-puts.ensures.put w.3)

pub returns-clause-works : goal.returns-clause-works
returns-clause-works g c = λ shape content count works.
    c.step_where-stepped.ensures.works shape content count (put_works g.S.Source.rest g.S.Source.faults shape content count c.args.self.now c.put_each-puts.new.self c.put_each-puts.result.moved c.put_each-puts.ensures.put works)

pub returns-clause-same : goal.returns-clause-same
returns-clause-same g c = record {
  number = c.step_where-stepped.ensures.number;
  edges = bare_edges _ _ c.step_where-stepped.ensures.bare ∙ puts_edges _ _ _ c.put_each-puts.ensures.put;
}

pub returns-clause-ended : goal.returns-clause-ended
returns-clause-ended g c =
    let ended = c.turn_of.ensures.ended in
    (λ is. c.all_over.ensures.over (ended.0 is), λ all. ended.1 (over_told c.all_over.result _ c.all_over.ensures.open all))

pub returns-clause-moved : goal.returns-clause-moved
returns-clause-moved g c =
    let old = c.args.self.now in
    let mid = c.put_each-puts.new.self in
    let now = c.step_where-stepped.new.self in
    let moved = c.put_each-puts.result.moved in
    let stepped = c.step_where-stepped.result in
    let puts = c.put_each-puts.ensures.put in
    let does = c.step_where-stepped.ensures in
    let told = c.turn_of.ensures in
    let pending = c.put_each-puts.result.pending in (
      λ is. (
        λ ended. true≢false (sym (told.ended.0 ended) ∙ (told.moved.0 is).0),
        moved_seen g.S.Source.rest old now mid moved pending stepped puts does.bare does.stepped does.rested moved stepped refl refl (told.moved.0 is).1,
      ),
      λ h. told.moved.1 (not_over c.all_over.result (λ over. h.0 (told.ended.1 over)), seen_moved g.S.Source.rest old now mid moved pending stepped puts does.bare does.stepped does.rested moved stepped refl refl h.1),
    )

pub returns-clause-idle : goal.returns-clause-idle
returns-clause-idle g c = λ is.
    let old = c.args.self.now in
    let mid = c.put_each-puts.new.self in
    let now = c.step_where-stepped.new.self in
    let moved = c.put_each-puts.result.moved in
    let stepped = c.step_where-stepped.result in
    let puts = c.put_each-puts.ensures in
    let does = c.step_where-stepped.ensures in
    let pending = c.put_each-puts.result.pending in
    let none = c.turn_of.ensures.idle is in
    let w = c.requires in
    let works = put_works g.S.Source.rest g.S.Source.faults w.0 w.1 w.2 old mid moved puts.put w.3 in
    rests g.S.Source.rest old now mid moved pending stepped puts.put does.bare does.stepped does.rested pending refl (or_parts moved stepped none.1).0 (or_parts moved stepped none.1).1 puts.none puts.some does.free
    (stopped_over g.S.Source.rest g.S.Source.faults w.0 w.1 w.2 (record old { outlets = mid }) works) (c.all_over.ensures.open none.0)

pub returns-clause-steps : goal.returns-clause-steps
returns-clause-steps g c = λ step.
    let old = c.args.self.now in
    let mid = c.put_each-puts.new.self in
    let now = c.step_where-stepped.new.self in
    let moved = c.put_each-puts.result.moved in
    let stepped = c.step_where-stepped.result in
    let puts = c.put_each-puts.ensures in
    let does = c.step_where-stepped.ensures in
    let pending = c.put_each-puts.result.pending in
    stepped_sent g.S.Source.rest old now mid moved pending stepped puts.put does.bare does.stepped does.rested pending stepped (is_none old.stop) refl refl puts.none does.free step

pub returns-clause-broken : goal.returns-clause-broken
returns-clause-broken g c =
    let w = c.requires in
    let works = put_works g.S.Source.rest g.S.Source.faults w.0 w.1 w.2 c.args.self.now c.put_each-puts.new.self c.put_each-puts.result.moved c.put_each-puts.ensures.put w.3 in
    broken_only g.S.Source.rest g.S.Source.faults w.0 w.1 w.2 _ (c.step_where-stepped.ensures.works w.0 w.1 w.2 works)

pub returns-clause-stays : goal.returns-clause-stays
returns-clause-stays g c =
    let old = c.args.self.now in
    let mid = c.put_each-puts.new.self in
    let stepped = c.step_where-stepped.result in
    let puts = c.put_each-puts.ensures in
    let does = c.step_where-stepped.ensures in
    stays_stopped g.S.Source.rest old c.step_where-stepped.new.self mid c.put_each-puts.result.moved c.put_each-puts.result.pending stepped puts.put does.bare does.stepped does.rested stepped refl does.free

pub returns-clause-tried : goal.returns-clause-tried
returns-clause-tried g c = all_tried c.args.self.now.outlets c.put_each-puts.new.self c.step_where-stepped.new.self.outlets c.put_each-puts.result.moved c.put_each-puts.ensures.put c.step_where-stepped.ensures.bare
