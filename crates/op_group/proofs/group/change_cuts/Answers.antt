use Rattle.std.proofs.Common.{◌∙◌, map, true, false, ap, subst, arith, ◌<◌, ◌≤◌, []}
use Rattle.std.proofs.lemmas.Result.{on_ok_weaker}
use Rattle.cedr_base.specs.declared.change.Change.{Change}
use Rattle.cedr_base.specs.Changes.{MayFollow, sync_of}
use Rattle.cedr_base.specs.Rows.{count_of}
use Rattle.change_laws.specs.Repairs.{IsMoved}
use Rattle.std.specs.List.{slice_get}
use Rattle.op_group.specs.Groups.{field_number}
use Rattle.op_group.specs.Cuts.{shifted_by}
use Rattle.op_group.specs.Measures.{edges_of, living_of, tally_of, no_totals}
use Rattle.op_group.specs.SegmentLaws.{begin_there, edge_there}
use Rattle.op_group.specs.State.{since}
use Rattle.op_group.proofs.SinceLemmas.{since_there, since_stays}
use Rattle.op_group.proofs.SideLemmas.{tells_alive}
use Rattle.op_group.proofs.Moved.{add_shows, cut_shows, add_passes, cut_passes, shown_extremes}
use Rattle.op_group.proofs.group.change_cuts.Goals as goal

pub returns-in_ok-numbers-in-Add : goal.returns-in_ok-numbers-in-Add
returns-in_ok-numbers-in-Add c = on_ok_weaker c.add_row.result
    (λ e old new mark from shows keeps told may moved late.
    let is = c.in_ok-numbers-in-Add.ensures ∙ ap (map (λ column. shifted_by true (field_number (slice_get c.in-Add.row.payload column)))) c.columns.ensures in
    let follows = subst (λ (d : Change). MayFollow old [] d) c.in-Add.is may in
    let from_mark = subst (λ (d : Change). mark ≤ sync_of d) c.in-Add.is late in
    let low = subst (λ (d : Change). c.args.living.now.from ≤ sync_of d) c.in-Add.is told in
    let came = subst (λ (d : Change). IsMoved d old new) c.in-Add.is moved in
    let below = shows.below in
    add_shows c.args.asked.now mark from c.args.cuts.now.entries c.add_row.new.cuts.entries old new c.in-Add.row _ shows follows from_mark came is
    (e old new (λ t after before. add_passes c.in-Add.row old new t came after before) (λ t after before. tells_alive c.args.asked.now c.args.living.now new t keeps (omega arith))
    (since from 0 (edges_of old)) (since from 0 (living_of old)) (since from (no_totals c.args.asked.now) (tally_of c.args.asked.now old)) shows.shows (since_stays c.args.asked.now old mark from shows.starts)
    (λ t after before. shown_extremes c.args.asked.now from old t (omega arith))))
    c.add_row.ensures

pub returns-in_ok-numbers-in-Cut : goal.returns-in_ok-numbers-in-Cut
returns-in_ok-numbers-in-Cut c = on_ok_weaker c.cut_row.result
    (λ e old new mark from shows keeps told may moved late.
    let is = c.in_ok-numbers-in-Cut.ensures ∙ ap (map (λ column. shifted_by false (field_number (slice_get c.in-Cut.row.payload column)))) c.columns-in-Cut.ensures in
    let follows = subst (λ (d : Change). MayFollow old [] d) c.in-Cut.is may in
    let from_mark = subst (λ (d : Change). mark ≤ sync_of d) c.in-Cut.is late in
    let low = subst (λ (d : Change). c.args.living.now.from ≤ sync_of d) c.in-Cut.is told in
    let went = subst (λ (d : Change). IsMoved d old new) c.in-Cut.is moved in
    let there : 0 < count_of c.in-Cut.row old = let h = follows.1 in omega arith in
    let below = shows.below in
    let begins = follows.0.1 in
    let ends = follows.0.2 in
    cut_shows c.args.asked.now mark from c.args.cuts.now.entries c.cut_row.new.cuts.entries old new c.in-Cut.row c.in-Cut.end _ shows follows.0 from_mark went is
    (e old new (λ t after before. cut_passes c.in-Cut.row c.in-Cut.end old new t went begins ends after before) (λ t after before. tells_alive c.args.asked.now c.args.living.now new t keeps (omega arith))
    (since from 0 (edges_of old)) (since from 0 (living_of old)) (since from (no_totals c.args.asked.now) (tally_of c.args.asked.now old)) shows.shows (since_stays c.args.asked.now old mark from shows.starts)
    (λ t after before. shown_extremes c.args.asked.now from old t (omega arith))
    (λ gone. omega (arith, since_there from 0 (edges_of old) c.in-Cut.row.begin (omega arith), begin_there old c.in-Cut.row there))
    (omega (arith, since_there from 0 (edges_of old) c.in-Cut.row.end (omega arith), edge_there old c.in-Cut.row there))
    follows.0.0.lives))
    c.cut_row.ensures
