use Rattle.std.proofs.Common.{◌≡◌, Option, sym, subst, rules}
use Rattle.cedr_guard.specs.declared.state.EventState.{EventState}
use Rattle.cedr_guard.specs.Spelt.{state_row}
use Rattle.cedr_save.specs.Checkpoints.{event_line}
use Rattle.cedr_save.specs.Lines.{IsWithdrawn, SaysVersion, ReadsLiving}
use Rattle.cedr_save.proofs.ReadLemmas.{found_withdrawn, found_living}
use Rattle.cedr_save.proofs.line.read_event.Goals as goal
use Rattle.cedr_save.proofs.line.read_event.Goals.{in-Some, in-None+in_ok-event-in-None+in-Some-2}

pub returns-then-eq : goal.returns-then-eq
returns-then-eq c = λ types has.
    let line = c.args.line.now in
    let same : c.args.line.now ≡ event_line c.match-read_withdrawn.event = search rules in
    elim c.match-read_withdrawn.branch [
      | in-Some w ↦ found_withdrawn types c.args.line.now c.match-read_withdrawn.event (subst IsWithdrawn (sym w.event-is) w.in-Some.ensures.some) same
      | in-None+in_ok-event-in-None+in-Some-2 w ↦
          let reads = subst (λ (o : Option EventState). ReadsLiving o types c.args.line.now) w.in-Some-2.is (w.in_ok-event-in-None.ensures types has) in
          found_living types c.args.line.now c.match-read_withdrawn.event (subst (λ (e : EventState). SaysVersion types c.args.line.now e.id (state_row e)) (sym w.event-is) reads.some) c.requires same
    ]
