use Rattle.std.proofs.Common.{◌≤◌, ◌++◌, ap, sym, ◌∙◌, subst, rules}
use Rattle.cedr_history.specs.Ends.{part}
use Rattle.cedr_history.proofs.Fronts.{prefix_self}
use Rattle.cedr_commands.specs.Seen.{seen_sink}
use Rattle.cedr_run.specs.Threads.{WroteList}
use Rattle.cedr_run.proofs.StreamLemmas.{read_more}
use Rattle.cedr_run.proofs.streaming.StreamerWatcher.look.Goals as goal

pub returns-then-eq-clause-err : goal.returns-then-eq-clause-err
returns-then-eq-clause-err g c = λ start list stands first.
    let seen = rw c.in-Ok-Some.field-0-is at c.in-Ok-Some.ensures.seen in
    let room : c.in-Ok-Some.seen.len ≤ 18446744073709551615 = search rules in
    let list_is = read_more list c.args.reader.now.seen.changes c.read.new.self.seen.changes 18446744073709551615 c.in-Ok-Some.seen.len c.new-changes.result.items c.read.new.out.items c.as_slice.result.now first c.read.ensures.later.0 seen.0.0 room c.new-changes.ensures.items
    (seen.1 ∙ ap (λ n. c.new-changes.result.items ++ part n 18446744073709551615 c.read.new.self.seen.changes) stands.0) c.as_slice.ensures.value in
    let wrote = subst (λ l. WroteList c.write_more-self.result (seen_sink g.K.Sink.written g.K.Sink.faults start) (seen_sink g.K.Sink.written g.K.Sink.faults c.write_more-self.new.out) l) (sym list_is) (c.write_more-self.ensures (seen_sink g.K.Sink.written g.K.Sink.faults start) list stands.1) in
    (c.read.new.self.seen.changes, (seen.0.0, wrote), prefix_self c.read.new.self.seen.changes)

pub returns-clause-seen : goal.returns-clause-seen
returns-clause-seen g c = λ told start list stands first.
    let seen = rw c.in-Ok-Some.field-0-is at c.in-Ok-Some.ensures.seen in
    let room : c.in-Ok-Some.seen.len ≤ 18446744073709551615 = search rules in
    let list_is = read_more list c.args.reader.now.seen.changes c.read.new.self.seen.changes 18446744073709551615 c.in-Ok-Some.seen.len c.new-changes.result.items c.read.new.out.items c.as_slice.result.now first c.read.ensures.later.0 seen.0.0 room c.new-changes.ensures.items
    (seen.1 ∙ ap (λ n. c.new-changes.result.items ++ part n 18446744073709551615 c.read.new.self.seen.changes) stands.0) c.as_slice.ensures.value in
    let wrote = subst (λ l. WroteList c.write_more-self.result (seen_sink g.K.Sink.written g.K.Sink.faults start) (seen_sink g.K.Sink.written g.K.Sink.faults c.write_more-self.new.out) l) (sym list_is) (c.write_more-self.ensures (seen_sink g.K.Sink.written g.K.Sink.faults start) list stands.1) in
    (seen.0.0, wrote)
