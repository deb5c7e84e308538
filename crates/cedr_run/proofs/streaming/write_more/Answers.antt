use Rattle.std.proofs.Common.{subst}
use Rattle.cedr_run.specs.declared.progress.Progress.TheVariants as progress
use Rattle.cedr_commands.specs.Seen.{seen_sink}
use Rattle.cedr_run.specs.Threads.{WroteList}
use Rattle.cedr_run.proofs.StreamLemmas.{stays_written}
use Rattle.cedr_run.proofs.streaming.write_more.Goals as goal

pub returns-in-Whole : goal.returns-in-Whole
returns-in-Whole g c = λ start list was. c.write_next.ensures start list (subst (λ by. WroteList by start (seen_sink g.K.Sink.written g.K.Sink.faults c.args.out.now) list) c.in-Whole.is was)

pub returns-in-Refused : goal.returns-in-Refused
returns-in-Refused g c = λ start list was. stays_written start (seen_sink g.K.Sink.written g.K.Sink.faults c.args.out.now) list c.args.changes.now progress.Refused (λ e. absurd (cc e)) (subst (λ by. WroteList by start (seen_sink g.K.Sink.written g.K.Sink.faults c.args.out.now) list) c.in-Refused.is was)

pub returns-in-Lacked : goal.returns-in-Lacked
returns-in-Lacked g c = λ start list was. stays_written start (seen_sink g.K.Sink.written g.K.Sink.faults c.args.out.now) list c.args.changes.now progress.Lacked (λ e. absurd (cc e)) (subst (λ by. WroteList by start (seen_sink g.K.Sink.written g.K.Sink.faults c.args.out.now) list) c.in-Lacked.is was)
