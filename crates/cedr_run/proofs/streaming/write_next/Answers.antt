use Rattle.std.proofs.Common.{Err, subst}
use Rattle.cedr_io.specs.Counts.{Counts}
use Rattle.cedr_commands.specs.Seen.{seen_sink}
use Rattle.cedr_run.proofs.StreamLemmas.{lacked_more, refused_more}
use Rattle.cedr_run.proofs.streaming.write_next.Goals as goal

pub returns-in-Err-Failed : goal.returns-in-Err-Failed
returns-in-Err-Failed g c = λ start list was.
    let rose = subst (λ e. Counts {T = Unit {0}} (Err e) (g.K.Sink.faults c.args.out.now) (g.K.Sink.faults c.write_lines.new.out)) c.in-Err-Failed.field-0-is c.in-Err-Failed.ensures.counted in
    refused_more start (seen_sink g.K.Sink.written g.K.Sink.faults c.args.out.now) (seen_sink g.K.Sink.written g.K.Sink.faults c.write_lines.new.out) list c.args.changes.now was c.in-Err-Failed.ensures.err rose

pub returns-in-Err-OutOfMemory : goal.returns-in-Err-OutOfMemory
returns-in-Err-OutOfMemory g c = λ start list was.
    let same = subst (λ e. Counts {T = Unit {0}} (Err e) (g.K.Sink.faults c.args.out.now) (g.K.Sink.faults c.write_lines.new.out)) c.in-Err-OutOfMemory.field-0-is c.in-Err-OutOfMemory.ensures.counted in
    lacked_more start (seen_sink g.K.Sink.written g.K.Sink.faults c.args.out.now) (seen_sink g.K.Sink.written g.K.Sink.faults c.write_lines.new.out) list c.args.changes.now was c.in-Err-OutOfMemory.ensures.err same
