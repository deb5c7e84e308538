use Rattle.std.proofs.Common.{refl, subst, sym}
use Rattle.cedr_commands.specs.Seen.{seen_files, seen_sink}
use Rattle.cedr_run.specs.Threads.{RunEnds}
use Rattle.cedr_run.proofs.PlanLemmas.{ends_later}
use Rattle.cedr_run.proofs.StrongLemmas.{strong_later, wrote_nothing_strong}
use Rattle.cedr_run.proofs.threads.run_plan.Goals as goal

pub returns-in-Stream-clause-ends : goal.returns-in-Stream-clause-ends
returns-in-Stream-clause-ends g c =
    ends_later c.args.job (seen_files g.F.Files.content g.F.Files.faults g.F.Files.asked c.args.files.now) (seen_files g.F.Files.content g.F.Files.faults g.F.Files.asked c.find_sources.new.files) (seen_files g.F.Files.content g.F.Files.faults g.F.Files.asked c.stream_sources.new.files) c.args.plan.now.nodes.items
    c.in-Ok.ensures.counted c.in-Ok.ensures.contents (seen_sink g.K.Sink.written g.K.Sink.faults c.args.out.now) (seen_sink g.K.Sink.written g.K.Sink.faults c.stream_sources.new.out) c.stream_sources.result.edges.items c.stream_sources.result.ran.items c.stream_sources.result.outcome
    (subst (λ j. RunEnds j c.args.plan.now.nodes.items (seen_files g.F.Files.content g.F.Files.faults g.F.Files.asked c.find_sources.new.files) (seen_files g.F.Files.content g.F.Files.faults g.F.Files.asked c.stream_sources.new.files) (seen_sink g.K.Sink.written g.K.Sink.faults c.args.out.now) (seen_sink g.K.Sink.written g.K.Sink.faults c.stream_sources.new.out) c.stream_sources.result.edges.items c.stream_sources.result.ran.items c.stream_sources.result.outcome) (sym c.in-Stream.is) c.stream_sources.ensures.ends)

pub returns-in_default-clause-ends : goal.returns-in_default-clause-ends
returns-in_default-clause-ends g c =
    ends_later c.args.job (seen_files g.F.Files.content g.F.Files.faults g.F.Files.asked c.args.files.now) (seen_files g.F.Files.content g.F.Files.faults g.F.Files.asked c.find_sources.new.files) (seen_files g.F.Files.content g.F.Files.faults g.F.Files.asked c.run_sources.new.files) c.args.plan.now.nodes.items
    c.in-Ok.ensures.counted c.in-Ok.ensures.contents (seen_sink g.K.Sink.written g.K.Sink.faults c.args.out.now) (seen_sink g.K.Sink.written g.K.Sink.faults c.run_sources.new.out) c.run_sources.result.edges.items c.run_sources.result.ran.items c.run_sources.result.outcome
    c.run_sources.ensures.ends

pub returns-in-Stream-clause-strong : goal.returns-in-Stream-clause-strong
returns-in-Stream-clause-strong g c = λ is.
    strong_later (g.F.Files.content c.args.files.now) (g.F.Files.content c.find_sources.new.files) c.args.plan.now.nodes.items (seen_sink g.K.Sink.written g.K.Sink.faults c.args.out.now) (seen_sink g.K.Sink.written g.K.Sink.faults c.stream_sources.new.out) c.in-Ok.ensures.contents c.stream_sources.ensures.strong

pub returns-in_default-clause-strong : goal.returns-in_default-clause-strong
returns-in_default-clause-strong g c = λ is. absurd (c.in_default.not-Stream is)

pub returns-in-Err-Failed-clause-strong : goal.returns-in-Err-Failed-clause-strong
returns-in-Err-Failed-clause-strong g c = λ is. wrote_nothing_strong (g.F.Files.content c.args.files.now) c.args.plan.now.nodes.items (seen_sink g.K.Sink.written g.K.Sink.faults c.args.out.now) (seen_sink g.K.Sink.written g.K.Sink.faults c.args.out.now) refl

pub returns-in-Err-OutOfMemory-clause-strong : goal.returns-in-Err-OutOfMemory-clause-strong
returns-in-Err-OutOfMemory-clause-strong g c = λ is. wrote_nothing_strong (g.F.Files.content c.args.files.now) c.args.plan.now.nodes.items (seen_sink g.K.Sink.written g.K.Sink.faults c.args.out.now) (seen_sink g.K.Sink.written g.K.Sink.faults c.args.out.now) refl
