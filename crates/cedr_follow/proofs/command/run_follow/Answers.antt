use Rattle.std.proofs.Common.{ℕ, List, [], ◌∷◌, ◌++◌, Option, inl, inr, ap, ◌∙◌, subst}
use Rattle.std.proofs.lemmas.List.{append_assoc}
use Rattle.cedr_commands.proofs.EndingLemmas.{asks_more, behind_plan, opened_plan}
use Rattle.cedr_commands.specs.Commands.{Command}
use Rattle.cedr_commands.specs.Resuming.{CanSavePlan}
use Rattle.cedr_commands.specs.Seen.{seen_files, seen_sink}
use Rattle.cedr_commands.specs.declared.command.Job.TheVariants.{Follow}
use Rattle.cedr_follow.proofs.FollowLemmas.{counts_followed, early_plan, early_script, ends_early}
use Rattle.cedr_follow.proofs.command.run_follow.Goals as goal
use Rattle.cedr_follow.specs.FollowEnds.{script_outside}
use Rattle.plan_follow.specs.Following.{FollowsOn}
use Rattle.plan_follow.specs.Sifted.{sifted_behind}
use Rattle.plan_live.specs.Scripts.{no_lines}

pub returns-in-Err : goal.returns-in-Err
returns-in-Err g c = λ checkpoint.
    let command : Command = record { job = Follow; file = c.args.file.now; checkpoint = checkpoint; script = c.args.script.now } in
    let files = seen_files g.F.Files.content g.F.Files.faults g.F.Files.asked c.args.files.now in
    let files' = seen_files g.F.Files.content g.F.Files.faults g.F.Files.asked c.open_saved.new.files in
    let out = seen_sink g.K.Sink.written g.K.Sink.faults c.args.out.now in
    ends_early command files files' out (seen_sink g.E.Sink.written g.E.Sink.faults c.args.err.now) (seen_sink g.E.Sink.written g.E.Sink.faults c.report.new.err) c.in-Err.outcome c.report.result
    (early_plan command files files' out c.in-Err.outcome (λ told kind node h. h) (λ told node h. h) c.in-Err.ensures.opened c.in-Err.ensures.counted)
    (inl c.in-Err.ensures.asked) c.in-Err.ensures.contents c.report.ensures.status c.report.ensures.reported c.report.ensures.lacking

pub returns-in-Err-find_script : goal.returns-in-Err-find_script
returns-in-Err-find_script g c = λ checkpoint.
    let command : Command = record { job = Follow; file = c.args.file.now; checkpoint = checkpoint; script = c.args.script.now } in
    let files = seen_files g.F.Files.content g.F.Files.faults g.F.Files.asked c.args.files.now in
    let now = seen_files g.F.Files.content g.F.Files.faults g.F.Files.asked c.open_saved.new.files in
    let files' = seen_files g.F.Files.content g.F.Files.faults g.F.Files.asked c.find_script.new.files in
    let out = seen_sink g.K.Sink.written g.K.Sink.faults c.args.out.now in
    let script = c.args.script.now in
    ends_early command files files' out (seen_sink g.E.Sink.written g.E.Sink.faults c.args.err.now) (seen_sink g.E.Sink.written g.E.Sink.faults c.report-in-Err-find_script.new.err) c.in-Err-find_script.outcome c.report-in-Err-find_script.result
    (early_script command files now files' out c.in-Err-find_script.outcome c.in-Ok.ensures.counted c.in-Err-find_script.ensures.unfound c.in-Err-find_script.ensures.counted)
    (inr (behind_plan files files' c.args.file.now c.in-Ok.plan CanSavePlan (script ∷ []) c.in-Ok.ensures.opened c.in-Ok.ensures.can (asks_more files.asked now.asked files'.asked c.args.file.now (script ∷ []) c.in-Ok.ensures.asked c.in-Err-find_script.ensures.asked)))
    (λ name. c.in-Err-find_script.ensures.contents name ∙ c.in-Ok.ensures.contents name) c.report-in-Err-find_script.ensures.status c.report-in-Err-find_script.ensures.reported c.report-in-Err-find_script.ensures.lacking

pub returns : goal.returns
returns g c = λ checkpoint.
    let files = seen_files g.F.Files.content g.F.Files.faults g.F.Files.asked c.args.files.now in
    let now = seen_files g.F.Files.content g.F.Files.faults g.F.Files.asked c.find_script.new.files in
    let files' = seen_files g.F.Files.content g.F.Files.faults g.F.Files.asked c.give_back.new.self in
    let out = seen_sink g.K.Sink.written g.K.Sink.faults c.args.out.now in
    let script = c.args.script.now in
    let nodes = c.in-Ok.plan.nodes.items in
    let found = c.in-Ok-find_script.ensures.found in
    let left = g.F.Source.Source.rest c.follow_file-result.new.source in
    let out' = seen_sink g.K.Sink.written g.K.Sink.faults c.follow_file-result.new.out in
    let err = seen_sink g.E.Sink.written g.E.Sink.faults c.args.err.now in
    let told = seen_sink g.E.Sink.written g.E.Sink.faults c.follow_file-result.new.err in
    inr (record {
      nodes = nodes;
      plan = λ told is. opened_plan (files.content c.args.file.now) (told c.args.file.now) c.in-Ok.plan is.0 c.in-Ok.ensures.opened;
      can = c.in-Ok.ensures.can;
      result = c.follow_file-result.result;
      left = left;
      told = told;
      followed = subst (λ (rest : Option (List ℕ)). FollowsOn c.follow_file-result.result nodes (sifted_behind (no_lines nodes)) [] script (script_outside rest out err) (script_outside left out' told)) (found.0 ∙ c.in-Ok.ensures.contents script) c.follow_file-result.ensures.followed;
      counted = counts_followed c.follow_file-result.result files now files' out out' (g.F.Source.Source.faults c.in-Ok-find_script.source) (g.F.Source.Source.faults c.follow_file-result.new.source) (c.in-Ok-find_script.ensures.counted ∙ c.in-Ok.ensures.counted) c.requires.files_count c.requires.out_counts found.1 c.follow_file-result.ensures.reads c.follow_file-result.ensures.writes c.give_back.ensures.counted;
      went = c.outcome_of.result;
      went_as = c.outcome_of.ensures;
      answered = c.report-2.ensures.status;
      reported = c.report-2.ensures.reported;
      lacking = c.report-2.ensures.lacking;
      asked = c.give_back.ensures.asked ∙ (c.in-Ok-find_script.ensures.asked ∙ (ap (λ (asked : List (List ℕ)). asked ++ script ∷ []) c.in-Ok.ensures.asked ∙ append_assoc files.asked (c.args.file.now ∷ []) (script ∷ [])));
      contents = λ name. c.give_back.ensures.contents name ∙ (c.in-Ok-find_script.ensures.contents name ∙ c.in-Ok.ensures.contents name);
    })
