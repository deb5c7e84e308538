use Rattle.std.proofs.Common.{◌≡◌, ◌≢◌, ◌==◌, ◌+◌, true, [], ◌∷◌, List, ℕ, length, Ok, Err, Some, Option, ap, sym, ◌∙◌, subst, arith}
use Rattle.std.proofs.lemmas.List.Splits.{length-slice_split}
use Rattle.std.proofs.lemmas.List.Sums.{count_by-le-length}
use Rattle.cedr_base.specs.Bytes.{line_feed}
use Rattle.cedr_guard.specs.declared.refusal.Refusal.{Refusal}
use Rattle.cedr_guard.specs.Sources.{Judged}
use Rattle.cedr_commands.specs.Refusals.{fault_at}
use Rattle.cedr_commands.specs.Events.{JudgesFile, parts_behind}
use Rattle.cedr_commands.proofs.FileLemmas.{some_part, taken, unfinished, refused_file, finished}
use Rattle.cedr_commands.proofs.history.judge_lines.Goals as goal
use Rattle.cedr_commands.proofs.history.judge_lines.Goals.{else-over_limit-via-then-over_limit+else-is_empty, else-over_limit-via-else-over_limit}

pub loop-line-init : goal.loop-line-init
loop-line-init c =
    record {
      good = [];
      events = c.new-events.ensures;
      counted = omega (arith, ap length c.new-lines.ensures, length-slice_split (λ b. b == line_feed) c.args.bytes.now, count_by-le-length (λ b. b == line_feed) c.args.bytes.now, c.requires);
      last = λ over none. some_part (λ b. b == line_feed) c.args.bytes.now (sym c.new-lines.ensures ∙ none);
      rest = ap (parts_behind c.args.over_limit 0 []) c.new-lines.ensures;
    }

pub returns-then-is_empty : goal.returns-then-is_empty
returns-then-is_empty c =
    let good = c.loop-line.invariant.good in
    let number = c.loop-line.number in
    let last = c.in-Some.ensures.steps ∙ ap (λ rest. c.in-Some.line.now ∷ rest) c.if-is_empty.ensures in
    ap (λ (file : Judged). file.fault) (sym c.loop-line.invariant.rest)
    ∙ (ap (λ over. (parts_behind over number good c.loop-line.lines).fault) c.if-over_limit.true
    ∙ (ap (λ lines. (parts_behind true number good lines).fault) last
    ∙ (unfinished number good c.in-Some.line.now
    ∙ ap {B = Option Refusal} (λ fault. Some (record { line = number + 1; fault = fault })) (sym c.limit_fault.ensures))))

pub returns-in-Err : goal.returns-in-Err
returns-in-Err c =
    let good = c.loop-line.invariant.good in
    let number = c.loop-line.number in
    let more : c.args.over_limit ≡ true → c.next.new.self ≢ [] =
    λ over. elim c.else-over_limit.branch [ else-over_limit-via-then-over_limit+else-is_empty w ↦ w.if-is_empty.ensures | else-over_limit-via-else-over_limit w ↦ let not_over = w.if-over_limit.false in cc ] in
    let file = ap (parts_behind c.args.over_limit number good) (sym c.in-Some.ensures.steps) ∙ c.loop-line.invariant.rest in
    let fault = refused_file c.args.over_limit number good c.in-Some.line.now c.next.new.self c.in-Err.fault c.judge_line.new.events more (c.in-Err.ensures good c.loop-line.invariant.events) in
    rw c.at.ensures (subst (JudgesFile (Err (fault_at (number + 1) c.in-Err.fault))) file fault)

pub returns : goal.returns
returns c =
    let good = c.loop-line.invariant.good in
    let number = c.loop-line.number in
    let none = c.in_default.ensures.steps.0 in
    let last : c.args.over_limit ≡ true → ◌≡◌ {A = List (List ℕ)} [] [] → ⊥ = λ over same. c.loop-line.invariant.last over none in
    subst (JudgesFile (Ok c.loop-line.events)) (ap (parts_behind c.args.over_limit number good) (sym none) ∙ c.loop-line.invariant.rest)
    (finished c.args.over_limit number good c.loop-line.events last c.loop-line.invariant.events)

pub loop-line-preserved : goal.loop-line-preserved
loop-line-preserved c =
    let good = c.loop-line.invariant.good in
    let number = c.loop-line.number in
    let more : c.args.over_limit ≡ true → c.next.new.self ≢ [] =
    λ over. elim c.else-over_limit.branch [ else-over_limit-via-then-over_limit+else-is_empty w ↦ w.if-is_empty.ensures | else-over_limit-via-else-over_limit w ↦ let not_over = w.if-over_limit.false in cc ] in
    let takes = c.in_default-judge_line.ensures good c.loop-line.invariant.events in
    record {
      good = takes.0;
      events = takes.2;
      counted = omega (arith, c.loop-line.invariant.counted, ap length c.in-Some.ensures.steps);
      last = more;
      rest = sym (taken c.args.over_limit number good takes.0 c.in-Some.line.now c.next.new.self more takes.1)
          ∙ (ap (parts_behind c.args.over_limit number good) (sym c.in-Some.ensures.steps) ∙ c.loop-line.invariant.rest);
    }
