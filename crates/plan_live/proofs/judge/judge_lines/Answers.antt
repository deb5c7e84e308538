use Rattle.std.proofs.Common.{◌≡◌, ◌≢◌, ◌==◌, ◌+◌, true, [], ◌∷◌, Bool, List, ℕ, length, Err, ap, sym, ◌∙◌, subst, arith}
use Rattle.std.proofs.lemmas.List.Splits.{length-slice_split}
use Rattle.std.proofs.lemmas.List.Sums.{count_by-le-length}
use Rattle.cedr_base.specs.Bytes.{line_feed}
use Rattle.cedr_text.specs.Parts.{parts_of}
use Rattle.cedr_text.specs.declared.fault.LineFault.{LineFault}
use Rattle.cedr_text.proofs.Cuts.{some_part}
use Rattle.plan_live.specs.declared.fault.ScriptFault.{ScriptFault}
use Rattle.plan_live.specs.declared.fault.ScriptFault.TheVariants as script_fault
use Rattle.plan_live.specs.Judged.{JudgesAll}
use Rattle.plan_live.specs.Playing.{parts_played}
use Rattle.plan_live.proofs.JudgeLemmas.{IsJudgedTo, first_judged, judged_on, judged_fault, judged_unfinished, judged_all}
use Rattle.plan_live.proofs.judge.judge_lines.Goals as goal
use Rattle.plan_live.proofs.judge.judge_lines.Goals.{else-over_limit-via-then-over_limit+else-is_empty, else-over_limit-via-else-over_limit}

pub loop-line-init : goal.loop-line-init
loop-line-init c =
    let nodes = c.args.nodes.now in
    let shapes = c.args.shapes.now in
    let bytes = c.args.bytes.now in
    let over = c.args.over_limit in
    let guards = c.args.guards.now.items in
    let parts = parts_of line_feed bytes in
    record {
      judged = λ start stands. subst (λ (left : List (List ℕ)). IsJudgedTo over nodes shapes 0 left guards (parts_played over nodes shapes 0 start parts)) (sym c.new-lines.ensures) (first_judged over nodes shapes start parts guards stands);
      counted = omega (arith, ap length c.new-lines.ensures, length-slice_split (λ b. b == line_feed) bytes, count_by-le-length (λ b. b == line_feed) bytes, c.requires.limit);
      last = λ is_over none. some_part (λ b. b == line_feed) bytes (sym c.new-lines.ensures ∙ none);
    }

pub returns-then-is_empty : goal.returns-then-is_empty
returns-then-is_empty c = λ start stands.
    let nodes = c.args.nodes.now in
    let shapes = c.args.shapes.now in
    let over = c.args.over_limit in
    let line = c.in-Some.line.now in
    let number = c.loop-line.number in
    let guards = c.loop-line.guards.items in
    let all = parts_played over nodes shapes 0 start (parts_of line_feed c.args.bytes.now) in
    let last = c.in-Some.ensures.steps ∙ ap (λ (rest : List (List ℕ)). line ∷ rest) c.if-is_empty.ensures in
    let here = subst (λ (left : List (List ℕ)). IsJudgedTo over nodes shapes number left guards all) last (c.loop-line.invariant.judged start stands) in
    subst (λ (f : ScriptFault). JudgesAll (Err f) nodes guards all) (sym (c.refused.ensures ∙ ap {B = ScriptFault} (λ (f : LineFault). script_fault.Refused (record { line = number + 1; fault = f })) c.limit_fault.ensures))
    (judged_unfinished nodes shapes number line guards all (subst (λ (b : Bool). IsJudgedTo b nodes shapes number (line ∷ []) guards all) c.if-over_limit.true here))

pub judge_script_line-requires-clause-stands : goal.judge_script_line-requires-clause-stands
judge_script_line-requires-clause-stands c =
    let first = c.requires.stands in
    let p = c.loop-line.invariant.judged first.0 first.1 in
    (p.before, p.stands)

pub returns-in-Err : goal.returns-in-Err
returns-in-Err c = λ start stands.
    let nodes = c.args.nodes.now in
    let shapes = c.args.shapes.now in
    let over = c.args.over_limit in
    let line = c.in-Some.line.now in
    let number = c.loop-line.number in
    let old = c.loop-line.guards.items in
    let new = c.judge_script_line.new.guards.items in
    let next = c.next.new.self in
    let all = parts_played over nodes shapes 0 start (parts_of line_feed c.args.bytes.now) in
    let more : over ≡ true → next ≢ [] =
    λ is. elim c.else-over_limit.branch [ else-over_limit-via-then-over_limit+else-is_empty w ↦ w.if-is_empty.ensures | else-over_limit-via-else-over_limit w ↦ let not_over = w.if-over_limit.false in cc ] in
    let p = subst (λ (left : List (List ℕ)). IsJudgedTo over nodes shapes number left old all) c.in-Some.ensures.steps (c.loop-line.invariant.judged start stands) in
    subst (λ (f : ScriptFault). JudgesAll (Err f) nodes new all) (sym c.refused-in-Err.ensures) (judged_fault over nodes shapes number line next old all p more new c.in-Err.fault (c.in-Err.ensures p.before p.stands))

pub loop-line-preserved : goal.loop-line-preserved
loop-line-preserved c =
    let nodes = c.args.nodes.now in
    let shapes = c.args.shapes.now in
    let over = c.args.over_limit in
    let line = c.in-Some.line.now in
    let number = c.loop-line.number in
    let old = c.loop-line.guards.items in
    let new = c.judge_script_line.new.guards.items in
    let next = c.next.new.self in
    let inv = c.loop-line.invariant in
    let more : over ≡ true → next ≢ [] =
    λ is. elim c.else-over_limit.branch [ else-over_limit-via-then-over_limit+else-is_empty w ↦ w.if-is_empty.ensures | else-over_limit-via-else-over_limit w ↦ let not_over = w.if-over_limit.false in cc ] in
    record {
      judged = λ start stands.
          let all = parts_played over nodes shapes 0 start (parts_of line_feed c.args.bytes.now) in
          let p = subst (λ (left : List (List ℕ)). IsJudgedTo over nodes shapes number left old all) c.in-Some.ensures.steps (inv.judged start stands) in
          judged_on over nodes shapes number line next old all p more new (c.in-Ok.ensures p.before p.stands);
      counted = omega (arith, inv.counted, ap length c.in-Some.ensures.steps);
      last = more;
    }

pub returns : goal.returns
returns c = λ start stands.
    let nodes = c.args.nodes.now in
    let shapes = c.args.shapes.now in
    let over = c.args.over_limit in
    let number = c.loop-line.number in
    let guards = c.loop-line.guards.items in
    let all = parts_played over nodes shapes 0 start (parts_of line_feed c.args.bytes.now) in
    let none = c.in_default.ensures.steps.0 in
    let last : over ≡ true → ◌≡◌ {A = List (List ℕ)} [] [] → ⊥ = λ is same. c.loop-line.invariant.last is none in
    judged_all over nodes shapes number guards all last (subst (λ (left : List (List ℕ)). IsJudgedTo over nodes shapes number left guards all) none (c.loop-line.invariant.judged start stands))
