use Rattle.std.proofs.Common.{◌≡◌, ◌≢◌, ◌==◌, ◌+◌, true, [], ◌∷◌, Bool, List, ℕ, length, Option, Some, Result, Ok, Err, refl, ap, sym, ◌∙◌, subst, arith}
use Rattle.std.proofs.lemmas.List.Splits.{length-slice_split}
use Rattle.std.proofs.lemmas.List.Sums.{count_by-le-length}
use Rattle.std.proofs.lemmas.Result.{err_from_is_err_and}
use Rattle.cedr_guard.specs.declared.refusal.Refusal.{Refusal}
use Rattle.cedr_io.specs.declared.fault.OutsideFault.{OutsideFault}
use Rattle.node_laws.specs.Lists.{Lists}
use Rattle.cedr_plan.specs.declared.plan.PlanNode.{PlanNode}
use Rattle.cedr_base.specs.Bytes.{line_feed}
use Rattle.cedr_text.specs.Parts.{parts_of}
use Rattle.cedr_text.specs.declared.fault.LineFault.{LineFault}
use Rattle.cedr_text.proofs.Cuts.{some_part}
use Rattle.plan_live.specs.Scripts.{Accepted}
use Rattle.plan_live.specs.Playing.{PlaysStand, TakesStep, step_of, parts_played, PlaysAs}
use Rattle.plan_live.proofs.ScriptLemmas.{IsPlayedTo, first_played, played_on, played_fault, played_so_far, played_unfinished, played_all}
use Rattle.plan_live.proofs.script.play_lines.Goals as goal
use Rattle.plan_live.proofs.script.play_lines.Goals.{else-over_limit-via-then-over_limit+else-is_empty, else-over_limit-via-else-over_limit}

pub loop-line-init : goal.loop-line-init
loop-line-init g c =
    let nodes = c.args.plan.now.nodes.items in
    let shapes = c.args.shapes.now in
    let bytes = c.args.bytes.now in
    let over = c.args.over_limit in
    let player = c.args.player in
    let old = g.K.Sink.written c.args.out.now in
    let parts = parts_of line_feed bytes in
    record {
      played = λ start stands. subst (λ (left : List (List ℕ)). IsPlayedTo over nodes shapes 0 left player (parts_played over nodes shapes 0 start parts) old old) (sym c.new-lines.ensures) (first_played over nodes shapes start parts player old stands);
      counted = omega (arith, ap length c.new-lines.ensures, length-slice_split (λ b. b == line_feed) bytes, count_by-le-length (λ b. b == line_feed) bytes, c.requires.limit);
      last = λ is_over none. some_part (λ b. b == line_feed) bytes (sym c.new-lines.ensures ∙ none);
      faults = refl;
    }

pub returns-then-is_empty-clause-played : goal.returns-then-is_empty-clause-played
returns-then-is_empty-clause-played g c = λ start stands.
    let nodes = c.args.plan.now.nodes.items in
    let shapes = c.args.shapes.now in
    let over = c.args.over_limit in
    let line = c.in-Some.line.now in
    let number = c.loop-line.number in
    let player = c.loop-line.player in
    let old = g.K.Sink.written c.args.out.now in
    let new = g.K.Sink.written c.loop-line.out in
    let all = parts_played over nodes shapes 0 start (parts_of line_feed c.args.bytes.now) in
    let last = c.in-Some.ensures.steps ∙ ap (λ (rest : List (List ℕ)). line ∷ rest) c.if-is_empty.ensures in
    let here = subst (λ (left : List (List ℕ)). IsPlayedTo over nodes shapes number left player all old new) last (c.loop-line.invariant.played start stands) in
    subst (λ (f : Option Refusal). PlaysAs (Ok f) nodes all old new) (sym (c.refused.ensures ∙ ap {B = Option Refusal} (λ (f : LineFault). Some (record { line = number + 1; fault = f })) c.limit_fault.ensures))
    (played_unfinished nodes shapes number line player all old new (subst (λ (b : Bool). IsPlayedTo b nodes shapes number (line ∷ []) player all old new) c.if-over_limit.true here))

pub take-requires-clause-stands : goal.take-requires-clause-stands
take-requires-clause-stands g c =
    let first = c.requires.stands in
    let p = c.loop-line.invariant.played first.0 first.1 in
    subst (λ (ns : List PlanNode). (before : Accepted) × (given : Lists) × PlaysStand ns c.loop-line.player before given) (sym c.as_slice.ensures.value) (p.before, p.given, p.stands)

pub returns-in_err-fault-clause-played : goal.returns-in_err-fault-clause-played
returns-in_err-fault-clause-played g c = λ start stands.
    let nodes = c.args.plan.now.nodes.items in
    let shapes = c.args.shapes.now in
    let over = c.args.over_limit in
    let line = c.in-Some.line.now in
    let number = c.loop-line.number in
    let player = c.loop-line.player in
    let next = c.next.new.self in
    let after = c.take.new.self in
    let first = g.K.Sink.written c.args.out.now in
    let before = g.K.Sink.written c.loop-line.out in
    let now = g.K.Sink.written c.take.new.out in
    let all = parts_played over nodes shapes 0 start (parts_of line_feed c.args.bytes.now) in
    let outside = c.in_err-fault.field-0.0 in
    let q = err_from_is_err_and c.from_residual.result c.from_residual.ensures.1 in
    let more : over ≡ true → next ≢ [] =
    λ is. elim c.else-over_limit.branch [ else-over_limit-via-then-over_limit+else-is_empty w ↦ w.if-is_empty.ensures | else-over_limit-via-else-over_limit w ↦ let not_over = w.if-over_limit.false in cc ] in
    let p = subst (λ (left : List (List ℕ)). IsPlayedTo over nodes shapes number left player all first before) c.in-Some.ensures.steps (c.loop-line.invariant.played start stands) in
    let slice = c.as_slice.ensures.value in
    let taken = subst (λ (ns : List PlanNode). (lines : Accepted) (given : Lists) → PlaysStand ns player lines given → TakesStep (Err outside) ns after lines given (step_of ns shapes lines line) before now) slice c.in_err-fault.ensures.taken in
    subst (λ (r : Result (Option Refusal) OutsideFault). PlaysAs r nodes all first now) (sym (q.1 ∙ ap (λ f. Err f) q.2))
    (played_so_far over nodes shapes number line next player after all first before now p more outside (taken p.before p.given p.stands))

pub returns-in-Some-2-clause-played : goal.returns-in-Some-2-clause-played
returns-in-Some-2-clause-played g c = λ start stands.
    let nodes = c.args.plan.now.nodes.items in
    let shapes = c.args.shapes.now in
    let over = c.args.over_limit in
    let line = c.in-Some.line.now in
    let number = c.loop-line.number in
    let player = c.loop-line.player in
    let next = c.next.new.self in
    let after = c.take.new.self in
    let first = g.K.Sink.written c.args.out.now in
    let before = g.K.Sink.written c.loop-line.out in
    let now = g.K.Sink.written c.take.new.out in
    let all = parts_played over nodes shapes 0 start (parts_of line_feed c.args.bytes.now) in
    let fault = c.in-Some-2.fault in
    let more : over ≡ true → next ≢ [] =
    λ is. elim c.else-over_limit.branch [ else-over_limit-via-then-over_limit+else-is_empty w ↦ w.if-is_empty.ensures | else-over_limit-via-else-over_limit w ↦ let not_over = w.if-over_limit.false in cc ] in
    let p = subst (λ (left : List (List ℕ)). IsPlayedTo over nodes shapes number left player all first before) c.in-Some.ensures.steps (c.loop-line.invariant.played start stands) in
    let taken = subst (λ (ns : List PlanNode). (lines : Accepted) (given : Lists) → PlaysStand ns player lines given → TakesStep (Ok c.in_ok-fault.field-0) ns after lines given (step_of ns shapes lines line) before now) c.as_slice.ensures.value c.in_ok-fault.ensures.taken in
    subst (λ (f : Option Refusal). PlaysAs (Ok f) nodes all first now) (sym c.refused-in-Some-2.ensures)
    (played_fault over nodes shapes number line next player after all first before now p more fault
    (subst (λ (f : Option LineFault). TakesStep (Ok f) nodes after p.before p.given (step_of nodes shapes p.before line) before now) c.in-Some-2.is (taken p.before p.given p.stands)))

pub loop-line-preserved : goal.loop-line-preserved
loop-line-preserved g c =
    let nodes = c.args.plan.now.nodes.items in
    let shapes = c.args.shapes.now in
    let over = c.args.over_limit in
    let line = c.in-Some.line.now in
    let number = c.loop-line.number in
    let player = c.loop-line.player in
    let next = c.next.new.self in
    let after = c.take.new.self in
    let first = g.K.Sink.written c.args.out.now in
    let before = g.K.Sink.written c.loop-line.out in
    let now = g.K.Sink.written c.take.new.out in
    let inv = c.loop-line.invariant in
    let more : over ≡ true → next ≢ [] =
    λ is. elim c.else-over_limit.branch [ else-over_limit-via-then-over_limit+else-is_empty w ↦ w.if-is_empty.ensures | else-over_limit-via-else-over_limit w ↦ let not_over = w.if-over_limit.false in cc ] in
    let taken = subst (λ (ns : List PlanNode). (lines : Accepted) (given : Lists) → PlaysStand ns player lines given → TakesStep (Ok c.in_ok-fault.field-0) ns after lines given (step_of ns shapes lines line) before now) c.as_slice.ensures.value c.in_ok-fault.ensures.taken in
    record {
      played = λ start stands.
          let all = parts_played over nodes shapes 0 start (parts_of line_feed c.args.bytes.now) in
          let p = subst (λ (left : List (List ℕ)). IsPlayedTo over nodes shapes number left player all first before) c.in-Some.ensures.steps (inv.played start stands) in
          played_on over nodes shapes number line next player after all first before now p more
          (subst (λ (f : Option LineFault). TakesStep (Ok f) nodes after p.before p.given (step_of nodes shapes p.before line) before now) c.in_default-2.is (taken p.before p.given p.stands));
      counted = omega (arith, inv.counted, ap length c.in-Some.ensures.steps);
      last = more;
      faults = c.in_ok-fault.ensures.counted ∙ inv.faults;
    }

pub returns-clause-played : goal.returns-clause-played
returns-clause-played g c = λ start stands.
    let nodes = c.args.plan.now.nodes.items in
    let shapes = c.args.shapes.now in
    let over = c.args.over_limit in
    let number = c.loop-line.number in
    let player = c.loop-line.player in
    let old = g.K.Sink.written c.args.out.now in
    let new = g.K.Sink.written c.loop-line.out in
    let all = parts_played over nodes shapes 0 start (parts_of line_feed c.args.bytes.now) in
    let none = c.in_default.ensures.steps.0 in
    let last : over ≡ true → ◌≡◌ {A = List (List ℕ)} [] [] → ⊥ = λ is same. c.loop-line.invariant.last is none in
    played_all over nodes shapes number player all old new last (subst (λ (left : List (List ℕ)). IsPlayedTo over nodes shapes number left player all old new) none (c.loop-line.invariant.played start stands))
