-- The lines of a script, played one after the other.
use Rattle.std.proofs.Common.{◌≡◌, ◌≢◌, ℕ, ◌+◌, ◌<◌, ◌≤◌, List, [], ◌∷◌, ◌++◌, Bool, true, false, cond, length, take, Option, None, Some, Result, Ok, Err, refl, ap, sym, ◌∙◌, subst, arith, append_assoc, append-nil}
use Rattle.std.specs.Prelude.{nat_lt}
use Rattle.std.specs.Io.KnownBytes.{Appends}
use Rattle.std.proofs.Math.Seq.{take-append_seam}
use Rattle.std.proofs.lemmas.Bool.{lt-ltb, le-ltb}
use Rattle.cedr_guard.specs.declared.fault.GuardFault.{GuardFault}
use Rattle.cedr_guard.specs.declared.fault.GuardFault.TheVariants as guard_fault
use Rattle.cedr_guard.specs.declared.refusal.Refusal.{Refusal}
use Rattle.cedr_guard.specs.declared.refusal.TheConstants.{FILE_LIMIT}
use Rattle.cedr_guard.specs.Sources.{whole_lines, unfinished_line, first_refusal, limit_fault}
use Rattle.cedr_io.specs.Asked.{AppendsFront}
use Rattle.cedr_io.specs.declared.fault.OutsideFault.{OutsideFault}
use Rattle.cedr_io.specs.declared.fault.OutsideFault.TheVariants as outside
use Rattle.node_laws.specs.Lists.{Lists}
use Rattle.cedr_plan.specs.declared.plan.PlanNode.{PlanNode}
use Rattle.cedr_text.specs.declared.event_line.Shape.{Shape}
use Rattle.cedr_text.specs.declared.fault.LineFault.{LineFault}
use Rattle.cedr_text.specs.declared.fault.LineFault.TheVariants.{LineTooLong}
use Rattle.cedr_text.specs.declared.lines.TheConstants.{LINE_LIMIT}
use Rattle.cedr_text.specs.Lines.{raw_lines, without_return, without_empty_end}
use Rattle.cedr_base.specs.Bytes.{line_feed}
use Rattle.cedr_text.specs.Parts.{parts_of}
use Rattle.plan_live.specs.declared.player.Player.{Player}
use Rattle.plan_live.specs.Scripts.{Accepted, ShapesHaveTypes, with_line, is_question, Played, asked, stopped, play_on, played_behind, front_after, played_after}
use Rattle.plan_live.specs.Shown.{AreShown, AreShownFirst, IsShown}
use Rattle.plan_live.specs.Plays.{PlaysAfter}
use Rattle.plan_live.specs.Playing.{PlaysStand, PlaysLine, accepting, step_of, told_fault, TakesStep, parts_played, PlaysAs}
use Rattle.plan_live.proofs.LineLemmas.{own_shapes, own_types}
use Rattle.plan_live.proofs.ShownLemmas.{appends_none, appends_along, front_along, front_none, front_all}

-- ---- one line

-- what a line of this number does, and then what the lines after it do
abbrev pub stepped : ℕ → Accepted → Result (Option Accepted) LineFault → (Accepted → Played) → Played
stepped number before (Ok None) rest = asked before (rest before)
stepped number before (Ok (Some now)) rest = rest now
stepped number before (Err fault) rest = stopped number before fault

one_step : (long question : Bool) (number : ℕ) (before : Accepted) (now : Result Accepted LineFault) (rest : Accepted → Played)
    → cond long (stopped number before LineTooLong) (cond question (asked before (rest before)) (play_on number before now rest)) ≡ stepped number before (cond long (Err LineTooLong) (cond question (Ok None) (accepting now))) rest
one_step true question number before now rest = refl
one_step false true number before now rest = refl
one_step false false number before (Ok now) rest = refl
one_step false false number before (Err fault) rest = refl

behind_line : (nodes : List PlanNode) (shapes : List Shape) (count : ℕ) (before : Accepted) (line : List ℕ) (lines : List (List ℕ)) (step : Result (Option Accepted) LineFault) → step_of nodes shapes before line ≡ step
    → played_behind nodes shapes count before (line ∷ lines) ≡ stepped (count + 1) before step (λ now. played_behind nodes shapes (count + 1) now lines)
behind_line nodes shapes count before line lines step is =
    one_step (nat_lt LINE_LIMIT (length line)) (is_question (without_return line)) (count + 1) before (with_line nodes shapes before (without_return line)) (λ now. played_behind nodes shapes (count + 1) now lines)
    ∙ ap (λ s. stepped (count + 1) before s (λ now. played_behind nodes shapes (count + 1) now lines)) is

-- a line that isn't too long, which is `?` or isn't
pub step_short : (nodes : List PlanNode) (shapes : List Shape) (before : Accepted) (line : List ℕ) (question : Bool) → length line ≤ LINE_LIMIT → is_question (without_return line) ≡ question
    → step_of nodes shapes before line ≡ cond question (Ok None) (accepting (with_line nodes shapes before (without_return line)))
step_short nodes shapes before line question short is =
    ap (λ (test : Bool). cond test (Err LineTooLong) (cond (is_question (without_return line)) (Ok None) (accepting (with_line nodes shapes before (without_return line))))) (le-ltb LINE_LIMIT (length line) short)
    ∙ ap (λ (test : Bool). cond test (Ok None) (accepting (with_line nodes shapes before (without_return line)))) is

-- a line that isn't `?`
pub step_says : (nodes : List PlanNode) (shapes : List Shape) (before : Accepted) (line : List ℕ) → length line ≤ LINE_LIMIT → is_question (without_return line) ≡ false → step_of nodes shapes before line ≡ accepting (with_line nodes shapes before (without_return line))
step_says nodes shapes before line short is = step_short nodes shapes before line false short is

-- it was accepted
pub takes_line : (nodes : List PlanNode) (player : Player) (before : Accepted) (shown : Lists) (step : Result (Option Accepted) LineFault) (now : Result Accepted LineFault) (old : Option (List ℕ)) → step ≡ accepting now → PlaysLine (Ok tt) nodes player shown now
    → TakesStep (Ok None) nodes player before shown step old old
takes_line nodes player before shown step now old is taken = subst (λ (s : Result (Option Accepted) LineFault). TakesStep (Ok None) nodes player before shown s old old) (sym (is ∙ ap accepting taken.1)) (taken.2, refl)

-- it has a fault, which is answered
pub line_fault : (fault : LineFault) (nodes : List PlanNode) (player : Player) (before : Accepted) (shown : Lists) (step : Result (Option Accepted) LineFault) (now : Result Accepted LineFault) (old : Option (List ℕ)) → step ≡ accepting now → now ≡ Err fault
    → TakesStep (Ok (Some fault)) nodes player before shown step old old
line_fault fault nodes player before shown step now old is fails = (is ∙ ap accepting fails, refl)

-- whatever came of it is told
pub takes_said : (result : Result (Unit {0}) GuardFault) (nodes : List PlanNode) (player : Player) (before : Accepted) (shown : Lists) (step : Result (Option Accepted) LineFault) (now : Result Accepted LineFault) (old : Option (List ℕ)) → step ≡ accepting now
    → PlaysLine result nodes player shown now → TakesStep (told_fault result) nodes player before shown step old old
takes_said (Ok done) nodes player before shown step now old is taken = takes_line nodes player before shown step now old is taken
takes_said (Err (guard_fault.Line fault)) nodes player before shown step now old is fails = line_fault fault nodes player before shown step now old is fails
takes_said (Err guard_fault.OutOfMemory) nodes player before shown step now old is lacked = subst (λ (s : Result (Option Accepted) LineFault). TakesStep (Err outside.OutOfMemory) nodes player before shown s old old) (sym is) (none_written now) where
  none_written : (now : Result Accepted LineFault) → TakesStep (Err outside.OutOfMemory) nodes player before shown (accepting now) old old
  none_written (Ok lines) = refl
  none_written (Err fault) = refl

-- ---- lines over the limit

abbrev at_limit : Played → ℕ → LineFault → Played
at_limit all line fault = record all { fault = Some (first_refusal all.fault (record { line = line; fault = fault })) }

limit_step : (number line : ℕ) (before : Accepted) (step : Result (Option Accepted) LineFault) (fault : LineFault) (rest : Accepted → Played) → at_limit (stepped number before step rest) line fault ≡ stepped number before step (λ now. at_limit (rest now) line fault)
limit_step number line before (Ok None) fault rest = refl
limit_step number line before (Ok (Some now)) fault rest = refl
limit_step number line before (Err other) fault rest = refl

step_alike : (number : ℕ) (before : Accepted) (step : Result (Option Accepted) LineFault) (f g : Accepted → Played) → ((now : Accepted) → f now ≡ g now) → stepped number before step f ≡ stepped number before step g
step_alike number before (Ok None) f g same = ap (asked before) (same before)
step_alike number before (Ok (Some now)) f g same = same now
step_alike number before (Err fault) f g same = refl

-- a line and then the lines after it; over the limit it isn't the last part
pub parts_step : (over : Bool) (nodes : List PlanNode) (shapes : List Shape) (count : ℕ) (before : Accepted) (line : List ℕ) (lines : List (List ℕ)) (step : Result (Option Accepted) LineFault) → (over ≡ true → lines ≢ []) → step_of nodes shapes before line ≡ step
    → parts_played over nodes shapes count before (line ∷ lines) ≡ stepped (count + 1) before step (λ now. parts_played over nodes shapes (count + 1) now lines)
parts_step false nodes shapes count before line lines step more is = behind_line nodes shapes count before line lines step is
parts_step true nodes shapes count before line [] step more is = absurd (more refl refl)
parts_step true nodes shapes count before line (next ∷ lines) step more is =
    let place : count + length (line ∷ whole_lines (next ∷ lines)) + 1 ≡ (count + 1) + length (whole_lines (next ∷ lines)) + 1 = omega arith in
    let fault = limit_fault (unfinished_line (next ∷ lines)) in
    ap (λ all. at_limit all (count + length (line ∷ whole_lines (next ∷ lines)) + 1) fault) (behind_line nodes shapes count before line (whole_lines (next ∷ lines)) step is)
    ∙ (ap (λ n. at_limit (stepped (count + 1) before step (λ now. played_behind nodes shapes (count + 1) now (whole_lines (next ∷ lines)))) n fault) place
    ∙ limit_step (count + 1) ((count + 1) + length (whole_lines (next ∷ lines)) + 1) before step fault (λ now. played_behind nodes shapes (count + 1) now (whole_lines (next ∷ lines))))

-- an empty last line says nothing
pub played_parts : (nodes : List PlanNode) (shapes : List Shape) (count : ℕ) (before : Accepted) (parts : List (List ℕ)) → played_behind nodes shapes count before (without_empty_end parts) ≡ played_behind nodes shapes count before parts
played_parts nodes shapes count before [] = refl
played_parts nodes shapes count before ([] ∷ []) = refl
played_parts nodes shapes count before ((b ∷ bs) ∷ []) = refl
played_parts nodes shapes count before ([] ∷ next ∷ lines) = played_parts nodes shapes (count + 1) before (next ∷ lines)
played_parts nodes shapes count before ((b ∷ bs) ∷ next ∷ lines) =
    behind_line nodes shapes count before (b ∷ bs) (without_empty_end (next ∷ lines)) _ refl
    ∙ (step_alike (count + 1) before (step_of nodes shapes before (b ∷ bs)) _ _ (λ now. played_parts nodes shapes (count + 1) now (next ∷ lines))
    ∙ sym (behind_line nodes shapes count before (b ∷ bs) (next ∷ lines) _ refl))

-- a script up to the limit
pub played_small : (nodes : List PlanNode) (shapes : List Shape) (before : Accepted) (bytes : List ℕ) → length bytes ≤ FILE_LIMIT → parts_played false nodes shapes 0 before (parts_of line_feed bytes) ≡ played_after nodes shapes before bytes
played_small nodes shapes before bytes short =
    sym (played_parts nodes shapes 0 before (parts_of line_feed bytes))
    ∙ sym (ap (λ long. cond long (front_after nodes shapes before (parts_of line_feed (take FILE_LIMIT bytes))) (played_behind nodes shapes 0 before (raw_lines bytes))) (le-ltb FILE_LIMIT (length bytes) short))

-- a script over it
pub played_large : (nodes : List PlanNode) (shapes : List Shape) (before : Accepted) (bytes : List ℕ) → FILE_LIMIT < length bytes → parts_played true nodes shapes 0 before (parts_of line_feed (take FILE_LIMIT bytes)) ≡ played_after nodes shapes before bytes
played_large nodes shapes before bytes long =
    let parts = parts_of line_feed (take FILE_LIMIT bytes) in
    ap (λ n. at_limit (played_behind nodes shapes 0 before (whole_lines parts)) n (limit_fault (unfinished_line parts))) (omega arith)
    ∙ sym (ap (λ over. cond over (front_after nodes shapes before (parts_of line_feed (take FILE_LIMIT bytes))) (played_behind nodes shapes 0 before (raw_lines bytes))) (lt-ltb FILE_LIMIT (length bytes) long))

-- ---- so many lines were played

-- These parts are left. What the `?` before them showed was written, and what later ones show goes on from that.
pub record IsPlayedTo (over : Bool) (nodes : List PlanNode) (shapes : List Shape) (count : ℕ) (parts : List (List ℕ)) (player : Player) (all : Played) (old new : Option (List ℕ)) : Type 0 where
  pub before : Accepted
  pub given : Lists
  pub done : List Accepted
  pub text : List ℕ
  pub stands : PlaysStand nodes player before given
  pub asks : all.asks ≡ done ++ (parts_played over nodes shapes count before parts).asks
  pub fault : all.fault ≡ (parts_played over nodes shapes count before parts).fault
  pub shown : (asks : List Accepted) (more : List ℕ) → AreShown nodes given asks more → AreShown nodes [] (done ++ asks) (text ++ more)
  pub written : Appends old new text

-- before the first line nothing was written, and all parts are left
pub first_played : (over : Bool) (nodes : List PlanNode) (shapes : List Shape) (before : Accepted) (parts : List (List ℕ)) (player : Player) (old : Option (List ℕ)) → PlaysStand nodes player before [] → IsPlayedTo over nodes shapes 0 parts player (parts_played over nodes shapes 0 before parts) old old
first_played over nodes shapes before parts player old p = record {
  before = before;
  given = [];
  done = [];
  text = [];
  stands = p;
  asks = refl;
  fault = refl;
  shown = λ asks more are. are;
  written = appends_none old;
}

-- what was shown so far, where nothing more is
pub all_shown : (over : Bool) (nodes : List PlanNode) (shapes : List Shape) (count : ℕ) (parts : List (List ℕ)) (player : Player) (all : Played) (old new : Option (List ℕ)) (p : IsPlayedTo over nodes shapes count parts player all old new) → AreShown nodes [] p.done p.text
all_shown over nodes shapes count parts player all old new p = subst (λ (asks : List Accepted). AreShown nodes [] asks p.text) (append-nil p.done) (subst (AreShown nodes [] (p.done ++ [])) (append-nil p.text) (p.shown [] [] refl))

first_shown : (nodes : List PlanNode) (done rest asks : List Accepted) (text : List ℕ) → asks ≡ done ++ rest → AreShown nodes [] done text → AreShownFirst nodes asks text
first_shown nodes done rest asks text is are = record {
  count = length done;
  shown = subst (λ (some : List Accepted). AreShown nodes [] some text) (sym (ap (take (length done)) is ∙ take-append_seam done rest)) are;
}

-- one `?` more was shown
one_shown : (nodes : List PlanNode) (before given : Lists) (done : List Accepted) (lines : Accepted) (text first : List ℕ) → ((asks : List Accepted) (more : List ℕ) → AreShown nodes before asks more → AreShown nodes [] (done ++ asks) (text ++ more))
    → IsShown nodes before lines given first → (asks : List Accepted) (more : List ℕ) → AreShown nodes given asks more → AreShown nodes [] ((done ++ lines ∷ []) ++ asks) ((text ++ first) ++ more)
one_shown nodes before given done lines text first shown is asks more are =
    subst (λ (some : List Accepted). AreShown nodes [] some ((text ++ first) ++ more)) (sym (append_assoc done (lines ∷ []) asks))
    (subst (AreShown nodes [] (done ++ lines ∷ asks)) (sym (append_assoc text first more)) (shown (lines ∷ asks) (first ++ more) (given, first, more, is, refl, are)))

module _ (over : Bool) (nodes : List PlanNode) (shapes : List Shape) (count : ℕ) (line : List ℕ) (parts : List (List ℕ)) (old new : Player) (all : Played) (first before now : Option (List ℕ)) (p : IsPlayedTo over nodes shapes count (line ∷ parts) old all first before) (more : over ≡ true → parts ≢ []) where
  abbrev rest : Accepted → Played
  rest lines = parts_played over nodes shapes (count + 1) lines parts

  left : (step : Result (Option Accepted) LineFault) → step_of nodes shapes p.before line ≡ step → parts_played over nodes shapes count p.before (line ∷ parts) ≡ stepped (count + 1) p.before step rest
  left step is = parts_step over nodes shapes count p.before line parts step more is

  asks_left : (step : Result (Option Accepted) LineFault) → step_of nodes shapes p.before line ≡ step → all.asks ≡ p.done ++ (stepped (count + 1) p.before step rest).asks
  asks_left step is = p.asks ∙ ap (λ (some : Played). p.done ++ some.asks) (left step is)

  fault_left : (step : Result (Option Accepted) LineFault) → step_of nodes shapes p.before line ≡ step → all.fault ≡ (stepped (count + 1) p.before step rest).fault
  fault_left step is = p.fault ∙ ap (λ (some : Played). some.fault) (left step is)

  step_on : (step : Result (Option Accepted) LineFault) → step_of nodes shapes p.before line ≡ step → TakesStep (Ok None) nodes new p.before p.given step before now → IsPlayedTo over nodes shapes (count + 1) parts new all first now
  step_on (Ok None) is h = record {
    before = p.before;
    given = h.0;
    done = p.done ++ p.before ∷ [];
    text = p.text ++ h.1;
    stands = h.3;
    asks = asks_left (Ok None) is ∙ sym (append_assoc p.done (p.before ∷ []) (rest p.before).asks);
    fault = fault_left (Ok None) is;
    shown = one_shown nodes p.given h.0 p.done p.before p.text h.1 p.shown h.2;
    written = appends_along first before now p.text h.1 p.written h.4;
  }
  step_on (Ok (Some lines)) is h = record {
    before = lines;
    given = p.given;
    done = p.done;
    text = p.text;
    stands = h.0;
    asks = asks_left (Ok (Some lines)) is;
    fault = fault_left (Ok (Some lines)) is;
    shown = p.shown;
    written = subst (λ (w : Option (List ℕ)). Appends first w p.text) (sym h.1) p.written;
  }
  step_on (Err fault) is h = absurd h

  -- a line was taken
  pub played_on : TakesStep (Ok None) nodes new p.before p.given (step_of nodes shapes p.before line) before now → IsPlayedTo over nodes shapes (count + 1) parts new all first now
  played_on h = step_on (step_of nodes shapes p.before line) refl h

  -- it has a fault
  pub played_fault : (fault : LineFault) → TakesStep (Ok (Some fault)) nodes new p.before p.given (step_of nodes shapes p.before line) before now → PlaysAs (Ok (Some (record { line = count + 1; fault = fault }))) nodes all first now
  played_fault fault h = (
    p.text,
    subst (λ (asks : List Accepted). AreShown nodes [] asks p.text) (sym (asks_left (Err fault) h.0 ∙ append-nil p.done)) (all_shown over nodes shapes count (line ∷ parts) old all first before p),
    sym (fault_left (Err fault) h.0),
    subst (λ (w : Option (List ℕ)). Appends first w p.text) (sym h.1) p.written,
  )

  stopped_so : (outside : OutsideFault) → now ≡ before → PlaysAs (Err outside) nodes all first now
  stopped_so outside same = (
    p.text,
    first_shown nodes p.done (parts_played over nodes shapes count p.before (line ∷ parts)).asks all.asks p.text p.asks (all_shown over nodes shapes count (line ∷ parts) old all first before p),
    subst (λ (w : Option (List ℕ)). AppendsFront first w p.text) (sym same) (front_all first before p.text p.written),
  )

  step_stops : (outside : OutsideFault) (step : Result (Option Accepted) LineFault) → step_of nodes shapes p.before line ≡ step → TakesStep (Err outside) nodes new p.before p.given step before now → PlaysAs (Err outside) nodes all first now
  step_stops outside (Ok None) is h =
      let are = one_shown nodes p.given h.0 p.done p.before p.text h.1 p.shown h.2 [] [] refl in
      let some = p.done ++ p.before ∷ [] in (
        p.text ++ h.1,
        first_shown nodes some (rest p.before).asks all.asks (p.text ++ h.1) (asks_left (Ok None) is ∙ sym (append_assoc p.done (p.before ∷ []) (rest p.before).asks))
            (subst (λ (asks : List Accepted). AreShown nodes [] asks (p.text ++ h.1)) (append-nil some) (subst (AreShown nodes [] (some ++ [])) (append-nil (p.text ++ h.1)) are)),
        front_along first before now p.text h.1 p.written h.3,
      )
  step_stops outside (Ok (Some lines)) is h = stopped_so outside h
  step_stops outside (Err fault) is h = stopped_so outside h

  -- memory ran out at it, or a write was refused
  pub played_so_far : (outside : OutsideFault) → TakesStep (Err outside) nodes new p.before p.given (step_of nodes shapes p.before line) before now → PlaysAs (Err outside) nodes all first now
  played_so_far outside h = step_stops outside (step_of nodes shapes p.before line) refl h

-- the line that isn't finished at the limit
pub played_unfinished : (nodes : List PlanNode) (shapes : List Shape) (count : ℕ) (line : List ℕ) (player : Player) (all : Played) (old new : Option (List ℕ)) → IsPlayedTo true nodes shapes count (line ∷ []) player all old new
    → PlaysAs (Ok (Some (record { line = count + 1; fault = limit_fault line }))) nodes all old new
played_unfinished nodes shapes count line player all old new p = (
  p.text,
  subst (λ (asks : List Accepted). AreShown nodes [] asks p.text) (sym (p.asks ∙ append-nil p.done)) (all_shown true nodes shapes count (line ∷ []) player all old new p),
  sym (p.fault ∙ ap {B = Option Refusal} (λ n. Some (record { line = n; fault = limit_fault line })) (omega arith)),
  p.written,
)

-- all lines were played
pub played_all : (over : Bool) (nodes : List PlanNode) (shapes : List Shape) (count : ℕ) (player : Player) (all : Played) (old new : Option (List ℕ)) → (over ≡ true → ◌≡◌ {A = List (List ℕ)} [] [] → ⊥) → IsPlayedTo over nodes shapes count [] player all old new → PlaysAs (Ok None) nodes all old new
played_all false nodes shapes count player all old new more p = (
  p.text,
  subst (λ (asks : List Accepted). AreShown nodes [] asks p.text) (sym (p.asks ∙ append-nil p.done)) (all_shown false nodes shapes count [] player all old new p),
  sym p.fault,
  p.written,
)
played_all true nodes shapes count player all old new more p = absurd (more refl refl)

-- nothing was written before all lines
pub played_none : (nodes : List PlanNode) (all : Played) (old : Option (List ℕ)) (outside : OutsideFault) → PlaysAs (Err outside) nodes all old old
played_none nodes all old outside = ([], record { count = 0; shown = refl }, front_none old [])

-- ---- the whole script

-- playing a script comes to what playing its lines came to
pub plays_as : (result : Result (Option Refusal) OutsideFault) (nodes : List PlanNode) (shapes : List Shape) (before : Accepted) (bytes : List ℕ) (all : Played) (old new : Option (List ℕ)) → ShapesHaveTypes nodes shapes → all ≡ played_after nodes shapes before bytes → PlaysAs result nodes all old new
    → PlaysAfter result nodes before bytes old new
plays_as (Ok fault) nodes shapes before bytes all old new types is h = (
  h.0,
  record {
    shapes = shapes;
    types = types;
    shown = subst (λ (some : Played). AreShown nodes [] some.asks h.0) is h.1;
    fault_is = h.2 ∙ ap (λ (some : Played). some.fault) is;
  },
  h.3,
)
plays_as (Err outside) nodes shapes before bytes all old new types is h = (
  h.0,
  record { shapes = shapes; types = types; shown = subst (λ (some : Played). AreShownFirst nodes some.asks h.0) is h.1 },
  h.2,
)

-- nothing was written of it
pub plays_none : (nodes : List PlanNode) (before : Accepted) (bytes : List ℕ) (old : Option (List ℕ)) (outside : OutsideFault) → PlaysAfter (Err outside) nodes before bytes old old
plays_none nodes before bytes old outside =
    plays_as (Err outside) nodes (own_shapes nodes) before bytes (played_after nodes (own_shapes nodes) before bytes) old old (own_types nodes) refl (played_none nodes (played_after nodes (own_shapes nodes) before bytes) old outside)
