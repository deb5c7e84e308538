-- A script goes on from lines of the same states as from the others.
use Rattle.std.proofs.Common.{◌≡◌, ℕ, zero, suc, ◌+◌, ◌<◌, List, [], ◌∷◌, ◌++◌, Bool, true, false, cond, length, set, get_or, take, Option, None, Some, refl, ap, sym, ◌∙◌, subst, arith}
use Rattle.std.specs.Prelude.{map, nat_lt, Result, Ok, Err, All}
use Rattle.cedr_base.specs.Bytes.{line_feed}
use Rattle.cedr_guard.specs.History.{history_of}
use Rattle.cedr_guard.specs.Judging.{guarantee_of, fault_behind, AreAccepted}
use Rattle.cedr_guard.specs.declared.refusal.Refusal.{Refusal}
use Rattle.cedr_guard.specs.declared.refusal.TheConstants.{FILE_LIMIT}
use Rattle.cedr_guard.specs.Sources.{with_event, with_reading, whole_lines, unfinished_line, first_refusal, limit_fault}
use Rattle.cedr_guard.specs.Spelt.{State, state_in, lines_of, state_of, IsFit}
use Rattle.cedr_guard.specs.declared.state.SourceState.{SourceState}
use Rattle.cedr_guard.specs.States.{SameState}
use Rattle.cedr_guard.proofs.SourceLemmas.{Law}
use Rattle.cedr_guard.proofs.SpeltLemmas.{accepted-append, spelt_same}
use Rattle.cedr_guard.proofs.StateHistories.{fit_accepted, spelt_history, same_history}
use Rattle.cedr_guard.proofs.StateLemmas.{same_fault, same_goes_on}
use Rattle.cedr_net.specs.Flows.{IsSourceAt}
use Rattle.cedr_plan.specs.declared.plan.PlanNode.{PlanNode}
use Rattle.cedr_plan.specs.Places.{is_source}
use Rattle.cedr_table.specs.Operators.{Tables}
use Rattle.cedr_text.specs.declared.event_line.EventLine.{EventLine}
use Rattle.cedr_text.specs.declared.event_line.Shape.{Shape}
use Rattle.cedr_text.specs.declared.event_line.Shape.TheVariants.{AnyText}
use Rattle.cedr_text.specs.declared.fault.LineFault.{LineFault}
use Rattle.cedr_text.specs.declared.fault.LineFault.TheVariants.{LineTooLong}
use Rattle.cedr_text.specs.declared.lines.TheConstants.{LINE_LIMIT}
use Rattle.cedr_text.specs.Lines.{raw_lines, without_return}
use Rattle.cedr_text.specs.Parts.{parts_of}
use Rattle.cedr_text.specs.Reading.{reading, IsEvent, SaysEvent}
use Rattle.plan_runs.specs.Now.{Standing, now}
use Rattle.plan_live.specs.Scripts.{Accepted, cut_at_comma, named_from, lines_at, with_lines, with_event_line, with_named, with_cut, with_line, Played, asked, stopped, play_on, is_question, played_behind, front_after, played_after}
use Rattle.plan_live.specs.SoFar.{AreLines, source_lines, now_so_far, text_so_far, text_now, texts_now}
use Rattle.plan_live.specs.Resumed.{states_so_far, lines_from, states_in, AreStates}
use Rattle.plan_live.proofs.LineLemmas.{named_source}

-- ---- lines of the same state

-- accepted lines of the same state and the same history
record AreSame (xs ys : List EventLine) : Type 0 where
  mine : AreAccepted xs
  theirs : AreAccepted ys
  state : SameState xs ys
  history : history_of xs ≡ history_of ys

-- so are the lines of each source
abbrev AllSame : List PlanNode → Accepted → Accepted → Type 0
AllSame [] [] [] = Unit {0}
AllSame (n ∷ nodes) (x ∷ xs) (y ∷ ys) = (is_source n.kind ≡ true → AreSame x y) × AllSame nodes xs ys
AllSame nodes xs ys = ⊥

source_later : (n : PlanNode) (nodes : List PlanNode) (k : ℕ) → IsSourceAt (n ∷ nodes) (suc k) → IsSourceAt nodes k
source_later n nodes k source before after m whole len = source (n ∷ before) after m (ap (λ (ns : List PlanNode). n ∷ ns) whole) (ap (λ (j : ℕ). suc j) len)

same_at : (nodes : List PlanNode) (bs os : Accepted) → AllSame nodes bs os → (k : ℕ) → k < length nodes → IsSourceAt nodes k → AreSame (lines_at bs k) (lines_at os k)
same_at [] bs os same k within source = absurd (omega arith)
same_at (n ∷ nodes) [] [] same k within source = absurd same
same_at (n ∷ nodes) [] (o ∷ os) same k within source = absurd same
same_at (n ∷ nodes) (b ∷ bs) [] same k within source = absurd same
same_at (n ∷ nodes) (b ∷ bs) (o ∷ os) same zero within source = same.0 (source [] nodes n refl refl)
same_at (n ∷ nodes) (b ∷ bs) (o ∷ os) same (suc k) within source = same_at nodes bs os same.1 k (omega arith) (source_later n nodes k source)

set_same : (nodes : List PlanNode) (bs os : Accepted) (k : ℕ) (x y : List EventLine) → AllSame nodes bs os → AreSame x y → AllSame nodes (set bs k x) (set os k y)
set_same [] [] [] k x y same one = tt
set_same [] [] (o ∷ os) k x y same one = absurd same
set_same [] (b ∷ bs) [] k x y same one = absurd same
set_same [] (b ∷ bs) (o ∷ os) k x y same one = absurd same
set_same (n ∷ nodes) [] [] k x y same one = absurd same
set_same (n ∷ nodes) [] (o ∷ os) k x y same one = absurd same
set_same (n ∷ nodes) (b ∷ bs) [] k x y same one = absurd same
set_same (n ∷ nodes) (b ∷ bs) (o ∷ os) zero x y same one = (λ is. one, same.1)
set_same (n ∷ nodes) (b ∷ bs) (o ∷ os) (suc k) x y same one = (same.0, set_same nodes bs os k x y same.1 one)

-- ---- one line more

abbrev SameOne : Result (List EventLine) LineFault → Result (List EventLine) LineFault → Type 0
SameOne (Ok xs) (Ok ys) = AreSame xs ys
SameOne (Ok xs) (Err f) = ⊥
SameOne (Err f) (Ok ys) = ⊥
SameOne (Err f) (Err g) = f ≡ g

abbrev SameNow : List PlanNode → Result Accepted LineFault → Result Accepted LineFault → Type 0
SameNow nodes (Ok bs) (Ok os) = AllSame nodes bs os
SameNow nodes (Ok bs) (Err f) = ⊥
SameNow nodes (Err f) (Ok os) = ⊥
SameNow nodes (Err f) (Err g) = f ≡ g

event_same : (xs ys : List EventLine) (line : EventLine) (f g : Option LineFault) → AreSame xs ys → IsEvent line → fault_behind xs line ≡ f → f ≡ g → SameOne (with_event xs line f) (with_event ys line g)
event_same xs ys line None None s event none same =
    let g = same_goes_on xs ys s.state (line ∷ []) (record { event = event; faultless = none }, tt) in
    record {
      mine = accepted-append [] xs (line ∷ []) s.mine (record { event = event; faultless = none }, tt);
      theirs = accepted-append [] ys (line ∷ []) s.theirs g.0;
      state = g.2;
      history = same_history xs ys s.mine s.theirs s.state s.history (line ∷ []) (record { event = event; faultless = none }, tt);
    }
event_same xs ys line None (Some g) s event none same = absurd (let e = same in cc)
event_same xs ys line (Some f) None s event none same = absurd (let e = same in cc)
event_same xs ys line (Some f) (Some g) s event none same = cc

reading_same : (xs ys : List EventLine) (read : Result (Option EventLine) LineFault) → AreSame xs ys → SaysEvent read → SameOne (with_reading xs read) (with_reading ys read)
reading_same xs ys (Err f) s event = refl
reading_same xs ys (Ok None) s event = s
reading_same xs ys (Ok (Some line)) s event = event_same xs ys line (fault_behind xs line) (fault_behind ys line) s event refl (same_fault xs ys s.state line)

lines_same : (nodes : List PlanNode) (bs os : Accepted) (k : ℕ) (a b : Result (List EventLine) LineFault) → AllSame nodes bs os → SameOne a b → SameNow nodes (with_lines bs k a) (with_lines os k b)
lines_same nodes bs os k (Ok x) (Ok y) same one = set_same nodes bs os k x y same one
lines_same nodes bs os k (Ok x) (Err g) same one = absurd one
lines_same nodes bs os k (Err f) (Ok y) same one = absurd one
lines_same nodes bs os k (Err f) (Err g) same one = one

-- ---- a script

abbrev AsksSame : List PlanNode → List Accepted → List Accepted → Type 0
AsksSame nodes [] [] = Unit {0}
AsksSame nodes [] (o ∷ os) = ⊥
AsksSame nodes (b ∷ bs) [] = ⊥
AsksSame nodes (b ∷ bs) (o ∷ os) = AllSame nodes b o × AsksSame nodes bs os

record PlaysSame (nodes : List PlanNode) (p q : Played) : Type 0 where
  asks : AsksSame nodes p.asks q.asks
  fault : p.fault ≡ q.fault

module _ (law : Law) (nodes : List PlanNode) (shapes : List Shape) where
  event_line_same : (bs os : Accepted) (k : ℕ) (bytes : List ℕ) → AllSame nodes bs os → k < length nodes → IsSourceAt nodes k → SameNow nodes (with_event_line shapes bs k bytes) (with_event_line shapes os k bytes)
  event_line_same bs os k [] same within source = refl
  event_line_same bs os k (b ∷ bytes) same within source =
      lines_same nodes bs os k (with_reading (lines_at bs k) (reading (get_or shapes k AnyText) (b ∷ bytes))) (with_reading (lines_at os k) (reading (get_or shapes k AnyText) (b ∷ bytes))) same
      (reading_same (lines_at bs k) (lines_at os k) (reading (get_or shapes k AnyText) (b ∷ bytes)) (same_at nodes bs os same k within source) (law (get_or shapes k AnyText) (b ∷ bytes)))

  named_same : (bs os : Accepted) (name : List ℕ) (k : Option ℕ) (bytes : List ℕ) → AllSame nodes bs os → named_from 0 nodes name ≡ k → SameNow nodes (with_named shapes bs k bytes) (with_named shapes os k bytes)
  named_same bs os name None bytes same named = refl
  named_same bs os name (Some k) bytes same named = let at = named_source nodes name k named in event_line_same bs os k bytes same at.0 at.1

  cut_same : (bs os : Accepted) (cut : Option (List ℕ × List ℕ)) → AllSame nodes bs os → SameNow nodes (with_cut nodes shapes bs cut) (with_cut nodes shapes os cut)
  cut_same bs os None same = refl
  cut_same bs os (Some cut) same = named_same bs os cut.0 (named_from 0 nodes cut.0) cut.1 same refl

  line_same : (bs os : Accepted) (line : List ℕ) → AllSame nodes bs os → SameNow nodes (with_line nodes shapes bs line) (with_line nodes shapes os line)
  line_same bs os [] same = same
  line_same bs os (b ∷ bytes) same = cut_same bs os (cut_at_comma (b ∷ bytes)) same

  step_same : (long question : Bool) (number : ℕ) (bs os : Accepted) (a b : Result Accepted LineFault) (rest : Accepted → Played) → AllSame nodes bs os → SameNow nodes a b → ((xs ys : Accepted) → AllSame nodes xs ys → PlaysSame nodes (rest xs) (rest ys))
      → PlaysSame nodes (cond long (stopped number bs LineTooLong) (cond question (asked bs (rest bs)) (play_on number bs a rest))) (cond long (stopped number os LineTooLong) (cond question (asked os (rest os)) (play_on number os b rest)))
  step_same true question number bs os a b rest same next behind = record { asks = tt; fault = refl }
  step_same false true number bs os a b rest same next behind = let r = behind bs os same in record { asks = (same, r.asks); fault = r.fault }
  step_same false false number bs os (Ok x) (Ok y) rest same next behind = behind x y next
  step_same false false number bs os (Ok x) (Err g) rest same next behind = absurd next
  step_same false false number bs os (Err f) (Ok y) rest same next behind = absurd next
  step_same false false number bs os (Err f) (Err g) rest same next behind = record { asks = tt; fault = ap (λ (x : LineFault). (stopped number bs x).fault) next }

  behind_same : (count : ℕ) (bs os : Accepted) (lines : List (List ℕ)) → AllSame nodes bs os → PlaysSame nodes (played_behind nodes shapes count bs lines) (played_behind nodes shapes count os lines)
  behind_same count bs os [] same = record { asks = tt; fault = refl }
  behind_same count bs os (line ∷ lines) same =
      step_same (nat_lt LINE_LIMIT (length line)) (is_question (without_return line)) (count + 1) bs os (with_line nodes shapes bs (without_return line)) (with_line nodes shapes os (without_return line)) (λ now. played_behind nodes shapes (count + 1) now lines) same
      (line_same bs os (without_return line) same) (λ xs ys next. behind_same (count + 1) xs ys lines next)

  either_same : (b : Bool) (p q r s : Played) → PlaysSame nodes p q → PlaysSame nodes r s → PlaysSame nodes (cond b p r) (cond b q s)
  either_same true p q r s one other = one
  either_same false p q r s one other = other

  after_same : (bs os : Accepted) (bytes : List ℕ) → AllSame nodes bs os → PlaysSame nodes (played_after nodes shapes bs bytes) (played_after nodes shapes os bytes)
  after_same bs os bytes same =
      let parts = parts_of line_feed (take FILE_LIMIT bytes) in
      let whole = behind_same 0 bs os (whole_lines parts) same in
      either_same (nat_lt FILE_LIMIT (length bytes)) (front_after nodes shapes bs parts) (front_after nodes shapes os parts) (played_behind nodes shapes 0 bs (raw_lines bytes)) (played_behind nodes shapes 0 os (raw_lines bytes))
      (record { asks = whole.asks; fault = ap {B = Option Refusal} (λ (f : Option Refusal). Some (first_refusal f (record { line = length (whole_lines parts) + 1; fault = limit_fault (unfinished_line parts) }))) whole.fault }) (behind_same 0 bs os (raw_lines bytes) same)

-- ---- what is shown

chosen : {X : Type 0} (f : List EventLine → X) (b : Bool) (x y : List EventLine) (xs ys : Accepted) → (b ≡ true → f x ≡ f y) → map f xs ≡ map f ys → map f (cond b (x ∷ xs) xs) ≡ map f (cond b (y ∷ ys) ys)
chosen f true x y xs ys e h = let one = e refl in cc
chosen f false x y xs ys e h = h

source_same : {X : Type 0} (f : List EventLine → X) → ((x y : List EventLine) → AreSame x y → f x ≡ f y) → (nodes : List PlanNode) (bs os : Accepted) → AllSame nodes bs os → map f (source_lines nodes bs) ≡ map f (source_lines nodes os)
source_same f one [] bs os same = refl
source_same f one (n ∷ nodes) [] [] same = absurd same
source_same f one (n ∷ nodes) [] (o ∷ os) same = absurd same
source_same f one (n ∷ nodes) (b ∷ bs) [] same = absurd same
source_same f one (n ∷ nodes) (b ∷ bs) (o ∷ os) same = chosen f (is_source n.kind) b o (source_lines nodes bs) (source_lines nodes os) (λ is. one b o (same.0 is)) (source_same f one nodes bs os same.1)

now_same : (nodes : List PlanNode) (bs os : Accepted) → AllSame nodes bs os → now_so_far nodes bs ≡ now_so_far nodes os
now_same nodes bs os same =
    ap (λ (ts : Tables). now ts (map guarantee_of (source_lines nodes bs)) nodes) (source_same history_of (λ x y s. s.history) nodes bs os same)
    ∙ ap (λ (ms : List ℕ). now (map history_of (source_lines nodes os)) ms nodes) (source_same guarantee_of (λ x y s. s.state.mark) nodes bs os same)

abbrev text_of : Standing → List ℕ
text_of s = text_so_far s.table s.mark

texts_same : (nodes : List PlanNode) (asks others : List Accepted) → AsksSame nodes asks others → texts_now nodes asks ≡ texts_now nodes others
texts_same nodes [] [] same = refl
texts_same nodes [] (o ∷ os) same = absurd same
texts_same nodes (b ∷ bs) [] same = absurd same
texts_same nodes (b ∷ bs) (o ∷ os) same =
    ap (λ (s : Standing). text_of s ++ texts_now nodes bs) (now_same nodes b o same.0) ∙ ap (λ (text : List ℕ). text_now nodes o ++ text) (texts_same nodes bs os same.1)

-- ---- from the states of accepted lines

one_spelt : (l : List EventLine) → AreAccepted l → AreSame (lines_of (state_of l)) l
one_spelt l accepted =
    let s = spelt_same l accepted in
    record {
      mine = s.0;
      theirs = accepted;
      state = record { mark = sym s.1.mark; events = λ id. sym (s.1.events id) };
      history = spelt_history l accepted;
    }

spelt_where : (b : Bool) (n : PlanNode) (nodes : List PlanNode) (l : List EventLine) (lines : Accepted) → is_source n.kind ≡ b → AreAccepted l → AllSame nodes (lines_from nodes (states_so_far nodes lines)) lines
    → AllSame (n ∷ nodes) (lines_from (n ∷ nodes) (map state_of (cond b (l ∷ source_lines nodes lines) (source_lines nodes lines)))) (l ∷ lines)
spelt_where true n nodes l lines is accepted rest =
    subst (λ (bs : Accepted). AllSame (n ∷ nodes) bs (l ∷ lines)) (sym (ap (λ (c : Bool). cond c (lines_of (state_of l) ∷ lines_from nodes (states_so_far nodes lines)) ([] ∷ lines_from nodes (state_of l ∷ states_so_far nodes lines))) is))
    ((λ here. one_spelt l accepted), rest)
spelt_where false n nodes l lines isnt accepted rest = spelt_other (states_so_far nodes lines) rest where
  spelt_other : (states : List State) → AllSame nodes (lines_from nodes states) lines → AllSame (n ∷ nodes) (lines_from (n ∷ nodes) states) (l ∷ lines)
  spelt_other [] rest = ((λ here. absurd (let e = here in let f = isnt in cc)), rest)
  spelt_other (s ∷ states) rest =
      subst (λ (bs : Accepted). AllSame (n ∷ nodes) bs (l ∷ lines)) (sym (ap (λ (c : Bool). cond c (lines_of s ∷ lines_from nodes states) ([] ∷ lines_from nodes (s ∷ states))) isnt))
      ((λ here. absurd (let e = here in let f = isnt in cc)), rest)

spelt_all : (nodes : List PlanNode) (lines : Accepted) → length lines ≡ length nodes → AreLines lines → AllSame nodes (lines_from nodes (states_so_far nodes lines)) lines
spelt_all [] [] long are = tt
spelt_all [] (l ∷ lines) long are = absurd (omega arith)
spelt_all (n ∷ nodes) [] long are = absurd (omega arith)
spelt_all (n ∷ nodes) (l ∷ lines) long are = spelt_where (is_source n.kind) n nodes l lines refl (are 0) (spelt_all nodes lines (omega arith) (λ k. are (suc k)))

-- a script shows the same, and has the same fault, from the states of accepted lines
pub resumes : Law → (nodes : List PlanNode) (shapes : List Shape) (before : Accepted) (script : List ℕ) → length before ≡ length nodes → AreLines before
    → (texts_now nodes (played_after nodes shapes (lines_from nodes (states_so_far nodes before)) script).asks ≡ texts_now nodes (played_after nodes shapes before script).asks)
    × ((played_after nodes shapes (lines_from nodes (states_so_far nodes before)) script).fault ≡ (played_after nodes shapes before script).fault)
resumes law nodes shapes before script long are =
    let p = after_same law nodes shapes (lines_from nodes (states_so_far nodes before)) before script (spelt_all nodes before long are) in
    (texts_same nodes _ _ p.asks, p.fault)

fit_where : (b : Bool) (nodes : List PlanNode) (s : State) (states : List State) → IsFit s → AreLines (lines_from nodes states) → AreLines (lines_from nodes (s ∷ states)) → AreLines (cond b (lines_of s ∷ lines_from nodes states) ([] ∷ lines_from nodes (s ∷ states)))
fit_where true nodes s states fit taken left zero = fit_accepted s fit
fit_where true nodes s states fit taken left (suc k) = taken k
fit_where false nodes s states fit taken left zero = tt
fit_where false nodes s states fit taken left (suc k) = left k

-- the lines of fit states are accepted
fit_lines : (nodes : List PlanNode) (states : List State) → All IsFit states → AreLines (lines_from nodes states)
fit_lines [] states fit k = tt
fit_lines (n ∷ nodes) [] fit zero = tt
fit_lines (n ∷ nodes) [] fit (suc k) = fit_lines nodes [] fit k
fit_lines (n ∷ nodes) (s ∷ states) fit k = fit_where (is_source n.kind) nodes s states (fit 0 s (omega arith)) (fit_lines nodes states (λ j d within. fit (suc j) d (omega arith))) (fit_lines nodes (s ∷ states) fit) k

mapped_fit : (states : List SourceState) → All (λ (s : SourceState). IsFit (state_in s)) states → All IsFit (states_in states)
mapped_fit [] fit k d within = absurd (omega arith)
mapped_fit (s ∷ states) fit zero d within = fit 0 s (omega arith)
mapped_fit (s ∷ states) fit (suc k) d within = mapped_fit states (λ j e inside. fit (suc j) e (omega arith)) k d (omega arith)

-- so are those of values of the program that stand for fit states
pub states_lines : (nodes : List PlanNode) (states : List SourceState) → AreStates nodes states → AreLines (lines_from nodes (states_in states))
states_lines nodes states are = fit_lines nodes (states_in states) (mapped_fit states are.fit)
