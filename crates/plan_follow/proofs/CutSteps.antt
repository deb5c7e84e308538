-- Two followers that take the same lines: one of a whole script, one behind states of its first part.
use Rattle.std.proofs.Common.{◌≡◌, inl, inr, ℕ, zero, suc, ◌+◌, ◌<◌, List, [], ◌∷◌, ◌++◌, Bool, true, false, cond, length, set, get_or, Option, None, Some, Result, Ok, Err, refl, ap, sym, ◌∙◌, subst, arith, get_or-set_same, get_or-set_other}
use Rattle.std.specs.Prelude.{map, nat_lt, option_and_then}
use Rattle.std.proofs.lemmas.List.{length-set}
use Rattle.cedr_base.specs.declared.change.Message.{Message}
use Rattle.cedr_guard.proofs.MessageLemmas.{messages-more}
use Rattle.cedr_guard.proofs.SourceLemmas.{Law}
use Rattle.cedr_guard.proofs.StateHistories.{same_history}
use Rattle.cedr_guard.proofs.StateLemmas.{same_fault, same_goes_on}
use Rattle.cedr_guard.specs.History.{history_of}
use Rattle.cedr_guard.specs.Judging.{fault_behind, IsAccepted}
use Rattle.cedr_guard.specs.Messages.{line_messages, messages_behind}
use Rattle.cedr_guard.specs.Sources.{with_event, with_reading}
use Rattle.cedr_guard.specs.States.{SameState}
use Rattle.cedr_guard.specs.declared.refusal.Refusal.{Refusal}
use Rattle.cedr_net.proofs.FlowLemmas.{same_or_not}
use Rattle.cedr_net.specs.Flows.{IsSourceAt}
use Rattle.cedr_plan.specs.declared.plan.PlanNode.{PlanNode}
use Rattle.cedr_script.specs.Cutting.{line_answer}
use Rattle.cedr_text.specs.Lines.{without_return}
use Rattle.cedr_text.specs.Reading.{reading, IsEvent, SaysEvent}
use Rattle.cedr_text.specs.declared.event_line.EventLine.{EventLine}
use Rattle.cedr_text.specs.declared.event_line.Shape.{Shape}
use Rattle.cedr_text.specs.declared.event_line.Shape.TheVariants.{AnyText}
use Rattle.cedr_text.specs.declared.fault.LineFault.{LineFault}
use Rattle.cedr_text.specs.declared.fault.LineFault.TheVariants.{LineTooLong}
use Rattle.cedr_text.specs.declared.lines.TheConstants.{LINE_LIMIT}
use Rattle.node_laws.proofs.ListLemmas.{at_more, at_more_other}
use Rattle.node_laws.specs.Lists.{Lists, list_at, with_more}
use Rattle.plan_follow.proofs.AlikeLemmas.{KnowsOpen, takes_alike, know_same}
use Rattle.plan_follow.specs.Sifted.{Sifted, passed_over, line_taken, with_judged, with_read, with_source, with_said, with_answer, sifted}
use Rattle.plan_live.proofs.LineLemmas.{named_source}
use Rattle.plan_live.specs.Scripts.{Accepted, lines_at, cut_at_comma, event_at, named_from, source_event, with_lines, with_named, with_cut, with_line, Played, asked, stopped, play_on, is_question, played_behind}
use Rattle.source_memory.specs.Remembered.{kept_with}

-- ---- one source

-- What is remembered and was sent of the lines of a source, and of others of the same state and the same history.
pub record BothStand (kept : List EventLine) (sent : List Message) (lines : List EventLine) (kept' : List EventLine) (sent' : List Message) (lines' : List EventLine) : Type 0 where
  pub mine : KnowsOpen kept lines
  pub sent_mine : sent ≡ messages_behind [] lines
  pub theirs : KnowsOpen kept' lines'
  pub sent_theirs : sent' ≡ messages_behind [] lines'
  pub state : SameState lines lines'
  pub history : history_of lines ≡ history_of lines'

sent_more : (kept lines : List EventLine) (sent : List Message) (line : EventLine) → sent ≡ messages_behind [] lines → line_messages kept line ≡ line_messages lines line → sent ++ line_messages kept line ≡ messages_behind [] (lines ++ line ∷ [])
sent_more kept lines sent line is same = ap (λ (ms : List Message). ms ++ line_messages kept line) is ∙ (ap (λ (ms : List Message). messages_behind [] lines ++ ms) same ∙ sym (messages-more lines line))

-- so it is with a line more that the first ones accept
one_more : (kept : List EventLine) (sent : List Message) (lines kept' : List EventLine) (sent' : List Message) (lines' : List EventLine) (line : EventLine) → BothStand kept sent lines kept' sent' lines' → IsAccepted kept line → IsAccepted lines line
    → BothStand (kept_with kept line) (sent ++ line_messages kept line) (lines ++ line ∷ []) (kept_with kept' line) (sent' ++ line_messages kept' line) (lines' ++ line ∷ [])
one_more kept sent lines kept' sent' lines' line b mine whole =
    let same = know_same kept kept' lines lines' b.mine b.theirs b.state in
    let theirs : IsAccepted kept' line = record { event = mine.event; faultless = sym (same_fault kept kept' same line) ∙ mine.faultless } in
    let others : IsAccepted lines' line = record { event = mine.event; faultless = sym (same_fault lines lines' b.state line) ∙ whole.faultless } in
    let here = takes_alike kept lines line b.mine mine whole in
    let there = takes_alike kept' lines' line b.theirs theirs others in
    record {
      mine = here.knows;
      sent_mine = sent_more kept lines sent line b.sent_mine here.messages;
      theirs = there.knows;
      sent_theirs = sent_more kept' lines' sent' line b.sent_theirs there.messages;
      state = (same_goes_on lines lines' b.state (line ∷ []) (whole, tt)).2;
      history = same_history lines lines' b.mine.theirs b.theirs.theirs b.state b.history (line ∷ []) (whole, tt);
    }

-- ---- all of them

-- so it is at each source, and none of the other lines was refused
pub record StandTogether (nodes : List PlanNode) (s t : Sifted) (lines others : Accepted) : Type 0 where
  pub each : (k : ℕ) → k < length nodes → IsSourceAt nodes k → BothStand (lines_at s.kept k) (list_at s.sent k) (lines_at lines k) (lines_at t.kept k) (list_at t.sent k) (lines_at others k)
  pub kept_count : length s.kept ≡ length nodes
  pub sent_count : length s.sent ≡ length nodes
  pub lines_count : length lines ≡ length nodes
  pub their_kept_count : length t.kept ≡ length nodes
  pub their_sent_count : length t.sent ≡ length nodes
  pub their_lines_count : length others ≡ length nodes
  pub quiet : t.refusals ≡ []

-- a line that says nothing
passed_both : (nodes : List PlanNode) (s t : Sifted) (lines others : Accepted) → StandTogether nodes s t lines others → StandTogether nodes (passed_over s) (passed_over t) lines others
passed_both nodes s t lines others at = record {
  each = at.each;
  kept_count = at.kept_count;
  sent_count = at.sent_count;
  lines_count = at.lines_count;
  their_kept_count = at.their_kept_count;
  their_sent_count = at.their_sent_count;
  their_lines_count = at.their_lines_count;
  quiet = at.quiet;
}

both_moved : (a a' : List EventLine) (b b' : List Message) (c c' d d' : List EventLine) (e e' : List Message) (f f' : List EventLine) → a' ≡ a → b' ≡ b → c' ≡ c → d' ≡ d → e' ≡ e → f' ≡ f → BothStand a b c d e f → BothStand a' b' c' d' e' f'
both_moved a a' b b' c c' d d' e e' f f' p q r u v w both =
    subst (λ (x : List EventLine). BothStand x b' c' d' e' f') (sym p)
    (subst (λ (x : List Message). BothStand a x c' d' e' f') (sym q)
    (subst (λ (x : List EventLine). BothStand a b x d' e' f') (sym r)
    (subst (λ (x : List EventLine). BothStand a b c x e' f') (sym u) (subst (λ (x : List Message). BothStand a b c d x f') (sym v) (subst (λ (x : List EventLine). BothStand a b c d e x) (sym w) both)))))

lines_here : (lines : Accepted) (place k : ℕ) (now : List EventLine) → k ≡ place → place < length lines → lines_at (set lines place now) k ≡ now
lines_here lines place k now e within = ap (lines_at (set lines place now)) e ∙ get_or-set_same lines place now [] within

sent_here : (sent : Lists) (place k : ℕ) (ms : List Message) → k ≡ place → place < length sent → list_at (with_more sent place ms) k ≡ list_at sent place ++ ms
sent_here sent place k ms e within = ap (list_at (with_more sent place ms)) e ∙ at_more sent place ms within

-- an event line of the source at a place
taken_both : (nodes : List PlanNode) (s t : Sifted) (lines others : Accepted) (place : ℕ) (line : EventLine) → StandTogether nodes s t lines others → place < length nodes → IsSourceAt nodes place → IsAccepted (lines_at s.kept place) line → IsAccepted (lines_at lines place) line
    → StandTogether nodes (line_taken s place line) (line_taken t place line) (set lines place (lines_at lines place ++ line ∷ [])) (set others place (lines_at others place ++ line ∷ []))
taken_both nodes s t lines others place line at within source mine whole =
    let kept = lines_at s.kept place in
    let kept' = lines_at t.kept place in
    let now = lines_at lines place ++ line ∷ [] in
    let now' = lines_at others place ++ line ∷ [] in
    let one = one_more kept (list_at s.sent place) (lines_at lines place) kept' (list_at t.sent place) (lines_at others place) line (at.each place within source) mine whole in
    let new = line_taken s place line in
    let new' = line_taken t place line in
    record {
      each = λ k inside is. elim (same_or_not k place) [
        | inl e ↦
            both_moved (kept_with kept line) (lines_at new.kept k) (list_at s.sent place ++ line_messages kept line) (list_at new.sent k) now (lines_at (set lines place now) k) (kept_with kept' line) (lines_at new'.kept k) (list_at t.sent place ++ line_messages kept' line) (list_at new'.sent k) now' (lines_at (set others place now') k)
            (lines_here s.kept place k (kept_with kept line) e (omega (arith, within, at.kept_count))) (sent_here s.sent place k (line_messages kept line) e (omega (arith, within, at.sent_count))) (lines_here lines place k now e (omega (arith, within, at.lines_count)))
            (lines_here t.kept place k (kept_with kept' line) e (omega (arith, within, at.their_kept_count))) (sent_here t.sent place k (line_messages kept' line) e (omega (arith, within, at.their_sent_count))) (lines_here others place k now' e (omega (arith, within, at.their_lines_count)))
            one
        | inr ne ↦
            both_moved (lines_at s.kept k) (lines_at new.kept k) (list_at s.sent k) (list_at new.sent k) (lines_at lines k) (lines_at (set lines place now) k) (lines_at t.kept k) (lines_at new'.kept k) (list_at t.sent k) (list_at new'.sent k) (lines_at others k) (lines_at (set others place now') k)
            (get_or-set_other s.kept place k (kept_with kept line) [] ne) (at_more_other s.sent place k (line_messages kept line) ne) (get_or-set_other lines place k now [] ne) (get_or-set_other t.kept place k (kept_with kept' line) [] ne) (at_more_other t.sent place k (line_messages kept' line) ne)
            (get_or-set_other others place k now' [] ne) (at.each k inside is)
      ];
      kept_count = length-set s.kept place (kept_with kept line) ∙ at.kept_count;
      sent_count = length-set s.sent place (list_at s.sent place ++ line_messages kept line) ∙ at.sent_count;
      lines_count = length-set lines place now ∙ at.lines_count;
      their_kept_count = length-set t.kept place (kept_with kept' line) ∙ at.their_kept_count;
      their_sent_count = length-set t.sent place (list_at t.sent place ++ line_messages kept' line) ∙ at.their_sent_count;
      their_lines_count = length-set others place now' ∙ at.their_lines_count;
      quiet = at.quiet;
    }

-- ---- a line

-- where the first lines are accepted, and none of what was followed was refused, both stand
abbrev GoBoth : List PlanNode → Sifted → Sifted → Result Accepted LineFault → Result Accepted LineFault → Type 0
GoBoth nodes s t (Ok lines) (Ok others) = s.refusals ≡ [] → StandTogether nodes s t lines others
GoBoth nodes s t (Ok lines) (Err g) = ⊥
GoBoth nodes s t (Err f) now = Unit {0}

pub none_but_one : (refusals : List Refusal) (r : Refusal) → refusals ++ r ∷ [] ≡ [] → ⊥
none_but_one [] r none = absurd (let e = none in cc)
none_but_one (x ∷ refusals) r none = absurd (let e = none in cc)

set_itself : (lines : Accepted) (place : ℕ) → set lines place (lines_at lines place) ≡ lines
set_itself [] place = refl
set_itself (l ∷ lines) zero = refl
set_itself (l ∷ lines) (suc place) = ap (λ (ls : Accepted). l ∷ ls) (set_itself lines place)

module _ (nodes : List PlanNode) (shapes : List Shape) where
  judged_both : (s t : Sifted) (lines others : Accepted) (place : ℕ) (line : EventLine) → StandTogether nodes s t lines others → place < length nodes → IsSourceAt nodes place → IsEvent line → (f g h i : Option LineFault)
      → fault_behind (lines_at lines place) line ≡ f → f ≡ g → fault_behind (lines_at s.kept place) line ≡ h → h ≡ i
      → GoBoth nodes (with_judged s place line h) (with_judged t place line i) (with_lines lines place (with_event (lines_at lines place) line f)) (with_lines others place (with_event (lines_at others place) line g))
  judged_both s t lines others place line at within source event (Some f) g h i whole same mine alike = tt
  judged_both s t lines others place line at within source event None (Some g) h i whole same mine alike = absurd (let e = same in cc)
  judged_both s t lines others place line at within source event None None (Some h) i whole same mine alike = λ none. absurd (none_but_one s.refusals (record { line = s.count + 1; fault = h }) none)
  judged_both s t lines others place line at within source event None None None (Some i) whole same mine alike = absurd (let e = alike in cc)
  judged_both s t lines others place line at within source event None None None None whole same mine alike =
      λ none. taken_both nodes s t lines others place line at within source (record { event = event; faultless = mine }) (record { event = event; faultless = whole })

  read_both : (s t : Sifted) (lines others : Accepted) (place : ℕ) (read : Result (Option EventLine) LineFault) → StandTogether nodes s t lines others → place < length nodes → IsSourceAt nodes place → SaysEvent read
      → GoBoth nodes (with_read s place read) (with_read t place read) (with_lines lines place (with_reading (lines_at lines place) read)) (with_lines others place (with_reading (lines_at others place) read))
  read_both s t lines others place (Err f) at within source event = tt
  read_both s t lines others place (Ok None) at within source event =
      λ none. subst (λ (ls : Accepted). StandTogether nodes (passed_over s) (passed_over t) ls (set others place (lines_at others place))) (sym (set_itself lines place))
      (subst (λ (os : Accepted). StandTogether nodes (passed_over s) (passed_over t) lines os) (sym (set_itself others place)) (passed_both nodes s t lines others at))
  read_both s t lines others place (Ok (Some line)) at within source event =
      let b = at.each place within source in
      judged_both s t lines others place line at within source event (fault_behind (lines_at lines place) line) (fault_behind (lines_at others place) line) (fault_behind (lines_at s.kept place) line) (fault_behind (lines_at t.kept place) line) refl
      (same_fault (lines_at lines place) (lines_at others place) b.state line) refl
      (same_fault (lines_at s.kept place) (lines_at t.kept place) (know_same (lines_at s.kept place) (lines_at t.kept place) (lines_at lines place) (lines_at others place) b.mine b.theirs b.state) line)

  module _ (law : Law) where
    named_both : (s t : Sifted) (lines others : Accepted) (name : List ℕ) (place : Option ℕ) (bytes : List ℕ) → StandTogether nodes s t lines others → named_from 0 nodes name ≡ place
        → GoBoth nodes (with_source shapes s (option_and_then (event_at bytes) place)) (with_source shapes t (option_and_then (event_at bytes) place)) (with_named shapes lines place bytes) (with_named shapes others place bytes)
    named_both s t lines others name None bytes at named = tt
    named_both s t lines others name (Some place) [] at named = tt
    named_both s t lines others name (Some place) (b ∷ bytes) at named =
        let there = named_source nodes name place named in
        read_both s t lines others place (reading (get_or shapes place AnyText) (b ∷ bytes)) at there.0 there.1 (law (get_or shapes place AnyText) (b ∷ bytes))

    cut_both : (s t : Sifted) (lines others : Accepted) (cut : Option (List ℕ × List ℕ)) → StandTogether nodes s t lines others
        → GoBoth nodes (with_source shapes s (option_and_then (λ (c : List ℕ × List ℕ). option_and_then (event_at c.1) (named_from 0 nodes c.0)) cut)) (with_source shapes t (option_and_then (λ (c : List ℕ × List ℕ). option_and_then (event_at c.1) (named_from 0 nodes c.0)) cut)) (with_cut nodes shapes lines cut)
        (with_cut nodes shapes others cut)
    cut_both s t lines others None at = tt
    cut_both s t lines others (Some cut) at = named_both s t lines others cut.0 (named_from 0 nodes cut.0) cut.1 at refl

    said_both : (s t : Sifted) (lines others : Accepted) (line : List ℕ) → StandTogether nodes s t lines others → GoBoth nodes (with_said nodes shapes s line) (with_said nodes shapes t line) (with_line nodes shapes lines line) (with_line nodes shapes others line)
    said_both s t lines others [] at = λ none. passed_both nodes s t lines others at
    said_both s t lines others (b ∷ line) at = cut_both s t lines others (cut_at_comma (b ∷ line)) at

  -- ---- a refusal stays

  judged_none : (s : Sifted) (place : ℕ) (line : EventLine) (f : Option LineFault) → (with_judged s place line f).refusals ≡ [] → s.refusals ≡ []
  judged_none s place line None none = none
  judged_none s place line (Some f) none = absurd (none_but_one s.refusals (record { line = s.count + 1; fault = f }) none)

  read_none : (s : Sifted) (place : ℕ) (read : Result (Option EventLine) LineFault) → (with_read s place read).refusals ≡ [] → s.refusals ≡ []
  read_none s place (Err f) none = absurd (none_but_one s.refusals (record { line = s.count + 1; fault = f }) none)
  read_none s place (Ok None) none = none
  read_none s place (Ok (Some line)) none = judged_none s place line (fault_behind (lines_at s.kept place) line) none

  source_none : (s : Sifted) (found : Option (ℕ × List ℕ)) → (with_source shapes s found).refusals ≡ [] → s.refusals ≡ []
  source_none s None none = absurd (none_but_one s.refusals _ none)
  source_none s (Some found) none = read_none s found.0 (reading (get_or shapes found.0 AnyText) found.1) none

  said_none : (s : Sifted) (line : List ℕ) → (with_said nodes shapes s line).refusals ≡ [] → s.refusals ≡ []
  said_none s [] none = none
  said_none s (b ∷ line) none = source_none s (source_event nodes (b ∷ line)) none

  question_none : (s : Sifted) (line : List ℕ) (b : Bool) → (cond b (passed_over s) (with_said nodes shapes s line)).refusals ≡ [] → s.refusals ≡ []
  question_none s line true none = none
  question_none s line false none = said_none s line none

  answer_none : (s : Sifted) (answer : Option (List ℕ)) → (with_answer nodes shapes s answer).refusals ≡ [] → s.refusals ≡ []
  answer_none s None none = absurd (none_but_one s.refusals _ none)
  answer_none s (Some line) none = question_none s line (is_question line) none

  -- where no line was refused, none of the first ones was
  pub none_before : (s : Sifted) (answers : List (Option (List ℕ))) → (sifted nodes shapes s answers).refusals ≡ [] → s.refusals ≡ []
  none_before s [] none = none
  none_before s (answer ∷ answers) none = answer_none s answer (none_before (with_answer nodes shapes s answer) answers none)

  -- ---- a script

  -- at the end of lines both stand, and the other ones are accepted too
  pub record EndTogether (s t : Sifted) (p q : Played) : Type 0 where
    pub at : StandTogether nodes s t p.lines q.lines
    pub accepted : q.fault ≡ None

  module _ (answers : List (Option (List ℕ))) (rest others : Accepted → Played)
      (on : (s t : Sifted) (lines lines' : Accepted) → StandTogether nodes s t lines lines' → (sifted nodes shapes s answers).refusals ≡ [] → (rest lines).fault ≡ None → EndTogether (sifted nodes shapes s answers) (sifted nodes shapes t answers) (rest lines) (others lines')) where
    said_on : (question : Bool) (line : List ℕ) (m n : ℕ) (s t : Sifted) (lines lines' : Accepted) (a b : Result Accepted LineFault) → StandTogether nodes s t lines lines' → GoBoth nodes (with_said nodes shapes s line) (with_said nodes shapes t line) a b
        → (sifted nodes shapes (cond question (passed_over s) (with_said nodes shapes s line)) answers).refusals ≡ [] → (cond question (asked lines (rest lines)) (play_on m lines a rest)).fault ≡ None
        → EndTogether (sifted nodes shapes (cond question (passed_over s) (with_said nodes shapes s line)) answers) (sifted nodes shapes (cond question (passed_over t) (with_said nodes shapes t line)) answers) (cond question (asked lines (rest lines)) (play_on m lines a rest))
        (cond question (asked lines' (others lines')) (play_on n lines' b others))
    said_on true line m n s t lines lines' a b at go none fine = let e = on (passed_over s) (passed_over t) lines lines' (passed_both nodes s t lines lines' at) none fine in record { at = e.at; accepted = e.accepted }
    said_on false line m n s t lines lines' (Ok x) (Ok y) at go none fine = on (with_said nodes shapes s line) (with_said nodes shapes t line) x y (go (none_before (with_said nodes shapes s line) answers none)) none fine
    said_on false line m n s t lines lines' (Ok x) (Err g) at go none fine = absurd go
    said_on false line m n s t lines lines' (Err f) b at go none fine = absurd (let e = fine in cc)

    line_on : (long : Bool) (line : List ℕ) (m n : ℕ) (s t : Sifted) (lines lines' : Accepted) (a b : Result Accepted LineFault) → StandTogether nodes s t lines lines' → GoBoth nodes (with_said nodes shapes s line) (with_said nodes shapes t line) a b
        → (sifted nodes shapes (with_answer nodes shapes s (cond long None (Some line))) answers).refusals ≡ [] → (cond long (stopped m lines LineTooLong) (cond (is_question line) (asked lines (rest lines)) (play_on m lines a rest))).fault ≡ None
        → EndTogether (sifted nodes shapes (with_answer nodes shapes s (cond long None (Some line))) answers) (sifted nodes shapes (with_answer nodes shapes t (cond long None (Some line))) answers) (cond long (stopped m lines LineTooLong) (cond (is_question line) (asked lines (rest lines)) (play_on m lines a rest)))
        (cond long (stopped n lines' LineTooLong) (cond (is_question line) (asked lines' (others lines')) (play_on n lines' b others)))
    line_on true line m n s t lines lines' a b at go none fine = absurd (let e = fine in cc)
    line_on false line m n s t lines lines' a b at go none fine = said_on (is_question line) line m n s t lines lines' a b at go none fine

  -- lines that are played and followed, and followed behind others
  pub lines_on : Law → (lines : List (List ℕ)) (m n : ℕ) (s t : Sifted) (before before' : Accepted) → StandTogether nodes s t before before' → (sifted nodes shapes s (map line_answer lines)).refusals ≡ [] → (played_behind nodes shapes m before lines).fault ≡ None
      → EndTogether (sifted nodes shapes s (map line_answer lines)) (sifted nodes shapes t (map line_answer lines)) (played_behind nodes shapes m before lines) (played_behind nodes shapes n before' lines)
  lines_on law [] m n s t before before' at none fine = record { at = at; accepted = refl }
  lines_on law (line ∷ lines) m n s t before before' at none fine =
      line_on (map line_answer lines) (λ now. played_behind nodes shapes (m + 1) now lines) (λ now. played_behind nodes shapes (n + 1) now lines) (λ s' t' now now' at' none' fine'. lines_on law lines (m + 1) (n + 1) s' t' now now' at' none' fine')
      (nat_lt LINE_LIMIT (length line)) (without_return line) (m + 1) (n + 1) s t before before' (with_line nodes shapes before (without_return line)) (with_line nodes shapes before' (without_return line)) at (said_both law s t before before' (without_return line) at) none fine
