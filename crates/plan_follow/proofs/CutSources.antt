-- The lines of a script that is cut, and what its sources were sent.
use Rattle.std.proofs.Common.{◌≡◌, inl, inr, ℕ, zero, suc, ◌+◌, ◌<◌, ◌≤◌, ◌==◌, List, [], ◌∷◌, ◌++◌, Bool, true, false, cond, length, take, None, Result, Ok, Err, refl, ap, sym, ◌∙◌, subst, arith, append_assoc}
use Rattle.std.specs.Prelude.{map, nat_lt}
use Rattle.std.specs.List.{onto_first}
use Rattle.std.proofs.lemmas.Bool.{ltb-false, le-ltb}
use Rattle.std.proofs.lemmas.List.{length-append}
use Rattle.cedr_base.specs.Bytes.{line_feed}
use Rattle.cedr_base.specs.declared.change.Message.{Message}
use Rattle.cedr_guard.specs.Judging.{AreAccepted}
use Rattle.cedr_guard.specs.Messages.{messages_behind}
use Rattle.cedr_guard.specs.Spelt.{State, state_of, lines_of}
use Rattle.cedr_guard.specs.declared.refusal.TheConstants.{FILE_LIMIT}
use Rattle.cedr_net.specs.Flows.{IsSourceAt}
use Rattle.cedr_plan.specs.Places.{is_source}
use Rattle.cedr_plan.specs.declared.plan.PlanNode.{PlanNode}
use Rattle.cedr_text.proofs.LineLemmas.{first_of_parts, end_dropped}
use Rattle.cedr_text.specs.Lines.{raw_lines, without_empty_end, without_return}
use Rattle.cedr_text.specs.Parts.{parts_of}
use Rattle.cedr_text.specs.declared.event_line.EventLine.{EventLine}
use Rattle.cedr_text.specs.declared.event_line.Shape.{Shape}
use Rattle.cedr_text.specs.declared.fault.LineFault.{LineFault}
use Rattle.cedr_text.specs.declared.fault.LineFault.TheVariants.{LineTooLong}
use Rattle.cedr_text.specs.declared.lines.TheConstants.{LINE_LIMIT}
use Rattle.node_laws.specs.Lists.{Lists, list_at}
use Rattle.plan_live.specs.Resumed.{states_so_far, lines_from, EndsLine}
use Rattle.plan_live.specs.Scripts.{Accepted, lines_at, no_lines, messages_so_far, Played, asked, stopped, play_on, is_question, with_line, front_after, played_behind, played}
use Rattle.plan_live.specs.SoFar.{AreLines, source_lines}
use Rattle.plan_runs.specs.Runs.{sources_in}

-- ---- the lines of two scripts

joined_at : (test : Bool) (b : ℕ) (part : List ℕ) (parts others : List (List ℕ)) → cond test ([] ∷ (part ∷ parts) ++ others) (onto_first b ((part ∷ parts) ++ others)) ≡ cond test ([] ∷ part ∷ parts) (onto_first b (part ∷ parts)) ++ others
joined_at true b part parts others = refl
joined_at false b part parts others = refl

parts_joined : (front text : List ℕ) → parts_of line_feed (front ++ line_feed ∷ text) ≡ parts_of line_feed front ++ parts_of line_feed text
parts_joined [] text = refl
parts_joined (b ∷ front) text =
    let some = first_of_parts front in
    ap (λ (parts : List (List ℕ)). cond (b == line_feed) ([] ∷ parts) (onto_first b parts)) (parts_joined front text ∙ ap (λ (parts : List (List ℕ)). parts ++ parts_of line_feed text) some.2)
    ∙ (joined_at (b == line_feed) b some.0 some.1 (parts_of line_feed text) ∙ ap (λ (parts : List (List ℕ)). cond (b == line_feed) ([] ∷ parts) (onto_first b parts) ++ parts_of line_feed text) (sym some.2))

front_kept : (part : List ℕ) (parts : List (List ℕ)) (q : List ℕ) (qs : List (List ℕ)) → without_empty_end (part ∷ (parts ++ q ∷ qs)) ≡ part ∷ without_empty_end (parts ++ q ∷ qs)
front_kept [] [] q qs = refl
front_kept (b ∷ part) [] q qs = refl
front_kept [] (p ∷ parts) q qs = refl
front_kept (b ∷ part) (p ∷ parts) q qs = refl

end_behind : (parts : List (List ℕ)) (q : List ℕ) (qs : List (List ℕ)) → without_empty_end (parts ++ q ∷ qs) ≡ parts ++ without_empty_end (q ∷ qs)
end_behind [] q qs = refl
end_behind (part ∷ parts) q qs = front_kept part parts q qs ∙ ap (λ (ps : List (List ℕ)). part ∷ ps) (end_behind parts q qs)

-- those of the first one, where it ends with a line feed, and then those of the second one
pub lines_joined : (first more : List ℕ) → EndsLine first → raw_lines (first ++ more) ≡ raw_lines first ++ raw_lines more
lines_joined first more ends = elim ends.ends [
  | inl none ↦ subst (λ (f : List ℕ). raw_lines (f ++ more) ≡ raw_lines f ++ raw_lines more) (sym none) refl
  | inr some ↦
      let before = some.0 in
      let rest = first_of_parts more in
      subst (λ (f : List ℕ). raw_lines (f ++ more) ≡ raw_lines f ++ raw_lines more) (sym some.1) (
      ap raw_lines (append_assoc before (line_feed ∷ []) more)
      ∙ (ap without_empty_end (parts_joined before more ∙ ap (λ (parts : List (List ℕ)). parts_of line_feed before ++ parts) rest.2)
      ∙ (end_behind (parts_of line_feed before) rest.0 rest.1
      ∙ (ap (λ (parts : List (List ℕ)). parts_of line_feed before ++ without_empty_end parts) (sym rest.2)
      ∙ ap (λ (parts : List (List ℕ)). parts ++ raw_lines more) (sym (ap without_empty_end (parts_joined before []) ∙ end_dropped (parts_of line_feed before))))))
      )
]

-- ---- an accepted script

small_at : (long : Bool) (over small : Played) → (over.fault ≡ None → ⊥) → (cond long over small).fault ≡ None → long ≡ false
small_at true over small faulty none = absurd (faulty none)
small_at false over small faulty none = refl

within_file : (nodes : List PlanNode) (shapes : List Shape) (bytes : List ℕ) → (played nodes shapes bytes).fault ≡ None → length bytes ≤ FILE_LIMIT
within_file nodes shapes bytes none =
    ltb-false FILE_LIMIT (length bytes)
    (small_at (nat_lt FILE_LIMIT (length bytes)) (front_after nodes shapes (no_lines nodes) (parts_of line_feed (take FILE_LIMIT bytes))) (played_behind nodes shapes 0 (no_lines nodes) (raw_lines bytes)) (λ accepted. let e = accepted in cc) none)

by_lines : (nodes : List PlanNode) (shapes : List Shape) (bytes : List ℕ) → length bytes ≤ FILE_LIMIT → played nodes shapes bytes ≡ played_behind nodes shapes 0 (no_lines nodes) (raw_lines bytes)
by_lines nodes shapes bytes small = ap (λ long. cond long (front_after nodes shapes (no_lines nodes) (parts_of line_feed (take FILE_LIMIT bytes))) (played_behind nodes shapes 0 (no_lines nodes) (raw_lines bytes))) (le-ltb FILE_LIMIT (length bytes) small)

-- all comes to what the rest comes to behind the first ones, and both are accepted
pub record CutPlay (all first : Played) (rest : ℕ → Accepted → Played) : Type 0 where
  pub begun : first.fault ≡ None
  pub count : ℕ
  pub lines : all.lines ≡ (rest count first.lines).lines
  pub ended : (rest count first.lines).fault ≡ None

cut_step : (long question : Bool) (m n : ℕ) (before : Accepted) (now : Result Accepted LineFault) (all first : Accepted → Played) (rest : ℕ → Accepted → Played) → ((xs : Accepted) → (all xs).fault ≡ None → CutPlay (all xs) (first xs) rest)
    → (cond long (stopped m before LineTooLong) (cond question (asked before (all before)) (play_on m before now all))).fault ≡ None
    → CutPlay (cond long (stopped m before LineTooLong) (cond question (asked before (all before)) (play_on m before now all))) (cond long (stopped n before LineTooLong) (cond question (asked before (first before)) (play_on n before now first))) rest
cut_step true question m n before now all first rest behind none = absurd (let e = none in cc)
cut_step false true m n before now all first rest behind none = let c = behind before none in record { begun = c.begun; count = c.count; lines = c.lines; ended = c.ended }
cut_step false false m n before (Ok now) all first rest behind none = behind now none
cut_step false false m n before (Err fault) all first rest behind none = absurd (let e = none in cc)

cut_lines : (nodes : List PlanNode) (shapes : List Shape) (more lines : List (List ℕ)) (m n : ℕ) (before : Accepted) → (played_behind nodes shapes m before (lines ++ more)).fault ≡ None
    → CutPlay (played_behind nodes shapes m before (lines ++ more)) (played_behind nodes shapes n before lines) (λ count now. played_behind nodes shapes count now more)
cut_lines nodes shapes more [] m n before none = record { begun = refl; count = m; lines = refl; ended = none }
cut_lines nodes shapes more (line ∷ lines) m n before none =
    cut_step (nat_lt LINE_LIMIT (length line)) (is_question (without_return line)) (m + 1) (n + 1) before (with_line nodes shapes before (without_return line))
    (λ now. played_behind nodes shapes (m + 1) now (lines ++ more)) (λ now. played_behind nodes shapes (n + 1) now lines) (λ count now. played_behind nodes shapes count now more) (λ now fine. cut_lines nodes shapes more lines (m + 1) (n + 1) now fine) none

-- a script that is accepted as a whole, cut behind its first part
pub record CutScript (nodes : List PlanNode) (shapes : List Shape) (first more : List ℕ) : Type 0 where
  pub first_is : played nodes shapes first ≡ played_behind nodes shapes 0 (no_lines nodes) (raw_lines first)
  pub cut : CutPlay (played nodes shapes (first ++ more)) (played nodes shapes first) (λ count now. played_behind nodes shapes count now (raw_lines more))

pub script_cut : (nodes : List PlanNode) (shapes : List Shape) (first more : List ℕ) → EndsLine first → (played nodes shapes (first ++ more)).fault ≡ None → CutScript nodes shapes first more
script_cut nodes shapes first more ends none =
    let small = within_file nodes shapes (first ++ more) none in
    let begun = by_lines nodes shapes first (omega (arith, small, length-append first more)) in
    let whole : played nodes shapes (first ++ more) ≡ played_behind nodes shapes 0 (no_lines nodes) (raw_lines first ++ raw_lines more) = by_lines nodes shapes (first ++ more) small ∙ ap (played_behind nodes shapes 0 (no_lines nodes)) (lines_joined first more ends) in
    let rest : ℕ → Accepted → Played = λ count now. played_behind nodes shapes count now (raw_lines more) in
    record {
      first_is = begun;
      cut =
          subst (λ (p : Played). CutPlay p (played nodes shapes first) rest) (sym whole)
          (subst (λ (p : Played). CutPlay (played_behind nodes shapes 0 (no_lines nodes) (raw_lines first ++ raw_lines more)) p rest) (sym begun) (cut_lines nodes shapes (raw_lines more) (raw_lines first) 0 0 (no_lines nodes) (ap (λ (p : Played). p.fault) (sym whole) ∙ none)));
    }

-- ---- the sources

source_first : (n : PlanNode) (nodes : List PlanNode) → is_source n.kind ≡ true → IsSourceAt (n ∷ nodes) 0
source_first n nodes is [] after m whole len = let same : n ≡ m = (let e = whole in cc) in subst (λ (x : PlanNode). is_source x.kind ≡ true) same is
source_first n nodes is (b ∷ before) after m whole len = absurd (omega (arith, len))

source_behind : (n : PlanNode) (nodes : List PlanNode) (k : ℕ) → IsSourceAt nodes k → IsSourceAt (n ∷ nodes) (suc k)
source_behind n nodes k source [] after m whole len = absurd (omega (arith, len))
source_behind n nodes k source (b ∷ before) after m whole len = source before after m (let e = whole in cc) (omega (arith, len))

source_before : (n : PlanNode) (nodes : List PlanNode) (k : ℕ) → IsSourceAt (n ∷ nodes) (suc k) → IsSourceAt nodes k
source_before n nodes k source before after m whole len = source (n ∷ before) after m (ap (λ (ns : List PlanNode). n ∷ ns) whole) (ap (λ (j : ℕ). suc j) len)

-- something holds of each source
abbrev pub AtSources : List PlanNode → (ℕ → Type 0) → Type 0
AtSources nodes P = (k : ℕ) → k < length nodes → IsSourceAt nodes k → P k

later : (n : PlanNode) (nodes : List PlanNode) (P : ℕ → Type 0) → AtSources (n ∷ nodes) P → AtSources nodes (λ k. P (suc k))
later n nodes P each k within source = each (suc k) (omega (arith, within)) (source_behind n nodes k source)

sent_where : (b : Bool) (x : List Message) (l : List EventLine) (xs : Lists) (ls : Accepted) → (b ≡ true → x ≡ messages_behind [] l) → xs ≡ messages_so_far ls → cond b (x ∷ xs) xs ≡ messages_so_far (cond b (l ∷ ls) ls)
sent_where true x l xs ls one rest = let e = one refl in cc
sent_where false x l xs ls one rest = rest

-- what each source was sent are the messages of its lines
pub sent_sources : (nodes : List PlanNode) (sent : Lists) (lines : Accepted) → AtSources nodes (λ k. list_at sent k ≡ messages_behind [] (lines_at lines k)) → sources_in nodes sent ≡ messages_so_far (source_lines nodes lines)
sent_sources [] sent lines each = refl
sent_sources (n ∷ nodes) [] [] each = sent_where (is_source n.kind) [] [] (sources_in nodes []) (source_lines nodes []) (λ is. refl) (sent_sources nodes [] [] (λ k within source. refl))
sent_sources (n ∷ nodes) [] (l ∷ lines) each =
    sent_where (is_source n.kind) [] l (sources_in nodes []) (source_lines nodes lines) (λ is. each 0 (omega arith) (source_first n nodes is)) (sent_sources nodes [] lines (later n nodes (λ k. list_at [] k ≡ messages_behind [] (lines_at (l ∷ lines) k)) each))
sent_sources (n ∷ nodes) (x ∷ sent) [] each =
    sent_where (is_source n.kind) x [] (sources_in nodes sent) (source_lines nodes []) (λ is. each 0 (omega arith) (source_first n nodes is)) (sent_sources nodes sent [] (later n nodes (λ k. list_at (x ∷ sent) k ≡ messages_behind [] (lines_at [] k)) each))
sent_sources (n ∷ nodes) (x ∷ sent) (l ∷ lines) each =
    sent_where (is_source n.kind) x l (sources_in nodes sent) (source_lines nodes lines) (λ is. each 0 (omega arith) (source_first n nodes is)) (sent_sources nodes sent lines (later n nodes (λ k. list_at (x ∷ sent) k ≡ messages_behind [] (lines_at (l ∷ lines) k)) each))

are_where : (b : Bool) (l : List EventLine) (ls : Accepted) → (b ≡ true → AreAccepted l) → AreLines ls → AreLines (cond b (l ∷ ls) ls)
are_where true l ls one rest zero = one refl
are_where true l ls one rest (suc k) = rest k
are_where false l ls one rest k = rest k

-- the lines of the sources are accepted
pub sources_accepted : (nodes : List PlanNode) (lines : Accepted) → AtSources nodes (λ k. AreAccepted (lines_at lines k)) → AreLines (source_lines nodes lines)
sources_accepted [] lines each = λ k. tt
sources_accepted (n ∷ nodes) [] each = are_where (is_source n.kind) [] (source_lines nodes []) (λ is. tt) (sources_accepted nodes [] (λ k within source. tt))
sources_accepted (n ∷ nodes) (l ∷ lines) each =
    are_where (is_source n.kind) l (source_lines nodes lines) (λ is. each 0 (omega arith) (source_first n nodes is)) (sources_accepted nodes lines (later n nodes (λ k. AreAccepted (lines_at (l ∷ lines) k)) each))

same_where : {X : Type 0} (f : List EventLine → X) (b : Bool) (x y : List EventLine) (xs ys : Accepted) → (b ≡ true → f x ≡ f y) → map f xs ≡ map f ys → map f (cond b (x ∷ xs) xs) ≡ map f (cond b (y ∷ ys) ys)
same_where f true x y xs ys one rest = let e = one refl in cc
same_where f false x y xs ys one rest = rest

-- what is the same of the lines of each source is the same of all
pub sources_same : {X : Type 0} (f : List EventLine → X) (nodes : List PlanNode) (lines others : Accepted) → AtSources nodes (λ k. f (lines_at lines k) ≡ f (lines_at others k)) → map f (source_lines nodes lines) ≡ map f (source_lines nodes others)
sources_same f [] lines others each = refl
sources_same f (n ∷ nodes) [] [] each = refl
sources_same f (n ∷ nodes) [] (o ∷ others) each =
    same_where f (is_source n.kind) [] o (source_lines nodes []) (source_lines nodes others) (λ is. each 0 (omega arith) (source_first n nodes is)) (sources_same f nodes [] others (later n nodes (λ k. f (lines_at [] k) ≡ f (lines_at (o ∷ others) k)) each))
sources_same f (n ∷ nodes) (l ∷ lines) [] each =
    same_where f (is_source n.kind) l [] (source_lines nodes lines) (source_lines nodes []) (λ is. each 0 (omega arith) (source_first n nodes is)) (sources_same f nodes lines [] (later n nodes (λ k. f (lines_at (l ∷ lines) k) ≡ f (lines_at [] k)) each))
sources_same f (n ∷ nodes) (l ∷ lines) (o ∷ others) each =
    same_where f (is_source n.kind) l o (source_lines nodes lines) (source_lines nodes others) (λ is. each 0 (omega arith) (source_first n nodes is)) (sources_same f nodes lines others (later n nodes (λ k. f (lines_at (l ∷ lines) k) ≡ f (lines_at (o ∷ others) k)) each))

-- ---- the lines of states

spelt_where : (b : Bool) (n : PlanNode) (nodes : List PlanNode) (l : List EventLine) (lines : Accepted) → is_source n.kind ≡ b → AtSources nodes (λ k. lines_at (lines_from nodes (states_so_far nodes lines)) k ≡ lines_of (state_of (lines_at lines k)))
    → AtSources (n ∷ nodes) (λ k. lines_at (lines_from (n ∷ nodes) (map state_of (cond b (l ∷ source_lines nodes lines) (source_lines nodes lines)))) k ≡ lines_of (state_of (lines_at (l ∷ lines) k)))
spelt_where true n nodes l lines is rest k within source =
    ap (λ (c : Bool). lines_at (cond c (lines_of (state_of l) ∷ lines_from nodes (states_so_far nodes lines)) ([] ∷ lines_from nodes (state_of l ∷ states_so_far nodes lines))) k) is ∙ spelt_here k within source
  where
    spelt_here : (k : ℕ) → k < length (n ∷ nodes) → IsSourceAt (n ∷ nodes) k → lines_at (lines_of (state_of l) ∷ lines_from nodes (states_so_far nodes lines)) k ≡ lines_of (state_of (lines_at (l ∷ lines) k))
    spelt_here zero inside at = refl
    spelt_here (suc k) inside at = rest k (omega (arith, inside)) (source_before n nodes k at)
spelt_where false n nodes l lines isnt rest k within source = spelt_other (states_so_far nodes lines) rest k within source where
  spelt_at : (front : List EventLine) (behind : Accepted) → AtSources nodes (λ k. lines_at behind k ≡ lines_of (state_of (lines_at lines k))) → AtSources (n ∷ nodes) (λ k. lines_at (front ∷ behind) k ≡ lines_of (state_of (lines_at (l ∷ lines) k)))
  spelt_at front behind each zero inside at = absurd (let e = at [] nodes n refl refl in let f = isnt in cc)
  spelt_at front behind each (suc k) inside at = each k (omega (arith, inside)) (source_before n nodes k at)

  spelt_other : (states : List State) → AtSources nodes (λ k. lines_at (lines_from nodes states) k ≡ lines_of (state_of (lines_at lines k))) → AtSources (n ∷ nodes) (λ k. lines_at (lines_from (n ∷ nodes) states) k ≡ lines_of (state_of (lines_at (l ∷ lines) k)))
  spelt_other [] each k inside at = spelt_at [] (lines_from nodes []) each k inside at
  spelt_other (s ∷ states) each k inside at =
      ap (λ (c : Bool). lines_at (cond c (lines_of s ∷ lines_from nodes states) ([] ∷ lines_from nodes (s ∷ states))) k) isnt ∙ spelt_at [] (lines_from nodes (s ∷ states)) each k inside at

-- the lines from the states of others spell the state of each source
pub spelt_sources : (nodes : List PlanNode) (lines : Accepted) → length lines ≡ length nodes → AtSources nodes (λ k. lines_at (lines_from nodes (states_so_far nodes lines)) k ≡ lines_of (state_of (lines_at lines k)))
spelt_sources [] lines long k within source = absurd (omega (arith, within))
spelt_sources (n ∷ nodes) [] long k within source = absurd (omega (arith, long))
spelt_sources (n ∷ nodes) (l ∷ lines) long k within source = spelt_where (is_source n.kind) n nodes l lines refl (spelt_sources nodes lines (omega (arith, long))) k within source

from_where : (b : Bool) (s : State) (xs ys : Accepted) (count : ℕ) → length xs ≡ count → length ys ≡ count → length (cond b (lines_of s ∷ xs) ([] ∷ ys)) ≡ suc count
from_where true s xs ys count one other = omega (arith, one)
from_where false s xs ys count one other = omega (arith, other)

pub from_count : (nodes : List PlanNode) (states : List State) → length (lines_from nodes states) ≡ length nodes
from_count [] states = refl
from_count (n ∷ nodes) [] = omega (arith, from_count nodes [])
from_count (n ∷ nodes) (s ∷ states) = from_where (is_source n.kind) s (lines_from nodes states) (lines_from nodes (s ∷ states)) (length nodes) (from_count nodes states) (from_count nodes (s ∷ states))
