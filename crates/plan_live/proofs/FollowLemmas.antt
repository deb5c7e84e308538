-- A script whose lines all end, and another one behind it.
use Rattle.std.proofs.Common.{◌≡◌, inl, inr, ℕ, ◌+◌, ◌≤◌, ◌==◌, List, [], ◌∷◌, ◌++◌, Bool, true, false, cond, length, get_or, take, Option, None, Some, refl, ap, sym, ◌∙◌, subst, arith, append_assoc}
use Rattle.std.specs.Prelude.{nat_lt, Result, Ok, Err}
use Rattle.std.specs.List.{onto_first}
use Rattle.std.proofs.lemmas.Bool.{ltb-false, le-ltb}
use Rattle.std.proofs.lemmas.List.{length-append, length-set}
use Rattle.cedr_base.specs.Bytes.{line_feed}
use Rattle.cedr_guard.specs.declared.refusal.TheConstants.{FILE_LIMIT}
use Rattle.cedr_guard.specs.Sources.{with_reading}
use Rattle.cedr_guard.proofs.SourceLemmas.{Law}
use Rattle.cedr_plan.specs.declared.plan.PlanNode.{PlanNode}
use Rattle.cedr_text.specs.declared.event_line.EventLine.{EventLine}
use Rattle.cedr_text.specs.declared.event_line.Shape.{Shape}
use Rattle.cedr_text.specs.declared.event_line.Shape.TheVariants.{AnyText}
use Rattle.cedr_text.specs.declared.fault.LineFault.{LineFault}
use Rattle.cedr_text.specs.declared.fault.LineFault.TheVariants.{LineTooLong}
use Rattle.cedr_text.specs.declared.lines.TheConstants.{LINE_LIMIT}
use Rattle.cedr_text.specs.Lines.{raw_lines, without_return, without_empty_end}
use Rattle.cedr_text.specs.Parts.{parts_of}
use Rattle.cedr_text.specs.Reading.{reading}
use Rattle.cedr_text.proofs.LineLemmas.{first_of_parts, end_dropped}
use Rattle.plan_live.specs.Scripts.{Accepted, no_lines, cut_at_comma, named_from, lines_at, with_lines, with_event_line, with_named, with_cut, with_line, Played, asked, stopped, play_on, is_question, played_behind, front_after, played_after, played}
use Rattle.plan_live.specs.SoFar.{text_now, texts_now}
use Rattle.plan_live.specs.Resumed.{states_so_far, lines_from, EndsLine}
use Rattle.plan_live.proofs.GuardLemmas.{no_lines_count}
use Rattle.plan_live.proofs.ResumeLemmas.{resumes}
use Rattle.plan_live.proofs.ScriptLemmas.{played_small}
use Rattle.plan_live.proofs.SoFarLemmas.{after_are, none_are}

-- ---- the number of lines before

-- what a script asks, and whether it has a fault, doesn't depend on it
record Uncounted (p q : Played) : Type 0 where
  asks : p.asks ≡ q.asks
  accepted : p.fault ≡ None → q.fault ≡ None

uncounted_step : (long question : Bool) (m n : ℕ) (before : Accepted) (now : Result Accepted LineFault) (rest others : Accepted → Played) → ((xs : Accepted) → Uncounted (rest xs) (others xs))
    → Uncounted (cond long (stopped m before LineTooLong) (cond question (asked before (rest before)) (play_on m before now rest))) (cond long (stopped n before LineTooLong) (cond question (asked before (others before)) (play_on n before now others)))
uncounted_step true question m n before now rest others same = record { asks = refl; accepted = λ none. absurd (let e = none in cc) }
uncounted_step false true m n before now rest others same = let s = same before in record { asks = ap (λ (xs : List Accepted). before ∷ xs) s.asks; accepted = s.accepted }
uncounted_step false false m n before (Ok now) rest others same = same now
uncounted_step false false m n before (Err fault) rest others same = record { asks = refl; accepted = λ none. absurd (let e = none in cc) }

uncounted : (nodes : List PlanNode) (shapes : List Shape) (m n : ℕ) (before : Accepted) (lines : List (List ℕ)) → Uncounted (played_behind nodes shapes m before lines) (played_behind nodes shapes n before lines)
uncounted nodes shapes m n before [] = record { asks = refl; accepted = λ none. none }
uncounted nodes shapes m n before (line ∷ lines) =
    uncounted_step (nat_lt LINE_LIMIT (length line)) (is_question (without_return line)) (m + 1) (n + 1) before (with_line nodes shapes before (without_return line)) (λ now. played_behind nodes shapes (m + 1) now lines) (λ now. played_behind nodes shapes (n + 1) now lines)
    (λ xs. uncounted nodes shapes (m + 1) (n + 1) xs lines)

-- ---- lines behind others

-- all asks what the first lines ask, and then what the rest asks, and where it is accepted both are
record Follows (all first rest : Played) : Type 0 where
  asks : all.asks ≡ first.asks ++ rest.asks
  first_accepted : first.fault ≡ None
  rest_accepted : rest.fault ≡ None

follow_step : (long question : Bool) (m n : ℕ) (before : Accepted) (now : Result Accepted LineFault) (all first after : Accepted → Played) → ((xs : Accepted) → (all xs).fault ≡ None → Follows (all xs) (first xs) (after (first xs).lines))
    → (cond long (stopped m before LineTooLong) (cond question (asked before (all before)) (play_on m before now all))).fault ≡ None
    → Follows (cond long (stopped m before LineTooLong) (cond question (asked before (all before)) (play_on m before now all))) (cond long (stopped n before LineTooLong) (cond question (asked before (first before)) (play_on n before now first)))
    (after (cond long (stopped n before LineTooLong) (cond question (asked before (first before)) (play_on n before now first))).lines)
follow_step true question m n before now all first after behind none = absurd (let e = none in cc)
follow_step false true m n before now all first after behind none = let f = behind before none in record { asks = ap (λ (xs : List Accepted). before ∷ xs) f.asks; first_accepted = f.first_accepted; rest_accepted = f.rest_accepted }
follow_step false false m n before (Ok now) all first after behind none = behind now none
follow_step false false m n before (Err fault) all first after behind none = absurd (let e = none in cc)

module _ (nodes : List PlanNode) (shapes : List Shape) (more : List (List ℕ)) where
  follows : (lines : List (List ℕ)) (m n : ℕ) (before : Accepted) → (played_behind nodes shapes m before (lines ++ more)).fault ≡ None
      → Follows (played_behind nodes shapes m before (lines ++ more)) (played_behind nodes shapes n before lines) (played_behind nodes shapes 0 (played_behind nodes shapes n before lines).lines more)
  follows [] m n before none = let u = uncounted nodes shapes m 0 before more in record { asks = u.asks; first_accepted = refl; rest_accepted = u.accepted none }
  follows (line ∷ lines) m n before none =
      follow_step (nat_lt LINE_LIMIT (length line)) (is_question (without_return line)) (m + 1) (n + 1) before (with_line nodes shapes before (without_return line))
      (λ now. played_behind nodes shapes (m + 1) now (lines ++ more)) (λ now. played_behind nodes shapes (n + 1) now lines) (λ now. played_behind nodes shapes 0 now more) (λ xs accepted. follows lines (m + 1) (n + 1) xs accepted) none

texts-append : (nodes : List PlanNode) (xs ys : List Accepted) → texts_now nodes (xs ++ ys) ≡ texts_now nodes xs ++ texts_now nodes ys
texts-append nodes [] ys = refl
texts-append nodes (x ∷ xs) ys = ap (λ (t : List ℕ). text_now nodes x ++ t) (texts-append nodes xs ys) ∙ sym (append_assoc (text_now nodes x) (texts_now nodes xs) (texts_now nodes ys))

-- ---- as many places as before

-- as many nodes have lines, where there are any
abbrev CountNow : ℕ → Result Accepted LineFault → Type 0
CountNow n (Ok now) = length now ≡ n
CountNow n (Err fault) = Unit {0}

lines_count : (before : Accepted) (place : ℕ) (now : Result (List EventLine) LineFault) → CountNow (length before) (with_lines before place now)
lines_count before place (Ok now) = length-set before place now
lines_count before place (Err fault) = tt

event_count : (shapes : List Shape) (before : Accepted) (place : ℕ) (bytes : List ℕ) → CountNow (length before) (with_event_line shapes before place bytes)
event_count shapes before place [] = tt
event_count shapes before place (b ∷ bytes) = lines_count before place (with_reading (lines_at before place) (reading (get_or shapes place AnyText) (b ∷ bytes)))

named_count : (shapes : List Shape) (before : Accepted) (place : Option ℕ) (bytes : List ℕ) → CountNow (length before) (with_named shapes before place bytes)
named_count shapes before None bytes = tt
named_count shapes before (Some place) bytes = event_count shapes before place bytes

cut_count : (nodes : List PlanNode) (shapes : List Shape) (before : Accepted) (cut : Option (List ℕ × List ℕ)) → CountNow (length before) (with_cut nodes shapes before cut)
cut_count nodes shapes before None = tt
cut_count nodes shapes before (Some cut) = named_count shapes before (named_from 0 nodes cut.0) cut.1

line_count : (nodes : List PlanNode) (shapes : List Shape) (before : Accepted) (line : List ℕ) → CountNow (length before) (with_line nodes shapes before line)
line_count nodes shapes before [] = refl
line_count nodes shapes before (b ∷ bytes) = cut_count nodes shapes before (cut_at_comma (b ∷ bytes))

count_step : (long question : Bool) (number : ℕ) (before : Accepted) (now : Result Accepted LineFault) (rest : Accepted → Played) → CountNow (length before) now → ((xs : Accepted) → length (rest xs).lines ≡ length xs)
    → length (cond long (stopped number before LineTooLong) (cond question (asked before (rest before)) (play_on number before now rest))).lines ≡ length before
count_step true question number before now rest next behind = refl
count_step false true number before now rest next behind = behind before
count_step false false number before (Ok now) rest next behind = behind now ∙ next
count_step false false number before (Err fault) rest next behind = refl

behind_count : (nodes : List PlanNode) (shapes : List Shape) (count : ℕ) (before : Accepted) (lines : List (List ℕ)) → length (played_behind nodes shapes count before lines).lines ≡ length before
behind_count nodes shapes count before [] = refl
behind_count nodes shapes count before (line ∷ lines) =
    count_step (nat_lt LINE_LIMIT (length line)) (is_question (without_return line)) (count + 1) before (with_line nodes shapes before (without_return line)) (λ now. played_behind nodes shapes (count + 1) now lines)
    (line_count nodes shapes before (without_return line)) (λ now. behind_count nodes shapes (count + 1) now lines)

-- ---- bytes behind others

joined_at : (test : Bool) (b : ℕ) (part : List ℕ) (parts others : List (List ℕ)) → cond test ([] ∷ (part ∷ parts) ++ others) (onto_first b ((part ∷ parts) ++ others)) ≡ cond test ([] ∷ part ∷ parts) (onto_first b (part ∷ parts)) ++ others
joined_at true b part parts others = refl
joined_at false b part parts others = refl

-- what stands between line feeds, where one stands between two texts
parts_joined : (front text : List ℕ) → parts_of line_feed (front ++ line_feed ∷ text) ≡ parts_of line_feed front ++ parts_of line_feed text
parts_joined [] text = refl
parts_joined (b ∷ front) text =
    let some = first_of_parts front in
    ap (λ (parts : List (List ℕ)). cond (b == line_feed) ([] ∷ parts) (onto_first b parts)) (parts_joined front text ∙ ap (λ (parts : List (List ℕ)). parts ++ parts_of line_feed text) some.2)
    ∙ (joined_at (b == line_feed) b some.0 some.1 (parts_of line_feed text) ∙ ap (λ (parts : List (List ℕ)). cond (b == line_feed) ([] ∷ parts) (onto_first b parts) ++ parts_of line_feed text) (sym some.2))

within_limit : (long : Bool) (over small : Played) → (over.fault ≡ None → ⊥) → (cond long over small).fault ≡ None → long ≡ false
within_limit true over small faulty none = absurd (faulty none)
within_limit false over small faulty none = refl

-- an accepted script isn't over the limit
accepted_small : (nodes : List PlanNode) (shapes : List Shape) (bytes : List ℕ) → (played nodes shapes bytes).fault ≡ None → length bytes ≤ FILE_LIMIT
accepted_small nodes shapes bytes none =
    ltb-false FILE_LIMIT (length bytes)
    (within_limit (nat_lt FILE_LIMIT (length bytes)) (front_after nodes shapes (no_lines nodes) (parts_of line_feed (take FILE_LIMIT bytes))) (played_behind nodes shapes 0 (no_lines nodes) (raw_lines bytes)) (λ accepted. let e = accepted in cc) none)

-- the parts of a script up to the limit, played one after the other
by_parts : (nodes : List PlanNode) (shapes : List Shape) (before : Accepted) (bytes : List ℕ) → length bytes ≤ FILE_LIMIT → played_after nodes shapes before bytes ≡ played_behind nodes shapes 0 before (parts_of line_feed bytes)
by_parts nodes shapes before bytes small = sym (played_small nodes shapes before bytes small)

-- its lines, played one after the other
small_lines : (nodes : List PlanNode) (shapes : List Shape) (before : Accepted) (bytes : List ℕ) → length bytes ≤ FILE_LIMIT → played_after nodes shapes before bytes ≡ played_behind nodes shapes 0 before (raw_lines bytes)
small_lines nodes shapes before bytes small =
    ap (λ long. cond long (front_after nodes shapes before (parts_of line_feed (take FILE_LIMIT bytes))) (played_behind nodes shapes 0 before (raw_lines bytes))) (le-ltb FILE_LIMIT (length bytes) small)

-- the parts of the first script, without what stands behind its last line feed
record Fronts (first : List ℕ) : Type 0 where
  parts : List (List ℕ)
  own : raw_lines first ≡ parts
  joined : (more : List ℕ) → parts_of line_feed (first ++ more) ≡ parts ++ parts_of line_feed more

fronts : (first : List ℕ) → EndsLine first → Fronts first
fronts first ends = elim ends.ends [
  | inl none ↦ subst Fronts (sym none) (record { parts = []; own = refl; joined = λ more. refl })
  | inr some ↦
      let before = some.0 in
      subst Fronts (sym some.1) (record {
        parts = parts_of line_feed before;
        own = ap without_empty_end (parts_joined before []) ∙ end_dropped (parts_of line_feed before);
        joined = λ more. ap (parts_of line_feed) (append_assoc before (line_feed ∷ []) more) ∙ parts_joined before more;
      })
]

-- where both are accepted as one script, the second one shows from the states that the first one came to what it shows
-- behind the first
pub goes_on_whole : Law → (nodes : List PlanNode) (shapes : List Shape) (first more : List ℕ) → EndsLine first → (played nodes shapes (first ++ more)).fault ≡ None
    → (texts_now nodes (played nodes shapes (first ++ more)).asks ≡ texts_now nodes (played nodes shapes first).asks ++ texts_now nodes (played_after nodes shapes (lines_from nodes (states_so_far nodes (played nodes shapes first).lines)) more).asks)
    × ((played nodes shapes first).fault ≡ None) × ((played_after nodes shapes (lines_from nodes (states_so_far nodes (played nodes shapes first).lines)) more).fault ≡ None)
goes_on_whole law nodes shapes first more ends none =
    let f = fronts first ends in
    let small = accepted_small nodes shapes (first ++ more) none in
    let mine : length first ≤ FILE_LIMIT = omega (arith, small, length-append first more) in
    let theirs : length more ≤ FILE_LIMIT = omega (arith, small, length-append first more) in
    let whole : played nodes shapes (first ++ more) ≡ played_behind nodes shapes 0 (no_lines nodes) (f.parts ++ parts_of line_feed more) =
    by_parts nodes shapes (no_lines nodes) (first ++ more) small ∙ ap (played_behind nodes shapes 0 (no_lines nodes)) (f.joined more) in
    let begun : played nodes shapes first ≡ played_behind nodes shapes 0 (no_lines nodes) f.parts = small_lines nodes shapes (no_lines nodes) first mine ∙ ap (played_behind nodes shapes 0 (no_lines nodes)) f.own in
    let k = follows nodes shapes (parts_of line_feed more) f.parts 0 0 (no_lines nodes) (ap (λ (p : Played). p.fault) (sym whole) ∙ none) in
    let left = (played nodes shapes first).lines in
    let rest : played_after nodes shapes left more ≡ played_behind nodes shapes 0 (played_behind nodes shapes 0 (no_lines nodes) f.parts).lines (parts_of line_feed more) =
    by_parts nodes shapes left more theirs ∙ ap (λ (p : Played). played_behind nodes shapes 0 p.lines (parts_of line_feed more)) begun in
    let long : length left ≡ length nodes = ap (λ (p : Played). length p.lines) begun ∙ (behind_count nodes shapes 0 (no_lines nodes) f.parts ∙ no_lines_count nodes) in
    let same = resumes law nodes shapes left more long (after_are law nodes shapes (no_lines nodes) first (none_are nodes)).1 in (
      ap (λ (p : Played). texts_now nodes p.asks) whole
          ∙ (ap (texts_now nodes) k.asks
          ∙ (texts-append nodes (played_behind nodes shapes 0 (no_lines nodes) f.parts).asks _
          ∙ (ap (λ (p : Played). texts_now nodes p.asks ++ texts_now nodes (played_behind nodes shapes 0 (played_behind nodes shapes 0 (no_lines nodes) f.parts).lines (parts_of line_feed more)).asks) (sym begun)
          ∙ ap (λ (t : List ℕ). texts_now nodes (played nodes shapes first).asks ++ t) (ap (λ (p : Played). texts_now nodes p.asks) (sym rest) ∙ sym same.0)))),
      ap (λ (p : Played). p.fault) begun ∙ k.first_accepted,
      same.1 ∙ (ap (λ (p : Played). p.fault) rest ∙ k.rest_accepted),
    )
