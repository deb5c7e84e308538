-- What was read of the sources of a plan, by their numbers.
use Rattle.std.proofs.Common.{◌≡◌, ℕ, ◌+◌, ◌<◌, ◌≤◌, List, [], ◌∷◌, ◌++◌, Bool, true, false, cond, length, get_or, take, drop, refl, ap, sym, ◌∙◌, subst, arith}
use Rattle.std.specs.Prelude.{All, IfOk, Result, Ok, Err}
use Rattle.std.specs.List.{list_any}
use Rattle.std.proofs.lemmas.List.{drop_more, length-drop, take_all, take_more}
use Rattle.std.proofs.lemmas.List.Elements.{All-get_or}
use Rattle.std.proofs.lemmas.List.Folds.{list_any_at}
use Rattle.std.proofs.lemmas.List.Sums.{sum_by-append, sum_by-cons}
use Rattle.cedr_base.specs.declared.change.Message.{Message}
use Rattle.cedr_base.specs.Messages.{IsLegal}
use Rattle.cedr_guard.specs.Messages.{messages_in}
use Rattle.cedr_plan.specs.declared.plan.PlanNode.{PlanNode}
use Rattle.cedr_plan.specs.Places.{is_source, source_count}
use Rattle.cedr_plan.proofs.PlaceLemmas.{counted, sources_before}
use Rattle.cedr_source.specs.declared.fault.Unread.{Unread}
use Rattle.cedr_source.specs.declared.fault.Unread.TheVariants as unread
use Rattle.plan_answer.specs.declared.faulty.FaultySource.{FaultySource}
use Rattle.plan_serial.specs.Rounds.{ByLine}
use Rattle.plan_serial.specs.Sources.{AreReadByLine, IsNothing, PassesOn, is_failed}
use Rattle.plan_serial.specs.declared.sources.SourcesFault.{SourcesFault}
use Rattle.plan_serial.specs.declared.sources.SourcesFault.TheVariants as sources_fault

-- the messages that were read are legal
abbrev IsReadLegal : Result (List (List Message)) Unread → Type 0
IsReadLegal read = IfOk read (λ entries. IsLegal (messages_in entries))

module _ {T : Type 0} (nodes : List PlanNode) (place : ℕ) (n : PlanNode) (within : place < length nodes) (at : n ≡ get_or nodes place n) (reads : List (Result T Unread)) (count : length reads ≡ source_count nodes) where
  -- how many sources there are before the place
  abbrev pub number : ℕ
  number = source_count (take place nodes)

  -- a source is among those that were read
  pub is_among : is_source n.kind ≡ true → number < length reads
  is_among is = let low = sources_before nodes place n within (ap (λ (m : PlanNode). is_source m.kind) (sym at) ∙ is) in omega (arith, low, count)

  number_more : (b : Bool) → is_source n.kind ≡ b → source_count (take (place + 1) nodes) ≡ number + cond b 1 0
  number_more b is =
      let one : counted n ≡ cond b 1 0 = ap {B = ℕ} (λ c. cond c 1 0) is in
      ap source_count (take_more nodes place n within ∙ ap (λ (m : PlanNode). take place nodes ++ m ∷ []) (sym at)) ∙ omega (arith, one, sum_by-append counted (take place nodes) (n ∷ []), sum_by-cons counted n [])

  -- what is left of the reads is not empty before it
  pub some_left : (rest : List (Result T Unread)) → rest ≡ drop number reads → is_source n.kind ≡ true → 0 < length rest
  some_left rest left is = let some = is_among is in omega (arith, ap length left, length-drop number reads, some)

  -- the first one is its own
  pub own_read : (rest rest' : List (Result T Unread)) (read : Result T Unread) → rest ≡ drop number reads → is_source n.kind ≡ true → rest ≡ read ∷ rest' → (read ≡ get_or reads number read) × (rest' ≡ drop (number + 1) reads)
  own_read rest rest' read left is first = let parts : read ∷ rest' ≡ get_or reads number read ∷ drop (number + 1) reads = sym first ∙ (left ∙ drop_more reads number read (is_among is)) in (cc, cc)

  -- and the others are those behind it
  pub left_more : (rest rest' : List (Result T Unread)) (read : Result T Unread) → rest ≡ drop number reads → (is_source n.kind ≡ true → rest ≡ read ∷ rest') → (is_source n.kind ≡ false → rest' ≡ rest) → rest' ≡ drop (source_count (take (place + 1) nodes)) reads
  left_more rest rest' read left source other = by (is_source n.kind) refl where
    by : (b : Bool) → is_source n.kind ≡ b → rest' ≡ drop (source_count (take (place + 1) nodes)) reads
    by true is = (own_read rest rest' read left is (source is)).1 ∙ ap (λ (k : ℕ). drop k reads) (sym (number_more true is))
    by false isnt = let same : number ≡ number + 0 = omega arith in other isnt ∙ (left ∙ ap (λ (k : ℕ). drop k reads) (same ∙ sym (number_more false isnt)))

  -- where it failed, one among them did
  pub own_failed : (rest rest' : List (Result T Unread)) → rest ≡ drop number reads → is_source n.kind ≡ true → rest ≡ Err unread.Failed ∷ rest' → list_any is_failed reads ≡ true
  own_failed rest rest' left is first = list_any_at is_failed reads number (Err unread.Failed) (is_among is) (ap is_failed (sym (own_read rest rest' (Err unread.Failed) left is first).0))

-- what was read of a node that has nothing to give is legal
nothing_legal : (read : Result (List (List Message)) Unread) → IsNothing read → IsReadLegal read
nothing_legal (Ok entries) none = subst (λ (es : List (List Message)). IsLegal (messages_in es)) (sym none) tt
nothing_legal (Err fault) none = absurd none

-- so what the next node gives is, where all that was read is
pub own_legal : (nodes : List PlanNode) (place : ℕ) (n : PlanNode) (within : place < length nodes) (at : n ≡ get_or nodes place n) (reads rest rest' : List (Result (List (List Message)) Unread)) (read : Result (List (List Message)) Unread) → length reads ≡ source_count nodes
    → All IsReadLegal reads → rest ≡ drop (source_count (take place nodes)) reads → (is_source n.kind ≡ true → rest ≡ read ∷ rest') → (is_source n.kind ≡ false → IsNothing read) → IsReadLegal read
own_legal nodes place n within at reads rest rest' read count legal left source none = by (is_source n.kind) refl where
  by : (b : Bool) → is_source n.kind ≡ b → IsReadLegal read
  by true is =
      let own = own_read nodes place n within at reads count rest rest' read left is (source is) in
      subst IsReadLegal (sym own.0) (All-get_or IsReadLegal reads (source_count (take place nodes)) read (is_among nodes place n within at reads count is) legal)
  by false isnt = nothing_legal read (none isnt)

-- where the next read failed, one of the reads did
pub failed_among : (nodes : List PlanNode) (place : ℕ) (n : PlanNode) (within : place < length nodes) (at : n ≡ get_or nodes place n) (reads rest rest' : List (Result (List (List Message)) Unread)) (read : Result (List (List Message)) Unread) → length reads ≡ source_count nodes
    → rest ≡ drop (source_count (take place nodes)) reads → (is_source n.kind ≡ true → rest ≡ read ∷ rest') → (is_source n.kind ≡ false → IsNothing read) → read ≡ Err unread.Failed → list_any is_failed reads ≡ true
failed_among nodes place n within at reads rest rest' read count left source none failed = by (is_source n.kind) refl where
  by : (b : Bool) → is_source n.kind ≡ b → list_any is_failed reads ≡ true
  by true is = own_failed nodes place n within at reads count rest rest' left is (source is ∙ ap (λ (r : Result (List (List Message)) Unread). r ∷ rest') failed)
  by false isnt = absurd (subst IsNothing failed (none isnt))

-- what was read of all nodes up to their end was read of all
pub read_whole : (told : List ℕ → List ℕ) (nodes : List PlanNode) (place : ℕ) (lines : ByLine) (faulty : List FaultySource) → length nodes ≤ place → AreReadByLine told (take place nodes) lines faulty → AreReadByLine told nodes lines faulty
read_whole told nodes place lines faulty all read = subst (λ (ns : List PlanNode). AreReadByLine told ns lines faulty) (take_all place nodes all) read

-- a read that failed was passed on
pub passed_on : (noted : Result (Unit {0}) SourcesFault) (fault : SourcesFault) (read : Result (List (List Message)) Unread) → noted ≡ Err fault → fault ≡ sources_fault.Read → PassesOn noted read → read ≡ Err unread.Failed
passed_on noted fault read is failed passes = subst (λ (r : Result (Unit {0}) SourcesFault). PassesOn r read) (is ∙ ap (λ (f : SourcesFault). Err f) failed) passes

-- a list of no element is empty
pub none_there : {X : Type 0} (xs : List X) → length xs ≡ 0 → xs ≡ []
none_there [] h = refl
none_there (x ∷ xs) h = absurd (omega (arith, h))
