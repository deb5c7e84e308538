-- The sources of a plan, one after the other.
use Rattle.std.proofs.Common.{◌≡◌, ℕ, suc, ◌+◌, ◌<◌, List, [], ◌∷◌, ◌++◌, Bool, true, false, cond, length, get_or, refl, ap, sym, ◌∙◌, subst, arith, append_assoc}
use Rattle.std.specs.Prelude.{Option, None, Some, Result, Ok, Err, IfOk, IfSome}
use Rattle.cedr_base.specs.declared.field.FieldType.{FieldType}
use Rattle.cedr_base.specs.declared.change.Message.{Message}
use Rattle.cedr_source.specs.declared.fault.Unread.{Unread}
use Rattle.cedr_source.specs.declared.fault.Unread.TheVariants as unread
use Rattle.cedr_source.specs.Whole.{AnswersAll, CountsSource}
use Rattle.cedr_text.specs.declared.event_line.Shape.{Shape}
use Rattle.std.proofs.lemmas.List.{append-nil}
use Rattle.cedr_base.specs.Messages.{IsLegal}
use Rattle.plan_serial.proofs.FeedLemmas.{SourcesUpTo, sources_push}
use Rattle.cedr_guard.specs.declared.refusal.Refusal.{Refusal}
use Rattle.cedr_guard.specs.Messages.{messages_in}
use Rattle.cedr_guard.proofs.LineMessages.{by_line}
use Rattle.cedr_plan.specs.declared.plan.PlanNode.{PlanNode}
use Rattle.cedr_plan.specs.Places.{is_source}
use Rattle.plan_answer.specs.declared.faulty.FaultySource.{FaultySource}
use Rattle.plan_serial.specs.declared.sources.ReadSoFar.{ReadSoFar}
use Rattle.plan_serial.specs.Rounds.{ByLine, all_messages}
use Rattle.plan_serial.specs.Sources.{AnswersFile, AreReadByLine, HasLines, AllHaveLines, IsNothing, Notes}
use Rattle.plan_answer.specs.Sources.{AsksSource, AreTold, HasGiven, AllHaveGiven, AreRead, file_of, files_of, source_files, fault_here, faulty_from}
use Rattle.cedr_text.specs.Shapes.{ShapeHasTypes}
use Rattle.std.proofs.Math.Seq.{take-length}

-- all names were asked for
pub asked_all : (result : Result (List (List Message)) Unread) (old new names : List (List ℕ)) → new ≡ old ++ names → AsksSource result old new names
asked_all (Ok entries) old new names e = e
asked_all (Err (unread.Refused refusal)) old new names e = e
asked_all (Err unread.Failed) old new names e = e
asked_all (Err unread.OutOfMemory) old new names e = record { count = length names; added = e ∙ ap (λ (ns : List (List ℕ)). old ++ ns) (sym (take-length names)) }

-- a source's answer is that for the types of its shape
pub file_answer : (result : Result (List (List Message)) Unread) (shape : Shape) (types : List FieldType) (all : List ℕ) → ShapeHasTypes shape types → AnswersAll result shape all → AnswersFile result types all
file_answer (Ok entries) shape types all has answer = (shape, has, answer.0, answer.1)
file_answer (Err (unread.Refused refusal)) shape types all has answer = (shape, has, answer)
file_answer (Err unread.Failed) shape types all has answer = tt
file_answer (Err unread.OutOfMemory) shape types all has answer = tt

-- the same by the content of the file, which is what its source had left
pub known_answer : (result : Result (List (List Message)) Unread) (shape : Shape) (types : List FieldType) (content rest : Option (List ℕ)) → rest ≡ content → ShapeHasTypes shape types → IfSome rest (λ all. AnswersAll result shape all) → IfSome content (λ all. AnswersFile result types all)
known_answer result shape types content None same has answer = subst (λ (o : Option (List ℕ)). IfSome o (λ all. AnswersFile result types all)) same tt
known_answer result shape types content (Some all) same has answer = subst (λ (o : Option (List ℕ)). IfSome o (λ bytes. AnswersFile result types bytes)) same (file_answer result shape types all has answer)

-- ---- node by node

told_split : (content : List ℕ → Option (List ℕ)) (told : List ℕ → List ℕ) (xs ys : List (List ℕ)) → AreTold content told (xs ++ ys) → AreTold content told xs × AreTold content told ys
told_split content told [] ys h = (tt, h)
told_split content told (x ∷ xs) ys h = let rest = told_split content told xs ys h.1 in ((h.0, rest.0), rest.1)

-- where it is known what the files of all sources hold, it is known of each
pub told_at : (content : List ℕ → Option (List ℕ)) (told : List ℕ → List ℕ) (before after : List PlanNode) (n : PlanNode) → AreTold content told (source_files (before ++ n ∷ after)) → AreTold content told (files_of n)
told_at content told [] after n h = (told_split content told (files_of n) (source_files after) h).0
told_at content told (b ∷ before) after n h = told_at content told before after n (told_split content told (files_of b) (source_files (before ++ n ∷ after)) h).1

told_source : (content : List ℕ → Option (List ℕ)) (told : List ℕ → List ℕ) (n : PlanNode) (b : Bool) → is_source n.kind ≡ b → b ≡ true → AreTold content told (cond b (file_of n.kind ∷ []) []) → content (file_of n.kind) ≡ Some (told (file_of n.kind))
told_source content told n true e is h = h.0
told_source content told n false e is h = absurd (let x = is in cc)

-- what a node gave, where it is known what its file holds
given_ok : (told : List ℕ → List ℕ) (content : List ℕ → Option (List ℕ)) (n : PlanNode) (entries : List (List Message)) → (is_source n.kind ≡ true → content (file_of n.kind) ≡ Some (told (file_of n.kind)))
    → (is_source n.kind ≡ true → IfSome (content (file_of n.kind)) (λ all. AnswersFile (Ok entries) n.types.items all)) → (is_source n.kind ≡ false → entries ≡ []) → HasLines told n entries None
given_ok told content n entries known answer none = record {
  source = λ is. let a = subst (λ (o : Option (List ℕ)). IfSome o (λ all. AnswersFile (Ok entries) n.types.items all)) (known is) (answer is) in (a.0, a.1, a.2, λ e. a.3);
  other = λ isnt. (none isnt, refl);
}

given_fault : (told : List ℕ → List ℕ) (content : List ℕ → Option (List ℕ)) (n : PlanNode) (refusal : Refusal) → (is_source n.kind ≡ true → content (file_of n.kind) ≡ Some (told (file_of n.kind)))
    → (is_source n.kind ≡ true → IfSome (content (file_of n.kind)) (λ all. AnswersFile (Err (unread.Refused refusal)) n.types.items all)) → (is_source n.kind ≡ false → ⊥) → HasLines told n [] (Some refusal)
given_fault told content n refusal known answer none = record {
  source = λ is. let a = subst (λ (o : Option (List ℕ)). IfSome o (λ all. AnswersFile (Err (unread.Refused refusal)) n.types.items all)) (known is) (answer is) in (a.0, a.1, a.2, λ e. absurd (let x = e in cc));
  other = λ isnt. absurd (none isnt);
}

given_push : (told : List ℕ → List ℕ) (nodes : List PlanNode) (ls : ByLine) (faults : List (Option Refusal)) (n : PlanNode) (l : List (List Message)) (f : Option Refusal) → AllHaveLines told nodes ls faults → HasLines told n l f → AllHaveLines told (nodes ++ n ∷ []) (ls ++ l ∷ []) (faults ++ f ∷ [])
given_push told [] [] [] n l f h g = (g, tt)
given_push told [] (x ∷ ls) faults n l f h g = absurd h
given_push told [] [] (x ∷ faults) n l f h g = absurd h
given_push told (m ∷ nodes) [] faults n l f h g = absurd h
given_push told (m ∷ nodes) (x ∷ ls) [] n l f h g = absurd h
given_push told (m ∷ nodes) (x ∷ ls) (y ∷ faults) n l f h g = (h.0, given_push told nodes ls faults n l f h.1 g)

given_count : (told : List ℕ → List ℕ) (nodes : List PlanNode) (ls : ByLine) (faults : List (Option Refusal)) → AllHaveLines told nodes ls faults → length faults ≡ length nodes
given_count told [] [] [] h = refl
given_count told [] (x ∷ ls) faults h = absurd h
given_count told [] [] (x ∷ faults) h = absurd h
given_count told (m ∷ nodes) [] faults h = absurd h
given_count told (m ∷ nodes) (x ∷ ls) [] h = absurd h
given_count told (m ∷ nodes) (x ∷ ls) (y ∷ faults) h = ap (λ k. suc k) (given_count told nodes ls faults h.1)

faulty_push : (place : ℕ) (faults : List (Option Refusal)) (f : Option Refusal) → faulty_from place (faults ++ f ∷ []) ≡ faulty_from place faults ++ fault_here (place + length faults) f
faulty_push place [] f = let here : place ≡ place + 0 = omega arith in append-nil (fault_here place f) ∙ ap (λ (k : ℕ). fault_here k f) here
faulty_push place (x ∷ faults) f =
    let here : place + 1 + length faults ≡ place + suc (length faults) = omega arith in
    ap (λ (fs : List FaultySource). fault_here place x ++ fs) (faulty_push (place + 1) faults f ∙ ap (λ (k : ℕ). faulty_from (place + 1) faults ++ fault_here k f) here)
    ∙ sym (append_assoc (fault_here place x) (faulty_from (place + 1) faults) (fault_here (place + suc (length faults)) f))

-- nothing was read yet
pub read_none : (told : List ℕ → List ℕ) (left : ByLine) (faulty : List FaultySource) → left ≡ [] → faulty ≡ [] → AreReadByLine told [] left faulty
read_none told left faulty no_left no_faulty = record { faults = []; given = subst (λ (ls : ByLine). AllHaveLines told [] ls []) (sym no_left) tt; faulty_are = no_faulty }

read_push : (told : List ℕ → List ℕ) (nodes : List PlanNode) (left left' : ByLine) (faulty faulty' : List FaultySource) (n : PlanNode) (l : List (List Message)) (f : Option Refusal) → AreReadByLine told nodes left faulty → HasLines told n l f
    → left' ≡ left ++ l ∷ [] → faulty' ≡ faulty ++ fault_here (length nodes) f → AreReadByLine told (nodes ++ n ∷ []) left' faulty'
read_push told nodes left left' faulty faulty' n l f h g left_is faulty_is = record {
  faults = h.faults ++ f ∷ [];
  given = subst (λ (ls : ByLine). AllHaveLines told (nodes ++ n ∷ []) ls (h.faults ++ f ∷ [])) (sym left_is) (given_push told nodes left h.faults n l f h.given g);
  faulty_are = faulty_is
      ∙ (ap (λ (fs : List FaultySource). fs ++ fault_here (length nodes) f) h.faulty_are
      ∙ (ap (λ (k : ℕ). faulty_from 0 h.faults ++ fault_here k f) (let e : length nodes ≡ 0 + length h.faults = omega (arith, given_count told nodes left h.faults h.given) in e) ∙ sym (faulty_push 0 h.faults f)));
}

-- one node more was read and noted
pub read_more : (told : List ℕ → List ℕ) (content : List ℕ → Option (List ℕ)) (nodes : List PlanNode) (old new : ReadSoFar) (n : PlanNode) (read : Result (List (List Message)) Unread) (place : ℕ) → length nodes ≡ place
    → AreTold content told (files_of n) → AreReadByLine told nodes old.left.items old.faulty.items
    → (is_source n.kind ≡ true → IfSome (content (file_of n.kind)) (λ all. AnswersFile read n.types.items all)) → (is_source n.kind ≡ false → IsNothing read) → Notes read old new place → AreReadByLine told (nodes ++ n ∷ []) new.left.items new.faulty.items
read_more told content nodes old new n (Ok entries) place here known h answer none noted =
    read_push told nodes old.left.items new.left.items old.faulty.items new.faulty.items n entries None h
    (given_ok told content n entries (λ is. told_source content told n (is_source n.kind) refl is known) answer none) noted.0 (noted.1 ∙ sym (append-nil old.faulty.items))
read_more told content nodes old new n (Err (unread.Refused refusal)) place here known h answer none noted =
    read_push told nodes old.left.items new.left.items old.faulty.items new.faulty.items n [] (Some refusal) h
    (given_fault told content n refusal (λ is. told_source content told n (is_source n.kind) refl is known) answer none) noted.0
    (noted.1 ∙ ap (λ (k : ℕ). old.faulty.items ++ record { place = k; refusal = refusal } ∷ []) (sym here))
read_more told content nodes old new n (Err unread.Failed) place here known h answer none noted = absurd noted
read_more told content nodes old new n (Err unread.OutOfMemory) place here known h answer none noted = absurd noted

-- ---- names, counts and lists of one node more

-- what is noted was read, so its file was asked for
pub asked_on : (read : Result (List (List Message)) Unread) (old new : ReadSoFar) (place : ℕ) (before after names : List (List ℕ)) → Notes read old new place → AsksSource read before after names → after ≡ before ++ names
asked_on (Ok entries) old new place before after names noted asked = asked
asked_on (Err (unread.Refused refusal)) old new place before after names noted asked = asked
asked_on (Err unread.Failed) old new place before after names noted asked = absurd noted
asked_on (Err unread.OutOfMemory) old new place before after names noted asked = absurd noted

-- and nothing failed
pub counted_on : (read : Result (List (List Message)) Unread) (old new : ReadSoFar) (place before after : ℕ) → Notes read old new place → CountsSource read before after → after ≡ before
counted_on (Ok entries) old new place before after noted counted = counted
counted_on (Err (unread.Refused refusal)) old new place before after noted counted = counted
counted_on (Err unread.Failed) old new place before after noted counted = absurd noted
counted_on (Err unread.OutOfMemory) old new place before after noted counted = absurd noted

-- one node more has a list that may be its own
pub sources_on : (nodes : List PlanNode) (place : ℕ) (old new : ReadSoFar) (n : PlanNode) (read : Result (List (List Message)) Unread) → SourcesUpTo nodes place old.left.items → place < length nodes → get_or nodes place n ≡ n
    → IfOk read (λ entries. IsLegal (messages_in entries)) → (is_source n.kind ≡ false → IsNothing read) → Notes read old new place → SourcesUpTo nodes (place + 1) new.left.items
sources_on nodes place old new n (Ok entries) h within here legal none noted = subst (SourcesUpTo nodes (place + 1)) (sym noted.0) (sources_push nodes old.left.items entries n place h within here legal none)
sources_on nodes place old new n (Err (unread.Refused refusal)) h within here legal none noted = subst (SourcesUpTo nodes (place + 1)) (sym noted.0) (sources_push nodes old.left.items [] n place h within here tt (λ isnt. refl))
sources_on nodes place old new n (Err unread.Failed) h within here legal none noted = absurd noted
sources_on nodes place old new n (Err unread.OutOfMemory) h within here legal none noted = absurd noted

-- ---- messages

-- what was read line by line are the messages
as_messages : (told : List ℕ → List ℕ) (n : PlanNode) (entries : List (List Message)) (fault : Option Refusal) → HasLines told n entries fault → HasGiven told n (messages_in entries) fault
as_messages told n entries fault h = record {
  source = λ is. let s = h.source is in (s.0, s.1, s.2, λ none. ap messages_in (s.3 none) ∙ by_line s.0 (told (file_of n.kind)));
  other = λ isnt. let o = h.other isnt in (ap messages_in o.0, o.1);
}

all_as_messages : (told : List ℕ → List ℕ) (nodes : List PlanNode) (lines : ByLine) (faults : List (Option Refusal)) → AllHaveLines told nodes lines faults → AllHaveGiven told nodes (all_messages lines) faults
all_as_messages told [] [] [] h = tt
all_as_messages told [] (l ∷ ls) faults h = absurd h
all_as_messages told [] [] (f ∷ faults) h = absurd h
all_as_messages told (n ∷ nodes) [] faults h = absurd h
all_as_messages told (n ∷ nodes) (l ∷ ls) [] h = absurd h
all_as_messages told (n ∷ nodes) (l ∷ ls) (f ∷ faults) h = (as_messages told n l f h.0, all_as_messages told nodes ls faults h.1)

-- so the messages of the sources were read
pub messages_read : (told : List ℕ → List ℕ) (nodes : List PlanNode) (lines : ByLine) (faulty : List FaultySource) → AreReadByLine told nodes lines faulty → AreRead told nodes (all_messages lines) faulty
messages_read told nodes lines faulty read = record { faults = read.faults; given = all_as_messages told nodes lines read.faults read.given; faulty_are = read.faulty_are }
