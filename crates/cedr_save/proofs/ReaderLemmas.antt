-- Bytes that are read line by line.
use Rattle.std.proofs.Common.{◌≡◌, ◌≢◌, ℕ, ◌+◌, ◌≤◌, List, [], ◌∷◌, ◌++◌, length, Bool, true, false, refl, ap, sym, ◌∙◌, subst, arith, length-append, eqb}
use Rattle.std.specs.Prelude.{Ok, MatchBool}
use Rattle.std.specs.List.{onto_first}
use Rattle.std.proofs.lemmas.Bool.{or_from}
use Rattle.std.proofs.lemmas.List.Splits.{slice_split-cons_yes, slice_split-cons_no}
use Rattle.cedr_base.specs.Bytes.{line_feed}
use Rattle.cedr_text.specs.Lines.{has_line_feed}
use Rattle.cedr_text.specs.Parts.{parts_of}
use Rattle.cedr_text.proofs.Cuts.{few_parts}
use Rattle.cedr_plan.specs.declared.plan.PlanNode.{PlanNode}
use Rattle.cedr_save.specs.declared.reader.TheConstants.{CHECKPOINT_LIMIT}
use Rattle.cedr_save.specs.declared.states.Spot.{Spot}
use Rattle.cedr_save.specs.declared.states.Spot.TheVariants.{Head, Begun, InSource, Ended}
use Rattle.cedr_save.specs.declared.states.StateReader.{StateReader}
use Rattle.cedr_save.specs.Checkpoints.{Source, plan_sources, AreSaved, checkpoint_lines}
use Rattle.cedr_save.specs.Lines.{ComesNext, IsFront}
use Rattle.cedr_save.specs.Reading.{StandsAtSpot, Stands, is_ended_spot, read_states, AreNamed, ReadsLines}
use Rattle.cedr_save.specs.Refusals.{IsBadLine}
use Rattle.cedr_save.proofs.GoOnLemmas.{refused_line, refused_front, stopped_front, stopped, whole_text, none_isnt_all, head_isnt_all, source_isnt_all}
use Rattle.cedr_save.proofs.ListLemmas.{AreWhole, some_cut}
use Rattle.cedr_save.proofs.StandLemmas.{reach}

-- some lines of bytes were taken, and these parts are left
pub record IsReadTo (reader : StateReader) (nodes : List PlanNode) (bytes : List ℕ) (number : ℕ) (parts : List (List ℕ)) : Type 0 where
  pub before : List (List ℕ)
  pub stands : Stands reader nodes before
  pub all : parts_of line_feed bytes ≡ before ++ parts
  pub count : number ≡ length before
  pub some : parts ≢ []

-- as many lines as bytes may have at most
pub counted : (bytes : List ℕ) (before parts : List (List ℕ)) → parts_of line_feed bytes ≡ before ++ parts → length bytes ≤ CHECKPOINT_LIMIT → length before + length parts ≤ CHECKPOINT_LIMIT + 1
counted bytes before parts all short = omega (arith, few_parts (λ b. eqb b line_feed) bytes, ap length all, length-append before parts)

isnt_all_at : (spot : Spot) (reader : StateReader) (nodes : List PlanNode) (before : List (List ℕ)) → StandsAtSpot spot reader nodes before → is_ended_spot spot ≡ false → (states : List _) → AreSaved (plan_sources nodes) states → before ≡ checkpoint_lines (plan_sources nodes) states → ⊥
isnt_all_at Head reader nodes before stands none states saved is = none_isnt_all (plan_sources nodes) states (sym stands.0 ∙ is)
isnt_all_at Begun reader nodes before stands none states saved is = head_isnt_all (plan_sources nodes) states (sym stands.0 ∙ is)
isnt_all_at InSource reader nodes before stands none states saved is =
    source_isnt_all stands.front stands.source _ _ states reader.mark reader.events.items stands.saved stands.open_saved.ids (subst (λ (ss : List Source). AreSaved ss states) stands.sources saved)
    (sym stands.lines ∙ (is ∙ ap (λ (ss : List Source). checkpoint_lines ss states) stands.sources))
isnt_all_at Ended reader nodes before stands none states saved is = absurd (let e = none in cc)

-- where not all lines were taken, and none is left, the text stops early
pub stops : (reader : StateReader) (nodes : List PlanNode) (bytes : List ℕ) (before : List (List ℕ)) → AreNamed (plan_sources nodes) → Stands reader nodes before → parts_of line_feed bytes ≡ before ++ [] ∷ [] → is_ended_spot reader.spot ≡ false
    → IsBadLine (plan_sources nodes) bytes (length before + 1)
stops reader nodes bytes before named stands parts none = stopped (plan_sources nodes) bytes before named parts (reach reader nodes before stands) (isnt_all_at reader.spot reader nodes before stands none)

reads_all_at : (spot : Spot) (reader : StateReader) (nodes : List PlanNode) (bytes : List ℕ) (before : List (List ℕ)) → StandsAtSpot spot reader nodes before → parts_of line_feed bytes ≡ before ++ [] ∷ [] → is_ended_spot spot ≡ true → ReadsLines (Ok tt) reader nodes bytes
reads_all_at Head reader nodes bytes before stands parts is = absurd (let e = is in cc)
reads_all_at Begun reader nodes bytes before stands parts is = absurd (let e = is in cc)
reads_all_at InSource reader nodes bytes before stands parts is = absurd (let e = is in cc)
reads_all_at Ended reader nodes bytes before stands parts is = (stands.saved, stands.bare, whole_text (plan_sources nodes) bytes before (read_states reader) parts stands.lines)

-- where all were taken the bytes are a checkpoint's text
pub reads_all : (reader : StateReader) (nodes : List PlanNode) (bytes : List ℕ) (before : List (List ℕ)) → Stands reader nodes before → parts_of line_feed bytes ≡ before ++ [] ∷ [] → is_ended_spot reader.spot ≡ true → ReadsLines (Ok tt) reader nodes bytes
reads_all reader nodes bytes before stands parts is = reads_all_at reader.spot reader nodes bytes before stands parts is

-- a line that may not come next is the bad one
pub refuses : (reader : StateReader) (nodes : List PlanNode) (bytes : List ℕ) (before : List (List ℕ)) (line next : List ℕ) (others : List (List ℕ)) → AreNamed (plan_sources nodes) → Stands reader nodes before → parts_of line_feed bytes ≡ before ++ line ∷ next ∷ others
    → (ComesNext (plan_sources nodes) before line → ⊥) → IsBadLine (plan_sources nodes) bytes (length before + 1)
refuses reader nodes bytes before line next others named stands parts never = refused_line (plan_sources nodes) bytes before line next others named parts (reach reader nodes before stands) never

pub refuses_front : (reader : StateReader) (nodes : List PlanNode) (bytes : List ℕ) (before : List (List ℕ)) (front : List ℕ) → AreNamed (plan_sources nodes) → Stands reader nodes before → front ≢ [] → parts_of line_feed bytes ≡ before ++ front ∷ []
    → (IsFront (plan_sources nodes) before front → ⊥) → IsBadLine (plan_sources nodes) bytes (length before + 1)
refuses_front reader nodes bytes before [] named stands some parts never = absurd (some refl)
refuses_front reader nodes bytes before (b ∷ front) named stands some parts never = refused_front (plan_sources nodes) bytes before b front named parts (reach reader nodes before stands) never

pub stops_front : (reader : StateReader) (nodes : List PlanNode) (bytes : List ℕ) (before : List (List ℕ)) (front : List ℕ) → AreNamed (plan_sources nodes) → Stands reader nodes before → front ≢ [] → parts_of line_feed bytes ≡ before ++ front ∷ []
    → IsFront (plan_sources nodes) before front → IsBadLine (plan_sources nodes) bytes (length before + 2)
stops_front reader nodes bytes before [] named stands some parts may = absurd (some refl)
stops_front reader nodes bytes before (b ∷ front) named stands some parts may = stopped_front (plan_sources nodes) bytes before b front named parts may

-- ---- what stands behind the last line feed

-- nothing, where not all lines were taken
pub end_stops : (reader : StateReader) (nodes : List PlanNode) (bytes : List ℕ) (before : List (List ℕ)) (rest : List ℕ) (number : ℕ) → AreNamed (plan_sources nodes) → Stands reader nodes before → parts_of line_feed bytes ≡ before ++ rest ∷ [] → number ≡ length before + 1
    → rest ≡ [] → is_ended_spot reader.spot ≡ false → IsBadLine (plan_sources nodes) bytes number
end_stops reader nodes bytes before rest number named stands parts count none left =
    subst (IsBadLine (plan_sources nodes) bytes) (sym count) (stops reader nodes bytes before named stands (parts ∙ ap (λ (r : List ℕ). before ++ r ∷ []) none) left)

-- nothing, where all were
pub end_reads : (reader : StateReader) (nodes : List PlanNode) (bytes : List ℕ) (before : List (List ℕ)) (rest : List ℕ) → Stands reader nodes before → parts_of line_feed bytes ≡ before ++ rest ∷ []
    → rest ≡ [] → is_ended_spot reader.spot ≡ true → ReadsLines (Ok tt) reader nodes bytes
end_reads reader nodes bytes before rest stands parts none all = reads_all reader nodes bytes before stands (parts ∙ ap (λ (r : List ℕ). before ++ r ∷ []) none) all

-- a line that goes on
pub end_goes_on : (reader : StateReader) (nodes : List PlanNode) (bytes : List ℕ) (before : List (List ℕ)) (rest : List ℕ) (number : ℕ) (may : Bool) → AreNamed (plan_sources nodes) → Stands reader nodes before → parts_of line_feed bytes ≡ before ++ rest ∷ [] → number ≡ length before + 1
    → rest ≢ [] → MatchBool may (IsFront (plan_sources nodes) before rest) (IsFront (plan_sources nodes) before rest → ⊥) → may ≡ true → IsBadLine (plan_sources nodes) bytes (number + 1)
end_goes_on reader nodes bytes before rest number true named stands parts count some front is =
    subst (IsBadLine (plan_sources nodes) bytes) (omega arith) (stops_front reader nodes bytes before rest named stands some parts front)
end_goes_on reader nodes bytes before rest number false named stands parts count some front is = absurd (let e = is in cc)

-- one that doesn't
pub end_refuses : (reader : StateReader) (nodes : List PlanNode) (bytes : List ℕ) (before : List (List ℕ)) (rest : List ℕ) (number : ℕ) (may : Bool) → AreNamed (plan_sources nodes) → Stands reader nodes before → parts_of line_feed bytes ≡ before ++ rest ∷ [] → number ≡ length before + 1
    → rest ≢ [] → MatchBool may (IsFront (plan_sources nodes) before rest) (IsFront (plan_sources nodes) before rest → ⊥) → may ≡ false → IsBadLine (plan_sources nodes) bytes number
end_refuses reader nodes bytes before rest number true named stands parts count some front is = absurd (let e = is in cc)
end_refuses reader nodes bytes before rest number false named stands parts count some front is =
    subst (IsBadLine (plan_sources nodes) bytes) (sym count) (refuses_front reader nodes bytes before rest named stands some parts front)

-- ---- the parts of bytes

pub some_parts : (bytes : List ℕ) → parts_of line_feed bytes ≡ [] → ⊥
some_parts bytes none = let cut = some_cut bytes in let e = sym cut.parts ∙ none in cc

whole_at : (test : Bool) (b : ℕ) (bs : List ℕ) → eqb b line_feed ≡ test → AreWhole (parts_of line_feed bs) → AreWhole (parts_of line_feed (b ∷ bs))
whole_at true b bs is whole = subst AreWhole (sym (slice_split-cons_yes (λ c. eqb c line_feed) b bs is)) (refl, whole)
whole_at false b bs is whole =
    let cut = some_cut bs in
    let parts = subst AreWhole cut.parts whole in
    subst AreWhole (sym (slice_split-cons_no (λ c. eqb c line_feed) b bs is ∙ ap (onto_first b) cut.parts)) (or_from (eqb b line_feed) (has_line_feed cut.first) is parts.0, parts.1)

parts_whole : (bytes : List ℕ) → AreWhole (parts_of line_feed bytes)
parts_whole [] = (refl, tt)
parts_whole (b ∷ bs) = whole_at (eqb b line_feed) b bs refl (parts_whole bs)

whole_there : (before : List (List ℕ)) (line : List ℕ) (others : List (List ℕ)) → AreWhole (before ++ line ∷ others) → has_line_feed line ≡ false
whole_there [] line others whole = whole.0
whole_there (first ∷ before) line others whole = whole_there before line others whole.1

-- none has a line feed
pub part_whole : (bytes : List ℕ) (before parts : List (List ℕ)) (line : List ℕ) (others : List (List ℕ)) → parts_of line_feed bytes ≡ before ++ parts → parts ≡ line ∷ others → has_line_feed line ≡ false
part_whole bytes before parts line others all is =
    whole_there before line others (subst AreWhole (all ∙ ap (λ (ps : List (List ℕ)). before ++ ps) is) (parts_whole bytes))

-- a line that may not come, with others behind it
pub line_refused : (reader : StateReader) (nodes : List PlanNode) (bytes : List ℕ) (number : ℕ) (parts : List (List ℕ)) (line : List ℕ) (others : List (List ℕ)) (taken : Bool) (next : StateReader) → AreNamed (plan_sources nodes) → (read : IsReadTo reader nodes bytes number parts) → parts ≡ line ∷ others → others ≢ []
    → ((before : List (List ℕ)) → Stands reader nodes before → MatchBool taken (Stands next nodes (before ++ line ∷ [])) (ComesNext (plan_sources nodes) before line → ⊥)) → taken ≡ false → IsBadLine (plan_sources nodes) bytes (number + 1)
line_refused reader nodes bytes number parts line [] taken next named read is some takes refused = absurd (some refl)
line_refused reader nodes bytes number parts line (other ∷ others) true next named read is some takes refused = absurd (let e = refused in cc)
line_refused reader nodes bytes number parts line (other ∷ others) false next named read is some takes refused =
    subst (λ (n : ℕ). IsBadLine (plan_sources nodes) bytes (n + 1)) (sym read.count)
    (refuses reader nodes bytes read.before line other others named read.stands (read.all ∙ ap (λ (ps : List (List ℕ)). read.before ++ ps) is) (takes read.before read.stands))

pub none_there : (bytes : List ℕ) → length bytes ≡ 0 → bytes ≡ []
none_there [] is = refl
none_there (b ∷ bytes) is = absurd (omega arith)
