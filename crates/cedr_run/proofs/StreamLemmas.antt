-- What is written of a list of changes, as more of it is read.
use Rattle.std.proofs.Common.{◌≡◌, ℕ, ◌≤◌, List, [], ◌++◌, length, drop, min, refl, ap, sym, ◌∙◌, subst, arith, append_assoc, length-drop}
use Rattle.std.specs.Prelude.{Option}
use Rattle.std.specs.Io.KnownBytes.{Appends}
use Rattle.std.proofs.KnownBytes.{Appends-nil, Appends-trans}
use Rattle.std.proofs.lemmas.List.{drop_at, take-append-le, take_all, take_min}
use Rattle.std.proofs.lemmas.List.Concat.{flat_map-append}
use mathlib.Core.List.{IsPrefix}
use Rattle.cedr_base.specs.declared.change.Change.{Change}
use Rattle.cedr_history.specs.Ends.{part}
use Rattle.cedr_io.specs.Asked.{AppendsFront}
use Rattle.cedr_io.specs.Counts.{Rose}
use Rattle.plan_answer.specs.Queries.{changes_text}
use Rattle.cedr_text.specs.Texts.{change_text}
use Rattle.cedr_run.specs.declared.progress.Progress.{Progress}
use Rattle.cedr_run.specs.declared.progress.Progress.TheVariants as progress
use Rattle.cedr_commands.specs.Seen.{SinkSeen}
use Rattle.cedr_run.specs.Threads.{WroteList}
use Rattle.plan_live.proofs.ShownLemmas.{front_along}

-- ---- fronts of texts

-- a front of a text is one of each text that goes on from it
pub front_longer : (old new : Option (List ℕ)) (text more : List ℕ) → AppendsFront old new text → AppendsFront old new (text ++ more)
front_longer old new text more front =
    let least = min front.count (length text) in
    let within : least ≤ length text = omega arith in
    record {
      count = least;
      grows = subst (Appends old new) (sym (take-append-le least text more within ∙ take_min front.count text)) front.grows;
    }

-- and so is one of the lines of changes, where more follow
pub lines_longer : (old new : Option (List ℕ)) (list more : List Change) → AppendsFront old new (changes_text list) → AppendsFront old new (changes_text (list ++ more))
lines_longer old new list more front = subst (AppendsFront old new) (sym (flat_map-append change_text list more)) (front_longer old new (changes_text list) (changes_text more) front)

-- ---- what is written of a list

-- at the start nothing is
pub wrote_none : (out : SinkSeen) → WroteList progress.Whole out out []
wrote_none out = (refl, Appends-nil out.written)

-- what was written is a front of the lines
pub wrote_front : (by : Progress) (out out' : SinkSeen) (list : List Change) → WroteList by out out' list → AppendsFront out.written out'.written (changes_text list)
wrote_front progress.Whole out out' list wrote = record { count = length (changes_text list); grows = subst (Appends out.written out'.written) (sym (take_all (length (changes_text list)) (changes_text list) (omega arith))) wrote.1 }
wrote_front progress.Refused out out' list wrote = wrote.1
wrote_front progress.Lacked out out' list wrote = wrote.1

-- where nothing more is written, that is so of a longer list
module _ (start out : SinkSeen) (list more : List Change) where
  pub stays_written : (by : Progress) → (by ≡ progress.Whole → ⊥) → WroteList by start out list → WroteList by start out (list ++ more)
  stays_written progress.Whole broken wrote = absurd (broken refl)
  stays_written progress.Refused broken wrote = (wrote.0, lines_longer start.written out.written list more wrote.1)
  stays_written progress.Lacked broken wrote = (wrote.0, lines_longer start.written out.written list more wrote.1)

-- more lines were written, or a front of them
module _ (start out out' : SinkSeen) (list more : List Change) (was : WroteList progress.Whole start out list) where
  pub wrote_more : Appends out.written out'.written (changes_text more) → out'.faults ≡ out.faults → WroteList progress.Whole start out' (list ++ more)
  wrote_more wrote counted = (counted ∙ was.0, subst (Appends start.written out'.written) (sym (flat_map-append change_text list more)) (Appends-trans start.written out.written out'.written (changes_text list) (changes_text more) was.1 wrote))

  front_more : AppendsFront out.written out'.written (changes_text more) → AppendsFront start.written out'.written (changes_text (list ++ more))
  front_more wrote = subst (AppendsFront start.written out'.written) (sym (flat_map-append change_text list more)) (front_along start.written out.written out'.written (changes_text list) (changes_text more) was.1 wrote)

  pub refused_more : AppendsFront out.written out'.written (changes_text more) → Rose out.faults out'.faults → WroteList progress.Refused start out' (list ++ more)
  refused_more wrote rose = (subst (λ n. Rose n out'.faults) was.0 rose, front_more wrote)

  pub lacked_more : AppendsFront out.written out'.written (changes_text more) → out'.faults ≡ out.faults → WroteList progress.Lacked start out' (list ++ more)
  lacked_more wrote counted = (counted ∙ was.0, front_more wrote)

-- ---- what is read of a list

-- a list is what was read of it before, and the part that is read now
pub read_more : (list old new : List Change) (max len : ℕ) (before read text : List Change) → IsPrefix list old → IsPrefix old new → len ≡ length new → len ≤ max → before ≡ [] → read ≡ before ++ part (length list) max new → text ≡ read → new ≡ list ++ text
read_more list old new max len before read text first later long room none is same =
    let rest = first.0 ++ later.0 in
    let whole : new ≡ list ++ rest = sym later.1 ∙ (ap (λ (cs : List Change). cs ++ later.0) (sym first.1) ∙ append_assoc list first.0 later.0) in
    let behind : drop (length list) new ≡ rest = ap (drop (length list)) whole ∙ drop_at list rest (length list) refl in
    let short : length (drop (length list) new) ≤ max = omega (arith, length-drop (length list) new, long, room) in
    whole ∙ ap (λ (cs : List Change). list ++ cs) (sym (same ∙ (is ∙ (ap (λ (cs : List Change). cs ++ part (length list) max new) none ∙ (take_all max (drop (length list) new) short ∙ behind)))))
