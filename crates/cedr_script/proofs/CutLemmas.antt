-- What comes first of the lines that are left.
use Rattle.std.proofs.Common.{◌≡◌, ℕ, zero, suc, ◌+◌, ◌<◌, ◌==◌, ◌⊎◌, inl, inr, List, [], ◌∷◌, ◌++◌, Bool, true, false, cond, length, get_or, take, drop, map, refl, ap, sym, ◌∙◌, arith, append_assoc, append-nil, Option, None, Some}
use Rattle.std.proofs.lemmas.Bool.{or_parts, or_from, lt-ltb, eqb-true}
use Rattle.std.proofs.lemmas.List.{length-append}
use Rattle.std.specs.List.{onto_first}
use Rattle.std.proofs.lemmas.List.Splits.{slice_split-cons_no}
use Rattle.std.proofs.lemmas.List.Folds.{list_any-append}
use Rattle.std.proofs.Math.Seq.{drop-length}
use Rattle.cedr_base.specs.Bytes.{line_feed}
use Rattle.cedr_text.specs.Parts.{parts_of}
use Rattle.cedr_text.specs.Lines.{without_return, without_empty_end, raw_lines, has_line_feed, IsLineEnd}
use Rattle.cedr_text.specs.declared.lines.TheConstants.{LINE_LIMIT}
use Rattle.cedr_text.proofs.LineLemmas.{line_ends, kept_front}
use Rattle.cedr_script.specs.Begun.{Begun}
use Rattle.cedr_script.specs.declared.cutter.CutStep.{CutStep}
use Rattle.cedr_script.specs.declared.cutter.CutStep.TheVariants as step
use Rattle.cedr_script.specs.Cutting.{behind_feed, line_answer, script_answers, answers_left, step_answers, BeginsOn, Cuts}

-- ---- behind the first line feed

-- bytes without a line feed are left out whole
pub behind_none : (piece more : List ℕ) → has_line_feed piece ≡ false → behind_feed (piece ++ more) ≡ behind_feed more
behind_none [] more none = refl
behind_none (b ∷ piece) more none =
    let parts = or_parts (b == line_feed) (has_line_feed piece) none in
    ap (λ (t : Bool). cond t (piece ++ more) (behind_feed (piece ++ more))) parts.0 ∙ behind_none piece more parts.1

-- behind the place of the first line feed stands the rest
pub behind_end : (piece : List ℕ) (end : ℕ) (more : List ℕ) → end < length piece → has_line_feed (take end piece) ≡ false → get_or piece end 0 ≡ line_feed → behind_feed (piece ++ more) ≡ drop (end + 1) piece ++ more
behind_end [] end more within none here = absurd (omega arith)
behind_end (b ∷ piece) zero more within none here = ap (λ (t : Bool). cond t (piece ++ more) (behind_feed (piece ++ more))) (ap (λ (n : ℕ). n == line_feed) here)
behind_end (b ∷ piece) (suc end) more within none here =
    let parts = or_parts (b == line_feed) (has_line_feed (take end piece)) none in
    let place : suc (end + 1) ≡ suc end + 1 = omega arith in
    ap (λ (t : Bool). cond t (piece ++ more) (behind_feed (piece ++ more))) parts.0
    ∙ (behind_end piece end more (omega arith) parts.1 here ∙ ap (λ (n : ℕ). drop n (b ∷ piece) ++ more) place)

-- some bytes have no line feed, or there is a first one
abbrev FirstFeed : List ℕ → Type 0
FirstFeed bytes = (has_line_feed bytes ≡ false) ⊎ ((end : ℕ) × IsLineEnd bytes end)

feed_later : (b : ℕ) (bytes : List ℕ) → b == line_feed ≡ false → FirstFeed bytes → FirstFeed (b ∷ bytes)
feed_later b bytes other (inl none) = inl (or_from (b == line_feed) (has_line_feed bytes) other none)
feed_later b bytes other (inr found) =
    let e = found.1 in
    let inside = e.within in
    inr (suc found.0, record { within = omega arith; none = or_from (b == line_feed) (has_line_feed (take found.0 bytes)) other e.none; here = e.here })

feed_at : (b : ℕ) (bytes : List ℕ) (t : Bool) → b == line_feed ≡ t → FirstFeed bytes → FirstFeed (b ∷ bytes)
feed_at b bytes true is rest = inr (0, record { within = omega arith; none = refl; here = eqb-true b line_feed is })
feed_at b bytes false is rest = feed_later b bytes is rest

first_feed : (bytes : List ℕ) → FirstFeed bytes
first_feed [] = inl refl
first_feed (b ∷ bytes) = feed_at b bytes (b == line_feed) refl (first_feed bytes)

-- ---- the first line

onto_at : (parts : List (List ℕ)) (b : ℕ) (q : List ℕ) (qs : List (List ℕ)) → without_empty_end parts ≡ q ∷ qs → without_empty_end (onto_first b parts) ≡ (b ∷ q) ∷ qs
onto_at [] b q qs is = absurd (let e = is in cc)
onto_at ([] ∷ []) b q qs is = absurd (let e = is in cc)
onto_at ((c ∷ cs) ∷ []) b q qs is = cc
onto_at (part ∷ next ∷ parts) b q qs is =
    let both : part ∷ without_empty_end (next ∷ parts) ≡ q ∷ qs = sym (kept_front part next parts) ∙ is in
    kept_front (b ∷ part) next parts ∙ (let e = both in cc)

-- a byte that is no line feed stands in front of the first line
onto_raw : (b : ℕ) (bytes q : List ℕ) (qs : List (List ℕ)) → b == line_feed ≡ false → raw_lines bytes ≡ q ∷ qs → raw_lines (b ∷ bytes) ≡ (b ∷ q) ∷ qs
onto_raw b bytes q qs other is = ap without_empty_end (slice_split-cons_no (λ c. c == line_feed) b bytes other) ∙ onto_at (parts_of line_feed bytes) b q qs is

-- and so do bytes without a line feed
joined_raw : (begun bytes q : List ℕ) (qs : List (List ℕ)) → has_line_feed begun ≡ false → raw_lines bytes ≡ q ∷ qs → raw_lines (begun ++ bytes) ≡ (begun ++ q) ∷ qs
joined_raw [] bytes q qs none is = is
joined_raw (b ∷ begun) bytes q qs none is =
    let parts = or_parts (b == line_feed) (has_line_feed begun) none in
    onto_raw b (begun ++ bytes) (begun ++ q) qs parts.0 (joined_raw begun bytes q qs parts.1 is)

-- a text without a line feed is one line
one_raw : (text : List ℕ) → has_line_feed text ≡ false → 0 < length text → raw_lines text ≡ text ∷ []
one_raw [] none some = absurd (omega arith)
one_raw (b ∷ []) none some = ap without_empty_end (slice_split-cons_no (λ c. c == line_feed) b [] (or_parts (b == line_feed) false none).0)
one_raw (b ∷ c ∷ cs) none some =
    let parts = or_parts (b == line_feed) (has_line_feed (c ∷ cs)) none in
    onto_raw b (c ∷ cs) (c ∷ cs) [] parts.0 (one_raw (c ∷ cs) parts.1 (omega arith))

-- the line that has begun ends where a line feed comes
pub raw_ended : (begun piece : List ℕ) (end : ℕ) (more : List ℕ) → has_line_feed begun ≡ false → IsLineEnd piece end → raw_lines (begun ++ (piece ++ more)) ≡ (begun ++ take end piece) ∷ raw_lines (drop (end + 1) piece ++ more)
raw_ended begun piece end more none ends =
    let place : suc end ≡ end + 1 = omega arith in
    joined_raw begun (piece ++ more) (take end piece) (raw_lines (drop (suc end) piece ++ more)) none (line_ends piece end ends more)
    ∙ ap (λ (n : ℕ). (begun ++ take end piece) ∷ raw_lines (drop n piece ++ more)) place

-- of a text without a line feed the first line is left out up to its end
raw_begun : (text more : List ℕ) → has_line_feed text ≡ false → 0 < length text → (q : List ℕ) × (raw_lines (text ++ more) ≡ (text ++ q) ∷ raw_lines (behind_feed more))
raw_begun text more none some = begun_at (first_feed more) where
  begun_at : (has_line_feed more ≡ false) ⊎ ((end : ℕ) × IsLineEnd more end) → (q : List ℕ) × (raw_lines (text ++ more) ≡ (text ++ q) ∷ raw_lines (behind_feed more))
  begun_at (inl nowhere) =
      let whole : has_line_feed (text ++ more) ≡ false = list_any-append (λ b. b == line_feed) text more ∙ or_from (has_line_feed text) (has_line_feed more) none nowhere in
      let gone : behind_feed more ≡ [] = ap behind_feed (sym (append-nil more)) ∙ behind_none more [] nowhere in
      (more, one_raw (text ++ more) whole (omega (arith, length-append text more)) ∙ ap (λ (bytes : List ℕ). (text ++ more) ∷ raw_lines bytes) (sym gone))
  begun_at (inr found) =
      let end = found.0 in
      let ends = found.1 in
      let left : behind_feed more ≡ drop (end + 1) more ++ [] = ap behind_feed (sym (append-nil more)) ∙ behind_end more end [] ends.within ends.none ends.here in
      let first : raw_lines more ≡ take end more ∷ raw_lines (drop (end + 1) more ++ []) = ap raw_lines (sym (append-nil more)) ∙ raw_ended [] more end [] refl ends in
      (take end more, joined_raw text more (take end more) (raw_lines (drop (end + 1) more ++ [])) none first ∙ ap (λ (bytes : List ℕ). (text ++ take end more) ∷ raw_lines bytes) (sym left))

-- ---- what is answered

-- a line with too many bytes has no text
pub long_answer : (raw : List ℕ) → LINE_LIMIT < length raw → line_answer raw ≡ None
long_answer raw long = ap (λ (t : Bool). cond t None (Some (without_return raw))) (lt-ltb LINE_LIMIT (length raw) long)

-- the rest of a line that is left out ends
pub left_end : (old : Begun) (piece : List ℕ) (end : ℕ) (more : List ℕ) → old.leaves ≡ true → old.line ≡ [] → IsLineEnd piece end → answers_left old (piece ++ more) ≡ answers_left (record { line = old.line; leaves = false }) (drop (end + 1) piece ++ more)
left_end old piece end more leaves line ends =
    ap (λ (t : Bool). script_answers (cond t (behind_feed (piece ++ more)) (old.line ++ (piece ++ more)))) leaves
    ∙ (ap script_answers (behind_end piece end more ends.within ends.none ends.here)
    ∙ sym (ap (λ (l : List ℕ). script_answers (l ++ (drop (end + 1) piece ++ more))) line))

-- or it doesn't
pub left_none : (old : Begun) (piece more : List ℕ) → old.leaves ≡ true → has_line_feed piece ≡ false → answers_left old (piece ++ more) ≡ answers_left old (drop (length piece) piece ++ more)
left_none old piece more leaves none =
    ap (λ (t : Bool). script_answers (cond t (behind_feed (piece ++ more)) (old.line ++ (piece ++ more)))) leaves
    ∙ (ap script_answers (behind_none piece more none ∙ ap (λ (l : List ℕ). behind_feed (l ++ more)) (sym (drop-length piece)))
    ∙ sym (ap (λ (t : Bool). script_answers (cond t (behind_feed (drop (length piece) piece ++ more)) (old.line ++ (drop (length piece) piece ++ more)))) leaves))

not_yet_at : (said : CutStep) (line : List ℕ) (x : Option (List ℕ)) → step_answers said line ≡ x ∷ [] → said ≡ step.NotYet → ⊥
not_yet_at said line x is not_yet = let e = sym (ap (λ (s : CutStep). step_answers s line) not_yet) ∙ is in cc

-- the line that has begun ended
pub cuts_ended : (said : CutStep) (old new : Begun) (piece : List ℕ) (end : ℕ) (line : List ℕ) → old.leaves ≡ false → has_line_feed old.line ≡ false → IsLineEnd piece end → step_answers said line ≡ line_answer (old.line ++ take end piece) ∷ [] → new ≡ record { line = []; leaves = false }
    → Cuts said old new piece (end + 1) line
cuts_ended said old new piece end line taken none ends is now = record {
  within = let w = ends.within in omega arith;
  some = λ there. omega arith;
  answered = λ more.
      ap (λ (t : Bool). script_answers (cond t (behind_feed (piece ++ more)) (old.line ++ (piece ++ more)))) taken
      ∙ (ap (map line_answer) (raw_ended old.line piece end more none ends)
      ∙ (ap (λ (answers : List (Option (List ℕ))). answers ++ script_answers (drop (end + 1) piece ++ more)) (sym is)
      ∙ ap (λ (b : Begun). step_answers said line ++ answers_left b (drop (end + 1) piece ++ more)) (sym now)));
  all = λ not_yet. absurd (not_yet_at said line (line_answer (old.line ++ take end piece)) is not_yet);
}

-- it goes on, or it is too long
pub cuts_on : (said : CutStep) (old new : Begun) (piece line : List ℕ) → old.leaves ≡ false → has_line_feed old.line ≡ false → has_line_feed piece ≡ false → BeginsOn said old new piece → Cuts said old new piece (length piece) line
cuts_on step.Line old new piece line taken none nowhere goes = absurd goes
cuts_on step.TooLong old new piece line taken none nowhere goes = record {
  within = omega arith;
  some = λ there. there;
  answered = λ more.
      let text = old.line ++ piece in
      let whole : has_line_feed text ≡ false = list_any-append (λ b. b == line_feed) old.line piece ∙ or_from (has_line_feed old.line) (has_line_feed piece) none nowhere in
      let long : LINE_LIMIT < length text = goes.0 in
      let first = raw_begun text more whole (omega arith) in
      ap (λ (t : Bool). script_answers (cond t (behind_feed (piece ++ more)) (old.line ++ (piece ++ more)))) taken
      ∙ (ap script_answers (sym (append_assoc old.line piece more))
      ∙ (ap (map line_answer) first.1
      ∙ (ap (λ (a : Option (List ℕ)). a ∷ script_answers (behind_feed more)) (long_answer (text ++ first.0) (omega (arith, length-append text first.0)))
      ∙ (ap (λ (l : List ℕ). None ∷ script_answers (behind_feed (l ++ more))) (sym (drop-length piece))
      ∙ ap (λ (b : Begun). step_answers step.TooLong line ++ answers_left b (drop (length piece) piece ++ more)) (sym goes.1)))));
  all = λ not_yet. refl;
}
cuts_on step.NotYet old new piece line taken none nowhere goes = record {
  within = omega arith;
  some = λ there. there;
  answered = λ more.
      ap (λ (t : Bool). script_answers (cond t (behind_feed (piece ++ more)) (old.line ++ (piece ++ more)))) taken
      ∙ (ap script_answers (sym (append_assoc old.line piece more))
      ∙ (ap (λ (l : List ℕ). script_answers ((old.line ++ piece) ++ (l ++ more))) (sym (drop-length piece))
      ∙ ap (λ (b : Begun). answers_left b (drop (length piece) piece ++ more)) (sym goes)));
  all = λ not_yet. refl;
}

-- ---- the end

-- what has begun is the last line
pub ends_last : (said : CutStep) (old : Begun) (line : List ℕ) → old.leaves ≡ false → has_line_feed old.line ≡ false → 0 < length old.line → step_answers said line ≡ line_answer (old.line ++ []) ∷ [] → step_answers said line ≡ answers_left old []
ends_last said old line taken none some is =
    is
    ∙ (ap (λ (l : List ℕ). line_answer l ∷ []) (append-nil old.line)
    ∙ (sym (ap (map line_answer) (one_raw old.line none some))
    ∙ (ap script_answers (sym (append-nil old.line))
    ∙ sym (ap (λ (t : Bool). script_answers (cond t [] (old.line ++ []))) taken))))

-- ---- a line without a carriage return

front_at : (b : ℕ) (t : Bool) → take (length (cond t [] (b ∷ []))) (b ∷ []) ≡ cond t [] (b ∷ [])
front_at b true = refl
front_at b false = refl

-- it is the front of the line
pub front_of : (line : List ℕ) → take (length (without_return line)) line ≡ without_return line
front_of [] = refl
front_of (b ∷ []) = front_at b (b == 13)
front_of (b ∷ c ∷ bytes) = ap (λ (bs : List ℕ). b ∷ bs) (front_of (c ∷ bytes))
