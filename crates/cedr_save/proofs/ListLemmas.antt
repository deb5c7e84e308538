-- The lines of bytes: what begins with the text of lines begins with these lines.
use Rattle.std.proofs.Common.{◌≡◌, ℕ, zero, suc, ◌+◌, ◌≤◌, List, [], ◌∷◌, ◌++◌, length, Bool, true, false, cond, eqb, refl, ap, sym, ◌∙◌, arith, append_assoc, append-nil}
use Rattle.std.specs.List.{list_any, onto_first}
use Rattle.std.proofs.lemmas.Bool.{or_parts, eq-eqb}
use Rattle.std.proofs.lemmas.List.Splits.{slice_split-cons_yes, slice_split-cons_no}
use Rattle.cedr_base.specs.Bytes.{line_feed}
use Rattle.cedr_text.specs.Lines.{has_line_feed, without_empty_end}
use Rattle.cedr_text.specs.Parts.{parts_of}
use Rattle.cedr_save.specs.Checkpoints.{ended_lines}
use Rattle.cedr_save.specs.Refusals.{first_lines, line_count}

-- no line has a line feed
abbrev pub AreWhole : List (List ℕ) → Type 0
AreWhole [] = Unit {0}
AreWhole (line ∷ lines) = (has_line_feed line ≡ false) × AreWhole lines

pub whole-append : (xs ys : List (List ℕ)) → AreWhole xs → AreWhole ys → AreWhole (xs ++ ys)
whole-append [] ys whole more = more
whole-append (x ∷ xs) ys whole more = (whole.0, whole-append xs ys whole.1 more)

-- ---- the parts of a text

none_here : (separator b : ℕ) (bs : List ℕ) → list_any (λ c. eqb c separator) (b ∷ bs) ≡ false → (eqb b separator ≡ false) × (list_any (λ c. eqb c separator) bs ≡ false)
none_here separator b bs h = or_parts (eqb b separator) (list_any (λ c. eqb c separator) bs) h

no_feed_parts : (b : ℕ) (bs : List ℕ) → has_line_feed (b ∷ bs) ≡ false → (eqb b line_feed ≡ false) × (has_line_feed bs ≡ false)
no_feed_parts b bs h = none_here line_feed b bs h

-- what a separator ends is the first part
pub part_before : (separator : ℕ) (part rest : List ℕ) → list_any (λ c. eqb c separator) part ≡ false → parts_of separator (part ++ separator ∷ rest) ≡ part ∷ parts_of separator rest
part_before separator [] rest none = slice_split-cons_yes (λ b. eqb b separator) separator rest (eq-eqb separator separator refl)
part_before separator (b ∷ part) rest none =
    let parts = none_here separator b part none in
    slice_split-cons_no (λ c. eqb c separator) b (part ++ separator ∷ rest) parts.0 ∙ ap (onto_first b) (part_before separator part rest parts.1)

-- and bytes without one are the only part
pub part_alone : (separator : ℕ) (part : List ℕ) → list_any (λ c. eqb c separator) part ≡ false → parts_of separator part ≡ part ∷ []
part_alone separator [] none = refl
part_alone separator (b ∷ part) none =
    let parts = none_here separator b part none in
    slice_split-cons_no (λ c. eqb c separator) b part parts.0 ∙ ap (onto_first b) (part_alone separator part parts.1)

-- a line that ends is the first part
pub part_ended : (line rest : List ℕ) → has_line_feed line ≡ false → parts_of line_feed (line ++ line_feed ∷ rest) ≡ line ∷ parts_of line_feed rest
part_ended line rest none = part_before line_feed line rest none

-- and so are lines that end
pub parts_ended : (lines : List (List ℕ)) (rest : List ℕ) → AreWhole lines → parts_of line_feed (ended_lines lines ++ rest) ≡ lines ++ parts_of line_feed rest
parts_ended [] rest whole = refl
parts_ended (line ∷ lines) rest whole =
    ap (parts_of line_feed) (append_assoc (line ++ line_feed ∷ []) (ended_lines lines) rest ∙ append_assoc line (line_feed ∷ []) (ended_lines lines ++ rest))
    ∙ (part_ended line (ended_lines lines ++ rest) whole.0 ∙ ap (λ (ps : List (List ℕ)). line ∷ ps) (parts_ended lines rest whole.1))

-- what a text's parts are: a first one, and others
pub record IsCut (bytes : List ℕ) : Type 0 where
  pub first : List ℕ
  pub others : List (List ℕ)
  pub parts : parts_of line_feed bytes ≡ first ∷ others

some_cut_at : (test : Bool) (b : ℕ) (bs : List ℕ) → eqb b line_feed ≡ test → IsCut bs → IsCut (b ∷ bs)
some_cut_at true b bs is cut = record { first = []; others = parts_of line_feed bs; parts = slice_split-cons_yes (λ b. eqb b line_feed) b bs is }
some_cut_at false b bs is cut = record {
  first = b ∷ cut.first;
  others = cut.others;
  parts = slice_split-cons_no (λ b. eqb b line_feed) b bs is ∙ ap (onto_first b) cut.parts;
}

pub some_cut : (bytes : List ℕ) → IsCut bytes
some_cut [] = record { first = []; others = []; parts = refl }
some_cut (b ∷ bs) = some_cut_at (eqb b line_feed) b bs refl (some_cut bs)

-- bytes without a line feed go on in the first part
pub part_front : (front more first : List ℕ) (others : List (List ℕ)) → has_line_feed front ≡ false → parts_of line_feed more ≡ first ∷ others → parts_of line_feed (front ++ more) ≡ (front ++ first) ∷ others
part_front [] more first others none is = is
part_front (b ∷ front) more first others none is =
    let parts = no_feed_parts b front none in
    slice_split-cons_no (λ b. eqb b line_feed) b (front ++ more) parts.0 ∙ ap (onto_first b) (part_front front more first others parts.1 is)

-- the parts of lines that end are these and an empty one
pub parts_of_lines : (lines : List (List ℕ)) → AreWhole lines → parts_of line_feed (ended_lines lines) ≡ lines ++ [] ∷ []
parts_of_lines lines whole = ap (parts_of line_feed) (sym (append-nil (ended_lines lines))) ∙ parts_ended lines [] whole

-- ---- a list that begins as another

-- a list goes on behind the front of another with this element
pub record GoesOnWith {X : Type 0} (all front : List X) (x : X) : Type 0 where
  pub more : List X
  pub is : all ≡ front ++ x ∷ more

pub first_same : {X : Type 0} (x y : X) (xs ys : List X) → ◌≡◌ {A = List X} (x ∷ xs) (y ∷ ys) → x ≡ y
first_same x y xs ys h = cc

pub rest_same : {X : Type 0} (x y : X) (xs ys : List X) → ◌≡◌ {A = List X} (x ∷ xs) (y ∷ ys) → xs ≡ ys
rest_same x y xs ys h = cc

-- all elements of a list but the last one begin with a front and one more, where more than one stands behind
pub goes_on_before : {X : Type 0} (all front : List X) (last x next : X) (more : List X) → all ++ last ∷ [] ≡ front ++ x ∷ next ∷ more → GoesOnWith all front x
goes_on_before [] [] last x next more h = absurd (none last x next more h) where
  none : {X : Type 0} (last x next : X) (more : List X) → ◌≡◌ {A = List X} (last ∷ []) (x ∷ next ∷ more) → ⊥
  none last x next more h = let e = rest_same last x [] (next ∷ more) h in cc
goes_on_before [] (y ∷ front) last x next more h = absurd (none front x next more (rest_same last y [] (front ++ x ∷ next ∷ more) h)) where
  none : {X : Type 0} (front : List X) (x next : X) (more : List X) → ◌≡◌ {A = List X} [] (front ++ x ∷ next ∷ more) → ⊥
  none [] x next more h = cc
  none (y ∷ front) x next more h = cc
goes_on_before (z ∷ all) [] last x next more h = record { more = all; is = ap (λ y. y ∷ all) (first_same z x (all ++ last ∷ []) (next ∷ more) h) }
goes_on_before (z ∷ all) (y ∷ front) last x next more h =
    let rest = goes_on_before all front last x next more (rest_same z y (all ++ last ∷ []) (front ++ x ∷ next ∷ more) h) in
    record { more = rest.more; is = ap (λ w. w ∷ all) (first_same z y (all ++ last ∷ []) (front ++ x ∷ next ∷ more) h) ∙ ap (λ ws. y ∷ ws) rest.is }

-- the same where one element stands behind at least, which isn't the last one
pub goes_on_apart : {X : Type 0} (all front : List X) (last x : X) (more : List X) → (last ≡ x → ⊥) → all ++ last ∷ [] ≡ front ++ x ∷ more → GoesOnWith all front x
goes_on_apart [] [] last x more apart h = absurd (apart (first_same last x [] more h))
goes_on_apart [] (y ∷ front) last x more apart h = absurd (none front x more (rest_same last y [] (front ++ x ∷ more) h)) where
  none : {X : Type 0} (front : List X) (x : X) (more : List X) → ◌≡◌ {A = List X} [] (front ++ x ∷ more) → ⊥
  none [] x more h = cc
  none (y ∷ front) x more h = cc
goes_on_apart (z ∷ all) [] last x more apart h = record { more = all; is = ap (λ y. y ∷ all) (first_same z x (all ++ last ∷ []) more h) }
goes_on_apart (z ∷ all) (y ∷ front) last x more apart h =
    let rest = goes_on_apart all front last x more apart (rest_same z y (all ++ last ∷ []) (front ++ x ∷ more) h) in
    record { more = rest.more; is = ap (λ w. w ∷ all) (first_same z y (all ++ last ∷ []) (front ++ x ∷ more) h) ∙ ap (λ ws. y ∷ ws) rest.is }

-- the text of lines begins with that of others and one more line: so do the lines
pub text_goes_on : (all before : List (List ℕ)) (line more : List ℕ) → AreWhole all → AreWhole before → has_line_feed line ≡ false
    → (ended_lines before ++ (line ++ line_feed ∷ [])) ++ more ≡ ended_lines all → GoesOnWith all before line
text_goes_on all before line more whole front none text =
    let cut = some_cut more in
    let ours : parts_of line_feed ((ended_lines before ++ (line ++ line_feed ∷ [])) ++ more) ≡ before ++ line ∷ cut.first ∷ cut.others =
    ap (parts_of line_feed) (append_assoc (ended_lines before) (line ++ line_feed ∷ []) more ∙ ap (λ (bs : List ℕ). ended_lines before ++ bs) (append_assoc line (line_feed ∷ []) more))
    ∙ (parts_ended before (line ++ line_feed ∷ more) front ∙ ap (λ (ps : List (List ℕ)). before ++ ps) (part_ended line more none ∙ ap (λ (ps : List (List ℕ)). line ∷ ps) cut.parts)) in
    goes_on_before all before [] line cut.first cut.others (sym (parts_of_lines all whole) ∙ (ap (parts_of line_feed) (sym text) ∙ ours))

-- a line with these bytes in front
pub record GoesOnFrom (all before : List (List ℕ)) (front : List ℕ) : Type 0 where
  pub rest : List ℕ
  pub goes_on : GoesOnWith all before (front ++ rest)

not_empty : (b : ℕ) (front first : List ℕ) → ◌≡◌ {A = List ℕ} [] ((b ∷ front) ++ first) → ⊥
not_empty b front first h = cc

-- the text of lines begins with that of others and some bytes more: the lines begin so, and then with a line with these
-- bytes in front
pub text_front : (all before : List (List ℕ)) (b : ℕ) (front more : List ℕ) → AreWhole all → AreWhole before → has_line_feed (b ∷ front) ≡ false
    → (ended_lines before ++ b ∷ front) ++ more ≡ ended_lines all → GoesOnFrom all before (b ∷ front)
text_front all before b front more whole begun none text =
    let cut = some_cut more in
    let ours : parts_of line_feed ((ended_lines before ++ b ∷ front) ++ more) ≡ before ++ ((b ∷ front) ++ cut.first) ∷ cut.others =
    ap (parts_of line_feed) (append_assoc (ended_lines before) (b ∷ front) more)
    ∙ (parts_ended before ((b ∷ front) ++ more) begun ∙ ap (λ (ps : List (List ℕ)). before ++ ps) (part_front (b ∷ front) more cut.first cut.others none cut.parts)) in
    record {
      rest = cut.first;
      goes_on = goes_on_apart all before [] ((b ∷ front) ++ cut.first) cut.others (not_empty b front cut.first) (sym (parts_of_lines all whole) ∙ (ap (parts_of line_feed) (sym text) ∙ ours));
    }

-- ---- the first lines of bytes

pub lines-append : (xs ys : List (List ℕ)) → ended_lines (xs ++ ys) ≡ ended_lines xs ++ ended_lines ys
lines-append [] ys = refl
lines-append (x ∷ xs) ys = ap (λ (bs : List ℕ). (x ++ line_feed ∷ []) ++ bs) (lines-append xs ys) ∙ sym (append_assoc (x ++ line_feed ∷ []) (ended_lines xs) (ended_lines ys))

-- what bytes have behind some of them
pub record IsBegin (front all : List ℕ) : Type 0 where
  pub rest : List ℕ
  pub is : front ++ rest ≡ all

pub begin_itself : (bytes : List ℕ) → IsBegin bytes bytes
begin_itself bytes = record { rest = []; is = append-nil bytes }

next_begin : (b : ℕ) (test : Bool) (less more : ℕ) (bytes : List ℕ) → IsBegin (first_lines less bytes) (first_lines more bytes) → IsBegin (first_lines (suc less) bytes) (first_lines (suc more) bytes)
    → IsBegin (b ∷ first_lines (cond test less (suc less)) bytes) (b ∷ first_lines (cond test more (suc more)) bytes)
next_begin b true less more bytes one other = record { rest = one.rest; is = ap (λ (bs : List ℕ). b ∷ bs) one.is }
next_begin b false less more bytes one other = record { rest = other.rest; is = ap (λ (bs : List ℕ). b ∷ bs) other.is }

-- fewer lines are the beginning of more
pub first_fewer : (less more : ℕ) (bytes : List ℕ) → less ≤ more → IsBegin (first_lines less bytes) (first_lines more bytes)
first_fewer less more [] low = begin_itself []
first_fewer zero more (b ∷ bytes) low = record { rest = first_lines more (b ∷ bytes); is = refl }
first_fewer (suc less) zero (b ∷ bytes) low = absurd (omega arith)
first_fewer (suc less) (suc more) (b ∷ bytes) low = next_begin b (eqb b line_feed) less more bytes (first_fewer less more bytes (omega arith)) (first_fewer (suc less) (suc more) bytes low)

pub first_of_line : (line rest : List ℕ) (n : ℕ) → has_line_feed line ≡ false → first_lines (suc n) (line ++ line_feed ∷ rest) ≡ line ++ line_feed ∷ first_lines n rest
first_of_line [] rest n none = refl
first_of_line (b ∷ line) rest n none =
    let parts = no_feed_parts b line none in
    ap (λ (test : Bool). b ∷ first_lines (cond test n (suc n)) (line ++ line_feed ∷ rest)) parts.0 ∙ ap (λ (bs : List ℕ). b ∷ bs) (first_of_line line rest n parts.1)

count_next : (n m : ℕ) → suc n + m ≡ suc (n + m)
count_next n m = omega arith

-- lines that end are the first ones
pub first_of_lines : (lines : List (List ℕ)) (rest : List ℕ) (n : ℕ) → AreWhole lines → first_lines (length lines + n) (ended_lines lines ++ rest) ≡ ended_lines lines ++ first_lines n rest
first_of_lines [] rest n whole = ap (λ (m : ℕ). first_lines m rest) (omega arith)
first_of_lines (line ∷ lines) rest n whole =
    ap (λ (m : ℕ). first_lines m (((line ++ line_feed ∷ []) ++ ended_lines lines) ++ rest)) (count_next (length lines) n)
    ∙ (ap (first_lines (suc (length lines + n))) (append_assoc (line ++ line_feed ∷ []) (ended_lines lines) rest ∙ append_assoc line (line_feed ∷ []) (ended_lines lines ++ rest))
    ∙ (first_of_line line (ended_lines lines ++ rest) (length lines + n) whole.0
    ∙ (ap (λ (bs : List ℕ). line ++ line_feed ∷ bs) (first_of_lines lines rest n whole.1)
    ∙ sym (append_assoc (line ++ line_feed ∷ []) (ended_lines lines) (first_lines n rest) ∙ append_assoc line (line_feed ∷ []) (ended_lines lines ++ first_lines n rest)))))

-- an unfinished line is one more
pub first_unfinished : (front : List ℕ) (n : ℕ) → has_line_feed front ≡ false → first_lines (suc n) front ≡ front
first_unfinished [] n none = refl
first_unfinished (b ∷ front) n none =
    let parts = no_feed_parts b front none in
    ap (λ (test : Bool). b ∷ first_lines (cond test n (suc n)) front) parts.0 ∙ ap (λ (bs : List ℕ). b ∷ bs) (first_unfinished front n parts.1)

-- ---- how many lines there are

empty_end : (lines : List (List ℕ)) → without_empty_end (lines ++ [] ∷ []) ≡ lines
empty_end [] = refl
empty_end ([] ∷ []) = refl
empty_end ((b ∷ bs) ∷ []) = refl
empty_end (line ∷ next ∷ lines) = ap (λ (ls : List (List ℕ)). line ∷ ls) (empty_end (next ∷ lines))

some_end : (lines : List (List ℕ)) (b : ℕ) (bs : List ℕ) → without_empty_end (lines ++ (b ∷ bs) ∷ []) ≡ lines ++ (b ∷ bs) ∷ []
some_end [] b bs = refl
some_end ([] ∷ []) b bs = refl
some_end ((c ∷ cs) ∷ []) b bs = refl
some_end (line ∷ next ∷ lines) b bs = ap (λ (ls : List (List ℕ)). line ∷ ls) (some_end (next ∷ lines) b bs)

-- as many as parts, where nothing stands behind the last line feed
pub count_whole : (bytes : List ℕ) (lines : List (List ℕ)) → parts_of line_feed bytes ≡ lines ++ [] ∷ [] → line_count bytes ≡ length lines
count_whole bytes lines is = ap (λ (ps : List (List ℕ)). length (without_empty_end ps)) is ∙ ap length (empty_end lines)

-- and one more where something does
pub count_unfinished : (bytes : List ℕ) (lines : List (List ℕ)) (b : ℕ) (bs : List ℕ) → parts_of line_feed bytes ≡ lines ++ (b ∷ bs) ∷ [] → line_count bytes ≡ length (lines ++ (b ∷ bs) ∷ [])
count_unfinished bytes lines b bs is = ap (λ (ps : List (List ℕ)). length (without_empty_end ps)) is ∙ ap length (some_end lines b bs)
