-- The last byte of a line, the place where it ends, and the lines of a text that goes on.
use Rattle.std.proofs.Common.{◌≡◌, ℕ, zero, suc, ◌+◌, ◌<◌, ◌≤◌, ◌==◌, List, [], ◌∷◌, ◌++◌, Bool, true, false, length, get_or, take, drop, refl, ap, sym, ◌∙◌, cond, arith, add-one, min}
use Rattle.std.specs.List.{list_any, onto_first}
use Rattle.std.proofs.lemmas.Bool.{false≢true, or_parts, or_from, false_from_ne_true}
use Rattle.std.proofs.lemmas.List.Splits.{slice_split-cons_yes, slice_split-cons_no}
use Rattle.std.proofs.Math.Seq.{take-add, take-length, drop-length}
use Rattle.std.proofs.lemmas.List.{take_all, take-take, take-append-drop, drop-drop, length-take, length-drop, length-append, append_assoc, append-nil, get_or-drop, get_or-take}
use Rattle.std.proofs.lemmas.List.Folds.{list_any-append}
use Rattle.cedr_text.specs.declared.lines.TheConstants.{LINE_LIMIT}
use Rattle.cedr_base.specs.Bytes.{line_feed}
use Rattle.cedr_text.specs.Parts.{parts_of}
use Rattle.cedr_text.specs.Lines.{without_return, without_empty_end, raw_lines, has_line_feed, IsLineEnd, GivesLine, IsTooLong}

-- of a line that ends in a carriage return, that one is dropped
pub return_dropped : (front : List ℕ) → without_return (front ++ 13 ∷ []) ≡ front
return_dropped [] = refl
return_dropped (a ∷ []) = refl
return_dropped (a ∷ b ∷ front) = ap (λ bytes. a ∷ bytes) (return_dropped (b ∷ front))

-- a line that ends in another byte stays as it is
pub other_kept : (front : List ℕ) (b : ℕ) → b == 13 ≡ false → without_return (front ++ b ∷ []) ≡ front ++ b ∷ []
other_kept [] b other = ap (λ is. cond is [] (b ∷ [])) other
other_kept (a ∷ []) b other = ap (λ bytes. a ∷ bytes) (other_kept [] b other)
other_kept (a ∷ c ∷ front) b other = ap (λ bytes. a ∷ bytes) (other_kept (c ∷ front) b other)

-- where no place below n passes, none of the first n bytes does
pub none_below : (p : ℕ → Bool) (text : List ℕ) (n : ℕ) → ((k : ℕ) → k < n → k < length text → p (get_or text k 0) ≡ true → ⊥) → list_any p (take n text) ≡ false
none_below p text zero none = refl
none_below p [] (suc n) none = refl
none_below p (b ∷ text) (suc n) none =
    or_from (p b) (list_any p (take n text)) (false_from_ne_true (p b) (none 0 (omega arith) (omega arith)))
    (none_below p text n (λ k low within. none (suc k) (omega arith) (omega arith)))

-- whether a part begins at a byte or not, there is a first part
pub some_at : (test : Bool) (b : ℕ) (parts : List (List ℕ)) → (q : List ℕ) × (qs : List (List ℕ)) × (cond test ([] ∷ parts) (onto_first b parts) ≡ q ∷ qs)
some_at true b parts = ([], parts, refl)
some_at false b [] = (b ∷ [], [], refl)
some_at false b (q ∷ qs) = (b ∷ q, qs, refl)

-- there is always a first part
pub first_of_parts : (text : List ℕ) → (q : List ℕ) × (qs : List (List ℕ)) × (parts_of line_feed text ≡ q ∷ qs)
first_of_parts [] = ([], [], refl)
first_of_parts (b ∷ text) = some_at (b == line_feed) b (parts_of line_feed text)

feed_ends : (text : List ℕ) (end : ℕ) → end < length text → has_line_feed (take end text) ≡ false → get_or text end 0 ≡ line_feed
    → (more : List ℕ) → parts_of line_feed (text ++ more) ≡ take end text ∷ parts_of line_feed (drop (suc end) text ++ more)
feed_ends [] end within none here more = absurd (omega arith)
feed_ends (b ∷ text) zero within none here more = slice_split-cons_yes (λ b. b == line_feed) b (text ++ more) (ap (λ b. b == line_feed) here)
feed_ends (b ∷ text) (suc end) within none here more =
    let parts = or_parts (b == line_feed) (has_line_feed (take end text)) none in
    slice_split-cons_no (λ b. b == line_feed) b (text ++ more) parts.0 ∙ ap (onto_first b) (feed_ends text end (omega arith) parts.1 here more)

-- a part that isn't the last one stays
pub kept_front : (part next : List ℕ) (parts : List (List ℕ)) → without_empty_end (part ∷ next ∷ parts) ≡ part ∷ without_empty_end (next ∷ parts)
kept_front [] next parts = refl
kept_front (b ∷ bs) next parts = refl

-- without the empty end that a line feed leaves
pub end_dropped : (parts : List (List ℕ)) → without_empty_end (parts ++ [] ∷ []) ≡ parts
end_dropped [] = refl
end_dropped (part ∷ []) = kept_front part [] []
end_dropped (part ∷ next ∷ parts) = kept_front part next (parts ++ [] ∷ []) ∙ ap (λ rest. part ∷ rest) (end_dropped (next ∷ parts))

-- the line that ends at this place is the first one, whatever follows
pub line_ends : (text : List ℕ) (end : ℕ) → IsLineEnd text end → (more : List ℕ) → raw_lines (text ++ more) ≡ take end text ∷ raw_lines (drop (suc end) text ++ more)
line_ends text end ends more =
    let rest = first_of_parts (drop (suc end) text ++ more) in
    ap without_empty_end (feed_ends text end ends.within ends.none ends.here more ∙ ap (λ parts. take end text ∷ parts) rest.2)
    ∙ kept_front (take end text) rest.0 rest.1
    ∙ ap (λ parts. take end text ∷ without_empty_end parts) (sym rest.2)

no_feed_joins : (text more q : List ℕ) (qs : List (List ℕ)) → has_line_feed text ≡ false → parts_of line_feed more ≡ q ∷ qs → parts_of line_feed (text ++ more) ≡ (text ++ q) ∷ qs
no_feed_joins [] more q qs none is = is
no_feed_joins (b ∷ text) more q qs none is =
    let parts = or_parts (b == line_feed) (has_line_feed text) none in
    slice_split-cons_no (λ b. b == line_feed) b (text ++ more) parts.0 ∙ ap (onto_first b) (no_feed_joins text more q qs parts.1 is)

first_kept : (b : ℕ) (bs : List ℕ) (parts : List (List ℕ)) → (lines : List (List ℕ)) × (without_empty_end ((b ∷ bs) ∷ parts) ≡ (b ∷ bs) ∷ lines)
first_kept b bs [] = ([], refl)
first_kept b bs (next ∷ parts) = (without_empty_end (next ∷ parts), refl)

-- a text without a line feed begins the first line, whatever follows
pub line_begins : (text : List ℕ) → has_line_feed text ≡ false → 0 < length text → (more : List ℕ)
    → (behind : List ℕ) × (lines : List (List ℕ)) × (raw_lines (text ++ more) ≡ (text ++ behind) ∷ lines)
line_begins [] none some more = absurd (omega arith)
line_begins (b ∷ text) none some more =
    let first = first_of_parts more in
    let kept = first_kept b (text ++ first.0) first.1 in
    (first.0, kept.0, ap without_empty_end (no_feed_joins (b ∷ text) more first.0 first.1 none first.2) ∙ kept.1)

-- a place found after the bytes that were searched is where the line ends
pub found_end : (window slice : List ℕ) (searched place : ℕ) → slice ≡ drop searched window → searched ≤ length window → has_line_feed (take searched window) ≡ false
    → place < length slice → ((k : ℕ) → k < place → get_or slice k 0 == line_feed ≡ true → ⊥) → get_or slice place 0 ≡ line_feed → IsLineEnd window (searched + place)
found_end window slice searched place is within none high before here =
    let rest = drop searched window in
    record {
      within = omega (arith, ap length is, length-drop searched window);
      none = ap has_line_feed (take-add searched place window)
          ∙ list_any-append (λ b. b == line_feed) (take searched window) (take place rest)
          ∙ or_from (has_line_feed (take searched window)) (has_line_feed (take place rest)) none
          (none_below (λ b. b == line_feed) rest place (λ k low inside found. before k low (ap (λ bytes. get_or bytes k 0 == line_feed) is ∙ found)));
      here = sym (get_or-drop searched window place 0) ∙ ap (λ bytes. get_or bytes place 0) (sym is) ∙ here;
    }

-- nothing is found where the bytes that weren't searched have no line feed
pub none_found : (window slice : List ℕ) (searched : ℕ) → slice ≡ drop searched window → has_line_feed (take searched window) ≡ false
    → ((k : ℕ) → k < length slice → get_or slice k 0 == line_feed ≡ true → ⊥) → has_line_feed window ≡ false
none_found window slice searched is none nowhere =
    let rest = drop searched window in
    ap has_line_feed (sym (take-append-drop searched window))
    ∙ list_any-append (λ b. b == line_feed) (take searched window) rest
    ∙ or_from (has_line_feed (take searched window)) (has_line_feed rest) none
    (ap has_line_feed (sym (take-length rest))
    ∙ none_below (λ b. b == line_feed) rest (length rest) (λ k low inside found. nowhere k (omega (arith, ap length is)) (ap (λ bytes. get_or bytes k 0 == line_feed) is ∙ found)))

in_window : (text : List ℕ) (m end : ℕ) → IsLineEnd (take m text) end → IsLineEnd text end
in_window text m end ends =
    record {
      within = omega (arith, ends.within, length-take m text);
      none = ap has_line_feed (sym (take-take end m text (omega (arith, ends.within, length-take m text)))) ∙ ends.none;
      here = sym (get_or-take m text end 0 (omega (arith, ends.within, length-take m text))) ∙ ends.here;
    }

-- the line whose end was found is given, and the bytes after its line feed are left
pub gives_found : (items text line : List ℕ) (start m end : ℕ) (finished : Bool) → text ≡ drop start items → m ≤ LINE_LIMIT + 1
    → IsLineEnd (take m text) end → line ≡ without_return (take end (take m text))
    → GivesLine (record { kept = drop start items; finished = finished }) (record { kept = drop (start + (end + 1)) items; finished = finished }) line
gives_found items text line start m end finished is low ends given =
    let left = ap (λ n. drop n text) (sym (add-one end)) ∙ ap (drop (end + 1)) is ∙ drop-drop (end + 1) start items in
    let raw_is = take-take end m text (omega (arith, ends.within, length-take m text)) in
    record {
      raw = take end (take m text);
      next = λ more done. ap (λ bytes. raw_lines (bytes ++ more)) (sym is) ∙ line_ends text end (in_window text m end ends) more
          ∙ ap (λ raw. raw ∷ raw_lines (drop (suc end) text ++ more)) (sym raw_is) ∙ ap (λ rest. take end (take m text) ∷ raw_lines (rest ++ more)) left;
      short = omega (arith, ends.within, length-take m text, length-take end (take m text));
      text = given;
    }

-- where one byte more than a line may have holds no line feed, the next line is too long
pub too_long : (items text : List ℕ) (start m : ℕ) (finished : Bool) → text ≡ drop start items → LINE_LIMIT < length (take m text)
    → has_line_feed (take m text) ≡ false → IsTooLong (record { kept = drop start items; finished = finished })
too_long items text start m finished is long none more done =
    let begins = line_begins (take m text) none (omega (arith, long)) (drop m text ++ more) in (
      take m text ++ begins.0,
      begins.1,
      omega (arith, long, length-append (take m text) begins.0),
      ap (λ bytes. raw_lines (bytes ++ more)) (sym is ∙ sym (take-append-drop m text)) ∙ ap raw_lines (append_assoc (take m text) (drop m text) more) ∙ begins.2,
    )

last_line : (text : List ℕ) → has_line_feed text ≡ false → 0 < length text → raw_lines (text ++ []) ≡ text ∷ []
last_line [] none some = absurd (omega arith)
last_line (b ∷ bs) none some = ap without_empty_end (no_feed_joins (b ∷ bs) [] [] [] none refl) ∙ ap (λ bytes. bytes ∷ []) (append-nil (b ∷ bs))

-- what is left when no more will come is the last line
pub gives_last : (items text line : List ℕ) (start m end : ℕ) (finished : Bool) → text ≡ drop start items → finished ≡ true → end ≡ length items
    → m ≡ min (length text) (LINE_LIMIT + 1) → length (take m text) ≤ LINE_LIMIT → has_line_feed (take m text) ≡ false → 0 < length text → line ≡ without_return text
    → GivesLine (record { kept = drop start items; finished = finished }) (record { kept = drop end items; finished = finished }) line
gives_last items text line start m end finished is no_more whole most short none some given =
    let all = take_all m text (omega (arith, most, short, length-take m text)) in
    let nothing = ap (λ n. drop n items) whole ∙ drop-length items in
    record {
      raw = text;
      next = λ more done. ap (λ bytes. raw_lines (bytes ++ more)) (sym is) ∙ ap (λ more. raw_lines (text ++ more)) (done no_more)
          ∙ last_line text (ap has_line_feed (sym all) ∙ none) some ∙ ap (λ bytes. text ∷ raw_lines bytes) (sym (ap (λ rest. rest ++ more) nothing ∙ done no_more));
      short = omega (arith, most, short, length-take m text);
      text = given;
    }

-- a number that isn't 0 is above 0
pub some_left : (n : ℕ) → n == 0 ≡ false → 0 < n
some_left zero some = absurd (false≢true (sym some))
some_left (suc n) some = omega arith
