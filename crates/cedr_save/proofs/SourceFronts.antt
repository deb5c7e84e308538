-- The line of a source that begins with some bytes.
use Rattle.std.proofs.Common.{◌≡◌, ◌≢◌, ℕ, zero, suc, ◌+◌, ◌≤◌, inl, inr, List, [], ◌∷◌, ◌++◌, length, length-append, drop, Bool, true, false, cond, eqb, Option, Some, refl, ap, sym, ◌∙◌, arith, append_assoc, append-nil}
use Rattle.std.specs.Prelude.{codes, nat_eq}
use Rattle.std.specs.List.{starts_with}
use Rattle.std.proofs.lemmas.Bool.{cases_lt, and_parts, and_from, eqb-true, eq-eqb}
use Rattle.cedr_base.specs.declared.time.TheConstants.{FOREVER}
use Rattle.cedr_base.specs.Bytes.{comma}
use Rattle.cedr_text.specs.Numbers.{time_value}
use Rattle.cedr_text.specs.Parts.{parts_of, CutsField}
use Rattle.cedr_text.specs.Texts.{time_text}
use Rattle.cedr_save.specs.Checkpoints.{source_line}
use Rattle.cedr_save.specs.Fronts.{source_front, completed}
use Rattle.cedr_save.proofs.ListLemmas.{first_same, rest_same, part_alone}
use Rattle.cedr_save.proofs.NumberFronts.{number_front}
use Rattle.cedr_save.proofs.TextLemmas.{finite_text, time_none, time_read, comma_no_time}

-- ---- fronts of texts

-- bytes that begin with a front have others behind it
pub starts_is : (xs front : List ℕ) → starts_with nat_eq xs front ≡ true → (rest : List ℕ) × (xs ≡ front ++ rest)
starts_is xs [] h = (xs, refl)
starts_is [] (b ∷ front) h = absurd (let e = h in cc)
starts_is (x ∷ xs) (b ∷ front) h =
    let parts = and_parts (eqb b x) _ h in
    let r = starts_is xs front parts.1 in
    (r.0, ap (λ (c : ℕ). c ∷ xs) (sym (eqb-true b x parts.0)) ∙ ap (λ (bs : List ℕ). b ∷ bs) r.1)

pub is_starts : (front rest : List ℕ) → starts_with nat_eq (front ++ rest) front ≡ true
is_starts [] rest = refl
is_starts (b ∷ front) rest = and_from (eqb b b) _ (eq-eqb b b refl) (is_starts front rest)

-- a shorter front of two texts is one of the first
shorter : (front rest first last : List ℕ) → front ++ rest ≡ first ++ last → length front ≤ length first → (more : List ℕ) × (front ++ more ≡ first)
shorter [] rest first last h low = (first, refl)
shorter (b ∷ front) rest [] last h low = absurd (omega arith)
shorter (b ∷ front) rest (c ∷ first) last h low =
    let r = shorter front rest first last (rest_same b c (front ++ rest) (first ++ last) h) (omega arith) in
    (r.0, ap (λ (bs : List ℕ). b ∷ bs) r.1 ∙ ap (λ (x : ℕ). x ∷ first) (first_same b c (front ++ rest) (first ++ last) h))

drop_past : (n : ℕ) (bytes : List ℕ) → length bytes ≤ n → drop n bytes ≡ []
drop_past zero [] low = refl
drop_past (suc n) [] low = refl
drop_past zero (b ∷ bytes) low = absurd (omega arith)
drop_past (suc n) (b ∷ bytes) low = drop_past n bytes (omega arith)

-- a longer one has a front of the other behind the first
longer : (front rest first last : List ℕ) → front ++ rest ≡ first ++ last → length first ≤ length front → (front ≡ first ++ drop (length first) front) × (drop (length first) front ++ rest ≡ last)
longer front rest [] last h low = (refl, h)
longer [] rest (c ∷ first) last h low = absurd (omega arith)
longer (b ∷ front) rest (c ∷ first) last h low =
    let r = longer front rest first last (rest_same b c (front ++ rest) (first ++ last) h) (omega arith) in
    (ap (λ (x : ℕ). x ∷ front) (first_same b c (front ++ rest) (first ++ last) h) ∙ ap (λ (bs : List ℕ). c ∷ bs) r.0, r.1)

-- ---- fronts of times

-- a time whose text begins with a front: this one's text is the front, or `inf`
pub record IsTimeFront (front : List ℕ) : Type 0 where
  pub time : ℕ
  pub low : time ≤ FOREVER
  pub is : time_text time ≡ cond (starts_with nat_eq (codes "inf") front) (codes "inf") front

finite_front : (front rest : List ℕ) (mark : ℕ) → starts_with nat_eq (codes "inf") front ≡ false → mark ≤ FOREVER → front ++ rest ≡ time_text mark → front ≢ [] → IsTimeFront front
finite_front front rest mark other low h some = elim (cases_lt mark FOREVER) [
  | inl finite ↦
      let f = number_front mark (omega arith) front rest some (sym (finite_text mark finite) ∙ sym h) in
      let small = f.low in
      record {
        time = f.number;
        low = omega arith;
        is = finite_text f.number (omega arith) ∙ (sym f.is ∙ sym (ap (λ (b : Bool). cond b (codes "inf") front) other));
      }
  | inr forever ↦
      let same : mark ≡ FOREVER = omega arith in
      let word : codes "inf" ≡ front ++ rest = ap time_text (sym same) ∙ sym h in
      let starts : starts_with nat_eq (codes "inf") front ≡ true = ap (λ (bs : List ℕ). starts_with nat_eq bs front) word ∙ is_starts front rest in
      absurd (let e = sym starts ∙ other in cc)
]

some_front : (front : List ℕ) → starts_with nat_eq (codes "inf") front ≡ false → front ≢ []
some_front front other none = let e : starts_with nat_eq (codes "inf") [] ≡ false = ap (λ (bs : List ℕ). starts_with nat_eq (codes "inf") bs) (sym none) ∙ other in let f : true ≡ false = e in cc

time_front_at : (b : Bool) (front rest : List ℕ) (mark : ℕ) → starts_with nat_eq (codes "inf") front ≡ b → mark ≤ FOREVER → front ++ rest ≡ time_text mark → IsTimeFront front
time_front_at true front rest mark is low h = record { time = FOREVER; low = omega arith; is = sym (ap (λ (b : Bool). cond b (codes "inf") front) is) }
time_front_at false front rest mark is low h = finite_front front rest mark is low h (some_front front is)

time_front : (front rest : List ℕ) (mark : ℕ) → mark ≤ FOREVER → front ++ rest ≡ time_text mark → IsTimeFront front
time_front front rest mark low h = time_front_at (starts_with nat_eq (codes "inf") front) front rest mark refl low h

-- ---- the line

line_parts : (name : List ℕ) (mark : ℕ) → source_line name mark ≡ source_front name ++ time_text mark
line_parts name mark =
    ap (λ (bs : List ℕ). codes "source," ++ bs) (sym (append_assoc name (comma ∷ []) (time_text mark))) ∙ sym (append_assoc (codes "source,") (name ++ comma ∷ []) (time_text mark))

-- a line of a source that begins with these bytes
pub record IsSourceOf (name front line : List ℕ) : Type 0 where
  pub mark : ℕ
  pub low : mark ≤ FOREVER
  pub is : line ≡ source_line name mark
  pub more : List ℕ
  pub begins : front ++ more ≡ line

completed_more : (b : Bool) (mark : List ℕ) → starts_with nat_eq (codes "inf") mark ≡ b → (more : List ℕ) × (mark ++ more ≡ cond b (codes "inf") mark)
completed_more true mark is = let r = starts_is (codes "inf") mark is in (r.0, sym r.1)
completed_more false mark is = ([], append-nil mark)

-- where some line of the source begins with the bytes, the completed line is one, and does so too
pub source_completed : (name front rest : List ℕ) (mark : ℕ) → mark ≤ FOREVER → front ++ rest ≡ source_line name mark → IsSourceOf name front (source_front name ++ completed (drop (length (source_front name)) front))
source_completed name front rest mark low h = elim (cases_lt (length front) (length (source_front name))) [
  | inl short ↦
      let none : drop (length (source_front name)) front ≡ [] = drop_past (length (source_front name)) front (omega arith) in
      let r = shorter front rest (source_front name) (time_text mark) (h ∙ line_parts name mark) (omega arith) in
      let same : source_front name ++ completed (drop (length (source_front name)) front) ≡ source_front name ++ codes "inf" = ap (λ (m : List ℕ). source_front name ++ completed m) none in
      record {
        mark = FOREVER;
        low = omega arith;
        is = same ∙ sym (line_parts name FOREVER);
        more = r.0 ++ codes "inf";
        begins = sym (append_assoc front r.0 (codes "inf")) ∙ (ap (λ (bs : List ℕ). bs ++ codes "inf") r.1 ∙ sym same);
      }
  | inr long ↦
      let parts = longer front rest (source_front name) (time_text mark) (h ∙ line_parts name mark) long in
      let t = time_front (drop (length (source_front name)) front) rest mark low parts.1 in
      let more = completed_more (starts_with nat_eq (codes "inf") (drop (length (source_front name)) front)) (drop (length (source_front name)) front) refl in
      record {
        mark = t.time;
        low = t.low;
        is = ap (λ (bs : List ℕ). source_front name ++ bs) (sym t.is) ∙ sym (line_parts name t.time);
        more = more.0;
        begins = ap (λ (bs : List ℕ). bs ++ more.0) parts.0 ∙ (append_assoc (source_front name) (drop (length (source_front name)) front) more.0 ∙ ap (λ (bs : List ℕ). source_front name ++ bs) more.1);
      }
]

-- ---- what the guarantee is read from

drop_front : (xs ys : List ℕ) → drop (length xs) (xs ++ ys) ≡ ys
drop_front [] ys = refl
drop_front (x ∷ xs) ys = drop_front xs ys

front_adds : (bs : List ℕ) → length (codes "source," ++ bs) ≡ length bs + 7
front_adds bs = omega (arith, length-append (codes "source,") bs)

front_length : (name : List ℕ) → 7 + length name + 1 ≡ length (source_front name)
front_length name =
    let more : length (name ++ comma ∷ []) ≡ length name + 1 = length-append name (comma ∷ []) in
    omega (arith, more, front_adds (name ++ comma ∷ []))

mark_cut : (name : List ℕ) (mark : ℕ) → drop (7 + length name + 1) (source_line name mark) ≡ time_text mark
mark_cut name mark =
    ap (λ (n : ℕ). drop n (source_line name mark)) (front_length name)
    ∙ (ap (λ (bs : List ℕ). drop (length (source_front name)) bs) (line_parts name mark) ∙ drop_front (source_front name) (time_text mark))

pub mark_read : (name line rest : List ℕ) (mark : ℕ) (found : Option ℕ) (left : List (List ℕ)) → mark ≤ FOREVER → line ≡ source_line name mark → rest ≡ drop (7 + length name + 1) line
    → CutsField (parts_of comma rest) left (λ field. found ≡ time_value field) → found ≡ Some mark
mark_read name line rest mark found left low is behind cut =
    let text : rest ≡ time_text mark = behind ∙ (ap (λ (bs : List ℕ). drop (7 + length name + 1) bs) is ∙ mark_cut name mark) in
    let parts : parts_of comma rest ≡ time_text mark ∷ [] = ap (parts_of comma) text ∙ part_alone comma (time_text mark) (time_none (λ b. eqb b comma) mark comma_no_time low) in
    cut.holds ∙ (ap time_value (first_same cut.field (time_text mark) left [] (sym cut.parts_are ∙ parts)) ∙ time_read mark low)

-- ---- whether the completed line goes on from the bytes

pub never_begins : (name front line : List ℕ) → line ≡ source_front name ++ completed (drop (length (source_front name)) front) → starts_with nat_eq line front ≡ false → (mark : ℕ) (rest : List ℕ) → mark ≤ FOREVER → front ++ rest ≡ source_line name mark → ⊥
never_begins name front line is not mark rest low h =
    let s = source_completed name front rest mark low h in
    let begins : starts_with nat_eq line front ≡ true = ap (λ (bs : List ℕ). starts_with nat_eq bs front) (is ∙ sym s.begins) ∙ is_starts front s.more in
    let e = sym begins ∙ not in cc

pub no_source : (name front line : List ℕ) → line ≡ source_front name ++ completed (drop (length (source_front name)) front) → ((mark : ℕ) → mark ≤ FOREVER → line ≡ source_line name mark → ⊥) → (mark : ℕ) (rest : List ℕ) → mark ≤ FOREVER → front ++ rest ≡ source_line name mark → ⊥
no_source name front line is none mark rest low h =
    let s = source_completed name front rest mark low h in
    none s.mark s.low (is ∙ s.is)

pub some_source : (name front line : List ℕ) (mark : ℕ) → starts_with nat_eq line front ≡ true → mark ≤ FOREVER → line ≡ source_line name mark → (m : ℕ) × (rest : List ℕ) × (m ≤ FOREVER) × (front ++ rest ≡ source_line name m)
some_source name front line mark begins low is =
    let r = starts_is line front begins in
    (mark, r.0, low, sym r.1 ∙ is)
