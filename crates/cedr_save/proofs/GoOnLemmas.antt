-- How lines that were read go on to a checkpoint, and at which line bytes are refused.
use Rattle.std.proofs.Common.{◌≡◌, ℕ, zero, suc, ◌+◌, ◌<◌, ◌≤◌, ◌⊎◌, inl, inr, List, [], ◌∷◌, ◌++◌, length, map, Bool, true, false, cond, eqb, refl, ap, sym, ◌∙◌, subst, arith, append_assoc, append-nil, length-append}
use Rattle.std.specs.Prelude.{All}
use Rattle.std.specs.List.{join_with_byte, onto_first}
use Rattle.std.proofs.lemmas.Bool.{or_from}
use Rattle.std.proofs.lemmas.List.Splits.{join_with_byte-slice_split}
use Rattle.cedr_base.specs.Bytes.{line_feed}
use Rattle.cedr_text.specs.Lines.{has_line_feed, without_empty_end}
use Rattle.cedr_text.specs.Parts.{parts_of}
use Rattle.cedr_guard.specs.declared.state.EventState.{EventState}
use Rattle.cedr_guard.specs.Spelt.{State}
use Rattle.cedr_save.specs.Checkpoints.{Source, HasId, IsSaved, AreSaved, event_line, source_line, states_lines, head_line, end_line, checkpoint_lines, ended_lines, checkpoint_text, IsCheckpoint}
use Rattle.cedr_save.specs.Lines.{ComesNext, IsFront}
use Rattle.cedr_save.specs.Refusals.{CanGoOn, first_lines, line_count, IsNoText, IsBadLine, RefusesBytes}
use Rattle.cedr_save.proofs.ListLemmas.{AreWhole, parts_of_lines, IsCut, some_cut, first_same, rest_same, text_goes_on, text_front, lines-append, IsBegin, begin_itself, first_fewer, first_of_line, first_of_lines, first_unfinished, count_whole, count_unfinished}
use Rattle.cedr_save.specs.Reading.{AreNamed}
use Rattle.cedr_save.proofs.LineLemmas.{checkpoint_whole}
use Rattle.cedr_save.proofs.FollowLemmas.{StartsOther, events_behind, states_behind}

-- ---- lines that go on to a checkpoint

-- a source of which no line came but its own
abbrev empty_state : State
empty_state = record { mark = 0; events = [] }

abbrev fill : List Source → List State
fill [] = []
fill (source ∷ sources) = empty_state ∷ fill sources

empty_saved : (source : Source) → IsSaved source empty_state
empty_saved source = record {
  fit = record { ascend = λ i j d low within. absurd (omega arith); sound = λ k d within. absurd (omega arith); time = omega arith };
  ids = λ k d within. absurd (omega arith);
  fields = λ k d within. absurd (omega arith);
}

fill_saved : (sources : List Source) → AreSaved sources (fill sources)
fill_saved [] = tt
fill_saved (source ∷ sources) = (empty_saved source, fill_saved sources)

pub saved-append : (front sources : List Source) (done states : List State) → AreSaved front done → AreSaved sources states → AreSaved (front ++ sources) (done ++ states)
saved-append [] sources [] states saved more = more
saved-append [] sources (d ∷ done) states saved more = absurd saved
saved-append (s ∷ front) sources [] states saved more = absurd saved
saved-append (s ∷ front) sources (d ∷ done) states saved more = (saved.0, saved-append front sources done states saved.1 more)

pub states-append : (front sources : List Source) (done states : List State) → AreSaved front done → states_lines (front ++ sources) (done ++ states) ≡ states_lines front done ++ states_lines sources states
states-append [] sources [] states saved = refl
states-append [] sources (d ∷ done) states saved = absurd saved
states-append (s ∷ front) sources [] states saved = absurd saved
states-append (s ∷ front) sources (d ∷ done) states saved =
    ap (λ (ls : List (List ℕ)). source_line s.name d.mark ∷ (map event_line d.events ++ ls)) (states-append front sources done states saved.1)
    ∙ ap (λ (ls : List (List ℕ)). source_line s.name d.mark ∷ ls) (sym (append_assoc (map event_line d.events) (states_lines front done) (states_lines sources states)))

-- the lines are the first ones of a checkpoint
pub record CanReach (sources : List Source) (before : List (List ℕ)) : Type 0 where
  pub states : List State
  pub rest : List (List ℕ)
  pub saved : AreSaved sources states
  pub lines : checkpoint_lines sources states ≡ before ++ rest

pub reach_head : (sources : List Source) → CanReach sources []
reach_head sources = record { states = fill sources; rest = checkpoint_lines sources (fill sources); saved = fill_saved sources; lines = refl }

pub reach_begun : (sources : List Source) → CanReach sources (head_line ∷ [])
reach_begun sources = record { states = fill sources; rest = states_lines sources (fill sources) ++ end_line ∷ []; saved = fill_saved sources; lines = refl }

pub reach_in_source : (front : List Source) (source : Source) (sources : List Source) (done : List State) (state : State) → AreSaved front done → IsSaved source state
    → CanReach (front ++ source ∷ sources) (head_line ∷ (states_lines front done ++ (source_line source.name state.mark ∷ map event_line state.events)))
reach_in_source front source sources done state saved current = record {
  states = done ++ state ∷ fill sources;
  rest = states_lines sources (fill sources) ++ end_line ∷ [];
  saved = saved-append front (source ∷ sources) done (state ∷ fill sources) saved (current, fill_saved sources);
  lines = ap (λ (ls : List (List ℕ)). head_line ∷ (ls ++ end_line ∷ [])) (states-append front (source ∷ sources) done (state ∷ fill sources) saved)
      ∙ ap (λ (ls : List (List ℕ)). head_line ∷ ls)
      (append_assoc (states_lines front done) (source_line source.name state.mark ∷ (map event_line state.events ++ states_lines sources (fill sources))) (end_line ∷ [])
      ∙ (ap (λ (ls : List (List ℕ)). states_lines front done ++ (source_line source.name state.mark ∷ ls)) (append_assoc (map event_line state.events) (states_lines sources (fill sources)) (end_line ∷ []))
      ∙ sym (append_assoc (states_lines front done) (source_line source.name state.mark ∷ map event_line state.events) (states_lines sources (fill sources) ++ end_line ∷ []))));
}

pub reach_ended : (sources : List Source) (done : List State) → AreSaved sources done → CanReach sources (checkpoint_lines sources done)
reach_ended sources done saved = record { states = done; rest = []; saved = saved; lines = sym (append-nil (checkpoint_lines sources done)) }

-- with a line that may come next they are too
pub reach_next : (sources : List Source) (before : List (List ℕ)) (line : List ℕ) → CanReach sources (before ++ line ∷ []) → ComesNext sources before line
reach_next sources before line r = record { states = r.states; more = r.rest; saved = r.saved; lines = r.lines ∙ append_assoc before (line ∷ []) r.rest }

-- ---- bytes that go on

go_on : (sources : List Source) (before : List (List ℕ)) → CanReach sources before → CanGoOn sources (ended_lines before)
go_on sources before r = record { states = r.states; more = ended_lines r.rest; saved = r.saved; text = sym (lines-append before r.rest) ∙ ap ended_lines (sym r.lines) }

go_on_front : (sources : List Source) (before : List (List ℕ)) (front : List ℕ) → IsFront sources before front → CanGoOn sources (ended_lines before ++ front)
go_on_front sources before front f = record {
  states = f.follows.states;
  more = f.rest ++ line_feed ∷ ended_lines f.follows.more;
  saved = f.follows.saved;
  text = append_assoc (ended_lines before) front (f.rest ++ line_feed ∷ ended_lines f.follows.more)
      ∙ (ap (λ (bs : List ℕ). ended_lines before ++ bs)
      (sym (append_assoc front f.rest (line_feed ∷ ended_lines f.follows.more)) ∙ sym (append_assoc (front ++ f.rest) (line_feed ∷ []) (ended_lines f.follows.more)))
      ∙ (sym (lines-append before ((front ++ f.rest) ∷ f.follows.more)) ∙ ap ended_lines (sym f.follows.lines)));
}

begins : (sources : List Source) (front all : List ℕ) → IsBegin front all → CanGoOn sources all → CanGoOn sources front
begins sources front all b g = record { states = g.states; more = b.rest ++ g.more; saved = g.saved; text = sym (append_assoc front b.rest g.more) ∙ (ap (λ (bs : List ℕ). bs ++ g.more) b.is ∙ g.text) }

-- ---- bytes by their parts

part_at : (test : Bool) (b : ℕ) (first : List ℕ) (others : List (List ℕ)) → eqb b line_feed ≡ test → AreWhole (first ∷ others) → AreWhole (cond test ([] ∷ first ∷ others) ((b ∷ first) ∷ others))
part_at true b first others is whole = (refl, whole)
part_at false b first others is whole = (or_from (eqb b line_feed) (has_line_feed first) is whole.0, whole.1)

parts_whole : (bytes : List ℕ) → AreWhole (parts_of line_feed bytes)
parts_whole [] = (refl, tt)
parts_whole (b ∷ bytes) = at (some_cut bytes) (parts_whole bytes) where
  at : IsCut bytes → AreWhole (parts_of line_feed bytes) → AreWhole (parts_of line_feed (b ∷ bytes))
  at cut whole =
      let here = part_at (eqb b line_feed) b cut.first cut.others refl (subst AreWhole cut.parts whole) in
      let same : parts_of line_feed (b ∷ bytes) ≡ cond (eqb b line_feed) ([] ∷ cut.first ∷ cut.others) ((b ∷ cut.first) ∷ cut.others) = ap (λ (ps : List (List ℕ)). cond (eqb b line_feed) ([] ∷ ps) (onto_first b ps)) cut.parts in
      subst AreWhole (sym same) here

whole_front : (before others : List (List ℕ)) → AreWhole (before ++ others) → AreWhole before
whole_front [] others whole = tt
whole_front (line ∷ before) others whole = (whole.0, whole_front before others whole.1)

whole_rest : (before others : List (List ℕ)) → AreWhole (before ++ others) → AreWhole others
whole_rest [] others whole = whole
whole_rest (line ∷ before) others whole = whole_rest before others whole.1

joined_behind : (before : List (List ℕ)) (part : List ℕ) (others : List (List ℕ)) → join_with_byte line_feed (before ++ part ∷ others) ≡ ended_lines before ++ join_with_byte line_feed (part ∷ others)
joined_behind [] part others = refl
joined_behind (line ∷ []) part others = sym (append_assoc (line ++ line_feed ∷ []) [] (join_with_byte line_feed (part ∷ others)) ∙ append_assoc line (line_feed ∷ []) (join_with_byte line_feed (part ∷ others)))
joined_behind (line ∷ next ∷ before) part others =
    ap (λ (bs : List ℕ). line ++ line_feed ∷ bs) (joined_behind (next ∷ before) part others)
    ∙ sym (append_assoc (line ++ line_feed ∷ []) (ended_lines (next ∷ before)) (join_with_byte line_feed (part ∷ others)) ∙ append_assoc line (line_feed ∷ []) (ended_lines (next ∷ before) ++ join_with_byte line_feed (part ∷ others)))

-- bytes are the lines before a part, and then this part and what stands behind it
bytes_behind : (bytes : List ℕ) (before : List (List ℕ)) (part : List ℕ) (others : List (List ℕ)) → parts_of line_feed bytes ≡ before ++ part ∷ others → bytes ≡ ended_lines before ++ join_with_byte line_feed (part ∷ others)
bytes_behind bytes before part others parts = sym (join_with_byte-slice_split line_feed bytes) ∙ (ap (join_with_byte line_feed) parts ∙ joined_behind before part others)

first_none : (bytes : List ℕ) → first_lines 0 bytes ≡ []
first_none [] = refl
first_none (b ∷ bytes) = refl

-- the lines before are the first ones
first_before : (bytes rest : List ℕ) (before : List (List ℕ)) → AreWhole before → bytes ≡ ended_lines before ++ rest → first_lines (length before) bytes ≡ ended_lines before
first_before bytes rest before whole is =
    ap (first_lines (length before)) is
    ∙ (ap (λ (n : ℕ). first_lines n (ended_lines before ++ rest)) (omega arith)
    ∙ (first_of_lines before rest 0 whole ∙ (ap (λ (bs : List ℕ). ended_lines before ++ bs) (first_none rest) ∙ append-nil (ended_lines before))))

go_on_before : (sources : List Source) (bytes rest : List ℕ) (before : List (List ℕ)) (number : ℕ) → AreWhole before → bytes ≡ ended_lines before ++ rest → CanReach sources before → number < length before + 1 → CanGoOn sources (first_lines number bytes)
go_on_before sources bytes rest before number whole is r low =
    begins sources (first_lines number bytes) (first_lines (length before) bytes) (first_fewer number (length before) bytes (omega arith))
    (subst (CanGoOn sources) (sym (first_before bytes rest before whole is)) (go_on sources before r))

-- ---- where bytes are refused

fewer : (parts : List (List ℕ)) → length parts ≤ suc (length (without_empty_end parts))
fewer [] = omega arith
fewer ([] ∷ []) = omega arith
fewer ((b ∷ bs) ∷ []) = omega arith
fewer (part ∷ next ∷ parts) = let rest = fewer (next ∷ parts) in omega arith

first_whole : (line rest : List ℕ) → has_line_feed line ≡ false → first_lines 1 (line ++ line_feed ∷ rest) ≡ line ++ line_feed ∷ []
first_whole line rest none = first_of_line line rest 0 none ∙ ap (λ (bs : List ℕ). line ++ line_feed ∷ bs) (first_none rest)

-- where a line that ends can't come next, bytes are refused at it
pub refused_line : (sources : List Source) (bytes : List ℕ) (before : List (List ℕ)) (line next : List ℕ) (others : List (List ℕ)) → AreNamed sources → parts_of line_feed bytes ≡ before ++ line ∷ next ∷ others
    → CanReach sources before → (ComesNext sources before line → ⊥) → IsBadLine sources bytes (length before + 1)
refused_line sources bytes before line next others named parts r never =
    let whole = subst AreWhole parts (parts_whole bytes) in
    let front = whole_front before (line ∷ next ∷ others) whole in
    let none = (whole_rest before (line ∷ next ∷ others) whole).0 in
    let rest = join_with_byte line_feed (next ∷ others) in
    let is = bytes_behind bytes before line (next ∷ others) parts in
    record {
      before = λ number low. go_on_before sources bytes (line ++ line_feed ∷ join_with_byte line_feed (next ∷ others)) before number front is r low;
      here = inl (
        (let count = fewer (parts_of line_feed bytes) in omega (arith, count, ap length parts, length-append before (line ∷ next ∷ others))),
        λ goes.
            let text : first_lines (length before + 1) bytes ≡ ended_lines before ++ (line ++ line_feed ∷ []) =
            ap (first_lines (length before + 1)) is
            ∙ (first_of_lines before (line ++ line_feed ∷ join_with_byte line_feed (next ∷ others)) 1 front
            ∙ ap (λ (bs : List ℕ). ended_lines before ++ bs) (first_whole line (join_with_byte line_feed (next ∷ others)) none)) in
            let found = text_goes_on (checkpoint_lines sources goes.states) before line goes.more (checkpoint_whole sources goes.states named goes.saved) front none (ap (λ (bs : List ℕ). bs ++ goes.more) (sym text) ∙ goes.text) in
            never (record { states = goes.states; more = found.more; saved = goes.saved; lines = found.is }),
      );
    }

-- where no line that can come next begins with what stands behind the last line feed, they are refused there
pub refused_front : (sources : List Source) (bytes : List ℕ) (before : List (List ℕ)) (b : ℕ) (front : List ℕ) → AreNamed sources → parts_of line_feed bytes ≡ before ++ (b ∷ front) ∷ []
    → CanReach sources before → (IsFront sources before (b ∷ front) → ⊥) → IsBadLine sources bytes (length before + 1)
refused_front sources bytes before b front named parts r never =
    let whole = subst AreWhole parts (parts_whole bytes) in
    let begun = whole_front before ((b ∷ front) ∷ []) whole in
    let none = (whole_rest before ((b ∷ front) ∷ []) whole).0 in
    let is = bytes_behind bytes before (b ∷ front) [] parts in
    record {
      before = λ number low. go_on_before sources bytes (b ∷ front) before number begun is r low;
      here = inl (
        omega (arith, count_unfinished bytes before b front parts, length-append before ((b ∷ front) ∷ [])),
        λ goes.
            let text : first_lines (length before + 1) bytes ≡ ended_lines before ++ b ∷ front =
            ap (first_lines (length before + 1)) is ∙ (first_of_lines before (b ∷ front) 1 begun ∙ ap (λ (bs : List ℕ). ended_lines before ++ bs) (first_unfinished (b ∷ front) 0 none)) in
            let found = text_front (checkpoint_lines sources goes.states) before b front goes.more (checkpoint_whole sources goes.states named goes.saved) begun none (ap (λ (bs : List ℕ). bs ++ goes.more) (sym text) ∙ goes.text) in
            never (record { rest = found.rest; follows = record { states = goes.states; more = found.goes_on.more; saved = goes.saved; lines = found.goes_on.is } }),
      );
    }

last_apart : (xs ys : List (List ℕ)) (b : ℕ) (front : List ℕ) → xs ++ [] ∷ [] ≡ ys ++ (b ∷ front) ∷ [] → ⊥
last_apart [] [] b front h = let e = first_same [] (b ∷ front) [] [] h in cc
last_apart [] (y ∷ ys) b front h = none ys (rest_same [] y [] (ys ++ (b ∷ front) ∷ []) h) where
  none : (ys : List (List ℕ)) → ◌≡◌ {A = List (List ℕ)} [] (ys ++ (b ∷ front) ∷ []) → ⊥
  none [] e = cc
  none (z ∷ zs) e = cc
last_apart (x ∷ xs) [] b front h = none xs (rest_same x (b ∷ front) (xs ++ [] ∷ []) [] h) where
  none : (xs : List (List ℕ)) → ◌≡◌ {A = List (List ℕ)} (xs ++ [] ∷ []) [] → ⊥
  none [] e = cc
  none (z ∷ zs) e = cc
last_apart (x ∷ xs) (y ∷ ys) b front h = last_apart xs ys b front (rest_same x y (xs ++ [] ∷ []) (ys ++ (b ∷ front) ∷ []) h)

first_all_at : (c : ℕ) (test : Bool) (number : ℕ) (cs : List ℕ) → IsBegin (first_lines number cs) cs → IsBegin (first_lines (suc number) cs) cs → IsBegin (c ∷ first_lines (cond test number (suc number)) cs) (c ∷ cs)
first_all_at c true number cs one other = record { rest = one.rest; is = ap (λ (bs : List ℕ). c ∷ bs) one.is }
first_all_at c false number cs one other = record { rest = other.rest; is = ap (λ (bs : List ℕ). c ∷ bs) other.is }

first_all : (number : ℕ) (bytes : List ℕ) → IsBegin (first_lines number bytes) bytes
first_all number [] = begin_itself []
first_all zero (c ∷ cs) = record { rest = c ∷ cs; is = refl }
first_all (suc number) (c ∷ cs) = first_all_at c (eqb c line_feed) number cs (first_all number cs) (first_all (suc number) cs)

-- bytes that are refused spell no states
pub refused_apart : (sources : List Source) (states : List State) (bytes : List ℕ) (line : ℕ) → RefusesBytes sources bytes line → IsCheckpoint sources states bytes → ⊥
refused_apart sources states bytes line (inl long) is = let short = is.short in let over = long.0 in omega arith
refused_apart sources states bytes line (inr bad) is = at bad.1.here where
  whole : CanGoOn sources bytes
  whole = record { states = states; more = []; saved = is.saved; text = append-nil bytes ∙ is.text }

  at : ((line ≤ line_count bytes) × (CanGoOn sources (first_lines line bytes) → ⊥)) ⊎ ((line ≡ line_count bytes + 1) × IsNoText sources bytes) → ⊥
  at (inl stops) = stops.1 (begins sources (first_lines line bytes) bytes (first_all line bytes) whole)
  at (inr none) = none.1 states is.saved is.text

-- where one does, they stop early
pub stopped_front : (sources : List Source) (bytes : List ℕ) (before : List (List ℕ)) (b : ℕ) (front : List ℕ) → AreNamed sources → parts_of line_feed bytes ≡ before ++ (b ∷ front) ∷ []
    → IsFront sources before (b ∷ front) → IsBadLine sources bytes (length before + 2)
stopped_front sources bytes before b front named parts f =
    let is = bytes_behind bytes before (b ∷ front) [] parts in
    let all : CanGoOn sources bytes = subst (CanGoOn sources) (sym is) (go_on_front sources before (b ∷ front) f) in
    record {
      before = λ number low. begins sources (first_lines number bytes) bytes (first_all number bytes) all;
      here = inr (
        omega (arith, count_unfinished bytes before b front parts, length-append before ((b ∷ front) ∷ [])),
        λ states saved text. last_apart (checkpoint_lines sources states) before b front
            (sym (parts_of_lines (checkpoint_lines sources states) (checkpoint_whole sources states named saved)) ∙ (ap (parts_of line_feed) (sym text) ∙ parts)),
      );
    }

same_front : (xs ys : List (List ℕ)) → xs ++ [] ∷ [] ≡ ys ++ [] ∷ [] → xs ≡ ys
same_front [] [] h = refl
same_front [] (y ∷ ys) h = absurd (none ys (rest_same [] y [] (ys ++ [] ∷ []) h)) where
  none : (ys : List (List ℕ)) → ◌≡◌ {A = List (List ℕ)} [] (ys ++ [] ∷ []) → ⊥
  none [] e = cc
  none (z ∷ zs) e = cc
same_front (x ∷ xs) [] h = absurd (none xs (rest_same x [] (xs ++ [] ∷ []) [] h)) where
  none : (xs : List (List ℕ)) → ◌≡◌ {A = List (List ℕ)} (xs ++ [] ∷ []) [] → ⊥
  none [] e = cc
  none (z ∷ zs) e = cc
same_front (x ∷ xs) (y ∷ ys) h = ap (λ (l : List ℕ). l ∷ xs) (first_same x y (xs ++ [] ∷ []) (ys ++ [] ∷ []) h) ∙ ap (λ (ls : List (List ℕ)). y ∷ ls) (same_front xs ys (rest_same x y (xs ++ [] ∷ []) (ys ++ [] ∷ []) h))

-- where all lines go on, and aren't those of a checkpoint, they stop early too
pub stopped : (sources : List Source) (bytes : List ℕ) (before : List (List ℕ)) → AreNamed sources → parts_of line_feed bytes ≡ before ++ [] ∷ [] → CanReach sources before
    → ((states : List State) → AreSaved sources states → before ≡ checkpoint_lines sources states → ⊥) → IsBadLine sources bytes (length before + 1)
stopped sources bytes before named parts r never =
    let whole = subst AreWhole parts (parts_whole bytes) in
    record {
      before = λ number low. go_on_before sources bytes [] before number (whole_front before ([] ∷ []) whole) (bytes_behind bytes before [] [] parts) r low;
      here = inr (
        omega (arith, count_whole bytes before parts),
        λ states saved text. never states saved (same_front before (checkpoint_lines sources states)
            (sym parts ∙ (ap (parts_of line_feed) text ∙ parts_of_lines (checkpoint_lines sources states) (checkpoint_whole sources states named saved)))),
      );
    }

-- and where they are those of a checkpoint, the bytes are its text
pub whole_text : (sources : List Source) (bytes : List ℕ) (before : List (List ℕ)) (states : List State) → parts_of line_feed bytes ≡ before ++ [] ∷ [] → before ≡ checkpoint_lines sources states → bytes ≡ checkpoint_text sources states
whole_text sources bytes before states parts lines = bytes_behind bytes before [] [] parts ∙ (append-nil (ended_lines before) ∙ ap ended_lines lines)

-- ---- lines that aren't all of a checkpoint

no_tail : (xs : List (List ℕ)) (x : List ℕ) → xs ++ x ∷ [] ≡ [] → ⊥
no_tail [] x h = cc
no_tail (y ∷ ys) x h = cc

pub none_isnt_all : (sources : List Source) (states : List State) → ◌≡◌ {A = List (List ℕ)} [] (checkpoint_lines sources states) → ⊥
none_isnt_all sources states h = cc

pub head_isnt_all : (sources : List Source) (states : List State) → head_line ∷ [] ≡ checkpoint_lines sources states → ⊥
head_isnt_all sources states h = no_tail (states_lines sources states) end_line (sym (rest_same head_line head_line [] (states_lines sources states ++ end_line ∷ []) h))

pub source_isnt_all : (front : List Source) (source : Source) (sources : List Source) (done states : List State) (mark : ℕ) (events : List EventState) → AreSaved front done → All HasId events → AreSaved (front ++ source ∷ sources) states
    → head_line ∷ (states_lines front done ++ (source_line source.name mark ∷ map event_line events)) ≡ checkpoint_lines (front ++ source ∷ sources) states → ⊥
source_isnt_all front source sources done states mark events saved ids all h =
    let r = states_behind front (source ∷ sources) done states (source_line source.name mark ∷ map event_line events) all saved refl (sym (rest_same head_line head_line (states_lines front done ++ (source_line source.name mark ∷ map event_line events)) (states_lines (front ++ source ∷ sources) states ++ end_line ∷ []) h)) in
    at r.states r.saved r.lines where
      behind : (sources : List Source) (states : List State) → StartsOther (states_lines sources states ++ end_line ∷ [])
      behind [] states = refl
      behind (s ∷ ss) [] = refl
      behind (s ∷ ss) (st ∷ sts) = refl

      nothing : (others : List EventState) (rest : List (List ℕ)) → StartsOther rest → map event_line others ++ rest ≡ [] → ⊥
      nothing [] [] other e = other
      nothing [] (l ∷ ls) other e = cc
      nothing (o ∷ others) rest other e = cc

      at : (states : List State) → AreSaved (source ∷ sources) states → states_lines (source ∷ sources) states ++ end_line ∷ [] ≡ source_line source.name mark ∷ map event_line events → ⊥
      at [] saved lines = saved
      at (state ∷ states) saved lines =
          let b = events_behind state.events events (states_lines sources states ++ end_line ∷ []) [] saved.0.ids ids (behind sources states)
          (sym (append_assoc (map event_line state.events) (states_lines sources states) (end_line ∷ []))
          ∙ (rest_same (source_line source.name state.mark) (source_line source.name mark) ((map event_line state.events ++ states_lines sources states) ++ end_line ∷ []) (map event_line events) lines ∙ sym (append-nil (map event_line events)))) in
          nothing b.others (states_lines sources states ++ end_line ∷ []) (behind sources states) b.lines
