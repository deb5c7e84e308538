-- Which line may come next in a checkpoint.
use Rattle.std.proofs.Common.{◌≡◌, ℕ, suc, ◌<◌, ◌⊎◌, inl, inr, List, [], ◌∷◌, ◌++◌, map, false, refl, ap, sym, ◌∙◌, subst, arith, append_assoc, append-nil}
use Rattle.std.specs.Prelude.{All}
use Rattle.cedr_guard.specs.declared.state.EventState.{EventState}
use Rattle.cedr_guard.specs.Spelt.{State}
use Rattle.cedr_guard.proofs.SpeltLemmas.{AllAbove, IdsAscend, ascend_from}
use Rattle.cedr_save.specs.Checkpoints.{Source, HasId, IsSaved, AreSaved, event_line, source_line, states_lines, head_line, end_line, checkpoint_lines}
use Rattle.cedr_save.specs.Lines.{IsSavedEvent, ComesNext, AreLower, ids_of, IsEventLine, IsNextLine}
use Rattle.cedr_save.proofs.ListLemmas.{first_same, rest_same}
use Rattle.cedr_save.proofs.LineLemmas.{saved_event, starts_digit, event_starts, id_same}

-- ---- events and what stands behind them

-- the first of some lines is no event's
abbrev pub StartsOther : List (List ℕ) → Type 0
StartsOther [] = ⊥
StartsOther (line ∷ lines) = starts_digit line ≡ false

-- of events some stand before others: those before have these ids, and behind the others come these lines
pub record StandBehind (events : List EventState) (ids : List ℕ) (rest tail : List (List ℕ)) : Type 0 where
  pub before : List EventState
  pub others : List EventState
  pub all : events ≡ before ++ others
  pub same : ids_of before ≡ ids
  pub lines : map event_line others ++ rest ≡ tail

pub not_event : (e : EventState) (rest lines : List (List ℕ)) → HasId e → StartsOther rest → rest ≡ event_line e ∷ lines → ⊥
not_event e [] lines id other h = other
not_event e (line ∷ rest) lines id other h =
    let same : starts_digit line ≡ starts_digit (event_line e) = ap starts_digit (first_same line (event_line e) rest lines h) in
    let digit = event_starts e id in
    cc

-- where the lines of events and others are the lines of events and more, the latter events stand first
pub events_behind : (es ds : List EventState) (rest tail : List (List ℕ)) → All HasId es → All HasId ds → StartsOther rest → map event_line es ++ rest ≡ map event_line ds ++ tail → StandBehind es (ids_of ds) rest tail
events_behind es [] rest tail ids others other h = record { before = []; others = es; all = refl; same = refl; lines = h }
events_behind [] (d ∷ ds) rest tail ids others other h = absurd (not_event d rest (map event_line ds ++ tail) (others 0 d (omega arith)) other h)
events_behind (e ∷ es) (d ∷ ds) rest tail ids others other h =
    let r = events_behind es ds rest tail (λ k x within. ids (suc k) x (omega arith)) (λ k x within. others (suc k) x (omega arith)) other (rest_same (event_line e) (event_line d) (map event_line es ++ rest) (map event_line ds ++ tail) h) in
    let id = id_same e d (ids 0 e (omega arith)) (others 0 d (omega arith)) (first_same (event_line e) (event_line d) (map event_line es ++ rest) (map event_line ds ++ tail) h) in
    record {
      before = e ∷ r.before;
      others = r.others;
      all = ap (λ (xs : List EventState). e ∷ xs) r.all;
      same = ap (λ (is : List ℕ). e.id ∷ is) r.same ∙ ap (λ (i : ℕ). i ∷ ids_of ds) id;
      lines = r.lines;
    }

above_in : (id : ℕ) (before : List EventState) (e : EventState) (others : List EventState) → AllAbove id (before ++ e ∷ others) → id < e.id
above_in id [] e others above = above.0
above_in id (x ∷ before) e others above = above_in id before e others above.1

lower_before : (before : List EventState) (e : EventState) (others : List EventState) → IdsAscend (before ++ e ∷ others) → AreLower e.id (ids_of before)
lower_before [] e others up = tt
lower_before (x ∷ before) e others up = (above_in x.id before e others up.0, lower_before before e others up.1)

all_in : (P : EventState → Type 0) (before : List EventState) (e : EventState) (others : List EventState) → All P (before ++ e ∷ others) → P e
all_in P [] e others all = all 0 e (omega arith)
all_in P (x ∷ before) e others all = all_in P before e others (λ k d within. all (suc k) d (omega arith))

-- ---- the next line

-- the lines of sources and the last one
abbrev pub last_lines : List Source → List State → List (List ℕ)
last_lines sources states = states_lines sources states ++ end_line ∷ []

pub starts_other : (sources : List Source) (states : List State) → StartsOther (last_lines sources states)
starts_other [] states = refl
starts_other (source ∷ sources) [] = refl
starts_other (source ∷ sources) (state ∷ states) = refl

pub next_line : (sources : List Source) (states : List State) (line : List ℕ) (more : List (List ℕ)) → AreSaved sources states → states_lines sources states ++ end_line ∷ [] ≡ line ∷ more → IsNextLine sources line
next_line [] states line more saved h = sym (first_same end_line line [] more h)
next_line (source ∷ sources) [] line more saved h = absurd saved
next_line (source ∷ sources) (state ∷ states) line more saved h =
    (state.mark, saved.0.fit.time, sym (first_same (source_line source.name state.mark) line ((map event_line state.events ++ states_lines sources states) ++ end_line ∷ []) more h))

-- behind the events that were read comes one more event, or the next line
in_source : (source : Source) (sources : List Source) (state : State) (states : List State) (events : List EventState) (line : List ℕ) (more : List (List ℕ)) → IsSaved source state → AreSaved sources states → All HasId events
    → (map event_line state.events ++ states_lines sources states) ++ end_line ∷ [] ≡ map event_line events ++ line ∷ more → IsEventLine source (ids_of events) line ⊎ IsNextLine sources line
in_source source sources state states events line more saved others ids h =
    let r = events_behind state.events events (last_lines sources states) (line ∷ more) saved.ids ids (starts_other sources states) (sym (append_assoc (map event_line state.events) (states_lines sources states) (end_line ∷ [])) ∙ h) in
    at r.before r.others r.all r.same r.lines where
      at : (before rest : List EventState) → state.events ≡ before ++ rest → ids_of before ≡ ids_of events → map event_line rest ++ last_lines sources states ≡ line ∷ more → IsEventLine source (ids_of events) line ⊎ IsNextLine sources line
      at before [] all same lines = inr (next_line sources states line more others lines)
      at before (e ∷ rest) all same lines = inl (record {
        event = e;
        saved = all_in (IsSavedEvent source.types) before e rest (subst (All (IsSavedEvent source.types)) all (saved_event source state saved));
        above = subst (AreLower e.id) same (lower_before before e rest (subst IdsAscend all (ascend_from state.events saved.fit.ascend)));
        is = sym (first_same (event_line e) line (map event_line rest ++ last_lines sources states) more lines);
      })

-- the states of sources before others: the lines behind theirs are those of the other sources
pub record StatesBehind (sources : List Source) (tail : List (List ℕ)) : Type 0 where
  pub states : List State
  pub saved : AreSaved sources states
  pub lines : states_lines sources states ++ end_line ∷ [] ≡ tail

nothing_between : (others : List EventState) (rest tail : List (List ℕ)) → StartsOther tail → All HasId others → map event_line others ++ rest ≡ tail → rest ≡ tail
nothing_between [] rest tail other ids h = h
nothing_between (e ∷ others) rest tail other ids h = absurd (not_event e tail (map event_line others ++ rest) (ids 0 e (omega arith)) other (sym h))

ids_behind : (before others : List EventState) → All HasId (before ++ others) → All HasId others
ids_behind [] others ids = ids
ids_behind (e ∷ before) others ids = ids_behind before others (λ k d within. ids (suc k) d (omega arith))

pub states_behind : (front sources : List Source) (done states : List State) (tail : List (List ℕ)) → AreSaved (front ++ sources) states → AreSaved front done → StartsOther tail
    → states_lines (front ++ sources) states ++ end_line ∷ [] ≡ states_lines front done ++ tail → StatesBehind sources tail
states_behind [] sources [] states tail saved same other h = record { states = states; saved = saved; lines = h }
states_behind [] sources (d ∷ done) states tail saved same other h = absurd same
states_behind (s ∷ front) sources [] states tail saved same other h = absurd same
states_behind (s ∷ front) sources (d ∷ done) [] tail saved same other h = absurd saved
states_behind (s ∷ front) sources (d ∷ done) (st ∷ states) tail saved same other h =
    let tail_here = states_lines front done ++ tail in
    let lines : map event_line st.events ++ last_lines (front ++ sources) states ≡ map event_line d.events ++ (states_lines front done ++ tail) =
    sym (append_assoc (map event_line st.events) (states_lines (front ++ sources) states) (end_line ∷ []))
    ∙ (rest_same (source_line s.name st.mark) (source_line s.name d.mark) ((map event_line st.events ++ states_lines (front ++ sources) states) ++ end_line ∷ []) ((map event_line d.events ++ states_lines front done) ++ tail) h
    ∙ append_assoc (map event_line d.events) (states_lines front done) tail) in
    let r = events_behind st.events d.events (last_lines (front ++ sources) states) (states_lines front done ++ tail) saved.0.ids same.0.ids (starts_other (front ++ sources) states) lines in
    let here = nothing_between r.others (last_lines (front ++ sources) states) (states_lines front done ++ tail) (other_at front done tail same.1 other) (ids_behind r.before r.others (subst (All HasId) r.all saved.0.ids)) r.lines in
    states_behind front sources done states tail saved.1 same.1 other here where
      other_at : (front : List Source) (done : List State) (tail : List (List ℕ)) → AreSaved front done → StartsOther tail → StartsOther (states_lines front done ++ tail)
      other_at [] done tail same other = other
      other_at (s ∷ front) [] tail same other = absurd same
      other_at (s ∷ front) (d ∷ done) tail same other = refl

-- ---- what comes next behind lines

-- behind no line comes the first one
pub next_head : (sources : List Source) (line : List ℕ) → ComesNext sources [] line → line ≡ head_line
next_head sources line next = sym (first_same head_line line (states_lines sources next.states ++ end_line ∷ []) next.more next.lines)

-- behind the first line comes the line of the first source
pub next_begun : (sources : List Source) (line : List ℕ) → ComesNext sources (head_line ∷ []) line → IsNextLine sources line
next_begun sources line next = next_line sources next.states line next.more next.saved (rest_same head_line head_line (states_lines sources next.states ++ end_line ∷ []) (line ∷ next.more) next.lines)

-- behind the lines of sources and some of one more come an event of this one, or the next line
pub next_in_source : (front : List Source) (source : Source) (sources : List Source) (done : List State) (mark : ℕ) (events : List EventState) (line : List ℕ) → AreSaved front done → All HasId events
    → ComesNext (front ++ source ∷ sources) (head_line ∷ (states_lines front done ++ (source_line source.name mark ∷ map event_line events))) line → IsEventLine source (ids_of events) line ⊎ IsNextLine sources line
next_in_source front source sources done mark events line saved ids next =
    let lines : states_lines (front ++ source ∷ sources) next.states ++ end_line ∷ [] ≡ states_lines front done ++ (source_line source.name mark ∷ (map event_line events ++ line ∷ next.more)) =
    rest_same head_line head_line (states_lines (front ++ source ∷ sources) next.states ++ end_line ∷ []) ((states_lines front done ++ (source_line source.name mark ∷ map event_line events)) ++ line ∷ next.more) next.lines
    ∙ append_assoc (states_lines front done) (source_line source.name mark ∷ map event_line events) (line ∷ next.more) in
    let r = states_behind front (source ∷ sources) done next.states (source_line source.name mark ∷ (map event_line events ++ line ∷ next.more)) next.saved saved refl lines in
    at r.states r.saved r.lines where
      at : (states : List State) → AreSaved (source ∷ sources) states → states_lines (source ∷ sources) states ++ end_line ∷ [] ≡ source_line source.name mark ∷ (map event_line events ++ line ∷ next.more)
          → IsEventLine source (ids_of events) line ⊎ IsNextLine sources line
      at [] saved lines = absurd saved
      at (state ∷ states) all lines =
          in_source source sources state states events line next.more all.0 all.1 ids
          (rest_same (source_line source.name state.mark) (source_line source.name mark) ((map event_line state.events ++ states_lines sources states) ++ end_line ∷ []) (map event_line events ++ line ∷ next.more) lines)

front_all : (sources : List Source) → sources ++ [] ≡ sources
front_all sources = append-nil sources

-- behind all lines comes none
pub next_ended : (sources : List Source) (done : List State) (line : List ℕ) → AreSaved sources done → ComesNext sources (checkpoint_lines sources done) line → ⊥
next_ended sources done line saved next =
    let lines : states_lines sources next.states ++ end_line ∷ [] ≡ states_lines sources done ++ (end_line ∷ line ∷ next.more) =
    rest_same head_line head_line (states_lines sources next.states ++ end_line ∷ []) ((states_lines sources done ++ end_line ∷ []) ++ line ∷ next.more) next.lines
    ∙ append_assoc (states_lines sources done) (end_line ∷ []) (line ∷ next.more) in
    let r = states_behind sources [] done next.states (end_line ∷ line ∷ next.more) (subst (λ (ss : List Source). AreSaved ss next.states) (sym (front_all sources)) next.saved) saved refl
    (ap (λ (ss : List Source). states_lines ss next.states ++ end_line ∷ []) (front_all sources) ∙ lines) in
    none r.states (rest_same end_line end_line [] (line ∷ next.more) r.lines) where
      none : (states : List State) → ◌≡◌ {A = List (List ℕ)} [] (line ∷ next.more) → ⊥
      none states h = cc
