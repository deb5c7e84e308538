-- A text spells one list of states.
use Rattle.std.proofs.Common.{◌≡◌, ℕ, suc, ◌≤◌, List, [], ◌∷◌, ◌++◌, map, Bool, true, false, Option, Some, refl, ap, sym, ◌∙◌, subst, arith, append_assoc}
use Rattle.std.specs.Prelude.{All, Result, Ok, decimal, nat_lt}
use Rattle.std.proofs.lemmas.Bool.{ltb-false}
use Rattle.cedr_base.specs.declared.field.Field.{Field}
use Rattle.cedr_base.specs.declared.field.FieldType.{FieldType}
use Rattle.cedr_base.specs.Bytes.{comma, line_feed}
use Rattle.cedr_text.specs.declared.fault.LineFault.{LineFault}
use Rattle.cedr_text.specs.Parts.{parts_of}
use Rattle.cedr_text.specs.Quoting.{line_fields}
use Rattle.cedr_text.specs.Reading.{typed_payload}
use Rattle.cedr_text.specs.Texts.{time_text}
use Rattle.cedr_guard.specs.declared.state.EventState.{EventState}
use Rattle.cedr_guard.specs.Judging.{row_lives}
use Rattle.cedr_guard.specs.Spelt.{State, state_row, IsState, IsBareEvent, HasBare}
use Rattle.cedr_plan.specs.declared.plan.PlanNode.{PlanNode}
use Rattle.cedr_plan.specs.Rules.{ArePlanned}
use Rattle.cedr_plan.proofs.PlaceLemmas.{planned_nodes}
use Rattle.cedr_save.specs.Checkpoints.{Source, plan_sources, HasId, AreSaved, event_line, source_line, states_lines, head_line, end_line, checkpoint_lines, checkpoint_text, IsCheckpoint}
use Rattle.cedr_save.specs.Lines.{IsSavedEvent}
use Rattle.cedr_save.specs.Reading.{AreNamed}
use Rattle.cedr_save.proofs.ListLemmas.{first_same, rest_same, parts_of_lines}
use Rattle.cedr_save.proofs.TextLemmas.{time_same}
use Rattle.cedr_save.proofs.LineLemmas.{id_same, mark_same, saved_event, checkpoint_whole}
use Rattle.cedr_save.proofs.FollowLemmas.{StartsOther, not_event, last_lines, starts_other}
use Rattle.cedr_save.proofs.ReadLemmas.{value_of, living_is, living_fields, typed_read, event_times}
use Rattle.cedr_save.proofs.NameLemmas.{named_nodes}

-- ---- events

same_times : (e d : EventState) → IsState e → IsState d → HasId e → HasId d → event_line e ≡ event_line d → (e.begin ≡ d.begin) × (e.end ≡ d.end)
same_times e d one other id fits same =
    let a = event_times e one id in
    let b = event_times d other fits in
    let parts : decimal e.id ∷ time_text e.begin ∷ time_text e.end ∷ a.rest ≡ decimal d.id ∷ time_text d.begin ∷ time_text d.end ∷ b.rest = sym a.parts ∙ (ap (parts_of comma) same ∙ b.parts) in
    let behind = rest_same (decimal e.id) (decimal d.id) (time_text e.begin ∷ time_text e.end ∷ a.rest) (time_text d.begin ∷ time_text d.end ∷ b.rest) parts in
    let begins = first_same (time_text e.begin) (time_text d.begin) (time_text e.end ∷ a.rest) (time_text d.end ∷ b.rest) behind in
    let ends = first_same (time_text e.end) (time_text d.end) a.rest b.rest (rest_same (time_text e.begin) (time_text d.begin) (time_text e.end ∷ a.rest) (time_text d.end ∷ b.rest) behind) in
    let low = one.begins in
    let less = other.begins in
    (time_same e.begin d.begin (omega arith) (omega arith) begins, time_same e.end d.end one.ends other.ends ends)

fourth : (a b c f g h : List ℕ) (xs ys : List (List ℕ)) → ◌≡◌ {A = Option (List (List ℕ))} (Some (a ∷ b ∷ c ∷ xs)) (Some (f ∷ g ∷ h ∷ ys)) → xs ≡ ys
fourth a b c f g h xs ys e = cc

ok_same : (fs gs : List Field) → ◌≡◌ {A = Result (Option (List Field)) LineFault} (Ok (Some fs)) (Ok (Some gs)) → fs ≡ gs
ok_same fs gs e = cc

same_payload : (types : List FieldType) (e d : EventState) → IsSavedEvent types e → IsSavedEvent types d → row_lives (state_row e) ≡ true → row_lives (state_row d) ≡ true → event_line e ≡ event_line d → e.payload ≡ d.payload
same_payload types e d one other living alive same =
    let fields = sym (living_fields types e one living) ∙ (ap line_fields (sym (living_is e living) ∙ (same ∙ living_is d alive)) ∙ living_fields types d other alive) in
    let values = fourth (decimal e.id) (time_text e.begin) (time_text e.end) (decimal d.id) (time_text d.begin) (time_text d.end) (map value_of e.payload) (map value_of d.payload) fields in
    ok_same e.payload d.payload (sym (typed_read types e.payload (one.fields living)) ∙ (ap (typed_payload types) values ∙ typed_read types d.payload (other.fields alive)))

payload_at : (b : Bool) (types : List FieldType) (e d : EventState) → row_lives (state_row e) ≡ b → IsSavedEvent types e → IsSavedEvent types d → IsBareEvent e → IsBareEvent d → e.begin ≡ d.begin → e.end ≡ d.end → event_line e ≡ event_line d → e.payload ≡ d.payload
payload_at true types e d living one other bare plain begins ends same =
    let alive : row_lives (state_row d) ≡ true = subst (λ (n : ℕ). nat_lt n d.end ≡ true) begins (subst (λ (n : ℕ). nat_lt e.begin n ≡ true) ends living) in
    same_payload types e d one other living alive same
payload_at false types e d gone one other bare plain begins ends same =
    let low : e.end ≤ e.begin = ltb-false e.begin e.end gone in
    let none : d.payload ≡ [] = plain (omega arith) in
    bare low ∙ sym none

built : (e d : EventState) → e.id ≡ d.id → e.begin ≡ d.begin → e.end ≡ d.end → e.payload ≡ d.payload → e ≡ d
built e d i b t p =
    ap {B = EventState} (λ (n : ℕ). record { id = n; begin = e.begin; end = e.end; payload = e.payload }) i
    ∙ (ap {B = EventState} (λ (n : ℕ). record { id = d.id; begin = n; end = e.end; payload = e.payload }) b
    ∙ (ap {B = EventState} (λ (n : ℕ). record { id = d.id; begin = d.begin; end = n; payload = e.payload }) t
    ∙ ap {B = EventState} (λ (fs : List Field). record { id = d.id; begin = d.begin; end = d.end; payload = fs }) p))

event_same : (types : List FieldType) (e d : EventState) → IsSavedEvent types e → IsSavedEvent types d → IsBareEvent e → IsBareEvent d → event_line e ≡ event_line d → e ≡ d
event_same types e d one other bare plain same =
    let times = same_times e d one.state other.state one.id other.id same in
    built e d (id_same e d one.id other.id same) times.0 times.1 (payload_at (row_lives (state_row e)) types e d refl one other bare plain times.0 times.1 same)

events_same : (types : List FieldType) (es ds : List EventState) (rest tail : List (List ℕ)) → All (IsSavedEvent types) es → All (IsSavedEvent types) ds → All IsBareEvent es → All IsBareEvent ds → StartsOther rest → StartsOther tail
    → map event_line es ++ rest ≡ map event_line ds ++ tail → (es ≡ ds) × (rest ≡ tail)
events_same types [] [] rest tail saved others bare plain first last h = (refl, h)
events_same types [] (d ∷ ds) rest tail saved others bare plain first last h = absurd (not_event d rest (map event_line ds ++ tail) (others 0 d (omega arith)).id first h)
events_same types (e ∷ es) [] rest tail saved others bare plain first last h = absurd (not_event e tail (map event_line es ++ rest) (saved 0 e (omega arith)).id last (sym h))
events_same types (e ∷ es) (d ∷ ds) rest tail saved others bare plain first last h =
    let one = event_same types e d (saved 0 e (omega arith)) (others 0 d (omega arith)) (bare 0 e (omega arith)) (plain 0 d (omega arith)) (first_same (event_line e) (event_line d) (map event_line es ++ rest) (map event_line ds ++ tail) h) in
    let more = events_same types es ds rest tail (λ k x within. saved (suc k) x (omega arith)) (λ k x within. others (suc k) x (omega arith)) (λ k x within. bare (suc k) x (omega arith)) (λ k x within. plain (suc k) x (omega arith)) first last
    (rest_same (event_line e) (event_line d) (map event_line es ++ rest) (map event_line ds ++ tail) h) in
    (ap (λ (x : EventState). x ∷ es) one ∙ ap (λ (xs : List EventState). d ∷ xs) more.0, more.1)

-- ---- states

states_same : (sources : List Source) (one two : List State) → AreSaved sources one → AreSaved sources two → All HasBare one → All HasBare two → last_lines sources one ≡ last_lines sources two → one ≡ two
states_same [] [] [] saved other bare plain h = refl
states_same [] [] (t ∷ two) saved other bare plain h = absurd other
states_same [] (s ∷ one) two saved other bare plain h = absurd saved
states_same (source ∷ sources) [] two saved other bare plain h = absurd saved
states_same (source ∷ sources) (s ∷ one) [] saved other bare plain h = absurd other
states_same (source ∷ sources) (s ∷ one) (t ∷ two) saved other bare plain h =
    let mark = mark_same source.name s.mark t.mark saved.0.fit.time other.0.fit.time (first_same (source_line source.name s.mark) (source_line source.name t.mark) ((map event_line s.events ++ states_lines sources one) ++ end_line ∷ []) ((map event_line t.events ++ states_lines sources two) ++ end_line ∷ []) h) in
    let behind = rest_same (source_line source.name s.mark) (source_line source.name t.mark) ((map event_line s.events ++ states_lines sources one) ++ end_line ∷ []) ((map event_line t.events ++ states_lines sources two) ++ end_line ∷ []) h in
    let lines : map event_line s.events ++ last_lines sources one ≡ map event_line t.events ++ last_lines sources two =
    sym (append_assoc (map event_line s.events) (states_lines sources one) (end_line ∷ [])) ∙ (behind ∙ append_assoc (map event_line t.events) (states_lines sources two) (end_line ∷ [])) in
    let same = events_same source.types s.events t.events (last_lines sources one) (last_lines sources two) (saved_event source s saved.0) (saved_event source t other.0) (bare 0 s (omega arith)) (plain 0 t (omega arith)) (starts_other sources one) (starts_other sources two) lines in
    let rest = states_same sources one two saved.1 other.1 (λ k x within. bare (suc k) x (omega arith)) (λ k x within. plain (suc k) x (omega arith)) same.1 in
    ap {B = List State} (λ (m : ℕ). record { mark = m; events = s.events } ∷ one) mark
    ∙ (ap {B = List State} (λ (es : List EventState). record { mark = t.mark; events = es } ∷ one) same.0 ∙ ap (λ (sts : List State). t ∷ sts) rest)

-- ---- texts

some_left : (ys : List (List ℕ)) (z : List ℕ) → ◌≡◌ {A = List (List ℕ)} [] (ys ++ z ∷ []) → ⊥
some_left [] z h = cc
some_left (y ∷ ys) z h = cc

cut_last : (xs ys : List (List ℕ)) (z : List ℕ) → xs ++ z ∷ [] ≡ ys ++ z ∷ [] → xs ≡ ys
cut_last [] [] z h = refl
cut_last [] (y ∷ ys) z h = absurd (some_left ys z (rest_same z y [] (ys ++ z ∷ []) h))
cut_last (x ∷ xs) [] z h = absurd (some_left xs z (sym (rest_same x z (xs ++ z ∷ []) [] h)))
cut_last (x ∷ xs) (y ∷ ys) z h =
    ap (λ (l : List ℕ). l ∷ xs) (first_same x y (xs ++ z ∷ []) (ys ++ z ∷ []) h) ∙ ap (λ (ls : List (List ℕ)). y ∷ ls) (cut_last xs ys z (rest_same x y (xs ++ z ∷ []) (ys ++ z ∷ []) h))

text_same : (sources : List Source) (one two : List State) → AreNamed sources → AreSaved sources one → AreSaved sources two → All HasBare one → All HasBare two → checkpoint_text sources one ≡ checkpoint_text sources two → one ≡ two
text_same sources one two named saved other bare plain same =
    let parts = sym (parts_of_lines (checkpoint_lines sources one) (checkpoint_whole sources one named saved)) ∙ (ap (parts_of line_feed) same ∙ parts_of_lines (checkpoint_lines sources two) (checkpoint_whole sources two named other)) in
    let lines = cut_last (checkpoint_lines sources one) (checkpoint_lines sources two) [] parts in
    states_same sources one two saved other bare plain (rest_same head_line head_line (last_lines sources one) (last_lines sources two) lines)

-- the bytes of a checkpoint spell one list of states
pub one_state : (nodes : List PlanNode) (states others : List State) (bytes : List ℕ) → ArePlanned nodes → IsCheckpoint (plan_sources nodes) states bytes → IsCheckpoint (plan_sources nodes) others bytes → states ≡ others
one_state nodes states others bytes is one two = text_same (plan_sources nodes) states others (named_nodes [] nodes (planned_nodes nodes is)) one.saved two.saved one.bare two.bare (sym one.text ∙ two.text)
