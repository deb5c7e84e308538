-- Choices with a late row: the scope of each of their rows ends after it.
use Rattle.std.proofs.Common.{◌≡◌, ℕ, zero, suc, ◌<◌, ◌≤◌, List, [], ◌∷◌, ◌++◌, length, Bool, true, false, cond, refl, ap, sym, ◌∙◌, subst, arith}
use Rattle.std.specs.Prelude.{map, nat_lt, ◌&&◌}
use Rattle.std.specs.List.{filter}
use Rattle.std.proofs.lemmas.Bool.{ltb-true, lt-ltb, and_parts, and_right}
use Rattle.std.proofs.lemmas.List.{append-nil}
use Rattle.cedr_base.specs.declared.row.Row.{Row}
use Rattle.cedr_base.specs.Rows.{SameRows}
use Rattle.change_laws.specs.Times.{later}
use Rattle.change_laws.proofs.BagSums.{same_itself}
use Rattle.cedr_table.specs.Operators.{Tables, with_table}
use Rattle.cedr_table.specs.Choices.{choices, chosen}
use Rattle.cedr_table.proofs.ChoiceLemmas.{same_chosen}
use Rattle.cedr_expr.specs.declared.test.Test.{Test}
use Rattle.cedr_expr.specs.Tests.{passes}
use Rattle.pat_state.specs.Starts.{scope_reaches}
use Rattle.pat_state.specs.Answers.{AllAmong}
use Rattle.pat_state.proofs.FlatLemmas.{flat_map-none, flat_map-filter}
use Rattle.pat_state.proofs.EndlessLemmas.{same_with, filtered_tables}
use Rattle.pat_state.specs.Ascending.{ascends, payloads_joined, choice_row, sequence}
use Rattle.pat_state.proofs.MatchLemmas.{chosen-cons}

abbrev pub all_pass : (Row → Bool) → List Row → Bool
all_pass p [] = true
all_pass p (r ∷ rs) = p r && all_pass p rs

-- where a choice gives nothing unless all its rows pass, the rows that pass give the same
chosen_passing : (f : List Row → List Row) (p : Row → Bool) (ts : Tables) → ((rs : List Row) → all_pass p rs ≡ false → f rs ≡ []) → chosen f (map (filter p) ts) ≡ chosen f ts
chosen_passing f p [] none = refl
chosen_passing f p (t ∷ ts) none =
    chosen-cons f (filter p t) (map (filter p) ts)
    ∙ (flat_map-filter (λ r. chosen (λ rs. f (r ∷ rs)) (map (filter p) ts)) (λ r. chosen (λ rs. f (r ∷ rs)) ts) p t
    (λ r is. chosen_passing (λ rs. f (r ∷ rs)) p ts (λ rs fails. none (r ∷ rs) (ap (λ b. b && all_pass p rs) is ∙ fails)))
    (λ r fails. sym (flat_map-none (λ rs. f (r ∷ rs)) (choices ts) (λ rs. none (r ∷ rs) (ap (λ b. b && all_pass p rs) fails))))
    ∙ sym (chosen-cons f t ts))

-- where no choice with a row on a port gives anything, they give nothing
chosen_nothing : (f : List Row → List Row) (x : Row) (port : ℕ) (ts : Tables) → port < length ts → ((before after : List Row) → length before ≡ port → f (before ++ x ∷ after) ≡ []) → chosen f (with_table ts port (x ∷ [])) ≡ []
chosen_nothing f x port [] within none = absurd (omega arith)
chosen_nothing f x zero (t ∷ ts) within none = chosen-cons f (x ∷ []) ts ∙ (append-nil (chosen (λ rs. f (x ∷ rs)) ts) ∙ flat_map-none (λ rs. f (x ∷ rs)) (choices ts) (λ rs. none [] rs refl))
chosen_nothing f x (suc port) (t ∷ ts) within none =
    chosen-cons f t (with_table ts port (x ∷ []))
    ∙ flat_map-none (λ r. chosen (λ rs. f (r ∷ rs)) (with_table ts port (x ∷ []))) t
    (λ r. chosen_nothing (λ rs. f (r ∷ rs)) x port ts (omega arith) (λ before after is. none (r ∷ before) after (ap (λ n. suc n) is)))

-- where a choice with a row on a port gives nothing unless all its rows pass, the rows that pass give the same with it
passing_with : (f : List Row → List Row) (p : Row → Bool) (x : Row) (port : ℕ) (ts : Tables) → port < length ts → ((before after : List Row) → length before ≡ port → all_pass p (before ++ x ∷ after) ≡ false → f (before ++ x ∷ after) ≡ [])
    → chosen f (with_table (map (filter p) ts) port (x ∷ [])) ≡ chosen f (with_table ts port (x ∷ []))
passing_with f p x port [] within none = absurd (omega arith)
passing_with f p x zero (t ∷ ts) within none =
    chosen-cons f (x ∷ []) (map (filter p) ts)
    ∙ (ap (λ rows. rows ++ []) (chosen_passing (λ rs. f (x ∷ rs)) p ts (λ rs fails. none [] rs refl (and_right (p x) (all_pass p rs) fails)))
    ∙ sym (chosen-cons f (x ∷ []) ts))
passing_with f p x (suc port) (t ∷ ts) within none =
    chosen-cons f (filter p t) (with_table (map (filter p) ts) port (x ∷ []))
    ∙ (flat_map-filter (λ r. chosen (λ rs. f (r ∷ rs)) (with_table (map (filter p) ts) port (x ∷ []))) (λ r. chosen (λ rs. f (r ∷ rs)) (with_table ts port (x ∷ []))) p t
    (λ r is. passing_with (λ rs. f (r ∷ rs)) p x port ts (omega arith) (λ before after at fails. none (r ∷ before) after (ap (λ n. suc n) at) (ap (λ b. b && all_pass p (before ++ x ∷ after)) is ∙ fails)))
    (λ r fails. sym (chosen_nothing (λ rs. f (r ∷ rs)) x port ts (omega arith) (λ before after at. none (r ∷ before) after (ap (λ n. suc n) at) (ap (λ b. b && all_pass p (before ++ x ∷ after)) fails))))
    ∙ sym (chosen-cons f t (with_table ts port (x ∷ []))))

-- what ascends begins below the limit
bounded : (start limit : ℕ) (rs : List Row) → ascends start limit rs ≡ true → start < limit
bounded start limit [] is = ltb-true start limit is
bounded start limit (r ∷ rs) is =
    let both = and_parts (nat_lt start r.begin) (ascends r.begin limit rs) is in
    let first = ltb-true start r.begin both.0 in
    let rest = bounded r.begin limit rs both.1 in
    omega arith

-- and so does each row among it
row_below : (start limit : ℕ) (before after : List Row) (x : Row) → ascends start limit (before ++ x ∷ after) ≡ true → x.begin < limit
row_below start limit [] after x is = bounded x.begin limit after (and_parts (nat_lt start x.begin) (ascends x.begin limit after) is).1
row_below start limit (b ∷ before) after x is = row_below b.begin limit before after x (and_parts (nat_lt start b.begin) (ascends b.begin limit (before ++ x ∷ after)) is).1

-- the scope of a row that begins no earlier than another one's ends no earlier
one_reaches : (scope time first : ℕ) (r : Row) → time < later first scope → first ≤ r.begin → scope_reaches scope time r ≡ true
one_reaches scope time first r less from = lt-ltb time (later r.begin scope) (omega arith)

all_reach : (scope time first start limit : ℕ) (rs : List Row) → time < later first scope → first ≤ start → ascends start limit rs ≡ true → all_pass (scope_reaches scope time) rs ≡ true
all_reach scope time first start limit [] less from is = refl
all_reach scope time first start limit (r ∷ rs) less from is =
    let both = and_parts (nat_lt start r.begin) (ascends r.begin limit rs) is in
    let begins = ltb-true start r.begin both.0 in
    let rest = all_reach scope time first r.begin limit rs less (omega arith) both.1 in
    ap (λ b. b && all_pass (scope_reaches scope time) rs) (one_reaches scope time first r less (omega arith)) ∙ rest

gives_none : (scope time : ℕ) (tests : List Test) (e : Row) (es : List Row) (b : Bool) → ascends e.begin (later e.begin scope) es ≡ b → (b ≡ true → time < later e.begin scope) → all_pass (scope_reaches scope time) (e ∷ es) ≡ false
    → cond (b && passes tests (payloads_joined (e ∷ es)) []) (choice_row scope e es ∷ []) [] ≡ []
gives_none scope time tests e es false is below fails = refl
gives_none scope time tests e es true is below fails =
    let less = below refl in
    let all = ap (λ b. b && all_pass (scope_reaches scope time) es) (one_reaches scope time e.begin e less (omega arith)) ∙ all_reach scope time e.begin e.begin (later e.begin scope) es less (omega arith) is in
    absurd (let wrong = sym all ∙ fails in cc)

-- a choice with a late row gives nothing unless the scope of each of its rows ends after it
ahead_choice : (scope time : ℕ) (tests : List Test) (x : Row) (before after : List Row) → time ≤ x.begin → all_pass (scope_reaches scope time) (before ++ x ∷ after) ≡ false → sequence scope tests (before ++ x ∷ after) ≡ []
ahead_choice scope time tests x [] after late fails =
    gives_none scope time tests x after (ascends x.begin (later x.begin scope) after) refl (λ is. let below = bounded x.begin (later x.begin scope) after is in omega arith) fails
ahead_choice scope time tests x (b ∷ before) after late fails =
    gives_none scope time tests b (before ++ x ∷ after) (ascends b.begin (later b.begin scope) (before ++ x ∷ after)) refl
    (λ is. let below = row_below b.begin (later b.begin scope) before after x is in omega arith) fails

-- tables that are the same among the rows whose scope ends after a time give the same choices with a row that
-- begins then or later
pub among_chosen : (scope time : ℕ) (tests : List Test) (left tables : Tables) (port : ℕ) (x : Row) → AllAmong (scope_reaches scope time) left tables → port < length left → port < length tables → time ≤ x.begin
    → SameRows (chosen (sequence scope tests) (with_table left port (x ∷ []))) (chosen (sequence scope tests) (with_table tables port (x ∷ [])))
among_chosen scope time tests left tables port x same within_left within late =
    let one = passing_with (sequence scope tests) (scope_reaches scope time) x port left within_left (λ before after at fails. ahead_choice scope time tests x before after late fails) in
    let two = passing_with (sequence scope tests) (scope_reaches scope time) x port tables within (λ before after at fails. ahead_choice scope time tests x before after late fails) in
    subst (λ rows. SameRows rows (chosen (sequence scope tests) (with_table tables port (x ∷ [])))) one
    (subst (SameRows (chosen (sequence scope tests) (with_table (map (filter (scope_reaches scope time)) left) port (x ∷ [])))) two
    (same_chosen (sequence scope tests) (with_table (map (filter (scope_reaches scope time)) left) port (x ∷ [])) (with_table (map (filter (scope_reaches scope time)) tables) port (x ∷ []))
    (same_with (map (filter (scope_reaches scope time)) left) (map (filter (scope_reaches scope time)) tables) port (x ∷ []) (x ∷ []) (filtered_tables (scope_reaches scope time) left tables same) (same_itself (x ∷ [])))))
