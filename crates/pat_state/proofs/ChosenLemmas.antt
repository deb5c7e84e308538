-- Choices of the rows that are kept, of which the begins and the payloads alone matter.
use Rattle.std.proofs.Common.{◌≡◌, ℕ, zero, suc, ◌<◌, ◌≤◌, List, [], ◌∷◌, ◌++◌, length, cond, refl, ap, sym, ◌∙◌, subst, arith}
use Rattle.std.specs.Prelude.{◌&&◌, nat_lt}
use Rattle.cedr_base.specs.declared.row.Row.{Row}
use Rattle.cedr_base.specs.Rows.{SameRows}
use Rattle.change_laws.specs.Times.{later}
use Rattle.change_laws.proofs.BagSums.{same_itself, same_along}
use Rattle.cedr_table.specs.Operators.{Tables, SameTables, with_table}
use Rattle.cedr_table.specs.PortLaws.{same_length}
use Rattle.cedr_table.specs.Choices.{choices, chosen}
use Rattle.cedr_table.proofs.ChoiceLemmas.{same_chosen}
use Rattle.cedr_expr.specs.declared.test.Test.{Test}
use Rattle.cedr_expr.specs.Tests.{passes}
use Rattle.pat_state.specs.Starts.{endless, all_endless, endless_tables, scope_reaches}
use Rattle.pat_state.specs.Answers.{AllAmong}
use Rattle.pat_state.specs.Ascending.{ascends, last_begin, payloads_joined, sequence}
use Rattle.pat_state.specs.Steps.{matches}
use Rattle.pat_state.proofs.FlatLemmas.{flat_map-like, flat_map-map, flat_map-none}
use Rattle.pat_state.proofs.AnswerLemmas.{AllLate, ahead_earlier}
use Rattle.pat_state.proofs.EndlessLemmas.{endless_with, same_with}
use Rattle.pat_state.proofs.ReachLemmas.{among_chosen}
use Rattle.pat_state.proofs.MatchLemmas.{chosen-cons, matches_are, ahead_matches}

-- choices of rows without their ends
chosen_endless : (f : List Row → List Row) (ts : Tables) → chosen f (endless_tables ts) ≡ chosen (λ rs. f (all_endless rs)) ts
chosen_endless f [] = refl
chosen_endless f (t ∷ ts) =
    chosen-cons f (all_endless t) (endless_tables ts)
    ∙ (flat_map-map (λ r. chosen (λ rs. f (r ∷ rs)) (endless_tables ts)) endless t
    ∙ (flat_map-like (λ r. chosen (λ rs. f (endless r ∷ rs)) (endless_tables ts)) (λ r. chosen (λ rs. f (endless r ∷ all_endless rs)) ts) t (λ r. chosen_endless (λ rs. f (endless r ∷ rs)) ts)
    ∙ sym (chosen-cons (λ rs. f (all_endless rs)) t ts)))

ascends_endless : (after limit : ℕ) (rs : List Row) → ascends after limit (all_endless rs) ≡ ascends after limit rs
ascends_endless after limit [] = refl
ascends_endless after limit (r ∷ rs) = ap (λ b. nat_lt after r.begin && b) (ascends_endless r.begin limit rs)

last_endless : (after : ℕ) (rs : List Row) → last_begin after (all_endless rs) ≡ last_begin after rs
last_endless after [] = refl
last_endless after (r ∷ rs) = last_endless r.begin rs

joined_endless : (rs : List Row) → payloads_joined (all_endless rs) ≡ payloads_joined rs
joined_endless [] = refl
joined_endless (r ∷ rs) = ap (λ fields. r.payload ++ fields) (joined_endless rs)

-- a choice gives the same row whatever the ends
pub sequence_endless : (scope : ℕ) (tests : List Test) (rs : List Row) → sequence scope tests (all_endless rs) ≡ sequence scope tests rs
sequence_endless scope tests [] = refl
sequence_endless scope tests (e ∷ es) = λ i.
    cond (ascends_endless e.begin (later e.begin scope) es i && passes tests (e.payload ++ joined_endless es i) [])
    (record { end = later e.begin scope; begin = last_endless e.begin es i; payload = e.payload ++ joined_endless es i } ∷ []) []

-- so do all choices
pub chosen_same : (scope : ℕ) (tests : List Test) (ts : Tables) → chosen (sequence scope tests) (endless_tables ts) ≡ chosen (sequence scope tests) ts
chosen_same scope tests ts = chosen_endless (sequence scope tests) ts ∙ flat_map-like (λ rs. sequence scope tests (all_endless rs)) (sequence scope tests) (choices ts) (sequence_endless scope tests)

-- of tables that are alike but for the ends of their rows
pub alike_ends : (scope : ℕ) (tests : List Test) (ts us : Tables) → endless_tables ts ≡ endless_tables us → chosen (sequence scope tests) ts ≡ chosen (sequence scope tests) us
alike_ends scope tests ts us same = sym (chosen_same scope tests ts) ∙ (ap (chosen (sequence scope tests)) same ∙ chosen_same scope tests us)

pub with_alike : (ts : Tables) (port : ℕ) (xs ys : List Row) → all_endless xs ≡ all_endless ys → endless_tables (with_table ts port xs) ≡ endless_tables (with_table ts port ys)
with_alike ts port xs ys same = endless_with ts port xs ∙ (ap (with_table (endless_tables ts) port) same ∙ sym (endless_with ts port ys))

-- the rows that are kept give the same choices with a changed row as those that they are without their ends
kept_chosen : (scope : ℕ) (tests : List Test) (kept tables : Tables) (port : ℕ) (x : Row) → SameTables kept (endless_tables tables)
    → SameRows (chosen (sequence scope tests) (with_table kept port (x ∷ []))) (chosen (sequence scope tests) (with_table tables port (x ∷ [])))
kept_chosen scope tests kept tables port x rows =
    let ended : chosen (sequence scope tests) (with_table kept port (x ∷ [])) ≡ chosen (sequence scope tests) (with_table kept port (endless x ∷ [])) = alike_ends scope tests (with_table kept port (x ∷ [])) (with_table kept port (endless x ∷ [])) (with_alike kept port (x ∷ []) (endless x ∷ []) refl) in
    let full : chosen (sequence scope tests) (with_table (endless_tables tables) port (endless x ∷ [])) ≡ chosen (sequence scope tests) (with_table tables port (x ∷ [])) = ap (chosen (sequence scope tests)) (sym (endless_with tables port (x ∷ []))) ∙ chosen_same scope tests (with_table tables port (x ∷ [])) in
    subst (λ rows. SameRows rows (chosen (sequence scope tests) (with_table tables port (x ∷ [])))) (sym ended)
    (subst (SameRows (chosen (sequence scope tests) (with_table kept port (endless x ∷ [])))) full
    (same_chosen (sequence scope tests) (with_table kept port (endless x ∷ [])) (with_table (endless_tables tables) port (endless x ∷ [])) (same_with kept (endless_tables tables) port (endless x ∷ []) (endless x ∷ []) rows (same_itself (endless x ∷ [])))))

-- without a row on a port there is no choice
pub chosen_none : (f : List Row → List Row) (ts : Tables) (port : ℕ) → port < length ts → chosen f (with_table ts port []) ≡ []
chosen_none f [] port within = absurd (omega arith)
chosen_none f (t ∷ ts) zero within = refl
chosen_none f (t ∷ ts) (suc port) within = chosen-cons f t (with_table ts port []) ∙ flat_map-none (λ r. chosen (λ rs. f (r ∷ rs)) (with_table ts port [])) t (λ r. chosen_none (λ rs. f (r ∷ rs)) ts port (omega arith))

pub length-endless : (ts : Tables) → length (endless_tables ts) ≡ length ts
length-endless [] = refl
length-endless (t ∷ ts) = ap (λ n. suc n) (length-endless ts)

-- what is found with a changed row is what the tables' choices with it give, and no row of it begins before a time
pub record IsFound (scope : ℕ) (tests : List Test) (time : ℕ) (tables : Tables) (port : ℕ) (x : Row) (rows : List Row) : Type 0 where
  pub same : SameRows rows (chosen (sequence scope tests) (with_table tables port (x ∷ [])))
  pub late : AllLate time rows

-- What is found among rows that are kept with a changed row is what the choices of the tables with it give. The kept rows are
-- those that are left of the tables, which are the tables' among the rows whose scope ends after a time, and the changed
-- row begins then or later.
pub found_among : (scope time : ℕ) (tests : List Test) (kept left tables : Tables) (port : ℕ) (x : Row) → AllAmong (scope_reaches scope time) left tables → SameTables kept (endless_tables left) → length tables ≡ length kept → port < length tables → time ≤ x.begin
    → IsFound scope tests time tables port x (matches scope tests x port kept)
found_among scope time tests kept left tables port x among rows sizes within from =
    let are = matches_are scope tests x port kept (omega arith) in
    let lefts = same_length kept (endless_tables left) rows in
    let in_left : port < length left = omega (arith, lefts, length-endless left) in
    record {
      same =
          subst (λ rows. SameRows rows (chosen (sequence scope tests) (with_table tables port (x ∷ [])))) (sym are)
          (same_along (chosen (sequence scope tests) (with_table kept port (x ∷ []))) (chosen (sequence scope tests) (with_table left port (x ∷ []))) (chosen (sequence scope tests) (with_table tables port (x ∷ [])))
          (kept_chosen scope tests kept left port x rows) (among_chosen scope time tests left tables port x among in_left within from));
      late = subst (AllLate time) (sym are) (ahead_earlier time x.begin (chosen (sequence scope tests) (with_table kept port (x ∷ []))) from (ahead_matches scope tests x port kept (omega arith)));
    }
