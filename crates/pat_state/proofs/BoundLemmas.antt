-- A choice whose first rows fail a test makes no match.
use Rattle.std.proofs.Common.{◌≡◌, List, [], ◌∷◌, ◌++◌, Bool, true, false, cond, refl, ap, sym, ◌∙◌}
use Rattle.std.specs.Prelude.{nat_lt, ◌&&◌}
use Rattle.std.specs.List.{flat_map, filter}
use Rattle.std.proofs.lemmas.Bool.{and_right}
use Rattle.std.proofs.lemmas.List.{append-nil}
use Rattle.cedr_base.specs.declared.row.Row.{Row}
use Rattle.cedr_table.specs.Operators.{Tables}
use Rattle.cedr_table.specs.Choices.{choices}
use Rattle.cedr_expr.specs.declared.test.Test.{Test}
use Rattle.cedr_expr.specs.Tests.{passes, may_pass}
use Rattle.cedr_expr.proofs.MoreLemmas.{fails_more}
use Rattle.pat_state.specs.Ascending.{ascends, last_begin, payloads_joined}
use Rattle.pat_state.specs.Steps.{next, next_passing, grown, grown_passing, grown_all, is_match}
use Rattle.pat_state.proofs.FlatLemmas.{flat_map-like, flat_map-twice, flat_map-none}
use Rattle.pat_state.proofs.MatchLemmas.{longer, completed, completions, grown_complete}

-- a choice that goes on from two rows that fail
completed_fails : (tests : List Test) (p r : Row) (rs : List Row) → may_pass tests p.payload r.payload ≡ false → completed tests (longer p r) rs ≡ []
completed_fails tests p r rs h =
    ap (λ b. cond b (record { end = p.end; begin = last_begin r.begin rs; payload = (p.payload ++ r.payload) ++ payloads_joined rs } ∷ []) [])
    (and_right (ascends r.begin p.end rs) (passes tests ((p.payload ++ r.payload) ++ payloads_joined rs) []) (fails_more p.payload r.payload (payloads_joined rs) tests h))

fails_later : (tests : List Test) (ts : Tables) (p r : Row) → may_pass tests p.payload r.payload ≡ false → completions tests ts (longer p r) ≡ []
fails_later tests ts p r h = flat_map-none (completed tests (longer p r)) (choices ts) (λ rs. completed_fails tests p r rs h)

pruned_at : (tests : List Test) (ts : Tables) (p r : Row) (b c : Bool) → may_pass tests p.payload r.payload ≡ c → flat_map (completions tests ts) (cond (b && c) (longer p r ∷ []) []) ≡ flat_map (completions tests ts) (cond b (longer p r ∷ []) [])
pruned_at tests ts p r true true h = refl
pruned_at tests ts p r true false h = sym (append-nil (completions tests ts (longer p r)) ∙ fails_later tests ts p r h)
pruned_at tests ts p r false c h = refl

pruned_next : (tests : List Test) (ts : Tables) (p r : Row) → flat_map (completions tests ts) (next_passing (may_pass tests) p r) ≡ flat_map (completions tests ts) (next p r)
pruned_next tests ts p r = pruned_at tests ts p r (nat_lt p.begin r.begin && nat_lt r.begin p.end) (may_pass tests p.payload r.payload) refl

-- the matches that rows so far grow to are those of the ones that can pass
pub pruned : (tests : List Test) (so_far t : List Row) (ts : Tables) → filter (is_match tests) (grown_all (grown_passing (may_pass tests) so_far t) ts) ≡ filter (is_match tests) (grown_all (grown so_far t) ts)
pruned tests so_far t ts =
    grown_complete tests ts (grown_passing (may_pass tests) so_far t)
    ∙ (flat_map-twice (completions tests ts) (λ p. flat_map (next_passing (may_pass tests) p) t) so_far
    ∙ (flat_map-like _ _ so_far (λ p.
    flat_map-twice (completions tests ts) (next_passing (may_pass tests) p) t
    ∙ (flat_map-like (λ r. flat_map (completions tests ts) (next_passing (may_pass tests) p r)) (λ r. flat_map (completions tests ts) (next p r)) t (λ r. pruned_next tests ts p r)
    ∙ sym (flat_map-twice (completions tests ts) (next p) t)))
    ∙ (sym (flat_map-twice (completions tests ts) (λ p. flat_map (next p) t) so_far)
    ∙ sym (grown_complete tests ts (grown so_far t)))))
