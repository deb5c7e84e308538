-- Changes of blocked and freed rows repair the result.
use Rattle.std.proofs.Common.{◌≡◌, ℕ, ◌+◌, ◌<◌, ◌≤◌, List, [], ◌∷◌, ◌++◌, length, Bool, true, false, cond, refl, ap, sym, ◌∙◌, subst, arith}
use Rattle.std.specs.Prelude.{map, sum_by, nat_lt, ◌&&◌, ◌||◌}
use Rattle.std.specs.List.{flat_map}
use Rattle.std.proofs.lemmas.Bool.{ltb-true, lt-ltb, and_parts}
use Rattle.std.proofs.lemmas.List.{append-nil}
use Rattle.std.proofs.lemmas.List.Sums.{sum_by-cons}
use Rattle.cedr_base.specs.declared.time.TheConstants.{FOREVER}
use Rattle.cedr_base.specs.declared.row.Row.{Row}
use Rattle.cedr_base.specs.declared.change.Change.{Change}
use Rattle.cedr_base.specs.declared.change.Change.TheVariants.{Add, Cut}
use Rattle.cedr_base.specs.Rows.{IsRow, count_of, one_if_same, SameRows}
use Rattle.cedr_base.specs.Changes.{IsChange, sync_of, puts, takes, MayFollow}
use Rattle.cedr_base.proofs.Bags.{count_of-append, count_of-cons}
use Rattle.change_laws.specs.Repairs.{IsMoved, Repair}
use Rattle.change_laws.specs.Times.{later}
use Rattle.change_laws.proofs.BagSums.{sum_by-flat_map, same_flat_map, same_itself, same_along}
use Rattle.change_laws.proofs.Moves.{sum_by-moved, sum_by-there, remnant_none, may_is, applied, applied_moves}
use Rattle.cedr_table.specs.Counted.{SameAmong}
use Rattle.cedr_table.proofs.FilterLemmas.{sum_by-among, among_moved}
use Rattle.change_laws.proofs.RepairLemmas.{Turns, repair_by_turns}
use Rattle.cedr_table.specs.Operators.{Tables, Gains, CanTake, table_at, mark_at, with_table, least_of}
use Rattle.cedr_table.specs.PortLaws.{least_below, table_at-with, table_at-with_other}
use Rattle.cedr_expr.specs.declared.test.Test.{Test}
use Rattle.cedr_expr.specs.Tests.{passes}
use Rattle.pat_state.specs.declared.answer.Way.{Way}
use Rattle.pat_state.specs.declared.answer.Way.TheVariants.{Comes, Goes}
use Rattle.pat_state.specs.Starts.{endless, all_endless, endless_tables, scope_reaches, HasRow}
use Rattle.pat_state.specs.Answers.{answered, StandsByBegin}
use Rattle.pat_state.proofs.FlatLemmas.{flat_map-like, flat_map-map}
use Rattle.pat_state.proofs.AnswerLemmas.{AllLate, ahead-flat_map, ahead_same, come_turns, go_turns, same_turns}
use Rattle.pat_state.proofs.EndlessLemmas.{kept_at, left_at, kept_moved, stands_after, stands_has, left_withdraws, reaches_itself, tables_ends, endless_at}
use Rattle.pat_unless.specs.declared.terms.Terms.{Terms}
use Rattle.pat_unless.specs.Blocking.{blocks, is_blocked_by, waited, unblocked, all_unblocked, AreWhiles}
use Rattle.pat_unless.specs.BlockingLaws.{any_is, any_same, unblocked_same, same_unblocked}
use Rattle.pat_unless.specs.Steps.{only_blocked, decided, IsStep, Appends}

-- whether a row is blocked doesn't depend on ends
blocked_endless : (scope : ℕ) (tests : List Test) (blockers : List Row) (a : Row) → is_blocked_by scope tests (all_endless blockers) a ≡ is_blocked_by scope tests blockers a
blocked_endless scope tests [] a = refl
blocked_endless scope tests (b ∷ blockers) a = ap (λ c. blocks scope tests a b || c) (blocked_endless scope tests blockers a)

-- what is kept of a table, without ends: the same rows among those whose scope ends after a time
record Leaves (scope time : ℕ) (kept table : List Row) : Type 0 where
  left : List Row
  same : SameAmong (scope_reaches scope time) left table
  rows : SameRows kept (all_endless left)

-- of each port such rows are kept
abbrev leaves_at : {range : Type 0} (scope : ℕ) (kept tables : Tables) (marks : List ℕ) (port : ℕ) → StandsByBegin range scope kept tables marks → Leaves scope (least_of marks) (table_at kept port) (table_at tables port)
leaves_at scope kept tables marks port h = record { left = table_at h.left port; same = left_at scope kept tables marks port h; rows = kept_at scope kept tables marks port h }

-- the scope of what begins in the scope of a row ends no earlier
no_block_at : (scope time : ℕ) (tests : List Test) (a b : Row) (blocking : Bool) → blocks scope tests a b ≡ blocking → scope_reaches scope time a ≡ true → scope_reaches scope time b ≡ false → cond {A = ℕ} blocking 1 0 ≡ 0
no_block_at scope time tests a b true h reach none =
    let begins = ltb-true a.begin b.begin (and_parts (nat_lt a.begin b.begin) (nat_lt b.begin (later a.begin scope) && passes tests a.payload b.payload) h).0 in
    let ends = ltb-true time (later a.begin scope) reach in
    let other : scope_reaches scope time b ≡ true = lt-ltb time (later b.begin scope) (omega arith) in
    absurd (let wrong = sym other ∙ none in cc)
no_block_at scope time tests a b false h reach none = refl

-- of a row whose scope ends after a time, what is kept says whether it is blocked
kept_blocked : (scope time : ℕ) (tests : List Test) (kept blockers : List Row) (a : Row) → Leaves scope time kept blockers → scope_reaches scope time a ≡ true → is_blocked_by scope tests kept a ≡ is_blocked_by scope tests blockers a
kept_blocked scope time tests kept blockers a leaves reach =
    any_same (blocks scope tests a) kept (all_endless leaves.left) leaves.rows
    ∙ (blocked_endless scope tests leaves.left a
    ∙ (any_is (blocks scope tests a) leaves.left
    ∙ (ap (λ n. nat_lt 0 n) (sum_by-among (scope_reaches scope time) (λ b. cond (blocks scope tests a b) 1 0) leaves.left blockers leaves.same (λ b none. no_block_at scope time tests a b (blocks scope tests a b) refl reach none))
    ∙ sym (any_is (blocks scope tests a) blockers))))

kept_unblocked : (scope hold time : ℕ) (tests : List Test) (kept blockers : List Row) (a : Row) → Leaves scope time kept blockers → scope_reaches scope time a ≡ true → unblocked scope hold tests kept a ≡ unblocked scope hold tests blockers a
kept_unblocked scope hold time tests kept blockers a leaves reach = ap (λ b. cond b [] (waited scope hold a)) (kept_blocked scope time tests kept blockers a leaves reach)

-- the result at tables with another one on a port
with_rows : (scope hold : ℕ) (tests : List Test) (tables : Tables) (after : List Row) → length tables ≡ 2 → all_unblocked scope hold tests (with_table tables 0 after) ≡ flat_map (unblocked scope hold tests (table_at tables 1)) after
with_rows scope hold tests tables after two = λ i. flat_map (unblocked scope hold tests (table_at-with_other tables 0 1 after (λ same. omega arith) i)) (table_at-with tables 0 after (omega arith) i)

with_blockers : (scope hold : ℕ) (tests : List Test) (tables : Tables) (after : List Row) → length tables ≡ 2 → all_unblocked scope hold tests (with_table tables 1 after) ≡ flat_map (unblocked scope hold tests after) (table_at tables 0)
with_blockers scope hold tests tables after two = λ i. flat_map (unblocked scope hold tests (table_at-with tables 1 after (omega arith) i)) (table_at-with_other tables 1 0 after (λ same. omega arith) i)

ahead_life : (t begin end : ℕ) (a : Row) (b : Bool) → nat_lt begin end ≡ b → end ≤ FOREVER → t ≤ begin → AllLate t (cond b (record { end = end; begin = begin; payload = a.payload } ∷ []) [])
ahead_life t begin end a true h time from = let lives = ltb-true begin end h in ((record { lives = lives; begins = omega arith; ends = time }, from), tt)
ahead_life t begin end a false h time from = tt

ahead_waited : (t scope hold : ℕ) (a : Row) → t ≤ later a.begin scope → AllLate t (waited scope hold a)
ahead_waited t scope hold a from = ahead_life t (later a.begin scope) (later (later a.begin scope) hold) a (nat_lt (later a.begin scope) (later (later a.begin scope) hold)) refl (omega arith) from

ahead_at : (t : ℕ) (b : Bool) (rows : List Row) → AllLate t rows → AllLate t (cond b [] rows)
ahead_at t true rows late = tt
ahead_at t false rows late = late

ahead_unblocked : (t scope hold : ℕ) (tests : List Test) (blockers : List Row) (a : Row) → t ≤ later a.begin scope → AllLate t (unblocked scope hold tests blockers a)
ahead_unblocked t scope hold tests blockers a from = ahead_at t (is_blocked_by scope tests blockers a) (waited scope hold a) (ahead_waited t scope hold a from)

ahead_only : (t scope hold : ℕ) (tests : List Test) (others : List Row) (b a : Row) (blocking : Bool) → blocks scope tests a b ≡ blocking → t ≤ b.begin → AllLate t (cond blocking (unblocked scope hold tests others a) [])
ahead_only t scope hold tests others b a true h from =
    let both = and_parts (nat_lt a.begin b.begin) (nat_lt b.begin (later a.begin scope) && passes tests a.payload b.payload) h in
    let within = ltb-true b.begin (later a.begin scope) (and_parts (nat_lt b.begin (later a.begin scope)) (passes tests a.payload b.payload) both.1).0 in
    ahead_unblocked t scope hold tests others a (omega arith)
ahead_only t scope hold tests others b a false h from = tt

-- the rows of which a blocker decides don't begin before it
ahead_decided : (t scope hold : ℕ) (tests : List Test) (others : List Row) (b : Row) (rows : List Row) → t ≤ b.begin → AllLate t (decided scope hold tests others b rows)
ahead_decided t scope hold tests others b rows from = ahead-flat_map t (only_blocked scope hold tests others b) rows (λ a. ahead_only t scope hold tests others b a (blocks scope tests a b) refl from)

-- a row that is blocked by a late one has a scope that ends after it
blocked_reaches : (scope time : ℕ) (tests : List Test) (a b : Row) → time ≤ b.begin → blocks scope tests a b ≡ true → scope_reaches scope time a ≡ true
blocked_reaches scope time tests a b late h =
    let both = and_parts (nat_lt a.begin b.begin) (nat_lt b.begin (later a.begin scope) && passes tests a.payload b.payload) h in
    let within = ltb-true b.begin (later a.begin scope) (and_parts (nat_lt b.begin (later a.begin scope)) (passes tests a.payload b.payload) both.1).0 in
    lt-ltb time (later a.begin scope) (omega arith)

one_decided : (scope hold time : ℕ) (tests : List Test) (kept_others others : List Row) (b a : Row) (blocking : Bool) → blocks scope tests a b ≡ blocking → Leaves scope time kept_others others → time ≤ b.begin
    → cond blocking (unblocked scope hold tests kept_others a) [] ≡ cond blocking (unblocked scope hold tests others a) []
one_decided scope hold time tests kept_others others b a true h leaves late = kept_unblocked scope hold time tests kept_others others a leaves (blocked_reaches scope time tests a b late h)
one_decided scope hold time tests kept_others others b a false h leaves late = refl

none_decided : (scope hold time : ℕ) (tests : List Test) (others : List Row) (b a r : Row) (blocking : Bool) → blocks scope tests a b ≡ blocking → time ≤ b.begin → scope_reaches scope time a ≡ false → count_of r (cond blocking (unblocked scope hold tests others a) []) ≡ 0
none_decided scope hold time tests others b a r true h late none = absurd (let reach = blocked_reaches scope time tests a b late h in let wrong = sym reach ∙ none in cc)
none_decided scope hold time tests others b a r false h late none = refl

-- the rows of which a late blocker decides, of what is kept and of the tables
kept_decided : (scope hold time : ℕ) (tests : List Test) (kept_others others : List Row) (b : Row) (kept rows : List Row) → Leaves scope time kept_others others → Leaves scope time kept rows → time ≤ b.begin
    → SameRows (decided scope hold tests kept_others b kept) (decided scope hold tests others b rows)
kept_decided scope hold time tests kept_others others b kept rows same_others same_rows late = record {
  each = λ r.
      ap (count_of r) (flat_map-like (only_blocked scope hold tests kept_others b) (only_blocked scope hold tests others b) kept (λ a. one_decided scope hold time tests kept_others others b a (blocks scope tests a b) refl same_others late))
      ∙ ((same_flat_map (only_blocked scope hold tests others b) kept (all_endless same_rows.left) same_rows.rows).each r
      ∙ (ap (count_of r) (flat_map-map (only_blocked scope hold tests others b) endless same_rows.left)
      ∙ (sum_by-flat_map (one_if_same r) (only_blocked scope hold tests others b) same_rows.left
      ∙ (sum_by-among (scope_reaches scope time) (λ a. count_of r (only_blocked scope hold tests others b a)) same_rows.left rows same_rows.same (λ a none. none_decided scope hold time tests others b a r (blocks scope tests a b) refl late none)
      ∙ sym (sum_by-flat_map (one_if_same r) (only_blocked scope hold tests others b) rows)))));
}

-- with one blocker more a row is blocked by that one or by another
one_more : (r : Row) (blocking blocked : Bool) (rows : List Row) → count_of r (cond (blocking || blocked) [] rows) + count_of r (cond blocking (cond blocked [] rows) []) ≡ count_of r (cond blocked [] rows)
one_more r true true rows = refl
one_more r true false rows = omega arith
one_more r false true rows = refl
one_more r false false rows = omega arith

blocker_counts : (scope hold : ℕ) (tests : List Test) (all others : List Row) (b a r : Row) → SameRows all (b ∷ others) → count_of r (unblocked scope hold tests all a) + count_of r (only_blocked scope hold tests others b a) ≡ count_of r (unblocked scope hold tests others a)
blocker_counts scope hold tests all others b a r same =
    ap (λ found. count_of r found + count_of r (only_blocked scope hold tests others b a)) (unblocked_same scope hold tests all (b ∷ others) a same)
    ∙ one_more r (blocks scope tests a b) (is_blocked_by scope tests others a) (waited scope hold a)

sum_by-both : (f g h : Row → ℕ) (xs : List Row) → ((x : Row) → f x + g x ≡ h x) → sum_by f xs + sum_by g xs ≡ sum_by h xs
sum_by-both f g h [] same = refl
sum_by-both f g h (x ∷ xs) same = omega (arith, sum_by-cons f x xs, sum_by-cons g x xs, sum_by-cons h x xs, same x, sum_by-both f g h xs same)

-- all rows without those of which a blocker decides are those that are left with it
decided_counts : (scope hold : ℕ) (tests : List Test) (all others : List Row) (b r : Row) (rows : List Row) → SameRows all (b ∷ others)
    → count_of r (flat_map (unblocked scope hold tests all) rows) + count_of r (decided scope hold tests others b rows) ≡ count_of r (flat_map (unblocked scope hold tests others) rows)
decided_counts scope hold tests all others b r rows same =
    (λ i. sum_by-flat_map (one_if_same r) (unblocked scope hold tests all) rows i + sum_by-flat_map (one_if_same r) (only_blocked scope hold tests others b) rows i)
    ∙ (sum_by-both (λ a. count_of r (unblocked scope hold tests all a)) (λ a. count_of r (only_blocked scope hold tests others b a)) (λ a. count_of r (unblocked scope hold tests others a)) rows (λ a. blocker_counts scope hold tests all others b a r same)
    ∙ sym (sum_by-flat_map (one_if_same r) (unblocked scope hold tests others) rows))

-- a row that comes or goes on port 0 repairs what each row gives by itself
rows_repair : (f : Row → List Row) (c : Change) (old after : List Row) (t : ℕ) (cs : List Change) → MayFollow old [] c → IsMoved c old after → Turns t (flat_map f (takes c)) (flat_map f (puts c)) cs → Repair (flat_map f old) (flat_map f after) t cs
rows_repair f c old after t cs may moved turns = repair_by_turns (flat_map f old) (flat_map f after) (flat_map f (takes c)) (flat_map f (puts c)) t cs turns
    (λ r. omega (
      arith,
      sum_by-flat_map (one_if_same r) f old,
      sum_by-flat_map (one_if_same r) f after,
      sum_by-flat_map (one_if_same r) f (takes c),
      sum_by-flat_map (one_if_same r) f (puts c),
      sum_by-moved (λ x. count_of r (f x)) c old after moved.sums,
    ))
    (λ r. omega (arith, sum_by-flat_map (one_if_same r) f old, sum_by-flat_map (one_if_same r) f (takes c), sum_by-there (λ x. count_of r (f x)) c old may))

-- where a row comes on port 0 or goes from it, what turns the row that it gives repairs the result
row_at : (scope hold : ℕ) (tests : List Test) (kept_rows kept_blockers : List Row) (tables : Tables) (marks : List ℕ) (c : Change) (x : Row) (way : Way) (after : List Row) (given gained : List Change)
    → IsRow x → least_of marks ≤ x.begin → StandsByBegin (AreWhiles scope hold) scope (kept_rows ∷ kept_blockers ∷ []) tables marks → Appends way (unblocked scope hold tests kept_blockers x) given gained
    → ((f : Row → List Row) (found : List Row) → AllLate (least_of marks) found → SameRows found (f x ++ []) → Turns (least_of marks) (flat_map f (takes c)) (flat_map f (puts c)) (map (answered way) found))
    → CanTake tables marks 0 c → IsMoved c (table_at tables 0) after → Gains (all_unblocked scope hold tests tables) (all_unblocked scope hold tests (with_table tables 0 after)) (least_of marks) given gained
row_at scope hold tests kept_rows kept_blockers tables marks c x way after given gained row from stands appends turns can moved =
    let f = unblocked scope hold tests (table_at tables 1) in
    let given_by_it = unblocked scope hold tests kept_blockers x in
    let finite = row.begins in
    let late : AllLate (least_of marks) given_by_it = ahead_unblocked (least_of marks) scope hold tests kept_blockers x (omega arith) in
    let same : given_by_it ≡ f x =
    kept_unblocked scope hold (least_of marks) tests kept_blockers (table_at tables 1) x (leaves_at scope (kept_rows ∷ kept_blockers ∷ []) tables marks 1 stands) (reaches_itself scope (least_of marks) x stands.range.scope_is.least finite (omega arith)) in
    record {
      changes = map (answered way) appends.found;
      appended = appends.answers;
      repair =
          subst (λ (new : List Row). Repair (all_unblocked scope hold tests tables) new (least_of marks) (map (answered way) appends.found)) (sym (with_rows scope hold tests tables after stands.table))
          (rows_repair f c (table_at tables 0) after (least_of marks) (map (answered way) appends.found) can.legal moved
          (turns f appends.found (ahead_same (least_of marks) appends.found given_by_it appends.same late) (record { each = λ r. appends.same.each r ∙ ap (count_of r) (same ∙ sym (append-nil (f x))) })));
    }

-- where a row comes on port 0, the addition of the row that it gives repairs the result
pub row_comes : (scope hold : ℕ) (tests : List Test) (kept_rows kept_blockers : List Row) (tables : Tables) (marks : List ℕ) (port : ℕ) (c : Change) (x : Row) (after : List Row) (given gained : List Change)
    → port ≡ 0 → c ≡ Add x → StandsByBegin (AreWhiles scope hold) scope (kept_rows ∷ kept_blockers ∷ []) tables marks → Appends Comes (unblocked scope hold tests kept_blockers x) given gained → CanTake tables marks port c → IsMoved c (table_at tables port) after
    → Gains (all_unblocked scope hold tests tables) (all_unblocked scope hold tests (with_table tables port after)) (least_of marks) given gained
row_comes scope hold tests kept_rows kept_blockers tables marks port c x after given gained at is stands appends can moved =
    let lengths = stands.mark in
    let row : IsRow x = subst IsChange is (may_is (table_at tables port) [] c can.legal) in
    let from : mark_at marks port ≤ x.begin = subst (λ (d : Change). mark_at marks port ≤ sync_of d) is can.from in
    let least = least_below port marks (omega arith) in
    subst (λ (port : ℕ). CanTake tables marks port c → IsMoved c (table_at tables port) after → Gains (all_unblocked scope hold tests tables) (all_unblocked scope hold tests (with_table tables port after)) (least_of marks) given gained) (sym at)
    (row_at scope hold tests kept_rows kept_blockers tables marks c x Comes after given gained row (omega arith) stands appends
    (λ f found late same. subst (λ (d : Change). Turns (least_of marks) (flat_map f (takes d)) (flat_map f (puts d)) (map (answered Comes) found)) (sym is) (come_turns (least_of marks) found (f x ++ []) late same))) can moved

-- where a row of port 0 is withdrawn, the withdrawal of the row that it gives repairs the result
pub row_goes : (scope hold : ℕ) (tests : List Test) (kept_rows kept_blockers : List Row) (tables : Tables) (marks : List ℕ) (port : ℕ) (c : Change) (x : Row) (end : ℕ) (after : List Row) (given gained : List Change)
    → port ≡ 0 → c ≡ Cut x end → end ≤ x.begin → StandsByBegin (AreWhiles scope hold) scope (kept_rows ∷ kept_blockers ∷ []) tables marks → Appends Goes (unblocked scope hold tests kept_blockers x) given gained → CanTake tables marks port c → IsMoved c (table_at tables port) after
    → Gains (all_unblocked scope hold tests tables) (all_unblocked scope hold tests (with_table tables port after)) (least_of marks) given gained
row_goes scope hold tests kept_rows kept_blockers tables marks port c x end after given gained at is gone stands appends can moved =
    let lengths = stands.mark in
    let row : IsRow x = (subst IsChange is (may_is (table_at tables port) [] c can.legal)).0 in
    let from : mark_at marks port ≤ end = subst (λ (d : Change). mark_at marks port ≤ sync_of d) is can.from in
    let least = least_below port marks (omega arith) in
    subst (λ (port : ℕ). CanTake tables marks port c → IsMoved c (table_at tables port) after → Gains (all_unblocked scope hold tests tables) (all_unblocked scope hold tests (with_table tables port after)) (least_of marks) given gained) (sym at)
    (row_at scope hold tests kept_rows kept_blockers tables marks c x Goes after given gained row (omega arith) stands appends
    (λ f found late same. subst (λ (d : Change). Turns (least_of marks) (flat_map f (takes d)) (flat_map f (puts d)) (map (answered Goes) found)) (sym is)
    (subst (λ (left : List Row). Turns (least_of marks) (f x ++ []) (flat_map f left) (map (answered Goes) found)) (sym (remnant_none x end gone)) (go_turns (least_of marks) found (f x ++ []) late same)))) can moved

-- a blocker that comes takes the rows that it alone blocks
blocks_at : (scope hold : ℕ) (tests : List Test) (kept_rows kept_blockers : List Row) (tables : Tables) (marks : List ℕ) (c : Change) (b : Row) (after : List Row) (given gained : List Change)
    → c ≡ Add b → StandsByBegin (AreWhiles scope hold) scope (kept_rows ∷ kept_blockers ∷ []) tables marks → Appends Goes (decided scope hold tests kept_blockers b kept_rows) given gained → CanTake tables marks 1 c → IsMoved c (table_at tables 1) after
    → Gains (all_unblocked scope hold tests tables) (all_unblocked scope hold tests (with_table tables 1 after)) (least_of marks) given gained
blocks_at scope hold tests kept_rows kept_blockers tables marks c b after given gained is stands appends can moved =
    let two = stands.table in
    let lengths = stands.mark in
    let rows = table_at tables 0 in
    let others = table_at tables 1 in
    let found = decided scope hold tests kept_blockers b kept_rows in
    let from : mark_at marks 1 ≤ b.begin = subst (λ (d : Change). mark_at marks 1 ≤ sync_of d) is can.from in
    let least = least_below 1 marks (omega arith) in
    let added : IsMoved (Add b) others after = subst (λ (d : Change). IsMoved d others after) is moved in
    let all : SameRows after (b ∷ others) = record { each = λ r. omega (arith, added.sums.each r, count_of-append r after [], count_of-append r others (b ∷ []), count_of-cons r b others, count_of-cons r b []) } in
    let same =
    kept_decided scope hold (least_of marks) tests kept_blockers others b kept_rows rows (leaves_at scope (kept_rows ∷ kept_blockers ∷ []) tables marks 1 stands) (leaves_at scope (kept_rows ∷ kept_blockers ∷ []) tables marks 0 stands) (omega arith) in
    record {
      changes = map (answered Goes) appends.found;
      appended = appends.answers;
      repair =
          subst (λ (new : List Row). Repair (all_unblocked scope hold tests tables) new (least_of marks) (map (answered Goes) appends.found)) (sym (with_blockers scope hold tests tables after two))
          (repair_by_turns (flat_map (unblocked scope hold tests others) rows) (flat_map (unblocked scope hold tests after) rows) (decided scope hold tests others b rows) [] (least_of marks) (map (answered Goes) appends.found)
          (go_turns (least_of marks) appends.found (decided scope hold tests others b rows) (ahead_same (least_of marks) appends.found found appends.same (ahead_decided (least_of marks) scope hold tests kept_blockers b kept_rows (omega arith))) (same_along appends.found found (decided scope hold tests others b rows) appends.same same))
          (λ r. omega (arith, decided_counts scope hold tests after others b r rows all))
          (λ r. omega (arith, decided_counts scope hold tests after others b r rows all)));
    }

one_port : (tables : Tables) (marks : List ℕ) (port : ℕ) (c : Change) → length tables ≡ 2 → (port ≡ 0 → ⊥) → CanTake tables marks port c → port ≡ 1
one_port tables marks port c two other can = let within = can.port_is in omega arith

-- where a row comes on port 1, the withdrawal of the rows of which it decides repairs the result
pub row_blocks : (scope hold : ℕ) (tests : List Test) (kept_rows kept_blockers : List Row) (tables : Tables) (marks : List ℕ) (port : ℕ) (c : Change) (b : Row) (after : List Row) (given gained : List Change)
    → (port ≡ 0 → ⊥) → c ≡ Add b → StandsByBegin (AreWhiles scope hold) scope (kept_rows ∷ kept_blockers ∷ []) tables marks → Appends Goes (decided scope hold tests kept_blockers b kept_rows) given gained → CanTake tables marks port c → IsMoved c (table_at tables port) after
    → Gains (all_unblocked scope hold tests tables) (all_unblocked scope hold tests (with_table tables port after)) (least_of marks) given gained
row_blocks scope hold tests kept_rows kept_blockers tables marks port c b after given gained other is stands appends can moved =
    subst (λ (port : ℕ). CanTake tables marks port c → IsMoved c (table_at tables port) after → Gains (all_unblocked scope hold tests tables) (all_unblocked scope hold tests (with_table tables port after)) (least_of marks) given gained) (sym (one_port tables marks port c stands.table other can))
    (blocks_at scope hold tests kept_rows kept_blockers tables marks c b after given gained is stands appends) can moved

-- what is kept goes through a change as the table does
leaves_moved : (scope time : ℕ) (c : Change) (kept kept' table after : List Row) (leaves : Leaves scope time kept table) → MayFollow leaves.left [] c → IsStep c kept kept' → IsMoved c table after → Leaves scope time kept' after
leaves_moved scope time c kept kept' table after leaves may step moved = record {
  left = applied c leaves.left;
  same = among_moved (scope_reaches scope time) c leaves.left table after leaves.same may moved;
  rows = kept_moved c kept kept' leaves.left (applied c leaves.left) leaves.rows step.sums (applied_moves c leaves.left may);
}

-- a blocker that goes adds the rows that no other one blocks
frees_at : (scope hold : ℕ) (tests : List Test) (kept_rows kept_blockers kept_others : List Row) (tables : Tables) (marks : List ℕ) (c : Change) (b : Row) (end : ℕ) (after : List Row) (given gained : List Change)
    → c ≡ Cut b end → end ≤ b.begin → StandsByBegin (AreWhiles scope hold) scope (kept_rows ∷ kept_blockers ∷ []) tables marks → IsStep c kept_blockers kept_others → Appends Comes (decided scope hold tests kept_others b kept_rows) given gained → CanTake tables marks 1 c → IsMoved c (table_at tables 1) after
    → Gains (all_unblocked scope hold tests tables) (all_unblocked scope hold tests (with_table tables 1 after)) (least_of marks) given gained
frees_at scope hold tests kept_rows kept_blockers kept_others tables marks c b end after given gained is gone stands step appends can moved =
    let two = stands.table in
    let lengths = stands.mark in
    let rows = table_at tables 0 in
    let blockers = table_at tables 1 in
    let found = decided scope hold tests kept_others b kept_rows in
    let from : mark_at marks 1 ≤ end = subst (λ (d : Change). mark_at marks 1 ≤ sync_of d) is can.from in
    let least = least_below 1 marks (omega arith) in
    let taken : IsMoved (Cut b end) blockers after = subst (λ (d : Change). IsMoved d blockers after) is moved in
    let none = remnant_none b end gone in
    let all : SameRows blockers (b ∷ after) = record { each = λ r. omega (arith, taken.sums.each r, ap (count_of r) none, count_of-append r after (b ∷ []), count_of-append r blockers (puts (Cut b end)), count_of-cons r b after, count_of-cons r b []) } in
    let may = left_withdraws scope (kept_rows ∷ kept_blockers ∷ []) tables marks 1 stands c can b end stands.range.scope_is.least is gone in
    let others = leaves_moved scope (least_of marks) c kept_blockers kept_others blockers after (leaves_at scope (kept_rows ∷ kept_blockers ∷ []) tables marks 1 stands) may step moved in
    let same = kept_decided scope hold (least_of marks) tests kept_others after b kept_rows rows others (leaves_at scope (kept_rows ∷ kept_blockers ∷ []) tables marks 0 stands) (omega arith) in
    record {
      changes = map (answered Comes) appends.found;
      appended = appends.answers;
      repair =
          subst (λ (new : List Row). Repair (all_unblocked scope hold tests tables) new (least_of marks) (map (answered Comes) appends.found)) (sym (with_blockers scope hold tests tables after two))
          (repair_by_turns (flat_map (unblocked scope hold tests blockers) rows) (flat_map (unblocked scope hold tests after) rows) [] (decided scope hold tests after b rows) (least_of marks) (map (answered Comes) appends.found)
          (come_turns (least_of marks) appends.found (decided scope hold tests after b rows) (ahead_same (least_of marks) appends.found found appends.same (ahead_decided (least_of marks) scope hold tests kept_others b kept_rows (omega arith))) (same_along appends.found found (decided scope hold tests after b rows) appends.same same))
          (λ r. omega (arith, decided_counts scope hold tests blockers after b r rows all))
          (λ r. omega arith));
    }

-- where a row of port 1 is withdrawn, the addition of the rows of which it decides repairs the result
pub row_frees : (scope hold : ℕ) (tests : List Test) (kept_rows kept_blockers kept_others : List Row) (tables : Tables) (marks : List ℕ) (port : ℕ) (c : Change) (b : Row) (end : ℕ) (after : List Row) (given gained : List Change)
    → (port ≡ 0 → ⊥) → c ≡ Cut b end → end ≤ b.begin → StandsByBegin (AreWhiles scope hold) scope (kept_rows ∷ kept_blockers ∷ []) tables marks → IsStep c kept_blockers kept_others → Appends Comes (decided scope hold tests kept_others b kept_rows) given gained → CanTake tables marks port c → IsMoved c (table_at tables port) after
    → Gains (all_unblocked scope hold tests tables) (all_unblocked scope hold tests (with_table tables port after)) (least_of marks) given gained
row_frees scope hold tests kept_rows kept_blockers kept_others tables marks port c b end after given gained other is gone stands step appends can moved =
    subst (λ (port : ℕ). CanTake tables marks port c → IsMoved c (table_at tables port) after → Gains (all_unblocked scope hold tests tables) (all_unblocked scope hold tests (with_table tables port after)) (least_of marks) given gained) (sym (one_port tables marks port c stands.table other can))
    (frees_at scope hold tests kept_rows kept_blockers kept_others tables marks c b end after given gained is gone stands step appends) can moved

-- the result doesn't depend on ends
result_endless : (scope hold : ℕ) (tests : List Test) (tables : Tables) → all_unblocked scope hold tests (endless_tables tables) ≡ all_unblocked scope hold tests tables
result_endless scope hold tests tables =
    (λ i. flat_map (unblocked scope hold tests (endless_at tables 1 i)) (endless_at tables 0 i))
    ∙ (flat_map-map (unblocked scope hold tests (all_endless (table_at tables 1))) endless (table_at tables 0)
    ∙ flat_map-like (λ a. unblocked scope hold tests (all_endless (table_at tables 1)) (endless a)) (unblocked scope hold tests (table_at tables 1)) (table_at tables 0)
    (λ a. ap (λ b. cond b [] (waited scope hold a)) (blocked_endless scope tests (table_at tables 1) a)))

-- a row that ends earlier changes nothing of the result
pub row_stays : (scope hold : ℕ) (tests : List Test) (tables : Tables) (marks : List ℕ) (port : ℕ) (c : Change) (x : Row) (end : ℕ) (after : List Row) (given : List Change)
    → c ≡ Cut x end → x.begin < end → CanTake tables marks port c → IsMoved c (table_at tables port) after
    → Gains (all_unblocked scope hold tests tables) (all_unblocked scope hold tests (with_table tables port after)) (least_of marks) given given
row_stays scope hold tests tables marks port c x end after given is lives can moved =
    let next = with_table tables port after in
    let same = same_unblocked scope hold tests (endless_tables tables) (endless_tables next) (tables_ends tables port c x end after is lives moved) in
    record {
      changes = [];
      appended = sym (append-nil given);
      repair = repair_by_turns (all_unblocked scope hold tests tables) (all_unblocked scope hold tests next) [] [] (least_of marks) [] (same_turns (least_of marks) [] [] (same_itself []))
          (λ r. omega (arith, same.each r, ap (count_of r) (result_endless scope hold tests tables), ap (count_of r) (result_endless scope hold tests next)))
          (λ r. omega arith);
    }

-- rows of a port stand for the tables after a change
port_stands : (scope hold : ℕ) (at : ℕ) (kept kept' : Tables) (rows : List Row) (tables : Tables) (marks : List ℕ) (port : ℕ) (c : Change) (after : List Row) → port ≡ at → with_table kept at rows ≡ kept' → IsStep c (table_at kept at) rows
    → (stands : StandsByBegin (AreWhiles scope hold) scope kept tables marks) → MayFollow (table_at stands.left port) [] c → IsMoved c (table_at tables port) after → StandsByBegin (AreWhiles scope hold) scope kept' (with_table tables port after) marks
port_stands scope hold at kept kept' rows tables marks port c after is next step stands may moved =
    let here = subst (λ (p : ℕ). SameRows (rows ++ all_endless (takes c)) (table_at kept p ++ all_endless (puts c))) (sym is) step.sums in
    subst (λ (us : Tables). StandsByBegin (AreWhiles scope hold) scope us (with_table tables port after) marks) (ap (λ (p : ℕ). with_table kept p rows) is ∙ next)
    (stands_after scope kept tables marks port stands c rows after may here moved)

-- the kept rows stand for the tables after an answered change
pub rows_stand : (terms terms' : Terms) (kept_rows kept_rows' kept_blockers kept_blockers' : List Row) (tables : Tables) (marks : List ℕ) (port : ℕ) (c : Change) (after : List Row)
    → port ≡ 0 → terms' ≡ terms → kept_blockers' ≡ kept_blockers → IsStep c kept_rows kept_rows' → (stands : StandsByBegin (AreWhiles terms.scope terms.hold) terms.scope (kept_rows ∷ kept_blockers ∷ []) tables marks)
    → MayFollow (table_at stands.left port) [] c → IsMoved c (table_at tables port) after → StandsByBegin (AreWhiles terms'.scope terms'.hold) terms'.scope (kept_rows' ∷ kept_blockers' ∷ []) (with_table tables port after) marks
rows_stand terms terms' kept_rows kept_rows' kept_blockers kept_blockers' tables marks port c after at same_terms same_blockers step stands may moved =
    subst (λ (t : Terms). StandsByBegin (AreWhiles t.scope t.hold) t.scope (kept_rows' ∷ kept_blockers' ∷ []) (with_table tables port after) marks) (sym same_terms)
    (subst (λ (bs : List Row). StandsByBegin (AreWhiles terms.scope terms.hold) terms.scope (kept_rows' ∷ bs ∷ []) (with_table tables port after) marks) (sym same_blockers)
    (port_stands terms.scope terms.hold 0 (kept_rows ∷ kept_blockers ∷ []) (kept_rows' ∷ kept_blockers ∷ []) kept_rows' tables marks port c after at refl step stands may moved))

-- with the blockers after a change on port 1 what is kept stands for the tables after it
pub blockers_stand : (terms terms' : Terms) (kept_rows kept_rows' kept_blockers kept_blockers' : List Row) (tables : Tables) (marks : List ℕ) (port : ℕ) (c : Change) (after : List Row)
    → (port ≡ 0 → ⊥) → terms' ≡ terms → kept_rows' ≡ kept_rows → IsStep c kept_blockers kept_blockers' → (stands : StandsByBegin (AreWhiles terms.scope terms.hold) terms.scope (kept_rows ∷ kept_blockers ∷ []) tables marks)
    → MayFollow (table_at stands.left port) [] c → CanTake tables marks port c → IsMoved c (table_at tables port) after → StandsByBegin (AreWhiles terms'.scope terms'.hold) terms'.scope (kept_rows' ∷ kept_blockers' ∷ []) (with_table tables port after) marks
blockers_stand terms terms' kept_rows kept_rows' kept_blockers kept_blockers' tables marks port c after other same_terms same_rows step stands may can moved =
    subst (λ (t : Terms). StandsByBegin (AreWhiles t.scope t.hold) t.scope (kept_rows' ∷ kept_blockers' ∷ []) (with_table tables port after) marks) (sym same_terms)
    (subst (λ (rs : List Row). StandsByBegin (AreWhiles terms.scope terms.hold) terms.scope (rs ∷ kept_blockers' ∷ []) (with_table tables port after) marks) (sym same_rows)
    (port_stands terms.scope terms.hold 1 (kept_rows ∷ kept_blockers ∷ []) (kept_rows ∷ kept_blockers' ∷ []) kept_blockers' tables marks port c after (one_port tables marks port c stands.table other can) refl step stands may moved))

-- the row that a withdrawal on a port cuts is kept there
pub has_rows : {range : Type 0} (scope : ℕ) (kept_rows kept_blockers : List Row) (tables : Tables) (marks : List ℕ) (port : ℕ) (c : Change) (x : Row) (end : ℕ)
    → port ≡ 0 → 1 ≤ scope → c ≡ Cut x end → end ≤ x.begin → StandsByBegin range scope (kept_rows ∷ kept_blockers ∷ []) tables marks → CanTake tables marks port c → HasRow kept_rows c
has_rows scope kept_rows kept_blockers tables marks port c x end at long is gone stands can =
    subst (λ (p : ℕ). HasRow (table_at (kept_rows ∷ kept_blockers ∷ []) p) c) at
    (stands_has scope (kept_rows ∷ kept_blockers ∷ []) tables marks port stands c (left_withdraws scope (kept_rows ∷ kept_blockers ∷ []) tables marks port stands c can x end long is gone))

-- a row that is withdrawn on port 1 is among the kept blockers
pub has_blockers : {range : Type 0} (scope : ℕ) (kept_rows kept_blockers : List Row) (tables : Tables) (marks : List ℕ) (port : ℕ) (c : Change) (x : Row) (end : ℕ)
    → (port ≡ 0 → ⊥) → 1 ≤ scope → c ≡ Cut x end → end ≤ x.begin → StandsByBegin range scope (kept_rows ∷ kept_blockers ∷ []) tables marks → CanTake tables marks port c → HasRow kept_blockers c
has_blockers scope kept_rows kept_blockers tables marks port c x end other long is gone stands can =
    subst (λ (p : ℕ). HasRow (table_at (kept_rows ∷ kept_blockers ∷ []) p) c) (one_port tables marks port c stands.table other can)
    (stands_has scope (kept_rows ∷ kept_blockers ∷ []) tables marks port stands c (left_withdraws scope (kept_rows ∷ kept_blockers ∷ []) tables marks port stands c can x end long is gone))
