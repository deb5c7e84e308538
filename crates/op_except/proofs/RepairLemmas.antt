-- The changes that answer a change repair the result.
use Rattle.std.proofs.Common.{◌≡◌, ℕ, ◌+◌, ◌<◌, ◌≤◌, ◌⊎◌, inl, inr, List, [], ◌∷◌, ◌++◌, Bool, true, false, cond, refl, ap, sym, ◌∙◌, arith, min, max}
use Rattle.std.specs.Prelude.{sum_by, nat_lt, nat_le, ◌&&◌}
use Rattle.std.specs.List.{flat_map, filter}
use Rattle.std.proofs.lemmas.Bool.{cases_lt, lt-ltb, le-leb}
use Rattle.std.proofs.lemmas.List.{append-nil}
use Rattle.std.proofs.lemmas.List.Sums.{sum_by-append}
use Rattle.cedr_base.specs.declared.time.TheConstants.{FOREVER}
use Rattle.cedr_base.specs.declared.row.Row.{Row}
use Rattle.cedr_base.specs.declared.change.Change.{Change}
use Rattle.cedr_base.specs.declared.change.Change.TheVariants.{Add, Cut}
use Rattle.cedr_base.specs.Rows.{IsRow, AreRows, count_of, one_if_same, SameRows}
use Rattle.cedr_base.specs.Changes.{sync_of, changed_row, puts, takes, remnant}
use Rattle.cedr_base.proofs.Bags.{count_of-append, count_of-cons}
use Rattle.change_laws.specs.Agreeing.{AgreeUpTo}
use Rattle.change_laws.proofs.BagSums.{sum_by-same, sum_by-flat_map, sum_by-without, count_of-itself}
use Rattle.change_laws.proofs.Moves.{remnant_none, remnant_some}
use Rattle.change_laws.proofs.RepairLemmas.{Turns}
use Rattle.cedr_table.specs.Operators.{Tables, table_at}
use Rattle.cedr_table.proofs.RowsLemmas.{first_is}
use Rattle.cedr_expr.specs.declared.test.Test.{Test}
use Rattle.cedr_expr.specs.Tests.{passes}
use Rattle.op_except.specs.Parts.{row_until, row_since, parts, matching, excepted, all_excepted, growing_from, meets}
use Rattle.change_laws.proofs.AgreeLemmas.{share}
use Rattle.change_laws.proofs.BagSums.{sum_by-alike_there}
use Rattle.op_except.specs.SumLaws.{share_sees}
use Rattle.op_except.specs.PartLaws.{parts_agree, filter_agree, filter_are, excepted_same}
use Rattle.op_except.specs.OpenLaws.{open_high}
use Rattle.op_except.specs.Parts.{open_below}
use Rattle.op_except.specs.Standing.{KeptRows, NeverMeet}
use Rattle.op_except.specs.Steps.{shortened_at, came_at, went_at, own_at, turn_at, turns_on, unfreed, rest_added, before_withdrawn, rest_withdrawn}
use Rattle.op_except.specs.Turns.{TurnsBy, CanTurn}
use Rattle.filed_rows.specs.Spans.{lives_within}
use Rattle.op_except.proofs.PartLemmas.{Within, parts_within, parts_last, parts_until, parts_empty, gone_parts, single}
use Rattle.op_except.proofs.TurnLemmas.{turns_are, turns_none, turns_alike, turns_found, turn_add}
use Rattle.op_except.proofs.StepLemmas.{past, shorten_turns, came_turns, went_turns}

-- a row that is there weighs no more than all
pub member_most : (w : Row → ℕ) (x : Row) (xs : List Row) → 0 < count_of x xs → w x ≤ sum_by w xs
member_most w x xs there = omega (arith, sum_by-without w x xs there)

-- the bound isn't above the begin of a row of the result that is open at the mark
pub bound_low : (mark : ℕ) (rows : List Row) (r : Row) → 0 < count_of r rows → r.begin < mark → mark ≤ r.end → growing_from mark rows ≤ r.begin
bound_low mark rows r there early lasts = elim (cases_lt r.begin (growing_from mark rows)) [
  | inl less ↦
      let one : open_below mark (growing_from mark rows) r ≡ 1 = λ i. cond {A = ℕ} ((lt-ltb r.begin mark early i && le-leb mark r.end lasts i) && lt-ltb r.begin (growing_from mark rows) less i) 1 0 in
      absurd (omega (arith, one, open_high mark (growing_from mark rows) rows (omega arith), member_most (open_below mark (growing_from mark rows)) r rows there))
  | inr over ↦ over
]

-- a part is a row
part_is : (tests : List Test) (a x : Row) (bs : List Row) → IsRow a → 0 < count_of x (parts a bs) → IsRow x
part_is tests a x bs row there =
    let h = parts_within a x bs there in
    let lives = h.lives in
    let by = h.by in
    let ends = row.ends in
    record { lives = lives; begins = omega arith; ends = omega arith }

module _ (tests : List Test) where
  count_flat : (r : Row) (f : Row → List Row) (xs : List Row) → count_of r (flat_map f xs) ≡ sum_by (λ x. count_of r (f x)) xs
  count_flat r f xs = sum_by-flat_map (one_if_same r) f xs

  ones : (r : Row) (xs : List Row) → count_of r xs ≡ count_of r (flat_map (λ x. x ∷ []) xs)
  ones r [] = refl
  ones r (x ∷ xs) = omega (arith, count_of-cons r x xs, count_of-append r (x ∷ []) (flat_map (λ x. x ∷ []) xs), count_of-cons r x [], ones r xs)

  -- port 0: the parts of a shorter row
  cut_parts : (a r : Row) (e : ℕ) (others : List Row) → e < a.end → count_of r (flat_map (excepted tests others) (remnant a e)) ≡ count_of r (flat_map (λ x. parts (row_until e x) []) (excepted tests others a))
  cut_parts a r e others shorter =
      remnant_at (cases_lt a.begin e)
      ∙ (parts_until (one_if_same r) e a (matching tests a others)
      ∙ sym (count_flat r (λ x. parts (row_until e x) []) (excepted tests others a)))
    where
      remnant_at : (a.begin < e) ⊎ (e ≤ a.begin) → count_of r (flat_map (excepted tests others) (remnant a e)) ≡ count_of r (parts (row_until e a) (matching tests a others))
      remnant_at (inl lives) =
          let same : e ≡ min a.end e = omega arith in
          ap (λ rows. count_of r (flat_map (excepted tests others) rows)) (remnant_some a e lives)
          ∙ (ap (count_of r) (append-nil (excepted tests others (record a { end = e })))
          ∙ ap (λ n. count_of r (parts (record a { end = n }) (matching tests a others))) same)
      remnant_at (inr gone) =
          ap (λ rows. count_of r (flat_map (excepted tests others) rows)) (remnant_none a e gone)
          ∙ sym (parts_empty (one_if_same r) (row_until e a) (matching tests a others) (omega arith))

  within_true : (e begin end x_end : ℕ) (b : Bool) → nat_lt e x_end ≡ b → begin < end → (b && nat_lt begin end) ≡ false → b ≡ false
  within_true e begin end x_end true is lives none = absurd (let yes = lt-ltb begin end lives in let wrong = sym yes ∙ none in cc)
  within_true e begin end x_end false is lives none = refl

  -- port 0: what the parts that end after the cut turn into
  pub left_cut : (t : ℕ) (a : Row) (e : ℕ) (found kept others : List Row) → IsRow a → e < a.end → t ≤ e → SameRows found (filter (lives_within e a.end) (excepted tests kept a)) → ((w : Row → ℕ) → sum_by w (excepted tests kept a) ≡ sum_by w (excepted tests others a))
      → ((w : Row → ℕ) → sum_by w (flat_map (excepted tests kept) (remnant a e)) ≡ sum_by w (flat_map (excepted tests others) (remnant a e)))
      → Turns t (flat_map (excepted tests others) (a ∷ [])) (flat_map (excepted tests others) (remnant a e)) (flat_map (own_at (Cut a e)) found)
  left_cut t a e found kept others row shorter from finds same less =
      turns_are t (past e) _ _ _
      (turns_alike t (past e) (flat_map (λ x. x ∷ []) (excepted tests kept a)) (flat_map (excepted tests others) (a ∷ [])) (flat_map (λ x. parts (row_until e x) []) (excepted tests kept a)) (flat_map (excepted tests others) (remnant a e)) (flat_map (shortened_at e) found)
      (λ r. ap (count_of r) (append-nil (excepted tests others a)) ∙ (sym (same (one_if_same r)) ∙ ones r (excepted tests kept a)))
      (λ r. sym (less (one_if_same r)) ∙ cut_parts a r e kept shorter)
      (turns_found t (past e) (lives_within e a.end) (λ x. x ∷ []) (λ x. parts (row_until e x) []) (shortened_at e) (excepted tests kept a) found finds
      (λ x there away.
      let h = parts_within a x (matching tests a kept) there in
      let lives = h.lives in
      let by = h.by in
      ap {B = List Change} (λ b. cond b (Cut x (max x.begin e) ∷ []) []) (within_true e x.begin a.end x.end (nat_lt e x.end) refl (omega arith) away))
      (λ x there. shorten_turns t x e (part_is tests a x (matching tests a kept) row there) from)))

  -- port 0: all parts are found of a row that comes
  pub left_add : (t : ℕ) (a : Row) (found kept others : List Row) → IsRow a → t ≤ a.begin → SameRows found (filter (lives_within a.begin a.end) (excepted tests kept a)) → ((w : Row → ℕ) → sum_by w (excepted tests kept a) ≡ sum_by w (excepted tests others a))
      → Turns t [] (flat_map (excepted tests others) (a ∷ [])) (flat_map (own_at (Add a)) found)
  left_add t a found kept others row from finds same =
      turns_are t (λ r. false) _ _ _
      (turns_alike t (λ r. false) (flat_map (λ x. []) (excepted tests kept a)) [] (flat_map (λ x. x ∷ []) (excepted tests kept a)) (flat_map (excepted tests others) (a ∷ [])) (flat_map (own_at (Add a)) found)
      (λ r. sym (no_rows r (excepted tests kept a)))
      (λ r. ap (count_of r) (append-nil (excepted tests others a)) ∙ (sym (same (one_if_same r)) ∙ ones r (excepted tests kept a)))
      (turns_found t (λ r. false) (lives_within a.begin a.end) (λ x. []) (λ x. x ∷ []) (own_at (Add a)) (excepted tests kept a) found finds
      (λ x there away.
      let h = parts_within a x (matching tests a kept) there in
      let first = h.from in
      let lives = h.lives in
      let by = h.by in
      absurd (let yes : lives_within a.begin a.end x ≡ true = λ i. lt-ltb a.begin x.end (omega arith) i && lt-ltb x.begin a.end (omega arith) i in let wrong = sym yes ∙ away in cc))
      (λ x there. turn_add t (λ r. false) x (part_is tests a x (matching tests a kept) row there) (let first = (parts_within a x (matching tests a kept) there).from in omega arith) refl)))
    where
      no_rows : (r : Row) (xs : List Row) → count_of r (flat_map (λ x. []) xs) ≡ 0
      no_rows r [] = refl
      no_rows r (x ∷ xs) = no_rows r xs

  -- port 1: a row that passes with b, where b comes or is cut
  with_passing : (a b : Row) (rest : List Row) (pass : Bool) → passes tests a.payload b.payload ≡ pass → matching tests a (b ∷ rest) ≡ cond pass (b ∷ matching tests a rest) (matching tests a rest)
  with_passing a b rest pass is = ap (λ c. cond c (b ∷ matching tests a rest) (matching tests a rest)) is

  and_turned : (b c : Bool) → (b && c) ≡ (c && b)
  and_turned true true = refl
  and_turned true false = refl
  and_turned false true = refl
  and_turned false false = refl

  came_row : (t : ℕ) (a b : Row) (rest found : List Row) (pass : Bool) → passes tests a.payload b.payload ≡ pass → IsRow a → IsRow b → t ≤ b.begin → (pass ≡ true → SameRows found (filter (lives_within b.begin b.end) (excepted tests rest a)))
      → TurnsBy t (λ r. meets r b) (excepted tests rest a) (parts a (cond pass (b ∷ matching tests a rest) (matching tests a rest))) (cond pass (flat_map (came_at b) found) [])
  came_row t a b rest found true is row other from finds =
      turns_alike t (λ r. meets r b) (flat_map (λ x. x ∷ []) (excepted tests rest a)) (excepted tests rest a) (flat_map (λ x. parts x (b ∷ [])) (excepted tests rest a)) (parts a (b ∷ matching tests a rest)) (flat_map (came_at b) found)
      (λ r. ones r (excepted tests rest a))
      (λ r. parts_last (one_if_same r) a b (matching tests a rest) ∙ sym (count_flat r (λ x. parts x (b ∷ [])) (excepted tests rest a)))
      (turns_found t (λ r. meets r b) (lives_within b.begin b.end) (λ x. x ∷ []) (λ x. parts x (b ∷ [])) (came_at b) (excepted tests rest a) found (finds refl)
      (λ x there away. ap {B = List Change} (λ c. cond c (Cut x (max x.begin b.begin) ∷ rest_added b x) []) (and_turned (nat_lt x.begin b.end) (nat_lt b.begin x.end) ∙ away))
      (λ x there. came_turns t b x (part_is tests a x (matching tests a rest) row there) other.lives from))
  came_row t a b rest found false is row other from finds = turns_none t (λ r. meets r b) (excepted tests rest a) (parts a (matching tests a rest)) (λ r. refl)

  remnant_matching : (a b : Row) (e : ℕ) (rest : List Row) (w : Row → ℕ) (pass lives : Bool) → passes tests a.payload b.payload ≡ pass → nat_lt b.begin e ≡ lives
      → sum_by w (excepted tests (cond lives (record b { end = e } ∷ []) [] ++ rest) a) ≡ sum_by w (parts a (cond pass (cond lives (record b { end = e } ∷ []) [] ++ matching tests a rest) (matching tests a rest)))
  remnant_matching a b e rest w pass true is l = ap (λ c. sum_by w (parts a (cond c (record b { end = e } ∷ matching tests a rest) (matching tests a rest)))) is
  remnant_matching a b e rest w true false is l = refl
  remnant_matching a b e rest w false false is l = refl

  last_remnant : (a b r : Row) (e : ℕ) (bs : List Row) (lives : Bool) → nat_lt b.begin e ≡ lives
      → count_of r (parts a (cond lives (record b { end = e } ∷ []) [] ++ bs)) ≡ sum_by (λ x. count_of r (parts x (cond lives (record b { end = e } ∷ []) []))) (parts a bs)
  last_remnant a b r e bs true l = parts_last (one_if_same r) a (record b { end = e }) bs
  last_remnant a b r e bs false l = ones r (parts a bs) ∙ (count_flat r (λ x. x ∷ []) (parts a bs) ∙ sum_by-alike_there (λ x. count_of r (x ∷ [])) (λ x. count_of r (parts x [])) (parts a bs) (λ x there. sym (ap (count_of r) (single x (parts_within a x bs there).lives))))

  went_row : (t : ℕ) (a b : Row) (e : ℕ) (rest found : List Row) (pass : Bool) → passes tests a.payload b.payload ≡ pass → IsRow a → IsRow b → b.begin ≤ e → e < b.end → t ≤ e
      → ((x : Row) → pass ≡ true → 0 < count_of x (excepted tests rest a) → e ≡ b.begin → x.begin < b.begin → b.begin < x.end → t ≤ x.begin)
      → (pass ≡ true → SameRows found (filter (lives_within e b.end) (excepted tests rest a)))
      → TurnsBy t (unfreed b e) (parts a (cond pass (b ∷ matching tests a rest) (matching tests a rest))) (parts a (cond pass (remnant b e ++ matching tests a rest) (matching tests a rest))) (cond pass (flat_map (went_at b e) found) [])
  went_row t a b e rest found true is row other within shorter from late finds =
      turns_alike t (unfreed b e) (flat_map (λ x. parts x (b ∷ [])) (excepted tests rest a)) (parts a (b ∷ matching tests a rest)) (flat_map (λ x. parts x (remnant b e)) (excepted tests rest a)) (parts a (remnant b e ++ matching tests a rest)) (flat_map (went_at b e) found)
      (λ r. parts_last (one_if_same r) a b (matching tests a rest) ∙ sym (count_flat r (λ x. parts x (b ∷ [])) (excepted tests rest a)))
      (λ r. last_remnant a b r e (matching tests a rest) (nat_lt b.begin e) refl ∙ sym (count_flat r (λ x. parts x (remnant b e)) (excepted tests rest a)))
      (turns_found t (unfreed b e) (lives_within e b.end) (λ x. parts x (b ∷ [])) (λ x. parts x (remnant b e)) (went_at b e) (excepted tests rest a) found (finds refl)
      (λ x there away. ap {B = List Change} (λ c. cond c (before_withdrawn b e x ++ (rest_withdrawn b x ++ Add (cond (nat_le e b.begin) x (row_since e x)) ∷ [])) []) (and_turned (nat_lt x.begin b.end) (nat_lt e x.end) ∙ away))
      (λ x there. went_turns t b x e (part_is tests a x (matching tests a rest) row there) other.lives within shorter from (λ at less before. late x refl there at less before)))
  went_row t a b e rest found false is row other within shorter from late finds = turns_none t (unfreed b e) (parts a (matching tests a rest)) (parts a (matching tests a rest)) (λ r. refl)

  -- what a change of port 1 does to the parts of a row, where those are found that it may touch
  pub row_turns : (t : ℕ) (c : Change) (filed others : List Row) (a : Row) (found : List Row) → CanTurn tests t c filed others (a ∷ []) → (passes tests a.payload (changed_row c).payload ≡ true → SameRows found (filter (lives_within (sync_of c) (changed_row c).end) (excepted tests others a)))
      → TurnsBy t (turns_on c) (excepted tests (takes c ++ others) a) (excepted tests (puts c ++ others) a) (cond (passes tests a.payload (changed_row c).payload) (flat_map (turn_at c) found) [])
  row_turns t (Add b) filed others a found can finds = came_row t a b others found (passes tests a.payload b.payload) refl (first_is a [] can.rows_are) can.is can.from finds
  row_turns t (Cut b e) filed others a found can finds =
      turns_alike t (unfreed b e) (excepted tests (b ∷ others) a) (excepted tests (b ∷ others) a) (parts a (cond (passes tests a.payload b.payload) (remnant b e ++ matching tests a others) (matching tests a others))) (excepted tests (remnant b e ++ others) a) (cond (passes tests a.payload b.payload) (flat_map (went_at b e) found) [])
      (λ r. refl)
      (λ r. remnant_matching a b e others (one_if_same r) (passes tests a.payload b.payload) (nat_lt b.begin e) refl refl)
      (went_row t a b e others found (passes tests a.payload b.payload) refl (first_is a [] can.rows_are) can.is.0 can.is.1 can.is.2 can.from
      (λ x pass has at less before. can.late a x (count_of-itself a []) pass has at less before) finds)

  -- what is kept says what a row of port 0 gives that meets no row that is gone
  pub kept_same : (lefts rights : List Row) (tables : Tables) (marks : List ℕ) (a : Row) (w : Row → ℕ) → (h : KeptRows lefts rights tables marks) → ((b : Row) → 0 < count_of b h.rights_gone → NeverMeet a b)
      → sum_by w (excepted tests rights a) ≡ sum_by w (excepted tests (table_at tables 1) a)
  kept_same lefts rights tables marks a w h apart =
      sym (gone_parts w tests a h.rights_gone rights (λ b gone. ((h.right_rows.each b (omega (arith, h.right.each b, count_of-append b rights h.rights_gone))).lives, apart b gone)))
      ∙ excepted_same tests w (h.rights_gone ++ rights) (table_at tables 1) a (record { each = λ r. omega (arith, h.right.each r, count_of-append r rights h.rights_gone, count_of-append r h.rights_gone rights) })

  -- the result, as what the kept rows give and what the others do
  pub result_is : (lefts rights : List Row) (tables : Tables) (marks : List ℕ) (r : Row) → (h : KeptRows lefts rights tables marks)
      → count_of r (all_excepted tests tables) ≡ count_of r (flat_map (excepted tests rights) lefts) + count_of r (flat_map (excepted tests (table_at tables 1)) h.lefts_gone)
  result_is lefts rights tables marks r h =
      omega (
        arith,
        count_flat r (excepted tests (table_at tables 1)) (table_at tables 0),
        sum_by-same (λ a. count_of r (excepted tests (table_at tables 1) a)) (lefts ++ h.lefts_gone) (table_at tables 0) h.left,
        sum_by-append (λ a. count_of r (excepted tests (table_at tables 1) a)) lefts h.lefts_gone,
        count_flat r (excepted tests rights) lefts,
        count_flat r (excepted tests (table_at tables 1)) h.lefts_gone,
        sum_by-alike_there (λ a. count_of r (excepted tests rights a)) (λ a. count_of r (excepted tests (table_at tables 1) a)) lefts (λ a there. kept_same lefts rights tables marks a (one_if_same r) h (λ b gone. h.apart a b there gone)),
      )

  share_whole : (t : ℕ) (r x : Row) → x.begin < x.end → x.end ≤ t → share t r x ≡ one_if_same r x
  share_whole t r x lives by =
      let same : min x.end t ≡ x.end = omega arith in
      ap (λ n. count_of r (cond (nat_lt x.begin n) (record x { end = n } ∷ []) [])) same
      ∙ (ap (λ c. count_of r (cond c (x ∷ []) [])) (lt-ltb x.begin x.end lives) ∙ omega (arith, count_of-cons r x []))

  -- a row that ends by a time has the same parts with others that agree up to it
  far_parts : (t : ℕ) (a r : Row) (bs cs : List Row) → AreRows bs → AreRows cs → AgreeUpTo t bs cs → a.end ≤ t → a.end ≤ FOREVER → count_of r (parts a bs) ≡ count_of r (parts a cs)
  far_parts t a r bs cs bs_are cs_are agree by time =
      sum_by-alike_there (one_if_same r) (share t r) (parts a bs) (λ x there. sym (share_in x (parts_within a x bs there)))
      ∙ (parts_agree (share t r) t a bs cs (share_sees t r) bs_are cs_are time agree
      ∙ sum_by-alike_there (share t r) (one_if_same r) (parts a cs) (λ x there. share_in x (parts_within a x cs there)))
    where
      share_in : (x : Row) → Within a x → share t r x ≡ one_if_same r x
      share_in x h = let lives = h.lives in let end = h.by in share_whole t r x lives (omega arith)

  -- a row that is gone gives the same after a change of port 1
  pub gone_same : (t : ℕ) (r : Row) (gone bs cs : List Row) → AreRows bs → AreRows cs → AgreeUpTo t bs cs → ((a : Row) → 0 < count_of a gone → (a.end ≤ t) × (a.end ≤ FOREVER))
      → count_of r (flat_map (excepted tests bs) gone) ≡ count_of r (flat_map (excepted tests cs) gone)
  gone_same t r gone bs cs bs_are cs_are agree ended =
      count_flat r (excepted tests bs) gone
      ∙ (sum_by-alike_there (λ a. count_of r (excepted tests bs a)) (λ a. count_of r (excepted tests cs a)) gone (λ a there.
      far_parts t a r (matching tests a bs) (matching tests a cs) (filter_are (λ b. passes tests a.payload b.payload) bs bs_are) (filter_are (λ b. passes tests a.payload b.payload) cs cs_are) (filter_agree t (passes tests a.payload) bs cs bs_are cs_are agree) (ended a there).0 (ended a there).1)
      ∙ sym (count_flat r (excepted tests cs) gone))
