-- What the output of a plan as it stands shows.
use Rattle.std.proofs.Common.{◌≡◌, ℕ, ◌+◌, ◌<◌, List, [], ◌∷◌, ◌++◌, Bool, true, false, cond, not, length, refl, ap, subst, sym, ◌∙◌, arith}
use Rattle.std.specs.Prelude.{map, slice_index}
use Rattle.std.specs.List.{position_or_len}
use Rattle.cedr_base.specs.Messages.{IsTableOf, mark_of}
use Rattle.cedr_table.specs.Operators.{Tables, Meaning, table_at}
use Rattle.cedr_plan.specs.declared.plan.NodeKind.TheVariants as kind
use Rattle.cedr_plan.specs.declared.plan.PlanNode.{PlanNode}
use Rattle.cedr_plan.specs.Drawn.{node_of}
use Rattle.cedr_plan.specs.Rules.{AreNodes, ArePlanned}
use Rattle.cedr_plan.specs.Places.{is_output, is_source, output_place}
use Rattle.cedr_plan.proofs.PlaceLemmas.{place_is, place_among, output_among, planned_nodes}
use Rattle.node_laws.specs.Lists.{Lists, list_at}
use Rattle.plan_runs.specs.Now.{Standing, standing_at, inputs_standing, passed_now, made_now, node_now, standings, shown_now, output_now, now, AllCanSave, SourcesStand}
use Rattle.plan_runs.specs.Runs.{lists_at, IsRun}
use Rattle.plan_runs.proofs.NowRuns.{stands_as}
use Rattle.plan_runs.proofs.Output.{output_kind, each_at, each_before, not_source, isnt, meaning_is, input, earlier, inside}
use Rattle.plan_runs.proofs.PlanNodes.{place_within, Split, split}

-- ---- the first output

abbrev is_the_output : PlanNode → Bool
is_the_output node = is_output node.kind

first_at : (b : Bool) (p n : ℕ) → (b ≡ false → p < n) → cond {A = ℕ} (not b) (1 + p) 0 < 1 + n
first_at true p n h = omega arith
first_at false p n h = omega (arith, h refl)

-- where a node passes, the first one that does isn't behind all
first_among : (f : PlanNode → Bool) (before after : List PlanNode) (n : PlanNode) → f n ≡ true → position_or_len f (before ++ n ∷ after) < length (before ++ n ∷ after)
first_among f [] after n is =
    let one : 1 + length after ≡ length (n ∷ after) = omega arith in
    subst (λ (k : ℕ). position_or_len f (n ∷ after) < k) one (first_at (f n) (position_or_len f after) (length after) (λ isnt. absurd (let e = is in cc)))
first_among f (b ∷ before) after n is =
    let one : 1 + length (before ++ n ∷ after) ≡ length (b ∷ before ++ n ∷ after) = omega arith in
    subst (λ (k : ℕ). position_or_len f (b ∷ before ++ n ∷ after) < k) one (first_at (f b) (position_or_len f (before ++ n ∷ after)) (length (before ++ n ∷ after)) (λ _. first_among f before after n is))

take_this : (b : Bool) (x y : Standing) → b ≡ true → cond b x y ≡ x
take_this true x y e = refl
take_this false x y e = cc

take_later : (b : Bool) (k p : ℕ) (x y z : Standing) → 1 + k ≡ cond {A = ℕ} (not b) (1 + p) 0 → (k ≡ p → y ≡ z) → cond b x y ≡ z
take_later true k p x y z at rest = absurd (omega (arith, at))
take_later false k p x y z at rest = rest (omega (arith, at))

-- the first output is the one that shows
output_first : (all : List Standing) (before after : List PlanNode) (n : PlanNode) → length before ≡ position_or_len is_the_output (before ++ n ∷ after) → is_output n.kind ≡ true → output_now all (before ++ n ∷ after) ≡ shown_now all n
output_first all [] after n at is = take_this (is_output n.kind) _ _ is
output_first all (b ∷ before) after n at is =
    let one : 1 + length before ≡ length (b ∷ before) = omega arith in
    take_later (is_output b.kind) (length before) (position_or_len is_the_output (before ++ n ∷ after)) _ _ _ (one ∙ at) (λ here. output_first all before after n here is)

-- ---- what stands at an output

module _ (nodes : List PlanNode) (are : AreNodes [] (map node_of nodes)) (before after : List PlanNode) (n : PlanNode) (whole : nodes ≡ before ++ n ∷ after) (out : n.kind ≡ kind.Output) (tables : Tables) (marks : List ℕ) where
  abbrev all : List Standing
  all = standings tables marks nodes

  abbrev read : ℕ
  read = (input nodes are before after n whole out).0

  -- its table is what its port passes
  pub output_standing : (standing_at (standings tables marks nodes) (length before)).table ≡ passed_now n.level.block (standing_at (standings tables marks nodes) read)
  output_standing =
      let none : Standing = record { table = []; mark = 0 } in
      let front = standings tables marks before in
      ap (λ (s : Standing). s.table) (each_at (node_now tables marks) none nodes before after n whole ∙ not_source (is_source n.kind) _ (made_now n (inputs_standing front n)) (isnt nodes are before after n whole out))
      ∙ (ap (λ (m : Meaning). m.result (map (passed_now n.level.block) (inputs_standing front n))) (meaning_is nodes are before after n whole out)
      ∙ (ap (λ (xs : List ℕ). table_at (map (passed_now n.level.block) (map (standing_at front) xs)) 0) (input nodes are before after n whole out).1
      ∙ ap (passed_now n.level.block) (sym (each_before (node_now tables marks) none nodes before after n read whole (earlier nodes are before after n whole out)))))

  -- so is that of the plan, with the mark of the node that it reads
  pub now_is : length before ≡ output_place nodes → now tables marks nodes ≡ record { table = passed_now n.level.block (standing_at (standings tables marks nodes) read); mark = (standing_at (standings tables marks nodes) read).mark }
  now_is place =
      let is : is_output n.kind ≡ true = ap is_output out in
      let at : length before ≡ position_or_len is_the_output (before ++ n ∷ after) =
      place ∙ (ap output_place whole ∙ place_is (position_or_len is_the_output (before ++ n ∷ after)) (length (before ++ n ∷ after)) (first_among is_the_output before after n is)) in
      ap (output_now (standings tables marks nodes)) whole
      ∙ (output_first (standings tables marks nodes) before after n at is
      ∙ ap {B = Standing} (λ (xs : List ℕ). record { table = passed_now n.level.block (standing_at (standings tables marks nodes) (slice_index xs 0)); mark = (standing_at (standings tables marks nodes) (slice_index xs 0)).mark }) (input nodes are before after n whole out).1)

-- ---- what a run shows

module _ (nodes : List PlanNode) (count : ℕ) (sources : Lists) (tables : Tables) (marks : List ℕ) (ports : List Lists) (given : Lists) (planned : ArePlanned nodes) (run : IsRun nodes sources ports given) (stand : SourcesStand nodes sources tables marks)
    (save : AllCanSave count nodes) (among : output_place nodes < count) where
  are : AreNodes [] (map node_of nodes)
  are = planned_nodes nodes planned

  cut : Split nodes (output_place nodes)
  cut = split nodes (output_place nodes) (place_among nodes planned)

  out : cut.node.kind ≡ kind.Output
  out = output_kind cut.node.kind (output_among nodes cut.before cut.after cut.node planned cut.whole cut.place)

  abbrev fed : ℕ
  fed = (input nodes are cut.before cut.after cut.node cut.whole out).0

  fed_within : fed < length nodes
  fed_within = inside nodes are cut.before cut.after cut.node cut.whole out

  fed_early : fed < count
  fed_early = let e = earlier nodes are cut.before cut.after cut.node cut.whole out in omega (arith, e, cut.place, among)

  -- the output's list has the table of the plan as it stands
  pub shown_table : IsTableOf (list_at given (output_place nodes)) (now tables marks nodes).table
  shown_table =
      let stands = stands_as nodes count sources tables marks ports given are run stand save (length cut.before) (place_within nodes cut.before cut.after cut.node cut.whole) (omega (arith, cut.place, among)) in
      let shows = output_standing nodes are cut.before cut.after cut.node cut.whole out tables marks ∙ sym (ap (λ (s : Standing). s.table) (now_is nodes are cut.before cut.after cut.node cut.whole out tables marks cut.place)) in
      subst (λ (k : ℕ). IsTableOf (list_at given k) (now tables marks nodes).table) cut.place (subst (IsTableOf (list_at given (length cut.before))) shows stands.table)

  came : list_at (lists_at ports (length cut.before)) 0 ≡ list_at given fed
  came = ap (λ (ls : Lists). list_at ls 0) (run.edges cut.before cut.after cut.node cut.whole) ∙ ap (λ (xs : List ℕ). list_at (map (list_at given) xs) 0) (input nodes are cut.before cut.after cut.node cut.whole out).1

  -- and what came to it has its mark
  pub shown_mark : mark_of (list_at (lists_at ports (output_place nodes)) 0) ≡ (now tables marks nodes).mark
  shown_mark =
      ap (λ (k : ℕ). mark_of (list_at (lists_at ports k) 0)) (sym cut.place)
      ∙ (ap mark_of came
      ∙ ((stands_as nodes count sources tables marks ports given are run stand save fed fed_within fed_early).mark_is
      ∙ sym (ap (λ (s : Standing). s.mark) (now_is nodes are cut.before cut.after cut.node cut.whole out tables marks cut.place))))
