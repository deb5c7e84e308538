-- The text of a plan's states: no longer than the lines of its events, and 2^16 bytes.
use Rattle.std.proofs.Common.{◌≡◌, ℕ, suc, ◌+◌, ◌*◌, ◌^◌, ◌≤◌, List, [], ◌∷◌, ◌++◌, Bool, true, false, cond, eqb, length, map, ◌&&◌, refl, ap, subst, sym, arith}
use Rattle.std.specs.Prelude.{codes, decimal, nat_le}
use Rattle.std.specs.List.{list_all}
use Rattle.std.proofs.lemmas.Bool.{and_parts, leb-true}
use Rattle.std.proofs.lemmas.Fmt.{length-decimal-le}
use Rattle.std.proofs.lemmas.List.{length-append, length-map}
use Rattle.cedr_base.specs.declared.time.TheConstants.{FOREVER}
use Rattle.cedr_base.specs.Bytes.{comma, line_feed}
use Rattle.cedr_text.specs.Texts.{time_text}
use Rattle.cedr_guard.specs.declared.state.EventState.{EventState}
use Rattle.cedr_guard.specs.Spelt.{State}
use Rattle.cedr_plan.specs.declared.plan.PlanNode.{PlanNode}
use Rattle.cedr_plan.specs.Drawn.{Node, node_of}
use Rattle.cedr_plan.specs.Nodes.{is_name_byte}
use Rattle.cedr_plan.specs.Places.{is_source}
use Rattle.cedr_plan.specs.Rules.{AreNodes, ArePlanned}
use Rattle.cedr_save.specs.Checkpoints.{Source, plan_sources, AreSaved, event_line, source_line, states_lines, head_line, end_line, ended_lines, checkpoint_text}
use Rattle.cedr_save.proofs.EventSizes.{events_size}

-- how many bytes the lines of the states' events have, with their line feeds
abbrev pub states_size : List State → ℕ
states_size [] = 0
states_size (state ∷ states) = events_size state.events + states_size states

-- how many bytes lines have, with their line feeds
abbrev ended_size : List (List ℕ) → ℕ
ended_size [] = 0
ended_size (line ∷ lines) = suc (length line) + ended_size lines

ended_length : (lines : List (List ℕ)) → length (ended_lines lines) ≡ ended_size lines
ended_length [] = refl
ended_length (line ∷ lines) = omega (arith, length-append (line ++ line_feed ∷ []) (ended_lines lines), length-append line (line_feed ∷ []), ended_length lines)

ended-append : (xs ys : List (List ℕ)) → ended_size (xs ++ ys) ≡ ended_size xs + ended_size ys
ended-append [] ys = omega arith
ended-append (x ∷ xs) ys = omega (arith, ended-append xs ys)

events_ended : (events : List EventState) → ended_size (map event_line events) ≡ events_size events
events_ended [] = refl
events_ended (e ∷ events) = omega (arith, events_ended events)

-- ---- the line of a source

time_at : (t : ℕ) (b : Bool) → t ≤ FOREVER → length (cond b (codes "inf") (decimal t)) ≤ 20
time_at t true low = omega arith
time_at t false low = length-decimal-le 20 t (omega arith) (omega arith) (omega arith)

-- a time has at most 20 digits
time_short : (t : ℕ) → t ≤ FOREVER → length (time_text t) ≤ 20
time_short t low = time_at t (eqb t FOREVER) low

source_short : (name : List ℕ) (mark : ℕ) → length name ≤ 64 → mark ≤ FOREVER → suc (length (source_line name mark)) ≤ 93
source_short name mark named low =
    let word : length (codes "source,") ≡ 7 = refl in
    omega (arith, length-append (codes "source,") (name ++ comma ∷ time_text mark), length-append name (comma ∷ time_text mark), time_short mark low)

-- ---- the lines of the sources

-- names of at most 64 bytes
abbrev AreShort : List Source → Type 0
AreShort [] = Unit {0}
AreShort (source ∷ sources) = (length source.name ≤ 64) × AreShort sources

lines_short : (sources : List Source) (states : List State) → AreShort sources → AreSaved sources states → ended_size (states_lines sources states) ≤ 93 * length sources + states_size states
lines_short [] [] named saved = omega arith
lines_short [] (state ∷ states) named saved = absurd saved
lines_short (source ∷ sources) [] named saved = absurd saved
lines_short (source ∷ sources) (state ∷ states) named saved = omega (
  arith,
  source_short source.name state.mark named.0 saved.0.fit.time,
  ended-append (map event_line state.events) (states_lines sources states),
  events_ended state.events,
  lines_short sources states named.1 saved.1,
)

-- ---- the sources of a plan

short_at : (b : Bool) (source : Source) (sources : List Source) → length source.name ≤ 64 → AreShort sources → AreShort (cond b (source ∷ sources) sources)
short_at true source sources name named = (name, named)
short_at false source sources name named = named

short_nodes : (earlier : List Node) (nodes : List PlanNode) → AreNodes earlier (map node_of nodes) → AreShort (plan_sources nodes)
short_nodes earlier [] are = tt
short_nodes earlier (node ∷ nodes) are =
    let sizes = (and_parts (nat_le 1 (length node.name) && nat_le (length node.name) 64) (list_all is_name_byte node.name) are.0.name).0 in
    let name = leb-true (length node.name) 64 (and_parts (nat_le 1 (length node.name)) (nat_le (length node.name) 64) sizes).1 in
    short_at (is_source node.kind) (record { name = node.name; types = node.types.items }) (plan_sources nodes) name (short_nodes (earlier ++ node_of node ∷ []) nodes are.1)

fewer_at : (b : Bool) (source : Source) (sources : List Source) (n : ℕ) → length sources ≤ n → length (cond b (source ∷ sources) sources) ≤ suc n
fewer_at true source sources n low = omega arith
fewer_at false source sources n low = omega arith

fewer : (nodes : List PlanNode) → length (plan_sources nodes) ≤ length nodes
fewer [] = omega arith
fewer (node ∷ nodes) = fewer_at (is_source node.kind) (record { name = node.name; types = node.types.items }) (plan_sources nodes) (length nodes) (fewer nodes)

-- the text of the states of a plan's sources
pub text_short : (nodes : List PlanNode) (states : List State) → ArePlanned nodes → AreSaved (plan_sources nodes) states → length (checkpoint_text (plan_sources nodes) states) ≤ states_size states + 2 ^ 16
text_short nodes states planned saved =
    let sources = plan_sources nodes in
    let head : length head_line ≡ 12 = refl in
    let last : length end_line ≡ 3 = refl in
    omega (
      arith,
      ended_length (head_line ∷ (states_lines (plan_sources nodes) states ++ end_line ∷ [])),
      ended-append (states_lines (plan_sources nodes) states) (end_line ∷ []),
      lines_short (plan_sources nodes) states (short_nodes [] nodes (subst (λ (ns : List Node). AreNodes [] ns) (sym planned.nodes_are) planned.sound.nodes)) saved,
      fewer nodes,
      length-map nodes node_of,
      ap (λ (ns : List Node). length ns) planned.nodes_are,
      planned.sound.count,
    )
