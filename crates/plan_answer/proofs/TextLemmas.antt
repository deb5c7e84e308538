-- The texts of what was forgotten, one after the other.
use Rattle.std.proofs.Common.{◌≡◌, ℕ, zero, suc, ◌+◌, ◌<◌, List, [], ◌∷◌, ◌++◌, Bool, true, false, length, get_or, take, refl, ap, sym, ◌∙◌, arith, append_assoc}
use Rattle.std.proofs.lemmas.List.{append-nil, length-append, length-map, take_all}
use Rattle.node_laws.specs.declared.forgotten.Forgotten.{Forgotten}
use Rattle.node_laws.specs.Kept.{forgot}
use Rattle.node_laws.specs.Lists.{Lists, list_at}
use Rattle.cedr_plan.specs.declared.plan.PlanNode.{PlanNode}
use Rattle.plan_runs.specs.Runs.{lists_at}
use Rattle.plan_runs.specs.Without.{forgot_in, forgot_on}
use Rattle.plan_runs.proofs.Closed.{listed_is, forgot_length}
use Rattle.cedr_base.specs.declared.row.Row.{Row}
use Rattle.cedr_text.specs.Texts.{rows_text}
use Rattle.plan_answer.specs.Answers.{forgotten_line, port_text, ports_text, nodes_text, tail_text, answer_text}
use Rattle.std.proofs.Math.Seq.{take-append_seam}

-- the lines of a port that forgot one change more
pub port_more : (name : List ℕ) (port : ℕ) (fs : List Forgotten) (f : Forgotten) → port_text name port (fs ++ f ∷ []) ≡ port_text name port fs ++ forgotten_line name port f
port_more name port [] f = append-nil (forgotten_line name port f)
port_more name port (x ∷ fs) f = ap (λ (t : List ℕ). forgotten_line name port x ++ t) (port_more name port fs f) ∙ sym (append_assoc (forgotten_line name port x) (port_text name port fs) (forgotten_line name port f))

ports_one_more : (name : List ℕ) (from k : ℕ) (ports : List (List Forgotten)) → k < length ports → ports_text name from (take (suc k) ports) ≡ ports_text name from (take k ports) ++ port_text name (from + k) (get_or ports k [])
ports_one_more name from k [] within = absurd (omega arith)
ports_one_more name from zero (fs ∷ ports) within =
    let here : from ≡ from + 0 = omega arith in append-nil (port_text name from fs) ∙ ap (λ (n : ℕ). port_text name n fs) here
ports_one_more name from (suc k) (fs ∷ ports) within =
    let here : from + 1 + k ≡ from + suc k = omega arith in
    ap (λ (t : List ℕ). port_text name from fs ++ t) (ports_one_more name (from + 1) k ports (omega arith) ∙ ap (λ (n : ℕ). ports_text name (from + 1) (take k ports) ++ port_text name n (get_or ports k [])) here)
    ∙ sym (append_assoc (port_text name from fs) (ports_text name (from + 1) (take k ports)) (port_text name (from + suc k) (get_or ports k [])))

-- the text of one port more
pub ports_more : (name : List ℕ) (k : ℕ) (ports : List (List Forgotten)) → k < length ports → ports_text name 0 (take (k + 1) ports) ≡ ports_text name 0 (take k ports) ++ port_text name k (get_or ports k [])
ports_more name k ports within =
    let next : k + 1 ≡ suc k = omega arith in
    let here : 0 + k ≡ k = omega arith in
    ap (λ (n : ℕ). ports_text name 0 (take n ports)) next ∙ (ports_one_more name 0 k ports within ∙ ap (λ (n : ℕ). ports_text name 0 (take k ports) ++ port_text name n (get_or ports k [])) here)

-- the text of one node more
pub nodes_more : (before : List PlanNode) (n : PlanNode) (listed : List (List (List Forgotten))) → length before < length listed → nodes_text (before ++ n ∷ []) listed ≡ nodes_text before listed ++ ports_text n.name 0 (get_or listed (length before) [])
nodes_more [] n [] within = absurd (omega arith)
nodes_more [] n (ports ∷ listed) within = append-nil (ports_text n.name 0 ports)
nodes_more (b ∷ before) n [] within = absurd (omega arith)
nodes_more (b ∷ before) n (ports ∷ listed) within =
    ap (λ (t : List ℕ). ports_text b.name 0 ports ++ t) (nodes_more before n listed (omega arith)) ∙ sym (append_assoc (ports_text b.name 0 ports) (nodes_text before listed) (ports_text n.name 0 (get_or listed (length before) [])))

forgot_at : (n : PlanNode) (lists : Lists) (port : ℕ) → port < length lists → get_or (forgot_on n lists) port [] ≡ forgot n.level.memory (list_at lists port)
forgot_at n [] port within = absurd (omega arith)
forgot_at n (l ∷ lists) zero within = refl
forgot_at n (l ∷ lists) (suc port) within = forgot_at n lists port (omega arith)

-- the text of one port more of a node
pub node_more : (n : PlanNode) (lists : Lists) (port : ℕ) → port < length lists
    → ports_text n.name 0 (take (port + 1) (forgot_on n lists)) ≡ ports_text n.name 0 (take port (forgot_on n lists)) ++ port_text n.name port (forgot n.level.memory (list_at lists port))
node_more n lists port within =
    ports_more n.name port (forgot_on n lists) (omega (arith, length-map lists (forgot n.level.memory)))
    ∙ ap (λ (fs : List Forgotten). ports_text n.name 0 (take port (forgot_on n lists)) ++ port_text n.name port fs) (forgot_at n lists port within)

-- the text of one node more, where it stands
pub place_more : (nodes : List PlanNode) (ports : List Lists) (before after : List PlanNode) (n : PlanNode) → nodes ≡ before ++ n ∷ after
    → nodes_text (take (length before + 1) nodes) (forgot_in nodes ports) ≡ nodes_text (take (length before) nodes) (forgot_in nodes ports) ++ ports_text n.name 0 (forgot_on n (lists_at ports (length before)))
place_more nodes ports before after n whole =
    let front : take (length before) nodes ≡ before = ap (λ (ns : List PlanNode). take (length before) ns) whole ∙ take-append_seam before (n ∷ after) in
    let wide : length (before ++ n ∷ []) ≡ length before + 1 = omega (arith, length-append before (n ∷ [])) in
    let next : take (length before + 1) nodes ≡ before ++ n ∷ [] =
    ap (λ (k : ℕ). take k nodes) (sym wide) ∙ (ap (λ (ns : List PlanNode). take (length (before ++ n ∷ [])) ns) (whole ∙ sym (append_assoc before (n ∷ []) after)) ∙ take-append_seam (before ++ n ∷ []) after) in
    let inside : length before < length (forgot_in nodes ports) = omega (arith, forgot_length nodes ports, ap (λ (ns : List PlanNode). length ns) whole, length-append before (n ∷ after)) in
    ap (λ (ns : List PlanNode). nodes_text ns (forgot_in nodes ports)) next
    ∙ (nodes_more before n (forgot_in nodes ports) inside
    ∙ (ap (λ (fs : List (List Forgotten)). nodes_text before (forgot_in nodes ports) ++ ports_text n.name 0 fs) (listed_is nodes ports before after n whole)
    ∙ ap (λ (ns : List PlanNode). nodes_text ns (forgot_in nodes ports) ++ ports_text n.name 0 (forgot_on n (lists_at ports (length before)))) (sym front)))

-- the node at a place is the one that stands there
pub node_there : (nodes before after : List PlanNode) (n d : PlanNode) (place : ℕ) → nodes ≡ before ++ n ∷ after → length before ≡ place → get_or nodes place d ≡ n
node_there nodes before after n d place whole here = ap (λ (ns : List PlanNode). get_or ns place d) whole ∙ (ap (λ (k : ℕ). get_or (before ++ n ∷ after) k d) (sym here) ∙ seam before) where
  seam : (bs : List PlanNode) → get_or (bs ++ n ∷ after) (length bs) d ≡ n
  seam [] = refl
  seam (b ∷ bs) = seam bs

-- nothing is missing of a node's text at its last port
pub all_ports : (n : PlanNode) (lists : Lists) (count : ℕ) → count ≡ length lists → ports_text n.name 0 (take count (forgot_on n lists)) ≡ ports_text n.name 0 (forgot_on n lists)
all_ports n lists count whole = ap (ports_text n.name 0) (take_all count (forgot_on n lists) (omega (arith, length-map lists (forgot n.level.memory))))

-- where what was forgotten isn't asked for, the answer's text is the rows
pub without_tail : (with_tail : Bool) (nodes : List PlanNode) (rows : List Row) (listed : List (List (List Forgotten))) → with_tail ≡ false → rows_text rows ≡ answer_text with_tail nodes rows listed
without_tail true nodes rows listed e = absurd (let x = e in cc)
without_tail false nodes rows listed e = sym (append-nil (rows_text rows))

-- where what was forgotten is asked for, the answer's text is the rows and then that
pub with_the_tail : (with_tail : Bool) (nodes : List PlanNode) (rows : List Row) (listed : List (List (List Forgotten))) → with_tail ≡ true → rows_text rows ++ tail_text nodes listed ≡ answer_text with_tail nodes rows listed
with_the_tail true nodes rows listed e = refl
with_the_tail false nodes rows listed e = absurd (let x = e in cc)
