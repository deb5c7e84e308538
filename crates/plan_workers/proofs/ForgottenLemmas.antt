-- What the first ports of a node and those of the first nodes forgot.
use Rattle.std.proofs.Common.{◌≡◌, ℕ, zero, suc, ◌+◌, ◌<◌, List, [], ◌∷◌, ◌++◌, length, map, take, get_or, refl, sym, ap, ◌∙◌, subst, arith, append_assoc}
use Rattle.std.proofs.lemmas.List.{append-nil, map-append}
use Rattle.node_laws.specs.declared.forgotten.Forgotten.{Forgotten}
use Rattle.node_laws.specs.Lists.{Lists}
use Rattle.cedr_plan.specs.declared.plan.PlanNode.{PlanNode}
use Rattle.plan_runs.specs.Runs.{lists_at}
use Rattle.plan_runs.specs.Without.{forgot_in, forgot_on}
use Rattle.plan_workers.specs.declared.ended.Part.{Part}
use Rattle.plan_answer.specs.declared.forgotten.PortForgotten.{PortForgotten}
use Rattle.plan_workers.specs.Forgettings.{AllTook, PartTook}
use Rattle.plan_answer.specs.Forgettings.{PortForgot, nodes_forgot, ports_forgot, port_forgot}

-- ---- the ports of a node

-- what one port forgot
abbrev forgot_of : ℕ → ℕ → List Forgotten → PortForgot
forgot_of node port list = record { node = node; port = port; list = list }

-- one port more
ports_more : (node first port : ℕ) (ls : List (List Forgotten)) → port < length ls → ports_forgot node first (take (suc port) ls) ≡ ports_forgot node first (take port ls) ++ forgot_of node (first + port) (get_or ls port []) ∷ []
ports_more node first port [] within = absurd (omega arith)
ports_more node first zero (l ∷ ls) within = let here : first ≡ first + 0 = omega arith in ap (λ (p : ℕ). forgot_of node p l ∷ []) here
ports_more node first (suc port) (l ∷ ls) within =
    let at : (first + 1) + port ≡ first + suc port = omega arith in
    let later = ports_more node (first + 1) port ls (omega arith) ∙ ap (λ (p : ℕ). ports_forgot node (first + 1) (take port ls) ++ forgot_of node p (get_or ls port []) ∷ []) at in
    ap (λ (ts : List PortForgot). forgot_of node first l ∷ ts) later

-- what one port more forgot is listed after the others
pub port_told : (node port : ℕ) (ls : List (List Forgotten)) (start : List PortForgot) (before all : List PortForgotten) (one : PortForgotten) → map port_forgot before ≡ start ++ ports_forgot node 0 (take port ls) → all ≡ before ++ one ∷ [] → one.node ≡ node → one.port ≡ port → one.list.items ≡ get_or ls port [] → port < length ls
    → map port_forgot all ≡ start ++ ports_forgot node 0 (take (port + 1) ls)
port_told node port ls start before all one so_far more of_node of_port of_list within =
    let at : 0 + port ≡ port = omega arith in
    let next : port + 1 ≡ suc port = omega arith in
    let one_told : port_forgot one ≡ forgot_of node (0 + port) (get_or ls port []) = cc (of_node, of_port, of_list, at) in
    let ports = ap (λ (k : ℕ). start ++ ports_forgot node 0 (take k ls)) next ∙ ap (λ (ts : List PortForgot). start ++ ts) (ports_more node 0 port ls within) in
    let parts = ap (map port_forgot) more ∙ map-append port_forgot before (one ∷ []) in
    parts ∙ (ap (λ (ts : List PortForgot). ts ++ port_forgot one ∷ []) so_far ∙ (append_assoc start (ports_forgot node 0 (take port ls)) (port_forgot one ∷ []) ∙ (ap (λ (t : PortForgot). start ++ (ports_forgot node 0 (take port ls) ++ t ∷ [])) one_told ∙ sym ports)))

-- ---- the ports of all nodes

-- one node more
nodes_more : (first place : ℕ) (xs : List (List (List Forgotten))) → place < length xs → nodes_forgot first (take (suc place) xs) ≡ nodes_forgot first (take place xs) ++ ports_forgot (first + place) 0 (get_or xs place [])
nodes_more first place [] within = absurd (omega arith)
nodes_more first zero (x ∷ xs) within = append-nil (ports_forgot first 0 x) ∙ ap (λ (p : ℕ). ports_forgot p 0 x) (omega arith)
nodes_more first (suc place) (x ∷ xs) within =
    let head = ports_forgot first 0 x in
    let at : (first + 1) + place ≡ first + suc place = omega arith in
    let later = nodes_more (first + 1) place xs (omega arith) ∙ ap (λ (p : ℕ). nodes_forgot (first + 1) (take place xs) ++ ports_forgot p 0 (get_or xs place [])) at in
    ap (λ (ts : List PortForgot). head ++ ts) later ∙ sym (append_assoc head (nodes_forgot (first + 1) (take place xs)) (ports_forgot (first + suc place) 0 (get_or xs place [])))

-- what the ports of one node more forgot is listed after the others
pub node_told : (place : ℕ) (xs : List (List (List Forgotten))) (ls : List (List Forgotten)) (before all : List PortForgot) → before ≡ nodes_forgot 0 (take place xs) → get_or xs place [] ≡ ls → all ≡ before ++ ports_forgot place 0 ls → place < length xs → all ≡ nodes_forgot 0 (take (place + 1) xs)
node_told place xs ls before all so_far list more within =
    let at : 0 + place ≡ place = omega arith in
    let next : suc place ≡ place + 1 = omega arith in
    let here = ap (λ (p : ℕ). nodes_forgot 0 (take place xs) ++ ports_forgot p 0 (get_or xs place [])) at ∙ ap (λ (ks : List (List Forgotten)). nodes_forgot 0 (take place xs) ++ ports_forgot place 0 ks) list in
    more ∙ (ap (λ (ts : List PortForgot). ts ++ ports_forgot place 0 ls) so_far ∙ (sym here ∙ (sym (nodes_more 0 place xs within) ∙ ap (λ (k : ℕ). nodes_forgot 0 (take k xs)) next)))

-- and that of the node at a place is what its ports forgot
pub forgot_at : (nodes : List PlanNode) (ports : List Lists) (place : ℕ) (n : PlanNode) → place < length nodes → n ≡ get_or nodes place n → get_or (forgot_in nodes ports) place [] ≡ forgot_on n (lists_at ports place)
forgot_at [] ports place n within is = absurd (omega (arith, within))
forgot_at (m ∷ nodes) [] zero n within is = ap (λ (k : PlanNode). forgot_on k []) (sym is)
forgot_at (m ∷ nodes) [] (suc place) n within is = forgot_at nodes [] place n (omega (arith, within)) is
forgot_at (m ∷ nodes) (p ∷ ports) zero n within is = ap (λ (k : PlanNode). forgot_on k p) (sym is)
forgot_at (m ∷ nodes) (p ∷ ports) (suc place) n within is = forgot_at nodes ports place n (omega (arith, within)) is

-- ---- what is left of each worker

-- something is left for each node
pub parts_count : {S R : Type 0} (nodes : List PlanNode) (ports : List Lists) (parts : List (Part S R)) → AllTook nodes ports parts → length parts ≡ length nodes
parts_count [] [] [] all = refl
parts_count [] [] (p ∷ ps) all = absurd all
parts_count [] (l ∷ ls) parts all = absurd all
parts_count (n ∷ ns) [] parts all = absurd all
parts_count (n ∷ ns) (l ∷ ls) [] all = absurd all
parts_count (n ∷ ns) (l ∷ ls) (p ∷ ps) all = omega (arith, parts_count ns ls ps all.1)

-- the node at a place took what came on its ports
pub took_here : {S R : Type 0} (nodes : List PlanNode) (ports : List Lists) (parts : List (Part S R)) (place : ℕ) (n : PlanNode) (p : Part S R) → AllTook nodes ports parts → place < length nodes → n ≡ get_or nodes place n → p ≡ get_or parts place p → PartTook n (lists_at ports place) p
took_here [] ports parts place n p all within node part = absurd (omega (arith, within))
took_here (m ∷ ns) [] parts place n p all within node part = absurd all
took_here (m ∷ ns) (l ∷ ls) [] place n p all within node part = absurd all
took_here {S} {R} (m ∷ ns) (l ∷ ls) (q ∷ ps) zero n p all within node part = subst (λ (z : PlanNode × Part S R). PartTook z.0 l z.1) (λ i. (sym node i, sym part i)) all.0
took_here (m ∷ ns) (l ∷ ls) (q ∷ ps) (suc place) n p all within node part = took_here ns ls ps place n p all.1 (omega (arith, within)) node part
