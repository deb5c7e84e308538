-- The changes of a legal list, and the texts of what ports forgot.
use Rattle.std.proofs.Common.{◌≡◌, ℕ, zero, suc, ◌+◌, ◌<◌, List, [], ◌∷◌, ◌++◌, length, map, get_or, take, refl, ap, sym, ◌∙◌, subst, arith, append_assoc}
use Rattle.std.specs.List.{All}
use Rattle.std.proofs.lemmas.List.{append-nil, length-append, map-append, take_more}
use Rattle.std.proofs.lemmas.List.Elements.{All-append, All-cons, All-tail}
use Rattle.cedr_base.specs.declared.change.Change.{Change}
use Rattle.cedr_base.specs.declared.change.Message.{Message}
use Rattle.cedr_base.specs.declared.change.Message.TheVariants as message
use Rattle.cedr_base.specs.declared.row.Row.{Row}
use Rattle.cedr_base.specs.Messages.{changes_of, IsLegal, IsLegalBehind, IsTableOf}
use Rattle.plan_answer.specs.declared.forgotten.PortForgotten.{PortForgotten}
use Rattle.plan_answer.specs.Forgettings.{PortForgot, nodes_forgot, ports_forgot, port_forgot}
use Rattle.node_laws.specs.declared.forgotten.Forgotten.{Forgotten}
use Rattle.cedr_plan.specs.declared.plan.PlanNode.{PlanNode}
use Rattle.plan_answer.specs.Answers.{nodes_text, port_text, ports_text}
use Rattle.change_laws.specs.Repairs.{AreLegal, Leads}
use Rattle.change_laws.proofs.Legal.{changes-append}
use Rattle.plan_answer.specs.Reports.{name_at, all_forgotten_text}

-- ---- changes

-- changes that are legal after a message more
legal_on : (before : List Message) (m : Message) (here cs : List Change) → changes_of (m ∷ []) ≡ here → AreLegal [] (changes_of (before ++ m ∷ [])) cs → AreLegal [] (changes_of before ++ here) cs
legal_on before m here cs is legal = subst (λ (ds : List Change). AreLegal [] ds cs) (changes-append before (m ∷ []) ∙ ap (λ (ds : List Change). changes_of before ++ ds) is) legal

-- or after one that is no change
legal_past : (before : List Message) (m : Message) (cs : List Change) → changes_of (m ∷ []) ≡ [] → AreLegal [] (changes_of (before ++ m ∷ [])) cs → AreLegal [] (changes_of before) cs
legal_past before m cs none legal = subst (λ (ds : List Change). AreLegal [] ds cs) (append-nil (changes_of before)) (legal_on before m [] cs none legal)

-- the changes of messages that are legal after others are legal after the changes of those
legal_behind : (before ms : List Message) → IsLegalBehind before ms → AreLegal [] (changes_of before) (changes_of ms)
legal_behind before [] legal = tt
legal_behind before (message.Change c ∷ ms) legal = (legal.0.1.0, legal_on before (message.Change c) (c ∷ []) (changes_of ms) refl (legal_behind (before ++ message.Change c ∷ []) ms legal.1))
legal_behind before (message.Mark t ∷ ms) legal = legal_past before (message.Mark t) (changes_of ms) refl (legal_behind (before ++ message.Mark t ∷ []) ms legal.1)
legal_behind before (message.End ∷ ms) legal = legal_past before message.End (changes_of ms) refl (legal_behind (before ++ message.End ∷ []) ms legal.1)
legal_behind before (message.Broken ∷ ms) legal = legal_past before message.Broken (changes_of ms) refl (legal_behind (before ++ message.Broken ∷ []) ms legal.1)

-- the changes of a legal list may be applied one after the other, though marks stand between them
pub changes_legal : (ms : List Message) (cs : List Change) → IsLegal ms → cs ≡ changes_of ms → AreLegal [] [] cs
changes_legal ms cs legal is = subst (λ (ds : List Change). AreLegal [] [] ds) (sym is) (legal_behind [] ms legal)

-- and lead from no row to the table of the list
pub table_led : (ms : List Message) (cs : List Change) (rows : List Row) → cs ≡ changes_of ms → Leads [] cs rows → IsTableOf ms rows
table_led ms cs rows is leads =
    let led = subst (λ (ds : List Change). Leads [] ds rows) is leads in
    record { sums = led.sums }

-- ---- what ports forgot

-- a node stands after those before it
name_seam : (before after : List PlanNode) (n : PlanNode) → name_at (before ++ n ∷ after) (length before) ≡ n.name
name_seam [] after n = refl
name_seam (b ∷ before) after n = name_seam before after n

-- a node's name is that at its place
pub name_here : (nodes : List PlanNode) (place : ℕ) (d : PlanNode) → place < length nodes → name_at nodes place ≡ (get_or nodes place d).name
name_here [] place d within = absurd (omega (arith, within))
name_here (n ∷ nodes) zero d within = refl
name_here (n ∷ nodes) (suc place) d within = name_here nodes place d (omega (arith, within))

-- the text of two lists
text-append : (nodes : List PlanNode) (xs ys : List PortForgot) → all_forgotten_text nodes (xs ++ ys) ≡ all_forgotten_text nodes xs ++ all_forgotten_text nodes ys
text-append nodes [] ys = refl
text-append nodes (x ∷ xs) ys =
    ap (λ (t : List ℕ). port_text (name_at nodes x.node) x.port x.list ++ t) (text-append nodes xs ys) ∙ sym (append_assoc (port_text (name_at nodes x.node) x.port x.list) (all_forgotten_text nodes xs) (all_forgotten_text nodes ys))

-- the text of one port more
pub text_more : (nodes : List PlanNode) (forgotten : List PortForgotten) (k : ℕ) (p : PortForgotten) → k < length forgotten → get_or forgotten k p ≡ p → all_forgotten_text nodes (map port_forgot (take (k + 1) forgotten)) ≡ all_forgotten_text nodes (map port_forgot (take k forgotten)) ++ port_text (name_at nodes p.node) p.port p.list.items
text_more nodes forgotten k p within here =
    let more : take (k + 1) forgotten ≡ take k forgotten ++ p ∷ [] = take_more forgotten k p within ∙ ap (λ (x : PortForgotten). take k forgotten ++ x ∷ []) here in
    ap (λ (ps : List PortForgotten). all_forgotten_text nodes (map port_forgot ps)) more
    ∙ (ap (all_forgotten_text nodes) (map-append port_forgot (take k forgotten) (p ∷ []))
    ∙ (text-append nodes (map port_forgot (take k forgotten)) (port_forgot p ∷ [])
    ∙ ap (λ (t : List ℕ). all_forgotten_text nodes (map port_forgot (take k forgotten)) ++ t) (append-nil (port_text (name_at nodes p.node) p.port p.list.items))))

-- the text of the ports of a node
ports_texts : (nodes : List PlanNode) (place port : ℕ) (ports : List (List Forgotten)) → all_forgotten_text nodes (ports_forgot place port ports) ≡ ports_text (name_at nodes place) port ports
ports_texts nodes place port [] = refl
ports_texts nodes place port (l ∷ ports) = ap (λ (t : List ℕ). port_text (name_at nodes place) port l ++ t) (ports_texts nodes place (port + 1) ports)

-- the text of the nodes after others
texts_behind : (before nodes : List PlanNode) (place : ℕ) (listed : List (List (List Forgotten))) → place ≡ length before → length listed ≡ length nodes → all_forgotten_text (before ++ nodes) (nodes_forgot place listed) ≡ nodes_text nodes listed
texts_behind before [] place [] at same = refl
texts_behind before [] place (l ∷ listed) at same = absurd (omega (arith, same))
texts_behind before (n ∷ nodes) place [] at same = absurd (omega (arith, same))
texts_behind before (n ∷ nodes) place (ports ∷ listed) at same =
    let all = before ++ n ∷ nodes in
    let name : name_at all place ≡ n.name = ap (name_at all) at ∙ name_seam before nodes n in
    let whole : (before ++ n ∷ []) ++ nodes ≡ all = append_assoc before (n ∷ []) nodes in
    let later = texts_behind (before ++ n ∷ []) nodes (place + 1) listed (omega (arith, at, length-append before (n ∷ []))) (omega (arith, same)) in
    text-append all (ports_forgot place 0 ports) (nodes_forgot (place + 1) listed)
    ∙ (ap (λ (t : List ℕ). t ++ all_forgotten_text all (nodes_forgot (place + 1) listed)) (ports_texts all place 0 ports ∙ ap (λ (name : List ℕ). ports_text name 0 ports) name)
    ∙ ap (λ (t : List ℕ). ports_text n.name 0 ports ++ t) (sym (ap (λ (ns : List PlanNode). all_forgotten_text ns (nodes_forgot (place + 1) listed)) whole) ∙ later))

-- the text of what is listed of all nodes is theirs
pub all_texts : (nodes : List PlanNode) (ts : List PortForgot) (listed : List (List (List Forgotten))) → ts ≡ nodes_forgot 0 listed → length listed ≡ length nodes → all_forgotten_text nodes ts ≡ nodes_text nodes listed
all_texts nodes ts listed is same = ap (all_forgotten_text nodes) is ∙ texts_behind [] nodes 0 listed refl same

-- ---- their places

-- the ports of a node are at its place
ports_within : (place port bound : ℕ) (ports : List (List Forgotten)) → place < bound → All (λ (t : PortForgot). t.node < bound) (ports_forgot place port ports)
ports_within place port bound [] within = λ k d lt. absurd (omega (arith, lt))
ports_within place port bound (l ∷ ports) within =
    All-cons (λ (t : PortForgot). t.node < bound) (record { node = place; port = port; list = l }) (ports_forgot place (port + 1) ports) within (ports_within place (port + 1) bound ports within)

-- those of some nodes are at their places
nodes_within : (place bound : ℕ) (listed : List (List (List Forgotten))) → place + length listed ≡ bound → All (λ (t : PortForgot). t.node < bound) (nodes_forgot place listed)
nodes_within place bound [] same = λ k d lt. absurd (omega (arith, lt))
nodes_within place bound (ports ∷ listed) same =
    All-append (λ (t : PortForgot). t.node < bound) (ports_forgot place 0 ports) (nodes_forgot (place + 1) listed) (ports_within place 0 bound ports (omega (arith, same))) (nodes_within (place + 1) bound listed (omega (arith, same)))

-- where the places that are listed are below a bound, so are those of the ports
from_told : (bound : ℕ) (forgotten : List PortForgotten) → All (λ (t : PortForgot). t.node < bound) (map port_forgot forgotten) → All (λ (p : PortForgotten). p.node < bound) forgotten
from_told bound [] all = λ k d lt. absurd (omega (arith, lt))
from_told bound (p ∷ forgotten) all =
    All-cons (λ (q : PortForgotten). q.node < bound) p forgotten (all 0 (port_forgot p) (omega arith)) (from_told bound forgotten (All-tail (λ (t : PortForgot). t.node < bound) (port_forgot p) (map port_forgot forgotten) all))

-- each port that is listed is one of a node
pub all_within : (nodes : List PlanNode) (forgotten : List PortForgotten) (listed : List (List (List Forgotten))) → map port_forgot forgotten ≡ nodes_forgot 0 listed → length listed ≡ length nodes → All (λ (p : PortForgotten). p.node < length nodes) forgotten
all_within nodes forgotten listed is same =
    from_told (length nodes) forgotten (subst (λ (ts : List PortForgot). All (λ (t : PortForgot). t.node < length nodes) ts) (sym is) (nodes_within 0 (length nodes) listed (omega (arith, same))))

-- what is written after two texts
pub behind_both : (first next text a b t : List ℕ) → a ≡ first ++ next → b ≡ a ++ t → t ≡ text → b ≡ first ++ (next ++ text)
behind_both first next text a b t one two three = two ∙ (ap (λ (x : List ℕ). x ++ t) one ∙ (append_assoc first next t ∙ ap (λ (x : List ℕ). first ++ (next ++ x)) three))
