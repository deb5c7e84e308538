-- A worker goes on working.
use Rattle.std.proofs.Common.{◌≡◌, ℕ, zero, suc, ◌<◌, Bool, true, false, true≢false, ◌&&◌, List, [], ◌∷◌, ◌++◌, length, map, set, get_or, refl, sym, ◌∙◌, ap, subst, arith, append_assoc}
use Rattle.std.proofs.lemmas.List.{length-map, map-set, get_or_default}
use Rattle.cedr_base.specs.declared.change.Message.{Message}
use Rattle.cedr_base.specs.Messages.{IsLegal, MayCome}
use Rattle.op_driver.specs.Driving.{MayTake}
use Rattle.cedr_edge.specs.Ends.{InEnd, taken_of}
use Rattle.node_laws.specs.Lists.{Lists, list_at, with_more}
use Rattle.node_laws.specs.Lawful.{is_over, all_over}
use Rattle.node_laws.proofs.Ends.{over_open, open_not_over}
use Rattle.node_laws.proofs.Giving.{lawful_legal, lawful_opened}
use Rattle.cedr_node.specs.declared.node.Node.{Node}
use Rattle.cedr_node.specs.Nodes.{made_of, NodeStands}
use Rattle.cedr_node.proofs.NodeLemmas.{stands_lawful, stands_legal}
use Rattle.worker_outlets.specs.Outgoing.{Outgoing}
use Rattle.worker_outlets.specs.Outlets.{AllTotal, AllStaged, total_of}
use Rattle.worker_outlets.proofs.FanLemmas.{totals_stay}
use Rattle.worker_outlets.proofs.RoundLemmas.{map_at, same_at, map_length}
use Rattle.cedr_plan.specs.declared.plan.PlanNode.{PlanNode}
use Rattle.plan_runs.specs.Runs.{ArePrefixes}
use Rattle.plan_runs.proofs.Partial.{prefixes_itself}
use Rattle.change_laws.proofs.Legal.{may_come_in}
use Rattle.cedr_worker.specs.Inputs.{taken_in}
use Rattle.cedr_worker.specs.Operators.{Sound, Lost, NodeWorks, with_break}
use Rattle.op_node.specs.Meanings.{meaning_of, port_levels}

-- what a standing node gave is legal
pub stands_given : (node : Node) (lists : Lists) (given : List Message) → NodeStands node lists given → IsLegal given
stands_given node lists given s = lawful_legal (meaning_of (made_of node)) (port_levels (made_of node)) lists given (stands_lawful node lists given s) (stands_legal node lists given s)

-- it goes on while a message may come on a port
pub stands_goes : (node : Node) (lists : Lists) (given : List Message) (port : ℕ) (m : Message) → NodeStands node lists given → MayTake lists port m → is_over given ≡ false
stands_goes node lists given port m s may =
    over_open given
    (lawful_opened (meaning_of (made_of node)) (port_levels (made_of node)) lists given (stands_lawful node lists given s) (stands_legal node lists given s) (open_not_over port lists may.port_is may.comes.0))

-- prefixes of lists are prefixes of longer ones
pub prefixes_more : (port : ℕ) (before lists : Lists) (ms : List Message) → ArePrefixes before lists → ArePrefixes before (with_more lists port ms)
prefixes_more port [] [] ms h = tt
prefixes_more port [] (l ∷ ls) ms h = absurd h
prefixes_more port (b ∷ bs) [] ms h = absurd h
prefixes_more zero (b ∷ bs) (l ∷ ls) ms h = (record { rest = h.0.rest ++ ms; all = sym (append_assoc b h.0.rest ms) ∙ ap (λ (x : List Message). x ++ ms) h.0.all }, h.1)
prefixes_more (suc k) (b ∷ bs) (l ∷ ls) ms h = (h.0, prefixes_more k bs ls ms h.1)

-- what is set down stays
pub staged_stay : (piece : List Message) (old new : List Outgoing) → map (λ (o : Outgoing). o.staged) new ≡ map (λ (o : Outgoing). o.staged) old → AllStaged piece old → AllStaged piece new
staged_stay piece old new e all k d less = same_at (λ (o : Outgoing). o.staged) new old k d e ∙ all k d (omega (arith, less, map_length (λ (o : Outgoing). o.staged) new old e))

-- a worker whose memory lacked, or not, goes on over out edges with the same totals
pub works_outlets : (node : Node) (lists : Lists) (old new : List Outgoing) (lacked broke : Bool) → map total_of new ≡ map total_of old → map (λ (o : Outgoing). o.staged) new ≡ map (λ (o : Outgoing). o.staged) old → NodeWorks node lists old lacked broke
    → NodeWorks node lists new lacked broke
works_outlets node lists old new lacked broke totals staged w = record {
  sound = λ e. let s = w.sound e in record { given = s.given; stands = s.stands; all = totals_stay s.given old new totals s.all; clean = staged_stay [] old new staged s.clean };
  lost = λ e.
      let s = w.lost e in
      record { before = s.before; prefixes = s.prefixes; given = s.given; lawful = s.lawful; legal = s.legal; goes = s.goes; all = totals_stay (with_break broke s.given) old new totals s.all; over = s.over };
  whole = w.whole;
}

-- memory lacked when the node was given a message
lost_now : (node : Node) (lists : Lists) (old new : List Outgoing) (port : ℕ) (m : Message) (broke : Bool) → broke ≡ false → map total_of new ≡ map total_of old → MayTake lists port m → Sound node lists old
    → Lost (made_of node) (with_more lists port (m ∷ [])) new broke
lost_now node lists old new port m true e totals may s = absurd (true≢false e)
lost_now node lists old new port m false e totals may s = record {
  before = lists;
  prefixes = prefixes_more port lists lists (m ∷ []) (prefixes_itself lists);
  given = s.given;
  lawful = stands_lawful node lists s.given s.stands;
  legal = stands_given node lists s.given s.stands;
  goes = stands_goes node lists s.given port m s.stands may;
  all = totals_stay s.given old new totals s.all;
  over = λ e. absurd (true≢false (sym e));
}

-- or it had lacked before
lost_still : (made : PlanNode) (lists : Lists) (old new : List Outgoing) (port : ℕ) (m : Message) (broke : Bool) → map total_of new ≡ map total_of old → MayTake lists port m → Lost made lists old broke → Lost made (with_more lists port (m ∷ [])) new broke
lost_still made lists old new port m broke totals may s = record {
  before = s.before;
  prefixes = prefixes_more port s.before lists (m ∷ []) s.prefixes;
  given = s.given;
  lawful = s.lawful;
  legal = s.legal;
  goes = s.goes;
  all = totals_stay (with_break broke s.given) old new totals s.all;
  over = λ e. absurd (true≢false (sym (s.over e) ∙ open_not_over port lists may.port_is may.comes.0));
}

-- a worker goes on after a message that was taken
pub works_taken : (node node' : Node) (lists : Lists) (old new : List Outgoing) (port : ℕ) (m : Message) (lacked lacked' broke : Bool) → made_of node' ≡ made_of node → MayTake lists port m
    → (lacked' ≡ false → (lacked ≡ false) × (Sound node lists old → Sound node' (with_more lists port (m ∷ [])) new)) → (lacked' ≡ true → map total_of new ≡ map total_of old)
    → NodeWorks node lists old lacked broke → NodeWorks node' (with_more lists port (m ∷ [])) new lacked' broke
works_taken node node' lists old new port m false lacked' broke made may kept totals w = record {
  sound = λ e. (kept e).1 (w.sound refl);
  lost = λ e. subst (λ (n : PlanNode). Lost n (with_more lists port (m ∷ [])) new broke) (sym made) (lost_now node lists old new port m broke (w.whole refl) (totals e) may (w.sound refl));
  whole = λ e. w.whole refl;
}
works_taken node node' lists old new port m true lacked' broke made may kept totals w = record {
  sound = λ e. absurd (true≢false (kept e).0);
  lost = λ e. subst (λ (n : PlanNode). Lost n (with_more lists port (m ∷ [])) new broke) (sym made) (lost_still (made_of node) lists old new port m broke (totals e) may (w.lost refl));
  whole = λ e. absurd (true≢false (kept e).0);
}

-- what a node gave for a message is pending at each out edge
pub sound_taken : (node node' : Node) (lists : Lists) (old staged new : List Outgoing) (port : ℕ) (m : Message) (piece : List Message) → MayTake lists port m
    → ((given : List Message) → NodeStands node lists given → MayTake lists port m → NodeStands node' (with_more lists port (m ∷ [])) (given ++ piece)) → map total_of staged ≡ map total_of old → (AllStaged [] old → AllStaged piece staged)
    → ((given piece : List Message) → AllTotal given staged → AllStaged piece staged → AllTotal (given ++ piece) new × AllStaged [] new) → Sound node lists old → Sound node' (with_more lists port (m ∷ [])) new
sound_taken node node' lists old staged new port m piece may taken totals set_down committed s =
    let ends = committed s.given piece (totals_stay s.given old staged totals s.all) (set_down s.clean) in
    record { given = s.given ++ piece; stands = taken s.given s.stands may; all = ends.0; clean = ends.1 }

-- and may be
pub may_commit : (node node' : Node) (lists : Lists) (old staged : List Outgoing) (port : ℕ) (m : Message) (piece : List Message) → MayTake lists port m
    → ((given : List Message) → NodeStands node lists given → MayTake lists port m → NodeStands node' (with_more lists port (m ∷ [])) (given ++ piece)) → map total_of staged ≡ map total_of old → (AllStaged [] old → AllStaged piece staged)
    → Sound node lists old → (given piece : List Message) × AllTotal given staged × AllStaged piece staged × IsLegal (given ++ piece)
may_commit node node' lists old staged port m piece may taken totals set_down s =
    (s.given, piece, totals_stay s.given old staged totals s.all, set_down s.clean, stands_given node' (with_more lists port (m ∷ [])) (s.given ++ piece) (taken s.given s.stands may))

-- the list that was taken from an input stands at its port
taken_here : (inputs : List InEnd) (port : ℕ) (e : InEnd) → port < length inputs → e ≡ get_or inputs port e → e.taken ≡ list_at (taken_in inputs) port
taken_here inputs port e within there =
    ap taken_of there ∙ (sym (map_at taken_of inputs port e) ∙ get_or_default (taken_in inputs) port (taken_of e) [] (omega (arith, within, length-map inputs taken_of)))

-- a message on an input may be taken on its port
pub may_take : (inputs : List InEnd) (port : ℕ) (e : InEnd) (m : Message) → port < length inputs → e ≡ get_or inputs port e → IsLegal (e.taken ++ m ∷ []) → MayTake (taken_in inputs) port m
may_take inputs port e m within there legal =
    let here : e.taken ≡ list_at (taken_in inputs) port = taken_here inputs port e within there in
    record { port_is = omega (arith, within, length-map inputs taken_of); comes = subst (λ (l : List Message). MayCome l m) here (may_come_in e.taken [] m legal) }

-- the lists that were taken, with one message more
pub taken_more : (inputs : List InEnd) (port : ℕ) (e y : InEnd) (m : Message) → port < length inputs → e ≡ get_or inputs port e → y.taken ≡ e.taken ++ m ∷ [] → taken_in (set inputs port y) ≡ with_more (taken_in inputs) port (m ∷ [])
taken_more inputs port e y m within there is =
    map-set taken_of inputs port y ∙ ap (λ (l : List Message). set (taken_in inputs) port l) (is ∙ ap (λ (l : List Message). l ++ m ∷ []) (taken_here inputs port e within there))

-- where each of the lists is over, all are
pub all_over_if : (lists : Lists) → ((k : ℕ) → k < length lists → is_over (list_at lists k) ≡ true) → all_over lists ≡ true
all_over_if [] h = refl
all_over_if (l ∷ ls) h = ap (λ (b : Bool). b && all_over ls) (h 0 (omega arith)) ∙ all_over_if ls (λ k less. h (suc k) (omega arith))

-- where one of the lists isn't over, not all are
pub not_all_over : (lists : Lists) (k : ℕ) → k < length lists → is_over (list_at lists k) ≡ false → all_over lists ≡ false
not_all_over [] k less e = absurd (omega arith)
not_all_over (l ∷ ls) zero less e = ap (λ (b : Bool). b && all_over ls) e
not_all_over (l ∷ ls) (suc k) less e = behind (is_over l) (not_all_over ls k (omega arith) e) where
  behind : (b : Bool) → all_over ls ≡ false → (b && all_over ls) ≡ false
  behind true rest = rest
  behind false rest = refl

-- where each of the inputs is over, all are
pub inputs_over : (inputs : List InEnd) → ((k : ℕ) (d : InEnd) → k < length inputs → is_over (get_or inputs k d).taken ≡ true) → all_over (taken_in inputs) ≡ true
inputs_over [] h = refl
inputs_over (e ∷ es) h = ap (λ (b : Bool). b && all_over (taken_in es)) (h 0 e (omega arith)) ∙ inputs_over es (λ k d less. h (suc k) d (omega arith))

-- where one of the inputs isn't over, not all are
pub input_open : (inputs : List InEnd) (k : ℕ) (e : InEnd) → k < length inputs → e ≡ get_or inputs k e → is_over e.taken ≡ false → all_over (taken_in inputs) ≡ false
input_open inputs k e less there goes = not_all_over (taken_in inputs) k (omega (arith, less, length-map inputs taken_of)) (ap is_over (sym (taken_here inputs k e less there)) ∙ goes)
