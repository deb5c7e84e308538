-- An output goes on from message to message, and from publish to publish.
use Rattle.std.proofs.Common.{◌≡◌, ◌≢◌, ◌⊎◌, ℕ, Bool, true, false, true≢false, List, [], ◌∷◌, ◌++◌, length, replicate, refl, sym, ◌∙◌, ap, subst, arith, inl, inr, append_assoc, length-append}
use Rattle.std.specs.Prelude.{MatchBool}
use Rattle.std.proofs.lemmas.List.{append-nil}
use mathlib.Core.List.{IsPrefix}
use Rattle.cedr_base.specs.declared.change.Message.{Message}
use Rattle.cedr_base.specs.declared.level.Level.{Level}
use Rattle.cedr_base.specs.Messages.{changes_of, mark_of, IsLegal}
use Rattle.op_driver.specs.Driving.{MayTake}
use Rattle.cedr_edge.specs.Ends.{InEnd}
use Rattle.cedr_history.specs.declared.close.Close.{Close}
use Rattle.cedr_history.specs.declared.close.Close.TheVariants as close
use Rattle.cedr_history.specs.declared.listed.Listed.{Listed}
use Rattle.cedr_history.specs.Ends.{Writing}
use Rattle.cedr_history.specs.Lists.{nothing, Extends}
use Rattle.cedr_history.proofs.Fronts.{prefix_trans}
use Rattle.cedr_history.proofs.Extending.{extends_self}
use Rattle.node_laws.specs.Lists.{Lists, list_at}
use Rattle.node_laws.specs.Lawful.{is_over, IsLawful}
use Rattle.node_laws.specs.Pass.{pass, passed_of}
use Rattle.node_laws.proofs.Giving.{lawful_echo}
use Rattle.node_laws.proofs.Grows.{pass-push}
use Rattle.node_laws.proofs.Passes.{passes}
use Rattle.cedr_node.specs.declared.node.Node.{Node}
use Rattle.cedr_node.specs.Nodes.{made_of, NodeStands}
use Rattle.cedr_node.proofs.NodeLemmas.{stands_lawful, stands_legal, stands_inputs}
use Rattle.cedr_plan.specs.declared.plan.NodeKind.{NodeKind}
use Rattle.cedr_plan.specs.declared.plan.NodeKind.TheVariants as kind
use Rattle.cedr_plan.specs.declared.plan.PlanNode.{PlanNode}
use Rattle.change_laws.proofs.Legal.{may_come_in}
use Rattle.op_node.specs.Meanings.{node_meaning, meaning_of, port_levels}
use Rattle.cedr_worker.specs.Inputs.{Asked, Took}
use Rattle.cedr_worker.specs.Outputs.{list_from, passed_by, output_list, IsBeginning, WholeOutput, Writes, IsTold}
use Rattle.cedr_worker.proofs.OutputLists.{close_passed, list_extends, list_differs, first_legal, over_closed, closed_over}
use Rattle.cedr_worker.proofs.WorkLemmas.{stands_given}

-- an output gave what its port passes on
pub output_gave : (node : Node) (taken given : List Message) → (made_of node).kind ≡ kind.Output → NodeStands node (taken ∷ []) given → given ≡ passed_by node taken
output_gave node taken given out stands =
    let made = made_of node in
    let one : 1 ≡ length made.inputs.items = stands_inputs node (taken ∷ []) given stands in
    let levels : port_levels made ≡ made.level ∷ [] = ap (λ (n : ℕ). replicate n made.level) (sym one) in
    let echoes : (meaning_of made).echoes ≡ true = ap (λ (k : NodeKind). (node_meaning k (length made.inputs.items)).echoes) out in
    let lawful = subst (λ (vs : List Level). IsLawful (meaning_of made) vs (taken ∷ []) given) levels (stands_lawful node (taken ∷ []) given stands) in
    ap (λ (ls : Lists). list_at ls 0) (sym (lawful_echo (meaning_of made) echoes (made.level ∷ []) (taken ∷ []) given lawful (stands_legal node (taken ∷ []) given stands) refl))

-- the list of what the port passes on is the output's
pub list_passed : (node : Node) (taken : List Message) → IsLegal taken → list_from (passed_by node taken) ≡ output_list node taken
list_passed node taken legal = ap (λ (c : Close). record { changes = changes_of (passed_by node taken); mark = mark_of (passed_by node taken); close = c }) (close_passed (made_of node).level taken legal)

-- what the port passes on is legal
pub passed_legal : (node : Node) (taken : List Message) → IsLegal taken → IsLegal (passed_by node taken)
passed_legal node taken legal = (passes (made_of node).level taken legal).legal

-- a beginning, where a message more was taken
begins_more : (node node' : Node) (taken : List Message) (m : Message) (list : Listed) → made_of node' ≡ made_of node → IsBeginning node taken list → IsBeginning node' (taken ++ m ∷ []) list
begins_more node node' taken m list made b =
    let more : IsPrefix (passed_by node taken) (passed_by node (taken ++ m ∷ [])) = (passed_of (made_of node).level taken m, sym (pass-push (made_of node).level taken m)) in
    record {
      given = b.given;
      first = subst (λ (n : PlanNode). IsPrefix b.given (pass n.level (taken ++ m ∷ []))) (sym made) (prefix_trans b.given (passed_by node taken) (passed_by node (taken ++ m ∷ [])) b.first more);
      list_is = b.list_is;
    }

-- a worker to which nothing came
pub outputs_new : (node : Node) (w : Writing) → (made_of node).kind ≡ kind.Output → NodeStands node ([] ∷ []) [] → (w.published ≡ nothing) × (w.all ≡ nothing) × (w.concluded ≡ false) → Writes node [] w false false
outputs_new node w out stands empty =
    let none = output_gave node [] [] out stands in
    let begins : IsBeginning node [] nothing = record { given = []; first = (passed_by node [], refl); list_is = refl } in
    record {
      kind = out;
      legal = tt;
      found = λ e. record { stands = subst (λ (ms : List Message). NodeStands node ([] ∷ []) ms) none stands; list_is = empty.1 ∙ (ap list_from none ∙ list_passed node [] tt) };
      all = subst (λ (l : Listed). IsBeginning node [] l) (sym empty.1) begins;
      shown = subst (λ (l : Listed). IsBeginning node [] l) (sym empty.0) begins;
      later = subst (λ (l : Listed). Extends l w.all) (empty.1 ∙ sym empty.0) (extends_self w.all);
      waits = empty.0 ∙ sym empty.1;
      unconcluded = empty.2;
    }

-- a message on the one input may be taken on the node's one port
pub may_take_one : (taken : List Message) (m : Message) → IsLegal (taken ++ m ∷ []) → MayTake (taken ∷ []) 0 m
may_take_one taken m legal = record { port_is = omega arith; comes = may_come_in taken [] m legal }

-- what holds where memory was found and nothing is pending
pub found_state : (node : Node) (taken : List Message) (w : Writing) (lacked pending : Bool) → lacked ≡ false → pending ≡ false → Writes node taken w lacked pending → Writes node taken w false false
found_state node taken w lacked pending found none o = subst (λ (b : Bool × Bool). Writes node taken w b.0 b.1) (λ i. (found i, none i)) o

-- memory lacked for the node, or had lacked: the message is dropped
pub outputs_lost : (node node' : Node) (taken : List Message) (m : Message) (w : Writing) (lacked pending : Bool) → made_of node' ≡ made_of node → IsLegal (taken ++ m ∷ []) → Writes node taken w lacked pending → Writes node' (taken ++ m ∷ []) w true pending
outputs_lost node node' taken m w lacked pending made legal o = record {
  kind = ap (λ (n : PlanNode). n.kind) made ∙ o.kind;
  legal = legal;
  found = λ e. absurd (true≢false e);
  all = begins_more node node' taken m w.all made o.all;
  shown = begins_more node node' taken m w.published made o.shown;
  later = o.later;
  waits = o.waits;
  unconcluded = o.unconcluded;
}

-- A message was taken while memory was found and nothing was pending, and the writer was handed what the node gave.
module _ (node node' : Node) (taken piece : List Message) (m : Message) (w w' : Writing) (lacked pending : Bool) (made : made_of node' ≡ made_of node) (legal : IsLegal (taken ++ m ∷ [])) (o : Writes node taken w false false)
    (stands : NodeStands node' ((taken ++ m ∷ []) ∷ []) (passed_by node taken ++ piece)) (told : IsTold (passed_by node taken) piece w w' lacked pending) where
  abbrev before : List Message
  before = passed_by node taken

  out : (made_of node').kind ≡ kind.Output
  out = ap (λ (n : PlanNode). n.kind) made ∙ o.kind

  whole : before ++ piece ≡ passed_by node' (taken ++ m ∷ [])
  whole = output_gave node' (taken ++ m ∷ []) (before ++ piece) out stands

  legal_whole : IsLegal (before ++ piece)
  legal_whole = stands_given node' ((taken ++ m ∷ []) ∷ []) (before ++ piece) stands

  legal_done : IsLegal (before ++ told.done)
  legal_done = first_legal before piece told.done legal_whole told.first

  all_is : w'.all ≡ list_from (before ++ told.done)
  all_is = ap (λ (v : Writing). v.all) told.writer

  published_is : w'.published ≡ w.published
  published_is = ap (λ (v : Writing). v.published) told.writer

  was : list_from before ≡ w'.published
  was = list_passed node taken o.legal ∙ (sym (o.found refl).list_is ∙ (sym o.waits ∙ sym published_is))

  begins : IsBeginning node' (taken ++ m ∷ []) w'.all
  begins = record {
    given = before ++ told.done;
    first = (told.first.0, append_assoc before told.done told.first.0 ∙ (ap (λ (ms : List Message). before ++ ms) told.first.1 ∙ whole));
    list_is = all_is;
  }

  same_or_more : (done : List Message) → told.done ≡ done → (b : Bool) → MatchBool b (told.done ≢ []) (told.done ≡ []) → MatchBool b (w'.published ≢ w'.all) (w'.published ≡ w'.all)
  same_or_more done is false none = sym was ∙ (ap list_from (sym (append-nil before)) ∙ (ap (λ (ms : List Message). list_from (before ++ ms)) (sym none) ∙ sym all_is))
  same_or_more [] is true some = absurd (some is)
  same_or_more (y ∷ ys) is true some =
      λ e. list_differs before ys y (subst (λ (ms : List Message). IsLegal (before ++ ms)) is legal_done) (was ∙ (e ∙ (all_is ∙ ap (λ (ms : List Message). list_from (before ++ ms)) is)))

  pub outputs_told : Writes node' (taken ++ m ∷ []) w' lacked pending
  outputs_told = record {
    kind = out;
    legal = legal;
    found = λ e. record {
      stands = subst (λ (ms : List Message). NodeStands node' ((taken ++ m ∷ []) ∷ []) ms) whole stands;
      list_is = all_is ∙ (ap (λ (ms : List Message). list_from (before ++ ms)) (told.whole e) ∙ (ap list_from whole ∙ list_passed node' (taken ++ m ∷ []) legal));
    };
    all = begins;
    shown = subst (λ (l : Listed). IsBeginning node' (taken ++ m ∷ []) l) (sym published_is) (begins_more node node' taken m w.published made o.shown);
    later = subst (λ (l : Listed). Extends l w'.all) was (subst (λ (l : Listed). Extends (list_from before) l) (sym all_is) (list_extends before told.done legal_done));
    waits = same_or_more told.done refl pending told.some;
    unconcluded = ap (λ (v : Writing). v.concluded) told.writer ∙ o.unconcluded;
  }

-- the output's list goes on from a beginning
pub begins_extends : (node : Node) (taken : List Message) (list : Listed) → IsLegal taken → IsBeginning node taken list → Extends list (output_list node taken)
begins_extends node taken list legal b =
    subst (λ (l : Listed). Extends l (output_list node taken)) (sym b.list_is)
    (subst (λ (l : Listed). Extends (list_from b.given) l) (ap list_from b.first.1 ∙ list_passed node taken legal)
    (list_extends b.given b.first.0 (subst IsLegal (sym b.first.1) (passed_legal node taken legal))))

-- a beginning is closed only where the input is over
pub closed_input : (node : Node) (taken : List Message) (list : Listed) → IsLegal taken → IsBeginning node taken list → list.close ≢ close.Open → is_over taken ≡ true
closed_input node taken list legal b closed =
    closed_over taken (λ e. closed (sym (ap (λ (l : Listed). l.close) ((begins_extends node taken list legal b).2 closed)) ∙ e))

-- where memory was found and the input is over, the output's list is closed
pub whole_closed : (node : Node) (taken : List Message) (list : Listed) → WholeOutput node taken list → is_over taken ≡ true → list.close ≢ close.Open
whole_closed node taken list whole over e = over_closed taken over (sym (ap (λ (l : Listed). l.close) whole.list_is) ∙ e)

-- where an output has ended its input is over
pub ended_over : (node : Node) (taken : List Message) (w : Writing) (lacked pending : Bool) → Writes node taken w lacked pending → (w.published.close ≢ close.Open) ⊎ ((lacked ≡ true) × (is_over taken ≡ true)) → is_over taken ≡ true
ended_over node taken w lacked pending o (inl closed) = closed_input node taken w.published o.legal o.shown closed
ended_over node taken w lacked pending o (inr both) = both.1

-- an output has ended where its input is over, if all is published unless memory was lacking
pub over_ended : (node : Node) (taken : List Message) (w : Writing) (lacked pending : Bool) → Writes node taken w lacked pending → (lacked ≡ false → w.published ≡ w.all) → is_over taken ≡ true → (w.published.close ≢ close.Open) ⊎ ((lacked ≡ true) × (is_over taken ≡ true))
over_ended node taken w true pending o shown over = inr (refl, over)
over_ended node taken w false pending o shown over = inl (λ e. whole_closed node taken w.all (o.found refl) over (sym (ap (λ (l : Listed). l.close) (shown refl)) ∙ e))

-- where nothing was taken and the writer stays, nothing happened
pub idle_output : (o n : InEnd) (v w : Writing) → Asked o n → w ≡ v → Took o n ⊎ (w.published ≢ v.published) → ⊥
idle_output o n v w asked same (inl took) = absurd (omega (arith, ap length (sym asked.taken ∙ took.taken), length-append o.taken (took.message ∷ [])))
idle_output o n v w asked same (inr more) = more (ap (λ (x : Writing). x.published) same)
