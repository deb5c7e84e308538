-- Sources without a fault, node by node.
use Rattle.std.proofs.Common.{◌≡◌, ℕ, zero, suc, ◌+◌, List, [], ◌∷◌, ◌++◌, Bool, true, false, cond, refl, ap, sym, ◌∙◌, subst, arith}
use Rattle.std.specs.Prelude.{Option, None, Some}
use Rattle.std.proofs.lemmas.List.Sums.{sum_by-cons}
use Rattle.cedr_base.specs.declared.row.Row.{Row}
use Rattle.cedr_base.specs.declared.change.Message.{Message}
use Rattle.cedr_base.specs.declared.change.Message.TheVariants as message
use Rattle.cedr_base.specs.Messages.{IsLegal, IsTableOf}
use Rattle.cedr_guard.specs.declared.refusal.Refusal.{Refusal}
use Rattle.cedr_guard.specs.Messages.{messages_behind}
use Rattle.cedr_guard.specs.Sources.{judged, ending, messages_of, history_of_bytes}
use Rattle.node_laws.specs.Lists.{Lists, AreTables}
use Rattle.node_laws.specs.Pass.{has_end}
use Rattle.node_laws.specs.Lawful.{has_broken}
use Rattle.node_laws.proofs.Ends.{open_unbroken, broken-append}
use Rattle.node_laws.proofs.Grows.{end-pushed}
use Rattle.cedr_plan.specs.declared.plan.PlanNode.{PlanNode}
use Rattle.cedr_plan.specs.Places.{is_source, source_count}
use Rattle.plan_runs.specs.Runs.{IsWhole, AllWhole, sources_in}
use Rattle.change_laws.proofs.Legal.{may_come_in}
use Rattle.cedr_table.specs.Operators.{Tables}
use Rattle.cedr_text.specs.declared.event_line.Shape.{Shape}
use Rattle.plan_answer.specs.Queries.{source_nodes, AreAcceptedSources}
use Rattle.plan_answer.specs.Sources.{HasGiven, AllHaveGiven, file_of, faulty_from}

-- the messages of a source without a fault are whole
faultless_whole : (shape : Shape) (bytes : List ℕ) → IsLegal (messages_of shape bytes) → (judged shape bytes).fault ≡ None → IsWhole (messages_of shape bytes)
faultless_whole shape bytes legal faultless =
    let before = messages_behind [] (judged shape bytes).good in
    let ends : messages_of shape bytes ≡ before ++ message.End ∷ [] = ap (λ (f : Option Refusal). before ++ ending f) faultless in
    let opened = (may_come_in before [] message.End (subst IsLegal ends legal)).0 in
    record {
      legal = legal;
      ended = ap has_end ends ∙ end-pushed before;
      unbroken = ap has_broken ends ∙ broken-append before (message.End ∷ []) (open_unbroken before opened);
    }

-- sources with these lists are accepted
abbrev Accepts : (List ℕ → List ℕ) → List PlanNode → Lists → ℕ → Type 0
Accepts told sources lists count = (histories : Tables) × AreAcceptedSources told sources lists histories × AllWhole count lists × AreTables lists histories

module _ (told : List ℕ → List ℕ) (legal : (shape : Shape) (bytes : List ℕ) → IsLegal (messages_of shape bytes)) (table : (shape : Shape) (bytes : List ℕ) → IsTableOf (messages_of shape bytes) (history_of_bytes shape bytes)) where
  whole_more : (l : List Message) (lists : Lists) (count more : ℕ) → more ≡ 1 + count → IsWhole l → AllWhole count lists → AllWhole more (l ∷ lists)
  whole_more l lists count more is one all zero within = one
  whole_more l lists count more is one all (suc k) within = all k (omega (arith, is))

  -- one node more, which is a source or not
  accepts_at : (b : Bool) (n : PlanNode) (l : List Message) (sources : List PlanNode) (lists : Lists) (count more : ℕ) → is_source n.kind ≡ b → more ≡ cond b 1 0 + count → HasGiven told n l None
      → Accepts told sources lists count → Accepts told (cond b (n ∷ sources) sources) (cond b (l ∷ lists) lists) more
  accepts_at true n l sources lists count more is sum given rest =
      let bytes = told (file_of n.kind) in
      let one = given.source is in
      let messages_are : l ≡ messages_of one.0 bytes = one.3 refl in (
        history_of_bytes one.0 bytes ∷ rest.0,
        (record { shape = one.0; types = one.1; faultless = one.2; messages = messages_are; history_is = refl }, rest.1),
        whole_more l lists count more sum (subst IsWhole (sym messages_are) (faultless_whole one.0 bytes (legal one.0 bytes) one.2)) rest.2,
        (subst (λ (ms : List Message). IsTableOf ms (history_of_bytes one.0 bytes)) (sym messages_are) (table one.0 bytes), rest.3),
      )
  accepts_at false n l sources lists count more is sum given rest = (rest.0, rest.1, λ k within. rest.2 k (omega (arith, sum)), rest.3)

  -- where no source is faulty all are accepted
  pub all_accepted : (place : ℕ) (nodes : List PlanNode) (left : Lists) (faults : List (Option Refusal)) → AllHaveGiven told nodes left faults → [] ≡ faulty_from place faults
      → Accepts told (source_nodes nodes) (sources_in nodes left) (source_count nodes)
  all_accepted place [] [] [] h none = ([], tt, λ k within. absurd (omega arith), tt)
  all_accepted place [] (l ∷ left) faults h none = absurd h
  all_accepted place [] [] (f ∷ faults) h none = absurd h
  all_accepted place (n ∷ nodes) [] faults h none = absurd h
  all_accepted place (n ∷ nodes) (l ∷ left) [] h none = absurd h
  all_accepted place (n ∷ nodes) (l ∷ left) (None ∷ faults) h none =
      accepts_at (is_source n.kind) n l (source_nodes nodes) (sources_in nodes left) (source_count nodes) (source_count (n ∷ nodes)) refl (sum_by-cons (λ (m : PlanNode). cond (is_source m.kind) 1 0) n nodes) h.0
      (all_accepted (place + 1) nodes left faults h.1 none)
  all_accepted place (n ∷ nodes) (l ∷ left) (Some refusal ∷ faults) h none = absurd (let e = none in cc)
