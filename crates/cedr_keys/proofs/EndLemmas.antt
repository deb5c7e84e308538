-- What a call over a file comes to, where it is known what the file holds.
use Rattle.std.proofs.Common.{◌≡◌, ℕ, List, get_or, refl, ap, sym, ◌∙◌, subst}
use Rattle.std.specs.Prelude.{Option, Some, None, IfSome, Ok}
use Rattle.std.proofs.lemmas.Option.{slice_get-get_or}
use Rattle.cedr_plan.specs.Drawn.{drawn}
use Rattle.cedr_plan.specs.Plans.{plan_of}
use Rattle.cedr_plan.specs.declared.plan.Plan.{Plan}
use Rattle.cedr_plan.specs.declared.plan.PlanNode.{PlanNode}
use Rattle.plan_key_choice.specs.Choices.{IsKeyChoice, IsKeyFaultOf, IsUnkeyed, IsShared}
use Rattle.plan_key_choice.specs.declared.fault.KeyFault.{KeyFault}
use Rattle.plan_key_choice.specs.declared.fault.KeyFault.TheVariants as key_fault
use Rattle.cedr_keys.specs.Ends.{IsKeyText, IsUnkeyedText, IsUndecided}
use Rattle.cedr_keys.specs.Texts.{keys_text, unkeyed_text}

-- the text of a choice of columns, of which this holds
pub text_known : (content : Option (List ℕ)) (plan : Plan) (columns text : List ℕ) (holds : List ℕ → Type 0) → IfSome content (λ bytes. plan_of bytes ≡ Ok (drawn plan)) → IsKeyChoice columns plan.nodes.items → text ≡ keys_text columns plan.nodes.items 0 → holds text
    → IfSome content (λ bytes. (t : List ℕ) × IsKeyText bytes t × holds t)
text_known None plan columns text holds opened choice is holding = tt
text_known (Some bytes) plan columns text holds opened choice is holding = (text, record { plan = plan; columns = columns; described = opened; choice = choice; text_is = is }, holding)

-- what is told of a plan that isn't keyed
pub unkeyed_known : (content : Option (List ℕ)) (plan : Plan) (nodes : List PlanNode) (fault : KeyFault) (place : ℕ) (node : PlanNode) (told : List ℕ) → IfSome content (λ bytes. plan_of bytes ≡ Ok (drawn plan)) → nodes ≡ plan.nodes.items → fault ≡ key_fault.Unkeyed place
    → IsKeyFaultOf plan.nodes.items fault → node ≡ get_or nodes place node → told ≡ unkeyed_text node → IfSome content (λ bytes. IsUnkeyedText bytes told)
unkeyed_known None plan nodes fault place node told opened same is h at text = tt
unkeyed_known (Some bytes) plan nodes fault place node told opened same is h at text =
    let none : IsUnkeyed plan.nodes.items place = subst (IsKeyFaultOf plan.nodes.items) is h in
    let found : get_or plan.nodes.items place node ≡ node = ap (λ (ns : List PlanNode). get_or ns place node) (sym same) ∙ sym at in
    record { plan = plan; node = node; place = place; described = opened; none = none.none; node_is = slice_get-get_or plan.nodes.items place node none.told ∙ ap (λ (n : PlanNode). Some n) found; text_is = text }

-- a plan whose search was given up
pub undecided_known : (content : Option (List ℕ)) (plan : Plan) (fault : KeyFault) → IfSome content (λ bytes. plan_of bytes ≡ Ok (drawn plan)) → fault ≡ key_fault.Undecided → IsKeyFaultOf plan.nodes.items fault → IfSome content IsUndecided
undecided_known None plan fault opened is h = tt
undecided_known (Some bytes) plan fault opened is h =
    let shared : IsShared plan.nodes.items = subst (IsKeyFaultOf plan.nodes.items) is h in
    record { plan = plan; described = opened; shared = shared }
