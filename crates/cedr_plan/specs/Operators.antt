-- The operators of a plan: one row for each, and what each member of a node has to be.
use Rattle.std.specs.Prelude.{ℕ, Bool, true, false, ◌&&◌, List, [], ◌∷◌, codes, nat_le, bytes_eq, Option}
use Rattle.std.specs.List.{find}
use Rattle.cedr_plan.specs.declared.operator.Operator.{Operator}
use Rattle.cedr_plan.specs.declared.operator.Operator.TheVariants as operator
use Rattle.cedr_plan.specs.declared.operator.Member.{Member}
use Rattle.cedr_plan.specs.declared.operator.Member.TheVariants as member
use Rattle.cedr_plan.specs.declared.operator.Form.{Form}
use Rattle.cedr_plan.specs.declared.operator.Form.TheVariants as form
use Rattle.cedr_plan.specs.declared.operator.Outcome.{Outcome}
use Rattle.cedr_plan.specs.declared.operator.Outcome.TheVariants as outcome

-- an operator: its word, the version of the plan language from which on the word means it, the least and the greatest
-- number of its ports, its further members in order, and which field types its result has
pub record Row : Type 0 where
  pub word : List ℕ
  pub since : ℕ
  pub least : ℕ
  pub most : ℕ
  pub members : List Member
  pub outcome : Outcome

-- an operator's row, of these parts
abbrev pub row : List ℕ → ℕ → ℕ → ℕ → List Member → Outcome → Row
row word since least most members result = record { word = word; since = since; least = least; most = most; members = members; outcome = result }

-- the row of each operator
abbrev pub operator_row : Operator → Row
operator_row operator.Source = row (codes "source") 1 0 0 (member.File ∷ member.Fields ∷ []) outcome.Declared
operator_row operator.Select = row (codes "select") 1 1 1 (member.Where ∷ []) outcome.First
operator_row operator.Project = row (codes "project") 1 1 1 (member.Keep ∷ []) outcome.Kept
operator_row operator.Union = row (codes "union") 1 2 4 [] outcome.Alike
operator_row operator.Join = row (codes "join") 1 2 2 (member.Where ∷ []) outcome.Joined
operator_row operator.Window = row (codes "window") 1 1 1 (member.Width ∷ []) outcome.First
operator_row operator.Shift = row (codes "shift") 1 1 1 (member.By ∷ []) outcome.First
operator_row operator.Hop = row (codes "hop") 1 1 1 (member.Every ∷ member.Width ∷ []) outcome.First
operator_row operator.Starts = row (codes "starts") 1 1 1 [] outcome.First
operator_row operator.Ends = row (codes "ends") 1 1 1 [] outcome.First
operator_row operator.Group = row (codes "group") 1 1 1 (member.Keys ∷ member.Count ∷ member.Sum ∷ []) outcome.Grouped
operator_row operator.RangedGroup = row (codes "group") 2 1 1 (member.Keys ∷ member.Count ∷ member.Sum ∷ member.Least ∷ member.Greatest ∷ []) outcome.Ranged
operator_row operator.Sequence = row (codes "sequence") 1 2 4 (member.Scope ∷ member.Where ∷ []) outcome.Joined
operator_row operator.Unless = row (codes "unless") 1 2 2 (member.Scope ∷ member.Hold ∷ member.Where ∷ []) outcome.First
operator_row operator.AtLeast = row (codes "atleast") 2 2 4 (member.Number ∷ member.Scope ∷ member.Where ∷ []) outcome.Repeated
operator_row operator.Except = row (codes "except") 2 2 2 (member.Where ∷ []) outcome.First
operator_row operator.Output = row (codes "output") 1 1 1 [] outcome.First

-- all operators, those of a newer version before those of an older one
abbrev pub operators : List Operator
operators = operator.RangedGroup ∷ operator.AtLeast ∷ operator.Except
    ∷ operator.Source ∷ operator.Select ∷ operator.Project ∷ operator.Union ∷ operator.Join ∷ operator.Window ∷ operator.Shift
    ∷ operator.Hop ∷ operator.Starts ∷ operator.Ends ∷ operator.Group ∷ operator.Sequence ∷ operator.Unless ∷ operator.Output ∷ []

-- the operator is known in this version, and has this word
abbrev pub goes_by : ℕ → List ℕ → Operator → Bool
goes_by version word operator = nat_le (operator_row operator).since version && bytes_eq (operator_row operator).word word

-- the operator of a word in this version: the newest one that is known in it
abbrev pub operator_of : ℕ → List ℕ → Option Operator
operator_of version word = find (goes_by version word) operators

-- the name of a member
abbrev pub member_key : Member → List ℕ
member_key member.File = codes "file"
member_key member.Fields = codes "fields"
member_key member.Where = codes "where"
member_key member.Keep = codes "keep"
member_key member.Keys = codes "keys"
member_key member.Count = codes "count"
member_key member.Sum = codes "sum"
member_key member.Least = codes "least"
member_key member.Greatest = codes "greatest"
member_key member.Width = codes "width"
member_key member.By = codes "by"
member_key member.Every = codes "every"
member_key member.Scope = codes "scope"
member_key member.Hold = codes "hold"
member_key member.Number = codes "number"

-- what each member has to be
abbrev pub form_of : Member → Form
form_of member.File = form.Text
form_of member.Fields = form.Types
form_of member.Where = form.Tests
form_of member.Keep = form.Columns
form_of member.Keys = form.Columns
form_of member.Count = form.Truth
form_of member.Sum = form.Sums
form_of member.Least = form.OptionalColumns
form_of member.Greatest = form.OptionalColumns
form_of member.Width = form.Number
form_of member.By = form.Number
form_of member.Every = form.Number
form_of member.Scope = form.Number
form_of member.Hold = form.Number
form_of member.Number = form.InputCount

-- a node may do without a member of this form
abbrev pub is_optional : Form → Bool
is_optional form.Text = false
is_optional form.Types = false
is_optional form.Tests = false
is_optional form.Columns = false
is_optional form.Sums = false
is_optional form.OptionalColumns = true
is_optional form.Truth = false
is_optional form.Number = false
is_optional form.InputCount = false
