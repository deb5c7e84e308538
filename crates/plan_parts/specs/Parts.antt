-- The parts of a plan's sources by the keys of their rows.
use Rattle.std.specs.Prelude.{ℕ, zero, suc, ◌≡◌, ◌+◌, ◌*◌, ◌/◌, ◌%◌, ◌^◌, nat_eq, Bool, true, List, [], ◌∷◌, length, filter, Option, None, Some}
use Rattle.cedr_base.specs.declared.field.Field.{Field}
use Rattle.cedr_base.specs.declared.change.Message.{Message}
use Rattle.cedr_base.specs.declared.change.Message.TheVariants as message
use Rattle.cedr_base.specs.Changes.{changed_row}
use Rattle.cedr_base.specs.FieldCodes.{field_code}
use Rattle.cedr_base.specs.Messages.{IsLegal}
use Rattle.cedr_plan.specs.declared.plan.PlanNode.{PlanNode}
use Rattle.node_laws.specs.Lists.{Lists, list_at}
use Rattle.plan_keys.specs.Keys.{row_key}
use Rattle.plan_parts.specs.declared.share.Share.{Share}

-- ---- which part a key is in

-- a number for the bytes of a code, after others: any other number would do
abbrev pub hash_on : ℕ → List ℕ → ℕ
hash_on hash [] = hash
hash_on hash (b ∷ bs) = hash_on ((((hash + b) % 2 ^ 64) * 11400714819323198485) % 2 ^ 64) bs

-- the part, of so many, that a key is in, by the high half of that number; a row without a key is in the first one
abbrev pub part_of : ℕ → Option Field → ℕ
part_of count None = 0
part_of count (Some field) = (hash_on 0 (field_code field) / 4294967296) % count

-- the key is in this part
abbrev pub is_in_part : ℕ → ℕ → Option Field → Bool
is_in_part count part key = nat_eq (part_of count key) part

-- the keys of a share
abbrev pub keys_of : Share → Option Field → Bool
keys_of share = is_in_part share.count share.part

-- the keys of so many of the parts, from one on
abbrev pub shares_from : ℕ → ℕ → ℕ → List (Option Field → Bool)
shares_from count first zero = []
shares_from count first (suc number) = is_in_part count first ∷ shares_from count (first + 1) number

-- ---- the messages of a part

-- a change goes to the part that has the key of its row, and any other message to each part
abbrev pub goes_to : (Option Field → Bool) → ℕ → Message → Bool
goes_to mine column (message.Change c) = mine (row_key column (changed_row c))
goes_to mine column (message.Mark t) = true
goes_to mine column message.End = true
goes_to mine column message.Broken = true

-- the messages of a list that go to a part, where this is the key column of their rows
abbrev pub list_part : (Option Field → Bool) → ℕ → List Message → List Message
list_part mine column ms = filter (goes_to mine column) ms

-- a list for each node of a plan, and each is legal
pub record AreLists (nodes : List PlanNode) (lists : Lists) : Type 0 where
  pub count : length lists ≡ length nodes
  pub legal : (k : ℕ) → IsLegal (list_at lists k)
