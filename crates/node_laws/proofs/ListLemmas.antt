-- Lists of messages by port.
use Rattle.std.proofs.Common.{◌≡◌, ◌≢◌, ℕ, ◌<◌, List, [], ◌++◌, length, get_or-set_same, get_or-set_other}
use Rattle.cedr_base.specs.declared.change.Message.{Message}
use Rattle.node_laws.specs.Lists.{Lists, list_at, with_more}

-- the list at a place, once messages are added there, is the old one and then these
pub at_more : (ls : Lists) (k : ℕ) (ms : List Message) → k < length ls → list_at (with_more ls k ms) k ≡ list_at ls k ++ ms
at_more ls k ms within = get_or-set_same ls k (list_at ls k ++ ms) [] within

-- the list at any other place is as it was
pub at_more_other : (ls : Lists) (k j : ℕ) (ms : List Message) → j ≢ k → list_at (with_more ls k ms) j ≡ list_at ls j
at_more_other ls k j ms other = get_or-set_other ls k j (list_at ls k ++ ms) [] other
