-- How a life is cut into pieces of time whose lengths are powers of two.
use Rattle.std.specs.Prelude.{ℕ, zero, suc, ◌+◌, ◌-◌, ◌/◌, ◌%◌, Bool, true, false, ◌&&◌, nat_eq, nat_le, nat_lt, min, if◌then◌else◌}
use Rattle.cedr_base.specs.declared.time.TheConstants.{FOREVER}
use Rattle.cedr_living.specs.Lives.{Living}

-- a time in units of 2 to the power of a level: the piece of that level which it is in
abbrev pub halved : ℕ → ℕ → ℕ
halved zero t = t
halved (suc level) t = halved level (t / 2)

-- a begin in units of the next level, where a piece is cut off if it is odd
abbrev pub half_up : ℕ → ℕ
half_up n = n / 2 + n % 2

-- one for a piece where it is told to be there, and it is this one
abbrev pub one_if : Bool → ℕ → ℕ → ℕ
one_if there piece at = if there && nat_eq piece at then 1 else 0

-- one for the piece that is cut off where an edge is odd
abbrev pub odd_edge : ℕ → ℕ → ℕ → ℕ
odd_edge edge piece at = one_if (nat_eq (edge % 2) 1) piece at

-- how often a piece of a level is one of those of a life: at each level the first one if the begin is odd, and the last
-- one if the end is odd, and the rest in units of the next level
abbrev pub pieces : ℕ → ℕ → ℕ → ℕ → ℕ
pieces zero begin end at = if nat_lt begin end then odd_edge begin begin at + odd_edge end (end - 1) at else 0
pieces (suc level) begin end at = if nat_lt begin end then pieces level (half_up begin) (end / 2) at else 0

-- the same of a life without end, up to where its begin is 1
abbrev pub steps : ℕ → ℕ → ℕ → ℕ
steps zero begin at = if nat_lt 1 begin then odd_edge begin begin at else 0
steps (suc level) begin at = if nat_lt 1 begin then steps level (half_up begin) at else 0

-- the pieces of a life without end, of which the first time of all is one
abbrev pub open_pieces : ℕ → ℕ → ℕ → ℕ
open_pieces level begin at = steps level begin at + one_if (nat_eq 0 level && nat_eq begin 0) 0 at

-- the level from whose piece 1 on a life without end lives in all pieces
abbrev pub is_rest : ℕ → ℕ → Bool
is_rest zero begin = nat_le begin 1
is_rest (suc level) begin = nat_lt 1 begin && is_rest level (half_up begin)

-- how often a piece is one of those of a life
abbrev pub pieces_of : Living → ℕ → ℕ → ℕ
pieces_of life level at = if nat_lt life.end FOREVER then pieces level life.begin life.end at else open_pieces level life.begin at

-- how often all pieces of a level from 1 on are what is left of a life
abbrev pub rests_of : Living → ℕ → ℕ → ℕ
rests_of life level at = if nat_lt life.end FOREVER then 0 else one_if (is_rest level life.begin) 1 at

-- the piece of a level which a time is in, or 1 for each one from 1 on where rests are asked for
abbrev pub seen_piece : Bool → ℕ → ℕ
seen_piece true piece = min piece 1
seen_piece false piece = piece
