-- Bytes that stand between the parts of a text.
use Rattle.std.specs.Prelude.{ℕ}

-- the byte of a comma, which stands between the fields of a line
abbrev pub comma : ℕ
comma = 44

-- the byte of a line feed, which ends a line
abbrev pub line_feed : ℕ
line_feed = 10
