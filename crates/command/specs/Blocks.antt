-- Where the user blocks end. Assumes nothing.
use Rattle.std.specs.Prelude.{ℕ}

-- the last user block, 26, ends before this address
abbrev pub user_end : ℕ
user_end = 432
