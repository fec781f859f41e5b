-- Which blocks a frame may not read or write, by block 31 as the tag copied it. Assumes nothing.
use Rattle.std.specs.Prelude.{ℕ, zero, suc, ◌+◌, ◌-◌, Bool, false, not, ◌||◌, List}
use Rattle.memory.specs.Memory.{block_of}
use Rattle.system.specs.Protection.{may_read, may_write}

-- what a frame would do to a block
pub data Access : Type 0 where
  Read : Access
  Write : Access

-- the block that a frame may not read, or may not write
abbrev pub barred : Access → List ℕ → ℕ → Bool
barred Read x b = not (may_read x b)
barred Write x b = not (may_write x b)

-- one of the n blocks from b on passes a test
unfoldable pub one_of : (ℕ → Bool) → ℕ → ℕ → Bool
one_of p b zero = false
one_of p b (suc n) = one_of p b n || p (b + n)

-- one of the blocks that hold the n bytes from the address a on passes it; n is not 0
abbrev pub touches : (ℕ → Bool) → ℕ → ℕ → Bool
touches p a n = one_of p (block_of a) (block_of (a + n - 1) - block_of a + 1)
