-- What block 31 says: which blocks frames may read and write. Assumes nothing.
use Rattle.std.specs.Prelude.{◌≡◌, ℕ, zero, suc, ◌+◌, ◌/◌, ◌%◌, ◌^◌, ◌<◌, Bool, true, false, cond, not, ◌&&◌, List, take, drop, Some, None, Option, ◌==◌, nat_lt, slice_index}
use Rattle.memory.specs.declared.number.BlockNumber.{BlockNumber}
use Rattle.system.specs.declared.figure.Writable.{Writable}

-- the number of that block
abbrev pub protection_block : ℕ
protection_block = 31

-- its fields, 4 bytes each: RORF marks read-only blocks, ROSI is not used by frames, SECURITY marks closed ones
abbrev pub rorf : List ℕ → List ℕ
rorf x = take 4 (drop 0 x)

abbrev pub rosi : List ℕ → List ℕ
rosi x = take 4 (drop 4 x)

abbrev pub security : List ℕ → List ℕ
security x = take 4 (drop 8 x)

-- user blocks are 0 to 26, and the blocks above them are the system's
abbrev pub user_blocks : ℕ
user_blocks = 27

abbrev pub is_user : ℕ → Bool
is_user b = nat_lt b user_blocks

-- bit b of byte j of a field belongs to block 8j + b
unfoldable pub flagged : List ℕ → ℕ → Bool
flagged f b = slice_index f (b / 8) / 2 ^ (b % 8) % 2 == 1

-- a block is read-only if its RORF bit is 1; bits for blocks above 26 are ignored
abbrev pub read_only : List ℕ → ℕ → Bool
read_only x b = is_user b && flagged (rorf x) b

-- a block is closed if its SECURITY bit is 1 and its RORF bit 0
abbrev pub closed : List ℕ → ℕ → Bool
closed x b = is_user b && (flagged (security x) b && not (flagged (rorf x) b))

-- a frame may read a user block that is not closed
abbrev pub may_read : List ℕ → ℕ → Bool
may_read x b = is_user b && not (closed x b)

-- a frame may write a user block that has neither bit
abbrev pub may_write : List ℕ → ℕ → Bool
may_write x b = is_user b && (not (flagged (rorf x) b) && not (flagged (security x) b))

-- how many numbers below n pass a test
unfoldable pub count_below : ℕ → (ℕ → Bool) → ℕ
count_below zero p = zero
count_below (suc n) p = cond (p zero) 1 0 + count_below n (λ b. p (suc b))

-- the least block below n that passes, or none where none does
abbrev pub Least : ℕ → (ℕ → Bool) → Option BlockNumber → Type 0
Least n p None = (b : ℕ) → b < n → p b ≡ false
Least n p (Some x) = (x.index < n) × (p x.index ≡ true) × ((b : ℕ) → b < x.index → p b ≡ false)

-- how many user blocks frames may write, and the lowest of them, if there is one, by the block x
pub record Figure (x : List ℕ) (w : Writable) : Type 0 where
  pub count : w.count ≡ count_below user_blocks (may_write x)
  pub lowest : Least user_blocks (may_write x) w.lowest
