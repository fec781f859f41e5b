-- The memory: blocks of 16 bytes by their numbers, and its bytes by block and offset. Assumes nothing.
use Rattle.std.specs.Prelude.{◌≡◌, ℕ, zero, suc, ◌/◌, ◌%◌, ◌<◌, List, [], ◌∷◌, length, take, drop, replicate, slice_index, slice_index_or, slice_set}

-- how many blocks a memory has, how many bytes a block, and how many bytes that makes
abbrev pub block_count : ℕ
block_count = 32

abbrev pub block_size : ℕ
block_size = 16

abbrev pub memory_size : ℕ
memory_size = 512

-- a memory is the list of its blocks, and a block the list of its bytes
abbrev pub Memory : Type 0
Memory = List (List ℕ)

abbrev pub block_at : Memory → ℕ → List ℕ
block_at m b = slice_index_or m b []

abbrev pub byte_at : Memory → ℕ → ℕ → ℕ
byte_at m b o = slice_index (block_at m b) o

-- the memory with another block in the place of block b
abbrev pub with_block : Memory → ℕ → List ℕ → Memory
with_block m b d = slice_set m b d

-- the memory with the byte v at the offset o of block b
abbrev pub with_byte : Memory → ℕ → ℕ → ℕ → Memory
with_byte m b o v = with_block m b (slice_set (block_at m b) o v)

-- the lookup: an address counts bytes, its block is a div 16 and its offset a mod 16
abbrev pub block_of : ℕ → ℕ
block_of a = a / 16

abbrev pub offset_of : ℕ → ℕ
offset_of a = a % 16

-- the n bytes from the address a on, across blocks
abbrev pub bytes_from : Memory → ℕ → ℕ → List ℕ
bytes_from m a zero = []
bytes_from m a (suc n) = byte_at m (block_of a) (offset_of a) ∷ bytes_from m (suc a) n

-- the memory with these bytes from the address a on, across blocks
abbrev pub with_bytes : Memory → ℕ → List ℕ → Memory
with_bytes m a [] = m
with_bytes m a (v ∷ vs) = with_bytes (with_byte m (block_of a) (offset_of a) v) (suc a) vs

-- as many blocks as a memory has, each as long as a block is
pub record Shaped (m : Memory) : Type 0 where
  pub count : length m ≡ block_count
  pub each : (b : ℕ) → b < block_count → length (block_at m b) ≡ block_size

-- a memory of zeros
unfoldable pub zeros : Memory
zeros = replicate block_count (replicate block_size 0)

-- the n blocks that an image holds, in the order of its bytes
abbrev pub cut : ℕ → List ℕ → Memory
cut zero xs = []
cut (suc n) xs = take block_size xs ∷ cut n (drop block_size xs)

-- an image's blocks
unfoldable pub blocks_of : List ℕ → Memory
blocks_of xs = cut block_count xs
