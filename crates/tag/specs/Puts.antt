-- Bytes put at places of the memory, in order, the later one counting. Assumes nothing.
use Rattle.std.specs.Prelude.{◌≡◌, ℕ, suc, List, [], ◌∷◌, ◌++◌, take, drop}
use Rattle.memory.specs.Memory.{Memory, block_size, block_of, offset_of, with_byte}

-- a byte put at an offset of a block
pub record Put : Type 0 where
  pub block : ℕ
  pub offset : ℕ
  pub value : ℕ

-- bytes put into block b from the offset o on
abbrev pub in_block : ℕ → ℕ → List ℕ → List Put
in_block b o [] = []
in_block b o (v ∷ vs) = record { block = b; offset = o; value = v } ∷ in_block b (suc o) vs

-- bytes put into listed blocks, in order, 16 for each
abbrev pub in_blocks : List ℕ → List ℕ → List Put
in_blocks [] d = []
in_blocks (b ∷ bs) d = in_block b 0 (take block_size d) ++ in_blocks bs (drop block_size d)

-- bytes put from the address a on, each at its block and offset
abbrev pub from_address : ℕ → List ℕ → List Put
from_address a [] = []
from_address a (v ∷ vs) = record { block = block_of a; offset = offset_of a; value = v } ∷ from_address (suc a) vs

-- the memory after them
abbrev pub puts : Memory → List Put → Memory
puts m [] = m
puts m (p ∷ ps) = puts (with_byte m p.block p.offset p.value) ps

-- none of them is at the offset o of block b
abbrev pub Spares : List Put → ℕ → ℕ → Type 0
Spares [] b o = Unit {0}
Spares (p ∷ ps) b o = ((b ≡ p.block) × (o ≡ p.offset) → ⊥) × Spares ps b o

-- the last of them at the offset o of block b puts v
pub data Last : List Put → ℕ → ℕ → ℕ → Type 0 where
  here : {p : Put} {ps : List Put} → Spares ps p.block p.offset → Last (p ∷ ps) p.block p.offset p.value
  later : {p : Put} {ps : List Put} {b o v : ℕ} → Last ps b o v → Last (p ∷ ps) b o v
