-- Which memories have the shape that a store's must have. Assumes nothing.
use Rattle.std.proofs.Common.{◌≡◌, ℕ, ◌<◌, List, [], length, set, replicate, sym, refl, ap, ◌∙◌, inl, inr, length-set, get_or-set_other, get_or-set_same}
use Rattle.std.proofs.lemmas.List.{get_or-replicate, set_past}
use Rattle.std.proofs.lemmas.Bool.{cases_eq, cases_lt}
use Rattle.memory.specs.Memory.{Memory, Shaped, block_at, with_block, with_byte, block_count, block_size, zeros}

-- every block keeps its length where one of that length is replaced
pub sized_set : (m : Memory) (b n : ℕ) (d : List ℕ) (j : ℕ) → length d ≡ n → length (block_at m j) ≡ n → length (block_at (set m b d) j) ≡ n
sized_set m b n d j ld lj = elim (cases_eq j b) [ inl e ↦ here e | inr ne ↦ ap length (get_or-set_other m b j d [] ne) ∙ lj ]
  where
    here : j ≡ b → length (block_at (set m b d) j) ≡ n
    here e = elim (cases_lt b (length m)) [
      | inl l ↦ ap (λ (k : ℕ). length (block_at (set m b d) k)) e ∙ ap length (get_or-set_same m b d [] l) ∙ ld
      | inr l ↦ ap (λ (z : Memory). length (block_at z j)) (set_past m b d l) ∙ lj
    ]

-- and where one byte of a block is replaced
pub sized_byte : (m : Memory) (b o v j : ℕ) → length (block_at (with_byte m b o v) j) ≡ length (block_at m j)
sized_byte m b o v j = elim (cases_eq j b) [ inl e ↦ here e | inr ne ↦ ap length (get_or-set_other m b j (set (block_at m b) o v) [] ne) ]
  where
    here : j ≡ b → length (block_at (with_byte m b o v) j) ≡ length (block_at m j)
    here e = elim (cases_lt b (length m)) [
      | inl l ↦
          ap (λ (k : ℕ). length (block_at (with_byte m b o v) k)) e ∙ ap length (get_or-set_same m b (set (block_at m b) o v) [] l) ∙ length-set (block_at m b) o v
          ∙ ap (λ (k : ℕ). length (block_at m k)) (sym e)
      | inr l ↦ ap (λ (z : Memory). length (block_at z j)) (set_past m b (set (block_at m b) o v) l)
    ]

pub shaped_byte : (m : Memory) (b o v : ℕ) → Shaped m → Shaped (with_byte m b o v)
shaped_byte m b o v s = record { count = length-set m b (set (block_at m b) o v) ∙ s.count; each = λ j l. sized_byte m b o v j ∙ s.each j l }

pub shaped_set : (m : Memory) (b : ℕ) (d : List ℕ) → length d ≡ block_size → Shaped m → Shaped (with_block m b d)
shaped_set m b d e s = record { count = simp length-set s.count; each = λ j l. sized_set m b block_size d j e (s.each j l) }

pub block_zeros : (b : ℕ) → b < block_count → block_at zeros b ≡ replicate block_size 0
unfolding zeros
block_zeros b h = get_or-replicate block_count b (replicate block_size 0) [] h

pub shaped_zeros : Shaped zeros
unfolding zeros
shaped_zeros = record { count = refl; each = λ b h. ap length (get_or-replicate block_count b (replicate block_size 0) [] h) }
