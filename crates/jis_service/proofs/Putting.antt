-- Listed blocks written one by one. Assumes nothing.
use Rattle.std.proofs.Common.{◌≡◌, ℕ, zero, suc, ◌⊎◌, List, [], ◌∷◌, length, take, drop, refl, inl, inr, arith}
use Rattle.std.specs.Simd.{first_chunks}
use Rattle.memory.specs.Memory.{Memory, with_block}
use Rattle.jis_service.specs.Service.{written_in}

-- the blocks written one by one, as far as there are a number and a block
abbrev pub put_each : Memory → List ℕ → List (List ℕ) → Memory
put_each m [] bs = m
put_each m (n ∷ ns) [] = m
put_each m (n ∷ ns) (b ∷ bs) = put_each (with_block m n b) ns bs

pub put_none : (m : Memory) (ns : List ℕ) (bs : List (List ℕ)) → (ns ≡ []) ⊎ (length bs ≡ 0) → put_each m ns bs ≡ m
put_none m [] bs h = refl
put_none m (n ∷ ns) [] h = refl
put_none m (n ∷ ns) (b ∷ bs) h = absurd (elim h [ inl e ↦ cc | inr e ↦ omega arith ])

-- data cut into blocks is written as it is whole
pub put_cut : (m : Memory) (ns d : List ℕ) (k : ℕ) → length ns ≡ k → put_each m ns (first_chunks 16 k d) ≡ written_in m ns d
put_cut m [] d k e = refl
put_cut m (n ∷ ns) d zero e = absurd (omega arith)
put_cut m (n ∷ ns) d (suc k) e = put_cut (with_block m n (take 16 d)) ns (drop 16 d) k (omega arith)
