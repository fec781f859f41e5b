use Rattle.std.proofs.Common.{◌≡◌, ℕ, List, [], length, replicate, refl, ap, ◌∙◌}
use Rattle.std.proofs.lemmas.List.{get_or-replicate}
use Rattle.memory.specs.Memory.{Shaped, block_count, block_size, zeros}
use Rattle.stores.proofs.flat_store.FlatStoreLoad.zeros.Goals as goal

-- blocks that are alike have a memory's shape, whatever they hold
alike : (block : List ℕ) → length block ≡ block_size → Shaped (replicate block_count block)
alike block e = record { count = refl; each = λ b h. ap length (get_or-replicate block_count b block [] h) ∙ e }

pub invariant_of-result : goal.invariant_of-result
invariant_of-result c = record { sized = alike _ refl }

pub returns : goal.returns
unfolding zeros
returns c = refl
