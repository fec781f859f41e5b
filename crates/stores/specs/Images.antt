-- What loading an image into a store gives. Assumes nothing.
use Rattle.std.specs.Prelude.{◌≡◌, ℕ, List, length, Ok, Err, Result, ◌≢◌}
use Rattle.memory.specs.Memory.{Memory, memory_size, blocks_of}
use Rattle.memory.specs.declared.refusal.Refusal.{Refusal}
use Rattle.memory.specs.declared.refusal.Refusal.TheVariants.{NotImageSized}

-- an image of the memory's size is what the store then holds, and any other is refused
abbrev pub Loaded : {S : Type 0} → (S → Memory) → List ℕ → Result S Refusal → Type 0
Loaded blocks image (Ok s) = (length image ≡ memory_size) × (blocks s ≡ blocks_of image)
Loaded blocks image (Err e) = (length image ≢ memory_size) × (e ≡ NotImageSized)
