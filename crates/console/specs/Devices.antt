-- How a tag is made over whichever store, and what a call does to it. Assumes nothing.
use Rattle.std.specs.Prelude.{◌≡◌, ℕ, cond, List, length, Some, None, Ok, Err, vec_items, Option, Result, ◌==◌}
use Rattle.std.specs.declared.alloc.AllocError.{AllocError}
use Rattle.memory.specs.Memory.{Memory, memory_size, blocks_of, zeros}
use Rattle.memory.specs.declared.refusal.Refusal.{Refusal}
use Rattle.memory.specs.declared.refusal.Refusal.TheVariants.{NotImageSized}
use Rattle.stores.specs.Flat.{flat_blocks}
use Rattle.stores.specs.Log.{log_blocks}
use Rattle.system.specs.Example.{example_image}
use Rattle.tag.specs.Steps.{fresh}
use Rattle.tag.specs.View.{view}
use Rattle.runner.specs.declared.call.Call.{Call}
use Rattle.runner.specs.declared.call.Answer.{Answer}
use Rattle.runner.specs.Told.{Performed}
use Rattle.script.specs.declared.Contents.{Contents}
use Rattle.script.specs.declared.Contents.TheVariants.{Zeros, Example, Image}
use Rattle.script.specs.declared.StoreKind.{StoreKind}
use Rattle.script.specs.declared.StoreKind.TheVariants as store
use Rattle.console.specs.declared.device.Device.{Device}
use Rattle.console.specs.declared.device.Device.TheVariants.{Flat, Log}

-- the memory that a tag starts with: zeros, the example, or an image, if that has the memory's size
abbrev pub image_blocks : List ℕ → Option Memory
image_blocks xs = cond (length xs == memory_size) (Some (blocks_of xs)) None

abbrev pub start_of : Contents → Option Memory
start_of Zeros = Some zeros
start_of Example = Some (blocks_of example_image)
start_of (Image xs) = image_blocks (vec_items xs)

-- a store that holds this memory; where there is none, the refusal for it
abbrev pub Holds : {S : Type 0} → (S → Memory) → Option Memory → Result S Refusal → Type 0
Holds blocks (Some m) (Ok s) = blocks s ≡ m
Holds blocks (Some m) (Err e) = ⊥
Holds blocks None (Ok s) = ⊥
Holds blocks None (Err e) = e ≡ NotImageSized

-- a tag over that kind of store as it is made, the field off
abbrev pub Loaded : StoreKind → Option Memory → Result Device Refusal → Type 0
Loaded store.Flat (Some m) (Ok (Flat t)) = view flat_blocks t ≡ fresh m
Loaded store.Log (Some m) (Ok (Log t)) = view log_blocks t ≡ fresh m
Loaded store.Flat (Some m) (Ok (Log t)) = ⊥
Loaded store.Log (Some m) (Ok (Flat t)) = ⊥
Loaded k (Some m) (Err e) = ⊥
Loaded k None (Ok d) = ⊥
Loaded k None (Err e) = e ≡ NotImageSized

-- the call was performed on the tag, which stays over the same kind of store; for want of memory nothing was done
abbrev pub Obeyed : Device → Call → Result Answer AllocError → Device → Type 0
Obeyed (Flat t) c (Ok a) (Flat u) = Performed flat_blocks t c a u
Obeyed (Flat t) c (Err e) (Flat u) = u ≡ t
Obeyed (Flat t) c r (Log u) = ⊥
Obeyed (Log t) c (Ok a) (Log u) = Performed log_blocks t c a u
Obeyed (Log t) c (Err e) (Log u) = u ≡ t
Obeyed (Log t) c r (Flat u) = ⊥
