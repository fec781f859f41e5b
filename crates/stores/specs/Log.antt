-- What a log of block writes means. Assumes nothing.
use Rattle.std.specs.Prelude.{◌≡◌, ℕ, zero, suc, ◌<◌, cond, List, [], ◌∷◌, ◌++◌, length, replicate, Some, None, Option, ◌==◌, nat_lt}
use Rattle.std.specs.Option.{option_to_list}
use Rattle.memory.specs.Memory.{Memory, block_at, block_count, block_size, with_block, zeros}
use Rattle.stores.specs.declared.entry.Entry.{Entry}
use Rattle.stores.specs.declared.log.LogStore.{LogStore}

-- how many entries a log has room for
abbrev pub capacity : ℕ
capacity = 64

-- the entries of a log, the oldest first
abbrev pub entries : LogStore → List Entry
entries s = s.log.items

-- the memory after these writes, one after the other
abbrev pub replayed : Memory → List Entry → Memory
replayed m [] = m
replayed m (e ∷ es) = replayed (with_block m e.block.index e.bytes) es

-- a log means zeros, written over by its entries
abbrev pub log_blocks : LogStore → Memory
log_blocks s = replayed zeros (entries s)

abbrev pub or_older : Option Entry → Option Entry → Option Entry
or_older None older = older
or_older (Some e) older = Some e

-- the newest entry of block b, if it has one
abbrev pub newest : List Entry → ℕ → Option Entry
newest [] b = None
newest (e ∷ es) b = or_older (newest es b) (cond (e.block.index == b) (Some e) None)

-- what a block holds whose newest entry is this
abbrev pub held_by : Option Entry → List ℕ
held_by None = replicate block_size 0
held_by (Some e) = e.bytes

-- of each block the newest entry counts, and a block without an entry holds zeros
abbrev pub NewestEntryCounts : Type 0
NewestEntryCounts = (es : List Entry) (b : ℕ) → b < block_count → block_at (replayed zeros es) b ≡ held_by (newest es b)

-- the newest entry of each block below n, in the order of their numbers; a block without an entry gets none
unfoldable pub fold : ℕ → List Entry → List Entry
fold zero es = []
fold (suc n) es = fold n es ++ option_to_list (newest es n)

-- the entries before a write goes on: a full log is folded first
abbrev pub with_room : List Entry → List Entry
with_room es = cond (nat_lt (length es) capacity) es (fold block_count es)

-- a write of the bytes d to block b takes the entries old to new: one entry more, after a fold if the log was full
pub record Logged (old : List Entry) (b : ℕ) (d : List ℕ) (new : List Entry) : Type 0 where
  pub entry : Entry
  pub number : entry.block.index ≡ b
  pub bytes : entry.bytes ≡ d
  pub added : new ≡ with_room old ++ entry ∷ []
