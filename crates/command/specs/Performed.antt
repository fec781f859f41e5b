-- What a command answers and does. Assumes nothing.
use Rattle.std.specs.Prelude.{ℕ, cond, List, ◌++◌, length}
use Rattle.memory.specs.Memory.{Memory, bytes_from, with_bytes}
use Rattle.command.specs.declared.status.Status.TheVariants.{Normal, NotAllowed}
use Rattle.command.specs.Barred.{Read, Write, barred, touches}
use Rattle.command.specs.Orders.{Asked, answered, read, update, status_bytes}

-- what is answered, with block 31 as x and the memory m: 6F 00 where a block is barred; else the data that was read, if any, and 90 00
abbrev pub answer_to : List ℕ → Memory → Asked → List ℕ
answer_to x m (answered s) = status_bytes s
answer_to x m (read a n) = cond (touches (barred Read x) a n) (status_bytes NotAllowed) (bytes_from m a n ++ status_bytes Normal)
answer_to x m (update a d) = cond (touches (barred Write x) a (length d)) (status_bytes NotAllowed) (status_bytes Normal)

-- the memory afterwards: only an update that no block bars changes it
abbrev pub memory_after : List ℕ → Memory → Asked → Memory
memory_after x m (answered s) = m
memory_after x m (read a n) = m
memory_after x m (update a d) = cond (touches (barred Write x) a (length d)) m (with_bytes m a d)
