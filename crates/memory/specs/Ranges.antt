-- What reading and writing a range of bytes gives, or that the range runs past the end. Assumes nothing.
use Rattle.std.specs.Prelude.{◌≡◌, ℕ, ◌+◌, ◌<◌, ◌≤◌, List, length, Ok, Err, Result}
use Rattle.memory.specs.Memory.{Memory, memory_size, bytes_from, with_bytes}
use Rattle.memory.specs.declared.past_end.PastEnd.{PastEnd}

-- a read from the address a on into a buffer
abbrev pub RangeRead : Memory → ℕ → List ℕ → Result (Unit {0}) PastEnd → List ℕ → Type 0
RangeRead m a before (Ok u) after = (a + length before ≤ memory_size) × (after ≡ bytes_from m a (length before))
RangeRead m a before (Err e) after = (memory_size < a + length before) × (after ≡ before)

-- a write of the bytes d from the address a on
abbrev pub RangeWritten : Memory → ℕ → List ℕ → Result (Unit {0}) PastEnd → Memory → Type 0
RangeWritten m a d (Ok u) n = (a + length d ≤ memory_size) × (n ≡ with_bytes m a d)
RangeWritten m a d (Err e) n = (memory_size < a + length d) × (n ≡ m)
