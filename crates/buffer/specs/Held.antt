-- What a buffer holds. Assumes nothing.
use Rattle.std.specs.Prelude.{◌≡◌, ℕ, ◌+◌, ◌<◌, ◌≤◌, List, ◌++◌, length, take, Result, Ok, Err}
use Rattle.buffer.specs.declared.buffer.Buffer.{Buffer}
use Rattle.buffer.specs.declared.writing.Full.{Full}

-- the bytes added so far
abbrev pub held : {N : ℕ} → Buffer N → List ℕ
held b = take b.len b.bytes

-- bytes are added where all of them find room, and else nothing changes
abbrev pub Added : ℕ → List ℕ → List ℕ → Result Unit Full → List ℕ → Type 0
Added most old more (Ok _) new = (length old + length more ≤ most) × (new ≡ old ++ more)
Added most old more (Err _) new = (most < length old + length more) × (new ≡ old)
