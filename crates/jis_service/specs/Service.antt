-- What a tag with the field on does with a JIS frame: the payload of its reply, and its memory after. Assumes nothing.
use Rattle.std.specs.Prelude.{◌≡◌, ℕ, Bool, true, cond, ◌&&◌, ◌||◌, List, [], ◌∷◌, map, take, drop, Some, None, Ok, Err, Option, Result, ◌==◌, slice_index}
use Rattle.std.specs.Str.{bytes_eq}
use Rattle.memory.specs.Memory.{Memory, block_at, block_size, with_block}
use Rattle.system.specs.Identity.{system_code, idm, pmm}
use Rattle.system.specs.Protection.{may_read, may_write}
use Rattle.jis.specs.declared.fault.Access.{Access}
use Rattle.jis.specs.declared.fault.Fault.{Fault}
use Rattle.jis.specs.declared.fault.Status.{Status}
use Rattle.jis.specs.declared.fault.Status.TheVariants.{Normal, Protected}
use Rattle.jis.specs.Faults.{answer_code, answer_to}
use Rattle.jis.specs.Elements.{numbers}
use Rattle.jis.specs.Answers.{flags_payload, read_payload, req_payload}
use Rattle.jis.specs.Commands.{Asked, req, read, write, command_of}

-- a REQ is for a tag if its system code is FF FF, or AA FF where the tag's begins with AA, or the tag's own
abbrev pub addressed : List ℕ → List ℕ → Bool
addressed code own = bytes_eq code (0xFF ∷ 0xFF ∷ []) || ((bytes_eq code (0xAA ∷ 0xFF ∷ []) && slice_index own 0 == 0xAA) || bytes_eq code own)

-- a test passes for every block of a list
abbrev pub every : (ℕ → Bool) → List ℕ → Bool
every p [] = true
every p (b ∷ bs) = p b && every p bs

-- the memory after a write of each listed block, in order, 16 bytes of data each: a block listed twice keeps the later data
abbrev pub written_in : Memory → List ℕ → List ℕ → Memory
written_in m [] d = m
written_in m (b ∷ bs) d = written_in (with_block m b (take block_size d)) bs (drop block_size d)

-- a fault is answered by flags, or by silence, which is the empty payload
abbrev pub fault_payload : List ℕ → Option (Access × Status) → List ℕ
fault_payload id None = []
fault_payload id (Some a) = flags_payload (answer_code a.0) id a.1

-- a REQ for this tag is answered, and any other meets silence
abbrev pub req_for : List ℕ → List ℕ → ℕ → List ℕ
req_for identity code request = cond (addressed code (system_code identity)) (req_payload (idm identity) (pmm identity) request (system_code identity)) []

-- a READ is answered with the blocks, if the frame may read all of them
abbrev pub read_for : List ℕ → List ℕ → Memory → List ℕ → List ℕ
read_for identity protection m ns = cond (every (may_read protection) ns) (read_payload (idm identity) (map (block_at m) ns)) (flags_payload 0x07 (idm identity) Protected)

-- a WRITE writes, if the frame may write all of the blocks, and else writes nothing
abbrev pub write_for : List ℕ → List ℕ → List ℕ → List ℕ
write_for identity protection ns = cond (every (may_write protection) ns) (flags_payload 0x09 (idm identity) Normal) (flags_payload 0x09 (idm identity) Protected)

abbrev pub written_for : List ℕ → Memory → List ℕ → List ℕ → Memory
written_for protection m ns d = cond (every (may_write protection) ns) (written_in m ns d) m

-- the reply's payload, by what blocks 30 and 31 of the copy say, the memory, and the command or the fault
abbrev pub payload_for : List ℕ → List ℕ → Memory → Result Asked Fault → List ℕ
payload_for identity protection m (Ok (req code request slot)) = req_for identity code request
payload_for identity protection m (Ok (read services n list)) = read_for identity protection m (numbers n list)
payload_for identity protection m (Ok (write services n list d)) = write_for identity protection (numbers n list)
payload_for identity protection m (Err fault) = fault_payload (idm identity) (answer_to fault)

-- the memory after: only a WRITE changes it
abbrev pub memory_for : List ℕ → Memory → Result Asked Fault → Memory
memory_for protection m (Ok (req code request slot)) = m
memory_for protection m (Ok (read services n list)) = m
memory_for protection m (Ok (write services n list d)) = written_for protection m (numbers n list) d
memory_for protection m (Err fault) = m

-- the same by the frame
abbrev pub reply_payload : List ℕ → List ℕ → Memory → List ℕ → List ℕ
reply_payload identity protection m f = payload_for identity protection m (command_of (idm identity) f)

abbrev pub memory_after : List ℕ → List ℕ → Memory → List ℕ → Memory
memory_after identity protection m f = memory_for protection m (command_of (idm identity) f)

-- a frame that meets silence changes nothing
abbrev pub SilenceChangesNothing : Type 0
SilenceChangesNothing = (identity protection : List ℕ) (m : Memory) (f : List ℕ) → reply_payload identity protection m f ≡ [] → memory_after identity protection m f ≡ m
