-- What each call does to a tag and what it answers: the one relation that every public call ensures. Assumes nothing.
use Rattle.std.specs.Prelude.{◌≡◌, ℕ, ◌<◌, ◌≤◌, Bool, true, false, List, [], ◌∷◌, length, Some, None, Ok, Err, Option, Result, ◌≢◌}
use Rattle.memory.specs.Memory.{Memory, block_at, block_count, block_size, with_block}
use Rattle.memory.specs.declared.refusal.Refusal.{Refusal}
use Rattle.memory.specs.declared.refusal.Refusal.TheVariants.{NoSuchBlock, NotBlockSized, NotImageSized, ReplyBufferShort}
use Rattle.system.specs.declared.figure.Writable.{Writable}
use Rattle.system.specs.Identity.{identity_block}
use Rattle.system.specs.Protection.{protection_block, Figure}
use Rattle.reply.specs.Frames.{jis_frame, type_b_frame}
use Rattle.reply.specs.Sent.{over, sent}
use Rattle.jis_service.specs.Service.{reply_payload, memory_after}
use Rattle.type_b.specs.Frames.{kind_of}
use Rattle.command.specs.Orders.{Asked}
use Rattle.type_b_service.specs.Turns.{idle, is_active, turn, completed, effect, counted}
use Rattle.tag.specs.Model.{Copy, Powered, Model}
use Rattle.tag.specs.History.{Event, field_on, field_off, bench_read, bench_write, bench_writable, jis, type_b, bench_performed}

-- a tag as it is made: the field off
abbrev pub fresh : Memory → Model
fresh m = record { memory = m; power = None; performed = 0 }

-- the field comes on: blocks 30 and 31 are copied; on while on changes nothing
abbrev pub copy_of : Memory → Copy
copy_of m = record { identity = block_at m identity_block; protection = block_at m protection_block }

abbrev pub kept : Memory → Option Powered → Option Powered
kept m None = Some (record { copy = copy_of m; phase = idle })
kept m (Some p) = Some p

abbrev pub raised : Model → Model
raised s = record { memory = s.memory; power = kept s.memory s.power; performed = s.performed }

-- the field goes off: copy and Type B state are gone; off while off changes nothing
abbrev pub dropped : Model → Model
dropped s = record { memory = s.memory; power = None; performed = s.performed }

abbrev pub with_memory : Model → Memory → Model
with_memory s m = record { memory = m; power = s.power; performed = s.performed }

-- why the bench is refused, by the block number and the buffer's length: the first that fits
abbrev pub BenchRefused : ℕ → ℕ → Refusal → Type 0
BenchRefused b n NoSuchBlock = block_count ≤ b
BenchRefused b n NotBlockSized = (b < block_count) × (n ≢ block_size)
BenchRefused b n NotImageSized = ⊥
BenchRefused b n ReplyBufferShort = ⊥

-- a refused read leaves the buffer
abbrev pub BenchRead : Model → ℕ → List ℕ → Result (Unit {0}) Refusal → List ℕ → Model → Type 0
BenchRead s b before (Ok u) after t = (b < block_count) × (length before ≡ block_size) × (after ≡ block_at s.memory b) × (t ≡ s)
BenchRead s b before (Err e) after t = BenchRefused b (length before) e × (after ≡ before) × (t ≡ s)

abbrev pub BenchWritten : Model → ℕ → List ℕ → Result (Unit {0}) Refusal → Model → Type 0
BenchWritten s b bytes (Ok u) t = (b < block_count) × (length bytes ≡ block_size) × (t ≡ with_memory s (with_block s.memory b bytes))
BenchWritten s b bytes (Err e) t = BenchRefused b (length bytes) e × (t ≡ s)

-- with the field off no block is writable
abbrev pub Shown : Option (List ℕ) → Writable → Type 0
Shown None w = (w.count ≡ 0) × (w.lowest ≡ None)
Shown (Some protection) w = Figure protection w

abbrev pub protection_of : Option Powered → Option (List ℕ)
protection_of None = None
protection_of (Some p) = Some p.copy.protection

-- JIS frames are served by the copy, in every state but ACTIVE
abbrev pub unless_active : Bool → Copy → Option Copy
unless_active true c = None
unless_active false c = Some c

abbrev pub serving : Option Powered → Option Copy
serving None = None
serving (Some p) = unless_active (is_active p.phase) p.copy

-- a JIS frame: the payload of the reply, and the memory after. A tag that does not serve it is silent and changes nothing.
abbrev pub jis_payload : Option Copy → Memory → List ℕ → List ℕ
jis_payload None m f = []
jis_payload (Some c) m f = reply_payload c.identity c.protection m f

abbrev pub jis_memory : Option Copy → Memory → List ℕ → Memory
jis_memory None m f = m
jis_memory (Some c) m f = memory_after c.identity c.protection m f

-- the reply is the payload's frame, and no reply where there is none
abbrev pub jis_reply : List ℕ → List ℕ
jis_reply [] = []
jis_reply (x ∷ xs) = jis_frame (x ∷ xs)

-- a Type B frame: the body of the reply, and the tag after
abbrev pub type_b_body : Option Powered → Memory → List ℕ → List ℕ
type_b_body None m f = []
type_b_body (Some p) m f = (turn p.copy.identity p.copy.protection m p.phase (kind_of f)).said

abbrev pub type_b_reply : List ℕ → List ℕ
type_b_reply [] = []
type_b_reply (x ∷ xs) = type_b_frame (x ∷ xs)

-- the command that a frame completes
abbrev pub completed_by : Option Powered → List ℕ → Option Asked
completed_by None f = None
completed_by (Some p) f = completed p.phase (kind_of f)

abbrev pub power_after : Option Powered → Memory → List ℕ → Option Powered
power_after None m f = None
power_after (Some p) m f = Some (record { copy = p.copy; phase = (turn p.copy.identity p.copy.protection m p.phase (kind_of f)).phase })

abbrev pub memory_by : Option Powered → Memory → List ℕ → Memory
memory_by None m f = m
memory_by (Some p) m f = effect p.copy.protection m (completed p.phase (kind_of f))

abbrev pub type_b_after : Model → List ℕ → Model
type_b_after s f = record { memory = memory_by s.power s.memory f; power = power_after s.power s.memory f; performed = counted s.performed (completed_by s.power f) }

-- how many bytes a reply buffer must have
abbrev pub reply_room : ℕ
reply_room = 256

-- a reply goes to the front of the buffer, and the bytes past it stay; a frame call is refused for want of room alone
abbrev pub Replied : List ℕ → List ℕ → Result (Option ℕ) Refusal → List ℕ → Type 0
Replied reply before (Ok n) after = (reply_room ≤ length before) × (n ≡ sent reply) × (after ≡ over reply before)
Replied reply before (Err e) after = (length before < reply_room) × (e ≡ ReplyBufferShort) × (after ≡ before)

abbrev pub served : Result (Option ℕ) Refusal → Model → Model → Model
served (Ok n) s t = t
served (Err e) s t = s

abbrev pub Step : Model → Event → Model → Type 0
Step s field_on t = t ≡ raised s
Step s field_off t = t ≡ dropped s
Step s (bench_read b before r after) t = BenchRead s b before r after t
Step s (bench_write b bytes r) t = BenchWritten s b bytes r t
Step s (bench_writable w) t = Shown (protection_of s.power) w × (t ≡ s)
Step s (jis f before r after) t =
    Replied (jis_reply (jis_payload (serving s.power) s.memory f)) before r after × (t ≡ served r s (with_memory s (jis_memory (serving s.power) s.memory f)))
Step s (type_b f before r after) t = Replied (type_b_reply (type_b_body s.power s.memory f)) before r after × (t ≡ served r s (type_b_after s f))
Step s (bench_performed n) t = (n ≡ s.performed) × (t ≡ s)
