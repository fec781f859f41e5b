-- Traces of a tag from its making on, and the law that they keep; how traces join, and what any trace tells. Assumes nothing.
use Rattle.std.specs.Prelude.{◌≡◌, ℕ, ◌+◌, ◌%◌, ◌^◌, ◌<◌, List, ◌∷◌, ◌++◌, map, length}
use Rattle.memory.specs.Memory.{Memory, Shaped, byte_at, block_count, block_size}
use Rattle.session.specs.Chains.{clip}
use Rattle.tag.specs.declared.state.Tag.{Tag}
use Rattle.tag.specs.Model.{Model}
use Rattle.tag.specs.History.{Event, History}
use Rattle.tag.specs.Steps.{fresh}
use Rattle.tag.specs.View.{view}
use Rattle.tag.specs.Performing.{Performed, Trace}
use Rattle.tag.specs.Account.{expected, Stands, Performance, performances}
use Rattle.tag.specs.Runs.{Ran, Moment, Fair, Outgoing}

-- a command as the tag has it: of more than 256 bytes it only knows that they are too many
abbrev pub as_taken : Performance → Performed
as_taken p = record { command = clip p.command; answer = p.answer }

-- the law at the state s of a tag that was made over the memory m, after the history h, with the commands ps performed
pub record Held (m : Memory) (h : History) (ps : List Performed) (s : Model) : Type 0 where
  -- the memory is the one that the calls alone tell
  pub memory : s.memory ≡ expected m h
  -- each byte is the one that its last accepted write put there, or its starting byte
  pub each : (b o : ℕ) → b < block_count → o < block_size → Stands m h b o (byte_at s.memory b o)
  -- each call was answered by what stood then
  pub calls : (g : History) (e : Event) → Moment h (e ∷ g) → Fair m g e
  -- at each moment, what had gone out of an answer was of the answer fixed when its command was performed
  pub outgoing : (g : History) → Moment h g → Outgoing m g
  -- the tag's count is the number of commands performed, in 64 bits
  pub performed : s.performed ≡ length (performances m h) % 2 ^ 64
  -- the commands performed by what the calls alone tell are those that the tag performed, in order, each with the answer that it fixed then
  pub told : map as_taken (performances m h) ≡ ps
  -- and the memory was the expected one at every earlier moment too
  pub moments : (g : History) → Moment h g → (u : Model) × (qs : List Performed) × Trace (fresh m) g qs u × (u.memory ≡ expected m g)

-- every trace from the making of a tag on keeps the law
abbrev pub TracesKeep : Type 0
TracesKeep = (m : Memory) → Shaped m → (h : History) (ps : List Performed) (s : Model) → Trace (fresh m) h ps s → Held m h ps s

-- a run is a trace of what the tag is, apart from how the code keeps it
abbrev pub RunsAreTraces : {S : Type 0} → (S → Memory) → Type 0
RunsAreTraces {S} blocks =
    (store : S) (h : History) (t : Tag S) → Ran blocks store h t → (ps : List Performed) × Trace (fresh (blocks store)) h ps (view blocks t)

-- a trace from s to t and then one from t to u are a trace from s to u
abbrev pub TracesJoin : Type 0
TracesJoin = (s t u : Model) (g h : History) (ps qs : List Performed) → Trace s g ps t → Trace t h qs u → Trace s (h ++ g) (qs ++ ps) u

-- the tag's count grows by the number of commands performed, in 64 bits
abbrev pub CountsTold : Type 0
CountsTold = (s t : Model) (h : History) (ps : List Performed) → Trace s h ps t → s.performed < 2 ^ 64 → t.performed ≡ (s.performed + length ps) % 2 ^ 64

-- no call changes how many blocks the memory has, nor how long they are
abbrev pub ShapeStays : Type 0
ShapeStays = (s t : Model) (h : History) (ps : List Performed) → Trace s h ps t → Shaped s.memory → Shaped t.memory
