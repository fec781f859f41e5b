-- Runs of a tag, and the law that they keep. Assumes nothing.
use Rattle.std.specs.Prelude.{◌≡◌, ℕ, ◌+◌, ◌-◌, ◌*◌, ◌%◌, ◌^◌, ◌<◌, ◌≤◌, Bool, true, false, cond, List, [], ◌∷◌, ◌++◌, map, length, take, drop, Some, None, Ok, Err, Option, Result}
use Rattle.std.specs.List.{flat_map}
use Rattle.memory.specs.Memory.{Memory, block_at, byte_at, block_count, block_size, block_of}
use Rattle.memory.specs.declared.refusal.Refusal.{Refusal}
use Rattle.jis.specs.Elements.{numbers}
use Rattle.jis.specs.Commands.{read, write, command_of}
use Rattle.jis_service.specs.Service.{every}
use Rattle.type_b.specs.Frames.{Kind, ack, nak, kind_of}
use Rattle.command.specs.Orders as command
use Rattle.session.specs.Model.{same_number}
use Rattle.tag.specs.declared.state.Tag.{Tag}
use Rattle.tag.specs.History.{Event, field_on, field_off, bench_read, bench_write, bench_writable, jis, type_b, bench_performed, History, heard}
use Rattle.tag.specs.Steps.{Shown, reply_room}
use Rattle.tag.specs.View.{Made, Called}
use Rattle.tag.specs.Account.{expected, Stands, ruling, identifier_in, normal, readable, writable, chained_in, progress, completes, read_accepted, update_accepted, due, performances}

-- the tag t came from a tag made over the store by the calls of the history, and by nothing else
pub data Ran {S : Type 0} (blocks : S → Memory) (store : S) : History → Tag S → Type 0 where
  made : {t : Tag S} → Made blocks store t → Ran blocks store [] t
  call : {h : History} {t u : Tag S} {e : Event} → Ran blocks store h t → Called blocks t e u → Ran blocks store (e ∷ h) u

-- g is the history as it stood at some moment of h
pub data Moment : History → History → Type 0 where
  at_last : {h : History} → Moment h h
  earlier : {h g : History} {e : Event} → Moment h g → Moment (e ∷ h) g

-- what holds of a JIS frame after the history g
pub record FairJis (m : Memory) (g : History) (f before : List ℕ) (r : Result (Option ℕ) Refusal) (after : List ℕ) : Type 0 where
  -- no frame alters a block that frames may not write, by the block 31 that rules: one that it marks read-only or closed, a system
  -- block, and with the field off any block
  pub spares : (b : ℕ) → writable (ruling m g) b ≡ false → block_at (expected m (jis f before r after ∷ g)) b ≡ block_at (expected m g) b
  -- a READ answered 00 00 gives the blocks that stood there, behind LEN, code, identifier, flags and their number
  pub gives : (services list : List ℕ) (n : ℕ) → command_of (identifier_in f) f ≡ Ok (read services n list) → normal (heard r after) ≡ true →
      take (block_size * n) (drop 13 (heard r after)) ≡ flat_map (λ block. block) (map (block_at (expected m g)) (numbers n list))
  -- and none of them was closed
  pub open_only : (services list : List ℕ) (n : ℕ) → command_of (identifier_in f) f ≡ Ok (read services n list) → normal (heard r after) ≡ true →
      every (readable (ruling m g)) (numbers n list) ≡ true
  -- a WRITE answered 00 00 wrote no block that frames may not write
  pub free_only : (services list d : List ℕ) (n : ℕ) → command_of (identifier_in f) f ≡ Ok (write services n list d) → normal (heard r after) ≡ true →
      every (writable (ruling m g)) (numbers n list) ≡ true
  -- with the field off, and in ACTIVE, every JIS frame meets silence
  pub unpowered : ruling m g ≡ None → heard r after ≡ []
  pub in_session : (progress g).active ≡ true → heard r after ≡ []

-- an R-block with the number n
pub data RBlock (n : Bool) : Kind → Type 0 where
  r_ack : RBlock n (ack n)
  r_nak : RBlock n (nak n)

-- what holds of a Type B frame after the history g
pub record FairTypeB (m : Memory) (g : History) (f before : List ℕ) (r : Result (Option ℕ) Refusal) (after : List ℕ) : Type 0 where
  -- no frame alters a block that frames may not write, by the block 31 that rules
  pub spares : (b : ℕ) → writable (ruling m g) b ≡ false → block_at (expected m (type_b f before r after ∷ g)) b ≡ block_at (expected m g) b
  -- an accepted B0 takes no byte from a block that frames may not read
  pub open_only : (a n : ℕ) → completes (progress g) (kind_of f) ≡ Some (command.read a n) → read_accepted n (heard r after) ≡ true →
      (b : ℕ) → block_of a ≤ b → b ≤ block_of (a + n - 1) → readable (ruling m g) b ≡ true
  -- and an accepted D6 puts none into a block that frames may not write
  pub free_only : (a : ℕ) (d : List ℕ) → completes (progress g) (kind_of f) ≡ Some (command.update a d) → update_accepted (heard r after) ≡ true →
      (b : ℕ) → block_of a ≤ b → b ≤ block_of (a + length d - 1) → writable (ruling m g) b ≡ true
  -- an R-block with the tag's number is answered by the block sent before, in ACTIVE, and else by silence
  pub repeats : reply_room ≤ length before → (n : Bool) → RBlock n (kind_of f) → same_number n (progress g).number ≡ true → heard r after ≡ cond (progress g).active (progress g).newest []
  -- with the field off every frame meets silence
  pub unpowered : ruling m g ≡ None → heard r after ≡ []

-- what goes out in answer to the last command, after the history g
pub record Outgoing (m : Memory) (g : History) : Type 0 where
  -- what went out so far is a front of the answer fixed when the command was performed
  pub front : (rest : List ℕ) × ((progress g).given ++ rest ≡ due m g)
  -- and all of it once a piece said that no more follows
  pub whole : chained_in (progress g).newest ≡ false → (progress g).given ≡ due m g

-- what holds of the answer of a call after the history g: a clause for each call
abbrev pub Fair : Memory → History → Event → Type 0
Fair m g field_on = Unit {0}
Fair m g field_off = Unit {0}
-- an accepted read gives the bytes that stood there
Fair m g (bench_read b before (Ok u) after) = after ≡ block_at (expected m g) b
Fair m g (bench_read b before (Err e) after) = after ≡ before
Fair m g (bench_write b bytes r) = Unit {0}
-- the figure goes by the block 31 that rules
Fair m g (bench_writable w) = Shown (ruling m g) w
Fair m g (jis f before r after) = FairJis m g f before r after
Fair m g (type_b f before r after) = FairTypeB m g f before r after
-- the count is the number of commands performed, in 64 bits
Fair m g (bench_performed n) = n ≡ length (performances m g) % 2 ^ 64

-- the law at a tag t after the history h
pub record Kept {S : Type 0} (blocks : S → Memory) (store : S) (h : History) (t : Tag S) : Type 0 where
  -- the memory is the one that the calls alone tell
  pub memory : blocks t.store ≡ expected (blocks store) h
  -- each byte is the one that its last accepted write put there, or its starting byte
  pub each : (b o : ℕ) → b < block_count → o < block_size → Stands (blocks store) h b o (byte_at (blocks t.store) b o)
  -- each call was answered by what stood then
  pub calls : (g : History) (e : Event) → Moment h (e ∷ g) → Fair (blocks store) g e
  -- at each moment, what had gone out of an answer was of the answer fixed when its command was performed
  pub outgoing : (g : History) → Moment h g → Outgoing (blocks store) g
  -- the tag's count is the number of commands performed, in 64 bits
  pub performed : t.performed ≡ length (performances (blocks store) h) % 2 ^ 64
  -- and the memory was the expected one at every earlier moment too
  pub moments : (g : History) → Moment h g → (u : Tag S) × Ran blocks store g u × (blocks u.store ≡ expected (blocks store) g)

-- every run keeps the law
abbrev pub RunsKeep : {S : Type 0} → (S → Memory) → Type 0
RunsKeep {S} blocks = (store : S) (h : History) (t : Tag S) → Ran blocks store h t → Kept blocks store h t
