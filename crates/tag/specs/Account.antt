-- What a history alone tells, with the memory that the tag was made over: the accepted writes, the memory to expect, and the block 31
-- that rules. Nothing here looks into a tag. Assumes nothing.
use Rattle.std.specs.Prelude.{ℕ, ◌+◌, ◌-◌, ◌/◌, ◌%◌, Bool, true, false, cond, not, ◌&&◌, ◌||◌, List, [], ◌∷◌, ◌++◌, length, take, drop, Some, None, Ok, Err, Option, Result, ◌==◌, slice_index}
use Rattle.std.specs.Str.{bytes_eq}
use Rattle.memory.specs.Memory.{Memory, block_at, byte_at, bytes_from}
use Rattle.system.specs.Protection.{protection_block, may_read, may_write}
use Rattle.jis.specs.declared.fault.Fault.{Fault}
use Rattle.jis.specs.declared.fault.Status.TheVariants.{Normal}
use Rattle.jis.specs.Faults.{flags_of}
use Rattle.jis.specs.Elements.{numbers}
use Rattle.jis.specs.Commands.{Asked, req, read, write, command_of}
use Rattle.type_b.specs.Frames.{Kind, request, attrib, halt, deselect, information, ack, nak, unknown, kind_of}
use Rattle.command.specs.declared.status.Status.TheVariants as status
use Rattle.command.specs.Orders as command
use Rattle.command.specs.Orders.{asked_by, status_bytes}
use Rattle.session.specs.Model.{same_number}
use Rattle.tag.specs.History.{Event, field_on, field_off, bench_read, bench_write, bench_writable, jis, type_b, bench_performed, History, heard}
use Rattle.tag.specs.Puts.{Put, in_block, in_blocks, from_address, puts, Spares, Last}

-- a JIS frame has the identifier that it is for behind LEN and the command's code
abbrev pub identifier_in : List ℕ → List ℕ
identifier_in f = take 8 (drop 2 f)

-- a reply to a READ or a WRITE has its flags behind LEN, code and identifier: 00 00 says that all went well
abbrev pub normal : List ℕ → Bool
normal reply = bytes_eq (take 2 (drop 10 reply)) (flags_of Normal)

-- a WRITE answered 00 00 puts 16 bytes of its data into each block of its list, in order
abbrev pub wrote_listed : Result Asked Fault → List ℕ → List Put
wrote_listed (Ok (req code rate slot)) reply = []
wrote_listed (Ok (read services n list)) reply = []
wrote_listed (Ok (write services n list d)) reply = cond (normal reply) (in_blocks (numbers n list) d) []
wrote_listed (Err fault) reply = []

-- a Type B reply that is a block: its INF stands between PCB and checksum, and bit 4 of the PCB says that more follows
abbrev pub inf_in : List ℕ → List ℕ
inf_in reply = take (length reply - 3) (drop 1 reply)

abbrev pub chained_in : List ℕ → Bool
chained_in reply = slice_index reply 0 / 16 % 2 == 1

-- how far a reader and the tag have come in a session, by the frames that were answered
pub record Progress : Type 0 where
  -- ACTIVE began, by an ATTRIB that was answered, and did not end
  pub active : Bool
  -- the INFs of the I-blocks answered since ACTIVE began or the unchained one before, joined
  pub pieces : List ℕ
  -- the tag's block number
  pub number : Bool
  -- what has gone out of the answer to the last command, repeats not counted
  pub given : List ℕ
  -- the last I-block, or R(ACK) to an I-block, as it was heard
  pub newest : List ℕ

abbrev pub unbegun : Progress
unbegun = record { active = false; pieces = []; number = true; given = []; newest = [] }

abbrev pub ended : Progress → Progress
ended x = record { active = false; pieces = x.pieces; number = x.number; given = x.given; newest = x.newest }

-- a frame of a kind was answered by this reply
abbrev pub answered_by : Progress → Kind → List ℕ → Progress
answered_by x (request asked param) reply = x
answered_by x (attrib pupi size) reply = record { active = true; pieces = []; number = true; given = []; newest = [] }
answered_by x (halt pupi) reply = x
answered_by x deselect reply = ended x
answered_by x (information true inf) reply = record { active = x.active; pieces = x.pieces ++ inf; number = not x.number; given = []; newest = reply }
answered_by x (information false inf) reply = record { active = x.active; pieces = []; number = not x.number; given = inf_in reply; newest = reply }
answered_by x (ack n) reply =
    cond (same_number n x.number) x (record { active = x.active; pieces = x.pieces; number = not x.number; given = x.given ++ inf_in reply; newest = reply })
answered_by x (nak n) reply = x
answered_by x unknown reply = x

-- silence changes nothing
abbrev pub follows : Progress → Kind → List ℕ → Progress
follows x k [] = x
follows x k (b ∷ reply) = answered_by x k (b ∷ reply)

abbrev pub progress : History → Progress
progress [] = unbegun
progress (field_on ∷ h) = progress h
progress (field_off ∷ h) = ended (progress h)
progress (bench_read b before r after ∷ h) = progress h
progress (bench_write b bytes r ∷ h) = progress h
progress (bench_writable w ∷ h) = progress h
progress (jis f before r after ∷ h) = progress h
progress (type_b f before r after ∷ h) = follows (progress h) (kind_of f) (heard r after)
progress (bench_performed n ∷ h) = progress h

-- the command whose last piece a frame is: the pieces before it, and its own INF
abbrev pub completing : Progress → Kind → Option (List ℕ)
completing x (request asked param) = None
completing x (attrib pupi size) = None
completing x (halt pupi) = None
completing x deselect = None
completing x (information true inf) = None
completing x (information false inf) = Some (x.pieces ++ inf)
completing x (ack n) = None
completing x (nak n) = None
completing x unknown = None

-- and what it asks
abbrev pub asked_of : Option (List ℕ) → Option command.Asked
asked_of None = None
asked_of (Some c) = Some (asked_by c)

abbrev pub completes : Progress → Kind → Option command.Asked
completes x k = asked_of (completing x k)

-- a D6 is accepted if it is answered 90 00
abbrev pub update_accepted : List ℕ → Bool
update_accepted reply = bytes_eq (inf_in reply) (status_bytes status.Normal)

-- an accepted D6 puts its bytes from its address on
abbrev pub wrote_range : Option command.Asked → List ℕ → List Put
wrote_range None reply = []
wrote_range (Some (command.answered s)) reply = []
wrote_range (Some (command.read a n)) reply = []
wrote_range (Some (command.update a d)) reply = cond (update_accepted reply) (from_address a d) []

-- the accepted write that a call is, after the history h, as the bytes it puts at their places, in order: a bench write that is not
-- refused puts its 16 bytes into its block, a WRITE that is answered 00 00 its data into its blocks, the last piece of a D6 that is answered 90 00 its bytes
-- from its address on, and any other call puts nothing
abbrev pub writes : History → Event → List Put
writes h field_on = []
writes h field_off = []
writes h (bench_read b before r after) = []
writes h (bench_write b bytes (Ok u)) = in_block b 0 bytes
writes h (bench_write b bytes (Err e)) = []
writes h (bench_writable w) = []
writes h (jis f before r after) = wrote_listed (command_of (identifier_in f) f) (heard r after)
writes h (type_b f before r after) = wrote_range (completes (progress h) (kind_of f)) (heard r after)
writes h (bench_performed n) = []

-- the memory to expect after a history: it starts as the memory the tag was made over, and only accepted writes change it
abbrev pub expected : Memory → History → Memory
expected m [] = m
expected m (e ∷ h) = puts (expected m h) (writes h e)

-- the byte at the offset o of block b is the one that the last accepted write put there, or the starting byte where none did
pub data Stands (m : Memory) : History → ℕ → ℕ → ℕ → Type 0 where
  from_start : {b o : ℕ} → Stands m [] b o (byte_at m b o)
  was_put : {h : History} {e : Event} {b o v : ℕ} → Last (writes h e) b o v → Stands m (e ∷ h) b o v
  stayed : {h : History} {e : Event} {b o v : ℕ} → Spares (writes h e) b o → Stands m h b o v → Stands m (e ∷ h) b o v

-- an on that finds the field off brings it on
abbrev pub came_on : Option (List ℕ) → List ℕ → Option (List ℕ)
came_on None now = Some now
came_on (Some ruling) now = Some ruling

-- the block 31 that rules: as expected when the field last came on, and none while the field is off
abbrev pub ruling : Memory → History → Option (List ℕ)
ruling m [] = None
ruling m (field_on ∷ h) = came_on (ruling m h) (block_at (expected m h) protection_block)
ruling m (field_off ∷ h) = None
ruling m (bench_read b before r after ∷ h) = ruling m h
ruling m (bench_write b bytes r ∷ h) = ruling m h
ruling m (bench_writable w ∷ h) = ruling m h
ruling m (jis f before r after ∷ h) = ruling m h
ruling m (type_b f before r after ∷ h) = ruling m h
ruling m (bench_performed n ∷ h) = ruling m h

-- what a frame may read and write, by the block 31 that rules: nothing while the field is off
abbrev pub readable : Option (List ℕ) → ℕ → Bool
readable None b = false
readable (Some x) b = may_read x b

abbrev pub writable : Option (List ℕ) → ℕ → Bool
writable None b = false
writable (Some x) b = may_write x b

-- a B0 of n bytes is accepted if its first reply is chained, or has n bytes and then 90 00
abbrev pub read_accepted : ℕ → List ℕ → Bool
read_accepted n reply = chained_in reply || (length (inf_in reply) == n + 2 && bytes_eq (drop n (inf_in reply)) (status_bytes status.Normal))

-- the answer fixed when a command's last piece was taken, at the memory w: of an accepted B0 the bytes that stood there, and 90 00; of any
-- other command what the reply says
abbrev pub fixed_answer : Memory → command.Asked → List ℕ → List ℕ
fixed_answer w (command.answered s) reply = inf_in reply
fixed_answer w (command.read a n) reply = cond (read_accepted n reply) (bytes_from w a n ++ status_bytes status.Normal) (inf_in reply)
fixed_answer w (command.update a d) reply = inf_in reply

abbrev pub due_by : Memory → List ℕ → Progress → Kind → List ℕ → List ℕ
due_by w due x (request asked param) reply = due
due_by w due x (attrib pupi size) reply = []
due_by w due x (halt pupi) reply = due
due_by w due x deselect reply = due
due_by w due x (information true inf) reply = []
due_by w due x (information false inf) reply = fixed_answer w (asked_by (x.pieces ++ inf)) reply
due_by w due x (ack n) reply = due
due_by w due x (nak n) reply = due
due_by w due x unknown reply = due

abbrev pub due_after : Memory → List ℕ → Progress → Kind → List ℕ → List ℕ
due_after w due x k [] = due
due_after w due x k (b ∷ reply) = due_by w due x k (b ∷ reply)

-- what is to go out in answer to the last command, as it was fixed when that was performed
abbrev pub due : Memory → History → List ℕ
due m [] = []
due m (field_on ∷ h) = due m h
due m (field_off ∷ h) = due m h
due m (bench_read b before r after ∷ h) = due m h
due m (bench_write b bytes r ∷ h) = due m h
due m (bench_writable w ∷ h) = due m h
due m (jis f before r after ∷ h) = due m h
due m (type_b f before r after ∷ h) = due_after (expected m h) (due m h) (progress h) (kind_of f) (heard r after)
due m (bench_performed n ∷ h) = due m h

-- a command that was performed, and the answer fixed then
pub record Performance : Type 0 where
  pub command : List ℕ
  pub answer : List ℕ

abbrev pub one_more : List Performance → Option (List ℕ) → List ℕ → List ℕ → List Performance
one_more ps None reply answer = ps
one_more ps (Some c) [] answer = ps
one_more ps (Some c) (b ∷ reply) answer = record { command = c; answer = answer } ∷ ps

-- the commands performed, the newest first: those whose last piece was answered
abbrev pub performances : Memory → History → List Performance
performances m [] = []
performances m (field_on ∷ h) = performances m h
performances m (field_off ∷ h) = performances m h
performances m (bench_read b before r after ∷ h) = performances m h
performances m (bench_write b bytes r ∷ h) = performances m h
performances m (bench_writable w ∷ h) = performances m h
performances m (jis f before r after ∷ h) = performances m h
performances m (type_b f before r after ∷ h) = one_more (performances m h) (completing (progress h) (kind_of f)) (heard r after) (due m (type_b f before r after ∷ h))
performances m (bench_performed n ∷ h) = performances m h
