-- What is put together is taken apart to the same parts. Assumes nothing.
use Rattle.std.specs.Prelude.{◌≡◌, ℕ, ◌+◌, ◌*◌, ◌≤◌, Bool, true, false, cond, List, [], ◌∷◌, ◌++◌, length}
use Rattle.reply.specs.Frames.{type_b_frame}
use Rattle.type_b.specs.declared.size.FrameSize.{FrameSize}
use Rattle.type_b.specs.declared.size.FrameSize.TheVariants.{Bytes64, Bytes96, Bytes128, Bytes256}
use Rattle.type_b.specs.Frames as taken
use Rattle.type_b.specs.Frames.{Kind, kind_of}

-- a frame as a reader puts it together, with the parts that a tag ignores: Param1, the bit rate, the high half of Param4, and the block number of an I-block
pub data Sent : Type 0 where
  request : (afi param : ℕ) → Sent
  attrib : (pupi : List ℕ) (param1 : ℕ) (fast : Bool) (size : FrameSize) (high : ℕ) → Sent
  halt : (pupi : List ℕ) → Sent
  deselect : Sent
  information : (number chained : Bool) (inf : List ℕ) → Sent
  ack : (number : Bool) → Sent
  nak : (number : Bool) → Sent

-- a block number is bit 0 of the PCB
abbrev pub bit : Bool → ℕ
bit true = 1
bit false = 0

-- the low half of Param2 that stands for a size
abbrev pub code_of : FrameSize → ℕ
code_of Bytes64 = 5
code_of Bytes96 = 6
code_of Bytes128 = 7
code_of Bytes256 = 8

-- the high half of Param2: bits 7 and 6, and bits 5 and 4, are the same bit rate
abbrev pub rate_of : Bool → ℕ
rate_of true = 0x50
rate_of false = 0x00

-- what stands before the checksum
abbrev pub body_of : Sent → List ℕ
body_of (request afi param) = 0x05 ∷ afi ∷ param ∷ []
body_of (attrib pupi param1 fast size high) = 0x1d ∷ (pupi ++ (param1 ∷ (rate_of fast + code_of size) ∷ 0x01 ∷ (16 * high) ∷ []))
body_of (halt pupi) = 0x50 ∷ pupi
body_of deselect = 0xc2 ∷ []
body_of (information number chained inf) = (cond chained 0x12 0x02 + bit number) ∷ inf
body_of (ack number) = (0xa2 + bit number) ∷ []
body_of (nak number) = (0xb2 + bit number) ∷ []

-- PUPI has 4 bytes, and an INF at most as many as a frame of 256 bytes holds
abbrev pub InRange : Sent → Type 0
InRange (request afi param) = Unit {0}
InRange (attrib pupi param1 fast size high) = length pupi ≡ 4
InRange (halt pupi) = length pupi ≡ 4
InRange deselect = Unit {0}
InRange (information number chained inf) = length inf ≤ 253
InRange (ack number) = Unit {0}
InRange (nak number) = Unit {0}

-- the parts that the tag is to find
abbrev pub parts : Sent → Kind
parts (request afi param) = taken.request afi param
parts (attrib pupi param1 fast size high) = taken.attrib pupi size
parts (halt pupi) = taken.halt pupi
parts deselect = taken.deselect
parts (information number chained inf) = taken.information chained inf
parts (ack number) = taken.ack number
parts (nak number) = taken.nak number

-- the body and its checksum
abbrev pub frame_of : Sent → List ℕ
frame_of s = type_b_frame (body_of s)

-- a frame whose parts are in range is taken apart to them
abbrev pub FramesReturn : Type 0
FramesReturn = (s : Sent) → InRange s → kind_of (frame_of s) ≡ parts s

-- two frames that are the same bytes are of one kind, with the same parts
abbrev pub FramesDiffer : Type 0
FramesDiffer = (s t : Sent) → InRange s → InRange t → frame_of s ≡ frame_of t → parts s ≡ parts t
