-- A Type B frame taken apart. Assumes nothing.
use Rattle.std.specs.Prelude.{ℕ, ◌-◌, ◌/◌, ◌%◌, Bool, true, false, cond, ◌&&◌, ◌||◌, List, length, take, drop, Some, None, Option, ◌==◌, nat_le, slice_index}
use Rattle.std.specs.Str.{bytes_eq}
use Rattle.checksum.specs.Checksum.{crc_b}
use Rattle.type_b.specs.Sizes.{size_code}
use Rattle.type_b.specs.declared.frame.Frame.{Frame}
use Rattle.type_b.specs.declared.frame.Frame.TheVariants.{Request, Attrib, Halt, Deselect, Information, Ack, Nak}
use Rattle.type_b.specs.declared.size.FrameSize.{FrameSize}

-- a frame by its parts as bytes and numbers; a block number is a bit
pub data Kind : Type 0 where
  request : (afi param : ℕ) → Kind
  attrib : (pupi : List ℕ) (size : FrameSize) → Kind
  halt : (pupi : List ℕ) → Kind
  deselect : Kind
  information : (chained : Bool) (inf : List ℕ) → Kind
  ack : (number : Bool) → Kind
  nak : (number : Bool) → Kind
  unknown : Kind

-- what the code gives, with each part as its bytes
abbrev pub kind : Option Frame → Kind
kind None = unknown
kind (Some (Request afi param)) = request afi param
kind (Some (Attrib pupi size)) = attrib pupi.now size
kind (Some (Halt pupi)) = halt pupi.now
kind (Some Deselect) = deselect
kind (Some (Information chained inf)) = information chained inf.now
kind (Some (Ack number)) = ack number
kind (Some (Nak number)) = nak number

-- In what follows r is what stands between the first byte and the checksum; the lengths are exact.

-- 05: AFI and PARAM
abbrev pub request_body : List ℕ → Kind
request_body r = cond (length r == 2) (request (slice_index r 0) (slice_index r 1)) unknown

-- bits 7 and 6 of Param2 equal its bits 5 and 4, each pair 0 or 1, so that its high half is 0 or 5; Param3 is 01; the low half of Param4 is 0
abbrev pub suits : ℕ → ℕ → ℕ → Bool
suits param2 param3 param4 = (param2 / 16 == 0 || param2 / 16 == 5) && param3 == 0x01 && param4 % 16 == 0

-- no size, no ATTRIB
abbrev pub attrib_of : List ℕ → Option FrameSize → Kind
attrib_of pupi None = unknown
attrib_of pupi (Some size) = attrib pupi size

-- 1D: PUPI of 4 bytes, and Param1 to Param4, of which Param1 is ignored
abbrev pub attrib_body : List ℕ → Kind
attrib_body r =
    cond (length r == 8)
    (cond (suits (slice_index r 5) (slice_index r 6) (slice_index r 7)) (attrib_of (take 4 r) (size_code (slice_index r 5 % 16))) unknown)
    unknown

-- 50: PUPI of 4 bytes
abbrev pub halt_body : List ℕ → Kind
halt_body r = cond (length r == 4) (halt r) unknown

-- a block of its PCB alone: C2 is DESELECT, A2 or A3 is R(ACK), B2 or B3 is R(NAK), and bit 0 of these is the block number
abbrev pub bare_block : ℕ → Kind
bare_block pcb =
    cond (pcb == 0xc2) deselect
    (cond (pcb / 2 == 0x51) (ack (pcb % 2 == 1))
    (cond (pcb / 2 == 0x59) (nak (pcb % 2 == 1))
    unknown))

-- an I-block has PCB 02 or 03, or 12 or 13 when it is chained, and what follows is its INF
abbrev pub block : ℕ → List ℕ → Kind
block pcb r =
    cond (pcb / 2 == 0x01) (information false r)
    (cond (pcb / 2 == 0x09) (information true r)
    (cond (length r == 0) (bare_block pcb) unknown))

-- the first byte tells which
abbrev pub body_kind : ℕ → List ℕ → Kind
body_kind first r =
    cond (first == 0x05) (request_body r)
    (cond (first == 0x1d) (attrib_body r)
    (cond (first == 0x50) (halt_body r)
    (block first r)))

-- a frame has 3 to 256 bytes, and its last two are CRC_B over the rest
abbrev pub intact : List ℕ → Bool
intact f = nat_le 3 (length f) && nat_le (length f) 256 && bytes_eq (drop (length f - 2) f) (crc_b (take (length f - 2) f))

-- any other frame is unknown
unfoldable pub kind_of : List ℕ → Kind
kind_of f = cond (intact f) (body_kind (slice_index f 0) (take (length f - 3) (drop 1 f))) unknown
