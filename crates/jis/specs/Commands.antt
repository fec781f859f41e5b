-- A frame taken apart: the rules in the order in which they are checked. Assumes nothing.
use Rattle.std.specs.Prelude.{ℕ, ◌+◌, ◌-◌, ◌*◌, Bool, true, false, cond, ◌&&◌, List, length, take, drop, Ok, Err, Result, ◌==◌, nat_le, nat_lt, slice_index, slice_index_or, slice_range}
use Rattle.std.specs.Borrow.{Bor}
use Rattle.std.specs.Str.{bytes_eq}
use Rattle.checksum.specs.Checksum.{jis_checksum}
use Rattle.jis.specs.declared.command.Command.{Command}
use Rattle.jis.specs.declared.command.Command.TheVariants.{Req, Read, Write}
use Rattle.jis.specs.declared.fault.Access.{Access}
use Rattle.jis.specs.declared.fault.Access.TheVariants as access
use Rattle.jis.specs.declared.fault.Fault.{Fault}
use Rattle.jis.specs.declared.fault.Fault.TheVariants.{Length, Checksum, Code, Shape, ForeignIdentifier, ServiceCount, Truncated, ServicesDiffer, BlockCount, ListEnd, BadElement}
use Rattle.jis.specs.Elements.{width, sound}

-- a command by the bytes of its parts
pub data Asked : Type 0 where
  req : (code : List ℕ) (request slot : ℕ) → Asked
  read : (services : List ℕ) (count : ℕ) (blocks : List ℕ) → Asked
  write : (services : List ℕ) (count : ℕ) (blocks : List ℕ) (d : List ℕ) → Asked

-- where the test fails, that is the fault; else the rules go on
abbrev pub demand : {X : Type 0} → Bool → Fault → Result X Fault → Result X Fault
demand true fault further = further
demand false fault further = Err fault

-- what came out is handed on, and a fault stays
abbrev pub on : {X Y : Type 0} → Result X Fault → (X → Result Y Fault) → Result Y Fault
on (Ok x) f = f x
on (Err e) f = Err e

-- a number from 1 to the most that is allowed
abbrev pub up_to : ℕ → ℕ → Bool
up_to most n = nat_le 1 n && nat_le n most

-- at most 15 services, for a WRITE 11
abbrev pub most_services : Access → ℕ
most_services access.Read = 15
most_services access.Write = 11

-- at most 15 blocks; for a WRITE 12 with up to 8 services, else 11
abbrev pub most_blocks : Access → ℕ → ℕ
most_blocks access.Read k = 15
most_blocks access.Write k = cond (nat_le k 8) 12 11

-- a WRITE brings 16 bytes of data for each block
abbrev pub data_width : Access → ℕ → ℕ
data_width access.Read m = 0
data_width access.Write m = 16 * m

-- services of two bytes each are all the same: from the third byte on they repeat those before
abbrev pub alike : List ℕ → Bool
alike xs = bytes_eq (drop 2 xs) (take (length xs - 2) xs)

-- what a READ or a WRITE asks for: only a WRITE brings data
abbrev pub asked : Access → List ℕ → ℕ → List ℕ → List ℕ → Asked
asked access.Read services m blocks d = read services m blocks
asked access.Write services m blocks d = write services m blocks d

-- list and data end with the payload, and each element is lawful: `body` is what follows the number m of blocks
abbrev pub blocks_of : Access → List ℕ → ℕ → List ℕ → Result Asked Fault
blocks_of a services m body =
    let w = width m body in
    demand (w + data_width a m == length body) ListEnd
    (demand (sound m (take w body)) (BadElement a)
    (Ok (asked a services m (take w body) (drop w body))))

-- a payload p of at least 10 bytes: byte 9 is the number k of services, which follow it, and then comes the number m of blocks
abbrev pub services_of : Access → List ℕ → Result Asked Fault
services_of a p =
    let k = slice_index_or p 9 0 in
    let lists = drop 10 p in
    let services = take (2 * k) lists in
    let m = slice_index_or (drop (2 * k) lists) 0 0 in
    demand (up_to (most_services a) k) (ServiceCount a)
    (demand (nat_lt (2 * k) (length lists)) Truncated
    (demand (alike services) (ServicesDiffer a)
    (demand (up_to (most_blocks a k) m) (BlockCount a)
    (blocks_of a services m (drop 1 (drop (2 * k) lists))))))

-- a READ or a WRITE is 06 or 08, the identifier, and the lists
abbrev pub lists_of : List ℕ → Access → List ℕ → Result Asked Fault
lists_of idm a p =
    demand (nat_le 10 (length p)) Shape
    (demand (bytes_eq (take 8 (drop 1 p)) idm) ForeignIdentifier
    (services_of a p))

-- a REQ is 00, system code, request code and slot
abbrev pub req_of : List ℕ → Result Asked Fault
req_of p = demand (length p == 5) Shape (Ok (req (take 2 (drop 1 p)) (slice_index p 3) (slice_index p 4)))

-- the first byte of the payload is the command's code: 00 REQ, 06 READ, 08 WRITE
abbrev pub by_code : List ℕ → List ℕ → Result Asked Fault
by_code idm p =
    cond (slice_index p 0 == 0x00) (req_of p)
    (cond (slice_index p 0 == 0x06) (lists_of idm access.Read p)
    (cond (slice_index p 0 == 0x08) (lists_of idm access.Write p)
    (Err Code)))

-- a frame is LEN, payload and checksum: LEN is at least 2 and counts itself and the payload, and the checksum runs over both
abbrev pub opened : List ℕ → Result (List ℕ) Fault
opened f =
    let len = slice_index_or f 0 0 in
    demand (nat_le 2 len && length f == len + 2) Length
    (demand (bytes_eq (drop len f) (jis_checksum (take len f))) Checksum
    (Ok (slice_range f 1 len)))

-- the command in a frame, for the tag with the identifier idm, or the first rule that the frame breaks
abbrev pub command_of : List ℕ → List ℕ → Result Asked Fault
command_of idm f = on (opened f) (by_code idm)

-- what the code gives, with each part as its bytes
abbrev pub told : Result Command Fault → Result Asked Fault
told (Ok (Req code request slot)) = Ok (req code request slot)
told (Ok (Read services blocks)) = Ok (read services.now blocks.left blocks.bytes.now)
told (Ok (Write w)) = Ok (write w.services.now w.blocks.left w.blocks.bytes.now w.data.now)
told (Err e) = Err e

-- likewise for a payload
abbrev pub lent : Result (Bor (List ℕ)) Fault → Result (List ℕ) Fault
lent (Ok p) = Ok p.now
lent (Err e) = Err e
