-- Commands as a reader puts them together. Assumes nothing.
use Rattle.std.specs.Prelude.{◌≡◌, ℕ, zero, suc, ◌+◌, ◌*◌, ◌<◌, ◌≤◌, List, [], ◌∷◌, ◌++◌, length}
use Rattle.std.specs.List.{flat_map}
use Rattle.reply.specs.Frames.{jis_frame}
use Rattle.jis.specs.Commands as taken
use Rattle.jis.specs.Commands.{Asked}

-- a block element is short or long; `low` are the four bits of its first byte that a tag ignores
pub data Element : Type 0 where
  short : (low number : ℕ) → Element
  long : (low number : ℕ) → Element

-- a short element is D0 with bit 7 set and the number; a long one is D0 without it, the number and 00
abbrev pub element_bytes : Element → List ℕ
element_bytes (short low number) = (128 + low) ∷ number ∷ []
element_bytes (long low number) = low ∷ number ∷ 0x00 ∷ []

-- a list is its elements, one behind the other
abbrev pub list_bytes : List Element → List ℕ
list_bytes es = flat_map element_bytes es

-- the block that an element names
abbrev pub number_of : Element → ℕ
number_of (short low number) = number
number_of (long low number) = number

-- an element fits where its four bits are below 16 and its number is at most 26
abbrev pub Fits : Element → Type 0
Fits (short low number) = (low < 16) × (number ≤ 26)
Fits (long low number) = (low < 16) × (number ≤ 26)

-- each element of a list fits
abbrev pub EachFits : List Element → Type 0
EachFits [] = Unit {0}
EachFits (e ∷ es) = Fits e × EachFits es

-- the service of the bytes a and b, k times
abbrev pub services : ℕ → ℕ → ℕ → List ℕ
services zero a b = []
services (suc k) a b = a ∷ b ∷ services k a b

-- a command by its parts: system code, request code and slot; or identifier, k times a service, the elements, and the data
pub data Command : Type 0 where
  req : (a b request slot : ℕ) → Command
  read : (idm : List ℕ) (k a b : ℕ) (es : List Element) → Command
  write : (idm : List ℕ) (k a b : ℕ) (es : List Element) (d : List ℕ) → Command

-- REQ is 00, system code, request code, slot
abbrev pub req_frame : ℕ → ℕ → ℕ → ℕ → List ℕ
req_frame a b request slot = jis_frame (0x00 ∷ a ∷ b ∷ request ∷ slot ∷ [])

-- what READ and WRITE share: identifier, k, k services, m, m elements
abbrev pub lists : List ℕ → ℕ → ℕ → ℕ → List Element → List ℕ
lists idm k a b es = idm ++ (k ∷ (services k a b ++ (length es ∷ list_bytes es)))

-- READ is 06 and the lists
abbrev pub read_frame : List ℕ → ℕ → ℕ → ℕ → List Element → List ℕ
read_frame idm k a b es = jis_frame (0x06 ∷ lists idm k a b es)

-- WRITE is 08, the lists and the data
abbrev pub write_frame : List ℕ → ℕ → ℕ → ℕ → List Element → List ℕ → List ℕ
write_frame idm k a b es d = jis_frame (0x08 ∷ (lists idm k a b es ++ d))

-- the frame of each command
abbrev pub frame_of : Command → List ℕ
frame_of (req a b request slot) = req_frame a b request slot
frame_of (read idm k a b es) = read_frame idm k a b es
frame_of (write idm k a b es d) = write_frame idm k a b es d

-- an identifier of 8 bytes, k services and some elements, each at least one and at most so many
pub record Within (most_services most_blocks : ℕ) (idm : List ℕ) (k : ℕ) (es : List Element) : Type 0 where
  pub eight : length idm ≡ 8
  pub service : 1 ≤ k
  pub services_few : k ≤ most_services
  pub block : 1 ≤ length es
  pub blocks_few : length es ≤ most_blocks
  pub each : EachFits es

-- READ: at most 15 services and 15 blocks. WRITE: at most 11 services and 12 blocks, or 11 with more than 8 services, and 16 bytes for each block
abbrev pub InRange : Command → Type 0
InRange (req a b request slot) = Unit {0}
InRange (read idm k a b es) = Within 15 15 idm k es
InRange (write idm k a b es d) = Within 11 12 idm k es × (8 < k → length es ≤ 11) × (length d ≡ 16 * length es)

-- whether a command is for the tag with the identifier `own`: a REQ is for every tag
abbrev pub For : List ℕ → Command → Type 0
For own (req a b request slot) = Unit {0}
For own (read idm k a b es) = idm ≡ own
For own (write idm k a b es d) = idm ≡ own

-- the parts that a tag is to find
abbrev pub asked : Command → Asked
asked (req a b request slot) = taken.req (a ∷ b ∷ []) request slot
asked (read idm k a b es) = taken.read (services k a b) (length es) (list_bytes es)
asked (write idm k a b es d) = taken.write (services k a b) (length es) (list_bytes es) d
