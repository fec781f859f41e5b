-- What is put together is taken apart to the same parts, and no command reaches past the user blocks. Assumes nothing.
use Rattle.std.specs.Prelude.{◌≡◌, ℕ, ◌+◌, ◌-◌, ◌/◌, ◌%◌, ◌<◌, ◌≤◌, cond, ◌&&◌, List, [], ◌∷◌, ◌++◌, length, take, drop, Some, None, Option, ◌==◌, nat_eq, slice_index}
use Rattle.command.specs.declared.status.Status.{Status}
use Rattle.command.specs.declared.status.Status.TheVariants.{Normal, WrongLength, WrongClass, WrongInstruction, WrongParameters, NotAllowed}
use Rattle.command.specs.Blocks.{user_end}
use Rattle.command.specs.Orders as taken
use Rattle.command.specs.Orders.{Asked, answered, asked_by, status_bytes, Within}

-- a command as a reader puts it together: SELECT with P1, P2, a name and perhaps Le; a read of n bytes, or an update, from the address a on
pub data Command : Type 0 where
  select : (p1 p2 : ℕ) (name : List ℕ) (le : Option ℕ) → Command
  read : (a n : ℕ) → Command
  update : (a : ℕ) (d : List ℕ) → Command

-- Le is one byte or none
abbrev pub le_bytes : Option ℕ → List ℕ
le_bytes None = []
le_bytes (Some le) = le ∷ []

-- class 00, instruction, P1 and P2, which hold an address, high byte first; then Lc and its bytes, or Le
abbrev pub command_bytes : Command → List ℕ
command_bytes (select p1 p2 name le) = 0x00 ∷ 0xa4 ∷ p1 ∷ p2 ∷ length name ∷ (name ++ le_bytes le)
command_bytes (read a n) = 0x00 ∷ 0xb0 ∷ (a / 256) ∷ (a % 256) ∷ n ∷ []
command_bytes (update a d) = 0x00 ∷ 0xd6 ∷ (a / 256) ∷ (a % 256) ∷ length d ∷ d

-- bit 7 of P1 is 0 and a name has 1 to 16 bytes; a range has 1 to 251 bytes and lies in the user blocks
abbrev pub InRange : Command → Type 0
InRange (select p1 p2 name le) = (p1 < 128) × (1 ≤ length name) × (length name ≤ 16)
InRange (read a n) = (1 ≤ n) × (n ≤ 251) × (a + n ≤ user_end)
InRange (update a d) = (1 ≤ length d) × (length d ≤ 251) × (a + length d ≤ user_end)

-- what the tag is to find: of a SELECT nothing but that it is in order
abbrev pub parts : Command → Asked
parts (select p1 p2 name le) = answered Normal
parts (read a n) = taken.read a n
parts (update a d) = taken.update a d

-- a command in range is taken apart to its parts
abbrev pub CommandsReturn : Type 0
CommandsReturn = (c : Command) → InRange c → asked_by (command_bytes c) ≡ parts c

-- the data of an answer stands before the last two bytes
abbrev pub data_of : List ℕ → List ℕ
data_of answer = take (length answer - 2) answer

-- the status that two bytes stand for
abbrev pub status_word : List ℕ → Option Status
status_word sw =
    let is = λ (sw1 sw2 : ℕ). (slice_index sw 0 == sw1) && nat_eq (slice_index sw 1) sw2 in
    cond (is 0x90 0x00) (Some Normal)
    (cond (is 0x67 0x00) (Some WrongLength)
    (cond (is 0x6e 0x00) (Some WrongClass)
    (cond (is 0x6d 0x00) (Some WrongInstruction)
    (cond (is 0x6a 0x86) (Some WrongParameters)
    (cond (is 0x6f 0x00) (Some NotAllowed)
    None)))))

-- the last two bytes of an answer are its status
abbrev pub status_of : List ℕ → Option Status
status_of answer = status_word (drop (length answer - 2) answer)

-- data and a status put together are taken apart to the same data and status
abbrev pub AnswersReturn : Type 0
AnswersReturn = (d : List ℕ) (s : Status) → (data_of (d ++ status_bytes s) ≡ d) × (status_of (d ++ status_bytes s) ≡ Some s)

-- whatever bytes come as a command, the range that they ask for lies in the user blocks
abbrev pub RangesWithin : Type 0
RangesWithin = (c : List ℕ) → Within (asked_by c)
