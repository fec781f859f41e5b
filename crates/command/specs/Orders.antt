-- A command taken apart: the rules in the order in which they are checked. Assumes nothing.
use Rattle.std.specs.Prelude.{ℕ, ◌+◌, ◌*◌, ◌%◌, ◌≤◌, Bool, cond, ◌&&◌, ◌||◌, List, [], ◌∷◌, length, drop, ◌==◌, nat_le, nat_lt, slice_index, slice_index_or}
use Rattle.command.specs.Blocks.{user_end}
use Rattle.command.specs.declared.status.Status.{Status}
use Rattle.command.specs.declared.status.Status.TheVariants.{Normal, WrongLength, WrongClass, WrongInstruction, WrongParameters, NotAllowed}

-- the two bytes of a status
abbrev pub status_bytes : Status → List ℕ
status_bytes Normal = 0x90 ∷ 0x00 ∷ []
status_bytes WrongLength = 0x67 ∷ 0x00 ∷ []
status_bytes WrongClass = 0x6e ∷ 0x00 ∷ []
status_bytes WrongInstruction = 0x6d ∷ 0x00 ∷ []
status_bytes WrongParameters = 0x6a ∷ 0x86 ∷ []
status_bytes NotAllowed = 0x6f ∷ 0x00 ∷ []

-- what a command asks: nothing but a status, n bytes from an address on, or these bytes to be written from an address on
pub data Asked : Type 0 where
  answered : Status → Asked
  read : (a n : ℕ) → Asked
  update : (a : ℕ) (d : List ℕ) → Asked

-- the address is P1's low half times 256, plus P2
abbrev pub address : List ℕ → ℕ
address c = slice_index c 2 % 16 * 256 + slice_index c 3

-- P1 bits 7 to 4 are 0, and the n bytes end within the user blocks
abbrev pub in_user : List ℕ → ℕ → Bool
in_user c n = nat_lt (slice_index c 2) 16 && nat_le (address c + n) user_end

-- a number from 1 to the most that is allowed
abbrev pub up_to : ℕ → ℕ → Bool
up_to most n = nat_le 1 n && nat_le n most

-- A4 does nothing. P1 bit 7 is 0; Lc is 1 to 16, and Lc bytes follow it, with or without Le
abbrev pub select_of : List ℕ → Asked
select_of c =
    let lc = slice_index_or c 4 0 in
    cond (nat_lt (slice_index c 2) 128)
    (cond (up_to 16 lc && (length c == 5 + lc || length c == 6 + lc)) (answered Normal) (answered WrongLength))
    (answered WrongParameters)

-- B0 has 5 bytes, the last of them Le
abbrev pub read_of : List ℕ → Asked
read_of c =
    let le = slice_index_or c 4 0 in
    cond (length c == 5 && up_to 251 le) (cond (in_user c le) (read (address c) le) (answered WrongParameters)) (answered WrongLength)

-- D6 has 5 bytes, the last of them Lc, and Lc bytes of data
abbrev pub update_of : List ℕ → Asked
update_of c =
    let lc = slice_index_or c 4 0 in
    cond (length c == 5 + lc && up_to 251 lc) (cond (in_user c lc) (update (address c) (drop 5 c)) (answered WrongParameters)) (answered WrongLength)

-- the second byte is the instruction
abbrev pub instructed : List ℕ → Asked
instructed c =
    cond (slice_index c 1 == 0xa4) (select_of c)
    (cond (slice_index c 1 == 0xb0) (read_of c)
    (cond (slice_index c 1 == 0xd6) (update_of c)
    (answered WrongInstruction)))

-- a command has 4 to 256 bytes, and the first is 00
unfoldable pub asked_by : List ℕ → Asked
asked_by c = cond (nat_le 4 (length c) && nat_le (length c) 256) (cond (slice_index c 0 == 0x00) (instructed c) (answered WrongClass)) (answered WrongLength)

-- what a caller may rely on: a range is not empty, fits an answer, and lies in the user blocks
abbrev pub Within : Asked → Type 0
Within (answered s) = Unit {0}
Within (read a n) = (1 ≤ n) × (n ≤ 251) × (a + n ≤ user_end)
Within (update a d) = (1 ≤ length d) × (length d ≤ 251) × (a + length d ≤ user_end)
