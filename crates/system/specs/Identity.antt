-- What block 30 says: who the tag is. Assumes nothing.
use Rattle.std.specs.Prelude.{ℕ, ◌%◌, List, take, drop, slice_index}

-- the number of that block
abbrev pub identity_block : ℕ
identity_block = 30

-- system code, 2 bytes
abbrev pub system_code : List ℕ → List ℕ
system_code x = take 2 (drop 0 x)

-- manufacture identifier, 8 bytes
abbrev pub idm : List ℕ → List ℕ
idm x = take 8 (drop 2 x)

-- PUPI is the last four bytes of IDM
abbrev pub pupi : List ℕ → List ℕ
pupi x = take 4 (drop 6 x)

-- manufacture parameter, 2 bytes
abbrev pub pmm : List ℕ → List ℕ
pmm x = take 2 (drop 10 x)

-- application family identifier
abbrev pub afi : List ℕ → ℕ
afi x = slice_index x 12

-- frame waiting time integer: the low four bits
abbrev pub fwi : List ℕ → ℕ
fwi x = slice_index x 13 % 16
