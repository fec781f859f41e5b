-- The two frame checksums of contactless tags, bit by bit. A byte, a bit and the register of 16 bits are numbers.
use Rattle.std.specs.Prelude.{◌≡◌, ℕ, ◌+◌, ◌-◌, ◌*◌, ◌/◌, ◌%◌, ◌^◌, cond, List, [], ◌∷◌, ◌++◌, fold, ◌==◌, bit_xor}

-- Bit k of a number; bit 0 is the lowest.
abbrev pub bit_at : ℕ → ℕ → ℕ
bit_at x k = x / 2 ^ k % 2

-- JIS X 6319-4 sends the high bit of a byte first.
abbrev pub high_first : ℕ → List ℕ
high_first x = bit_at x 7 ∷ bit_at x 6 ∷ bit_at x 5 ∷ bit_at x 4 ∷ bit_at x 3 ∷ bit_at x 2 ∷ bit_at x 1 ∷ bit_at x 0 ∷ []

-- ISO/IEC 14443 Type B sends the low bit of a byte first.
abbrev pub low_first : ℕ → List ℕ
low_first x = bit_at x 0 ∷ bit_at x 1 ∷ bit_at x 2 ∷ bit_at x 3 ∷ bit_at x 4 ∷ bit_at x 5 ∷ bit_at x 6 ∷ bit_at x 7 ∷ []

-- The bits of a message are the bits of its bytes, joined.
abbrev pub bits_of : (ℕ → List ℕ) → List ℕ → List ℕ
bits_of order [] = []
bits_of order (x ∷ xs) = order x ++ bits_of order xs

-- Both use the polynomial x^16 + x^12 + x^5 + 1. Its x^16 is the bit that leaves the register.
abbrev pub polynomial : ℕ
polynomial = 2 ^ 12 + 2 ^ 5 + 2 ^ 0

-- The same polynomial for a register whose bits stand in the opposite order: x^k is bit 15 - k.
abbrev pub mirrored : ℕ
mirrored = 2 ^ (15 - 12) + 2 ^ (15 - 5) + 2 ^ (15 - 0)

-- One bit comes in as one leaves. Where the two differ, the polynomial is added to what stays.
abbrev pub fed : ℕ → ℕ → ℕ → ℕ → ℕ
fed added stays leaves comes = cond (leaves == comes) stays (bit_xor stays added)

-- The register moves up by one place, and its highest bit leaves.
abbrev pub step_up : ℕ → ℕ → ℕ
step_up r b = fed polynomial ((r * 2) % 2 ^ 16) (r / 2 ^ 15) b

-- The register moves down by one place, and its lowest bit leaves.
abbrev pub step_down : ℕ → ℕ → ℕ
step_down r b = fed mirrored (r / 2) (r % 2) b

-- JIS X 6319-4: the register starts at 0.
abbrev pub jis_register : List ℕ → ℕ
jis_register xs = fold step_up 0 (bits_of high_first xs)

-- Type B: the register starts with every bit set. This is its value before the complement.
abbrev pub crc_b_register : List ℕ → ℕ
crc_b_register xs = fold step_down 0xFFFF (bits_of low_first xs)

-- A register's two bytes, the high one first.
abbrev pub high_byte_first : ℕ → List ℕ
high_byte_first r = r / 256 % 256 ∷ r % 256 ∷ []

-- A register's two bytes, the low one first.
abbrev pub low_byte_first : ℕ → List ℕ
low_byte_first r = r % 256 ∷ r / 256 % 256 ∷ []

-- JIS X 6319-4 sends the register as it is, high byte first.
abbrev pub jis_checksum : List ℕ → List ℕ
jis_checksum xs = high_byte_first (jis_register xs)

-- Type B sends the complement of the register, low byte first.
abbrev pub crc_b : List ℕ → List ℕ
crc_b xs = low_byte_first (0xFFFF - crc_b_register xs)

-- A receiver runs the register over a whole frame, checksum included: whatever the message was, an intact frame leaves the same value.
abbrev pub Residues : Type 0
Residues = ((xs : List ℕ) → jis_register (xs ++ jis_checksum xs) ≡ 0) × ((xs : List ℕ) → crc_b_register (xs ++ crc_b xs) ≡ 0xF0B8)
