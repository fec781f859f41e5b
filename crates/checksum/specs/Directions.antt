-- One step of the register, and the bits of a byte, by what differs between the two checksums.
use Rattle.std.specs.Prelude.{ℕ, List, [], ◌∷◌}
use Rattle.checksum.specs.Checksum.{bit_at, fed}

-- A step by the polynomial, what stays of a register and what leaves it.
abbrev pub step_by : ℕ → (ℕ → ℕ) → (ℕ → ℕ) → ℕ → ℕ → ℕ
step_by added stays leaves r b = fed added (stays r) (leaves r) b

-- Bit `place k` of a byte is sent at turn k.
abbrev pub in_turn : (ℕ → ℕ) → ℕ → List ℕ
in_turn place x =
    bit_at x (place 0)
    ∷ bit_at x (place 1)
    ∷ bit_at x (place 2)
    ∷ bit_at x (place 3)
    ∷ bit_at x (place 4)
    ∷ bit_at x (place 5)
    ∷ bit_at x (place 6)
    ∷ bit_at x (place 7)
    ∷ []
