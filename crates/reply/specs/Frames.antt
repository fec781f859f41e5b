-- Frames as bytes. Assumes nothing.
use Rattle.std.specs.Prelude.{ℕ, ◌+◌, List, ◌∷◌, ◌++◌, length}
use Rattle.checksum.specs.Checksum.{crc_b, jis_checksum}

-- bytes, and behind them their checksum of JIS X 6319-4
unfoldable pub jis_sealed : List ℕ → List ℕ
jis_sealed xs = xs ++ jis_checksum xs

-- a JIS frame is LEN, the payload and two checksum bytes: LEN is the payload's length plus 1, and the checksum runs over LEN and payload
abbrev pub jis_frame : List ℕ → List ℕ
jis_frame payload = jis_sealed ((length payload + 1) ∷ payload)

-- a Type B frame is a body and two checksum bytes: CRC_B over the body
abbrev pub type_b_frame : List ℕ → List ℕ
type_b_frame body = body ++ crc_b body
