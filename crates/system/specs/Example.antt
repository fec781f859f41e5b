-- The example tag: a memory of zeros but for blocks 30 and 31. Assumes nothing.
use Rattle.std.specs.Prelude.{ℕ, List, [], ◌∷◌, ◌++◌, replicate}

-- SC 12 FC, IDM 01 to 08, PMM 0B 0C, AFI 35, FWI 04
abbrev pub example_identity : List ℕ
example_identity = 0x12 ∷ 0xfc ∷ 1 ∷ 2 ∷ 3 ∷ 4 ∷ 5 ∷ 6 ∷ 7 ∷ 8 ∷ 0x0b ∷ 0x0c ∷ 0x35 ∷ 4 ∷ 0 ∷ 0 ∷ []

-- RORF 08 00 00 04, SECURITY 18 00 00 00
abbrev pub example_protection : List ℕ
example_protection = 8 ∷ 0 ∷ 0 ∷ 4 ∷ 0 ∷ 0 ∷ 0 ∷ 0 ∷ 0x18 ∷ 0 ∷ 0 ∷ 0 ∷ 0 ∷ 0 ∷ 0 ∷ 0 ∷ []

unfoldable pub example_image : List ℕ
example_image = replicate 480 0 ++ (example_identity ++ example_protection)
