-- The payloads of the replies. Assumes nothing.
use Rattle.std.specs.Prelude.{ℕ, cond, List, [], ◌∷◌, ◌++◌, length, ◌==◌}
use Rattle.std.specs.List.{flat_map}
use Rattle.jis.specs.declared.fault.Status.{Status}
use Rattle.jis.specs.declared.fault.Status.TheVariants.{Normal}
use Rattle.jis.specs.Faults.{flags_of}

-- the answer to a READ or a WRITE is 07 or 09, the identifier and the flags
abbrev pub flags_payload : ℕ → List ℕ → Status → List ℕ
flags_payload code idm status = (code ∷ []) ++ idm ++ flags_of status

-- a READ that went well adds the number of blocks, and the blocks
abbrev pub read_payload : List ℕ → List (List ℕ) → List ℕ
read_payload idm blocks = flags_payload 0x07 idm Normal ++ (length blocks ∷ []) ++ flat_map (λ block. block) blocks

-- request code 01 asks for the system code, 02 for 00 83, any other for nothing
abbrev pub extra_of : ℕ → List ℕ → List ℕ
extra_of request code = cond (request == 0x01) code (cond (request == 0x02) (0x00 ∷ 0x83 ∷ []) [])

-- the answer to a REQ is 01, the identifier, FF FF 00 00 00, the two bytes PMM, FF, and what the request code asks for
abbrev pub req_payload : List ℕ → List ℕ → ℕ → List ℕ → List ℕ
req_payload idm pmm request code = (0x01 ∷ []) ++ idm ++ (0xFF ∷ 0xFF ∷ 0x00 ∷ 0x00 ∷ 0x00 ∷ []) ++ pmm ++ (0xFF ∷ []) ++ extra_of request code
