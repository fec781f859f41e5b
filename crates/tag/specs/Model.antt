-- What a tag is, apart from how it keeps it. Assumes nothing.
use Rattle.std.specs.Prelude.{ℕ, List, Option}
use Rattle.memory.specs.Memory.{Memory}
use Rattle.type_b_service.specs.Turns.{Phase}

-- the copy of blocks 30 and 31 that rules from field on to field off
pub record Copy : Type 0 where
  pub identity : List ℕ
  pub protection : List ℕ

-- what a tag holds while the field is on: the copy and the Type B state
pub record Powered : Type 0 where
  pub copy : Copy
  pub phase : Phase

pub record Model : Type 0 where
  pub memory : Memory
  -- none while the field is off
  pub power : Option Powered
  -- how many commands were performed, in 64 bits
  pub performed : ℕ
