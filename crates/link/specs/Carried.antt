-- What a Type B frame carries. Assumes nothing.
use Rattle.std.specs.Prelude.{◌≡◌, ℕ, ◌-◌, ◌≤◌, cond, List, length, take, Some, None, Option}
use Rattle.reply.specs.Frames.{type_b_frame}
use Rattle.type_b.specs.Frames.{intact}

-- the body of a frame, if the frame has 3 to 256 bytes and ends with the right checksum
unfoldable pub carried : List ℕ → Option (List ℕ)
carried f = cond (intact f) (Some (take (length f - 2) f)) None

-- a body with its checksum is carried, and nothing else is: so who takes a frame with a right checksum has exactly what was sent
pub record Carries : Type 0 where
  pub there : (b : List ℕ) → 1 ≤ length b → length b ≤ 254 → carried (type_b_frame b) ≡ Some b
  pub back : (f b : List ℕ) → carried f ≡ Some b → f ≡ type_b_frame b
