-- Four bytes as one number, the lowest first. Assumes nothing.
use Rattle.std.specs.Prelude.{◌≡◌, ℕ, ◌+◌, ◌*◌, ◌<◌, List, slice_index}

pub record Word (xs : List ℕ) (n : ℕ) : Type 0 where
  pub sum : n ≡ slice_index xs 0 + slice_index xs 1 * 256 + slice_index xs 2 * 65536 + slice_index xs 3 * 16777216
  pub bytes : (i : ℕ) → i < 4 → slice_index xs i < 256
