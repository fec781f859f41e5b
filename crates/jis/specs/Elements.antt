-- The block list of a READ or a WRITE: its elements stand one behind the other. A byte past the end counts as 0. Assumes nothing.
use Rattle.std.specs.Prelude.{◌≡◌, ℕ, zero, suc, ◌+◌, ◌-◌, ◌/◌, ◌%◌, ◌≤◌, Bool, true, cond, ◌&&◌, ◌||◌, List, [], ◌∷◌, length, drop, ◌==◌, nat_le, slice_index}

-- an element whose first byte D0 has bit 7 set has 2 bytes, D0 and number; otherwise 3 bytes, D0, number and D2
abbrev pub size : ℕ → ℕ
size d0 = cond (nat_le 128 d0) 2 3

-- bits 6 to 4 of D0 are 0, D2 is 0 where there is one, and the number is at most 26; bits 3 to 0 of D0 are ignored
abbrev pub lawful : ℕ → ℕ → ℕ → Bool
lawful d0 number d2 = d0 / 16 % 8 == 0 && (nat_le 128 d0 || d2 == 0) && nat_le number 26

-- what follows the first element
abbrev pub rest : List ℕ → List ℕ
rest xs = drop (size (slice_index xs 0)) xs

-- how many bytes the first m elements have
abbrev pub width : ℕ → List ℕ → ℕ
width zero xs = 0
width (suc m) xs = size (slice_index xs 0) + width m (rest xs)

-- each of the first m elements is lawful
abbrev pub sound : ℕ → List ℕ → Bool
sound zero xs = true
sound (suc m) xs = lawful (slice_index xs 0) (slice_index xs 1) (slice_index xs 2) && sound m (rest xs)

-- the block numbers of the first m elements, in order
abbrev pub numbers : ℕ → List ℕ → List ℕ
numbers zero xs = []
numbers (suc m) xs = slice_index xs 1 ∷ numbers m (rest xs)

-- the first of m elements taken off: its number, and a list of one fewer
pub record TakenOff (m : ℕ) (xs : List ℕ) (number : ℕ) (ys : List ℕ) : Type 0 where
  pub small : number ≤ 26
  pub whole : width (m - 1) ys ≡ length ys
  pub each : sound (m - 1) ys ≡ true
  pub named : numbers m xs ≡ number ∷ numbers (m - 1) ys
