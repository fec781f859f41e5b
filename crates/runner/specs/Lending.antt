-- A value and a buffer lent to a call together. Assumes nothing.
use Rattle.std.specs.Prelude.{◌≡◌, ℕ, List}
use Rattle.std.specs.Borrow.{MutBor}
use denote.Param.Members.{Once}

-- called at a `&mut` to x and a `&mut` to the bytes, f may give r and leave x' and the other bytes there
pub record Lent {F T R : Type 0} (g : Once F (MutBor T × (MutBor (List ℕ) × Unit {0})) (R × (MutBor T × (MutBor (List ℕ) × Unit {0})))) (f : F) (x : T) (bytes : List ℕ) (r : R) (x' : T) (bytes' : List ℕ) : Type 0 where
  pub shown : MutBor T
  pub buffer : MutBor (List ℕ)
  pub shows : shown.now ≡ x
  pub holds : buffer.now ≡ bytes
  pub left : MutBor T
  pub filled : MutBor (List ℕ)
  pub met : g.post f (shown, (buffer, tt)) (r, (left, (filled, tt)))
  pub leaves : left.now ≡ x'
  pub fills : filled.now ≡ bytes'
