-- A least block is the one that passes with none below it. Assumes nothing.
use Rattle.std.proofs.Common.{◌≡◌, ℕ, ◌<◌, Bool, true, false, Some, None, Option, inl, inr}
use Rattle.std.proofs.lemmas.Bool.{cases_order, both_ways}
use Rattle.memory.specs.declared.number.BlockNumber.{BlockNumber}
use Rattle.system.specs.Protection.{Least}
use Rattle.worked_cases.specs.Cases.{IsBlock}

pub least_is : (n b : ℕ) (p : ℕ → Bool) (o : Option BlockNumber) → b < n → p b ≡ true → ((k : ℕ) → k < b → p k ≡ false) → Least n p o → IsBlock b o
least_is n b p None h t z l = both_ways (p b) (l b h) t
least_is n b p (Some x) h t z l = elim (cases_order x.index b) [
  | inl e ↦ e
  | inr w ↦ elim w [ inl y ↦ absurd (both_ways (p x.index) (z x.index y) l.1) | inr y ↦ absurd (both_ways (p b) (l.2 b y) t) ]
]
