-- The register over the bits of a byte, and over a message in two parts.
use Rattle.std.proofs.Common.{◌≡◌, ℕ, zero, suc, ◌-◌, List, [], ◌∷◌, ◌++◌, fold, sym, refl, ap, ◌∙◌}
use Rattle.std.proofs.iter.runs.Lists.{fold-append}
use Rattle.checksum.specs.Checksum.{bit_at, bits_of}

-- The register after the first n bits of the byte x, where bit `place i` is sent at turn i.
abbrev pub after_bits : (ℕ → ℕ → ℕ) → (ℕ → ℕ) → ℕ → ℕ → ℕ → ℕ
after_bits step place r x zero = r
after_bits step place r x (suc n) = step (after_bits step place r x n) (bit_at x (place n))

abbrev pub from_high : ℕ → ℕ
from_high i = 7 - i

abbrev pub from_low : ℕ → ℕ
from_low i = i

-- The register over a message goes on over what follows it.
pub goes_on : (step : ℕ → ℕ → ℕ) (order : ℕ → List ℕ) (r : ℕ) (xs ys : List ℕ)
    → fold step r (bits_of order (xs ++ ys)) ≡ fold step (fold step r (bits_of order xs)) (bits_of order ys)
goes_on step order r [] ys = refl
goes_on step order r (x ∷ xs) ys =
    fold-append step r (order x) (bits_of order (xs ++ ys))
    ∙ goes_on step order (fold step r (order x)) xs ys
    ∙ ap (λ s. fold step s (bits_of order ys)) (sym (fold-append step r (order x) (bits_of order xs)))

-- The register over the bits of a message goes by its bytes.
pub by_byte : (step : ℕ → ℕ → ℕ) (order : ℕ → List ℕ) (r : ℕ) (xs : List ℕ)
    → fold (λ r x. fold step r (order x)) r xs ≡ fold step r (bits_of order xs)
by_byte step order r [] = refl
by_byte step order r (x ∷ xs) = by_byte step order (fold step r (order x)) xs ∙ sym (fold-append step r (order x) (bits_of order xs))
