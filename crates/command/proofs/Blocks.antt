-- Blocks from one on, of which one passes or none. Assumes nothing.
use Rattle.std.proofs.Common.{◌≡◌, ℕ, zero, suc, ◌+◌, ◌<◌, ◌≤◌, Bool, true, ◌||◌, ◌⊎◌, map, refl, sym, ap, ◌∙◌, ap₂, subst, inl, inr, add-zero, arith}
use Rattle.std.proofs.Math.Bool.{or_assoc, or-false}
use Rattle.std.proofs.lemmas.Bool.{cases_lt, or_left, or_right}
use Rattle.std.specs.List.{list_any, range_with_len}
use Rattle.command.specs.Barred.{one_of}

-- the first block apart from the others
first_apart : (p : ℕ → Bool) (b n : ℕ) → one_of p b (suc n) ≡ (p b || one_of p (b + 1) n)
unfolding one_of
first_apart p b zero = ap p (add-zero b) ∙ sym (or-false (p b))
first_apart p b (suc n) =
    let e : b + suc n ≡ b + 1 + n = omega arith in
    ap₂ (λ x y. x || y) (first_apart p b n) (ap p e) ∙ or_assoc (p b) (one_of p (b + 1) n) (p (b + 1 + n))

-- a test of the blocks in their order
pub one_of_range : (p : ℕ → Bool) (b n : ℕ) → list_any p (map (λ x. x) (range_with_len b n)) ≡ one_of p b n
unfolding one_of
one_of_range p b zero = refl
one_of_range p b (suc n) = ap (λ x. p b || x) (one_of_range p (b + 1) n) ∙ sym (first_apart p b n)

pub found : (p : ℕ → Bool) (b i n : ℕ) → i < n → p (b + i) ≡ true → one_of p b n ≡ true
unfolding one_of
found p b i zero l e = absurd (omega arith)
found p b i (suc n) l e = by (λ y. found p b i n y e) (cases_lt i n)
  where
    by : (i < n → one_of p b n ≡ true) → (i < n) ⊎ (n ≤ i) → (one_of p b n || p (b + n)) ≡ true
    by rec (inl y) = or_left (one_of p b n) (p (b + n)) (rec y)
    by rec (inr y) = let q : i ≡ n = omega arith in or_right (one_of p b n) (p (b + n)) (subst (λ k. p (b + k) ≡ true) q e)
