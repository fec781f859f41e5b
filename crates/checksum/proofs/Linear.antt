-- The register's step is linear over exclusive or, and so is the register over a byte.
use Rattle.std.proofs.Common.{◌≡◌, ℕ, zero, suc, ◌*◌, ◌/◌, ◌%◌, ◌^◌, ◌<◌, true, false, cond, eqb, List, [], ◌∷◌, fold, sym, refl, ap, ◌∙◌, ap₂, add-zero, arith, lit<}
use lib.Bits.{bit_xor, xor_assoc, xor_comm, xor_self, xor_zero_l, xor_zero_r, xor_lt, xor_shr, xor_mod, xor_block}
use Rattle.checksum.specs.Checksum.{bit_at, fed, polynomial, mirrored, step_up, step_down}
use Rattle.checksum.proofs.Bits.{after_bits}

-- A step over registers of 16 bits is linear: the sum of two registers and of two bits gives the sum of the results.
pub record Linear (step : ℕ → ℕ → ℕ) : Type 0 where
  pub within : (r b : ℕ) → r < 2 ^ 16 → step r b < 2 ^ 16
  pub adds : (r s b d : ℕ) → r < 2 ^ 16 → s < 2 ^ 16 → b < 2 → d < 2 → step (bit_xor r s) (bit_xor b d) ≡ bit_xor (step r b) (step s d)

at_bit : (P : ℕ → Type 0) → P 0 → P 1 → (b : ℕ) → b < 2 → P b
at_bit P p₀ p₁ zero h = p₀
at_bit P p₀ p₁ (suc zero) h = p₁
at_bit P p₀ p₁ (suc (suc b)) h = absurd (omega arith)

swap : (a b c d : ℕ) → bit_xor (bit_xor a b) (bit_xor c d) ≡ bit_xor (bit_xor a c) (bit_xor b d)
swap a b c d =
    xor_assoc a b (bit_xor c d)
    ∙ ap (bit_xor a) (sym (xor_assoc b c d) ∙ ap (λ x. bit_xor x d) (xor_comm b c) ∙ xor_assoc c b d)
    ∙ sym (xor_assoc a c (bit_xor b d))

-- What a step adds: p if the bit is set.
abbrev times : ℕ → ℕ → ℕ
times p b = cond (eqb b 0) 0 p

times_xor : (p a b : ℕ) → a < 2 → b < 2 → times p (bit_xor a b) ≡ bit_xor (times p a) (times p b)
times_xor p a b ha hb =
    at_bit (λ a. times p (bit_xor a b) ≡ bit_xor (times p a) (times p b))
    (ap (times p) (xor_zero_l b) ∙ sym (xor_zero_l (times p b)))
    (at_bit (λ b. times p (bit_xor 1 b) ≡ bit_xor p (times p b)) (sym (xor_zero_r p)) (sym (xor_self p)) b hb)
    a ha

fed_times : (p x a b : ℕ) → a < 2 → b < 2 → fed p x a b ≡ bit_xor x (times p (bit_xor a b))
fed_times p x a b ha hb =
    at_bit (λ a. fed p x a b ≡ bit_xor x (times p (bit_xor a b)))
    (at_bit (λ b. fed p x 0 b ≡ bit_xor x (times p (bit_xor 0 b))) (sym (xor_zero_r x)) refl b hb)
    (at_bit (λ b. fed p x 1 b ≡ bit_xor x (times p (bit_xor 1 b))) refl (sym (xor_zero_r x)) b hb)
    a ha

-- A step is linear if what stays and the bit that leaves are.
fed_xor : (p x y a b c d : ℕ) → a < 2 → b < 2 → c < 2 → d < 2 → fed p (bit_xor x y) (bit_xor a c) (bit_xor b d) ≡ bit_xor (fed p x a b) (fed p y c d)
fed_xor p x y a b c d ha hb hc hd =
    fed_times p (bit_xor x y) (bit_xor a c) (bit_xor b d) (xor_lt 1 a c ha hc) (xor_lt 1 b d hb hd)
    ∙ ap (λ z. bit_xor (bit_xor x y) (times p z)) (swap a c b d)
    ∙ ap (bit_xor (bit_xor x y)) (times_xor p (bit_xor a b) (bit_xor c d) (xor_lt 1 a b ha hb) (xor_lt 1 c d hc hd))
    ∙ swap x y (times p (bit_xor a b)) (times p (bit_xor c d))
    ∙ ap₂ bit_xor (sym (fed_times p x a b ha hb)) (sym (fed_times p y c d hc hd))

fed_lt : (p x a b : ℕ) → p < 2 ^ 16 → x < 2 ^ 16 → fed p x a b < 2 ^ 16
fed_lt p x a b hp hx =
    elim (eqb a b) as (λ t. cond t x (bit_xor x p) < 2 ^ 16) [ true ↦ hx | false ↦ xor_lt 16 x p hx hp ]

double_xor : (r s : ℕ) → bit_xor r s * 2 ≡ bit_xor (r * 2) (s * 2)
double_xor r s = sym (simp add-zero at (xor_block 1 r s 0 0 (lit< tt) (lit< tt)))

pub up_linear : Linear step_up
up_linear = record {
  within = λ r b h. fed_lt polynomial ((r * 2) % 2 ^ 16) (r / 2 ^ 15) b (lit< tt) (omega arith);
  adds = λ r s b d hr hs hb hd.
      ap₂ (λ x t. fed polynomial x t (bit_xor b d)) (ap (λ n. n % 2 ^ 16) (double_xor r s) ∙ xor_mod (r * 2) (s * 2) 16) (xor_shr r s 15)
      ∙ fed_xor polynomial ((r * 2) % 2 ^ 16) ((s * 2) % 2 ^ 16) (r / 2 ^ 15) b (s / 2 ^ 15) d (omega arith) hb (omega arith) hd;
}

pub down_linear : Linear step_down
down_linear = record {
  within = λ r b h. fed_lt mirrored (r / 2) (r % 2) b (lit< tt) (omega arith);
  adds = λ r s b d hr hs hb hd.
      ap₂ (λ x t. fed mirrored x t (bit_xor b d)) (xor_shr r s 1) (xor_mod r s 1)
      ∙ fed_xor mirrored (r / 2) (s / 2) (r % 2) b (s % 2) d (omega arith) hb (omega arith) hd;
}

bit_of_xor : (x y k : ℕ) → bit_at (bit_xor x y) k ≡ bit_xor (bit_at x k) (bit_at y k)
bit_of_xor x y k = ap (λ n. n % 2) (xor_shr x y k) ∙ xor_mod (x / 2 ^ k) (y / 2 ^ k) 1

after_bits_lt : (step : ℕ → ℕ → ℕ) (place : ℕ → ℕ) → Linear step → (r x n : ℕ) → r < 2 ^ 16 → after_bits step place r x n < 2 ^ 16
after_bits_lt step place l r x zero h = h
after_bits_lt step place l r x (suc n) h = l.within (after_bits step place r x n) (bit_at x (place n)) (after_bits_lt step place l r x n h)

pub after_bits_xor : (step : ℕ → ℕ → ℕ) (place : ℕ → ℕ) → Linear step → (r s x y n : ℕ) → r < 2 ^ 16 → s < 2 ^ 16
    → after_bits step place (bit_xor r s) (bit_xor x y) n ≡ bit_xor (after_bits step place r x n) (after_bits step place s y n)
after_bits_xor step place l r s x y zero hr hs = refl
after_bits_xor step place l r s x y (suc n) hr hs =
    ap₂ step (after_bits_xor step place l r s x y n hr hs) (bit_of_xor x y (place n))
    ∙ l.adds (after_bits step place r x n) (after_bits step place s y n) (bit_at x (place n)) (bit_at y (place n))
    (after_bits_lt step place l r x n hr) (after_bits_lt step place l s y n hs) (omega arith) (omega arith)

pub folded_lt : (step : ℕ → ℕ → ℕ) → Linear step → (r : ℕ) (bs : List ℕ) → r < 2 ^ 16 → fold step r bs < 2 ^ 16
folded_lt step l r [] h = h
folded_lt step l r (b ∷ bs) h = folded_lt step l (step r b) bs (l.within r b h)
