-- The bits of a mask: of a sum of bytes, and of the mask of the blocks that neither of two words marks; their count and the lowest of them. Assumes nothing.
use Rattle.std.proofs.Common.{◌≡◌, ℕ, zero, suc, ◌+◌, ◌-◌, ◌*◌, ◌/◌, ◌%◌, ◌^◌, ◌<◌, ◌≤◌, max, min, Bool, true, false, cond, not, ◌&&◌, eqb, ltb, List, get_or, Some, None, Option, is_some, sym, refl, ap, ◌∙◌, ap₂, inl, inr, pow-suc, arith, lit<}
use borrow.Author.Tests.{ltb-true, ltb-false}
use lib.Bits.{bit_and, bit_or}
use lib.Count.{ones, count_trailing_zeros, ones_step}
use Rattle.std.specs.Int.{bit_at, w32}
use Rattle.std.specs.Int.Count.{trailing_of_zero}
use Rattle.std.specs.Option.{IfSome}
use Rattle.std.proofs.Math.Pow.{pow_mono}
use Rattle.std.proofs.lemmas.Bool.{cases_eq, lt-ltb, both_ways}
use Rattle.std.proofs.lemmas.Nat.{shr-shr, and_mask, or_lt}
use Rattle.std.proofs.lemmas.Nat.Bits.{bit_at_lowest, bit_at-suc, bit_at-zero, bit_at_and, bit_at_or, bit_at_not, bit_at_ones, bit_at-lt, bit_at-trailing_zeros}
use Rattle.memory.specs.declared.number.BlockNumber.{BlockNumber}
use Rattle.system.specs.Words.{Word}
use Rattle.system.specs.Protection.{flagged, count_below, Least, rorf, security, may_write}

ones_zero : ones 0 ≡ 0
unfolding ones
ones_zero = refl

-- the set bits of a number below 2 ^ k are counted by the test that each stands for
pub ones_count : (k m : ℕ) (p : ℕ → Bool) → m < 2 ^ k → ((b : ℕ) → b < k → bit_at m b ≡ cond (p b) 1 0) → ones m ≡ count_below k p
unfolding count_below
ones_count zero m p h bits =
    let z : m ≡ 0 = omega arith in
    ap ones z ∙ ones_zero
ones_count (suc k) m p h bits =
    let s : 2 ^ suc k ≡ 2 ^ k * 2 = pow-suc 2 k in
    let z : 0 < suc k = omega arith in
    let e : m % 2 ≡ cond (p 0) 1 0 = sym (bit_at_lowest m) ∙ bits 0 z in
    let r : ones (m / 2) ≡ count_below k (λ b. p (suc b)) = ones_count k (m / 2) (λ b. p (suc b)) (omega arith) (λ b lb. sym (bit_at-suc m b) ∙ bits (suc b) (omega arith)) in
    ones_step m ∙ ap₂ (λ (x y : ℕ). x + y) e r

-- below the lowest set bit there is none, and it is set
low_zeros : (m b : ℕ) → m < 2 ^ 32 → b < count_trailing_zeros 32 m → bit_at m b ≡ 0
low_zeros m b l h = elim (cases_eq m 0) [
  | inl e ↦ ap (λ (x : ℕ). bit_at x b) e ∙ bit_at-zero b
  | inr ne ↦ (bit_at-trailing_zeros w32 m (omega arith) l).2 b h
]

low_one : (m : ℕ) → m < 2 ^ 32 → count_trailing_zeros 32 m < 32 → bit_at m (count_trailing_zeros 32 m) ≡ 1
low_one m l h = elim (cases_eq m 0) [
  | inl e ↦ let all : count_trailing_zeros 32 m ≡ 32 = ap (count_trailing_zeros 32) e ∙ trailing_of_zero 32 in absurd (omega arith)
  | inr ne ↦ (bit_at-trailing_zeros w32 m (omega arith) l).1
]

-- what a bit says of its test
is_set : (b : Bool) → cond {A = ℕ} b 1 0 ≡ 1 → b ≡ true
is_set true e = refl
is_set false e = absurd (omega arith)

is_clear : (b : Bool) → cond {A = ℕ} b 1 0 ≡ 0 → b ≡ false
is_clear true e = absurd (omega arith)
is_clear false e = refl

below : (k m : ℕ) → k ≤ 32 → m < 2 ^ k → m < 2 ^ 32
below k m l s = let p : 2 ^ k ≤ 2 ^ 32 = pow_mono l in omega arith

-- the place of a mask's lowest bit, where it has one below k, is the least number that passes the test that each bit stands for
pub least_bit : (k m : ℕ) (p : ℕ → Bool) (At : BlockNumber → Type 0) (o : Option BlockNumber) → k ≤ 32 → m < 2 ^ k
    → ((b : ℕ) → b < k → bit_at m b ≡ cond (p b) 1 0) → is_some o ≡ ltb (count_trailing_zeros 32 m) k
    → ((x : BlockNumber) → At x → x.index ≡ count_trailing_zeros 32 m) → IfSome o At → Least k p o
least_bit k m p At None l s bits e at h = λ b lb.
    let none : k ≤ count_trailing_zeros 32 m = ltb-false _ _ (sym e) in
    is_clear _ (sym (bits b lb) ∙ low_zeros m b (below k m l s) (omega arith))
least_bit k m p At (Some x) l s bits e at h =
    let i = at x h in
    let low : count_trailing_zeros 32 m < k = ltb-true _ _ (sym e) in
    let t : x.index < k = omega arith in
    let one : bit_at m x.index ≡ 1 = ap (bit_at m) i ∙ low_one m (below k m l s) (omega arith) in
    (t, is_set _ (sym (bits x.index t) ∙ one), λ b lb. is_clear _ (sym (bits b (omega arith)) ∙ low_zeros m b (below k m l s) (omega arith)))

-- the bits of four bytes, lowest first
mod_bit : (n k b : ℕ) → b < k → bit_at (n % 2 ^ k) b ≡ bit_at n b
mod_bit n k b h = ap (λ (x : ℕ). bit_at x b) (sym (and_mask n k)) ∙ omega (arith, bit_at_and n (2 ^ k - 1) b, bit_at_ones k b h, bit_at-lt n b)

byte_bit : (n r j q : ℕ) → q < 8 → n / 2 ^ j % 256 ≡ r → bit_at n (j + q) ≡ bit_at r q
byte_bit n r j q h e = ap (λ (x : ℕ). x % 2) (sym (shr-shr n j q)) ∙ sym (mod_bit (n / 2 ^ j) 8 q h) ∙ ap (λ (x : ℕ). bit_at x q) e

word_bit : (xs : List ℕ) (n j q : ℕ) → Word xs n → j < 4 → q < 8 → bit_at n (8 * j + q) ≡ bit_at (get_or xs j 0) q
word_bit xs n zero q w hj hq = byte_bit n _ 0 q hq (omega (arith, w.sum, w.bytes 0 (lit< tt)))
word_bit xs n (suc zero) q w hj hq = byte_bit n _ 8 q hq (omega (arith, w.sum, w.bytes 0 (lit< tt), w.bytes 1 (lit< tt)))
word_bit xs n (suc (suc zero)) q w hj hq = byte_bit n _ 16 q hq (omega (arith, w.sum, w.bytes 0 (lit< tt), w.bytes 1 (lit< tt), w.bytes 2 (lit< tt)))
word_bit xs n (suc (suc (suc zero))) q w hj hq =
    byte_bit n _ 24 q hq (omega (arith, w.sum, w.bytes 0 (lit< tt), w.bytes 1 (lit< tt), w.bytes 2 (lit< tt), w.bytes 3 (lit< tt)))
word_bit xs n (suc (suc (suc (suc j)))) q w hj hq = absurd (omega arith)

flag_bit : (xs : List ℕ) (n b : ℕ) → Word xs n → b < 32 → bit_at n b ≡ cond (flagged xs b) 1 0
unfolding flagged
flag_bit xs n b w h =
    let e : 8 * (b / 8) + b % 8 ≡ b = omega arith in
    ap (bit_at n) (sym e) ∙ word_bit xs n (b / 8) (b % 8) w (omega arith) (omega arith) ∙ as_test (bit_at (get_or xs (b / 8) 0) (b % 8)) (bit_at-lt (get_or xs (b / 8) 0) (b % 8))
  where
    as_test : (x : ℕ) → x < 2 → x ≡ cond (eqb x 1) 1 0
    as_test zero l = refl
    as_test (suc zero) l = refl
    as_test (suc (suc x)) l = absurd (omega arith)

-- neither of two bits, at a block of the users
neither : (u x y : Bool) → u ≡ true → min (1 - max (cond {A = ℕ} x 1 0) (cond {A = ℕ} y 1 0)) 1 ≡ cond {A = ℕ} (u && (not x && not y)) 1 0
neither false x y e = absurd (both_ways false refl e)
neither true true true e = refl
neither true true false e = refl
neither true false true e = refl
neither true false false e = refl

-- the bits of the mask that the code makes of two words
pub mask_bit : (x : List ℕ) (m n b : ℕ) → Word (rorf x) m → Word (security x) n → m < 2 ^ 32 → n < 2 ^ 32 → b < 27
    → bit_at (bit_and (4294967295 - bit_or m n) 134217727) b ≡ cond {A = ℕ} (may_write x b) 1 0
mask_bit x m n b wm wn lm ln h =
    let b32 : b < 32 = omega arith in
    let either : bit_at (bit_or m n) b ≡ max (cond {A = ℕ} (flagged (rorf x) b) 1 0) (cond {A = ℕ} (flagged (security x) b) 1 0) =
    bit_at_or m n b ∙ ap₂ max (flag_bit (rorf x) m b wm b32) (flag_bit (security x) n b wn b32) in
    let none : bit_at (4294967295 - bit_or m n) b ≡ 1 - max (cond {A = ℕ} (flagged (rorf x) b) 1 0) (cond {A = ℕ} (flagged (security x) b) 1 0) =
    bit_at_not w32 (bit_or m n) b (or_lt 32 m n lm ln) b32 ∙ ap (λ (k : ℕ). 1 - k) either in
    bit_at_and (4294967295 - bit_or m n) 134217727 b ∙ ap₂ min none (bit_at_ones 27 b h) ∙ neither _ _ _ (lt-ltb b 27 h)
