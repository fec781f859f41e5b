-- The register over a message and then its checksum.
use Rattle.std.proofs.Common.{◌≡◌, ℕ, zero, suc, ◌+◌, ◌-◌, ◌*◌, ◌/◌, ◌%◌, ◌^◌, ◌<◌, Bool, true, ◌&&◌, eqb, List, ◌++◌, sym, refl, ap, ◌∙◌, ap₂, arith, lit<}
use lib.Bits.{bit_xor, xor_comm, xor_zero_l, xor_zero_r, xor_shifted}
use Rattle.std.proofs.lemmas.Bool.Decides.{Decides-below_and, Decides-eqb}
use Rattle.checksum.specs.Checksum.{high_first, low_first, bits_of, step_up, step_down, jis_register, crc_b_register, jis_checksum, crc_b}
use Rattle.checksum.proofs.Bits.{after_bits, from_high, from_low, goes_on}
use Rattle.checksum.proofs.Linear.{Linear, up_linear, down_linear, after_bits_xor, folded_lt}

abbrev below : (ℕ → Bool) → ℕ → Bool
below f zero = true
below f (suc n) = f n && below f n

-- Two functions are equal at every byte, if computing both at each byte finds them so.
at_bytes : (f g : ℕ → ℕ) → below (λ k. eqb (f k) (g k)) 256 ≡ true → (k : ℕ) → k < 256 → f k ≡ g k
at_bytes f g t =
    (Decides-below_and (λ k. eqb (f k) (g k)) (λ k. f k ≡ g k) (below (λ k. eqb (f k) (g k))) (λ k. Decides-eqb (f k) (g k)) refl (λ _. refl) 256).0 t

abbrev after_byte : (ℕ → ℕ → ℕ) → (ℕ → ℕ) → ℕ → ℕ → ℕ
after_byte step place r x = after_bits step place r x 8

-- A register is two halves. The near one meets the next byte, and the byte sent for it leaves the same value whatever it was.
-- Meanwhile the far one moves into the near one's place.
record Halves (step : ℕ → ℕ → ℕ) (place near far sent : ℕ → ℕ) (left : ℕ) : Type 0 where
  linear : Linear step
  near_lt : (k : ℕ) → k < 256 → near k < 2 ^ 16
  far_lt : (k : ℕ) → k < 256 → far k < 2 ^ 16
  left_lt : left < 2 ^ 16
  meets : (k : ℕ) → k < 256 → after_byte step place (near k) (sent k) ≡ left
  moves : (k : ℕ) → k < 256 → after_byte step place (far k) 0 ≡ near k

-- The byte sent for the near half leaves that value, and the far half in the near one's place.
first : (step : ℕ → ℕ → ℕ) (place near far sent : ℕ → ℕ) (left : ℕ) → Halves step place near far sent left → (a b : ℕ) → a < 256 → b < 256
    → after_byte step place (bit_xor (near a) (far b)) (sent a) ≡ bit_xor left (near b)
first step place near far sent left h a b ha hb =
    ap (after_byte step place (bit_xor (near a) (far b))) (sym (xor_zero_r (sent a)))
    ∙ after_bits_xor step place h.linear (near a) (far b) (sent a) 0 8 (h.near_lt a ha) (h.far_lt b hb)
    ∙ ap₂ bit_xor (h.meets a ha) (h.moves b hb)

-- So the two bytes sent for a register leave the same value whatever it was.
both : (step : ℕ → ℕ → ℕ) (place near far sent : ℕ → ℕ) (left : ℕ) → Halves step place near far sent left → (a b : ℕ) → a < 256 → b < 256
    → after_byte step place (after_byte step place (bit_xor (near a) (far b)) (sent a)) (sent b) ≡ bit_xor (after_byte step place left 0) left
both step place near far sent left h a b ha hb =
    ap (λ r. after_byte step place r (sent b)) (first step place near far sent left h a b ha hb)
    ∙ ap (after_byte step place (bit_xor left (near b))) (sym (xor_zero_l (sent b)))
    ∙ after_bits_xor step place h.linear left (near b) 0 (sent b) 8 h.left_lt (h.near_lt b hb)
    ∙ ap (bit_xor (after_byte step place left 0)) (h.meets b hb)

jis_halves : Halves step_up from_high (λ k. k * 256) (λ k. k) (λ k. k) 0
jis_halves = record {
  linear = up_linear;
  near_lt = λ k h. omega arith;
  far_lt = λ k h. omega arith;
  left_lt = lit< tt;
  meets = at_bytes (λ k. after_byte step_up from_high (k * 256) k) (λ _. 0) refl;
  moves = at_bytes (λ k. after_byte step_up from_high k 0) (λ k. k * 256) refl;
}

abbrev type_b_left : ℕ
type_b_left = after_byte step_down from_low 0 255

type_b_halves : Halves step_down from_low (λ k. k) (λ k. k * 256) (λ k. 255 - k) type_b_left
type_b_halves = record {
  linear = down_linear;
  near_lt = λ k h. omega arith;
  far_lt = λ k h. omega arith;
  left_lt = lit< tt;
  meets = at_bytes (λ k. after_byte step_down from_low k (255 - k)) (λ _. type_b_left) refl;
  moves = at_bytes (λ k. after_byte step_down from_low (k * 256) 0) (λ k. k) refl;
}

halves : (r : ℕ) → r < 2 ^ 16 → r ≡ bit_xor (r / 256 % 256 * 256) (r % 256)
halves r h =
    let sum : r ≡ r / 256 % 256 * 256 + r % 256 = omega arith in
    sum ∙ sym (xor_shifted (r / 256 % 256) 8 (r % 256) (omega arith))

complement_high : (r : ℕ) → r < 2 ^ 16 → (0xFFFF - r) / 256 % 256 ≡ 255 - r / 256 % 256
complement_high r h = let whole : (0xFFFF - r) / 256 ≡ 255 - r / 256 = omega arith in omega arith

pub jis_residue : (xs : List ℕ) → jis_register (xs ++ jis_checksum xs) ≡ 0
jis_residue xs =
    let r = jis_register xs in
    let high = r / 256 % 256 in
    let low = r % 256 in
    let turn = after_byte step_up from_high in
    let small : r < 2 ^ 16 = folded_lt step_up up_linear 0 (bits_of high_first xs) (lit< tt) in
    goes_on step_up high_first 0 xs (jis_checksum xs)
    ∙ ap (λ s. turn (turn s high) low) (halves r small)
    ∙ both step_up from_high _ _ _ 0 jis_halves high low (omega arith) (omega arith)

pub type_b_residue : (xs : List ℕ) → crc_b_register (xs ++ crc_b xs) ≡ 0xF0B8
type_b_residue xs =
    let r = crc_b_register xs in
    let high = r / 256 % 256 in
    let low = r % 256 in
    let turn = after_byte step_down from_low in
    let small : r < 2 ^ 16 = folded_lt step_down down_linear 0xFFFF (bits_of low_first xs) (lit< tt) in
    let complement_low : (0xFFFF - r) % 256 ≡ 255 - low = omega arith in
    goes_on step_down low_first 0xFFFF xs (crc_b xs)
    ∙ ap₂ (λ x y. turn (turn r x) y) complement_low (complement_high r small)
    ∙ ap (λ s. turn (turn s (255 - low)) (255 - high)) (halves r small ∙ xor_comm (high * 256) low)
    ∙ both step_down from_low _ _ _ type_b_left type_b_halves low high (omega arith) (omega arith)
