-- The steps of the loops that read numbers and bytes. Assumes nothing.
use Rattle.std.proofs.Common.{◌≡◌, ℕ, ◌+◌, ◌-◌, ◌*◌, ◌<◌, ◌≤◌, min, Bool, true, false, cond, ◌&&◌, List, [], ◌∷◌, ◌++◌, length, get_or, take, drop, drop-drop, zero, suc, Ok, Err, Result, sym, refl, ap, ◌∙◌, append_assoc, arith}
use Rattle.std.proofs.lemmas.List.{at_drop_more}
use Rattle.std.specs.Simd.{first_chunks}
use Rattle.std.specs.Char.{is_ascii_digit}
use Rattle.std.specs.Str.{all_ascii_digits}
use Rattle.script.specs.declared.fault.Fault.{Fault}
use Rattle.script.specs.declared.fault.Fault.TheVariants.{NotANumber}
use Rattle.script.specs.Words.{Word, number_after, hex_byte, hex_word, hex_bytes, and_then, onto}

-- the capped number that the digits of w write after those of n
abbrev pub number_from : ℕ → ℕ → Word → Result ℕ Fault
number_from cap n w = cond (all_ascii_digits w) (Ok (min cap (number_after n w))) (Err NotANumber)

-- a number may be capped before its last digits are read
capped : (cap m : ℕ) (w : Word) → min cap (number_after (min cap m) w) ≡ min cap (number_after m w)
capped cap m [] = omega arith
capped cap m (c ∷ w) =
    let step : min cap (10 * min cap m + (c - 48)) ≡ min cap (10 * m + (c - 48)) = omega arith in
    sym (capped cap (10 * min cap m + (c - 48)) w) ∙ ap (λ n. min cap (number_after n w)) step ∙ capped cap (10 * m + (c - 48)) w

module _ (cap n : ℕ) (w : Word) (i : ℕ) (within : i < length w) where
  from_here : (b : Bool) → is_ascii_digit (get_or w i 0) ≡ b → number_from cap n (drop i w) ≡ cond (b && all_ascii_digits (drop (i + 1) w)) (Ok (min cap (number_after (10 * n + (get_or w i 0 - 48)) (drop (i + 1) w)))) (Err NotANumber)
  from_here b e =
      at_drop_more (number_from cap n) w i 0 within
      ∙ ap (λ b. cond (b && all_ascii_digits (drop (i + 1) w)) (Ok (min cap (number_after (10 * n + (get_or w i 0 - 48)) (drop (i + 1) w)))) (Err NotANumber)) e

  pub number_more : is_ascii_digit (get_or w i 0) ≡ true → number_from cap (min cap (10 * n + (get_or w i 0 - 48))) (drop (i + 1) w) ≡ number_from cap n (drop i w)
  number_more e =
      ap (λ k. cond (all_ascii_digits (drop (i + 1) w)) (Ok k) (Err NotANumber)) (capped cap (10 * n + (get_or w i 0 - 48)) (drop (i + 1) w))
      ∙ sym (from_here true e)

  pub number_stops : is_ascii_digit (get_or w i 0) ≡ false → number_from cap n (drop i w) ≡ Err NotANumber
  number_stops e = from_here false e

hex_pair : (w : Word) → 2 ≤ length w → hex_word w ≡ and_then (hex_byte (get_or w 0 0) (get_or w 1 0)) (λ x. and_then (hex_word (drop 2 w)) (λ xs. Ok (x ∷ xs)))
hex_pair [] h = absurd (omega arith)
hex_pair (a ∷ []) h = absurd (omega arith)
hex_pair (a ∷ b ∷ w) h = refl

onto_push : (front : List ℕ) (x : ℕ) (r : Result (List ℕ) Fault) → onto (front ++ x ∷ []) r ≡ onto front (and_then r (λ xs. Ok (x ∷ xs)))
onto_push front x (Ok xs) = ap (λ ys. Ok ys) (append_assoc front (x ∷ []) xs)
onto_push front x (Err e) = refl

-- one more byte of a word
pub hex_more : (front w : List ℕ) (x : ℕ) → 2 ≤ length w → Ok x ≡ hex_byte (get_or w 0 0) (get_or w 1 0) → onto (front ++ x ∷ []) (hex_word (drop 2 w)) ≡ onto front (hex_word w)
hex_more front w x h e =
    onto_push front x (hex_word (drop 2 w))
    ∙ ap (onto front) (ap (λ r. and_then r (λ x. and_then (hex_word (drop 2 w)) (λ xs. Ok (x ∷ xs)))) e ∙ sym (hex_pair w h))

-- a pair that stops it
pub hex_stops : (front w : List ℕ) (e : Fault) → 2 ≤ length w → Err e ≡ hex_byte (get_or w 0 0) (get_or w 1 0) → Err e ≡ onto front (hex_word w)
hex_stops front w e h s = sym (ap (onto front) (hex_pair w h ∙ ap (λ r. and_then r (λ x. and_then (hex_word (drop 2 w)) (λ xs. Ok (x ∷ xs)))) (sym s)))

-- the pairs of a word
pair_at : (k i : ℕ) (w : Word) → i < k → get_or (first_chunks 2 k w) i [] ≡ take 2 (drop (2 * i) w)
pair_at zero i w h = absurd (omega arith)
pair_at (suc k) zero w h = refl
pair_at (suc k) (suc i) w h =
    let l : i < k = omega arith in
    let e : 2 + 2 * i ≡ 2 * suc i = omega arith in
    pair_at k i (drop 2 w) l ∙ ap (take 2) (drop-drop (2 * i) 2 w ∙ ap (λ j. drop j w) e)

first_two : (w : Word) → hex_byte (get_or (take 2 w) 0 0) (get_or (take 2 w) 1 0) ≡ hex_byte (get_or w 0 0) (get_or w 1 0)
first_two [] = refl
first_two (a ∷ []) = refl
first_two (a ∷ b ∷ w) = refl

pub pair_read : (ps : List Word) (n i : ℕ) (w : Word) (r : Result ℕ Fault) → ps ≡ first_chunks 2 n w → i < n → r ≡ hex_byte (get_or (get_or ps i []) 0 0) (get_or (get_or ps i []) 1 0) →
    r ≡ hex_byte (get_or (drop (2 * i) w) 0 0) (get_or (drop (2 * i) w) 1 0)
pair_read ps n i w r e h s =
    s ∙ ap (λ p. hex_byte (get_or p 0 0) (get_or p 1 0)) (ap (λ qs. get_or qs i []) e ∙ pair_at n i w h) ∙ first_two (drop (2 * i) w)

onto_more : (front more : List ℕ) (r s : Result (List ℕ) Fault) → Ok more ≡ onto front r → onto more s ≡ onto front (and_then r (λ xs. onto xs s))
onto_more front more (Ok xs) (Ok ys) e = let same : more ≡ front ++ xs = cc in ap (λ zs. Ok (zs ++ ys)) same ∙ ap (λ zs. Ok zs) (append_assoc front xs ys)
onto_more front more (Ok xs) (Err d) e = refl
onto_more front more (Err d) s e = let z : ◌≡◌ {A = ℕ} 0 1 = cc in absurd (omega arith)

onto_stops : (front : List ℕ) (r : Result (List ℕ) Fault) (k : List ℕ → Result (List ℕ) Fault) (e : Fault) → Err e ≡ onto front r → Err e ≡ onto front (and_then r k)
onto_stops front (Ok xs) k e h = let z : ◌≡◌ {A = ℕ} 0 1 = cc in absurd (omega arith)
onto_stops front (Err d) k e h = h

-- one more word, w, of the words vs
module _ (front : List ℕ) (w : Word) (vs ws : List Word) (first : vs ≡ w ∷ ws) where
  pub bytes_more : (more : List ℕ) → Ok more ≡ onto front (hex_word w) → onto more (hex_bytes ws) ≡ onto front (hex_bytes vs)
  bytes_more more e = onto_more front more (hex_word w) (hex_bytes ws) e ∙ ap (λ us. onto front (hex_bytes us)) (sym first)

  pub bytes_stop : (e : Fault) → Err e ≡ onto front (hex_word w) → Err e ≡ onto front (hex_bytes vs)
  bytes_stop e h = onto_stops front (hex_word w) (λ xs. onto xs (hex_bytes ws)) e h ∙ ap (λ us. onto front (hex_bytes us)) (sym first)
