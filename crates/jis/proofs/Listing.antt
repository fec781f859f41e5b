-- A block list, element by element. Assumes nothing.
use Rattle.std.proofs.Common.{◌≡◌, ℕ, zero, suc, ◌+◌, ◌-◌, ◌/◌, ◌%◌, ◌<◌, ◌≤◌, Bool, true, ◌&&◌, ◌||◌, eqb, leb, List, ◌∷◌, length, get_or, take, drop, sym, refl, ap, ◌∙◌, ap₂, add-zero, arith, length-drop}
use Rattle.std.proofs.lemmas.List.{get_or-drop, get_or-take, drop-drop, drop-take}
use Rattle.std.proofs.lemmas.Bool.{and_parts, leb-true}
use Rattle.std.proofs.lemmas.Bool.Decides.{nat_tests}
use Rattle.jis.specs.declared.blocks.Blocks.{Blocks}
use Rattle.jis.specs.Walk.{numbers_left}
use Rattle.jis.specs.Elements.{size, lawful, rest, width, sound, numbers, TakenOff}

pub size_ge : (d0 : ℕ) → 2 ≤ size d0
size_ge d0 = grind (arith, nat_tests)

-- whether the element at a place is lawful
abbrev pub lawful_at : List ℕ → ℕ → Bool
lawful_at xs at = lawful (get_or xs at 0) (get_or xs (at + 1) 0) (get_or xs (at + 2) 0)

-- what is left at `at`, and then behind the element there
first_at : (xs : List ℕ) (at : ℕ) → get_or (drop at xs) 0 0 ≡ get_or xs at 0
first_at xs at = get_or-drop at xs 0 0 ∙ ap (λ k. get_or xs k 0) (add-zero at)

rest_at : (xs : List ℕ) (at : ℕ) → rest (drop at xs) ≡ drop (at + size (get_or xs at 0)) xs
rest_at xs at = ap (λ d. drop (size d) (drop at xs)) (first_at xs at) ∙ drop-drop (size (get_or xs at 0)) at xs

one_left : (m i : ℕ) → i < m → m - i ≡ suc (m - (i + 1))
one_left m i h = omega arith

-- one element more of the width
pub width_more : (xs : List ℕ) (at i m s : ℕ) → i < m → s ≡ size (get_or xs at 0) → at + width (m - i) (drop at xs) ≡ width m xs
    → (at + s) + width (m - (i + 1)) (drop (at + s) xs) ≡ width m xs
width_more xs at i m s lt e inv =
    let n = m - (i + 1) in
    let here : width (m - i) (drop at xs) ≡ s + width n (drop (at + s) xs) =
    ap (λ k. width k (drop at xs)) (one_left m i lt)
    ∙ ap₂ (λ d ys. size d + width n ys) (first_at xs at) (rest_at xs at)
    ∙ ap (λ z. z + width n (drop (at + z) xs)) (sym e) in
    omega (arith, here, inv)

-- one element more that is tested
pub sound_more : (xs : List ℕ) (at i m s : ℕ) → i < m → s ≡ size (get_or xs at 0) → sound (m - i) (drop at xs) ≡ sound m xs
    → sound m xs ≡ (lawful_at xs at && sound (m - (i + 1)) (drop (at + s) xs))
sound_more xs at i m s lt e inv =
    let n = m - (i + 1) in
    sym inv
    ∙ ap (λ k. sound k (drop at xs)) (one_left m i lt)
    ∙ ap₂ (λ d ys. lawful d (get_or (drop at xs) 1 0) (get_or (drop at xs) 2 0) && sound n ys) (first_at xs at) (rest_at xs at)
    ∙ ap₂ (λ x y. lawful (get_or xs at 0) x y && sound n (drop (at + size (get_or xs at 0)) xs)) (get_or-drop at xs 1 0) (get_or-drop at xs 2 0)
    ∙ ap (λ z. lawful_at xs at && sound n (drop (at + z) xs)) (sym e)

-- the first m elements are as wide where what follows them is cut off
pub width_take : (m n : ℕ) (xs : List ℕ) → width m xs ≤ n → width m (take n xs) ≡ width m xs
width_take zero n xs h = refl
width_take (suc m) n xs h =
    let d = get_or xs 0 0 in
    let s = size d in
    let two = size_ge d in
    let first : get_or (take n xs) 0 0 ≡ d = get_or-take n xs 0 0 (omega arith) in
    let split : n ≡ s + (n - s) = omega arith in
    let behind : drop s (take n xs) ≡ take (n - s) (rest xs) = ap (λ k. drop s (take k xs)) split ∙ drop-take s (n - s) xs in
    let further : width m (take (n - s) (rest xs)) ≡ width m (rest xs) = width_take m (n - s) (rest xs) (omega arith) in
    ap (λ z. size z + width m (drop (size z) (take n xs))) first ∙ ap (λ ys. s + width m ys) behind ∙ ap (λ z. s + z) further

-- the first of m elements stands in a list that ends where its elements end
pub first_fits : (m : ℕ) (xs : List ℕ) → 1 ≤ m → width m xs ≡ length xs → size (get_or xs 0 0) ≤ length xs
first_fits zero xs h w = absurd (omega arith)
first_fits (suc m) xs h w = omega arith

-- and can be taken off
pub first_off : (m : ℕ) (xs : List ℕ) → 1 ≤ m → width m xs ≡ length xs → sound m xs ≡ true → TakenOff m xs (get_or xs 1 0) (rest xs)
first_off zero xs h w s = absurd (omega arith)
first_off (suc m) xs h w s =
    let one : suc m - 1 ≡ m = omega arith in
    let d = get_or xs 0 0 in
    let parts = and_parts (lawful d (get_or xs 1 0) (get_or xs 2 0)) (sound m (rest xs)) s in
    record {
      small = leb-true (get_or xs 1 0) 26 (and_parts (eqb (d / 16 % 8) 0 && (leb 128 d || eqb (get_or xs 2 0) 0)) (leb (get_or xs 1 0) 26) parts.0).1;
      whole = ap (λ k. width k (rest xs)) one ∙ simp length-drop (omega arith);
      each = ap (λ k. sound k (rest xs)) one ∙ parts.1;
      named = ap (λ k. get_or xs 1 0 ∷ numbers k (rest xs)) (sym one);
    }

-- as many numbers as elements
pub numbers_length : (m : ℕ) (xs : List ℕ) → length (numbers m xs) ≡ m
numbers_length zero xs = refl
numbers_length (suc m) xs = ap suc (numbers_length m (rest xs))

-- a list has at most 15 blocks
pub few_left : (b : Blocks) → length (numbers_left b) ≤ 15
few_left b = omega (arith, numbers_length b.left b.bytes.now, b.few)
