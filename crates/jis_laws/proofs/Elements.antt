-- Services and elements put together, and what a tag finds in their bytes. Assumes nothing.
use Rattle.std.proofs.Common.{◌≡◌, ℕ, zero, suc, ◌+◌, ◌-◌, ◌*◌, ◌/◌, ◌%◌, ◌<◌, ◌≤◌, true, leb, List, [], ◌∷◌, ◌++◌, map, length, get_or, take, drop, refl, ap, ◌∙◌, arith}
use Rattle.std.specs.Str.{bytes_eq}
use Rattle.std.proofs.lemmas.Bool.{and_from, or_left, or_right, le-leb, lt-leb, eq-eqb, cond-true, cond-false}
use Rattle.jis.specs.Commands.{alike}
use Rattle.jis.specs.Elements.{size, lawful, width, sound, numbers}
use Rattle.jis_laws.specs.Sent.{Element, short, long, list_bytes, number_of, EachFits, services}
use Rattle.jis_laws.proofs.Opening.{same_self}

pub services_length : (k a b : ℕ) → length (services k a b) ≡ 2 * k
services_length zero a b = refl
services_length (suc k) a b = let e = services_length k a b in omega arith

-- without its last, a run of services is a run of one fewer
one_fewer : (k a b : ℕ) → take (length (services k a b)) (services (suc k) a b) ≡ services k a b
one_fewer zero a b = refl
one_fewer (suc k) a b = ap (λ t. a ∷ b ∷ t) (one_fewer k a b)

pub services_alike : (k a b : ℕ) → 1 ≤ k → alike (services k a b) ≡ true
services_alike zero a b h = absurd (omega arith)
services_alike (suc k) a b h =
    let n = length (services k a b) in
    let back : suc (suc n) - 2 ≡ n = omega arith in
    ap (λ i. bytes_eq (services k a b) (take i (services (suc k) a b))) back
    ∙ ap (bytes_eq (services k a b)) (one_fewer k a b)
    ∙ same_self (services k a b)

size_short : (low : ℕ) → size (128 + low) ≡ 2
size_short low = cond-true _ _ _ (le-leb 128 (128 + low) (omega arith))

size_long : (low : ℕ) → low < 16 → size low ≡ 3
size_long low h = cond-false _ _ _ (lt-leb 128 low (omega arith))

lawful_short : (low number d2 : ℕ) → low < 16 → number ≤ 26 → lawful (128 + low) number d2 ≡ true
lawful_short low number d2 h n =
    let high : (128 + low) / 16 % 8 ≡ 0 = omega arith in
    and_from _ _ (and_from _ _ (eq-eqb _ _ high) (or_left _ _ (le-leb 128 (128 + low) (omega arith)))) (le-leb number 26 n)

lawful_long : (low number : ℕ) → low < 16 → number ≤ 26 → lawful low number 0 ≡ true
lawful_long low number h n =
    let high : low / 16 % 8 ≡ 0 = omega arith in
    and_from _ _ (and_from _ _ (eq-eqb _ _ high) (or_right (leb 128 low) _ (eq-eqb 0 0 refl))) (le-leb number 26 n)

pub width_is : (es : List Element) (ys : List ℕ) → EachFits es → width (length es) (list_bytes es ++ ys) ≡ length (list_bytes es)
width_is [] ys h = refl
width_is (short low number ∷ es) ys h =
    let e = width_is es ys h.1 in
    let xs = (128 + low) ∷ number ∷ (list_bytes es ++ ys) in
    let first = ap (λ s. s + width (length es) (drop s xs)) (size_short low) in
    first ∙ omega (arith, e)
width_is (long low number ∷ es) ys h =
    let e = width_is es ys h.1 in
    let xs = low ∷ number ∷ 0 ∷ (list_bytes es ++ ys) in
    let first = ap (λ s. s + width (length es) (drop s xs)) (size_long low h.0.0) in
    first ∙ omega (arith, e)

pub sound_is : (es : List Element) → EachFits es → sound (length es) (list_bytes es) ≡ true
sound_is [] h = refl
sound_is (short low number ∷ es) h =
    let xs = (128 + low) ∷ number ∷ list_bytes es in
    and_from _ _ (lawful_short low number (get_or xs 2 0) h.0.0 h.0.1) (ap (λ s. sound (length es) (drop s xs)) (size_short low) ∙ sound_is es h.1)
sound_is (long low number ∷ es) h =
    let xs = low ∷ number ∷ 0 ∷ list_bytes es in
    and_from _ _ (lawful_long low number h.0.0 h.0.1) (ap (λ s. sound (length es) (drop s xs)) (size_long low h.0.0) ∙ sound_is es h.1)

pub numbers_are : (es : List Element) → EachFits es → numbers (length es) (list_bytes es) ≡ map number_of es
numbers_are [] h = refl
numbers_are (short low number ∷ es) h =
    let xs = (128 + low) ∷ number ∷ list_bytes es in
    ap (λ s. number ∷ numbers (length es) (drop s xs)) (size_short low) ∙ ap (λ t. number ∷ t) (numbers_are es h.1)
numbers_are (long low number ∷ es) h =
    let xs = low ∷ number ∷ 0 ∷ list_bytes es in
    ap (λ s. number ∷ numbers (length es) (drop s xs)) (size_long low h.0.0) ∙ ap (λ t. number ∷ t) (numbers_are es h.1)

-- a run of services tells how many there are, and the service
pub services_same : (k a b j x y : ℕ) → 1 ≤ k → services k a b ≡ services j x y → (k ≡ j) × (a ≡ x) × (b ≡ y)
services_same zero a b j x y h e = absurd (omega arith)
services_same (suc k) a b zero x y h e = let z : ◌≡◌ {A = ℕ} 0 1 = cc in absurd (omega arith)
services_same (suc k) a b (suc j) x y h e =
    let n = services_length (suc k) a b in
    let m = services_length (suc j) x y in
    let p : a ≡ x = cc in
    let q : b ≡ y = cc in
    (omega (arith, ap length e), p, q)

-- the bytes of elements tell the elements
pub elements_same : (es fs : List Element) → EachFits es → EachFits fs → list_bytes es ≡ list_bytes fs → es ≡ fs
elements_same [] [] h g e = refl
elements_same [] (short low number ∷ fs) h g e = let z : ◌≡◌ {A = ℕ} 0 1 = cc in absurd (omega arith)
elements_same [] (long low number ∷ fs) h g e = let z : ◌≡◌ {A = ℕ} 0 1 = cc in absurd (omega arith)
elements_same (short low number ∷ es) [] h g e = let z : ◌≡◌ {A = ℕ} 0 1 = cc in absurd (omega arith)
elements_same (long low number ∷ es) [] h g e = let z : ◌≡◌ {A = ℕ} 0 1 = cc in absurd (omega arith)
elements_same (short l n ∷ es) (short k m ∷ fs) h g e =
    let d : 128 + l ≡ 128 + k = cc in
    let p : l ≡ k = omega arith in
    let q : n ≡ m = cc in
    let t : list_bytes es ≡ list_bytes fs = cc in
    let r : es ≡ fs = elements_same es fs h.1 g.1 t in
    cc
elements_same (short l n ∷ es) (long k m ∷ fs) h g e =
    let d : 128 + l ≡ k = cc in
    let small : k < 16 = g.0.0 in
    absurd (omega arith)
elements_same (long l n ∷ es) (short k m ∷ fs) h g e =
    let d : l ≡ 128 + k = cc in
    let small : l < 16 = h.0.0 in
    absurd (omega arith)
elements_same (long l n ∷ es) (long k m ∷ fs) h g e =
    let p : l ≡ k = cc in
    let q : n ≡ m = cc in
    let t : list_bytes es ≡ list_bytes fs = cc in
    let r : es ≡ fs = elements_same es fs h.1 g.1 t in
    cc
