-- One more piece of the bytes l, of which the first `to` have gone out: it ends at n, with at most r bytes. Assumes nothing.
use Rattle.std.proofs.Common.{◌≡◌, ℕ, ◌+◌, ◌-◌, ◌<◌, ◌≤◌, min, ltb, ◌⊎◌, List, length, take, drop, sym, ap, ◌∙◌, inl, inr, arith, length-drop}
use Rattle.std.proofs.lemmas.List.{drop-drop, drop_all, take_all}
use Rattle.std.proofs.lemmas.Bool.{cases_lt, lt-ltb, le-ltb}

module _ (l : List ℕ) (to r n : ℕ) (h : to ≤ length l) (e : n ≡ min (to + r) (length l)) where
  long : length (drop to l) ≡ length l - to
  long = length-drop to l

  pub next_part : take (n - to) (drop to l) ≡ take r (drop to l)
  next_part = by (cases_lt (to + r) (length l))
    where
      by : (to + r < length l) ⊎ (length l ≤ to + r) → take (n - to) (drop to l) ≡ take r (drop to l)
      by (inl y) = let k : n - to ≡ r = omega arith in ap (λ j. take j (drop to l)) k
      by (inr y) =
          let a : length (drop to l) ≤ n - to = omega (arith, long) in
          let b : length (drop to l) ≤ r = omega (arith, long) in
          take_all (n - to) (drop to l) a ∙ sym (take_all r (drop to l) b)

  pub next_left : drop n l ≡ drop r (drop to l)
  next_left = by (cases_lt (to + r) (length l))
    where
      by : (to + r < length l) ⊎ (length l ≤ to + r) → drop n l ≡ drop r (drop to l)
      by (inl y) = let k : n ≡ to + r = omega arith in ap (λ j. drop j l) k ∙ sym (drop-drop r to l)
      by (inr y) =
          let a : length l ≤ n = omega arith in
          let b : length (drop to l) ≤ r = omega (arith, long) in
          drop_all n l a ∙ sym (drop_all r (drop to l) b)

  pub next_more : ltb n (length l) ≡ ltb r (length (drop to l))
  next_more = by (cases_lt (to + r) (length l))
    where
      by : (to + r < length l) ⊎ (length l ≤ to + r) → ltb n (length l) ≡ ltb r (length (drop to l))
      by (inl y) = lt-ltb n (length l) (omega arith) ∙ sym (lt-ltb r (length (drop to l)) (omega (arith, long)))
      by (inr y) = le-ltb n (length l) (omega arith) ∙ sym (le-ltb r (length (drop to l)) (omega (arith, long)))

-- more follows where something is left
pub some_left : (l : List ℕ) (to : ℕ) → ltb to (length l) ≡ ltb 0 (length (drop to l))
some_left l to = by (cases_lt to (length l))
  where
    by : (to < length l) ⊎ (length l ≤ to) → ltb to (length l) ≡ ltb 0 (length (drop to l))
    by (inl y) = lt-ltb to (length l) y ∙ sym (lt-ltb 0 (length (drop to l)) (omega (arith, length-drop to l)))
    by (inr y) = le-ltb to (length l) y ∙ sym (le-ltb 0 (length (drop to l)) (omega (arith, length-drop to l)))
