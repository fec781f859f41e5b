-- An intact frame is taken apart by its body, and a short one is unknown. Assumes nothing.
use Rattle.std.proofs.Common.{◌≡◌, ℕ, ◌-◌, ◌<◌, rules, true, cond, List, length, get_or, take, drop, sym, ap, ◌∙◌}
use Rattle.type_b.specs.Frames.{kind_of, body_kind, intact, unknown}

pub taken : (f : List ℕ) (n : ℕ) → intact f ≡ true → n ≡ length f - 3 → body_kind (get_or f 0 0) (take n (drop 1 f)) ≡ kind_of f
unfolding kind_of
taken f n s e =
    ap (λ k. body_kind (get_or f 0 0) (take k (drop 1 f))) e ∙ sym (ap (λ t. cond t (body_kind (get_or f 0 0) (take (length f - 3) (drop 1 f))) unknown) s)

pub short : (f : List ℕ) → length f < 3 → unknown ≡ kind_of f
unfolding kind_of
short f h = search rules
