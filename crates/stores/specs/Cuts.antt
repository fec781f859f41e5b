-- An image cut into blocks: its blocks, one of them replaced, and the memory that writing the image leaves. Assumes nothing.
use Rattle.std.specs.Prelude.{◌≡◌, ℕ, zero, suc, ◌+◌, ◌*◌, ◌/◌, ◌<◌, ◌≤◌, List, [], ◌∷◌, ◌++◌, length, take, drop, set, slice_set, refl}
use Rattle.std.proofs.Common.{ap, ap₂, sym, subst, ◌∙◌, append_assoc, append-nil, arith, not-suc-le-zero, length-drop, length-take, length-set, length-append, take_all, take_at, drop_at, drop-drop, take-take, length-take-le, take-suc-set}
use borrow.Rule.Slice.PartMut.{put_mid}
use Rattle.std.specs.Simd.{first_chunks}
use Rattle.std.proofs.lemmas.List.{drop-take, take-append-drop, nil_from_length, take-append-le, drop-append-le}
use Rattle.memory.specs.Memory.{Memory, Shaped, block_at, block_count, block_size, memory_size, with_block, with_bytes, cut, blocks_of, zeros}
use Rattle.memory.proofs.Runs.{put_in_block, put_more, all_set}
use Rattle.memory.proofs.Shapes.{sized_set, shaped_zeros}

pub length_cut : (n : ℕ) (xs : List ℕ) → length (cut n xs) ≡ n
length_cut zero xs = refl
length_cut (suc n) xs = ap suc (length_cut n (drop 16 xs))

pub cut_at : (n : ℕ) (xs : List ℕ) (b : ℕ) → b < n → block_at (cut n xs) b ≡ take 16 (drop (16 * b) xs)
cut_at zero xs b h = absurd (not-suc-le-zero h)
cut_at (suc n) xs zero h = refl
cut_at (suc n) xs (suc b) h =
    let l : b < n = omega arith in
    let e : 16 + 16 * b ≡ 16 * suc b = omega arith in
    cut_at n (drop 16 xs) b l ∙ ap (take 16) (drop-drop (16 * b) 16 xs ∙ ap (λ (k : ℕ). drop k xs) e)

-- a list with the part d from a on
abbrev pub with : List ℕ → ℕ → List ℕ → List ℕ
with xs a d = take a xs ++ (d ++ drop (a + length d) xs)

pub cut_with : (n : ℕ) (xs : List ℕ) (b : ℕ) (d : List ℕ) → b < n → 16 * n ≤ length xs → length d ≡ 16 → cut n (with xs (16 * b) d) ≡ slice_set (cut n xs) b d
cut_with zero xs b d h l e = absurd (not-suc-le-zero h)
cut_with (suc n) xs zero d h l e =
    let r = drop (0 + length d) xs in
    let m : 0 + length d ≡ 16 = omega arith in
    ap₂ (λ (y z : List ℕ). y ∷ cut n z) (take_at d r 16 e) (drop_at d r 16 e ∙ ap (λ (k : ℕ). drop k xs) m)
cut_with (suc n) xs (suc b) d h l e =
    let ys = drop 16 xs in
    let r = d ++ drop (16 * suc b + length d) xs in
    let a : 16 * suc b ≡ 16 + 16 * b = omega arith in
    let big : 16 ≤ 16 * suc b = omega arith in
    let lt : 16 ≤ length (take (16 * suc b) xs) = simp length-take (omega arith) in
    let lb : b < n = omega arith in
    let ly : 16 * n ≤ length ys = simp length-drop (omega arith) in
    let first : take 16 (take (16 * suc b) xs ++ r) ≡ take 16 xs = take-append-le 16 (take (16 * suc b) xs) r lt ∙ take-take 16 (16 * suc b) xs big in
    let k : 16 + (16 * b + length d) ≡ 16 * suc b + length d = omega arith in
    let rest : drop 16 (take (16 * suc b) xs ++ r) ≡ with ys (16 * b) d =
    drop-append-le 16 (take (16 * suc b) xs) r lt
    ∙ ap₂ (λ (y z : List ℕ). y ++ (d ++ z)) (ap (λ (j : ℕ). drop 16 (take j xs)) a ∙ drop-take 16 (16 * b) xs) (ap (λ (j : ℕ). drop j xs) (sym k) ∙ sym (drop-drop (16 * b + length d) 16 xs)) in
    ap₂ (λ (y z : List ℕ). y ∷ cut n z) first rest ∙ ap (λ (z : Memory). take 16 xs ∷ z) (cut_with n ys b d lb ly e)

-- blocks written one after the other from block b on: those before stay
pub written_from : (k b : ℕ) (m : Memory) (xs : List ℕ) → ((j : ℕ) → j < length m → length (block_at m j) ≡ 16) → b + k ≡ length m → length xs ≡ 16 * k →
    with_bytes m (16 * b) xs ≡ take b m ++ cut k xs
written_from zero b m xs sh e lx =
    let le : length m ≤ b = omega arith in
    let lz : length xs ≡ 0 = omega arith in
    ap (with_bytes m (16 * b)) (nil_from_length xs lz) ∙ sym (append-nil m) ∙ ap (λ (z : Memory). z ++ []) (sym (take_all b m le))
written_from (suc k) b m xs sh e lx =
    let t = take 16 xs in
    let r = drop 16 xs in
    let lx16 : 16 ≤ length xs = omega arith in
    let lt : length (take 16 xs) ≡ 16 = length-take-le 16 xs lx16 in
    let lr : length (drop 16 xs) ≡ 16 * k = simp length-drop (omega arith) in
    let bm : b < length m = omega arith in
    let o : 16 * b ≡ 16 * b + 0 = omega arith in
    let room : 0 + length (take 16 xs) ≤ 16 = omega arith in
    let one : with_bytes m (16 * b) t ≡ set m b t =
    ap (λ (z : ℕ). with_bytes m z t) o ∙ put_in_block m b 0 t bm room ∙ ap (set m b) (all_set (block_at m b) t 16 (sh b bm) lt) in
    let next : 16 * b + length (take 16 xs) ≡ 16 * (suc b) = omega arith in
    let e' : suc b + k ≡ length (slice_set m b t) = simp length-set (omega arith) in
    ap (with_bytes m (16 * b)) (sym (take-append-drop 16 xs))
    ∙ put_more m (16 * b) t r
    ∙ ap₂ (λ (y : Memory) (z : ℕ). with_bytes y z r) one next
    ∙ written_from k (suc b) (slice_set m b t) r (λ j lj. sized_set m b 16 t j lt (sh j (omega (arith, length-set m b t)))) e' lr
    ∙ ap (λ (z : Memory). z ++ cut k r) (take-suc-set m b t bm)
    ∙ append_assoc (take b m) (t ∷ []) (cut k r)

-- an image's blocks have a memory's shape
pub shaped_cut : (xs : List ℕ) → length xs ≡ memory_size → Shaped (blocks_of xs)
unfolding blocks_of
shaped_cut xs e = record {
  count = length_cut block_count xs;
  each = λ b h.
      let l : 16 ≤ length (drop (16 * b) xs) = simp length-drop (omega arith) in
      ap length (cut_at block_count xs b h) ∙ length-take-le 16 (drop (16 * b) xs) l;
}

pub block_of_image : (xs : List ℕ) (b : ℕ) → b < block_count → block_at (blocks_of xs) b ≡ take 16 (drop (16 * b) xs)
unfolding blocks_of
block_of_image xs b h = cut_at block_count xs b h

pub image_with : (xs : List ℕ) (b : ℕ) (d : List ℕ) → b < block_count → length xs ≡ memory_size → length d ≡ block_size → blocks_of (with xs (16 * b) d) ≡ with_block (blocks_of xs) b d
unfolding blocks_of
image_with xs b d h l e = cut_with block_count xs b d h (omega arith) e

-- an image as chunks of a block's size
chunks_cut : (n : ℕ) (xs : List ℕ) → first_chunks block_size n xs ≡ cut n xs
chunks_cut zero xs = refl
chunks_cut (suc n) xs = ap (λ (z : Memory). take block_size xs ∷ z) (chunks_cut n (drop block_size xs))

pub chunked : (xs : List ℕ) (m : Memory) → length xs ≡ memory_size → m ≡ first_chunks block_size (length xs / block_size) xs → (m ≡ blocks_of xs) × Shaped m
unfolding blocks_of
chunked xs m e c =
    let n : length xs / block_size ≡ block_count = omega arith in
    let w : m ≡ blocks_of xs = c ∙ ap (λ (k : ℕ). first_chunks block_size k xs) n ∙ chunks_cut block_count xs in
    (w, subst Shaped (sym w) (shaped_cut xs e))

-- zeros, written over by a whole image
pub image_written : (xs : List ℕ) → length xs ≡ memory_size → with_bytes zeros 0 xs ≡ blocks_of xs
unfolding blocks_of
image_written xs e = written_from block_count 0 zeros xs (λ j lj. shaped_zeros.each j (omega (arith, shaped_zeros.count))) (sym shaped_zeros.count) e

-- a part of an array overwritten, as a slice copied into it leaves it
pub overwritten : (a b k : ℕ) (m ys d : List ℕ) → a ≡ b → ys ≡ d → length d ≡ k → put_mid a k m ys ≡ with m b d
overwritten a b k m ys d f e h = rw (f, e, drop-drop, h) refl

pub length_overwritten : (a k : ℕ) (m ys : List ℕ) → length ys ≡ k → a + k ≤ length m → length (put_mid a k m ys) ≡ length m
length_overwritten a k m ys e h = rw (drop-drop) (simp (length-append, length-take, length-drop) (omega arith))
