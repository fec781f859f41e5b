-- Bytes put into a block, or taken from one, are bytes put or taken from an address on. Assumes nothing.
use Rattle.std.proofs.Common.{◌≡◌, ℕ, zero, suc, ◌+◌, ◌-◌, ◌*◌, ◌/◌, ◌%◌, ◌<◌, ◌≤◌, List, [], ◌∷◌, ◌++◌, length, take, drop, set, sym, refl, ap, ◌∙◌, ap₂, append_assoc, append-nil, add-zero, zero-add, arith, length-drop, length-set, length-take-le, drop-cons, get_or-set_same, drop-drop, take_at, take-add, drop_at, set-set}
use Rattle.std.proofs.lemmas.List.{drop_all}
use lib.Seq.{sets, sets-eq, set-get_or}
use borrow.Rule.Slice.PartMut.{put_mid}
use Rattle.memory.specs.Memory.{Memory, Shaped, block_at, byte_at, with_byte, bytes_from, with_bytes}

-- the lookup of a block's own byte
block_of : (b o : ℕ) → o < 16 → (16 * b + o) / 16 ≡ b
block_of b o h = omega arith

offset_of : (b o : ℕ) → o < 16 → (16 * b + o) % 16 ≡ o
offset_of b o h = omega arith

pub put_in_block : (m : Memory) (b o : ℕ) (d : List ℕ) → b < length m → o + length d ≤ 16 → with_bytes m (16 * b + o) d ≡ set m b (sets (block_at m b) o d)
put_in_block m b o [] h l = sym (set-get_or m b [])
put_in_block m b o (v ∷ vs) h l =
    let lo : o < 16 = omega arith in
    let first : with_byte m ((16 * b + o) / 16) ((16 * b + o) % 16) v ≡ with_byte m b o v = rw (block_of b o lo, offset_of b o lo) refl in
    let n : suc (16 * b + o) ≡ 16 * b + suc o = omega arith in
    let h' : b < length (with_byte m b o v) = simp length-set h in
    let l' : suc o + length vs ≤ 16 = omega arith in
    ap (λ (z : Memory). with_bytes z (suc (16 * b + o)) vs) first
    ∙ ap (λ (z : ℕ). with_bytes (with_byte m b o v) z vs) n
    ∙ put_in_block (with_byte m b o v) b (suc o) vs h' l'
    ∙ ap (λ (z : List ℕ). set (with_byte m b o v) b (sets z (suc o) vs)) (get_or-set_same m b (set (block_at m b) o v) [] h)
    ∙ set-set m b (set (block_at m b) o v) (sets (set (block_at m b) o v) (suc o) vs)

pub put_more : (m : Memory) (a : ℕ) (xs ys : List ℕ) → with_bytes m a (xs ++ ys) ≡ with_bytes (with_bytes m a xs) (a + length xs) ys
put_more m a [] ys = ap (λ (z : ℕ). with_bytes m z ys) (sym (add-zero a))
put_more m a (x ∷ xs) ys =
    let n : suc a + length xs ≡ a + suc (length xs) = omega arith in
    put_more (with_byte m (a / 16) (a % 16) x) (suc a) xs ys
    ∙ ap (λ (z : ℕ). with_bytes (with_bytes (with_byte m (a / 16) (a % 16) x) (suc a) xs) z ys) n

pub length_from : (m : Memory) (a n : ℕ) → length (bytes_from m a n) ≡ n
length_from m a zero = refl
length_from m a (suc n) = ap suc (length_from m (suc a) n)

pub taken_from_block : (m : Memory) (b o n : ℕ) → o + n ≤ 16 → length (block_at m b) ≡ 16 → bytes_from m (16 * b + o) n ≡ take n (drop o (block_at m b))
taken_from_block m b o zero l e = refl
taken_from_block m b o (suc n) l e =
    let lo : o < 16 = omega arith in
    let lb : o < length (block_at m b) = omega arith in
    let first : byte_at m ((16 * b + o) / 16) ((16 * b + o) % 16) ≡ byte_at m b o = rw (block_of b o lo, offset_of b o lo) refl in
    let k : suc (16 * b + o) ≡ 16 * b + suc o = omega arith in
    let l' : suc o + n ≤ 16 = omega arith in
    ap (λ (z : ℕ). z ∷ bytes_from m (suc (16 * b + o)) n) first
    ∙ ap (λ (z : ℕ). byte_at m b o ∷ bytes_from m z n) k
    ∙ ap (λ (z : List ℕ). byte_at m b o ∷ z) (taken_from_block m b (suc o) n l' e)
    ∙ ap (take (suc n)) (sym (drop-cons (block_at m b) o 0 lb))

pub taken_more : (m : Memory) (a j n : ℕ) → bytes_from m a (j + n) ≡ bytes_from m a j ++ bytes_from m (a + j) n
taken_more m a zero n = ap₂ (bytes_from m) (sym (add-zero a)) (zero-add n)
taken_more m a (suc j) n =
    let e : suc j + n ≡ suc (j + n) = omega arith in
    let k : suc a + j ≡ a + suc j = omega arith in
    ap (bytes_from m a) e ∙ ap (λ (z : List ℕ). byte_at m (a / 16) (a % 16) ∷ z) (taken_more m (suc a) j n ∙ ap (λ (z : ℕ). bytes_from m (suc a) j ++ bytes_from m z n) k)

-- a part of a list overwritten
pub overwritten : (o k : ℕ) (x ys : List ℕ) → length ys ≡ k → o + k ≤ length x → put_mid o k x ys ≡ sets x o ys
overwritten o k x ys e h =
    let l : o + length ys ≤ length x = omega arith in
    let r : drop k (drop o x) ≡ drop (o + length ys) x = drop-drop k o x ∙ ap (λ (z : ℕ). drop (o + z) x) (sym e) in
    ap (λ (z : List ℕ). take o x ++ (ys ++ z)) r ∙ sym (append_assoc (take o x) ys (drop (o + length ys) x)) ∙ sym (sets-eq ys x o l)

-- one turn of a write: n bytes more, into block b from its offset o on
write_turn : (m₀ m : Memory) (a : ℕ) (xs : List ℕ) (k n b o v w : ℕ) (held ys : List ℕ) → Shaped m → m ≡ with_bytes m₀ a (take k xs) → k + n ≤ length xs → 16 * b + o ≡ a + k
    → o + n ≤ 16 → b < 32 → held ≡ block_at m b → v ≡ n → w ≡ n → ys ≡ take v (drop k xs) → set m b (put_mid o w held ys) ≡ with_bytes m₀ a (take (k + n) xs)
write_turn m₀ m a xs k n b o v w held ys s inv kn at on b< eh ev ew ey =
    let bm : b < length m = omega (arith, s.count) in
    let nx : n ≤ length (drop k xs) = simp length-drop (omega arith) in
    let d = take n (drop k xs) in
    let ld : length (take n (drop k xs)) ≡ n = length-take-le n (drop k xs) nx in
    let ey' : ys ≡ d = ey ∙ ap (λ (z : ℕ). take z (drop k xs)) ev in
    let ly : length ys ≡ w = ap length ey' ∙ ld ∙ sym ew in
    let lh : length held ≡ 16 = ap length eh ∙ s.each b b< in
    let fits : o + w ≤ length held = omega arith in
    let room : o + length (take n (drop k xs)) ≤ 16 = omega arith in
    let kx : k ≤ length xs = omega arith in
    let at' : 16 * b + o ≡ a + length (take k xs) = at ∙ ap (λ (z : ℕ). a + z) (sym (length-take-le k xs kx)) in
    ap (set m b) (overwritten o w held ys ly fits ∙ ap₂ (λ (y z : List ℕ). sets y o z) eh ey')
    ∙ sym (put_in_block m b o d bm room)
    ∙ ap₂ (λ (y : Memory) (z : ℕ). with_bytes y z d) inv at'
    ∙ sym (put_more m₀ a (take k xs) d)
    ∙ ap (with_bytes m₀ a) (sym (take-add k n xs))

-- one turn of a read: n bytes more, from block b from its offset o on
read_turn : (m : Memory) (x₀ x : List ℕ) (a k n b o v w : ℕ) (held ys : List ℕ) → Shaped m → x ≡ bytes_from m a k ++ drop k x₀ → k + n ≤ length x₀ → 16 * b + o ≡ a + k
    → o + n ≤ 16 → b < 32 → held ≡ block_at m b → v ≡ n → w ≡ n → ys ≡ take v (drop o held) → put_mid k w x ys ≡ bytes_from m a (k + n) ++ drop (k + n) x₀
read_turn m x₀ x a k n b o v w held ys s inv kn at on b< eh ev ew ey =
    let f = bytes_from m a k in
    let lf : length f ≡ k = length_from m a k in
    let e : ys ≡ bytes_from m (a + k) n =
    ey ∙ ap₂ (λ (y : ℕ) (z : List ℕ). take y (drop o z)) ev eh ∙ sym (taken_from_block m b o n on (s.each b b<)) ∙ ap (λ (z : ℕ). bytes_from m z n) at in
    let t : take k x ≡ f = ap (take k) inv ∙ take_at f (drop k x₀) k lf in
    let r : drop w (drop k x) ≡ drop (k + n) x₀ =
    ap₂ (λ (y : ℕ) (z : List ℕ). drop y (drop k z)) ew inv ∙ ap (drop n) (drop_at f (drop k x₀) k lf) ∙ drop-drop n k x₀ in
    ap₂ (λ (y z : List ℕ). y ++ (ys ++ z)) t r
    ∙ ap (λ (z : List ℕ). f ++ (z ++ drop (k + n) x₀)) e
    ∙ sym (append_assoc f (bytes_from m (a + k) n) (drop (k + n) x₀))
    ∙ ap (λ (z : List ℕ). z ++ drop (k + n) x₀) (sym (taken_more m a k n))

-- the write of one piece: the bytes d to e of the range, into block b from its offset o on
pub piece_written : (m₀ m : Memory) (a : ℕ) (xs : List ℕ) (d e b o p q r : ℕ) (held ys : List ℕ) → Shaped m → m ≡ with_bytes m₀ a (take d xs) → d < e → e ≤ length xs → 16 * b + o ≡ a + d
    → p ≡ o + (e - d) → p ≤ 16 → b < 32 → held ≡ block_at m b → q ≡ d → r ≡ e → ys ≡ take (r - q) (drop q xs) → set m b (put_mid o (p - o) held ys) ≡ with_bytes m₀ a (take e xs)
piece_written m₀ m a xs d e b o p q r held ys s inv de el at po on b< eh eq er ey =
    let n = e - d in
    let kn : d + (e - d) ≤ length xs = omega arith in
    let on' : o + (e - d) ≤ 16 = omega arith in
    let ev : r - q ≡ e - d = omega arith in
    let ew : p - o ≡ e - d = omega arith in
    let all : d + (e - d) ≡ e = omega arith in
    write_turn m₀ m a xs d n b o (r - q) (p - o) held ys s inv kn at on' b< eh ev ew (ey ∙ ap (λ (z : ℕ). take (r - q) (drop z xs)) eq)
    ∙ ap (λ (z : ℕ). with_bytes m₀ a (take z xs)) all

-- the read of one piece: the bytes d to e of the range, from block b from its offset o on
pub piece_read : (m : Memory) (x₀ x : List ℕ) (a d e b o p q r : ℕ) (held ys : List ℕ) → Shaped m → x ≡ bytes_from m a d ++ drop d x₀ → d < e → e ≤ length x₀ → 16 * b + o ≡ a + d
    → p ≡ o + (e - d) → p ≤ 16 → b < 32 → held ≡ block_at m b → q ≡ d → r ≡ e → ys ≡ take (p - o) (drop o held) → put_mid q (r - q) x ys ≡ bytes_from m a e ++ drop e x₀
piece_read m x₀ x a d e b o p q r held ys s inv de el at po on b< eh eq er ey =
    let n = e - d in
    let kn : d + (e - d) ≤ length x₀ = omega arith in
    let on' : o + (e - d) ≤ 16 = omega arith in
    let ev : p - o ≡ e - d = omega arith in
    let ew : r - q ≡ e - d = omega arith in
    let all : d + (e - d) ≡ e = omega arith in
    ap (λ (z : ℕ). put_mid z (r - q) x ys) eq
    ∙ read_turn m x₀ x a d n b o (p - o) (r - q) held ys s inv kn at on' b< eh ev ew ey
    ∙ ap (λ (z : ℕ). bytes_from m a z ++ drop z x₀) all

-- a whole list overwritten
pub all_set : (x d : List ℕ) (n : ℕ) → length x ≡ n → length d ≡ n → sets x 0 d ≡ d
all_set x d n ex ed =
    let l : 0 + length d ≤ length x = omega arith in
    let past : length x ≤ 0 + length d = omega arith in
    sets-eq d x 0 l ∙ ap (λ (z : List ℕ). d ++ z) (drop_all (0 + length d) x past) ∙ append-nil d
