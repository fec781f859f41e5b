-- Bytes put at places: the shape stays, a block put whole is a block replaced, and each byte is the last one put there. Assumes nothing.
use Rattle.std.proofs.Common.{◌≡◌, ℕ, suc, ◌<◌, ◌⊎◌, List, [], ◌∷◌, length, get_or, set, sym, refl, ap, ◌∙◌, subst, ap₂, inl, inr, arith, length-set, get_or-set_other, get_or-set_same, set-set}
use lib.Seq.{sets, set-get_or}
use Rattle.std.proofs.lemmas.Bool.{cases_eq}
use Rattle.memory.specs.Memory.{Memory, Shaped, block_at, byte_at, with_byte, block_count, block_size}
use Rattle.memory.proofs.Runs.{all_set}
use Rattle.memory.proofs.Shapes.{shaped_byte}
use Rattle.tag.specs.History.{History}
use Rattle.tag.specs.Puts.{Put, in_block, puts, Spares, Last, here, later}
use Rattle.tag.specs.Account.{writes, expected, Stands, from_start, was_put, stayed}

pub shaped_puts : (m : Memory) (ps : List Put) → Shaped m → Shaped (puts m ps)
shaped_puts m [] s = s
shaped_puts m (p ∷ ps) s = shaped_puts (with_byte m p.block p.offset p.value) ps (shaped_byte m p.block p.offset p.value s)

pub shaped_expected : (m : Memory) (h : History) → Shaped m → Shaped (expected m h)
shaped_expected m [] s = s
shaped_expected m (e ∷ h) s = shaped_puts (expected m h) (writes h e) (shaped_expected m h s)

-- bytes put into one block
put_run : (m : Memory) (b o : ℕ) (d : List ℕ) → b < length m → puts m (in_block b o d) ≡ set m b (sets (block_at m b) o d)
put_run m b o [] h = sym (set-get_or m b [])
put_run m b o (v ∷ vs) h =
    let h' : b < length (with_byte m b o v) = simp length-set h in
    put_run (with_byte m b o v) b (suc o) vs h'
    ∙ ap (λ (z : List ℕ). set (with_byte m b o v) b (sets z (suc o) vs)) (get_or-set_same m b (set (block_at m b) o v) [] h)
    ∙ set-set m b (set (block_at m b) o v) (sets (set (block_at m b) o v) (suc o) vs)

pub put_block : (m : Memory) (b : ℕ) (d : List ℕ) → Shaped m → b < block_count → length d ≡ block_size → puts m (in_block b 0 d) ≡ set m b d
put_block m b d s h e = put_run m b 0 d (omega (arith, s.count)) ∙ ap (set m b) (all_set (block_at m b) d block_size (s.each b h) e)

-- a byte after one put
put_there : (m : Memory) (b o v : ℕ) → Shaped m → b < block_count → o < block_size → byte_at (with_byte m b o v) b o ≡ v
put_there m b o v s hb ho =
    let lb : b < length m = omega (arith, s.count) in
    let lo : o < length (block_at m b) = omega (arith, s.each b hb) in
    ap (λ (x : List ℕ). get_or x o 0) (get_or-set_same m b (set (block_at m b) o v) [] lb) ∙ get_or-set_same (block_at m b) o v 0 lo

put_elsewhere : (m : Memory) (b o c p v : ℕ) → Shaped m → b < block_count → ((b ≡ c) × (o ≡ p) → ⊥) → byte_at (with_byte m c p v) b o ≡ byte_at m b o
put_elsewhere m b o c p v s hb ne = elim (cases_eq b c) [
  | inl e ↦
      let lc : c < length m = omega (arith, s.count) in
      ap (λ (k : ℕ). byte_at (with_byte m c p v) k o) e ∙ ap (λ (x : List ℕ). get_or x o 0) (get_or-set_same m c (set (block_at m c) p v) [] lc)
      ∙ get_or-set_other (block_at m c) p o v 0 (λ q. ne (e, q)) ∙ ap (λ (k : ℕ). byte_at m k o) (sym e)
  | inr d ↦ ap (λ (x : List ℕ). get_or x o 0) (get_or-set_other m c b (set (block_at m c) p v) [] d)
]

same_place : (b o c p : ℕ) → ((b ≡ c) × (o ≡ p)) ⊎ ((b ≡ c) × (o ≡ p) → ⊥)
same_place b o c p = elim (cases_eq b c) [
  | inl e ↦ elim (cases_eq o p) [ inl q ↦ inl (e, q) | inr n ↦ inr (λ w. n w.1) ]
  | inr n ↦ inr (λ w. n w.0)
]

-- a byte after several: the last one put there, or the one that stood there
module _ (b o : ℕ) (hb : b < block_count) (ho : o < block_size) where
  pub placed : (ps : List Put) (m : Memory) → Shaped m → Last ps b o (byte_at (puts m ps) b o) ⊎ (Spares ps b o × (byte_at (puts m ps) b o ≡ byte_at m b o))
  placed [] m s = inr (tt, refl)
  placed (p ∷ ps) m s =
      let n = with_byte m p.block p.offset p.value in
      let rest = placed ps n (shaped_byte m p.block p.offset p.value s) in
      by rest (same_place b o p.block p.offset)
    where
      by : Last ps b o (byte_at (puts m (p ∷ ps)) b o) ⊎ (Spares ps b o × (byte_at (puts m (p ∷ ps)) b o ≡ byte_at (with_byte m p.block p.offset p.value) b o)) →
          ((b ≡ p.block) × (o ≡ p.offset)) ⊎ ((b ≡ p.block) × (o ≡ p.offset) → ⊥) →
          Last (p ∷ ps) b o (byte_at (puts m (p ∷ ps)) b o) ⊎ (Spares (p ∷ ps) b o × (byte_at (puts m (p ∷ ps)) b o ≡ byte_at m b o))
      by (inl l) w = inl (later l)
      by (inr q) (inl w) = inl (found w.0 w.1 q.0 q.1)
        where
          found : b ≡ p.block → o ≡ p.offset → Spares ps b o → byte_at (puts m (p ∷ ps)) b o ≡ byte_at (with_byte m p.block p.offset p.value) b o →
              Last (p ∷ ps) b o (byte_at (puts m (p ∷ ps)) b o)
          found e f sp eq =
              let value : p.value ≡ byte_at (puts m (p ∷ ps)) b o =
              sym (eq ∙ ap₂ (λ (i j : ℕ). byte_at (with_byte m i j p.value) b o) (sym e) (sym f) ∙ put_there m b o p.value s hb ho) in
              let sp' : Spares ps p.block p.offset = subst (λ j. Spares ps p.block j) f (subst (λ i. Spares ps i o) e sp) in
              subst (λ v. Last (p ∷ ps) b o v) value (subst (λ j. Last (p ∷ ps) b j p.value) (sym f) (subst (λ i. Last (p ∷ ps) i p.offset p.value) (sym e) (here sp')))
      by (inr q) (inr ne) = inr ((ne, q.0), q.1 ∙ put_elsewhere m b o p.block p.offset p.value s hb ne)

  pub stands : (m : Memory) (h : History) → Shaped m → Stands m h b o (byte_at (expected m h) b o)
  stands m [] s = from_start
  stands m (e ∷ h) s = elim (placed (writes h e) (expected m h) (shaped_expected m h s)) [
    | inl l ↦ was_put l
    | inr q ↦ stayed q.0 (subst (λ v. Stands m h b o v) (sym q.1) (stands m h s))
  ]
