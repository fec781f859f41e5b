-- The laws of a log: its newest entries, its replay and its fold. Assumes nothing.
use Rattle.std.specs.Prelude.{◌≡◌, ℕ, zero, suc, ◌+◌, ◌<◌, ◌≤◌, Bool, true, false, cond, List, [], ◌∷◌, ◌++◌, length, take, IfSome, Some, None, Option, ◌==◌, ◌≢◌, nat_lt, slice_index_or, refl}
use Rattle.std.proofs.Common.{ap, ap₂, sym, ◌∙◌, inl, inr, arith, not-suc-le-zero, add-one, length-set, get_or-set_same, get_or-set_other}
use Rattle.std.proofs.lemmas.List.{ext_get_or, reverse-append, take_more}
use Rattle.std.proofs.lemmas.Bool.{cases_eq, cases_lt, eq-eqb, ne_eqb}
use mathlib.Core.List.{reverse}
use Rattle.std.specs.List.{find}
use Rattle.std.specs.Option.{option_to_list}
use Rattle.memory.specs.Memory.{Memory, Shaped, block_at, block_count, with_block, zeros}
use Rattle.stores.specs.declared.entry.Entry.{Entry}
use Rattle.stores.specs.Log.{replayed, or_older, newest, held_by, fold, with_room, capacity, Logged}
use Rattle.memory.proofs.Shapes.{shaped_set, shaped_zeros, block_zeros}

-- the replay
pub shaped_replayed : (m : Memory) (es : List Entry) → Shaped m → Shaped (replayed m es)
shaped_replayed m [] s = s
shaped_replayed m (e ∷ es) s = shaped_replayed (with_block m e.block.index e.bytes) es (shaped_set m e.block.index e.bytes e.whole s)

pub replayed_push : (m : Memory) (es : List Entry) (e : Entry) → replayed m (es ++ e ∷ []) ≡ with_block (replayed m es) e.block.index e.bytes
replayed_push m [] e = refl
replayed_push m (x ∷ es) e = replayed_push (with_block m x.block.index x.bytes) es e

-- what a block holds, by its newest entry
abbrev held_or : List ℕ → Option Entry → List ℕ
held_or d None = d
held_or d (Some e) = e.bytes

hit : (m : Memory) (e : Entry) (b : ℕ) → b < length m → block_at (with_block m e.block.index e.bytes) b ≡ held_or (block_at m b) (cond (e.block.index == b) (Some e) None)
hit m e b h = elim (cases_eq e.block.index b) [
  | inl q ↦
      let l : e.block.index < length m = omega arith in
      ap (λ (k : ℕ). block_at (with_block m e.block.index e.bytes) k) (sym q) ∙ get_or-set_same m e.block.index e.bytes [] l
      ∙ ap (λ (t : Bool). held_or (block_at m b) (cond t (Some e) None)) (sym (eq-eqb e.block.index b q))
  | inr ne ↦
      get_or-set_other m e.block.index b e.bytes [] (λ q. ne (sym q))
      ∙ ap (λ (t : Bool). held_or (block_at m b) (cond t (Some e) None)) (sym (ne_eqb e.block.index b ne))
]

older : (d d' : List ℕ) (o x : Option Entry) → d' ≡ held_or d x → held_or d' o ≡ held_or d (or_older o x)
older d d' None x e = e
older d d' (Some y) x e = refl

held_or_is : (m : Memory) (es : List Entry) (b : ℕ) → b < length m → block_at (replayed m es) b ≡ held_or (block_at m b) (newest es b)
held_or_is m [] b h = refl
held_or_is m (e ∷ es) b h =
    let l : b < length (with_block m e.block.index e.bytes) = simp length-set h in
    held_or_is (with_block m e.block.index e.bytes) es b l ∙ older (block_at m b) _ (newest es b) _ (hit m e b h)

by_zeros : (b : ℕ) (o : Option Entry) → b < block_count → held_or (block_at zeros b) o ≡ held_by o
by_zeros b None h = block_zeros b h
by_zeros b (Some e) h = refl

pub newest_counts : (es : List Entry) (b : ℕ) → b < block_count → block_at (replayed zeros es) b ≡ held_by (newest es b)
newest_counts es b h = held_or_is zeros es b (omega (arith, shaped_zeros.count)) ∙ by_zeros b (newest es b) h

-- the newest entry of two logs, one after the other
or_older_assoc : (x y z : Option Entry) → or_older x (or_older y z) ≡ or_older (or_older x y) z
or_older_assoc None y z = refl
or_older_assoc (Some e) y z = refl

or_older_none : (x : Option Entry) → or_older x None ≡ x
or_older_none None = refl
or_older_none (Some e) = refl

newest_append : (xs ys : List Entry) (b : ℕ) → newest (xs ++ ys) b ≡ or_older (newest ys b) (newest xs b)
newest_append [] ys b = sym (or_older_none (newest ys b))
newest_append (x ∷ xs) ys b =
    ap (λ (o : Option Entry). or_older o (cond (x.block.index == b) (Some x) None)) (newest_append xs ys b)
    ∙ sym (or_older_assoc (newest ys b) (newest xs b) (cond (x.block.index == b) (Some x) None))

pub newest_here : (es : List Entry) (e : Entry) (b : ℕ) → e.block.index ≡ b → newest (es ++ e ∷ []) b ≡ Some e
newest_here es e b q = newest_append es (e ∷ []) b ∙ ap (λ (t : Bool). or_older (cond t (Some e) None) (newest es b)) (eq-eqb e.block.index b q)

pub newest_below : (es : List Entry) (e : Entry) (b : ℕ) → (e.block.index ≢ b) → newest (es ++ e ∷ []) b ≡ newest es b
newest_below es e b ne = newest_append es (e ∷ []) b ∙ ap (λ (t : Bool). or_older (cond t (Some e) None) (newest es b)) (ne_eqb e.block.index b ne)

-- the newest entry is the first that a search from the end meets
found_before : (p : Entry → Bool) (xs : List Entry) (e : Entry) → find p (xs ++ e ∷ []) ≡ or_older (find p xs) (cond (p e) (Some e) None)
found_before p [] e = refl
found_before p (x ∷ xs) e = by (p x) (found_before p xs e)
  where
    by : (t : Bool) → find p (xs ++ e ∷ []) ≡ or_older (find p xs) (cond (p e) (Some e) None) →
        cond t (Some x) (find p (xs ++ e ∷ [])) ≡ or_older (cond t (Some x) (find p xs)) (cond (p e) (Some e) None)
    by true h = refl
    by false h = h

pub newest_found : (es : List Entry) (b : ℕ) → find (λ e. e.block.index == b) (reverse es) ≡ newest es b
newest_found [] b = refl
newest_found (e ∷ es) b =
    ap (find (λ x. x.block.index == b)) (reverse-append (e ∷ []) es) ∙ found_before (λ x. x.block.index == b) (reverse es) e
    ∙ ap (λ (o : Option Entry). or_older o (cond (e.block.index == b) (Some e) None)) (newest_found es b)

-- a newest entry is one of its block
abbrev Of : ℕ → Option Entry → Type 0
Of b o = IfSome o (λ e. e.block.index ≡ b)

of_newest : (es : List Entry) (b : ℕ) → Of b (newest es b)
of_newest [] b = tt
of_newest (e ∷ es) b = either (newest es b) (of_newest es b)
  where
    one : Of b (cond (e.block.index == b) (Some e) None)
    one = elim (cases_eq e.block.index b) [
      | inl q ↦ rw (eq-eqb e.block.index b q) q
      | inr ne ↦ rw (ne_eqb e.block.index b ne) tt
    ]

    either : (o : Option Entry) → Of b o → Of b (or_older o (cond (e.block.index == b) (Some e) None))
    either None h = one
    either (Some x) h = h

-- an entry alone is its own block's newest, and no other block's
alone_here : (o : Option Entry) (n : ℕ) → Of n o → newest (option_to_list o) n ≡ o
alone_here None n h = refl
alone_here (Some e) n h = ap (λ (t : Bool). cond t (Some e) None) (eq-eqb e.block.index n h)

alone_other : (o : Option Entry) (n b : ℕ) → Of n o → (n ≢ b) → newest (option_to_list o) b ≡ None
alone_other None n b h ne = refl
alone_other (Some e) n b h ne = ap (λ (t : Bool). cond t (Some e) None) (ne_eqb e.block.index b (λ q. ne (sym h ∙ q)))

-- the fold
past_fold : (n : ℕ) (es : List Entry) (b : ℕ) → n ≤ b → newest (fold n es) b ≡ None
unfolding fold
past_fold zero es b h = refl
past_fold (suc n) es b h =
    let l : n ≤ b = omega arith in
    let ne : n ≡ b → ⊥ = λ q. omega arith in
    newest_append (fold n es) (option_to_list (newest es n)) b
    ∙ ap₂ or_older (alone_other (newest es n) n b (of_newest es n) ne) (past_fold n es b l)

in_fold : (n : ℕ) (es : List Entry) (b : ℕ) → b < n → newest (fold n es) b ≡ newest es b
unfolding fold
in_fold zero es b h = absurd (not-suc-le-zero h)
in_fold (suc n) es b h = newest_append (fold n es) (option_to_list (newest es n)) b ∙ elim (cases_lt b n) [
  | inl l ↦
      let ne : n ≡ b → ⊥ = λ q. omega arith in
      ap₂ or_older (alone_other (newest es n) n b (of_newest es n) ne) (in_fold n es b l)
  | inr l ↦
      let q : b ≡ n = omega arith in
      ap (λ (k : ℕ). or_older (newest (option_to_list (newest es n)) k) (newest (fold n es) k)) q
      ∙ ap₂ or_older (alone_here (newest es n) n (of_newest es n)) (past_fold n es n (omega arith))
      ∙ or_older_none (newest es n) ∙ ap (newest es) (sym q)
]

pub fold_means : (es : List Entry) → replayed zeros (fold block_count es) ≡ replayed zeros es
fold_means es = ext_get_or [] _ _ (long (fold block_count es) ∙ sym (long es)) (λ b h.
    let l : b < block_count = omega (arith, long (fold block_count es)) in
    newest_counts (fold block_count es) b l ∙ ap held_by (in_fold block_count es b l) ∙ sym (newest_counts es b l))
  where
    long : (xs : List Entry) → length (replayed zeros xs) ≡ block_count
    long xs = (shaped_replayed zeros xs shaped_zeros).count

pub room_means : (es : List Entry) → replayed zeros (with_room es) ≡ replayed zeros es
room_means es = by (nat_lt (length es) capacity)
  where
    by : (t : Bool) → replayed zeros (cond t es (fold block_count es)) ≡ replayed zeros es
    by true = refl
    by false = fold_means es

-- the entries up to one, and that one
pub last_taken : (es : List Entry) (i n : ℕ) (e : Entry) → i + 1 ≡ n → i < length es → e ≡ slice_index_or es i e → take n es ≡ take i es ++ e ∷ []
last_taken es i n e s l q = ap (λ (k : ℕ). take k es) (sym s) ∙ take_more es i e l ∙ ap (λ (x : Entry). take i es ++ x ∷ []) (sym q)

-- the read
pub read_back : (es : List Entry) (b : ℕ) (o : Option Entry) → b < block_count → o ≡ newest es b → held_by o ≡ block_at (replayed zeros es) b
read_back es b o h e = ap held_by e ∙ sym (newest_counts es b h)

pub fold_more : (n : ℕ) (es kept more : List Entry) (o : Option Entry) → kept ≡ fold n es → o ≡ newest es n → more ≡ kept ++ option_to_list o → more ≡ fold (n + 1) es
unfolding fold
fold_more n es kept more o e q m = m ∙ ap₂ (λ (x : List Entry) (y : Option Entry). x ++ option_to_list y) e q ∙ ap (λ (k : ℕ). fold k es) (sym (add-one n))

-- a write: room is made, and then one entry is added
pub logged : (old room new : List Entry) (e : Entry) (b : ℕ) (d : List ℕ) → new ≡ room ++ e ∷ [] → room ≡ with_room old → e.block.index ≡ b → e.bytes ≡ d →
    (replayed zeros new ≡ with_block (replayed zeros old) b d) × Logged old b d new
logged old room new e b d a r en ed =
    let added : new ≡ with_room old ++ e ∷ [] = a ∙ ap (λ (es : List Entry). es ++ e ∷ []) r in (
      ap (replayed zeros) added ∙ replayed_push zeros (with_room old) e ∙ ap (λ (m : Memory). with_block m e.block.index e.bytes) (room_means old) ∙ ap₂ (with_block (replayed zeros old)) en ed,
      record { entry = e; number = en; bytes = ed; added = added },
    )
