-- Pieces of a command joined. Assumes nothing.
use Rattle.std.proofs.Common.{◌≡◌, ℕ, ◌<◌, Bool, true, false, cond, leb, List, [], ◌∷◌, ◌++◌, length, sym, refl, ap, ◌∙◌, append_assoc, append-nil, arith, length-append}
use Rattle.std.specs.List.{flat_map}
use Rattle.std.proofs.lemmas.Bool.{le-leb, lt-leb, leb-false}
use Rattle.command.specs.Orders.{asked_by, answered}
use Rattle.command.specs.declared.status.Status.TheVariants.{WrongLength}
use Rattle.session.specs.Chains.{Joined, short, long, clip, more, joined_last, commanded, picked_order, chain_of}

-- the chain never holds more than 256 bytes, and a longer command is answered as one
pub more_clip : (l p : List ℕ) → more (clip l) p ≡ clip (l ++ p)
more_clip l p = go (leb (length l) 256) refl
  where
    go : (t : Bool) → leb (length l) 256 ≡ t → more (cond t (short l) long) p ≡ clip (l ++ p)
    go true e = refl
    go false e =
        let over : 256 < length (l ++ p) = simp length-append (omega (arith, leb-false (length l) 256 e)) in
        sym (ap (λ t. cond t (short (l ++ p)) long) (lt-leb (length (l ++ p)) 256 over))

too_long : (l : List ℕ) → 256 < length l → asked_by l ≡ answered WrongLength
unfolding asked_by
too_long l h = simp (le-leb 4 (length l) (omega arith), lt-leb (length l) 256 h)

pub commanded_clip : (l : List ℕ) → commanded (clip l) ≡ asked_by l
commanded_clip l = go (leb (length l) 256) refl
  where
    go : (t : Bool) → leb (length l) 256 ≡ t → commanded (cond t (short l) long) ≡ asked_by l
    go true e = refl
    go false e = sym (too_long l (leb-false (length l) 256 e))

-- the command picked from frame or chain is the one that the joined pieces make
pub picked_is : (j : Joined) (inf : List ℕ) → picked_order (joined_last j inf) inf ≡ commanded (more j inf)
picked_is long inf = refl
picked_is (short []) inf = sym (commanded_clip inf)
picked_is (short (x ∷ c)) inf = go (leb (length ((x ∷ c) ++ inf)) 256)
  where
    go : (t : Bool) → picked_order (cond t (short ((x ∷ c) ++ inf)) long) inf ≡ commanded (cond t (short ((x ∷ c) ++ inf)) long)
    go true = refl
    go false = refl

-- the chain holds all that came, if it is not too long
chain_clip : (l : List ℕ) (infs : List (List ℕ)) → chain_of (clip l) infs ≡ clip (l ++ flat_map (λ x. x) infs)
chain_clip l [] = ap clip (sym (append-nil l))
chain_clip l (p ∷ infs) =
    ap (λ j. chain_of j infs) (more_clip l p) ∙ chain_clip (l ++ p) infs ∙ ap clip (append_assoc l p (flat_map (λ x. x) infs))

pub commands_join : (infs : List (List ℕ)) (inf : List ℕ) → picked_order (joined_last (chain_of (short []) infs) inf) inf ≡ asked_by (flat_map (λ x. x) infs ++ inf)
commands_join infs inf =
    let l = flat_map (λ x. x) infs in
    picked_is (chain_of (short []) infs) inf
    ∙ ap (λ j. commanded (more j inf)) (chain_clip [] infs)
    ∙ ap commanded (more_clip l inf)
    ∙ commanded_clip (l ++ inf)
