-- Lines and their words, put together and taken apart. Assumes nothing.
use Rattle.std.proofs.Common.{◌≡◌, ℕ, suc, Bool, true, false, cond, ◌&&◌, eqb, ltb, List, [], ◌∷◌, ◌++◌, length, get_or, take, sym, refl, ap, ◌∙◌, ap₂, ⊎_elim, append-nil, sub-one, arith}
use Rattle.std.proofs.lemmas.Bool.{cases_Bool, and_parts, ltb-true, ne_eqb, false≢true}
use Rattle.script.specs.Words.{Word, without_return, on_first, parts, filled, words_of}
use Rattle.script.specs.Line.{read_words}
use Rattle.script.specs.Written.{spaced, SpacesChangeNothing}
use Rattle.script.proofs.Split.{parts_by, parts_cut}

-- the line l, whose last byte stands at n, without a carriage return there
abbrev cut : ℕ → List ℕ → List ℕ
cut n l = cond (eqb (get_or l n 0) 13) (take n l) l

cond_cons : (b : Bool) (c : ℕ) (k l : List ℕ) → cond b (c ∷ k) (c ∷ l) ≡ c ∷ cond b k l
cond_cons true c k l = refl
cond_cons false c k l = refl

return_step : (c d : ℕ) (l : List ℕ) → without_return (c ∷ d ∷ l) ≡ c ∷ without_return (d ∷ l)
return_step c d l =
    ap (λ n. cut n (c ∷ d ∷ l)) (sub-one (suc (suc (length l))))
    ∙ cond_cons (eqb (get_or (d ∷ l) (length l) 0) 13) c (take (length l) (d ∷ l)) (d ∷ l)
    ∙ ap (λ n. c ∷ cut n (d ∷ l)) (sym (sub-one (suc (length l))))

-- only the end of a line matters for its carriage return
pub return_append : (k : List ℕ) (d : ℕ) (l : List ℕ) → without_return (k ++ d ∷ l) ≡ k ++ without_return (d ∷ l)
return_append [] d l = refl
return_append (c ∷ []) d l = return_step c d l
return_append (c ∷ b ∷ k) d l = return_step c b (k ++ d ∷ l) ∙ ap (λ m. c ∷ m) (return_append (b ∷ k) d l)

return_space : (l : List ℕ) → without_return (32 ∷ l) ≡ 32 ∷ without_return l
return_space [] = refl
return_space (d ∷ l) = return_step 32 d l

on_first_append : (c : ℕ) (w : Word) (vs ws ps : List Word) → ps ≡ w ∷ vs → on_first c (ps ++ ws) ≡ on_first c ps ++ ws
on_first_append c w vs ws ps e = ap (λ ps. on_first c (ps ++ ws)) e ∙ sym (ap (λ ps. on_first c ps ++ ws) e)

parts_append : (k l : List ℕ) → parts (k ++ 32 ∷ l) ≡ parts k ++ parts l
parts_append [] l = refl
parts_append (c ∷ k) l =
    ⊎_elim
    (λ e. parts_by c (k ++ 32 ∷ l) true e ∙ ap (λ ps. [] ∷ ps) (parts_append k l) ∙ sym (ap (λ ps. ps ++ parts l) (parts_by c k true e)))
    (λ e.
    parts_by c (k ++ 32 ∷ l) false e
    ∙ ap (on_first c) (parts_append k l)
    ∙ on_first_append c _ _ (parts l) (parts k) (parts_cut k)
    ∙ sym (ap (λ ps. ps ++ parts l) (parts_by c k false e)))
    (cases_Bool (eqb c 32))

filled_append : (vs ws : List Word) → filled (vs ++ ws) ≡ filled vs ++ filled ws
filled_append [] ws = refl
filled_append ([] ∷ vs) ws = filled_append vs ws
filled_append ((c ∷ v) ∷ vs) ws = ap (λ us. (c ∷ v) ∷ us) (filled_append vs ws)

-- the words on both sides of a space
pub words_append : (k l : List ℕ) → words_of (k ++ 32 ∷ l) ≡ words_of k ++ words_of l
words_append k l = ap filled (parts_append k l) ∙ filled_append (parts k) (parts l)

pub spaces_change_nothing : SpacesChangeNothing
spaces_change_nothing = record {
  beside = λ l m.
      ap (λ k. read_words (words_of k)) (return_append l 32 (32 ∷ m) ∙ ap (λ k. l ++ k) (return_step 32 32 m))
      ∙ ap read_words (words_append l (without_return (32 ∷ m)) ∙ ap (λ k. words_of l ++ words_of k) (return_space m) ∙ sym (words_append l (without_return m)))
      ∙ sym (ap (λ k. read_words (words_of k)) (return_append l 32 m ∙ ap (λ k. l ++ k) (return_space m)));
  before = λ l. ap (λ k. read_words (words_of k)) (return_space l);
  after = λ l e.
      ap read_words (ap words_of (return_append l 32 []) ∙ words_append l [] ∙ append-nil (words_of l) ∙ ap words_of (sym e));
  return = λ l e. ap (λ k. read_words (words_of k)) (return_append l 13 [] ∙ append-nil l ∙ sym e);
}

-- each byte comes after the space
abbrev pub visible : Word → Bool
visible [] = true
visible (c ∷ w) = ltb 32 c && visible w

-- at least one byte, and each comes after the space
abbrev pub solid : Word → Bool
solid [] = false
solid (c ∷ w) = visible (c ∷ w)

abbrev pub all_solid : List Word → Bool
all_solid [] = true
all_solid (w ∷ ws) = solid w && all_solid ws

parts_visible : (w : Word) → visible w ≡ true → parts w ≡ w ∷ []
parts_visible [] h = refl
parts_visible (c ∷ w) h =
    let both = and_parts (ltb 32 c) (visible w) h in
    parts_by c w false (ne_eqb c 32 (λ e. omega (arith, ltb-true 32 c both.0))) ∙ ap (on_first c) (parts_visible w both.1)

words_solid : (w : Word) → solid w ≡ true → words_of w ≡ w ∷ []
words_solid [] h = absurd (false≢true h)
words_solid (c ∷ w) h = ap filled (parts_visible (c ∷ w) h)

return_visible : (w : Word) → visible w ≡ true → without_return w ≡ w
return_visible [] h = refl
return_visible (c ∷ []) h =
    let both = and_parts (ltb 32 c) true h in
    ap (λ b. cond b [] (c ∷ [])) (ne_eqb c 13 (λ e. omega (arith, ltb-true 32 c both.0)))
return_visible (c ∷ d ∷ w) h = return_step c d w ∙ ap (λ m. c ∷ m) (return_visible (d ∷ w) (and_parts (ltb 32 c) (visible (d ∷ w)) h).1)

solid_visible : (w : Word) → solid w ≡ true → visible w ≡ true
solid_visible [] h = refl
solid_visible (c ∷ w) h = h

return_spaced : (ws : List Word) → all_solid ws ≡ true → without_return (spaced ws) ≡ spaced ws
return_spaced [] h = refl
return_spaced (w ∷ []) h = return_visible w (solid_visible w (and_parts (solid w) true h).0)
return_spaced (w ∷ v ∷ ws) h =
    return_append w 32 (spaced (v ∷ ws))
    ∙ ap (λ l. w ++ l) (return_space (spaced (v ∷ ws)) ∙ ap (λ l. 32 ∷ l) (return_spaced (v ∷ ws) (and_parts (solid w) (all_solid (v ∷ ws)) h).1))

words_spaced : (ws : List Word) → all_solid ws ≡ true → words_of (spaced ws) ≡ ws
words_spaced [] h = refl
words_spaced (w ∷ []) h = words_solid w (and_parts (solid w) true h).0
words_spaced (w ∷ v ∷ ws) h =
    let both = and_parts (solid w) (all_solid (v ∷ ws)) h in
    words_append w (spaced (v ∷ ws)) ∙ ap₂ (λ us vs. us ++ vs) (words_solid w both.0) (words_spaced (v ∷ ws) both.1)

-- words that are written with one space between are read again
pub spaced_read : (ws : List Word) → all_solid ws ≡ true → words_of (without_return (spaced ws)) ≡ ws
spaced_read ws h = ap words_of (return_spaced ws h) ∙ words_spaced ws h
