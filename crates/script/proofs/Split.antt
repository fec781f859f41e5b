-- A line is cut after its spaces, and after its first word. Assumes nothing.
use Rattle.std.proofs.Common.{◌≡◌, ℕ, suc, ◌<◌, ◌≤◌, not, Some, None, Bool, true, false, cond, eqb, List, [], ◌∷◌, length, get_or, take, drop, sym, refl, ap, ◌∙◌, ap₂, ⊎_elim, one-add, arith}
use Rattle.std.specs.List.{position, position_or_len}
use Rattle.std.proofs.lemmas.List.{drop_all, length-drop}
use Rattle.std.proofs.lemmas.Option.{cond_some}
use Rattle.std.proofs.lemmas.Bool.{cases_Bool}
use Rattle.std.proofs.lemmas.Bool.Decides.{nat_tests}
use Rattle.script.specs.Words.{Word, parts, filled, words_of, on_first}

-- how many spaces begin a line, and how long its first word is where none does
abbrev pub blanks : List ℕ → ℕ
blanks l = position_or_len (λ c. not (eqb c 32)) l

abbrev pub word_len : List ℕ → ℕ
word_len l = position_or_len (λ c. eqb c 32) l

module _ (c : ℕ) (cs : List ℕ) where
  pub parts_by : (b : Bool) → eqb c 32 ≡ b → parts (c ∷ cs) ≡ cond b ([] ∷ parts cs) (on_first c (parts cs))
  parts_by b e = ap (λ b. cond b ([] ∷ parts cs) (on_first c (parts cs))) e

  leading_by : (p : Bool → Bool) (b : Bool) → eqb c 32 ≡ b → position_or_len (λ c. p (eqb c 32)) (c ∷ cs) ≡ cond (not (p b)) (suc (position_or_len (λ c. p (eqb c 32)) cs)) 0
  leading_by p b e = ap₂ (λ b n. cond (not (p b)) n 0) e (one-add _)

-- the parts after the first word
abbrev after : List ℕ → List Word
after [] = []
after (c ∷ cs) = parts cs

pub parts_cut : (l : List ℕ) → parts l ≡ take (word_len l) l ∷ after (drop (word_len l) l)
parts_cut [] = refl
parts_cut (c ∷ cs) =
    ⊎_elim
    (λ e. parts_by c cs true e ∙ sym (ap (λ n. take n (c ∷ cs) ∷ after (drop n (c ∷ cs))) (leading_by c cs (λ b. b) true e)))
    (λ e. parts_by c cs false e ∙ ap (on_first c) (parts_cut cs) ∙ sym (ap (λ n. take n (c ∷ cs) ∷ after (drop n (c ∷ cs))) (leading_by c cs (λ b. b) false e)))
    (cases_Bool (eqb c 32))

after_words : (l : List ℕ) → filled (after (drop (word_len l) l)) ≡ words_of (drop (word_len l) l)
after_words [] = refl
after_words (c ∷ cs) =
    ⊎_elim
    (λ e. ap (λ n. filled (after (drop n (c ∷ cs)))) (leading_by c cs (λ b. b) true e) ∙ sym (ap filled (parts_by c cs true e)) ∙ sym (ap (λ n. words_of (drop n (c ∷ cs))) (leading_by c cs (λ b. b) true e)))
    (λ e. ap (λ n. filled (after (drop n (c ∷ cs)))) (leading_by c cs (λ b. b) false e) ∙ after_words cs ∙ sym (ap (λ n. words_of (drop n (c ∷ cs))) (leading_by c cs (λ b. b) false e)))
    (cases_Bool (eqb c 32))

-- spaces at the front do not matter
pub words_blanks : (l : List ℕ) → words_of (drop (blanks l) l) ≡ words_of l
words_blanks [] = refl
words_blanks (c ∷ cs) =
    ⊎_elim
    (λ e. ap (λ n. words_of (drop n (c ∷ cs))) (leading_by c cs not true e) ∙ words_blanks cs ∙ sym (ap filled (parts_by c cs true e)))
    (λ e. ap (λ n. words_of (drop n (c ∷ cs))) (leading_by c cs not false e))
    (cases_Bool (eqb c 32))

blanks_end : (l : List ℕ) → 0 < length (drop (blanks l) l) → eqb (get_or (drop (blanks l) l) 0 0) 32 ≡ false
blanks_end [] h = absurd (omega arith)
blanks_end (c ∷ cs) h =
    ⊎_elim
    (λ e. let n = leading_by c cs not true e in ap (λ n. eqb (get_or (drop n (c ∷ cs)) 0 0) 32) n ∙ blanks_end cs (omega (arith, h, ap (λ n. length (drop n (c ∷ cs))) n)))
    (λ e. ap (λ n. eqb (get_or (drop n (c ∷ cs)) 0 0) 32) (leading_by c cs not false e) ∙ e)
    (cases_Bool (eqb c 32))

first_word : (l : List ℕ) → 0 < length l → eqb (get_or l 0 0) 32 ≡ false → words_of l ≡ take (word_len l) l ∷ words_of (drop (word_len l) l)
first_word [] h e = absurd (omega arith)
first_word (c ∷ cs) h e =
    ap filled (parts_by c cs false e ∙ ap (on_first c) (parts_cut cs))
    ∙ ap (λ ws. (c ∷ take (word_len cs) cs) ∷ ws) (after_words cs)
    ∙ sym (ap (λ n. take n (c ∷ cs) ∷ words_of (drop n (c ∷ cs))) (leading_by c cs (λ b. b) false e))

module _ (l : List ℕ) where
  -- nothing but spaces is left
  pub no_word : position (λ c. not (eqb c 32)) l ≡ None → words_of l ≡ []
  no_word e =
      let past : length l ≤ blanks l = grind (arith, nat_tests) in
      sym (words_blanks l) ∙ ap words_of (drop_all (blanks l) l past)

  -- n spaces begin the line, m is the rest of it, and its first word is k bytes long
  pub next_word : (n : ℕ) (m : List ℕ) (k : ℕ) → position (λ c. not (eqb c 32)) l ≡ Some n → m ≡ drop n l → k ≡ word_len m → words_of l ≡ take k m ∷ words_of (drop k m)
  next_word n m k found back len =
      let at = cond_some _ (blanks l) n found in
      let some : 0 < length (drop (blanks l) l) = grind (arith, nat_tests, at.0, length-drop (blanks l) l) in
      let cut : drop (blanks l) l ≡ m = ap (λ n. drop n l) at.1 ∙ sym back in
      sym (words_blanks l)
      ∙ first_word (drop (blanks l) l) some (blanks_end l some)
      ∙ ap (λ m. take (word_len m) m ∷ words_of (drop (word_len m) m)) cut
      ∙ sym (ap (λ k. take k m ∷ words_of (drop k m)) len)
