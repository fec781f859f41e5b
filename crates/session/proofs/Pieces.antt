-- The blocks in which an answer goes out. Assumes nothing.
use Rattle.std.proofs.Common.{◌≡◌, ℕ, zero, suc, ◌<◌, ◌≤◌, Bool, true, false, cond, not, ltb, ◌⊎◌, List, [], ◌∷◌, ◌++◌, length, take, drop, sym, refl, ap, ◌∙◌, subst, inl, inr, arith, length-drop, length-take}
use Rattle.std.specs.List.{flat_map}
use Rattle.std.proofs.lemmas.List.{take-append-drop}
use Rattle.std.proofs.lemmas.Bool.{cond-true, cond-false, lt-ltb}
use Rattle.type_b.specs.declared.size.FrameSize.{FrameSize}
use Rattle.type_b.specs.declared.size.FrameSize.TheVariants.{Bytes64, Bytes96, Bytes128, Bytes256}
use Rattle.session.specs.Chains.{Joined}
use Rattle.session.specs.Model.{LastSent, piece, SessionModel, last_body, inf_size, same_number, sends, next_sent, after_answer}
use Rattle.session.specs.Laws.{inf_of, acknowledged, sent_after, sent_for, WellCut, PiecesJoin, RepeatsSame}
use Rattle.session.proofs.Cuts.{some_left}

room : (size : FrameSize) → 1 ≤ inf_size size
room Bytes64 = omega arith
room Bytes96 = omega arith
room Bytes128 = omega arith
room Bytes256 = omega arith

own : (b : Bool) → same_number b b ≡ true
own true = refl
own false = refl

other : (b : Bool) → same_number (not b) b ≡ false
other true = refl
other false = refl

-- where something is left, the reader's R(ACK) has the next piece sent
goes_on : (t : SessionModel) → 0 < length t.rest → acknowledged t ≡ sends t t.chain t.rest
goes_on t h = cond-false _ _ _ (other t.number) ∙ cond-true _ _ _ (lt-ltb 0 (length t.rest) h)

one_more_is : (n : ℕ) (t : SessionModel) → 0 < length t.rest
    → sent_after (suc n) t ≡ (sends t t.chain t.rest).last ∷ sent_after n (sends t t.chain t.rest)
one_more_is n t h = cond-true _ _ _ (lt-ltb 0 (length t.rest) h) ∙ ap (λ u. u.last ∷ sent_after n u) (goes_on t h)

-- a session that has just sent the piece p, with r left
abbrev at : FrameSize → Bool → Joined → Bool → List ℕ → List ℕ → SessionModel
at size number chain c p r = record { size = size; number = number; chain = chain; last = piece c p; rest = r }

-- what is claimed of the blocks from that piece on
abbrev Claimed : FrameSize → Bool → List ℕ → List ℕ → List LastSent → Type 0
Claimed size c p r after = (flat_map inf_of (piece c p ∷ after) ≡ p ++ r) × WellCut (inf_size size) (piece c p ∷ after)

cut : (n : ℕ) (size : FrameSize) (number : Bool) (chain : Joined) (c : Bool) (p r : List ℕ)
    → c ≡ ltb 0 (length r) → 1 ≤ length p → length p ≤ inf_size size → (0 < length r → length p ≡ inf_size size) → length r ≤ n
    → Claimed size c p r (sent_after n (at size number chain c p r))
cut zero size number chain c p [] e some most full few = (refl, (e, some, most))
cut zero size number chain c p (x ∷ r) e some most full few = absurd (omega arith)
cut (suc n) size number chain c p [] e some most full few = (refl, (e, some, most))
cut (suc n) size number chain c p (x ∷ r) e some most full few =
    let t = at size number chain c p (x ∷ r) in
    let m = inf_size size in
    let q = take (inf_size size) (x ∷ r) in
    let s = drop (inf_size size) (x ∷ r) in
    let here : 0 < length (x ∷ r) = omega arith in
    let one = room size in
    let some' : 1 ≤ length (take (inf_size size) (x ∷ r)) = simp length-take (omega arith) in
    let most' : length (take (inf_size size) (x ∷ r)) ≤ inf_size size = simp length-take (omega arith) in
    let full' : 0 < length (drop (inf_size size) (x ∷ r)) → length (take (inf_size size) (x ∷ r)) ≡ inf_size size =
    λ k. simp length-take (omega (arith, length-drop (inf_size size) (x ∷ r))) in
    let few' : length (drop (inf_size size) (x ∷ r)) ≤ n = simp length-drop (omega arith) in
    let next = cut n size (not number) chain (ltb m (length (x ∷ r))) q s (some_left (x ∷ r) m) some' most' full' few' in
    let whole : p ++ (flat_map inf_of (piece (ltb m (length (x ∷ r))) q ∷ sent_after n (sends t chain (x ∷ r)))) ≡ p ++ (x ∷ r) =
    ap (λ z. p ++ z) (next.0 ∙ take-append-drop m (x ∷ r)) in
    subst (Claimed size c p (x ∷ r)) (sym (one_more_is n t here)) (whole, (e ∙ lt-ltb 0 (length (x ∷ r)) here, some, full here, next.1))

sent : (t : SessionModel) (answer : List ℕ) → 1 ≤ length answer
    → (flat_map inf_of (sent_for t answer) ≡ answer) × WellCut (inf_size t.size) (sent_for t answer)
sent t answer h =
    let m = inf_size t.size in
    let one = room t.size in
    let some : 1 ≤ length (take (inf_size t.size) answer) = simp length-take (omega arith) in
    let most : length (take (inf_size t.size) answer) ≤ inf_size t.size = simp length-take (omega arith) in
    let full : 0 < length (drop (inf_size t.size) answer) → length (take (inf_size t.size) answer) ≡ inf_size t.size =
    λ k. simp length-take (omega (arith, length-drop (inf_size t.size) answer)) in
    let few : length (drop (inf_size t.size) answer) ≤ length answer = simp length-drop (omega arith) in
    let all = cut (length answer) t.size (not t.number) (after_answer t answer).chain (ltb m (length answer)) (take m answer) (drop m answer) (some_left answer m) some most full few in
    (all.0 ∙ take-append-drop m answer, all.1)

pub pieces_join : PiecesJoin
pieces_join = record { whole = λ t answer h. (sent t answer h).0; each = λ t answer h. (sent t answer h).1 }

-- either the last block, or the next piece, or silence
newest : (own left : Bool) (t u : SessionModel)
    → (cond own (last_body t) (cond left (last_body u) []) ≡ []) ⊎ (cond own (last_body t) (cond left (last_body u) []) ≡ last_body (cond own t u))
newest true left t u = inr refl
newest false true t u = inr refl
newest false false t u = inl refl

pub repeats_same : RepeatsSame
repeats_same = record {
  again_ack = λ t. cond-true _ _ _ (own t.number);
  again_nak = λ t. cond-true _ _ _ (own t.number);
  kept = λ t. cond-true _ _ _ (own t.number);
  newest = λ t n. newest (same_number n t.number) (ltb 0 (length t.rest)) t (next_sent t);
}
