-- A command in pieces is the command, an answer in pieces is the answer, and what is sent again is what was sent before. Assumes nothing.
use Rattle.std.specs.Prelude.{◌≡◌, ℕ, zero, suc, ◌≤◌, Bool, true, false, cond, not, ◌⊎◌, List, [], ◌∷◌, ◌++◌, length, nat_lt}
use Rattle.std.specs.List.{flat_map}
use Rattle.command.specs.Orders.{asked_by}
use Rattle.session.specs.Chains.{short, chain_of, joined_last, picked_order}
use Rattle.session.specs.Model.{LastSent, nothing, acknowledgement, piece, SessionModel, last_body, inf_size, after_answer, after_ack, ack_reply, nak_reply}

-- a command that came in the INFs of chained I-blocks and of an unchained one, as it is picked from frame or chain, asks what the INFs joined ask
abbrev pub CommandsJoin : Type 0
CommandsJoin = (infs : List (List ℕ)) (inf : List ℕ) → picked_order (joined_last (chain_of (short []) infs) inf) inf ≡ asked_by (flat_map (λ x. x) infs ++ inf)

-- the INF of a block; R(ACK) has none
abbrev pub inf_of : LastSent → List ℕ
inf_of nothing = []
inf_of acknowledgement = []
inf_of (piece chained inf) = inf

-- whether a block is chained
abbrev pub is_chained : LastSent → Bool
is_chained nothing = false
is_chained acknowledgement = false
is_chained (piece chained inf) = chained

-- the reader acknowledges the block with the number that is not the tag's
abbrev pub acknowledged : SessionModel → SessionModel
acknowledged t = after_ack t (not t.number)

-- the blocks that follow the last one, if the reader acknowledges each, until nothing is left; at most n of them
abbrev pub sent_after : ℕ → SessionModel → List LastSent
sent_after zero t = []
sent_after (suc n) t = cond (nat_lt 0 (length t.rest)) ((acknowledged t).last ∷ sent_after n (acknowledged t)) []

-- all blocks in which an answer goes out: no more than it has bytes
abbrev pub sent_for : SessionModel → List ℕ → List LastSent
sent_for t answer = let first = after_answer t answer in first.last ∷ sent_after (length answer) first

-- no piece is empty; each but the last is chained and as long as can be, and the last is unchained and no longer
abbrev pub WellCut : ℕ → List LastSent → Type 0
WellCut most [] = ⊥
WellCut most (b ∷ []) = (is_chained b ≡ false) × (1 ≤ length (inf_of b)) × (length (inf_of b) ≤ most)
WellCut most (b ∷ c ∷ bs) = (is_chained b ≡ true) × (1 ≤ length (inf_of b)) × (length (inf_of b) ≡ most) × WellCut most (c ∷ bs)

-- the pieces of an answer that has a byte at least, joined, are the answer, and they are cut as they should be
pub record PiecesJoin : Type 0 where
  pub whole : (t : SessionModel) (answer : List ℕ) → 1 ≤ length answer → flat_map inf_of (sent_for t answer) ≡ answer
  pub each : (t : SessionModel) (answer : List ℕ) → 1 ≤ length answer → WellCut (inf_size t.size) (sent_for t answer)

-- An R-block with the tag's number gets the last block and leaves the session as it is, so it may come as often as it will.
-- And what R(ACK) gets is either silence or, from then on, the last block.
pub record RepeatsSame : Type 0 where
  pub again_ack : (t : SessionModel) → ack_reply t t.number ≡ last_body t
  pub again_nak : (t : SessionModel) → nak_reply t t.number ≡ last_body t
  pub kept : (t : SessionModel) → after_ack t t.number ≡ t
  pub newest : (t : SessionModel) (n : Bool) → (ack_reply t n ≡ []) ⊎ (ack_reply t n ≡ last_body (after_ack t n))
