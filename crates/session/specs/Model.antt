-- A session as the rules speak of it. Assumes nothing.
use Rattle.std.specs.Prelude.{ℕ, ◌-◌, Bool, true, false, cond, not, List, [], ◌∷◌, length, take, drop, nat_lt}
use Rattle.type_b.specs.Sizes.{size_of}
use Rattle.type_b.specs.declared.size.FrameSize.{FrameSize}
use Rattle.session.specs.Chains.{Joined, short, more, joined_last}

-- the last I-block, or R(ACK) to an I-block, if there was one
pub data LastSent : Type 0 where
  nothing : LastSent
  acknowledgement : LastSent
  piece : (chained : Bool) (inf : List ℕ) → LastSent

-- frame size, the tag's block number, the chain, the last block sent, and the bytes of the answer that are not yet sent
pub record SessionModel : Type 0 where
  pub size : FrameSize
  pub number : Bool
  pub chain : Joined
  pub last : LastSent
  pub rest : List ℕ

-- R(ACK) is A2, and bit 0 the block number
abbrev pub ack_pcb : Bool → ℕ
ack_pcb number = cond number 0xa3 0xa2

-- an I-block is 02, or 12 when it is chained, and bit 0 the block number
abbrev pub i_pcb : Bool → Bool → ℕ
i_pcb number chained = cond chained (cond number 0x13 0x12) (cond number 0x03 0x02)

-- the body of such a block; where there was none it is empty
abbrev pub sent_body : Bool → LastSent → List ℕ
sent_body number nothing = []
sent_body number acknowledgement = ack_pcb number ∷ []
sent_body number (piece chained inf) = i_pcb number chained ∷ inf

-- the body of the last block under the tag's number
abbrev pub last_body : SessionModel → List ℕ
last_body t = sent_body t.number t.last

-- after ATTRIB the block number is 1, the chain empty, and there is nothing to send again
abbrev pub started : FrameSize → SessionModel
started size = record { size = size; number = true; chain = short []; last = nothing; rest = [] }

-- a piece is as long as the frame less PCB and checksum
abbrev pub inf_size : FrameSize → ℕ
inf_size size = size_of size - 3

-- a block is sent that was not sent before: the number toggles
abbrev pub toggled : SessionModel → Joined → LastSent → List ℕ → SessionModel
toggled t chain last rest = record { size = t.size; number = not t.number; chain = chain; last = last; rest = rest }

-- a chained I-block adds its INF to the chain and gets R(ACK), and what was not yet sent is dropped
abbrev pub after_chained : SessionModel → List ℕ → SessionModel
after_chained t inf = toggled t (more t.chain inf) acknowledgement []

-- the first piece of `out` is sent: it is chained if more follows
abbrev pub sends : SessionModel → Joined → List ℕ → SessionModel
sends t chain out = let n = inf_size t.size in toggled t chain (piece (nat_lt n (length out)) (take n out)) (drop n out)

-- an unchained I-block empties the chain, and its answer takes the place of what is not yet sent
abbrev pub after_answer : SessionModel → List ℕ → SessionModel
after_answer t answer = sends t (short []) answer

-- the next piece is sent, if one is left
abbrev pub next_sent : SessionModel → SessionModel
next_sent t = cond (nat_lt 0 (length t.rest)) (sends t t.chain t.rest) t

-- two block numbers are the same
abbrev pub same_number : Bool → Bool → Bool
same_number true b = b
same_number false b = not b

-- R(ACK) with the tag's number changes nothing; with the other one the next piece is sent
abbrev pub after_ack : SessionModel → Bool → SessionModel
after_ack t n = cond (same_number n t.number) t (next_sent t)

-- with the tag's number the last block is sent again; with the other one the next piece, and where none is left nothing
abbrev pub ack_reply : SessionModel → Bool → List ℕ
ack_reply t n = cond (same_number n t.number) (last_body t) (cond (nat_lt 0 (length t.rest)) (last_body (next_sent t)) [])

-- R(NAK) with the tag's number: the last block is sent again; with the other one R(ACK) with the tag's own
abbrev pub nak_reply : SessionModel → Bool → List ℕ
nak_reply t n = cond (same_number n t.number) (last_body t) (ack_pcb t.number ∷ [])

-- the INF of an unchained I-block has joined the chain
abbrev pub joined_to : SessionModel → List ℕ → SessionModel
joined_to t inf = record { size = t.size; number = t.number; chain = joined_last t.chain inf; last = t.last; rest = t.rest }
