-- What the tag keeps of a session is what the history tells of it; the first piece of an answer. Assumes nothing.
use Rattle.std.proofs.Common.{◌≡◌, ℕ, suc, ◌+◌, ◌-◌, ◌≤◌, Bool, true, false, cond, ◌||◌, eqb, ltb, List, [], ◌∷◌, ◌++◌, length, take, drop, Some, None, Option, sym, refl, ap, ◌∙◌, ap₂, arith, length-append, take_at}
use Rattle.std.proofs.lemmas.List.{take_all}
use Rattle.std.proofs.lemmas.Bool.{le-ltb, ltb-false, ne_eqb, and_left, both_ways}
use Rattle.std.specs.Str.{bytes_eq}
use Rattle.checksum.specs.Checksum.{crc_b}
use Rattle.memory.specs.Memory.{Memory, bytes_from, with_bytes, with_byte, block_of, offset_of}
use Rattle.reply.specs.Frames.{type_b_frame}
use Rattle.type_b.specs.declared.size.FrameSize.{FrameSize}
use Rattle.type_b.specs.declared.size.FrameSize.TheVariants.{Bytes64, Bytes96, Bytes128, Bytes256}
use Rattle.command.specs.declared.status.Status.{Status}
use Rattle.command.specs.declared.status.Status.TheVariants.{Normal, WrongLength, WrongClass, WrongInstruction, WrongParameters, NotAllowed}
use Rattle.command.specs.Orders.{Asked, answered, read, update, status_bytes, Within}
use Rattle.command.specs.Barred.{Read, Write, barred, touches}
use Rattle.command.specs.Performed.{answer_to, memory_after}
use Rattle.session.specs.Chains.{clip}
use Rattle.session.specs.Model.{SessionModel, inf_size, i_pcb, last_body}
use Rattle.type_b_service.specs.Turns.{Phase, idle, ready, halted, active}
use Rattle.tag.specs.Model.{Powered}
use Rattle.tag.specs.Steps.{type_b_reply}
use Rattle.tag.specs.Puts.{from_address, puts}
use Rattle.tag.specs.Account.{Progress, inf_in, chained_in, wrote_range, fixed_answer, read_accepted, update_accepted}

-- what is left to send, and that none is once a piece said that no more follows
pub record Front (x : Progress) (due rest : List ℕ) : Type 0 where
  pub split : x.given ++ rest ≡ due
  pub over : chained_in x.newest ≡ false → rest ≡ []

pub record Fits (x : Progress) (due : List ℕ) (t : SessionModel) : Type 0 where
  pub active : x.active ≡ true
  pub chain : t.chain ≡ clip x.pieces
  pub number : t.number ≡ x.number
  pub newest : type_b_reply (last_body t) ≡ x.newest
  pub front : Front x due t.rest

pub record Quiet (x : Progress) (due : List ℕ) : Type 0 where
  pub active : x.active ≡ false
  pub rest : List ℕ
  pub front : Front x due rest

abbrev pub Holds : Progress → List ℕ → Phase → Type 0
Holds x due idle = Quiet x due
Holds x due ready = Quiet x due
Holds x due halted = Quiet x due
Holds x due (active t) = Fits x due t

abbrev pub HoldsPower : Progress → List ℕ → Option Powered → Type 0
HoldsPower x due None = Quiet x due
HoldsPower x due (Some p) = Holds x due p.phase

-- what the history reads off a reply
inf_of : (x : ℕ) (p ck : List ℕ) → length ck ≡ 2 → take (length (x ∷ (p ++ ck)) - 3) (p ++ ck) ≡ p
inf_of x p ck e =
    let n : length (x ∷ (p ++ ck)) - 3 ≡ length p = simp length-append (omega arith) in
    ap (λ k. take k (p ++ ck)) n ∙ take_at p ck (length p) refl

pub inf_framed : (x : ℕ) (p : List ℕ) → inf_in (type_b_frame (x ∷ p)) ≡ p
inf_framed x p = inf_of x p (crc_b (x ∷ p)) refl

pub chained_framed : (n c : Bool) (p : List ℕ) → chained_in (type_b_frame (i_pcb n c ∷ p)) ≡ c
chained_framed true true p = refl
chained_framed false true p = refl
chained_framed true false p = refl
chained_framed false false p = refl

-- an answer's first piece
status_two : (s : Status) → length (status_bytes s) ≡ 2
status_two Normal = refl
status_two WrongLength = refl
status_two WrongClass = refl
status_two WrongInstruction = refl
status_two WrongParameters = refl
status_two NotAllowed = refl

room_some : (size : FrameSize) → 2 ≤ inf_size size
room_some Bytes64 = omega arith
room_some Bytes96 = omega arith
room_some Bytes128 = omega arith
room_some Bytes256 = omega arith

abbrev pub first_piece : FrameSize → Bool → List ℕ → List ℕ
first_piece size n a = type_b_frame (i_pcb n (ltb (inf_size size) (length a)) ∷ take (inf_size size) a)

pub inf_first : (size : FrameSize) (n : Bool) (a : List ℕ) → inf_in (first_piece size n a) ≡ take (inf_size size) a
inf_first size n a = inf_framed (i_pcb n (ltb (inf_size size) (length a))) (take (inf_size size) a)

-- a status goes out whole
status_whole : (size : FrameSize) (n : Bool) (a : List ℕ) → length a ≡ 2 → inf_in (first_piece size n a) ≡ a
status_whole size n a l = let h : length a ≤ inf_size size = omega (arith, room_some size) in inf_first size n a ∙ take_all (inf_size size) a h

-- none left where the piece is not chained
pub none_left : (size : FrameSize) (n : Bool) (a : List ℕ) → chained_in (first_piece size n a) ≡ false → length a ≤ inf_size size
none_left size n a e = ltb-false (inf_size size) (length a) (sym (chained_framed n (ltb (inf_size size) (length a)) (take (inf_size size) a)) ∙ e)

neither_of : (x y : Bool) → (x || y) ≡ false → x ≡ false
neither_of true y e = e
neither_of false y e = refl

pub unanswered_read : (k : ℕ) → read_accepted k [] ≡ false
unanswered_read k = and_left (eqb 0 (k + 2)) (bytes_eq (drop k []) (status_bytes Normal)) (ne_eqb 0 (k + 2) (λ e. omega arith))

-- bytes put from an address on are bytes written there
pub put_range : (m : Memory) (a : ℕ) (d : List ℕ) → with_bytes m a d ≡ puts m (from_address a d)
put_range m a [] = refl
put_range m a (v ∷ vs) = put_range (with_byte m (block_of a) (offset_of a) v) (suc a) vs

module _ (x : List ℕ) (m : Memory) (size : FrameSize) (n : Bool) where
  abbrev First : Asked → List ℕ
  First o = first_piece size n (answer_to x m o)

  -- a B0 that is not allowed is not one that the history takes for accepted
  refused_read : (k : ℕ) → 1 ≤ k → read_accepted k (first_piece size n (status_bytes NotAllowed)) ≡ false
  refused_read k some =
      let a = status_bytes NotAllowed in
      let w = first_piece size n a in
      let whole : inf_in w ≡ a = status_whole size n a refl in
      let plain : chained_in w ≡ false = chained_framed n (ltb (inf_size size) 2) (take (inf_size size) a) ∙ le-ltb (inf_size size) 2 (room_some size) in
      let other : length (inf_in w) ≡ k + 2 → ⊥ = λ e. omega (arith, ap length whole) in
      let short = and_left (eqb (length (inf_in w)) (k + 2)) (bytes_eq (drop k (inf_in w)) (status_bytes Normal)) (ne_eqb (length (inf_in w)) (k + 2) other) in
      ap₂ (λ x y. x || y) plain short

  pub open_read : (a k : ℕ) → 1 ≤ k → read_accepted k (First (read a k)) ≡ true → touches (barred Read x) a k ≡ false
  open_read a k some e = go (touches (barred Read x) a k) e
    where
      go : (t : Bool) → read_accepted k (first_piece size n (cond t (status_bytes NotAllowed) (bytes_from m a k ++ status_bytes Normal))) ≡ true → t ≡ false
      go true f = absurd (both_ways _ (refused_read k some) f)
      go false f = refl

  pub free_update : (a : ℕ) (d : List ℕ) → update_accepted (First (update a d)) ≡ true → touches (barred Write x) a (length d) ≡ false
  free_update a d e = go (touches (barred Write x) a (length d)) e
    where
      go : (t : Bool) → update_accepted (first_piece size n (cond t (status_bytes NotAllowed) (status_bytes Normal))) ≡ true → t ≡ false
      go true f = absurd (both_ways _ (ap (λ z. bytes_eq z (status_bytes Normal)) (status_whole size n (status_bytes NotAllowed) refl)) f)
      go false f = refl

  read_fixed : (t : Bool) (k : ℕ) (d : List ℕ) → 1 ≤ k → let a = cond t (status_bytes NotAllowed) (d ++ status_bytes Normal) in
      cond (read_accepted k (first_piece size n a)) (d ++ status_bytes Normal) (inf_in (first_piece size n a)) ≡ a
  read_fixed true k d some =
      let w = first_piece size n (status_bytes NotAllowed) in
      ap (λ t. cond t (d ++ status_bytes Normal) (inf_in w)) (refused_read k some) ∙ status_whole size n (status_bytes NotAllowed) refl
  read_fixed false k d some = go (read_accepted k (first_piece size n (d ++ status_bytes Normal))) refl
    where
      go : (t : Bool) → read_accepted k (first_piece size n (d ++ status_bytes Normal)) ≡ t →
          cond t (d ++ status_bytes Normal) (inf_in (first_piece size n (d ++ status_bytes Normal))) ≡ d ++ status_bytes Normal
      go true e = refl
      go false e =
          let h = none_left size n (d ++ status_bytes Normal) (neither_of _ _ e) in
          inf_first size n (d ++ status_bytes Normal) ∙ take_all (inf_size size) (d ++ status_bytes Normal) h

  -- the answer that the history takes for due is the tag's
  pub fixed_is : (o : Asked) → Within o → fixed_answer m o (First o) ≡ answer_to x m o
  fixed_is (answered s) w = status_whole size n (status_bytes s) (status_two s)
  fixed_is (read a k) w = read_fixed (touches (barred Read x) a k) k (bytes_from m a k) w.0
  fixed_is (update a d) w = go (touches (barred Write x) a (length d))
    where
      go : (t : Bool) → inf_in (first_piece size n (cond t (status_bytes NotAllowed) (status_bytes Normal))) ≡ cond t (status_bytes NotAllowed) (status_bytes Normal)
      go true = status_whole size n (status_bytes NotAllowed) refl
      go false = status_whole size n (status_bytes Normal) refl

  -- and the bytes that the history takes for written are the tag's
  pub wrote_is : (o : Asked) → memory_after x m o ≡ puts m (wrote_range (Some o) (First o))
  wrote_is (answered s) = refl
  wrote_is (read a k) = refl
  wrote_is (update a d) = go (touches (barred Write x) a (length d))
    where
      go : (t : Bool) → cond t m (with_bytes m a d) ≡
          puts m (cond (bytes_eq (inf_in (first_piece size n (cond t (status_bytes NotAllowed) (status_bytes Normal)))) (status_bytes Normal)) (from_address a d) [])
      go true = ap (λ z. puts m (cond (bytes_eq z (status_bytes Normal)) (from_address a d) [])) (sym (status_whole size n (status_bytes NotAllowed) refl))
      go false = put_range m a d ∙ ap (λ z. puts m (cond (bytes_eq z (status_bytes Normal)) (from_address a d) [])) (sym (status_whole size n (status_bytes Normal) refl))
