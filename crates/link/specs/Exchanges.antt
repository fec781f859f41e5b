-- What a link means, and what an exchange and a field change do to it. Assumes nothing.
use Rattle.std.specs.Prelude.{◌≡◌, ℕ, ◌+◌, ◌%◌, ◌^◌, ◌<◌, ◌≤◌, List, [], ◌∷◌, length, take, drop, Some, None, Ok, Err, Option, Result}
use Rattle.memory.specs.declared.refusal.Refusal.{Refusal}
use Rattle.memory.specs.declared.refusal.Refusal.TheVariants.{ReplyBufferShort}
use Rattle.type_b.specs.Frames.{Kind, kind_of}
use Rattle.tag.specs.Model.{Model}
use Rattle.tag.specs.Steps.{reply_room}
use Rattle.tag.specs.Kinds.{body_to, taken}
use Rattle.link.specs.declared.delivery.Delivery.{Delivery}
use Rattle.link.specs.declared.delivery.Delivery.TheVariants.{FrameLost, ReplyLost, Complete}
use Rattle.link.specs.Carried.{carried}

-- the tag behind a link, and the link's two counts, of 64 bits
pub record LinkState : Type 0 where
  pub tag : Model
  pub exchanges : ℕ
  pub unheard : ℕ

-- a body, where an empty one is silence
abbrev pub spoken : List ℕ → Option (List ℕ)
spoken [] = None
spoken (x ∷ xs) = Some (x ∷ xs)

-- what a tag answers to a frame of a kind, before the checksum
abbrev pub reply_to : Model → Kind → Option (List ℕ)
reply_to s k = spoken (body_to s.power s.memory k)

-- Unheard (a word of ours): no reply comes, or one with a wrong checksum. What is heard is the tag's reply, and only if neither frame nor reply was lost.
abbrev pub heard : Model → Kind → Delivery → Option (List ℕ)
heard s k FrameLost = None
heard s k ReplyLost = None
heard s k Complete = reply_to s k

-- the tag takes a frame once, or never if it was lost
abbrev pub tag_after : Model → Kind → Delivery → Model
tag_after s k FrameLost = s
tag_after s k ReplyLost = taken s k
tag_after s k Complete = taken s k

-- an unheard exchange is counted; the tag's own silence is one too
abbrev pub unheard_after : Option (List ℕ) → ℕ → ℕ
unheard_after None n = (n + 1) % 2 ^ 64
unheard_after (Some r) n = n

abbrev pub exchanged : LinkState → Kind → Delivery → LinkState
exchanged w k x = record { tag = tag_after w.tag k x; exchanges = (w.exchanges + 1) % 2 ^ 64; unheard = unheard_after (heard w.tag k x) w.unheard }

-- a change of the tag that is no exchange counts nothing
abbrev pub with_tag : LinkState → Model → LinkState
with_tag w t = record { tag = t; exchanges = w.exchanges; unheard = w.unheard }

-- what came over the air: the body of the bytes that came, if their checksum is right
abbrev pub came : Option ℕ → List ℕ → Option (List ℕ)
came None buffer = None
came (Some n) buffer = carried (take n buffer)

-- the bytes that came are at the front of the buffer, and the rest of it is as it was
abbrev pub Laid : Option ℕ → List ℕ → List ℕ → Type 0
Laid None before after = after ≡ before
Laid (Some n) before after = (n ≤ reply_room) × (drop n after ≡ drop n before)

-- One exchange between two states of a link, where `may l k x` says that the exchange k after the next may go like x. Only the delivery is unknown; all else is a
-- function of it.
pub record Exchange {L : Type 0} (state : L → LinkState) (may : L → ℕ → Delivery → Type 0) (l : L) (f : List ℕ) (o : Option ℕ) (before after : List ℕ) (l' : L) : Type 0 where
  pub delivery : Delivery
  pub allowed : may l 0 delivery
  pub later : (k : ℕ) (x : Delivery) → may l' k x → may l (k + 1) x
  pub leaves : state l' ≡ exchanged (state l) (kind_of f) delivery
  -- a reply is heard exactly, or it is unheard: nothing comes, or a frame with a wrong checksum
  pub hears : came o after ≡ heard (state l).tag (kind_of f) delivery
  pub laid : Laid o before after

-- an exchange is refused for want of room alone, and then nothing happens
abbrev pub Exchanged : {L : Type 0} (state : L → LinkState) (may : L → ℕ → Delivery → Type 0) → L → List ℕ → Result (Option ℕ) Refusal → List ℕ → List ℕ → L → Type 0
Exchanged state may l f (Ok o) before after l' = (reply_room ≤ length before) × Exchange state may l f o before after l'
Exchanged state may l f (Err e) before after l' = (length before < reply_room) × (e ≡ ReplyBufferShort) × (after ≡ before) × (l' ≡ l)

-- the tag behind the link changes so, the counts stay, and what may become of later exchanges too
pub record Changed {L : Type 0} (state : L → LinkState) (may : L → ℕ → Delivery → Type 0) (change : Model → Model) (l l' : L) : Type 0 where
  pub later : (k : ℕ) (x : Delivery) → may l' k x → may l k x
  pub leaves : state l' ≡ with_tag (state l) (change (state l).tag)
