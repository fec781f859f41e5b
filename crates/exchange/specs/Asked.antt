-- One exchange, without the checksums. Assumes nothing.
use Rattle.std.specs.Prelude.{◌≡◌, ℕ, ◌+◌, List, Option}
use Rattle.reply.specs.Frames.{type_b_frame}
use Rattle.type_b.specs.Frames.{kind_of}
use Rattle.link.specs.declared.delivery.Delivery.{Delivery}
use Rattle.link.specs.Exchanges.{LinkState, heard, exchanged}

-- a body was sent as a frame, and the body of a reply was heard or not
pub record Asked {L : Type 0} (state : L → LinkState) (may : L → ℕ → Delivery → Type 0) (l : L) (body : List ℕ) (r : Option (List ℕ)) (l' : L) : Type 0 where
  pub delivery : Delivery
  pub allowed : may l 0 delivery
  pub later : (k : ℕ) (x : Delivery) → may l' k x → may l (k + 1) x
  pub leaves : state l' ≡ exchanged (state l) (kind_of (type_b_frame body)) delivery
  pub hears : r ≡ heard (state l).tag (kind_of (type_b_frame body)) delivery
