-- The bench behind a link: a call on the tag that is no exchange. Assumes nothing.
use Rattle.std.specs.Prelude.{◌≡◌, ℕ}
use Rattle.tag.specs.History.{Event}
use Rattle.tag.specs.Steps.{Step}
use Rattle.link.specs.declared.delivery.Delivery.{Delivery}
use Rattle.link.specs.Exchanges.{LinkState, with_tag}

-- a bench call that may change the tag: the counts stay, and what may become of later exchanges too
pub record Benched {L : Type 0} (state : L → LinkState) (may : L → ℕ → Delivery → Type 0) (l : L) (e : Event) (l' : L) : Type 0 where
  pub later : (k : ℕ) (x : Delivery) → may l' k x → may l k x
  pub step : Step (state l).tag e (state l').tag
  pub counts : state l' ≡ with_tag (state l) (state l').tag

-- one that cannot change anything
abbrev pub Looked : LinkState → Event → Type 0
Looked w e = Step w.tag e w.tag
