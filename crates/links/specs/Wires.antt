-- The state of a delivered link, and what it is made from. Assumes nothing.
use Rattle.std.specs.Prelude.{◌≡◌, ℕ, List, is_some, Option}
use Rattle.memory.specs.Memory.{Memory}
use Rattle.tag.specs.Model.{Model}
use Rattle.tag.specs.View.{view}
use Rattle.type_b.specs.Frames.{kind_of}
use Rattle.link.specs.declared.delivery.Delivery.{Delivery}
use Rattle.link.specs.Exchanges.{LinkState, tag_after, heard, came, Laid}
use Rattle.links.specs.declared.tag_link.TagLink.{TagLink}

-- the tag and the two counts as a link keeps them
abbrev pub state_of : {S L : Type 0} → (S → Memory) → TagLink S L → LinkState
state_of blocks l = record { tag = view blocks l.tag; exchanges = l.exchanges; unheard = l.unheard }

-- a link as it is made: both counts at 0
abbrev pub unused : Model → LinkState
unused t = record { tag = t; exchanges = 0; unheard = 0 }

-- a frame was carried to the tag or not, and its reply back or not
pub record Carried (s : Model) (f : List ℕ) (x : Delivery) (o : Option ℕ) (before after : List ℕ) (t : Model) : Type 0 where
  pub tag : t ≡ tag_after s (kind_of f) x
  pub hears : came o after ≡ heard s (kind_of f) x
  -- nothing comes that has a wrong checksum
  pub sound : is_some o ≡ is_some (heard s (kind_of f) x)
  pub laid : Laid o before after
