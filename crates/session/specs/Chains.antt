-- The command that chained I-blocks make. Assumes nothing.
use Rattle.std.specs.Prelude.{ℕ, cond, List, [], ◌∷◌, ◌++◌, length, Some, None, Option, nat_le}
use Rattle.command.specs.Orders.{Asked, answered, asked_by}
use Rattle.command.specs.declared.status.Status.TheVariants.{WrongLength}

-- the bytes of a command so far; past 256 they are only known to be too many
pub data Joined : Type 0 where
  short : List ℕ → Joined
  long : Joined

-- at most 256 bytes are kept
abbrev pub clip : List ℕ → Joined
clip l = cond (nat_le (length l) 256) (short l) long

-- with the INF of one more chained I-block
abbrev pub more : Joined → List ℕ → Joined
more (short l) inf = clip (l ++ inf)
more long inf = long

-- what the command asks that they make; one over 256 bytes is answered 67 00
abbrev pub commanded : Joined → Asked
commanded (short c) = asked_by c
commanded long = answered WrongLength

-- the chain after an unchained I-block: its INF joins those before it, and where there are none the frame holds the command
abbrev pub joined_last : Joined → List ℕ → Joined
joined_last (short []) inf = short []
joined_last (short (x ∷ c)) inf = clip ((x ∷ c) ++ inf)
joined_last long inf = long

-- the completed command then: the INF itself, or the chain that has taken it; none where it is too long
abbrev pub picked : Joined → List ℕ → Option (List ℕ)
picked (short []) inf = Some inf
picked (short (x ∷ c)) inf = Some (x ∷ c)
picked long inf = None

-- what is asked by a command, if there is one; one that is too long is answered 67 00
abbrev pub order_of : Option (List ℕ) → Asked
order_of None = answered WrongLength
order_of (Some c) = asked_by c

-- what the command asks that was picked from frame or chain
abbrev pub picked_order : Joined → List ℕ → Asked
picked_order j inf = order_of (picked j inf)

-- the chain after the INFs of these I-blocks, in their order
abbrev pub chain_of : Joined → List (List ℕ) → Joined
chain_of j [] = j
chain_of j (inf ∷ infs) = chain_of (more j inf) infs
