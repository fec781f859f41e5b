-- What the code's session means. Assumes nothing.
use Rattle.std.specs.Prelude.{ℕ, ◌-◌, Bool, List, [], length, take, drop, nat_lt, Some, None, Option}
use Rattle.buffer.specs.Held.{held}
use Rattle.session.specs.Chains.{Joined, short, long}
use Rattle.session.specs.Model.{LastSent, nothing, acknowledgement, piece, SessionModel}
use Rattle.session.specs.declared.chain.Chain.{Chain}
use Rattle.session.specs.declared.sending.Sending.{Sending}
use Rattle.session.specs.declared.state.Last.{Last}
use Rattle.session.specs.declared.state.Last.TheVariants.{Acknowledgement, Piece}
use Rattle.session.specs.declared.state.Session.{Session}

-- the bytes of a chain
abbrev pub joined : Chain → Joined
joined c = elim c.infs [ None ↦ long | Some infs ↦ short (held infs) ]

-- the piece last sent
abbrev pub part : Sending → List ℕ
part s = take (s.to - s.from) (drop s.from (held s.answer))

-- what is left of the answer after it
abbrev pub left : Sending → List ℕ
left s = drop s.to (held s.answer)

-- whether anything is left
abbrev pub goes_on : Sending → Bool
goes_on s = nat_lt s.to (length (held s.answer))

-- the last block sent
abbrev pub last_of : Option Last → LastSent
last_of None = nothing
last_of (Some Acknowledgement) = acknowledgement
last_of (Some (Piece s)) = piece (goes_on s) (part s)

-- what is left to send
abbrev pub rest_of : Option Last → List ℕ
rest_of None = []
rest_of (Some Acknowledgement) = []
rest_of (Some (Piece s)) = left s

-- the session
abbrev pub model : Session → SessionModel
model s = record { size = s.size; number = s.number; chain = joined s.chain; last = last_of s.last; rest = rest_of s.last }
