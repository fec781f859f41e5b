-- What sending a reply leaves. Assumes nothing.
use Rattle.std.specs.Prelude.{ℕ, cond, List, ◌++◌, length, drop, Some, None, Option, ◌==◌}

-- a buffer with `out` at its front, and past it what it held before
abbrev pub over : List ℕ → List ℕ → List ℕ
over out old = out ++ drop (length out) old

-- how many bytes are sent: where nothing is held there is no reply
abbrev pub sent : List ℕ → Option ℕ
sent out = cond (length out == 0) None (Some (length out))
