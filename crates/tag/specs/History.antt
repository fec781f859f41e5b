-- A history: the calls on a tag, each with its arguments and its answer, the newest first. Assumes nothing.
use Rattle.std.specs.Prelude.{ℕ, List, [], take, Some, None, Ok, Err, Option, Result}
use Rattle.memory.specs.declared.refusal.Refusal.{Refusal}
use Rattle.system.specs.declared.figure.Writable.{Writable}

-- a buffer that a call may write stands as it was before the call and as it is after it
pub data Event : Type 0 where
  field_on : Event
  field_off : Event
  -- block number, buffer before, answer, buffer after
  bench_read : ℕ → List ℕ → Result (Unit {0}) Refusal → List ℕ → Event
  -- block number, bytes, answer
  bench_write : ℕ → List ℕ → Result (Unit {0}) Refusal → Event
  -- answer
  bench_writable : Writable → Event
  -- frame, reply buffer before, answer, reply buffer after
  jis : List ℕ → List ℕ → Result (Option ℕ) Refusal → List ℕ → Event
  type_b : List ℕ → List ℕ → Result (Option ℕ) Refusal → List ℕ → Event
  -- answer
  bench_performed : ℕ → Event

abbrev pub History : Type 0
History = List Event

-- the reply that a frame call left at the front of its buffer: none at silence and at a refusal
abbrev pub heard : Result (Option ℕ) Refusal → List ℕ → List ℕ
heard (Ok None) after = []
heard (Ok (Some n)) after = take n after
heard (Err e) after = []
