-- What calls and their answers tell: events, and the history of a whole list of calls. Assumes nothing.
use Rattle.std.specs.Prelude.{ℕ, List, [], ◌∷◌, ◌++◌, replicate, vec_items, Option, Result, Vec}
use Rattle.std.specs.Borrow.{Bor}
use Rattle.std.specs.declared.alloc.Global.{Global}
use Rattle.memory.specs.Memory.{Memory}
use Rattle.memory.specs.declared.refusal.Refusal.{Refusal}
use Rattle.system.specs.declared.figure.Writable.{Writable}
use Rattle.tag.specs.declared.state.Tag.{Tag}
use Rattle.tag.specs.History.{Event, field_on, field_off, bench_read, bench_write, bench_writable, jis, type_b, bench_performed, History}
use Rattle.tag.specs.View.{Called}
use Rattle.tag.specs.Runs.{Ran, Kept}
use Rattle.runner.specs.declared.call.Call.{Call}
use Rattle.runner.specs.declared.call.Call.TheVariants.{FieldOn, FieldOff, BenchRead, BenchWrite, BenchWritable, Jis, TypeB, BenchPerformed}
use Rattle.runner.specs.declared.call.Answer.{Answer}
use Rattle.runner.specs.declared.call.Answer.TheVariants as answer
use Rattle.runner.specs.declared.call.Answer.TheVariants.{Field, Read, Written, Figure, Framed}

-- the event that a call and its answer are; a buffer lent to a call is one of zeros
pub data Tells : Call → Answer → Event → Type 0 where
  on : Tells FieldOn Field field_on
  off : Tells FieldOff Field field_off
  read : {b n : ℕ} {r : Result (Unit {0}) Refusal} {v : Vec ℕ Global} → Tells (BenchRead b n) (Read r v) (bench_read b (replicate n 0) r (vec_items v))
  written : {b : ℕ} {d : Bor (List ℕ)} {r : Result (Unit {0}) Refusal} → Tells (BenchWrite b d) (Written r) (bench_write b d.now r)
  figure : {w : Writable} → Tells BenchWritable (Figure w) (bench_writable w)
  framed : {f : Bor (List ℕ)} {n : ℕ} {r : Result (Option ℕ) Refusal} {v : Vec ℕ Global} → Tells (Jis f n) (Framed r v) (jis f.now (replicate n 0) r (vec_items v))
  framed_b : {f : Bor (List ℕ)} {n : ℕ} {r : Result (Option ℕ) Refusal} {v : Vec ℕ Global} → Tells (TypeB f n) (Framed r v) (type_b f.now (replicate n 0) r (vec_items v))
  counted : {k : ℕ} → Tells BenchPerformed (answer.Performed k) (bench_performed k)

-- the history that a list of calls and the list of their answers tell, both in the order of the calls
pub data Told : List Call → List Answer → History → Type 0 where
  none : Told [] [] []
  more : {cs : List Call} {xs : List Answer} {h : History} {c : Call} {a : Answer} {e : Event} → Told cs xs h → Tells c a e → Told (cs ++ c ∷ []) (xs ++ a ∷ []) (e ∷ h)

-- one call performed: the event it was, what it did to the tag, and that a tag that kept the law so far keeps it on
pub record Performed {S : Type 0} (blocks : S → Memory) (t : Tag S) (c : Call) (a : Answer) (u : Tag S) : Type 0 where
  pub event : Event
  pub tells : Tells c a event
  pub called : Called blocks t event u
  pub kept : (store : S) (h : History) → Ran blocks store h t → Kept blocks store (event ∷ h) u

-- a whole list of calls performed on a tag made over the store: the history they tell, and the law at its end
pub record PerformedAll {S : Type 0} (blocks : S → Memory) (store : S) (cs : List Call) (xs : List Answer) (t : Tag S) : Type 0 where
  pub history : History
  pub told : Told cs xs history
  pub kept : Kept blocks store history t
