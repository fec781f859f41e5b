-- Which call on the tag a line asks for. Assumes nothing.
use Rattle.std.specs.Prelude.{ℕ, List, Some, None, vec_items, Option}
use Rattle.script.specs.declared.Request.{Request}
use Rattle.script.specs.declared.Request.TheVariants as line
use Rattle.runner.specs.declared.call.Call.{Call}
use Rattle.runner.specs.declared.call.Call.TheVariants as call

-- a call with the bytes themselves in the place of a borrowed part
pub data Asked : Type 0 where
  field_on : Asked
  field_off : Asked
  bench_read : ℕ → ℕ → Asked
  bench_write : ℕ → List ℕ → Asked
  bench_writable : Asked
  jis : List ℕ → ℕ → Asked
  type_b : List ℕ → ℕ → Asked
  bench_performed : Asked

abbrev pub asked : Call → Asked
asked call.FieldOn = field_on
asked call.FieldOff = field_off
asked (call.BenchRead b n) = bench_read b n
asked (call.BenchWrite b d) = bench_write b d.now
asked call.BenchWritable = bench_writable
asked (call.Jis f n) = jis f.now n
asked (call.TypeB f n) = type_b f.now n
asked call.BenchPerformed = bench_performed

abbrev pub told_call : Option Call → Option Asked
told_call None = None
told_call (Some c) = Some (asked c)

-- a new tag is no call on a tag, and a dump is 32 of them
abbrev pub call_of : Request → Option Asked
call_of (line.Tag s c) = None
call_of line.FieldOn = Some field_on
call_of line.FieldOff = Some field_off
call_of (line.BenchRead b n) = Some (bench_read b n)
call_of (line.BenchWrite b d) = Some (bench_write b (vec_items d))
call_of line.Writable = Some bench_writable
call_of (line.Jis f n) = Some (jis (vec_items f) n)
call_of (line.TypeB f n) = Some (type_b (vec_items f) n)
call_of line.Performed = Some bench_performed
call_of line.Dump = None
