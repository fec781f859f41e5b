-- What a line asks for. Each definition reads the words from the left, so the first thing wrong is the fault.
use Rattle.std.specs.Prelude.{ℕ, cond, List, [], ◌∷◌, Some, None, Ok, Err, vec_items, Option, Result}
use Rattle.script.specs.declared.StoreKind.{StoreKind}
use Rattle.script.specs.declared.StoreKind.TheVariants.{Flat, Log}
use Rattle.script.specs.declared.Contents.{Contents}
use Rattle.script.specs.declared.Contents.TheVariants.{Zeros, Example, Image}
use Rattle.script.specs.declared.Request.{Request}
use Rattle.script.specs.declared.Request.TheVariants.{Tag, FieldOn, FieldOff, Jis, TypeB, BenchRead, BenchWrite, Performed, Writable, Dump}
use Rattle.script.specs.declared.fault.Fault.{Fault}
use Rattle.script.specs.declared.fault.Fault.TheVariants.{UnknownCommand, TagStore, TagContents, FieldState, BenchAction, NotInto, NumberMissing}
use Rattle.script.specs.Words.{Word, words_of, without_return, is, comment, and_then, ended, number, hex_word, hex_bytes, onto}

-- a request and its parts, with lists in the place of vectors
pub data Filling : Type 0 where
  zeros : Filling
  example : Filling
  image : List ℕ → Filling

pub data Asked : Type 0 where
  tag : StoreKind → Filling → Asked
  field_on : Asked
  field_off : Asked
  jis : List ℕ → ℕ → Asked
  type_b : List ℕ → ℕ → Asked
  bench_read : ℕ → ℕ → Asked
  bench_write : ℕ → List ℕ → Asked
  performed : Asked
  writable : Asked
  dump : Asked

abbrev pub filling : Contents → Filling
filling Zeros = zeros
filling Example = example
filling (Image v) = image (vec_items v)

abbrev pub told : Request → Asked
told (Tag store contents) = tag store (filling contents)
told FieldOn = field_on
told FieldOff = field_off
told (Jis frame into) = jis (vec_items frame) into
told (TypeB frame into) = type_b (vec_items frame) into
told (BenchRead block into) = bench_read block into
told (BenchWrite block v) = bench_write block (vec_items v)
told Performed = performed
told Writable = writable
told Dump = dump

-- nothing, `example` or `image HEX`
abbrev pub read_contents : List Word → Result Filling Fault
read_contents [] = Ok zeros
read_contents (w ∷ ws) =
    cond (is w "example") (and_then (ended ws) (λ _. Ok example))
    (cond (is w "image") (and_then (hex_bytes ws) (λ xs. Ok (image xs)))
    (Err TagContents))

abbrev pub read_store : Word → Result StoreKind Fault
read_store w = cond (is w "flat") (Ok Flat) (cond (is w "log") (Ok Log) (Err TagStore))

abbrev pub read_tag : List Word → Result Asked Fault
read_tag [] = Err TagStore
read_tag (w ∷ ws) = and_then (read_store w) (λ store. and_then (read_contents ws) (λ contents. Ok (tag store contents)))

abbrev pub read_field : List Word → Result Asked Fault
read_field [] = Err FieldState
read_field (w ∷ ws) =
    cond (is w "on") (and_then (ended ws) (λ _. Ok field_on))
    (cond (is w "off") (and_then (ended ws) (λ _. Ok field_off))
    (Err FieldState))

-- the number that ends the line
abbrev pub read_size : List Word → Result ℕ Fault
read_size [] = Err NumberMissing
read_size (w ∷ ws) = and_then (number 65536 w) (λ n. and_then (ended ws) (λ _. Ok n))

-- nothing, or `into N`
abbrev pub read_into : List Word → Result ℕ Fault
read_into [] = Ok 16
read_into (w ∷ ws) = cond (is w "into") (read_size ws) (Err NotInto)

-- a frame that begins with the bytes xs: more of its bytes, then nothing or `into N`
abbrev pub read_frame : List ℕ → List Word → Result (List ℕ × ℕ) Fault
read_frame xs [] = Ok (xs, 256)
read_frame xs (w ∷ ws) =
    cond (is w "into") (and_then (read_size ws) (λ n. Ok (xs, n)))
    (and_then (onto xs (hex_word w)) (λ ys. read_frame ys ws))

abbrev pub read_framed : (List ℕ → ℕ → Asked) → List Word → Result Asked Fault
read_framed asked ws = and_then (read_frame [] ws) (λ f. Ok (asked f.0 f.1))

abbrev pub read_bench_read : List Word → Result Asked Fault
read_bench_read [] = Err NumberMissing
read_bench_read (w ∷ ws) = and_then (number 65535 w) (λ block. and_then (read_into ws) (λ into. Ok (bench_read block into)))

abbrev pub read_bench_write : List Word → Result Asked Fault
read_bench_write [] = Err NumberMissing
read_bench_write (w ∷ ws) = and_then (number 65535 w) (λ block. and_then (hex_bytes ws) (λ xs. Ok (bench_write block xs)))

abbrev pub read_bench : List Word → Result Asked Fault
read_bench [] = Err BenchAction
read_bench (w ∷ ws) =
    cond (is w "read") (read_bench_read ws)
    (cond (is w "write") (read_bench_write ws)
    (Err BenchAction))

-- the commands that are one word
abbrev pub read_lone : Word → List Word → Result Asked Fault
read_lone w ws =
    cond (is w "performed") (and_then (ended ws) (λ _. Ok performed))
    (cond (is w "writable") (and_then (ended ws) (λ _. Ok writable))
    (cond (is w "dump") (and_then (ended ws) (λ _. Ok dump))
    (Err UnknownCommand)))

-- the command w, and the words after it
abbrev pub read_command : Word → List Word → Result Asked Fault
read_command w ws =
    cond (is w "tag") (read_tag ws)
    (cond (is w "field") (read_field ws)
    (cond (is w "jis") (read_framed jis ws)
    (cond (is w "b") (read_framed type_b ws)
    (cond (is w "bench") (read_bench ws)
    (read_lone w ws)))))

abbrev pub read_words : List Word → Result (Option Asked) Fault
read_words [] = Ok None
read_words (w ∷ ws) = cond (comment w) (Ok None) (and_then (read_command w ws) (λ a. Ok (Some a)))

abbrev pub read_line : List ℕ → Result (Option Asked) Fault
read_line l = read_words (words_of (without_return l))
