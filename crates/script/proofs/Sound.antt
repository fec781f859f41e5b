-- What the definition gives: requests that fit, and faults of the line. Assumes nothing.
use Rattle.std.proofs.Common.{◌≡◌, ℕ, ◌<◌, ◌≤◌, Bool, true, false, cond, List, [], ◌∷◌, Some, None, Ok, Err, Option, Result, refl, subst, arith}
use Rattle.std.specs.Int.{is_in_range}
use Rattle.std.specs.Str.{all_ascii_digits}
use Rattle.std.proofs.ByRecursion.{All-append}
use Rattle.std.proofs.lemmas.Bool.Decides.{nat_tests}
use Rattle.script.specs.declared.fault.Fault.{Fault}
use Rattle.script.specs.declared.fault.Fault.TheVariants.{UnknownCommand, TagStore, TagContents, FieldState, BenchAction, NotInto, NumberMissing, NotANumber, NotHex, OddDigits, TooMany, OutOfMemory}
use Rattle.script.specs.Words.{Word, words_of, without_return, is, comment, and_then, ended, number, hex_digit, hex_byte, hex_word, hex_bytes, onto}
use Rattle.script.specs.Line.{Asked, example, field_on, field_off, jis, type_b, performed, writable, dump, read_store, read_contents, read_tag, read_field, read_size, read_into, read_frame, read_framed, read_bench_read, read_bench_write, read_bench, read_lone, read_command, read_words}
use Rattle.script.specs.Written.{Bytes, FillingFits, FrameFits, Fits, FaultsAreOfLines, ReadRequestsFit}

abbrev OfLine : Fault → Type 0
OfLine UnknownCommand = Unit {0}
OfLine TagStore = Unit {0}
OfLine TagContents = Unit {0}
OfLine FieldState = Unit {0}
OfLine BenchAction = Unit {0}
OfLine NotInto = Unit {0}
OfLine NumberMissing = Unit {0}
OfLine NotANumber = Unit {0}
OfLine NotHex = Unit {0}
OfLine OddDigits = Unit {0}
OfLine TooMany = Unit {0}
OfLine OutOfMemory = ⊥

abbrev Sound : {X : Type 0} → (X → Type 0) → Result X Fault → Type 0
Sound P (Ok x) = P x
Sound P (Err e) = OfLine e

-- P holds of the value, or the fault is of the line
record Fair {X : Type 0} (P : X → Type 0) (r : Result X Fault) : Type 0 where
  sound : Sound P r

ok : {X : Type 0} {P : X → Type 0} {x : X} → P x → Fair P (Ok x)
ok h = record { sound = h }

fault : {X : Type 0} {P : X → Type 0} {e : Fault} → OfLine e → Fair P (Err e)
fault h = record { sound = h }

then_fair : {X Y : Type 0} {P : X → Type 0} {Q : Y → Type 0} {r : Result X Fault} {k : X → Result Y Fault} → Fair P r → ((x : X) → P x → Fair Q (k x)) → Fair Q (and_then r k)
then_fair {r = Ok x} h f = f x h.sound
then_fair {r = Err e} h f = fault h.sound

cond_fair : {X : Type 0} {P : X → Type 0} (b : Bool) {r s : Result X Fault} → (b ≡ true → Fair P r) → Fair P s → Fair P (cond b r s)
cond_fair true h k = h refl
cond_fair false h k = k

abbrev Any : {X : Type 0} → X → Type 0
Any x = Unit {0}

ended_fair : (ws : List Word) → Fair Any (ended ws)
ended_fair [] = ok tt
ended_fair (w ∷ ws) = fault tt

number_fair : (cap : ℕ) (w : Word) → Fair (λ n. n ≤ cap) (number cap w)
number_fair cap w = cond_fair (all_ascii_digits w) (λ _. ok (omega arith)) (fault tt)

digit_fair : (c : ℕ) → Fair (λ d. d < 16) (hex_digit c)
digit_fair c =
    cond_fair (is_in_range 48 57 c) (λ e. ok (grind (arith, nat_tests)))
    (cond_fair (is_in_range 65 70 c) (λ e. ok (grind (arith, nat_tests)))
    (cond_fair (is_in_range 97 102 c) (λ e. ok (grind (arith, nat_tests)))
    (fault tt)))

byte_fair : (a b : ℕ) → Fair (λ x. x < 256) (hex_byte a b)
byte_fair a b = then_fair (digit_fair a) (λ high h. then_fair (digit_fair b) (λ low l. ok (omega arith)))

word_fair : (w : Word) → Fair Bytes (hex_word w)
word_fair [] = ok tt
word_fair (a ∷ []) = then_fair (digit_fair a) (λ _ _. fault tt)
word_fair (a ∷ b ∷ w) = then_fair (byte_fair a b) (λ x h. then_fair (word_fair w) (λ xs k. ok (h, k)))

onto_fair : (xs : List ℕ) {r : Result (List ℕ) Fault} → Bytes xs → Fair Bytes r → Fair Bytes (onto xs r)
onto_fair xs h k = then_fair k (λ ys k. ok (All-append (λ x. x < 256) xs ys h k))

bytes_fair : (ws : List Word) → Fair Bytes (hex_bytes ws)
bytes_fair [] = ok tt
bytes_fair (w ∷ ws) = then_fair (word_fair w) (λ xs h. onto_fair xs h (bytes_fair ws))

ends_fair : {X : Type 0} {P : X → Type 0} (ws : List Word) (x : X) → P x → Fair P (and_then (ended ws) (λ _. Ok x))
ends_fair ws x h = then_fair (ended_fair ws) (λ _ _. ok h)

contents_fair : (ws : List Word) → Fair FillingFits (read_contents ws)
contents_fair [] = ok tt
contents_fair (w ∷ ws) = cond_fair (is w "example") (λ _. ends_fair ws example tt) (cond_fair (is w "image") (λ _. then_fair (bytes_fair ws) (λ xs h. ok h)) (fault tt))

store_fair : (w : Word) → Fair Any (read_store w)
store_fair w = cond_fair (is w "flat") (λ _. ok tt) (cond_fair (is w "log") (λ _. ok tt) (fault tt))

tag_fair : (ws : List Word) → Fair Fits (read_tag ws)
tag_fair [] = fault tt
tag_fair (w ∷ ws) = then_fair (store_fair w) (λ store _. then_fair (contents_fair ws) (λ contents h. ok h))

field_fair : (ws : List Word) → Fair Fits (read_field ws)
field_fair [] = fault tt
field_fair (w ∷ ws) = cond_fair (is w "on") (λ _. ends_fair ws field_on tt) (cond_fair (is w "off") (λ _. ends_fair ws field_off tt) (fault tt))

size_fair : (ws : List Word) → Fair (λ n. n ≤ 65536) (read_size ws)
size_fair [] = fault tt
size_fair (w ∷ ws) = then_fair (number_fair 65536 w) (λ n h. ends_fair ws n h)

into_fair : (ws : List Word) → Fair (λ n. n ≤ 65536) (read_into ws)
into_fair [] = ok (omega arith)
into_fair (w ∷ ws) = cond_fair (is w "into") (λ _. size_fair ws) (fault tt)

frame_fair : (xs : List ℕ) (ws : List Word) → Bytes xs → Fair (λ f. FrameFits f.0 f.1) (read_frame xs ws)
frame_fair xs [] h = ok (h, omega arith)
frame_fair xs (w ∷ ws) h =
    cond_fair (is w "into") (λ _. then_fair (size_fair ws) (λ n k. ok (h, k)))
    (then_fair (onto_fair xs h (word_fair w)) (λ ys k. frame_fair ys ws k))

framed_fair : (asked : List ℕ → ℕ → Asked) → ((xs : List ℕ) (n : ℕ) → FrameFits xs n → Fits (asked xs n)) → (ws : List Word) → Fair Fits (read_framed asked ws)
framed_fair asked fits ws = then_fair (frame_fair [] ws tt) (λ f h. ok (fits f.0 f.1 h))

bench_read_fair : (ws : List Word) → Fair Fits (read_bench_read ws)
bench_read_fair [] = fault tt
bench_read_fair (w ∷ ws) = then_fair (number_fair 65535 w) (λ block h. then_fair (into_fair ws) (λ into k. ok (h, k)))

bench_write_fair : (ws : List Word) → Fair Fits (read_bench_write ws)
bench_write_fair [] = fault tt
bench_write_fair (w ∷ ws) = then_fair (number_fair 65535 w) (λ block h. then_fair (bytes_fair ws) (λ xs k. ok (h, k)))

bench_fair : (ws : List Word) → Fair Fits (read_bench ws)
bench_fair [] = fault tt
bench_fair (w ∷ ws) = cond_fair (is w "read") (λ _. bench_read_fair ws) (cond_fair (is w "write") (λ _. bench_write_fair ws) (fault tt))

lone_fair : (w : Word) (ws : List Word) → Fair Fits (read_lone w ws)
lone_fair w ws =
    cond_fair (is w "performed") (λ _. ends_fair ws performed tt)
    (cond_fair (is w "writable") (λ _. ends_fair ws writable tt)
    (cond_fair (is w "dump") (λ _. ends_fair ws dump tt)
    (fault tt)))

command_fair : (w : Word) (ws : List Word) → Fair Fits (read_command w ws)
command_fair w ws =
    cond_fair (is w "tag") (λ _. tag_fair ws)
    (cond_fair (is w "field") (λ _. field_fair ws)
    (cond_fair (is w "jis") (λ _. framed_fair jis (λ xs n h. h) ws)
    (cond_fair (is w "b") (λ _. framed_fair type_b (λ xs n h. h) ws)
    (cond_fair (is w "bench") (λ _. bench_fair ws)
    (lone_fair w ws)))))

abbrev FitsIfAny : Option Asked → Type 0
FitsIfAny None = Unit {0}
FitsIfAny (Some a) = Fits a

words_fair : (ws : List Word) → Fair FitsIfAny (read_words ws)
words_fair [] = ok tt
words_fair (w ∷ ws) = cond_fair (comment w) (λ _. ok tt) (then_fair (command_fair w ws) (λ a h. ok h))

pub faults_are_of_lines : FaultsAreOfLines
faults_are_of_lines l e = (subst (Fair FitsIfAny) e (words_fair (words_of (without_return l)))).sound

pub read_requests_fit : ReadRequestsFit
read_requests_fit l a e = (subst (Fair FitsIfAny) e (words_fair (words_of (without_return l)))).sound
