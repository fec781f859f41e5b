-- What is written is read again. Assumes nothing.
use Rattle.std.proofs.Common.{◌≡◌, ℕ, ◌+◌, ◌*◌, ◌/◌, ◌%◌, ◌^◌, ◌<◌, ◌≤◌, min, true, false, cond, eqb, ltb, List, [], ◌∷◌, length, Some, Ok, Err, decimal, refl, ap, ◌∙◌, ap₂, append-nil, arith, rules}
use Rattle.std.specs.Char.{is_ascii_digit}
use Rattle.std.specs.Str.{all_ascii_digits}
use Rattle.std.proofs.lemmas.Fmt.{digits_decimal, digits_value-decimal, decimal_nonempty}
use Rattle.std.proofs.lemmas.Str.Parse.{IsNumeralModel, numerals_by_fold, tells_all_ascii_digits}
use Rattle.std.proofs.lemmas.Bool.{and_from, and_parts}
use Rattle.std.proofs.lemmas.Bool.Decides.{nat_tests}
use Rattle.script.specs.declared.StoreKind.TheVariants.{Flat, Log}
use Rattle.script.specs.declared.fault.Fault.TheVariants.{NotANumber}
use Rattle.script.specs.Words.{Word, is, and_then, number_after, number, hex_digit, hex_byte, hex_word, hex_bytes, onto}
use Rattle.script.specs.Line.{Filling, zeros, example, image, Asked, tag, field_on, field_off, jis, type_b, bench_read, bench_write, performed, writable, dump, read_contents, read_frame, read_framed, read_words}
use Rattle.script.specs.Written.{digit, hex, hex_words, filling_words, frame_words, request_words, Bytes, FillingFits, FrameFits, Fits, WrittenLinesAreRead}
use Rattle.script.proofs.Spaces.{visible, solid, all_solid, spaced_read}

-- decimal numbers

decimals : IsNumeralModel (λ ds. all_ascii_digits ds ≡ true) (number_after 0)
decimals = numerals_by_fold _ tells_all_ascii_digits number_after (search rules)

number_decimal : (cap n : ℕ) → cap ≤ 65536 → n ≤ cap → number cap (decimal n) ≡ Ok n
number_decimal cap n h k =
    let small : n < 2 ^ 64 = omega arith in
    let within : min cap n ≡ n = omega arith in
    ap₂ (λ b v. cond b (Ok (min cap v)) (Err NotANumber)) (digits_decimal decimals n small) (digits_value-decimal decimals n small)
    ∙ ap (λ v. Ok v) within

digits_visible : (w : Word) → all_ascii_digits w ≡ true → visible w ≡ true
digits_visible [] h = refl
digits_visible (c ∷ w) h =
    let both = and_parts (is_ascii_digit c) (all_ascii_digits w) h in
    let first = both.0 in
    and_from (ltb 32 c) (visible w) (grind (arith, nat_tests)) (digits_visible w both.1)

solid_some : (w : Word) → 0 < length w → visible w ≡ true → solid w ≡ true
solid_some [] some h = absurd (omega arith)
solid_some (c ∷ w) some h = h

decimal_solid : (n : ℕ) → n ≤ 65536 → solid (decimal n) ≡ true
decimal_solid n h =
    let small : n < 2 ^ 64 = omega arith in
    solid_some (decimal n) (decimal_nonempty n small) (digits_visible (decimal n) (digits_decimal decimals n small))

-- bytes

digit_read : (d : ℕ) → d < 16 → hex_digit (digit d) ≡ Ok d
digit_read d h = grind (arith, nat_tests)

byte_read : (x : ℕ) → x < 256 → hex_byte (digit (x / 16)) (digit (x % 16)) ≡ Ok x
byte_read x h =
    let whole : 16 * (x / 16) + x % 16 ≡ x = omega arith in
    ap₂ (λ r s. and_then r (λ high. and_then s (λ low. Ok (16 * high + low)))) (digit_read (x / 16) (omega arith)) (digit_read (x % 16) (omega arith))
    ∙ ap (λ v. Ok v) whole

word_read : (xs : List ℕ) → Bytes xs → hex_word (hex xs) ≡ Ok xs
word_read [] h = refl
word_read (x ∷ xs) h = ap₂ (λ r s. and_then r (λ y. and_then s (λ ys. Ok (y ∷ ys)))) (byte_read x h.0) (word_read xs h.1)

bytes_read : (xs : List ℕ) → Bytes xs → hex_bytes (hex_words xs) ≡ Ok xs
bytes_read [] h = refl
bytes_read (x ∷ xs) h = ap (λ r. and_then r (λ ys. onto ys (Ok []))) (word_read (x ∷ xs) h) ∙ ap (λ ys. Ok ys) (append-nil (x ∷ xs))

digit_visible : (d : ℕ) → ltb 32 (digit d) ≡ true
digit_visible d = grind (arith, nat_tests)

hex_visible : (xs : List ℕ) → visible (hex xs) ≡ true
hex_visible [] = refl
hex_visible (x ∷ xs) = and_from _ _ (digit_visible (x / 16)) (and_from _ _ (digit_visible (x % 16)) (hex_visible xs))

hex_solid : (xs : List ℕ) → all_solid (hex_words xs) ≡ true
hex_solid [] = refl
hex_solid (x ∷ xs) = and_from _ true (hex_visible (x ∷ xs)) refl

-- frames

-- no digit is the first letter of `into`
digit_not_into : (d : ℕ) → d < 16 → eqb (digit d) 105 ≡ false
digit_not_into d h = grind (arith, nat_tests)

hex_not_into : (x : ℕ) (xs : List ℕ) → x < 256 → is (hex (x ∷ xs)) "into" ≡ false
hex_not_into x xs h = rw (digit_not_into (x / 16) (omega arith))

room_read : (xs : List ℕ) (n : ℕ) → n ≤ 65536 → read_frame xs (frame_words [] n) ≡ Ok (xs, n)
room_read xs n h = ap (λ r. and_then (and_then r (λ m. Ok m)) (λ m. Ok (xs, m))) (number_decimal 65536 n (omega arith) h)

frame_read : (xs : List ℕ) (n : ℕ) → Bytes xs → n ≤ 65536 → read_frame [] (frame_words xs n) ≡ Ok (xs, n)
frame_read [] n h k = room_read [] n k
frame_read (x ∷ xs) n h k = rw (hex_not_into x xs h.0, word_read (x ∷ xs) h) (room_read (x ∷ xs) n k)

room_solid : (n : ℕ) → n ≤ 65536 → all_solid (frame_words [] n) ≡ true
room_solid n h = and_from _ true (decimal_solid n h) refl

frame_solid : (xs : List ℕ) (n : ℕ) → n ≤ 65536 → all_solid (frame_words xs n) ≡ true
frame_solid [] n h = room_solid n h
frame_solid (x ∷ xs) n h = and_from _ _ (hex_visible (x ∷ xs)) (room_solid n h)

-- requests

filling_read : (f : Filling) → FillingFits f → read_contents (filling_words f) ≡ Ok f
filling_read zeros h = refl
filling_read example h = refl
filling_read (image xs) h = ap (λ r. and_then r (λ ys. Ok (image ys))) (bytes_read xs h)

framed_read : (asked : List ℕ → ℕ → Asked) (xs : List ℕ) (n : ℕ) → FrameFits xs n → and_then (read_framed asked (frame_words xs n)) (λ a. Ok (Some a)) ≡ Ok (Some (asked xs n))
framed_read asked xs n h = ap (λ r. and_then (and_then r (λ f. Ok (asked f.0 f.1))) (λ a. Ok (Some a))) (frame_read xs n h.0 h.1)

request_read : (a : Asked) → Fits a → read_words (request_words a) ≡ Ok (Some a)
request_read (tag Flat f) h = ap (λ r. and_then (and_then r (λ g. Ok (tag Flat g))) (λ a. Ok (Some a))) (filling_read f h)
request_read (tag Log f) h = ap (λ r. and_then (and_then r (λ g. Ok (tag Log g))) (λ a. Ok (Some a))) (filling_read f h)
request_read field_on h = refl
request_read field_off h = refl
request_read (jis xs n) h = framed_read jis xs n h
request_read (type_b xs n) h = framed_read type_b xs n h
request_read (bench_read b n) h =
    ap₂ (λ r s. and_then (and_then r (λ block. and_then (and_then s (λ m. Ok m)) (λ into. Ok (bench_read block into)))) (λ a. Ok (Some a)))
    (number_decimal 65535 b (omega arith) h.0)
    (number_decimal 65536 n (omega arith) h.1)
request_read (bench_write b xs) h =
    ap₂ (λ r s. and_then (and_then r (λ block. and_then s (λ ys. Ok (bench_write block ys)))) (λ a. Ok (Some a)))
    (number_decimal 65535 b (omega arith) h.0)
    (bytes_read xs h.1)
request_read performed h = refl
request_read writable h = refl
request_read dump h = refl

filling_solid : (f : Filling) → all_solid (filling_words f) ≡ true
filling_solid zeros = refl
filling_solid example = refl
filling_solid (image xs) = hex_solid xs

request_solid : (a : Asked) → Fits a → all_solid (request_words a) ≡ true
request_solid (tag Flat f) h = filling_solid f
request_solid (tag Log f) h = filling_solid f
request_solid field_on h = refl
request_solid field_off h = refl
request_solid (jis xs n) h = frame_solid xs n h.1
request_solid (type_b xs n) h = frame_solid xs n h.1
request_solid (bench_read b n) h = and_from _ _ (decimal_solid b (omega arith)) (and_from _ true (decimal_solid n (omega arith)) refl)
request_solid (bench_write b xs) h = and_from _ _ (decimal_solid b (omega arith)) (hex_solid xs)
request_solid performed h = refl
request_solid writable h = refl
request_solid dump h = refl

pub written_lines_are_read : WrittenLinesAreRead
written_lines_are_read a h = ap read_words (spaced_read (request_words a) (request_solid a h)) ∙ request_read a h
