-- The words of a line, and the numbers and bytes that words write. Lines and words are lists of bytes, in ASCII:
-- a space is 32, a carriage return 13, `#` is 35, and the digits and letters begin at `0` 48, `A` 65 and `a` 97.
use Rattle.std.specs.Prelude.{◌≡◌, ℕ, ◌+◌, ◌-◌, ◌*◌, min, Bool, cond, ◌⊎◌, List, [], ◌∷◌, ◌++◌, length, take, Ok, Err, codes, Result, ◌==◌, slice_index}
use Prim.Native.String.{String}
use Rattle.std.specs.Int.{is_in_range}
use Rattle.std.specs.Str.{bytes_eq, all_ascii_digits}
use Rattle.script.specs.declared.fault.Fault.{Fault}
use Rattle.script.specs.declared.fault.Fault.TheVariants.{NotANumber, NotHex, OddDigits, TooMany, OutOfMemory}

abbrev pub Word : Type 0
Word = List ℕ

-- the line without the carriage return that may end it
abbrev pub without_return : List ℕ → List ℕ
without_return l = cond (slice_index l (length l - 1) == 13) (take (length l - 1) l) l

-- c written before the first of the parts
abbrev pub on_first : ℕ → List Word → List Word
on_first c [] = (c ∷ []) ∷ []
on_first c (w ∷ ws) = (c ∷ w) ∷ ws

-- the parts of a line between its spaces, empty ones among them
abbrev pub parts : List ℕ → List Word
parts [] = [] ∷ []
parts (c ∷ cs) = cond (c == 32) ([] ∷ parts cs) (on_first c (parts cs))

-- the parts that are not empty
abbrev pub filled : List Word → List Word
filled [] = []
filled ([] ∷ ws) = filled ws
filled ((c ∷ w) ∷ ws) = (c ∷ w) ∷ filled ws

-- the words of a line: what stands between its spaces
abbrev pub words_of : List ℕ → List Word
words_of l = filled (parts l)

abbrev pub is : Word → String → Bool
is w s = bytes_eq w (codes s)

-- `#` begins a comment
abbrev pub comment : Word → Bool
comment w = slice_index w 0 == 35

-- what k makes of the value, or the fault that came before
abbrev pub and_then : {X Y : Type 0} → Result X Fault → (X → Result Y Fault) → Result Y Fault
and_then (Ok x) k = k x
and_then (Err e) k = Err e

-- no word may follow
abbrev pub ended : List Word → Result (Unit {0}) Fault
ended [] = Ok tt
ended (w ∷ ws) = Err TooMany

-- the number that digits write after those of n
abbrev pub number_after : ℕ → Word → ℕ
number_after n [] = n
number_after n (c ∷ cs) = number_after (10 * n + (c - 48)) cs

-- the number that a word of digits writes, where a larger one than `cap` counts as `cap`; a word has at least one byte
abbrev pub number : ℕ → Word → Result ℕ Fault
number cap w = cond (all_ascii_digits w) (Ok (min cap (number_after 0 w))) (Err NotANumber)

-- 0 to 9, A to F or a to f
abbrev pub hex_digit : ℕ → Result ℕ Fault
hex_digit c =
    cond (is_in_range 48 57 c) (Ok (c - 48))
    (cond (is_in_range 65 70 c) (Ok (c - 65 + 10))
    (cond (is_in_range 97 102 c) (Ok (c - 97 + 10))
    (Err NotHex)))

abbrev pub hex_byte : ℕ → ℕ → Result ℕ Fault
hex_byte a b = and_then (hex_digit a) (λ high. and_then (hex_digit b) (λ low. Ok (16 * high + low)))

-- the bytes that the pairs of digits of a word write
abbrev pub hex_word : Word → Result (List ℕ) Fault
hex_word [] = Ok []
hex_word (a ∷ []) = and_then (hex_digit a) (λ _. Err OddDigits)
hex_word (a ∷ b ∷ w) = and_then (hex_byte a b) (λ x. and_then (hex_word w) (λ xs. Ok (x ∷ xs)))

-- the bytes of r, after those of xs
abbrev pub onto : List ℕ → Result (List ℕ) Fault → Result (List ℕ) Fault
onto xs r = and_then r (λ ys. Ok (xs ++ ys))

-- the bytes that words write, joined
abbrev pub hex_bytes : List Word → Result (List ℕ) Fault
hex_bytes [] = Ok []
hex_bytes (w ∷ ws) = and_then (hex_word w) (λ xs. onto xs (hex_bytes ws))

-- r, seen through f, is s; or memory ran out
abbrev pub Gives : {X Y : Type 0} → (X → Y) → Result X Fault → Result Y Fault → Type 0
Gives f (Ok x) s = Ok (f x) ≡ s
Gives f (Err e) s = (e ≡ OutOfMemory) ⊎ (Err e ≡ s)
