-- Requests written as lines, and what is proved of reading lines.
use Rattle.std.specs.Prelude.{◌≡◌, ℕ, ◌+◌, ◌/◌, ◌%◌, ◌<◌, ◌≤◌, cond, List, [], ◌∷◌, ◌++◌, Some, Ok, Err, codes, decimal, ◌≢◌, nat_lt}
use Rattle.std.specs.List.{AllByRecursion}
use Rattle.script.specs.declared.StoreKind.{StoreKind}
use Rattle.script.specs.declared.StoreKind.TheVariants.{Flat, Log}
use Rattle.script.specs.declared.fault.Fault.TheVariants.{OutOfMemory}
use Rattle.script.specs.Words.{Word, without_return}
use Rattle.script.specs.Line.{Filling, zeros, example, image, Asked, tag, field_on, field_off, jis, type_b, bench_read, bench_write, performed, writable, dump, read_line}

-- the digit of a number below 16, in upper case
abbrev pub digit : ℕ → ℕ
digit d = cond (nat_lt d 10) (48 + d) (55 + d)

-- two digits for each byte
abbrev pub hex : List ℕ → Word
hex [] = []
hex (x ∷ xs) = digit (x / 16) ∷ digit (x % 16) ∷ hex xs

-- all bytes in one word, and no word where there are no bytes
abbrev pub hex_words : List ℕ → List Word
hex_words [] = []
hex_words (x ∷ xs) = hex (x ∷ xs) ∷ []

abbrev pub store_word : StoreKind → Word
store_word Flat = codes "flat"
store_word Log = codes "log"

abbrev pub filling_words : Filling → List Word
filling_words zeros = []
filling_words example = codes "example" ∷ []
filling_words (image xs) = codes "image" ∷ hex_words xs

-- the bytes of a frame, and the room for the reply to it
abbrev pub frame_words : List ℕ → ℕ → List Word
frame_words xs into = hex_words xs ++ codes "into" ∷ decimal into ∷ []

abbrev pub request_words : Asked → List Word
request_words (tag store contents) = codes "tag" ∷ store_word store ∷ filling_words contents
request_words field_on = codes "field" ∷ codes "on" ∷ []
request_words field_off = codes "field" ∷ codes "off" ∷ []
request_words (jis xs into) = codes "jis" ∷ frame_words xs into
request_words (type_b xs into) = codes "b" ∷ frame_words xs into
request_words (bench_read block into) = codes "bench" ∷ codes "read" ∷ decimal block ∷ codes "into" ∷ decimal into ∷ []
request_words (bench_write block xs) = codes "bench" ∷ codes "write" ∷ decimal block ∷ hex_words xs
request_words performed = codes "performed" ∷ []
request_words writable = codes "writable" ∷ []
request_words dump = codes "dump" ∷ []

-- words with one space between each and the next
abbrev pub spaced : List Word → List ℕ
spaced [] = []
spaced (w ∷ []) = w
spaced (w ∷ v ∷ ws) = w ++ 32 ∷ spaced (v ∷ ws)

-- a request in its plain form
abbrev pub written : Asked → List ℕ
written a = spaced (request_words a)

abbrev pub Bytes : List ℕ → Type 0
Bytes xs = AllByRecursion (λ x. x < 256) xs

abbrev pub FillingFits : Filling → Type 0
FillingFits zeros = Unit {0}
FillingFits example = Unit {0}
FillingFits (image xs) = Bytes xs

abbrev pub FrameFits : List ℕ → ℕ → Type 0
FrameFits xs into = Bytes xs × (into ≤ 65536)

-- numbers are within their caps, and bytes are bytes
abbrev pub Fits : Asked → Type 0
Fits (tag store contents) = FillingFits contents
Fits field_on = Unit {0}
Fits field_off = Unit {0}
Fits (jis xs into) = FrameFits xs into
Fits (type_b xs into) = FrameFits xs into
Fits (bench_read block into) = (block ≤ 65535) × (into ≤ 65536)
Fits (bench_write block xs) = (block ≤ 65535) × Bytes xs
Fits performed = Unit {0}
Fits writable = Unit {0}
Fits dump = Unit {0}

-- a request that is written and then read comes back
abbrev pub WrittenLinesAreRead : Type 0
WrittenLinesAreRead = (a : Asked) → Fits a → read_line (written a) ≡ Ok (Some a)

-- a request that is read has its numbers within their caps
abbrev pub ReadRequestsFit : Type 0
ReadRequestsFit = (l : List ℕ) (a : Asked) → read_line l ≡ Ok (Some a) → Fits a

-- what is wrong with a line is never that memory ran out
abbrev pub FaultsAreOfLines : Type 0
FaultsAreOfLines = (l : List ℕ) → read_line l ≢ Err OutOfMemory

-- a space more beside a space, before the line or after it, and a carriage return after it, change nothing;
-- the last two where the line does not already end in a carriage return
pub record SpacesChangeNothing : Type 0 where
  pub beside : (l m : List ℕ) → read_line (l ++ 32 ∷ 32 ∷ m) ≡ read_line (l ++ 32 ∷ m)
  pub before : (l : List ℕ) → read_line (32 ∷ l) ≡ read_line l
  pub after : (l : List ℕ) → without_return l ≡ l → read_line (l ++ 32 ∷ []) ≡ read_line l
  pub return : (l : List ℕ) → without_return l ≡ l → read_line (l ++ 13 ∷ []) ≡ read_line l
