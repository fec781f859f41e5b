-- What a user is told of each fault.
use Rattle.std.specs.Prelude.{ℕ, List, codes}
use Rattle.script.specs.declared.fault.Fault.{Fault}
use Rattle.script.specs.declared.fault.Fault.TheVariants.{UnknownCommand, TagStore, TagContents, FieldState, BenchAction, NotInto, NumberMissing, NotANumber, NotHex, OddDigits, TooMany, OutOfMemory}

abbrev pub message_of : Fault → List ℕ
message_of UnknownCommand = codes "unknown command: use tag, field, jis, b, bench, performed, writable or dump"
message_of TagStore = codes "tag wants 'flat' or 'log'"
message_of TagContents = codes "after the store, tag wants nothing, 'example', or 'image' and hex digits"
message_of FieldState = codes "field wants 'on' or 'off'"
message_of BenchAction = codes "bench wants 'read' or 'write'"
message_of NotInto = codes "after the block, bench read wants nothing, or 'into' and a number"
message_of NumberMissing = codes "a number is missing at the end of the line"
message_of NotANumber = codes "a number has only the digits 0 to 9"
message_of NotHex = codes "a byte is two hex digits, 0 to 9, a to f or A to F"
message_of OddDigits = codes "hex digits come in pairs: a word has an odd number of them"
message_of TooMany = codes "the command is complete: remove the words after it"
message_of OutOfMemory = codes "there is not enough memory for the bytes of this line"
