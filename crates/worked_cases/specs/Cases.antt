-- The worked cases, one list. Assumes nothing.
use Rattle.std.specs.Prelude.{◌≡◌, ℕ, List, [], ◌∷◌, ◌++◌, take, drop, replicate, Some, None, Option}
use Rattle.checksum.specs.Checksum.{jis_checksum, crc_b}
use Rattle.memory.specs.Memory.{blocks_of}
use Rattle.memory.specs.declared.number.BlockNumber.{BlockNumber}
use Rattle.system.specs.Example.{example_image}
use Rattle.system.specs.declared.figure.Writable.{Writable}
use Rattle.reply.specs.Frames.{jis_frame, type_b_frame}
use Rattle.tag.specs.Model.{Model}
use Rattle.tag.specs.History.{bench_writable}
use Rattle.system.specs.Example.{example_protection}
use Rattle.command.specs.Orders.{asked_by}
use Rattle.command.specs.Performed.{answer_to}
use Rattle.tag.specs.Steps.{Step, fresh, raised, serving, jis_payload, jis_reply, type_b_body}

-- there is a block, and it is block b
abbrev pub IsBlock : ℕ → Option BlockNumber → Type 0
IsBlock b None = ⊥
IsBlock b (Some x) = x.index ≡ b

-- the example tag with the field on
abbrev pub example_tag : Model
example_tag = raised (fresh (blocks_of example_image))

-- what the example tag replies to the JIS frame of a payload
abbrev pub replied : List ℕ → List ℕ
replied payload = jis_reply (jis_payload (serving example_tag.power) example_tag.memory (jis_frame payload))

-- the payload of a READ of the example tag, of one block element with one service, and the flags of the reply
abbrev pub read_of : List ℕ → List ℕ
read_of element = 0x06 ∷ 1 ∷ 2 ∷ 3 ∷ 4 ∷ 5 ∷ 6 ∷ 7 ∷ 8 ∷ 1 ∷ 0x0B ∷ 0x00 ∷ 1 ∷ element

-- a WRITE of 16 bytes likewise
abbrev pub write_of : List ℕ → List ℕ
write_of element = 0x08 ∷ 1 ∷ 2 ∷ 3 ∷ 4 ∷ 5 ∷ 6 ∷ 7 ∷ 8 ∷ 1 ∷ 0x09 ∷ 0x00 ∷ 1 ∷ (element ++ replicate 16 0x5A)

abbrev pub flags_in : List ℕ → List ℕ
flags_in reply = take 2 (drop 10 reply)

-- what the example tag says to the Type B frame of a body, without the checksum
abbrev pub said : List ℕ → List ℕ
said body = type_b_body example_tag.power example_tag.memory (type_b_frame body)

-- what it answers to a command of Type B
abbrev pub answered : List ℕ → List ℕ
answered command = answer_to example_protection example_tag.memory (asked_by command)

abbrev pub atqb_of_example : List ℕ
atqb_of_example = 0x50 ∷ 0x05 ∷ 0x06 ∷ 0x07 ∷ 0x08 ∷ 0x00 ∷ 0x00 ∷ 0x00 ∷ 0x00 ∷ 0x91 ∷ 0x81 ∷ 0x40 ∷ []

pub record WorkedCases : Type 0 where
  -- checksums
  pub polling : jis_checksum (0x06 ∷ 0x00 ∷ 0xff ∷ 0xff ∷ 0x00 ∷ 0x00 ∷ []) ≡ 0x09 ∷ 0x21 ∷ []
  pub request : crc_b (0x05 ∷ 0x00 ∷ 0x00 ∷ []) ≡ 0x71 ∷ 0xff ∷ []
  pub wake_up : crc_b (0x05 ∷ 0x00 ∷ 0x08 ∷ []) ≡ 0x39 ∷ 0x73 ∷ []
  pub attrib_answer : crc_b (0x10 ∷ []) ≡ 0xf9 ∷ 0xe0 ∷ []
  -- of the example tag 24 blocks are writable, the lowest is 0
  pub writable : (w : Writable) (t : Model) → Step example_tag (bench_writable w) t → (w.count ≡ 24) × IsBlock 0 w.lowest
  -- a REQ for the system codes AA FF is not for it
  pub req_aa : replied (0x00 ∷ 0xAA ∷ 0xFF ∷ 0x00 ∷ 0x00 ∷ []) ≡ []
  -- a READ of block 3, which has both bits, and of block 26 is normal; of block 4, which is closed, not
  pub read_3 : flags_in (replied (read_of (0x80 ∷ 0x03 ∷ []))) ≡ 0x00 ∷ 0x00 ∷ []
  pub read_26 : flags_in (replied (read_of (0x80 ∷ 0x1A ∷ []))) ≡ 0x00 ∷ 0x00 ∷ []
  pub read_4 : flags_in (replied (read_of (0x80 ∷ 0x04 ∷ []))) ≡ 0xFF ∷ 0x60 ∷ []
  -- there is no user block 27, and D2 of a long element is 0
  pub read_27 : flags_in (replied (read_of (0x80 ∷ 0x1B ∷ []))) ≡ 0xFF ∷ 0xA5 ∷ []
  pub read_long : flags_in (replied (read_of (0x00 ∷ 0x05 ∷ 0x02 ∷ []))) ≡ 0xFF ∷ 0xA5 ∷ []
  -- a WRITE of block 3 is refused
  pub write_3 : flags_in (replied (write_of (0x80 ∷ 0x03 ∷ []))) ≡ 0xFF ∷ 0x60 ∷ []
  -- AFI 30, 05 and 35 fit it, 34 and 50 do not
  pub afi_30 : said (0x05 ∷ 0x30 ∷ 0x00 ∷ []) ≡ atqb_of_example
  pub afi_05 : said (0x05 ∷ 0x05 ∷ 0x00 ∷ []) ≡ atqb_of_example
  pub afi_35 : said (0x05 ∷ 0x35 ∷ 0x00 ∷ []) ≡ atqb_of_example
  pub afi_34 : said (0x05 ∷ 0x34 ∷ 0x00 ∷ []) ≡ []
  pub afi_50 : said (0x05 ∷ 0x50 ∷ 0x00 ∷ []) ≡ []
  -- the last user byte is read; one more is past the end; block 3 may be read and block 4 not; a length of 252 is too long
  pub read_last : answered (0x00 ∷ 0xB0 ∷ 0x01 ∷ 0xAF ∷ 0x01 ∷ []) ≡ 0x00 ∷ 0x90 ∷ 0x00 ∷ []
  pub read_past : answered (0x00 ∷ 0xB0 ∷ 0x01 ∷ 0xAF ∷ 0x02 ∷ []) ≡ 0x6A ∷ 0x86 ∷ []
  pub read_closed : answered (0x00 ∷ 0xB0 ∷ 0x00 ∷ 0x3F ∷ 0x02 ∷ []) ≡ 0x6F ∷ 0x00 ∷ []
  pub read_252 : answered (0x00 ∷ 0xB0 ∷ 0x00 ∷ 0x00 ∷ 0xFC ∷ []) ≡ 0x67 ∷ 0x00 ∷ []
