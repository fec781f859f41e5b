-- What is put together is taken apart to the same parts. None asks the parts to be bytes: they hold of all numbers. Assumes nothing.
use Rattle.std.specs.Prelude.{◌≡◌, ℕ, List, [], map, length, Ok, Err}
use Rattle.reply.specs.Frames.{jis_frame}
use Rattle.jis.specs.declared.fault.Access.{Access}
use Rattle.jis.specs.declared.fault.Access.TheVariants.{Read}
use Rattle.jis.specs.declared.fault.Fault.TheVariants.{ForeignIdentifier}
use Rattle.jis.specs.declared.fault.Status.{Status}
use Rattle.jis.specs.declared.fault.Status.TheVariants.{Normal}
use Rattle.jis.specs.Answers.{extra_of, flags_payload, read_payload, req_payload}
use Rattle.jis.specs.Commands.{command_of}
use Rattle.jis.specs.Elements.{numbers}
use Rattle.jis.specs.Faults.{answer_code}
use Rattle.jis_laws.specs.Replied.{reply_of, polled, done, Sixteens}
use Rattle.jis_laws.specs.Sent.{Element, list_bytes, number_of, EachFits, Command, frame_of, InRange, For, asked}

-- the frame of a command is taken apart, by each tag that it is for, to the command's parts
abbrev pub CommandsReturn : Type 0
CommandsReturn = (own : List ℕ) (c : Command) → InRange c → For own c → command_of own (frame_of c) ≡ Ok (asked c)

-- by any other tag it is not taken
abbrev pub ForeignSilent : Type 0
ForeignSilent = (own : List ℕ) (c : Command) → InRange c → (For own c → ⊥) → command_of own (frame_of c) ≡ Err ForeignIdentifier

-- the block list of a command gives the numbers of its elements
abbrev pub NumbersReturn : Type 0
NumbersReturn = (es : List Element) → EachFits es → numbers (length es) (list_bytes es) ≡ map number_of es

-- two commands that have the same frame are the same command
abbrev pub FramesDiffer : Type 0
FramesDiffer = (c d : Command) → InRange c → InRange d → frame_of c ≡ frame_of d → c ≡ d

-- the frame of each reply is taken apart to what the reply says
pub record AnswersReturn : Type 0 where
  pub req : (idm pmm code : List ℕ) (request : ℕ) → length idm ≡ 8 → length pmm ≡ 2
      → reply_of (jis_frame (req_payload idm pmm request code)) ≡ Ok (polled idm pmm (extra_of request code))
  pub flags : (a : Access) (idm : List ℕ) (s : Status) → length idm ≡ 8 → reply_of (jis_frame (flags_payload (answer_code a) idm s)) ≡ Ok (done a idm s [])
  pub read : (idm : List ℕ) (blocks : List (List ℕ)) → length idm ≡ 8 → Sixteens blocks
      → reply_of (jis_frame (read_payload idm blocks)) ≡ Ok (done Read idm Normal blocks)
