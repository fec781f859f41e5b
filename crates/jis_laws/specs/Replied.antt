-- Replies as a reader takes them apart. Assumes nothing.
use Rattle.std.specs.Prelude.{◌≡◌, ℕ, cond, List, [], ◌∷◌, length, take, drop, Ok, Err, Result, ◌==◌, slice_index}
use Rattle.memory.specs.Memory.{cut}
use Rattle.jis.specs.declared.fault.Access.{Access}
use Rattle.jis.specs.declared.fault.Access.TheVariants.{Read, Write}
use Rattle.jis.specs.declared.fault.Fault.{Fault}
use Rattle.jis.specs.declared.fault.Fault.TheVariants.{Code}
use Rattle.jis.specs.declared.fault.Status.{Status}
use Rattle.jis.specs.declared.fault.Status.TheVariants.{Normal, ServiceCount, ServicesDiffer, BlockCount, BadElement, Protected}
use Rattle.jis.specs.Commands.{on, opened}

-- the answer to a REQ, and that to a READ or a WRITE
pub data Answer : Type 0 where
  polled : (idm pmm extra : List ℕ) → Answer
  done : (access : Access) (idm : List ℕ) (status : Status) (blocks : List (List ℕ)) → Answer

-- the second flag tells the status
abbrev pub status_of : ℕ → Status
status_of flag =
    cond (flag == 0xA1) ServiceCount
    (cond (flag == 0xA3) ServicesDiffer
    (cond (flag == 0xA2) BlockCount
    (cond (flag == 0xA5) BadElement
    (cond (flag == 0x60) Protected Normal))))

-- identifier, two flags, and the blocks of 16 bytes each behind their number, where there is one
abbrev pub listed : Access → List ℕ → Answer
listed a p = done a (take 8 (drop 1 p)) (status_of (slice_index p 10)) (cut (slice_index p 11) (drop 12 p))

-- identifier, 5 bytes, PMM, one byte, and what the request code asked for
abbrev pub polled_by : List ℕ → Answer
polled_by p = polled (take 8 (drop 1 p)) (take 2 (drop 14 p)) (drop 17 p)

-- the first byte tells what is answered: 01 a REQ, 07 a READ, 09 a WRITE
abbrev pub answer_of : List ℕ → Result Answer Fault
answer_of p =
    cond (slice_index p 0 == 0x01) (Ok (polled_by p))
    (cond (slice_index p 0 == 0x07) (Ok (listed Read p))
    (cond (slice_index p 0 == 0x09) (Ok (listed Write p))
    (Err Code)))

-- a reply's frame taken apart
abbrev pub reply_of : List ℕ → Result Answer Fault
reply_of f = on (opened f) answer_of

-- each block has 16 bytes
abbrev pub Sixteens : List (List ℕ) → Type 0
Sixteens [] = Unit {0}
Sixteens (b ∷ bs) = (length b ≡ 16) × Sixteens bs
