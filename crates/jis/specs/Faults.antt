-- What a fault is answered. Assumes nothing.
use Rattle.std.specs.Prelude.{ℕ, List, [], ◌∷◌, Some, None, Option}
use Rattle.jis.specs.declared.fault.Access.{Access}
use Rattle.jis.specs.declared.fault.Access.TheVariants.{Read, Write}
use Rattle.jis.specs.declared.fault.Fault.{Fault}
use Rattle.jis.specs.declared.fault.Fault.TheVariants.{Length, Checksum, Code, Shape, ForeignIdentifier, ServiceCount, Truncated, ServicesDiffer, BlockCount, ListEnd, BadElement}
use Rattle.jis.specs.declared.fault.Status.{Status}
use Rattle.jis.specs.declared.fault.Status.TheVariants as status

-- a READ is answered 07, a WRITE 09
abbrev pub answer_code : Access → ℕ
answer_code Read = 0x07
answer_code Write = 0x09

-- the two flag bytes of a status
abbrev pub flags_of : Status → List ℕ
flags_of status.Normal = 0x00 ∷ 0x00 ∷ []
flags_of status.ServiceCount = 0xFF ∷ 0xA1 ∷ []
flags_of status.ServicesDiffer = 0xFF ∷ 0xA3 ∷ []
flags_of status.BlockCount = 0xFF ∷ 0xA2 ∷ []
flags_of status.BadElement = 0xFF ∷ 0xA5 ∷ []
flags_of status.Protected = 0xFF ∷ 0x60 ∷ []

-- a fault meets silence, or is answered as a READ or a WRITE with a status
abbrev pub answer_to : Fault → Option (Access × Status)
answer_to Length = None
answer_to Checksum = None
answer_to Code = None
answer_to Shape = None
answer_to ForeignIdentifier = None
answer_to (ServiceCount a) = Some (a, status.ServiceCount)
answer_to Truncated = None
answer_to (ServicesDiffer a) = Some (a, status.ServicesDiffer)
answer_to (BlockCount a) = Some (a, status.BlockCount)
answer_to ListEnd = None
answer_to (BadElement a) = Some (a, status.BadElement)
