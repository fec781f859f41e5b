-- What a Type B frame does to a tag with the field on, in each of its states, and what the tag replies. Assumes nothing.
use Rattle.std.specs.Prelude.{ℕ, ◌+◌, ◌*◌, ◌/◌, ◌%◌, ◌^◌, Bool, true, false, cond, ◌&&◌, List, [], ◌∷◌, ◌++◌, is_some, Some, None, Option, ◌==◌}
use Rattle.std.specs.Str.{bytes_eq}
use Rattle.memory.specs.Memory.{Memory}
use Rattle.system.specs.Identity as own
use Rattle.type_b.specs.declared.size.FrameSize.{FrameSize}
use Rattle.type_b.specs.Frames.{Kind, request, attrib, halt, deselect, information, ack, nak, unknown}
use Rattle.command.specs.Orders.{Asked}
use Rattle.command.specs.Performed.{answer_to, memory_after}
use Rattle.session.specs.Chains.{more, commanded}
use Rattle.session.specs.Model.{SessionModel, started, last_body, after_chained, after_answer, after_ack, ack_reply, nak_reply}

-- the states of a tag with the field on, each with what belongs to it
pub data Phase : Type 0 where
  idle : Phase
  ready : Phase
  halted : Phase
  active : SessionModel → Phase

abbrev pub is_active : Phase → Bool
is_active idle = false
is_active ready = false
is_active halted = false
is_active (active t) = true

-- the state after a frame, and the body of the reply, which is empty for silence
pub record Turn : Type 0 where
  pub phase : Phase
  pub said : List ℕ

-- no reply and no change
abbrev pub silent : Phase → Turn
silent p = record { phase = p; said = [] }

-- the last block of the session is sent
abbrev pub sends : SessionModel → Turn
sends t = record { phase = active t; said = last_body t }

-- only in READY, and only in ACTIVE; else silence
abbrev pub in_ready : Turn → Phase → Turn
in_ready u idle = silent idle
in_ready u ready = u
in_ready u halted = silent halted
in_ready u (active t) = silent (active t)

abbrev pub in_active : (SessionModel → Turn) → Phase → Turn
in_active f idle = silent idle
in_active f ready = silent ready
in_active f halted = silent halted
in_active f (active t) = f t

-- 05 is answered in IDLE and READY, and in HALT if PARAM bit 3 is set
abbrev pub listens : Phase → ℕ → Bool
listens idle param = true
listens ready param = true
listens halted param = param / 8 % 2 == 1
listens (active t) param = false

-- AFI 00 fits every tag, Y0 an equal upper half, 0Y an equal lower half, others an equal byte
abbrev pub fits : ℕ → ℕ → Bool
fits asked own =
    cond (asked == 0) true
    (cond (asked % 16 == 0) (asked / 16 == own / 16)
    (cond (asked / 16 == 0) (asked % 16 == own % 16)
    (asked == own)))

-- the answer to 05 is 50, PUPI, 00 00 00 00, 91, 81, 16 times FWI
abbrev pub atqb : List ℕ → List ℕ
atqb identity = (0x50 ∷ []) ++ own.pupi identity ++ (0x00 ∷ 0x00 ∷ 0x00 ∷ 0x00 ∷ 0x91 ∷ 0x81 ∷ (16 * own.fwi identity) ∷ [])

abbrev pub requested : List ℕ → ℕ → ℕ → Phase → Turn
requested identity asked param p = cond (listens p param && fits asked (own.afi identity)) (record { phase = ready; said = atqb identity }) (silent p)

-- only a frame with the tag's own name
abbrev pub if_own : List ℕ → List ℕ → Turn → Turn
if_own identity name u = cond (bytes_eq name (own.pupi identity)) u (silent ready)

-- 1D for this tag is answered 10, and the session begins
abbrev pub chosen : List ℕ → List ℕ → FrameSize → Turn
chosen identity pupi size = cond (bytes_eq pupi (own.pupi identity)) (record { phase = active (started size); said = 0x10 ∷ [] }) (silent ready)

-- 50 for this tag is answered 00
abbrev pub laid_down : List ℕ → List ℕ → Turn
laid_down identity pupi = cond (bytes_eq pupi (own.pupi identity)) (record { phase = halted; said = 0x00 ∷ [] }) (silent ready)

-- a frame of each kind, with blocks 30 and 31 of the copy and the memory
abbrev pub turn : List ℕ → List ℕ → Memory → Phase → Kind → Turn
turn identity x m p (request asked param) = requested identity asked param p
turn identity x m p (attrib pupi size) = in_ready (chosen identity pupi size) p
turn identity x m p (halt pupi) = in_ready (laid_down identity pupi) p
turn identity x m p deselect = in_active (λ t. record { phase = halted; said = 0xc2 ∷ [] }) p
turn identity x m p (information true inf) = in_active (λ t. sends (after_chained t inf)) p
turn identity x m p (information false inf) = in_active (λ t. sends (after_answer t (answer_to x m (commanded (more t.chain inf))))) p
turn identity x m p (ack n) = in_active (λ t. record { phase = active (after_ack t n); said = ack_reply t n }) p
turn identity x m p (nak n) = in_active (λ t. record { phase = active t; said = nak_reply t n }) p
turn identity x m p unknown = silent p

-- what the command asks that an unchained I-block completes
abbrev pub ordered : Phase → List ℕ → Option Asked
ordered idle inf = None
ordered ready inf = None
ordered halted inf = None
ordered (active t) inf = Some (commanded (more t.chain inf))

abbrev pub completed : Phase → Kind → Option Asked
completed p (request asked param) = None
completed p (attrib pupi size) = None
completed p (halt pupi) = None
completed p deselect = None
completed p (information true inf) = None
completed p (information false inf) = ordered p inf
completed p (ack n) = None
completed p (nak n) = None
completed p unknown = None

-- a completed command is performed on the memory, and counted in 64 bits
abbrev pub effect : List ℕ → Memory → Option Asked → Memory
effect x m None = m
effect x m (Some a) = memory_after x m a

abbrev pub counted : ℕ → Option Asked → ℕ
counted n o = cond (is_some o) ((n + 1) % 2 ^ 64) n
