-- The commands that a tag performs, and a trace: calls one after the other from any state of a tag. Assumes nothing.
use Rattle.std.specs.Prelude.{ℕ, true, false, List, [], ◌∷◌, ◌++◌, Some, None, Ok, Err, Option}
use Rattle.memory.specs.Memory.{Memory}
use Rattle.type_b.specs.Frames.{Kind, request, attrib, halt, deselect, information, ack, nak, unknown, kind_of}
use Rattle.command.specs.Performed.{answer_to}
use Rattle.session.specs.Chains.{Joined, more, commanded}
use Rattle.type_b_service.specs.Turns.{Phase, idle, ready, halted, active}
use Rattle.tag.specs.Model.{Powered, Model}
use Rattle.tag.specs.History.{Event, field_on, field_off, bench_read, bench_write, bench_writable, jis, type_b, bench_performed, History}
use Rattle.tag.specs.Steps.{Step}

-- a command that a tag performed: its bytes, as the tag has them once the last piece is taken, and the answer fixed then
pub record Performed : Type 0 where
  pub command : Joined
  pub answer : List ℕ

-- the answer is fixed by block 31 of the copy and by the memory as it is then
abbrev pub performed_now : List ℕ → Memory → Joined → Performed
performed_now x m c = record { command = c; answer = answer_to x m (commanded c) }

-- the last piece of a command is an unchained I-block in ACTIVE
abbrev pub last_piece : List ℕ → Memory → Phase → List ℕ → List Performed
last_piece x m idle inf = []
last_piece x m ready inf = []
last_piece x m halted inf = []
last_piece x m (active t) inf = performed_now x m (more t.chain inf) ∷ []

abbrev pub performed_by : List ℕ → Memory → Phase → Kind → List Performed
performed_by x m p (request asked param) = []
performed_by x m p (attrib pupi size) = []
performed_by x m p (halt pupi) = []
performed_by x m p deselect = []
performed_by x m p (information true inf) = []
performed_by x m p (information false inf) = last_piece x m p inf
performed_by x m p (ack n) = []
performed_by x m p (nak n) = []
performed_by x m p unknown = []

-- what a tag performs when it takes a Type B frame of a kind
abbrev pub performed_in : Option Powered → Memory → Kind → List Performed
performed_in None m k = []
performed_in (Some p) m k = performed_by p.copy.protection m p.phase k

-- what a tag performs in a call: only a Type B frame that is not refused makes it perform anything
abbrev pub performs : Model → Event → List Performed
performs s field_on = []
performs s field_off = []
performs s (bench_read b before r after) = []
performs s (bench_write b bytes r) = []
performs s (bench_writable w) = []
performs s (jis f before r after) = []
performs s (type_b f before (Ok n) after) = performed_in s.power s.memory (kind_of f)
performs s (type_b f before (Err e) after) = []
performs s (bench_performed n) = []

-- A trace. The calls of the history, and nothing else, took a tag from the state s to the state t, and these are the commands that it performed meanwhile, the newest first.
pub data Trace (s : Model) : History → List Performed → Model → Type 0 where
  none : Trace s [] [] s
  call : {h : History} {ps : List Performed} {t u : Model} {e : Event} → Trace s h ps t → Step t e u → Trace s (e ∷ h) (performs t e ++ ps) u
