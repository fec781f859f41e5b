-- A frame that meets silence leaves the memory: only a WRITE changes it, and a WRITE is always answered. Assumes nothing.
use Rattle.std.proofs.Common.{◌≡◌, ℕ, Bool, true, false, cond, List, [], ◌∷◌, length, Ok, Err, Result, refl, ap, arith}
use Rattle.memory.specs.Memory.{Memory}
use Rattle.system.specs.Identity.{idm}
use Rattle.system.specs.Protection.{may_write}
use Rattle.jis.specs.declared.fault.Fault.{Fault}
use Rattle.jis.specs.declared.fault.Status.TheVariants.{Normal, Protected}
use Rattle.jis.specs.Answers.{flags_payload}
use Rattle.jis.specs.Elements.{numbers}
use Rattle.jis.specs.Commands.{Asked, req, read, write, command_of}
use Rattle.jis_service.specs.Service.{SilenceChangesNothing, every, payload_for, memory_for, written_in}

never_nothing : (x : ℕ) (xs : List ℕ) → x ∷ xs ≡ [] → ⊥
never_nothing x xs e = let n = ap length e in omega (arith, n)

for : (identity protection : List ℕ) (m : Memory) (c : Result Asked Fault) → payload_for identity protection m c ≡ [] → memory_for protection m c ≡ m
for identity protection m (Ok (req code request slot)) e = refl
for identity protection m (Ok (read services n list)) e = refl
for identity protection m (Ok (write services n list d)) e = go (every (may_write protection) (numbers n list)) e
  where
    go : (t : Bool) → cond t (flags_payload 0x09 (idm identity) Normal) (flags_payload 0x09 (idm identity) Protected) ≡ [] → cond t (written_in m (numbers n list) d) m ≡ m
    go true f = absurd (never_nothing 0x09 _ f)
    go false f = refl
for identity protection m (Err fault) e = refl

pub silence : SilenceChangesNothing
silence identity protection m f e = for identity protection m (command_of (idm identity) f) e
