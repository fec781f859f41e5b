-- What a write of listed blocks leaves as it was. Assumes nothing.
use Rattle.std.proofs.Common.{◌≡◌, ℕ, Bool, true, false, cond, List, [], ◌∷◌, take, drop, Ok, Err, Result, sym, refl, ap, ◌∙◌, get_or-set_other}
use Rattle.std.proofs.lemmas.Bool.{and_parts, both_ways}
use Rattle.memory.specs.Memory.{Memory, block_at, with_block}
use Rattle.system.specs.Protection.{may_write}
use Rattle.jis.specs.declared.fault.Fault.{Fault}
use Rattle.jis.specs.Elements.{numbers}
use Rattle.jis.specs.Commands.{Asked, req, read, write}
use Rattle.jis_service.specs.Service.{every, written_in, memory_for}

-- a block that does not pass is not among those that all pass
pub not_listed : (p : ℕ → Bool) (m : Memory) (ns d : List ℕ) (b : ℕ) → every p ns ≡ true → p b ≡ false → block_at (written_in m ns d) b ≡ block_at m b
not_listed p m [] d b h f = refl
not_listed p m (n ∷ ns) d b h f =
    let t = and_parts (p n) (every p ns) h in
    not_listed p (with_block m n (take 16 d)) ns (drop 16 d) b t.1 f
    ∙ get_or-set_other m n b (take 16 d) [] (λ e. both_ways (p n) (ap p (sym e) ∙ f) t.0)

if_all : (x : List ℕ) (m : Memory) (ns d : List ℕ) (b : ℕ) (t : Bool) → every (may_write x) ns ≡ t → may_write x b ≡ false → block_at (cond t (written_in m ns d) m) b ≡ block_at m b
if_all x m ns d b true h f = not_listed (may_write x) m ns d b h f
if_all x m ns d b false h f = refl

-- no frame alters a block that it may not write
pub spared : (x : List ℕ) (m : Memory) (r : Result Asked Fault) (b : ℕ) → may_write x b ≡ false → block_at (memory_for x m r) b ≡ block_at m b
spared x m (Ok (req code request slot)) b f = refl
spared x m (Ok (read services n list)) b f = refl
spared x m (Ok (write services n list d)) b f = if_all x m (numbers n list) d b (every (may_write x) (numbers n list)) refl f
spared x m (Err e) b f = refl
