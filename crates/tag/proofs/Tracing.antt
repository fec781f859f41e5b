-- Traces join, the count grows by what was performed, the shape stays, and a run is a trace. Assumes nothing.
use Rattle.std.proofs.Common.{◌≡◌, ℕ, ◌+◌, ◌*◌, ◌%◌, ◌^◌, ◌<◌, Bool, true, false, cond, List, [], ◌∷◌, ◌++◌, length, Some, None, Ok, Err, Option, Result, sym, refl, ap, ◌∙◌, subst, append_assoc, arith, length-append}
use Rattle.memory.specs.Memory.{Memory, Shaped, with_bytes}
use Rattle.memory.proofs.Shapes.{shaped_set}
use Rattle.system.specs.Identity.{idm}
use Rattle.system.specs.Protection.{may_write}
use Rattle.jis.specs.declared.fault.Fault.{Fault}
use Rattle.jis.specs.Elements.{numbers}
use Rattle.jis.specs.Commands as jis-command
use Rattle.jis.specs.Commands.{command_of}
use Rattle.jis.proofs.Listing.{numbers_length}
use Rattle.jis_service.specs.Service.{every, written_in, memory_for}
use Rattle.jis_service.proofs.Taken.{lawful_command, users}
use Rattle.type_b.specs.Frames.{Kind, request, attrib, halt, deselect, information, ack, nak, unknown, kind_of}
use Rattle.command.specs.Barred.{Write, barred, touches}
use Rattle.command.specs.Orders.{Asked, answered, read, update}
use Rattle.type_b_service.specs.Turns.{Phase, idle, ready, halted, active, completed, effect, counted}
use Rattle.tag.specs.declared.state.Tag.{Tag}
use Rattle.tag.specs.Model.{Copy, Powered, Model}
use Rattle.tag.specs.History.{Event, field_on, field_off, bench_read, bench_write, bench_writable, jis, type_b, bench_performed, History}
use Rattle.tag.specs.Steps.{Step, fresh, serving, jis_memory, completed_by, memory_by}
use Rattle.tag.specs.View.{view}
use Rattle.tag.specs.Puts.{in_blocks, from_address}
use Rattle.tag.specs.Performing.{Performed, performed_by, performed_in, performs, Trace, none, call}
use Rattle.tag.specs.Runs as runs
use Rattle.tag.specs.Runs.{Ran}
use Rattle.tag.proofs.Placing.{shaped_puts}
use Rattle.tag.proofs.Listing.{put_blocks}
use Rattle.tag.proofs.Sessions.{put_range}

-- traces join
pub joined : {s t u : Model} {g h : History} {ps qs : List Performed} → Trace s g ps t → Trace t h qs u → Trace s (h ++ g) (qs ++ ps) u
joined a none = a
joined {s = s} {u = u} {g = g} {ps = ps} a (call {h = h} {ps = qs} {t = t} {e = e} b st) =
    subst (λ z. Trace s (e ∷ (h ++ g)) z u) (sym (append_assoc (performs t e) qs ps)) (call (joined a b) st)

-- the count
none_more : (n : ℕ) → n < 2 ^ 64 → n ≡ (n + 0) % 2 ^ 64
none_more n h = omega arith

kind_counts : (x : List ℕ) (m : Memory) (n : ℕ) (p : Phase) (k : Kind) → n < 2 ^ 64 → counted n (completed p k) ≡ (n + length (performed_by x m p k)) % 2 ^ 64
kind_counts x m n p (request asked param) h = none_more n h
kind_counts x m n p (attrib pupi size) h = none_more n h
kind_counts x m n p (halt pupi) h = none_more n h
kind_counts x m n p deselect h = none_more n h
kind_counts x m n p (information true inf) h = none_more n h
kind_counts x m n idle (information false inf) h = none_more n h
kind_counts x m n ready (information false inf) h = none_more n h
kind_counts x m n halted (information false inf) h = none_more n h
kind_counts x m n (active t) (information false inf) h = refl
kind_counts x m n p (ack a) h = none_more n h
kind_counts x m n p (nak a) h = none_more n h
kind_counts x m n p unknown h = none_more n h

frame_counts : (n : ℕ) (o : Option Powered) (m : Memory) (f : List ℕ) → n < 2 ^ 64 → counted n (completed_by o f) ≡ (n + length (performed_in o m (kind_of f))) % 2 ^ 64
frame_counts n None m f h = none_more n h
frame_counts n (Some p) m f h = kind_counts p.copy.protection m n p.phase (kind_of f) h

call_counts : (s : Model) (e : Event) (t : Model) → Step s e t → s.performed < 2 ^ 64 → t.performed ≡ (s.performed + length (performs s e)) % 2 ^ 64
call_counts s field_on t e h = ap (λ z. z.performed) e ∙ none_more s.performed h
call_counts s field_off t e h = ap (λ z. z.performed) e ∙ none_more s.performed h
call_counts s (bench_read b before (Ok u) after) t e h = ap (λ z. z.performed) e.3 ∙ none_more s.performed h
call_counts s (bench_read b before (Err x) after) t e h = ap (λ z. z.performed) e.2 ∙ none_more s.performed h
call_counts s (bench_write b d (Ok u)) t e h = ap (λ z. z.performed) e.2 ∙ none_more s.performed h
call_counts s (bench_write b d (Err x)) t e h = ap (λ z. z.performed) e.1 ∙ none_more s.performed h
call_counts s (bench_writable w) t e h = ap (λ z. z.performed) e.1 ∙ none_more s.performed h
call_counts s (jis f before (Ok n) after) t e h = ap (λ z. z.performed) e.1 ∙ none_more s.performed h
call_counts s (jis f before (Err x) after) t e h = ap (λ z. z.performed) e.1 ∙ none_more s.performed h
call_counts s (type_b f before (Ok n) after) t e h = ap (λ z. z.performed) e.1 ∙ frame_counts s.performed s.power s.memory f h
call_counts s (type_b f before (Err x) after) t e h = ap (λ z. z.performed) e.1 ∙ none_more s.performed h
call_counts s (bench_performed n) t e h = ap (λ z. z.performed) e.1 ∙ none_more s.performed h

pub counts : {s t : Model} {h : History} {ps : List Performed} → Trace s h ps t → s.performed < 2 ^ 64 → t.performed ≡ (s.performed + length ps) % 2 ^ 64
counts {s = s} none small = none_more s.performed small
counts {s = s} {t = u} (call {ps = ps} {t = t} {e = e} r st) small =
    let before : t.performed ≡ (s.performed + length ps) % 2 ^ 64 = counts r small in
    let one : u.performed ≡ (t.performed + length (performs t e)) % 2 ^ 64 = call_counts t e u st (omega arith) in
    let both : length (performs t e ++ ps) ≡ length (performs t e) + length ps = length-append (performs t e) ps in
    omega (arith, before, one, both)

-- the shape
shaped_listed : (x : List ℕ) (m : Memory) (id f : List ℕ) → Shaped m → (r : Result jis-command.Asked Fault) → command_of id f ≡ r → Shaped (memory_for x m r)
shaped_listed x m id f s (Ok (jis-command.req code rate slot)) e = s
shaped_listed x m id f s (Ok (jis-command.read services n list)) e = s
shaped_listed x m id f s (Ok (jis-command.write services n list d)) e = by (every (may_write x) (numbers n list))
  where
    by : (t : Bool) → Shaped (cond t (written_in m (numbers n list) d) m)
    by true =
        let l = lawful_command id f (jis-command.write services n list d) e in
        let k : length d ≡ 16 * length (numbers n list) = l.1 ∙ ap (λ z. 16 * z) (sym (numbers_length n list)) in
        subst Shaped (sym (put_blocks m (numbers n list) d s (users n list l.0) k)) (shaped_puts m (in_blocks (numbers n list) d) s)
    by false = s
shaped_listed x m id f s (Err fault) e = s

shaped_jis : (o : Option Copy) (m : Memory) (f : List ℕ) → Shaped m → Shaped (jis_memory o m f)
shaped_jis None m f s = s
shaped_jis (Some c) m f s = shaped_listed c.protection m (idm c.identity) f s (command_of (idm c.identity) f) refl

shaped_effect : (x : List ℕ) (m : Memory) (o : Option Asked) → Shaped m → Shaped (effect x m o)
shaped_effect x m None s = s
shaped_effect x m (Some (answered status)) s = s
shaped_effect x m (Some (read a n)) s = s
shaped_effect x m (Some (update a d)) s = by (touches (barred Write x) a (length d))
  where
    by : (t : Bool) → Shaped (cond t m (with_bytes m a d))
    by true = s
    by false = subst Shaped (sym (put_range m a d)) (shaped_puts m (from_address a d) s)

shaped_type_b : (o : Option Powered) (m : Memory) (f : List ℕ) → Shaped m → Shaped (memory_by o m f)
shaped_type_b None m f s = s
shaped_type_b (Some p) m f s = shaped_effect p.copy.protection m (completed p.phase (kind_of f)) s

call_shaped : (s : Model) (e : Event) (t : Model) → Step s e t → Shaped s.memory → Shaped t.memory
call_shaped s field_on t e h = subst (λ z. Shaped z.memory) (sym e) h
call_shaped s field_off t e h = subst (λ z. Shaped z.memory) (sym e) h
call_shaped s (bench_read b before (Ok u) after) t e h = subst (λ z. Shaped z.memory) (sym e.3) h
call_shaped s (bench_read b before (Err x) after) t e h = subst (λ z. Shaped z.memory) (sym e.2) h
call_shaped s (bench_write b d (Ok u)) t e h = subst (λ z. Shaped z.memory) (sym e.2) (shaped_set s.memory b d e.1 h)
call_shaped s (bench_write b d (Err x)) t e h = subst (λ z. Shaped z.memory) (sym e.1) h
call_shaped s (bench_writable w) t e h = subst (λ z. Shaped z.memory) (sym e.1) h
call_shaped s (jis f before (Ok n) after) t e h = subst (λ z. Shaped z.memory) (sym e.1) (shaped_jis (serving s.power) s.memory f h)
call_shaped s (jis f before (Err x) after) t e h = subst (λ z. Shaped z.memory) (sym e.1) h
call_shaped s (type_b f before (Ok n) after) t e h = subst (λ z. Shaped z.memory) (sym e.1) (shaped_type_b s.power s.memory f h)
call_shaped s (type_b f before (Err x) after) t e h = subst (λ z. Shaped z.memory) (sym e.1) h
call_shaped s (bench_performed n) t e h = subst (λ z. Shaped z.memory) (sym e.1) h

pub shape : {s t : Model} {h : History} {ps : List Performed} → Trace s h ps t → Shaped s.memory → Shaped t.memory
shape none z = z
shape {t = u} (call {t = t} {e = e} r st) z = call_shaped t e u st (shape r z)

-- a run is a trace
pub traced : {S : Type 0} (blocks : S → Memory) (store : S) {h : History} {t : Tag S} → Ran blocks store h t → (ps : List Performed) × Trace (fresh (blocks store)) h ps (view blocks t)
traced blocks store (runs.made e) = ([], subst (λ z. Trace (fresh (blocks store)) [] [] z) (sym e) none)
traced blocks store (runs.call {t = t} {e = e} r st) = let b = traced blocks store r in (performs (view blocks t) e ++ b.0, call b.1 st.step)
