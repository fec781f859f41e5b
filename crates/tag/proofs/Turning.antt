-- A Type B frame, whatever its kind and whatever the state: what the tag keeps stays what the history tells. Assumes nothing.
use Rattle.std.proofs.Common.{◌≡◌, ℕ, suc, ◌+◌, ◌-◌, ◌/◌, ◌%◌, ◌<◌, ◌≤◌, Bool, true, false, cond, not, ◌&&◌, ltb, List, [], ◌∷◌, ◌++◌, map, length, take, drop, set, Some, None, Option, sym, refl, ap, ◌∙◌, subst, ap₂, append_assoc, append-nil, arith, take-append-drop, get_or-set_other}
use Rattle.std.proofs.lemmas.List.{drop_all}
use Rattle.std.proofs.lemmas.Bool.{both_ways}
use Rattle.std.specs.Str.{bytes_eq}
use Rattle.memory.specs.Memory.{Memory, Shaped, block_at, block_of, with_byte, with_bytes}
use Rattle.system.specs.Identity as own
use Rattle.system.specs.Protection.{may_read, may_write}
use Rattle.type_b.specs.declared.size.FrameSize.{FrameSize}
use Rattle.type_b.specs.Frames.{Kind, request, attrib, halt, deselect, information, ack, nak, unknown, kind_of}
use Rattle.command.specs.Orders.{Asked, answered, read, update, asked_by, Within}
use Rattle.command.specs.Barred.{Read, Write, barred, touches}
use Rattle.command.specs.Performed.{answer_to, memory_after}
use Rattle.command.proofs.Blocks.{found}
use Rattle.command.proofs.Ranges.{asked_within}
use Rattle.session.specs.Chains.{Joined, clip, more, commanded}
use Rattle.session.specs.Model as model
use Rattle.session.specs.Model.{SessionModel, started, inf_size, ack_pcb, last_body, after_chained, after_answer, next_sent, after_ack, ack_reply, nak_reply, same_number}
use Rattle.session.proofs.Joins.{more_clip, commanded_clip}
use Rattle.type_b_service.specs.Turns.{Phase, idle, ready, halted, active, Turn, silent, sends, in_ready, in_active, listens, fits, atqb, turn, ordered, completed, effect}
use Rattle.tag.specs.History.{History}
use Rattle.tag.specs.Model.{Powered}
use Rattle.tag.specs.Steps.{protection_of, type_b_body, type_b_reply, power_after, memory_by}
use Rattle.tag.specs.Performing.{Performed, performed_now, performed_by, performed_in}
use Rattle.tag.specs.Puts.{puts}
use Rattle.tag.specs.Account.{Progress, progress, inf_in, ended, follows, completing, completes, wrote_range, read_accepted, update_accepted, readable, writable, fixed_answer, due, due_after, Performance, one_more}
use Rattle.tag.specs.Runs.{RBlock, r_ack, r_nak, Outgoing}
use Rattle.tag.specs.Traces.{as_taken}
use Rattle.tag.proofs.Sessions.{Front, Fits, Quiet, Holds, HoldsPower, first_piece, inf_first, none_left, fixed_is, wrote_is, open_read, free_update, unanswered_read}

nothing_written : (c : Option Asked) → wrote_range c [] ≡ []
nothing_written None = refl
nothing_written (Some (answered s)) = refl
nothing_written (Some (read a n)) = refl
nothing_written (Some (update a d)) = refl

pub silence_writes : (m : Memory) (c : Option Asked) → m ≡ puts m (wrote_range c [])
silence_writes m c = ap (puts m) (sym (nothing_written c))

quiet_ended : (x : Progress) (d : List ℕ) → Quiet x d → Quiet (ended x) d
quiet_ended x d q = record { active = refl; rest = q.rest; front = record { split = q.front.split; over = q.front.over } }

fits_ended : (x : Progress) (d : List ℕ) (t : SessionModel) → Fits x d t → Quiet (ended x) d
fits_ended x d t h = record { active = refl; rest = t.rest; front = record { split = h.front.split; over = h.front.over } }

-- the field goes off
pub let_off : (x : Progress) (d : List ℕ) (o : Option Powered) → HoldsPower x d o → Quiet (ended x) d
let_off x d None q = quiet_ended x d q
let_off x d (Some p) q = by p.phase q
  where
    by : (k : Phase) → Holds x d k → Quiet (ended x) d
    by idle q = quiet_ended x d q
    by ready q = quiet_ended x d q
    by halted q = quiet_ended x d q
    by (active t) q = fits_ended x d t q

-- the command that the chain makes is the one that the pieces make
command_is : (x : Progress) (d : List ℕ) (t : SessionModel) → Fits x d t → (inf : List ℕ) → commanded (more t.chain inf) ≡ asked_by (x.pieces ++ inf)
command_is x d t h inf = ap (λ z. commanded (more z inf)) h.chain ∙ ap commanded (more_clip x.pieces inf) ∙ commanded_clip (x.pieces ++ inf)

module _ (x : Progress) (d : List ℕ) (m : Memory) where
  -- what holds after a turn at a frame of a kind
  abbrev After : Kind → Turn → Type 0
  After k u = Holds (follows x k (type_b_reply u.said)) (due_after m d x k (type_b_reply u.said)) u.phase

  -- silence
  stays : (k : Kind) (p : Phase) → Holds x d p → After k (silent p)
  stays k p h = h

  -- a session's frame, in ACTIVE and else
  within : (k : Kind) (f : SessionModel → Turn) (p : Phase) → Holds x d p → ((t : SessionModel) → Fits x d t → After k (f t)) → After k (in_active f p)
  within k f idle h g = h
  within k f ready h g = h
  within k f halted h g = h
  within k f (active t) h g = g t h

  -- a frame for READY, likewise
  readied : (k : Kind) (u : Turn) (p : Phase) → Holds x d p → (Quiet x d → After k u) → After k (in_ready u p)
  readied k u idle h g = h
  readied k u ready h g = g h
  readied k u halted h g = h
  readied k u (active t) h g = h

  woken : (identity : List ℕ) (asked param : ℕ) (p : Phase) (t : Bool) → (listens p param && fits asked (own.afi identity)) ≡ t → Holds x d p →
      After (request asked param) (cond t (record { phase = ready; said = atqb identity }) (silent p))
  woken identity asked param idle true e h = h
  woken identity asked param ready true e h = h
  woken identity asked param halted true e h = h
  woken identity asked param (active s) true e h = absurd (both_ways false refl e)
  woken identity asked param p false e h = h

  began : (pupi : List ℕ) (size : FrameSize) (t : Bool) → Quiet x d → After (attrib pupi size) (cond t (record { phase = active (started size); said = 0x10 ∷ [] }) (silent ready))
  began pupi size true q = record { active = refl; chain = refl; number = refl; newest = refl; front = record { split = refl; over = λ e. refl } }
  began pupi size false q = q

  laid : (pupi : List ℕ) (t : Bool) → Quiet x d → After (halt pupi) (cond t (record { phase = halted; said = 0x00 ∷ [] }) (silent ready))
  laid pupi true q = q
  laid pupi false q = q

  module _ (t : SessionModel) (h : Fits x d t) where
    piece_taken : (inf : List ℕ) → After (information true inf) (sends (after_chained t inf))
    piece_taken inf = record {
      active = h.active;
      chain = ap (λ z. more z inf) h.chain ∙ more_clip x.pieces inf;
      number = ap not h.number;
      newest = refl;
      front = record { split = refl; over = λ e. refl };
    }

    last_taken : (prot inf : List ℕ) → After (information false inf) (sends (after_answer t (answer_to prot m (commanded (more t.chain inf)))))
    last_taken prot inf =
        let o = asked_by (x.pieces ++ inf) in
        let eo : commanded (more t.chain inf) ≡ o = command_is x d t h inf in
        let n = not t.number in
        let k = inf_size t.size in
        subst (λ z. After (information false inf) (sends (after_answer t (answer_to prot m z)))) (sym eo) record {
          active = h.active;
          chain = refl;
          number = ap not h.number;
          newest = refl;
          front = record {
            split =
                ap (λ z. z ++ drop k (answer_to prot m o)) (inf_first t.size n (answer_to prot m o)) ∙ take-append-drop k (answer_to prot m o)
                ∙ sym (fixed_is prot m t.size n o (asked_within (x.pieces ++ inf)));
            over = λ e. drop_all k (answer_to prot m o) (none_left t.size n (answer_to prot m o) e);
          };
        }

    -- a repeat
    again : (n : Bool) (w : List ℕ) → same_number n t.number ≡ true → Fits (follows x (ack n) w) (due_after m d x (ack n) w) t
    again n [] e = h
    again n (b ∷ w) e =
        subst (λ z. Fits (cond z x (record { active = x.active; pieces = x.pieces; number = not x.number; given = x.given ++ inf_in (b ∷ w); newest = b ∷ w })) d t)
        (sym e ∙ ap (same_number n) h.number) h

    again_nak : (n : Bool) (w : List ℕ) → Fits (follows x (nak n) w) (due_after m d x (nak n) w) t
    again_nak n [] = h
    again_nak n (b ∷ w) = h

    -- the next piece
    went_on : (n : Bool) → same_number n t.number ≡ false → After (ack n) (sends (model.sends t t.chain t.rest))
    went_on n e =
        let k = inf_size t.size in
        let w = first_piece t.size (not t.number) t.rest in
        let next : Progress = record { active = x.active; pieces = x.pieces; number = not x.number; given = x.given ++ inf_in w; newest = w } in
        subst (λ z. Fits (cond z x next) d (model.sends t t.chain t.rest)) (sym e ∙ ap (same_number n) h.number) record {
          active = h.active;
          chain = h.chain;
          number = ap not h.number;
          newest = refl;
          front = record {
            split =
                ap (λ z. (x.given ++ z) ++ drop k t.rest) (inf_first t.size (not t.number) t.rest) ∙ append_assoc x.given (take k t.rest) (drop k t.rest)
                ∙ ap (λ z. x.given ++ z) (take-append-drop k t.rest) ∙ h.front.split;
            over = λ f. drop_all k t.rest (none_left t.size (not t.number) t.rest f);
          };
        }

    acked : (n a : Bool) → same_number n t.number ≡ a → (r : Bool) →
        After (ack n) (record { phase = active (cond a t (cond r (model.sends t t.chain t.rest) t)); said = cond a (last_body t) (cond r (last_body (cond r (model.sends t t.chain t.rest) t)) []) })
    acked n true e r = again n (type_b_reply (last_body t)) e
    acked n false e true = went_on n e
    acked n false e false = h

    naked : (n a : Bool) → After (nak n) (record { phase = active t; said = cond a (last_body t) (ack_pcb t.number ∷ []) })
    naked n true = again_nak n (type_b_reply (last_body t))
    naked n false = h

  module _ (identity prot : List ℕ) where
    turned : (p : Phase) (k : Kind) → Holds x d p → After k (turn identity prot m p k)
    turned p (request asked param) h = woken identity asked param p (listens p param && fits asked (own.afi identity)) refl h
    turned p (attrib pupi size) h = readied (attrib pupi size) _ p h (began pupi size (bytes_eq pupi (own.pupi identity)))
    turned p (halt pupi) h = readied (halt pupi) _ p h (laid pupi (bytes_eq pupi (own.pupi identity)))
    turned p deselect h = within deselect _ p h (fits_ended x d)
    turned p (information true inf) h = within (information true inf) _ p h (λ t g. piece_taken t g inf)
    turned p (information false inf) h = within (information false inf) _ p h (λ t g. last_taken t g prot inf)
    turned p (ack n) h = within (ack n) _ p h (λ t g. acked t g n (same_number n t.number) refl (ltb 0 (length t.rest)))
    turned p (nak n) h = within (nak n) _ p h (λ t g. naked t g n (same_number n t.number))
    turned p unknown h = h

    remembered_last : (t : SessionModel) → Fits x d t → (inf : List ℕ) → memory_after prot m (commanded (more t.chain inf))
        ≡ puts m (wrote_range (Some (asked_by (x.pieces ++ inf))) (first_piece t.size (not t.number) (answer_to prot m (commanded (more t.chain inf)))))
    remembered_last t h inf =
        let o = asked_by (x.pieces ++ inf) in
        subst (λ z. memory_after prot m z ≡ puts m (wrote_range (Some o) (first_piece t.size (not t.number) (answer_to prot m z)))) (sym (command_is x d t h inf))
        (wrote_is prot m t.size (not t.number) o)

    remembered_at : (p : Phase) (inf : List ℕ) → Holds x d p →
        effect prot m (ordered p inf) ≡ puts m (wrote_range (Some (asked_by (x.pieces ++ inf))) (type_b_reply (turn identity prot m p (information false inf)).said))
    remembered_at idle inf h = silence_writes m (Some (asked_by (x.pieces ++ inf)))
    remembered_at ready inf h = silence_writes m (Some (asked_by (x.pieces ++ inf)))
    remembered_at halted inf h = silence_writes m (Some (asked_by (x.pieces ++ inf)))
    remembered_at (active t) inf h = remembered_last t h inf

    remembered : (p : Phase) (k : Kind) → Holds x d p → effect prot m (completed p k) ≡ puts m (wrote_range (completes x k) (type_b_reply (turn identity prot m p k).said))
    remembered p (request asked param) h = refl
    remembered p (attrib pupi size) h = refl
    remembered p (halt pupi) h = refl
    remembered p deselect h = refl
    remembered p (information true inf) h = refl
    remembered p (information false inf) h = remembered_at p inf h
    remembered p (ack n) h = refl
    remembered p (nak n) h = refl
    remembered p unknown h = refl

    -- the command that the history takes for performed is the one that the tag performed, and so is its answer
    told_last : (t : SessionModel) → Fits x d t → (inf : List ℕ) (ps : List Performance) →
        let w = first_piece t.size (not t.number) (answer_to prot m (commanded (more t.chain inf))) in
        map as_taken (one_more ps (Some (x.pieces ++ inf)) w (due_after m d x (information false inf) w)) ≡ performed_now prot m (more t.chain inf) ∷ map as_taken ps
    told_last t h inf ps =
        let c = x.pieces ++ inf in
        let o = asked_by c in
        let n = not t.number in
        let chain : clip c ≡ more t.chain inf = sym (ap (λ z. more z inf) h.chain ∙ more_clip x.pieces inf) in
        let answer : fixed_answer m o (first_piece t.size n (answer_to prot m (commanded (more t.chain inf)))) ≡ answer_to prot m (commanded (more t.chain inf)) =
        subst (λ z. fixed_answer m o (first_piece t.size n (answer_to prot m z)) ≡ answer_to prot m z) (sym (command_is x d t h inf)) (fixed_is prot m t.size n o (asked_within c)) in
        let one : Joined → List ℕ → List Performed = λ y z. record { command = y; answer = z } ∷ map as_taken ps in
        ap₂ one chain answer

    told_on : (p : Phase) (k : Kind) → Holds x d p → (ps : List Performance) → let w = type_b_reply (turn identity prot m p k).said in
        map as_taken (one_more ps (completing x k) w (due_after m d x k w)) ≡ performed_by prot m p k ++ map as_taken ps
    told_on p (request asked param) h ps = refl
    told_on p (attrib pupi size) h ps = refl
    told_on p (halt pupi) h ps = refl
    told_on p deselect h ps = refl
    told_on p (information true inf) h ps = refl
    told_on idle (information false inf) h ps = refl
    told_on ready (information false inf) h ps = refl
    told_on halted (information false inf) h ps = refl
    told_on (active t) (information false inf) h ps = told_last t h inf ps
    told_on p (ack n) h ps = refl
    told_on p (nak n) h ps = refl
    told_on p unknown h ps = refl

    -- an R-block with the tag's number
    again_said : (p : Phase) (n : Bool) (said : SessionModel → Bool → List ℕ) → Holds x d p → same_number n x.number ≡ true → ((t : SessionModel) → said t true ≡ last_body t) →
        type_b_reply (in_active (λ t. record { phase = active t; said = said t (same_number n t.number) }) p).said ≡ cond x.active x.newest []
    again_said idle n said h e is = ap (λ z. cond z x.newest []) (sym h.active)
    again_said ready n said h e is = ap (λ z. cond z x.newest []) (sym h.active)
    again_said halted n said h e is = ap (λ z. cond z x.newest []) (sym h.active)
    again_said (active t) n said h e is =
        ap (λ z. type_b_reply (said t z)) (ap (same_number n) h.number ∙ e) ∙ ap type_b_reply (is t) ∙ h.newest ∙ ap (λ z. cond z x.newest []) (sym h.active)

    same_said : (p : Phase) (f g : SessionModel → Turn) → ((t : SessionModel) → (f t).said ≡ (g t).said) → (in_active f p).said ≡ (in_active g p).said
    same_said idle f g e = refl
    same_said ready f g e = refl
    same_said halted f g e = refl
    same_said (active t) f g e = e t

    repeated : (p : Phase) (n : Bool) {k : Kind} → RBlock n k → Holds x d p → same_number n x.number ≡ true → type_b_reply (turn identity prot m p k).said ≡ cond x.active x.newest []
    repeated p n r_ack h e =
        ap type_b_reply (same_said p _ (λ t. record { phase = active t; said = cond (same_number n t.number) (last_body t) (cond (ltb 0 (length t.rest)) (last_body (next_sent t)) []) }) (λ t. refl))
        ∙ again_said p n (λ t b. cond b (last_body t) (cond (ltb 0 (length t.rest)) (last_body (next_sent t)) [])) h e (λ t. refl)
    repeated p n r_nak h e = again_said p n (λ t b. cond b (last_body t) (ack_pcb t.number ∷ [])) h e (λ t. refl)

    -- what follows of a command that was accepted, by its reply
    some_same : (a b : Asked) → ◌≡◌ {A = Option Asked} (Some a) (Some b) → a ≡ b
    some_same a b e = cc

    none_some : (a : Asked) → ◌≡◌ {A = Option Asked} None (Some a) → ⊥
    none_some a e = let z : ◌≡◌ {A = ℕ} 0 1 = cc in omega arith

    accepted_at : (o : Asked) (ok : List ℕ → Bool) (C : Type 0) → ok [] ≡ false →
        ((t : SessionModel) → Within o → ok (first_piece t.size (not t.number) (answer_to prot m o)) ≡ true → C) →
        (p : Phase) (inf : List ℕ) → Holds x d p → asked_by (x.pieces ++ inf) ≡ o → ok (type_b_reply (turn identity prot m p (information false inf)).said) ≡ true → C
    accepted_at o ok C empty then idle inf h e acc = absurd (both_ways _ empty acc)
    accepted_at o ok C empty then ready inf h e acc = absurd (both_ways _ empty acc)
    accepted_at o ok C empty then halted inf h e acc = absurd (both_ways _ empty acc)
    accepted_at o ok C empty then (active t) inf h e acc =
        let eo : commanded (more t.chain inf) ≡ o = command_is x d t h inf ∙ e in
        then t (subst Within e (asked_within (x.pieces ++ inf))) (subst (λ z. ok (first_piece t.size (not t.number) (answer_to prot m z)) ≡ true) eo acc)

    accepted : (o : Asked) (ok : List ℕ → Bool) (C : Type 0) → ok [] ≡ false →
        ((t : SessionModel) → Within o → ok (first_piece t.size (not t.number) (answer_to prot m o)) ≡ true → C) →
        (p : Phase) (k : Kind) → Holds x d p → completes x k ≡ Some o → ok (type_b_reply (turn identity prot m p k).said) ≡ true → C
    accepted o ok C empty then p (request asked param) h e acc = absurd (none_some o e)
    accepted o ok C empty then p (attrib pupi size) h e acc = absurd (none_some o e)
    accepted o ok C empty then p (halt pupi) h e acc = absurd (none_some o e)
    accepted o ok C empty then p deselect h e acc = absurd (none_some o e)
    accepted o ok C empty then p (information true inf) h e acc = absurd (none_some o e)
    accepted o ok C empty then p (information false inf) h e acc = accepted_at o ok C empty then p inf h (some_same _ o e) acc
    accepted o ok C empty then p (ack j) h e acc = absurd (none_some o e)
    accepted o ok C empty then p (nak j) h e acc = absurd (none_some o e)
    accepted o ok C empty then p unknown h e acc = absurd (none_some o e)

-- the same of a tag, with the field off too

pub power_turned : (x : Progress) (d : List ℕ) (m : Memory) (o : Option Powered) (f : List ℕ) → HoldsPower x d o →
    HoldsPower (follows x (kind_of f) (type_b_reply (type_b_body o m f))) (due_after m d x (kind_of f) (type_b_reply (type_b_body o m f))) (power_after o m f)
power_turned x d m None f h = h
power_turned x d m (Some p) f h = turned x d m p.copy.identity p.copy.protection p.phase (kind_of f) h

pub power_remembered : (x : Progress) (d : List ℕ) (m : Memory) (o : Option Powered) (f : List ℕ) → Shaped m → HoldsPower x d o →
    memory_by o m f ≡ puts m (wrote_range (completes x (kind_of f)) (type_b_reply (type_b_body o m f)))
power_remembered x d m None f s h = silence_writes m (completes x (kind_of f))
power_remembered x d m (Some p) f s h = remembered x d m p.copy.identity p.copy.protection p.phase (kind_of f) h

pub silence_told : (ps : List Performance) (c : Option (List ℕ)) (answer : List ℕ) → one_more ps c [] answer ≡ ps
silence_told ps None answer = refl
silence_told ps (Some c) answer = refl

pub power_told : (x : Progress) (d : List ℕ) (m : Memory) (o : Option Powered) (f : List ℕ) → HoldsPower x d o → (ps : List Performance) → let w = type_b_reply (type_b_body o m f) in
    map as_taken (one_more ps (completing x (kind_of f)) w (due_after m d x (kind_of f) w)) ≡ performed_in o m (kind_of f) ++ map as_taken ps
power_told x d m None f h ps = ap (map as_taken) (silence_told ps (completing x (kind_of f)) d)
power_told x d m (Some p) f h ps = told_on x d m p.copy.identity p.copy.protection p.phase (kind_of f) h ps

pub same_rules : (o : Option Powered) (m : Memory) (f : List ℕ) → protection_of (power_after o m f) ≡ protection_of o
same_rules None m f = refl
same_rules (Some p) m f = refl

abbrev pub SizedPower : Option Powered → Type 0
SizedPower None = Unit {0}
SizedPower (Some p) = length p.copy.identity ≡ 16

pub same_size : (o : Option Powered) (m : Memory) (f : List ℕ) → SizedPower o → SizedPower (power_after o m f)
same_size None m f z = z
same_size (Some p) m f z = z

pub power_silent : (o : Option Powered) (m : Memory) (f : List ℕ) → protection_of o ≡ None → type_b_reply (type_b_body o m f) ≡ []
power_silent None m f e = refl
power_silent (Some p) m f e = let z : ◌≡◌ {A = ℕ} 0 1 = cc in absurd (omega arith)

pub power_repeats : (x : Progress) (d : List ℕ) (m : Memory) (o : Option Powered) (f : List ℕ) → HoldsPower x d o → (n : Bool) → RBlock n (kind_of f) → same_number n x.number ≡ true →
    type_b_reply (type_b_body o m f) ≡ cond x.active x.newest []
power_repeats x d m None f h n rb e = ap (λ z. cond z x.newest []) (sym h.active)
power_repeats x d m (Some p) f h n rb e = repeated x d m p.copy.identity p.copy.protection p.phase n rb h e

-- no block of a range passes a test that none passes
each_block : (p : ℕ → Bool) (a n b : ℕ) → touches p a n ≡ false → block_of a ≤ b → b ≤ block_of (a + n - 1) → p b ≡ false
each_block p a n b free low high = go (p b) refl
  where
    go : (t : Bool) → p b ≡ t → t ≡ false
    go true e =
        let i : b - a / 16 < (a + n - 1) / 16 - a / 16 + 1 = omega arith in
        let same : a / 16 + (b - a / 16) ≡ b = omega arith in
        absurd (both_ways _ free (found p (a / 16) (b - a / 16) _ i (ap p same ∙ e)))
    go false e = refl

allowed : (t : Bool) → not t ≡ false → t ≡ true
allowed true e = refl
allowed false e = absurd (both_ways true e refl)

pub power_open : (x : Progress) (d : List ℕ) (m : Memory) (o : Option Powered) (f : List ℕ) → HoldsPower x d o → (a n : ℕ) → completes x (kind_of f) ≡ Some (read a n) →
    read_accepted n (type_b_reply (type_b_body o m f)) ≡ true → (b : ℕ) → block_of a ≤ b → b ≤ block_of (a + n - 1) → readable (protection_of o) b ≡ true
power_open x d m None f h a n e acc b low high = absurd (both_ways _ (unanswered_read n) acc)
power_open x d m (Some p) f h a n e acc b low high =
    let prot = p.copy.protection in
    let free = accepted x d m p.copy.identity prot (read a n) (read_accepted n) (touches (barred Read prot) a n ≡ false) (unanswered_read n)
    (λ t w y. open_read prot m t.size (not t.number) a n w.0 y) p.phase (kind_of f) h e acc in
    allowed (may_read prot b) (each_block (barred Read prot) a n b free low high)

pub power_free : (x : Progress) (d : List ℕ) (m : Memory) (o : Option Powered) (f : List ℕ) → HoldsPower x d o → (a : ℕ) (bytes : List ℕ) → completes x (kind_of f) ≡ Some (update a bytes) →
    update_accepted (type_b_reply (type_b_body o m f)) ≡ true → (b : ℕ) → block_of a ≤ b → b ≤ block_of (a + length bytes - 1) → writable (protection_of o) b ≡ true
power_free x d m None f h a bytes e acc b low high = absurd (both_ways false refl acc)
power_free x d m (Some p) f h a bytes e acc b low high =
    let prot = p.copy.protection in
    let free = accepted x d m p.copy.identity prot (update a bytes) update_accepted (touches (barred Write prot) a (length bytes) ≡ false) refl
    (λ t w y. free_update prot m t.size (not t.number) a bytes y) p.phase (kind_of f) h e acc in
    allowed (may_write prot b) (each_block (barred Write prot) a (length bytes) b free low high)

-- what a frame may not write it does not write
other_block : (m : Memory) (a : ℕ) (d : List ℕ) (b : ℕ) → ((k : ℕ) → a ≤ k → k < a + length d → b ≡ block_of k → ⊥) → block_at (with_bytes m a d) b ≡ block_at m b
other_block m a [] b h = refl
other_block m a (v ∷ vs) b h =
    other_block (with_byte m (block_of a) (a % 16) v) (suc a) vs b (λ k low high e. h k (omega arith) (omega arith) e)
    ∙ get_or-set_other m (block_of a) b (set (block_at m (block_of a)) (a % 16) v) [] (λ e. h a (omega arith) (omega arith) e)

spared_update : (x : List ℕ) (m : Memory) (a : ℕ) (d : List ℕ) (b : ℕ) → may_write x b ≡ false → (t : Bool) → touches (barred Write x) a (length d) ≡ t → block_at (cond t m (with_bytes m a d)) b ≡ block_at m b
spared_update x m a d b w true e = refl
spared_update x m a d b w false e = other_block m a d b (λ k low high is.
    let i : b - a / 16 < (a + length d - 1) / 16 - a / 16 + 1 = omega arith in
    let same : a / 16 + (b - a / 16) ≡ b = omega arith in
    both_ways _ e (found (barred Write x) (a / 16) (b - a / 16) _ i (ap (λ z. not (may_write x z)) same ∙ ap not w)))

spared_command : (x : List ℕ) (m : Memory) (o : Option Asked) (b : ℕ) → may_write x b ≡ false → block_at (effect x m o) b ≡ block_at m b
spared_command x m None b w = refl
spared_command x m (Some (answered s)) b w = refl
spared_command x m (Some (read a n)) b w = refl
spared_command x m (Some (update a d)) b w = spared_update x m a d b w (touches (barred Write x) a (length d)) refl

pub power_spared : (o : Option Powered) (m : Memory) (f : List ℕ) (b : ℕ) → Shaped m → writable (protection_of o) b ≡ false → block_at (memory_by o m f) b ≡ block_at m b
power_spared None m f b s w = refl
power_spared (Some p) m f b s w = spared_command p.copy.protection m (completed p.phase (kind_of f)) b w

-- what has gone out of an answer
pub sent_so_far : (m : Memory) (h : History) (o : Option Powered) → HoldsPower (progress h) (due m h) o → Outgoing m h
sent_so_far m h o q = by (front o q)
  where
    quiet : Quiet (progress h) (due m h) → (rest : List ℕ) × Front (progress h) (due m h) rest
    quiet q = (q.rest, q.front)

    inside : (p : Phase) → Holds (progress h) (due m h) p → (rest : List ℕ) × Front (progress h) (due m h) rest
    inside idle q = quiet q
    inside ready q = quiet q
    inside halted q = quiet q
    inside (active t) q = (t.rest, q.front)

    front : (o : Option Powered) → HoldsPower (progress h) (due m h) o → (rest : List ℕ) × Front (progress h) (due m h) rest
    front None q = quiet q
    front (Some p) q = inside p.phase q

    by : (rest : List ℕ) × Front (progress h) (due m h) rest → Outgoing m h
    by g = record {
      front = (g.0, g.1.split);
      whole = λ e. sym (append-nil (progress h).given) ∙ ap (λ z. (progress h).given ++ z) (sym (g.1.over e)) ∙ g.1.split;
    }
