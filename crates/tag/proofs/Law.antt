-- Traces keep the law, and so do runs. Assumes nothing.
use Rattle.std.proofs.Common.{◌≡◌, ℕ, ◌+◌, ◌*◌, ◌%◌, ◌^◌, Bool, true, false, List, [], ◌∷◌, ◌++◌, map, length, take, drop, Some, None, Ok, Err, Option, Result, sym, refl, ap, ◌∙◌, subst, ap₂, arith, lit<}
use lib.ListN.{length-map}
use Rattle.std.proofs.lemmas.Bool.{both_ways}
use Rattle.std.specs.List.{flat_map}
use Rattle.memory.specs.Memory.{Memory, Shaped, block_at, byte_at, block_size, with_block}
use Rattle.memory.specs.declared.refusal.Refusal.{Refusal}
use Rattle.system.specs.Identity.{identity_block, idm}
use Rattle.system.specs.Protection.{protection_block}
use Rattle.jis.specs.Elements.{numbers}
use Rattle.jis.specs.Commands.{read, write, command_of}
use Rattle.jis_service.specs.Service.{every}
use Rattle.jis_service.proofs.Written.{spared}
use Rattle.tag.specs.declared.state.Tag.{Tag}
use Rattle.type_b.specs.Frames.{kind_of}
use Rattle.type_b_service.specs.Turns.{Phase, idle, ready, halted, active, is_active}
use Rattle.tag.specs.Model.{Copy, Powered, Model}
use Rattle.tag.specs.History.{Event, field_on, field_off, bench_read, bench_write, bench_writable, jis, type_b, bench_performed, History, heard}
use Rattle.tag.specs.Steps.{Step, fresh, kept, raised, dropped, with_memory, Shown, protection_of, unless_active, serving, jis_payload, jis_memory, jis_reply, type_b_body, type_b_reply, power_after, type_b_after}
use Rattle.tag.specs.Puts.{puts}
use Rattle.tag.specs.Account.{expected, came_on, ruling, Stands, identifier_in, normal, wrote_listed, readable, writable, due, due_after, one_more, performances}
use Rattle.tag.specs.Account.{Progress, progress, follows, completing, completes, wrote_range, read_accepted, update_accepted}
use Rattle.tag.specs.Performing as trace
use Rattle.tag.specs.Performing.{Performed, performs, Trace, none}
use Rattle.tag.specs.Runs.{Ran, call, Moment, at_last, earlier, FairJis, FairTypeB, Outgoing, Fair, Kept}
use Rattle.tag.specs.Traces.{as_taken, Held}
use Rattle.tag.proofs.Placing.{shaped_expected, put_block, stands}
use Rattle.tag.proofs.Listing.{heard_is, wrote_nothing}
use Rattle.tag.proofs.Replies.{jis_memory_is, jis_open, jis_gives, jis_free}
use Rattle.tag.proofs.Sessions.{Holds, HoldsPower, unanswered_read}
use Rattle.tag.proofs.Tracing.{counts, traced}
use Rattle.tag.proofs.Turning.{SizedPower, silence_writes, let_off, power_turned, power_remembered, silence_told, power_told, same_rules, same_size, power_spared, power_open, power_free, power_repeats, power_silent, sent_so_far}

-- a copy's block 30 is a whole block
abbrev Sized : Option Copy → Type 0
Sized None = Unit {0}
Sized (Some c) = length c.identity ≡ block_size

-- the copy that serves JIS frames is the one whose block 31 rules
abbrev Serves : Option Copy → Option (List ℕ) → Type 0
Serves None x = Unit {0}
Serves (Some c) x = x ≡ Some c.protection

-- what a tag has, by its history
pub record Inv (m : Memory) (h : History) (s : Model) : Type 0 where
  pub memory : s.memory ≡ expected m h
  pub rules : protection_of s.power ≡ ruling m h
  pub identity : SizedPower s.power
  pub session : HoldsPower (progress h) (due m h) s.power

same_inv : (m : Memory) (h : History) (s t : Model) → t ≡ s → Inv m h s → Inv m h t
same_inv m h s t e i = subst (λ z. Inv m h z) (sym e) i

-- the copy at an on, by whether the field was on
came_on_is : (m : Memory) (o : Option Powered) → protection_of (kept m o) ≡ came_on (protection_of o) (block_at m protection_block)
came_on_is m None = refl
came_on_is m (Some p) = refl

sized_kept : (m : Memory) (o : Option Powered) → Shaped m → SizedPower o → SizedPower (kept m o)
sized_kept m None s z = s.each identity_block (lit< tt)
sized_kept m (Some p) s z = z

holds_kept : (x : Progress) (d : List ℕ) (m : Memory) (o : Option Powered) → HoldsPower x d o → HoldsPower x d (kept m o)
holds_kept x d m None q = q
holds_kept x d m (Some p) q = q

sized_serving : (o : Option Powered) → SizedPower o → Sized (serving o)
sized_serving None z = tt
sized_serving (Some p) z = by (is_active p.phase)
  where
    by : (t : Bool) → Sized (unless_active t p.copy)
    by true = tt
    by false = z

serves : (o : Option Powered) → Serves (serving o) (protection_of o)
serves None = tt
serves (Some p) = by (is_active p.phase)
  where
    by : (t : Bool) → Serves (unless_active t p.copy) (Some p.copy.protection)
    by true = tt
    by false = refl

-- a JIS frame, served or not
jis_remembered : (o : Option Copy) (m : Memory) (f : List ℕ) → Sized o → Shaped m → jis_memory o m f ≡ puts m (wrote_listed (command_of (identifier_in f) f) (jis_reply (jis_payload o m f)))
jis_remembered None m f z s = sym (ap (puts m) (wrote_nothing (command_of (identifier_in f) f) [] refl))
jis_remembered (Some c) m f z s = jis_memory_is c.identity c.protection z m s f

jis_spared : (o : Option Copy) (x : Option (List ℕ)) (m : Memory) (f : List ℕ) (b : ℕ) → Serves o x → writable x b ≡ false → block_at (jis_memory o m f) b ≡ block_at m b
jis_spared None x m f b e w = refl
jis_spared (Some c) x m f b e w = spared c.protection m (command_of (idm c.identity) f) b (ap (λ z. writable z b) (sym e) ∙ w)

not_heard : (o : Option Powered) (m : Memory) (f : List ℕ) → protection_of o ≡ None → jis_reply (jis_payload (serving o) m f) ≡ []
not_heard None m f e = refl
not_heard (Some p) m f e = let z : ◌≡◌ {A = ℕ} 0 1 = cc in absurd (omega arith)

busy : (x : Progress) (d : List ℕ) (o : Option Powered) (m : Memory) (f : List ℕ) → HoldsPower x d o → x.active ≡ true → jis_reply (jis_payload (serving o) m f) ≡ []
busy x d None m f q e = refl
busy x d (Some p) m f q e = by p.phase q
  where
    by : (k : Phase) → Holds x d k → jis_reply (jis_payload (unless_active (is_active k) p.copy) m f) ≡ []
    by idle q = absurd (both_ways x.active q.active e)
    by ready q = absurd (both_ways x.active q.active e)
    by halted q = absurd (both_ways x.active q.active e)
    by (active t) q = refl

module _ (f services list : List ℕ) (n : ℕ) where
  given : (o : Option Copy) (m : Memory) → Sized o → Shaped m → command_of (identifier_in f) f ≡ Ok (read services n list) → normal (jis_reply (jis_payload o m f)) ≡ true →
      take (16 * n) (drop 13 (jis_reply (jis_payload o m f))) ≡ flat_map (λ x. x) (map (block_at m) (numbers n list))
  given None m z s a h = absurd (both_ways false refl h)
  given (Some c) m z s a h = jis_gives c.identity c.protection z m s f services list n a h

  opened_only : (o : Option Copy) (x : Option (List ℕ)) (m : Memory) → Serves o x → Sized o → Shaped m → command_of (identifier_in f) f ≡ Ok (read services n list) →
      normal (jis_reply (jis_payload o m f)) ≡ true → every (readable x) (numbers n list) ≡ true
  opened_only None x m e z s a h = absurd (both_ways false refl h)
  opened_only (Some c) x m e z s a h = ap (λ y. every (readable y) (numbers n list)) e ∙ jis_open c.identity c.protection z m s f services list n a h

  freed_only : (d : List ℕ) (o : Option Copy) (x : Option (List ℕ)) (m : Memory) → Serves o x → Sized o → Shaped m → command_of (identifier_in f) f ≡ Ok (write services n list d) →
      normal (jis_reply (jis_payload o m f)) ≡ true → every (writable x) (numbers n list) ≡ true
  freed_only d None x m e z s a h = absurd (both_ways false refl h)
  freed_only d (Some c) x m e z s a h = ap (λ y. every (writable y) (numbers n list)) e ∙ jis_free c.identity c.protection z m s f services list n d a h

module _ (m : Memory) (sm : Shaped m) (h : History) (s : Model) (i : Inv m h s) where
  shaped : Shaped s.memory
  shaped = subst Shaped (sym i.memory) (shaped_expected m h sm)

  -- a Type B frame that is served
  type_b_inv : (f before after : List ℕ) (n : Option ℕ) → heard (Ok n) after ≡ type_b_reply (type_b_body s.power s.memory f) → Inv m (type_b f before (Ok n) after ∷ h) (type_b_after s f)
  type_b_inv f before after n hd =
      let x = progress h in
      let k = kind_of f in
      let w = type_b_reply (type_b_body s.power s.memory f) in
      let held : HoldsPower (follows x k w) (due_after (expected m h) (due m h) x k w) (power_after s.power s.memory f) =
      subst (λ z. HoldsPower (follows x k w) (due_after z (due m h) x k w) (power_after s.power s.memory f)) i.memory (power_turned x (due m h) s.memory s.power f i.session) in
      record {
        memory =
            power_remembered x (due m h) s.memory s.power f shaped i.session
            ∙ ap₂ (λ z y. puts z (wrote_range (completes x k) y)) i.memory (sym hd);
        rules = same_rules s.power s.memory f ∙ i.rules;
        identity = same_size s.power s.memory f i.identity;
        session = subst (λ z. HoldsPower (follows x k z) (due_after (expected m h) (due m h) x k z) (power_after s.power s.memory f)) (sym hd) held;
      }

  pub stepped : (e : Event) (t : Model) → Step s e t → Inv m (e ∷ h) t
  stepped field_on t e = same_inv m (field_on ∷ h) (raised s) t e record {
    memory = i.memory;
    rules = came_on_is s.memory s.power ∙ ap₂ (λ x y. came_on x (block_at y protection_block)) i.rules i.memory;
    identity = sized_kept s.memory s.power shaped i.identity;
    session = holds_kept (progress h) (due m h) s.memory s.power i.session;
  }
  stepped field_off t e = same_inv m (field_off ∷ h) (dropped s) t e record { memory = i.memory; rules = refl; identity = tt; session = let_off (progress h) (due m h) s.power i.session }
  stepped (bench_read b before (Ok u) after) t e = same_inv m (bench_read b before (Ok u) after ∷ h) s t e.3 record { memory = i.memory; rules = i.rules; identity = i.identity; session = i.session }
  stepped (bench_read b before (Err x) after) t e = same_inv m (bench_read b before (Err x) after ∷ h) s t e.2 record { memory = i.memory; rules = i.rules; identity = i.identity; session = i.session }
  stepped (bench_write b d (Ok u)) t e = same_inv m (bench_write b d (Ok u) ∷ h) (with_memory s (with_block s.memory b d)) t e.2 record {
    memory = ap (λ z. with_block z b d) i.memory ∙ sym (put_block (expected m h) b d (shaped_expected m h sm) e.0 e.1);
    rules = i.rules;
    identity = i.identity;
    session = i.session;
  }
  stepped (bench_write b d (Err x)) t e = same_inv m (bench_write b d (Err x) ∷ h) s t e.1 record { memory = i.memory; rules = i.rules; identity = i.identity; session = i.session }
  stepped (bench_writable w) t e = same_inv m (bench_writable w ∷ h) s t e.1 record { memory = i.memory; rules = i.rules; identity = i.identity; session = i.session }
  stepped (jis f before (Ok n) after) t e = same_inv m (jis f before (Ok n) after ∷ h) (with_memory s (jis_memory (serving s.power) s.memory f)) t e.1 record {
    memory =
        jis_remembered (serving s.power) s.memory f (sized_serving s.power i.identity) shaped
        ∙ ap₂ (λ x y. puts x (wrote_listed (command_of (identifier_in f) f) y)) i.memory (sym (heard_is _ before after n e.0.1 e.0.2));
    rules = i.rules;
    identity = i.identity;
    session = i.session;
  }
  stepped (jis f before (Err x) after) t e = same_inv m (jis f before (Err x) after ∷ h) s t e.1 record {
    memory = i.memory ∙ sym (ap (puts (expected m h)) (wrote_nothing (command_of (identifier_in f) f) [] refl));
    rules = i.rules;
    identity = i.identity;
    session = i.session;
  }
  stepped (type_b f before (Ok n) after) t e = same_inv m (type_b f before (Ok n) after ∷ h) (type_b_after s f) t e.1
      (type_b_inv f before after n (heard_is (type_b_reply (type_b_body s.power s.memory f)) before after n e.0.1 e.0.2))
  stepped (type_b f before (Err x) after) t e = same_inv m (type_b f before (Err x) after ∷ h) s t e.1 record {
    memory = i.memory ∙ silence_writes (expected m h) (completes (progress h) (kind_of f));
    rules = i.rules;
    identity = i.identity;
    session = i.session;
  }
  stepped (bench_performed n) t e = same_inv m (bench_performed n ∷ h) s t e.1 record { memory = i.memory; rules = i.rules; identity = i.identity; session = i.session }

  -- what is heard of a JIS frame: the reply, or nothing where the call was refused
  fair_jis : (f before : List ℕ) (r : Result (Option ℕ) Refusal) (after : List ℕ) (t : Model) → Step s (jis f before r after) t → FairJis m h f before r after
  fair_jis f before (Ok n) after t e =
      let hd = heard_is (jis_reply (jis_payload (serving s.power) s.memory f)) before after n e.0.1 e.0.2 in
      let rules = subst (λ z. Serves (serving s.power) z) i.rules (serves s.power) in
      let as_said : normal (heard (Ok n) after) ≡ true → normal (jis_reply (jis_payload (serving s.power) s.memory f)) ≡ true = λ y. ap normal (sym hd) ∙ y in
      record {
        spares = λ b w.
            ap (λ z. block_at z b) (sym (stepped (jis f before (Ok n) after) t e).memory ∙ ap (λ z. z.memory) e.1)
            ∙ jis_spared (serving s.power) (ruling m h) s.memory f b rules w ∙ ap (λ z. block_at z b) i.memory;
        gives = λ services list k a y.
            ap (λ z. take (16 * k) (drop 13 z)) hd ∙ given f services list k (serving s.power) s.memory (sized_serving s.power i.identity) shaped a (as_said y)
            ∙ ap (λ z. flat_map (λ x. x) (map (block_at z) (numbers k list))) i.memory;
        open_only = λ services list k a y. opened_only f services list k (serving s.power) (ruling m h) s.memory rules (sized_serving s.power i.identity) shaped a (as_said y);
        free_only = λ services list d k a y. freed_only f services list k d (serving s.power) (ruling m h) s.memory rules (sized_serving s.power i.identity) shaped a (as_said y);
        unpowered = λ o. hd ∙ not_heard s.power s.memory f (i.rules ∙ o);
        in_session = λ y. hd ∙ busy (progress h) (due m h) s.power s.memory f i.session y;
      }
  fair_jis f before (Err x) after t e = record {
    spares = λ b w. ap (λ z. block_at (puts (expected m h) z) b) (wrote_nothing (command_of (identifier_in f) f) [] refl);
    gives = λ services list k a y. absurd (both_ways false refl y);
    open_only = λ services list k a y. absurd (both_ways false refl y);
    free_only = λ services list d k a y. absurd (both_ways false refl y);
    unpowered = λ o. refl;
    in_session = λ y. refl;
  }

  -- what is heard of a Type B frame
  fair_type_b : (f before : List ℕ) (r : Result (Option ℕ) Refusal) (after : List ℕ) (t : Model) → Step s (type_b f before r after) t → FairTypeB m h f before r after
  fair_type_b f before (Ok n) after t e =
      let hd = heard_is (type_b_reply (type_b_body s.power s.memory f)) before after n e.0.1 e.0.2 in
      record {
        spares = λ b w.
            ap (λ z. block_at z b) (sym (stepped (type_b f before (Ok n) after) t e).memory ∙ ap (λ z. z.memory) e.1)
            ∙ power_spared s.power s.memory f b shaped (ap (λ z. writable z b) i.rules ∙ w) ∙ ap (λ z. block_at z b) i.memory;
        open_only = λ a k is acc b low high.
            ap (λ z. readable z b) (sym i.rules) ∙ power_open (progress h) (due m h) s.memory s.power f i.session a k is (subst (λ z. read_accepted k z ≡ true) hd acc) b low high;
        free_only = λ a d is acc b low high.
            ap (λ z. writable z b) (sym i.rules) ∙ power_free (progress h) (due m h) s.memory s.power f i.session a d is (subst (λ z. update_accepted z ≡ true) hd acc) b low high;
        repeats = λ big k rb is. hd ∙ power_repeats (progress h) (due m h) s.memory s.power f i.session k rb is;
        unpowered = λ o. hd ∙ power_silent s.power s.memory f (i.rules ∙ o);
      }
  fair_type_b f before (Err x) after t e = record {
    spares = λ b w. ap (λ z. block_at z b) (sym (silence_writes (expected m h) (completes (progress h) (kind_of f))));
    open_only = λ a k is acc b low high. absurd (both_ways _ (unanswered_read k) acc);
    free_only = λ a d is acc b low high. absurd (both_ways false refl acc);
    repeats = λ big k rb is. absurd (omega (arith, e.0.0));
    unpowered = λ o. refl;
  }

  pub fair : s.performed ≡ length (performances m h) % 2 ^ 64 → (e : Event) (t : Model) → Step s e t → Fair m h e
  fair c field_on t e = tt
  fair c field_off t e = tt
  fair c (bench_read b before (Ok u) after) t e = e.2 ∙ ap (λ z. block_at z b) i.memory
  fair c (bench_read b before (Err x) after) t e = e.1
  fair c (bench_write b d r) t e = tt
  fair c (bench_writable w) t e = subst (λ z. Shown z w) i.rules e.0
  fair c (jis f before r after) t e = fair_jis f before r after t e
  fair c (type_b f before r after) t e = fair_type_b f before r after t e
  fair c (bench_performed n) t e = e.0 ∙ c

  -- a call tells of what the tag performs in it
  pub telling : (e : Event) (t : Model) → Step s e t → map as_taken (performances m (e ∷ h)) ≡ performs s e ++ map as_taken (performances m h)
  telling field_on t e = refl
  telling field_off t e = refl
  telling (bench_read b before r after) t e = refl
  telling (bench_write b d r) t e = refl
  telling (bench_writable w) t e = refl
  telling (jis f before r after) t e = refl
  telling (type_b f before (Ok n) after) t e =
      let x = progress h in
      let k = kind_of f in
      let hd = heard_is (type_b_reply (type_b_body s.power s.memory f)) before after n e.0.1 e.0.2 in
      ap₂ (λ y z. map as_taken (one_more (performances m h) (completing x k) y (due_after z (due m h) x k y))) hd (sym i.memory)
      ∙ power_told x (due m h) s.memory s.power f i.session (performances m h)
  telling (type_b f before (Err y) after) t e = ap (map as_taken) (silence_told (performances m h) (completing (progress h) (kind_of f)) (due m h))
  telling (bench_performed n) t e = refl

-- the law, along a trace from the making of a tag on
module _ (m : Memory) (sm : Shaped m) where
  inv : {h : History} {ps : List Performed} {s : Model} → Trace (fresh m) h ps s → Inv m h s
  inv none = record {
    memory = refl;
    rules = refl;
    identity = tt;
    session = record { active = refl; rest = []; front = record { split = refl; over = λ e. refl } };
  }
  inv (trace.call r st) = stepped m sm _ _ (inv r) _ _ st

  told : {h : History} {ps : List Performed} {s : Model} → Trace (fresh m) h ps s → map as_taken (performances m h) ≡ ps
  told none = refl
  told {s = u} (trace.call {h = h} {t = t} {e = e} r st) = telling m sm h t (inv r) e u st ∙ ap (λ z. performs t e ++ z) (told r)

  performed : {h : History} {ps : List Performed} {s : Model} → Trace (fresh m) h ps s → s.performed ≡ length (performances m h) % 2 ^ 64
  performed {h = h} {ps = ps} {s = s} r =
      let count : s.performed ≡ (0 + length ps) % 2 ^ 64 = counts r (lit< tt) in
      let many : length (performances m h) ≡ length ps = sym (length-map (performances m h) as_taken) ∙ ap length (told r) in
      omega arith

  back : {h g : History} {ps : List Performed} {s : Model} → Moment h g → Trace (fresh m) h ps s → (u : Model) × (qs : List Performed) × Trace (fresh m) g qs u
  back {ps = ps} {s = s} at_last r = (s, ps, r)
  back (earlier mo) (trace.call r st) = back mo r

  fair_then : {g : History} {e : Event} {qs : List Performed} {u : Model} → Trace (fresh m) (e ∷ g) qs u → Fair m g e
  fair_then {u = u} (trace.call {e = e} r st) = fair m sm _ _ (inv r) (performed r) e u st

  outgoing_then : {g : History} {qs : List Performed} {u : Model} → Trace (fresh m) g qs u → Outgoing m g
  outgoing_then {g = g} {u = u} r = sent_so_far m g u.power (inv r).session

  pub held_law : {h : History} {ps : List Performed} {s : Model} → Trace (fresh m) h ps s → Held m h ps s
  held_law {h = h} r = record {
    memory = (inv r).memory;
    each = λ b o hb ho. subst (λ z. Stands m h b o (byte_at z b o)) (sym (inv r).memory) (stands b o hb ho m h sm);
    calls = λ g e mo. fair_then (back mo r).2;
    outgoing = λ g mo. outgoing_then (back mo r).2;
    performed = performed r;
    told = told r;
    moments = λ g mo. let u = back mo r in (u.0, u.1, u.2, (inv u.2).memory);
  }

-- and so along a run
module _ {S : Type 0} (blocks : S → Memory) (store : S) (sm : Shaped (blocks store)) where
  back_run : {h g : History} {t : Tag S} → Moment h g → Ran blocks store h t → (u : Tag S) × Ran blocks store g u
  back_run {t = t} at_last r = (t, r)
  back_run (earlier mo) (call r st) = back_run mo r

  pub kept_law : (h : History) (t : Tag S) → Ran blocks store h t → Kept blocks store h t
  kept_law h t r =
      let law = held_law (blocks store) sm (traced blocks store r).1 in
      record {
        memory = law.memory;
        each = law.each;
        calls = law.calls;
        outgoing = law.outgoing;
        performed = law.performed;
        moments = λ g mo. let u = back_run mo r in (u.0, u.1, (held_law (blocks store) sm (traced blocks store u.1).1).memory);
      }
