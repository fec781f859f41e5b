-- The payloads of the replies, as the code puts them together. Assumes nothing.
use Rattle.std.proofs.Common.{◌≡◌, ℕ, Bool, true, cond, ◌&&◌, List, [], ◌∷◌, ◌++◌, map, length, sym, refl, ap, ◌∙◌, ap₂}
use lib.ListN.{length-map}
use denote.Param.Members.{Mut, Called}
use Rattle.std.specs.Iterator.{ChecksAll, YieldsFirstBy}
use Rattle.std.specs.List.{flat_map, list_all}
use Rattle.std.proofs.lemmas.Iterator.Consumers.{YieldsList-from_first}
use Rattle.std.proofs.lemmas.Iterator.Search.{all_from_yields_List}
use Rattle.memory.specs.Memory.{Memory, block_at}
use Rattle.memory.specs.declared.number.BlockNumber.{BlockNumber}
use Rattle.system.specs.Identity.{idm}
use Rattle.system.specs.Protection.{may_read}
use Rattle.jis.specs.declared.blocks.Blocks.{Blocks}
use Rattle.jis.specs.declared.fault.Status.TheVariants.{Normal, Protected}
use Rattle.jis.specs.Answers.{flags_payload, read_payload}
use Rattle.jis.specs.Walk.{numbers_left}
use Rattle.jis_service.specs.Service.{every, read_for}

every_is : (p : ℕ → Bool) (ns : List ℕ) → list_all p ns ≡ every p ns
every_is p [] = refl
every_is p (n ∷ ns) = ap (λ b. p n && b) (every_is p ns)

-- `all` over a block list tests every block that it lists
pub tests_every : {F : Type 0} {g : Mut F (BlockNumber × Unit {0}) Bool} (p : ℕ → Bool) (list u : Blocks) (f : F) (r : Bool)
    → ChecksAll (YieldsFirstBy (λ b. b.index) numbers_left) g list f r u
    → ((b : BlockNumber) (t : Bool) (h : F) → Called g f (b, tt) t h → (h ≡ f) × (t ≡ p b.index)) → r ≡ every p (numbers_left list)
tests_every p list u f r ran k =
    all_from_yields_List p u f r ran (YieldsList-from_first (λ b. b.index) numbers_left (numbers_left list) refl) k ∙ every_is p (numbers_left list)

pub read_said : (identity protection : List ℕ) (m : Memory) (ns flags counted out id : List ℕ) (n k : ℕ) (t : Bool) → flags ≡ flags_payload k id Normal →
    counted ≡ flags ++ n ∷ [] → out ≡ counted ++ flat_map (λ x. x) (map (block_at m) ns) → t ≡ true → t ≡ every (may_read protection) ns → k ≡ 0x07 → id ≡ idm identity → n ≡ length ns →
    out ≡ read_for identity protection m ns
read_said identity protection m ns flags counted out id n k t ef ec eo et ea ek ei en =
    let j = flat_map (λ x. x) (map (block_at m) ns) in
    let yes : every (may_read protection) ns ≡ true = sym ea ∙ et in
    eo ∙ ap (λ z. z ++ j) (ec ∙ ap₂ (λ x y. x ++ y ∷ []) (ef ∙ ap₂ (λ x y. flags_payload x y Normal) ek ei) (en ∙ sym (length-map ns (block_at m))))
    ∙ sym (ap (λ z. cond z (read_payload (idm identity) (map (block_at m) ns)) (flags_payload 0x07 (idm identity) Protected)) yes)
