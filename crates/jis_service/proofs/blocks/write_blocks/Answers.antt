use Rattle.std.proofs.Common.{◌≡◌, ap, ◌∙◌, sym, ap₂, inl, inr, arith}
use Rattle.std.specs.Iterator.Adapters.{zip_first, zip_second}
use Rattle.std.specs.Slice.Iter.{iter_rest}
use Rattle.jis.specs.Walk.{numbers_left}
use Rattle.jis.proofs.Listing.{numbers_length}
use Rattle.jis_service.proofs.Putting.{put_each, put_cut, put_none}
use Rattle.jis_service.proofs.blocks.write_blocks.Goals as goal

pub loop-b-init : goal.loop-b-init
loop-b-init g c =
    let w = c.args.write in
    let same = c.into_iter-b-iterator.ensures.into_iter_gives in
    let blocks : iter_rest (zip_second c.zip-b-items.result) ≡ c.as_chunks.result.0.now = c.zip-b-items.ensures.second.0 in
    ap₂ (put_each _) (ap (λ z. numbers_left (zip_first z)) same ∙ ap numbers_left c.zip-b-items.ensures.first)
    (ap (λ z. iter_rest (zip_second z)) same ∙ blocks ∙ c.as_chunks.ensures.front)
    ∙ put_cut _ (numbers_left w.blocks) w.«data».now _ (omega (arith, numbers_length w.blocks.left w.blocks.bytes.now, w.data_for_each))

pub returns : goal.returns
returns g c = sym (put_none _ _ _ (elim c.in-None.ensures.steps [ inl e ↦ inl e.1.0 | inr e ↦ inr e.1.0 ])) ∙ c.loop-b.invariant
