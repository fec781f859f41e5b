use Rattle.std.proofs.Common.{◌≡◌, length, sym, ◌∙◌, arith}
use Rattle.std.proofs.lemmas.Bool.{eqb-true}
use Rattle.stores.specs.Cuts.{chunked}
use Rattle.stores.proofs.flat_store.FlatStoreLoad.load.Goals as goal

pub returns-in-Ok : goal.returns-in-Ok
returns-in-Ok c =
    let none : length c.as_chunks.result.1.now ≡ 0 = eqb-true _ _ (sym c.is_empty.ensures ∙ c.if-is_empty.true) in
    let e : length c.args.image.now ≡ 512 = omega (arith, c.in-Ok.ensures.1.long) in
    (e, (chunked c.args.image.now _ e (c.in-Ok.ensures.1.same ∙ c.as_chunks.ensures.front)).0)

pub invariant_of-result : goal.invariant_of-result
invariant_of-result c =
    let none : length c.as_chunks.result.1.now ≡ 0 = eqb-true _ _ (sym c.is_empty.ensures ∙ c.if-is_empty.true) in
    let e : length c.args.image.now ≡ 512 = omega (arith, c.in-Ok.ensures.1.long) in
    record { sized = (chunked c.args.image.now _ e (c.in-Ok.ensures.1.same ∙ c.as_chunks.ensures.front)).1 }
