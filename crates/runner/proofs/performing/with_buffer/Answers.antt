use Rattle.std.proofs.Common.{refl, sym, ◌∙◌, arith}
use Rattle.std.proofs.lemmas.List.{with_items_is}
use Rattle.runner.proofs.performing.with_buffer.Goals as goal

pub returns : goal.returns
returns g c = record {
  shown = _;
  buffer = _;
  shows = refl;
  holds = c.as_mut_slice.ensures.value ∙ c.in_ok-buffer.ensures.items_if_clones_equal (λ y e. e);
  left = _;
  filled = _;
  met = c.call-result.ensures;
  leaves = refl;
  fills = sym (with_items_is c.in_ok-buffer.buffer c.call-result.new.arg3 (omega arith));
}
