use Rattle.std.proofs.Common.{rules, ◌==◌, ◌∙◌}
use borrow.Author.Tests.{tests}
use Rattle.std.proofs.lemmas.Iterator.Adapters.{YieldsList-from_rev_slice}
use Rattle.std.proofs.lemmas.Iterator.Search.{find_from_yields_List}
use Rattle.stores.specs.Log.{entries}
use Rattle.stores.specs.Replays.{newest_found}
use Rattle.stores.proofs.log.LogStore.newest.Goals as goal

pub returns : goal.returns
returns c =
    c.copied.ensures
    ∙ find_from_yields_List (λ e. e.block.index == c.args.b.index) _ _ c.find.result c.find.ensures.ran (YieldsList-from_rev_slice (entries c.args.self.now) (search rules)) (λ x b q k. search (rules, tests))
    ∙ newest_found (entries c.args.self.now) c.args.b.index
