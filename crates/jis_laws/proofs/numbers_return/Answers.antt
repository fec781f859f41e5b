use Rattle.jis_laws.proofs.Elements.{numbers_are}
use Rattle.jis_laws.proofs.numbers_return.Goals as goal

pub returns : goal.returns
returns c = numbers_are
