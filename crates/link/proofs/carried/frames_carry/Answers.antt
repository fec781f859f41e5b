use Rattle.link.proofs.Carrying.{there, back}
use Rattle.link.proofs.carried.frames_carry.Goals as goal

pub returns : goal.returns
returns c = record { there = there; back = back }
