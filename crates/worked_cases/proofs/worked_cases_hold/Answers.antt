use Rattle.std.proofs.Common.{refl, arith, lit<}
use Rattle.memory.specs.Memory.{blocks_of}
use Rattle.type_b.specs.Frames.{kind_of}
use Rattle.command.specs.Orders.{asked_by}
use Rattle.command.specs.Barred.{one_of}
use Rattle.reply.specs.Frames.{jis_sealed}
use Rattle.system.specs.Example.{example_image}
use Rattle.system.specs.Protection.{flagged, count_below, may_write}
use Rattle.system.specs.Example.{example_protection}
use Rattle.worked_cases.proofs.Figures.{least_is}
use Rattle.worked_cases.proofs.worked_cases_hold.Goals as goal

pub returns : goal.returns
unfolding blocks_of example_image flagged count_below jis_sealed kind_of asked_by one_of
returns c = record {
  polling = refl;
  request = refl;
  wake_up = refl;
  attrib_answer = refl;
  writable = λ w t s. (s.0.count, least_is 27 0 (may_write example_protection) w.lowest (lit< tt) refl (λ k h. absurd (omega arith)) s.0.lowest);
  req_aa = refl;
  read_3 = refl;
  read_26 = refl;
  read_4 = refl;
  read_27 = refl;
  read_long = refl;
  write_3 = refl;
  afi_30 = refl;
  afi_05 = refl;
  afi_35 = refl;
  afi_34 = refl;
  afi_50 = refl;
  read_last = refl;
  read_past = refl;
  read_closed = refl;
  read_252 = refl;
}
