use Rattle.std.proofs.Common.{refl, ap}
use Rattle.session.specs.View.{model}
use Rattle.type_b_service.specs.View.{phase_of}
use Rattle.type_b_service.specs.declared.state.State.TheVariants.{Active}
use Rattle.type_b_service.proofs.Rounds.{last_turned, last_written}
use Rattle.type_b_service.proofs.state.State.take_last.Goals as goal

pub returns-in-Active-clause-turned : goal.returns-in-Active-clause-turned
returns-in-Active-clause-turned g c =
    last_turned c.args.protection.now.bytes _ _ (model c.in-Active.session) (model c.join.new.self) (model c.answer.new.self) c.args.inf.now _ _ (Active c.answer.new.self) c.join.ensures
    c.answer_to-answer.ensures.answer c.answer_to-answer.ensures.memory c.answer.ensures.session c.answer.ensures.body refl (phase_of c.args.self.now) (ap phase_of c.in-Active.is)

pub returns-in-Active-clause-memory : goal.returns-in-Active-clause-memory
returns-in-Active-clause-memory g c =
    last_written c.args.protection.now.bytes _ _ (model c.in-Active.session) (model c.join.new.self) (model c.answer.new.self) c.args.inf.now _ _ (Active c.answer.new.self) c.join.ensures
    c.answer_to-answer.ensures.answer c.answer_to-answer.ensures.memory c.answer.ensures.session c.answer.ensures.body refl (phase_of c.args.self.now) (ap phase_of c.in-Active.is)
