use Rattle.std.proofs.Common.{ap₂, sym, ◌∙◌, rules}
use Rattle.std.proofs.lemmas.Bool.{cond-false, cond-true}
use Rattle.system.specs.Protection.{may_write}
use Rattle.jis.specs.Answers.{flags_payload}
use Rattle.jis.specs.declared.fault.Status.TheVariants.{Normal, Protected}
use Rattle.jis_service.proofs.Payloads.{tests_every}
use Rattle.jis_service.proofs.serving.serve_write.Goals as goal

pub returns-then-not-all-clause-said : goal.returns-then-not-all-clause-said
returns-then-not-all-clause-said g c =
    let all = tests_every (may_write c.args.copy.now.protection.bytes) c.args.write.blocks c.all.new.self _ _ c.all.ensures.ran (λ b t h k. search rules) in
    c.write_flags.ensures.items ∙ ap₂ (λ k i. flags_payload k i Protected) c.answer_code-code.ensures c.idm.ensures ∙ sym (cond-false _ _ _ (sym all ∙ c.if-not-all.true))

pub returns-then-not-all-clause-memory : goal.returns-then-not-all-clause-memory
returns-then-not-all-clause-memory g c =
    let all = tests_every (may_write c.args.copy.now.protection.bytes) c.args.write.blocks c.all.new.self _ _ c.all.ensures.ran (λ b t h k. search rules) in
    sym (cond-false _ _ _ (sym all ∙ c.if-not-all.true))

pub returns-clause-said : goal.returns-clause-said
returns-clause-said g c =
    let all = tests_every (may_write c.args.copy.now.protection.bytes) c.args.write.blocks c.all.new.self _ _ c.all.ensures.ran (λ b t h k. search rules) in
    c.write_flags-2.ensures.items ∙ ap₂ (λ k i. flags_payload k i Normal) c.answer_code-code.ensures c.idm-2.ensures ∙ sym (cond-true _ _ _ (sym all ∙ c.if-not-all.false))

pub returns-clause-memory : goal.returns-clause-memory
returns-clause-memory g c =
    let all = tests_every (may_write c.args.copy.now.protection.bytes) c.args.write.blocks c.all.new.self _ _ c.all.ensures.ran (λ b t h k. search rules) in
    c.write_blocks.ensures ∙ sym (cond-true _ _ _ (sym all ∙ c.if-not-all.false))
