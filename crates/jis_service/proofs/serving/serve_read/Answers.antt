use Rattle.std.proofs.Common.{ap₂, sym, ◌∙◌, arith, rules}
use Rattle.std.proofs.lemmas.Bool.{cond-false}
use Rattle.system.specs.Protection.{may_read}
use Rattle.jis.specs.Walk.{numbers_left}
use Rattle.jis.specs.Answers.{flags_payload}
use Rattle.jis.specs.declared.fault.Status.TheVariants.{Protected}
use Rattle.jis.proofs.Listing.{few_left}
use Rattle.jis_service.proofs.Payloads.{read_said, tests_every}
use Rattle.jis_service.proofs.serving.serve_read.Goals as goal

pub returns-then-not-all : goal.returns-then-not-all
returns-then-not-all g c =
    let all = tests_every (may_read c.args.copy.now.protection.bytes) c.args.list c.all.new.self _ _ c.all.ensures.ran (λ b t h k. search rules) in
    c.write_flags.ensures.items ∙ ap₂ (λ k i. flags_payload k i Protected) c.answer_code-code.ensures c.idm.ensures ∙ sym (cond-false _ _ _ (sym all ∙ c.if-not-all.true))

pub overflow_cast-count : goal.overflow_cast-count
overflow_cast-count g c = omega (arith, few_left c.args.list, c.len.ensures.value)

pub push_blocks-requires : goal.push_blocks-requires
push_blocks-requires g c = omega (arith, few_left c.args.list, c.push.ensures.len, c.write_flags-payload.ensures.len)

pub returns : goal.returns
returns g c =
    let all = tests_every (may_read c.args.copy.now.protection.bytes) c.args.list c.all.new.self _ _ c.all.ensures.ran (λ b t h k. search rules) in
    read_said c.args.copy.now.identity.bytes c.args.copy.now.protection.bytes _ (numbers_left c.args.list) _ _ _ _ _ _ _ c.write_flags-payload.ensures.items c.push.ensures.items
    c.push_blocks.ensures.items c.if-not-all.false all c.answer_code-code.ensures c.idm-2.ensures c.len.ensures.value
