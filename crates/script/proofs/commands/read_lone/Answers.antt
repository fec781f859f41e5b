use Rattle.std.proofs.Common.{◌≡◌, codes, rules, arith}
use Rattle.std.proofs.lemmas.Slice.Eq.{text_from_reads}
use Rattle.script.proofs.commands.read_lone.Goals as goal

pub returns-in-writable : goal.returns-in-writable
returns-in-writable c =
    let text : c.args.command.now ≡ codes "writable" =
    text_from_reads c.args.command.now (codes "writable") (omega arith)
    (omega arith, (omega arith, (omega arith, (omega arith, (omega arith, (omega arith, (omega arith, (omega arith, tt)))))))) in
    rw text (search rules)

pub returns-in-performed : goal.returns-in-performed
returns-in-performed c =
    let text : c.args.command.now ≡ codes "performed" =
    text_from_reads c.args.command.now (codes "performed") (omega arith)
    (omega arith, (omega arith, (omega arith, (omega arith, (omega arith, (omega arith, (omega arith, (omega arith, (omega arith, tt))))))))) in
    rw text (search rules)
