use Rattle.std.proofs.Common.{rules}
use Rattle.tag.specs.History.{bench_read, jis, type_b}
use Rattle.runner.specs.Told.{on, off, read, written, figure, framed, framed_b, counted}
use Rattle.runner.proofs.Telling.{performed, performed_lent}
use Rattle.runner.proofs.performing.perform.Goals as goal

pub returns-in-FieldOn : goal.returns-in-FieldOn
returns-in-FieldOn g c = performed g.S.Store.blocks g.met.S.Store.shaped _ _ _ _ _ _ c.in-FieldOn.is on c.field_on.ensures

pub returns-in-FieldOff : goal.returns-in-FieldOff
returns-in-FieldOff g c = performed g.S.Store.blocks g.met.S.Store.shaped _ _ _ _ _ _ c.in-FieldOff.is off c.field_off.ensures

pub returns-in_ok-result-in-BenchRead : goal.returns-in_ok-result-in-BenchRead
returns-in_ok-result-in-BenchRead g c =
    performed_lent g.S.Store.blocks g.met.S.Store.shaped
    (λ x y. bench_read c.in-BenchRead.block x c.in_ok-result-in-BenchRead.result y) _ _ _ _ _ _ _ c.in_ok-result-in-BenchRead.ensures c.in-BenchRead.is read (search rules)

pub returns-in-BenchWrite : goal.returns-in-BenchWrite
returns-in-BenchWrite g c = performed g.S.Store.blocks g.met.S.Store.shaped _ _ _ _ _ _ c.in-BenchWrite.is written c.bench_write.ensures

pub returns-in-BenchWritable : goal.returns-in-BenchWritable
returns-in-BenchWritable g c = performed g.S.Store.blocks g.met.S.Store.shaped _ _ _ _ _ _ c.in-BenchWritable.is figure c.bench_writable.ensures

pub returns-in_ok-result-in-Jis : goal.returns-in_ok-result-in-Jis
returns-in_ok-result-in-Jis g c =
    performed_lent g.S.Store.blocks g.met.S.Store.shaped
    (λ x y. jis c.in-Jis.frame.now x c.in_ok-result-in-Jis.result y) _ _ _ _ _ _ _ c.in_ok-result-in-Jis.ensures c.in-Jis.is framed c.in_ok-result-in-Jis.ensures.met

pub returns-in_ok-result-in-TypeB : goal.returns-in_ok-result-in-TypeB
returns-in_ok-result-in-TypeB g c =
    performed_lent g.S.Store.blocks g.met.S.Store.shaped
    (λ x y. type_b c.in-TypeB.frame.now x c.in_ok-result-in-TypeB.result y) _ _ _ _ _ _ _ c.in_ok-result-in-TypeB.ensures c.in-TypeB.is framed_b c.in_ok-result-in-TypeB.ensures.met

pub returns-in-BenchPerformed : goal.returns-in-BenchPerformed
returns-in-BenchPerformed g c = performed g.S.Store.blocks g.met.S.Store.shaped _ _ _ _ _ _ c.in-BenchPerformed.is counted c.bench_performed.ensures
