use Rattle.std.proofs.Common.{take}
use Rattle.gin_scan.specs.Inner.Heads.{TakesDocuments, KeepsRest}
use Rattle.gin_scan.proofs.scan_core.ScanCore.take_documents.Given as goal

abbrev pub invariant-loop-k : goal.invariant-loop-k
invariant-loop-k g l = record {
  serves : g.J.Judge.serves l.work l.query;
  taken : TakesDocuments (g.W.Meaning.satisfies l.query) l.page l.from (take l.k l.seen) l.initial.self l.self;
  rest : KeepsRest l.initial.self l.self;
}
