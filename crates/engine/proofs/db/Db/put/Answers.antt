-- The document is put, then its keys come to the pending list.
use Rattle.std.proofs.Common.{◌≤◌, ◌^◌, ℕ, List, ◌++◌, length, map, sym, subst, arith}
use Rattle.std.specs.Prelude.{Result, Vec, IfOk, IfErr, OnErr}
use Rattle.std.specs.declared.alloc.Global.{Global}
use Rattle.std.proofs.lemmas.List.{length-map}
use Rattle.std.proofs.lemmas.Result.{err_from_is_err_and}
use Rattle.ts_base.specs.Keys.{Key}
use Rattle.page_types.specs.declared.page.Name.{Name}
use Rattle.page_types.specs.declared.record.Record.{Record}
use Rattle.pending_list.specs.Packing.{AreKeys}
use Rattle.engine.specs.Answers.{MeetsNoBadPage}
use Rattle.engine.specs.Finding.{document}
use Rattle.engine.specs.Going.{Goes}
use Rattle.engine.specs.Work.{AreStored}
use Rattle.engine.specs.Inner.Changing.{doc_of}
use Rattle.engine.specs.Inner.Indexing.{CannotStore}
use Rattle.engine.specs.Inner.Parts.{HasChanged, with_inserted}
use Rattle.engine.specs.declared.error.DbError.{DbError}
use Rattle.engine.proofs.Carrying.{keeps_on}
use Rattle.engine.proofs.DocumentKeys.{keys_are, keys_few}
use Rattle.engine.proofs.Indexes.{stored_not_put, put_cause, stored_all, stored_some, index_cause}
use Rattle.engine.proofs.LawfulBefore.{no_bad_before}
use Rattle.engine.proofs.Paths.{time_of, none_in_turn, told_in_turn}
use Rattle.engine.proofs.ReadSteps.{refused_told}
use Rattle.engine.proofs.Works.{put_plain}
use Rattle.engine.proofs.db.Db.put.Goals as goal

-- ── the document is not put ──

pub returns-in_err-name-clause-placed : goal.returns-in_err-name-clause-placed
returns-in_err-name-clause-placed g c =
    let p = err_from_is_err_and c.from_residual.result c.from_residual.ensures.1 in
    λ v w is same none had. subst (λ (r : Result Name DbError). IfOk r (λ m.
    HasChanged g.D.Disk c.put_document.new.self c.put_document.new.pass c.args.work.xid
    (with_inserted (document m v) w)))
    (sym p.1) tt

pub returns-in_err-name-clause-refused : goal.returns-in_err-name-clause-refused
returns-in_err-name-clause-refused g c =
    let keys : List Key = map (λ (key : Vec ℕ Global). key.items) c.args.keys.now in
    let p = err_from_is_err_and c.from_residual.result c.from_residual.ensures.1 in
    subst (λ (r : Result Name DbError). OnErr r ((done rest : List Record)
    × AreStored c.args.bytes.now keys c.args.work.xid (done ++ rest)
    × Goes g.D.Disk c.args.self.now c.put_document.new.self done)) (sym p.1)
    (stored_not_put g.D.Disk c.args.self.now c.args.work.xid c.args.bytes.now keys c.put_document.new.self
    c.in_err-name.ensures.refused)

pub returns-in_err-name-clause-cause : goal.returns-in_err-name-clause-cause
returns-in_err-name-clause-cause g c =
    let keys : List Key = map (λ (key : Vec ℕ Global). key.items) c.args.keys.now in
    let p = err_from_is_err_and c.from_residual.result c.from_residual.ensures.1 in
    let Why = CannotStore g.D.Disk c.args.self.now c.args.work.xid c.args.bytes.now keys in
    subst (λ (r : Result Name DbError). IfErr r Why) (sym p.1) (subst Why (sym p.2)
    (put_cause g.D.Disk c.args.self.now c.args.work.xid c.args.bytes.now keys _ c.in_err-name.ensures.cause))

-- ── its keys ──

pub index_document-requires-clause-keys : goal.index_document-requires-clause-keys
index_document-requires-clause-keys g c =
    let n = c.requires.vector in
    subst AreKeys (sym n.2) (keys_are n.0 (n.1).normal)

pub index_document-requires-clause-few : goal.index_document-requires-clause-few
index_document-requires-clause-few g c =
    let keys : List Key = map (λ (key : Vec ℕ Global). key.items) c.args.keys.now in
    let n = c.requires.vector in
    let few : length keys ≤ 2 ^ 20 =
    subst (λ (ks : List Key). length ks ≤ 2 ^ 20) (sym n.2) (keys_few c.args.bytes.now n.0 n.1) in
    omega (arith, few, length-map c.args.keys.now (λ (key : Vec ℕ Global). key.items))

pub index_document-requires-clause-put : goal.index_document-requires-clause-put
index_document-requires-clause-put g c =
    let n = c.requires.vector in
    let w = c.requires.changed in
    (n.0, (w.0).deleted, n.2, c.in_ok-name.ensures.placed n.0 w.0 n.1 w.1 w.2)

-- ── they do not come ──

pub returns-in_err-index_document-clause-placed : goal.returns-in_err-index_document-clause-placed
returns-in_err-index_document-clause-placed g c =
    let p =
    err_from_is_err_and c.from_residual-in_err-index_document.result c.from_residual-in_err-index_document.ensures.1 in
    λ v w is same none had. subst (λ (r : Result Name DbError). IfOk r (λ m.
    HasChanged g.D.Disk c.index_document.new.self c.index_document.new.pass c.args.work.xid
    (with_inserted (document m v) w)))
    (sym p.1) tt

pub returns-in_err-index_document-clause-keeps : goal.returns-in_err-index_document-clause-keeps
returns-in_err-index_document-clause-keeps g c =
    keeps_on c.args.pass.now c.put_document.new.pass c.index_document.new.pass c.put_document.ensures.keeps
    c.index_document.ensures.keeps

pub returns-in_err-index_document-clause-fault : goal.returns-in_err-index_document-clause-fault
returns-in_err-index_document-clause-fault g c =
    let p =
    err_from_is_err_and c.from_residual-in_err-index_document.result c.from_residual-in_err-index_document.ensures.1 in
    let puts = c.in_ok-name.ensures.goes in
    refused_told g.D.Disk c.args.self.now c.index_document.new.self c.index_document.result
    c.from_residual-in_err-index_document.result _ p.0 c.in_err-index_document.was p.1 p.2
    (told_in_turn g.D.Disk c.args.self.now c.put_document.new.self c.index_document.new.self c.index_document.result
    (time_of g.D.Disk puts.2) c.in_ok-name.ensures.fault c.index_document.ensures.fault)

pub returns-in_err-index_document-clause-refused : goal.returns-in_err-index_document-clause-refused
returns-in_err-index_document-clause-refused g c =
    let keys : List Key = map (λ (key : Vec ℕ Global). key.items) c.args.keys.now in
    let p =
    err_from_is_err_and c.from_residual-in_err-index_document.result c.from_residual-in_err-index_document.ensures.1 in
    let puts = c.in_ok-name.ensures.goes in
    subst (λ (r : Result Name DbError). OnErr r ((done rest : List Record)
    × AreStored c.args.bytes.now keys c.args.work.xid (done ++ rest)
    × Goes g.D.Disk c.args.self.now c.index_document.new.self done)) (sym p.1)
    (stored_some g.D.Disk c.args.self.now c.args.work.xid c.args.bytes.now keys c.put_document.new.self
    c.in_ok-name.name
    (c.in_ok-name.ensures.place).1 puts.0 puts.1 puts.2 (c.in_ok-name.ensures.fault).down c.index_document.new.self
    c.in_err-index_document.ensures.refused)

pub returns-in_err-index_document-clause-cause : goal.returns-in_err-index_document-clause-cause
returns-in_err-index_document-clause-cause g c =
    let keys : List Key = map (λ (key : Vec ℕ Global). key.items) c.args.keys.now in
    let p =
    err_from_is_err_and c.from_residual-in_err-index_document.result c.from_residual-in_err-index_document.ensures.1 in
    let puts = c.in_ok-name.ensures.goes in
    let Why = CannotStore g.D.Disk c.args.self.now c.args.work.xid c.args.bytes.now keys in
    subst (λ (r : Result Name DbError). IfErr r Why) (sym p.1) (subst Why (sym p.2)
    (index_cause g.D.Disk c.args.self.now c.args.work.xid c.args.bytes.now keys c.put_document.new.self
    c.in_ok-name.name (c.in_ok-name.ensures.place).1 puts.0 puts.1 puts.2 (c.in_ok-name.ensures.fault).down _
    c.in_err-index_document.ensures.cause))

pub returns-in_err-index_document-clause-lawful : goal.returns-in_err-index_document-clause-lawful
returns-in_err-index_document-clause-lawful g c =
    let p =
    err_from_is_err_and c.from_residual-in_err-index_document.result c.from_residual-in_err-index_document.ensures.1 in
    let puts = c.in_ok-name.ensures.goes in
    let none = MeetsNoBadPage g.D.Disk c.args.self.now in
    subst (λ (r : Result Name DbError). IfErr r none) (sym p.1) (subst none (sym p.2)
    (no_bad_before g.D.Disk c.args.self.now c.put_document.new.self puts.2
    (put_plain c.args.work.xid c.args.bytes.now (doc_of c.in_ok-name.name) puts.0 puts.1) c.in_ok-name.ensures.fault _
    c.in_err-index_document.ensures.lawful))

-- ── they come ──

pub returns-clause-placed : goal.returns-clause-placed
returns-clause-placed g c =
    λ v w is same none had. c.in_ok-index_document.ensures.indexed v w same none
    (c.in_ok-name.ensures.placed v w is none had)

pub returns-clause-goes : goal.returns-clause-goes
returns-clause-goes g c =
    let keys : List Key = map (λ (key : Vec ℕ Global). key.items) c.args.keys.now in
    let puts = c.in_ok-name.ensures.goes in
    stored_all g.D.Disk c.args.self.now c.args.work.xid c.args.bytes.now keys c.put_document.new.self c.in_ok-name.name
    (c.in_ok-name.ensures.place).1 puts.0 puts.1 puts.2 (c.in_ok-name.ensures.fault).down c.index_document.new.self
    c.in_ok-index_document.ensures.rows

pub returns-clause-keeps : goal.returns-clause-keeps
returns-clause-keeps g c =
    keeps_on c.args.pass.now c.put_document.new.pass c.index_document.new.pass c.put_document.ensures.keeps
    c.index_document.ensures.keeps

pub returns-clause-fault : goal.returns-clause-fault
returns-clause-fault g c =
    none_in_turn g.D.Disk c.in_ok-name.ensures.fault c.in_ok-index_document.ensures.fault
