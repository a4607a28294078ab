-- The keys of a document come as a row on the last page of the list, or as pages that are put and linked.
use Rattle.std.proofs.Common.{◌≤◌, ℕ, List, [], ◌∷◌, ◌++◌, length, map, refl, sym, subst, ◌∙◌, arith}
use Rattle.std.specs.Prelude.{Result, Vec, OnErr, IfErr}
use Rattle.std.specs.declared.alloc.Global.{Global}
use Rattle.std.proofs.lemmas.List.{length-map}
use Rattle.std.proofs.lemmas.Result.{err_from_is_err_and}
use Rattle.ts_base.specs.Keys.{Key}
use Rattle.page_types.specs.declared.record.Record.{Record}
use Rattle.page_types.specs.declared.page.Page.{Page}
use Rattle.pending_list.specs.Packing.{AreKeys, ArePacked}
use Rattle.engine.specs.Answers.{MeetsNoBadPage}
use Rattle.engine.specs.Going.{Goes}
use Rattle.engine.specs.Work.{IsLinkOf, AreIndexing}
use Rattle.engine.specs.Inner.Changing.{doc_of}
use Rattle.engine.specs.Inner.Indexing.{CannotIndex, CannotLink, IsIndexedBy}
use Rattle.engine.specs.declared.error.DbError.{DbError}
use Rattle.engine.proofs.Choosing.{at_err}
use Rattle.engine.proofs.DocumentKeys.{packed_few}
use Rattle.engine.proofs.Indexes.{indexing_none, indexing_all, indexing_some, add_cause, pages_cause, link_cause}
use Rattle.engine.proofs.Indexes.{indexing_put, refused_all}
use Rattle.engine.proofs.LawfulBefore.{no_bad_before}
use Rattle.engine.proofs.LinkAnswers.{linked_all}
use Rattle.engine.proofs.Paths.{goes_on, goes_still, time_of, none_in_turn, told_in_turn}
use Rattle.engine.proofs.ReadSteps.{refused_told}
use Rattle.engine.proofs.Works.{row_pages_plain}
use Rattle.engine.proofs.Carrying.{keeps_on}
use Rattle.engine.proofs.db.Db.index_document.Goals as goal

-- ── a row is added, or is refused ──

pub returns-in_err-added-clause-refused : goal.returns-in_err-added-clause-refused
returns-in_err-added-clause-refused g c =
    let keys : List Key = map (λ (key : Vec ℕ Global). key.items) c.args.keys.now in
    let p = err_from_is_err_and c.from_residual.result c.from_residual.ensures.1 in
    subst (λ (r : Result (Unit {0}) DbError). OnErr r ((done rest : List Record)
    × AreIndexing c.args.work.xid (doc_of c.args.name) keys (done ++ rest)
    × Goes g.D.Disk c.args.self.now c.add_row_to_list.new.self done)) (sym p.1)
    (indexing_none g.D.Disk c.args.self.now c.args.work.xid c.args.name keys c.add_row_to_list.new.self
    c.in_err-added.ensures.refused)

pub returns-in_err-added-clause-cause : goal.returns-in_err-added-clause-cause
returns-in_err-added-clause-cause g c =
    let keys : List Key = map (λ (key : Vec ℕ Global). key.items) c.args.keys.now in
    let p = err_from_is_err_and c.from_residual.result c.from_residual.ensures.1 in
    let Why = CannotIndex g.D.Disk c.args.self.now c.args.work.xid c.args.name keys in
    subst (λ (r : Result (Unit {0}) DbError). IfErr r Why) (sym p.1) (subst Why (sym p.2)
    (add_cause g.D.Disk c.args.self.now c.args.work.xid c.args.name keys _ c.in_err-added.ensures.cause))

pub returns-then-added-clause-goes : goal.returns-then-added-clause-goes
returns-then-added-clause-goes g c =
    let r = c.in_ok-added.ensures.goes c.if-added.true in
    (r.0 ∷ [], AreIndexing.row r.0 r.1 refl, r.2)

pub returns-then-added-clause-rows : goal.returns-then-added-clause-rows
returns-then-added-clause-rows g c =
    let r = c.in_ok-added.ensures.goes c.if-added.true in
    IsIndexedBy.row r.0 r.1 r.2

pub returns-then-added-clause-indexed : goal.returns-then-added-clause-indexed
returns-then-added-clause-indexed g c =
    λ v w is none had. c.in_ok-added.ensures.indexed v w is none had c.if-added.true

-- ── the pages are made, and put ──

pub returns-in_err-pages-clause-refused : goal.returns-in_err-pages-clause-refused
returns-in_err-pages-clause-refused g c =
    let keys : List Key = map (λ (key : Vec ℕ Global). key.items) c.args.keys.now in
    let p = err_from_is_err_and c.from_residual-in_err-pages.result c.from_residual-in_err-pages.ensures.1 in
    subst (λ (r : Result (Unit {0}) DbError). OnErr r ((done rest : List Record)
    × AreIndexing c.args.work.xid (doc_of c.args.name) keys (done ++ rest)
    × Goes g.D.Disk c.args.self.now c.add_row_to_list.new.self done)) (sym p.1)
    (indexing_none g.D.Disk c.args.self.now c.args.work.xid c.args.name keys c.add_row_to_list.new.self
    (c.in_ok-added.ensures.still c.if-added.false))

pub overflow_cast-count : goal.overflow_cast-count
overflow_cast-count g c =
    let keys : List Key = map (λ (key : Vec ℕ Global). key.items) c.args.keys.now in
    let few : length c.in_ok-pages.pages.items ≤ length keys =
    packed_few c.item_of.result keys c.in_ok-pages.pages.items c.in_ok-pages.ensures.packed (c.requires.keys).some in
    let size = length-map c.args.keys.now (λ (key : Vec ℕ Global). key.items) in
    omega (arith, c.len-count.ensures, few, c.requires.few, size)

pub put_rows-requires-clause-packed : goal.put_rows-requires-clause-packed
put_rows-requires-clause-packed g c =
    let keys : List Key = map (λ (key : Vec ℕ Global). key.items) c.args.keys.now in
    let pages : List Page = c.in_ok-pages.pages.items in
    let pack : ArePacked (doc_of c.args.name).item keys pages =
    subst (λ (i : ℕ). ArePacked i keys pages) c.item_of.ensures c.in_ok-pages.ensures.packed in
    let n = c.requires.put in (
      n.0,
      n.1,
      subst AreKeys n.2 c.requires.keys,
      subst (λ (ks : List Key). ArePacked (doc_of c.args.name).item ks pages) n.2 pack,
      (c.in_ok-added.ensures.carries c.if-added.false).rows c.args.work.xid (doc_of c.args.name) n.0 [] 0 n.1
          (c.requires.running).xid n.3,
    )

pub returns-in_err-last-clause-fault : goal.returns-in_err-last-clause-fault
returns-in_err-last-clause-fault g c =
    let p = err_from_is_err_and c.from_residual-in_err-last.result c.from_residual-in_err-last.ensures.1 in
    refused_told g.D.Disk c.args.self.now c.put_rows.new.self c.put_rows.result c.from_residual-in_err-last.result _
    p.0 c.in_err-last.was p.1 p.2
    (told_in_turn g.D.Disk c.args.self.now c.add_row_to_list.new.self c.put_rows.new.self c.put_rows.result
    (time_of g.D.Disk (c.in_ok-added.ensures.still c.if-added.false)) c.in_ok-added.ensures.fault
    c.put_rows.ensures.fault)

pub returns-in_err-last-clause-refused : goal.returns-in_err-last-clause-refused
returns-in_err-last-clause-refused g c =
    let keys : List Key = map (λ (key : Vec ℕ Global). key.items) c.args.keys.now in
    let pages : List Page = c.in_ok-pages.pages.items in
    let pack : ArePacked (doc_of c.args.name).item keys pages =
    subst (λ (i : ℕ). ArePacked i keys pages) c.item_of.ensures c.in_ok-pages.ensures.packed in
    let p = err_from_is_err_and c.from_residual-in_err-last.result c.from_residual-in_err-last.ensures.1 in
    let r = c.in_err-last.ensures.refused in
    let rest = indexing_some c.args.work.xid (doc_of c.args.name) keys pages pack r.0 r.1 r.2 in
    subst (λ (r : Result (Unit {0}) DbError). OnErr r ((done rest : List Record)
    × AreIndexing c.args.work.xid (doc_of c.args.name) keys (done ++ rest)
    × Goes g.D.Disk c.args.self.now c.put_rows.new.self done)) (sym p.1)
    (r.0, rest.0, rest.1, goes_on g.D.Disk (c.in_ok-added.ensures.still c.if-added.false) r.3)

pub returns-in_err-last-clause-cause : goal.returns-in_err-last-clause-cause
returns-in_err-last-clause-cause g c =
    let keys : List Key = map (λ (key : Vec ℕ Global). key.items) c.args.keys.now in
    let pages : List Page = c.in_ok-pages.pages.items in
    let pack : ArePacked (doc_of c.args.name).item keys pages =
    subst (λ (i : ℕ). ArePacked i keys pages) c.item_of.ensures c.in_ok-pages.ensures.packed in
    let p = err_from_is_err_and c.from_residual-in_err-last.result c.from_residual-in_err-last.ensures.1 in
    let Why = CannotIndex g.D.Disk c.args.self.now c.args.work.xid c.args.name keys in
    subst (λ (r : Result (Unit {0}) DbError). IfErr r Why) (sym p.1) (subst Why (sym p.2)
    (pages_cause g.D.Disk c.args.self.now c.args.work.xid c.args.name keys c.add_row_to_list.new.self pages pack
    (c.in_ok-added.ensures.full c.if-added.false) (c.in_ok-added.ensures.still c.if-added.false)
    (c.in_ok-added.ensures.fault).down _ _ refl
    c.in_err-last.ensures.cause))

pub returns-in_err-last-clause-lawful : goal.returns-in_err-last-clause-lawful
returns-in_err-last-clause-lawful g c =
    let p = err_from_is_err_and c.from_residual-in_err-last.result c.from_residual-in_err-last.ensures.1 in
    let none = MeetsNoBadPage g.D.Disk c.args.self.now in
    subst (λ (r : Result (Unit {0}) DbError). IfErr r none) (sym p.1) (subst none (sym p.2)
    (no_bad_before g.D.Disk c.args.self.now c.add_row_to_list.new.self
    (c.in_ok-added.ensures.still c.if-added.false) tt c.in_ok-added.ensures.fault _ c.in_err-last.ensures.lawful))

-- ── they are linked ──

pub link_rows-requires-clause-few : goal.link_rows-requires-clause-few
link_rows-requires-clause-few g c =
    let keys : List Key = map (λ (key : Vec ℕ Global). key.items) c.args.keys.now in
    let few : length c.in_ok-pages.pages.items ≤ length keys =
    packed_few c.item_of.result keys c.in_ok-pages.pages.items c.in_ok-pages.ensures.packed (c.requires.keys).some in
    let size = length-map c.args.keys.now (λ (key : Vec ℕ Global). key.items) in
    omega (arith, c.len-count.ensures, few, c.requires.few, size)

pub link_rows-requires-clause-put : goal.link_rows-requires-clause-put
link_rows-requires-clause-put g c =
    let keys : List Key = map (λ (key : Vec ℕ Global). key.items) c.args.keys.now in
    let pages : List Page = c.in_ok-pages.pages.items in
    let pack : ArePacked (doc_of c.args.name).item keys pages =
    subst (λ (i : ℕ). ArePacked i keys pages) c.item_of.ensures c.in_ok-pages.ensures.packed in
    let n = c.requires.put in
    let packed = subst (λ (ks : List Key). ArePacked (doc_of c.args.name).item ks pages) n.2 pack in (
      n.0,
      pages,
      n.1,
      sym (c.len-count.ensures ∙ c.in_ok-pages.pages.ok.0),
      packed,
      c.in_ok-last.ensures.put n.0 n.1 (subst AreKeys n.2 c.requires.keys) packed
          ((c.in_ok-added.ensures.carries c.if-added.false).rows c.args.work.xid (doc_of c.args.name) n.0 [] 0 n.1
          (c.requires.running).xid n.3),
    )

pub returns-clause-goes : goal.returns-clause-goes
returns-clause-goes g c =
    let keys : List Key = map (λ (key : Vec ℕ Global). key.items) c.args.keys.now in
    let pages : List Page = c.in_ok-pages.pages.items in
    let pack : ArePacked (doc_of c.args.name).item keys pages =
    subst (λ (i : ℕ). ArePacked i keys pages) c.item_of.ensures c.in_ok-pages.ensures.packed in
    let done = c.in_ok-last.ensures.goes in
    linked_all
    ((r : Record) × IsLinkOf c.args.work.xid (doc_of c.args.name) r
    × Goes g.D.Disk c.put_rows.new.self c.link_rows.new.self (r ∷ []))
    ((rs : List Record) × AreIndexing c.args.work.xid (doc_of c.args.name) keys rs
    × Goes g.D.Disk c.args.self.now c.link_rows.new.self rs)
    c.link_rows.result
    (λ r. (
      done.0 ++ r.0 ∷ [],
      indexing_all c.args.work.xid (doc_of c.args.name) keys pages pack done.0 done.1 r.0 done.2 r.1,
      goes_on g.D.Disk (goes_on g.D.Disk (c.in_ok-added.ensures.still c.if-added.false) done.3) r.2,
    )) c.link_rows.ensures.goes

pub returns-clause-rows : goal.returns-clause-rows
returns-clause-rows g c =
    let keys : List Key = map (λ (key : Vec ℕ Global). key.items) c.args.keys.now in
    let pages : List Page = c.in_ok-pages.pages.items in
    let pack : ArePacked (doc_of c.args.name).item keys pages =
    subst (λ (i : ℕ). ArePacked i keys pages) c.item_of.ensures c.in_ok-pages.ensures.packed in
    let done = c.in_ok-last.ensures.goes in
    linked_all
    ((r : Record) × IsLinkOf c.args.work.xid (doc_of c.args.name) r
    × Goes g.D.Disk c.put_rows.new.self c.link_rows.new.self (r ∷ []))
    (IsIndexedBy g.D.Disk c.args.self.now c.link_rows.new.self c.args.work.xid (doc_of c.args.name) keys)
    c.link_rows.result
    (λ r. IsIndexedBy.pages (c.in_ok-added.ensures.full c.if-added.false) (done.0 ++ r.0 ∷ [])
    (indexing_all c.args.work.xid (doc_of c.args.name) keys pages pack done.0 done.1 r.0 done.2 r.1)
    (goes_on g.D.Disk (goes_on g.D.Disk (c.in_ok-added.ensures.still c.if-added.false) done.3) r.2))
    c.link_rows.ensures.goes

pub returns-clause-indexed : goal.returns-clause-indexed
returns-clause-indexed g c =
    let keys : List Key = map (λ (key : Vec ℕ Global). key.items) c.args.keys.now in
    let pages : List Page = c.in_ok-pages.pages.items in
    let pack : ArePacked (doc_of c.args.name).item keys pages =
    subst (λ (i : ℕ). ArePacked i keys pages) c.item_of.ensures c.in_ok-pages.ensures.packed in
    λ v w is none had.
    let packed = subst (λ (ks : List Key). ArePacked (doc_of c.args.name).item ks pages) is pack in
    c.link_rows.ensures.indexed v pages w (sym (c.len-count.ensures ∙ c.in_ok-pages.pages.ok.0)) packed none
    (c.in_ok-last.ensures.put v w.deleted (subst AreKeys is c.requires.keys) packed
    ((c.in_ok-added.ensures.carries c.if-added.false).rows c.args.work.xid (doc_of c.args.name) v [] 0 w.deleted
    (c.requires.running).xid had))

pub returns-clause-fault : goal.returns-clause-fault
returns-clause-fault g c =
    let before = c.in_ok-added.ensures.still c.if-added.false in
    let done = c.in_ok-last.ensures.goes in
    told_in_turn g.D.Disk c.args.self.now c.put_rows.new.self c.link_rows.new.self c.link_rows.result
    (time_of g.D.Disk (goes_on g.D.Disk before done.3))
    (none_in_turn g.D.Disk c.in_ok-added.ensures.fault c.in_ok-last.ensures.fault) c.link_rows.ensures.fault

pub returns-clause-refused : goal.returns-clause-refused
returns-clause-refused g c =
    let keys : List Key = map (λ (key : Vec ℕ Global). key.items) c.args.keys.now in
    let pages : List Page = c.in_ok-pages.pages.items in
    let pack : ArePacked (doc_of c.args.name).item keys pages =
    subst (λ (i : ℕ). ArePacked i keys pages) c.item_of.ensures c.in_ok-pages.ensures.packed in
    let before = c.in_ok-added.ensures.still c.if-added.false in
    let done = c.in_ok-last.ensures.goes in
    refused_all (Goes g.D.Disk c.put_rows.new.self c.link_rows.new.self [])
    ((done rest : List Record) × AreIndexing c.args.work.xid (doc_of c.args.name) keys (done ++ rest)
    × Goes g.D.Disk c.args.self.now c.link_rows.new.self done)
    c.link_rows.result
    (λ still. indexing_put g.D.Disk c.args.self.now c.args.work.xid c.args.name keys pages pack done.0 done.1 done.2
    (goes_still g.D.Disk (goes_on g.D.Disk before done.3) still)) c.link_rows.ensures.refused

pub returns-clause-cause : goal.returns-clause-cause
returns-clause-cause g c =
    let keys : List Key = map (λ (key : Vec ℕ Global). key.items) c.args.keys.now in
    let pages : List Page = c.in_ok-pages.pages.items in
    let pack : ArePacked (doc_of c.args.name).item keys pages =
    subst (λ (i : ℕ). ArePacked i keys pages) c.item_of.ensures c.in_ok-pages.ensures.packed in
    let before = c.in_ok-added.ensures.still c.if-added.false in
    let done = c.in_ok-last.ensures.goes in
    at_err c.link_rows.result (CannotLink g.D.Disk c.put_rows.new.self c.args.work.xid c.args.name)
    (CannotIndex g.D.Disk c.args.self.now c.args.work.xid c.args.name keys)
    (link_cause g.D.Disk c.args.self.now c.args.work.xid c.args.name keys c.add_row_to_list.new.self pages pack
    (c.in_ok-added.ensures.full c.if-added.false) before (c.in_ok-added.ensures.fault).down c.put_rows.new.self done.0
    done.1 done.2 done.3 (c.in_ok-last.ensures.fault).down) c.link_rows.ensures.cause

pub returns-clause-lawful : goal.returns-clause-lawful
returns-clause-lawful g c =
    let before = c.in_ok-added.ensures.still c.if-added.false in
    let done = c.in_ok-last.ensures.goes in
    at_err c.link_rows.result (MeetsNoBadPage g.D.Disk c.put_rows.new.self) (MeetsNoBadPage g.D.Disk c.args.self.now)
    (no_bad_before g.D.Disk c.args.self.now c.put_rows.new.self (goes_on g.D.Disk before done.3)
    (row_pages_plain c.args.work.xid (doc_of c.args.name) done.0 done.1)
    (none_in_turn g.D.Disk c.in_ok-added.ensures.fault c.in_ok-last.ensures.fault)) c.link_rows.ensures.lawful

pub returns-in_err-last-clause-keeps : goal.returns-in_err-last-clause-keeps
returns-in_err-last-clause-keeps g c =
    keeps_on c.args.pass.now c.add_row_to_list.new.pass c.put_rows.new.pass c.add_row_to_list.ensures.keeps
    c.put_rows.ensures.keeps

pub returns-clause-keeps : goal.returns-clause-keeps
returns-clause-keeps g c =
    keeps_on c.args.pass.now c.put_rows.new.pass c.link_rows.new.pass
    (keeps_on c.args.pass.now c.add_row_to_list.new.pass c.put_rows.new.pass c.add_row_to_list.ensures.keeps
    c.put_rows.ensures.keeps) c.link_rows.ensures.keeps
