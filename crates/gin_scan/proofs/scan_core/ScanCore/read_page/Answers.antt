-- The heads of kept items are read.
use Rattle.std.proofs.Common.{◌≡◌, ◌≤◌, ◌-◌, ℕ, Bool, List, length, refl, sym, ap, subst, ◌∙◌, inl, inr, arith}
use Rattle.std.specs.Prelude.{slice_range}
use Rattle.std.proofs.lemmas.Result.{err_from_is_err_and}
use Rattle.core_state.specs.States.{fate_of}
use Rattle.gin_scan.specs.Seen.{AreSeen}
use Rattle.gin_scan.specs.Inner.Heads.{TakesDocuments}
use Rattle.gin_scan.specs.declared.scan_core.ScanCore.{ScanCore}
use Rattle.gin_scan.proofs.HeadsRead.{seen_length, range_length}
use Rattle.gin_scan.proofs.HeadsCalls.{rest_read}
use Rattle.gin_scan.proofs.ListCalls.{still_looks}
use Rattle.gin_scan.proofs.StepsOf.{no_true}
use Rattle.gin_scan.proofs.scan_core.ScanCore.read_page.Goals as goal

pub returns-then-not-is_heap : goal.returns-then-not-is_heap
returns-then-not-is_heap g c = record {
  serves = c.requires.serves;
  took = refl;
  looks = still_looks g.D.Disk c.args.frames.now c.args.pass.now c.requires.pass;
  next = tt;
  heap = tt;
  taken = tt;
  rest = tt;
  counted = tt;
  error = inr (inl (refl, λ heap. no_true c.is_heap.result c.if-not-is_heap.true (c.is_heap.ensures.1 heap)));
}

pub returns-in_err-answer : goal.returns-in_err-answer
returns-in_err-answer g c =
    let p = err_from_is_err_and c.from_residual.result c.from_residual.ensures.1 in
    let d = c.in_err-answer.ensures.error in
    rw p.1 (record {
      serves = c.requires.serves;
      took = refl;
      looks = c.look_on.ensures.looks;
      next = tt;
      heap = tt;
      taken = tt;
      rest = tt;
      counted = tt;
      error = inr (inr (d.0, p.2 ∙ d.1, d.2));
    })

pub returns-in_err-seen : goal.returns-in_err-seen
returns-in_err-seen g c =
    let p = err_from_is_err_and c.from_residual-in_err-seen.result c.from_residual-in_err-seen.ensures.1 in
    rw p.1 (record {
      serves = c.requires.serves;
      took = refl;
      looks = c.look_on.ensures.looks;
      next = tt;
      heap = tt;
      taken = tt;
      rest = tt;
      counted = tt;
      error = inl p.2;
    })

pub take_documents-requires-clause-within : goal.take_documents-requires-clause-within
take_documents-requires-clause-within g c =
    let m = rw c.in_ok-seen.was at c.in_ok-answer.ensures.answers in
    let ks = c.as_slice.result.now in
    let same : ks ≡ c.args.self.now.kept.items = c.as_slice.ensures.value in
    let count : length c.in_ok-seen.seen.items ≡ length (slice_range ks c.args.from c.args.end) =
    seen_length (fate_of c.look_on.new.frames.journal.state) c.args.self.now.snapshot c.args.page.now
    (slice_range ks c.args.from c.args.end) c.in_ok-seen.seen.items m in
    let part : length (slice_range ks c.args.from c.args.end) ≡ c.args.end - c.args.from =
    range_length ks c.args.from c.args.end
    (subst (λ (zs : List (ℕ × Bool)). c.args.end ≤ length zs) (sym same) c.requires.within) in
    let all : length c.as_slice-2.result.now ≡ length c.in_ok-seen.seen.items = ap length c.as_slice-2.ensures.value in
    omega (arith, count, part, c.requires.ordered, c.requires.within, all)

pub returns-in_err-take_documents : goal.returns-in_err-take_documents
returns-in_err-take_documents g c =
    let r = c.from_residual-in_err-take_documents in
    let p = err_from_is_err_and r.result r.ensures.1 in
    rw p.1 (record {
      serves = c.take_documents.ensures.serves;
      took = c.take_documents.ensures.took;
      looks = c.look_on.ensures.looks;
      next = tt;
      heap = tt;
      taken = tt;
      rest = tt;
      counted = tt;
      error = inl p.2;
    })

pub returns : goal.returns
returns g c =
    let P = g.W.Meaning.satisfies c.args.query.now in
    let s = c.args.self.now in
    let page = c.args.page.now in
    let new : ScanCore = c.take_documents.new.self in
    let n = c.saturating_add-self.result in
    let seen = c.in_ok-seen.seen.items in
    let t = c.in_ok-take_documents.ensures in
    let count : new.heads_read ≡ n = ap (λ (z : ScanCore). z.heads_read) t.rest in
    let m = rw c.in_ok-seen.was at c.in_ok-answer.ensures.answers in record {
      serves = c.take_documents.ensures.serves;
      took = c.take_documents.ensures.took;
      looks = c.look_on.ensures.looks;
      next = refl;
      heap = c.is_heap.ensures.0 c.if-not-is_heap.false;
      taken = (
        seen,
        subst (λ (ks : List (ℕ × Bool)). AreSeen (fate_of c.look_on.new.frames.journal.state) s.snapshot page
            (slice_range ks c.args.from c.args.end) seen) c.as_slice.ensures.value m,
        subst (λ (k : ℕ). TakesDocuments P page c.args.from seen (record s { heads_read = k }) new) (sym count)
            (subst (λ (bs : List Bool). TakesDocuments P page c.args.from bs (record s { heads_read = n }) new)
            c.as_slice-2.ensures.value t.taken),
      );
      rest = rest_read s new n t.rest;
      counted = omega (arith, count, c.saturating_add-self.ensures, c.requires.ordered);
      error = tt;
    }
