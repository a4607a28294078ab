-- One kept item more.
use Rattle.std.proofs.Common.{◌≡◌, ◌<◌, ℕ, ◌+◌, Bool, false, List, length, take, get_or, Some, sym, ap, subst, ◌∙◌}
use Rattle.std.proofs.Common.{arith, slice_get}
use Rattle.std.proofs.lemmas.List.{take_more}
use Rattle.std.proofs.lemmas.Option.{slice_get-get_or}
use Rattle.gin_scan.specs.Inner.Heads.{TakesDocuments}
use Rattle.gin_scan.specs.declared.scan_core.ScanCore.{ScanCore}
use Rattle.gin_scan.proofs.DocumentsTaken.{takes_more}
use Rattle.gin_scan.proofs.HeadsRead.{take_length}
use Rattle.gin_scan.proofs.scan_core.ScanCore.take_documents.Goals as goal

pub loop-k-preserved : goal.loop-k-preserved
loop-k-preserved g c =
    let P = g.W.Meaning.satisfies c.args.query.now in
    let s = c.loop-k.self in
    let n = c.loop-k.k in
    let seen = c.args.seen.now in
    let i = c.loop-k.invariant in
    let new = c.take_if_seen.new.self in
    let kept : length s.kept.items ≡ length c.args.self.now.kept.items
    = ap (λ (z : ScanCore). length z.kept.items) i.rest in
    let small : n < length seen = omega arith in
    let at : slice_get s.kept.items (c.args.from + length (take n seen)) ≡ Some c.index.result.now =
    subst (λ (m : ℕ). slice_get s.kept.items (c.args.from + m) ≡ Some c.index.result.now)
    (sym (take_length seen n (omega (arith, small))))
    (slice_get-get_or s.kept.items (c.args.from + n) c.index.result.now (omega (arith, kept, small))
    ∙ ap Some (sym c.index.ensures)) in
    record {
      serves = c.take_if_seen.ensures.serves;
      taken = subst (λ (bs : List Bool). TakesDocuments P c.args.page.now c.args.from bs c.args.self.now new)
          (sym (take_more seen n false small))
          (takes_more P c.args.page.now c.args.from (take n seen) (get_or seen n false) c.args.self.now s new
          c.index.result.now i.taken at c.in_ok-take_if_seen.ensures.taken);
      rest = c.in_ok-take_if_seen.ensures.rest
          ∙ ap (λ (z : ScanCore). record z { names = new.names; long = new.long }) i.rest;
    }
