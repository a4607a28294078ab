-- What is noted of a leaf, and what comes after it.
use Rattle.std.proofs.Common.{◌≡◌, ℕ, List, length, Some, refl, sym, subst, arith, slice_get}
use Rattle.std.proofs.lemmas.Result.{err_from_is_err_and}
use Rattle.core_moments.specs.Walk.{Sought}
use Rattle.gin_scan.specs.Inner.Ways.{GoesToTree}
use Rattle.gin_scan.specs.Scanning.{sought_for, sought_in}
use Rattle.gin_scan.specs.declared.scan_core.ScanCore.{ScanCore}
use Rattle.gin_scan.proofs.scan_core.ScanCore.pass_leaf.Goals as goal

pub returns-in_err-then : goal.returns-in_err-then
returns-in_err-then g c =
    let p = err_from_is_err_and c.from_residual.result c.from_residual.ensures.1 in
    rw (p.1, p.2) (record {
      took = refl;
      noted = tt;
      bad = c.in_err-then.ensures.bad;
    })

pub returns : goal.returns
returns g c =
    let s = c.args.self.now in
    let new : ScanCore = record s { main = c.note_entries.new.main; roots = c.note_entries.new.trees } in
    let told = c.in_ok-then.ensures in
    let there : (w : Sought) → slice_get (sought_in s) c.args.key ≡ Some w
    → slice_get (sought_for s.keys c.as_slice.result.now) c.args.key ≡ Some w =
    λ w here. subst (λ (order : List ℕ). slice_get (sought_for s.keys order) c.args.key ≡ Some w)
    (sym c.as_slice.ensures.value) here in
    let from : c.len-from.result ≡ length s.roots.items = omega (arith, c.len-from.ensures, s.roots.ok.0) in record {
      took = refl;
      noted = record {
        leaf = told.leaf;
        noted = λ w here. (told.noted w (there w here), told.named w (there w here));
        next = λ w here.
            subst (λ (n : ℕ). GoesToTree new c.args.key (length s.roots.items) n c.args.read c.next_tree.result)
            (told.beyond w (there w here))
            (subst (λ (n : ℕ). GoesToTree new c.args.key n c.in_ok-then.then c.args.read c.next_tree.result) from
            c.next_tree.ensures.goes);
        main = record { rest = refl; lists = c.note_entries.ensures.lists };
      };
      bad = tt;
    }
