-- What is noted of a page on the way of a key.
use Rattle.std.proofs.Common.{◌≡◌, ◌≢◌, ℕ, List, Some, refl, sym, ap, subst, ◌∙◌, inl, slice_get}
use Rattle.core_moments.specs.Walk as walk
use Rattle.core_moments.specs.Walk.{Sought, first_key}
use Rattle.gin_hits.specs.Rows.{asked_for}
use Rattle.gin_scan.specs.Scanning.{sought_for, sought_in}
use Rattle.gin_scan.specs.declared.stage.Stage.TheVariants as stages
use Rattle.gin_scan.proofs.NotedLeaf.{walks_for}
use Rattle.gin_scan.proofs.PagesRead.{way_of_leaf}
use Rattle.gin_scan.proofs.PagesRefused.{way_off_leaf}
use Rattle.gin_scan.proofs.scan_core.ScanCore.note_way.Goals as goal

pub returns-then-next-ne0 : goal.returns-then-next-ne0
returns-then-next-ne0 g c =
    let s = c.args.self.now in
    let page = c.args.page.now in
    let a = asked_for c.sought.result.0.now c.sought.result.1 in record {
      took = refl;
      noted = record {
        next = λ w here.
            let for = walks_for s.keys c.as_slice.result.now c.args.key w a
            (subst (λ (order : List ℕ). slice_get (sought_for s.keys order) c.args.key ≡ Some w)
            (sym c.as_slice.ensures.value) here) c.sought.ensures in
            let same : c.toward-next.result ≡ walk.toward (first_key w) page =
            c.toward-next.ensures ∙ ap (λ (k : List ℕ). walk.toward k page) (sym for.first) in
            let some : walk.toward (first_key w) page ≢ 0 = λ e. c.if-next-ne0.true (same ∙ e) in
            (inl some, inl (ap (λ (n : ℕ). stages.Down c.args.key n c.args.left) same, some, refl));
        main = record { rest = refl; lists = refl };
      };
      bad = tt;
    }

pub returns : goal.returns
returns g c =
    let s = c.args.self.now in
    let page = c.args.page.now in
    let a = asked_for c.sought.result.0.now c.sought.result.1 in
    let ended : (w : Sought) → slice_get (sought_in s) c.args.key ≡ Some w → walk.toward (first_key w) page ≡ 0 =
    λ w here.
    let for = walks_for s.keys c.as_slice.result.now c.args.key w a
    (subst (λ (order : List ℕ). slice_get (sought_for s.keys order) c.args.key ≡ Some w) (sym c.as_slice.ensures.value)
    here) c.sought.ensures in
    ap (λ (k : List ℕ). walk.toward k page) for.first ∙ sym c.toward-next.ensures ∙ c.if-next-ne0.false in record {
      took = c.pass_leaf.ensures.took;
      noted = way_of_leaf s c.args.key c.args.left c.args.read page c.pass_leaf.new.self c.pass_leaf.result
          c.requires.read ended c.pass_leaf.ensures.noted;
      bad = way_off_leaf (sought_in s) c.args.key page c.args.number c.pass_leaf.result ended c.pass_leaf.ensures.bad;
    }
