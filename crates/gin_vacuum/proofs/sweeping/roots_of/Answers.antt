use Rattle.std.proofs.Common.{ℕ, sym, ap, subst, ◌∙◌, arith, Vec, Global}
use Rattle.page_types.specs.Parts.{entry_shown, postings_shown}
use Rattle.gin_vacuum.specs.Inner.Reading.{AreRoots}
use Rattle.gin_vacuum.proofs.Roots.{shown_root, roots_none, roots_more, roots_same, roots_all}
use Rattle.gin_vacuum.proofs.sweeping.roots_of.Goals as goal
use Rattle.gin_vacuum.proofs.sweeping.roots_of.Goals.{in-Root+in_ok-push, in_default-postings}

pub loop-k-init : goal.loop-k-init
loop-k-init c = subst (AreRoots _) (sym c.new-roots.ensures.items) (roots_none c.args.entries.now)

pub loop-k-preserved : goal.loop-k-preserved
loop-k-preserved c =
    let es = c.args.entries.now in
    let k = c.loop-k.k in
    let e = entry_shown c.in-Some.entry in
    let before = c.loop-k.invariant in
    elim c.match-entry.branch [
      | in-Root+in_ok-push w ↦
          roots_more es k c.loop-k.roots.items c.match-entry.roots.items e w.in-Root.root before c.in-Some.ensures.some
          (ap postings_shown w.in-Root.is)
          (ap (λ (v : Vec ℕ Global). v.items) w.roots-is ∙ w.in_ok-push.ensures.items)
      | in_default-postings w ↦
          subst (AreRoots _) (sym (ap (λ (v : Vec ℕ Global). v.items) w.roots-is))
          (roots_same es k c.loop-k.roots.items e before c.in-Some.ensures.some
          (λ root is. w.in_default-postings.not-Root root (shown_root c.in-Some.entry.postings root is)))
    ]

pub returns : goal.returns
returns c =
    roots_all c.args.entries.now c.loop-k.k c.loop-k.roots.items
    (omega (arith, c.len-k-end.ensures, c.loop-k-test.false))
    c.loop-k.invariant
