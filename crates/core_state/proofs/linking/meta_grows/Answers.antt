use Rattle.std.proofs.Common.{◌<◌, refl, arith}
use Rattle.core_state.proofs.LinkedPages.{meta_told, meta_back}
use Rattle.core_state.proofs.linking.meta_grows.Goals as goal

pub returns-then-pages-count : goal.returns-then-pages-count
returns-then-pages-count c = (
  λ e. absurd (cc),
  λ m.
      let grown = meta_back c.args.rec.now c.args.first c.args.old.now c.args.new.now c.in-Meta.first c.in-Meta.last
      c.in-Meta.count c.in-Meta-body.named c.in-Meta-body.last c.in-Meta-body.pages c.in-Meta.is c.in-Meta-body.is m in
      absurd (omega (arith, grown.more, c.if-pages-count.true)),
)

pub returns : goal.returns
returns c =
    let more : c.in-Meta.count < c.in-Meta-body.pages = omega (arith, c.if-pages-count.false) in (
      λ e. meta_told c.args.rec.now c.args.first c.args.old.now c.args.new.now c.in-Meta.first c.in-Meta.last
          c.in-Meta.count c.in-Meta-body.named c.in-Meta-body.last c.in-Meta-body.pages c.in-Meta.is c.in-Meta-body.is
          c.if-new-old.false c.if-new-rec.false c.if-named-first.false more,
      λ m. refl,
    )
