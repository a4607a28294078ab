-- The next posting tree, or the next leaf.
use Rattle.std.proofs.Common.{Some, ℕ, ◌<◌, ◌^◌, sym, ap, ◌∙◌, inl, arith, option_map}
use Rattle.std.proofs.lemmas.Option.{slice_get-get_or, slice_get-map}
use Rattle.gin_hits.specs.Trees.{named_by}
use Rattle.gin_scan.specs.declared.stage.Stage.TheVariants as stage
use Rattle.gin_scan.proofs.scan_core.ScanCore.next_tree.Goals as goal

pub returns-then-at-len-clause-goes : goal.returns-then-at-len-clause-goes
returns-then-at-len-clause-goes c =
    inl (
      named_by c.index.result.now,
      slice_get-map named_by c.args.self.now.roots.items c.args.at
          ∙ ap (option_map named_by)
          (slice_get-get_or c.args.self.now.roots.items c.args.at c.index.result.now (omega arith)
          ∙ ap Some (sym c.index.ensures)),
      ap (λ (n : ℕ). stage.Posting c.args.key c.args.at c.index.result.now.root n c.args.then c.args.read)
          c.most_pages-most.ensures,
    )

pub returns-then-at-len-clause-within : goal.returns-then-at-len-clause-within
returns-then-at-len-clause-within c =
    let z : c.most_pages-most.result < 2 ^ 32 = c.most_pages-most.type_inv in omega
    (arith, z, c.most_pages-most.ensures)

pub returns-clause-within : goal.returns-clause-within
returns-clause-within c =
    let z : c.most_pages-most.result < 2 ^ 32 = c.most_pages-most.type_inv in omega
    (arith, z, c.most_pages-most.ensures)
