use Rattle.std.proofs.Common.{◌≡◌, ◌∷◌, [], true, refl, sym, ap, ◌∙◌, arith}
use Rattle.std.proofs.lemmas.Grind.{common_steps}
use Rattle.page_types.specs.declared.page.Name.{Name}
use Rattle.core_state.specs.Documents.{Doc}
use Rattle.core_state.specs.States.{known_by, use_of, fate_of}
use Rattle.core_state.specs.declared.answers.Fate.TheVariants.{Running}
use Rattle.core_state.proofs.PlacedHeads.{one_told, one_back, leaves_same, PlaceParts, here_told, here_back}
use Rattle.core_state.proofs.placing.valid_place_head.Goals as goal

pub returns : goal.returns
returns c =
    let d : Doc = record { item = c.in-PlaceHead.item; serial = c.in-PlaceHead.serial } in
    let uses = use_of c.args.state.now.value in
    let known = known_by c.args.state.now.value in
    let changes : c.changes_pages.result ≡ true = first_of (cc, grind (arith, common_steps)) in
    let runs : fate_of c.args.state.now.value c.args.rec.now.xid ≡ Running = cc in (
      λ e. here_told c.args.since known c.args.rec.now d c.args.before.now c.args.after.now c.in-PlaceHead.is
          (record {
            old = c.index-before-0.result;
            new = c.index-after-0.result;
            pages = c.changes_pages.ensures.0 changes ∙ ap (λ (n : Name). n.page ∷ []) c.name_of-name.ensures;
            runs = runs;
            next = cc;
            before_is = one_told c.args.before.now c.index-before-0.result (omega arith) c.index-before-0.is;
            after_is = one_told c.args.after.now c.index-after-0.result (omega arith) c.index-after-0.is;
            leaves = leaves_same uses c.args.since c.args.rec.now _ _ _ _ _ _ c.name_of-name.ensures refl refl
                (c.leaves_head.ensures.0 e);
          }),
      λ w.
          let p : PlaceParts c.args.since known c.args.rec.now d c.args.before.now c.args.after.now = here_back
          c.args.since known c.args.rec.now d c.args.before.now c.args.after.now c.in-PlaceHead.is w in
          c.leaves_head.ensures.1 (leaves_same uses c.args.since c.args.rec.now _ _ _ _ _ _
          (sym c.name_of-name.ensures)
          (one_back c.args.before.now c.index-before-0.result p.old p.before_is c.index-before-0.is)
          (one_back c.args.after.now c.index-after-0.result p.new p.after_is c.index-after-0.is) p.leaves),
    )
