-- A document is taken, by its head.
use Rattle.std.proofs.Common.{◌∷◌, ◌++◌, [], Bool, refl, sym, ap, subst, ◌∙◌}
use Rattle.std.specs.Prelude.{OnOk}
use Rattle.std.proofs.lemmas.Result.{err_from_is_err_and, on_ok_weaker}
use Rattle.page_types.specs.Parts.{head_shown}
use Rattle.page_types.specs.declared.page.Name.{Name}
use Rattle.gin_scan.specs.Inner.Heads.{TellsOf, TakesDocument}
use Rattle.gin_scan.specs.declared.scan_core.ScanCore.{ScanCore}
use Rattle.gin_scan.proofs.DocumentsTaken.{named_as, takes_sure, takes_long, takes_name, takes_none}
use Rattle.gin_scan.proofs.scan_core.ScanCore.take_document.Goals as goal

pub returns-then-sure : goal.returns-then-sure
returns-then-sure g c =
    let P = g.W.Meaning.satisfies c.args.query.now in
    let h = head_shown c.args.found in
    let s = c.args.self.now in
    let new : ScanCore = c.add_name.new.self in
    let named = named_as P c.args.item h c.page_of.result c.slot_of.result c.args.found.fields.serial c.page_of.ensures
    c.slot_of.ensures refl in record {
      serves = c.requires.serves;
      took = ap (λ (z : ScanCore). z.took_pin) c.add_name.ensures.rest;
      taken = subst (λ (b : Bool). OnOk c.add_name.result (TakesDocument P c.args.item b h s new)) (sym c.if-sure.true)
          (on_ok_weaker c.add_name.result (λ added. takes_sure P c.args.item h s new
          (added ∙ ap (λ (n : Name). s.names.items ++ n ∷ []) named) c.add_name.ensures.rest) c.add_name.ensures.added);
    }

pub returns-in_err-push : goal.returns-in_err-push
returns-in_err-push g c =
    let p = err_from_is_err_and c.from_residual.result c.from_residual.ensures.1 in
    rw p.1 (record { serves = c.requires.serves; took = refl; taken = tt })

pub returns-then-found-gt-MOST_SHORT_BYTES : goal.returns-then-found-gt-MOST_SHORT_BYTES
returns-then-found-gt-MOST_SHORT_BYTES g c =
    let P = g.W.Meaning.satisfies c.args.query.now in
    let h = head_shown c.args.found in
    let s = c.args.self.now in
    let new : ScanCore = record s { long = c.push.new.self } in
    let named = named_as P c.args.item h c.page_of.result c.slot_of.result c.args.found.fields.serial c.page_of.ensures
    c.slot_of.ensures refl in record {
      serves = c.requires.serves;
      took = refl;
      taken = subst (λ (b : Bool). TakesDocument P c.args.item b h s new) (sym c.if-sure.false)
          (takes_long P c.args.item h s new c.if-found-gt-MOST_SHORT_BYTES.true
          (c.in_ok-push.ensures.items ∙ ap (λ (n : Name). s.long.items ++ record {
            name = n;
            first = c.args.found.fields.overflow;
            size = c.args.found.fields.bytes;
          } ∷ []) named) refl);
    }

pub returns-then-not-check : goal.returns-then-not-check
returns-then-not-check g c =
    let P = g.W.Meaning.satisfies c.args.query.now in
    let h = head_shown c.args.found in
    let s = c.args.self.now in record {
      serves = c.check.ensures.serves;
      took = refl;
      taken = subst (λ (b : Bool). TakesDocument P c.args.item b h s s) (sym c.if-sure.false)
          (takes_none P c.args.item h s c.if-found-gt-MOST_SHORT_BYTES.false
          (subst (TellsOf P h.vector) c.if-not-check.true c.check.ensures.tells));
    }

pub returns : goal.returns
returns g c =
    let P = g.W.Meaning.satisfies c.args.query.now in
    let h = head_shown c.args.found in
    let s = c.args.self.now in
    let add = c.add_name-2 in
    let new : ScanCore = add.new.self in
    let named = named_as P c.args.item h c.page_of.result c.slot_of.result c.args.found.fields.serial c.page_of.ensures
    c.slot_of.ensures refl in record {
      serves = c.check.ensures.serves;
      took = ap (λ (z : ScanCore). z.took_pin) add.ensures.rest;
      taken = subst (λ (b : Bool). OnOk add.result (TakesDocument P c.args.item b h s new)) (sym c.if-sure.false)
          (on_ok_weaker add.result (λ added. takes_name P c.args.item h s new c.if-found-gt-MOST_SHORT_BYTES.false
          (subst (TellsOf P h.vector) c.if-not-check.false c.check.ensures.tells)
          (added ∙ ap (λ (n : Name). s.names.items ++ n ∷ []) named) add.ensures.rest) add.ensures.added);
    }
