use Rattle.std.proofs.Common.{◌≡◌, ◌+◌, length, ap, sym, subst, ◌∙◌, arith}
use Rattle.page_types.specs.Inner.Cuts.{start_at, moved, CanMove}
use Rattle.page_types.proofs.EndMoving.{new_stand, old_stand, new_can, old_can, ends_stand}
use Rattle.page_types.proofs.ends.replace_ends.Goals as goal

pub move_some-requires-clause-fits : goal.move_some-requires-clause-fits
move_some-requires-clause-fits c =
    let start : c.start_of-start.result ≡ start_at 0 c.args.ends.now.items c.args.from =
    c.start_of-start.ensures ∙ ap (λ es. start_at 0 es c.args.from) c.deref.ensures.value in
    let put = rw c.unwrap.ensures at c.replace_run.ensures.ok in
    subst (CanMove 0 c.start_of-start.result) (sym (new_stand c.args.ends.now.items c.replace_run.new.list.items
    c.args.new.now c.args.from c.args.to c.requires.in_order c.requires.within put))
    (new_can c.args.ends.now.items c.args.new.now c.args.from c.args.to c.requires.fits.0 c.args.size
    c.start_of-start.result c.requires.at start c.requires.fits.2)

pub move_some-requires-2-clause-fits : goal.move_some-requires-2-clause-fits
move_some-requires-2-clause-fits c =
    let start : c.start_of-start.result ≡ start_at 0 c.args.ends.now.items c.args.from =
    c.start_of-start.ensures ∙ ap (λ es. start_at 0 es c.args.from) c.deref.ensures.value in
    let end : c.start_of-end.result ≡ start_at 0 c.args.ends.now.items c.args.to =
    c.start_of-end.ensures ∙ ap (λ es. start_at 0 es c.args.to) c.deref-2.ensures.value in
    let put = rw c.unwrap.ensures at c.replace_run.ensures.ok in
    subst (CanMove c.start_of-end.result (c.start_of-start.result + c.args.size))
    (sym (old_stand c.args.ends.now.items c.replace_run.new.list.items c.move_some.new.ends.items c.args.new.now
    (moved 0 c.start_of-start.result) c.args.from c.args.to c.len-count.result c.requires.in_order c.requires.within
    put (omega (arith, c.len-count.ensures)) c.move_some.ensures))
    (old_can c.args.ends.now.items c.args.from c.args.to c.requires.fits.0 c.args.size c.start_of-start.result
    c.start_of-end.result c.requires.within c.requires.fits.1 start end c.requires.fits.2)

pub returns : goal.returns
returns c =
    let start : c.start_of-start.result ≡ start_at 0 c.args.ends.now.items c.args.from =
    c.start_of-start.ensures ∙ ap (λ es. start_at 0 es c.args.from) c.deref.ensures.value in
    let end : c.start_of-end.result ≡ start_at 0 c.args.ends.now.items c.args.to =
    c.start_of-end.ensures ∙ ap (λ es. start_at 0 es c.args.to) c.deref-2.ensures.value in
    let put = rw c.unwrap.ensures at c.replace_run.ensures.ok in
    let size : c.len-count.result ≡ length c.replace_run.new.list.items = omega (arith, c.len-count.ensures) in
    ends_stand c.args.ends.now.items c.replace_run.new.list.items c.move_some.new.ends.items
    c.move_some-2.new.ends.items c.args.new.now c.args.from c.args.to c.start_of-start.result c.start_of-end.result
    c.args.size
    (record {
      in_order = c.requires.in_order;
      within = c.requires.within;
      start = start;
      behind = end;
      replaced = put;
      first = c.move_some.ensures;
      second = rw size at c.move_some-2.ensures;
    })
