-- A store is opened.
use Rattle.std.proofs.Common.{refl, ap}
use Rattle.buffer_frames.specs.declared.pass.Pass.{Pass}
use Rattle.engine.specs.Db.{DbValue}
use Rattle.engine.proofs.Openings.{opened_at, same_pages}
use Rattle.engine.proofs.db.Db.open.Goals as goal

pub returns-in-Ok-clause-opened : goal.returns-in-Ok-clause-opened
returns-in-Ok-clause-opened g c =
    let s : DbValue g.row.D.Denot = record { frames = c.in-Ok.frames; pending = c.args.settings.pending } in
    let e = c.in-Ok.ensures in
    let o = e.opened in (
      o.0,
      opened_at g.D.Disk c.counted_are_one.ensures (λ t d. g.met.D.Disk.seen_is_image d t) c.args.settings
          c.args.store o.0 s c.in-Ok.pass o.1 o.2 e.whole e.since e.opens_on c.keeps_history.ensures.frames e.started
          c.requires.pages refl,
    )

pub returns-in-Ok-clause-session : goal.returns-in-Ok-clause-session
returns-in-Ok-clause-session g c =
    let e = c.in-Ok.ensures in (
      record {
        rests = record {
          is_pass = e.pass;
          idle = (
            ap (λ (p : Pass). p.pin) e.whole,
            ap (λ (p : Pass). p.held) e.whole,
            ap (λ (p : Pass). p.xid) e.whole,
          );
        };
        free = e.free;
      },
      ap (λ (p : Pass). p.room) e.whole,
    )

pub returns-in-Err-clause-pages : goal.returns-in-Err-clause-pages
returns-in-Err-clause-pages g c = λ t.
    same_pages g.D.Disk c.args.store c.in-Err.store (c.in-Err.ensures.refused.keeps_pages t)
    (c.in-Err.ensures.refused.pages t)
