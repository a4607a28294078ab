use Rattle.std.proofs.Common.{List, length, ap, arith}
use Rattle.core_state.specs.Allowed.{Sheet}
use Rattle.gin_place.proofs.Faults.{calm_fine}
use Rattle.gin_vacuum.specs.Inner.Deleting.{around_pages}
use Rattle.gin_vacuum.proofs.AroundHeld.{around_some, around_none}
use Rattle.gin_vacuum.proofs.Made.{may_made, logs_made}
use Rattle.gin_vacuum.proofs.deleting.log_around.Goals as goal

pub push_reserved-requires : goal.push_reserved-requires
push_reserved-requires g c =
    omega (arith, c.in-Ok.ensures.room, ap (λ (l : List Sheet). length l) c.in-Ok.ensures.none)

-- ── a leaf is before it ──

pub push_reserved-requires-in-Some : goal.push_reserved-requires-in-Some
push_reserved-requires-in-Some g c =
    let e = c.push_reserved.ensures in
    omega (arith, c.in-Ok.ensures.room, ap (λ (l : List Sheet). length l) c.in-Ok.ensures.none, e.len, e.capacity)

pub push_reserved-requires-in-Some-2 : goal.push_reserved-requires-in-Some-2
push_reserved-requires-in-Some-2 g c =
    let e = c.push_reserved.ensures in
    let h = c.push_reserved-in-Some.ensures in
    omega (
      arith,
      c.in-Ok.ensures.room,
      ap (λ (l : List Sheet). length l) c.in-Ok.ensures.none,
      e.len,
      e.capacity,
      h.len,
      h.capacity,
    )

pub log_pages-requires : goal.log_pages-requires
log_pages-requires g c =
    let pages = c.push_reserved-in-Some-2.new.self.items in
    may_made g.D.Disk c.args.frames.now c.args.pass.now (around_pages c.args.around) pages c.args.made c.in-Ok.step
    c.in-Ok.ensures.made
    (around_some c.args.around c.in-Some.before c.in-Ok.pages.items c.push_reserved.new.self.items
    c.push_reserved-in-Some.new.self.items pages c.in-Some.is c.in-Ok.ensures.none c.push_reserved.ensures.items
    c.push_reserved-in-Some.ensures.items c.push_reserved-in-Some-2.ensures.items) c.requires

pub returns-in-Some : goal.returns-in-Some
returns-in-Some g c =
    let e = c.log_pages.ensures in
    let pages = c.push_reserved-in-Some-2.new.self.items in
    record {
      none_held = e.none_held;
      logged = logs_made g.D.Disk c.args.frames.now c.args.pass.now (around_pages c.args.around) pages c.args.made
          c.in-Ok.step c.in-Ok.ensures.made
          (around_some c.args.around c.in-Some.before c.in-Ok.pages.items c.push_reserved.new.self.items
          c.push_reserved-in-Some.new.self.items pages c.in-Some.is c.in-Ok.ensures.none c.push_reserved.ensures.items
          c.push_reserved-in-Some.ensures.items c.push_reserved-in-Some-2.ensures.items)
          c.log_pages.result c.log_pages.new.frames c.log_pages.new.pass e.logged;
      refused = e.refused;
      cause = e.cause;
      fine = e.fine;
      fault = e.fault;
    }

-- ── none is ──

pub push_reserved-requires-in-None : goal.push_reserved-requires-in-None
push_reserved-requires-in-None g c =
    let e = c.push_reserved.ensures in
    omega (arith, c.in-Ok.ensures.room, ap (λ (l : List Sheet). length l) c.in-Ok.ensures.none, e.len, e.capacity)

pub log_pages-requires-in-None : goal.log_pages-requires-in-None
log_pages-requires-in-None g c =
    let pages = c.push_reserved-in-None.new.self.items in
    may_made g.D.Disk c.args.frames.now c.args.pass.now (around_pages c.args.around) pages c.args.made c.in-Ok.step
    c.in-Ok.ensures.made
    (around_none c.args.around c.in-Ok.pages.items c.push_reserved.new.self.items pages c.in-None.is
    c.in-Ok.ensures.none c.push_reserved.ensures.items c.push_reserved-in-None.ensures.items) c.requires

pub returns-in-None : goal.returns-in-None
returns-in-None g c =
    let e = c.log_pages-in-None.ensures in
    let pages = c.push_reserved-in-None.new.self.items in
    record {
      none_held = e.none_held;
      logged = logs_made g.D.Disk c.args.frames.now c.args.pass.now (around_pages c.args.around) pages c.args.made
          c.in-Ok.step c.in-Ok.ensures.made
          (around_none c.args.around c.in-Ok.pages.items c.push_reserved.new.self.items pages c.in-None.is
          c.in-Ok.ensures.none c.push_reserved.ensures.items c.push_reserved-in-None.ensures.items)
          c.log_pages-in-None.result c.log_pages-in-None.new.frames c.log_pages-in-None.new.pass e.logged;
      refused = e.refused;
      cause = e.cause;
      fine = e.fine;
      fault = e.fault;
    }

pub give_all_back-requires : goal.give_all_back-requires
give_all_back-requires g c =
    record { pass = c.requires.is_pass; right = c.requires.right; holding = c.requires.holding }

pub returns-in-Err : goal.returns-in-Err
returns-in-Err g c = record {
  none_held = c.give_all_back.ensures.none_held;
  logged = tt;
  refused = c.give_all_back.ensures.reads;
  cause = tt;
  fine = tt;
  fault = calm_fine g.D.Disk c.args.frames.now c.give_all_back.new.frames c.give_all_back.ensures.calm;
}
