use Rattle.std.proofs.Common.{◌≡◌, List, [], ◌∷◌, ◌++◌, length, ap, ◌∙◌, arith}
use Rattle.core_state.specs.Allowed.{Sheet}
use Rattle.gin_place.proofs.Faults.{calm_fine}
use Rattle.gin_vacuum.proofs.Made.{may_made, logs_made}
use Rattle.gin_vacuum.proofs.freeing.log_both.Goals as goal

pub push_reserved-requires : goal.push_reserved-requires
push_reserved-requires g c =
    omega (arith, c.in-Ok.ensures.room, ap (λ (l : List Sheet). length l) c.in-Ok.ensures.none)

pub push_reserved-requires-in-Ok : goal.push_reserved-requires-in-Ok
push_reserved-requires-in-Ok g c =
    let e = c.push_reserved.ensures in
    omega (arith, c.in-Ok.ensures.room, ap (λ (l : List Sheet). length l) c.in-Ok.ensures.none, e.len, e.capacity)

pub log_pages-requires : goal.log_pages-requires
log_pages-requires g c =
    let b = c.args.both in
    let pages = c.push_reserved-in-Ok.new.self.items in
    let all : pages ≡ b.page ∷ b.heap ∷ [] =
    c.push_reserved-in-Ok.ensures.items
    ∙ ap (λ (l : List Sheet). l ++ b.heap ∷ []) (c.push_reserved.ensures.items
    ∙ ap (λ (l : List Sheet). l ++ b.page ∷ []) c.in-Ok.ensures.none) in
    may_made g.D.Disk c.args.frames.now c.args.pass.now (b.page ∷ b.heap ∷ []) pages c.args.made c.in-Ok.step
    c.in-Ok.ensures.made all c.requires

pub returns-in-Ok : goal.returns-in-Ok
returns-in-Ok g c =
    let e = c.log_pages.ensures in
    let b = c.args.both in
    let pages = c.push_reserved-in-Ok.new.self.items in
    let all : pages ≡ b.page ∷ b.heap ∷ [] =
    c.push_reserved-in-Ok.ensures.items
    ∙ ap (λ (l : List Sheet). l ++ b.heap ∷ []) (c.push_reserved.ensures.items
    ∙ ap (λ (l : List Sheet). l ++ b.page ∷ []) c.in-Ok.ensures.none) in
    record {
      none_held = e.none_held;
      logged = logs_made g.D.Disk c.args.frames.now c.args.pass.now (b.page ∷ b.heap ∷ []) pages c.args.made
          c.in-Ok.step c.in-Ok.ensures.made all c.log_pages.result c.log_pages.new.frames c.log_pages.new.pass e.logged;
      refused = e.refused;
      cause = e.cause;
      fine = e.fine;
      fault = e.fault;
    }

pub give_back-requires : goal.give_back-requires
give_back-requires g c =
    record { pass = c.requires.is_pass; right = c.requires.right; holding = c.requires.holding }

pub returns-in-Err : goal.returns-in-Err
returns-in-Err g c = record {
  none_held = c.give_back.ensures.none_held;
  logged = tt;
  refused = c.give_back.ensures.reads;
  cause = tt;
  fine = tt;
  fault = calm_fine g.D.Disk c.args.frames.now c.give_back.new.frames c.give_back.ensures.calm;
}
