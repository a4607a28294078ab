use Rattle.std.proofs.Common.{rules, arith, ap, sym, subst, ◌≢◌}
use Rattle.core_state.specs.Log.{In}
use Rattle.latch_table.proofs.GiveFrames.{gives_frame}
use Rattle.latch_table.proofs.claims.put.Goals as goal

pub store-requires : goal.store-requires
store-requires g c =
    let n = c.requires.noted in
    let e = c.exchange-away.ensures.3 in (
      search rules,
      omega arith,
      gives_frame g.F.Framed g.J.Journaled _ _ _ _ _ n.0 c.args.value _
          (subst (λ m. m.0.room ≢ 0) (sym e) (λ z. absurd (omega arith)))
          (subst (λ m. In n.0 m.0.frames) (sym e) n.1) n.2 n.3 n.4 (ap (λ m. m.1) e),
    )
