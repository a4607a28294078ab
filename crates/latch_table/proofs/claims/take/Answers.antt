use Rattle.std.proofs.Common.{arith, ap, sym, subst, ◌∙◌, ◌≡◌, ◌+◌, ◌-◌, ◌∷◌, ℕ}
use Rattle.atomic_table.specs.Table.{rest}
use Rattle.latch_table.specs.PassStates.{found_by}
use Rattle.latch_table.specs.Told.{HasClaimed}
use Rattle.latch_table.specs.declared.slots.Slot.{Slot}
use Rattle.latch_table.specs.declared.slots.Slot.TheVariants.{Frame, Away}
use Rattle.latch_table.proofs.ClaimFrames.{claims_frame}
use Rattle.latch_table.proofs.claims.take.Goals as goal

pub compare_exchange-is_free-requires : goal.compare_exchange-is_free-requires
compare_exchange-is_free-requires g c =
    let t = c.requires.table in
    let room = c.requires.room in (
      t.0,
      omega arith,
      claims_frame g.F.Framed g.J.Journaled _ g.A.Attempt.notes _ _ _ c.args.page _ (omega arith)
          (λ e. absurd (omega arith)),
    )

pub returns-then-not-is_free-clause-claimed : goal.returns-then-not-is_free-clause-claimed
returns-then-not-is_free-clause-claimed g c =
    let e = c.compare_exchange-is_free.ensures in
    let miss = c.if-not-is_free.true in (c.compare_exchange-is_free.result, (miss, e.2.1 miss))

pub exchange-slot-requires : goal.exchange-slot-requires
exchange-slot-requires g c =
    let e = c.compare_exchange-is_free.ensures in
    let took = e.2.0 c.if-not-is_free.false in (
      e.0 ∙ c.requires.table.0,
      (Frame took.0, took.2 ∙ ap (λ l. (c.args.frame, Frame took.0) ∷ rest l) (sym took.2)),
    )

pub unreachable-requires : goal.unreachable-requires
unreachable-requires g c =
    let took = c.compare_exchange-is_free.ensures.2.0 c.if-not-is_free.false in
    let fronts = sym c.exchange-slot.ensures.2 ∙ took.2 in
    let front : (c.args.frame, c.exchange-slot.result) ≡ (c.args.frame, Frame took.0) = cc fronts in
    c.in_default.not-Frame took.0 (ap (λ (p : ℕ × Slot g.row.F.Denot g.row.J.Denot). p.1) front)

pub returns-clause-claimed : goal.returns-clause-claimed
returns-clause-claimed g c =
    let hit = c.if-not-is_free.false in
    let found = c.compare_exchange-is_free.result in
    let took = c.compare_exchange-is_free.ensures.2.0 hit in
    let gave = c.in-Frame.ensures in
    let fronts = sym took.2 ∙ gave.2 in
    let front : (c.args.frame, Frame took.0) ≡ (c.args.frame, Frame c.in-Frame.value) = cc fronts in
    let slot = ap (λ (p : ℕ × Slot g.row.F.Denot g.row.J.Denot). p.1) front in
    let same : took.0 ≡ c.in-Frame.value = cc slot in
    let page : c.args.page + 1 - 1 ≡ c.args.page = omega arith in
    let old = found_by g.A.Attempt.notes c.args.frame found c.args.seat.now.me.0 in
    let of_page = subst (λ (n : ℕ). HasClaimed g.F.Framed g.J.Journaled c.args.frame n took.0 old
    c.compare_exchange-is_free.new.seat.me.0) page took.1 in
    let of_value = subst (λ (f : g.row.F.Denot). HasClaimed g.F.Framed g.J.Journaled c.args.frame c.args.page f old
    c.compare_exchange-is_free.new.seat.me.0) same of_page in (
      found,
      (
        hit,
        subst (λ m. HasClaimed g.F.Framed g.J.Journaled c.args.frame c.args.page c.in-Frame.value old m.0) (sym gave.3)
            of_value,
        ap (λ m. m.1) gave.3 ∙ ap (λ l. (c.args.frame, Away) ∷ rest l) took.2,
      ),
    )
