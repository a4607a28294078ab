use Rattle.std.proofs.Common.{List, length, set, refl, sym, ap, subst, ◌∙◌, arith}
use Rattle.std.specs.Prelude.{Some}
use Rattle.atomic_table.proofs.Lists.{set_else}
use Rattle.core_state.specs.Log.{In}
use Rattle.latch_table.specs.declared.states.Note.{Note}
use Rattle.latch_table.specs.declared.states.PassState.{PassState}
use Rattle.latch_bench.specs.declared.slots.Tally.{Tally}
use Rattle.latch_bench.specs.Lent.{AreLent}
use Rattle.latch_bench.proofs.Lending.{absent_after, none_four, lent_none, row_more}
use Rattle.latch_bench.proofs.rows.claim_row.Goals as goal

pub loop-place-init : goal.loop-place-init
loop-place-init g c =
    let free = c.requires.free in
    let none = free.idle.frames in (
      record {
        of_table = free.of_table;
        journal_is = free.idle.journal_is;
        work = free.idle.work;
        pin = free.idle.pin;
      },
      subst (λ (fs : List Note). AreLent fs c.args.base _) (sym none) (lent_none c.args.base),
      refl,
      ap length none,
      λ f i. absurd (subst (In f) none i),
      λ k le lt. none_four k lt,
    )

pub claim-requires-clause-may : goal.claim-requires-clause-may
claim-requires-clause-may g c =
    let now = c.loop-place.invariant in
    let b = c.requires.base in
    let t = c.loop-place-test.true in
    let n = now.3 in
    record { frame_is = omega arith; no_journal = now.0.journal_is; few = omega arith }

pub claim-requires-clause-not_held : goal.claim-requires-clause-not_held
claim-requires-clause-not_held g c = absent_after _ _ c.loop-place.invariant.4

pub is_taken-requires-clause-held : goal.is_taken-requires-clause-held
is_taken-requires-clause-held g c =
    let now = c.loop-place.invariant in
    let more =
    row_more c.args.base c.loop-place.place _ c.loop-place.row c.claim.result _ _ c.claim.ensures.claimed now.1
    (now.5 c.loop-place.place (omega arith) c.loop-place-test.true) now.4 in
    let n = now.3 in
    let m = more.1 in omega arith

pub loop-place-preserved : goal.loop-place-preserved
loop-place-preserved g c =
    let now = c.loop-place.invariant in
    let more =
    row_more c.args.base c.loop-place.place _ c.loop-place.row c.claim.result _ _ c.claim.ensures.claimed now.1
    (now.5 c.loop-place.place (omega arith) c.loop-place-test.true) now.4 in
    let same = c.is_taken.ensures.frames in
    let n = now.3 in (
      c.is_taken.ensures.holding,
      subst (λ (fs : List Note). AreLent fs c.args.base (set c.loop-place.row c.loop-place.place (Some c.claim.result)))
          (sym same) more.0,
      c.is_taken.ensures.room ∙ ap (λ (v : PassState Tally). v.room) c.claim.ensures.claimed.state ∙ now.2,
      (let m = more.1 in let e = ap length same in omega arith),
      λ f i. more.2 f (subst (In f) same i),
      λ k le lt. set_else c.loop-place.row c.loop-place.place k _ (λ e. omega arith) ∙ now.5 k (omega arith) lt,
    )
