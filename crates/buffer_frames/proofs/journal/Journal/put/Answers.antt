use Rattle.std.proofs.Common.{◌≡◌, ◌+◌, ◌-◌, ◌^◌, ◌≤◌, false, inl, inr, ⊎_elim, refl, sym, ap, subst, ◌∙◌, rules, arith}
use Rattle.wal.specs.Waiting.{down_of}
use Rattle.core_state.specs.States.{StateValue}
use Rattle.buffer_frames.specs.Journals.{JournalValue, next_number, work_after}
use Rattle.buffer_frames.specs.Logging.{HasLogged}
use Rattle.buffer_frames.proofs.Refused.{IsKept, append_refused, append_error}
use Rattle.buffer_frames.proofs.Flushing.{seen_as, kept_journal}
use Rattle.buffer_frames.proofs.Logged.{records_left, limit_kept}
use Rattle.buffer_frames.proofs.journal.Journal.put.Goals as goal

pub returns-in-Err-clause-refused : goal.returns-in-Err-clause-refused
returns-in-Err-clause-refused g c =
    let same = c.append.ensures.same in
    let kept : IsKept c.self.inside.wal c.append.new.self = append_refused c.self.inside.wal c.append.new.self
    c.append.result c.in-Err.error c.in-Err.is c.append.ensures.err same.0 same.3 in
    kept_journal c.args.self.now c.self.inside.disk c.self.inside.disk c.self.inside.wal c.append.new.self
    c.self.inside.state.value c.make_room.new.self.value c.self.inside.flushed c.self.inside.owes
    c.self.inside.opened.value c.self.inside.work c.self.view_is
    refl c.make_room.ensures.same same.1 kept

pub returns-in-Err-clause-error : goal.returns-in-Err-clause-error
returns-in-Err-clause-error g c =
    let up = ap (λ (k : JournalValue g.row.D.Denot). down_of k.wal) c.self.view_is ∙ c.requires.up in
    ⊎_elim (λ e. inl (c.from.ensures ∙ e)) (λ e. inr (c.from.ensures ∙ e)) (append_error c.append.result c.in-Err.error
    (down_of c.self.inside.wal) c.in-Err.is up c.append.ensures.is_down)

pub invariant_of-self-in-Err : goal.invariant_of-self-in-Err
invariant_of-self-in-Err g c = (
  search rules,
  omega (arith, c.self.invariant.1, ap (λ (v : StateValue). v.records) c.make_room.ensures.same),
  omega (arith, c.self.invariant.2, ap (λ (v : StateValue). v.records) c.make_room.ensures.same),
  omega (arith, c.self.invariant.3, ap (λ (v : StateValue). v.xid_limit) c.make_room.ensures.same),
)

pub invariant_of-self-2 : goal.invariant_of-self-2
invariant_of-self-2 g c =
    let i : JournalValue g.row.D.Denot = seen_as c.self.inside.disk c.self.inside.wal c.self.inside.state.value
    c.self.inside.flushed c.self.inside.owes c.self.inside.opened.value c.self.inside.work in
    let i' : JournalValue g.row.D.Denot = seen_as c.self.inside.disk c.append.new.self c.step_reserved.new.self.value
    c.self.inside.flushed false c.self.inside.opened.value
    (work_after c.args.rec.now.kind c.args.rec.now.number c.self.inside.work) in
    let has : HasLogged i i' c.args.rec.now = search rules in
    let at : c.args.rec.now.number ≡ next_number i = subst (λ (k : JournalValue g.row.D.Denot). c.args.rec.now.number
    ≡ next_number k) (sym c.self.view_is) c.requires.next in
    let most : c.self.inside.state.value.records + 1 ≤ 2 ^ 63 - 8 = subst
    (λ (k : JournalValue g.row.D.Denot). k.state.records + 1 ≤ 2 ^ 63 - 8) (sym c.self.view_is) c.requires.most in
    let left = records_left i i' c.args.rec.now has at most in (
      c.append.ensures.same.2 ∙ c.self.invariant.0,
      left.0,
      left.1,
      limit_kept i i' c.args.rec.now has c.self.invariant.3,
    )
