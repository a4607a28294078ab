-- That the next run goes on with what a run, or a crash in it, has left.
use Rattle.std.proofs.Common.{inl, inr, ℕ, ◌<◌, ◌≤◌, List, [], ◌∷◌, length, arith, sym, subst}
use Rattle.std.specs.Prelude.{⊤}
use Rattle.std.specs.List.{All}
use Rattle.std.proofs.lemmas.Bool.{cases_lt}
use Rattle.std.proofs.lemmas.List.Elements.{All-weaker}
use Rattle.disk_trait.specs.Files.{Files}
use Rattle.disk_trait.specs.declared.device.Disk.{Ghosts as Disk}
use Rattle.engine.specs.Opening.{OpensTo, OpensToOne, NoStoreIsNone}
use Rattle.engine.proofs.Entering.{no_refusal, none_opens}
use Rattle.engine.specs.Finding.{History, Begins}
use Rattle.shell_run.specs.Run.{Exchange, IsOkOfStore}
use Rattle.shell_run.specs.Crash.{StartedFrom, IsKnownBy, CrashSafe}
use Rattle.shell_run.specs.NextRun.{OpensIsNoRefusal, EmptyMayStart, Refused, IsRefusedOver, IsLeft, NextMayStart}
use Rattle.shell_run.specs.NextRun.{NextHasAll}

pub opens_is_no_refusal : NoStoreIsNone → OpensIsNoRefusal
opens_is_no_refusal none files H bytes o refused = no_refusal none files H bytes o refused

module _ {D : Type 0} (device : Disk D) where
  pub empty_may_start : EmptyMayStart device
  empty_may_start d now images = record {
    now = ([], subst (λ (f : Files). OpensTo f []) (sym now) none_opens);
    images = λ c i. ([], subst (λ (f : Files). OpensTo f []) (sym (images c i)) none_opens);
  }

  -- whatever a stop at a moment of a run leaves opens
  left_opens : (old new : D) (first commits : History) (exchanges : List Exchange) (m : ℕ) (c : Files)
      → StartedFrom device old → CrashSafe device old new first commits exchanges
      → device.clock old ≤ m → m ≤ device.clock new → device.image new m c
      → (H : History) × OpensTo c H
  left_opens old new first commits exchanges m c started safe ge le left = elim (cases_lt m safe.c0) [
    | inl early ↦ started.images c (safe.early m c ge early left)
    | inr late ↦ (let r = safe.late m c (omega arith) le left in (r.kept, r.opens))
  ]

-- of no statement answered Ok by then is anything asked before the opening's end
none_known : (m c0 last reached : ℕ) (exchanges : List Exchange) → m < c0
    → All (λ (r : Exchange). IsOkOfStore r.reply → (c0 ≤ r.note.clock) × (r.note.clock ≤ last)) exchanges
    → All (λ (r : Exchange). IsOkOfStore r.reply → IsKnownBy m reached r) exchanges
none_known m c0 last reached exchanges early =
    All-weaker (λ (r : Exchange). IsOkOfStore r.reply → (c0 ≤ r.note.clock) × (r.note.clock ≤ last))
    (λ (r : Exchange). IsOkOfStore r.reply → IsKnownBy m reached r)
    (λ r w ok by. absurd (let a : c0 ≤ r.note.clock = (w ok).0 in let x : ⊥ = omega arith in x))
    exchanges

module _ {E : Type 0} (next : Disk E) where
  -- files of which each opens to a history that has P
  abbrev OpenTo : (History → Type 0) → (Files → Type 0) → Type 0
  OpenTo P left = (c : Files) → left c → (H : History) × OpensTo c H × P H

  -- a refused opening may start, and leaves files that open to histories as before
  refused_opens : OpensToOne → (P : History → Type 0) (left : Files → Type 0) (r : Refused E) → OpenTo P left
      → IsRefusedOver next left r → OpenTo P (next.image r.last r.moment)
  refused_opens one P left r opens h c i =
      let started : StartedFrom next r.entry = record {
        now = (let k = opens (next.seen r.entry) h.began in (k.0, k.1));
        images = λ d j. let k = opens d (h.images d j) in (k.0, k.1);
      } in
      let kept = (h.as_before started).images r.moment c h.within.0 h.within.1 i in
      let before = opens kept.2.0 (h.images kept.2.0 kept.2.1) in
      (kept.0, kept.1, subst P (one kept.2.0 before.0 kept.0 before.1 kept.2.2) before.2)

  left_open : OpensToOne → (P : History → Type 0) (between : List (Refused E)) (left : Files → Type 0) (c : Files)
      → OpenTo P left → IsLeft next left between c → (H : History) × OpensTo c H × P H
  left_open one P [] left c opens h = opens c h
  left_open one P (r ∷ rs) left c opens h =
      left_open one P rs (next.image r.last r.moment) c (refused_opens one P left r opens h.0) h.1

  -- what was left could have been left of more files
  left_more : (between : List (Refused E)) (left more : Files → Type 0) (c : Files)
      → ((d : Files) → left d → more d) → IsLeft next left between c → IsLeft next more between c
  left_more [] left more c in_more h = in_more c h
  left_more (r ∷ rs) left more c in_more h = (
    record {
      began = in_more (next.seen r.entry) h.0.began;
      images = λ d i. in_more d (h.0.images d i);
      as_before = h.0.as_before;
      within = h.0.within;
    },
    h.1,
  )

-- what a history that is found has of a run: its acknowledged commits, between its ends
abbrev HasKept : ℕ → History → History → List Exchange → History → Type 0
HasKept m first commits exchanges found =
    All (λ (r : Exchange). IsOkOfStore r.reply → IsKnownBy m (length found) r) exchanges
    × (Begins first found × Begins found commits)

module _ {D E : Type 0} (device : Disk D) (next : Disk E) where
  pub next_may_start : OpensToOne → NextMayStart device next
  next_may_start one counts old new first commits exchanges m between entry started means ge le left images =
      record {
        now = opens (next.seen entry) left;
        images = λ c i. opens c (images c i);
      }
    where
      opens : (c : Files) → IsLeft next (device.image new m) between c → (H : History) × OpensTo c H
      opens c h =
          let k = left_open next one (λ H. ⊤) between (device.image new m) c
          (λ d i. (let o = left_opens device old new first commits exchanges m d started means.crash ge le i in
          (o.0, o.1, tt))) h in
          (k.0, k.1)

  pub next_has_all : OpensToOne → NextHasAll device next
  next_has_all one counts counts' old new first commits exchanges m between entry end found commits' exchanges' means
      means' ge le left =
      elim (cases_lt m means.crash.c0) [
        | inl early ↦ (
          none_known m means.crash.c0 (device.clock new) (length found) exchanges early means.crash.clocks,
          inr (left_more next between (device.image new m) (device.image old (device.clock old))
              (next.seen entry) (λ d i. means.crash.early m d ge early i) left),
        )
        | inr late ↦ (
            let k = left_open next one (HasKept m first commits exchanges) between (device.image new m)
            (next.seen entry)
            (λ d i. (let r = means.crash.late m d (omega arith) le i in
            (r.kept, r.opens, (r.known, (r.since, r.begins))))) left in
            let has = subst (HasKept m first commits exchanges)
            (one (next.seen entry) k.0 found k.1 means'.is_first) k.2 in
            (has.0, inl has.1)
            )
      ]
