-- What a pass with the right of maintenance has seen goes on, in calls that log nothing, by records of others, none of
-- which is index work.
use Rattle.std.proofs.Common.{◌≡◌, ◌≢◌, ◌≤◌, ◌-◌, ℕ, zero, suc, List, [], ◌∷◌, ◌++◌, length, take, drop, sym, ap, subst}
use Rattle.std.proofs.Common.{◌∙◌, inr, arith, length-append}
use Rattle.std.proofs.lemmas.List.{drop-append-le}
use Rattle.std.specs.Prelude.{◌<◌, None}
use Rattle.disk_trait.specs.declared.device.Disk.{Ghosts as Disk}
use Rattle.wal.specs.Waiting.{down_of}
use Rattle.page_types.specs.Records.{kind_number}
use Rattle.page_types.specs.declared.record.Record.{Record}
use Rattle.core_state.specs.Log.{Log, Pages, In, Shows, cut}
use Rattle.core_state.specs.Allowed.{Sheet}
use Rattle.core_state.specs.Legal.{IsLegal}
use Rattle.core_state.specs.Steady.{LeavesIndex}
use Rattle.core_maintenance.proofs.Right.{others_early}
use Rattle.buffer_frames.specs.Frames.{FramesValue, Stands}
use Rattle.buffer_frames.specs.Passes.{IsPassOf, IsHolding, Seen, view_of}
use Rattle.buffer_frames.specs.declared.pass.Pass.{Pass}
use Rattle.buffer_frames.proofs.AtHand.{cut_length, log_length, parts_of}
use Rattle.buffer_frames.proofs.Begun.{same_by_none}
use Rattle.buffer_frames.proofs.FirstLogs.{shown_by}
use Rattle.buffer_frames.proofs.HistoryParts.{legal_before}
use Rattle.gin_place.specs.Going.{WorksOn}
use Rattle.gin_place.specs.Placing.{HasRight}
use Rattle.gin_place.proofs.Owing.{right_of}

pub in_drop : {A : Type 0} (n : ℕ) (x : A) (xs : List A) → In x (drop n xs) → In x xs
in_drop zero x xs i = i
in_drop (suc n) x [] i = i
in_drop (suc n) x (y ∷ ys) i = inr (in_drop n x ys i)

-- the log that a pass has seen is legal
pub cut_legal : (n : ℕ) (R : Log) → IsLegal R → IsLegal (cut n R)
cut_legal n R legal = legal_before (take (length R - n) R) (cut n R) (subst IsLegal (parts_of n R) legal)

module _ {D : Type 0} (device : Disk D) (f g : FramesValue D) (p q : Pass) (held : List Sheet)
    (hold : IsHolding device f p held) (was : IsPassOf f p) (right : HasRight p)
    (works : WorksOn device f p g q []) where
  -- it goes on from what the pass had seen
  pub record Goes (R : Log) : Type 0 where
    pub stood : Stands device f R
    pub later : Log
    pub seen_is : cut q.seen R ≡ later ++ cut p.seen R
    pub early : (r : Record) → In r later → kind_number r.kind < 12
    pub size : length (cut p.seen R) ≡ p.seen

  pub goes : device.tells → down_of g.journal.wal ≡ None → (R : Log) → Stands device g R → IsLegal R → Goes R
  goes t up R stands legal =
      let back = works.added.back t up R stands in
      let same : back.0 ≡ R = sym (same_by_none f.journal.owes back.0 R back.2) in
      let stood : Stands device f R = subst (Stands device f) same back.1 in
      let a = hold.allowed t (works.added.was_up up) R stood legal in
      let C : Log = cut p.seen R in
      let whole : R ≡ a.later ++ C = a.goes_on in
      let long : f.journal.state.records ≡ length R = log_length device f.journal R stood.journal in
      let size : length C ≡ p.seen = cut_length p.seen R (omega (arith, was.seen, long)) in
      let k : ℕ = length R - q.seen in
      let within : k ≤ length a.later =
      omega (arith, ap length whole, length-append a.later C, size, works.rises.seen) in
      let early = others_early (view_of f p R held) R a (right_of device f p held R was right stood) in
      record {
        stood = stood;
        later = drop k a.later;
        seen_is = ap (λ (l : Log). drop k l) whole ∙ drop-append-le k a.later C within;
        early = λ r i. early r (in_drop k r a.later i);
        size = size;
      }

  -- a fact of it that becomes another where such records come
  pub seen_by : (X Y : Log → Pages → Type 0)
      → ((C later S : Log) (P Q : Pages) → S ≡ later ++ C → C ≢ [] → length C ≡ p.seen → IsLegal C → IsLegal S
      → Shows C P → Shows S Q → ((r : Record) → In r later → kind_number r.kind < 12) → X C P → Y S Q)
      → Seen device f p X → Seen device g q Y
  seen_by X Y stay seen t up R stands legal Q shown =
      let o = goes t up R stands legal in
      let C : Log = cut p.seen R in
      let legal_C : IsLegal C = cut_legal p.seen R legal in
      let P = shown_by C legal_C.valid in
      stay C o.later (cut q.seen R) P.0 Q o.seen_is (λ e. omega (arith, was.some, o.size, ap length e)) o.size legal_C
      (cut_legal q.seen R legal) P.1 shown o.early
      (seen t (works.added.was_up up) R o.stood legal P.0 P.1)

  -- or where no index work comes
  pub seen_on : (X Y : Log → Pages → Type 0)
      → ((C later S : Log) (P Q : Pages) → S ≡ later ++ C → C ≢ [] → length C ≡ p.seen → IsLegal C → IsLegal S
      → Shows C P → Shows S Q → LeavesIndex later → X C P → Y S Q)
      → Seen device f p X → Seen device g q Y
  seen_on X Y stay =
      seen_by X Y (λ C later S P Q is some size legal legal' shown shown' early x.
      stay C later S P Q is some size legal legal' shown shown'
      (λ r i work. let low = early r i in omega (arith, low, work.0)) x)
