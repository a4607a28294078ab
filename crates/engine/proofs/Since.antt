-- What records of work on the index came to a log since an earlier one, with the owed Abort.
use Rattle.std.proofs.Common.{◌≡◌, ◌≢◌, ◌⊎◌, ◌≤◌, ◌<◌, ℕ, suc, Bool, true, false, List, [], ◌∷◌, ◌++◌, length, refl}
use Rattle.std.proofs.Common.{sym, ap}
use Rattle.std.proofs.Common.{subst, ◌∙◌, inl, inr, arith, append_assoc}
use Rattle.std.specs.Prelude.{◌+◌, Option, Some, None, IfSome, max}
use Rattle.std.specs.List.{AllByRecursion}
use Rattle.disk_trait.specs.declared.device.Disk.{Ghosts as Disk}
use Rattle.wal.specs.Waiting.{down_of}
use Rattle.page_types.specs.Records.{kind_number}
use Rattle.page_types.specs.declared.record.Record.{Record}
use Rattle.page_types.specs.declared.record.Kind.{Kind}
use Rattle.page_types.specs.declared.record.Kind.TheVariants as kind
use Rattle.core_state.specs.Log.{Log, In, cut}
use Rattle.core_state.specs.Legal.{IsLegal}
use Rattle.core_state.specs.Steady.{IsMaintenance}
use Rattle.core_state.proofs.PageLists.{in_either}
use Rattle.buffer_frames.specs.Frames.{FramesValue, Stands}
use Rattle.buffer_frames.specs.Journals.{RestsFrom, owed_abort}
use Rattle.buffer_frames.specs.Passes.{IsPassOf, HasAdded, GoesOnBy, kinds_of, before_more}
use Rattle.buffer_frames.specs.declared.pass.Pass.{Pass}
use Rattle.buffer_frames.proofs.AtHand.{rests_of, cut_whole, log_length}
use Rattle.buffer_frames.proofs.Begun.{same_by_none}
use Rattle.buffer_frames.proofs.HistoryParts.{legal_before}
use Rattle.gin_place.specs.Placing.{HasRight}
use Rattle.gin_place.proofs.Logs.{cut_front}
use Rattle.gin_cleanup.proofs.ListKept.{in_kinds, all_in}
use Rattle.engine.specs.Vacuuming.{IsIndexKind}
use Rattle.engine.specs.Inner.Vacuumed.{SeesAll}

-- what came between: records of such kinds, and an Abort of all that ran
pub record Since (Is : ℕ → Type 0) (R R' : Log) : Type 0 where
  pub later : Log
  pub log_is : R' ≡ later ++ R
  pub each : (r : Record) → In r later → Is (kind_number r.kind) ⊎ (r ≡ owed_abort (1 + length R))

pub since : (Is : ℕ → Type 0) (owes : Bool) (ks : List ℕ) (R R' : Log) → AllByRecursion Is ks → GoesOnBy owes R R' ks
    → Since Is R R'
since Is owes ks R R' all on = go owes ks on.log_is
    (λ r i. all_in Is ks (kind_number r.kind) all
    (subst (In (kind_number r.kind)) on.kinds_are (in_kinds on.added r i)))
  where
    go : (o : Bool) (js : List ℕ) → R' ≡ on.added ++ before_more o js R
        → ((r : Record) → In r on.added → Is (kind_number r.kind)) → Since Is R R'
    go o [] is each = record { later = on.added; log_is = is; each = λ r i. inl (each r i) }
    go false (j ∷ js) is each = record { later = on.added; log_is = is; each = λ r i. inl (each r i) }
    go true (j ∷ js) is each = record {
      later = on.added ++ owed_abort (1 + length R) ∷ [];
      log_is = is ∙ sym (append_assoc on.added (owed_abort (1 + length R) ∷ []) R);
      each = λ r i. elim (in_either r on.added (owed_abort (1 + length R) ∷ []) i) [
        | inl a ↦ inl (each r a)
        | inr e ↦ elim e [ inl same ↦ inr same | inr none ↦ absurd none ]
      ];
    }

-- a log goes on by what came
pub parts_by : (owes : Bool) (ks : List ℕ) (S T : Log) → GoesOnBy owes S T ks → (xs : Log) × (T ≡ xs ++ S)
parts_by owes [] S T on = (on.added, on.log_is)
parts_by false (k ∷ ks) S T on = (on.added, on.log_is)
parts_by true (k ∷ ks) S T on = (
  on.added ++ owed_abort (1 + length S) ∷ [],
  on.log_is ∙ sym (append_assoc on.added (owed_abort (1 + length S) ∷ []) S),
)

-- the log at hand, and an earlier one that it goes on from
pub record Grown {D : Type 0} (device : Disk D) (Is : ℕ → Type 0) (f : FramesValue D) (R : Log) : Type 0 where
  pub old : Log
  pub stands : Stands device f old
  pub up : down_of f.journal.wal ≡ None
  pub legal : IsLegal old
  pub long : length old ≡ f.journal.state.records
  pub came : Since Is old R
  pub front : cut f.journal.state.records R ≡ old

pub grown : {D : Type 0} (device : Disk D) (Is : ℕ → Type 0) (f g : FramesValue D) (ks : List ℕ)
    → HasAdded device f g ks → AllByRecursion Is ks → device.tells → down_of g.journal.wal ≡ None → (R : Log)
    → Stands device g R → IsLegal R → Grown device Is f R
grown device Is f g ks added all tells up R stands legal =
    let b = added.back tells up R stands in
    let long : f.journal.state.records ≡ length b.0 = log_length device f.journal b.0 b.1.journal in
    let w : Since Is b.0 R = since Is f.journal.owes ks b.0 R all b.2 in
    record {
      old = b.0;
      stands = b.1;
      up = added.was_up up;
      legal = legal_before w.later b.0 (subst IsLegal w.log_is legal);
      long = sym long;
      came = w;
      front = ap (cut f.journal.state.records) w.log_is
          ∙ cut_front f.journal.state.records w.later b.0 (omega (arith, long))
          ∙ cut_whole f.journal.state.records b.0 long;
    }

-- ── a pass that has the right has seen all that it has logged itself ──

works_on : (k : Kind) → IsIndexKind (kind_number k) → IsMaintenance k
works_on kind.Create is = tt
works_on (kind.Checkpoint redo) is = tt
works_on _ is = is

rests_at : (o : Option ℕ) (seen at : ℕ) (R : Log) → IfSome o (λ n. RestsFrom (max n seen) R) → o ≡ Some at
    → RestsFrom (max at seen) R
rests_at None seen at R rests is = absurd (let z : ⊥ = cc in z)
rests_at (Some n) seen at R rests is = let same : n ≡ at = cc in subst (λ (m : ℕ). RestsFrom (max m seen) R) same rests

pub sees_all : {D : Type 0} (device : Disk D) (f g : FramesValue D) (p q : Pass) (ks : List ℕ) → HasAdded device f g ks
    → AllByRecursion IsIndexKind ks → IsPassOf g q → HasRight p → q.work ≡ p.work → p.seen ≤ q.seen
    → SeesAll device f p → SeesAll device g q
sees_all device f g p q ks added all of right same rises was tells up R stands legal =
    let b = added.back tells up R stands in
    by ks all b
  where
    was_long : (S : Log) → Stands device f S → IsLegal S → length S ≤ p.seen
    was_long S s l = was tells (added.was_up up) S s l

    newest : (xs S : Log) (js : List ℕ) → R ≡ xs ++ S → xs ≢ []
        → ((r : Record) → In r xs → IsIndexKind (kind_number r.kind)) → length R ≤ q.seen
    newest [] S js is some each = absurd (some refl)
    newest (r ∷ xs) S js is some each =
        let v = (subst IsLegal is legal).valid.1 in
        let number = v.number in
        let rests = rests_at q.work q.seen right.at R (rests_of device g q R stands.journal of) (same ∙ right.has) in
        let there : In r R = subst (In r) (sym is) (inl refl) in
        let work : IsMaintenance r.kind = works_on r.kind (each r (inl refl)) in
        let long : length R ≡ suc (length (xs ++ S)) = ap length is in
        let past : (max right.at q.seen < r.number) → ⊥ = λ lt. rests r there lt work in
        grind (arith, past, number, long, right.within, rises)

    by : (js : List ℕ) → AllByRecursion IsIndexKind js
        → (x : (S : Log) × Stands device f S × GoesOnBy f.journal.owes S R js)
        → length R ≤ q.seen
    by [] every x =
        let is : R ≡ x.0 = same_by_none f.journal.owes x.0 R x.2 in
        let le = was_long x.0 x.1 (subst IsLegal is legal) in
        omega (arith, le, rises, ap length is)
    by (j ∷ js) every x =
        newest x.2.added (before_more f.journal.owes (j ∷ js) x.0) (j ∷ js) x.2.log_is
        (λ none. let z : j ∷ js ≡ [] = sym x.2.kinds_are ∙ ap kinds_of none in let y : ⊥ = cc in y)
        (λ r i. all_in IsIndexKind (j ∷ js) (kind_number r.kind) every
        (subst (In (kind_number r.kind)) x.2.kinds_are (in_kinds x.2.added r i)))
