-- What a crash leaves while a log is created.
use Rattle.std.proofs.Common.{◌≡◌, ℕ, ◌<◌, List, [], ◌∷◌, ◌++◌, length, get_or, refl, sym, ap, ◌∙◌, subst, arith, inl}
use Rattle.std.proofs.Common.{inr}
use Rattle.std.proofs.lemmas.List.{drop_all}
use Rattle.std.proofs.lemmas.Bool.{cases_eq, cases_lt}
use Rattle.disk_trait.specs.Files.{Files, overwritten}
use Rattle.disk_trait.specs.Device.{Torn}
use Rattle.disk_trait.specs.declared.device.File.TheVariants.{Log}
use Rattle.wal.specs.Batches.{IsUnborn, HasBatches, Opens}
use Rattle.wal.specs.Settled.{LogIs, Settled}
use Rattle.disk_trait.specs.Runs.{TornFrom, IsWrittenThrough}
use Rattle.disk_trait.specs.declared.device.Disk.{Ghosts as Disk}
use Rattle.wal.specs.Creating.{created, From}
use Rattle.wal.specs.Inner.CommitBytes.{name_and_commit_byte, Unset}
use Rattle.wal.proofs.Places.{torn_commit_byte, written_behind, written_commit_byte}

-- the first write: what it leaves is too short for a log
pub closing_torn : (L : List ℕ) (old : Files → Type 0) → length L < 18 → ((d : Files) → old d → d.log ≡ L) → (c : Files)
    → TornFrom Log 0 1 old c → From old IsUnborn c
closing_torn L old short durable c torn =
    let is : length torn.0.log ≡ length L = ap length (durable torn.0 torn.1) in
    record { before = torn.0; was = torn.1; pages = torn.2.same; log = inl (omega (arith, is, torn.2.torn.no_longer)) }

-- the second: the commit byte stays unset, and no more than 18 bytes are there
pub naming_torn : (L : List ℕ) (old : Files → Type 0) → Unset L → ((d : Files) → old d → d.log ≡ L) → (c : Files)
    → TornFrom Log 1 17 old c → From old (λ log. Opens log []) c
naming_torn L old unset durable c torn =
    let is : torn.0.log ≡ unset.commit_byte ∷ unset.rest = durable torn.0 torn.1 ∙ unset.is in
    let long = ap length is in
    let commit_byte : get_or c.log 0 0 ≡ unset.commit_byte =
    torn.2.torn.elsewhere 0 (omega (arith, long)) (inl (omega arith)) ∙ ap (λ (l : List ℕ). get_or l 0 0) is in
    record {
      before = torn.0;
      was = torn.1;
      pages = torn.2.same;
      log = inl (
        elim (cases_lt (length c.log) 18) [
          | inl short ↦ inl (omega arith)
          | inr full ↦ inr
              (omega (arith, long, torn.2.torn.no_longer, unset.short), λ e. unset.unset (sym commit_byte ∙ e))
        ],
        refl,
      );
    }

pub named : {D : Type 0} (device : Disk D) (L : List ℕ) (old new : D) → Unset L
    → (device.seen old).log ≡ L → IsWrittenThrough device Log 1 name_and_commit_byte old new
    → (commit_byte : ℕ) × LogIs device (commit_byte ∷ name_and_commit_byte) new
named device L old new unset log stands =
    let now : (device.seen new).log ≡ unset.commit_byte ∷ name_and_commit_byte =
    stands.written.written ∙ ap (overwritten 1 name_and_commit_byte) (log ∙ unset.is)
    ∙ written_behind [] 0 unset.commit_byte unset.rest refl name_and_commit_byte
    ∙ ap (λ (l : List ℕ). unset.commit_byte ∷ (name_and_commit_byte ++ l)) (drop_all 17 unset.rest unset.short) in
    (unset.commit_byte, record { now = now; durable = λ c left. stands.durable c left ∙ now })

whole : (c : List ℕ) → c ≡ 1 ∷ name_and_commit_byte → HasBatches c []
whole c is = record { commit_byte = 0; rest = []; split = is; unset = λ e. omega arith; fit = tt }

-- the third: the store's commit byte
pub opening_torn : (g : ℕ) (old mid : Files → Type 0) → ((d : Files) → mid d → d.log ≡ g ∷ name_and_commit_byte)
    → ((d : Files) → mid d → (e : Files) × old e × (d.pages ≡ e.pages)) → (c : Files) → TornFrom Log 0 1 mid c
    → From old (λ log. Opens log []) c
opening_torn g old mid durable pages c torn =
    let at = torn_commit_byte [] 0 g name_and_commit_byte refl c.log
    (subst (λ (l : List ℕ). Torn 0 1 l c.log) (durable torn.0 torn.1) torn.2.torn) in
    let from = pages torn.0 torn.1 in
    record {
      before = from.0;
      was = from.1;
      pages = torn.2.same ∙ from.2;
      log = elim (cases_eq at.0 1) [
        | inl is_open ↦ inr (whole c.log (at.1 ∙ ap (λ (k : ℕ). k ∷ name_and_commit_byte) is_open))
        | inr away ↦ inl (inr (ap length at.1, λ e. away (sym (ap (λ (l : List ℕ). get_or l 0 0) at.1) ∙ e)), refl)
      ];
    }

pub opened_log : {D : Type 0} (device : Disk D) (g : ℕ) (old new : D) → (device.seen old).log ≡ g ∷ name_and_commit_byte
    → IsWrittenThrough device Log 0 (1 ∷ []) old new → LogIs device created new
opened_log device g old new log stands =
    let now : (device.seen new).log ≡ created = stands.written.written ∙ ap (overwritten 0 (1 ∷ [])) log
    ∙ written_commit_byte [] 0 g name_and_commit_byte refl in
    record { now = now; durable = λ c left. stands.durable c left ∙ now }

pub created_settled : {D : Type 0} (device : Disk D) (new : D) → LogIs device created new → Settled device [] 17 new
created_settled device new is =
    record { commit_byte = 0; rest = []; log = is; unset = λ e. omega arith; fit = tt; ends = refl }

pub unborn_opens : (old : Files → Type 0) (c : Files) → From old IsUnborn c → From old (λ log. Opens log []) c
unborn_opens old c from =
    record { before = from.before; was = from.was; pages = from.pages; log = inl (from.log, refl) }

pub from_both : (old mid : Files → Type 0) (P Q : List ℕ → Type 0) → ((d : Files) → mid d → From old P d) → (c : Files)
    → From mid Q c → From old Q c
from_both old mid P Q earlier c from =
    let first = earlier from.before from.was in
    record { before = first.before; was = first.was; pages = from.pages ∙ first.pages; log = from.log }
