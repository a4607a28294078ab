-- What a crash leaves in each of the two steps of a batch.
use Rattle.std.proofs.Common.{◌≡◌, ◌≢◌, ◌⊎◌, ℕ, ◌+◌, ◌<◌, ◌^◌, List, [], ◌∷◌, ◌++◌, length, drop, sym, ap, ◌∙◌, subst}
use Rattle.std.proofs.Common.{arith, inl, inr, length-append, append_assoc}
use Rattle.std.proofs.lemmas.List.{append-nil}
use Rattle.std.proofs.lemmas.Bool.{cases_eq}
use Rattle.disk_trait.specs.Files.{Files, overwritten}
use Rattle.disk_trait.specs.Device.{Torn}
use Rattle.disk_trait.specs.declared.device.File.TheVariants.{Log}
use Rattle.wal.specs.Batches.{header, sealed, blocks, front, AreBatches, HasBatches, Opens}
use Rattle.wal.specs.Settled.{LogIs, Settled, BeforeOrAfter}
use Rattle.disk_trait.specs.Runs.{TornFrom, IsWrittenThrough}
use Rattle.disk_trait.specs.declared.device.Disk.{Ghosts as Disk}
use Rattle.wal.proofs.Places.{torn_behind, torn_commit_byte, written_behind, written_commit_byte}

pub fit_push : (batches : List (List ℕ)) (batch : List ℕ) → AreBatches batches → 0 < length batch
    → length batch < 2 ^ 32 → AreBatches (batches ++ batch ∷ [])
fit_push [] batch fit some small = (some, small, tt)
fit_push (b ∷ bs) batch fit some small = (fit.0, fit.1, fit_push bs batch fit.2 some small)

blocks_push : (batches : List (List ℕ)) (batch tail : List ℕ)
    → blocks (batches ++ batch ∷ []) ++ tail ≡ blocks batches ++ 1 ∷ (sealed batch ++ tail)
blocks_push [] batch tail = ap (λ (l : List ℕ). 1 ∷ (l ++ tail)) (append-nil (sealed batch))
blocks_push (b ∷ bs) batch tail =
    ap (λ (l : List ℕ). 1 ∷ l) (append_assoc (sealed b) (blocks (bs ++ batch ∷ [])) tail ∙ ap (λ (l : List ℕ). sealed b
    ++ l) (blocks_push bs batch tail) ∙ sym (append_assoc (sealed b) (blocks bs) (1 ∷ (sealed batch ++ tail))))

pub front_push : (batches : List (List ℕ)) (batch tail : List ℕ)
    → front batches ++ 1 ∷ (sealed batch ++ tail) ≡ front (batches ++ batch ∷ []) ++ tail
front_push batches batch tail = ap (λ (l : List ℕ). header ++ l) (sym (blocks_push batches batch tail))

pub length-front_push : (batches : List (List ℕ)) (batch : List ℕ)
    → length (front (batches ++ batch ∷ [])) ≡ length (front batches) + 5 + length batch
length-front_push batches batch =
    let whole : length (front batches ++ 1 ∷ (sealed batch ++ [])) ≡ length (front (batches ++ batch ∷ []) ++ []) =
    ap length (front_push batches batch []) in
    omega (
      arith,
      whole,
      length-append (front batches) (1 ∷ (sealed batch ++ [])),
      length-append (sealed batch) [],
      length-append (front (batches ++ batch ∷ [])) [],
    )

module _ (batches : List (List ℕ)) (batch chunk : List ℕ) (is : chunk ≡ sealed batch ++ 0 ∷ [])
    (some : 0 < length batch) (small : length batch < 2 ^ 32) (end : ℕ) (commit_byte : ℕ) (rest : List ℕ)
    (unset : commit_byte ≢ 1) (fit : AreBatches batches)
    (ends : length (front batches) ≡ end) where
  -- the log once the chunk is after the commit byte
  abbrev pub staged : ℕ → List ℕ
  staged g = front batches ++ g ∷ (chunk ++ drop (length chunk) rest)

  -- after a set commit byte it counts
  pub opened : staged 1 ≡ front (batches ++ batch ∷ []) ++ 0 ∷ drop (length chunk) rest
  opened =
      ap (λ (l : List ℕ). front batches ++ 1 ∷ (l ++ drop (length chunk) rest)) is
      ∙ ap (λ (l : List ℕ). front batches ++ 1 ∷ l) (append_assoc (sealed batch) (0 ∷ []) (drop (length chunk) rest))
      ∙ front_push batches batch (0 ∷ drop (length chunk) rest)

  pub with_it : (c : List ℕ) → c ≡ staged 1 → HasBatches c (batches ++ batch ∷ [])
  with_it c eq = record {
    commit_byte = 0;
    rest = drop (length chunk) rest;
    split = eq ∙ opened;
    unset = λ e. omega arith;
    fit = fit_push batches batch fit some small;
  }

  pub without_it : (c r : List ℕ) (g : ℕ) → c ≡ front batches ++ g ∷ r → g ≢ 1 → HasBatches c batches
  without_it c r g eq away = record { commit_byte = g; rest = r; split = eq; unset = away; fit = fit }

  pub any_commit_byte : (c : List ℕ) (g : ℕ) → c ≡ staged g → Opens c batches ⊎ Opens c (batches ++ batch ∷ [])
  any_commit_byte c g eq = elim (cases_eq g 1) [
    | inl set_byte ↦ inr (inr (with_it c (eq ∙ ap staged set_byte)))
    | inr away ↦ inl (inr (without_it c (chunk ++ drop (length chunk) rest) g eq away))
  ]

  -- the first write, torn
  pub first_torn : (old : Files → Type 0) → ((d : Files) → old d → d.log ≡ front batches ++ commit_byte ∷ rest)
      → (c : Files) → TornFrom Log (end + 1) (length chunk) old c → BeforeOrAfter batches batch old c
  first_torn old durable c torn =
      let behind = torn_behind (front batches) end commit_byte rest ends (length chunk) c.log
      (subst (λ (l : List ℕ). Torn (end + 1) (length chunk) l c.log) (durable torn.0 torn.1) torn.2.torn) in
      record {
        before = torn.0;
        was = torn.1;
        pages = torn.2.same;
        log = inl (inr (without_it c.log behind.0 commit_byte behind.1 unset));
      }

  -- the second, from what the first has left on the disk
  pub second_torn : (old mid : Files → Type 0) → ((d : Files) → mid d → d.log ≡ staged commit_byte)
      → ((d : Files) → mid d → (e : Files) × old e × (d.pages ≡ e.pages)) → (c : Files) → TornFrom Log end 1 mid c
      → BeforeOrAfter batches batch old c
  second_torn old mid durable pages c torn =
      let at = torn_commit_byte (front batches) end commit_byte (chunk ++ drop (length chunk) rest) ends c.log
      (subst (λ (l : List ℕ). Torn end 1 l c.log) (durable torn.0 torn.1) torn.2.torn) in
      let from = pages torn.0 torn.1 in
      record { before = from.0; was = from.1; pages = torn.2.same ∙ from.2; log = any_commit_byte c.log at.0 at.1 }

  -- what is after the first
  pub first_stands : {D : Type 0} (device : Disk D) (old new : D) → (device.seen old).log ≡ front batches ++ commit_byte
      ∷ rest → IsWrittenThrough device Log (end + 1) chunk old new → LogIs device (staged commit_byte) new
  first_stands device old new log stands =
      let now : (device.seen new).log ≡ staged commit_byte = stands.written.written
      ∙ ap (overwritten (end + 1) chunk) log ∙ written_behind (front batches) end commit_byte rest ends chunk in
      record { now = now; durable = λ c left. stands.durable c left ∙ now }

  pub second_stands : {D : Type 0} (device : Disk D) (old new : D)
      → (device.seen old).log ≡ staged commit_byte → IsWrittenThrough device Log end (1 ∷ []) old new
      → Settled device (batches ++ batch ∷ []) (end + length chunk) new
  second_stands device old new log stands =
      let now : (device.seen new).log ≡ front (batches ++ batch ∷ []) ++ 0 ∷ drop (length chunk) rest =
      stands.written.written ∙ ap (overwritten end (1 ∷ [])) log
      ∙ written_commit_byte (front batches) end commit_byte (chunk ++ drop (length chunk) rest) ends ∙ opened in
      record {
        commit_byte = 0;
        rest = drop (length chunk) rest;
        log = record { now = now; durable = λ c left. stands.durable c left ∙ now };
        unset = λ e. omega arith;
        fit = fit_push batches batch fit some small;
        ends = longer;
      }
    where
      longer : length (front (batches ++ batch ∷ [])) ≡ end + length chunk
      longer = omega (arith, length-front_push batches batch, ends, ap length is, length-append (sealed batch) (0 ∷ []))
