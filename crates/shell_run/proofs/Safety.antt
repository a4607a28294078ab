-- What a crash leaves of a run that grows by one statement.
use Rattle.std.proofs.Common.{◌≡◌, ◌⊎◌, inl, inr, ℕ, ◌<◌, ◌≤◌, List, [], ◌∷◌, ◌++◌, length, length-append}
use Rattle.std.proofs.Common.{arith, refl, sym, ◌∙◌, ap, subst, get_or}
use Rattle.std.specs.Prelude.{Option, Some, None, IfSome}
use Rattle.std.specs.List.{All}
use Rattle.std.proofs.lemmas.Bool.{cases_lt}
use Rattle.std.proofs.lemmas.List.{append-nil}
use Rattle.std.proofs.lemmas.List.Elements.{All-push}
use Rattle.disk_trait.specs.Files.{Files}
use Rattle.disk_trait.specs.Runs.{images_now}
use Rattle.disk_trait.specs.declared.device.Disk.{Ghosts as Disk}
use Rattle.engine.specs.Opening.{OpensTo, OpensToOne, HasPagesOf, KeepsPages}
use Rattle.engine.specs.Opened.{IsFixedSince, IsLawfulSince}
use Rattle.engine.specs.Finding.{History, Begins}
use Rattle.engine.specs.Standing.{StandsFor, GoesOn}
use Rattle.engine.specs.Db.{DbValue, disk_of, opened_of}
use Rattle.shell_run.specs.Run.{Exchange, Before, IsOkOfStore}
use Rattle.shell_run.specs.Crash.{IsKnownBy, Reaches}
use Rattle.shell_run.proofs.Runs.{not_before, not_self}
use Rattle.shell_run.proofs.Timing.{ClockIsBy, if_map}

if_all : (o : Option ℕ) (P : ℕ → Type 0) → ((p : ℕ) → P p) → IfSome o P
if_all None P f = tt
if_all (Some p) P f = f p

if_not : (o : Option ℕ) (P : ℕ → Type 0) → ((p : ℕ) → o ≡ Some p → P p) → IfSome o P
if_not None P f = tt
if_not (Some p) P f = f p refl

module _ {D : Type 0} (device : Disk D) where
  -- calls that leave the pages of an earlier image leave the page file fixed
  pub fixed_on : (first disk disk' : D) (c0 : ℕ) → IsFixedSince device first c0 disk
      → KeepsPages device disk disk' → IsFixedSince device first c0 disk'
  fixed_on first disk disk' c0 f run = record {
    began = (f.began.0, omega (arith, f.began.1, run.later));
    early = λ m c ge lt left. f.early m c ge lt (run.before m c (omega (arith, f.began.1)) left);
    pages = λ m c ge le left. elim (cases_lt m (device.clock disk)) [
      | inl before ↦ f.pages m c ge (omega arith) (run.before m c (omega arith) left)
      | inr during ↦
          let b : HasPagesOf (images_now device disk) c = run.each m c during le left in
          b.2 ∙ f.pages (device.clock disk) b.0 f.began.1 (omega arith) b.1
    ];
  }

  -- whatever a crash leaves from this clock value on opens to a history of at least so many commits
  abbrev pub HasSince : ℕ → ℕ → D → Type 0
  HasSince clock commits d = (m : ℕ) (f : Files) → clock ≤ m → m ≤ device.clock d → device.image d m f
      → (kept : History) × OpensTo f kept × (commits ≤ length kept)

  -- What a crash leaves from the clock of an answer Ok on has what the statement saw and committed.
  abbrev pub StaysKnown : D → Exchange → Type 0
  StaysKnown d r = IsOkOfStore r.reply → (n : ℕ) × (r.note.snapshot ≤ n) × IfSome r.note.commit (λ p. p < n)
      × HasSince r.note.clock n d

  -- What a crash left before the answer of a hasn't so many commits and one more, if a came before b.
  abbrev pub FreshAt : ℕ → D → Exchange → Exchange → ℕ → Type 0
  FreshAt c0 d b a p = Before a b → (m : ℕ) (c : Files) (kept : History) → c0 ≤ m → m < a.note.clock
      → device.image d m c → OpensTo c kept → length kept ≤ p

  -- so it is with the commit of b
  abbrev pub IsFresh : ℕ → D → Exchange → Exchange → Type 0
  IsFresh c0 d b a = IfSome b.note.commit (FreshAt c0 d b a)

  pub record Safe (c0 : ℕ) (d : D) (exchanges : List Exchange) : Type 0 where
    pub known : All (StaysKnown d) exchanges
    pub fresh : All (λ (b : Exchange). All (IsFresh c0 d b) exchanges) exchanges

  -- a store of a run, since its opening
  pub record IsSince (first : D) (c0 : ℕ) (opened s : DbValue D) (history commits : History) : Type 0 where
    pub lawful : IsLawfulSince device first c0 opened history
    pub opened_is : opened_of s ≡ disk_of opened
    pub stands : StandsFor device history s commits

  -- what an image opens to
  pub record OpensWithin (c : Files) (history commits : History) : Type 0 where
    pub kept : History
    pub opens : OpensTo c kept
    pub since : Begins history kept
    pub begins : Begins kept commits

  pub opens_within : (first : D) (c0 : ℕ) (opened s : DbValue D) (history commits : History)
      → IsSince first c0 opened s history commits → (m : ℕ) (c : Files) → c0 ≤ m → m ≤ device.clock (disk_of s)
      → device.image (disk_of s) m c → OpensWithin c history commits
  opens_within first c0 opened s history commits h m c ge le left =
      elim (cases_lt m (device.clock (opened_of s))) [
        | inl lt ↦ record {
          kept = history;
          opens = h.lawful.late m c ge
              (let e : device.clock (opened_of s) ≡ device.clock (disk_of opened) = ap device.clock h.opened_is in
              omega (arith, lt, e))
              (subst (λ d. device.image d m c) h.opened_is (h.stands.begins.before m c (omega (arith, lt)) left));
          since = ([], append-nil history);
          begins = h.stands.begins.goes_on;
        }
        | inr above ↦
            let k = h.stands.begins.images m c above le left in
            record { kept = k.0; opens = k.1; since = k.2; begins = k.3 }
      ]

  -- each image since c0 has what was answered by then
  pub reached : OpensToOne → (first : D) (c0 : ℕ) (opened s : DbValue D) (history commits : History)
      (exchanges : List Exchange) → IsSince first c0 opened s history commits → Safe c0 (disk_of s) exchanges
      → (m : ℕ) (c : Files) → c0 ≤ m → m ≤ device.clock (disk_of s) → device.image (disk_of s) m c
      → Reaches c m history commits exchanges
  reached one first c0 opened s history commits exchanges h safe m c ge le left =
      let w : OpensWithin c history commits = opens_within first c0 opened s history commits h m c ge le left in
      record {
        kept = w.kept;
        opens = w.opens;
        begins = w.begins;
        since = w.since;
        known = λ k d l ok by. known_of w (get_or exchanges k d) (safe.known k d l) ok by;
        answered = λ k d l. let b : Exchange = get_or exchanges k d in
            if_not b.note.commit
            (λ p. p < length w.kept → All (λ (a : Exchange). Before a b → a.note.clock ≤ m) exchanges)
            (λ p is below i e n before. by_then w b (get_or exchanges i e) p is below (safe.fresh k d l i e n) before);
      }
    where
      known_of : (w : OpensWithin c history commits) (r : Exchange) → StaysKnown (disk_of s) r → IsOkOfStore r.reply
          → IsKnownBy m (length w.kept) r
      known_of w r k ok by =
          let n = k ok in
          let there = n.3 m c by le left in
          let same : length there.0 ≡ length w.kept = ap length (one c there.0 w.kept there.1 w.opens) in (
            omega (arith, n.1, there.2, same),
            if_map r.note.commit (λ p. p < n.0) (λ p. p < length w.kept) (λ p lt. omega (arith, lt, there.2, same)) n.2,
          )

      by_then : (w : OpensWithin c history commits) (b a : Exchange) (p : ℕ) → b.note.commit ≡ Some p
          → p < length w.kept → IsFresh c0 (disk_of s) b a → Before a b → a.note.clock ≤ m
      by_then w b a p is below fresh before = elim (cases_lt m a.note.clock) [
        | inl lt ↦
            let f : FreshAt c0 (disk_of s) b a p = subst (λ o. IfSome o (FreshAt c0 (disk_of s) b a)) is fresh in
            let short : length w.kept ≤ p = f before m c w.kept ge lt left w.opens in
            absurd (let x : ⊥ = omega (arith, below, short) in x)
        | inr ge ↦ ge
      ]

  -- one statement more
  pub safe_push : OpensToOne → (first : D) (c0 : ℕ) (opened old new : DbValue D) (history commits : History)
      (exchanges : List Exchange) (exchange : Exchange) → device.tells
      → IsSince first c0 opened old history commits → Safe c0 (disk_of old) exchanges → (more : History)
      → ((new ≡ old) × (more ≡ [])) ⊎ GoesOn device old new
      → All (λ (r : Exchange). r.place.step < exchange.place.step) exchanges
      → All (ClockIsBy (device.clock (disk_of old))) exchanges
      → IfSome exchange.note.commit (λ p. length commits ≤ p) → StaysKnown (disk_of new) exchange
      → Safe c0 (disk_of new) (exchanges ++ exchange ∷ [])
  safe_push one first c0 opened old new history commits exchanges exchange t since safe more on last timed own known =
      record {
        known = All-push (StaysKnown (disk_of new)) exchanges exchange
            (λ k d l ok. let n = safe.known k d l ok in
            (n.0, n.1, n.2, stays (get_or exchanges k d).note.clock n.0 (timed k d l) n.3))
            known;
        fresh =
            All-push (λ (b : Exchange). All (IsFresh c0 (disk_of new) b) (exchanges ++ exchange ∷ [])) exchanges
            exchange
            (λ k d l. let b : Exchange = get_or exchanges k d in
            All-push (IsFresh c0 (disk_of new) b) exchanges exchange
            (λ i e n. still b (get_or exchanges i e) (timed i e n) (safe.fresh k d l i e n))
            (if_all b.note.commit (FreshAt c0 (disk_of new) b exchange)
            (λ p before. absurd (not_before exchange b (last k d l) before))))
            (All-push (IsFresh c0 (disk_of new) exchange) exchanges exchange
            (λ i e n. if_map exchange.note.commit (λ p. length commits ≤ p)
            (FreshAt c0 (disk_of new) exchange (get_or exchanges i e))
            (λ p le before m c kept ge lt left opens. later (get_or exchanges i e)
            (timed i e n) p le m c kept ge lt left opens)
            own)
            (if_all exchange.note.commit (FreshAt c0 (disk_of new) exchange exchange)
            (λ p before. absurd (not_self exchange before))));
      }
    where
      stays : (clock n : ℕ) → clock ≤ device.clock (disk_of old) → HasSince clock n (disk_of old)
          → HasSince clock n (disk_of new)
      stays clock n le h = by on
        where
          by : ((new ≡ old) × (more ≡ [])) ⊎ GoesOn device old new → HasSince clock n (disk_of new)
          by (inl same) = subst (λ z. HasSince clock n (disk_of z)) (sym same.0) h
          by (inr on) = on.since t history commits since.stands clock n le h

      was : (m : ℕ) (c : Files) → m < device.clock (disk_of old) → device.image (disk_of new) m c
          → device.image (disk_of old) m c
      was m c lt left = by on
        where
          by : ((new ≡ old) × (more ≡ [])) ⊎ GoesOn device old new → device.image (disk_of old) m c
          by (inl same) = subst (λ z. device.image (disk_of z) m c) same.0 left
          by (inr on) = on.before t m c lt left

      still : (b a : Exchange) → ClockIsBy (device.clock (disk_of old)) a → IsFresh c0 (disk_of old) b a
          → IsFresh c0 (disk_of new) b a
      still b a by = if_map b.note.commit (FreshAt c0 (disk_of old) b a) (FreshAt c0 (disk_of new) b a)
          (λ p f before m c kept ge lt left opens. f before m c kept ge lt
          (was m c (omega (arith, lt, by)) left) opens)

      later : (a : Exchange) → ClockIsBy (device.clock (disk_of old)) a → (p : ℕ) → length commits ≤ p → (m : ℕ)
          (c : Files) (kept : History) → c0 ≤ m → m < a.note.clock → device.image (disk_of new) m c → OpensTo c kept
          → length kept ≤ p
      later a by p le m c kept ge lt left opens =
          let before : device.image (disk_of old) m c = was m c (omega (arith, lt, by)) left in
          let w : OpensWithin c history commits =
          opens_within first c0 opened old history commits since m c ge (omega (arith, lt, by)) before in
          let same : length kept ≡ length w.kept = ap length (one c kept w.kept opens w.opens) in
          omega (arith, same, le, ap length w.begins.1, length-append w.kept w.begins.0)
