-- The clocks of a run that grows by one statement.
use Rattle.std.proofs.Common.{◌≡◌, ℕ, ◌+◌, ◌<◌, ◌≤◌, List, [], ◌∷◌, ◌++◌, length, arith, get_or, refl, sym, subst}
use Rattle.std.specs.Prelude.{Option, Some, None, IfSome, take}
use Rattle.std.specs.List.{All}
use Rattle.std.proofs.lemmas.List.{take-append-le}
use Rattle.std.proofs.lemmas.List.Elements.{All-push, All-head, All-tail}
use Rattle.disk_trait.specs.declared.device.Disk.{Ghosts as Disk}
use Rattle.engine.specs.Db.{DbValue}
use Rattle.engine.specs.Finding.{History}
use Rattle.engine.specs.Standing.{StandsFor}
use Rattle.shell_run.specs.Caused.{IsCaused, IsLeftBy, AreCaused}
use Rattle.shell_run.specs.RanOn.{IsSeenIn, AreSeenIn}
use Rattle.shell_run.specs.Run.{Exchange, Before, AreTimed, IsWithin}
use Rattle.shell_run.proofs.Runs.{not_before, not_self}

pub if_map : (o : Option ℕ) (P Q : ℕ → Type 0) → ((p : ℕ) → P p → Q p) → IfSome o P → IfSome o Q
if_map None P Q f h = tt
if_map (Some p) P Q f h = f p h

if_both : (o : Option ℕ) (P Q R : ℕ → Type 0) → ((p : ℕ) → P p → Q p → R p) → IfSome o P → IfSome o Q → IfSome o R
if_both None P Q R f h k = tt
if_both (Some p) P Q R f h k = f p h k

abbrev pub ClockIsBy : ℕ → Exchange → Type 0
ClockIsBy m r = r.note.clock ≤ m

pub timed_by : (opened last : ℕ) (exchanges : List Exchange) → AreTimed opened last exchanges
    → All (ClockIsBy last) exchanges
timed_by opened last exchanges h k d l = (h.within k d l).1

pub timed_push : (opened last last' : ℕ) (exchanges : List Exchange) (exchange : Exchange)
    → AreTimed opened last exchanges
    → last ≤ last' → exchange.note.clock ≡ last'
    → All (λ (r : Exchange). r.place.step < exchange.place.step) exchanges
    → AreTimed opened last' (exchanges ++ exchange ∷ [])
timed_push opened last last' exchanges exchange h le is before = record {
  later = omega (arith, h.later, le);
  within = All-push (λ (r : Exchange). (opened ≤ r.note.clock) × (r.note.clock ≤ last')) exchanges exchange
      (λ k d l. ((h.within k d l).0, omega (arith, (h.within k d l).1, le)))
      (omega (arith, h.later, le, is), omega (arith, is));
  order = All-push (λ (a : Exchange). All (λ (b : Exchange). Before a b → a.note.clock ≤ b.note.clock)
      (exchanges ++ exchange ∷ [])) exchanges exchange
      (λ k d l. All-push
      (λ (b : Exchange). Before (get_or exchanges k d) b → (get_or exchanges k d).note.clock ≤ b.note.clock)
      exchanges exchange (h.order k d l) (λ b. omega (arith, (h.within k d l).1, le, is)))
      (All-push (λ (b : Exchange). Before exchange b → exchange.note.clock ≤ b.note.clock) exchanges exchange
      (λ k d l b. absurd (not_before exchange (get_or exchanges k d) (before k d l) b))
      (λ b. absurd (not_self exchange b)));
}

module _ {D : Type 0} (device : Disk D) where
  -- one statement more, and the store as it leaves it
  pub caused_push : (exchanges : List Exchange) (exchange : Exchange) (opened s s' : DbValue D)
      → AreCaused device exchanges opened s
      → IsCaused device s s' exchange.known exchange.line exchange.statement exchange.reply
      → IsLeftBy device exchange s s' → AreCaused device (exchanges ++ exchange ∷ []) opened s'
  caused_push [] exchange opened s s' h c l = (
    s',
    subst (λ z. IsCaused device z s' exchange.known exchange.line exchange.statement exchange.reply) h c,
    subst (λ z. IsLeftBy device exchange z s') h l,
    refl,
  )
  caused_push (r ∷ exchanges) exchange opened s s' h c l =
      (h.0, h.1, h.2, caused_push exchanges exchange h.0 s s' h.3 c l)

  pub seen_push : (history commits : History) (exchanges : List Exchange) (exchange : Exchange)
      (opened s s' : DbValue D)
      → (chain : AreCaused device exchanges opened s)
      → (c : IsCaused device s s' exchange.known exchange.line exchange.statement exchange.reply)
      → (l : IsLeftBy device exchange s s') → AreSeenIn device history commits exchanges opened s chain
      → IsSeenIn device history commits exchange s s'
      → AreSeenIn device history commits (exchanges ++ exchange ∷ []) opened s'
      (caused_push exchanges exchange opened s s' chain c l)
  unfolding caused_push
  seen_push history commits [] exchange opened s s' chain c l h seen =
      (subst (λ z. IsSeenIn device history commits exchange z s') chain seen, tt)
  seen_push history commits (r ∷ exchanges) exchange opened s s' chain c l h seen =
      (h.0, seen_push history commits exchanges exchange chain.0 s s' chain.3 c l h.1 seen)

  -- commits that come later change nothing
  seen_still : (history commits more : History) (low : ℕ) (exchange : Exchange) (s s' : DbValue D)
      → IsWithin low (length commits) exchange.note → IsSeenIn device history commits exchange s s'
      → IsSeenIn device history (commits ++ more) exchange s s'
  seen_still history commits more low exchange s s' within l = record {
    saw = subst (StandsFor device history s)
        (sym (take-append-le exchange.note.snapshot commits more within.high_is)) l.saw;
    stored = λ ok. if_both exchange.note.commit (λ p. (exchange.note.snapshot ≤ p) × (p < length commits))
        (λ p. StandsFor device history s' (take (p + 1) commits))
        (λ p. StandsFor device history s' (take (p + 1) (commits ++ more)))
        (λ p w k. subst (StandsFor device history s')
        (sym (take-append-le (p + 1) commits more (omega (arith, w.1)))) k)
        within.own (l.stored ok);
  }

  pub seen_more : (history commits more : History) (low : ℕ) (exchanges : List Exchange) (opened s : DbValue D)
      → (chain : AreCaused device exchanges opened s)
      → All (λ (r : Exchange). IsWithin low (length commits) r.note) exchanges
      → AreSeenIn device history commits exchanges opened s chain
      → AreSeenIn device history (commits ++ more) exchanges opened s chain
  seen_more history commits more low [] opened s chain within h = tt
  seen_more history commits more low (r ∷ exchanges) opened s chain within h = (
    seen_still history commits more low r opened chain.0
        (All-head (λ (x : Exchange). IsWithin low (length commits) x.note) r exchanges within) h.0,
    seen_more history commits more low exchanges chain.0 s chain.3
        (All-tail (λ (x : Exchange). IsWithin low (length commits) x.note) r exchanges within) h.1,
  )
