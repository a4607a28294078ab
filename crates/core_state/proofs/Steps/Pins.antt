-- Pins that are taken.
use Rattle.std.proofs.Common.{◌≡◌, ◌≤◌, ◌-◌, ℕ, [], ◌∷◌, length, drop, sym, ap, subst, arith}
use Rattle.core_state.specs.Log.{Log, commits, cut}
use Rattle.core_state.specs.Legal.{RecordsAreValid, Pin, KeepsEach}
use Rattle.core_state.specs.Allowed.{View, AreOthers}
use Rattle.core_state.specs.Logged.{LegalKeepsNow, FlushKeepsNow, pinned, PinIsTaken}
use Rattle.core_state.proofs.SteadyEnds.{commits_more}

pub whole_cut : (R : Log) → cut (length R) R ≡ R
whole_cut R = let e : length R - length R ≡ 0 = omega arith in ap (λ (m : ℕ). drop m R) e

-- a pin that is taken later asks no more of the records before it
pub kept_longer : (c n n' : ℕ) (R : Log) → length R ≤ n' → KeepsEach (record { commits = c; length = n }) R
    → KeepsEach (record { commits = c; length = n' }) R
kept_longer c n n' [] le k = tt
kept_longer c n n' (r ∷ R) le k =
    (kept_longer c n n' R (omega (arith, le)) k.0, k.1, λ late. absurd (omega (arith, le, late)))

-- nor does one with more commits
kept_higher : (c c' n : ℕ) (R : Log) → c ≤ c' → KeepsEach (record { commits = c; length = n }) R
    → KeepsEach (record { commits = c'; length = n }) R
kept_higher c c' n [] le k = tt
kept_higher c c' n (r ∷ R) le k = (
  kept_higher c c' n R le k.0,
  (k.1.0, omega (arith, le, k.1.1), k.1.2),
  λ late. let x = k.2 late in (x.0, omega (arith, le, x.1), x.2),
)

kept_valid : (c n : ℕ) (R : Log) → RecordsAreValid R → commits R ≤ c → length R ≤ n
    → KeepsEach (record { commits = c; length = n }) R
kept_valid c n [] v le short = tt
kept_valid c n (r ∷ R) v le short =
    let most = commits_more r.kind (commits R) in (
      kept_valid c n R v.0 (omega (arith, le, most)) (omega (arith, short)),
      (commits R, omega (arith, le, most), v.1),
      λ late. absurd (omega (arith, short, late)),
    )

pub legal_keeps_now : LegalKeepsNow
legal_keeps_now R legal = record {
  within = omega arith;
  counted = subst (λ (l : Log). commits R ≤ commits l) (sym (whole_cut R)) (omega arith);
  each = kept_valid (commits R) (length R) R legal.valid (omega arith) (omega arith);
}

pub flush_keeps_now : FlushKeepsNow
flush_keeps_now R flushed flushed' more most k = record {
  within = omega arith;
  counted = subst (λ (l : Log). flushed' ≤ commits l) (sym (whole_cut R)) most;
  each = kept_higher flushed flushed' (length R) R more k.each;
}

same_others : (v : View) (pin : Pin) (rs : Log) → AreOthers v rs → AreOthers (pinned v pin) rs
same_others v pin [] f = tt
same_others v pin (r ∷ rs) f = (
  record {
    not_own = f.0.not_own;
    not_all = f.0.not_all;
    not_work = f.0.not_work;
  },
  same_others v pin rs f.1,
)

pub pin_is_taken : PinIsTaken
pin_is_taken v pin R a k = record {
  later = a.later;
  goes_on = a.goes_on;
  others = same_others v pin a.later a.others;
  legal = a.legal;
  keeps = k;
  pages = a.pages;
  shown = a.shown;
  held = a.held;
  read = tt;
}
