-- What a pass with the right of maintenance has seen stays so in calls that log nothing, where others' records keep it.
use Rattle.std.proofs.Common.{◌≡◌, ◌≢◌, ◌-◌, ◌≤◌, ℕ, zero, suc, List, [], ◌∷◌, ◌++◌, length, take, drop, refl, sym}
use Rattle.std.proofs.Common.{ap, subst, ◌∙◌, arith, length-append, None, Some}
use Rattle.std.proofs.lemmas.List.{drop-append-le, take-append-drop}
use Rattle.disk_trait.specs.declared.device.Disk.{Ghosts as Disk}
use Rattle.core_state.specs.Log.{Log, Pages, Shows, cut}
use Rattle.core_state.specs.Allowed.{Sheet, View, IsAllowed, AreOthers}
use Rattle.core_state.specs.Legal.{IsLegal}
use Rattle.core_state.specs.Steady.{IndexStays, EndsStay}
use Rattle.core_state.proofs.Showing.{shown_one}
use Rattle.core_state.proofs.Steps.Seen.{seen_legal, seen_shown, steady_facts}
use Rattle.core_maintenance.specs.Right as maintenance
use Rattle.core_maintenance.specs.Staying.{FoundStays}
use Rattle.core_maintenance.proofs.Right.{index_stays}
use Rattle.core_maintenance.proofs.Found.{right_keeps_found}
use Rattle.buffer_frames.specs.Frames.{FramesValue, Stands}
use Rattle.buffer_frames.specs.Passes.{IsPassOf, IsHolding, HasAdded, PassRises, Seen, view_of}
use Rattle.buffer_frames.specs.declared.pass.Pass.{Pass}
use Rattle.buffer_frames.proofs.AtHand.{cut_length, log_length}
use Rattle.buffer_frames.proofs.FirstLogs.{shown_by}
use Rattle.buffer_frames.proofs.Begun.{same_by_none}
use Rattle.buffer_frames.proofs.HistoryParts.{legal_before}
use Rattle.gin_place.specs.Placing.{HasRight}

-- What stays over records of others: the first log is legal and isn't empty, and so is the second, which goes on after
-- it; with their pages.
pub record StaysOn (S S' : Log) (P Q : Pages) : Type 0 where
  pub later : Log
  pub goes_on : S' ≡ later ++ S
  pub some : S ≢ []
  pub legal : IsLegal S
  pub legal_then : IsLegal S'
  pub shown : Shows S P
  pub shown_then : Shows S' Q
  pub index : IndexStays S S' P Q
  pub ends : EndsStay S S'
  pub found : FoundStays P Q

-- a session with the right that has seen so much, holds nothing and has nothing else
abbrev pub view_right_of : Log → (at : ℕ) → View
view_right_of S at = record {
  seen = S;
  pin = None;
  floor = 0;
  since = 0;
  from = 0;
  readings = [];
  held = [];
  xids = [];
  begun = [];
  work = Some at;
}

others_less : (v : View) (n : ℕ) (later : Log) → AreOthers v later → AreOthers v (drop n later)
others_less v zero later o = o
others_less v (suc n) [] o = tt
others_less v (suc n) (r ∷ later) o = others_less v n later o.1

others_of : (v : View) (S : Log) (at : ℕ) → v.work ≡ Some at → (later : Log) → AreOthers v later
    → AreOthers (view_right_of S at) later
others_of v S at has [] o = tt
others_of v S at has (r ∷ later) o = (
  record {
    not_own = λ none. none;
    not_all = λ some. absurd (some refl);
    not_work = λ n is. (o.0).not_work n (has ∙ is);
  },
  others_of v S at has later o.1,
)

-- a log that is cut after what was seen is one that others may have made of it
module _ (v : View) (R : Log) (a : IsAllowed v R) (at : ℕ) (has : v.work ≡ Some at) (n : ℕ) (within : length v.seen ≤ n)
    (most : n ≤ length R) where
  abbrev S' : Log
  S' = cut n R

  abbrev more : Log
  more = drop (length R - n) a.later

  parts : S' ≡ more ++ v.seen
  parts =
      ap (drop (length R - n)) a.goes_on
      ∙ drop-append-le (length R - n) a.later v.seen
      (omega (arith, within, most, ap length a.goes_on, length-append a.later v.seen))

  legal_cut : IsLegal S'
  legal_cut =
      legal_before (take (length R - n) R) S' (subst IsLegal (sym (take-append-drop (length R - n) R)) a.legal)

  pub allowed_cut : IsAllowed (view_right_of v.seen at) S'
  allowed_cut =
      let shown = shown_by S' legal_cut.valid in
      record {
        later = more;
        goes_on = parts;
        others = others_of v v.seen at has more (others_less v (length R - n) a.later a.others);
        legal = legal_cut;
        keeps = tt;
        pages = shown.0;
        shown = shown.1;
        held = tt;
        read = tt;
      }

  pub stays_cut : (P Q : Pages) → v.seen ≢ [] → at ≤ length v.seen → Shows v.seen P → Shows S' Q
      → StaysOn v.seen S' P Q
  stays_cut P Q some late shown shown_then =
      let w = view_right_of v.seen at in
      let r : maintenance.HasRight w = record { at = at; has = refl; within = late; started = some } in
      let same : allowed_cut.pages ≡ Q = shown_one S' allowed_cut.pages Q allowed_cut.shown shown_then in
      record {
        later = more;
        goes_on = parts;
        some = some;
        legal = seen_legal v R a;
        legal_then = legal_cut;
        shown = shown;
        shown_then = shown_then;
        index = subst (λ (X : Pages). IndexStays v.seen S' P X) same (index_stays w S' allowed_cut P shown r);
        ends = (steady_facts w S' allowed_cut P shown some).ends_stay;
        found = subst (λ (X : Pages). FoundStays P X) same (right_keeps_found w S' allowed_cut P r shown);
      }

-- a log that is allowed to a session with the right
pub stays_allowed : (v : View) (R : Log) (a : IsAllowed v R) (P : Pages) → maintenance.HasRight v → Shows v.seen P
    → StaysOn v.seen R P a.pages
stays_allowed v R a P right shown = record {
  later = a.later;
  goes_on = a.goes_on;
  some = right.started;
  legal = seen_legal v R a;
  legal_then = a.legal;
  shown = shown;
  shown_then = a.shown;
  index = index_stays v R a P shown right;
  ends = (steady_facts v R a P shown right.started).ends_stay;
  found = right_keeps_found v R a P right shown;
}

module _ {D : Type 0} (device : Disk D) (f g : FramesValue D) (p q : Pass) (held : List Sheet)
    (hold : IsHolding device f p held) (was : IsPassOf f p) (right : HasRight p) (added : HasAdded device f g [])
    (rises : PassRises p q) (of : IsPassOf g q) where
  -- what was seen is so still, where it stays over records of others
  pub seen_on : (X Y : Log → Pages → Type 0)
      → ((S S' : Log) (P Q : Pages) → StaysOn S S' P Q → X S P → Y S' Q) → Seen device f p X → Seen device g q Y
  seen_on X Y stay seen t up R stands legal Q shown =
      let back = added.back t up R stands in
      let same : back.0 ≡ R = sym (same_by_none f.journal.owes back.0 R back.2) in
      let before : Stands device f R = subst (Stands device f) same back.1 in
      let up_then = added.was_up up in
      let a = hold.allowed t up_then R before legal in
      let v = view_of f p R held in
      let long : g.journal.state.records ≡ length R = log_length device g.journal R stands.journal in
      let size : length (cut p.seen R) ≡ p.seen = cut_length p.seen R (omega (arith, rises.seen, of.seen, long)) in
      let S = seen_shown v R a in
      let all = stays_cut v R a right.at right.has q.seen (omega (arith, size, rises.seen))
      (omega (arith, of.seen, long))
      S.0 Q (λ e. omega (arith, was.some, size, ap length e)) (omega (arith, size, right.within)) S.1 shown in
      stay (cut p.seen R) (cut q.seen R) S.0 Q all (seen t up_then R before legal S.0 S.1)
