-- What a pass with the right of maintenance has found is so still in calls that log nothing.
use Rattle.std.proofs.Common.{◌<◌, ◌≡◌, ◌≤◌, ◌+◌, ◌-◌, ℕ, List, [], ◌∷◌, ◌++◌, length, drop, refl, sym, ap, subst}
use Rattle.std.proofs.Common.{◌∙◌, arith, length-drop, drop-drop}
use Rattle.std.specs.List.{AllByRecursion}
use Rattle.disk_trait.specs.declared.device.Disk.{Ghosts as Disk}
use Rattle.ts_base.specs.Keys.{Key}
use Rattle.page_types.specs.declared.page.Page.{Page}
use Rattle.core_state.specs.Log.{Log, Pages, Shows, cut}
use Rattle.core_state.specs.Allowed.{Sheet}
use Rattle.core_state.specs.Index.{Pending, Main, IsNamed}
use Rattle.core_state.specs.TreeRules.{IsRoot}
use Rattle.core_state.specs.States.{StateTells}
use Rattle.core_state.specs.Steps.{IsNewSheet}
use Rattle.page_space.specs.Taking.{IsTaken, TakenIsNew}
use Rattle.core_state.proofs.Showing.{shown_one}
use Rattle.core_state.proofs.Steps.Seen.{seen_shown}
use Rattle.core_maintenance.specs.Right as maintenance
use Rattle.core_maintenance.specs.Staying.{FoundStays, RightKeepsFound}
use Rattle.buffer_frames.specs.Frames.{FramesValue, Stands}
use Rattle.buffer_frames.specs.Passes.{IsPassOf, IsHolding, HasAdded, PassRises, Seen, SeesOn, view_of}
use Rattle.buffer_frames.specs.declared.pass.Pass.{Pass}
use Rattle.buffer_frames.proofs.Added.{added_in_turn, on_by_none}
use Rattle.buffer_frames.proofs.AtHand.{cut_length, cut_whole, log_length}
use Rattle.buffer_frames.proofs.Begun.{same_by_none}
use Rattle.gin_place.specs.Running.{StoreGoesOn}
use Rattle.gin_place.specs.Trees.{root_of, HasRoomIn, GoesDown, Leads, IsHighIn}
use Rattle.gin_place.specs.Placing.{HasRight, IsRootOf, IsLeft, IsRoomAbove}
use Rattle.gin_place.specs.Going.{IsPlacingKind, KeepsPairs, KeepsTrees, KeepsWays, WorksOn}
use Rattle.gin_place.specs.declared.sought.Sought.{Sought}
use Rattle.gin_place.proofs.TreeWays.{leads_then, high_then, same_then}
use Rattle.gin_place.proofs.Running.{goes_still, goes_in_turn}
use Rattle.gin_place.specs.Holding.{ReadsOn, HoldsNoMore, IsNewHeld}

-- a log cut twice
pub cut_cut : (n m : ℕ) (R : Log) → n ≤ m → m ≤ length R → cut n (cut m R) ≡ cut n R
cut_cut n m R le most =
    drop-drop (length (cut m R) - n) (length R - m) R
    ∙ ap (λ (k : ℕ). drop k R)
    (let e : length R - m + (length (cut m R) - n) ≡ length R - n =
    omega (arith, length-drop (length R - m) R, le, most) in e)

-- the right of a pass, as its view has it
pub view_right : {D : Type 0} (f : FramesValue D) (p : Pass) (S : Log) (held : List Sheet) → HasRight p → 0 + 1 ≤ p.seen
    → p.seen ≤ length S → maintenance.HasRight (view_of f p S held)
view_right f p S held right some within = record {
  at = right.at;
  has = right.has;
  within = omega (arith, right.within, cut_length p.seen S within);
  started = λ none. omega (arith, some, cut_length p.seen S within, ap length none);
}

module _ {D : Type 0} (device : Disk D) (law : RightKeepsFound) (f g : FramesValue D) (p q : Pass)
    (was : IsPassOf f p) (right : HasRight p) (added : HasAdded device f g []) (sees : SeesOn device g p q)
    (rises : PassRises p q) (of : IsPassOf g q) where
  -- what the pass had seen, by the log that it has seen now
  pub seen_then : (X : Log → Pages → Type 0) → Seen device f p X
      → Seen device g q (λ (S : Log) (Q : Pages). (P : Pages) → Shows (cut p.seen S) P → X (cut p.seen S) P)
  seen_then X seen t up R stands legal Q shown P before =
      let back = added.back t up R stands in
      let same : back.0 ≡ R = sym (same_by_none f.journal.owes back.0 R back.2) in
      let long = log_length device g.journal R stands.journal in
      let cuts : cut p.seen (cut q.seen R) ≡ cut p.seen R =
      cut_cut p.seen q.seen R rises.seen (omega (arith, of.seen, long)) in
      subst (λ (S : Log). X S P) (sym cuts)
      (seen t (added.was_up up) R (subst (Stands device f) same back.1) legal P
      (subst (λ (S : Log). Shows S P) cuts before))

  -- what was found of the index is so still
  pub found_then : (X : Pages → Type 0) → ((P Q : Pages) → FoundStays P Q → X P → X Q)
      → Seen device f p (λ S P. X P) → Seen device g q (λ S P. X P)
  found_then X stay seen t up R stands legal Q shown =
      let S : Log = cut q.seen R in
      let v = view_of g p S [] in
      let a = sees t up R stands legal Q shown in
      let P = seen_shown v S a in
      let long = log_length device g.journal R stands.journal in
      let size : length S ≡ q.seen = cut_length q.seen R (omega (arith, of.seen, long)) in
      let had = seen_then (λ S P. X P) seen t up R stands legal Q shown P.0 P.1 in
      let r : maintenance.HasRight v =
      view_right g p S [] right (omega (arith, was.some)) (omega (arith, size, rises.seen)) in
      subst X (shown_one S a.pages Q a.shown shown) (stay P.0 a.pages (law v S a P.0 r P.1) had)

  pub keeps_pairs : KeepsPairs device f p g q
  keeps_pairs = record {
    pending = λ k i. found_then (λ P. Pending P k i) (λ P Q s. s.pending k i);
    placed = λ k i. found_then (λ P. Main P k i) (λ P Q s. s.main k i);
  }

  keeps_trees : KeepsTrees device f p g q
  keeps_trees k root = found_then (λ P. IsNamed P k root) (λ P Q s. s.named k root)

  pub keeps_ways : KeepsWays device f p g q
  keeps_ways k t n = found_then (λ P. Leads P k t n) (λ P Q s. leads_then P Q s k t n)

  keeps_left : (k : Key) (t : Sought) (page n : ℕ) → IsLeft device f p k t page n → IsLeft device g q k t page n
  keeps_left k t page n =
      found_then (λ P. Leads P k t page × (h : ℕ) × IsHighIn P t h page × (h < n))
      (λ P Q s x. (leads_then P Q s k t page x.0, x.1, high_then P Q s k t page x.1 x.0 x.2, x.3))

  keeps_roots : (t : Sought) → IsRootOf device f p t → IsRootOf device g q t
  keeps_roots t = found_then (λ P. IsRoot P (root_of t)) (λ P Q s. s.roots (root_of t))

  keeps_above : (k : Key) (t : Sought) (parent page : ℕ) → IsRoomAbove device f p k t parent page
      → IsRoomAbove device g q k t parent page
  keeps_above k t parent page =
      found_then
      (λ P. Leads P k t parent × GoesDown k t (P parent) page × HasRoomIn t (P parent))
      (λ P Q s x. (
        leads_then P Q s k t parent x.0,
        subst (λ (c : Page). GoesDown k t c page) (sym (same_then P Q s k t parent x.0)) x.1,
        subst (HasRoomIn t) (sym (same_then P Q s k t parent x.0)) x.2,
      ))

  pub reads_by : q.pin ≡ p.pin → q.room ≡ p.room → q.xid ≡ p.xid → q.work ≡ p.work → g.pins ≡ f.pins
      → StoreGoesOn device f g [] → ReadsOn device f p g q
  reads_by pin room xid work pins goes = record {
    works = record {
      is_pass = of;
      added = added;
      placing = tt;
      pairs = keeps_pairs;
      trees = keeps_trees;
      rises = rises;
      pin = pin;
      room = room;
      xid = xid;
      work = work;
      pins = pins;
      goes = goes;
    };
    ways = keeps_ways;
    left = keeps_left;
    roots = keeps_roots;
    above = keeps_above;
  }

module _ {D : Type 0} (device : Disk D) where
  -- the right stays
  pub right_on : (f g : FramesValue D) (p q : Pass) (ks : List ℕ) → HasRight p → WorksOn device f p g q ks → HasRight q
  right_on f g p q ks right w = record {
    at = right.at;
    has = w.work ∙ right.has;
    within = omega (arith, right.within, w.rises.seen);
  }

  pub rises_on : (p q r : Pass) → PassRises p q → PassRises q r → PassRises p r
  rises_on p q r x y = record {
    seen = omega (arith, x.seen, y.seen);
    shown = omega (arith, x.shown, y.shown);
    floor = omega (arith, x.floor, y.floor);
    since = omega (arith, x.since, y.since);
  }

  -- calls one after another
  pub works_in_turn : (f g h : FramesValue D) (p q r : Pass) (xs ys : List ℕ) → WorksOn device f p g q xs
      → WorksOn device g q h r ys → WorksOn device f p h r (xs ++ ys)
  works_in_turn f g h p q r xs ys x y = record {
    is_pass = y.is_pass;
    added = added_in_turn device f g h xs ys x.added y.added;
    placing = both xs x.placing;
    pairs = record {
      pending = λ k i had. y.pairs.pending k i (x.pairs.pending k i had);
      placed = λ k i had. y.pairs.placed k i (x.pairs.placed k i had);
    };
    trees = λ k root had. y.trees k root (x.trees k root had);
    rises = rises_on p q r x.rises y.rises;
    pin = y.pin ∙ x.pin;
    room = y.room ∙ x.room;
    xid = y.xid ∙ x.xid;
    work = y.work ∙ x.work;
    pins = y.pins ∙ x.pins;
    goes = goes_in_turn device f g h xs ys x.added x.goes y.goes;
  }
    where
      both : (zs : List ℕ) → AllByRecursion IsPlacingKind zs → AllByRecursion IsPlacingKind (zs ++ ys)
      both [] a = y.placing
      both (z ∷ zs) a = (a.0, both zs a.1)

  pub reads_in_turn : (f g h : FramesValue D) (p q r : Pass) → ReadsOn device f p g q → ReadsOn device g q h r
      → ReadsOn device f p h r
  reads_in_turn f g h p q r x y = record {
    works = works_in_turn f g h p q r [] [] x.works y.works;
    ways = λ k t n had. y.ways k t n (x.ways k t n had);
    left = λ k t page n had. y.left k t page n (x.left k t page n had);
    roots = λ t had. y.roots t (x.roots t had);
    above = λ k t parent page had. y.above k t parent page (x.above k t parent page had);
  }

  -- nothing is done
  pub reads_still : (f : FramesValue D) (p : Pass) → IsPassOf f p → HasAdded device f f [] → ReadsOn device f p f p
  reads_still f p of added = record {
    works = record {
      is_pass = of;
      added = added;
      placing = tt;
      pairs = record { pending = λ k i had. had; placed = λ k i had. had };
      trees = λ k root had. had;
      rises = record { seen = omega arith; shown = omega arith; floor = omega arith; since = omega arith };
      pin = refl;
      room = refl;
      xid = refl;
      work = refl;
      pins = refl;
      goes = goes_still device f added;
    };
    ways = λ k t n had. had;
    left = λ k t page n had. had;
    roots = λ t had. had;
    above = λ k t parent page had. had;
  }

  pub no_more_in_turn : (f g h : FramesValue D) (p q r : Pass) → HoldsNoMore device f p g q
      → HoldsNoMore device g q h r → HoldsNoMore device f p h r
  no_more_in_turn f g h p q r x y = record {
    holding = λ held has. y.holding held (x.holding held has);
    held = y.held ∙ x.held;
  }

  -- one that is held is as the log shows it, all of which the pass has seen
  pub held_seen : (f : FramesValue D) (p : Pass) (h : Sheet) (held : List Sheet) → IsHolding device f p (h ∷ held)
      → p.seen ≡ f.journal.state.records → Seen device f p (λ S P. P h.page ≡ h.content)
  held_seen f p h held hold all t up R stands legal P shown =
      let a = hold.allowed t up R stands legal in
      let whole : cut p.seen R ≡ R = cut_whole p.seen R (all ∙ log_length device f.journal R stands.journal) in
      subst (λ (Q : Pages). Q h.page ≡ h.content)
      (shown_one R a.pages P a.shown (subst (λ (S : Log). Shows S P) whole shown)) (a.held).0

  -- one that is taken is a new one
  pub new_held : TakenIsNew → (f : FramesValue D) (p : Pass) (h : Sheet) (held : List Sheet)
      → IsHolding device f p (h ∷ held) → p.seen ≡ f.journal.state.records → IsTaken f.journal.state p.since h.page
      → Seen device f p (λ S P. StateTells S f.journal.state) → IsNewHeld device f p h
  new_held law f p h held hold all taken tells t up R stands legal P shown =
      subst (IsNewSheet P p.since h.page) (held_seen f p h held hold all t up R stands legal P shown)
      (law (cut p.seen R) P f.journal.state p.since h.page (tells t up R stands legal P shown) shown taken)

  -- nothing is logged where nothing is done
  pub same_added : (f : FramesValue D) → HasAdded device f f []
  same_added f = record {
    on = λ R s. (R, s, on_by_none f.journal.owes R);
    back = λ t up R s. (R, s, on_by_none f.journal.owes R);
    was_up = λ up. up;
    owes = refl;
    longer = omega arith;
  }

  pub no_more : (f g : FramesValue D) (p q : Pass)
      → ((held : List Sheet) → IsHolding device f p held → IsHolding device g q held) → q.held ≡ p.held
      → HoldsNoMore device f p g q
  no_more f g p q holding same = record { holding = holding; held = same }
