-- What a step of placing leaves.
use Rattle.std.proofs.Common.{◌≡◌, ◌↔◌, ◌≤◌, ℕ, List, [], ◌∷◌, length, drop, refl, sym, ap, subst, ◌∙◌}
use Rattle.std.proofs.Common.{inl, inr, arith, Bool, true, false, Result, Ok, Err}
use Rattle.std.specs.Prelude.{Option, Some, None}
use Rattle.disk_trait.specs.declared.device.Disk.{Ghosts as Disk}
use Rattle.page_types.specs.Items.{AreItems}
use Rattle.page_types.specs.Keys.{IsKey}
use Rattle.page_types.specs.Pages.{IsPage}
use Rattle.wal.specs.Waiting.{down_of}
use Rattle.ts_base.specs.Keys.{Key}
use Rattle.core_state.specs.Allowed.{Sheet}
use Rattle.core_state.specs.Legal.{IsLegal}
use Rattle.core_state.specs.Log.{Log}
use Rattle.page_space.specs.Taking.{HasNoPage}
use Rattle.buffer_frames.specs.Frames.{FramesValue, Behind}
use Rattle.buffer_frames.specs.Passes.{IsHolding, Seen}
use Rattle.buffer_frames.specs.declared.pass.Pass.{Pass}
use Rattle.buffer_frames.proofs.Begun.{same_by_none}
use Rattle.gin_place.specs.Trees.{root_of, tree_of}
use Rattle.gin_place.specs.Placing.{HasRight, IsNext, IsOnWay, ArePending, ArePlaced, AreFirstPlaced, IsAt, AreLeft}
use Rattle.gin_place.specs.Placing.{HasRoomAbove, IsPlacing}
use Rattle.gin_place.specs.Going.{WorksOn}
use Rattle.gin_place.specs.Causes.{Finds, IsBad, HadPage, NoBadPage, IsWhy}
use Rattle.gin_place.specs.Faults.{MetNoFault, FaultBy}
use Rattle.gin_place.specs.Stepping.{HasRested, IsNearer, TakesPage, HasStepped}
use Rattle.gin_place.specs.Holding.{ReadsOn}
use Rattle.gin_place.specs.Inner.Stepping.{HoldsAt, stage_from, has_some, Seeks, adding_kind}
use Rattle.gin_place.specs.declared.error.PlaceError.{PlaceError}
use Rattle.gin_place.specs.declared.placing.Placing.{Placing}
use Rattle.gin_place.specs.declared.placing.Stage.{Stage}
use Rattle.gin_place.specs.declared.placing.Stage.TheVariants as stage
use Rattle.gin_place.specs.declared.sought.Sought.{Sought}
use Rattle.gin_place.specs.declared.sought.Sought.TheVariants as sought
use Rattle.gin_place.proofs.Carrying.{works_in_turn, right_on}
use Rattle.gin_place.proofs.Causing.{meets_after, finds_after, lawful_before}
use Rattle.gin_place.proofs.Faults.{fine_then, told_then}
use Rattle.gin_place.proofs.Kept.{placing_still, pending_still, placed_still}
use Rattle.gin_place.proofs.Remaining.{none_dropped}

pub true_false : true ≡ false → ⊥
true_false e = cc

pub not_done : (t : Sought) (parent page : ℕ) → stage.At t parent page ≡ stage.Done → ⊥
not_done t parent page e = cc

-- a record of such a kind takes no page
no_page : (k n : ℕ) → (k ≡ 13) × (k ≡ n) → TakesPage n → ⊥
no_page k n same (inl e) = omega (arith, same.0, same.1, e)
no_page k n same (inr (inl e)) = omega (arith, same.0, same.1, e)
no_page k n same (inr (inr e)) = omega (arith, same.0, same.1, e)

no_page_either : (k n : ℕ) → (k ≡ 15) × (k ≡ n) → TakesPage n → ⊥
no_page_either k n same (inl e) = omega (arith, same.0, same.1, e)
no_page_either k n same (inr (inl e)) = omega (arith, same.0, same.1, e)
no_page_either k n same (inr (inr e)) = omega (arith, same.0, same.1, e)

-- ── a way begins ──

module _ {D : Type 0} (device : Disk D) (g : FramesValue D) (q : Pass) (k : Key) (items : List ℕ) where
  -- the root of the tree is on the way for what is sought there
  abbrev pub AreWays : Option ℕ → Type 0
  AreWays tree = (s : Sought) → tree_of s ≡ tree → IsOnWay device g q k s (root_of s)

  done_placing : (new : Placing) → new.stage ≡ stage.Done → ArePlaced device g q k items
      → AreFirstPlaced device g q k items new.from → IsPlacing device g q k items new
  done_placing new is all first = (
    subst (IsAt device g q k items new.from) (sym is) all,
    subst (λ (s : Stage). AreLeft device g q k s new.left) (sym is) tt,
    subst (HasRoomAbove device g q k new.making_room) (sym is) tt,
    first,
  )

  root_placing : (new : Placing) (s : Sought) → new.stage ≡ stage.At s 0 (root_of s) → IsNext items new.from s
      → IsOnWay device g q k s (root_of s) → new.left ≡ None → AreFirstPlaced device g q k items new.from
      → IsPlacing device g q k items new
  root_placing new s is next way left first = (
    subst (IsAt device g q k items new.from) (sym is) (next, way),
    subst (λ (x : Stage). AreLeft device g q k x new.left) (sym is)
        (subst (AreLeft device g q k (stage.At s 0 (root_of s))) (sym left) refl),
    subst (HasRoomAbove device g q k new.making_room) (sym is) (λ making other. absurd (other refl)),
    first,
  )

  -- and whether it is at the end
  abbrev pub IsBegun : Placing → Bool → Type 0
  IsBegun new b = IsPlacing device g q k items new × ((b ≡ false) ↔ (new.stage ≡ stage.Done))

  at_end : (from : ℕ) (new : Placing) (b : Bool) → drop from items ≡ [] → b ≡ false → new.stage ≡ stage.Done
      → new.from ≡ from → AreFirstPlaced device g q k items from → IsBegun new b
  at_end from new b none more is same first =
      let all = subst (ArePlaced device g q k) (none_dropped from items none) first.1 in (
        done_placing new is all (subst (AreFirstPlaced device g q k items) (sym same) first),
        (λ e. is, λ e. more),
      )

  at_root_of : (from : ℕ) (new : Placing) (b : Bool) (s : Sought) → IsNext items from s → b ≡ true
      → new.stage ≡ stage.At s 0 (root_of s) → new.left ≡ None → new.from ≡ from
      → IsOnWay device g q k s (root_of s) → AreFirstPlaced device g q k items from → IsBegun new b
  at_root_of from new b s next more is left same way first = (
    root_placing new s is (subst (λ (n : ℕ). IsNext items n s) (sym same) next) way left
        (subst (AreFirstPlaced device g q k items) (sym same) first),
    (λ e. absurd (true_false (sym more ∙ e)), λ e. absurd (not_done s 0 (root_of s) (sym is ∙ e))),
  )

  begins : (from : ℕ) (new : Placing) (b : Bool) (tree : Option ℕ) (rest : List ℕ) → drop from items ≡ rest
      → b ≡ has_some rest → new.stage ≡ stage_from tree rest → (b ≡ true → new.left ≡ None) → new.from ≡ from
      → AreFirstPlaced device g q k items from → AreWays tree → IsBegun new b
  begins from new b None [] e more is left same first ways = at_end from new b e more is same first
  begins from new b (Some root) [] e more is left same first ways = at_end from new b e more is same first
  begins from new b None (i ∷ rest) e more is left same first ways =
      at_root_of from new b sought.Key tt more is (left more) same (ways sought.Key refl) first
  begins from new b (Some root) (i ∷ rest) e more is left same first ways =
      at_root_of from new b (sought.Item root i) (rest, e) more is (left more) same (ways (sought.Item root i) refl)
      first

  pub begun : (mid new : Placing) (b : Bool) (tree : Option ℕ) → Seeks tree items mid new b
      → AreFirstPlaced device g q k items mid.from → AreWays tree → IsBegun new b
  begun mid new b tree seeks first ways =
      begins mid.from new b tree (drop mid.from items) refl seeks.0 seeks.1 seeks.2 seeks.3 first ways

-- ── what a step leaves ──

module _ {D : Type 0} (device : Disk D) (f : FramesValue D) (p : Pass) (k : Key) (items : List ℕ) (old : Placing) where
  -- why it is refused
  abbrev pub Why : FramesValue D → PlaceError → Type 0
  Why l e = Finds device f p (IsWhy device (IsBad device k old) l e)

  -- whether it rests where all items are under the key
  abbrev pub Standing : FramesValue D → Pass → Placing → Result Bool PlaceError → Type 0
  Standing g q new r = ArePlaced device f p k items → old.making_room ≡ false
      → Behind device f (λ (R : Log). HasRested device f p g q new r)

  -- and that a new page was left where one is taken
  abbrev pub Took : List ℕ → Type 0
  Took ks = (kind : ℕ) → TakesPage kind → ks ≡ kind ∷ [] → HadPage device f p

  pub none_took : Took []
  none_took kind takes e = absurd (let z : ⊥ = cc in z)

  pub adding_took : (t : Sought) → Took (adding_kind t ∷ [])
  adding_took sought.Key kind takes e = let same : 13 ≡ kind = cc in absurd (no_page 13 kind (refl, same) takes)
  adding_took (sought.Item root item) kind takes e =
      let same : 15 ≡ kind = cc in absurd (no_page_either 15 kind (refl, same) takes)

  -- where nothing was logged it does
  pub rested : (g : FramesValue D) (q : Pass) (new : Placing) (b : Bool) → WorksOn device f p g q []
      → down_of g.journal.wal ≡ down_of f.journal.wal → new.making_room ≡ old.making_room → Standing g q new (Ok b)
  rested g q new b works down same placed first t up R stands legal =
      record { works = works; first = same ∙ first; up = down ∙ up }

  -- where room is to be made, none is said
  pub makes : (g : FramesValue D) (q : Pass) (new : Placing) (r : Result Bool PlaceError) → old.making_room ≡ true
      → Standing g q new r
  makes g q new r making placed first = absurd (true_false (sym making ∙ first))

  -- and what is not so in a legal log need not be
  pub never : (ArePlaced device f p k items → Behind device f (λ (R : Log). ⊥)) → (g : FramesValue D) (q : Pass)
      (new : Placing) (r : Result Bool PlaceError) → Standing g q new r
  never off g q new r placed first t up R stands legal = absurd (off placed t up R stands legal)

  -- a refusal
  pub refused : (g : FramesValue D) (q : Pass) (e : PlaceError) (new : Placing) → ReadsOn device f p g q
      → q.held ≡ 0 → IsPlacing device f p k items old → new ≡ old → Why g e → NoBadPage device f e
      → FaultBy device f g e → HasStepped device f p g q k items old new (Err e)
  refused g q e new reads none was same why lawful told = record {
    placing = subst (IsPlacing device g q k items) (sym same) (placing_still device f g p q reads k items old was);
    done = tt;
    none_held = none;
    works = ([], omega arith, reads.works);
    refused = reads.works;
    unmoved = same;
    cause = why;
    lawful = lawful;
    standing = λ placed first t up R stands legal. record {
      works = reads.works;
      first = ap (λ (s : Placing). s.making_room) same ∙ first;
      up = tt;
    };
    lower = tt;
    fine = tt;
    fault = told;
    took = tt;
  }

  -- a page was read, or a record logged
  pub answered : (g : FramesValue D) (q : Pass) (ks : List ℕ) (new : Placing) (b : Bool) → length ks ≤ 1
      → WorksOn device f p g q ks → q.held ≡ 0 → IsBegun device g q k items new b → Standing g q new (Ok b)
      → (b ≡ true → IsNearer f g items old new) → MetNoFault device f g → Took ks
      → HasStepped device f p g q k items old new (Ok b)
  answered g q ks new b few works none is standing nearer fine took = record {
    placing = is.0;
    done = is.1;
    none_held = none;
    works = (ks, few, works);
    refused = tt;
    unmoved = tt;
    cause = tt;
    lawful = tt;
    standing = standing;
    lower = nearer;
    fine = fine;
    fault = tt;
    took = took;
  }

-- ── a page was held before ──

module _ {D : Type 0} (device : Disk D) (f g h : FramesValue D) (p q r : Pass) (works : WorksOn device f p g q [])
    (fine : MetNoFault device f g) (k : Key) (items : List ℕ) (old new : Placing) where
  rested_then : (x : Result Bool PlaceError) → Standing device g q k items old h r new x
      → Standing device f p k items old h r new x
  rested_then x standing placed first t up R stands legal =
      let on = works.added.on R stands in
      let same : on.0 ≡ R = same_by_none f.journal.owes R on.0 on.2 in
      let now = standing (placed_still device f g p q [] works k items placed) first t (fine.down ∙ up) on.0 on.1
      (subst IsLegal (sym same) legal) in
      record {
        works = works_in_turn device f g h p q r [] [] works now.works;
        first = now.first;
        up = now.up;
      }

  nearer_then : IsNearer g h items old new → IsNearer f h items old new
  nearer_then (inl more) =
      let same : g.journal.state.records ≡ f.journal.state.records = works.goes.records in
      inl (omega (arith, more, same))
  nearer_then (inr fewer) = inr (fewer.0 ∙ works.goes.records, fewer.1)

  -- what the rest of a step leaves the step does
  pub stepped_after : (x : Result Bool PlaceError) → HasStepped device g q h r k items old new x
      → HasStepped device f p h r k items old new x
  stepped_after (Ok b) s = record {
    placing = s.placing;
    done = s.done;
    none_held = s.none_held;
    works = (
      s.works.0,
      s.works.1,
      works_in_turn device f g h p q r [] s.works.0 works s.works.2,
    );
    refused = tt;
    unmoved = tt;
    cause = tt;
    lawful = tt;
    standing = rested_then (Ok b) s.standing;
    lower = λ more. nearer_then (s.lower more);
    fine = fine_then device f g h fine s.fine;
    fault = tt;
    took = λ kind takes is. meets_after device f g p q []
        (λ (x : FramesValue D) (y : Pass). HasNoPage x.journal.state y.since → ⊥) works (s.took kind takes is);
  }
  stepped_after (Err e) s = record {
    placing = s.placing;
    done = tt;
    none_held = s.none_held;
    works = ([], omega arith, works_in_turn device f g h p q r [] [] works s.refused);
    refused = works_in_turn device f g h p q r [] [] works s.refused;
    unmoved = s.unmoved;
    cause = finds_after device f g p q (IsWhy device (IsBad device k old) h e) works fine s.cause;
    lawful = lawful_before device f g p q works fine e s.lawful;
    standing = rested_then (Err e) s.standing;
    lower = tt;
    fine = tt;
    fault = told_then device f g h e fine s.fault;
    took = tt;
  }

-- the page that is read next is held
pub holds_at : {D : Type 0} (device : Disk D) (f g : FramesValue D) (p q : Pass) → ReadsOn device f p g q → HasRight p
    → (k : Key) (items : List ℕ) (s : Placing) (t : Sought) (parent page : ℕ) (h : Sheet)
    → IsHolding device g q (h ∷ []) → Seen device g q (λ S P. P h.page ≡ h.content) → h.page ≡ page
    → IsPage h.content → IsKey k → AreItems items → ArePending device f p k items → s.stage ≡ stage.At t parent page
    → IsPlacing device f p k items s → HoldsAt device g q k items s t parent page h
holds_at device f g p q reads right k items s t parent page h holding seen number is key are rows at placing = record {
  is_pass = reads.works.is_pass;
  right = right_on device f g p q [] right reads.works;
  holding = holding;
  seen = subst (λ (n : ℕ). Seen device g q (λ S P. P n ≡ h.content)) number seen;
  number = number;
  is_page = is;
  is_key = key;
  are_items = are;
  rows = pending_still device f g p q [] reads.works k items rows;
  at = at;
  placing = placing_still device f g p q reads k items s placing;
}
