-- From one key of a batch to the next.
use Rattle.std.proofs.Common.{◌≡◌, ◌≢◌, ◌⊎◌, ◌∷◌, ℕ, List, [], length, drop, refl, sym, ap, subst}
use Rattle.std.proofs.Common.{◌∙◌, inl, inr, arith}
use Rattle.std.specs.Prelude.{◌<◌, ◌↔◌, Vec}
use Rattle.std.specs.declared.alloc.Global.{Global}
use Rattle.disk_trait.specs.declared.device.Disk.{Ghosts as Disk}
use Rattle.page_types.specs.Keys.{IsKey}
use Rattle.page_types.specs.Numbers.{item_limit}
use Rattle.ts_base.specs.Keys.{Key}
use Rattle.core_state.specs.Log.{In}
use Rattle.core_state.proofs.PageLists.{in_front, in_back, in_either}
use Rattle.buffer_frames.specs.Frames.{FramesValue}
use Rattle.buffer_frames.specs.declared.pass.Pass.{Pass}
use Rattle.core_state.specs.Index.{Main}
use Rattle.gin_place.specs.Placing.{ArePlaced, IsPlacing}
use Rattle.gin_place.specs.Placing.{at_root}
use Rattle.gin_place.specs.declared.placing.Placing.{Placing}
use Rattle.gin_place.proofs.Kept.{begins_placing}
use Rattle.gin_cleanup.specs.Cleaning.{waits_under, waits_in, waits_of, IsAt, AreGone, IsCleaning}
use Rattle.gin_cleanup.specs.Gathered.{KeyItems, Has, GivesFirst}
use Rattle.gin_cleanup.specs.Gathering.{Wait, wait, IsBatch}
use Rattle.gin_cleanup.specs.Inner.Between.{IsBetween, HasNext}
use Rattle.gin_cleanup.specs.declared.cleanup.Cleanup.{Cleanup}
use Rattle.gin_cleanup.specs.declared.cleanup.Stage.{Stage}
use Rattle.gin_cleanup.specs.declared.cleanup.Stage.TheVariants as stage
use Rattle.gin_cleanup.proofs.FirstKeys.{items_rise}
use Rattle.gin_cleanup.proofs.Noting.{under_has, has_under, waits_has, has_waits}
use Rattle.gin_cleanup.proofs.Reading.{placed_need_not_wait}

-- what was there under a key goes with the first one, or stays
first_there : (old : KeyItems) (key : Key) (items : List ℕ) (new : KeyItems) → GivesFirst old key items new
    → (k : Key) (i : ℕ) → Has old k i → ((k ≡ key) × In i items) ⊎ Has new k i
first_there old key items new first k i h =
    let there = subst (λ (es : KeyItems). Has es k i) first.first h in
    elim there.1 [
      | inl e ↦ inl (
        sym there.2 ∙ ap (λ (x : Key × List ℕ). x.0) e,
        (first.same i).1 (subst (λ (x : Key × List ℕ). In i x.1) e there.3),
      )
      | inr j ↦ inr (there.0, j, there.2, there.3)
    ]

first_back : (old : KeyItems) (key : Key) (items : List ℕ) (new : KeyItems) → GivesFirst old key items new
    → (k : Key) (i : ℕ) → ((k ≡ key) × In i items) ⊎ Has new k i → Has old k i
first_back old key items new first k i (inl u) =
    subst (λ (es : KeyItems). Has es k i) (sym first.first)
    ((key, first.had), inl refl, sym u.0, (first.same i).0 u.1)
first_back old key items new first k i (inr h) =
    subst (λ (es : KeyItems). Has es k i) (sym first.first) (h.0, inr h.1, h.2, h.3)

-- the first key has an item
first_some : (had items : List ℕ) → had ≢ [] → ((i : ℕ) → In i items ↔ In i had) → (i : ℕ) × In i items
first_some [] items off same = absurd (off refl)
first_some (i ∷ had) items off same = (i, (same i).1 (inl refl))

module _ {D : Type 0} (device : Disk D) (f : FramesValue D) (p : Pass) (from : ℕ) (c : Cleanup)
    (was : IsBetween device f p from c) where
  -- nothing is left to be placed
  pub none_left : c.gathered ≡ [] → IsCleaning device f p from (record c { gathered = []; stage = stage.Shifting })
  none_left none = record {
    began = was.began;
    at = λ t up R stands legal P shown.
        subst (λ (n : ℕ). IsBatch P c.left (drop n c.counts.items) []) (sym was.gone)
        (subst (λ (es : KeyItems). IsBatch P c.left c.counts.items (waits_in es)) none
        (was.batch t up R stands legal P shown));
    gone = (subst (λ (n : ℕ). n < length c.counts.items) (sym was.gone) (some c.counts.items was.some), refl);
    linked = λ x i. absurd i;
    pairs = λ x i. absurd i;
    placing = tt;
    left = was.left;
  }
    where
      some : (ns : List ℕ) → ns ≢ [] → 0 < length ns
      some [] off = absurd (off refl)
      some (n ∷ ns) off = omega arith

  -- a key is at work
  module _ (key items : Vec ℕ Global) (placing : Placing) (rest : KeyItems)
      (first : GivesFirst c.gathered key.items items.items rest)
      (begins : (k : Key) (is : List ℕ) → IsPlacing device f p k is placing) where
    abbrev now : List Wait
    now = waits_of rest (stage.Placing key items placing)

    -- the same pairs wait
    pub then : (x : Wait) → In x now → In x (waits_in c.gathered)
    then x i = elim (in_either x (waits_in rest) (waits_under key.items items.items) i) [
      | inl j ↦ has_waits c.gathered x.key x.item
          (first_back c.gathered key.items items.items rest first x.key x.item (inr (waits_has rest x j)))
      | inr j ↦ has_waits c.gathered x.key x.item
          (first_back c.gathered key.items items.items rest first x.key x.item
          (inl (under_has key.items items.items x j)))
    ]

    pub still : (x : Wait) → In x (waits_in c.gathered) → In x now
    still x i = elim (first_there c.gathered key.items items.items rest first x.key x.item
        (waits_has c.gathered x i)) [
          | inl u ↦ in_back x (waits_in rest) (waits_under key.items items.items)
              (subst (λ (k : Key). In (wait k x.item) (waits_under key.items items.items)) (sym u.0)
              (has_under key.items items.items x.item u.1))
          | inr h ↦ in_front x (waits_in rest) (waits_under key.items items.items) (has_waits rest x.key x.item h)
        ]

    at_key : (i : ℕ) → In i items.items → IsKey key.items × (0 < i) × (i < item_limit)
    at_key i on =
        was.pairs (wait key.items i)
        (then (wait key.items i) (in_back (wait key.items i) (waits_in rest) (waits_under key.items items.items)
        (has_under key.items items.items i on)))

    pub key_next : IsCleaning device f p from (record c { gathered = rest; stage = stage.Placing key items placing })
    key_next = record {
      began = was.began;
      at = λ t up R stands legal P shown.
          placed_need_not_wait P c.left c.counts.items (waits_in c.gathered) now (was.batch t up R stands legal P shown)
          (λ x i. inr (still x i));
      gone = (was.gone, was.some);
      linked = λ x i. was.linked x (then x i);
      pairs = λ x i. was.pairs x (then x i);
      placing = (
        let some = first_some first.had items.items first.some first.same in (at_key some.0 some.1).0,
        items_rise items.items first.rising (λ i on. let k = at_key i on in (k.1, k.2)),
        begins key.items items.items,
      );
      left = was.left;
    }

-- once all items are under the key, it needs no place any more
pub key_placed : {D : Type 0} (device : Disk D) (f : FramesValue D) (p : Pass) (from : ℕ) (c : Cleanup)
    (key items : Vec ℕ Global) (placing : Placing) → c.stage ≡ stage.Placing key items placing
    → IsCleaning device f p from c → ArePlaced device f p key.items items.items → IsBetween device f p from c
key_placed device f p from c key items placing is was placed =
    let W = waits_of c.gathered (stage.Placing key items placing) in
    let inner = λ (x : Wait) (i : In x (waits_in c.gathered)).
    subst (λ (s : Stage). In x (waits_of c.gathered s)) (sym is)
    (in_front x (waits_in c.gathered) (waits_under key.items items.items) i) in
    let gone = subst (λ (s : Stage). AreGone c s) is was.gone in
    record {
      began = was.began;
      batch = λ t up R stands legal P shown.
          placed_need_not_wait P c.left c.counts.items W (waits_in c.gathered)
          (subst (λ (s : Stage). IsAt P c s) is (was.at t up R stands legal P shown))
          (λ x i. elim (in_either x (waits_in c.gathered) (waits_under key.items items.items) i) [
            | inl j ↦ inr j
            | inr j ↦
                let u = under_has key.items items.items x j in
                inl (subst (λ (k : Key). Main P k x.item) (sym u.0) (placed x.item u.1 t up R stands legal P shown))
          ]);
      gone = gone.0;
      some = gone.1;
      linked = λ x i. was.linked x (inner x i);
      pairs = λ x i. was.pairs x (inner x i);
      left = was.left;
    }

-- nothing was at work, and now the next key is, or none is left
pub next_cleaning : {D : Type 0} (device : Disk D) (f : FramesValue D) (p : Pass) (from : ℕ) (old new : Cleanup)
    → IsBetween device f p from old → HasNext old new → IsCleaning device f p from new
next_cleaning device f p from old new was (HasNext.key key items first few is) =
    subst (IsCleaning device f p from) (sym is)
    (key_next device f p from old was key items at_root new.gathered first
    (begins_placing device f p))
next_cleaning device f p from old new was (HasNext.none none is) =
    subst (IsCleaning device f p from) (sym is) (none_left device f p from old was none)
