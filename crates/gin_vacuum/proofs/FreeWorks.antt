-- What a step by which slots become free has logged, and of which items it is.
use Rattle.std.proofs.Common.{◌<◌, ◌≤◌, ℕ, zero, suc, List, [], ◌∷◌, length, take, drop, get_or}
use Rattle.std.proofs.Common.{sym, subst, ◌∙◌, inl, inr, arith}
use Rattle.std.specs.List.{AllByRecursion}
use Rattle.disk_trait.specs.declared.device.Disk.{Ghosts as Disk}
use Rattle.page_types.specs.Items.{AreItems, AreItemsFrom}
use Rattle.page_types.specs.Numbers.{item_limit}
use Rattle.page_types.specs.Records.{kind_number}
use Rattle.page_types.specs.declared.record.Kind.{Kind}
use Rattle.core_state.specs.Log.{In}
use Rattle.core_state.specs.Allowed.{Sheet, Step}
use Rattle.core_vacuum.specs.Leaving.{IsOut}
use Rattle.buffer_frames.specs.Frames.{FramesValue}
use Rattle.buffer_frames.specs.Passes.{Seen}
use Rattle.buffer_frames.specs.declared.pass.Pass.{Pass}
use Rattle.gin_place.specs.Going.{WorksOn}
use Rattle.gin_vacuum.specs.Going.{VacuumsOn}
use Rattle.gin_vacuum.specs.Vacuum.{AreOut}
use Rattle.gin_vacuum.specs.Freeing.{IsFreeing, IsFreeKind, ComesNearer}
use Rattle.gin_vacuum.specs.Inner.Freeing.{LogsDrop, LogsFree}
use Rattle.gin_vacuum.specs.declared.freeing.Chained.{Chained}
use Rattle.gin_vacuum.specs.declared.freeing.Freeing.{Freeing}
use Rattle.gin_vacuum.proofs.Groups.{get_of_drop}
use Rattle.gin_vacuum.proofs.InTurn.{reads_then}
use Rattle.gin_vacuum.proofs.Logs.{reads_vacuum}

-- ── items of a group ──

in_front : (i k : ℕ) (xs : List ℕ) → In i (take k xs) → In i xs
in_front i zero xs at = absurd at
in_front i (suc k) [] at = at
in_front i (suc k) (x ∷ xs) (inl e) = inl e
in_front i (suc k) (x ∷ xs) (inr at) = inr (in_front i k xs at)

in_back : (i k : ℕ) (xs : List ℕ) → In i (drop k xs) → In i xs
in_back i zero xs at = at
in_back i (suc k) [] at = at
in_back i (suc k) (x ∷ xs) at = inr (in_back i k xs at)

low_from : (last : ℕ) (xs : List ℕ) → AreItemsFrom last xs → (i : ℕ) → In i xs → i < item_limit
low_from last [] are i at = absurd at
low_from last (x ∷ xs) are i (inl e) = omega (arith, are.1, e)
low_from last (x ∷ xs) are i (inr at) = low_from x xs are.2 i at

pub group_low : (items : List ℕ) (from n : ℕ) → AreItems items → (i : ℕ) → In i (take n (drop from items))
    → i < item_limit
group_low items from n are i at = low_from 0 items are i (in_back i from items (in_front i n (drop from items) at))

module _ {D : Type 0} (device : Disk D) (f : FramesValue D) (p : Pass) (began : ℕ) (items : List ℕ) (c : Freeing)
    (x : IsFreeing device f p began items c) where
  pub item_out : (n i : ℕ) → In i (take n (drop c.from items)) → Seen device f p (λ S P. IsOut S P p.floor i)
  item_out n i at t up R stands legal P shown =
      x.out t up R stands legal P shown i (in_front i n (drop c.from items) at)

  pub group_out : (n : ℕ) → AreOut device f p (take n (drop c.from items))
  group_out n t up R stands legal P shown i at = item_out n i at t up R stands legal P shown

  pub next_out : c.from < length items → Seen device f p (λ S P. IsOut S P p.floor (get_or items c.from 0))
  next_out left t up R stands legal P shown =
      x.out t up R stands legal P shown (get_or items c.from 0) (get_of_drop items c.from c.from (omega arith) left)

-- ── what is logged ──

module _ {D : Type 0} (device : Disk D) (f g h : FramesValue D) (p q r : Pass)
    (reads : WorksOn device f p g q []) (heap : Sheet) where
  -- one record at most, of the kinds 20 and 21
  abbrev pub Works : Type 0
  Works = (kinds : List ℕ) × (length kinds ≤ 1) × AllByRecursion IsFreeKind kinds × VacuumsOn device f p h r kinds

  by_step : (s : Step) → IsFreeKind (kind_number s.kind) → VacuumsOn device f p h r (kind_number s.kind ∷ []) → Works
  by_step s is works = (kind_number s.kind ∷ [], omega arith, (is, tt), works)

  still_works : WorksOn device g q h r [] → Works
  still_works works =
      ([], omega arith, tt, reads_then device f g h p q r [] reads (reads_vacuum device g h q r works))

  pub drop_works : (found : Chained) → LogsDrop device g q heap h r found → Works
  drop_works found logs =
      let is : IsFreeKind (kind_number (logs.step).kind) =
      subst (λ (k : Kind). IsFreeKind (kind_number k)) (sym (logs.is_step).kind_is) (omega arith, omega arith) in
      let m = logs.frames_held in
      let u = logs.pass_held in
      let ks : List ℕ = kind_number (logs.step).kind ∷ [] in
      by_step logs.step is
      (reads_then device f g h p q r ks reads
      (reads_then device g m h q u r ks (logs.reads).works (logs.logged).works))

  pub free_works : (group : List ℕ) → LogsFree device g q heap h r group → Works
  free_works group (inl still) = still_works (still.0).works
  free_works group (inr logs) =
      let is : IsFreeKind (kind_number (logs.0).kind) =
      subst (λ (k : Kind). IsFreeKind (kind_number k)) (sym (logs.1).kind_is) (omega arith, omega arith) in
      by_step logs.0 is
      (reads_then device f g h p q r (kind_number (logs.0).kind ∷ []) reads (logs.2).works)

  -- the end is nearer
  pub drop_nearer : (found : Chained) (items : List ℕ) (c : Freeing) → LogsDrop device g q heap h r found
      → ComesNearer f h items c c
  drop_nearer found items c logs =
      let rise = (logs.logged).works.records in
      inl (omega (arith, rise, (logs.reads).works.goes.records, reads.goes.records))

  pub free_nearer : (group items : List ℕ) (c : Freeing) (end : ℕ) → c.from < end → end ≤ length items
      → LogsFree device g q heap h r group → ComesNearer f h items c (record { from = end })
  free_nearer group items c end more most (inl still) =
      inr (
        (still.0).works.goes.records ∙ reads.goes.records,
        omega (arith, more, most),
      )
  free_nearer group items c end more most (inr logs) =
      inl (omega (arith, (logs.2).works.records, reads.goes.records))
