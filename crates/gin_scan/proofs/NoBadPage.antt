-- No page is bad where the log has one of the kind that is sought.
use Rattle.std.proofs.Common.{◌≡◌, ◌≢◌, ◌<◌, ◌≤◌, ℕ, [], ◌∷◌, List, sym, ap, subst, ◌∙◌, inl, inr, arith}
use Rattle.std.specs.List.{AllByRecursion}
use Rattle.disk_trait.specs.declared.device.Disk.{Ghosts as Disk}
use Rattle.wal.specs.Waiting.{down_of}
use Rattle.std.specs.Prelude.{None, Some, Option}
use Rattle.page_types.specs.Numbers.{page_limit}
use Rattle.page_types.specs.Records.{IsChange}
use Rattle.page_types.specs.Views.{free_page, slots_in, slot_at}
use Rattle.page_types.specs.declared.page.Page.{Page}
use Rattle.page_types.specs.declared.page.Head.{Head}
use Rattle.page_types.specs.declared.page.Body.{Body}
use Rattle.page_types.specs.declared.page.Body.TheVariants as body
use Rattle.page_types.specs.declared.record.Change.{Change}
use Rattle.core_state.specs.Log.{Log, Pages, In, Shows, pages_of, replay}
use Rattle.core_state.specs.Legal.{IsLegal, RecordsAreValid}
use Rattle.core_state.proofs.Showing.{shown_one, others_stay, none_yet, shown_none}
use Rattle.buffer_frames.specs.Frames.{FramesValue, Stands}
use Rattle.buffer_frames.specs.Homes.{home_at, ShowsBytes, IsNoPageHere}
use Rattle.buffer_frames.specs.declared.home.Home.{Home}
use Rattle.buffer_frames.specs.declared.home.Home.TheVariants.{Free, Bytes, Content, Away}
use Rattle.gin_scan.specs.Causes.{CannotUse}
use Rattle.gin_scan.proofs.ListRead.{lies_as}

-- ── numbers that pages have ──

in_small : (n : ℕ) (cs : List Change) (p : ℕ) → AllByRecursion (IsChange n) cs → In p (pages_of cs) → p < page_limit
in_small n [] p all i = absurd i
in_small n (c ∷ cs) p all (inl e) = subst (λ (k : ℕ). k < page_limit) (sym e) (all.0).page
in_small n (c ∷ cs) p all (inr i) = in_small n cs p all.1 i

-- past them all is free
past_free : (R : Log) → RecordsAreValid R → (P : Pages) → Shows R P → (p : ℕ) → page_limit ≤ p → P p ≡ free_page
past_free [] v P shown p high = ap (λ (Q : Pages). Q p) (shown_one [] P none_yet shown shown_none)
past_free (r ∷ R) v P shown p high =
    others_stay R r v.1.before P v.1.shown shown p
    (λ i. absurd (omega (arith, high, in_small r.number r.changes p v.1.is_record.changes i)))
    ∙ past_free R v.0 v.1.before v.1.shown p high

-- ── what lies in memory ──

module _ {D : Type 0} (device : Disk D) (f : FramesValue D) (R : Log) (told : device.tells)
    (up : down_of f.journal.wal ≡ None) (stands : Stands device f R) (legal : IsLegal R) (P : Pages)
    (shown : Shows R P) where
  -- bytes that lie there are a page's
  no_bytes : (h : Home) (p : ℕ) → ShowsBytes h (replay R p) → IsNoPageHere h → ⊥
  no_bytes Free p shows none = none
  no_bytes (Bytes b) p shows none = none (P p) (shown p).0 (sym shows ∙ sym (shown p).1)
  no_bytes (Content c) p shows none = none
  no_bytes Away p shows none = none

  -- where the log's page is so, there is no reason not to use it
  pub usable : (Is : Page → Type 0) (p : ℕ) → Is (P p) → (P p).body ≢ body.Free → CannotUse f Is p → ⊥
  usable Is p is used (CannotUse.past high) =
      used (ap (λ (c : Page). c.body) (past_free R legal.valid P shown p high))
  usable Is p is used (CannotUse.bytes none) =
      no_bytes (home_at f.homes p) p (stands.homes told up legal p) none
  usable Is p is used (CannotUse.other c page lies off) =
      off (subst Is (sym (lies_as device f R told up stands legal P shown p c page lies)) is)

-- a page with a head has slots
pub has_slots : (b : Body) (k : ℕ) (h : Head) → slot_at (slots_in b) k ≡ Some h
    → (slots : List (Option Head)) × (b ≡ body.Heap slots)
has_slots (body.Heap slots) k h e = (slots, Rattle.std.proofs.Common.refl)
has_slots _ k h e = absurd (let z : ⊥ = cc in z)
