-- No page of the way is bad in a legal log.
use Rattle.std.proofs.Common.{◌≡◌, ◌≢◌, ◌<◌, ◌≤◌, ℕ, List, [], ◌∷◌, length, sym, ap, subst, ◌∙◌, inl}
use Rattle.std.proofs.Common.{inr}
use Rattle.std.proofs.Common.{arith, refl}
use Rattle.std.specs.Prelude.{None}
use Rattle.std.specs.List.{AllByRecursion}
use Rattle.disk_trait.specs.declared.device.Disk.{Ghosts as Disk}
use Rattle.wal.specs.Waiting.{down_of}
use Rattle.ts_base.specs.Keys.{Key}
use Rattle.page_types.specs.Numbers.{page_limit}
use Rattle.page_types.specs.Pages.{IsPage}
use Rattle.page_types.specs.Records.{IsChange}
use Rattle.page_types.specs.Views.{free_page}
use Rattle.page_types.specs.declared.page.Page.{Page}
use Rattle.page_types.specs.declared.page.Body.{Body}
use Rattle.page_types.specs.declared.page.Body.TheVariants as body
use Rattle.page_types.specs.declared.record.Change.{Change}
use Rattle.page_types.proofs.PageLaws.{page_told}
use Rattle.core_state.specs.Log.{Log, Pages, In, Shows, pages_of, replay, cut}
use Rattle.core_state.specs.Legal.{IsLegal, RecordsAreValid}
use Rattle.core_state.specs.Allowed.{Sheet}
use Rattle.core_state.specs.Known.{use_by}
use Rattle.core_state.specs.PageChoice.{IsLeast, AreBelow}
use Rattle.core_state.specs.States.{StateTells}
use Rattle.core_state.specs.declared.answers.PageUse.TheVariants as usage
use Rattle.core_state.proofs.Showing.{shown_one, others_stay, none_yet, shown_none}
use Rattle.core_state.proofs.Steps.Seen.{seen_shown, seen_legal}
use Rattle.core_maintenance.specs.Leading.{WaysHold}
use Rattle.core_maintenance.specs.Staying.{RightKeepsFound}
use Rattle.buffer_frames.specs.Frames.{FramesValue, Stands, Behind, Lies}
use Rattle.buffer_frames.specs.Homes.{home_at, ShowsBytes, IsNoPageHere}
use Rattle.buffer_frames.specs.Passes.{IsPassOf, IsHolding, Seen, view_of}
use Rattle.buffer_frames.specs.declared.home.Home.{Home}
use Rattle.buffer_frames.specs.declared.home.Home.TheVariants.{Free, Bytes, Content, Away}
use Rattle.buffer_frames.specs.declared.pass.Pass.{Pass}
use Rattle.buffer_frames.proofs.AtHand.{none_held, log_length, cut_length}
use Rattle.buffer_frames.proofs.HomesLie.{lies_shown}
use Rattle.gin_place.specs.Placing.{HasRight, IsOnWay, IsLeft}
use Rattle.gin_place.specs.Causes.{CannotUse, HasPlace}
use Rattle.gin_place.specs.Trees.{root_of}
use Rattle.gin_place.specs.declared.sought.Sought.{Sought}
use Rattle.gin_place.proofs.LawfulWays.{IsSmall, has_place, root_high}
use Rattle.gin_place.proofs.Parts.{not_free_in}
use Rattle.gin_place.proofs.TreeWays.{leads_then}
use Rattle.gin_place.proofs.Owing.{right_of}

-- ── numbers that pages have ──

in_small : (n : ℕ) (cs : List Change) (p : ℕ) → AllByRecursion (IsChange n) cs → In p (pages_of cs) → p < page_limit
in_small n [] p all i = absurd i
in_small n (c ∷ cs) p all (inl e) = subst (λ (k : ℕ). k < page_limit) (sym e) (all.0).page
in_small n (c ∷ cs) p all (inr i) = in_small n cs p all.1 i

-- past them all is free
pub past_free : (R : Log) → RecordsAreValid R → (P : Pages) → Shows R P → (p : ℕ) → page_limit ≤ p → P p ≡ free_page
past_free [] v P shown p high = ap (λ (Q : Pages). Q p) (shown_one [] P none_yet shown shown_none)
past_free (r ∷ R) v P shown p high =
    others_stay R r v.1.before P v.1.shown shown p
    (λ i. absurd (omega (arith, high, in_small r.number r.changes p v.1.is_record.changes i)))
    ∙ past_free R v.0 v.1.before v.1.shown p high

-- ── what lies in memory ──

module _ {D : Type 0} (device : Disk D) (f : FramesValue D) (R : Log) (told : device.tells)
    (up : down_of f.journal.wal ≡ None) (stands : Stands device f R) (legal : IsLegal R) (P : Pages)
    (shown : Shows R P) where
  pub lies_as : (p : ℕ) (c : Page) → IsPage c → Lies f p c → c ≡ P p
  lies_as p c is lies =
      page_told c (P p) is (shown p).0
      (sym (lies_shown (home_at f.homes p) c (replay R p) lies (stands.homes told up legal p)) ∙ sym (shown p).1)

  -- bytes that lie there are a page's
  pub no_bytes : (h : Home) (p : ℕ) → ShowsBytes h (replay R p) → IsNoPageHere h → ⊥
  no_bytes Free p shows none = none
  no_bytes (Bytes b) p shows none = none (P p) (shown p).0 (sym shows ∙ sym (shown p).1)
  no_bytes (Content c) p shows none = none
  no_bytes Away p shows none = none

  -- where the log's page is so, there is no reason not to use it
  pub usable : (Is : Page → Type 0) (p : ℕ) → Is (P p) → (P p).body ≢ body.Free → CannotUse f Is p → ⊥
  usable Is p is used (CannotUse.past high) =
      used (ap (λ (c : Page). c.body) (past_free R legal.valid P shown p high))
  usable Is p is used (CannotUse.bytes none) =
      no_bytes (home_at f.homes p) p (stands.homes told up legal p) none
  usable Is p is used (CannotUse.other c page lies off) =
      off (subst Is (sym (lies_as p c page lies)) is)

-- ── the pages of a way ──

-- so none of them is bad
pub never_bad : {D : Type 0} (device : Disk D) (f : FramesValue D) (p : Pass) (k : Key) (t : Sought) (page : ℕ)
    → RightKeepsFound → WaysHold → IsPassOf f p → HasRight p → p.held ≡ 0 → IsSmall t → IsOnWay device f p k t page
    → CannotUse f (HasPlace k t) page → Behind device f (λ (R : Log). ⊥)
never_bad device f p k t page law ways of right none small way cannot told up R stands legal =
    let a = (none_held device f p of none).allowed told up R stands legal in
    let S = seen_shown (view_of f p R []) R a in
    let then = law (view_of f p R []) R a S.0 (right_of device f p [] R of right stands) S.1 in
    let long : f.journal.state.records ≡ length R = log_length device f.journal R stands.journal in
    let lead = ways R a.pages (λ e. omega (arith, of.some, of.seen, long, ap length e)) legal a.shown in
    let now = leads_then S.0 a.pages then k t page (way told up R stands legal S.0 S.1) in
    let place = has_place a.pages k t page lead small now in
    usable device f R told up stands legal a.pages a.shown (HasPlace k t) page place
    (not_free_in t (a.pages page).body place.on_tree) cannot

-- ── how many pages a way has ──

free_by : (stamp : ℕ) (b : Body) → use_by stamp b ≡ usage.Unused → b ≡ body.Free
free_by stamp body.Free is = refl
free_by stamp (body.Deleted g) is = absurd cc
free_by stamp _ is = absurd cc

module _ {D : Type 0} (device : Disk D) (f : FramesValue D) (p : Pass) (held : List Sheet)
    (hold : IsHolding device f p held) (of : IsPassOf f p) where
  -- from the root no way has as many as pages have numbers
  pub root_left : (k : Key) (t : Sought) (extent : ℕ) → WaysHold → IsOnWay device f p k t (root_of t)
      → Seen device f p (λ S P. StateTells S f.journal.state) → IsLeast (AreBelow f.journal.state) extent
      → IsLeft device f p k t (root_of t) extent
  root_left k t extent ways way tells least told up R stands legal P shown =
      let a = hold.allowed told up R stands legal in
      let S : Log = cut p.seen R in
      let long : f.journal.state.records ≡ length R = log_length device f.journal R stands.journal in
      let size : length S ≡ p.seen = cut_length p.seen R (omega (arith, of.seen, long)) in
      let lead =
      ways S P (λ e. omega (arith, of.some, size, ap length e)) (seen_legal (view_of f p R held) R a) shown in
      let uses = (tells told up R stands legal P shown).uses P shown in
      let here = way told up R stands legal P shown in
      let high = root_high P k t lead here in (
        here,
        high.0,
        high.1,
        high.2 extent (λ q used. (least.holds).changed q (λ none.
            used (free_by (P q).stamp (P q).body (sym (uses q) ∙ none)))),
      )

  -- so none is spent
  pub never_spent : (k : Key) (t : Sought) (page n : ℕ) → IsLeft device f p k t page n → n ≡ 0
      → Behind device f (λ (R : Log). ⊥)
  never_spent k t page n enough none told up R stands legal =
      let S = seen_shown (view_of f p R held) R (hold.allowed told up R stands legal) in
      let e = enough told up R stands legal S.0 S.1 in
      omega (arith, e.3, none)
