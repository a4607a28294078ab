-- What pages in memory stand for just after an opening.
use Rattle.std.proofs.Common.{◌≡◌, ◌⊎◌, ◌<◌, ℕ, zero, suc, Bool, true, false, List, [], ◌∷◌, length, replicate, refl}
use Rattle.std.proofs.Common.{sym, ap, subst, ◌∙◌, inl, inr, arith}
use Rattle.std.specs.Prelude.{Option, Some, None}
use Rattle.disk_trait.specs.declared.device.Disk.{Ghosts as Disk}
use Rattle.page_types.specs.Numbers.{zeros, page_size}
use Rattle.page_types.specs.Pages.{IsPage}
use Rattle.page_types.specs.Encoding.{page_bytes}
use Rattle.core_state.specs.Log.{Log, In, commits, replay}
use Rattle.core_state.specs.Legal.{ChangesFrom, IsLegal, Keeps}
use Rattle.core_state.specs.Allowed.{Sheet}
use Rattle.core_state.specs.Logged.{pin_now}
use Rattle.core_state.specs.declared.settings.Settings.{Settings}
use Rattle.core_state.proofs.Showing.{replay_kept}
use Rattle.core_state.proofs.Worked.{meta_is, root_is}
use Rattle.core_state.specs.States.{state_of}
use Rattle.core_state.proofs.StateTold.{state_told}
use Rattle.core_state.proofs.Steps.Pins.{legal_keeps_now}
use Rattle.snap_pins.specs.declared.Pin.{Pin as PinInUse}
use Rattle.snap_pins.specs.Taken.{IsPinned}
use Rattle.buffer_frames.specs.Applied.{applied}
use Rattle.buffer_frames.specs.First.{first_record, first_sheets}
use Rattle.buffer_frames.specs.Homes.{home_at, home_of, ShowsBytes, HasPage, HavePages, AreAlike, HasPut, LieAsMapped}
use Rattle.buffer_frames.specs.Homes.{HaveOpened}
use Rattle.buffer_frames.specs.Inner.Reads.{touches}
use Rattle.buffer_frames.specs.Journals.{JournalValue, commits_in}
use Rattle.buffer_frames.specs.Maps.{lookup, HasApplied}
use Rattle.buffer_frames.specs.Opening.{IsOpenedAt, opened_log, owes_after}
use Rattle.buffer_frames.specs.Frames.{FramesValue, HomesShow, KeepsPins, AreFrames}
use Rattle.buffer_frames.specs.Passes.{IsPassOf, IsWhole}
use Rattle.buffer_frames.specs.declared.pass.Pass.{Pass}
use Rattle.buffer_frames.specs.declared.home.Home.{Home}
use Rattle.buffer_frames.specs.declared.page_map.PageMap.{PageMap}
use Rattle.buffer_frames.proofs.FirstLogs.{shown_made}
use Rattle.buffer_frames.proofs.AtHand.{log_length}
use Rattle.buffer_frames.proofs.FramesKept.{framed}
use Rattle.buffer_frames.proofs.HomesPut.{put_shows, put_pages}
use Rattle.buffer_frames.proofs.LogFiles.{applied_told, numbered_in}
use Rattle.buffer_frames.proofs.MapTelling.{touched_from, from_touched}

changes_or_not : (R : Log) (p : ℕ) → ChangesFrom 0 R p ⊎ (ChangesFrom 0 R p → ⊥)
changes_or_not R p = go (touches R p) refl
  where
    go : (b : Bool) → touches R p ≡ b → ChangesFrom 0 R p ⊎ (ChangesFrom 0 R p → ⊥)
    go true e = inl (from_touched R p e)
    go false e = inr (λ c. let f : true ≡ false = sym (touched_from R p c) ∙ e in let z : ⊥ = cc in z)

-- a page that no record changes has zeros
zeros_unchanged : (R : Log) (p : ℕ) → (ChangesFrom 0 R p → ⊥) → replay R p ≡ zeros page_size
unfolding replay
zeros_unchanged [] p off = refl
zeros_unchanged (r ∷ R) p off = replay_kept R r p (λ i. off (r, inl refl, omega arith, i))
    ∙ zeros_unchanged R p (λ c. off (c.0, inr c.1, c.2, c.3))

shown_as : (h : Home) (o : Option (List ℕ)) (bytes : List ℕ) → h ≡ home_of o → ShowsBytes (home_of o) bytes
    → ShowsBytes h bytes
shown_as h o bytes is shows = subst (λ (x : Home). ShowsBytes x bytes) (sym is) shows

-- the pages that were read
pub pages_opened : (file : List ℕ) (R : Log) (map : PageMap) (homes : List Home) → IsLegal R → HasApplied file R map
    → ((p : ℕ) → home_at homes p ≡ home_of (lookup map p)) → HomesShow homes R
pages_opened file R map homes legal has lie p = elim (changes_or_not R p) [
  | inl c ↦
      let is : home_at homes p ≡ home_of (Some (applied file R p)) = lie p ∙ ap home_of (has.changed p c) in
      let same : replay R p ≡ applied file R p = elim (applied_told R file p legal.images
      (λ r i. numbered_in R r legal.valid i)) [
        | inl e ↦ sym e
        | inr u ↦ absurd (u.off c)
      ] in
      shown_as (home_at homes p) (Some (applied file R p)) (replay R p) is same
  | inr off ↦
      let is : home_at homes p ≡ home_of None = lie p ∙ ap home_of (has.others p off) in
      shown_as (home_at homes p) None (replay R p) is (zeros_unchanged R p off)
]

-- the pages of a new store
first_bytes : (x : Sheet) → In x first_sheets → replay (first_record ∷ []) x.page ≡ page_bytes x.content
first_bytes x (inl e) = ap (λ (y : Sheet). replay (first_record ∷ []) y.page) e ∙ sym (shown_made 0).1
    ∙ ap (λ (y : Sheet). page_bytes y.content) (sym e)
first_bytes x (inr (inl e)) = ap (λ (y : Sheet). replay (first_record ∷ []) y.page) e ∙ sym (shown_made 1).1
    ∙ ap (λ (y : Sheet). page_bytes y.content) (sym e)
first_bytes x (inr (inr e)) = absurd e

pub pages_made : (file : List ℕ) (map : PageMap) (homes homes' : List Home) → HasApplied file [] map
    → ((p : ℕ) → home_at homes p ≡ home_of (lookup map p)) → HasPut homes homes' first_sheets
    → HomesShow homes' (first_record ∷ [])
pages_made file map homes homes' has lie put =
    put_shows homes homes' first_sheets (first_record ∷ []) put first_bytes
    (λ p off.
    let is : home_at homes p ≡ home_of None = lie p ∙ ap home_of (has.others p (λ c. c.1)) in
    shown_as (home_at homes p) None (replay (first_record ∷ []) p) is
    (replay_kept [] first_record p off ∙ zeros_unchanged [] p (λ c. c.1)))

-- no snapshot is in use
none_pinned : (n place : ℕ) (p : PinInUse) → IsPinned (replicate n None) place p → ⊥
none_pinned zero place p e = cc
none_pinned (suc n) zero p e = cc
none_pinned (suc n) (suc place) p e = none_pinned n place p e

pub keeps_none : (R : Log) (flushed n : ℕ) → IsLegal R → flushed ≡ commits R → KeepsPins R (replicate n None) flushed
keeps_none R flushed n legal all = record {
  each = λ place p pinned. absurd (none_pinned n place p pinned);
  now = subst (λ (k : ℕ). Keeps R (pin_now k R)) (sym all) (legal_keeps_now R legal);
}

alike_at : (old mid : List Home) (map : PageMap) → AreAlike old mid → LieAsMapped map old → LieAsMapped map mid
alike_at old mid map alike lie p = alike.each p ∙ lie p

has_page : (o : Option (List ℕ)) → HasPage (home_of o)
has_page None = tt
has_page (Some b) = tt

read_pages : (map : PageMap) (homes : List Home) → LieAsMapped map homes → HavePages homes
read_pages map homes lie p = subst HasPage (sym (lie p)) (has_page (lookup map p))

first_is : (x : Sheet) → In x first_sheets → IsPage x.content
first_is x (inl e) = subst (λ (y : Sheet). IsPage y.content) (sym e) meta_is
first_is x (inr (inl e)) = subst (λ (y : Sheet). IsPage y.content) (sym e) root_is
first_is x (inr (inr e)) = absurd e

have_pages : (owes : Bool) (map : PageMap) (homes : List Home) → HaveOpened map owes homes → HavePages homes
have_pages true map homes lie = read_pages map homes lie
have_pages false map homes lie =
    let mid = lie.2.0 in
    put_pages mid homes first_sheets lie.2.2 first_is (read_pages map mid (alike_at lie.0 mid map lie.2.1 lie.1))

module _ {D : Type 0} (device : Disk D) (settings : Settings) (first : D) (c0 : ℕ) (j : JournalValue D)
    (map : PageMap) where
  homes_opened : (counted : Log) (owes : Bool) (homes : List Home) → owes ≡ owes_after counted
      → HasApplied (device.seen first).pages counted map → HaveOpened map owes homes → IsLegal (opened_log counted)
      → HomesShow homes (opened_log counted)
  homes_opened [] true homes is has lie legal = absurd (let z : ⊥ = cc in z)
  homes_opened [] false homes is has lie legal =
      let mid = lie.2.0 in
      pages_made (device.seen first).pages map mid homes has (alike_at lie.0 mid map lie.2.1 lie.1) lie.2.2
  homes_opened (r ∷ R) true homes is has lie legal = pages_opened (device.seen first).pages (r ∷ R)
      map homes legal has lie
  homes_opened (r ∷ R) false homes is has lie legal = absurd (let z : ⊥ = cc in z)

  all_flushed : (counted : Log) → IsLegal (opened_log counted) → (p x : ℕ)
      → length (state_of p x counted).deleted ≡ commits (opened_log counted)
  all_flushed [] legal p x = refl
  all_flushed (r ∷ R) legal p x = (state_told p x (r ∷ R) legal).commits

  some_opened : (counted : Log) → 0 < length (opened_log counted)
  some_opened [] = omega arith
  some_opened (r ∷ R) = omega arith

  -- there is a record
  pub some_records : IsOpenedAt device settings first c0 j map → 0 < j.state.records
  some_records o = omega (arith, log_length device j (opened_log o.counted) o.stands, some_opened o.counted)

  pub frames_opened : (homes : List Home) → IsOpenedAt device settings first c0 j map → HaveOpened map j.owes homes
      → AreFrames device (framed j (replicate 16 None) homes)
  frames_opened homes o lie = record {
    log = opened_log o.counted;
    stands = record {
      journal = o.stands;
      homes = λ t up legal. homes_opened o.counted j.owes homes o.owes (o.applied t) lie legal;
      pins = λ t up legal.
          keeps_none (opened_log o.counted) j.flushed 16 legal
          ((o.stands).flushed up ∙ ap (λ (l : Log). commits_in j.state l) o.none_lost
          ∙ all_flushed o.counted legal j.state.pages j.state.xid_limit);
    };
    some = some_records o;
    pages = have_pages j.owes map homes lie;
  }

-- the pass that has seen all, and has all room
pub of_whole : {D : Type 0} (j : JournalValue D) (homes : List Home) (pass : Pass) → 0 < j.state.records
    → IsWhole j pass → IsPassOf (framed j (replicate 16 None) homes) pass
of_whole {D} j homes pass some e =
    let f : FramesValue D = framed j (replicate 16 None) homes in
    subst (λ (p : Pass). IsPassOf f p) (sym e) (record {
      some = some;
      seen = omega arith;
      all = tt;
      none_owed = λ owed. refl;
      shown = omega arith;
      pin = tt;
      free = λ none. (0, refl);
      few = omega arith;
      now = (omega arith, omega arith);
      below = λ place p pinned. absurd (none_pinned 16 place p pinned);
      work = tt;
    })
