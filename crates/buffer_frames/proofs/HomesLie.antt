-- What lies in memory as a page.
use Rattle.std.proofs.Common.{◌≡◌, List, ℕ, refl, sym, ap, subst, ◌∙◌}
use Rattle.page_types.specs.Numbers.{zeros, page_size}
use Rattle.page_types.specs.Encoding.{page_bytes}
use Rattle.page_types.specs.Views.{free_page}
use Rattle.page_types.specs.declared.page.Page.{Page}
use Rattle.core_state.specs.Allowed.{Sheet, sheet_pages}
use Rattle.core_state.specs.Log.{In, replay}
use Rattle.core_state.proofs.Showing.{shown_none}
use Rattle.buffer_frames.specs.Homes.{home_at, ShowsBytes, LiesAs, HasPut}
use Rattle.buffer_frames.specs.declared.home.Home.{Home}
use Rattle.buffer_frames.specs.declared.home.Home.TheVariants.{Free, Bytes, Content, Away}

-- a page that no record has changed is zeros
free_zeros : zeros page_size ≡ page_bytes free_page
unfolding replay
free_zeros = sym (shown_none 0).1

pub lies_shown : (h : Home) (c : Page) (bytes : List ℕ) → LiesAs h c → ShowsBytes h bytes → bytes ≡ page_bytes c
lies_shown Free c bytes is shows = shows ∙ free_zeros ∙ ap page_bytes (sym is)
lies_shown (Bytes b) c bytes is shows = shows ∙ is.1
lies_shown (Content d) c bytes is shows = shows ∙ ap page_bytes (sym is)
lies_shown Away c bytes is shows = absurd is

pub lies_here : (h : Home) (c : Page) → LiesAs h c → h ≡ Away → ⊥
lies_here Free c is e = cc
lies_here (Bytes b) c is e = cc
lies_here (Content d) c is e = cc
lies_here Away c is e = is

-- what was put lies there
pub lies_put : (old new : List Home) (xs : List Sheet) → HasPut old new xs → (x : Sheet) → In x xs
    → LiesAs (home_at new x.page) x.content
lies_put old new xs put x i = subst (λ (h : Home). LiesAs h x.content) (sym (put.here x i)) refl

-- and so does what was put before, unless another page was put in its place
module _ (old mid new : List Home) (held made : List Sheet) (before : HasPut old mid held)
    (after : HasPut mid new made) where
  pub lies_before : (x : Sheet) → In x held → (In x.page (sheet_pages made) → ⊥)
      → LiesAs (home_at new x.page) x.content
  lies_before x i off =
      subst (λ (h : Home). LiesAs h x.content) (sym (after.elsewhere x.page off ∙ before.here x i)) refl

  pub others_stay : ((p : ℕ) → In p (sheet_pages made) → In p (sheet_pages held)) → (p : ℕ)
      → (In p (sheet_pages held) → ⊥) → home_at new p ≡ home_at old p
  others_stay within p off = after.elsewhere p (λ i. off (within p i)) ∙ before.elsewhere p off
