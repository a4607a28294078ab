-- A page that is taken from where it lies.
use Rattle.std.proofs.Common.{◌≡◌, ◌<◌, ◌≤◌, ℕ, List, length, refl, sym, subst, ◌∙◌, arith}
use Rattle.std.specs.Prelude.{set, Result, Ok, Err, IfOk}
use Rattle.std.proofs.lemmas.List.{get_or-set_other, length-set}
use Rattle.std.proofs.lemmas.Grind.{get_or-set_at}
use Rattle.page_types.specs.Pages.{IsPage}
use Rattle.page_types.specs.declared.page.Page.{Page}
use Rattle.core_state.proofs.Showing.{free_is}
use Rattle.buffer_frames.specs.Homes.{home_at, HasPage, HavePages, LiesAs, HasTaken}
use Rattle.buffer_frames.specs.declared.frame_error.FrameError.{FrameError}
use Rattle.buffer_frames.specs.declared.home.Home.{Home}
use Rattle.buffer_frames.specs.declared.home.Home.TheVariants.{Free, Bytes, Content, Away}

lies_page : (h : Home) (c : Page) → HasPage h → LiesAs h c → IsPage c
lies_page Free c has is = subst IsPage (sym is) free_is
lies_page (Bytes b) c has is = is.0
lies_page (Content d) c has is = subst IsPage (sym is) has
lies_page Away c has is = absurd is

-- once there is a home for it
pub taken_from : (old mid : List Home) (page : ℕ) (h : Home) (c : Page) → HavePages old
    → ((p : ℕ) → home_at mid p ≡ home_at old p) → length old ≤ length mid → page < length mid
    → h ≡ home_at mid page → LiesAs h c → HasTaken old (set mid page Away) page c
taken_from old mid page h c have same longer lt at is =
    let was : h ≡ home_at old page = at ∙ same page in
    let here : LiesAs (home_at old page) c = subst (λ (x : Home). LiesAs x c) was is in
    record {
      is_page = lies_page (home_at old page) c (have page) here;
      lies = here;
      away = get_or-set_at mid page page Away Free refl lt;
      there = omega (arith, lt, length-set mid page Away);
      others = λ p off. get_or-set_other mid page p Away Free off ∙ same p;
      longer = omega (arith, longer, length-set mid page Away);
    }

pub taken_where : (r : Result Page FrameError) (old mid : List Home) (page : ℕ) (h h' : Home) → HavePages old
    → ((p : ℕ) → home_at mid p ≡ home_at old p) → length old ≤ length mid → page < length mid
    → h ≡ home_at mid page → IfOk r (λ c. LiesAs h c × (h' ≡ Away))
    → IfOk r (λ c. HasTaken old (set mid page h') page c)
taken_where (Ok c) old mid page h h' have same longer lt at is =
    subst (λ (x : Home). HasTaken old (set mid page x) page c) (sym is.1)
    (taken_from old mid page h c have same longer lt at is.0)
taken_where (Err e) old mid page h h' have same longer lt at is = tt
