-- The two parts of a page of a tree.
use Rattle.std.proofs.Common.{◌≡◌, ◌≢◌, ◌<◌, ℕ, length, sym, ap, ◌∙◌}
use Rattle.std.specs.Prelude.{⊤}
use Rattle.page_types.specs.Encoding.{body_bytes}
use Rattle.page_types.specs.Pages.{IsPage}
use Rattle.page_types.specs.declared.page.Page.{Page}
use Rattle.page_types.specs.declared.page.Body.{Body}
use Rattle.page_types.specs.declared.page.Body.TheVariants as body
use Rattle.core_state.specs.TreeRules.{EntryHalves, PostHalves, Halves, half_body}
use Rattle.posting_code.specs.Cutting.{Cutting, IsEven, IsCut}
use Rattle.posting_code.specs.declared.dividing.Keep.{Keep}
use Rattle.entry_tree.specs.Finding.{IsEntryBody}
use Rattle.entry_tree.specs.Splitting.{body_cutting, AreParts}
use Rattle.posting_tree.specs.Reading.{IsPostBody}
use Rattle.gin_place.specs.Trees.{IsTreeBody}
use Rattle.gin_place.specs.Inner.Dividing.{AreSplit}
use Rattle.gin_place.specs.declared.sought.Sought.{Sought}
use Rattle.gin_place.specs.declared.sought.Sought.TheVariants as sought
use Rattle.gin_place.proofs.UpperKeys.{ends_within}

-- what content of a tree is
OfTree : Sought → Body → Type 0
OfTree sought.Key (body.EntryLeaf high entries) = ⊤
OfTree sought.Key (body.EntryInner children) = ⊤
OfTree (sought.Item root item) (body.PostLeaf high list) = ⊤
OfTree (sought.Item root item) (body.PostInner children) = ⊤
OfTree _ _ = ⊥

of_tree : (t : Sought) (b : Body) → IsTreeBody t b → OfTree t b
unfolding OfTree
of_tree sought.Key _ (IsEntryBody.leaf high entries) = tt
of_tree sought.Key _ (IsEntryBody.inner children) = tt
of_tree (sought.Item root item) _ (IsPostBody.leaf high list) = tt
of_tree (sought.Item root item) _ (IsPostBody.inner children) = tt

-- pages of the trees are no free ones
pub not_free_in : (t : Sought) (b : Body) → IsTreeBody t b → b ≢ body.Free
not_free_in sought.Key _ (IsEntryBody.leaf high entries) e = let z : ⊥ = cc in z
not_free_in sought.Key _ (IsEntryBody.inner children) e = let z : ⊥ = cc in z
not_free_in (sought.Item root item) _ (IsPostBody.leaf high list) e = let z : ⊥ = cc in z
not_free_in (sought.Item root item) _ (IsPostBody.inner children) e = let z : ⊥ = cc in z

even_divides : {A : Type 0} (c : Cutting A) (front back : A) → IsEven c front back → c.Divides front back
even_divides c front back (IsEven.half h f b) = h.divides
even_divides c front back (IsEven.longest none m) = m.divides

pub cut_divides : {A : Type 0} (c : Cutting A) (front back : A) (keep : Keep) → IsCut c front back keep
    → c.Divides front back
cut_divides c front back _ (IsCut.half even) = even_divides c front back even
cut_divides c front back _ (IsCut.most m k) = m.divides
cut_divides c front back _ (IsCut.no_most none even) = even_divides c front back even

entry_halves : (mid : _) (whole left right : Body) → EntryHalves mid whole left right
    → IsEntryBody left × IsEntryBody right
entry_halves _ _ _ _ (EntryHalves.leaves high front back f b up down) =
    (IsEntryBody.leaf _ front, IsEntryBody.leaf high back)
entry_halves _ _ _ _ (EntryHalves.inners last front back some e) = (IsEntryBody.inner _, IsEntryBody.inner back)

post_halves : (mid : ℕ) (whole left right : Body) → PostHalves mid whole left right
    → IsPostBody left × IsPostBody right
post_halves _ _ _ _ (PostHalves.leaves high items front back f b is up down) =
    (IsPostBody.leaf _ front, IsPostBody.leaf high back)
post_halves _ _ _ _ (PostHalves.inners last front back some e) = (IsPostBody.inner _, IsPostBody.inner back)

-- the parts are of the tree
halves_on : (t : Sought) (whole left right : Body) → Halves whole left right → IsTreeBody t whole
    → IsTreeBody t left × IsTreeBody t right
unfolding OfTree
halves_on sought.Key _ _ _ (Halves.of_leaf high last front back some) is =
    (IsEntryBody.leaf _ _, IsEntryBody.leaf high back)
halves_on sought.Key _ left right (Halves.of_inner mid children h) is =
    entry_halves mid (body.EntryInner children) left right h
halves_on sought.Key _ _ _ (Halves.of_post_leaf high mid items front back f b h) is =
    absurd (of_tree sought.Key _ is)
halves_on sought.Key _ _ _ (Halves.of_post_inner mid children h) is = absurd (of_tree sought.Key _ is)
halves_on (sought.Item root item) _ _ _ (Halves.of_leaf high last front back some) is =
    absurd (of_tree (sought.Item root item) _ is)
halves_on (sought.Item root item) _ _ _ (Halves.of_inner mid children h) is =
    absurd (of_tree (sought.Item root item) _ is)
halves_on (sought.Item root item) _ _ _ (Halves.of_post_leaf high mid items front back f b h) is =
    (IsPostBody.leaf mid front, IsPostBody.leaf high back)
halves_on (sought.Item root item) _ left right (Halves.of_post_inner mid children h) is =
    post_halves mid (body.PostInner children) left right h

pub are_split : (t : Sought) (c : Page) (new : ℕ) (keep : Keep) (left right : Page) → IsPage c → IsTreeBody t c.body
    → half_body < length (body_bytes c.body) → new ≢ 0 → AreParts c new keep left right
    → IsPage left × IsPage right → AreSplit t c new left right
are_split t c new keep left right was is large some parts pages =
    let both = halves_on t c.body left.body right.body
    (cut_divides (body_cutting c.body) left.body right.body keep parts.cut) is in
    let link : left.right ≡ new = ap (λ (p : Page). p.right) parts.left_is in
    record {
      was = was;
      on_tree = is;
      large = large;
      keep = keep;
      parts = parts;
      pages = pages;
      ends = ends_within t left both.0 pages.0 (λ e. some (sym link ∙ e));
      used = (not_free_in t left.body both.0, not_free_in t right.body both.1);
    }
