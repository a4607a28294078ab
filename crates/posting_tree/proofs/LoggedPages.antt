-- Found pages lead on, and the pages that are made here are what their records ask.
use Rattle.std.proofs.Common.{◌≡◌, ℕ, suc, [], ◌∷◌, take, drop, refl, sym, ap, subst}
use Rattle.std.specs.List.{Contains}
use Rattle.page_types.specs.Numbers.{no_bound}
use Rattle.page_types.specs.Views.{entries_in, posting_items_in}
use Rattle.page_types.specs.declared.page.Page.{Page}
use Rattle.page_types.specs.declared.page.Body.{Body}
use Rattle.page_types.specs.declared.page.Body.TheVariants as body
use Rattle.core_state.specs.Changes.{made_with, ItemUpTo}
use Rattle.core_state.specs.TreeRules.{TowardItem, OneChild}
use Rattle.entry_tree.specs.Reading.{upper_in as high_in}
use Rattle.entry_tree.proofs.RootedPages.{listed_is, rooted_is}
use Rattle.posting_tree.specs.declared.adding.Added.{Added}
use Rattle.posting_tree.specs.declared.adding.Added.TheVariants as added
use Rattle.posting_tree.specs.Reading.{IsPostBody, upper_in}
use Rattle.posting_tree.specs.Finding.{IsFoundIn}
use Rattle.posting_tree.specs.Adding.{first_leaf, IsAnswer}
use Rattle.posting_tree.specs.Logging.{FoundLeadsDown, FirstLeafIsLogged, AddedPostingsAreLogged, GrownRootIsLogged}
use Rattle.posting_tree.proofs.Members.{items_added, contained}

pub leads_down : FoundLeadsDown
leads_down P item p _ q (IsFoundIn.down front back c content below up) way =
    TowardItem.down front back c content below up way

pub first_logged : FirstLeafIsLogged
first_logged k r since page new place key list old was of_leaf at kind_is pages is_new = record {
  page = page;
  new = new;
  key = key;
  high = high_in old.body;
  items = list;
  front = take place (entries_in old.body);
  back = drop (suc place) (entries_in old.body);
  old = old;
  was = was;
  kind_is = kind_is;
  pages = pages;
  is_new = is_new;
  before_is = refl;
  inline = listed_is old.body place key list of_leaf at;
  after_is = ap
      (λ (b : Body). made_with r old.right b ∷ made_with r (first_leaf list).right (first_leaf list).body ∷ [])
      (rooted_is old.body place new key list at);
}

one_child : (new : ℕ) (b : Body) → IsPostBody b
    → OneChild new b (body.PostInner (record { page = new; bound = no_bound } ∷ []))
one_child new _ (IsPostBody.leaf high items) = OneChild.of_post_leaf high items
one_child new _ (IsPostBody.inner children) = OneChild.of_post_inner children

pub grown_logged : GrownRootIsLogged
grown_logged k r since root new old was is large kind_is pages is_new = record {
  root = root;
  new = new;
  inner = body.PostInner (record { page = new; bound = no_bound } ∷ []);
  old = old;
  was = was;
  kind_is = kind_is;
  pages = pages;
  is_new = is_new;
  before_is = refl;
  large = large;
  one_child = one_child new old.body is;
  after_is = refl;
}

done_page : (p q : Page) (content : Body) → IsAnswer p content (added.Done q) → q ≡ record p { body = content }
done_page p q content a = of (added.Done q) a refl
  where
    of : (answer : Added) → IsAnswer p content answer → answer ≡ added.Done q → q ≡ record p { body = content }
    of _ (IsAnswer.done fits) e = let same : record p { body = content } ≡ q = cc in sym same
    of _ (IsAnswer.full large) e = absurd cc

pub added_logged : AddedPostingsAreLogged
added_logged k r page items old new a within some kind_is pages = record {
  here = record {
    page = page;
    items = items;
    high = a.high;
    old_list = a.old;
    new_list = a.list;
    old = old;
    kind_is = kind_is;
    pages = pages;
    within = λ i on. subst (λ (b : Body). ItemUpTo i (upper_in b)) a.was (within i (contained i items on));
    before_is = refl;
    was = a.was;
    added = items_added a.old items a.list some.0 a.united some.1
        (λ c. some.2 (subst (λ (b : Body). Contains (posting_items_in b) some.0) (sym a.was) c));
    after_is = ap (λ (q : Page). made_with r q.right q.body ∷ [])
        (done_page old new (body.PostLeaf a.high a.list) a.is);
  };
  page_is = refl;
  items_are = refl;
}
