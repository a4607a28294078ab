-- A leaf that any record of its kind may leave is what a session shows.
use Rattle.std.proofs.Common.{◌≡◌, ℕ, List, [], ◌∷◌, refl, sym, ap, subst, subst₂, ◌∙◌}
use Rattle.ts_base.specs.Keys.{Key}
use Rattle.page_types.specs.declared.page.Page.{Page}
use Rattle.page_types.specs.declared.page.Body.{Body}
use Rattle.page_types.specs.declared.record.Edit.TheVariants.{Image}
use Rattle.page_types.specs.declared.record.Record.{Record}
use Rattle.page_types.specs.declared.record.Kind.{Kind}
use Rattle.page_types.specs.declared.record.Kind.TheVariants as kind
use Rattle.core_state.specs.Known.{known}
use Rattle.core_state.specs.Changes.{made_with}
use Rattle.core_state.specs.TreeRules.{IsAddItemsRest, IsAddPostingsRest}
use Rattle.core_maintenance.specs.MovingPages.{ItemsServe, PostingsServe}

-- some record of a kind that changes this page
abbrev record_of : Kind → ℕ → Record
record_of k page = record {
  number = 0;
  xid = 0;
  kind = k;
  changes = record { page = page; edit = Image [] } ∷ [];
}

same_one : (a b : Page) → a ∷ [] ≡ b ∷ [] → a ≡ b
same_one a b e = cc

same_page : (r : Record) (c : Page) (right : ℕ) (b : Body) → made_with r c.right c.body ∷ [] ≡ made_with r right b ∷ []
    → (c.right ≡ right) × (c.body ≡ b)
same_page r c right b e =
    let one = same_one (made_with r c.right c.body) (made_with r right b) e in
    (ap (λ (p : Page). p.right) one, ap (λ (p : Page). p.body) one)

pub items_serve : ItemsServe
items_serve v P s page key items old new kind_is after_is may held adds rest =
    let r = record_of kind.AddItems page in
    let both = adds (known v.seen P) r refl refl in
    let x = both.0 in
    let was : old ≡ x.old = same_one old x.old x.before_is in
    let now = same_page r new _ _ x.after_is in
    record {
      page = page;
      key = x.key;
      items = x.items;
      high = x.high;
      entries = x.entries;
      front = x.front;
      back = x.back;
      old_list = x.old_list;
      new_list = x.new_list;
      old = old;
      new = new;
      kind_is = kind_is;
      after_is = after_is;
      may = may;
      held = held;
      was = ap (λ (p : Page). p.body) was ∙ x.was;
      within = x.within;
      entry = x.entry;
      above = x.above;
      below = x.below;
      added = x.added;
      short = x.short;
      rest = subst₂ (λ (k : Key) (is : List ℕ). IsAddItemsRest P k is page) (sym both.1) (sym both.2) rest;
      right = now.0 ∙ sym (ap (λ (p : Page). p.right) was);
      content = now.1;
    }

pub postings_serve : PostingsServe
postings_serve v P s page items old new kind_is after_is may held adds rest =
    let r = record_of kind.AddPostings page in
    let both = adds (known v.seen P) r refl refl in
    let x = both.0 in
    let was : old ≡ x.old = same_one old x.old x.before_is in
    let now = same_page r new _ _ x.after_is in
    record {
      page = page;
      items = x.items;
      high = x.high;
      old_list = x.old_list;
      new_list = x.new_list;
      old = old;
      new = new;
      kind_is = kind_is;
      after_is = after_is;
      may = may;
      held = held;
      was = ap (λ (p : Page). p.body) was ∙ x.was;
      within = x.within;
      added = x.added;
      rest = subst (λ (is : List ℕ). IsAddPostingsRest P is page) (sym both.1) rest;
      right = now.0 ∙ sym (ap (λ (p : Page). p.right) was);
      content = now.1;
    }
