-- The step by which items come to a leaf of the entry tree, and what is under the key then.
use Rattle.std.proofs.Common.{◌≡◌, ◌≢◌, ◌<◌, ⊎_elim, ℕ, List, [], ◌∷◌, ◌++◌, take, refl, sym, ap}
use Rattle.std.proofs.Common.{subst, ◌∙◌, inl, inr, arith}
use Rattle.std.specs.List.{Contains}
use Rattle.disk_trait.specs.declared.device.Disk.{Ghosts as Disk}
use Rattle.page_types.specs.Items.{items_of}
use Rattle.page_types.specs.Numbers.{page_limit}
use Rattle.page_types.specs.Pages.{IsPage}
use Rattle.page_types.specs.Views.{entries_in}
use Rattle.page_types.specs.declared.page.Page.{Page}
use Rattle.page_types.specs.declared.page.Entry.{Entry}
use Rattle.page_types.specs.declared.page.Body.{Body}
use Rattle.page_types.specs.declared.page.Body.TheVariants as body
use Rattle.page_types.specs.declared.record.Kind.{Kind}
use Rattle.page_types.specs.declared.record.Kind.TheVariants as kind
use Rattle.page_types.specs.declared.record.Record.{Record}
use Rattle.core_state.specs.Log.{Log, Pages, In}
use Rattle.core_state.specs.Index.{Main, Under}
use Rattle.core_state.specs.Changes.{UpTo}
use Rattle.core_state.specs.Allowed.{Sheet, Step, MayLog, made_by, drawn_body, drawn_kind}
use Rattle.core_state.specs.Steps.{MayBy, sheet}
use Rattle.core_maintenance.specs.MovingSteps.{CanAddItems}
use Rattle.core_maintenance.specs.MovingPages.{ItemsServe}
use Rattle.entry_tree.specs.Adding.{IsEntryLeaf, list_entry, IsAdded, IsAnswer, leaf_with}
use Rattle.entry_tree.specs.Logging.{AddedItemsAreLogged, IsNewUnder}
use Rattle.entry_tree.specs.Reading.{upper_in}
use Rattle.entry_tree.specs.declared.adding.Added.{Added}
use Rattle.entry_tree.specs.declared.adding.Added.TheVariants as added
use Rattle.buffer_frames.specs.Frames.{FramesValue, Behind}
use Rattle.buffer_frames.specs.Passes.{IsPassOf, IsHolding, IsLogged, Seen, view_of}
use Rattle.buffer_frames.specs.declared.pass.Pass.{Pass}
use Rattle.gin_place.specs.Placing.{HasRight, ArePending, ArePlaced, IsOnWay}
use Rattle.gin_place.specs.Inner.Logging.{MayLogStep}
use Rattle.gin_place.specs.Inner.Reading.{HasItem, IsReading}
use Rattle.gin_place.specs.declared.reading.Reading.TheVariants as reading
use Rattle.gin_place.specs.declared.sought.Sought.TheVariants as sought
use Rattle.gin_place.proofs.Lists.{in_list, contained}
use Rattle.gin_place.proofs.Owing.{owes_of, right_of}

-- the leaf as the record leaves it
abbrev pub items_step : ℕ → Page → Step
items_step page new = record { kind = kind.AddItems; xid = 0; after = sheet page new ∷ [] }

-- what is told of a leaf with the items
pub record AddsTo (c : Page) (key items : List ℕ) (p : Page) : Type 0 where
  pub leaf : IsEntryLeaf c.body
  pub added : IsAdded c key items (added.Done p)
  pub within : UpTo key (upper_in c.body)
  pub fresh : (i : ℕ) × Contains items i × IsNewUnder c.body key i
  pub is_page : IsPage p

pub adds_to : (c : Page) (key items : List ℕ) (p : Page) (n : ℕ) → IsReading c key items (reading.Added p n)
    → AddsTo c key (take n items) p
adds_to c key items p n (IsReading.more q m is_leaf some most added within fresh is_page no_tree) = record {
  leaf = is_leaf;
  added = added;
  within = within;
  fresh = fresh;
  is_page = is_page;
}

-- the page that is answered is the leaf with the new list
answered : (c : Page) (list : List ℕ) (content : Body) (a : Added) (p : Page) → IsAnswer c list content a
    → a ≡ added.Done p → p.body ≡ content
answered c list content a p (IsAnswer.done short fits) e = let same : record c { body = content } ≡ p = cc in
    ap (λ (q : Page). q.body) (sym same)
answered c list content a p (IsAnswer.too_long long) e = absurd (let z : ⊥ = cc in z)
answered c list content a p (IsAnswer.full short long) e = absurd (let z : ⊥ = cc in z)

in_middle : (front back : List Entry) (e : Entry) → In e (front ++ e ∷ back)
in_middle [] back e = inl refl
in_middle (x ∷ front) back e = inr (in_middle front back e)

pub has_items : (c : Page) (key items : List ℕ) (p : Page) → AddsTo c key items p → (i : ℕ) → In i items
    → HasItem p.body key i
has_items c key items p a i on =
    let u = (a.added).under in
    let is : p.body ≡ leaf_with u = answered c u.list (leaf_with u) (added.Done p) p (a.added).is refl in
    record {
      list = u.list;
      entry = subst (λ (b : Body). In (list_entry key u.list) (entries_in b)) (sym is)
          (in_middle u.front u.back (list_entry key u.list));
      item = in_list i (items_of u.list) (((u.united).has i).1 (inr (contained i items on)));
    }

-- an item on a page's list is in the main part
pub main_of : (P : Pages) (page : ℕ) (key : List ℕ) (i : ℕ) → HasItem (P page).body key i → Main P key i
main_of P page key i h = record {
  page = page;
  entry = list_entry key h.list;
  on = h.entry;
  key = refl;
  under = Under.inline h.list refl h.item;
}

module _ {D : Type 0} (device : Disk D) (f : FramesValue D) (pass : Pass) (held : Sheet) (new : Page)
    (key items : List ℕ) (a : AddsTo held.content key items new) (hold : IsHolding device f pass (held ∷ []))
    (low : held.page < page_limit) where
  leaf_used : new.body ≢ body.Free
  leaf_used free =
      let u = (a.added).under in
      let is : new.body ≡ leaf_with u =
      answered held.content u.list (leaf_with u) (added.Done new) new (a.added).is refl in
      let e : leaf_with u ≡ body.Free = sym is ∙ free in
      let z : ⊥ = cc in z

  items_allowed : IsPassOf f pass → HasRight pass → IsOnWay device f pass key sought.Key held.page
      → ArePending device f pass key items → MayBy CanAddItems → ItemsServe → AddedItemsAreLogged
      → Behind device f (λ (R : Log). MayLog (view_of f pass R (held ∷ [])) (items_step held.page new))
  items_allowed of right way rows may serve logged t up R stands legal =
      let v = view_of f pass R (held ∷ []) in
      may v (items_step held.page new) (λ P seen_is shown.
      serve v P (items_step held.page new) held.page key items held.content new refl refl
      (right_of device f pass (held ∷ []) R of right stands) (inl refl)
      (λ k r kd ch.
      let x = logged k r held.page key items held.content new a.leaf a.added a.within a.fresh kd ch in
      (x.here, x.key_is, x.items_are))
      (record {
        place = way t up R stands legal P shown;
        rows = λ i on. rows i on t up R stands legal P shown;
      }))

  pub items_may_log : IsPassOf f pass → HasRight pass → IsOnWay device f pass key sought.Key held.page
      → ArePending device f pass key items → MayBy CanAddItems → ItemsServe → AddedItemsAreLogged
      → MayLogStep device f pass (held ∷ []) (items_step held.page new)
  items_may_log of right way rows may serve logged = record {
    is_pass = of;
    right = right;
    holding = hold;
    encoded = record {
      kind = tt;
      few = omega arith;
      each = (record { page = low; content = a.is_page; used = leaf_used }, tt);
      once = (tt, tt);
    };
    kind = tt;
    placing = (omega arith, omega arith);
    pages = omega arith;
    may = items_allowed of right way rows may serve logged;
    owes = owes_of device f pass (held ∷ []) (items_step held.page new) of right refl (omega arith, omega arith)
        (λ p i. i) (tt, tt)
        (λ x i. ⊎_elim (λ (e : x ≡ sheet held.page new). subst (λ (z : Sheet). IsPage z.content) (sym e) a.is_page)
        absurd i);
  }

  -- all items are under the key once it is logged
  made_content : (r : Record) (log : Log) → r.kind ≡ drawn_kind log kind.AddItems → (made_by r new).body ≡ new.body
  made_content r log is = ap (λ (k : Kind). drawn_body k new.body) is

  pub items_placed : (f' : FramesValue D) (pass' : Pass)
      → Seen device f' pass' (λ S P. IsLogged (view_of f' pass S (held ∷ [])) (items_step held.page new) S P)
      → ArePlaced device f' pass' key items
  items_placed f' pass' seen i on t up R stands legal P shown =
      let l = seen t up R stands legal P shown in
      let here : P held.page ≡ made_by l.newest new = (l.leaves).here.0 in
      let content : (P held.page).body ≡ new.body =
      ap (λ (c : Page). c.body) here ∙ made_content l.newest l.log (l.drawn).kind in
      main_of P held.page key i
      (subst (λ (b : Body). HasItem b key i) (sym content) (has_items held.content key items new a i on))
