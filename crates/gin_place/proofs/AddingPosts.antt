-- The step by which items come to a leaf of a posting tree, and what is under its key then.
use Rattle.std.proofs.Common.{◌≡◌, ◌≢◌, ◌<◌, ◌≤◌, ⊎_elim, ℕ, List, [], ◌∷◌, length, take, refl, sym, ap, subst, ◌∙◌}
use Rattle.std.proofs.Common.{inl, arith}
use Rattle.std.specs.List.{Contains}
use Rattle.disk_trait.specs.declared.device.Disk.{Ghosts as Disk}
use Rattle.ts_base.specs.Keys.{Key}
use Rattle.page_types.specs.Numbers.{page_limit, item_limit}
use Rattle.page_types.specs.Pages.{IsPage}
use Rattle.page_types.specs.Views.{posting_items_in}
use Rattle.page_types.specs.declared.page.Page.{Page}
use Rattle.page_types.specs.declared.page.Body.{Body}
use Rattle.page_types.specs.declared.page.Body.TheVariants as body
use Rattle.page_types.specs.declared.record.Kind.TheVariants as kind
use Rattle.page_types.specs.declared.record.Record.{Record}
use Rattle.core_state.specs.Log.{Log, Pages, In, cut}
use Rattle.core_state.specs.Changes.{ItemUpTo}
use Rattle.core_state.specs.Index.{Pending, Main}
use Rattle.core_state.specs.Known.{Known, known}
use Rattle.core_state.specs.Changes.{made_with}
use Rattle.core_state.specs.TreeRules.{ItemsAdded, IsAddPostingsHere, IsAddPostingsRest}
use Rattle.core_state.specs.Allowed.{Sheet, View, Step, MayLog}
use Rattle.core_state.specs.Steps.{MayBy, sheet}
use Rattle.core_state.proofs.Steps.Seen.{seen_legal, seen_shown}
use Rattle.core_state.proofs.Steps.Heads.{drawn_as, drawn_pages}
use Rattle.core_maintenance.specs.Right as maintenance
use Rattle.core_maintenance.specs.AddedPairs.{AddedPostingsAreMain}
use Rattle.core_maintenance.specs.Leading.{WaysLead, WaysHold}
use Rattle.core_maintenance.specs.MovingSteps.{CanAddPostings}
use Rattle.core_maintenance.specs.MovingPages.{PostingsServe}
use Rattle.posting_tree.specs.Adding.{IsAdded, IsAnswer}
use Rattle.posting_tree.specs.Logging.{AddedPostingsAreLogged}
use Rattle.posting_tree.specs.Reading.{upper_in}
use Rattle.posting_tree.specs.declared.adding.Added.{Added}
use Rattle.posting_tree.specs.declared.adding.Added.TheVariants as added
use Rattle.buffer_frames.specs.Frames.{FramesValue, Behind}
use Rattle.buffer_frames.specs.Passes.{IsPassOf, IsHolding, Seen, view_of}
use Rattle.buffer_frames.specs.declared.pass.Pass.{Pass}
use Rattle.buffer_frames.proofs.AtHand.{cut_length, log_length}
use Rattle.gin_place.specs.Trees.{Leads}
use Rattle.gin_place.specs.Placing.{HasRight, ArePending, ArePlaced, IsOnWay}
use Rattle.gin_place.specs.Inner.Logging.{MayLogStep, LogsStep}
use Rattle.gin_place.specs.Inner.ReadingItems.{IsReadingOf}
use Rattle.gin_place.specs.declared.reading.Reading.TheVariants as reading
use Rattle.gin_place.specs.declared.sought.Sought.TheVariants as sought
use Rattle.gin_place.proofs.Lists.{contained}
use Rattle.gin_place.proofs.Carrying.{view_right}
use Rattle.gin_place.proofs.Logs.{seen_before}
use Rattle.gin_place.proofs.Owing.{owes_of, right_of}

-- the leaf as the record leaves it
abbrev pub posts_step : ℕ → Page → Step
posts_step page new = record { kind = kind.AddPostings; xid = 0; after = sheet page new ∷ [] }

-- what is told of a leaf with these items
pub record PostsTo (c : Page) (part : List ℕ) (p : Page) : Type 0 where
  pub added : IsAdded c part (added.Done p)
  pub within : (i : ℕ) → Contains part i → ItemUpTo i (upper_in c.body)
  pub fresh : (i : ℕ) × Contains part i × (Contains (posting_items_in c.body) i → ⊥)
  pub is_page : IsPage p

pub posts_to : (c : Page) (items : List ℕ) (p : Page) (n : ℕ) → IsReadingOf c items (reading.Added p n)
    → PostsTo c (take n items) p
posts_to c items p n (IsReadingOf.more q m some most added within fresh is_page) = record {
  added = added;
  within = within;
  fresh = fresh;
  is_page = is_page;
}

-- the page that is answered is the leaf with the new list
posts_answered : (c : Page) (content : Body) (a : Added) (p : Page) → IsAnswer c content a → a ≡ added.Done p
    → p.body ≡ content
posts_answered c content a p (IsAnswer.done fits) e = let same : record c { body = content } ≡ p = cc in
    ap (λ (q : Page). q.body) (sym same)
posts_answered c content a p (IsAnswer.full long) e = absurd (let z : ⊥ = cc in z)

one_page : (a b : Page) → a ∷ [] ≡ b ∷ [] → a ≡ b
one_page a b e = cc

-- what is shown of the step, as a record that is logged asks it of its pages
can_add : (v : View) (P : Pages) (held : Sheet) (new : Page) (part : List ℕ) {k : Known} {r : Record}
    (x : IsAddPostingsHere k r (held.content ∷ []) (made_with r new.right new.body ∷ [])) → x.items ≡ part
    → maintenance.HasRight v → (rest : IsAddPostingsRest P part held.page) → In held v.held
    → CanAddPostings v P (posts_step held.page new)
can_add v P held new part {k} {r} x are may rest on =
    let old : held.content ≡ x.old = one_page held.content x.old x.before_is in
    let now : made_with r new.right new.body ≡ made_with r (x.old).right (body.PostLeaf x.high x.new_list) =
    one_page (made_with r new.right new.body) (made_with r (x.old).right (body.PostLeaf x.high x.new_list)) x.after_is
    in
    record {
      page = held.page;
      items = part;
      high = x.high;
      old_list = x.old_list;
      new_list = x.new_list;
      old = held.content;
      new = new;
      kind_is = refl;
      after_is = refl;
      may = may;
      held = on;
      was = ap (λ (p : Page). p.body) old ∙ x.was;
      within = subst (λ (is : List ℕ). (i : ℕ) → In i is → ItemUpTo i x.high) are x.within;
      added = subst (ItemsAdded x.old_list x.new_list) are x.added;
      rest = rest;
      right = ap (λ (p : Page). p.right) now ∙ sym (ap (λ (p : Page). p.right) old);
      content = ap (λ (p : Page). p.body) now;
    }

module _ {D : Type 0} (device : Disk D) (f : FramesValue D) (pass : Pass) (held : Sheet) (new : Page)
    (key : List ℕ) (root item : ℕ) (part : List ℕ) (a : PostsTo held.content part new)
    (hold : IsHolding device f pass (held ∷ [])) (low : held.page < page_limit)
    (after : (i : ℕ) → In i part → (item ≤ i) × (i < item_limit)) where
  leaf_used : new.body ≢ body.Free
  leaf_used free =
      let is : new.body ≡ body.PostLeaf (a.added).high (a.added).list =
      posts_answered held.content (body.PostLeaf (a.added).high (a.added).list) (added.Done new) new (a.added).is refl
      in
      let e : body.PostLeaf (a.added).high (a.added).list ≡ body.Free = sym is ∙ free in
      let z : ⊥ = cc in z

  -- what is seen of the way and the rows
  abbrev Ready : Pages → Type 0
  Ready P = Leads P key (sought.Item root item) held.page × (P held.page ≡ held.content)
      × ((i : ℕ) → In i part → Pending P key i)

  ready : IsOnWay device f pass key (sought.Item root item) held.page
      → Seen device f pass (λ S P. P held.page ≡ held.content) → ArePending device f pass key part
      → Seen device f pass (λ S P. Ready P)
  ready way seen rows t up R stands legal P shown = (
    way t up R stands legal P shown,
    seen t up R stands legal P shown,
    λ i on. rows i on t up R stands legal P shown,
  )

  -- the way for each item is that for the first
  posts_rest : (P : Pages) → WaysLead P → Ready P → (rest : IsAddPostingsRest P part held.page) × (rest.key ≡ key)
  posts_rest P lead was =
      let content : (P held.page).body ≡ body.PostLeaf (a.added).high (a.added).old =
      ap (λ (c : Page). c.body) was.1 ∙ (a.added).was in (
        record {
          key = key;
          root = root;
          named = was.0.0;
          place = λ i j.
              let near = after i j in
              let up_to : ItemUpTo i (a.added).high =
              subst (λ (b : Body). ItemUpTo i (upper_in b)) (a.added).was (a.within i (contained i part j)) in
              lead.post_near key root item i held.page (a.added).high (a.added).old was.0.0 near.0 near.1 was.0.1
              content up_to;
          rows = was.2;
        },
        refl,
      )

  posts_allowed : IsPassOf f pass → HasRight pass → IsOnWay device f pass key (sought.Item root item) held.page
      → Seen device f pass (λ S P. P held.page ≡ held.content) → ArePending device f pass key part → WaysHold
      → MayBy CanAddPostings → PostingsServe → AddedPostingsAreLogged
      → Behind device f (λ (R : Log). MayLog (view_of f pass R (held ∷ [])) (posts_step held.page new))
  posts_allowed of right way seen rows ways may serve logged t up R stands legal =
      let v = view_of f pass R (held ∷ []) in
      let allowed = hold.allowed t up R stands legal in
      let owner = right_of device f pass (held ∷ []) R of right stands in
      may v (posts_step held.page new) (λ P seen_is shown.
      let lead = ways v.seen P owner.started (seen_legal v R allowed) shown in
      serve v P (posts_step held.page new) held.page part held.content new refl refl owner (inl refl)
      (λ k r kd ch.
      let x = logged k r held.page part held.content new a.added a.within a.fresh kd ch in
      (x.here, x.items_are))
      (posts_rest P lead (ready way seen rows t up R stands legal P shown)).0)

  pub posts_may_log : IsPassOf f pass → HasRight pass → IsOnWay device f pass key (sought.Item root item) held.page
      → Seen device f pass (λ S P. P held.page ≡ held.content) → ArePending device f pass key part → WaysHold
      → MayBy CanAddPostings → PostingsServe → AddedPostingsAreLogged
      → MayLogStep device f pass (held ∷ []) (posts_step held.page new)
  posts_may_log of right way seen rows ways may serve logged = record {
    is_pass = of;
    right = right;
    holding = hold;
    encoded = record {
      kind = tt;
      few = omega arith;
      each = (record { page = low; content = a.is_page; used = leaf_used }, tt);
      once = (tt, tt);
    };
    kind = tt;
    placing = (omega arith, omega arith);
    pages = omega arith;
    may = posts_allowed of right way seen rows ways may serve logged;
    owes = owes_of device f pass (held ∷ []) (posts_step held.page new) of right refl (omega arith, omega arith)
        (λ p i. i) (tt, tt)
        (λ x i. ⊎_elim (λ (e : x ≡ sheet held.page new). subst (λ (z : Sheet). IsPage z.content) (sym e) a.is_page)
        absurd i);
  }

  -- the items are under the key once it is logged
  pub posts_placed : (f' : FramesValue D) (pass' : Pass)
      → LogsStep device f pass (held ∷ []) (posts_step held.page new) f' pass' → IsPassOf f pass → HasRight pass
      → IsOnWay device f pass key (sought.Item root item) held.page
      → Seen device f pass (λ S P. P held.page ≡ held.content) → ArePending device f pass key part → WaysHold
      → AddedPostingsAreLogged → AddedPostingsAreMain → ArePlaced device f' pass' key part
  unfolding can_add
  posts_placed f' pass' logs of right way seen rows ways logged main i on t up R stands legal Q shown =
      let S : Log = cut pass'.seen R in
      let s : Step = posts_step held.page new in
      let l = logs.seen t up R stands legal Q shown in
      let w = logs.works in
      let v = view_of f' pass S (held ∷ []) in
      let P = seen_shown v l.log l.allowed in
      let was = seen_before device f f' pass pass' 15 of w.added w.rises w.is_pass (λ T U. Ready U)
      (ready way seen rows) t up R stands legal Q shown P.0 P.1 in
      let size : length S ≡ pass'.seen =
      cut_length pass'.seen R (omega (arith, (w.is_pass).seen, log_length device f'.journal R stands.journal)) in
      let owner =
      view_right f' pass S (held ∷ []) right (omega (arith, of.some)) (omega (arith, size, (w.rises).seen)) in
      let rest = posts_rest P.0 (ways v.seen P.0 owner.started (seen_legal v l.log l.allowed) P.1) was in
      let kd : (l.newest).kind ≡ kind.AddPostings = drawn_as l.log s l.newest l.drawn kind.AddPostings refl in
      let ch = drawn_pages l.log s l.newest l.drawn (sheet held.page new ∷ []) refl in
      let x = logged (known l.log (l.allowed).pages) l.newest held.page part held.content new a.added a.within a.fresh
      kd ch in
      let can : CanAddPostings v P.0 s =
      can_add v P.0 held new part x.here x.items_are owner rest.0 (inl refl) in
      subst (λ (k : Key). Main Q k i) rest.1
      (main v P.0 s can l.log l.allowed l.newest Q P.1 l.drawn l.leaves i on)
