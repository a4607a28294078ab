-- The step by which a key's list becomes a posting tree, and what the key's entry names then.
use Rattle.std.proofs.Common.{◌≡◌, ◌<◌, ℕ, zero, suc, List, [], ◌∷◌, Some, refl, sym, ap, subst, ◌∙◌, inl}
use Rattle.std.proofs.Common.{inr, arith}
use Rattle.std.specs.List.{slice_get}
use Rattle.std.proofs.lemmas.Option.{same_Some}
use Rattle.disk_trait.specs.declared.device.Disk.{Ghosts as Disk}
use Rattle.page_types.specs.Numbers.{page_limit}
use Rattle.page_types.specs.Records.{IsKind, kind_number}
use Rattle.page_types.specs.Views.{entries_in, with_postings}
use Rattle.page_types.specs.declared.page.Page.{Page}
use Rattle.page_types.specs.declared.page.Entry.{Entry}
use Rattle.page_types.specs.declared.page.Postings.TheVariants.{Root}
use Rattle.page_types.specs.declared.page.Body.{Body}
use Rattle.page_types.specs.declared.record.Kind.{Kind}
use Rattle.page_types.specs.declared.record.Kind.TheVariants as kind
use Rattle.core_state.specs.Log.{Log, In}
use Rattle.core_state.specs.TreeRules.{TowardItem}
use Rattle.core_state.specs.Allowed.{Sheet, Step, MayLog, AreMade, made_by, drawn_body}
use Rattle.core_state.specs.Steps.{MayBy}
use Rattle.core_state.proofs.Steps.Heads.{drawn_as}
use Rattle.core_maintenance.specs.TreeSteps.{CanMakeTree}
use Rattle.core_maintenance.specs.TreePages.{TreePagesServe}
use Rattle.entry_tree.specs.Adding.{list_entry, tree_entry}
use Rattle.entry_tree.specs.Rooting.{rooted}
use Rattle.posting_tree.specs.Adding.{first_leaf}
use Rattle.posting_tree.specs.Logging.{FirstLeafIsLogged}
use Rattle.buffer_frames.specs.Opens.{IsLoggedKind}
use Rattle.buffer_frames.specs.Frames.{FramesValue, Behind}
use Rattle.buffer_frames.specs.Passes.{IsPassOf, IsHolding, view_of}
use Rattle.buffer_frames.specs.declared.pass.Pass.{Pass}
use Rattle.gin_place.specs.Going.{IsPlacingKind}
use Rattle.gin_place.specs.Placing.{HasRight, IsOnWay}
use Rattle.gin_place.specs.Holding.{IsNewHeld}
use Rattle.gin_place.specs.Inner.Logging.{MayLogStep, LogsStep, IsTreeStep}
use Rattle.gin_place.specs.Inner.Reading.{IsLongAt}
use Rattle.gin_place.specs.declared.sought.Sought.TheVariants as sought
use Rattle.gin_place.proofs.TwoPages.{two_may_log}

-- the entry that names a tree is among them
in_rooted : (entries : List Entry) (place root : ℕ) (key list : List ℕ)
    → slice_get entries place ≡ Some (list_entry key list)
    → In (tree_entry key root) (with_postings entries place (Root root))
in_rooted [] place root key list at = absurd (let z : ⊥ = cc in z)
in_rooted (e ∷ entries) zero root key list at =
    let named : Entry → Entry = λ x. record { key = x.key; postings = Root root } in
    inl (sym (ap named (same_Some e (list_entry key list) at)))
in_rooted (e ∷ entries) (suc place) root key list at = inr (in_rooted entries place root key list at)

module _ {D : Type 0} (device : Disk D) (f : FramesValue D) (pass : Pass) (old new : Sheet) (place : ℕ) (s : Step)
    (made : IsTreeStep place old new s) (hold : IsHolding device f pass (new ∷ old ∷ []))
    (low : old.page < page_limit) (low_too : new.page < page_limit) where
  abbrev named : Page
  named = record (old.content) { body = rooted old.content.body place new.page }

  tree_allowed : MayBy CanMakeTree → TreePagesServe → FirstLeafIsLogged → IsNewHeld device f pass new
      → Behind device f (λ (R : Log). MayLog (view_of f pass R (new ∷ old ∷ [])) s)
  tree_allowed may serve first is_new t up R stands legal =
      may (view_of f pass R (new ∷ old ∷ [])) s (λ P seen_is shown.
      serve (view_of f pass R (new ∷ old ∷ [])) P s old.page new.page old.content new.content named
      (first_leaf made.list) made.kind_is made.after_is (inr (inl refl)) (inl refl)
      (is_new t up R stands legal P shown)
      (λ k r kd ch fresh.
      first k r pass.since old.page new.page place made.key made.list old.content new.content made.leaf made.there kd ch
      fresh))

  pub tree_may_log : IsPassOf f pass → HasRight pass → MayBy CanMakeTree → TreePagesServe → FirstLeafIsLogged
      → IsNewHeld device f pass new → MayLogStep device f pass (new ∷ old ∷ []) s
  tree_may_log of right may serve first is_new =
      two_may_log device f pass old new named (first_leaf made.list) s hold made.xid made.after_is low low_too
      made.pages
      ((λ free. let z : ⊥ = cc in z), (λ free. let z : ⊥ = cc in z)) of right (subst IsKind (sym made.kind_is) tt)
      (subst IsLoggedKind (sym made.kind_is) tt)
      (subst (λ (k : Kind). IsPlacingKind (kind_number k)) (sym made.kind_is) (omega arith, omega arith))
      (tree_allowed may serve first is_new)

  -- the way begins at the tree's root once it is logged
  pub tree_named : (f' : FramesValue D) (pass' : Pass) → LogsStep device f pass (new ∷ old ∷ []) s f' pass'
      → (key : List ℕ) (item : ℕ) → IsLongAt old.content key place
      → IsOnWay device f' pass' key (sought.Item new.page item) new.page
  tree_named f' pass' logs key item long t up R stands legal Q shown =
      let l = logs.seen t up R stands legal Q shown in
      let here : Q old.page ≡ made_by l.newest named =
      (subst (AreMade Q l.newest) made.after_is (l.leaves).here).0 in
      let kd : (l.newest).kind ≡ kind.MakeTree = drawn_as l.log s l.newest l.drawn kind.MakeTree made.kind_is in
      let content : (Q old.page).body ≡ rooted old.content.body place new.page =
      ap (λ (c : Page). c.body) here ∙ ap (λ (k : Kind). drawn_body k (rooted old.content.body place new.page)) kd in (
        record {
          page = old.page;
          entry = tree_entry key new.page;
          on = subst (λ (b : Body). In (tree_entry key new.page) (entries_in b)) (sym content)
              (in_rooted (entries_in old.content.body) place new.page key long.list long.there);
          key = refl;
          names = refl;
        },
        TowardItem.here,
      )
