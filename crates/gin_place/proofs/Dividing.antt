-- The step by which a page of a tree is split.
use Rattle.std.proofs.Common.{◌≡◌, ◌≢◌, ◌<◌, ◌≤◌, ◌^◌, ℕ, List, [], ◌∷◌, length, refl, sym, ap, subst}
use Rattle.std.proofs.Common.{inl, inr, arith}
use Rattle.std.specs.List.{AllByRecursion}
use Rattle.disk_trait.specs.declared.device.Disk.{Ghosts as Disk}
use Rattle.page_types.specs.Numbers.{page_limit}
use Rattle.page_types.specs.Keys.{Rising}
use Rattle.page_types.specs.Pages.{IsPage}
use Rattle.page_types.specs.Records.{IsKind, kind_number}
use Rattle.page_types.specs.declared.page.Page.{Page}
use Rattle.page_types.specs.declared.page.Body.TheVariants as body
use Rattle.page_types.specs.declared.record.Kind.{Kind}
use Rattle.page_types.specs.declared.record.Kind.TheVariants as kind
use Rattle.page_types.specs.declared.record.Record.{Record}
use Rattle.core_state.specs.Log.{Log, In, changed}
use Rattle.core_state.specs.Allowed.{Sheet, Step, MayLog, sheet_pages}
use Rattle.core_state.specs.Steps.{MayBy, sheet}
use Rattle.core_state.specs.TreeRules.{IsSplitHere}
use Rattle.core_state.specs.Known.{Known}
use Rattle.core_state.specs.Changes.{made_with, IsNew}
use Rattle.core_maintenance.specs.TreeSteps.{CanSplit}
use Rattle.core_maintenance.specs.TreePages.{SplitPagesServe}
use Rattle.entry_tree.specs.Logging as entry_laws
use Rattle.posting_tree.specs.Logging as post_laws
use Rattle.buffer_frames.specs.Drawing.{IsSheet}
use Rattle.buffer_frames.specs.Opens.{IsLoggedKind}
use Rattle.buffer_frames.specs.Frames.{FramesValue, Behind}
use Rattle.buffer_frames.specs.Passes.{IsPassOf, IsHolding, view_of}
use Rattle.buffer_frames.specs.declared.pass.Pass.{Pass}
use Rattle.gin_place.specs.Going.{IsPlacingKind}
use Rattle.gin_place.specs.Placing.{HasRight}
use Rattle.gin_place.specs.Holding.{IsNewHeld}
use Rattle.gin_place.specs.Inner.Dividing.{AreSplit}
use Rattle.gin_place.specs.Inner.Logging.{MayLogStep, Adopts, AreSplitIn, IsSplitStep}
use Rattle.gin_place.specs.declared.sought.Sought.{Sought}
use Rattle.gin_place.specs.declared.sought.Sought.TheVariants as sought
use Rattle.gin_place.proofs.Owing.{owes_of}

adopted_used : (t : Sought) (page new : ℕ) (left parent adopted : Page) → Adopts t page new left parent adopted
    → adopted.body ≢ body.Free
adopted_used sought.Key page new left parent adopted x e = let both = x.after in let z : ⊥ = cc in z
adopted_used (sought.Item root item) page new left parent adopted x e = let both = x.after in let z : ⊥ = cc in z

-- the parts with the parent that takes the new page
pub parts_in : (t : Sought) (old new above : Sheet) (left right adopted : Page)
    → AreSplit t old.content new.page left right → Adopts t old.page new.page left above.content adopted
    → adopted ≡ record above.content { body = adopted.body } → IsPage adopted
    → AreSplitIn t old new above left right adopted
parts_in t old new above left right adopted x adopts same is_page = record {
  keep = x.keep;
  was = x.was;
  on_tree = x.on_tree;
  large = x.large;
  parts = x.parts;
  adopts = adopts;
  same = same;
  pages = (x.pages.0, x.pages.1, is_page);
  used = (x.used.0, x.used.1, adopted_used t old.page new.page left above.content adopted adopts);
}

-- the step of these three pages
pub split_made : (t : Sought) (old new above : Sheet) (left right adopted : Page) (s : Step)
    → AreSplitIn t old new above left right adopted
    → s ≡ record {
      kind = kind.Split;
      xid = 0;
      after = sheet old.page left ∷ sheet new.page right ∷ sheet above.page adopted ∷ [];
    }
    → IsSplitStep t old new above s
split_made t old new above left right adopted s parts made = record {
  left = left;
  right = right;
  adopted = adopted;
  kind_is = ap (λ (t : Step). t.kind) made;
  xid = ap (λ (t : Step). t.xid) made;
  after_is = ap (λ (t : Step). t.after) made;
  split = parts;
}

-- the pages of either tree are what a Split asks of its pages
split_in : (t : Sought) → entry_laws.SplitPagesAreLogged → post_laws.SplitPagesAreLogged → (k : Known) (r : Record)
    (since : ℕ) (old new above : Sheet) (left right adopted : Page) → IsPage old.content
    → AreSplitIn t old new above left right adopted → r.kind ≡ kind.Split
    → changed r ≡ old.page ∷ new.page ∷ above.page ∷ [] → IsNew k.uses since new.page
    → IsSplitHere since k r (old.content ∷ new.content ∷ above.content ∷ [])
    (made_with r left.right left.body ∷ made_with r right.right right.body
    ∷ made_with r adopted.right adopted.body ∷ [])
split_in sought.Key e p k r since old new above left right adopted is_page x =
    e k r since old.page new.page above.page x.keep old.content new.content above.content left right adopted x.on_tree
    is_page x.large x.parts x.adopts x.same
split_in (sought.Item root item) e p k r since old new above left right adopted is_page x =
    p k r since old.page new.page above.page x.keep old.content new.content above.content left right adopted x.on_tree
    is_page x.large x.parts x.adopts x.same

module _ {D : Type 0} (device : Disk D) (f : FramesValue D) (pass : Pass) (t : Sought) (old new above : Sheet)
    (s : Step) (made : IsSplitStep t old new above s) (hold : IsHolding device f pass (new ∷ old ∷ above ∷ []))
    (is_page : IsPage old.content) (low : (old.page < page_limit) × (new.page < page_limit) × (above.page < page_limit))
  where
    split_allowed : MayBy CanSplit → SplitPagesServe → entry_laws.SplitPagesAreLogged
        → post_laws.SplitPagesAreLogged → IsNewHeld device f pass new
        → Behind device f (λ (R : Log). MayLog (view_of f pass R (new ∷ old ∷ above ∷ [])) s)
    split_allowed may serve entries posts is_new told up R stands legal =
        may (view_of f pass R (new ∷ old ∷ above ∷ [])) s (λ P seen_is shown.
        serve (view_of f pass R (new ∷ old ∷ above ∷ [])) P s old.page new.page above.page old.content new.content
        above.content made.left made.right made.adopted made.kind_is made.after_is (inr (inl refl)) (inl refl)
        (inr (inr (inl refl))) (is_new told up R stands legal P shown)
        (λ k r kd ch fresh.
        split_in t entries posts k r pass.since old new above made.left made.right made.adopted is_page made.split kd ch
        fresh))

    split_pages : sheet_pages s.after ≡ old.page ∷ new.page ∷ above.page ∷ []
    split_pages = ap sheet_pages made.after_is

    apart : Rising (λ (p q : ℕ). p ≢ q) (sheet_pages s.after)
    apart = subst (Rising (λ (p q : ℕ). p ≢ q)) (sym split_pages)
        (((λ e. (hold.once).0.0 (sym e)), ((hold.once).1.0.0, tt)), (((hold.once).0.1.0, tt), (tt, tt)))

    pub split_may_log : IsPassOf f pass → HasRight pass → MayBy CanSplit → SplitPagesServe
        → entry_laws.SplitPagesAreLogged → post_laws.SplitPagesAreLogged → IsNewHeld device f pass new
        → MayLogStep device f pass (new ∷ old ∷ above ∷ []) s
    split_may_log of right may serve entries posts is_new =
        let placing : IsPlacingKind (kind_number s.kind) =
        subst (λ (k : Kind). IsPlacingKind (kind_number k)) (sym made.kind_is) (omega arith, omega arith) in
        record {
          is_pass = of;
          right = right;
          holding = hold;
          encoded = record {
            kind = subst IsKind (sym made.kind_is) tt;
            few = subst (λ (xs : List Sheet). length xs < 2 ^ 8) (sym made.after_is) (omega arith);
            each = subst (AllByRecursion IsSheet) (sym made.after_is) (
              record { page = low.0; content = made.split.pages.0; used = made.split.used.0 },
              (
                record { page = low.1; content = made.split.pages.1; used = made.split.used.1 },
                (record { page = low.2; content = made.split.pages.2; used = made.split.used.2 }, tt),
              ),
            );
            once = apart;
          };
          kind = subst IsLoggedKind (sym made.kind_is) tt;
          placing = placing;
          pages = subst (λ (xs : List Sheet). length xs ≤ 3) (sym made.after_is) (omega arith);
          may = split_allowed may serve entries posts is_new;
          owes = owes_of device f pass (new ∷ old ∷ above ∷ []) s of right made.xid placing
              (λ p i. in_held p (subst (In p) split_pages i)) apart
              (λ x i. are_pages x (subst (In x) made.after_is i));
        }
      where
        in_held : (p : ℕ) → In p (old.page ∷ new.page ∷ above.page ∷ []) → In p (new.page ∷ old.page ∷ above.page ∷ [])
        in_held p (inl e) = inr (inl e)
        in_held p (inr (inl e)) = inl e
        in_held p (inr (inr (inl e))) = inr (inr (inl e))
        in_held p (inr (inr (inr i))) = absurd i

        are_pages : (x : Sheet)
            → In x (sheet old.page made.left ∷ sheet new.page made.right ∷ sheet above.page made.adopted ∷ [])
            → IsPage x.content
        are_pages x (inl e) = subst (λ (z : Sheet). IsPage z.content) (sym e) made.split.pages.0
        are_pages x (inr (inl e)) = subst (λ (z : Sheet). IsPage z.content) (sym e) made.split.pages.1
        are_pages x (inr (inr (inl e))) = subst (λ (z : Sheet). IsPage z.content) (sym e) made.split.pages.2
        are_pages x (inr (inr (inr i))) = absurd i
