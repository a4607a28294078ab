-- The pages around an empty leaf are as they were found in each legal log.
use Rattle.std.proofs.Common.{◌≡◌, ◌≢◌, ℕ, List, [], ◌∷◌, ◌++◌, length, refl, sym, ap, subst, ◌∙◌, arith, length-append}
use Rattle.disk_trait.specs.declared.device.Disk.{Ghosts as Disk}
use Rattle.page_types.specs.Pages.{IsPage, IsBody}
use Rattle.page_types.specs.declared.page.Page.{Page}
use Rattle.page_types.specs.declared.page.Body.TheVariants as body
use Rattle.core_state.specs.Log.{Log, Pages, Shows, cut}
use Rattle.core_state.specs.Allowed.{Sheet, View, IsAllowed}
use Rattle.core_state.specs.Legal.{IsLegal}
use Rattle.core_state.specs.PagesTold.{IsPostLeaf}
use Rattle.core_state.proofs.LawsHold.{pages}
use Rattle.core_state.proofs.Steps.Seen.{seen_legal, seen_shown, steady_facts}
use Rattle.core_maintenance.specs.Right as maintenance
use Rattle.core_maintenance.proofs.Found.{right_keeps_found}
use Rattle.core_maintenance.proofs.Right.{index_stays}
use Rattle.buffer_frames.specs.Frames.{FramesValue, Behind}
use Rattle.buffer_frames.specs.Passes.{IsPassOf, IsHolding, Seen, view_of}
use Rattle.buffer_frames.specs.declared.pass.Pass.{Pass}
use Rattle.gin_place.specs.Causes.{CannotUse}
use Rattle.gin_place.specs.Placing.{HasRight}
use Rattle.gin_place.proofs.Lawful.{usable}
use Rattle.gin_place.proofs.Owing.{right_of}
use Rattle.gin_vacuum.specs.Sweeping.{IsAt, IsAfter}
use Rattle.gin_vacuum.specs.Stepping.{LeadsTo, IsEmptyPage}
use Rattle.gin_vacuum.specs.Inner.Deleting.{IsFoundEmpty}
use Rattle.gin_vacuum.specs.declared.deleting.Empty.{Empty}
use Rattle.gin_vacuum.specs.declared.sweeping.Stage.TheVariants as stage
use Rattle.gin_vacuum.proofs.Kept.{at_then}
use Rattle.gin_vacuum.proofs.StaysOn.{StaysOn}

-- a log that is allowed to a session with the right is what it has seen and records of others
pub allowed_stays : (v : View) (R : Log) (a : IsAllowed v R) → maintenance.HasRight v → (P : Pages) → Shows v.seen P
    → StaysOn v.seen R P a.pages
allowed_stays v R a r P shown = record {
  later = a.later;
  goes_on = a.goes_on;
  some = r.started;
  legal = seen_legal v R a;
  legal_then = a.legal;
  shown = shown;
  shown_then = a.shown;
  index = index_stays v R a P shown r;
  ends = (steady_facts v R a P shown r.started).ends_stay;
  found = right_keeps_found v R a P r shown;
}

used_leaf : (c : Page) (high : ℕ) (items : List ℕ) → c.body ≡ body.PostLeaf high items → c.body ≢ body.Free
used_leaf c high items is free = let two : body.PostLeaf high items ≡ body.Free = sym is ∙ free in let z : ⊥ = cc in z

-- a leaf with a right link has a high item
high_of : (c : Page) (high : ℕ) (items : List ℕ) → IsPage c → c.body ≡ body.PostLeaf high items → c.right ≢ 0
    → high ≢ 0
high_of c high items page is some =
    let b : IsBody c.right c.stamp (body.PostLeaf high items) = subst (IsBody c.right c.stamp) is page.body in
    (b.0).some some

some_after : (S S' later : Log) → S' ≡ later ++ S → S ≢ [] → S' ≢ []
some_after [] S' later e some none = some refl
some_after (r ∷ S) S' later e some none =
    omega (arith, ap length none, ap length e, length-append later (r ∷ S))

-- no leaf is page 0
pub leaf_not_zero : (S : Log) (P : Pages) → S ≢ [] → IsLegal S → Shows S P → (p high : ℕ) (items : List ℕ)
    → (P p).body ≡ body.PostLeaf high items → p ≢ 0
leaf_not_zero S P some legal shown p high items is zero =
    let m = (pages S P legal shown).list.meta some in
    no_meta m.0 m.1 _ (sym m.2 ∙ ap (λ (q : ℕ). (P q).body) (sym zero) ∙ is)
  where
    no_meta : (first last n : ℕ) → body.Meta first last n ≡ body.PostLeaf high items → ⊥
    no_meta first last n e = cc

-- the leaf before one is said by its number
pub is_before : (P : Pages) (dead : List ℕ) (root before page : ℕ) → IsAfter P dead root before page → before ≢ 0
    → IsPostLeaf P root before × ((P before).right ≡ page)
is_before P dead root _ page (IsAfter.first none) some = absurd (some refl)
is_before P dead root before page (IsAfter.after not_zero l e clean) some = (l, e)

module _ {D : Type 0} (device : Disk D) (f : FramesValue D) (p : Pass) (held : List Sheet)
    (hold : IsHolding device f p held) (of : IsPassOf f p) (right : HasRight p) where
  -- a page that can't be used is not so in a legal log, where it would be by what was seen
  pub never_by : (X : Log → Pages → Type 0) (Is : Page → Type 0) (page : ℕ)
      → ((S S' : Log) (P Q : Pages) → StaysOn S S' P Q → X S P → Is (Q page) × ((Q page).body ≢ body.Free))
      → Seen device f p X → CannotUse f Is page → Behind device f (λ (R : Log). ⊥)
  never_by X Is page so had cannot t up R stands legal =
      let v = view_of f p R held in
      let a = hold.allowed t up R stands legal in
      let S = seen_shown v R a in
      let now = allowed_stays v R a (right_of device f p held R of right stands) S.0 S.1 in
      let here = so (cut p.seen R) R S.0 a.pages now (had t up R stands legal S.0 S.1) in
      usable device f R t up stands legal a.pages a.shown Is page here.0 here.1 cannot

  module _ (e : Empty) (found : IsFoundEmpty device f p e) where
    pub never_empty : CannotUse f (IsEmptyPage e) e.page → Behind device f (λ (R : Log). ⊥)
    never_empty =
        never_by (λ S P. IsAt P found.0 found.1 (stage.Parent e found.2 found.3)) (IsEmptyPage e) e.page
        (λ S S' P Q s at.
        let x = (at_then S S' P Q s found.0 found.1 (stage.Parent e found.2 found.3) at).3 in
        ((x.content, x.link), used_leaf (Q e.page) e.high [] x.content)) found.4

    pub never_before : e.before ≢ 0 → CannotUse f (LeadsTo e.page) e.before → Behind device f (λ (R : Log). ⊥)
    never_before some =
        never_by (λ S P. IsAt P found.0 found.1 (stage.Parent e found.2 found.3)) (LeadsTo e.page) e.before
        (λ S S' P Q s at.
        let x = at_then S S' P Q s found.0 found.1 (stage.Parent e found.2 found.3) at in
        let b = is_before Q found.0 e.root e.before e.page x.2 some in (
          (
            b.0.1.0,
            b.0.1.1,
            b.0.1.2,
            high_of (Q e.before) b.0.1.0 b.0.1.1 (s.shown_then e.before).0 b.0.1.2 (λ z.
                leaf_not_zero S' Q (some_after S S' s.later s.goes_on s.some) s.legal_then s.shown_then e.page e.high []
                x.3.content (sym b.1 ∙ z)),
            b.1,
          ),
          used_leaf (Q e.before) b.0.1.0 b.0.1.1 b.0.1.2,
        )) found.4
