-- A page that may be taken is nowhere; so what is somewhere stays there where such a page is taken.
use Rattle.std.proofs.Common.{◌≡◌, ◌≢◌, ◌⊎◌, ◌≤◌, ◌<◌, ℕ, suc, List, [], ◌∷◌, length, sym, ap, subst, ◌∙◌, inl, inr}
use Rattle.std.proofs.Common.{arith}
use Rattle.page_types.specs.Views.{free_page}
use Rattle.page_types.specs.declared.page.Page.{Page}
use Rattle.page_types.specs.declared.page.Body.TheVariants as body
use Rattle.page_types.specs.declared.record.Record.{Record}
use Rattle.core_state.specs.Log.{Log, Pages}
use Rattle.core_state.specs.Known.{use_by, use_in}
use Rattle.core_state.specs.Changes.{IsNew}
use Rattle.core_state.specs.declared.answers.PageUse.TheVariants as usage
use Rattle.core_state.specs.Trees.Nodes.{put}
use Rattle.core_state.specs.Inner.Ghosts.{Place, Ghost, entry_place, post_place}
use Rattle.core_state.specs.Inner.Ghosts.Place.{unused, meta, past, entry}
use Rattle.core_state.specs.Inner.Kinds.{Fits, KindsFit, PagesStart}
use Rattle.core_state.proofs.LivePages.{new_was}
use Rattle.core_state.proofs.PageLists.{same_or_not}
use Rattle.core_state.proofs.Trees.Order.{put_here, put_else}
use Rattle.core_state.proofs.Law.Places.{place_for}
use Rattle.core_state.proofs.Law.LooseSteps.{Loose}

-- a page that is nowhere
abbrev pub Nowhere : Place → Type 0
Nowhere x = (x ≡ unused) ⊎ (x ≡ past)

pub nowhere_loose : (x : Place) → Nowhere x → Loose x
nowhere_loose x (inl e) = record { entry = ap entry_place e; post = ap post_place e }
nowhere_loose x (inr e) = record { entry = ap entry_place e; post = ap post_place e }

-- it is no place of another kind
pub nowhere_not : (x y : Place) → Nowhere x → (unused ≡ y → ⊥) → (past ≡ y → ⊥) → x ≡ y → ⊥
nowhere_not x y (inl e) a b f = a (sym e ∙ f)
nowhere_not x y (inr e) a b f = b (sym e ∙ f)

-- a page that may be taken is nowhere
pub new_nowhere : (L since : ℕ) (R : Log) (P : Pages) (g : Ghost) → KindsFit L P g → PagesStart R P g
    → (since ≤ L) ⊎ (L ≡ length R) → (p : ℕ) → IsNew (use_in P) since p → Nowhere (g.place p)
new_nowhere L since R P g kinds starts bound p new = elim (new_was P since p new) [
  | inl free ↦ inl (place_for L (g.place p) (P p) body.Free (kinds p) free)
  | inr old ↦ elim (place_for L (g.place p) (P p) (body.Deleted old.0.0) (kinds p) old.0.1) [
    | inl gone ↦ inr gone
    | inr kept ↦ absurd (elim bound [
      | inl low ↦ omega (arith, kept.1, old.1, low)
      | inr whole ↦ let small = starts.stamps p in omega (arith, kept.1, small, whole)
    ])
  ]
]

-- the first pages, where a new page gets another place
module _ (L since : ℕ) (R : Log) (P Q : Pages) (r : Record) (g : Ghost) (kinds : KindsFit L P g)
    (starts : PagesStart R P g) (bound : (since ≤ L) ⊎ (L ≡ length R)) (some : R ≢ [])
    (new : ℕ) (is_new : IsNew (use_in P) since new) where
  nowhere : Nowhere (g.place new)
  nowhere = new_nowhere L since R P g kinds starts bound new is_new

  pub new_not_0 : new ≢ 0
  new_not_0 e = nowhere_not (g.place new) meta nowhere (λ f. cc) (λ f. cc) (ap g.place e ∙ starts.page_0 some)

  pub new_not_1 : new ≢ 1
  new_not_1 e = let h = starts.page_1 some in nowhere_not (g.place new) (entry h.0) nowhere (λ f. cc) (λ f. cc)
      (ap g.place e ∙ h.1)

  unused_use : (p : ℕ) → g.place p ≡ unused → use_in P p ≡ usage.Unused
  unused_use p e =
      let free : P p ≡ free_page = subst (λ (x : Place). Fits L x (P p)) e (kinds p) in
      ap (λ (q : Page). use_by q.stamp q.body) free

  past_not_unused : past ≡ unused → ⊥
  past_not_unused e = cc

  -- no unused page is below a new one
  pub none_lower : (q : ℕ) → q < new → g.place q ≡ unused → ⊥
  none_lower q low e = go is_new
    where
      go : IsNew (use_in P) since new → ⊥
      go (IsNew.unused u lower) = lower q low (unused_use q e)
      go (IsNew.deleted stamp u small) =
          let free : P new ≡ free_page = subst (λ (x : Place). Fits L x (P new)) (starts.lower new q low e)
          (kinds new) in
          let off : use_in P new ≡ usage.Unused = ap (λ (q : Page). use_by q.stamp q.body) free in
          let clash : usage.Unused ≡ usage.Deleted stamp = sym off ∙ u in
          cc

  pub starts_put : (x : Place) → x ≢ unused → x ≢ meta → (ln : List ℕ) → ((p : ℕ) → (Q p).stamp ≤ suc (length R))
      → PagesStart (r ∷ R) Q (record g { place = put g.place new x; line = ln })
  starts_put x used not_meta ln stamps = record {
    page_0 = λ k. put_else g.place new x 0 (λ e. new_not_0 (sym e)) ∙ starts.page_0 some;
    no_other = λ p e. elim (same_or_not new p) [
      | inl s ↦ absurd (not_meta (sym (put_here g.place new x) ∙ ap (put g.place new x) (sym s) ∙ e))
      | inr d ↦ starts.no_other p (sym (put_else g.place new x p d) ∙ e)
    ];
    page_1 = λ k. let h = starts.page_1 some in (h.0, put_else g.place new x 1 (λ e. new_not_1 (sym e)) ∙ h.1);
    lower = λ p q low e. elim (same_or_not new q) [
      | inl s ↦ absurd (used (sym (put_here g.place new x) ∙ ap (put g.place new x) (sym s) ∙ e))
      | inr d ↦
          let free : g.place q ≡ unused = sym (put_else g.place new x q d) ∙ e in
          elim (same_or_not new p) [
            | inl s ↦ absurd (none_lower q (subst (λ z. q < z) s low) free)
            | inr k ↦ put_else g.place new x p k ∙ starts.lower p q low free
          ]
    ];
    stamps = stamps;
  }
