-- Places where one page gets another.
use Rattle.std.proofs.Common.{◌≡◌, ◌≢◌, ◌≤◌, ℕ, suc, List, [], ◌∷◌, length, sym, ap, ◌∙◌, inl, inr}
use Rattle.std.specs.Prelude.{◌↔◌}
use Rattle.page_types.specs.declared.record.Record.{Record}
use Rattle.core_state.specs.Log.{Log, Pages}
use Rattle.core_state.specs.Trees.Nodes.{put}
use Rattle.core_state.specs.Inner.Ghosts.{Place, Ghost}
use Rattle.core_state.specs.Inner.Ghosts.Place.{unused, meta, entry}
use Rattle.core_state.specs.Inner.Kinds.{PagesStart}
use Rattle.core_state.proofs.PageLists.{same_or_not}
use Rattle.core_state.proofs.Trees.Order.{put_here, put_else}

module _ (f : ℕ → Place) (a : ℕ) (x : Place) where
  -- the page that gets a place
  pub put_at : (p : ℕ) → p ≡ a → put f a x p ≡ x
  put_at p e = ap (put f a x) e ∙ put_here f a x

  -- a place that the page neither had nor gets is kept by each
  pub put_on : (y : Place) → f a ≢ y → (p : ℕ) → f p ≡ y → put f a x p ≡ y
  put_on y n p e = put_else f a x p (λ s. n (sym (ap f s) ∙ e)) ∙ e

  pub put_back : (y : Place) → x ≢ y → (p : ℕ) → put f a x p ≡ y → (p ≢ a) × (f p ≡ y)
  put_back y n p e = elim (same_or_not a p) [
    | inl s ↦ absurd (n (sym (put_at p s) ∙ e))
    | inr s ↦ (s, sym (put_else f a x p s) ∙ e)
  ]

  pub put_same : (y : Place) → f a ≢ y → x ≢ y → (p : ℕ) → (f p ≡ y) ↔ (put f a x p ≡ y)
  put_same y m n p = (put_on y m p, λ e. (put_back y n p e).1)

-- the first pages stay where a used page after them gets another place
pub starts_move : (R : Log) (r : Record) (P Q : Pages) (g : Ghost) (a : ℕ) (x : Place) (ln : List ℕ) → R ≢ []
    → PagesStart R P g → g.place a ≢ unused → g.place a ≢ meta
    → ((h : ℕ) → g.place a ≢ entry h) → x ≢ unused → x ≢ meta → ((p : ℕ) → (Q p).stamp ≤ suc (length R))
    → PagesStart (r ∷ R) Q (record g { place = put g.place a x; line = ln })
starts_move R r P Q g a x ln some s used not_meta not_entry use_x meta_x stamps = record {
  page_0 = λ k. put_on g.place a x meta not_meta 0 (s.page_0 some);
  no_other = λ p e. s.no_other p (put_back g.place a x meta meta_x p e).1;
  page_1 = λ k. let h = s.page_1 some in (h.0, put_on g.place a x (entry h.0) (not_entry h.0) 1 h.1);
  lower = λ p q low e. put_on g.place a x unused used p (s.lower p q low (put_back g.place a x unused use_x q e).1);
  stamps = stamps;
}
