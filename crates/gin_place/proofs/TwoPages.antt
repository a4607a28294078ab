-- A step that leaves two pages which are held may be logged where it is allowed.
use Rattle.std.proofs.Common.{◌≡◌, ◌≢◌, ◌<◌, ◌≤◌, ◌⊎◌, ⊎_elim, ℕ, List, [], ◌∷◌, length, sym, ap, subst}
use Rattle.std.proofs.Common.{inl, inr, arith, ◌^◌}
use Rattle.std.specs.List.{AllByRecursion}
use Rattle.disk_trait.specs.declared.device.Disk.{Ghosts as Disk}
use Rattle.page_types.specs.Numbers.{page_limit}
use Rattle.page_types.specs.Keys.{Rising}
use Rattle.page_types.specs.Pages.{IsPage}
use Rattle.page_types.specs.Records.{IsKind, kind_number}
use Rattle.page_types.specs.declared.page.Page.{Page}
use Rattle.page_types.specs.declared.page.Body.TheVariants as body
use Rattle.core_state.specs.Log.{Log, In}
use Rattle.core_state.specs.Allowed.{Sheet, Step, MayLog, sheet_pages}
use Rattle.core_state.specs.Steps.{sheet}
use Rattle.buffer_frames.specs.Drawing.{IsSheet}
use Rattle.buffer_frames.specs.Opens.{IsLoggedKind}
use Rattle.buffer_frames.specs.Frames.{FramesValue, Behind}
use Rattle.buffer_frames.specs.Passes.{IsPassOf, IsHolding, view_of}
use Rattle.buffer_frames.specs.declared.pass.Pass.{Pass}
use Rattle.gin_place.specs.Going.{IsPlacingKind}
use Rattle.gin_place.specs.Placing.{HasRight}
use Rattle.gin_place.specs.Inner.Logging.{MayLogStep}
use Rattle.gin_place.proofs.Owing.{owes_of}

module _ {D : Type 0} (device : Disk D) (f : FramesValue D) (pass : Pass) (first second : Sheet) (a b : Page) (s : Step)
    (hold : IsHolding device f pass (second ∷ first ∷ [])) (xid : s.xid ≡ 0)
    (left : s.after ≡ sheet first.page a ∷ sheet second.page b ∷ []) (low : first.page < page_limit)
    (low_too : second.page < page_limit) (pages : IsPage a × IsPage b)
    (used : (a.body ≢ body.Free) × (b.body ≢ body.Free)) where
  two_pages : sheet_pages s.after ≡ first.page ∷ second.page ∷ []
  two_pages = ap sheet_pages left

  apart : Rising (λ (p q : ℕ). p ≢ q) (sheet_pages s.after)
  apart = subst (Rising (λ (p q : ℕ). p ≢ q)) (sym two_pages) ((λ e. (hold.once).0.0 (sym e), tt), (tt, tt))

  pub two_may_log : IsPassOf f pass → HasRight pass → IsKind s.kind → IsLoggedKind s.kind
      → IsPlacingKind (kind_number s.kind)
      → Behind device f (λ (R : Log). MayLog (view_of f pass R (second ∷ first ∷ [])) s)
      → MayLogStep device f pass (second ∷ first ∷ []) s
  two_may_log of right is_kind logged placing may = record {
    is_pass = of;
    right = right;
    holding = hold;
    encoded = record {
      kind = is_kind;
      few = subst (λ (xs : List Sheet). length xs < 2 ^ 8) (sym left) (omega arith);
      each = subst (AllByRecursion IsSheet) (sym left) (
        record { page = low; content = pages.0; used = used.0 },
        (record { page = low_too; content = pages.1; used = used.1 }, tt),
      );
      once = apart;
    };
    kind = logged;
    placing = placing;
    pages = subst (λ (xs : List Sheet). length xs ≤ 3) (sym left) (omega arith);
    may = may;
    owes = owes_of device f pass (second ∷ first ∷ []) s of right xid placing
        (λ p i. ⊎_elim (λ (e : p ≡ first.page). inr (inl e))
        (λ (j : (p ≡ second.page) ⊎ ⊥). ⊎_elim (λ (e : p ≡ second.page). inl e) absurd j)
        (subst (In p) two_pages i))
        apart
        (λ x i. ⊎_elim
        (λ (e : x ≡ sheet first.page a). subst (λ (z : Sheet). IsPage z.content) (sym e) pages.0)
        (λ (j : (x ≡ sheet second.page b) ⊎ ⊥). ⊎_elim
        (λ (e : x ≡ sheet second.page b). subst (λ (z : Sheet). IsPage z.content) (sym e) pages.1) absurd j)
        (subst (In x) left i));
  }
