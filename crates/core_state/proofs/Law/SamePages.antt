-- Records that change no page: begun, committed and aborted transactions, and checkpoints.
use Rattle.std.proofs.Common.{◌≡◌, ◌≢◌, ◌⊎◌, ◌≤◌, ℕ, suc, [], ◌∷◌, length, refl, sym, subst, ◌∙◌, inl, inr, append-nil}
use Rattle.std.proofs.Math.Path.{fun_ext}
use Rattle.page_types.specs.declared.record.Record.{Record}
use Rattle.page_types.specs.declared.record.Kind.{Kind}
use Rattle.page_types.specs.declared.record.Kind.TheVariants as kind
use Rattle.core_state.specs.Log.{Log, Pages, In, changed}
use Rattle.core_state.specs.TransactionRules.{IsBegin, IsCommit, IsAbort, IsCheckpoint}
use Rattle.core_state.specs.Inner.Ghosts.{Ghost}
use Rattle.core_state.specs.Inner.Kinds.{PagesStart, IsLined}
use Rattle.core_state.specs.Inner.Owners.{RowsOwned}
use Rattle.core_state.specs.Inner.LineSteps.{LineStep}
use Rattle.core_state.proofs.Trees.Steps.{Grows, Step}
use Rattle.core_state.proofs.Law.Invariant.{Inv}
use Rattle.core_state.proofs.Law.Steps.{Before, Left, TreesStep, Case, CaseOf}

-- a record of another kind than Create is after some record
pub not_first : (R : Log) (r : Record) (k : Kind) → (r.kind ≡ kind.Create) ⊎ (R ≢ []) → r.kind ≡ k
    → (k ≡ kind.Create → ⊥) → R ≢ []
not_first R r k (inl e) f n = absurd (n (sym f ∙ e))
not_first R r k (inr s) f n = s

-- the places of the first pages stay
pub starts_stay : (R : Log) (r : Record) (P Q : Pages) (g : Ghost) → R ≢ [] → PagesStart R P g
    → ((p : ℕ) → (Q p).stamp ≤ suc (length R)) → PagesStart (r ∷ R) Q g
starts_stay R r P Q g some s stamps = record {
  page_0 = λ n. s.page_0 some;
  no_other = s.no_other;
  page_1 = λ n. s.page_1 some;
  lower = s.lower;
  stamps = stamps;
}

module _ (n L : ℕ) (R : Log) (P : Pages) (r : Record) (since : ℕ) (g : Ghost) (v : Inv n L R P g)
    (l : Left n since R P P r) (some : R ≢ []) where
  trees_quiet : TreesStep n R P P g g
  trees_quiet = record {
    entries = (Grows.quiet (λ p e. refl) refl, λ k. tt);
    posts = (Step.grows (Grows.quiet (λ p e. refl) refl), λ k e. tt);
    key_of = λ r h e. refl;
  }

  same_line : LineStep R P P g g
  same_line = LineStep.grow [] (sym (append-nil g.line)) (inl refl) (λ q i. absurd i)
      (λ q i. ([], sym (append-nil _), λ w j. absurd j))

  lined : IsLined (r ∷ R) P g
  lined = record {
    is_line = v.lined.is_line;
    on = v.lined.on;
    some_row = v.lined.some_row;
    counted = λ e.
        v.lined.counted some;
  }

  rows_owned : RowsOwned n (r ∷ R) P g
  rows_owned = record {
    on_line = v.rows_owned.on_line;
    private_row = v.rows_owned.private_row;
    private_item = v.rows_owned.private_item;
    on_private = λ q i w h e j f. elim (v.rows_owned.on_private q i w h e j f)
        [ inl z ↦ inl (l.dead _ z) | inr o ↦ inr o ];
  }

  same_case : Case n L R P P r g g
  same_case = record {
    kinds = v.kinds;
    starts = starts_stay R r P P g some v.starts l.stamps;
    lined = lined;
    trees = trees_quiet;
    named = v.named;
    chained = v.chained;
    rows_owned = rows_owned;
    items_owned = v.items_owned;
    grouped = v.grouped;
    main = λ k i m. inl m;
    line = same_line;
    shifted_stays = λ p e. e;
  }

-- a record that changes no page
pub none_changed : (n L : ℕ) (R : Log) (P Q : Pages) (r : Record) (floor since : ℕ) (g : Ghost)
    → Before n L R P Q r floor since g → Left n since R P Q r → changed r ≡ [] → R ≢ []
    → (g' : Ghost) × Case n L R P Q r g g'
none_changed n L R P Q r floor since g b l e some =
    let same : Q ≡ P = fun_ext (λ p. l.elsewhere p (λ i. subst (In p) e i)) in (
      g,
      subst (λ S. Case n L R P S r g g) (sym same)
          (same_case n L R P r since g b.inv (subst (λ S. Left n since R P S r) same l) some),
    )

pub begin_case : CaseOf (λ R P Q r floor since. IsBegin R P Q r)
begin_case n L R P Q r floor since g b l x = none_changed n L R P Q r floor since g b l x.here.pages
    (not_first R r kind.Begin b.started x.here.kind_is (λ e. cc))

pub commit_case : CaseOf (λ R P Q r floor since. IsCommit R P Q r)
commit_case n L R P Q r floor since g b l x = none_changed n L R P Q r floor since g b l x.here.pages
    (not_first R r _ b.started x.here.kind_is (λ e. cc))

pub abort_case : CaseOf (λ R P Q r floor since. IsAbort R P Q r)
abort_case n L R P Q r floor since g b l x = none_changed n L R P Q r floor since g b l x.here.pages
    (not_first R r kind.Abort b.started x.here.kind_is (λ e. cc))

pub checkpoint_case : CaseOf (λ R P Q r floor since. IsCheckpoint R P Q r)
checkpoint_case n L R P Q r floor since g b l x = none_changed n L R P Q r floor since g b l x.here.pages
    (not_first R r _ b.started x.here.kind_is (λ e. cc))
