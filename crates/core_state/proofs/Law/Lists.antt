-- In every legal log the pages of trees are in lists in which each link leads on.
use Rattle.std.proofs.Common.{◌≡◌, ◌⊎◌, ℕ, suc, List, [], ◌∷◌, length, refl, ap, inl, inr, arith}
use Rattle.page_types.specs.declared.record.Record.{Record}
use Rattle.core_state.specs.Log.{Log, Pages, Shows, commits}
use Rattle.core_state.specs.Legal.{Pin, KeepsEach, RecordsAreValid}
use Rattle.core_state.specs.Inner.Ghosts.{Ghost, Place, entry_place, post_place, entry_ghost, post_ghost, forgotten}
use Rattle.core_state.specs.Inner.Ghosts.{forgotten_place, no_ghost}
use Rattle.core_state.specs.Inner.Ghosts.Place.{unused, meta, heap, line, past, shifted, left, entry, post, overflow_of}
use Rattle.core_state.specs.Inner.Ghosts.Place.{private_of}
use Rattle.core_state.specs.Trees.Ext.Ext.{least, greatest}
use Rattle.core_state.specs.Trees.Nodes.TreePlace.{none}
use Rattle.core_state.specs.Trees.TreeNodes.{entry_nodes, post_nodes}
use Rattle.core_state.proofs.Trees.Orders.{keys, items}
use Rattle.core_state.proofs.Law.Invariant.{Inv}
use Rattle.core_state.proofs.Law.Steps.{StepHolds, After}
use Rattle.core_state.proofs.SteadyEnds.{commits_more}
use Rattle.core_state.proofs.Law.Runs.{step_over}
use Rattle.core_state.proofs.Law.OneStep.{page_0}
use Rattle.core_state.proofs.Law.Start.{start}
use Rattle.core_state.proofs.Law.Forget.{forget, weaken}
use Rattle.core_state.proofs.Trees.Forward.{Forward, GoesOn, grows_forward, step_forward}
use Rattle.core_state.proofs.Trees.LiveLists.{live_of, without_left, forget_forward}

-- a list for the pages of entries, and one for those of postings
pub record Listed (P : Pages) (g : Ghost) : Type 0 where
  pub entry_list : List ℕ
  pub entries : Forward (entry_nodes P) (entry_ghost g) entry_list
  pub post_list : List ℕ
  pub posts : Forward (post_nodes P) (post_ghost g) post_list

none_listed : (P : Pages) → Listed P no_ghost
none_listed P = record {
  entry_list = [];
  entries = record {
    once = tt;
    on = λ p at. absurd (at refl);
    only = λ p i. absurd i;
    leads =
        λ p q at l off. absurd (at refl);
  };
  post_list = [];
  posts = record {
    once = tt;
    on = λ p at. absurd (at refl);
    only = λ p i. absurd i;
    leads =
        λ p q at l off. absurd (at refl);
  };
}

pub zero_place : (g : Ghost) → (g.place 0 ≡ unused) ⊎ (g.place 0 ≡ meta) → ((entry_ghost g).place 0 ≡ none)
    × ((post_ghost g).place 0 ≡ none)
zero_place g (inl e) = (ap entry_place e, ap post_place e)
zero_place g (inr e) = (ap entry_place e, ap post_place e)

entry_forgotten : (x : Place) → entry_place (forgotten_place x) ≡ without_left (entry_place x)
entry_forgotten unused = refl
entry_forgotten meta = refl
entry_forgotten heap = refl
entry_forgotten line = refl
entry_forgotten past = refl
entry_forgotten shifted = refl
entry_forgotten (left r) = refl
entry_forgotten (entry h) = refl
entry_forgotten (post r h) = refl
entry_forgotten (overflow_of i) = refl
entry_forgotten (private_of i) = refl

post_forgotten : (x : Place) → post_place (forgotten_place x) ≡ without_left (post_place x)
post_forgotten unused = refl
post_forgotten meta = refl
post_forgotten heap = refl
post_forgotten line = refl
post_forgotten past = refl
post_forgotten shifted = refl
post_forgotten (left r) = refl
post_forgotten (entry h) = refl
post_forgotten (post r h) = refl
post_forgotten (overflow_of i) = refl
post_forgotten (private_of i) = refl

-- one record more
module _ (n L : ℕ) (R : Log) (P Q : Pages) (r : Record) (g : Ghost) (inv : Inv n L R P g) (shown : Shows R P)
    (a : After n L R P Q r g) where
  pub entry_on : (K : List ℕ) → Forward (entry_nodes P) (entry_ghost g) K → (M : List ℕ)
      × Forward (entry_nodes Q) (entry_ghost a.ghost) M × GoesOn K M
  entry_on K F = grows_forward keys least greatest (entry_nodes P) (entry_nodes Q) (entry_ghost g)
      (zero_place g (page_0 n L R P g inv shown)).0 K F inv.entries (entry_ghost a.ghost) a.case.trees.entries.0

  pub post_on : (K : List ℕ) → Forward (post_nodes P) (post_ghost g) K → (M : List ℕ)
      × Forward (post_nodes Q) (post_ghost a.ghost) M × GoesOn K M
  post_on K F = step_forward items least greatest (post_nodes P) (post_nodes Q) (post_ghost g)
      (zero_place g (page_0 n L R P g inv shown)).1 K F inv.posts (post_ghost a.ghost) a.case.trees.posts.0

  listed_on : Listed P g → Listed Q (forgotten a.ghost)
  listed_on l =
      let e = entry_on l.entry_list l.entries in
      let p = post_on l.post_list l.posts in
      record {
        entry_list = live_of (entry_ghost a.ghost).place e.0;
        entries = forget_forward keys greatest (entry_nodes Q) (entry_ghost a.ghost) e.0 e.1 a.inv.entries
            (entry_ghost (forgotten a.ghost)).place
            (λ x. entry_forgotten (a.ghost.place x)) (entry_ghost (forgotten a.ghost)).low
            (entry_ghost (forgotten a.ghost)).high;
        post_list = live_of (post_ghost a.ghost).place p.0;
        posts = forget_forward items greatest (post_nodes Q) (post_ghost a.ghost) p.0 p.1 a.inv.posts
            (post_ghost (forgotten a.ghost)).place
            (λ x. post_forgotten (a.ghost.place x)) (post_ghost (forgotten a.ghost)).low
            (post_ghost (forgotten a.ghost)).high;
      }

-- the ghosts of a log under a pin, with lists for its trees
abbrev pub HasLists : ℕ → ℕ → Log → Pages → Type 0
HasLists n L R P = (g : Ghost) × Inv n L R P g × Listed P g

pub list_run : StepHolds → (pin : Pin) (R : Log) → KeepsEach pin R → (P : Pages) → Shows R P
    → HasLists pin.commits (length R) R P
list_run step pin [] k P shown = (no_ghost, start pin.commits 0 P shown, none_listed P)
list_run step pin (r ∷ R) k Q shown =
    let v = k.1 in
    let before = list_run step pin R k.0 v.2.before v.2.shown in
    let a = step_over step pin.commits (length R) R r v.0 (suc (length R)) v.2 v.1 (inr refl)
    (omega arith) v.2.before Q before.0 v.2.shown shown before.1 in (
      forgotten a.ghost,
      forget pin.commits (length R) (r ∷ R) Q a.ghost a.inv,
      listed_on pin.commits (length R) R v.2.before Q r before.0 before.1 v.2.shown a before.2,
    )

-- the same of each log of valid records
pub plain_lists : StepHolds → (R : Log) → RecordsAreValid R → (P : Pages) → Shows R P
    → HasLists (commits R) (length R) R P
plain_lists step [] v P shown = (no_ghost, start 0 0 P shown, none_listed P)
plain_lists step (r ∷ R) v Q shown =
    let before = plain_lists step R v.0 v.1.before v.1.shown in
    let a = step_over step (commits R) (length R) R r (commits R) (suc (length R)) v.1 (omega arith) (inr refl)
    (omega arith) v.1.before Q before.0 v.1.shown shown before.1 in (
      forgotten a.ghost,
      weaken (commits R) (commits (r ∷ R)) (commits_more r.kind (commits R)) (r ∷ R) Q (length (r ∷ R))
          (forgotten a.ghost) (forget (commits R) (length R) (r ∷ R) Q a.ghost a.inv),
      listed_on (commits R) (length R) R v.1.before Q r before.0 before.1 v.1.shown a before.2,
    )
