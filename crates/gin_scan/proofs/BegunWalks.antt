-- The first walk through the tree begins, and the next one where one is over.
use Rattle.std.proofs.Common.{◌≡◌, ℕ, suc, List, [], ◌∷◌, ◌++◌, length, Option, None, Some, refl, sym, ap, subst}
use Rattle.std.proofs.Common.{◌∙◌}
use Rattle.std.proofs.Common.{arith, append_assoc, length-append, slice_get}
use Rattle.std.proofs.lemmas.Option.{same_Some}
use Rattle.core_moments.specs.Walk.{KeyWalk, Sought, leaf_reads, key_reads}
use Rattle.gin_hits.specs.Entries.{entries_on, entries_read}
use Rattle.gin_scan.specs.Ways.{AreEach, AreWalks, IsGoingDown}
use Rattle.core_moments.specs.OpenWalk.{IsOnWay}

-- a walk that has read nothing
abbrev pub fresh : Sought → KeyWalk
fresh s = record { sought = s; down = []; leaf = 1; leaves = [] }

fresh_on : (s : Sought) → IsOnWay (fresh s) 1
fresh_on s = record { down = refl; none = refl }

-- one for the next that is sought, none where there is none
abbrev pub fresh_for : Option Sought → List KeyWalk
fresh_for None = []
fresh_for (Some s) = fresh s ∷ []

begun : (o : Option Sought) (s : Sought) → o ≡ Some s → IsGoingDown 1 s (fresh_for o)
begun o s e = subst (λ (p : Option Sought). IsGoingDown 1 s (fresh_for p)) (sym e)
    (IsGoingDown.on_way (fresh s) refl (fresh_on s))

ended : (o : Option Sought) → o ≡ None → fresh_for o ≡ []
ended o e = ap fresh_for e

-- at first
pub first_walk : (IsOver : KeyWalk → Type 0) (sought : List Sought)
    → AreWalks IsOver sought 0 (IsGoingDown 1) (fresh_for (slice_get sought 0))
first_walk IsOver sought = record {
  done = [];
  rest = sought;
  parts = refl;
  count = refl;
  over = [];
  are_over = tt;
  last = fresh_for (slice_get sought 0);
  walks = refl;
  begun = λ s e. begun (slice_get sought 0) s e;
  ended = λ e. ended (slice_get sought 0) e;
}

pub first_last : (IsOver : KeyWalk → Type 0) (sought : List Sought)
    → (first_walk IsOver sought).last ≡ fresh_for (slice_get sought 0)
unfolding first_walk
first_last IsOver sought = refl

rest_head : {A : Type 0} (done rest : List A) (w : A) → slice_get (done ++ rest) (length done) ≡ Some w
    → (more : List A) × (rest ≡ w ∷ more)
rest_head [] [] w e = absurd (let z : ⊥ = cc in z)
rest_head [] (x ∷ xs) w e = (xs, ap (λ (y : _). y ∷ xs) (same_Some x w e))
rest_head (d ∷ done) rest w e = rest_head done rest w e

each_more : (Is : KeyWalk → Type 0) (done : List Sought) (over : List KeyWalk) (s : Sought) (k : KeyWalk)
    → AreEach Is done over → k.sought ≡ s → Is k → AreEach Is (done ++ s ∷ []) (over ++ k ∷ [])
each_more Is [] [] s k e same is = (same, is, tt)
each_more Is [] (o ∷ over) s k e same is = absurd e
each_more Is (d ∷ done) [] s k e same is = absurd e
each_more Is (d ∷ done) (o ∷ over) s k e same is = (e.0, e.1, each_more Is done over s k e.2 same is)

-- and after a walk that is over
pub next_walk : (IsOver : KeyWalk → Type 0) (sought : List Sought) (key : ℕ) (w : Sought)
    (Open : Sought → List KeyWalk → Type 0) (ks : List KeyWalk) (a : AreWalks IsOver sought key Open ks) (k : KeyWalk)
    → slice_get sought key ≡ Some w → a.last ≡ k ∷ [] → k.sought ≡ w → IsOver k
    → AreWalks IsOver sought (suc key) (IsGoingDown 1) (ks ++ fresh_for (slice_get sought (suc key)))
next_walk IsOver sought key w Open ks a k here last same is =
    let rest = rest_head a.done a.rest w
    (ap (λ (ss : List Sought). slice_get ss (length a.done)) a.parts
    ∙ ap (slice_get sought) a.count ∙ here) in record {
      done = a.done ++ w ∷ [];
      rest = rest.0;
      parts = append_assoc a.done (w ∷ []) rest.0
          ∙ ap (λ (ss : List Sought). a.done ++ ss) (sym rest.1) ∙ a.parts;
      count = omega (arith, length-append a.done (w ∷ []), a.count);
      over = a.over ++ k ∷ [];
      are_over = each_more IsOver a.done a.over w k a.are_over same is;
      last = fresh_for (slice_get sought (suc key));
      walks = ap (λ (js : List KeyWalk). js ++ fresh_for (slice_get sought (suc key)))
          (a.walks ∙ ap (λ (js : List KeyWalk). a.over ++ js) last);
      begun = λ s e. begun (slice_get sought (suc key)) s e;
      ended = λ e. ended (slice_get sought (suc key)) e;
    }

pub next_last : (IsOver : KeyWalk → Type 0) (sought : List Sought) (key : ℕ) (w : Sought)
    (Open : Sought → List KeyWalk → Type 0) (ks : List KeyWalk) (a : AreWalks IsOver sought key Open ks) (k : KeyWalk)
    (here : slice_get sought key ≡ Some w) (last : a.last ≡ k ∷ []) (same : k.sought ≡ w) (is : IsOver k)
    → (next_walk IsOver sought key w Open ks a k here last same is).last ≡ fresh_for (slice_get sought (suc key))
unfolding next_walk
next_last IsOver sought key w Open ks a k here last same is = refl

-- a walk that has read nothing adds no reads and no entries
pub fresh_reads : (ks : List KeyWalk) (o : Option Sought) → key_reads (ks ++ fresh_for o) ≡ key_reads ks
fresh_reads [] None = refl
fresh_reads [] (Some s) = refl
fresh_reads (k ∷ ks) o = ap (λ rs. k.down ++ (leaf_reads k.leaves ++ rs)) (fresh_reads ks o)

pub fresh_entries : (ks : List KeyWalk) (o : Option Sought) → entries_read (ks ++ fresh_for o) ≡ entries_read ks
fresh_entries [] None = refl
fresh_entries [] (Some s) = refl
fresh_entries (k ∷ ks) o =
    ap (λ es. entries_on k.sought k.leaves ++ es) (fresh_entries ks o)
