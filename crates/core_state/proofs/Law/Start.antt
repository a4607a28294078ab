-- The empty log has the invariant.
use Rattle.std.proofs.Common.{◌≡◌, ℕ, List, [], ◌∷◌, ◌++◌, refl, sym, subst, arith}
use Rattle.core_state.specs.Log.{Pages, Shows}
use Rattle.core_state.specs.Bullets.{WasIndexed}
use Rattle.core_state.specs.Documents.{Doc}
use Rattle.core_state.specs.Index.{IsIndexed}
use Rattle.core_state.specs.Inner.Ghosts.{no_ghost}
use Rattle.core_state.specs.Inner.Kinds.{PagesStart, IsLined, AreChained}
use Rattle.core_state.specs.Inner.Owners.{RowsOwned}
use Rattle.core_state.proofs.Law.Invariant.{Inv}
use Rattle.core_state.proofs.HeadsFollow.{heads_none}
use Rattle.core_state.proofs.Showing.{none_yet, shown_one, shown_none}

starts : PagesStart [] none_yet no_ghost
starts = record {
  page_0 = λ some. absurd (some refl);
  no_other = λ p e. absurd (cc);
  page_1 = λ some. absurd (some refl);
  lower = λ p q l e. refl;
  stamps = λ p. omega arith;
}

lined : IsLined [] none_yet no_ghost
lined = record {
  is_line = refl;
  on = λ p. (λ i. absurd i, λ e. absurd (cc));
  some_row = λ p e. absurd (cc);
  counted = λ some. absurd (some refl);
}

chained : AreChained none_yet no_ghost
chained = record {
  overflow = record { some = λ i h e. absurd (cc); none = λ i q e f. cc };
  private = record { some = λ i h e. absurd (cc); none = λ i q e f. cc };
}

rows_owned : (n : ℕ) → RowsOwned n [] none_yet no_ghost
rows_owned n = record {
  on_line = λ q w e i. absurd i;
  private_row = λ q i e. absurd (cc);
  private_item = λ q i w e j. absurd j;
  on_private = λ q i w h e j. absurd j;
}

-- the empty log is after no log but itself
none_behind : {A : Type 0} (xs ys : List A) → [] ≡ xs ++ ys → ys ≡ []
none_behind [] ys e = sym e
none_behind (x ∷ xs) ys e = absurd (cc)

never : (d : Doc) → WasIndexed [] d → ⊥
never d w =
    let e : w.then ≡ [] = none_behind w.later w.then w.goes_on in
    let free : w.pages ≡ none_yet = shown_one [] w.pages none_yet (subst (λ R. Shows R w.pages) e w.shown) shown_none
    in
    let has = subst (λ P. IsIndexed P d) free w.indexed in
    let none = has.whole.1.at in
    absurd (cc)

start_here : (n L : ℕ) → Inv n L [] none_yet no_ghost
start_here n L = record {
  kinds = λ p. refl;
  starts = starts;
  lined = lined;
  entries = record {
    leaves = λ p r e. absurd (cc);
    inners = λ p r h e. absurd (cc);
    lefts = λ p r e. absurd (cc);
    span = λ p r h e. absurd (cc);
    apart = λ p q r h e f d. absurd (cc);
  };
  posts = record {
    leaves = λ p r e. absurd (cc);
    inners = λ p r h e. absurd (cc);
    lefts = λ p r e. absurd (cc);
    span = λ p r h e. absurd (cc);
    apart = λ p q r h e f d. absurd (cc);
  };
  named = record {
    is_root = λ q r e i. absurd i;
    key = λ q r e i. absurd i;
    named = λ r h e. absurd (cc);
  };
  entries_rooted = record {
    roots = λ r h e. absurd (cc);
    low = λ r h e. absurd (cc);
    high = λ r h e. absurd (cc);
    trees = λ p r h e. absurd (cc);
    lefts = λ p r e. absurd (cc);
  };
  posts_rooted = record {
    roots = λ r h e. absurd (cc);
    low = λ r h e. absurd (cc);
    high = λ r h e. absurd (cc);
    trees = λ p r h e. absurd (cc);
    lefts = λ p r e. absurd (cc);
  };
  chained = chained;
  heads = heads_none n none_yet (λ p. refl);
  rows_owned = rows_owned n;
  items_owned = record { inline = λ q i e bytes j. absurd j; posted = λ q r i e. absurd (cc) };
  grouped = record { grouped = tt; complete = λ i there. absurd there };
  indexed = record { stays = λ d was. absurd (never d was); placed = λ d was. absurd (never d was) };
}

pub start : (n L : ℕ) (P : Pages) → Shows [] P → Inv n L [] P no_ghost
start n L P shown = subst (λ P. Inv n L [] P no_ghost) (shown_one [] none_yet P shown_none shown) (start_here n L)
