-- What a session has seen of the log holds in each log that is allowed to it.
use Rattle.std.proofs.Common.{◌≡◌, ◌≢◌, ℕ, List, [], ◌∷◌, ◌++◌, refl, sym, ap, subst, ◌∙◌, inl, inr}
use Rattle.std.specs.Prelude.{Some, None}
use Rattle.page_types.specs.Pages.{IsBody}
use Rattle.page_types.specs.Views.{free_page}
use Rattle.page_types.specs.declared.page.Page.{Page}
use Rattle.page_types.specs.declared.page.Body.TheVariants as body
use Rattle.page_types.specs.declared.record.Record.{Record}
use Rattle.page_types.specs.declared.record.Kind.{Kind}
use Rattle.page_types.specs.declared.record.Kind.TheVariants as kind
use Rattle.core_state.specs.Log.{Log, Pages, In, Shows, changed, fate}
use Rattle.core_state.specs.Documents.{Doc, placed_with, placed, marked_with, marked}
use Rattle.core_state.specs.Known.{use_by, use_in}
use Rattle.core_state.specs.Changes.{IsNew}
use Rattle.core_state.specs.Legal.{RecordsAreValid, IsLegal}
use Rattle.core_state.specs.Steady.{SteadyFacts, LeavesXid, RunsOn}
use Rattle.core_state.specs.Allowed.{Sheet, View, IsOthers, AreOthers, AreHeld, IsAllowed, Step}
use Rattle.core_state.specs.Steps.{sheet, RunsOwn, IsNewSheet, IdleHolds, OwnHolds}
use Rattle.core_state.specs.declared.answers.Fate.TheVariants.{Unused, Running}
use Rattle.core_state.specs.declared.answers.PageUse.TheVariants as usage
use Rattle.core_state.proofs.Showing.{shown_one}
use Rattle.core_state.proofs.Newest.{legal_less}
use Rattle.core_state.proofs.PageLists.{in_front}
use Rattle.core_state.proofs.RunningOnes.{on_other}
use Rattle.core_state.proofs.LivePages.{use_unused}
use Rattle.core_state.proofs.SteadyPages.{elsewhere, is_after, free_untouched}
use Rattle.core_state.proofs.Law.SteadyLogs.{all_steady}

-- the log before some later records is legal, and shows pages
pub legal_behind : (later R : Log) → IsLegal (later ++ R) → IsLegal R
legal_behind [] R l = l
legal_behind (r ∷ later) R l = legal_behind later R (legal_less r (later ++ R) l)

shown_behind : (later R : Log) (Q : Pages) → RecordsAreValid (later ++ R) → Shows (later ++ R) Q
    → (P : Pages) × Shows R P
shown_behind [] R Q v shown = (Q, shown)
shown_behind (r ∷ later) R Q v shown = shown_behind later R v.1.before v.0 v.1.shown

-- a page that no later record changes is the same
same_behind : (later R : Log) (P Q : Pages) (p : ℕ) → RecordsAreValid (later ++ R) → Shows R P → Shows (later ++ R) Q
    → ((r : Record) → In r later → In p (changed r) → ⊥) → Q p ≡ P p
same_behind [] R P Q p v shown shown' off = ap (λ (S : Pages). S p) (shown_one R Q P shown' shown)
same_behind (r ∷ later) R P Q p v shown shown' off =
    is_after (later ++ R) r _ _ v.1 Q shown' p ∙ elsewhere (later ++ R) r _ _ v.1 p (off r (inl refl))
    ∙ same_behind later R P v.1.before p v.0 shown v.1.shown (λ s i. off s (inr i))

pub others_each : (v : View) (rs : Log) → AreOthers v rs → (r : Record) → In r rs → IsOthers v r
others_each v [] f r i = absurd i
others_each v (s ∷ rs) f r (inl e) = subst (IsOthers v) (sym e) f.0
others_each v (s ∷ rs) f r (inr i) = others_each v rs f.1 r i

-- no other session logs a record of an own xid, or ends it
leaves_own : (v : View) (rs : Log) (x : ℕ) → AreOthers v rs → In x v.xids → v.begun ≢ [] → LeavesXid x rs
leaves_own v rs x f own begun r i =
    let o = others_each v rs f r i in
    (λ e. o.not_own (subst (λ (y : ℕ). In y v.xids) (sym e) own), o.not_all begun)

placed_by_other : (k : Kind) (xid x : ℕ) (ds : List Doc) → xid ≢ x → placed_with k xid x ds ≡ ds
placed_by_other (kind.PlaceHead item serial) xid x ds off = on_other xid x _ ds off
placed_by_other _ xid x ds off = refl

-- others place nothing for an own xid
same_placed : (rs R : Log) (x : ℕ) → LeavesXid x rs → placed (rs ++ R) x ≡ placed R x
same_placed [] R x off = refl
same_placed (r ∷ rs) R x off =
    placed_by_other r.kind r.xid x (placed (rs ++ R) x) (off r (inl refl)).0
    ∙ same_placed rs R x (λ s i. off s (inr i))

marked_by_other : (k : Kind) (xid x : ℕ) (ds : List Doc) → xid ≢ x → marked_with k xid x ds ≡ ds
marked_by_other (kind.MarkDeleted item serial) xid x ds off = on_other xid x _ ds off
marked_by_other _ xid x ds off = refl

-- nor mark they anything
same_marked : (rs R : Log) (x : ℕ) → LeavesXid x rs → marked (rs ++ R) x ≡ marked R x
same_marked [] R x off = refl
same_marked (r ∷ rs) R x off =
    marked_by_other r.kind r.xid x (marked (rs ++ R) x) (off r (inl refl)).0
    ∙ same_marked rs R x (λ s i. off s (inr i))

-- a free page is the free page
free_is_page : (p : Page) → p.body ≡ body.Free → IsBody p.right p.stamp p.body → p ≡ free_page
free_is_page p e is =
    let both = subst (IsBody p.right p.stamp) e is in
    λ i. record { right = both.0 i; stamp = both.1 i; body = e i }

-- an own transaction that runs needs a log that isn't empty
pub some_seen : (v : View) (x : ℕ) → RunsOwn v x → v.seen ≢ []
some_seen v x o e = let f : Unused ≡ Running = sym (ap (λ (R : Log). fate R x) e) ∙ o.runs in cc

-- a page that the pages show as it is held
in_held : (P : Pages) (ss : List Sheet) (p : ℕ) (c : Page) → AreHeld P ss → In (sheet p c) ss → P p ≡ c
in_held P [] p c h i = absurd i
in_held P (s ∷ ss) p c h (inl e) = ap (λ (x : Sheet). P x.page) e ∙ h.0 ∙ sym (ap (λ (x : Sheet). x.content) e)
in_held P (s ∷ ss) p c h (inr i) = in_held P ss p c h.1 i

module _ (v : View) (R : Log) (a : IsAllowed v R) where
  valid_all : RecordsAreValid (a.later ++ v.seen)
  valid_all = subst RecordsAreValid a.goes_on a.legal.valid

  shown_all : Shows (a.later ++ v.seen) a.pages
  shown_all = subst (λ (S : Log). Shows S a.pages) a.goes_on a.shown

  pub seen_legal : IsLegal v.seen
  seen_legal = legal_behind a.later v.seen (subst IsLegal a.goes_on a.legal)

  pub seen_shown : (P : Pages) × Shows v.seen P
  seen_shown = shown_behind a.later v.seen a.pages valid_all shown_all

  -- the page that the session holds is the log's
  pub held_page : (p : ℕ) (c : Page) → In (sheet p c) v.held → a.pages p ≡ c
  held_page p c i = in_held a.pages v.held p c a.held i

  module _ (P : Pages) (shown : Shows v.seen P) where
    pub steady_facts : v.seen ≢ [] → SteadyFacts v.seen a.later R P a.pages
    steady_facts some = all_steady v.seen a.later R P a.pages a.goes_on some seen_legal a.legal shown a.shown

    -- what an own transaction has placed stays
    pub own_runs_on : (x : ℕ) → RunsOwn v x → RunsOn v.seen R P a.pages x
    own_runs_on x o = (steady_facts (some_seen v x o)).runs_on x o.runs (leaves_own v a.later x a.others o.own o.begun)

    -- a page that is free was so
    free_was : (q : ℕ) → use_in a.pages q ≡ usage.Unused → use_in P q ≡ usage.Unused
    free_was q free =
        let is : a.pages q ≡ free_page = free_is_page (a.pages q) (use_unused (a.pages q).stamp (a.pages q).body free)
        (a.shown q).0.body in
        let off = free_untouched R a.pages a.legal.valid a.shown q is in
        let same : a.pages q ≡ P q = same_behind a.later v.seen P a.pages q valid_all shown shown_all
        (λ r i. off r (subst (In r) (sym a.goes_on) (in_front r a.later v.seen i))) in
        ap (λ (p : Page). use_by p.stamp p.body) (sym same) ∙ free

    -- a new page that the session holds is new
    pub still_new : (since p : ℕ) (c : Page) → In (sheet p c) v.held → IsNewSheet P since p c
        → IsNew (use_in a.pages) since p
    still_new since p c i (IsNewSheet.unused free low) = IsNew.unused
        (ap (λ (q : Page). use_by q.stamp q.body) (held_page p c i) ∙ ap (use_by c.stamp) free)
        (λ q lt e. low q lt (free_was q e))
    still_new since p c i (IsNewSheet.deleted g gone small) = IsNew.deleted c.stamp
        (ap (λ (q : Page). use_by q.stamp q.body) (held_page p c i) ∙ ap (use_by c.stamp) gone) small

  pub own_placed : (x : ℕ) → RunsOwn v x → placed R x ≡ placed v.seen x
  own_placed x o = ap (λ (S : Log). placed S x) a.goes_on
      ∙ same_placed a.later v.seen x (leaves_own v a.later x a.others o.own o.begun)

pub own_holds : OwnHolds
own_holds v R a P x o shown = record {
  runs_on = own_runs_on v R a P shown x o;
  placed_same = own_placed v R a x o;
  marked_same = ap (λ (S : Log). marked S x) a.goes_on
      ∙ same_marked a.later v.seen x (leaves_own v a.later x a.others o.own o.begun);
}

-- what a session shows of the log that it has seen, once a log is allowed to it
pub shows : (Can : View → Pages → Step → Type 0) (v : View) (s : Step) (R : Log) → IsAllowed v R
    → ((P : Pages) → IsLegal v.seen → Shows v.seen P → Can v P s) → (P : Pages) × Shows v.seen P × Can v P s
shows Can v s R a can =
    let P = seen_shown v R a in
    (P.0, P.1, can P.0 (seen_legal v R a) P.1)

-- whoever has no xid and no right may have each record from others
idle_others : (v : View) → v.xids ≡ [] → v.begun ≡ [] → v.work ≡ None → (rs : Log) → AreOthers v rs
idle_others v none begun idle [] = tt
idle_others v none begun idle (r ∷ rs) = (
  record {
    not_own = λ i. subst (In r.xid) none i;
    not_all = λ some. absurd (some begun);
    not_work = λ at has. let e : Some at ≡ None = sym has ∙ idle in absurd cc;
  },
  idle_others v none begun idle rs,
)

pub idle_holds : IdleHolds
idle_holds v R later P none begun idle on legal keeps shown held read = record {
  later = later;
  goes_on = on;
  others = idle_others v none begun idle later;
  legal = legal;
  keeps = keeps;
  pages = P;
  shown = shown;
  held = held;
  read = read;
}
