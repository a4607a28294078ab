-- Pages that are given back, and the end of the pending list as it is held.
use Rattle.std.proofs.Common.{◌≡◌, ◌≢◌, ◌<◌, ◌≤◌, ℕ, List, [], ◌∷◌, ◌++◌, length, refl, sym, ap, ap₂, subst}
use Rattle.std.proofs.Common.{◌∙◌}
use Rattle.std.proofs.Common.{inl, inr, ⊎_elim, arith, append_assoc}
use Rattle.std.specs.Prelude.{Some, None, Result, Ok, Err}
use Rattle.std.proofs.lemmas.List.{append-nil}
use Rattle.disk_trait.specs.declared.device.Disk.{Ghosts as Disk}
use Rattle.page_types.specs.Numbers.{page_limit}
use Rattle.page_types.specs.Pages.{IsPage}
use Rattle.page_types.specs.declared.page.Page.{Page}
use Rattle.page_types.specs.declared.page.Body.TheVariants as body
use Rattle.core_state.specs.Allowed.{Sheet}
use Rattle.core_state.specs.Log.{Log, Pages, In, Shows}
use Rattle.core_state.specs.Documents.{IsChain}
use Rattle.core_state.specs.Legal.{IsLegal}
use Rattle.core_state.specs.PagesTold.{IsLastOf}
use Rattle.core_state.specs.Steps.{sheet}
use Rattle.core_state.proofs.LawsHold.{pages}
use Rattle.core_state.proofs.RunningOnes.{same_or_other}
use Rattle.buffer_frames.specs.Frames.{Stands, KeepsOthers, KeepsState, RunsOn}
use Rattle.buffer_frames.specs.Beginnings.{BeginsOn}
use Rattle.buffer_frames.specs.Homes.{LiesAs, IsNoPageHere}
use Rattle.buffer_frames.specs.LogCauses.{IsCalm}
use Rattle.buffer_frames.specs.Passes.{IsPassOf, IsHolding, SeesOn, HasAdded, PassRises}
use Rattle.buffer_frames.specs.declared.home.Home.{Home}
use Rattle.buffer_frames.specs.declared.pass.Pass.{Pass}
use Rattle.buffer_frames.proofs.AtHand.{log_length}
use Rattle.buffer_frames.proofs.FirstLogs.{shown_by}
use Rattle.pending_list.specs.Adding.{IsPendingPage}
use Rattle.engine.specs.Answers.{MeetsNoBadPage}
use Rattle.engine.specs.Causes.{IsListMeta, IsRows, IsNone, IsNoPageAt, IsBadList}
use Rattle.engine.specs.Db.{DbValue, fault_of, IsUp}
use Rattle.engine.specs.Finding.{History}
use Rattle.engine.specs.Going.{FaultIsTold}
use Rattle.engine.specs.Places.{Lies}
use Rattle.engine.specs.Standing.{StandsFor}
use Rattle.engine.specs.Inner.Choosing.{WorksOn, HoldsNoMore, GivesBack}
use Rattle.engine.specs.Inner.Indexing.{CannotHoldLast, CannotHoldList, NamesEnd, IsListEnd}
use Rattle.engine.specs.Inner.Parts.{IsRunning, CarriesOwn, KeepsWork, CannotHold}
use Rattle.engine.specs.declared.error.DbError.{DbError}
use Rattle.engine.specs.declared.error.DbError.TheVariants.{NoDocument, Conflict, StoreFull, LogFull, XidsSpent, Down}
use Rattle.engine.specs.declared.error.DbError.TheVariants.{DiskFault, BadPage, OutOfMemory}
use Rattle.engine.specs.declared.transaction.Transaction.{Transaction}
use Rattle.engine.proofs.Carrying.{state_in_turn, carries, carries_on, keeps_on}
use Rattle.core_state.proofs.ChainLengths.{few_below, chain_once}
use Rattle.engine.proofs.Choosing.{lies_one, none_at}
use Rattle.engine.proofs.Lawful.{lies_is, not_none, small}
use Rattle.engine.proofs.Paths.{goes_still, one_nothing, calm_step, calm_fault, none_in_turn, fault_still}
use Rattle.engine.proofs.Running.{running_still}

-- ── what is held ──

pub empty_end : (meta : Sheet) (first last count : ℕ) → meta.page ≡ 0 → meta.content.body ≡ body.Meta first last count
    → count ≤ page_limit → IsPage meta.content → last ≡ 0
    → IsListEnd (record { meta = meta; first = first; pages = count; last = None })
empty_end meta first last count at names few is none = record {
  at = at;
  few = few;
  names = NamesEnd.none (names ∙ ap (λ (n : ℕ). body.Meta first n count) none);
  is_page = is;
  last_is_page = tt;
}

pub some_end : (meta held : Sheet) (first last count : ℕ) → meta.page ≡ 0
    → meta.content.body ≡ body.Meta first last count → count ≤ page_limit → IsPage meta.content → held.page ≡ last
    → last ≢ 0 → IsPendingPage held.content → IsPage held.content
    → IsListEnd (record { meta = meta; first = first; pages = count; last = Some held })
some_end meta held first last count at names few is number some rows held_is = record {
  at = at;
  few = few;
  names = NamesEnd.some held (names ∙ ap (λ (n : ℕ). body.Meta first n count) (sym number))
      (λ e. some (sym number ∙ e)) rows;
  is_page = is;
  last_is_page = held_is;
}

in_front : {A : Type 0} (xs ys : List A) (x : A) → In x xs → In x (xs ++ ys)
in_front [] ys x i = absurd i
in_front (y ∷ xs) ys x (inl e) = inl e
in_front (y ∷ xs) ys x (inr i) = inr (in_front xs ys x i)

in_back : {A : Type 0} (xs ys : List A) (x : A) → In x ys → In x (xs ++ ys)
in_back [] ys x i = i
in_back (y ∷ xs) ys x i = inr (in_back xs ys x i)

module _ {D : Type 0} (device : Disk D) where
  -- ── pages that are given back ──

  pub given_back : (a b : DbValue D) (keeps : b.pending ≡ a.pending) (p q : Pass) (x : Sheet) → IsPassOf b.frames q
      → SeesOn device b.frames p q
      → HasAdded device a.frames b.frames [] → PassRises p q
      → (q.pin ≡ p.pin) × (q.room ≡ p.room) × (q.xid ≡ p.xid) → RunsOn device a.frames b.frames
      → KeepsState a.frames b.frames → b.frames.pins ≡ a.frames.pins → Lies b x.page x.content
      → KeepsOthers a.frames b.frames (x.page ∷ []) → IsCalm device a.frames.journal b.frames.journal
      → BeginsOn device a.frames.journal b.frames.journal
      → ((f : ℕ) → fault_of a ≡ Some f → b.frames.journal ≡ a.frames.journal)
      → ((held : List Sheet) → IsHolding device a.frames p (x ∷ held) → IsHolding device b.frames q held)
      → GivesBack device a p b q (x ∷ [])
  given_back a b keeps p q x of sees added rises same runs state pins lies others calm begins rests holding = record {
    is_pass = of;
    carries = carries device a b p q added sees rises of;
    goes = one_nothing device (calm_step device a b keeps added state runs begins calm pins);
    met = calm_fault device a b calm;
    rests = rests;
    state = state;
    pins = pins;
    lying = λ n c there. elim (same_or_other n x.page) [
      | inl e ↦
          let one : c ≡ x.content =
          lies_one b x.page c x.content (subst (λ (m : ℕ). Lies b m c) e there) lies in
          inr (inl (ap₂ (λ (m : ℕ) (d : Page). sheet m d) e one))
      | inr off ↦
          inl (subst (λ (h : Home). LiesAs h c) (others n (λ i. ⊎_elim (λ (e : n ≡ x.page). off e) absurd i)) there)
    ];
    keeps = record { pin = same.0; room = same.1; xid = same.2; shown = rises.shown };
    rises = rises;
    holding = holding;
  }

  pub all_back : (a b c : DbValue D) (p q r : Pass) (xs ys : List Sheet) → GivesBack device a p b q xs
      → GivesBack device b q c r ys → GivesBack device a p c r (xs ++ ys)
  all_back a b c p q r xs ys f g = record {
    is_pass = g.is_pass;
    carries = carries_on device a b c p q r (f.keeps).xid f.carries g.carries;
    goes = goes_still device f.goes g.goes;
    met = none_in_turn device f.met g.met;
    rests = λ n e. g.rests n ((f.met).down ∙ e) ∙ f.rests n e;
    state = state_in_turn a.frames b.frames c.frames f.state g.state;
    pins = g.pins ∙ f.pins;
    lying = λ n d there. ⊎_elim
        (λ (was : Lies b n d). ⊎_elim
        (λ (before : Lies a n d). inl before)
        (λ (i : In (sheet n d) xs). inr (in_front xs ys (sheet n d) i))
        (f.lying n d was))
        (λ (i : In (sheet n d) ys). inr (in_back xs ys (sheet n d) i)) (g.lying n d there);
    keeps = keeps_on p q r f.keeps g.keeps;
    rises = record {
      seen = omega (arith, (f.rises).seen, (g.rises).seen);
      shown = omega (arith, (f.rises).shown, (g.rises).shown);
      floor = omega (arith, (f.rises).floor, (g.rises).floor);
      since = omega (arith, (f.rises).since, (g.rises).since);
    };
    holding = λ held h. g.holding held
        (f.holding (ys ++ held) (subst (IsHolding device a.frames p) (append_assoc xs ys held) h));
  }

  pub both_back : (a b c : DbValue D) (p q r : Pass) (x y : Sheet) → GivesBack device a p b q (x ∷ [])
      → GivesBack device b q c r (y ∷ []) → GivesBack device a p c r (x ∷ y ∷ [])
  both_back a b c p q r x y f g = all_back a b c p q r (x ∷ []) (y ∷ []) f g

  -- calls that go on, and then pages are given back that lay there before
  pub works_back : (a b c : DbValue D) (p q r : Pass) (xs : List Sheet) → WorksOn device a p b q
      → GivesBack device b q c r xs → ((n : ℕ) (d : Page) → In (sheet n d) xs → Lies a n d) → WorksOn device a p c r
  works_back a b c p q r xs w f lay = record {
    is_pass = f.is_pass;
    carries = carries_on device a b c p q r (w.keeps).xid w.carries f.carries;
    goes = goes_still device w.goes f.goes;
    state = state_in_turn a.frames b.frames c.frames w.state f.state;
    pins = f.pins ∙ w.pins;
    lying = λ n d there. ⊎_elim (λ (was : Lies b n d). w.lying n d was) (λ (i : In (sheet n d) xs). lay n d i)
        (f.lying n d there);
    keeps = keeps_on p q r w.keeps f.keeps;
    rises = record {
      seen = omega (arith, (w.rises).seen, (f.rises).seen);
      shown = omega (arith, (w.rises).shown, (f.rises).shown);
      floor = omega (arith, (w.rises).floor, (f.rises).floor);
      since = omega (arith, (w.rises).since, (f.rises).since);
    };
  }

  pub lies_back : (s : DbValue D) (x : Sheet) → Lies s x.page x.content → (n : ℕ) (d : Page)
      → In (sheet n d) (x ∷ []) → Lies s n d
  lies_back s x lies n d i = ⊎_elim (λ (e : sheet n d ≡ x).
      subst (λ (y : Sheet). Lies s y.page y.content) (sym e) lies) absurd i

  -- the transaction runs on once all pages are back
  pub runs_back : (a b c : DbValue D) (p q r : Pass) (t : Transaction) (xs : List Sheet) → IsRunning device a p t
      → CarriesOwn device a p b q → KeepsWork p q → GivesBack device b q c r xs
      → IsHolding device b.frames q (xs ++ []) → IsRunning device c r t
  runs_back a b c p q r t xs run carried keeps f hold =
      running_still device a c p r t run f.is_pass (sym (f.holding [] hold).all) (keeps_on p q r keeps f.keeps)
      (carries_on device a b c p q r keeps.xid carried f.carries)

  pub all_back_runs : (a b c : DbValue D) (p q r : Pass) (t : Transaction) (xs : List Sheet) (y : Sheet)
      → IsRunning device a p t → CarriesOwn device a p b q → KeepsWork p q → GivesBack device b q c r (xs ++ y ∷ [])
      → IsHolding device b.frames q (xs ++ y ∷ []) → IsRunning device c r t
  all_back_runs a b c p q r t xs y run carried keeps f hold =
      runs_back a b c p q r t (xs ++ y ∷ []) run carried keeps f
      (subst (IsHolding device b.frames q) (sym (append-nil (xs ++ y ∷ []))) hold)

  -- a refusal is told so after it too
  pub told_given : {T : Type 0} (a m e : DbValue D) (p q : Pass) (xs : List Sheet) (r : Result T DbError)
      → FaultIsTold device a m r → GivesBack device m p e q xs → FaultIsTold device a e r
  told_given a m e p q xs (Ok x) told f = none_in_turn device told f.met
  told_given a m e p q xs (Err DiskFault) told f = fault_still device told (f.rests _ told.down)
  told_given a m e p q xs (Err NoDocument) told f = none_in_turn device told f.met
  told_given a m e p q xs (Err (Conflict x)) told f = none_in_turn device told f.met
  told_given a m e p q xs (Err StoreFull) told f = none_in_turn device told f.met
  told_given a m e p q xs (Err LogFull) told f = none_in_turn device told f.met
  told_given a m e p q xs (Err XidsSpent) told f = none_in_turn device told f.met
  told_given a m e p q xs (Err (Down n)) told f = none_in_turn device told f.met
  told_given a m e p q xs (Err (BadPage n)) told f = none_in_turn device told f.met
  told_given a m e p q xs (Err OutOfMemory) told f = none_in_turn device told f.met

  -- no more is held than before
  pub no_more_back : (a b c : DbValue D) (p q r : Pass) (x : Sheet)
      → ((held : List Sheet) → IsHolding device a.frames p held → IsHolding device b.frames q (x ∷ held))
      → GivesBack device b q c r (x ∷ []) → (held : List Sheet) × IsHolding device a.frames p held
      → HoldsNoMore device a p c r
  no_more_back a b c p q r x more f some =
      let all : (held : List Sheet) → IsHolding device a.frames p held → IsHolding device c.frames r held =
      λ held h. f.holding held (more held h) in
      record { holding = all; held = sym (all some.0 some.1).all ∙ (some.1).all }

  -- ── why they aren't held ──

  pub last_held : (s : DbValue D) (p : ℕ) (e : DbError) → CannotHold device s p IsNoPageAt e
      → CannotHoldLast device s p e
  last_held s p (Down f) c = c
  last_held s p (BadPage q) c = (c.0, none_at device s (IsRows s) p c.1)
  last_held s p DiskFault c = tt
  last_held s p OutOfMemory c = tt
  last_held s p _ c = absurd c

  pub last_other : (s : DbValue D) (p : ℕ) (c : Page) → IsPage c → Lies s p c → (IsRows s c → ⊥)
      → CannotHoldLast device s p (BadPage p)
  last_other s p c is lies off = (refl, IsNone.other c is lies off)

  pub meta_held : (s : DbValue D) (e : DbError) → CannotHold device s 0 IsNoPageAt e → CannotHoldList device s e
  meta_held s (Down f) c = c
  meta_held s (BadPage q) c = IsBadList.meta c.0 (none_at device s (IsListMeta s) 0 c.1)
  meta_held s DiskFault c = tt
  meta_held s OutOfMemory c = tt
  meta_held s _ c = absurd c

  pub meta_other : (s : DbValue D) (c : Page) → IsPage c → Lies s 0 c
      → ((first last count : ℕ) → c.body ≡ body.Meta first last count → page_limit < count)
      → CannotHoldList device s (BadPage 0)
  meta_other s c is lies over = IsBadList.meta refl (IsNone.other c is lies
      (λ m. let past = over m.0 m.1 m.2 m.3 in omega (arith, past, m.4)))

  -- what was none once another page was held, was none
  none_before : (a b : DbValue D) (Is : Page → Type 0) (n p : ℕ) → KeepsOthers a.frames b.frames (n ∷ []) → p ≢ n
      → IsNone b Is p → IsNone a Is p
  none_before a b Is n p others off (IsNone.past high) = IsNone.past high
  none_before a b Is n p others off (IsNone.bytes bytes) = IsNone.bytes
      (subst (λ (h : Home). IsNoPageHere h)
      (others p (λ i. ⊎_elim (λ (e : p ≡ n). off e) absurd i)) bytes)
  none_before a b Is n p others off (IsNone.other c is lies not) = IsNone.other c is
      (subst (λ (h : Home). LiesAs h c) (others p (λ i. ⊎_elim (λ (e : p ≡ n). off e) absurd i)) lies) not

  pub last_of_meta : (a b : DbValue D) (c : Page) (first last count : ℕ) (e : DbError) → IsPage c → Lies a 0 c
      → c.body ≡ body.Meta first last count → last ≢ 0 → KeepsOthers a.frames b.frames (0 ∷ [])
      → fault_of b ≡ fault_of a
      → CannotHoldLast device b last e → CannotHoldList device a e
  last_of_meta a b c first last count (Down f) is lies names some others same why = sym same ∙ why
  last_of_meta a b c first last count (BadPage q) is lies names some others same why =
      subst (IsBadList a) (sym why.0) (IsBadList.last
      (record { meta = c; is_page = is; lies = lies; first = first; count = count; names = names; some = some })
      (none_before a b (IsRows b) 0 last others some why.1))
  last_of_meta a b c first last count DiskFault is lies names some others same why = tt
  last_of_meta a b c first last count OutOfMemory is lies names some others same why = tt
  last_of_meta a b c first last count _ is lies names some others same why = absurd why

  -- ── what a lawful store tells ──

  module _ (s : DbValue D) (R : Log) (P : Pages) (tells : device.tells) (up : IsUp s)
      (stands : Stands device s.frames R)
      (legal : IsLegal R) (shown : Shows R P) (some : R ≢ []) where
    few_pages : (p : ℕ) (qs : List ℕ) → IsChain P p qs → ((q : ℕ) → In q qs → q < page_limit) → length qs ≤ page_limit
    few_pages p qs c low = few_below page_limit qs (chain_once P p qs c) low

    pub no_bad_list : (p : ℕ) → IsBadList s p → ⊥
    no_bad_list p (IsBadList.meta at none) =
        let list = (pages R P legal shown).list in
        let m = list.meta some in
        let is : IsListMeta s (P 0) = (
          m.0,
          m.1,
          length list.pages,
          m.2,
          few_pages _ list.pages list.is_line (λ q i.
              let w = list.some_row q i in
              small device s R P tells up stands legal shown q
              (λ free. let z : body.Pending (w.0 ∷ w.1) ≡ body.Free = sym w.2 ∙ free in (let x : ⊥ = cc in x))),
        ) in
        not_none device s R P tells up stands legal shown (IsListMeta s) 0 (omega arith) is none
    no_bad_list p (IsBadList.last n none) =
        let list = (pages R P legal shown).list in
        let m = list.meta some in
        let same : n.meta ≡ P 0 =
        lies_is device s R P tells up stands legal shown 0 n.meta n.is_page n.lies in
        let names : body.Meta n.first p n.count ≡ body.Meta m.0 m.1 (length list.pages) =
        sym n.names ∙ ap (λ (c : Page). c.body) same ∙ m.2 in
        let last : p ≡ m.1 = cc in
        let on : In p list.pages = on_list list.pages m.1 p m.3 (sym last) n.some in
        let w = list.some_row p on in
        not_none device s R P tells up stands legal shown (IsRows s) p
        (small device s R P tells up stands legal shown p
        (λ free. let z : body.Pending (w.0 ∷ w.1) ≡ body.Free = sym w.2 ∙ free in (let x : ⊥ = cc in x)))
        (w.0 ∷ w.1, w.2) none
      where
        in_end : (front : List ℕ) (q : ℕ) → In q (front ++ q ∷ [])
        in_end [] q = inl refl
        in_end (x ∷ front) q = inr (in_end front q)

        on_list : (qs : List ℕ) (last q : ℕ) → IsLastOf qs last → last ≡ q → q ≢ 0 → In q qs
        on_list _ _ q IsLastOf.none e off = absurd (off (sym e))
        on_list _ _ q (IsLastOf.some front last) e off = subst (λ (z : ℕ). In z (front ++ last ∷ [])) e
            (in_end front last)

  -- the pages of the pending list are not bad on a store that stands for a history
  pub list_is_good : (s : DbValue D) (pass : Pass) (p : ℕ) → IsPassOf s.frames pass → IsBadList s p → device.tells
      → (found H : History) → StandsFor device found s H → IsUp s → ⊥
  list_is_good s pass p of bad tells found H f up =
      let legal = f.begins.log_of.legal in
      let shown = shown_by f.log legal.valid in
      let long = log_length device s.frames.journal f.log (f.stands).journal in
      let some : f.log ≢ [] = λ none. omega (arith, ap length none, long, of.some, of.seen) in
      no_bad_list s f.log shown.0 tells up f.stands legal shown.1 some p bad

  pub list_lawful : (s : DbValue D) (pass : Pass) (e : DbError) → IsPassOf s.frames pass → CannotHoldList device s e
      → MeetsNoBadPage device s e
  list_lawful s pass (BadPage p) of c = λ tells found H f up. list_is_good s pass p of c tells found H f up
  list_lawful s pass _ of c = tt
