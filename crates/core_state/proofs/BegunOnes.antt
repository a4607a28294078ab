-- Transactions in the order of their xids, of which some have ended.
use Rattle.std.proofs.Common.{◌≡◌, ◌≢◌, ◌<◌, ◌≤◌, ℕ, zero, suc, Bool, true, false, cond, List, [], ◌∷◌, ◌++◌, length}
use Rattle.std.proofs.Common.{get_or, set, refl, sym, ap, subst, ◌∙◌, inl, inr, arith}
use Rattle.std.specs.Prelude.{Some, None, Ok, Err}
use Rattle.std.specs.List.{slice_get}
use Rattle.std.specs.List.Sorted.{IsBinarySearchResult, IsNonDecreasingBy}
use Rattle.std.specs.Ordering.{nat_cmp, ordering_index}
use Rattle.std.proofs.lemmas.Cmp.{ranked}
use Rattle.std.proofs.lemmas.Bool.Decides.{nat_tests}
use Rattle.std.proofs.lemmas.Option.{slice_get-get_or}
use Rattle.core_state.specs.States.{transaction, without, replaced}
use Rattle.core_state.specs.Inner.Begun.{running_of, kept, AreBegun, end_of}
use Rattle.core_state.specs.declared.transactions.Transaction.{Transaction}
use Rattle.core_state.specs.declared.running.Begun.{Begun}
use Rattle.core_state.proofs.RunningOnes.{on_same, on_other, first_is, first_isnt, first_goes, first_stays, none_behind}
use Rattle.core_state.proofs.RunningOnes.{same_or_other, below_or_past}

pub some_begun : (a b : Begun) → Some a ≡ Some b → a ≡ b
some_begun a b e = cc

pub none_begun : (b : Begun) → None ≡ Some b → ⊥
none_begun b e = cc

-- each xid is at least the number from which they rise
pub from_start : (bs : List Begun) (n i : ℕ) (b : Begun) → AreBegun n bs → slice_get bs i ≡ Some b
    → n ≤ b.transaction.xid
from_start [] n i b up e = absurd (none_begun b e)
from_start (c ∷ cs) n zero b up e =
    subst (λ (k : Begun). n ≤ k.transaction.xid) (some_begun c b e) up.0
from_start (c ∷ cs) n (suc i) b up e =
    omega (arith, up.0, from_start cs (suc c.transaction.xid) i b up.1 e)

-- the xids rise
pub never_falls : (bs : List Begun) (n i j : ℕ) (d : Begun) → AreBegun n bs → i ≤ j → j < length bs
    → (get_or bs i d).transaction.xid ≤ (get_or bs j d).transaction.xid
never_falls [] n i j d up le lt = absurd (omega (arith, lt))
never_falls (c ∷ cs) n zero zero d up le lt = omega arith
never_falls (c ∷ cs) n zero (suc j) d up le lt =
    let there : j < length cs = omega (arith, lt) in
    omega (
      arith,
      from_start cs (suc c.transaction.xid) j (get_or cs j d) up.1
          (slice_get-get_or cs j d there),
    )
never_falls (c ∷ cs) n (suc i) zero d up le lt = absurd (omega (arith, le))
never_falls (c ∷ cs) n (suc i) (suc j) d up le lt =
    never_falls cs (suc c.transaction.xid) i j d up.1 (omega (arith, le)) (omega (arith, lt))

-- another xid in front changes nothing
skipped : (k : Bool) (t : Transaction) (ts : List Transaction) (x : ℕ) → t.xid ≢ x
    → transaction x (cond k (t ∷ ts) ts) ≡ transaction x ts
skipped true t ts x off = first_isnt t ts x off
skipped false t ts x off = refl

-- none runs with an xid that none has
pub none_runs : (bs : List Begun) (x : ℕ)
    → ((i : ℕ) (d : Begun) → i < length bs → (get_or bs i d).transaction.xid ≢ x)
    → transaction x (running_of bs) ≡ None
none_runs [] x off = refl
none_runs (c ∷ cs) x off =
    skipped c.runs c.transaction (running_of cs) x (off 0 c (omega arith))
    ∙ none_runs cs x (λ i d lt. off (suc i) d (omega (arith, lt)))

-- the end is above all of them
end_above : (bs : List Begun) (n : ℕ) → AreBegun n bs → n ≤ end_of n bs
end_above [] n up = omega arith
end_above (c ∷ cs) n up = omega (arith, up.0, end_above cs (suc c.transaction.xid) up.1)

-- nor with one below all of them
none_above : (bs : List Begun) (n x : ℕ) → AreBegun n bs → x < n
    → transaction x (running_of bs) ≡ None
none_above [] n x up lt = refl
none_above (c ∷ cs) n x up lt =
    skipped c.runs c.transaction (running_of cs) x (λ e. omega (arith, up.0, lt, e))
    ∙ none_above cs (suc c.transaction.xid) x up.1 (omega (arith, up.0, lt))

-- nor with one from the end on
pub none_past : (bs : List Begun) (n x : ℕ) → AreBegun n bs → end_of n bs ≤ x
    → transaction x (running_of bs) ≡ None
none_past [] n x up le = refl
none_past (c ∷ cs) n x up le =
    let past : suc c.transaction.xid ≤ end_of (suc c.transaction.xid) cs =
    end_above cs (suc c.transaction.xid) up.1 in
    skipped c.runs c.transaction (running_of cs) x (λ e. omega (arith, past, le, e))
    ∙ none_past cs (suc c.transaction.xid) x up.1 le

-- nor with that of one that has ended
pub ended_runs_not : (bs : List Begun) (n x i : ℕ) (b : Begun) → AreBegun n bs
    → slice_get bs i ≡ Some b → b.transaction.xid ≡ x → b.runs ≡ false
    → transaction x (running_of bs) ≡ None
ended_runs_not [] n x i b up e xid ended = absurd (none_begun b e)
ended_runs_not (c ∷ cs) n x zero b up e xid ended =
    let same : c ≡ b = some_begun c b e in
    let off : c.runs ≡ false = ap (λ (k : Begun). k.runs) same ∙ ended in
    let here : c.transaction.xid ≡ x = ap (λ (k : Begun). k.transaction.xid) same ∙ xid in
    ap (λ k. transaction x (cond k (c.transaction ∷ running_of cs) (running_of cs))) off
    ∙ none_above cs (suc c.transaction.xid) x up.1 (omega (arith, here))
ended_runs_not (c ∷ cs) n x (suc i) b up e xid ended =
    let above : suc c.transaction.xid ≤ b.transaction.xid =
    from_start cs (suc c.transaction.xid) i b up.1 e in
    skipped c.runs c.transaction (running_of cs) x (λ f. omega (arith, above, xid, f))
    ∙ ended_runs_not cs (suc c.transaction.xid) x i b up.1 e xid ended

-- the running one with an xid
pub found_runs : (bs : List Begun) (n x i : ℕ) (b : Begun) → AreBegun n bs → slice_get bs i ≡ Some b
    → b.transaction.xid ≡ x → b.runs ≡ true
    → transaction x (running_of bs) ≡ Some b.transaction
found_runs [] n x i b up e xid runs = absurd (none_begun b e)
found_runs (c ∷ cs) n x zero b up e xid runs =
    let same : c ≡ b = some_begun c b e in
    let on : c.runs ≡ true = ap (λ (k : Begun). k.runs) same ∙ runs in
    let here : c.transaction.xid ≡ x = ap (λ (k : Begun). k.transaction.xid) same ∙ xid in
    ap (λ k. transaction x (cond k (c.transaction ∷ running_of cs) (running_of cs))) on
    ∙ first_is c.transaction (running_of cs) x here ∙ ap (λ (k : Begun). Some k.transaction) same
found_runs (c ∷ cs) n x (suc i) b up e xid runs =
    let above : suc c.transaction.xid ≤ b.transaction.xid =
    from_start cs (suc c.transaction.xid) i b up.1 e in
    skipped c.runs c.transaction (running_of cs) x (λ f. omega (arith, above, xid, f))
    ∙ found_runs cs (suc c.transaction.xid) x i b up.1 e xid runs

-- who doesn't run doesn't leave
pub absent_stays : (ts : List Transaction) (x : ℕ) → transaction x ts ≡ None → without x ts ≡ ts
absent_stays [] x off = refl
absent_stays (u ∷ us) x off =
    let behind = none_behind u us x off in
    first_stays u us x behind.0
    ∙ ap (λ (vs : List Transaction). u ∷ vs) (absent_stays us x behind.1)

put_behind : (k : Bool) (u t : Transaction) (ts us : List Transaction) → u.xid ≢ t.xid
    → us ≡ replaced t ts → cond k (u ∷ us) us ≡ replaced t (cond k (u ∷ ts) ts)
put_behind true u t ts us off e =
    ap (λ (vs : List Transaction). u ∷ vs) e
    ∙ sym (on_other u.xid t.xid (t ∷ ts) (u ∷ replaced t ts) off)
put_behind false u t ts us off e = e

-- one changes at its place
pub running_put : (bs : List Begun) (n i : ℕ) (b new : Begun) → AreBegun n bs
    → slice_get bs i ≡ Some b → b.runs ≡ true → new.runs ≡ true
    → new.transaction.xid ≡ b.transaction.xid
    → running_of (set bs i new) ≡ replaced new.transaction (running_of bs)
running_put [] n i b new up e runs still xid = absurd (none_begun b e)
running_put (c ∷ cs) n zero b new up e runs still xid =
    let same : c ≡ b = some_begun c b e in
    let on : c.runs ≡ true = ap (λ (k : Begun). k.runs) same ∙ runs in
    let here : c.transaction.xid ≡ new.transaction.xid =
    ap (λ (k : Begun). k.transaction.xid) same ∙ sym xid in
    ap (λ k. cond k (new.transaction ∷ running_of cs) (running_of cs)) still
    ∙ sym
    (ap (λ k. replaced new.transaction (cond k (c.transaction ∷ running_of cs) (running_of cs))) on
    ∙ on_same c.transaction.xid new.transaction.xid (new.transaction ∷ running_of cs)
    (c.transaction ∷ replaced new.transaction (running_of cs)) here)
running_put (c ∷ cs) n (suc i) b new up e runs still xid =
    let above : suc c.transaction.xid ≤ b.transaction.xid =
    from_start cs (suc c.transaction.xid) i b up.1 e in
    put_behind c.runs c.transaction new.transaction (running_of cs) (running_of (set cs i new))
    (λ f. omega (arith, above, xid, f))
    (running_put cs (suc c.transaction.xid) i b new up.1 e runs still xid)

left_behind : (k : Bool) (u : Transaction) (x : ℕ) (ts us : List Transaction) → u.xid ≢ x
    → us ≡ without x ts → cond k (u ∷ us) us ≡ without x (cond k (u ∷ ts) ts)
left_behind true u x ts us off e =
    ap (λ (vs : List Transaction). u ∷ vs) e ∙ sym (first_stays u ts x off)
left_behind false u x ts us off e = e

-- one ends at its place
pub running_left : (bs : List Begun) (n x i : ℕ) (b new : Begun) → AreBegun n bs
    → slice_get bs i ≡ Some b → b.transaction.xid ≡ x → b.runs ≡ true → new.runs ≡ false
    → running_of (set bs i new) ≡ without x (running_of bs)
running_left [] n x i b new up e xid runs ended = absurd (none_begun b e)
running_left (c ∷ cs) n x zero b new up e xid runs ended =
    let same : c ≡ b = some_begun c b e in
    let on : c.runs ≡ true = ap (λ (k : Begun). k.runs) same ∙ runs in
    let here : c.transaction.xid ≡ x = ap (λ (k : Begun). k.transaction.xid) same ∙ xid in
    let rest : List Transaction = running_of cs in
    ap (λ k. cond k (new.transaction ∷ rest) rest) ended
    ∙ sym
    (ap (λ k. without x (cond k (c.transaction ∷ rest) rest)) on
    ∙ first_goes c.transaction rest x here
    ∙ absent_stays rest x (none_above cs (suc c.transaction.xid) x up.1 (omega (arith, here))))
running_left (c ∷ cs) n x (suc i) b new up e xid runs ended =
    let above : suc c.transaction.xid ≤ b.transaction.xid =
    from_start cs (suc c.transaction.xid) i b up.1 e in
    left_behind c.runs c.transaction x (running_of cs) (running_of (set cs i new))
    (λ f. omega (arith, above, xid, f))
    (running_left cs (suc c.transaction.xid) x i b new up.1 e xid runs ended)

-- the xids rise still, up to the same end
pub begun_put : (bs : List Begun) (n i : ℕ) (b new : Begun) → AreBegun n bs
    → slice_get bs i ≡ Some b → new.transaction.xid ≡ b.transaction.xid
    → AreBegun n (set bs i new) × (end_of n (set bs i new) ≡ end_of n bs)
begun_put [] n i b new up e xid = absurd (none_begun b e)
begun_put (c ∷ cs) n zero b new up e xid =
    let here : c.transaction.xid ≡ new.transaction.xid =
    ap (λ (k : Begun). k.transaction.xid) (some_begun c b e) ∙ sym xid in (
      (subst (λ k. n ≤ k) here up.0, subst (λ k. AreBegun (suc k) cs) here up.1),
      ap (λ k. end_of (suc k) cs) (sym here),
    )
begun_put (c ∷ cs) n (suc i) b new up e xid =
    let rest = begun_put cs (suc c.transaction.xid) i b new up.1 e xid in
    ((up.0, rest.0), rest.1)

length_replaced : (t : Transaction) (ts : List Transaction) → length (replaced t ts) ≡ length ts
length_replaced t [] = refl
length_replaced t (u ∷ us) = elim (same_or_other u.xid t.xid) [
  | inl e ↦ ap length (on_same u.xid t.xid (t ∷ us) (u ∷ replaced t us) e)
  | inr d ↦ ap length (on_other u.xid t.xid (t ∷ us) (u ∷ replaced t us) d)
      ∙ ap suc (length_replaced t us)
]

-- as many run as before
pub count_put : (bs : List Begun) (n i : ℕ) (b new : Begun) → AreBegun n bs
    → slice_get bs i ≡ Some b → b.runs ≡ true → new.runs ≡ true
    → new.transaction.xid ≡ b.transaction.xid
    → length (running_of (set bs i new)) ≡ length (running_of bs)
count_put bs n i b new up e runs still xid =
    ap length (running_put bs n i b new up e runs still xid)
    ∙ length_replaced new.transaction (running_of bs)

count_behind : (k : Bool) (u : Transaction) (ts us : List Transaction) → suc (length us) ≡ length ts
    → suc (length (cond k (u ∷ us) us)) ≡ length (cond k (u ∷ ts) ts)
count_behind true u ts us e = ap suc e
count_behind false u ts us e = e

-- one less runs
pub count_left : (bs : List Begun) (i : ℕ) (b new : Begun) → slice_get bs i ≡ Some b → b.runs ≡ true
    → new.runs ≡ false
    → suc (length (running_of (set bs i new))) ≡ length (running_of bs)
count_left [] i b new e runs ended = absurd (none_begun b e)
count_left (c ∷ cs) zero b new e runs ended =
    let on : c.runs ≡ true = ap (λ (k : Begun). k.runs) (some_begun c b e) ∙ runs in
    let rest : List Transaction = running_of cs in
    ap (λ k. suc (length (cond k (new.transaction ∷ rest) rest))) ended
    ∙ sym (ap (λ k. length (cond k (c.transaction ∷ rest) rest)) on)
count_left (c ∷ cs) (suc i) b new e runs ended =
    count_behind c.runs c.transaction (running_of cs) (running_of (set cs i new))
    (count_left cs i b new e runs ended)

count_more : (k : Bool) (u : Transaction) (ts : List Transaction) (n : ℕ) → length ts ≤ n
    → length (cond k (u ∷ ts) ts) ≤ suc n
count_more true u ts n le = omega (arith, le)
count_more false u ts n le = omega (arith, le)

-- no more run than have begun
pub count_most : (bs : List Begun) → length (running_of bs) ≤ length bs
count_most [] = omega arith
count_most (c ∷ cs) = count_more c.runs c.transaction (running_of cs) (length cs) (count_most cs)

kept_front : (k : Bool) (u : Transaction) (ts : List Transaction) (c : Begun) (bs : List Begun)
    → c.runs ≡ k → running_of bs ≡ ts
    → running_of (cond k (c ∷ bs) bs) ≡ cond k (c.transaction ∷ ts) ts
kept_front true u ts c bs on e =
    ap (λ k. cond k (c.transaction ∷ running_of bs) (running_of bs)) on
    ∙ ap (λ (vs : List Transaction). c.transaction ∷ vs) e
kept_front false u ts c bs on e = e

-- the ended ones go, and none that runs
pub running_kept : (bs : List Begun) → running_of (kept bs) ≡ running_of bs
running_kept [] = refl
running_kept (c ∷ cs) =
    kept_front c.runs c.transaction (running_of cs) c (kept cs) refl (running_kept cs)

length_front : (k : Bool) (c : Begun) (t : Transaction) (bs : List Begun) (ts : List Transaction)
    → length bs ≡ length ts → length (cond k (c ∷ bs) bs) ≡ length (cond k (t ∷ ts) ts)
length_front true c t bs ts e = ap suc e
length_front false c t bs ts e = e

-- as many stay as run
pub length_kept : (bs : List Begun) → length (kept bs) ≡ length (running_of bs)
length_kept [] = refl
length_kept (c ∷ cs) =
    length_front c.runs c c.transaction (kept cs) (running_of cs) (length_kept cs)

from_less : (bs : List Begun) (m n : ℕ) → m ≤ n → AreBegun n bs → AreBegun m bs
from_less [] m n le up = tt
from_less (c ∷ cs) m n le up = (omega (arith, le, up.0), up.1)

end_less : (bs : List Begun) (m n : ℕ) → m ≤ n → end_of m bs ≤ end_of n bs
end_less [] m n le = le
end_less (c ∷ cs) m n le = omega arith

kept_rise : (k : Bool) (c : Begun) (n : ℕ) (bs : List Begun) → n ≤ c.transaction.xid
    → AreBegun (suc c.transaction.xid) bs → AreBegun n (cond k (c ∷ bs) bs)
kept_rise true c n bs le up = (le, up)
kept_rise false c n bs le up = from_less bs n (suc c.transaction.xid) (omega (arith, le)) up

kept_end : (k : Bool) (c : Begun) (n m : ℕ) (bs : List Begun) → n ≤ c.transaction.xid
    → end_of (suc c.transaction.xid) bs ≤ m → end_of n (cond k (c ∷ bs) bs) ≤ m
kept_end true c n m bs le end = end
kept_end false c n m bs le end =
    omega (arith, end, end_less bs n (suc c.transaction.xid) (omega (arith, le)))

-- their xids rise, up to no later end
pub begun_kept : (bs : List Begun) (n : ℕ) → AreBegun n bs
    → AreBegun n (kept bs) × (end_of n (kept bs) ≤ end_of n bs)
begun_kept [] n up = (tt, omega arith)
begun_kept (c ∷ cs) n up =
    let rest = begun_kept cs (suc c.transaction.xid) up.1 in (
      kept_rise c.runs c n (kept cs) up.0 rest.0,
      kept_end c.runs c n
          (end_of (suc c.transaction.xid) cs) (kept cs) up.0 rest.1,
    )

more_front : (k : Bool) (u t : Transaction) (ts us : List Transaction) → us ≡ ts ++ t ∷ []
    → cond k (u ∷ us) us ≡ cond k (u ∷ ts) ts ++ t ∷ []
more_front true u t ts us e = ap (λ (vs : List Transaction). u ∷ vs) e
more_front false u t ts us e = e

-- one more runs, after all that have begun
pub running_more : (bs : List Begun) (b : Begun) → b.runs ≡ true
    → running_of (bs ++ b ∷ []) ≡ running_of bs ++ b.transaction ∷ []
running_more [] b runs = ap (λ k. cond k (b.transaction ∷ []) []) runs
running_more (c ∷ cs) b runs =
    more_front c.runs c.transaction b.transaction (running_of cs) (running_of (cs ++ b ∷ []))
    (running_more cs b runs)

-- the xids rise with it
pub begun_more : (bs : List Begun) (n : ℕ) (b : Begun) → AreBegun n bs
    → end_of n bs ≤ b.transaction.xid
    → AreBegun n (bs ++ b ∷ []) × (end_of n (bs ++ b ∷ []) ≡ suc b.transaction.xid)
begun_more [] n b up le = ((le, tt), refl)
begun_more (c ∷ cs) n b up le =
    let rest = begun_more cs (suc c.transaction.xid) b up.1 le in
    ((up.0, rest.0), rest.1)

-- the comparisons with an xid rise along the row, as a binary search asks
xids_rise : (bs : List Begun) (x : ℕ) → AreBegun 0 bs
    → IsNonDecreasingBy (λ (b : Begun). ordering_index (nat_cmp b.transaction.xid x)) bs
xids_rise bs x up = λ i j d le lt.
    let rise : (get_or bs i d).transaction.xid ≤ (get_or bs j d).transaction.xid =
    never_falls bs 0 i j d up le lt in
    grind (arith, nat_tests)

-- a binary search ends at the one with the xid
pub search_finds : (bs : List Begun) (x i : ℕ) (d : Begun)
    → IsBinarySearchResult (λ (b : Begun). nat_cmp b.transaction.xid x) bs (Ok i)
    → (get_or bs i d).transaction.xid ≡ x
search_finds bs x i d h = ranked _ x _ (sym (h d))

-- or none has it
pub search_misses : (bs : List Begun) (x i : ℕ) → AreBegun 0 bs
    → IsBinarySearchResult (λ (b : Begun). nat_cmp b.transaction.xid x) bs (Err i)
    → transaction x (running_of bs) ≡ None
search_misses bs x i up h = none_runs bs x (λ j d lt e. elim (below_or_past j i) [
  | inl l ↦
      let below : (get_or bs j d).transaction.xid < x =
      ranked _ x _ (sym ((h (xids_rise bs x up)).0 j d (omega arith) l)) in
      omega (arith, below, e)
  | inr p ↦
      let above : x < (get_or bs j d).transaction.xid =
      ranked _ x _ (sym ((h (xids_rise bs x up)).1 j d p lt)) in
      omega (arith, above, e)
])
