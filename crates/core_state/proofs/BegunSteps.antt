-- What the calls on the running transactions make of those that have begun.
use Rattle.std.proofs.Common.{◌≡◌, ◌<◌, ◌≤◌, ◌*◌, ◌-◌, ◌+◌, ℕ, zero, suc, true, false, List, [], ◌∷◌, ◌++◌, length}
use Rattle.std.proofs.Common.{get_or, set, refl, sym, ap, subst, ◌∙◌, arith}
use Rattle.std.specs.Prelude.{Option, Some, IfSome}
use Rattle.page_types.specs.declared.page.Name.{Name}
use Rattle.std.specs.List.{slice_get}
use Rattle.std.proofs.lemmas.List.{length-set, length-append}
use Rattle.core_state.specs.States.{transaction, without, replaced, with_placed, with_marked}
use Rattle.core_state.specs.Inner.Begun.{running_of, kept, AreBegun, end_of, IsRunningAt}
use Rattle.core_state.specs.declared.transactions.Transaction.{Transaction}
use Rattle.core_state.specs.declared.running.Begun.{Begun}
use Rattle.core_state.proofs.BegunOnes.{none_begun, some_begun, found_runs, running_put, running_left, begun_put}
use Rattle.core_state.proofs.BegunOnes.{count_put, count_left, running_kept, length_kept, begun_kept, running_more}
use Rattle.core_state.proofs.BegunOnes.{begun_more}

got : (bs : List Begun) (i : ℕ) (b d : Begun) → slice_get bs i ≡ Some b
    → (i < length bs) × (get_or bs i d ≡ b)
got [] i b d e = absurd (none_begun b e)
got (c ∷ cs) zero b d e = (omega arith, some_begun c b e)
got (c ∷ cs) (suc i) b d e = let rest = got cs i b d e in (omega (arith, rest.0), rest.1)

-- the running transaction at a place, as it is read there
pub record IsSeen (bs : List Begun) (x i : ℕ) (b : Begun) : Type 0 where
  pub within : i < length bs
  pub at : slice_get bs i ≡ Some b
  pub xid : b.transaction.xid ≡ x
  pub runs : b.runs ≡ true

pub seen : (bs ds : List Begun) (x i : ℕ) (b : Begun) → ds ≡ bs → IsRunningAt ds x i
    → b ≡ get_or bs i b → IsSeen bs x i b
seen bs ds x i b same w is =
    let v : IsRunningAt bs x i = subst (λ (k : List Begun). IsRunningAt k x i) same w in
    let here = got bs i v.begun b v.at in
    let eq : v.begun ≡ b = sym (is ∙ here.1) in
    record {
      within = here.0;
      at = v.at ∙ ap (λ (k : Begun). Some k) eq;
      xid = sym (ap (λ (k : Begun). k.transaction.xid) eq) ∙ v.xid;
      runs = sym (ap (λ (k : Begun). k.runs) eq) ∙ v.runs;
    }

-- it is the running one of its xid
pub seen_runs : (bs : List Begun) (ts : List Transaction) (x i : ℕ) (b : Begun) → AreBegun 0 bs
    → running_of bs ≡ ts → IsSeen bs x i b → transaction x ts ≡ Some b.transaction
seen_runs bs ts x i b up same w =
    sym (ap (transaction x) same) ∙ found_runs bs 0 x i b up w.at w.xid w.runs

-- one changes, and its xid stays
pub put_seen : (bs : List Begun) (ts : List Transaction) (x i : ℕ) (b : Begun) (t : Transaction)
    → AreBegun 0 bs → running_of bs ≡ ts → IsSeen bs x i b
    → t.xid ≡ b.transaction.xid
    → running_of (set bs i (record { transaction = t; runs = b.runs })) ≡ replaced t ts
put_seen bs ts x i b t up same w xid =
    running_put bs 0 i b (record { transaction = t; runs = b.runs }) up w.at w.runs w.runs xid
    ∙ ap (replaced t) same

-- the row keeps its order, its end and the number of those that run
pub stays_begun : (bs : List Begun) (n x i : ℕ) (b : Begun) (t : Transaction) → AreBegun 0 bs
    → n ≡ length (running_of bs) → length bs ≤ 2 * n → IsSeen bs x i b
    → t.xid ≡ b.transaction.xid → let new : List Begun =
    set bs i (record { transaction = t; runs = b.runs }) in
    AreBegun 0 new × (n ≡ length (running_of new)) × (length new ≤ 2 * n)
stays_begun bs n x i b t up count most w xid =
    let b' : Begun = record { transaction = t; runs = b.runs } in
    let put = begun_put bs 0 i b b' up w.at xid in (
      put.0,
      count ∙ sym (count_put bs 0 i b b' up w.at w.runs w.runs xid),
      omega (arith, most, length-set bs i b'),
    )

-- a name more that was placed
pub placed_seen : (bs : List Begun) (ts : List Transaction) (x i : ℕ) (b : Begun) (n : Name)
    (new : List Name)
    → AreBegun 0 bs → running_of bs ≡ ts → IsSeen bs x i b
    → new ≡ b.transaction.inserted ++ n ∷ []
    → IfSome (transaction x ts)
    (λ t. running_of
    (set bs i (record { transaction = record b.transaction { inserted = new }; runs = b.runs }))
    ≡ replaced (with_placed n t) ts)
placed_seen bs ts x i b n new up same w more =
    let u : Transaction = b.transaction in
    let put : running_of
    (set bs i (record { transaction = record u { inserted = new }; runs = b.runs }))
    ≡ replaced (with_placed n u) ts =
    put_seen bs ts x i b (record u { inserted = new }) up same w refl
    ∙ ap (λ (ns : List Name). replaced (record u { inserted = ns }) ts) more in
    subst
    (λ (o : Option Transaction). IfSome o
    (λ t. running_of
    (set bs i (record { transaction = record u { inserted = new }; runs = b.runs }))
    ≡ replaced (with_placed n t) ts))
    (sym (seen_runs bs ts x i b up same w)) put

-- a name more that was marked
pub marked_seen : (bs : List Begun) (ts : List Transaction) (x i : ℕ) (b : Begun) (n : Name)
    (new : List Name)
    → AreBegun 0 bs → running_of bs ≡ ts → IsSeen bs x i b
    → new ≡ b.transaction.deleted ++ n ∷ []
    → IfSome (transaction x ts)
    (λ t. running_of
    (set bs i (record { transaction = record b.transaction { deleted = new }; runs = b.runs }))
    ≡ replaced (with_marked n t) ts)
marked_seen bs ts x i b n new up same w more =
    let u : Transaction = b.transaction in
    let put : running_of
    (set bs i (record { transaction = record u { deleted = new }; runs = b.runs }))
    ≡ replaced (with_marked n u) ts =
    put_seen bs ts x i b (record u { deleted = new }) up same w refl
    ∙ ap (λ (ns : List Name). replaced (record u { deleted = ns }) ts) more in
    subst
    (λ (o : Option Transaction). IfSome o
    (λ t. running_of
    (set bs i (record { transaction = record u { deleted = new }; runs = b.runs }))
    ≡ replaced (with_marked n t) ts))
    (sym (seen_runs bs ts x i b up same w)) put

-- an ended one is in the place of one that ran
pub record IsLeft (bs : List Begun) (ts : List Transaction) (x n : ℕ)
    (new : List Begun) : Type 0 where
  pub rise : AreBegun 0 new
  pub end : end_of 0 new ≡ end_of 0 bs
  pub list : running_of new ≡ without x ts
  pub count : suc (length (running_of new)) ≡ n

pub left_seen : (bs : List Begun) (ts : List Transaction) (n x i : ℕ) (b new : Begun)
    → AreBegun 0 bs → running_of bs ≡ ts → n ≡ length (running_of bs) → IsSeen bs x i b
    → new.transaction.xid ≡ x → new.runs ≡ false → IsLeft bs ts x n (set bs i new)
left_seen bs ts n x i b new up same count w xid ended =
    let put = begun_put bs 0 i b new up w.at (xid ∙ sym w.xid) in
    record {
      rise = put.0;
      end = put.1;
      list = running_left bs 0 x i b new up w.at w.xid w.runs ended ∙ ap (without x) same;
      count = count_left bs i b new w.at w.runs ended ∙ sym count;
    }

-- what is so of the row where an ended one is in it
pub record IsTidy (bs : List Begun) (ts : List Transaction) (x n : ℕ)
    (new : List Begun) : Type 0 where
  pub rise : AreBegun 0 new
  pub end : end_of 0 new ≤ end_of 0 bs
  pub list : running_of new ≡ without x ts
  pub count : n ≡ length (running_of new)
  pub most : length new ≤ 2 * n

pub left_tidy : (bs : List Begun) (ts : List Transaction) (x n : ℕ) (new : List Begun)
    → IsLeft bs ts x n new → length new - (n - 1) ≤ n - 1 → IsTidy bs ts x (n - 1) new
left_tidy bs ts x n new w few = record {
  rise = w.rise;
  end = omega (arith, w.end);
  list = w.list;
  count = omega (arith, w.count);
  most = omega (arith, few);
}

pub kept_tidy : (bs : List Begun) (ts : List Transaction) (x n : ℕ) (new : List Begun)
    → IsLeft bs ts x n new → IsTidy bs ts x (n - 1) (kept new)
kept_tidy bs ts x n new w =
    let stays = begun_kept new 0 w.rise in
    record {
      rise = stays.0;
      end = omega (arith, stays.1, w.end);
      list = running_kept new ∙ w.list;
      count = omega (arith, w.count, ap length (running_kept new));
      most = omega (arith, w.count, length_kept new);
    }

-- one more that runs is after the others
pub record IsMore (ts : List Transaction) (x n : ℕ) (new : List Begun) : Type 0 where
  pub rise : AreBegun 0 new
  pub end : end_of 0 new ≡ suc x
  pub list : running_of new ≡ ts ++ record { xid = x; deleted = []; inserted = [] } ∷ []
  pub count : n + 1 ≡ length (running_of new)
  pub most : length new ≤ 2 * (n + 1)

pub one_begins : (bs : List Begun) (ts : List Transaction) (n x : ℕ) (b : Begun) (new : List Begun)
    → AreBegun 0 bs → n ≡ length (running_of bs) → length bs ≤ 2 * n
    → running_of bs ≡ ts → end_of 0 bs ≤ x
    → b ≡ record { transaction = record { xid = x; deleted = []; inserted = [] }; runs = true }
    → new ≡ bs ++ b ∷ []
    → IsMore ts x n new
one_begins bs ts n x b new up count most same le is more =
    let c : Begun =
    record { transaction = record { xid = x; deleted = []; inserted = [] }; runs = true } in
    let put : new ≡ bs ++ c ∷ [] = more ∙ ap (λ (k : Begun). bs ++ k ∷ []) is in
    let rises = begun_more bs 0 c up le in
    let list : running_of (bs ++ c ∷ []) ≡ running_of bs ++ c.transaction ∷ [] =
    running_more bs c refl in
    subst (IsMore ts x n) (sym put) (record {
      rise = rises.0;
      end = rises.1;
      list = list ∙ ap (λ (us : List Transaction). us ++ c.transaction ∷ []) same;
      count =
          omega (arith, count, ap length list, length-append (running_of bs) (c.transaction ∷ []));
      most = omega (arith, most, length-append bs (c ∷ []));
    })

-- one that ran has ended, in its place
pub left_here : (bs ds : List Begun) (ts : List Transaction) (n x i : ℕ) (new : Begun)
    → AreBegun 0 bs → running_of bs ≡ ts → n ≡ length (running_of bs) → ds ≡ bs
    → IsRunningAt ds x i
    → new ≡ record { transaction = record { xid = x; deleted = []; inserted = [] }; runs = false }
    → IsLeft bs ts x n (set bs i new)
left_here bs ds ts n x i new up list count same w is =
    let v : IsRunningAt bs x i = subst (λ (k : List Begun). IsRunningAt k x i) same w in
    let here : IsSeen bs x i v.begun =
    record {
      within = (got bs i v.begun v.begun v.at).0;
      at = v.at;
      xid = v.xid;
      runs =
          v.runs;
    } in
    left_seen bs ts n x i v.begun new up list count here (ap (λ (k : Begun). k.transaction.xid) is)
    (ap (λ (k : Begun). k.runs) is)

-- a place at which one runs is one of the row
pub within_begun : (bs ds : List Begun) (x i : ℕ) → ds ≡ bs → IsRunningAt ds x i → i < length bs
within_begun bs ds x i same w =
    let v : IsRunningAt bs x i = subst (λ (k : List Begun). IsRunningAt k x i) same w in
    (got bs i v.begun v.begun v.at).0
