-- A run grows by one statement.
use Rattle.std.proofs.Common.{◌≡◌, ◌≢◌, ◌⊎◌, inl, inr, ℕ, zero, suc, ◌+◌, ◌<◌, ◌≤◌, Bool, true, false, cond, List, []}
use Rattle.std.proofs.Common.{◌∷◌, ◌++◌, length, length-append, append_assoc, arith, refl, sym, ◌∙◌, ap, subst, get_or}
use Rattle.std.proofs.Common.{map}
use Rattle.std.specs.Prelude.{Option, Some, None, IfSome, count_by, sum_by, ◌==◌}
use Rattle.std.specs.List.{All, Any, slice_get}
use Rattle.std.proofs.lemmas.List.{take-append-le, get_or_append_left}
use Rattle.std.proofs.lemmas.List.Elements.{All-push, All-head, All-tail}
use Rattle.std.proofs.lemmas.List.Sums.{sum_by_push, sum_by-cons}
use Rattle.std.proofs.lemmas.Bool.{ne_eqb, eqb-false, eqb-true}
use Rattle.ts_base.specs.Vectors.{Vector}
use Rattle.ts_query.specs.Queries.{Query}
use Rattle.shell_script.specs.Grammar.{Statement, insert, update, delete, search as finding, clean_up, show, ask}
use Rattle.shell_script.specs.Grammar.{vacuum, parse, list_commits, define, invalid}
use Rattle.ts_config.specs.Known.{Known}
use Rattle.engine.specs.Finding.{Commit, History, Name, IsLawful, Begins, docs, IsFound, In}
use Rattle.ts_match.specs.Meaning.{Holds}
use Rattle.shell_run.specs.Run.{Exchange, Note, Counts, Reply, stored, removed, maintained, lists, shows_commits}
use Rattle.shell_run.specs.Run.{refused, IsCleaned, MayBeTidied}
use Rattle.shell_run.specs.Run.{store_full, log_full, transactions_spent, no_document, conflict, down, device, memory}
use Rattle.shell_run.specs.Run.{Run, AreNoted, IsWithin, IsAnswered, IsInserted, IsInsertion, IsUpdatedMore}
use Rattle.shell_run.specs.Run.{IsReplacement, IsDeletedMore, IsDeletion, IsOfName, AreListed, line_for}
use Rattle.shell_run.specs.Run.{IsSearched, IsRefusedWork, MayHaveOwn, HasSeen, MetFault, IsDownSince, FindsDown}
use Rattle.shell_run.specs.Run.{MayCall}
use Rattle.shell_run.specs.Run.{IsSeenBy, IsAfter, Before, has_commit, is_at, seen_by, HasOwn}

get_more : {X : Type 0} (xs ys : List X) (i : ℕ) (x : X) → slice_get xs i ≡ Some x → slice_get (xs ++ ys) i ≡ Some x
get_more [] ys i x e = cc
get_more (y ∷ xs) ys zero x e = e
get_more (y ∷ xs) ys (suc i) x e = get_more xs ys i x e

pub get_last : {X : Type 0} (xs : List X) (x : X) → slice_get (xs ++ x ∷ []) (length xs) ≡ Some x
get_last [] x = refl
get_last (y ∷ xs) x = get_last xs x

pub seen_more : (commits more : History) (note : Note) → note.snapshot ≤ length commits
    → seen_by (commits ++ more) note ≡ seen_by commits note
seen_more commits more note h = ap docs (take-append-le note.snapshot commits more h)

own_more : (commits more : History) (note : Note) (c : Commit) → HasOwn commits note c → HasOwn (commits ++ more) note c
own_more commits more note c h = (h.0, h.1, get_more commits more h.0 c h.2)

-- counts of a longer part of a run
pub record Grows (k l : Counts) : Type 0 where
  pub faults : l.faults ≡ k.faults
  pub faults_opened : l.faults_opened ≡ k.faults_opened
  pub writes : l.writes ≡ k.writes
  pub faults_after : k.faults_after ≤ l.faults_after
  pub writes_after : k.writes_after ≤ l.writes_after

met_more : (k l : Counts) (note : Note) → Grows k l → MetFault k note → MetFault l note
met_more k l note g (inl h) = inl h
met_more k l note g (inr h) = inr (omega (arith, g.faults_after))

down_more : (k l : Counts) (count : ℕ) → Grows k l → IsDownSince k count → IsDownSince l count
down_more k l count g h =
    (omega (arith, g.faults, h.0), omega (arith, g.faults_after, h.1), omega (arith, g.writes, g.writes_after, h.2))

-- a row of a statement stays as the history and the counts grow
module _ (k l : Counts) (commits more : History) (note : Note) (g : Grows k l)
    (le : note.snapshot ≤ length commits) where
  may_more : (Is : Commit → Type 0) → MayHaveOwn commits note Is → MayHaveOwn (commits ++ more) note Is
  may_more Is (inl n) = inl n
  may_more Is (inr h) = inr (h.0, h.1, own_more commits more note h.0 h.2)

  saw_more : (name : Name) → HasSeen commits note name → HasSeen (commits ++ more) note name
  saw_more name h = (
    h.0,
    subst (λ ds. In h.0 ds) (sym (seen_more commits more note le)) h.1,
    h.2,
  )

  saw_less : (name : Name) → HasSeen (commits ++ more) note name → HasSeen commits note name
  saw_less name h = (h.0, subst (λ ds. In h.0 ds) (seen_more commits more note le) h.1, h.2)

  work_more : (Is : Commit → Type 0) (reply : Reply) → IsRefusedWork k commits Is reply note
      → IsRefusedWork l (commits ++ more) Is reply note
  work_more Is (refused transactions_spent) h = h
  work_more Is (refused store_full) h = h
  work_more Is (refused log_full) h = h
  work_more Is (refused (down count)) h = (may_more Is h.0, down_more k l count g h.1)
  work_more Is (refused device) h = (may_more Is h.0, met_more k l note g h.1)
  work_more Is (refused memory) h = h
  work_more Is reply h = absurd h

  insert_more : (v : Vector) (reply : Reply) → IsInserted k commits v reply note
      → IsInserted l (commits ++ more) v reply note
  insert_more v (stored name) h = (h.0, h.1, get_more commits more h.0 _ h.2)
  insert_more v (refused why) h = work_more (IsInsertion v) (refused why) h
  insert_more v reply h = absurd h

  of_name_more : (name : Name) (reply : Reply) (P Q : Type 0) → (P → Q) → IsOfName commits name reply note P
      → IsOfName (commits ++ more) name reply note Q
  of_name_more name (refused no_document) P Q f h = (h.0, λ s. h.1 (saw_less name s))
  of_name_more name (refused (conflict xid)) P Q f h = (h.0, saw_more name h.1)
  of_name_more name (refused memory) P Q f h = f h
  of_name_more name (refused (down count)) P Q f h = f h
  of_name_more name (refused device) P Q f h = f h
  of_name_more name reply P Q f h = (saw_more name h.0, f h.1)

  update_more : (old : Name) (v : Vector) (reply : Reply) → IsUpdatedMore k commits old v reply note
      → IsUpdatedMore l (commits ++ more) old v reply note
  update_more old v (stored name) h = (h.0, h.1, get_more commits more h.0 _ h.2)
  update_more old v (refused why) h = work_more (IsReplacement old v) (refused why) h
  update_more old v reply h = absurd h

  delete_more : (name : Name) (reply : Reply) → IsDeletedMore k commits name reply note
      → IsDeletedMore l (commits ++ more) name reply note
  delete_more name removed h = (h.0, h.1, get_more commits more h.0 _ h.2)
  delete_more name (refused why) h = work_more (IsDeletion name) (refused why) h
  delete_more name reply h = absurd h

  list_more : (reply : Reply) → AreListed k commits reply note → AreListed l (commits ++ more) reply note
  list_more (shows_commits ls) h =
      (h.0, h.1 ∙ ap (λ z. map line_for z) (sym (take-append-le note.snapshot commits more le)))
  list_more (refused (down count)) h = (h.0, down_more k l count g h.1)
  list_more (refused device) h = (h.0, met_more k l note g h.1)
  list_more (refused memory) h = h
  list_more reply h = absurd h

  search_more : (q : Query) (reply : Reply) → IsSearched k commits q reply note
      → IsSearched l (commits ++ more) q reply note
  search_more q (lists names) h =
      (h.0, subst (λ ds. IsFound (Holds q) ds names) (sym (seen_more commits more note le)) h.1)
  search_more q (refused (down count)) h = (h.0, down_more k l count g h.1)
  search_more q (refused device) h = (h.0, met_more k l note g h.1)
  search_more q (refused memory) h = h
  search_more q reply h = absurd h

  clean_more : (reply : Reply) → IsCleaned k reply note → IsCleaned l reply note
  clean_more maintained h = h
  clean_more (refused store_full) h = h
  clean_more (refused log_full) h = h
  clean_more (refused (down count)) h = (h.0, down_more k l count g h.1)
  clean_more (refused device) h = (h.0, met_more k l note g h.1)
  clean_more (refused memory) h = h
  clean_more reply h = absurd h

  answered_more : (known : Known) (line : ℕ) (statement : Statement) (reply : Reply)
      → IsAnswered k commits known line statement reply note
      → IsAnswered l (commits ++ more) known line statement reply note
  answered_more known line (insert e) reply (inl h) = inl h
  answered_more known line (insert e) reply (inr h) = inr (h.0, h.1, insert_more h.0 reply h.2)
  answered_more known line (update d e) reply (inl h) = inl h
  answered_more known line (update d e) reply (inr h) =
      inr (h.0, h.1, of_name_more d.name reply _ _ (update_more d.name h.0 reply) h.2)
  answered_more known line (delete d) reply h = of_name_more d.name reply _ _ (delete_more d.name reply) h
  answered_more known line (finding text) reply (inl h) = inl h
  answered_more known line (finding text) reply (inr h) = inr (h.0, h.1, search_more h.0 reply h.2)
  answered_more known line clean_up reply h = clean_more reply h
  answered_more known line vacuum reply h = clean_more reply h
  answered_more known line list_commits reply h = list_more reply h
  answered_more known line (show e) reply h = h
  answered_more known line (ask text) reply h = h
  answered_more known line (parse text) reply h = h
  answered_more known line (define head ls) reply h = h
  answered_more known line invalid reply h = h

below_some : (o : Option ℕ) (s n m : ℕ) → n ≤ m → IfSome o (λ p. (s ≤ p) × (p < n)) → IfSome o (λ p. (s ≤ p) × (p < m))
below_some None s n m le h = tt
below_some (Some p) s n m le h = (h.0, omega arith)

within_more : (low n m : ℕ) (note : Note) → n ≤ m → IsWithin low n note → IsWithin low m note
within_more low n m note le h = record {
  low_is = h.low_is;
  high_is = omega (arith, h.high_is);
  own = below_some note.commit note.snapshot n m le h.own;
}

-- a number is at most once a note's
not_at : (k : ℕ) (o : Option ℕ) (s n : ℕ) → n ≤ k → IfSome o (λ p. (s ≤ p) × (p < n)) → is_at k o ≡ false
not_at k None s n le h = refl
not_at k (Some p) s n le h = ne_eqb p k (λ e. omega arith)

none_yet : (low n : ℕ) (exchanges : List Exchange) → All (λ (r : Exchange). IsWithin low n r.note) exchanges
    → count_by (has_commit n) exchanges ≡ 0
none_yet low n [] h = refl
none_yet low n (r ∷ exchanges) h =
    let first : IsWithin low n r.note = All-head (λ (r : Exchange). IsWithin low n r.note) r exchanges h in
    sum_by-cons (λ (r : Exchange). cond (has_commit n r) 1 0) r exchanges
    ∙ ap (λ b. cond b 1 0 + count_by (has_commit n) exchanges)
    (not_at n r.note.commit r.note.snapshot n (omega arith) first.own)
    ∙ (let z : 0 + count_by (has_commit n) exchanges ≡ 0 =
    omega (arith, none_yet low n exchanges (All-tail (λ (r : Exchange). IsWithin low n r.note) r exchanges h)) in z)

-- What is known of one statement more of a lawful device.
pub record Step (k l : Counts) (first commits more : History) (exchanges : List Exchange)
    (exchange : Exchange) : Type 0 where
  pub run : Run k first commits exchanges
  pub grows : Grows k l
  pub snapshot : exchange.note.snapshot ≡ length commits
  pub answered : IsAnswered l (commits ++ more) exchange.known exchange.line exchange.statement exchange.reply
      exchange.note
  pub own : ((more ≡ []) × (exchange.note.commit ≡ None))
      ⊎ ((c : Commit) × (more ≡ c ∷ []) × (exchange.note.commit ≡ Some (length commits)))
  pub lawful : IsLawful (commits ++ more)
  pub last : All (λ (r : Exchange). r.place.step < exchange.place.step) exchanges
  pub no_commit : All (λ (r : Exchange). 0 < r.note.writes → exchange.note.commit ≡ None) exchanges

low_below : (first commits : History) → Begins first commits → length first ≤ length commits
low_below first commits h = omega (arith, ap length h.1, length-append first h.0)

within_new : (k l : Counts) (first commits more : History) (exchanges : List Exchange) (exchange : Exchange)
    → Step k l first commits more exchanges exchange → IsWithin (length first) (length (commits ++ more)) exchange.note
within_new k l first commits more exchanges exchange h =
    record {
      low_is = omega (arith, h.snapshot, low_below first commits h.run.begins);
      high_is = omega (arith, h.snapshot, length-append commits more);
      own = elim h.own [
        | inl n ↦ subst (λ o. IfSome o (λ p. (exchange.note.snapshot ≤ p) × (p < length (commits ++ more))))
            (sym n.1) tt
        | inr s ↦ subst (λ o. IfSome o (λ p. (exchange.note.snapshot ≤ p) × (p < length (commits ++ more)))) (sym s.2)
            (omega (arith, h.snapshot), omega (arith, length-append commits more, ap length s.1))
      ];
    }

seen_new : (n : ℕ) (low : ℕ) (a b : Exchange) → IsWithin low n a.note → b.note.snapshot ≡ n
    → (0 < a.note.writes → b.note.commit ≡ None) → IsSeenBy a b
seen_new n low a b h e none = record {
  snapshot = omega (arith, h.high_is);
  commit = λ ok. under a.note.commit h.own;
  no_commit = none;
}
  where
    under : (o : Option ℕ) → IfSome o (λ p. (a.note.snapshot ≤ p) × (p < n)) → IfSome o (λ p. p < b.note.snapshot)
    under None h = tt
    under (Some p) h = omega arith

pub not_before : (a b : Exchange) → b.place.step < a.place.step → Before a b → ⊥
not_before a b l (inl h) = omega arith
not_before a b l (inr h) = omega (arith, h.0)

pub not_self : (a : Exchange) → Before a a → ⊥
not_self a (inl h) = omega arith
not_self a (inr h) = omega (arith, h.2)

by_place : (j : Counts) (first commits : History) (exchanges : List Exchange) (k x : ℕ) (b : Bool)
    → Run j first commits exchanges → (length commits == k) ≡ b → x ≡ cond b 1 0 → length first ≤ k
    → k < length commits + 1 → count_by (has_commit k) exchanges + x ≡ 1
by_place j first commits exchanges k x true run e p low high =
    let same : length commits ≡ k = eqb-true (length commits) k e in
    let none : count_by (has_commit k) exchanges ≡ 0 = subst (λ n. count_by (has_commit n) exchanges ≡ 0) same
    (none_yet (length first) (length commits) exchanges run.within) in
    omega (arith, none, p)
by_place j first commits exchanges k x false run e p low high =
    let other : length commits ≢ k = eqb-false (length commits) k e in
    let once : count_by (has_commit k) exchanges ≡ 1 = run.own k low (omega (arith, other)) in
    omega (arith, once, p)

abbrev mine : Bool → ℕ
mine b = cond b 1 0

own_new : (j l : Counts) (first commits more : History) (exchanges : List Exchange) (exchange : Exchange)
    → Step j l first commits more exchanges exchange → (k : ℕ) → length first ≤ k → k < length (commits ++ more)
    → count_by (has_commit k) (exchanges ++ exchange ∷ []) ≡ 1
own_new j l first commits more exchanges exchange h k low high =
    let pushed : count_by (has_commit k) (exchanges ++ exchange ∷ []) ≡ count_by (has_commit k) exchanges + mine
    (has_commit k exchange) = sum_by_push (λ (r : Exchange). mine (has_commit k r)) exchanges exchange in
    elim h.own [
      | inl n ↦
          let high' : k < length commits = omega (arith, ap length n.0, length-append commits more) in
          let no_own : mine (is_at k exchange.note.commit) ≡ 0 = ap (λ o. mine (is_at k o)) n.1 in
          omega (arith, pushed, no_own, h.run.own k low high')
      | inr s ↦
          let same : mine (has_commit k exchange) ≡ mine (length commits == k) = ap (λ o. mine (is_at k o)) s.2 in
          let high' : k < length commits + 1 = omega (arith, ap length s.1, length-append commits more) in
          pushed ∙ by_place j first commits exchanges k (mine (has_commit k exchange))
          (length commits == k) h.run refl same low high'
    ]

any_more : {X : Type 0} (P Q : X → Type 0) (xs ys : List X) → ((x : X) → P x → Q x) → Any P xs → Any Q (xs ++ ys)
any_more P Q xs ys f h =
    (h.0, h.1, omega (arith, h.2, length-append xs ys), get_or_append_left xs ys h.1 h.0 h.2 ∙ h.3, f h.1 h.4)

-- an earlier exchange is not after the last one
any_before : (n : ℕ) (exchanges : List Exchange) (exchange : Exchange) → All (λ (r : Exchange). r.place.step
    < exchange.place.step) exchanges → Any (λ (r : Exchange). (0 < r.note.writes) × (r.note.count ≡ n)) exchanges
    → Any (λ (r : Exchange). (Before exchange r → ⊥) × (0 < r.note.writes) × (r.note.count ≡ n))
    (exchanges ++ exchange ∷ [])
any_before n exchanges exchange last h =
    let step : h.1.place.step < exchange.place.step =
    subst (λ (r : Exchange). r.place.step < exchange.place.step) h.3 (last h.0 h.1 h.2) in (
      h.0,
      h.1,
      omega (arith, h.2, length-append exchanges (exchange ∷ [])),
      get_or_append_left exchanges (exchange ∷ []) h.1 h.0 h.2 ∙ h.3,
      (λ b. not_before exchange h.1 step b, h.4.0, h.4.1),
    )

-- the sums of a run with one statement more
sums_grow : (f : Exchange → ℕ) (exchanges : List Exchange) (exchange : Exchange) (start k l : ℕ)
    → start + sum_by f exchanges ≡ k → k + f exchange ≡ l → start + sum_by f (exchanges ++ exchange ∷ []) ≡ l
sums_grow f exchanges exchange start k l h g = omega (arith, h, g, sum_by_push f exchanges exchange)

-- what was counted before
counted_more : (k l : Counts) (r : Exchange) → Grows k l
    → (k.faults_opened + r.note.faults ≤ r.note.count) × (r.note.count ≤ k.faults_after)
    → (l.faults_opened + r.note.faults ≤ r.note.count) × (r.note.count ≤ l.faults_after)
counted_more k l r g h = (omega (arith, g.faults_opened, h.0), omega (arith, g.faults_after, h.1))

-- all that say a count say one
module _ (exchanges : List Exchange) (exchange : Exchange) where
  abbrev Tells : ℕ → Exchange → Type 0
  Tells n r = r.reply ≡ refused (down n)

  abbrev HaveOneCount : Exchange → Exchange → Type 0
  HaveOneCount a b = (m n : ℕ) → Tells m a → Tells n b → m ≡ n

  one_count_more : All (λ (a : Exchange). All (λ (b : Exchange). HaveOneCount a b) exchanges) exchanges
      → ((n : ℕ) → Tells n exchange → All (λ (r : Exchange). (m : ℕ) → Tells m r → m ≡ n) exchanges)
      → All (λ (a : Exchange). All (λ (b : Exchange). HaveOneCount a b) (exchanges ++ exchange ∷ []))
      (exchanges ++ exchange ∷ [])
  one_count_more old h = All-push
      (λ (a : Exchange). All (λ (b : Exchange). HaveOneCount a b) (exchanges ++ exchange ∷ [])) exchanges exchange
      (λ k d l. All-push (λ (b : Exchange). HaveOneCount (get_or exchanges k d) b) exchanges exchange (old k d l)
      (λ m n a b. h n b k d l m a))
      (All-push (λ (b : Exchange). HaveOneCount exchange b) exchanges exchange (λ k d l m n a b. sym (h m a k d l n b))
      (λ m n a b. cc))

-- what is known of one statement more on every device
pub record NotedStep (k l : Counts) (exchanges : List Exchange) (exchange : Exchange) : Type 0 where
  pub noted : AreNoted k exchanges
  pub grows : Grows k l
  pub last : All (λ (r : Exchange). r.place.step < exchange.place.step) exchanges
  pub finds_down : All
      (λ (r : Exchange). 0 < r.note.writes → FindsDown exchange.known exchange.statement exchange.reply) exchanges
  pub fell : (n : ℕ) → exchange.reply ≡ refused (down n)
      → Any (λ (r : Exchange). (0 < r.note.writes) × (r.note.count ≡ n)) exchanges
  pub one_count : (n : ℕ) → exchange.reply ≡ refused (down n)
      → All (λ (r : Exchange). (m : ℕ) → r.reply ≡ refused (down m) → m ≡ n) exchanges
  pub failed : exchange.reply ≡ refused device → 0 < exchange.note.writes
  pub failed_only : 0 < exchange.note.writes → (exchange.reply ≡ refused device) ⊎ MayBeTidied exchange.reply
  pub called : 0 < exchange.note.faults → MayCall exchange.statement exchange.reply
  pub count : exchange.note.count ≡ l.faults_after
  pub faults : k.faults_after + exchange.note.faults ≡ l.faults_after
  pub writes : k.writes_after + exchange.note.writes ≡ l.writes_after

pub noted_step : (k l : Counts) (exchanges : List Exchange) (exchange : Exchange)
    → NotedStep k l exchanges exchange → AreNoted l (exchanges ++ exchange ∷ [])
noted_step j l exchanges exchange h = record {
  order = All-push (λ (a : Exchange). All (λ (b : Exchange). Before a b → IsAfter a b) (exchanges ++ exchange ∷ []))
      exchanges exchange
      (λ k d m. let a : Exchange = get_or exchanges k d in
      All-push (λ (b : Exchange). Before a b → IsAfter a b) exchanges exchange (h.noted.order k d m)
      (λ before. record {
        down = h.finds_down k d m;
        count = omega (arith, (h.noted.counted k d m).1, h.faults, h.count);
      }))
      (All-push (λ (b : Exchange). Before exchange b → IsAfter exchange b) exchanges exchange
      (λ k d m before. absurd (not_before exchange (get_or exchanges k d) (h.last k d m) before))
      (λ before. absurd (not_self exchange before)));
  owed = All-push (λ (b : Exchange). (n : ℕ) → b.reply ≡ refused (down n) → Any (λ (a : Exchange). (Before b a → ⊥)
      × (0 < a.note.writes) × (a.note.count ≡ n)) (exchanges ++ exchange ∷ [])) exchanges exchange
      (λ k d m n is. let b : Exchange = get_or exchanges k d in
      let P : Exchange → Type 0 = λ (a : Exchange). (Before b a → ⊥) × (0 < a.note.writes) × (a.note.count ≡ n) in
      any_more P P exchanges (exchange ∷ []) (λ x p. p) (h.noted.owed k d m n is))
      (λ n is. any_before n exchanges exchange h.last (h.fell n is));
  one_count = one_count_more exchanges exchange h.noted.one_count h.one_count;
  failed = All-push (λ (r : Exchange). r.reply ≡ refused device → 0 < r.note.writes) exchanges exchange
      h.noted.failed h.failed;
  failed_only = All-push (λ (r : Exchange). 0 < r.note.writes → (r.reply ≡ refused device) ⊎ MayBeTidied r.reply)
      exchanges exchange h.noted.failed_only h.failed_only;
  called = All-push (λ (r : Exchange). 0 < r.note.faults → MayCall r.statement r.reply) exchanges exchange
      h.noted.called h.called;
  counted = All-push (λ (r : Exchange). (l.faults_opened + r.note.faults ≤ r.note.count)
      × (r.note.count ≤ l.faults_after)) exchanges exchange
      (λ k d m. counted_more j l (get_or exchanges k d) h.grows (h.noted.counted k d m))
      (omega (arith, h.noted.faults, h.grows.faults_opened, h.faults, h.count), omega (arith, h.count));
  opening = omega (arith, h.noted.opening, h.grows.faults, h.grows.faults_opened);
  faults = sums_grow (λ (r : Exchange). r.note.faults) exchanges exchange l.faults_opened j.faults_after l.faults_after
      (subst (λ n. n + sum_by (λ (r : Exchange). r.note.faults) exchanges ≡ j.faults_after)
      (sym h.grows.faults_opened) h.noted.faults) h.faults;
  writes = sums_grow (λ (r : Exchange). r.note.writes) exchanges exchange l.writes j.writes_after l.writes_after
      (subst (λ n. n + sum_by (λ (r : Exchange). r.note.writes) exchanges ≡ j.writes_after)
      (sym h.grows.writes) h.noted.writes) h.writes;
}

pub run_step : (k l : Counts) (first commits more : History) (exchanges : List Exchange) (exchange : Exchange)
    → Step k l first commits more exchanges exchange → Run l first (commits ++ more) (exchanges ++ exchange ∷ [])
run_step j l first commits more exchanges exchange h = record {
  lawful = h.lawful;
  begins = (h.run.begins.0 ++ more, sym (append_assoc first h.run.begins.0 more) ∙ ap (λ z. z ++ more) h.run.begins.1);
  answers = All-push (λ (r : Exchange). IsAnswered l (commits ++ more) r.known r.line r.statement r.reply r.note)
      exchanges exchange
      (λ k d m. let r : Exchange = get_or exchanges k d in
      let w : IsWithin (length first) (length commits) r.note = h.run.within k d m in answered_more j l commits more
      r.note h.grows w.high_is r.known r.line r.statement r.reply (h.run.answers k d m)) h.answered;
  within = All-push (λ (r : Exchange). IsWithin (length first) (length (commits ++ more)) r.note) exchanges exchange
      (λ k d m. let r : Exchange = get_or exchanges k d in within_more (length first) (length commits)
      (length (commits ++ more)) r.note (omega (arith, length-append commits more)) (h.run.within k d m))
      (within_new j l first commits more exchanges exchange h);
  own = own_new j l first commits more exchanges exchange h;
  order = All-push (λ (a : Exchange). All (λ (b : Exchange). Before a b → IsSeenBy a b) (exchanges ++ exchange ∷ []))
      exchanges exchange
      (λ k d m. let a : Exchange = get_or exchanges k d in
      All-push (λ (b : Exchange). Before a b → IsSeenBy a b) exchanges exchange (h.run.order k d m)
      (λ before. seen_new (length commits) (length first) a exchange (h.run.within k d m) h.snapshot
      (h.no_commit k d m)))
      (All-push (λ (b : Exchange). Before exchange b → IsSeenBy exchange b) exchanges exchange
      (λ k d m before. absurd (not_before exchange (get_or exchanges k d) (h.last k d m) before))
      (λ before. absurd (not_self exchange before)));
}
