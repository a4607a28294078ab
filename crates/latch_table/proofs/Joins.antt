-- A pass that takes in another keeps the rule.
use Rattle.std.proofs.Common.{◌≡◌, ◌≢◌, ◌⊎◌, ℕ, suc, ◌+◌, ◌<◌, ◌≤◌, cond, nat_lt, Bool, true, false, List, [], ◌∷◌}
use Rattle.std.proofs.Common.{◌++◌, length, set, refl, sym, ap, subst, ◌∙◌, inl, inr, ⊎_elim, arith, length-append}
use Rattle.std.specs.Prelude.{Some, None}
use Rattle.std.proofs.lemmas.Bool.Decides.{nat_tests}
use Rattle.std.proofs.lemmas.List.{append-nil}
use mathlib.Core.Option.{none, some}
use native.Mathlib.Decide.{ℕ_discrete}
use lib.ListN.{get_elem?}
use Rattle.atomic_table.specs.Table.{State, Me, step, keeps, Allows, Joins}
use Rattle.atomic_table.proofs.Lists.{set_else}
use Rattle.core_state.specs.Log.{Log, In}
use Rattle.core_state.specs.Allowed.{AreOthers}
use Rattle.latch_table.specs.declared.slots.Framed.{Ghosts as Framed}
use Rattle.latch_table.specs.declared.slots.Journaled.{Ghosts as Journaled}
use Rattle.latch_table.specs.declared.slots.Slot.{Slot}
use Rattle.latch_table.specs.declared.states.PinNote.{PinNote}
use Rattle.latch_table.specs.declared.states.PassState.{PassState}
use Rattle.latch_table.specs.PassStates.{view_of, longer, greater, joined, spent}
use Rattle.latch_table.specs.Told.{looked}
use Rattle.latch_table.specs.Shapes.{Shape, total, times}
use Rattle.latch_table.specs.Lines.{IsNoted, HasSeen, Knows}
use Rattle.latch_table.specs.Rule.{Kept}
use Rattle.latch_table.proofs.Sums.{total_set, times_more}
use Rattle.latch_table.proofs.Views.{views_stay, still}
use Rattle.latch_table.proofs.Stay.{with_holders, renoted, store_stays, knows_stays}
use Rattle.latch_table.proofs.ClaimJournal.{unmoved}

-- of two beginnings of a log the shorter begins the longer
pub behind : (a b seen l : Log) → a ++ seen ≡ b ++ l → length l ≤ length seen → (mid : Log) × (seen ≡ mid ++ l)
behind [] b seen l e le = (b, e)
behind (x ∷ a) [] seen l e le =
    absurd (let n = ap length e in let m = length-append a seen in omega arith)
behind (x ∷ a) (y ∷ b) seen l e le = let tails : a ++ seen ≡ b ++ l = cc e in behind a b seen l tails le

cond_has : {A : Type 0} (P : A → Type 0) (b : Bool) (x y : A) → P x → P y → P (cond b x y)
cond_has P true x y p q = p
cond_has P false x y p q = q

greater_has : (P : ℕ → Type 0) (a b : ℕ) → P a → P b → P (greater a b)
greater_has P a b p q = cond_has P (nat_lt a b) b a q p

in_either : {A : Type 0} (x : A) (xs ys : List A) → In x (xs ++ ys) → In x xs ⊎ In x ys
in_either x [] ys i = inr i
in_either x (y ∷ xs) ys i =
    ⊎_elim (λ e. inl (inl e)) (λ j. ⊎_elim (λ a. inl (inr a)) (λ b. inr b) (in_either x xs ys j)) i

some_of : (xs ys : List ℕ) → (xs ++ ys) ≢ [] → (xs ≢ []) ⊎ (ys ≢ [])
some_of [] ys n = inr n
some_of (x ∷ xs) ys n = inl (λ e. cc e)

others_front : {J : Type 0} (v : PassState J) (xs ys : Log) → AreOthers (view_of v) (xs ++ ys)
    → AreOthers (view_of v) xs
others_front v [] ys f = tt
others_front v (x ∷ xs) ys f = (f.0, others_front v xs ys f.1)

others_joined : {J : Type 0} (v w : PassState J) (rs : Log) → w.work ≡ None → AreOthers (view_of v) rs
    → AreOthers (view_of w) rs
    → AreOthers (view_of (joined v w)) rs
others_joined v w [] idle f g = tt
others_joined v w (r ∷ rs) idle f g = (
  record {
    not_own = λ i. ⊎_elim f.0.not_own g.0.not_own (in_either r.xid v.xids w.xids i);
    not_all = λ n. ⊎_elim f.0.not_all g.0.not_all (some_of v.begun w.begun n);
    not_work = f.0.not_work;
  },
  others_joined v w rs idle f.1 g.1,
)

-- an xid of the seat that was joined is the other's from now on
abbrev moved_if : {P : Type 0} → Dec P → ℕ → ℕ → ℕ
moved_if (yes _) a b = a
moved_if (no _) a b = b

moved : (ℕ → ℕ) → ℕ → ℕ → ℕ → ℕ
moved owner id other x = moved_if (ℕ_discrete (owner x) (suc other)) (suc id) (owner x)

moved_here : (owner : ℕ → ℕ) (id other x : ℕ) → owner x ≡ suc other → moved owner id other x ≡ suc id
unfolding moved
moved_here owner id other x is = go (ℕ_discrete (owner x) (suc other))
  where
    go : (d : Dec (owner x ≡ suc other)) → moved_if d (suc id) (owner x) ≡ suc id
    go (yes _) = refl
    go (no n) = absurd (n is)

moved_else : (owner : ℕ → ℕ) (id other x : ℕ) → owner x ≢ suc other → moved owner id other x ≡ owner x
unfolding moved
moved_else owner id other x no_other = go (ℕ_discrete (owner x) (suc other))
  where
    go : (d : Dec (owner x ≡ suc other)) → moved_if d (suc id) (owner x) ≡ owner x
    go (yes e) = absurd (no_other e)
    go (no _) = refl

-- neither is longer than the longer
pub longer_left : (xs ys : Log) → length xs ≤ length (longer xs ys)
longer_left xs ys = grind (arith, nat_tests)

pub longer_right : (xs ys : Log) → length ys ≤ length (longer xs ys)
longer_right xs ys = grind (arith, nat_tests)

module _ {F J : Type 0} (frame : Framed F) (journal : Journaled J) (start : J) where
  abbrev Rule : State (Slot F J) (PassState J) → Type 0
  Rule = Kept frame journal start

  abbrev after : Shape J → ℕ → ℕ → Shape J
  after h id other = with_holders h h.holder (moved h.owner id other)

  -- what comes past the longer of two logs seen is others' to both
  seen_joined : (h : Shape J) (v w : PassState J) → w.work ≡ None → HasSeen journal start h v
      → HasSeen journal start h w
      → HasSeen journal start h (joined v w)
  seen_joined h v w idle a b = go (nat_lt (length v.seen) (length w.seen)) refl
    where
      shown : greater v.shown w.shown ≤ journal.flushed h.journal
      shown = greater_has (λ n. n ≤ journal.flushed h.journal) v.shown w.shown a.shown b.shown

      counted : greater v.counted w.counted ≤ journal.counted h.journal
      counted = greater_has (λ n. n ≤ journal.counted h.journal) v.counted w.counted a.counted b.counted

      back : (xs ys zs : Log) → xs ++ zs ≡ ys ++ zs → xs ≡ ys
      back xs ys zs e = Rattle.std.proofs.lemmas.List.append_cancel_right xs ys zs e

      go : (d : Bool) → nat_lt (length v.seen) (length w.seen) ≡ d → HasSeen journal start h (joined v w)
      go true is =
          let lt : length v.seen < length w.seen = grind (arith, nat_tests) in
          let t = behind b.later a.later w.seen v.seen (sym b.goes_on ∙ a.goes_on) (omega arith) in
          let parts : h.log ≡ (b.later ++ t.0) ++ v.seen
          = b.goes_on ∙ ap (λ (l : Log). b.later ++ l) t.1
          ∙ sym (Rattle.std.proofs.lemmas.List.append_assoc b.later t.0 v.seen) in
          let same : a.later ≡ b.later ++ t.0 = back a.later (b.later ++ t.0) v.seen (sym a.goes_on ∙ parts) in
          record {
            later = b.later;
            goes_on = b.goes_on ∙ ap (λ (d : Bool). b.later ++ cond d w.seen v.seen) (sym is);
            others = λ l. others_joined v w b.later idle
                (others_front v b.later t.0 (subst (AreOthers (view_of v)) same (a.others l))) (b.others l);
            shown = shown;
            counted = counted;
          }
      go false is =
          let le : length w.seen ≤ length v.seen = grind (arith, nat_tests) in
          let t = behind a.later b.later v.seen w.seen (sym a.goes_on ∙ b.goes_on) le in
          let parts : h.log ≡ (a.later ++ t.0) ++ w.seen
          = a.goes_on ∙ ap (λ (l : Log). a.later ++ l) t.1
          ∙ sym (Rattle.std.proofs.lemmas.List.append_assoc a.later t.0 w.seen) in
          let same : b.later ≡ a.later ++ t.0 = back b.later (a.later ++ t.0) w.seen (sym b.goes_on ∙ parts) in
          record {
            later = a.later;
            goes_on = a.goes_on ∙ ap (λ (d : Bool). a.later ++ cond d w.seen v.seen) (sym is);
            others = λ l. others_joined v w a.later idle (a.others l)
                (others_front w a.later t.0 (subst (AreOthers (view_of w)) same (b.others l)));
            shown = shown;
            counted = counted;
          }

  -- where one has seen the whole log, it is the longer
  longer_is : (v w : PassState J) (log : Log) → v.seen ≡ log → (later : Log) → log ≡ later ++ w.seen
      → longer v.seen w.seen ≡ log
  longer_is v w log is later e =
      let n = ap length e ∙ length-append later w.seen in
      let m = ap length is in
      let test : nat_lt (length v.seen) (length w.seen) ≡ false = grind (arith, nat_tests) in
      ap (λ (b : Bool). cond b w.seen v.seen) test ∙ is

  -- what the pass that takes in the other knows
  joiner_knows : (h : Shape J) (id other : ℕ) (v w : PassState J) → other ≢ id → v.room ≢ 0 → v.fresh ≡ false
      → w.work ≡ None
      → Knows journal start h id v → Knows journal start h other w
      → Knows journal start (after h id other) id (joined v w)
  joiner_knows h id other v w apart room seen idle a b =
      let n = knows_stays journal start h h.holder (moved h.owner id other) id v (λ q has. has)
      (λ l x i. let t = a.xids l x i in (
        t.0,
        t.1,
        moved_else h.owner id other x (λ e. apart (let z : suc id ≡ suc other = sym t.2 ∙ e in omega arith)) ∙ t.2,
      )) a in
      let s = seen_joined h v w idle a.seen b.seen in
      record {
        start_is = n.start_is;
        fresh = λ e. (let z : false ≡ true = sym seen ∙ e in cc z);
        seen = record { later = s.later; goes_on = s.goes_on; others = s.others; shown = s.shown; counted = s.counted };
        frames = n.frames;
        journal_is = λ c e. let t = n.journal_is c e in (t.0, t.1, longer_is v w h.log t.2 b.seen.later b.seen.goes_on);
        work = n.work;
        pin = n.pin;
        floor = record {
          flushed = greater_has (λ k. k ≤ journal.flushed h.journal) v.floor w.floor a.floor.flushed b.floor.flushed;
          within = greater_has (λ k. k ≤ length h.log) v.since w.since a.floor.within b.floor.within;
          pins = λ k p e.
              let x = a.floor.pins k p e in
              let y = b.floor.pins k p e in (
                greater_has (λ m. m ≤ p.commits) v.floor w.floor x.0 y.0,
                greater_has (λ m. m ≤ p.length) v.since w.since x.1 y.1,
              );
        };
        read = n.read;
        xids = λ l x i. ⊎_elim (n.xids l x)
            (λ j. let t = b.xids l x j in (t.0, t.1, moved_here h.owner id other x t.2)) (in_either x v.xids w.xids i);
        owed = λ e. ap (λ (xs : List ℕ). xs ++ w.begun) (a.owed e) ∙ b.owed e;
        shown = λ l x i. ⊎_elim (a.shown l x) (b.shown l x) (in_either x v.shows w.shows i);
        redo = n.redo;
        count = greater_has (λ k. k ≤ journal.faults h.journal) v.count w.count a.count b.count;
        own = λ k i. ⊎_elim
            (λ j. let t = a.own k j in let g = longer_left v.seen w.seen in omega arith)
            (λ j. let t = b.own k j in let g = longer_right v.seen w.seen in omega arith) (in_either k v.own w.own i);
        spent = λ e. absurd (room (omega arith));
        met = λ log i. ⊎_elim
            (λ (e : log ≡ v.seen). (a.seen.later, a.seen.goes_on ∙ ap (λ (l : Log). a.seen.later ++ l) (sym e)))
            (λ j. ⊎_elim
            (λ (e : log ≡ w.seen). (b.seen.later, b.seen.goes_on ∙ ap (λ (l : Log). b.seen.later ++ l) (sym e)))
            (λ k. a.met log k) j) i;
      }

  others_spent : (rs : Log) → AreOthers (view_of (spent {J = J})) rs
  others_spent [] = tt
  others_spent (r ∷ rs) =
      (record { not_own = λ i. i; not_all = λ n. absurd (n refl); not_work = λ at e. cc e }, others_spent rs)

  -- and the other is spent
  spent_knows : (h : Shape J) (j : ℕ) → Knows journal start h j spent
  spent_knows h j = record {
    start_is = λ k e. cc e;
    fresh = λ e. cc e;
    seen = record {
      later = h.log;
      goes_on = sym (append-nil h.log);
      others = λ l. others_spent h.log;
      shown = omega arith;
      counted = omega arith;
    };
    frames = tt;
    journal_is = λ b e. cc e;
    work = λ at e. cc e;
    pin = λ p e. cc e;
    floor = record { flushed = omega arith; within = omega arith; pins = λ k p e. (omega arith, omega arith) };
    read = λ l. (omega arith, tt);
    xids = λ l x i. absurd i;
    owed = λ e. refl;
    shown = λ l x i. absurd i;
    redo = record { number = λ l x e. cc e; walked = λ l x e. cc e };
    count = omega arith;
    own = λ k i. absurd i;
    spent = λ e. record {
      pin = refl;
      frames = refl;
      journal_is = refl;
      work = refl;
      redo = refl;
      walk = refl;
      xids = refl;
      begun = refl;
      own = refl;
      faults = refl;
      write_faults = refl;
    };
    met = λ l i. absurd i;
  }

  joined_notes : (h : Shape J) (v w : PassState J) (i : ℕ) → IsNoted h v i → IsNoted h (joined v w) i
  joined_notes h v w i (IsNoted.as_frame f in_) = IsNoted.as_frame f in_
  joined_notes h v w i (IsNoted.as_journal b e) = IsNoted.as_journal b e
  joined_notes h v w i (IsNoted.as_work at e) = IsNoted.as_work at e

  idle_notes : (h : Shape J) (w : PassState J) (i : ℕ) → w.frames ≡ [] → w.journal ≡ None → w.work ≡ None
      → IsNoted h w i → ⊥
  idle_notes h w i a b c (IsNoted.as_frame f in_) = subst (In f) a in_
  idle_notes h w i a b c (IsNoted.as_journal x e) = let z : Some x ≡ None = sym e ∙ b in cc z
  idle_notes h w i a b c (IsNoted.as_work x e) = let z : Some x ≡ None = sym e ∙ c in cc z

  -- and each third pass what it knew
  third_knows : (h : Shape J) (id other j : ℕ) (v : PassState J) → j ≢ other → Knows journal start h j v
      → Knows journal start (after h id other) j v
  third_knows h id other j v ne k = knows_stays journal start h h.holder (moved h.owner id other) j v (λ q has. has)
      (λ l x i. let t = k.xids l x i in (
        t.0,
        t.1,
        moved_else h.owner id other x (λ e. ne (let z : suc j ≡ suc other = sym t.2 ∙ e in omega arith)) ∙ t.2,
      )) k

  pub joins : (id : ℕ) (v : PassState J) (other : ℕ) (w : PassState J) → v.room ≢ 0 → v.fresh ≡ false → w.frames ≡ []
      → w.journal ≡ None → w.work ≡ None → w.pin ≡ None → Joins Rule id v other w (joined v w) spent
  joins id v other w room seen no_frames no_journal no_work no_pin s k at apart there =
      let h = k.shape in
      let h' : Shape J = after h id other in
      let owner' : ℕ → ℕ = moved h.owner id other in
      let u : PassState J = joined v w in
      let vs = set s.views id u in
      let mine = k.knows id v at in
      let was : get_elem? s.views other ≡ some w = sym (set_else s.views id other u apart) ∙ there in
      let theirs = k.knows other w was in
      let one : (f : PassState J → ℕ) → total f vs + f v ≡ total f s.views + f u = λ f. total_set f s.views id v u at in
      let two : (f : PassState J → ℕ) → total f (set vs other spent) + f w ≡ total f vs + f spent
      = λ f. total_set f vs other w spent there in
      record {
        shape = h';
        words = record { wide = k.words.wide; deep = k.words.deep; free = k.words.free; taken = k.words.taken };
        homes = record {
          frames = λ i lt free.
              let t = k.homes.frames i lt free in (t.0, t.1, record { page = t.2.page; bytes = t.2.bytes });
          journal_is = k.homes.journal_is;
          last = k.homes.last;
        };
        noted = λ q j lt has.
            let o = k.noted q j lt has in
            let t = still (λ y. IsNoted h' y q) s.views id j v u o.0 at (joined_notes h' v w q) o.1
            (renoted h h.holder owner' o.0 q o.2) in
            still (λ y. IsNoted h' y q) vs other j w spent t.0 there
            (λ z. absurd (idle_notes h' w q no_frames no_journal no_work z)) t.1 t.2;
        store = store_stays journal start h h.holder owner' k.store;
        placed = k.placed;
        pinned = record {
          of_views = λ n p is.
              let o = k.pinned.of_views n p is in
              let P : PassState J → Type 0 = λ y. (q : PinNote) × (y.pin ≡ Some q) × (q.place ≡ n) in
              let t = still P s.views id o.0 v u o.1 at (λ z. z) o.4 (o.2, o.5, o.6) in
              let r = still P vs other o.0 w spent t.0 there
              (λ z. absurd (let none : Some z.0 ≡ None = sym z.1 ∙ no_pin in cc none)) t.1 t.2 in
              (o.0, r.0, r.2.0, o.3, r.1, r.2.1, r.2.2);
          kept = k.pinned.kept;
          now = k.pinned.now;
        };
        sums = record {
          rooms = let a = one (λ y. y.room) in let b = two (λ y. y.room) in let c = k.sums.rooms in omega arith;
          faults = let a = one (λ y. y.faults) in let b = two (λ y. y.faults) in let c = k.sums.faults in omega arith;
          write_faults =
              let a = one (λ y. y.write_faults) in
              let b = two (λ y. y.write_faults) in let c = k.sums.write_faults in omega arith;
          own = λ n.
              let a = one (λ y. times n y.own) in
              let b = two (λ y. times n y.own) in
              let m = times_more n v.own w.own in let c = k.sums.own n in omega arith;
        };
        knows = views_stay (λ j y. j ≢ other → Knows journal start h' j y) (Knows journal start h') vs other spent
            (spent_knows h' other)
            (λ j y ne _ t. t ne)
            (λ j y p ne. ⊎_elim
            (λ (t : (j ≡ id) × (u ≡ y)). subst (λ (x : ℕ × PassState J). Knows journal start h' x.0 x.1)
            (λ i. (sym t.0 i, t.1 i))
            (joiner_knows h id other v w apart room seen no_work mine theirs))
            (λ (t : (j ≢ id) × (get_elem? s.views j ≡ some y)). third_knows h id other j y ne (k.knows j y t.1))
            (Rattle.atomic_table.proofs.Lists.at_set s.views id j u y p));
      }

  pub looks : (slots id : ℕ) (me : Me (Slot F J) (PassState J))
      → Allows Rule slots id me 0 (λ n. n) (looked (step slots 0 0 0 none) me)
  looks slots id me s k deep at _ =
      let known = k.knows id me.0 at in (
        me.0,
        keeps,
        tt,
        unmoved frame journal start s k 0 id me.0 at,
        (
          refl,
          λ l there le.
              let t = known.met l there in
              behind known.seen.later t.0 me.0.seen l (sym known.seen.goes_on ∙ t.1) le,
        ),
      )
