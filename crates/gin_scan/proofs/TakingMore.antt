-- One kept item more whose head was read: what is taken of it.
use Rattle.std.proofs.Common.{◌≡◌, ◌≢◌, ◌⊎◌, ℕ, zero, suc, List, [], ◌∷◌, ◌++◌, take, refl, sym, ap, subst}
use Rattle.std.proofs.Common.{◌∙◌, inl, inr, arith, All, AllPairs, append_assoc}
use Rattle.std.proofs.lemmas.List.{map-append}
use Rattle.std.proofs.lemmas.List.Kept.{AllPairs-cons}
use Rattle.ts_base.specs.Vectors.{Vector}
use Rattle.page_types.specs.declared.page.Name.{Name}
use Rattle.core_state.specs.Log.{Log, In}
use Rattle.core_state.specs.History.{Document, History, docs}
use Rattle.core_state.specs.Legal.{Pin}
use Rattle.core_state.proofs.PageLists.{in_front, in_back, in_either}
use Rattle.gin_scan.specs.Taking.{item_of, IsAmong, IsLongOf, AreTaken, names_of}
use Rattle.gin_scan.specs.declared.stage.LongVector.{LongVector}

-- ── lists of which each two are apart ──

pub in_all : {A : Type 0} (P : A → Type 0) (xs : List A) → ((x : A) → In x xs → P x) → All P xs
in_all P [] f i d l = absurd (omega (arith, l))
in_all P (x ∷ xs) f zero d l = f x (inl refl)
in_all P (x ∷ xs) f (suc i) d l = in_all P xs (λ y m. f y (inr m)) i d (omega (arith, l))

all_at : {A : Type 0} (P : A → Type 0) (xs : List A) → All P xs → (x : A) → In x xs → P x
all_at P [] h x i = absurd i
all_at P (y ∷ ys) h x (inl e) = subst P (sym e) (h zero y (omega arith))
all_at P (y ∷ ys) h x (inr i) = all_at P ys (λ k d l. h (suc k) d (omega (arith, l))) x i

abbrev Apart : Name → Name → Type 0
Apart a b = a.serial ≢ b.serial

pub head_apart : (x : Name) (xs : List Name) → AllPairs Apart (x ∷ xs) → (y : Name) → In y xs → Apart x y
head_apart x xs h = all_at (Apart x) xs (λ k d l. h zero (suc k) d (omega arith) (omega (arith, l)))

pub tail_apart : (x : Name) (xs : List Name) → AllPairs Apart (x ∷ xs) → AllPairs Apart xs
tail_apart x xs h i j d lt within = h (suc i) (suc j) d (omega (arith, lt)) (omega (arith, within))

-- one more in the middle
pub between_apart : (xs ys : List Name) (n : Name) → AllPairs Apart (xs ++ ys)
    → ((m : Name) → In m (xs ++ ys) → Apart m n) → AllPairs Apart ((xs ++ n ∷ []) ++ ys)
between_apart [] ys n h off = AllPairs-cons Apart n ys (in_all (Apart n) ys (λ m i e. off m i (sym e))) h
between_apart (x ∷ xs) ys n h off =
    AllPairs-cons Apart x ((xs ++ n ∷ []) ++ ys)
    (in_all (Apart x) ((xs ++ n ∷ []) ++ ys) (λ m i. elim (in_either m (xs ++ n ∷ []) ys i) [
      | inl j ↦ elim (in_either m xs (n ∷ []) j) [
        | inl k ↦ head_apart x (xs ++ ys) h m (in_front m xs ys k)
        | inr (inl e) ↦ subst (Apart x) (sym e) (off x (inl refl))
        | inr (inr k) ↦ absurd k
      ]
      | inr j ↦ head_apart x (xs ++ ys) h m (in_back m xs ys j)
    ]))
    (between_apart xs ys n (tail_apart x (xs ++ ys) h) (λ m i. off m (inr i)))

module _ (P : Vector → Type 0) (R : Log) (pin : Pin) (H : History)
    (one_serial : (d e : Document) → In d (docs (take pin.commits H)) → In e (docs (take pin.commits H))
    → d.name.serial ≡ e.name.serial → d ≡ e)
    (one_item : (d e : Document) → In d (docs (take pin.commits H)) → In e (docs (take pin.commits H))
    → item_of d ≡ item_of e → d ≡ e) where
  abbrev Taken : List ℕ → List Name → List LongVector → Type 0
  Taken items ns ws = AreTaken P R pin H items ns ws

  more_items : (items : List ℕ) (i : ℕ) (d : Document) → IsAmong H pin.commits items d
      → IsAmong H pin.commits (items ++ i ∷ []) d
  more_items items i d a = record { there = a.there; item = in_front (item_of d) items (i ∷ []) a.item }

  old_or_new : (items : List ℕ) (i : ℕ) (d : Document) → IsAmong H pin.commits (items ++ i ∷ []) d
      → IsAmong H pin.commits items d ⊎ (item_of d ≡ i)
  old_or_new items i d a = elim (in_either (item_of d) items (i ∷ []) a.item) [
    | inl m ↦ inl (record { there = a.there; item = m })
    | inr (inl e) ↦ inr e
    | inr (inr m) ↦ absurd m
  ]

  -- no document with the item satisfies the query
  pub none_more : (items : List ℕ) (i : ℕ) (ns : List Name) (ws : List LongVector) → Taken items ns ws
      → ((d : Document) → In d (docs (take pin.commits H)) → item_of d ≡ i → P d.vector → ⊥)
      → Taken (items ++ i ∷ []) ns ws
  none_more items i ns ws t off = record {
    found = λ n m. let f = t.found n m in (f.0, more_items items i f.0 f.1, f.2, f.3);
    waits = λ l m. let f = t.waits l m in (f.0, more_items items i f.0 f.1, f.2);
    all = λ d a p. elim (old_or_new items i d a) [
      | inl b ↦ t.all d b p
      | inr e ↦ absurd (off d a.there e p)
    ];
    once = t.once;
  }

  -- a name that is found or waits is that of a document with one of the items
  owner : (items : List ℕ) (ns : List Name) (ws : List LongVector) → Taken items ns ws → (n : Name)
      → In n (ns ++ names_of ws) → (d : Document) × IsAmong H pin.commits items d × (d.name ≡ n)
  owner items ns ws t n m = elim (in_either n ns (names_of ws) m) [
    | inl i ↦ let f = t.found n i in (f.0, f.1, f.2)
    | inr i ↦ by ws (λ l j. t.waits l j) i
  ]
    where
      by : (vs : List LongVector) → ((l : LongVector) → In l vs → (d : Document) × IsAmong H pin.commits items d
          × IsLongOf R pin d l) → In n (names_of vs) → (d : Document) × IsAmong H pin.commits items d × (d.name ≡ n)
      by [] f i = absurd i
      by (v ∷ vs) f (inl e) = let o = f v (inl refl) in (o.0, o.1, sym o.2.name ∙ sym e)
      by (v ∷ vs) f (inr i) = by vs (λ l j. f l (inr j)) i

  new_apart : (items : List ℕ) (ns : List Name) (ws : List LongVector) → Taken items ns ws → (D : Document)
      → In D (docs (take pin.commits H)) → (In (item_of D) items → ⊥) → (m : Name) → In m (ns ++ names_of ws)
      → Apart m D.name
  new_apart items ns ws t D there fresh m i e =
      let o = owner items ns ws t m i in
      let same : o.0 ≡ D = one_serial o.0 D o.1.there there (ap (λ (n : Name). n.serial) o.2 ∙ e) in
      fresh (subst (λ (d : Document). In (item_of d) items) same o.1.item)

  -- the document of the item satisfies it, and is found
  pub found_more : (items : List ℕ) (ns : List Name) (ws : List LongVector) → Taken items ns ws → (D : Document)
      → In D (docs (take pin.commits H)) → (In (item_of D) items → ⊥) → P D.vector
      → Taken (items ++ item_of D ∷ []) (ns ++ D.name ∷ []) ws
  found_more items ns ws t D there fresh p = record {
    found = λ n m. elim (in_either n ns (D.name ∷ []) m) [
      | inl i ↦ let f = t.found n i in (f.0, more_items items (item_of D) f.0 f.1, f.2, f.3)
      | inr (inl e) ↦ (
        D,
        record { there = there; item = in_back (item_of D) items (item_of D ∷ []) (inl refl) },
        sym e,
        p,
      )
      | inr (inr i) ↦ absurd i
    ];
    waits = λ l m. let f = t.waits l m in (f.0, more_items items (item_of D) f.0 f.1, f.2);
    all = λ d a q. elim (old_or_new items (item_of D) d a) [
      | inl b ↦ elim (in_either d.name ns (names_of ws) (t.all d b q)) [
        | inl i ↦ in_front d.name (ns ++ D.name ∷ []) (names_of ws) (in_front d.name ns (D.name ∷ []) i)
        | inr i ↦ in_back d.name (ns ++ D.name ∷ []) (names_of ws) i
      ]
      | inr e ↦ subst (λ (z : Document). In z.name ((ns ++ D.name ∷ []) ++ names_of ws))
          (sym (one_item d D a.there there e))
          (in_front D.name (ns ++ D.name ∷ []) (names_of ws) (in_back D.name ns (D.name ∷ []) (inl refl)))
    ];
    once = between_apart ns (names_of ws) D.name t.once (new_apart items ns ws t D there fresh);
  }

  names_more : (ns : List Name) (ws : List LongVector) (l : LongVector)
      → ns ++ names_of (ws ++ l ∷ []) ≡ (ns ++ names_of ws) ++ l.name ∷ []
  names_more ns ws l =
      ap (λ (ms : List Name). ns ++ ms) (map-append (λ (v : LongVector). v.name) ws (l ∷ []))
      ∙ sym (append_assoc ns (names_of ws) (l.name ∷ []))

  -- its vector is long, and waits
  pub waits_more : (items : List ℕ) (ns : List Name) (ws : List LongVector) → Taken items ns ws → (D : Document)
      → (l : LongVector) → In D (docs (take pin.commits H)) → (In (item_of D) items → ⊥) → IsLongOf R pin D l
      → Taken (items ++ item_of D ∷ []) ns (ws ++ l ∷ [])
  waits_more items ns ws t D l there fresh long = record {
    found = λ n m. let f = t.found n m in (f.0, more_items items (item_of D) f.0 f.1, f.2, f.3);
    waits = λ v m. elim (in_either v ws (l ∷ []) m) [
      | inl i ↦ let f = t.waits v i in (f.0, more_items items (item_of D) f.0 f.1, f.2)
      | inr (inl e) ↦ (
        D,
        record { there = there; item = in_back (item_of D) items (item_of D ∷ []) (inl refl) },
        subst (IsLongOf R pin D) (sym e) long,
      )
      | inr (inr i) ↦ absurd i
    ];
    all = λ d a q. subst (In d.name) (sym (names_more ns ws l)) (elim (old_or_new items (item_of D) d a) [
      | inl b ↦ in_front d.name (ns ++ names_of ws) (l.name ∷ []) (t.all d b q)
      | inr e ↦ in_back d.name (ns ++ names_of ws) (l.name ∷ [])
          (inl (ap (λ (z : Document). z.name) (one_item d D a.there there e) ∙ sym long.name))
    ]);
    once = subst (AllPairs Apart) (sym (names_more ns ws l) ∙ refl)
        (last_apart (ns ++ names_of ws) l.name t.once
        (λ m i. subst (Apart m) (sym long.name) (new_apart items ns ws t D there fresh m i)));
  }
    where
      last_apart : (ms : List Name) (n : Name) → AllPairs Apart ms → ((m : Name) → In m ms → Apart m n)
          → AllPairs Apart (ms ++ n ∷ [])
      last_apart [] n h off = λ i j d lt within. absurd (omega (arith, lt, within))
      last_apart (m ∷ ms) n h off = AllPairs-cons Apart m (ms ++ n ∷ [])
          (in_all (Apart m) (ms ++ n ∷ []) (λ k i. elim (in_either k ms (n ∷ []) i) [
            | inl j ↦ head_apart m ms h k j
            | inr (inl e) ↦ subst (Apart m) (sym e) (off m (inl refl))
            | inr (inr j) ↦ absurd j
          ])) (last_apart ms n (tail_apart m ms h) (λ k i. off k (inr i)))
