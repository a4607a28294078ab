-- Which commits inserted and deleted each document of a legal log.
use Rattle.std.proofs.Common.{◌≡◌, ◌≢◌, ◌⊎◌, ◌<◌, ◌-◌, ◌&&◌, nat_lt, ℕ, zero, suc, Bool, true, false, ◌==◌, List, []}
use Rattle.std.proofs.Common.{◌∷◌, length, get_or, refl, sym, ap, ap₂, subst, ◌∙◌, inl, inr, arith}
use Rattle.std.specs.Prelude.{Option, Some, None, if◌then◌else◌}
use Rattle.std.specs.List.{slice_get}
use Rattle.std.proofs.lemmas.List.{length-set, get_or-set_other}
use Rattle.std.proofs.lemmas.Grind.{get_or-set_at}
use Rattle.page_types.specs.declared.page.Name.{Name}
use Rattle.core_state.specs.Log.{Log, In, fate}
use Rattle.core_state.specs.Documents.{Doc, page_of, slot_of, name_of, placed, marked, doc_at}
use Rattle.core_state.specs.Lives.{IsInsertedBy, IsDeletedBy, IsDeletedIfAny, IsLife, placer_in, placer, first_end}
use Rattle.core_state.specs.Lives.{with_end, with_ends, some_commit, life_by, life_in}
use Rattle.core_state.specs.Inner.LivesKept.{IsPlacedAt, IsEnd, LivesKept}
use Rattle.core_state.specs.declared.answers.Fate.{Fate}
use Rattle.core_state.specs.declared.answers.Fate.TheVariants.{Unused, Running, Aborted, Committed}
use Rattle.core_state.specs.declared.lives.Placed.{Placed}
use Rattle.core_state.proofs.RunningOnes.{same_or_other}

-- a name is that of one document
pub one_named : (d e : Doc) → name_of d ≡ name_of e → d ≡ e
one_named d e n =
    let page : page_of d.item ≡ page_of e.item = ap (λ (x : Name). x.page) n in
    let slot : slot_of d.item ≡ slot_of e.item = ap (λ (x : Name). x.slot) n in
    let item : d.item ≡ e.item = omega (arith, page, slot) in
    let serial : d.serial ≡ e.serial = ap (λ (x : Name). x.serial) n in
    ap₂ doc_at item serial

some_one : (a b : Placed) → Some a ≡ Some b → a ≡ b
some_one a b e = cc

none_one : (a : Placed) → None ≡ Some a → ⊥
none_one a e = cc

is_same : (a b : ℕ) → a ≡ b → (a == b) ≡ true
is_same a b e = grind (arith, e)

-- a document that is in the list is found by its name
found_in : (n : Name) (p : Placed) → n.page ≡ page_of p.item → n.slot ≡ slot_of p.item
    → placer_in n (Some p) ≡ Some p.xid
found_in n p a b =
    ap (λ (x : Bool). if x && (n.slot == slot_of p.item) then Some p.xid else None) (is_same n.page (page_of p.item) a)
    ∙ ap (λ (x : Bool). if x then Some p.xid else None) (is_same n.slot (slot_of p.item) b)

above : (s k : ℕ) → s ≡ suc k → nat_lt 0 s ≡ true
above s k e = grind (arith, e)

pub found : (ps : List Placed) (d : Doc) (x : ℕ) → IsPlacedAt ps d x → placer ps (name_of d) ≡ Some x
found ps d x w =
    let p : Placed = record { item = d.item; xid = x } in
    let k : d.serial - 1 ≡ w.place = omega (arith, w.serial) in
    ap (λ (b : Bool). if b then placer_in (name_of d) (slice_get ps (d.serial - 1)) else None)
    (above d.serial w.place w.serial)
    ∙ ap (λ (j : ℕ). placer_in (name_of d) (slice_get ps j)) k
    ∙ ap (placer_in (name_of d)) w.at ∙ found_in (name_of d) p refl refl

-- what is found by a name is in the list
pub record IsFound (ps : List Placed) (n : Name) (x : ℕ) : Type 0 where
  pub place : ℕ
  pub it : Placed
  pub at : slice_get ps place ≡ Some it
  pub by : it.xid ≡ x
  pub named : name_of (doc_at it.item (suc place)) ≡ n

abbrev name_with : ℕ → ℕ → ℕ → Name
name_with page slot serial = record { page = page; slot = slot; serial = serial }

named_by : (n : Name) (p : Placed) (k : ℕ) → n.page ≡ page_of p.item → n.slot ≡ slot_of p.item → n.serial ≡ suc k
    → name_of (doc_at p.item (suc k)) ≡ n
named_by n p k a b c =
    ap (λ (z : ℕ). name_with z (slot_of p.item) (suc k)) (sym a) ∙ ap (λ (z : ℕ). name_with n.page z (suc k)) (sym b)
    ∙ ap (name_with n.page n.slot) (sym c)

both_tests : (a b : Bool) (x y : ℕ) → (if a && b then Some x else None) ≡ Some y → (a ≡ true) × (b ≡ true) × (x ≡ y)
both_tests true true x y e = (refl, refl, cc)
both_tests true false x y e = absurd (cc)
both_tests false b x y e = absurd (cc)

tested : (a b : ℕ) → (a == b) ≡ true → a ≡ b
tested a b e = grind (arith, e)

back_in : (ps : List Placed) (n : Name) (k x : ℕ) (o : Option Placed) → slice_get ps k ≡ o → n.serial ≡ suc k
    → placer_in n o ≡ Some x → IsFound ps n x
back_in ps n k x None at s e = absurd (cc)
back_in ps n k x (Some p) at s e =
    let t = both_tests (n.page == page_of p.item) (n.slot == slot_of p.item) p.xid x e in
    record {
      place = k;
      it = p;
      at = at;
      by = t.2;
      named = named_by n p k (tested n.page (page_of p.item) t.0) (tested n.slot (slot_of p.item) t.1) s;
    }

back_at : (ps : List Placed) (n : Name) (s x : ℕ) → n.serial ≡ s
    → (if nat_lt 0 s then placer_in n (slice_get ps (s - 1)) else None) ≡ Some x → IsFound ps n x
back_at ps n zero x is e = absurd (cc)
back_at ps n (suc k) x is e =
    let one : suc k - 1 ≡ k = omega arith in
    let here : placer_in n (slice_get ps (suc k - 1)) ≡ Some x = sym
    (ap (λ (b : Bool). if b then placer_in n (slice_get ps (suc k - 1)) else None) (above (suc k) k refl)) ∙ e in
    back_in ps n k x (slice_get ps k) refl is
    (subst (λ (j : ℕ). placer_in n (slice_get ps j) ≡ Some x) one here)

pub found_back : (ps : List Placed) (n : Name) (x : ℕ) → placer ps n ≡ Some x → IsFound ps n x
found_back ps n x e = back_at ps n n.serial x refl e

-- an end after one more name
length-with_end : (commit : ℕ) (n : Name) (o : Option ℕ) (es : List ℕ) → length (with_end commit n o es) ≡ length es
length-with_end commit n None es = refl
length-with_end commit n (Some x) es = length-set es (n.serial - 1) (first_end commit (get_or es (n.serial - 1) 0))

pub length-with_ends : (commit : ℕ) (ps : List Placed) (ns : List Name) (es : List ℕ)
    → length (with_ends commit ps ns es) ≡ length es
length-with_ends commit ps [] es = refl
length-with_ends commit ps (n ∷ ns) es =
    length-with_ends commit ps ns (with_end commit n (placer ps n) es) ∙ length-with_end commit n (placer ps n) es

-- the document at place k has this name, and its end is noted; or it hasn't, and its end stays
abbrev OneEnd : ℕ → List Placed → Name → List ℕ → List ℕ → ℕ → Placed → Type 0
OneEnd commit ps n es new k p =
    ((name_of (doc_at p.item (suc k)) ≡ n) × (get_or new k 0 ≡ first_end commit (get_or es k 0)))
    ⊎ ((name_of (doc_at p.item (suc k)) ≢ n) × (get_or new k 0 ≡ get_or es k 0))

none_some : (x : ℕ) → None ≡ Some x → ⊥
none_some x e = cc

one_end_by : (commit : ℕ) (ps : List Placed) (n : Name) (o : Option ℕ) (es : List ℕ) (k : ℕ) (p : Placed)
    → placer ps n ≡ o → slice_get ps k ≡ Some p → k < length es
    → OneEnd commit ps n es (with_end commit n o es) k p
one_end_by commit ps n None es k p is at lt = inr (
  λ e.
      let w : IsPlacedAt ps (doc_at p.item (suc k)) p.xid = record { place = k; serial = refl; at = at } in
      none_some p.xid (sym is ∙ ap (placer ps) (sym e) ∙ found ps (doc_at p.item (suc k)) p.xid w),
  refl,
)
one_end_by commit ps n (Some x) es k p is at lt =
    let f : IsFound ps n x = found_back ps n x is in
    let serial : suc f.place ≡ n.serial = ap (λ (m : Name). m.serial) f.named in
    let place : n.serial - 1 ≡ f.place = omega (arith, serial) in
    let v = first_end commit (get_or es (n.serial - 1) 0) in
    elim (same_or_other f.place k) [
      | inl e ↦
          let same : f.it ≡ p = some_one f.it p (sym f.at ∙ ap (slice_get ps) e ∙ at) in
          let here : n.serial - 1 ≡ k = place ∙ e in
          inl (
            ap₂ (λ (q : Placed) (j : ℕ). name_of (doc_at q.item (suc j))) (sym same) (sym e) ∙ f.named,
            get_or-set_at es (n.serial - 1) k v 0 (sym here) (omega (arith, lt, here))
                ∙ ap (λ (j : ℕ). first_end commit (get_or es j 0)) here,
          )
      | inr off ↦ inr (
        λ e. off (omega (arith, serial, ap (λ (m : Name). m.serial) e)),
        get_or-set_other es (n.serial - 1) k v 0 (λ e. off (sym place ∙ sym e)),
      )
    ]

-- the document has one of these names, and its end is noted; or it has none, and its end stays
abbrev pub AnEnd : ℕ → List Name → List ℕ → List ℕ → ℕ → Placed → Type 0
AnEnd commit ns es new k p =
    (In (name_of (doc_at p.item (suc k))) ns × (get_or new k 0 ≡ first_end commit (get_or es k 0)))
    ⊎ ((In (name_of (doc_at p.item (suc k))) ns → ⊥) × (get_or new k 0 ≡ get_or es k 0))

not_zero : (e : ℕ) → (suc e == 0) ≡ false
not_zero e = grind arith

pub suc_end : (commit e : ℕ) → first_end commit (suc e) ≡ suc e
suc_end commit e = ap (λ (b : Bool). if b then commit else suc e) (not_zero e)

suc_commit : (e : ℕ) → some_commit (suc e) ≡ Some (suc e)
suc_commit e = ap (λ (b : Bool). if b then None else Some (suc e)) (not_zero e)

twice : (commit e : ℕ) → first_end commit (first_end commit e) ≡ first_end commit e
twice commit zero = again (commit == 0)
  where
    again : (b : Bool) → (if b then commit else commit) ≡ commit
    again true = refl
    again false = refl
twice commit (suc e) = ap (first_end commit) (suc_end commit e)

pub an_end : (commit : ℕ) (ps : List Placed) (ns : List Name) (es : List ℕ) (k : ℕ) (p : Placed)
    → slice_get ps k ≡ Some p → k < length es → AnEnd commit ns es (with_ends commit ps ns es) k p
an_end commit ps [] es k p at lt = inr (λ i. i, refl)
an_end commit ps (n ∷ ns) es k p at lt =
    let mid = with_end commit n (placer ps n) es in
    let more : k < length mid = omega (arith, lt, length-with_end commit n (placer ps n) es) in
    let rest = an_end commit ps ns mid k p at more in
    let one = one_end_by commit ps n (placer ps n) es k p refl at lt in
    elim one [
      | inl here ↦ elim rest [
        | inl again ↦ inl (inl here.0, again.1 ∙ ap (first_end commit) here.1 ∙ twice commit (get_or es k 0))
        | inr none ↦ inl (inl here.0, none.1 ∙ here.1)
      ]
      | inr off ↦ elim rest [
        | inl there ↦ inl (inr there.0, there.1 ∙ ap (first_end commit) off.1)
        | inr none ↦ inr (λ i. elim i [ inl e ↦ off.0 e | inr j ↦ none.0 j ], none.1 ∙ off.1)
      ]
    ]

-- from the lists to the life of a document
commit_one : (a b : ℕ) → Committed a ≡ Committed b → a ≡ b
commit_one a b e = cc

deleted_told : (R : Log) (n : Name) (d : Doc) (e : ℕ) → name_of d ≡ n → IsEnd R d e
    → IsDeletedIfAny R n (some_commit e)
deleted_told R n d zero named w = λ commit m.
    let same : m.doc ≡ d = one_named m.doc d (m.named ∙ sym named) in
    w.none refl m.xid commit m.committed (subst (λ (x : Doc). In x (marked R m.xid)) same m.marked_it)
deleted_told R n d (suc e) named w =
    let f = w.some (λ z. cc) in
    let by : IsDeletedBy R n (suc e) = record { xid = f.0; doc = d; named = named; marked_it = f.1; committed = f.2 } in
    subst (IsDeletedIfAny R n) (sym (suc_commit e)) by

-- no commit inserted what a transaction placed that hasn't committed
not_inserted : (R : Log) (ps : List Placed) (es : List ℕ) (n : Name) (x : ℕ) → LivesKept R ps es → IsFound ps n x
    → ((c : ℕ) → fate R x ≡ Committed c → ⊥) → (commit : ℕ) → IsInsertedBy R n commit → ⊥
not_inserted R ps es n x k f off commit w =
    let d = doc_at f.it.item (suc f.place) in
    let same : w.doc ≡ d = one_named w.doc d (w.named ∙ sym f.named) in
    let there : IsPlacedAt ps d w.xid =
    subst (λ (z : Doc). IsPlacedAt ps z w.xid) same (k.there w.xid w.doc w.placed_it) in
    let place : f.place ≡ there.place = omega (arith, there.serial) in
    let one : f.it ≡ record { item = f.it.item; xid = w.xid } = some_one f.it (record { item = f.it.item; xid = w.xid })
    (sym f.at ∙ ap (slice_get ps) place ∙ there.at) in
    let xid : w.xid ≡ x = sym (ap (λ (p : Placed). p.xid) one) ∙ f.by in
    off commit (ap (fate R) (sym xid) ∙ w.committed)

life_told_by : (R : Log) (ps : List Placed) (es : List ℕ) (n : Name) (x : ℕ) (g : Fate) → LivesKept R ps es
    → IsFound ps n x → fate R x ≡ g → IsLife R n (life_by g (get_or es (n.serial - 1) 0))
life_told_by R ps es n x Unused k f is =
    not_inserted R ps es n x k f (λ c e. let b : Unused ≡ Committed c = sym is ∙ e in cc)
life_told_by R ps es n x Running k f is =
    not_inserted R ps es n x k f (λ c e. let b : Running ≡ Committed c = sym is ∙ e in cc)
life_told_by R ps es n x Aborted k f is =
    not_inserted R ps es n x k f (λ c e. let b : Aborted ≡ Committed c = sym is ∙ e in cc)
life_told_by R ps es n x (Committed c) k f is =
    let d = doc_at f.it.item (suc f.place) in
    let serial : suc f.place ≡ n.serial = ap (λ (m : Name). m.serial) f.named in
    let place : f.place ≡ n.serial - 1 = omega (arith, serial) in
    let by : In d (placed R x) = subst (λ (y : ℕ). In d (placed R y)) f.by (k.placed_by f.place f.it f.at) in
    let end : IsEnd R d (get_or es (n.serial - 1) 0) =
    subst (λ (j : ℕ). IsEnd R d (get_or es j 0)) place (k.ended f.place f.it f.at) in (
      record { xid = x; doc = d; named = f.named; placed_it = by; committed = is },
      deleted_told R n d (get_or es (n.serial - 1) 0) f.named end,
    )

life_told_in : (R : Log) (ps : List Placed) (es : List ℕ) (n : Name) (o : Option ℕ) → LivesKept R ps es
    → placer ps n ≡ o → IsLife R n (life_in (fate R) es n o)
life_told_in R ps es n None k is = λ commit w.
    none_some w.xid (sym is ∙ ap (placer ps) (sym w.named) ∙ found ps w.doc w.xid (k.there w.xid w.doc w.placed_it))
life_told_in R ps es n (Some x) k is = life_told_by R ps es n x (fate R x) k (found_back ps n x is) refl

pub life_told : (R : Log) (ps : List Placed) (es : List ℕ) (n : Name) → LivesKept R ps es
    → IsLife R n (life_in (fate R) es n (placer ps n))
life_told R ps es n k = life_told_in R ps es n (placer ps n) k refl
