-- What was indexed stays indexed, at any floor and over slots used again, from what a record does to documents, rows
-- and pairs.
use Rattle.std.proofs.Common.{◌≡◌, ◌⊎◌, ◌<◌, ◌≤◌, ℕ, List, [], ◌∷◌, ◌++◌, refl, sym, ap, subst, subst₂, ap₂, ◌∙◌, inl}
use Rattle.std.proofs.Common.{inr, arith}
use Rattle.std.specs.Prelude.{Some}
use Rattle.ts_base.specs.Vectors.{Vector}
use Rattle.ts_base.specs.Keys.{Key, keys_of}
use Rattle.page_types.specs.declared.page.Head.{Head}
use Rattle.page_types.specs.declared.record.Record.{Record}
use Rattle.core_state.specs.Log.{Log, Pages, In, Shows, fate, next_serial}
use Rattle.core_state.specs.Documents.{Doc, Has, IsWhole, IsDead, placed, head_of, doc_at}
use Rattle.core_state.specs.Index.{Pending, HasRow, AllMain, IsIndexed}
use Rattle.core_state.specs.Bullets.{WasIndexed, MustBeIndexed}
use Rattle.core_state.specs.Legal.{RuleHolds}
use Rattle.core_state.specs.Inner.HeadsKept.{HeadsKept}
use Rattle.core_state.specs.Inner.Effects.{Moved, Effects, AreIndexed}
use Rattle.core_state.specs.declared.answers.Fate.TheVariants.{Running, Aborted, Committed}
use Rattle.core_state.proofs.Showing.{shown_one}
use Rattle.core_state.proofs.Histories.{whole_one}
use Rattle.core_state.proofs.HeadSteps.{HeadStep}
use Rattle.core_state.proofs.FateSteps.{fate_step, dead_stays, dead_more, placed_on}
use Rattle.core_state.proofs.HeadsFollow.{heads_back, places_doc}

some_one : (a b : Head) → Some a ≡ Some b → a ≡ b
some_one a b e = cc

running_committed : (m : ℕ) → Running ≡ Committed m → ⊥
running_committed m e = cc

running_aborted : Running ≡ Aborted → ⊥
running_aborted e = cc

-- two documents of one item that have their slot are one
pub same_doc : (P : Pages) (d e : Doc) (h k : Head) → Has P d h → Has P e k → d.item ≡ e.item → (d ≡ e) × (h ≡ k)
same_doc P d e h k a b i =
    let one : h ≡ k = some_one h k (sym a.at ∙ ap (head_of P) i ∙ b.at) in
    (ap₂ doc_at i (sym a.serial ∙ ap (λ (z : Head). z.serial) one ∙ b.serial), one)

-- a document was indexed before a record, or is so after it
pub was_indexed : (R : Log) (r : Record) (Q : Pages) (d : Doc) → Shows (r ∷ R) Q → WasIndexed (r ∷ R) d → IsIndexed Q d
    ⊎ WasIndexed R d
was_indexed R r Q d shown w = go w.later w.goes_on
  where
    go : (later : Log) → r ∷ R ≡ later ++ w.then → IsIndexed Q d ⊎ WasIndexed R d
    go [] e = inl (subst (λ (S : Pages). IsIndexed S d) (shown_one (r ∷ R) w.pages Q
        (subst (λ (S : Log). Shows S w.pages) (sym e) w.shown) shown) w.indexed)
    go (s ∷ later) e =
        let rest : R ≡ later ++ w.then = cc in
        inr (record {
          later = later;
          then = w.then;
          goes_on = rest;
          pages = w.pages;
          shown = w.shown;
          indexed = w.indexed;
        })

module _ (n : ℕ) (R : Log) (P : Pages) (D : HeadsKept n R P) where
  -- a document that has its slot was placed by its head's xid
  pub placed_by_head : (d : Doc) (h : Head) → Has P d h → In d (placed R h.inserted_by)
  placed_by_head d h has = subst (λ (s : ℕ). In (doc_at d.item s) (placed R h.inserted_by)) has.serial
      (D.inserted d.item h has.at)

  -- a document whose transaction runs isn't dead
  pub runs_alive : (d : Doc) (h : Head) → Has P d h → fate R h.inserted_by ≡ Running → IsDead R n d → ⊥
  runs_alive d h has run (IsDead.insert_aborted x e p) =
      running_aborted (sym run ∙ ap (fate R) (D.once h.inserted_by x d d (placed_by_head d h has) p refl).0 ∙ e)
  runs_alive d h has run (IsDead.delete_counted x k e l p) =
      let c = D.marked_committed x d p in
      running_committed c.1 (sym run ∙ ap (fate R) (D.once h.inserted_by c.0 d d (placed_by_head d h has) c.2 refl).0
      ∙ c.3)

module _ (n level : ℕ) (R : Log) (P Q : Pages) (r : Record) (floor since : ℕ) (D : HeadsKept n R P) (low : level ≤ n)
    (row : RuleHolds R P Q r floor since) (H : HeadStep R P Q r floor) (E : Effects R P Q level)
    (X : AreIndexed n R P) where
  under : (d : Doc) → IsDead R level d → IsDead R n d
  under d dead = dead_more R level n d low dead

  -- what keeps a document: it isn't dead, or has a linked row
  abbrev Kept : Doc → Type 0
  Kept d = (IsDead R n d → ⊥) ⊎ HasRow P d.item

  main_on : (d : Doc) (h : Head) → Has P d h → Kept d → (v : Vector) → AllMain P d.item v → AllMain Q d.item v
  main_on d h has keep v all k m = elim (E.main k d.item (all k m)) [
    | inl now ↦ now
    | inr leave ↦
        let same = same_doc P leave.doc d leave.head h leave.has has leave.item in
        absurd (elim keep [
          | inl alive ↦ alive (under d (subst (λ (z : Doc). IsDead R level z) same.0 leave.dead))
          | inr linked ↦ leave.no_row linked
        ])
  ]

  pending_on : (d : Doc) (ks : List Key) → ((k : Key) → In k ks → Pending P k d.item) → ((k : Key) → In k ks
      → Pending Q k d.item) ⊎ Moved P d.item
  pending_on d [] all = inl (λ k m. absurd m)
  pending_on d (k ∷ ks) all = elim (E.pending k d.item (all k (inl refl))) [
    | inr moved ↦ inr moved
    | inl now ↦ elim (pending_on d ks (λ j m. all j (inr m))) [
      | inr moved ↦ inr moved
      | inl rest ↦ inl (λ j m. elim m [
        | inl e ↦ subst (λ (z : Key). Pending Q z d.item) (sym e) now
        | inr t ↦
            rest j t
      ])
    ]
  ]

  step_on : (d : Doc) → Kept d → IsIndexed P d → IsIndexed Q d
  step_on d keep x =
      let h = x.whole.0 in
      let has = x.whole.1 in
      let whole = x.whole.2 in
      elim (E.whole d h x.vector has whole) [
        | inr gone ↦ absurd (elim keep [ inl alive ↦ alive (under d gone.0) | inr linked ↦ gone.1.no_row linked ])
        | inl now ↦ record {
          vector = x.vector;
          whole = now;
          there = elim x.there [
            | inr main ↦ inr (main_on d h has keep x.vector main)
            | inl pending ↦ elim (pending_on d (keys_of x.vector) pending) [
              | inl on ↦ inl on
              | inr moved ↦
                  let same = same_doc P moved.doc d moved.head h moved.has has moved.item in
                  let v : moved.vector ≡ x.vector = whole_one P h moved.vector x.vector
                  (subst (λ (z : Head). IsWhole P z moved.vector) same.1 moved.whole) whole in
                  inr (main_on d h has keep x.vector (subst₂ (λ (i : ℕ) (u : Vector). AllMain P i u) moved.item v
                  moved.main))
            ]
          ];
        }
      ]

  -- a document that was placed before the record had its slot before it
  head_before : (d : Doc) → WasIndexed R d → (h' : Head) → Has Q d h' → (h : Head) × Has P d h
  head_before d was h' has = elim (heads_back R P Q r floor H d.item h' has.at) [
    | inl w ↦ (w.head, record { at = w.at; serial = sym w.serial ∙ has.serial })
    | inr w ↦
        let p = X.placed d was in
        absurd (bad d.serial (next_serial R) h'.serial (D.serials p.0 d p.1) (places_doc R P Q r floor since row d.item
        h'.serial w.kind_is).next (sym has.serial))
  ]
    where
      bad : (a b c : ℕ) → a < b → c ≡ b → a ≡ c → ⊥
      bad a b c x y z = omega (arith, x, y, z)

  -- before the record it was kept as well
  kept_before : (d : Doc) → WasIndexed R d → MustBeIndexed (r ∷ R) Q n d → Kept d × IsIndexed P d
  kept_before d was (inl alive) =
      let now : IsDead R n d → ⊥ = λ z. alive (dead_stays R r D.xids (fate_step R P Q r floor since D.xids row) n d
      z) in
      (inl now, X.stays d was (inl now))
  kept_before d was (inr there) =
      let old = head_before d was there.0 there.1 in
      elim (E.rows d.item there.2) [
        | inr new ↦
            let same = same_doc P new.doc d new.head old.0 new.has old.1 new.item in
            let now : IsDead R n d → ⊥ = runs_alive n R P D d old.0 old.1 (ap (λ (z : Head). fate R z.inserted_by)
            (sym same.1) ∙ new.runs) in
            (inl now, X.stays d was (inl now))
        | inl linked ↦ (inr linked, X.stays d was (inr (old.0, old.1, linked)))
      ]

  pub indexed_follows : Shows (r ∷ R) Q → HeadsKept n (r ∷ R) Q → AreIndexed n (r ∷ R) Q
  indexed_follows shown D' = record {
    stays = λ d was wanted. elim (was_indexed R r Q d shown was) [
      | inl now ↦ now
      | inr before ↦ let k = kept_before d before wanted in step_on d k.0 k.1
    ];
    placed = λ d was. elim (was_indexed R r Q d shown was) [
      | inl now ↦ (now.whole.0.inserted_by, placed_by_head n (r ∷ R) Q D' d now.whole.0 now.whole.1)
      | inr before ↦ let p = X.placed d before in (p.0, placed_on r R p.0 d p.1)
    ];
  }
