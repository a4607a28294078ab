-- What a scan at its end has found.
use Rattle.std.proofs.Common.{◌≡◌, ◌≢◌, ◌⊎◌, ℕ, zero, suc, ◌<◌, Bool, List, [], ◌∷◌, length, map, take, append-nil}
use Rattle.std.proofs.Common.{sym, ap, subst, ◌∙◌, inl, inr, arith, slice_index_or}
use Rattle.std.proofs.lemmas.List.{take_all, drop_all}
use Rattle.page_types.specs.declared.page.Name.{Name}
use Rattle.core_state.specs.Log.{Log, In}
use Rattle.core_state.specs.History.{Document, History, IsHistory, docs}
use Rattle.core_state.specs.Legal.{IsLegal, Pin, Keeps}
use Rattle.core_state.proofs.SnapshotOrder.{RiseBy, serial_of}
use Rattle.core_state.proofs.RunningOnes.{same_or_other}
use Rattle.gin_opclass.specs.Class.{Meaning, JudgeIsSound}
use Rattle.core_moments.specs.Law.{FindsAll}
use Rattle.core_moments.proofs.Moments.{law_holds}
use Rattle.gin_scan.specs.Finding.{IsFound}
use Rattle.gin_scan.specs.Taking.{item_of, AreTaken, first_items}
use Rattle.gin_scan.specs.Scanning.{HasJudged, HasTaken}
use Rattle.gin_scan.specs.declared.scan_core.ScanCore.{ScanCore}
use Rattle.gin_scan.proofs.FoundNames.{of_name, found_of}

-- an item is among these or it isn't
pub item_or_not : (i : ℕ) (is : List ℕ) → In i is ⊎ (In i is → ⊥)
item_or_not i [] = inr (λ m. m)
item_or_not i (j ∷ is) = elim (same_or_other i j) [
  | inl e ↦ inl (inl e)
  | inr off ↦ elim (item_or_not i is) [
    | inl m ↦ inl (inr m)
    | inr out ↦ inr (λ m. elim m [ inl e ↦ off e | inr n ↦ out n ])
  ]
]

name_same : (a b : Name) → a.page ≡ b.page → a.slot ≡ b.slot → a.serial ≡ b.serial → a ≡ b
name_same a b e f g =
    ap (λ (p : ℕ). record { page = p; slot = a.slot; serial = a.serial }) e
    ∙ ap (λ (s : ℕ). record { page = b.page; slot = s; serial = a.serial }) f
    ∙ ap (λ (n : ℕ). record { page = b.page; slot = b.slot; serial = n }) g

name_or_not : (a b : Name) → (a ≡ b) ⊎ (a ≢ b)
name_or_not a b = elim (same_or_other a.page b.page) [
  | inr off ↦ inr (λ e. off (ap (λ (n : Name). n.page) e))
  | inl e ↦ elim (same_or_other a.slot b.slot) [
    | inr off ↦ inr (λ h. off (ap (λ (n : Name). n.slot) h))
    | inl f ↦ elim (same_or_other a.serial b.serial) [
      | inr off ↦ inr (λ h. off (ap (λ (n : Name). n.serial) h))
      | inl g ↦ inl (name_same a b e f g)
    ]
  ]
]

among_or_not : (a : Name) (ns : List Name) → In a ns ⊎ (In a ns → ⊥)
among_or_not a [] = inr (λ m. m)
among_or_not a (n ∷ ns) = elim (name_or_not a n) [
  | inl e ↦ inl (inl e)
  | inr off ↦ elim (among_or_not a ns) [
    | inl m ↦ inl (inr m)
    | inr out ↦ inr (λ m. elim m [ inl e ↦ off e | inr k ↦ out k ])
  ]
]

-- names that don't fall, and are apart, rise
at_place : (n : Name) (ns : List Name) → In n ns → (j : ℕ) × (j < length ns) × (slice_index_or ns j n ≡ n)
at_place n [] i = absurd i
at_place n (m ∷ ns) (inl e) = (zero, omega arith, sym e)
at_place n (m ∷ ns) (inr i) = let f = at_place n ns i in (suc f.0, omega (arith, f.1), f.2)

module _ {Q : Type 0} (M : Meaning Q) (S : JudgeIsSound M) (q : Q) (R : Log) (pin : Pin) (legal : IsLegal R)
    (keeps : Keeps R pin) (from : ℕ) (s : ScanCore) (judged : HasJudged M q R pin from s)
    (taken : HasTaken M q R pin s (length s.kept.items) (length s.long.items)) (H : History)
    (history : IsHistory R H) where
  finds : FindsAll M q H pin.commits judged.walk
  finds = law_holds M S R pin H q judged.walk legal keeps history judged.is_walk

  abbrev items : List ℕ
  items = map (λ (k : ℕ × Bool). k.0) s.kept.items

  all_taken : AreTaken (M.satisfies q) R pin H items s.names.items []
  all_taken =
      subst (λ (is : List ℕ). AreTaken (M.satisfies q) R pin H is s.names.items [])
      (ap (map (λ (k : ℕ × Bool). k.0)) (take_all (length s.kept.items) s.kept.items (omega arith)))
      (subst (λ ws. AreTaken (M.satisfies q) R pin H (first_items (length s.kept.items) s.kept.items) s.names.items ws)
      (drop_all (length s.long.items) s.long.items (omega arith)) (taken H history))

  decided : (d : Document) → In d (docs (take pin.commits H))
      → In d.name s.names.items ⊎ (M.satisfies q d.vector → ⊥)
  decided d there = elim (item_or_not (item_of d) items) [
    | inr out ↦ inr (λ p. out ((judged.kept.just (item_of d)).1 (finds.kept d there p)))
    | inl i ↦ elim (among_or_not d.name s.names.items) [
      | inl m ↦ inl m
      | inr out ↦ inr (λ p. out (subst (In d.name) (append-nil s.names.items)
          (all_taken.all d (record { there = there; item = i }) p)))
    ]
  ]

  -- the names are those of the documents that satisfy the query
  pub all_found : RiseBy serial_of (docs (take pin.commits H)) → RiseBy of_name s.names.items
      → IsFound (M.satisfies q) (docs (take pin.commits H)) s.names.items
  all_found rd rn =
      found_of (M.satisfies q) (docs (take pin.commits H)) s.names.items rd rn
      (λ n i. let f = all_taken.found n i in (f.0, f.1.there, f.2, f.3)) decided
