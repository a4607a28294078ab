-- What is taken of a long vector that was read.
use Rattle.std.proofs.Common.{◌≡◌, ◌≢◌, ℕ, List, [], ◌∷◌, ◌++◌, take, refl, sym, ap, subst}
use Rattle.std.proofs.Common.{◌∙◌, inl, inr, AllPairs, append_assoc}
use Rattle.std.proofs.lemmas.List.Kept.{AllPairs-cons}
use Rattle.ts_base.specs.Vectors.{Vector}
use Rattle.page_types.specs.declared.page.Name.{Name}
use Rattle.core_state.specs.Log.{Log, In}
use Rattle.core_state.specs.History.{Document, History, docs}
use Rattle.core_state.specs.Legal.{Pin}
use Rattle.core_state.proofs.PageLists.{in_front, in_back, in_either}
use Rattle.gin_scan.specs.Taking.{IsAmong, IsLongOf, AreTaken, names_of}
use Rattle.gin_scan.specs.declared.stage.LongVector.{LongVector}
use Rattle.gin_scan.proofs.TakingMore.{in_all, head_apart, tail_apart}

-- ── what is taken ──

module _ (P : Vector → Type 0) (R : Log) (pin : Pin) (H : History)
    (one_serial : (d e : Document) → In d (docs (take pin.commits H)) → In e (docs (take pin.commits H))
    → d.name.serial ≡ e.name.serial → d ≡ e) where
  abbrev Taken : List ℕ → List Name → List LongVector → Type 0
  Taken items ns ws = AreTaken P R pin H items ns ws

  joined : (ns : List Name) (l : LongVector) (ws : List LongVector)
      → (ns ++ l.name ∷ []) ++ names_of ws ≡ ns ++ names_of (l ∷ ws)
  joined ns l ws = append_assoc ns (l.name ∷ []) (names_of ws)

  -- the vector that waits first satisfies the query
  pub yes_taken : (items : List ℕ) (ns : List Name) (l : LongVector) (ws : List LongVector) → Taken items ns (l ∷ ws)
      → ((d : Document) → In d (docs (take pin.commits H)) → IsLongOf R pin d l → P d.vector)
      → Taken items (ns ++ l.name ∷ []) ws
  yes_taken items ns l ws t holds = record {
    found = λ n m. elim (in_either n ns (l.name ∷ []) m) [
      | inl i ↦ t.found n i
      | inr (inl e) ↦ let f = t.waits l (inl refl) in (f.0, f.1, sym f.2.name ∙ sym e, holds f.0 f.1.there f.2)
      | inr (inr i) ↦ absurd i
    ];
    waits = λ v i. t.waits v (inr i);
    all = λ d a p. subst (In d.name) (sym (joined ns l ws)) (t.all d a p);
    once = subst (AllPairs (λ (a b : Name). a.serial ≢ b.serial)) (sym (joined ns l ws)) t.once;
  }

  dropped : (ns : List Name) (n : Name) (ms : List Name) → AllPairs (λ (a b : Name). a.serial ≢ b.serial) (ns ++ n ∷ ms)
      → AllPairs (λ (a b : Name). a.serial ≢ b.serial) (ns ++ ms)
  dropped [] n ms h = tail_apart n ms h
  dropped (k ∷ ns) n ms h =
      AllPairs-cons (λ (a b : Name). a.serial ≢ b.serial) k (ns ++ ms)
      (in_all (λ (b : Name). k.serial ≢ b.serial) (ns ++ ms) (λ m i. head_apart k (ns ++ n ∷ ms) h m
      (elim (in_either m ns ms i) [
        | inl j ↦ in_front m ns (n ∷ ms) j
        | inr j ↦ in_back m ns (n ∷ ms) (inr j)
      ])))
      (dropped ns n ms (tail_apart k (ns ++ n ∷ ms) h))

  -- it doesn't
  pub no_taken : (items : List ℕ) (ns : List Name) (l : LongVector) (ws : List LongVector) → Taken items ns (l ∷ ws)
      → ((d : Document) → In d (docs (take pin.commits H)) → IsLongOf R pin d l → P d.vector → ⊥)
      → Taken items ns ws
  no_taken items ns l ws t off = record {
    found = t.found;
    waits = λ v i. t.waits v (inr i);
    all = λ d a p. elim (in_either d.name ns (l.name ∷ names_of ws) (t.all d a p)) [
      | inl i ↦ in_front d.name ns (names_of ws) i
      | inr (inr i) ↦ in_back d.name ns (names_of ws) i
      | inr (inl e) ↦ absurd (wrong d a p e)
    ];
    once = dropped ns l.name (names_of ws) t.once;
  }
    where
      wrong : (d : Document) → IsAmong H pin.commits items d → P d.vector → d.name ≡ l.name → ⊥
      wrong d a p e =
          let f = t.waits l (inl refl) in
          let same : d ≡ f.0 = one_serial d f.0 a.there f.1.there (ap (λ (n : Name). n.serial) (e ∙ f.2.name)) in
          off f.0 f.1.there f.2 (subst (λ (z : Document). P z.vector) same p)
