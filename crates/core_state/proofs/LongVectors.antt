-- A document of a snapshot has one chain of overflow pages, from its commit on, and each page of it stays as it is.
use Rattle.std.proofs.Common.{◌≡◌, ◌⊎◌, ◌≤◌, ◌<◌, ◌+◌, ◌-◌, ℕ, suc, List, [], ◌∷◌, ◌++◌, length, take, drop, refl}
use Rattle.std.proofs.Common.{sym, ap, subst, ◌∙◌, inl, inr, arith}
use Rattle.std.specs.Prelude.{Some, None}
use Rattle.std.proofs.lemmas.List.{take-append-drop, drop-drop}
use Rattle.ts_base.specs.Vectors.{Vector}
use Rattle.page_types.specs.Numbers.{most_short}
use Rattle.page_types.specs.declared.page.Page.{Page}
use Rattle.page_types.specs.declared.page.Head.{Head}
use Rattle.page_types.specs.declared.record.Record.{Record}
use Rattle.page_types.specs.declared.record.Kind.TheVariants as kind
use Rattle.core_state.specs.Log.{Log, Pages, In, Shows, changed, cut}
use Rattle.core_state.specs.Documents.{Doc, Has, HasBytes, IsChain, IsWhole, IsDead, head_of, name_of, doc_at}
use Rattle.core_state.specs.History.{Document, History, IsHistory, IsStored, docs}
use Rattle.core_state.specs.Legal.{IsLegal, RuleHolds, RecordsAreValid, Pin, Keeps, KeepsEach}
use Rattle.core_state.specs.Steady.{SameChain}
use Rattle.core_state.specs.Inner.ItemChains.{AreOverflows}
use Rattle.core_state.specs.Inner.PageKinds.{Touched}
use Rattle.core_state.proofs.Showing.{shown_one, none_yet, shown_none}
use Rattle.core_state.proofs.PageLists.{same_or_not}
use Rattle.core_state.proofs.Chains.{chain_kept}
use Rattle.core_state.proofs.ChainFrames.{whole_kept, drop_gone, not_put, overflow_chain_stays}
use Rattle.core_state.proofs.FateSteps.{dead_more}
use Rattle.core_state.proofs.HeadSteps.{HeadStep}
use Rattle.core_state.proofs.Histories.{chain_one}
use Rattle.core_state.proofs.PlacedOnce.{one_named}
use Rattle.core_state.proofs.RunningOnes.{below_or_past}
use Rattle.core_state.proofs.StaysIndexed.{same_doc}
use Rattle.core_state.proofs.SteadyPages.{touches, elsewhere, valid_behind}
use Rattle.core_state.proofs.SteadyEnds.{heads_step}
use Rattle.core_state.proofs.Visible.{visible}
use Rattle.core_state.proofs.LawsHold.{documents}
use Rattle.core_state.proofs.Law.AllCases.{all_steps}
use Rattle.core_state.proofs.Law.ChainsStay.{overflows}
use Rattle.core_state.proofs.Law.Runs.{pin_run}
use Rattle.core_state.proofs.Law.SnapshotsStay.{behind_cut, keeps_behind, alive, alive_before}

-- a head with the bytes and the first overflow page of another, whose chain is as it was
pub record KeepsLong (P Q : Pages) (h k : Head) : Type 0 where
  pub overflow : k.overflow ≡ h.overflow
  pub bytes : k.bytes ≡ h.bytes
  pub chain : SameChain P Q h.overflow

-- the document has such a head, with its vector
pub record StaysLong (P Q : Pages) (d : Doc) (h : Head) (v : Vector) : Type 0 where
  pub head : Head
  pub has : Has Q d head
  pub whole : IsWhole Q head v
  pub keeps : KeepsLong P Q h head

stays_same : (P : Pages) (d : Doc) (h : Head) (v : Vector) → Has P d h → IsWhole P h v → StaysLong P P d h v
stays_same P d h v has whole = record {
  head = h;
  has = has;
  whole = whole;
  keeps = record { overflow = refl; bytes = refl; chain = λ qs c. (c, λ q i. refl) };
}

same_chains : (P Q S : Pages) (p q : ℕ) → q ≡ p → SameChain P Q p → SameChain Q S q → SameChain P S p
same_chains P Q S p q e a b qs c =
    let one = a qs c in
    let two = b qs (subst (λ (z : ℕ). IsChain Q z qs) (sym e) one.0) in
    (subst (λ (z : ℕ). IsChain S z qs) e two.0, λ x i. two.1 x i ∙ one.1 x i)

stays_on : (P Q S : Pages) (d : Doc) (h : Head) (v : Vector) (a : StaysLong P Q d h v) → StaysLong Q S d a.head v
    → StaysLong P S d h v
stays_on P Q S d h v a b = record {
  head = b.head;
  has = b.has;
  whole = b.whole;
  keeps = record {
    overflow = b.keeps.overflow ∙ a.keeps.overflow;
    bytes = b.keeps.bytes ∙ a.keeps.bytes;
    chain = same_chains P Q S h.overflow a.head.overflow a.keeps.overflow a.keeps.chain b.keeps.chain;
  };
}

none_some : (h : Head) → None ≡ Some h → ⊥
none_some h e = cc

same_some : (h k : Head) → Some h ≡ Some k → h ≡ k
same_some h k e = cc

-- ── over one record ──

module _ (R : Log) (P Q : Pages) (r : Record) (floor since : ℕ) (row : RuleHolds R P Q r floor since)
    (touch : (p : ℕ) → In p (changed r) → Touched P Q r since p) (away : (q : ℕ) → (In q (changed r) → ⊥) → Q q ≡ P q)
    (On : ℕ → ℕ → Type 0) (O : AreOverflows P On) where
  abbrev pub Stays : Doc → Head → Vector → Type 0
  Stays d h v = StaysLong P Q d h v ⊎ IsDead R floor d

  same_head : (d : Doc) (h k : Head) (v : Vector) → Has P d h → IsWhole P h v → Has Q d k → k.bytes ≡ h.bytes
      → k.vector ≡ h.vector → k.overflow ≡ h.overflow → Stays d h v
  same_head d h k v has whole now bytes vector overflow =
      elim (overflow_chain_stays R P Q r floor since row touch away On O d h has) [
        | inr x ↦ inr x.gone.dead
        | inl stay ↦ inl (record {
          head = k;
          has = now;
          whole = whole_kept P Q h k bytes vector overflow v whole stay;
          keeps = record {
            overflow = overflow;
            bytes = bytes;
            chain = λ qs c. (
              chain_kept P Q h.overflow qs (λ q i. ap (λ (x : Page). x.right) (stay qs c q i)) c,
              stay qs c,
            );
          };
        })
      ]

  -- a whole document keeps its chain, or is dead
  pub long_stays : HeadStep R P Q r floor → (d : Doc) (h : Head) (v : Vector) → Has P d h → IsWhole P h v → Stays d h v
  long_stays (HeadStep.same s) d h v has whole =
      same_head d h h v has whole (record { at = s d.item ∙ has.at; serial = has.serial }) refl refl refl
  long_stays (HeadStep.placed e k kd free now new rest) d h v has whole = elim (same_or_not e.item d.item) [
    | inl w ↦ absurd (none_some h (sym free ∙ ap (head_of P) (sym w) ∙ has.at))
    | inr w ↦
        same_head d h h v has whole (record { at = rest d.item w ∙ has.at; serial = has.serial }) refl refl refl
  ]
  long_stays (HeadStep.turned e k k' old now t rest) d h v has whole = elim (same_or_not e.item d.item) [
    | inr w ↦
        same_head d h h v has whole (record { at = rest d.item w ∙ has.at; serial = has.serial }) refl refl refl
    | inl w ↦
        let same = same_doc P e d k h old has (sym w) in
        let here : Has Q d k' = subst (λ (z : Doc). Has Q z k') same.0 now in
        elim t.overflow [
          | inl s ↦
              same_head d h k' v has whole here (t.bytes ∙ ap (λ (z : Head). z.bytes) same.1)
              (t.vector ∙ ap (λ (z : Head). z.vector) same.1) (s ∙ ap (λ (z : Head). z.overflow) same.1)
          | inr (inl put) ↦ absurd (not_put R P Q r floor since row d h v
              (subst (λ (z : Doc). r.kind ≡ kind.PutOverflow z.item z.serial) same.0 put) has whole)
          | inr (inr drop) ↦
              let x = drop_gone R P Q r floor since row d
              (subst (λ (z : Doc). r.kind ≡ kind.DropPage z.item z.serial) same.0 drop) in
              inr x.gone.dead
        ]
  ]
  long_stays (HeadStep.freed k each) d h v has whole = elim (each d.item) [
    | inl s ↦ same_head d h h v has whole (record { at = s ∙ has.at; serial = has.serial }) refl refl refl
    | inr f ↦
        let one : f.head ≡ h = same_some f.head h (sym f.was ∙ has.at) in
        let serial : f.head.serial ≡ d.serial = ap (λ (z : Head). z.serial) one ∙ has.serial in
        inr (subst (λ (s : ℕ). IsDead R floor (doc_at d.item s)) serial f.gone.dead)
  ]

-- ── over the records past a moment ──

module _ (pin : Pin) (d : Doc) (h : Head) (v : Vector) where
  -- a whole document that isn't dead keeps its chain
  pub long_behind : (later S : Log) (P Q : Pages) → RecordsAreValid (later ++ S) → KeepsEach pin (later ++ S)
      → (IsDead (later ++ S) pin.commits d → ⊥) → Shows S P → Shows (later ++ S) Q → Has P d h → IsWhole P h v
      → StaysLong P Q d h v
  long_behind [] S P Q valid k off shown shown' has whole =
      subst (λ (T : Pages). StaysLong P T d h v) (shown_one S P Q shown shown') (stays_same P d h v has whole)
  long_behind (r ∷ later) S P Q valid k off shown shown' has whole =
      let T : Log = later ++ S in
      let w = k.1 in
      let alive_then : IsDead T pin.commits d → ⊥ =
      λ dead. alive_before (r ∷ []) T pin.commits d valid off dead in
      let front = long_behind later S P w.2.before valid.0 k.0 alive_then shown w.2.shown has whole in
      let i = pin_run all_steps pin T k.0 w.2.before w.2.shown in
      elim (long_stays T w.2.before w.2.after r w.0 (suc (length T)) w.2.rule (touches T r w.0 (suc (length T)) w.2)
      (elsewhere T r w.0 (suc (length T)) w.2) _ (overflows pin.commits (length T) T w.2.before i.0 i.1)
      (heads_step T r w.0 (suc (length T)) w.2) d front.head v front.has front.whole) [
        | inl there ↦
            subst (λ (U : Pages). StaysLong P U d h v) (shown_one (r ∷ T) w.2.after Q w.2.shown_after shown')
            (stays_on P w.2.before w.2.after d h v front there)
        | inr dead ↦ absurd (alive_then (dead_more T w.0 pin.commits d w.1 dead))
      ]

-- ── a document of a snapshot ──

-- pages that a log shows
pub some_pages : (R : Log) → RecordsAreValid R → (P : Pages) × Shows R P
some_pages [] v = (none_yet, shown_none)
some_pages (r ∷ R) v = (v.1.after, v.1.shown_after)

-- a log at one length goes on to a later one
cut_later : (R : Log) (at at' : ℕ) → at ≤ at' → at' ≤ length R → (later : Log) × (cut at' R ≡ later ++ cut at R)
cut_later R at at' le within =
    let n : length R - at' + (at' - at) ≡ length R - at = omega (arith, le, within) in
    let e : drop (at' - at) (cut at' R) ≡ cut at R =
    drop-drop (at' - at) (length R - at') R ∙ ap (λ (k : ℕ). drop k R) n in (
      take (at' - at) (cut at' R),
      sym (take-append-drop (at' - at) (cut at' R)) ∙ ap (λ (S : Log). take (at' - at) (cut at' R) ++ S) e,
    )

module _ (R : Log) (pin : Pin) (H : History) (D : Document) (legal : IsLegal R) (keeps : Keeps R pin)
    (history : IsHistory R H) (there : In D (docs (take pin.commits H))) where
  -- it isn't dead
  not_dead : (later S : Log) → R ≡ later ++ S → (d : Doc) → D.name ≡ name_of d → IsDead S pin.commits d → ⊥
  not_dead later S e d name dead =
      let P = some_pages R legal.valid in
      let V = visible R H pin.commits D legal.valid history there in
      let one : d ≡ V.inserted.doc = one_named d V.inserted.doc (sym name ∙ V.inserted.named) in
      let valid = subst RecordsAreValid e legal.valid in
      let now : IsDead S pin.commits V.inserted.doc = subst (IsDead S pin.commits) one dead in
      let off : IsDead (later ++ S) pin.commits V.inserted.doc → ⊥ =
      λ z. alive R pin.commits D P.0 legal.valid P.1 V
      (subst (λ (T : Log). IsDead T pin.commits V.inserted.doc) (sym e) z) in
      alive_before later S pin.commits V.inserted.doc valid off now

  -- it is in the pages of each length from the pin's on
  pub stored_at : (at : ℕ) (P : Pages) → pin.length ≤ at → at ≤ length R → Shows (cut at R) P → IsStored P D
  stored_at at P since within shown =
      let Q = some_pages R legal.valid in
      (documents R Q.0 legal Q.1).snapshot_stays pin keeps H D at P history there since within shown

  -- a head of it has its vector
  pub head_whole : (at : ℕ) (P : Pages) (d : Doc) (h : Head) → pin.length ≤ at → at ≤ length R → Shows (cut at R) P
      → D.name ≡ name_of d → Has P d h → IsWhole P h D.vector
  head_whole at P d h since within shown name has =
      let s = stored_at at P since within shown in
      let one : s.doc ≡ d = one_named s.doc d (sym s.name ∙ name) in
      let same = same_doc P s.doc d s.head h s.has has (ap (λ (z : Doc). z.item) one) in
      subst (λ (z : Head). IsWhole P z D.vector) same.1 s.content

  -- at a later length its head has the same bytes on the same chain, whose pages are as they were
  long_later : (at at' : ℕ) (P P' : Pages) (d d' : Doc) (h h' : Head) → pin.length ≤ at → at ≤ at'
      → at' ≤ length R → Shows (cut at R) P → Shows (cut at' R) P' → D.name ≡ name_of d → D.name ≡ name_of d'
      → Has P d h → Has P' d' h' → KeepsLong P P' h h'
  long_later at at' P P' d d' h h' since le within shown shown' name name' has has' =
      let whole = head_whole at P d h since (omega (arith, le, within)) shown name has in
      let c = cut_later R at at' le within in
      let b = behind_cut R at' in
      let valid = valid_behind b.0 (cut at' R) (subst RecordsAreValid b.1 legal.valid) in
      let each = keeps_behind pin b.0 (cut at' R) (subst (KeepsEach pin) b.1 keeps.each) in
      let one : d' ≡ d = one_named d' d (sym name' ∙ name) in
      let f = long_behind pin d h D.vector c.0 (cut at R) P P' (subst RecordsAreValid c.1 valid)
      (subst (KeepsEach pin) c.1 each)
      (λ dead. not_dead b.0 (cut at' R) b.1 d name (subst (λ (S : Log). IsDead S pin.commits d) (sym c.1) dead))
      shown (subst (λ (S : Log). Shows S P') c.1 shown') has whole in
      let same = same_doc P' d d' f.head h' f.has has' (ap (λ (z : Doc). z.item) (sym one)) in
      subst (KeepsLong P P' h) same.1 f.keeps

  -- so it is at any two lengths from the pin's on
  pub long_kept : (at at' : ℕ) (P P' : Pages) (d d' : Doc) (h h' : Head) → pin.length ≤ at → at ≤ length R
      → pin.length ≤ at' → at' ≤ length R → Shows (cut at R) P → Shows (cut at' R) P' → D.name ≡ name_of d
      → D.name ≡ name_of d' → Has P d h → Has P' d' h' → most_short < h.bytes → KeepsLong P P' h h'
  long_kept at at' P P' d d' h h' since within since' within' shown shown' name name' has has' long =
      elim (below_or_past at' at) [
        | inr le ↦ long_later at at' P P' d d' h h' since le within' shown shown' name name' has has'
        | inl lt ↦
            let k = long_later at' at P' P d' d h' h since' (omega (arith, lt)) within shown' shown name' name has' has
            in
            let bytes : h'.bytes ≡ h.bytes = sym k.bytes in
            let c = has_chain P' h' D.vector (head_whole at' P' d' h' since' within' shown' name' has')
            (omega (arith, bytes, long)) in
            record {
              overflow = sym k.overflow;
              bytes = bytes;
              chain = λ qs is. turned P P' h.overflow h'.overflow (sym k.overflow) c.0 c.1 (k.chain c.0 c.1) qs is;
            }
      ]
    where
      -- the chain of a long vector
      has_chain : (P : Pages) (h : Head) (v : Vector) → IsWhole P h v → most_short < h.bytes → (qs : List ℕ)
          × IsChain P h.overflow qs
      has_chain P h v w long = by w.bytes w.there
        where
          by : (bs : List ℕ) → HasBytes P h bs → (qs : List ℕ) × IsChain P h.overflow qs
          by bs (HasBytes.short s) = absurd (omega (arith, s, long))
          by bs (HasBytes.long l qs c) = (qs, c)

      turned : (P P' : Pages) (p p' : ℕ) → p' ≡ p → (cs : List ℕ) → IsChain P' p' cs
          → IsChain P p' cs × ((q : ℕ) → In q cs → P q ≡ P' q) → (qs : List ℕ) → IsChain P p qs
          → IsChain P' p qs × ((q : ℕ) → In q qs → P' q ≡ P q)
      turned P P' p p' e cs there same qs is =
          let one : cs ≡ qs = chain_one P p cs qs (subst (λ (z : ℕ). IsChain P z cs) e same.0) is in (
            subst (λ (zs : List ℕ). IsChain P' p zs) one (subst (λ (z : ℕ). IsChain P' z cs) e there),
            λ q i. sym (same.1 q (subst (In q) (sym one) i)),
          )
