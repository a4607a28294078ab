-- After a page of rows is put, its document's head leads to it, and it to those that the head led to.
use Rattle.std.proofs.Common.{◌≡◌, ◌≢◌, ℕ, suc, List, [], ◌∷◌, length, refl, sym, ap, subst, subst₂, ◌∙◌, inl, inr}
use Rattle.ts_base.specs.Vectors.{Vector}
use Rattle.page_types.specs.declared.page.Page.{Page}
use Rattle.page_types.specs.declared.page.Head.{Head}
use Rattle.page_types.specs.declared.record.Record.{Record}
use Rattle.page_types.specs.declared.record.Kind.TheVariants as kind
use Rattle.core_state.specs.Log.{Log, Pages, In, changed, commits, fate}
use Rattle.core_state.specs.Documents.{Doc, Has, IsChain, IsWhole, IsDead, page_of}
use Rattle.core_state.specs.Index.{HasRow}
use Rattle.core_state.specs.PendingRules.{IsPutPending}
use Rattle.core_state.specs.Legal.{Valid, RecordsAreValid}
use Rattle.core_state.specs.PendingSteps.{RowsInFront, PutIsInFront}
use Rattle.core_state.specs.Inner.PageKinds.{IsMeta, ChangesLine}
use Rattle.core_state.specs.Inner.Ghosts.{Place, Ghost}
use Rattle.core_state.specs.Inner.Ghosts.Place.{meta, private_of}
use Rattle.core_state.specs.Inner.Kinds.{Fits}
use Rattle.core_state.specs.Inner.ItemChains.{ArePrivates}
use Rattle.core_state.proofs.Showing.{shown_one}
use Rattle.core_state.proofs.Histories.{chain_one, head_one}
use Rattle.core_state.proofs.PageLists.{two_pages}
use Rattle.core_state.proofs.RulesByKind.{kind_rule}
use Rattle.core_state.proofs.HeadChanges.{same_second}
use Rattle.core_state.proofs.HeadSteps.{HeadTurned, rows_turned}
use Rattle.core_state.proofs.Chains.{chain_kept}
use Rattle.core_state.proofs.ChainFrames.{pending_stays}
use Rattle.core_state.proofs.ChainSteps.{new_not_zero}
use Rattle.core_state.proofs.StaysIndexed.{runs_alive}
use Rattle.core_state.proofs.LinkedHeads.{same_put}
use Rattle.core_state.proofs.Law.Invariant.{Inv}
use Rattle.core_state.proofs.Law.Steps.{StepHolds, Left}
use Rattle.core_state.proofs.Law.SamePages.{not_first}
use Rattle.core_state.proofs.Law.ChainsStay.{privates}
use Rattle.core_state.proofs.Law.RowFrames.{rows_same}
use Rattle.core_state.proofs.Law.NowIndexed.{held_before, leaves}

module _ (n L : ℕ) (R : Log) (P Q : Pages) (r : Record) (since : ℕ) (g : Ghost) (v : Inv n L R P g)
    (l : Left n since R P Q r) (some : R ≢ []) (x : IsPutPending R P Q r since) where
  abbrev item : ℕ
  item = x.here.doc.item

  abbrev then : Head
  then = record x.here.head { private = x.here.new }

  pub turned : HeadTurned P Q x.here.doc x.here.head then
  turned = rows_turned R P Q r n since l.touched l.elsewhere x

  mine : ArePrivates P g.line (λ i q. g.place q ≡ private_of i)
  mine = privates n L R P g v

  module _ (chain : List ℕ) (c : IsChain P x.here.head.private chain) where
    on_chain : (q : ℕ) → In q chain → g.place q ≡ private_of item
    on_chain q i =
        let k = mine.chains.some item x.here.head turned.was.at in
        (k.on q).0 (subst (In q) (chain_one P x.here.head.private chain k.pages c k.is_chain) i)

    same : (q : ℕ) → In q chain → Q q ≡ P q
    same q i =
        let at = on_chain q i in
        elim (pending_stays P Q r since l.touched l.elsewhere q (mine.fits item q at) g.line mine.is_line
        (mine.apart item q at)) [
          | inl e ↦ e
          | inr f ↦
              let z : kind.PutPending item x.here.doc.serial ≡ kind.DropPage f.doc.item f.doc.serial =
              sym x.here.kind_is ∙ f.kind_is in
              absurd (cc)
        ]

    is_chain : IsChain Q (Q x.here.new).right chain
    is_chain =
        let link = ap (λ (p : Page). p.right) (two_pages Q (changed r) (page_of item) x.here.new x.here.heap_then _
        x.here.pages x.here.after_is).1 in
        subst (λ (z : ℕ). IsChain Q z chain) (sym link)
        (chain_kept P Q x.here.head.private chain (λ q i. ap (λ (p : Page). p.right) (same q i)) c)

  some_new : x.here.new ≢ 0
  some_new =
      let f : Fits L meta (P 0) = subst (λ (y : Place). Fits L y (P 0)) (v.starts.page_0 some) (v.kinds 0) in
      new_not_zero P since x.here.new (subst IsMeta (sym f.3) tt) x.here.is_new

  alive : IsDead R n x.here.doc → ⊥
  alive = runs_alive n R P v.heads x.here.doc x.here.head turned.was (ap (fate R) x.here.own.by ∙ x.here.own.runs)

  whole : (w : Vector) → IsWhole P x.here.head w → IsWhole Q then w
  whole w is = elim (l.whole x.here.doc x.here.head w turned.was is) [
    | inl now ↦ subst (λ (k : Head). IsWhole Q k w) (head_one Q x.here.doc now.0 then now.1 turned.is) now.2
    | inr gone ↦ absurd (alive gone.0)
  ]

  no_row : (HasRow P item → ⊥) → HasRow Q item → ⊥
  no_row off k = off (record {
    row = k.row;
    linked = (rows_same n L R P Q r since g v some l.touched l.elsewhere (λ e.
        let z : kind.PutPending item x.here.doc.serial ≡ kind.Create = sym x.here.kind_is ∙ e in cc)
        (λ z. subst ChangesLine x.here.kind_is z) k.row).1 k.linked;
    item = k.item;
  })

  pub in_front : (chain : List ℕ) → IsChain P x.here.head.private chain
      → RowsInFront P Q x.here.doc x.here.head chain x.here.new
  in_front chain c = record {
    has = turned.is;
    is_chain = (refl, some_new, is_chain chain c);
    same = same chain c;
    whole = whole;
    no_row = no_row;
  }

-- of the document, its head and the page that are known
module _ (step : StepHolds) (R : Log) (r : Record) (valid : RecordsAreValid R)
    (u : Valid R r (commits R) (suc (length R))) (d : Doc) (h : Head) (chain : List ℕ) (new : ℕ)
    (is : r.kind ≡ kind.PutPending d.item d.serial) (pages : changed r ≡ page_of d.item ∷ new ∷ [])
    (has : Has u.before d h) (c : IsChain u.before h.private chain) where
  put_known : RowsInFront u.before u.after d h chain new
  put_known =
      let n = commits R in
      let L = length R in
      let x : IsPutPending R u.before u.after r (suc L) = kind_rule R u.before u.after r n (suc L) _ is u.rule in
      let some = not_first R r (kind.PutPending d.item d.serial) u.started is (λ f. cc) in
      let g = held_before step R r valid u in
      let l = leaves step R r valid u in
      let was = (turned n L R u.before u.after r (suc L) g.0 g.1 l some x).was in
      let doc : x.here.doc ≡ d = same_put x.here.doc d r.kind x.here.kind_is is in
      let head : x.here.head ≡ h = head_one u.before d x.here.head h
      (subst (λ (z : Doc). Has u.before z x.here.head) doc was) has in
      let page : x.here.new ≡ new = same_second r (page_of d.item) x.here.new new
      (subst (λ (z : Doc). changed r ≡ page_of z.item ∷ x.here.new ∷ []) doc x.here.pages) pages in
      let front = in_front n L R u.before u.after r (suc L) g.0 g.1 l some x chain
      (subst (λ (z : Head). IsChain u.before z.private chain) (sym head) c) in
      subst (λ (z : ℕ). RowsInFront u.before u.after d h chain z) page
      (subst (λ (z : Head). RowsInFront u.before u.after d z chain x.here.new) head
      (subst (λ (z : Doc). RowsInFront u.before u.after z x.here.head chain x.here.new) doc front))

pub put_in_front : StepHolds → PutIsInFront
put_in_front step R r P Q d h chain new legal shown shown' is pages has c =
    let u = legal.valid.1 in
    let was : u.before ≡ P = shown_one R u.before P u.shown shown in
    let now : u.after ≡ Q = shown_one (r ∷ R) u.after Q u.shown_after shown' in
    subst₂ (λ (S T : Pages). RowsInFront S T d h chain new) was now
    (put_known step R r legal.valid.0 u d h chain new is pages
    (subst (λ (S : Pages). Has S d h) (sym was) has)
    (subst (λ (S : Pages). IsChain S h.private chain) (sym was) c))
