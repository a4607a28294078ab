-- A log has one history at most, and a legal one has one.
use Rattle.std.proofs.Common.{◌≡◌, ℕ, suc, List, [], ◌∷◌, ◌++◌, length, map, refl, sym, ap, ap₂, subst, ◌∙◌, inl, inr}
use Rattle.std.proofs.Common.{arith}
use Rattle.std.specs.Prelude.{Some}
use Rattle.ts_base.specs.Vectors.{Vector}
use Rattle.ts_base.proofs.Encoding.{encoding_tells_vector}
use Rattle.page_types.specs.declared.page.Head.{Head}
use Rattle.page_types.specs.declared.page.Name.{Name}
use Rattle.page_types.specs.declared.record.Record.{Record}
use Rattle.page_types.specs.declared.record.Kind.{Kind}
use Rattle.page_types.specs.declared.record.Kind.TheVariants as kind
use Rattle.core_state.specs.Log.{Log, Pages, In, Shows, commits}
use Rattle.core_state.specs.Documents.{Doc, Has, IsChain, HasBytes, IsWhole, HasVector, name_of, parts, placed, marked}
use Rattle.core_state.specs.History.{Document, Commit, History, AreInserts, IsCommitOf, IsHistoryWith, IsHistory}
use Rattle.core_state.specs.Legal.{RuleHolds, RecordsAreValid}
use Rattle.core_state.specs.Laws.{HistoryIsOne, LegalHasHistory}
use Rattle.core_state.proofs.Showing.{shown_one}

pub chain_one : (P : Pages) (p : ℕ) (qs qs' : List ℕ) → IsChain P p qs → IsChain P p qs' → qs ≡ qs'
chain_one P p [] [] a b = refl
chain_one P p [] (q ∷ qs') a b = absurd (b.1 (sym b.0 ∙ a))
chain_one P p (q ∷ qs) [] a b = absurd (a.1 (sym a.0 ∙ b))
chain_one P p (q ∷ qs) (q' ∷ qs') a b =
    let e : q ≡ q' = sym a.0 ∙ b.0 in
    ap₂ ◌∷◌ e (chain_one P (P q).right qs qs' a.2 (subst (λ z. IsChain P (P z).right qs') (sym e) b.2))

pub bytes_one : (P : Pages) (h : Head) (xs ys : List ℕ) → HasBytes P h xs → HasBytes P h ys → xs ≡ ys
bytes_one P h xs ys (HasBytes.short a) (HasBytes.short b) = refl
bytes_one P h xs ys (HasBytes.short a) (HasBytes.long b qs c) = absurd (omega (arith, a, b))
bytes_one P h xs ys (HasBytes.long a qs c) (HasBytes.short b) = absurd (omega (arith, a, b))
bytes_one P h xs ys (HasBytes.long a qs c) (HasBytes.long b qs' d) = ap (parts P) (chain_one P h.overflow qs qs' c d)

pub whole_one : (P : Pages) (h : Head) (v w : Vector) → IsWhole P h v → IsWhole P h w → v ≡ w
whole_one P h v w a b =
    encoding_tells_vector v w a.encodes.normal b.encodes.normal
    (sym a.encodes.bytes_of ∙ bytes_one P h a.bytes b.bytes a.there b.there ∙ b.encodes.bytes_of)

some_one : (h k : Head) → Some h ≡ Some k → h ≡ k
some_one h k e = cc

pub head_one : (P : Pages) (d : Doc) (h k : Head) → Has P d h → Has P d k → h ≡ k
head_one P d h k a b = some_one h k (sym a.at ∙ b.at)

pub vector_one : (P : Pages) (d : Doc) (v w : Vector) → HasVector P d v → HasVector P d w → v ≡ w
vector_one P d v w a b = whole_one P a.0 v w a.2 (subst (λ h. IsWhole P h w) (head_one P d b.0 a.0 b.1 a.1) b.2)

pub inserts_one : (P : Pages) (ds : List Doc) (xs ys : List Document) → AreInserts P ds xs → AreInserts P ds ys
    → xs ≡ ys
inserts_one P [] [] [] a b = refl
inserts_one P [] [] (y ∷ ys) a b = absurd b
inserts_one P [] (x ∷ xs) ys a b = absurd a
inserts_one P (d ∷ ds) [] ys a b = absurd a
inserts_one P (d ∷ ds) (x ∷ xs) [] a b = absurd b
inserts_one P (d ∷ ds) (x ∷ xs) (y ∷ ys) a b =
    let name : x.name ≡ y.name = a.0 ∙ sym b.0 in
    let vector : x.vector ≡ y.vector = vector_one P d x.vector y.vector a.1 b.1 in
    let first : x ≡ y = ap₂ (λ (n : Name) (v : Vector). record { name = n; vector = v }) name vector in
    ap₂ ◌∷◌ first (inserts_one P ds xs ys a.2 b.2)

pub commit_one : (R : Log) (x : ℕ) (c d : Commit) → IsCommitOf R x c → IsCommitOf R x d → c ≡ d
commit_one R x c d a b =
    let pages : b.pages ≡ a.pages = shown_one R b.pages a.pages b.shown a.shown in
    let inserted : c.inserted ≡ d.inserted = inserts_one a.pages (placed R x) c.inserted d.inserted a.inserted
    (subst (λ P. AreInserts P (placed R x) d.inserted) pages b.inserted) in
    ap₂ (λ (ns : List Name) (ds : List Document). record { deleted = ns; inserted = ds })
    (a.deleted ∙ sym b.deleted) inserted

with_one : (k : Kind) (x : ℕ) (R : Log) → ((H H' : History) → IsHistory R H → IsHistory R H' → H ≡ H')
    → (H H' : History) → IsHistoryWith k x R (IsHistory R) H → IsHistoryWith k x R (IsHistory R) H' → H ≡ H'
with_one (kind.Commit n) x R one H H' a b = a.4 ∙ ap₂ (λ (K : History) (c : Commit). K ++ c ∷ [])
    (one a.0 b.0 a.2 b.2) (commit_one R x a.1 b.1 a.3 b.3) ∙ sym b.4
with_one _ x R one H H' a b = one H H' a b

pub history_one : HistoryIsOne
history_one [] H H' a b = a ∙ sym b
history_one (r ∷ R) H H' a b = with_one r.kind r.xid R (history_one R) H H' a b

-- documents that are whole are inserts with their vectors
whole_inserts : (P : Pages) (ds : List Doc) → ((d : Doc) → In d ds → (v : Vector) × HasVector P d v)
    → (is : List Document) × AreInserts P ds is
whole_inserts P [] whole = ([], tt)
whole_inserts P (d ∷ ds) whole =
    let first = whole d (inl refl) in
    let others = whole_inserts P ds (λ e i. whole e (inr i)) in
    (record { name = name_of d; vector = first.0 } ∷ others.0, (refl, first.1, others.1))

-- some history of the log
abbrev HasHistory : Log → Type 0
HasHistory R = (H : History) × IsHistory R H

of_kind : (R : Log) (r : Record) (k : Kind) → r.kind ≡ k → (H : History) × IsHistoryWith k r.xid R (IsHistory R) H
    → HasHistory (r ∷ R)
of_kind R r k e h = subst (λ j. (H : History) × IsHistoryWith j r.xid R (IsHistory R) H) (sym e) h

rule_history : (R : Log) (r : Record) (P Q : Pages) (floor since : ℕ) → Shows R P → RuleHolds R P Q r floor since
    → HasHistory R → HasHistory (r ∷ R)
rule_history R r P Q floor since shown (RuleHolds.create x) h = of_kind R r kind.Create x.here.kind_is h
rule_history R r P Q floor since shown (RuleHolds.begin x) h = of_kind R r kind.Begin x.here.kind_is h
rule_history R r P Q floor since shown (RuleHolds.commit x) h =
    let inserts = whole_inserts P (placed R r.xid) (λ d i. let is = x.rest d i in (is.vector, is.whole)) in
    let c : Commit = record { deleted = map name_of (marked R r.xid); inserted = inserts.0 } in
    of_kind R r (kind.Commit (suc (commits R))) x.here.kind_is
    (h.0 ++ c ∷ [], (h.0, c, h.1, record { pages = P; shown = shown; deleted = refl; inserted = inserts.1 }, refl))
rule_history R r P Q floor since shown (RuleHolds.abort x) h = of_kind R r kind.Abort x.here.kind_is h
rule_history R r P Q floor since shown (RuleHolds.place_head x) h = of_kind R r
    (kind.PlaceHead x.here.doc.item x.here.doc.serial) x.here.kind_is h
rule_history R r P Q floor since shown (RuleHolds.checkpoint x) h = of_kind R r
    (kind.Checkpoint x.here.redo) x.here.kind_is h
rule_history R r P Q floor since shown (RuleHolds.put_overflow x) h = of_kind R r
    (kind.PutOverflow x.here.doc.item x.here.doc.serial) x.here.kind_is h
rule_history R r P Q floor since shown (RuleHolds.mark_deleted x) h = of_kind R r
    (kind.MarkDeleted x.here.doc.item x.here.doc.serial) x.here.kind_is h
rule_history R r P Q floor since shown (RuleHolds.put_pending x) h = of_kind R r
    (kind.PutPending x.here.doc.item x.here.doc.serial) x.here.kind_is h
rule_history R r P Q floor since shown (RuleHolds.add_row x) h = of_kind R r
    (kind.AddRow x.here.doc.item x.here.doc.serial) x.here.kind_is h
rule_history R r P Q floor since shown (RuleHolds.link_pending x) h = of_kind R r
    (kind.LinkPending x.here.doc.item x.here.doc.serial) x.here.kind_is h
rule_history R r P Q floor since shown (RuleHolds.drop_page x) h = of_kind R r
    (kind.DropPage x.here.doc.item x.here.doc.serial) x.here.kind_is h
rule_history R r P Q floor since shown (RuleHolds.shift x) h = of_kind R r kind.Shift x.here.kind_is h
rule_history R r P Q floor since shown (RuleHolds.add_items x) h = of_kind R r kind.AddItems x.here.kind_is h
rule_history R r P Q floor since shown (RuleHolds.make_tree x) h = of_kind R r kind.MakeTree x.here.kind_is h
rule_history R r P Q floor since shown (RuleHolds.add_postings x) h = of_kind R r kind.AddPostings x.here.kind_is h
rule_history R r P Q floor since shown (RuleHolds.grow_root x) h = of_kind R r kind.GrowRoot x.here.kind_is h
rule_history R r P Q floor since shown (RuleHolds.split x) h = of_kind R r kind.Split x.here.kind_is h
rule_history R r P Q floor since shown (RuleHolds.remove_items x) h = of_kind R r kind.RemoveItems x.here.kind_is h
rule_history R r P Q floor since shown (RuleHolds.delete_post x) h = of_kind R r kind.DeletePost x.here.kind_is h
rule_history R r P Q floor since shown (RuleHolds.free_slots x) h = of_kind R r kind.FreeSlots x.here.kind_is h

rules_history : (R : Log) → RecordsAreValid R → HasHistory R
rules_history [] v = ([], refl)
rules_history (r ∷ R) v = rule_history R r v.1.before v.1.after (commits R) (suc (length R)) v.1.shown v.1.rule
    (rules_history R v.0)

pub legal_history : LegalHasHistory
legal_history R l = rules_history R l.valid
