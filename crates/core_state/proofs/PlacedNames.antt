-- The names that a transaction placed rise by serial.
use Rattle.std.proofs.Common.{◌≡◌, ◌<◌, ℕ, suc, List, [], ◌∷◌, ◌++◌, length, map, refl, sym, subst, ◌∙◌, inl, inr}
use Rattle.std.proofs.Common.{arith}
use Rattle.std.specs.List.{AllByRecursion}
use Rattle.page_types.specs.declared.page.Name.{Name}
use Rattle.page_types.specs.declared.record.Kind.{Kind}
use Rattle.page_types.specs.declared.record.Kind.TheVariants as kind
use Rattle.core_state.specs.Log.{Log, In, commits}
use Rattle.core_state.specs.Documents.{Doc, doc_at, name_of, placed, placed_with}
use Rattle.core_state.specs.Legal.{RecordsAreValid}
use Rattle.core_state.specs.States.{RiseBySerial}
use Rattle.core_state.proofs.RulesByKind.{RuleOf, rule_of}
use Rattle.core_state.proofs.RunningOnes.{same_or_other, on_same, on_other}
use Rattle.core_state.proofs.SteadyEnds.{heads_kept}

all_more : (n : ℕ) (ds : List Doc) (d : Doc) → AllByRecursion (λ (m : Name). n < m.serial) (map name_of ds)
    → n < d.serial → AllByRecursion (λ (m : Name). n < m.serial) (map name_of (ds ++ d ∷ []))
all_more n [] d all l = (l, tt)
all_more n (e ∷ es) d all l = (all.0, all_more n es d all.1 l)

rise_more : (ds : List Doc) (d : Doc) → RiseBySerial (map name_of ds) → ((e : Doc) → In e ds → e.serial < d.serial)
    → RiseBySerial (map name_of (ds ++ d ∷ []))
rise_more [] d up below = (tt, tt)
rise_more (e ∷ es) d up below =
    (all_more e.serial es d up.0 (below e (inl refl)), rise_more es d up.1 (λ f i. below f (inr i)))

step_rises : (k : Kind) (xid x : ℕ) (ds : List Doc) → RiseBySerial (map name_of ds)
    → ((i s : ℕ) → k ≡ kind.PlaceHead i s → (e : Doc) → In e ds → e.serial < s)
    → RiseBySerial (map name_of (placed_with k xid x ds))
step_rises (kind.PlaceHead i s) xid x ds up below = elim (same_or_other xid x) [
  | inl e ↦ subst (λ (es : List Doc). RiseBySerial (map name_of es)) (sym (on_same xid x (ds ++ doc_at i s ∷ []) ds e))
      (rise_more ds (doc_at i s) up (below i s refl))
  | inr d ↦ subst (λ (es : List Doc). RiseBySerial (map name_of es))
      (sym (on_other xid x (ds ++ doc_at i s ∷ []) ds d)) up
]
step_rises _ xid x ds up below = up

pub placed_rise : (R : Log) → RecordsAreValid R → (x : ℕ) → RiseBySerial (map name_of (placed R x))
placed_rise [] v x = tt
placed_rise (r ∷ R) v x =
    step_rises r.kind r.xid x (placed R x) (placed_rise R v.0 x)
    (λ i s e d on.
    let row = subst (RuleOf R v.1.before v.1.after r (commits R) (suc (length R))) e
    (rule_of R v.1.before v.1.after r (commits R) (suc (length R)) v.1.rule) in
    let same : kind.PlaceHead i s ≡ kind.PlaceHead row.here.doc.item row.here.doc.serial = sym e ∙ row.here.kind_is in
    let serial : s ≡ row.here.doc.serial = cc in
    let low = (heads_kept R v.1.before v.0 v.1.shown).serials x d on in
    omega (arith, low, serial, row.here.next))
