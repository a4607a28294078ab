-- The step by which an empty leaf of a posting tree goes may be logged.
use Rattle.std.proofs.Common.{◌≡◌, ◌≢◌, ◌≤◌, ℕ, List, [], ◌∷◌, ◌++◌, length, refl, sym, ap, subst, ◌∙◌, inl}
use Rattle.std.proofs.Common.{inr, arith}
use Rattle.std.specs.Prelude.{Option, Some, None}
use Rattle.std.specs.List.{AllByRecursion}
use Rattle.disk_trait.specs.declared.device.Disk.{Ghosts as Disk}
use Rattle.page_types.specs.Keys.{Rising}
use Rattle.page_types.specs.Records.{IsKind, kind_number}
use Rattle.page_types.specs.declared.page.Page.{Page}
use Rattle.page_types.specs.declared.page.PostChild.{PostChild}
use Rattle.page_types.specs.declared.page.Body.TheVariants as body
use Rattle.page_types.specs.declared.page.Gone.{Gone}
use Rattle.page_types.specs.declared.page.Gone.TheVariants as gone
use Rattle.page_types.specs.declared.record.Kind.{Kind}
use Rattle.core_state.specs.Log.{Log, Pages, In, Shows, cut}
use Rattle.core_state.specs.Legal.{IsLegal}
use Rattle.core_state.specs.Allowed.{Sheet, View, Step, sheet_pages}
use Rattle.core_state.specs.Steps.{MayBy, sheet}
use Rattle.core_state.specs.PagesTold.{IsPostLeaf}
use Rattle.core_state.specs.TreeRules.{IsLeftLeaf}
use Rattle.core_vacuum.specs.Leaves.{LeavesHold}
use Rattle.core_vacuum.specs.VacuumSteps.{LinksOn, CanDeletePost}
use Rattle.buffer_frames.specs.Drawing.{IsSheet}
use Rattle.buffer_frames.specs.Opens.{IsLoggedKind}
use Rattle.buffer_frames.specs.Frames.{FramesValue, Stands}
use Rattle.buffer_frames.specs.Passes.{IsPassOf, IsHolding, view_of}
use Rattle.buffer_frames.specs.declared.pass.Pass.{Pass}
use Rattle.gin_place.specs.Placing.{HasRight}
use Rattle.gin_place.proofs.Owing.{right_of}
use Rattle.gin_vacuum.specs.Going.{IsVacuumKind}
use Rattle.gin_vacuum.specs.Sweeping.{IsAt, IsAfter}
use Rattle.gin_vacuum.specs.Inner.Deleting.{with_before, around_pages, left_before, deleted_leaf, IsBefore, IsAround}
use Rattle.gin_vacuum.specs.Inner.Deleting.{IsDeleteStep, IsWithout, IsFoundEmpty}
use Rattle.gin_vacuum.specs.Inner.Logging.{MayLogStep}
use Rattle.gin_vacuum.specs.declared.deleting.Empty.{Empty}
use Rattle.gin_vacuum.specs.declared.deleting.Around.{Around}
use Rattle.gin_vacuum.specs.declared.sweeping.Stage.TheVariants as stage
use Rattle.gin_vacuum.proofs.FreeSteps.{owes_vacuum}
use Rattle.gin_vacuum.proofs.TreesStay.{there_in}

-- the numbers of the pages that are left are those of the pages that are held
same_pages : (e : Empty) (b : Option Sheet) (leaf parent : Sheet) (d w : Page)
    → sheet_pages (sheet leaf.page d ∷ (left_before e.link b ++ sheet parent.page w ∷ []))
    ≡ sheet_pages (leaf ∷ with_before b (parent ∷ []))
same_pages e None leaf parent d w = refl
same_pages e (Some b) leaf parent d w = refl

few_sheets : (e : Empty) (b : Option Sheet) (x y : Sheet) → length (x ∷ (left_before e.link b ++ y ∷ [])) ≤ 3
few_sheets e None x y = omega arith
few_sheets e (Some b) x y = omega arith

leaf_used : (high : ℕ) (items : List ℕ) → body.PostLeaf high items ≡ body.Free → ⊥
leaf_used high items e = cc

deleted_used : (g : Gone) → body.Deleted g ≡ body.Free → ⊥
deleted_used g e = cc

inner_used : (cs : List PostChild) → body.PostInner cs ≡ body.Free → ⊥
inner_used cs e = cc

all_sheets : (xs : List Sheet) → ((x : Sheet) → In x xs → IsSheet x) → AllByRecursion IsSheet xs
all_sheets [] each = tt
all_sheets (x ∷ xs) each = (each x (inl refl), all_sheets xs (λ y i. each y (inr i)))

in_last : (e : Empty) (b : Option Sheet) (parent : Sheet) → In parent (with_before b (parent ∷ []))
in_last e None parent = inl refl
in_last e (Some b) parent = inr (inl refl)

module _ {D : Type 0} (device : Disk D) (f : FramesValue D) (p : Pass) (of : IsPassOf f p) (right : HasRight p)
    (e : Empty) (parent : Sheet) (a : Around) (is : IsAround e parent a) (hold : IsHolding device f p (around_pages a))
    (without : Page) (w : IsWithout e.page parent.content without) (s : Step) (x : IsDeleteStep e a without s)
    (found : IsFoundEmpty device f p e) where
  abbrev held : List Sheet
  held = around_pages a

  -- no leaf leads to the empty one where it is the first, and else the one that is held does
  links : (v : View) (P : Pages) → v.held ≡ held → (b : Option Sheet) → a.before ≡ b → IsBefore e b
      → ((q : ℕ) → e.before ≡ 0 → IsLeftLeaf P q e.page → ⊥)
      → LinksOn v P a.leaf.page a.leaf.content.right (left_before e.link b)
  links v P same None at before none = LinksOn.none (λ q l.
      none q before (subst (IsLeftLeaf P q) is.leaf_is l))
  links v P same (Some b) at before none =
      let leads = before.2 in
      LinksOn.one b.page b.content (record b.content { right = e.link }) leads.0 leads.1
      (subst (In (sheet b.page b.content)) (sym same)
      (subst (λ (o : Option Sheet). In (sheet b.page b.content) (a.leaf ∷ with_before o (a.parent ∷ []))) (sym at)
      (inr (inl refl))))
      leads.2 (leads.4 ∙ sym is.leaf_is) (sym is.leaf.1) refl

  -- the leaf is the first in what was seen
  none_before : (S : Log) (P : Pages) → LeavesHold → S ≢ [] → IsLegal S → Shows S P
      → IsAt P found.0 found.1 (stage.Parent e found.2 found.3) → (q : ℕ) → e.before ≡ 0 → IsLeftLeaf P q e.page → ⊥
  none_before S P law some legal shown at q zero l =
      let t = at.0 in
      let n = t.at.named e.root (there_in (found.1).roots.items t.before e.root t.root_is) in
      let left = (law S P some legal shown).left n.0 e.root e.page q n.1 at.1 l in
      go e.before at.2 zero left
    where
      go : (before : ℕ) → IsAfter P found.0 e.root before e.page → before ≡ 0 → IsPostLeaf P e.root q → ⊥
      go _ (IsAfter.first none) z left = none q left l.link
      go before (IsAfter.after some m y clean) z left = some z

  can_delete : LeavesHold → (R : Log) → Stands device f R → (P : Pages) → IsLegal (cut p.seen R)
      → Shows (cut p.seen R) P → IsAt P found.0 found.1 (stage.Parent e found.2 found.3)
      → CanDeletePost (view_of f p R held) P s
  can_delete law R stands P legal shown at =
      let r = right_of device f p held R of right stands in
      let c = w.unlinked.child in
      record {
        page = a.leaf.page;
        parent = a.parent.page;
        high = e.high;
        bound = c.bound;
        front = c.front;
        next = c.next;
        back = c.back;
        lefts = left_before e.link a.before;
        old = a.leaf.content;
        old_parent = a.parent.content;
        deleted = deleted_leaf e.high a.leaf.content;
        without = without;
        kind_is = x.kind_is;
        after_is = x.after_is;
        may = r;
        held = inl refl;
        held_parent = inr (in_last e a.before a.parent);
        empty = is.leaf.0;
        child = ap (λ (h : Sheet). h.content.body) is.parent_is ∙ w.unlinked.before
            ∙ ap (λ (cs : List PostChild). body.PostInner cs) c.children_are
            ∙ ap (λ (n : ℕ). body.PostInner (c.front ++ record { page = n; bound = c.bound } ∷ c.next ∷ c.back))
            (sym is.leaf_is);
        links = links (view_of f p R held) P refl a.before refl is.before
            (none_before (cut p.seen R) P law r.started legal shown at);
        right = refl;
        content = refl;
        parent_right = ap (λ (y : Page). y.right) w.same ∙ ap (λ (h : Sheet). h.content.right) (sym is.parent_is);
        parent_content = w.unlinked.after;
      }

  delete_kind : IsVacuumKind (kind_number s.kind)
  delete_kind = subst (λ (k : Kind). IsVacuumKind (kind_number k)) (sym x.kind_is) (omega arith, omega arith)

  pages_same : sheet_pages s.after ≡ sheet_pages held
  pages_same =
      ap sheet_pages x.after_is
      ∙ same_pages e a.before a.leaf a.parent (deleted_leaf e.high a.leaf.content) without

  once : Rising (λ (i j : ℕ). i ≢ j) (sheet_pages s.after)
  once = subst (Rising (λ (i j : ℕ). i ≢ j)) (sym pages_same) hold.once

  used_before : (b : Option Sheet) → IsBefore e b → (y : Sheet)
      → In y (left_before e.link b ++ sheet a.parent.page without ∷ []) → y.content.body ≢ body.Free
  used_before None before y (inl i) free =
      inner_used _ (sym w.unlinked.after ∙ sym (ap (λ (z : Sheet). z.content.body) i) ∙ free)
  used_before None before y (inr i) free = i
  used_before (Some b) before y (inl i) free =
      leaf_used before.2.0 before.2.1 (sym before.2.2 ∙ sym (ap (λ (z : Sheet). z.content.body) i) ∙ free)
  used_before (Some b) before y (inr (inl i)) free =
      inner_used _ (sym w.unlinked.after ∙ sym (ap (λ (z : Sheet). z.content.body) i) ∙ free)
  used_before (Some b) before y (inr (inr i)) free = i

  used : (y : Sheet) → In y s.after → y.content.body ≢ body.Free
  used y i free = elim (subst (In y) x.after_is i) [
    | inl j ↦ deleted_used (gone.PostLeaf e.high []) (sym (ap (λ (z : Sheet). z.content.body) j) ∙ free)
    | inr j ↦ used_before a.before is.before y j free
  ]

  pub may_delete : MayBy CanDeletePost → LeavesHold → MayLogStep device f p (around_pages a) s
  may_delete law leaves =
      let few : length s.after ≤ 3 =
      subst (λ (xs : List Sheet). length xs ≤ 3) (sym x.after_is)
      (few_sheets e a.before (sheet a.leaf.page (deleted_leaf e.high a.leaf.content))
      (sheet a.parent.page without)) in
      record {
        is_pass = of;
        right = right;
        holding = hold;
        encoded = record {
          kind = subst IsKind (sym x.kind_is) tt;
          few = omega (arith, few);
          each = all_sheets s.after (λ y i. record { page = x.low y i; content = x.fits y i; used = used y i });
          once = once;
        };
        kind = subst IsLoggedKind (sym x.kind_is) tt;
        vacuum = delete_kind;
        pages = few;
        may = λ t up R stands legal. law (view_of f p R held) s
            (λ P legal_seen shown. can_delete leaves R stands P legal_seen shown
            (found.4 t up R stands legal P shown));
        owes = owes_vacuum device f p held s of right x.xid delete_kind (λ q i. subst (In q) pages_same i) once x.fits;
      }
