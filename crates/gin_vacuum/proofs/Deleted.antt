-- A sweep once an empty leaf is deleted.
use Rattle.std.proofs.Common.{◌≡◌, ◌≢◌, ℕ, zero, suc, List, [], ◌∷◌, ◌++◌, length, refl, sym, ap}
use Rattle.std.proofs.Common.{subst, ◌∙◌, inl, inr, arith}
use Rattle.std.specs.Prelude.{Option, Some, None}
use Rattle.disk_trait.specs.declared.device.Disk.{Ghosts as Disk}
use Rattle.page_types.specs.Views.{slots_in, slot_at}
use Rattle.page_types.specs.declared.page.Page.{Page}
use Rattle.page_types.specs.declared.page.Head.{Head}
use Rattle.page_types.specs.declared.page.PostChild.{PostChild}
use Rattle.page_types.specs.declared.page.Body.{Body}
use Rattle.page_types.specs.declared.page.Body.TheVariants as body
use Rattle.page_types.specs.declared.record.Record.{Record}
use Rattle.page_types.specs.declared.record.Kind.{Kind}
use Rattle.page_types.specs.declared.record.Kind.TheVariants as kind
use Rattle.core_state.specs.Log.{Log, Pages, In, Shows}
use Rattle.core_state.specs.Documents.{head_of, page_of, slot_of}
use Rattle.core_state.specs.Bullets.{PagePlace}
use Rattle.core_state.specs.Index.{Below}
use Rattle.core_state.specs.Legal.{IsLegal}
use Rattle.core_state.specs.PagesTold.{IsPostLeaf}
use Rattle.core_state.specs.TreeRules.{IsRoot}
use Rattle.core_state.specs.VacuumRules.{MayLeave}
use Rattle.core_state.specs.Allowed.{Sheet, View, Step, Leaves, AreHeld, AreMade, drawn_body, sheet_pages}
use Rattle.core_state.specs.Allowed.{made_by}
use Rattle.core_state.specs.Steps.{sheet}
use Rattle.core_state.proofs.LawsHold.{pages}
use Rattle.core_state.proofs.PageLists.{same_or_not}
use Rattle.core_state.proofs.Steps.Heads.{drawn_as, left_all}
use Rattle.core_vacuum.specs.Keeping.{IsVacuum, VacuumKeeps, VacuumHolds}
use Rattle.core_vacuum.proofs.Out.{leave_kept}
use Rattle.buffer_frames.specs.Frames.{FramesValue}
use Rattle.buffer_frames.specs.Passes.{IsPassOf, Seen, IsLogged, view_of}
use Rattle.buffer_frames.specs.declared.pass.Pass.{Pass}
use Rattle.gin_place.specs.Placing.{HasRight}
use Rattle.gin_vacuum.specs.Vacuum.{AreDead}
use Rattle.gin_vacuum.specs.Sweeping.{IsAt, IsSweeping}
use Rattle.gin_vacuum.specs.Inner.Deleting.{with_before, around_pages, left_before, deleted_leaf, IsBefore, IsAround}
use Rattle.gin_vacuum.specs.Inner.Deleting.{IsDeleteStep, IsWithout}
use Rattle.gin_vacuum.specs.Inner.Logging.{LogsStep}
use Rattle.gin_vacuum.specs.declared.deleting.Empty.{Empty}
use Rattle.gin_vacuum.specs.declared.deleting.Around.{Around}
use Rattle.gin_vacuum.specs.declared.sweeping.Sweeping.{Sweeping}
use Rattle.gin_vacuum.specs.declared.sweeping.Stage.TheVariants as stage
use Rattle.gin_vacuum.proofs.Kept.{at_then}
use Rattle.gin_vacuum.proofs.LeafGone.{LosesLeaf, at_gone}
use Rattle.gin_vacuum.proofs.LoggedOn.{EndsWith, logged_on}
use Rattle.gin_vacuum.proofs.NeverAround.{allowed_stays, leaf_not_zero}
use Rattle.gin_vacuum.proofs.StaysOn.{StaysOn}
use Rattle.gin_vacuum.proofs.Swept.{leave_more}
use Rattle.gin_vacuum.proofs.TreesStay.{there_in}

head_there : (b : Body) (k : ℕ) (h : Head) → slot_at (slots_in b) k ≡ Some h
    → (slots : List (Option Head)) × (b ≡ body.Heap slots)
head_there (body.Heap slots) k h is = (slots, refl)
head_there _ zero h is = absurd cc
head_there _ (suc k) h is = absurd cc

some_none : (h : Head) (s : Option Head) → s ≡ Some h → s ≡ None → ⊥
some_none h s e f = cc

leaf_heap : (b : Body) (high : ℕ) (items : List ℕ) (slots : List (Option Head)) → b ≡ body.PostLeaf high items
    → b ≡ body.Heap slots → ⊥
leaf_heap b high items slots is e =
    let two : body.PostLeaf high items ≡ body.Heap slots = sym is ∙ e in let z : ⊥ = cc in z

inner_heap : (b : Body) (cs : List PostChild) (slots : List (Option Head)) → b ≡ body.PostInner cs
    → b ≡ body.Heap slots → ⊥
inner_heap b cs slots is e = let two : body.PostInner cs ≡ body.Heap slots = sym is ∙ e in let z : ⊥ = cc in z

none_some : (b : Sheet) → None ≡ Some b → ⊥
none_some b e = cc

same_some : (b c : Sheet) → Some b ≡ Some c → b ≡ c
same_some b c e = cc

-- contents as the record leaves them
body_made : (r : Record) (c : Page) → r.kind ≡ kind.DeletePost → (made_by r c).body ≡ c.body
body_made r c is = ap (λ (k : Kind). drawn_body k c.body) is

parent_held : (P : Pages) (b : Option Sheet) (parent : Sheet) → AreHeld P (with_before b (parent ∷ []))
    → P parent.page ≡ parent.content
parent_held P None parent h = h.0
parent_held P (Some b) parent h = h.1.0

parent_made : (Q : Pages) (r : Record) (link : ℕ) (b : Option Sheet) (x : Sheet)
    → AreMade Q r (left_before link b ++ x ∷ []) → Q x.page ≡ made_by r x.content
parent_made Q r link None x h = h.0
parent_made Q r link (Some b) x h = h.1.0

module _ (P Q : Pages) (r : Record) (s : Step) (l : Leaves P Q r s) (kd : r.kind ≡ kind.DeletePost) (e : Empty)
    (parent : Sheet) (a : Around) (is : IsAround e parent a) (without : Page)
    (w : IsWithout e.page parent.content without)
    (x : IsDeleteStep e a without s) (held : AreHeld P (around_pages a)) where
  abbrev deleted : Page
  deleted = deleted_leaf e.high a.leaf.content

  made : AreMade Q r (sheet a.leaf.page deleted ∷ (left_before e.link a.before ++ sheet a.parent.page without ∷ []))
  made = left_all P Q r s _ l x.after_is

  -- pages that the record does not change
  same : (q : ℕ) → q ≢ e.page → q ≢ a.parent.page → ((b : Sheet) → a.before ≡ Some b → q ≢ b.page) → Q q ≡ P q
  same q off apart not_before = l.elsewhere q (λ i. elim (subst (In q) (ap sheet_pages x.after_is) i) [
    | inl at ↦ off (at ∙ is.leaf_is)
    | inr j ↦ go a.before refl j
  ])
    where
      go : (b : Option Sheet) → a.before ≡ b
          → In q (sheet_pages (left_before e.link b ++ sheet a.parent.page without ∷ [])) → ⊥
      go None at (inl j) = apart j
      go None at (inr j) = j
      go (Some b) at (inl j) = not_before b at j
      go (Some b) at (inr (inl j)) = apart j
      go (Some b) at (inr (inr j)) = j

  -- the leaf before, as it was and as it is
  before_was : (b : Sheet) → a.before ≡ Some b → P b.page ≡ b.content
  before_was b at =
      (subst (λ (o : Option Sheet). AreHeld P (with_before o (a.parent ∷ []))) at held.1).0

  before_is : (b : Sheet) → a.before ≡ Some b → Q b.page ≡ made_by r (record b.content { right = e.link })
  before_is b at =
      (subst (λ (o : Option Sheet). AreMade Q r (left_before e.link o ++ sheet a.parent.page without ∷ [])) at made.1).0

  page_before : (b : Sheet) → a.before ≡ Some b → (e.before ≢ 0) × (b.page ≡ e.before)
  page_before b at = let i = subst (IsBefore e) at is.before in (i.0, i.1)

  pub loses : LosesLeaf P Q e a.parent.page
  loses = record {
    leaf = ap (λ (n : ℕ). (P n).body) (sym is.leaf_is) ∙ ap (λ (c : Page). c.body) held.0 ∙ is.leaf.0;
    gone_is = ap (λ (n : ℕ). (Q n).body) (sym is.leaf_is) ∙ ap (λ (c : Page). c.body) made.0 ∙ body_made r deleted kd;
    bound = w.unlinked.child.bound;
    front = w.unlinked.child.front;
    next = w.unlinked.child.next;
    back = w.unlinked.child.back;
    parent_was = ap (λ (c : Page). c.body) (parent_held P a.before a.parent held.1)
        ∙ ap (λ (h : Sheet). h.content.body) is.parent_is ∙ w.unlinked.before
        ∙ ap (λ (cs : List PostChild). body.PostInner cs) w.unlinked.child.children_are;
    parent_is = ap (λ (c : Page). c.body) (parent_made Q r e.link a.before (sheet a.parent.page without) made.1)
        ∙ body_made r without kd ∙ w.unlinked.after;
    others = λ q off apart. go q off apart a.before refl;
    rights = λ q off apart not_before. ap (λ (c : Page). c.right) (same q off apart
        (λ b at there. let i = page_before b at in not_before i.0 (there ∙ i.1)));
    linked = λ some. link some a.before refl;
  }
    where
      go : (q : ℕ) → q ≢ e.page → q ≢ a.parent.page → (b : Option Sheet) → a.before ≡ b → (Q q).body ≡ (P q).body
      go q off apart None at = ap (λ (c : Page). c.body) (same q off apart (λ b is_some.
          absurd (none_some b (sym at ∙ is_some))))
      go q off apart (Some b) at = elim (same_or_not b.page q) [
        | inl there ↦ ap (λ (n : ℕ). (Q n).body) there ∙ ap (λ (c : Page). c.body) (before_is b at)
            ∙ body_made r (record b.content { right = e.link }) kd
            ∙ sym (ap (λ (n : ℕ). (P n).body) there ∙ ap (λ (c : Page). c.body) (before_was b at))
        | inr away ↦ ap (λ (c : Page). c.body) (same q off apart (λ d is_some there.
            away (there ∙ ap (λ (y : Sheet). y.page) (same_some d b (sym is_some ∙ at)))))
      ]

      link : e.before ≢ 0 → (b : Option Sheet) → a.before ≡ b → (Q e.before).right ≡ e.link
      link some None at = absurd (some (subst (IsBefore e) at is.before))
      link some (Some b) at =
          ap (λ (n : ℕ). (Q n).right) (sym (page_before b at).1) ∙ ap (λ (c : Page). c.right) (before_is b at)

-- the root of the tree at work is none of the entry tree
not_one : (S : Log) (P : Pages) → S ≢ [] → IsLegal S → Shows S P → (root page : ℕ) → IsPostLeaf P root page → root ≢ 1
not_one S P some legal shown root page l z =
    elim ((pages S P legal shown).kinds.kinds some page PagePlace.entry_tree
    (subst (λ (r : ℕ). Below P r page) z l.0)) [
      | inl x ↦ let e = sym l.1.2 ∙ x.2 in let n : ⊥ = cc in n
      | inr x ↦ let e = sym l.1.2 ∙ x.1 in let n : ⊥ = cc in n
    ]

module _ {D : Type 0} (device : Disk D) (vacuum : VacuumHolds) (f g : FramesValue D) (p q : Pass) (e : Empty)
    (parent : Sheet) (a : Around) (is : IsAround e parent a) (without : Page)
    (w : IsWithout e.page parent.content without)
    (s : Step) (x : IsDeleteStep e a without s) (was : IsPassOf f p) (had_right : HasRight p)
    (logs : LogsStep device f p (around_pages a) s g q) (dead : List ℕ) (m : Sweeping) (page : ℕ)
    (left : Option ℕ) where
  module _ (S : Log) (Q P : Pages) (y : EndsWith device f g p q (around_pages a) s S Q P) where
    abbrev l : IsLogged (view_of g p S (around_pages a)) s S Q
    l = y.logged

    abbrev v : View
    v = view_of g p S (around_pages a)

    abbrev P' : Pages
    P' = (l.allowed).pages

    stays : StaysOn v.seen l.log P P'
    stays = allowed_stays v l.log l.allowed y.right P y.shown

    some : l.log ≢ []
    some none = (y.right).started (go (l.allowed).later v.seen (sym (l.allowed).goes_on ∙ none))
      where
        go : (xs ys : Log) → xs ++ ys ≡ [] → ys ≡ []
        go [] ys is = is
        go (x ∷ xs) ys is = absurd (omega (arith, ap length is))

    kd : (l.newest).kind ≡ kind.DeletePost
    kd = drawn_as l.log s l.newest l.drawn kind.DeletePost x.kind_is

    keeps : VacuumKeeps l.log l.newest P' Q
    keeps =
        vacuum l.log l.newest P' Q some (subst IsLegal l.log_is y.legal) (l.allowed).shown
        (subst (λ (T : Log). Shows T Q) l.log_is y.shown_then) (subst IsVacuum (sym kd) (omega arith, omega arith))

    lost : LosesLeaf P' Q e a.parent.page
    lost = loses P' Q l.newest s l.leaves kd e parent a is without w x (l.allowed).held

    at_then_gone : IsAt P dead m (stage.Parent e page left)
        → IsAt Q dead (record m { stage = stage.Posts e.root e.before e.link }) (stage.Posts e.root e.before e.link)
    at_then_gone at =
        let now = at_then v.seen l.log P P' stays dead m (stage.Parent e page left) at in
        let t = now.0 in
        let n = t.at.named e.root (there_in m.roots.items t.before e.root t.root_is) in
        at_gone P' Q e a.parent.page lost dead m page left now keeps.no_pair (λ k root. (keeps.names k root).0)
        (λ leaf. leaf_not_zero l.log P' some (l.allowed).legal (l.allowed).shown 0 leaf.1.0 leaf.1.1 leaf.1.2 refl)
        ((pages l.log P' (l.allowed).legal (l.allowed).shown).bounds.post_leaves e.root (IsRoot.of_postings n.0 n.1)
        (not_one l.log P' some (l.allowed).legal (l.allowed).shown e.root e.page now.1))

    leave_then : (i : ℕ) → MayLeave v.seen P p.floor i → MayLeave S Q q.floor i
    leave_then i may =
        let now = leave_kept v.seen l.log P P' stays.index stays.ends p.floor i may in
        subst (λ (T : Log). MayLeave T Q q.floor i) (sym l.log_is)
        (leave_more (l.newest ∷ l.log) Q p.floor q.floor i ((logs.works).rises).floor
        (elim (keeps.leave p.floor i now) [
          | inl then ↦ then
          | inr none ↦
              let at : head_of P' i
              ≡ Some now.head = subst (λ (j : ℕ). head_of P' j ≡ Some now.head) now.item (now.has).at in
              let heap = head_there (P' (page_of i)).body (slot_of i) now.head at in
              let same = lost.others (page_of i)
              (λ on. leaf_heap (P' (page_of i)).body e.high [] heap.0
              (ap (λ (j : ℕ). (P' j).body) on ∙ lost.leaf) heap.1)
              (λ on. inner_heap (P' (page_of i)).body _ heap.0
              (ap (λ (j : ℕ). (P' j).body) on ∙ lost.parent_was) heap.1) in
              absurd (some_none now.head (head_of P' i) at
              (sym (ap (λ (b : Body). slot_at (slots_in b) (slot_of i)) same) ∙ none))
        ]))

  -- the leaf after the deleted one is read next
  pub deleted_on : Seen device f p (λ S P. IsAt P dead m (stage.Parent e page left)) → AreDead device f p dead
      → IsSweeping device g q dead (record m { stage = stage.Posts e.root e.before e.link })
  deleted_on at leave = record {
    leave = logged_on device f g p q (around_pages a) s was had_right logs
        (λ S P. (i : ℕ) → In i dead → MayLeave S P p.floor i) (λ S P. (i : ℕ) → In i dead → MayLeave S P q.floor i)
        (λ S Q P y had i on. leave_then S Q P y i (had i on)) leave;
    at = logged_on device f g p q (around_pages a) s was had_right logs
        (λ S P. IsAt P dead m (stage.Parent e page left))
        (λ S P. IsAt P dead (record m { stage = stage.Posts e.root e.before e.link })
        (stage.Posts e.root e.before e.link))
        at_then_gone at;
    high = tt;
  }
