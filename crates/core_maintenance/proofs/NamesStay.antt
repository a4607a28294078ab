-- What an entry names stays named where items come into the trees, and where these grow.
use Rattle.std.proofs.Common.{◌≡◌, ◌⊎◌, ◌≤◌, ℕ, suc, List, ◌∷◌, ◌++◌, length, refl, sym, ap, subst, ◌∙◌}
use Rattle.std.proofs.Common.{inl, inr, arith}
use Rattle.ts_base.specs.Keys.{Key}
use Rattle.page_types.specs.Records.{kind_number}
use Rattle.page_types.specs.Views.{entries_in, entries_of}
use Rattle.page_types.specs.declared.page.Page.{Page}
use Rattle.page_types.specs.declared.page.Entry.{Entry}
use Rattle.page_types.specs.declared.page.Postings.TheVariants.{Inline, Root}
use Rattle.page_types.specs.declared.page.Body.{Body}
use Rattle.page_types.specs.declared.page.Body.TheVariants as body
use Rattle.page_types.specs.declared.record.Record.{Record}
use Rattle.page_types.specs.declared.record.Kind.{Kind}
use Rattle.page_types.specs.declared.record.Kind.TheVariants as kind
use Rattle.core_state.specs.Log.{Log, Pages, In, changed, commits}
use Rattle.core_state.specs.Index.{IsNamed}
use Rattle.core_state.specs.Known.{use_by, use_in}
use Rattle.core_state.specs.Changes.{IsNew, made_with}
use Rattle.core_state.specs.TreeRules.{IsAddItems, IsMakeTree, IsAddPostings, IsGrowRoot, IsSplit, IsEntryBetween}
use Rattle.core_state.specs.TreeRules.{EntryHalves, PostHalves, IsDivided}
use Rattle.core_state.specs.Legal.{RuleHolds}
use Rattle.core_state.specs.declared.answers.PageUse.TheVariants as usage
use Rattle.core_state.proofs.Showing.{shown_one, others_stay}
use Rattle.core_state.proofs.PageLists.{in_or_not, in_front, in_back, in_either, of_one, of_two, of_three}
use Rattle.core_state.proofs.PageLists.{one_page, two_pages, three_pages}
use Rattle.core_state.proofs.RulesByKind.{kind_rule}
use Rattle.core_state.proofs.Steps.Heads.{drawn_as, left_all, left_is}
use Rattle.core_maintenance.specs.TreeSteps.{NamesStay, MadeTreeIsNamed}

-- a new page has no entry
no_entries : (stamp : ℕ) (b : Body) (e : Entry) → In e (entries_in b) → use_by stamp b ≡ usage.Used
no_entries stamp (body.EntryLeaf high entries) e i = refl
no_entries stamp _ e i = absurd i

none_on_new : (P : Pages) (since p : ℕ) (e : Entry) → IsNew (use_in P) since p → In e (entries_of (P p)) → ⊥
none_on_new P since p e (IsNew.unused is low) i =
    let f : usage.Used ≡ usage.Unused = sym (no_entries (P p).stamp (P p).body e i) ∙ is in cc
none_on_new P since p e (IsNew.deleted stamp is le) i =
    let f : usage.Used ≡ usage.Deleted stamp = sym (no_entries (P p).stamp (P p).body e i) ∙ is in cc

-- an entry that names a root isn't one with a list
not_list : (key : Key) (list : List ℕ) (e : Entry) (root : ℕ) → e.postings ≡ Root root
    → e ≡ record { key = key; postings = Inline list } → ⊥
not_list key list e root is same =
    let f : Root root ≡ Inline list = sym is ∙ ap (λ (x : Entry). x.postings) same in cc

-- where one entry, with a list, becomes another, each that names a root stays
stays_between : (front back : List Entry) (key : Key) (list : List ℕ) (then e : Entry) (root : ℕ)
    → e.postings ≡ Root root → In e (front ++ record { key = key; postings = Inline list } ∷ back)
    → In e (front ++ then ∷ back)
stays_between front back key list then e root is i =
    elim (in_either e front (record { key = key; postings = Inline list } ∷ back) i) [
      | inl j ↦ in_front e front (then ∷ back) j
      | inr (inl same) ↦ absurd (not_list key list e root is same)
      | inr (inr j) ↦ in_back e front (then ∷ back) (inr j)
    ]

stays_put : (entries front back : List Entry) (key : Key) (list : List ℕ) (then e : Entry) (root : ℕ)
    → e.postings ≡ Root root → IsEntryBetween entries front back key list → In e entries → In e (front ++ then ∷ back)
stays_put entries front back key list then e root is (inl same) i =
    stays_between front back key list then e root is (subst (In e) same i)
stays_put entries front back key list then e root is (inr same) i =
    elim (in_either e front back (subst (In e) same.0 i)) [
      | inl j ↦ in_front e front (then ∷ back) j
      | inr j ↦ in_back e front (then ∷ back) (inr j)
    ]

-- the entries of a page that is split are in one of both parts, and its parent has none
entry_halves : (mid : Key) (whole left right : Body) (e : Entry) → EntryHalves mid whole left right
    → In e (entries_in whole) → In e (entries_in left) ⊎ In e (entries_in right)
entry_halves mid _ _ _ e (EntryHalves.leaves high front back some some' up above) i = in_either e front back i
entry_halves mid _ _ _ e (EntryHalves.inners last front back some is) i = absurd i

post_halves : (mid : ℕ) (whole left right : Body) (e : Entry) → PostHalves mid whole left right
    → In e (entries_in whole) → ⊥
post_halves mid _ _ _ e (PostHalves.leaves high items front back some some' same up above) i = i
post_halves mid _ _ _ e (PostHalves.inners last front back some is) i = i

divided_has : (page new : ℕ) (whole left right old then : Body) (e : Entry)
    → IsDivided page new whole left right old then → In e (entries_in whole)
    → In e (entries_in left) ⊎ In e (entries_in right)
divided_has page new whole left right old then e (IsDivided.in_entries mid halves parent) i =
    entry_halves mid whole left right e halves i
divided_has page new whole left right old then e (IsDivided.in_postings mid halves parent) i =
    absurd (post_halves mid whole left right e halves i)

no_parent_entry : (page new : ℕ) (whole left right old then : Body) (e : Entry)
    → IsDivided page new whole left right old then → In e (entries_in old) → ⊥
no_parent_entry page new whole left right old then e (IsDivided.in_entries mid halves parent) i =
    subst (λ (b : Body). In e (entries_in b)) parent.before i
no_parent_entry page new whole left right old then e (IsDivided.in_postings mid halves parent) i =
    subst (λ (b : Body). In e (entries_in b)) parent.before i

module _ (R : Log) (P Q : Pages) (r : Record) (k : Key) (root : ℕ) (n : IsNamed P k root) where
  -- the entry is on page p after the record
  now : (p : ℕ) → In n.entry (entries_of (Q p)) → IsNamed Q k root
  now p on = record { page = p; entry = n.entry; on = on; key = n.key; names = n.names }

  -- where page p has the entry before the record
  abbrev From : ℕ → Type 0
  From p = In n.entry (entries_of (P p)) → IsNamed Q k root

  on_new : (since p : ℕ) → IsNew (use_in P) since p → From p
  on_new since p new i = absurd (none_on_new P since p n.entry new i)

  -- a page before the record and a page after it
  was_on : (p : ℕ) (old : Page) → P p ≡ old → In n.entry (entries_of (P p)) → In n.entry (entries_of old)
  was_on p old is i = subst (λ (c : Page). In n.entry (entries_of c)) is i

  is_on : (p : ℕ) (then : Page) → Q p ≡ then → In n.entry (entries_of then) → IsNamed Q k root
  is_on p then is i = now p (subst (λ (c : Page). In n.entry (entries_of c)) (sym is) i)

  by_items : IsAddItems R P Q r → (p : ℕ) → In p (changed r) → From p
  by_items x = let h = x.here in
      let was = one_page P (changed r) h.page h.old h.pages h.before_is in
      let is = one_page Q (changed r) h.page _ h.pages h.after_is in
      of_one From (changed r) h.page h.pages (λ i. is_on h.page _ is
      (stays_put h.entries h.front h.back h.key h.old_list (record { key = h.key; postings = Inline h.new_list })
      n.entry root n.names h.entry
      (subst (λ (b : Body). In n.entry (entries_in b)) h.was (was_on h.page h.old was i))))

  by_tree : (since : ℕ) → IsMakeTree R P Q r since → (p : ℕ) → In p (changed r) → From p
  by_tree since x = let h = x.here in
      let was = two_pages P (changed r) h.page h.new h.old h.was h.pages h.before_is in
      let is = two_pages Q (changed r) h.page h.new _ _ h.pages h.after_is in
      of_two From (changed r) h.page h.new h.pages (λ i. is_on h.page _ is.0
      (stays_between h.front h.back h.key h.items (record { key = h.key; postings = Root h.new }) n.entry root n.names
      (subst (λ (b : Body). In n.entry (entries_in b)) h.inline (was_on h.page h.old was.0 i))))
      (on_new since h.new h.is_new)

  by_postings : IsAddPostings R P Q r → (p : ℕ) → In p (changed r) → From p
  by_postings x = let h = x.here in
      let was = one_page P (changed r) h.page h.old h.pages h.before_is in
      of_one From (changed r) h.page h.pages (λ i.
      absurd (subst (λ (b : Body). In n.entry (entries_in b)) h.was (was_on h.page h.old was i)))

  by_growth : (since : ℕ) → IsGrowRoot R P Q r since → (p : ℕ) → In p (changed r) → From p
  by_growth since x = let h = x.here in
      let was = two_pages P (changed r) h.root h.new h.old h.was h.pages h.before_is in
      let is = two_pages Q (changed r) h.root h.new _ _ h.pages h.after_is in
      of_two From (changed r) h.root h.new h.pages (λ i. is_on h.new _ is.1 (was_on h.root h.old was.0 i))
      (on_new since h.new h.is_new)

  by_split : (since : ℕ) → IsSplit R P Q r since → (p : ℕ) → In p (changed r) → From p
  by_split since x = let h = x.here in
      let was = three_pages P (changed r) h.page h.new h.parent h.old h.was h.old_parent h.pages h.before_is in
      let is = three_pages Q (changed r) h.page h.new h.parent _ _ _ h.pages h.after_is in
      of_three From (changed r) h.page h.new h.parent h.pages
      (λ i. elim (divided_has h.page h.new h.old.body h.left h.right h.old_parent.body h.parent_after n.entry h.divided
      (was_on h.page h.old was.0 i)) [
        | inl j ↦ is_on h.page _ is.0 j
        | inr j ↦ is_on h.new _ is.1 j
      ])
      (on_new since h.new h.is_new)
      (λ i. absurd (no_parent_entry h.page h.new h.old.body h.left h.right h.old_parent.body h.parent_after n.entry
      h.divided (was_on h.parent h.old_parent was.2 i)))

  by_kind : (floor since : ℕ) (x : RuleHolds R P Q r floor since) (kd : Kind) → r.kind ≡ kd → 13 ≤ kind_number kd
      → kind_number kd ≤ 17 → (p : ℕ) → In p (changed r) → From p
  by_kind floor since x kind.Create is a b = absurd (omega (arith, a))
  by_kind floor since x kind.Begin is a b = absurd (omega (arith, a))
  by_kind floor since x (kind.Commit c) is a b = absurd (omega (arith, a))
  by_kind floor since x kind.Abort is a b = absurd (omega (arith, a))
  by_kind floor since x (kind.Checkpoint redo) is a b = absurd (omega (arith, a))
  by_kind floor since x (kind.PlaceHead i s) is a b = absurd (omega (arith, a))
  by_kind floor since x (kind.PutOverflow i s) is a b = absurd (omega (arith, a))
  by_kind floor since x (kind.MarkDeleted i s) is a b = absurd (omega (arith, a))
  by_kind floor since x (kind.PutPending i s) is a b = absurd (omega (arith, a))
  by_kind floor since x (kind.AddRow i s) is a b = absurd (omega (arith, a))
  by_kind floor since x (kind.LinkPending i s) is a b = absurd (omega (arith, a))
  by_kind floor since x kind.Shift is a b = absurd (omega (arith, a))
  by_kind floor since x kind.AddItems is a b = by_items (kind_rule R P Q r floor since kind.AddItems is x)
  by_kind floor since x kind.MakeTree is a b = by_tree since (kind_rule R P Q r floor since kind.MakeTree is x)
  by_kind floor since x kind.AddPostings is a b = by_postings (kind_rule R P Q r floor since kind.AddPostings is x)
  by_kind floor since x kind.GrowRoot is a b = by_growth since (kind_rule R P Q r floor since kind.GrowRoot is x)
  by_kind floor since x kind.Split is a b = by_split since (kind_rule R P Q r floor since kind.Split is x)
  by_kind floor since x kind.RemoveItems is a b = absurd (omega (arith, b))
  by_kind floor since x kind.DeletePost is a b = absurd (omega (arith, b))
  by_kind floor since x (kind.DropPage i s) is a b = absurd (omega (arith, b))
  by_kind floor since x kind.FreeSlots is a b = absurd (omega (arith, b))

pub names_stay : NamesStay
names_stay R r P Q k root legal shown shown' low high n =
    let u = legal.valid.1 in
    let floor = commits R in
    let since = suc (length R) in
    let rule : RuleHolds R P Q r floor since =
    subst (λ (S : Pages). RuleHolds R S Q r floor since) (shown_one R u.before P u.shown shown)
    (subst (λ (S : Pages). RuleHolds R u.before S r floor since) (shown_one (r ∷ R) u.after Q u.shown_after shown')
    u.rule) in
    elim (in_or_not n.page (changed r)) [
      | inl on ↦ by_kind R P Q r k root n floor since rule r.kind refl low high n.page on n.on
      | inr off ↦ is_on R P Q r k root n n.page (P n.page) (others_stay R r P Q shown shown' n.page off) n.on
    ]

pub made_tree_named : MadeTreeIsNamed
made_tree_named v P s c R r S Q n l =
    let made = left_all S Q r s _ l c.after_is in
    let kind_is : r.kind ≡ kind.MakeTree = drawn_as R s r n kind.MakeTree c.kind_is in
    let then = body.EntryLeaf c.high (c.front ++ record { key = c.key; postings = Root c.new } ∷ c.back) in
    let is : Q c.page ≡ made_with r c.old.right then =
    made.0 ∙ left_is r kind.MakeTree c.leaf c.old.right then kind_is refl c.leaf_link c.named in
    record {
      page = c.page;
      entry = record { key = c.key; postings = Root c.new };
      on = subst (λ (q : Page). In (record { key = c.key; postings = Root c.new }) (entries_of q)) (sym is)
          (in_back (record { key = c.key; postings = Root c.new }) c.front
          (record { key = c.key; postings = Root c.new } ∷ c.back) (inl refl));
      key = refl;
      names = refl;
    }
