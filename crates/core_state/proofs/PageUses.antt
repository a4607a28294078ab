-- The state of a legal log says the use of each page.
use Rattle.std.proofs.Common.{◌≡◌, ◌≢◌, ◌<◌, nat_lt, ℕ, suc, Bool, true, false, cond, ◌==◌, List, [], ◌∷◌, length}
use Rattle.std.proofs.Common.{get_or, map, refl, sym, ap, subst, ◌∙◌, inl, inr, arith}
use Rattle.std.specs.Prelude.{if◌then◌else◌}
use Rattle.std.specs.List.{AllByRecursion}
use Rattle.std.proofs.lemmas.List.{get_or_past}
use Rattle.page_types.specs.Numbers.{page_limit}
use Rattle.page_types.specs.Keys.{Rising}
use Rattle.page_types.specs.Encoding.{page_bytes, front_bytes, framed, kind_of}
use Rattle.page_types.specs.Records.{IsChange, IsEdit}
use Rattle.page_types.specs.Edits.{edited}
use Rattle.page_types.specs.declared.page.Page.{Page}
use Rattle.page_types.specs.declared.page.Body.{Body}
use Rattle.page_types.specs.declared.page.Body.TheVariants as body
use Rattle.page_types.specs.declared.record.Change.{Change}
use Rattle.page_types.specs.declared.record.Edit.{Edit}
use Rattle.page_types.specs.declared.record.Edit.TheVariants.{Image, Delta}
use Rattle.page_types.specs.declared.record.Record.{Record}
use Rattle.core_state.specs.Log.{Log, Pages, In, Shows, changed, after_changes, replay, commits}
use Rattle.core_state.specs.Known.{use_by, use_in}
use Rattle.core_state.specs.Legal.{Valid, RecordsAreValid}
use Rattle.core_state.specs.States.{kind_byte, edited_use, with_use, uses_after, state_of}
use Rattle.core_state.specs.declared.answers.PageUse.{PageUse}
use Rattle.core_state.specs.declared.answers.PageUse.TheVariants as usage
use Rattle.core_state.proofs.Framing.{step_uses}
use Rattle.core_state.proofs.PutLists.{put_here, put_else}
use Rattle.core_state.proofs.Showing.{shown_one, none_yet, shown_none, others_stay, untouched}
use Rattle.core_state.proofs.RunningOnes.{on_same}
use Rattle.core_state.proofs.PageLists.{in_or_not}
use Rattle.core_state.proofs.LivePages.{body_not_free}
use Rattle.core_state.proofs.SteadyPages.{touches}

pub is_below : (a b : ℕ) → a < b → nat_lt a b ≡ true
is_below a b l = grind (arith, l)

-- changes of other pages leave a page's use
abbrev one_use : ℕ → Change → List PageUse → List PageUse
one_use number c us = if nat_lt c.page page_limit then with_use c.page (edited_use number c.edit) us else us

one_other : (b : Bool) (us : List PageUse) (p q : ℕ) (u : PageUse) → q ≢ p
    → get_or (if b then with_use p u us else us) q usage.Unused ≡ get_or us q usage.Unused
one_other true us p q u off = put_else usage.Unused us p q u off
one_other false us p q u off = refl

pub uses_kept : (number : ℕ) (cs : List Change) (us : List PageUse) (p : ℕ)
    → (In p (map (λ (c : Change). c.page) cs) → ⊥)
    → get_or (uses_after number cs us) p usage.Unused ≡ get_or us p usage.Unused
uses_kept number [] us p off = refl
uses_kept number (c ∷ cs) us p off =
    uses_kept number cs (one_use number c us) p (λ i. off (inr i)) ∙ one_other (nat_lt c.page page_limit) us c.page p
    (edited_use number c.edit) (λ e. off (inl e))

-- a page that is changed has the use of its change
pub record ChangedBy (number : ℕ) (cs : List Change) (us : List PageUse) (p : ℕ) (old : List ℕ) : Type 0 where
  pub edit : Edit
  pub is_edit : IsEdit number edit
  pub was : List ℕ
  pub uses : get_or (uses_after number cs us) p usage.Unused ≡ edited_use number edit
  pub bytes : after_changes number cs p old ≡ edited number edit was

pub not_again : (c : Change) (cs : List Change) → AllByRecursion (λ (d : Change). c.page ≢ d.page) cs
    → In c.page (map (λ (d : Change). d.page) cs) → ⊥
not_again c [] a i = i
not_again c (d ∷ ds) a (inl e) = a.0 e
not_again c (d ∷ ds) a (inr i) = not_again c ds a.1 i

first_changed : (number : ℕ) (c : Change) (cs : List Change) (us : List PageUse) (old : List ℕ) → IsChange number c
    → (In c.page (map (λ (d : Change). d.page) cs) → ⊥)
    → ChangedBy number (c ∷ cs) us c.page old
first_changed number c cs us old is off = record {
  edit = c.edit;
  is_edit = is.edit;
  was = old;
  uses = uses_kept number cs (one_use number c us) c.page off
      ∙ ap (λ b. get_or (if b then with_use c.page (edited_use number c.edit) us else us) c.page usage.Unused)
      (is_below c.page page_limit is.page)
      ∙ put_here usage.Unused us c.page (edited_use number c.edit);
  bytes = untouched number cs c.page (cond (c.page == c.page) (edited number c.edit old) old) off
      ∙ on_same c.page c.page (edited number c.edit old) old refl;
}

changed_by : (number : ℕ) (cs : List Change) (us : List PageUse) (p : ℕ) (old : List ℕ)
    → AllByRecursion (IsChange number) cs
    → Rising (λ (c d : Change). c.page ≢ d.page) cs → In p (map (λ (c : Change). c.page) cs)
    → ChangedBy number cs us p old
changed_by number [] us p old is once i = absurd i
changed_by number (c ∷ cs) us p old is once (inl e) =
    subst (λ q. ChangedBy number (c ∷ cs) us q old) (sym e)
    (first_changed number c cs us old is.0 (not_again c cs once.0))
changed_by number (c ∷ cs) us p old is once (inr i) =
    let there = changed_by number cs (one_use number c us) p (cond (c.page == p) (edited number c.edit old) old) is.1
    once.1 i in
    record { edit = there.edit; is_edit = there.is_edit; was = there.was; uses = there.uses; bytes = there.bytes }

-- the first byte of a page is its kind
first_byte : (q : Page) → get_or (page_bytes q) 0 0 ≡ kind_of q.body
unfolding page_bytes front_bytes framed
first_byte q = refl

first_of_edit : (number : ℕ) (e : Edit) (old : List ℕ) → IsEdit number e
    → get_or (edited number e old) 0 0 ≡ kind_byte e
unfolding edited framed
first_of_edit number (Image bytes) old is = refl
first_of_edit number (Delta [] start cut bytes) old is = absurd (omega (arith, is.front_size))
first_of_edit number (Delta (b ∷ front) start cut bytes) old is = refl

-- the use of a page that isn't free and has this stamp
used : (number : ℕ) (stamp : ℕ) (b : Body) → stamp ≡ number → b ≢ body.Free
    → use_by stamp b ≡ cond (kind_of b == 9) (usage.Deleted number) usage.Used
used number stamp body.Free e off = absurd (off refl)
used number stamp (body.Meta first last pages) e off = refl
used number stamp (body.Heap slots) e off = refl
used number stamp (body.Overflow bytes) e off = refl
used number stamp (body.Pending rows) e off = refl
used number stamp (body.EntryLeaf high entries) e off = refl
used number stamp (body.EntryInner children) e off = refl
used number stamp (body.PostLeaf high items) e off = refl
used number stamp (body.PostInner children) e off = refl
used number stamp (body.Deleted gone) e off = ap usage.Deleted e

shown_kind : (R : Log) (r : Record) (Q : Pages) (us : List PageUse) (p : ℕ) → Shows (r ∷ R) Q
    → (c : ChangedBy r.number r.changes us p (replay R p)) → kind_byte c.edit ≡ kind_of (Q p).body
unfolding replay
shown_kind R r Q us p shown c =
    sym (first_of_edit r.number c.edit c.was c.is_edit)
    ∙ ap (λ bytes. get_or bytes 0 0) (sym ((shown p).1 ∙ c.bytes)) ∙ first_byte (Q p)

record_uses : (R : Log) (r : Record) (us : List PageUse) (v : Valid R r (commits R) (suc (length R)))
    → ((p : ℕ) → get_or us p usage.Unused ≡ use_in v.before p)
    → (p : ℕ) → get_or (uses_after r.number r.changes us) p usage.Unused ≡ use_in v.after p
record_uses R r us v before p = elim (in_or_not p (changed r)) [
  | inl i ↦
      let c = changed_by r.number r.changes us p (replay R p) v.is_record.changes v.is_record.once i in
      let t = touches R r (commits R) (suc (length R)) v p i in
      c.uses ∙ ap (λ k. cond (k == 9) (usage.Deleted r.number) usage.Used)
      (shown_kind R r v.after us p v.shown_after c)
      ∙ sym (used r.number (v.after p).stamp (v.after p).body t.stamp
      (body_not_free v.before v.after r (suc (length R)) p t))
  | inr off ↦ uses_kept r.number r.changes us p off ∙ before p
      ∙ ap (λ (q : Page). use_by q.stamp q.body) (sym (others_stay R r v.before v.after v.shown v.shown_after p off))
]

pub uses_told : (pages xid_limit : ℕ) (R : Log) → RecordsAreValid R → (P : Pages) → Shows R P → (p : ℕ)
    → get_or (state_of pages xid_limit R).uses p usage.Unused ≡ use_in P p
uses_told pages xid_limit [] v P shown p =
    get_or_past [] p usage.Unused (omega arith)
    ∙ ap (λ (S : Pages). use_in S p) (shown_one [] none_yet P shown_none shown)
uses_told pages xid_limit (r ∷ R) v P shown p =
    ap (λ us. get_or us p usage.Unused) (step_uses r (state_of pages xid_limit R))
    ∙ record_uses R r (state_of pages xid_limit R).uses v.1 (uses_told pages xid_limit R v.0 v.1.before v.1.shown) p
    ∙ ap (λ (S : Pages). use_in S p) (shown_one (r ∷ R) v.1.after P v.1.shown_after shown)
