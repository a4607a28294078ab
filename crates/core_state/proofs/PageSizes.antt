-- The state of a legal log says the length of each page's body.
use Rattle.std.proofs.Common.{◌≡◌, ◌≢◌, ◌≤◌, ◌+◌, ◌-◌, nat_lt, ℕ, suc, Bool, true, false, cond, ◌==◌, List, [], ◌∷◌}
use Rattle.std.proofs.Common.{◌++◌, length, take, drop, get_or, map, refl, sym, ap, subst, ◌∙◌, inl, inr, arith}
use Rattle.std.specs.Prelude.{if◌then◌else◌}
use Rattle.std.specs.List.{AllByRecursion}
use Rattle.std.proofs.lemmas.List.{length-append, length-take, length-drop, get_or_past}
use Rattle.page_types.specs.Numbers.{page_limit}
use Rattle.page_types.specs.Keys.{Rising}
use Rattle.page_types.specs.Pages.{IsPage}
use Rattle.page_types.specs.Encoding.{page_bytes, front_bytes, body_bytes}
use Rattle.page_types.specs.Records.{IsChange, IsEdit}
use Rattle.page_types.specs.Edits.{used_in, spliced, edited, CanEdit}
use Rattle.page_types.specs.declared.page.Page.{Page}
use Rattle.page_types.specs.declared.record.Change.{Change}
use Rattle.page_types.specs.declared.record.Edit.{Edit}
use Rattle.page_types.specs.declared.record.Edit.TheVariants.{Image, Delta}
use Rattle.page_types.specs.declared.record.Record.{Record}
use Rattle.page_types.proofs.PageLaws.{framed-used, has_parts, length-front_bytes}
use Rattle.core_state.specs.Log.{Log, Pages, In, Shows, changed, after_changes, replay, commits}
use Rattle.core_state.specs.Legal.{Valid, RecordsAreValid}
use Rattle.core_state.specs.States.{edited_size, put_at, sizes_after, state_of}
use Rattle.core_state.proofs.Framing.{step_sizes}
use Rattle.core_state.proofs.PageLists.{in_or_not}
use Rattle.core_state.proofs.PageUses.{is_below, not_again}
use Rattle.core_state.proofs.PutLists.{put_here, put_else}
use Rattle.core_state.proofs.RunningOnes.{on_same, on_other}
use Rattle.core_state.proofs.Showing.{shown_one, none_yet, shown_none, others_stay, untouched}

-- the used length that a page's bytes have
used_of : (q : Page) → IsPage q → used_in (page_bytes q) ≡ length (body_bytes q.body)
unfolding page_bytes
used_of q is =
    framed-used (front_bytes q) q.stamp (body_bytes q.body) (length-front_bytes q) (omega (arith, is.fits))

length-spliced : (start cut : ℕ) (bytes body : List ℕ) → start + cut ≤ length body
    → length (spliced start cut bytes body) ≡ length body - cut + length bytes
length-spliced start cut bytes body l =
    omega (
      arith,
      length-append (take start body) (bytes ++ drop (start + cut) body),
      length-append bytes (drop (start + cut) body),
      length-take start body,
      length-drop (start + cut) body,
      l,
    )

-- the used length of what an edit leaves
used_after : (number : ℕ) (e : Edit) (q : Page) → IsEdit number e → IsPage q → CanEdit e (page_bytes q)
    → used_in (edited number e (page_bytes q)) ≡ edited_size e (length (body_bytes q.body))
unfolding edited
used_after number (Image bytes) q is page can = refl
used_after number (Delta front start cut bytes) q is page can =
    let used : used_in (page_bytes q) ≡ length (body_bytes q.body) = used_of q page in
    let size : length (spliced start cut bytes (body_bytes q.body)) ≡ length (body_bytes q.body) - cut + length bytes =
    length-spliced start cut bytes (body_bytes q.body) (omega (arith, can.1, used)) in
    ap (λ (b : List ℕ). used_in (Rattle.page_types.specs.Encoding.framed front number (spliced start cut bytes b)))
    (has_parts q page).body
    ∙ framed-used front number (spliced start cut bytes (body_bytes q.body)) is.front_size
    (omega (arith, size, can.0, can.1, can.2, used))
    ∙ omega (arith, size, can.0, can.1, can.2, used)

-- changes of other pages leave a page's length
abbrev one_size : Change → List ℕ → List ℕ
one_size c ns =
    if nat_lt c.page page_limit then put_at 0 c.page (edited_size c.edit (get_or ns c.page 0)) ns else ns

one_other : (b : Bool) (ns : List ℕ) (p q n : ℕ) → q ≢ p
    → get_or (if b then put_at 0 p n ns else ns) q 0 ≡ get_or ns q 0
one_other true ns p q n off = put_else 0 ns p q n off
one_other false ns p q n off = refl

sizes_kept : (cs : List Change) (ns : List ℕ) (p : ℕ) → (In p (map (λ (c : Change). c.page) cs) → ⊥)
    → get_or (sizes_after cs ns) p 0 ≡ get_or ns p 0
sizes_kept [] ns p off = refl
sizes_kept (c ∷ cs) ns p off =
    sizes_kept cs (one_size c ns) p (λ i. off (inr i))
    ∙ one_other (nat_lt c.page page_limit) ns c.page p (edited_size c.edit (get_or ns c.page 0)) (λ e. off (inl e))

-- a page that is changed has the length of its change
record SizedBy (number : ℕ) (cs : List Change) (ns : List ℕ) (p : ℕ) (old : List ℕ) : Type 0 where
  pub change : Change
  pub there : In change cs
  pub page : change.page ≡ p
  pub is_edit : IsEdit number change.edit
  pub size : get_or (sizes_after cs ns) p 0 ≡ edited_size change.edit (get_or ns p 0)
  pub bytes : after_changes number cs p old ≡ edited number change.edit old

first_sized : (number : ℕ) (c : Change) (cs : List Change) (ns : List ℕ) (old : List ℕ) → IsChange number c
    → (In c.page (map (λ (c : Change). c.page) cs) → ⊥) → SizedBy number (c ∷ cs) ns c.page old
first_sized number c cs ns old is off = record {
  change = c;
  there = inl refl;
  page = refl;
  is_edit = is.edit;
  size = sizes_kept cs (one_size c ns) c.page off
      ∙ ap (λ (b : Bool). get_or
      (if b then put_at 0 c.page (edited_size c.edit (get_or ns c.page 0)) ns else ns) c.page 0)
      (is_below c.page page_limit is.page)
      ∙ put_here 0 ns c.page (edited_size c.edit (get_or ns c.page 0));
  bytes = untouched number cs c.page (cond (c.page == c.page) (edited number c.edit old) old) off
      ∙ on_same c.page c.page (edited number c.edit old) old refl;
}

sized_by : (number : ℕ) (cs : List Change) (ns : List ℕ) (p : ℕ) (old : List ℕ) → AllByRecursion (IsChange number) cs
    → Rising (λ (c d : Change). c.page ≢ d.page) cs → In p (map (λ (c : Change). c.page) cs)
    → SizedBy number cs ns p old
sized_by number [] ns p old is once i = absurd i
sized_by number (c ∷ cs) ns p old is once (inl e) =
    subst (λ (q : ℕ). SizedBy number (c ∷ cs) ns q old) (sym e)
    (first_sized number c cs ns old is.0 (not_again c cs once.0))
sized_by number (c ∷ cs) ns p old is once (inr i) =
    let off : p ≢ c.page = λ e. not_again c cs once.0 (subst (λ (q : ℕ). In q (map (λ (d : Change). d.page) cs)) e i) in
    let there =
    sized_by number cs (one_size c ns) p (cond (c.page == p) (edited number c.edit old) old) is.1 once.1 i in
    record {
      change = there.change;
      there = inr there.there;
      page = there.page;
      is_edit = there.is_edit;
      size = there.size
          ∙ ap (edited_size there.change.edit)
          (one_other (nat_lt c.page page_limit) ns c.page p (edited_size c.edit (get_or ns c.page 0)) off);
      bytes = there.bytes
          ∙ ap (edited number there.change.edit)
          (on_other c.page p (edited number c.edit old) old (λ e. off (sym e)));
    }

record_sizes : (R : Log) (r : Record) (ns : List ℕ) (v : Valid R r (commits R) (suc (length R)))
    → ((p : ℕ) → get_or ns p 0 ≡ length (body_bytes (v.before p).body))
    → (p : ℕ) → get_or (sizes_after r.changes ns) p 0 ≡ length (body_bytes (v.after p).body)
unfolding replay
record_sizes R r ns v before p = elim (in_or_not p (changed r)) [
  | inl i ↦
      let c = sized_by r.number r.changes ns p (replay R p) v.is_record.changes v.is_record.once i in
      let shown = (v.shown p).1 in
      let can : CanEdit c.change.edit (page_bytes (v.before p)) =
      subst (CanEdit c.change.edit) (sym shown)
      (subst (λ (q : ℕ). CanEdit c.change.edit (replay R q)) c.page (v.can_edit c.change c.there)) in
      c.size ∙ ap (edited_size c.change.edit) (before p)
      ∙ sym (used_after r.number c.change.edit (v.before p) c.is_edit (v.shown p).0 can)
      ∙ ap (λ (b : List ℕ). used_in (edited r.number c.change.edit b)) shown
      ∙ ap used_in (sym ((v.shown_after p).1 ∙ c.bytes))
      ∙ used_of (v.after p) (v.shown_after p).0
  | inr off ↦ sizes_kept r.changes ns p off ∙ before p
      ∙ ap (λ (q : Page). length (body_bytes q.body))
      (sym (others_stay R r v.before v.after v.shown v.shown_after p off))
]

pub sizes_told : (pages xid_limit : ℕ) (R : Log) → RecordsAreValid R → (P : Pages) → Shows R P → (p : ℕ)
    → get_or (state_of pages xid_limit R).sizes p 0 ≡ length (body_bytes (P p).body)
sizes_told pages xid_limit [] v P shown p =
    get_or_past [] p 0 (omega arith)
    ∙ ap (λ (S : Pages). length (body_bytes (S p).body)) (shown_one [] none_yet P shown_none shown)
sizes_told pages xid_limit (r ∷ R) v P shown p =
    ap (λ (ns : List ℕ). get_or ns p 0) (step_sizes r (state_of pages xid_limit R))
    ∙ record_sizes R r (state_of pages xid_limit R).sizes v.1 (sizes_told pages xid_limit R v.0 v.1.before v.1.shown) p
    ∙ ap (λ (S : Pages). length (body_bytes (S p).body)) (shown_one (r ∷ R) v.1.after P v.1.shown_after shown)
