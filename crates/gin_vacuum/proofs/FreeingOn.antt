-- How far slots have become free is so still in calls that log nothing, and once own records are logged.
use Rattle.std.proofs.Common.{◌≡◌, ◌≢◌, ◌≤◌, ◌-◌, ℕ, List, [], ◌∷◌, ◌++◌, length, take, drop, refl, sym, ap, subst}
use Rattle.std.proofs.Common.{◌∙◌, inl, inr, arith, length-drop}
use Rattle.std.specs.Prelude.{None}
use Rattle.disk_trait.specs.declared.device.Disk.{Ghosts as Disk}
use Rattle.page_types.specs.Views.{slots_in, slot_at}
use Rattle.page_types.specs.declared.page.Page.{Page}
use Rattle.page_types.specs.declared.page.Body.{Body}
use Rattle.page_types.specs.declared.page.Body.TheVariants as body
use Rattle.page_types.specs.declared.record.Kind.{Kind}
use Rattle.page_types.specs.declared.record.Kind.TheVariants as kind
use Rattle.core_state.specs.Log.{Log, Pages, In, Shows}
use Rattle.core_state.specs.Documents.{head_of, page_of, slot_of}
use Rattle.core_state.specs.Legal.{IsLegal}
use Rattle.core_state.specs.RecordKeeps.{RecordsKeep}
use Rattle.core_state.proofs.PageLists.{same_or_not}
use Rattle.core_state.specs.Allowed.{Sheet, View, Step, drawn_kind, drawn_body, sheet_pages, made_by}
use Rattle.core_state.specs.Steps.{sheet}
use Rattle.core_state.proofs.Steps.Heads.{drawn_as, left_all}
use Rattle.core_vacuum.specs.Leaving.{IsOut}
use Rattle.core_vacuum.specs.Keeping.{IsVacuum, VacuumKeeps, VacuumHolds}
use Rattle.core_vacuum.specs.Staying.{RightKeepsOut}
use Rattle.core_vacuum.proofs.Out.{leave_kept, swept_kept}
use Rattle.buffer_frames.specs.Frames.{FramesValue}
use Rattle.buffer_frames.specs.Passes.{IsPassOf, IsHolding, Seen, IsLogged, view_of}
use Rattle.buffer_frames.specs.declared.pass.Pass.{Pass}
use Rattle.buffer_frames.proofs.AtHand.{cut_whole}
use Rattle.gin_place.specs.Going.{WorksOn}
use Rattle.gin_place.specs.Placing.{HasRight}
use Rattle.gin_vacuum.specs.Vacuum.{AreOut}
use Rattle.gin_vacuum.specs.Freeing.{WasFree, IsFreeing}
use Rattle.gin_vacuum.specs.Inner.Freeing.{IsChained, IsDropStep, IsFreeStep}
use Rattle.gin_vacuum.specs.Inner.Logging.{LogsStep}
use Rattle.gin_vacuum.specs.declared.freeing.Chained.{Chained}
use Rattle.gin_vacuum.specs.declared.freeing.Freeing.{Freeing}
use Rattle.gin_vacuum.proofs.LoggedOn.{EndsWith, logged_on}
use Rattle.gin_vacuum.proofs.Groups.{drop_less, take_parts}
use Rattle.gin_vacuum.proofs.OutOn.{none_some, out_more, out_used, out_elsewhere, was_free_on}
use Rattle.gin_vacuum.proofs.StaysOn.{StaysOn, seen_on}

module _ {D : Type 0} (device : Disk D) (f g : FramesValue D) (p q : Pass) (held : List Sheet)
    (hold : IsHolding device f p held) (was : IsPassOf f p) (right : HasRight p)
    (works : WorksOn device f p g q []) where
  still_out : (i : ℕ) (S S' : Log) (P Q : Pages) → StaysOn S S' P Q → IsOut S P p.floor i → IsOut S' Q q.floor i
  still_out i S S' P Q s x =
      out_more S' Q p.floor q.floor i (works.rises).floor (record {
        may = leave_kept S S' P Q s.index s.ends p.floor i x.may;
        swept = swept_kept S S' P Q s.index i x.swept;
      })

  pub item_on : (i : ℕ) → Seen device f p (λ S P. IsOut S P p.floor i) → Seen device g q (λ S P. IsOut S P q.floor i)
  item_on i =
      seen_on device f g p q held hold was right works.added works.rises works.is_pass (λ S P. IsOut S P p.floor i)
      (λ S P. IsOut S P q.floor i) (still_out i)

  pub out_on : (items : List ℕ) → AreOut device f p items → AreOut device g q items
  out_on items =
      seen_on device f g p q held hold was right works.added works.rises works.is_pass
      (λ S P. (i : ℕ) → In i items → IsOut S P p.floor i) (λ S P. (i : ℕ) → In i items → IsOut S P q.floor i)
      (λ S S' P Q s x i at. still_out i S S' P Q s (x i at))

  freed_on : (began : ℕ) (items : List ℕ)
      → Seen device f p (λ S P. (i : ℕ) → In i items → WasFree began S i)
      → Seen device g q (λ S P. (i : ℕ) → In i items → WasFree began S i)
  freed_on began items =
      seen_on device f g p q held hold was right works.added works.rises works.is_pass
      (λ S P. (i : ℕ) → In i items → WasFree began S i) (λ S P. (i : ℕ) → In i items → WasFree began S i)
      (λ S S' P Q s x i at. was_free_on began i S s.later S' s.goes_on (x i at))

  pub freeing_on : (began : ℕ) (items : List ℕ) (c : Freeing) → IsFreeing device f p began items c
      → IsFreeing device g q began items c
  freeing_on began items c x = record {
    began_at = omega (arith, x.began_at, (works.rises).seen);
    within = x.within;
    out = out_on (drop c.from items) x.out;
    freed = freed_on began (take c.from items) x.freed;
  }

-- a log that an own record ends
module _ {D : Type 0} (device : Disk D) (stay : RightKeepsOut) (vacuum : VacuumHolds) (keep : RecordsKeep)
    (f g : FramesValue D) (p q : Pass)
    (held : List Sheet) (s : Step) (was : IsPassOf f p) (had_right : HasRight p)
    (logs : LogsStep device f p held s g q) where
  module _ (S : Log) (Q P : Pages) (e : EndsWith device f g p q held s S Q P) where
    abbrev l : IsLogged (view_of g p S held) s S Q
    l = e.logged

    abbrev v : View
    v = view_of g p S held

    kind_is : (k : Kind) → s.kind ≡ k → (l.newest).kind ≡ drawn_kind l.log k
    kind_is k is = drawn_as l.log s l.newest l.drawn k is

    some : l.log ≢ []
    some none = (e.right).started (go (l.allowed).later v.seen (sym (l.allowed).goes_on ∙ none))
      where
        go : (xs ys : Log) → xs ++ ys ≡ [] → ys ≡ []
        go [] ys is = is
        go (x ∷ xs) ys is = absurd (omega (arith, ap length is))

    legal_then : IsLegal (l.newest ∷ l.log)
    legal_then = subst IsLegal l.log_is e.legal

    shown_then : Shows (l.newest ∷ l.log) Q
    shown_then = subst (λ (T : Log). Shows T Q) l.log_is e.shown_then

    keeps : IsVacuum (l.newest).kind → VacuumKeeps l.log l.newest (l.allowed).pages Q
    keeps is = vacuum l.log l.newest (l.allowed).pages Q some legal_then (l.allowed).shown shown_then is

    -- items that were out, before the record
    out_before : (i : ℕ) → IsOut v.seen P p.floor i → IsOut l.log (l.allowed).pages p.floor i
    out_before i o = (stay v l.log l.allowed P e.right e.shown).out p.floor i o

    now_by : (i : ℕ) → IsOut (l.newest ∷ l.log) Q p.floor i → IsOut S Q q.floor i
    now_by i o =
        subst (λ (T : Log). IsOut T Q q.floor i) (sym l.log_is)
        (out_more (l.newest ∷ l.log) Q p.floor q.floor i ((logs.works).rises).floor o)

    -- where a page of the chain of an item goes, its slot is used then
    out_dropped : (item serial : ℕ) → s.kind ≡ kind.DropPage item serial → (head_of Q item ≡ None → ⊥) → (i : ℕ)
        → IsOut v.seen P p.floor i → IsOut S Q q.floor i
    out_dropped item serial is used i o =
        let k : (l.newest).kind ≡ kind.DropPage item serial = kind_is (kind.DropPage item serial) is in
        let keeps_it = keeps (subst IsVacuum (sym k) (omega arith, omega arith)) in
        let heads = ((keep l.log l.newest (l.allowed).pages Q some legal_then
        (l.allowed).shown shown_then).dropping item
        serial k).heads in
        now_by i (elim (same_or_not item i) [
          | inl same ↦ out_used l.log l.newest (l.allowed).pages Q keeps_it p.floor i
              (λ none. used (ap (head_of Q) (sym same) ∙ none)) (out_before i o)
          | inr off ↦ out_elsewhere l.log l.newest (l.allowed).pages Q keeps_it p.floor i (heads i off) (out_before i o)
        ])

    out_freed : (page : ℕ) (new : Page) → s.kind ≡ kind.FreeSlots → s.after ≡ sheet page new ∷ [] → (i : ℕ)
        → page_of i ≢ page → IsOut v.seen P p.floor i → IsOut S Q q.floor i
    out_freed page new is after i off o =
        let k : (l.newest).kind ≡ kind.FreeSlots = kind_is kind.FreeSlots is in
        let same : Q (page_of i) ≡ (l.allowed).pages (page_of i) =
        (l.leaves).elsewhere (page_of i)
        (λ on. elim (subst (In (page_of i)) (ap sheet_pages after) on) [ inl e ↦ off e | inr none ↦ none ]) in
        now_by i (out_elsewhere l.log l.newest (l.allowed).pages Q
        (keeps (subst IsVacuum (sym k) (omega arith, omega arith))) p.floor i
        (ap (λ (c : Page). slot_at (slots_in c.body) (slot_of i)) same) (out_before i o))

    freed_before : (began i : ℕ) → WasFree began v.seen i → WasFree began S i
    freed_before began i w =
        was_free_on began i v.seen (l.newest ∷ (l.allowed).later) S
        (l.log_is ∙ ap (λ (T : Log). l.newest ∷ T) (l.allowed).goes_on) w

  module _ (heap page : Sheet) (found : Chained) (is : IsDropStep heap page found s) (ch : IsChained heap.content found)
      (number : heap.page ≡ page_of found.item) where
    -- the slot is used then
    used_then : (S : Log) (Q P : Pages) → EndsWith device f g p q held s S Q P → head_of Q found.item ≡ None → ⊥
    used_then S Q P e none =
        let l = e.logged in
        let kd = kind.DropPage found.item found.serial in
        let k : (l.newest).kind ≡ kd = drawn_as l.log s l.newest l.drawn kd is.kind_is in
        let w = is.changes ch.head ch.at in
        let made : Q heap.page ≡ made_by l.newest is.heap_then =
        (left_all (l.allowed).pages Q l.newest s (sheet heap.page is.heap_then ∷ sheet page.page is.deleted ∷ [])
        l.leaves is.after_is).0 in
        let content : (Q heap.page).body ≡ body.Heap w.new_slots =
        ap (λ (c : Page). c.body) made ∙ ap (λ (z : Kind). drawn_body z (is.heap_then).body) k
        ∙ ap (λ (c : Page). c.body) w.after in
        none_some _ (head_of Q found.item) none
        (ap (λ (n : ℕ). slot_at (slots_in (Q n).body) (slot_of found.item)) (sym number)
        ∙ ap (λ (b : Body). slot_at (slots_in b) (slot_of found.item)) content ∙ (w.put).put)

    -- a page of a chain goes
    pub dropped_on : (began : ℕ) (items : List ℕ) (c : Freeing) → IsFreeing device f p began items c
        → IsFreeing device g q began items c
    dropped_on began items c x = record {
      began_at = omega (arith, x.began_at, ((logs.works).rises).seen);
      within = x.within;
      out = logged_on device f g p q held s was had_right logs
          (λ S P. (i : ℕ) → In i (drop c.from items) → IsOut S P p.floor i)
          (λ S P. (i : ℕ) → In i (drop c.from items) → IsOut S P q.floor i)
          (λ S Q P e o i at. out_dropped S Q P e found.item found.serial is.kind_is (used_then S Q P e) i
          (o i at)) x.out;
      freed = logged_on device f g p q held s was had_right logs
          (λ S P. (i : ℕ) → In i (take c.from items) → WasFree began S i)
          (λ S P. (i : ℕ) → In i (take c.from items) → WasFree began S i)
          (λ S Q P e o i at. freed_before S Q P e began i (o i at)) x.freed;
    }

  module _ (heap : Sheet) (group : List ℕ) (is : IsFreeStep heap group s) where
    -- the slots of these items are free then
    free_then : (S : Log) (Q P : Pages) → EndsWith device f g p q held s S Q P → (i : ℕ) → In i group
        → page_of i ≡ heap.page → head_of Q i ≡ None
    free_then S Q P e i at on =
        let l = e.logged in
        let k : (l.newest).kind ≡ kind.FreeSlots = drawn_as l.log s l.newest l.drawn kind.FreeSlots is.kind_is in
        let made : Q heap.page ≡ made_by l.newest is.new =
        (left_all (l.allowed).pages Q l.newest s (sheet heap.page is.new ∷ []) l.leaves is.after_is).0 in
        let content : (Q heap.page).body ≡ body.Heap (is.frees).new_slots =
        ap (λ (c : Page). c.body) made ∙ ap (λ (z : Kind). drawn_body z (is.new).body) k
        ∙ ap (λ (c : Page). c.body) (is.frees).after in
        ap (λ (n : ℕ). slot_at (slots_in (Q n).body) (slot_of i)) on
        ∙ ap (λ (b : Body). slot_at (slots_in b) (slot_of i)) content
        ∙ ((is.frees).frees).freed i at

    pub group_on : (began end : ℕ) (items : List ℕ) (c : Freeing) → c.from ≤ end → end ≤ length items
        → group ≡ take (end - c.from) (drop c.from items) → ((i : ℕ) → In i group → page_of i ≡ heap.page)
        → ((i : ℕ) → In i (drop end items) → page_of i ≢ heap.page)
        → IsFreeing device f p began items c → IsFreeing device g q began items (record { from = end })
    group_on began end items c le most group_is here past x = record {
      began_at = omega (arith, x.began_at, ((logs.works).rises).seen);
      within = most;
      out = logged_on device f g p q held s was had_right logs
          (λ S P. (i : ℕ) → In i (drop c.from items) → IsOut S P p.floor i)
          (λ S P. (i : ℕ) → In i (drop end items) → IsOut S P q.floor i)
          (λ S Q P e o i at. out_freed S Q P e heap.page is.new is.kind_is is.after_is i (past i at)
          (o i (drop_less i c.from end items le at))) x.out;
      freed = logged_on device f g p q held s was had_right logs
          (λ S P. (i : ℕ) → In i (take c.from items) → WasFree began S i)
          (λ S P. (i : ℕ) → In i (take end items) → WasFree began S i)
          (λ S Q P e o i at. elim (take_parts i c.from end items le at) [
            | inl old ↦ freed_before S Q P e began i (o i old)
            | inr new ↦
                let on : In i group = subst (In i) (sym group_is) new in
                record {
                  length_then = length S;
                  since = omega (arith, x.began_at, e.size, length-drop (length S - p.seen) S);
                  within = omega arith;
                  pages = Q;
                  shown = subst (λ (T : Log). Shows T Q) (sym (cut_whole (length S) S refl)) e.shown_then;
                  free = free_then S Q P e i on (here i on);
                }
          ]) x.freed;
    }
