-- What a session shows of a page that is made here, so that it may log it.
use Rattle.std.specs.Prelude.{◌≡◌, ◌⊎◌, ℕ, List, [], ◌∷◌, Option, Some}
use Rattle.page_types.specs.declared.page.Page.{Page}
use Rattle.page_types.specs.declared.page.Head.{Head}
use Rattle.page_types.specs.declared.page.Body.TheVariants as body
use Rattle.page_types.specs.declared.record.Kind.TheVariants as kind
use Rattle.core_state.specs.Log.{Pages, In, fate}
use Rattle.core_state.specs.Documents.{Doc, page_of, slot_of, item_at}
use Rattle.core_state.specs.HeapRules.{IsNewHead}
use Rattle.core_state.specs.Allowed.{View, Step}
use Rattle.core_state.specs.Steps.{RunsOwn, IsNewSheet, CanPlace, CanMark, sheet}
use Rattle.core_state.specs.declared.answers.Fate.TheVariants.{Aborted, Committed}
use Rattle.doc_heap.specs.HeapPages.{head_on, ChangesSlot, IsPlaced}

-- the page is an old heap page, or a new page
abbrev pub IsHeapOrNew : Pages → ℕ → ℕ → Page → Type 0
IsHeapOrNew P since p c =
    ((slots : List (Option Head)) × (c.body ≡ body.Heap slots)) ⊎ IsNewSheet P since p c

-- a step that places a new head of an own transaction on a held page, an old heap page or a new one,
-- has all that it needs to be logged
abbrev pub PlacedMayBeLogged : Type 0
PlacedMayBeLogged =
    (v : View) (P : Pages) (s : Step) (p slot serial : ℕ) (head : Head) (old new : Page)
    → IsPlaced old head new slot → IsHeapOrNew P v.since p old → IsNewHead head serial s.xid
    → RunsOwn v s.xid → In (sheet p old) v.held
    → s.kind ≡ kind.PlaceHead (item_at p slot) serial → s.after ≡ sheet p new ∷ [] → CanPlace v P s

-- so has a step that marks a head on a held page, which is the document's, was inserted by a
-- committed transaction, and is unmarked or marked by an aborted one
abbrev pub MarkedMayBeLogged : Type 0
MarkedMayBeLogged =
    (v : View) (P : Pages) (s : Step) (d : Doc) (h : Head) (number : ℕ) (old new : Page)
    → ChangesSlot old (slot_of d.item) (Some (record h { deleted_by = s.xid })) new
    → head_on old (slot_of d.item) ≡ Some h → h.serial ≡ d.serial
    → fate v.seen h.inserted_by ≡ Committed number
    → ((h.deleted_by ≡ 0) ⊎ (fate v.seen h.deleted_by ≡ Aborted))
    → RunsOwn v s.xid → In (sheet (page_of d.item) old) v.held
    → s.kind ≡ kind.MarkDeleted d.item d.serial → s.after ≡ sheet (page_of d.item) new ∷ []
    → CanMark v P s
