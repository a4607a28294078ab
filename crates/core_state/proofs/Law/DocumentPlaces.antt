-- Places of pages that are neither of a tree nor on the pending list, and what is there.
use Rattle.std.proofs.Common.{◌≡◌, ℕ, zero, suc, List, refl, subst}
use Rattle.std.specs.Prelude.{⊤}
use Rattle.page_types.specs.declared.page.Page.{Page}
use Rattle.page_types.specs.declared.page.Body.{Body}
use Rattle.page_types.specs.declared.page.Body.TheVariants as body
use Rattle.core_state.specs.Trees.Nodes as nodes
use Rattle.core_state.specs.Inner.Ghosts.{Place, entry_place, post_place}
use Rattle.core_state.specs.Inner.Ghosts.Place.{unused, meta, heap, line, past, shifted, left, entry, post, overflow_of}
use Rattle.core_state.specs.Inner.Ghosts.Place.{private_of}
use Rattle.core_state.specs.Inner.Kinds.{Fits}
use Rattle.core_state.specs.Inner.PageKinds.{IsHeap}

-- the page is a document's, or free to be taken
abbrev pub IsDocPlace : Place → Type 0
IsDocPlace unused = ⊤
IsDocPlace heap = ⊤
IsDocPlace past = ⊤
IsDocPlace (overflow_of i) = ⊤
IsDocPlace (private_of i) = ⊤
IsDocPlace _ = ⊥

pub doc_entry : (x : Place) → IsDocPlace x → entry_place x ≡ nodes.TreePlace.none
doc_entry unused d = refl
doc_entry heap d = refl
doc_entry past d = refl
doc_entry (overflow_of i) d = refl
doc_entry (private_of i) d = refl
doc_entry _ d = absurd d

pub doc_post : (x : Place) → IsDocPlace x → post_place x ≡ nodes.TreePlace.none
doc_post unused d = refl
doc_post heap d = refl
doc_post past d = refl
doc_post (overflow_of i) d = refl
doc_post (private_of i) d = refl
doc_post _ d = absurd d

-- the place of a heap page
pub heap_place : (L : ℕ) (x : Place) (p : Page) → Fits L x p → IsHeap p.body → x ≡ heap
heap_place L heap p f is = refl
heap_place L unused p f is = absurd (subst (λ (q : Page). IsHeap q.body) f is)
heap_place L past p f is = absurd (subst IsHeap f.1 is)
heap_place L (overflow_of i) p f is = absurd (subst IsHeap f.1 is)
heap_place L (private_of i) p f is = absurd (subst IsHeap f.1 is)
heap_place L meta p f is = absurd (subst IsHeap f.3 is)
heap_place L line p f is = absurd (subst IsHeap f.1 is)
heap_place L shifted p f is = absurd (subst IsHeap f.1 is)
heap_place L (left r) p f is = absurd (subst IsHeap f.1 is)
heap_place L (entry zero) p f is = absurd (subst IsHeap f.2 is)
heap_place L (entry (suc h)) p f is = absurd (subst IsHeap f.1 is)
heap_place L (post r zero) p f is = absurd (subst IsHeap f.2 is)
heap_place L (post r (suc h)) p f is = absurd (subst IsHeap f.1 is)

pub heap_fits : (L : ℕ) (p : Page) → IsHeap p.body → Fits L heap p
heap_fits L p is = go p.body is
  where
    go : (b : Body) → IsHeap b → (slots : List _) × (b ≡ body.Heap slots)
    go (body.Heap slots) is = (slots, refl)
    go _ is = absurd is
