-- A page that a step leaves has an encoding as the record makes it: the stamp and a head's serial change no length.
use Rattle.std.proofs.Common.{◌≡◌, ◌≢◌, ◌^◌, ◌<◌, ℕ, zero, suc, List, [], ◌∷◌, ◌++◌, length, refl, ap, arith}
use Rattle.std.specs.Prelude.{Option, Some, None}
use Rattle.std.specs.List.{AllByRecursion, flat_map}
use Rattle.std.proofs.lemmas.List.{length-append}
use Rattle.page_types.specs.Numbers.{u32_bytes, u64_bytes}
use Rattle.page_types.specs.Encoding.{slot_bytes, head_bytes}
use Rattle.page_types.specs.Pages.{IsPage, IsBody, IsSlot}
use Rattle.page_types.specs.Records.{IsKind}
use Rattle.page_types.specs.declared.page.Head.{Head}
use Rattle.page_types.specs.declared.page.Body.{Body}
use Rattle.page_types.specs.declared.page.Body.TheVariants as body
use Rattle.page_types.specs.declared.record.Kind.{Kind}
use Rattle.page_types.specs.declared.record.Kind.TheVariants as kind
use Rattle.page_types.proofs.Framing.{length-u64_bytes}
use Rattle.core_state.specs.Documents.{slot_of}
use Rattle.core_state.specs.Allowed.{with_serial, numbered, drawn_body}
use Rattle.core_state.specs.Laws.{MadeIsPage}

-- a slot with another serial
serial_slot : (h : Option Head) (serial : ℕ) → serial < 2 ^ 64 → IsSlot h → IsSlot (with_serial h serial)
serial_slot None serial small is = tt
serial_slot (Some h) serial small is = record {
  serial = small;
  inserted_by = is.inserted_by;
  deleted_by = is.deleted_by;
  overflow = is.overflow;
  private = is.private;
  bytes = is.bytes;
  vector = is.vector;
}

abbrev behind_serial : Head → List ℕ
behind_serial h = u32_bytes h.inserted_by ++
    (u32_bytes h.deleted_by ++ (u32_bytes h.overflow ++ (u32_bytes h.private ++ (u32_bytes h.bytes ++ h.vector))))

serial_size : (h : Option Head) (serial : ℕ) → length (slot_bytes (with_serial h serial)) ≡ length (slot_bytes h)
unfolding head_bytes
serial_size None serial = refl
serial_size (Some h) serial =
    omega (
      arith,
      length-append (u64_bytes serial) (behind_serial h),
      length-append (u64_bytes h.serial)
          (behind_serial h),
      length-u64_bytes serial,
      length-u64_bytes h.serial,
    )

-- slots, one of them with another serial
numbered_slots : (hs : List (Option Head)) (k serial : ℕ) → serial < 2 ^ 64 → AllByRecursion IsSlot hs
    → AllByRecursion IsSlot (numbered hs k serial)
numbered_slots [] k serial small all = tt
numbered_slots (h ∷ hs) zero serial small all = (serial_slot h serial small all.0, all.1)
numbered_slots (h ∷ hs) (suc k) serial small all = (all.0, numbered_slots hs k serial small all.1)

pub numbered_length : (hs : List (Option Head)) (k serial : ℕ) → length (numbered hs k serial) ≡ length hs
numbered_length [] k serial = refl
numbered_length (h ∷ hs) zero serial = refl
numbered_length (h ∷ hs) (suc k) serial = ap suc (numbered_length hs k serial)

numbered_size : (hs : List (Option Head)) (k serial : ℕ)
    → length (flat_map slot_bytes (numbered hs k serial)) ≡ length (flat_map slot_bytes hs)
numbered_size [] k serial = refl
numbered_size (h ∷ hs) zero serial = omega (
  arith,
  length-append (slot_bytes (with_serial h serial)) (flat_map slot_bytes hs),
  length-append (slot_bytes h) (flat_map slot_bytes hs),
  serial_size h serial,
)
numbered_size (h ∷ hs) (suc k) serial = omega (
  arith,
  length-append (slot_bytes h) (flat_map slot_bytes (numbered hs k serial)),
  length-append (slot_bytes h) (flat_map slot_bytes hs),
  numbered_size hs k serial,
)

-- what is on a page that isn't free speaks of no stamp
stamped_body : (right stamp number : ℕ) (b : Body) → b ≢ body.Free → IsBody right stamp b → IsBody right number b
stamped_body right stamp number body.Free off is = absurd (off refl)
stamped_body right stamp number (body.Meta first last pages) off is = is
stamped_body right stamp number (body.Heap slots) off is = is
stamped_body right stamp number (body.Overflow bytes) off is = is
stamped_body right stamp number (body.Pending rows) off is = is
stamped_body right stamp number (body.EntryLeaf high entries) off is = is
stamped_body right stamp number (body.EntryInner children) off is = is
stamped_body right stamp number (body.PostLeaf high items) off is = is
stamped_body right stamp number (body.PostInner children) off is = is
stamped_body right stamp number (body.Deleted gone) off is = is

-- a page with this right link, this stamp and this content
abbrev IsPageOf : ℕ → ℕ → Body → Type 0
IsPageOf right stamp b = IsPage (record { right = right; stamp = stamp; body = b })

stamped : (right stamp number : ℕ) (b : Body) → number < 2 ^ 64 → b ≢ body.Free → IsPageOf right stamp b
    → IsPageOf right number b
stamped right stamp number b small off is = record {
  right = is.right;
  stamp = small;
  body = stamped_body right stamp number b off is.body;
  count = is.count;
  fits =
      is.fits;
}

placed_page : (right stamp number item serial : ℕ) (b : Body) → serial < 2 ^ 64 → number < 2 ^ 64 → b ≢ body.Free
    → IsPageOf right stamp b
    → IsPageOf right number (drawn_body (kind.PlaceHead item serial) b)
placed_page right stamp number item serial body.Free drawn small off is = absurd (off refl)
placed_page right stamp number item serial (body.Meta first last pages) drawn small off is = stamped right stamp
    number (body.Meta first last pages) small off is
placed_page right stamp number item serial (body.Heap slots) drawn small off is = record {
  right = is.right;
  stamp = small;
  body = (
    omega (arith, numbered_length slots (slot_of item) serial, is.body.0),
    numbered_slots slots
        (slot_of item) serial drawn is.body.1,
  );
  count = omega (arith, numbered_length slots (slot_of item) serial, is.count);
  fits = omega (arith, numbered_size slots (slot_of item) serial, is.fits);
}
placed_page right stamp number item serial (body.Overflow bytes) drawn small off is = stamped right stamp number
    (body.Overflow bytes) small off is
placed_page right stamp number item serial (body.Pending rows) drawn small off is = stamped right stamp number
    (body.Pending rows) small off is
placed_page right stamp number item serial (body.EntryLeaf high entries) drawn small off is = stamped right stamp
    number (body.EntryLeaf high entries) small off is
placed_page right stamp number item serial (body.EntryInner children) drawn small off is = stamped right stamp number
    (body.EntryInner children) small off is
placed_page right stamp number item serial (body.PostLeaf high items) drawn small off is = stamped right stamp number
    (body.PostLeaf high items) small off is
placed_page right stamp number item serial (body.PostInner children) drawn small off is = stamped right stamp number
    (body.PostInner children) small off is
placed_page right stamp number item serial (body.Deleted gone) drawn small off is = stamped right stamp number
    (body.Deleted gone) small off is

drawn_page : (k : Kind) (right stamp number : ℕ) (b : Body) → IsKind k → number < 2 ^ 64 → b ≢ body.Free
    → IsPageOf right stamp b → IsPageOf right number (drawn_body k b)
drawn_page (kind.PlaceHead item serial) right stamp number b is_kind small off is = placed_page right stamp number
    item serial b is_kind.1 small off is
drawn_page _ right stamp number b is_kind small off is = stamped right stamp number b small off is

pub made_is_page : MadeIsPage
made_is_page r c is_record off is = drawn_page r.kind c.right c.stamp r.number c.body is_record.kind is_record.number
    off is
