-- The records of the work of a statement.
use Rattle.std.proofs.Common.{◌≡◌, ℕ, zero, suc, ◌+◌, ◌-◌, Bool, true, false, ◌&&◌, ◌==◌, nat_lt, List, []}
use Rattle.std.proofs.Common.{◌∷◌, ◌++◌, length, refl, sym, ap, subst, ◌∙◌, append_assoc, arith}
use Rattle.std.specs.Prelude.{Option, Some, None, if◌then◌else◌}
use Rattle.std.proofs.lemmas.List.{append-nil}
use Rattle.std.specs.List.{slice_get, AllByRecursion}
use Rattle.ts_base.specs.Vectors.{Vector}
use Rattle.ts_base.specs.Encoding.{vector_bytes}
use Rattle.ts_base.specs.Keys.{Key, keys_of}
use Rattle.page_types.specs.Views.{free_page}
use Rattle.page_types.specs.declared.record.Record.{Record}
use Rattle.page_types.specs.declared.record.Kind.{Kind}
use Rattle.page_types.specs.declared.record.Kind.TheVariants as kind
use Rattle.core_state.specs.Allowed.{Sheet}
use Rattle.core_state.specs.Documents.{Doc, doc_at, name_of, page_of, slot_of}
use Rattle.core_state.specs.Lives.{placer, placer_in, life_in}
use Rattle.core_state.specs.States.{StateValue, fate_of}
use Rattle.core_state.specs.declared.answers.Fate.{Fate}
use Rattle.core_state.specs.declared.lives.Life.{Life}
use Rattle.core_state.specs.declared.lives.Placed.{Placed}
use Rattle.core_state.proofs.Showing.{free_is}
use Rattle.buffer_frames.specs.Drawing.{images_of, made_sheets}
use Rattle.engine.specs.Finding.{Name}
use Rattle.engine.specs.Work.{Work, IsBeginOf, IsMarkOf, IsPlaceOf, IsPartOf, AreMarks, AreParts}
use Rattle.engine.specs.Work.{ArePut, ArePlaces, AreIndexing, AreStored, IsRowPageOf, IsRowOf, IsLinkOf, IsWork}
use Rattle.engine.specs.Work.{IsBegunWork, AreAborted, AreRefused, parts_for}
use Rattle.engine.specs.Causes.{IsListedIn}
use Rattle.engine.proofs.Logs.{NotCommit, AreNoCommits, none_of_both}

-- ── a name that a store lists is a document's ──

abbrev pub IsNamed : Name → Type 0
IsNamed n = (d : Doc) × (name_of d ≡ n)

tested : (a b : ℕ) → (a == b) ≡ true → a ≡ b
tested a b e = grind (arith, e)

both_true : (a b : Bool) (x y : ℕ) → (if a && b then Some x else None) ≡ Some y → (a ≡ true) × (b ≡ true)
both_true true true x y e = (refl, refl)
both_true true false x y e = absurd (cc)
both_true false b x y e = absurd (cc)

named_in : (n : Name) (o : Option Placed) (x : ℕ) → placer_in n o ≡ Some x → IsNamed n
named_in n None x e = absurd (cc)
named_in n (Some p) x e =
    let t = both_true (n.page == page_of p.item) (n.slot == slot_of p.item) p.xid x e in
    let page : page_of p.item ≡ n.page = sym (tested n.page (page_of p.item) t.0) in
    let slot : slot_of p.item ≡ n.slot = sym (tested n.slot (slot_of p.item) t.1) in (
      doc_at p.item n.serial,
      ap (λ (z : ℕ). record { page = z; slot = slot_of p.item; serial = n.serial }) page
          ∙ ap (λ (z : ℕ). record { page = n.page; slot = z; serial = n.serial }) slot,
    )

named_by : (n : Name) (b : Bool) (o : Option Placed) (x : ℕ) → (if b then placer_in n o else None) ≡ Some x → IsNamed n
named_by n true o x e = named_in n o x e
named_by n false o x e = absurd (cc)

some_placer : (fates : ℕ → Fate) (es : List ℕ) (n : Name) (o : Option ℕ) (life : Life)
    → life_in fates es n o ≡ Some life → (x : ℕ) × (o ≡ Some x)
some_placer fates es n None life e = absurd (cc)
some_placer fates es n (Some x) life e = (x, refl)

pub listed_named : (s : StateValue) (k : ℕ) (n : Name) → IsListedIn s k n → IsNamed n
listed_named s k n l =
    let p = some_placer (fate_of s) s.ends n (placer s.placed n) l.life l.is in
    named_by n (nat_lt 0 n.serial) (slice_get s.placed (n.serial - 1)) p.0 p.1

-- ── there are records for the rest of the work ──

abbrev some_sheet : Sheet
some_sheet = record { page = 0; content = free_page }

record_with : ℕ → Kind → List Sheet → Record
record_with x k xs =
    let r : Record = record { number = 0; xid = x; kind = k; changes = [] } in
    record r { changes = images_of (made_sheets r xs) }

some_mark : (x : ℕ) (n : Name) → IsNamed n → (r : Record) × IsMarkOf x n r
unfolding record_with
some_mark x n named = (
  record_with x (kind.MarkDeleted named.0.item named.0.serial) (some_sheet ∷ []),
  record {
    doc = named.0;
    named = named.1;
    xid = refl;
    kind_is = refl;
    images = (some_sheet ∷ [], refl, (free_is, tt), refl);
  },
)

some_marks : (x : ℕ) (o : Option Name) → ((n : Name) → o ≡ Some n → IsNamed n) → (rs : List Record) × AreMarks o x rs
some_marks x None named = ([], refl)
some_marks x (Some n) named = let m = some_mark x n (named n refl) in (m.0 ∷ [], (m.1, refl))

some_parts : (x : ℕ) (d : Doc) (n : ℕ) → (rs : List Record) × AreParts d x n rs
unfolding record_with
some_parts x d zero = ([], refl)
some_parts x d (suc n) =
    let rest = some_parts x d n in
    let part : IsPartOf x d (record_with x (kind.PutOverflow d.item d.serial) (some_sheet ∷ some_sheet ∷ [])) =
    record {
      xid = refl;
      kind_is = refl;
      images = (some_sheet ∷ some_sheet ∷ [], refl, (free_is, (free_is, tt)), refl);
    } in
    let more : suc n ≡ n + 1 = omega arith in (
      record_with x (kind.PutOverflow d.item d.serial) (some_sheet ∷ some_sheet ∷ []) ∷ rest.0,
      (part, (n, more, rest.1)),
    )

some_put : (x : ℕ) (bytes : List ℕ) (d : Doc) → (rs : List Record) × ArePut bytes x d rs
unfolding record_with
some_put x bytes d =
    let rest = some_parts x d (parts_for (length bytes)) in
    let place : IsPlaceOf x d (record_with x (kind.PlaceHead d.item d.serial) (some_sheet ∷ [])) =
    record { xid = refl; kind_is = refl; images = (some_sheet ∷ [], refl, (free_is, tt), refl) } in
    (record_with x (kind.PlaceHead d.item d.serial) (some_sheet ∷ []) ∷ rest.0, (place, rest.1))

-- a row of all keys
pub some_row : (x : ℕ) (d : Doc) → (r : Record) × IsRowOf x d r
unfolding record_with
some_row x d = (
  record_with x (kind.AddRow d.item d.serial) (some_sheet ∷ []),
  record { xid = refl; kind_is = refl; images = (some_sheet ∷ [], refl, (free_is, tt), refl) },
)

pub some_rows : (x : ℕ) (d : Doc) (keys : List Key) → (rs : List Record) × AreIndexing x d keys rs
some_rows x d keys = let r = some_row x d in (r.0 ∷ [], AreIndexing.row r.0 r.1 refl)

some_stored : (x : ℕ) (bytes : List ℕ) (keys : List Key) → (rs : List Record) × AreStored bytes keys x rs
some_stored x bytes keys =
    let d : Doc = doc_at 0 0 in
    let puts = some_put x bytes d in
    let rows = some_rows x d keys in (
      puts.0 ++ rows.0,
      record { doc = d; puts = puts.0; rows = rows.0; order = refl; are_put = puts.1; are_rows = rows.1 },
    )

some_places : (x : ℕ) (o : Option Vector) → (rs : List Record) × ArePlaces o x rs
some_places x None = ([], refl)
some_places x (Some v) = some_stored x (vector_bytes v) (keys_of v)

-- ── the work so far ──

module _ (w : Work) (x : ℕ) (b : Record) (begin : IsBeginOf x b) where
  -- it has begun
  pub begun_only : ((n : Name) → w.deletes ≡ Some n → IsNamed n) → IsBegunWork w x (b ∷ [])
  begun_only named =
      let marks = some_marks x w.deletes named in
      let places = some_places x w.inserts in (
        begin,
        (
          marks.0 ++ places.0,
          record {
            marks = marks.0;
            places = places.0;
            order = refl;
            are_marks = marks.1;
            are_places = places.1;
          },
        ),
      )

  -- and what it deletes is marked
  pub begun_marked : (marks : List Record) → AreMarks w.deletes x marks → IsBegunWork w x (b ∷ marks)
  begun_marked marks are =
      let places = some_places x w.inserts in (
        begin,
        (
          places.0,
          record {
            marks = marks;
            places = places.0;
            order = refl;
            are_marks = are;
            are_places = places.1;
          },
        ),
      )

  -- and some of what it inserts is put
  pub begun_placing : (marks done rest : List Record) → AreMarks w.deletes x marks
      → ArePlaces w.inserts x (done ++ rest) → IsBegunWork w x (b ∷ (marks ++ done))
  begun_placing marks done rest are put = (
    begin,
    (
      rest,
      record {
        marks = marks;
        places = done ++ rest;
        order = append_assoc marks done rest;
        are_marks = are;
        are_places = put;
      },
    ),
  )

  -- all of it is done
  pub begun_done : (done : List Record) → IsWork w x done → IsBegunWork w x (b ∷ done)
  begun_done done is = (begin, ([], subst (IsWork w x) (sym (append-nil done)) is))

-- ── none of them is a Commit ──

plain_of : (r : Record) (k : Kind) → r.kind ≡ k → NotCommit k → NotCommit r.kind
plain_of r k e plain = subst NotCommit (sym e) plain

marks_plain : (x : ℕ) (o : Option Name) (rs : List Record) → AreMarks o x rs → AreNoCommits rs
marks_plain x None rs are = subst AreNoCommits (sym are) tt
marks_plain x (Some n) [] are = tt
marks_plain x (Some n) (r ∷ rs) are =
    (plain_of r (kind.MarkDeleted are.0.doc.item are.0.doc.serial) are.0.kind_is tt, subst AreNoCommits (sym are.1) tt)

pub parts_plain : (x : ℕ) (d : Doc) (n : ℕ) (rs : List Record) → AreParts d x n rs → AreNoCommits rs
parts_plain x d n [] are = tt
parts_plain x d n (r ∷ rs) are =
    (plain_of r (kind.PutOverflow d.item d.serial) are.0.kind_is tt, parts_plain x d are.1.0 rs are.1.2)

pub put_plain : (x : ℕ) (bytes : List ℕ) (d : Doc) (rs : List Record) → ArePut bytes x d rs → AreNoCommits rs
put_plain x bytes d [] are = tt
put_plain x bytes d (r ∷ rs) are = (
  plain_of r (kind.PlaceHead d.item d.serial) are.0.kind_is tt,
  parts_plain x d (parts_for (length bytes)) rs are.1,
)

pub row_pages_plain : (x : ℕ) (d : Doc) (rs : List Record) → AllByRecursion (IsRowPageOf x d) rs → AreNoCommits rs
row_pages_plain x d [] all = tt
row_pages_plain x d (r ∷ rs) all =
    (plain_of r (kind.PutPending d.item d.serial) (all.0).kind_is tt, row_pages_plain x d rs all.1)

pub link_plain : (x : ℕ) (d : Doc) (r : Record) → IsLinkOf x d r → AreNoCommits (r ∷ [])
link_plain x d r is = (plain_of r (kind.LinkPending d.item d.serial) is.kind_is tt, tt)

pub rows_plain : (x : ℕ) (d : Doc) (keys : List Key) (rs : List Record) → AreIndexing x d keys rs → AreNoCommits rs
rows_plain x d keys rs (AreIndexing.row r is all) =
    subst AreNoCommits (sym all) (plain_of r (kind.AddRow d.item d.serial) is.kind_is tt, tt)
rows_plain x d keys rs (AreIndexing.pages packed puts link pack are few is all) =
    subst AreNoCommits (sym all) (none_of_both puts (link ∷ []) (row_pages_plain x d puts are) (link_plain x d link is))

stored_plain : (x : ℕ) (bytes : List ℕ) (keys : List Key) (rs : List Record) → AreStored bytes keys x rs
    → AreNoCommits rs
stored_plain x bytes keys rs are =
    subst AreNoCommits (sym are.order)
    (none_of_both are.puts are.rows (put_plain x bytes are.doc are.puts are.are_put)
    (rows_plain x are.doc keys are.rows are.are_rows))

places_plain : (x : ℕ) (o : Option Vector) (rs : List Record) → ArePlaces o x rs → AreNoCommits rs
places_plain x None rs are = subst AreNoCommits (sym are) tt
places_plain x (Some v) rs are = stored_plain x (vector_bytes v) (keys_of v) rs are

pub work_plain : (w : Work) (x : ℕ) (rs : List Record) → IsWork w x rs → AreNoCommits rs
work_plain w x rs is = subst AreNoCommits (sym is.order)
    (none_of_both is.marks is.places (marks_plain x w.deletes is.marks is.are_marks)
    (places_plain x w.inserts is.places is.are_places))

front_plain : (rs qs : List Record) → AreNoCommits (rs ++ qs) → AreNoCommits rs
front_plain [] qs none = tt
front_plain (r ∷ rs) qs none = (none.0, front_plain rs qs none.1)

pub begin_plain : (x : ℕ) (b : Record) → IsBeginOf x b → NotCommit b.kind
begin_plain x b is = plain_of b kind.Begin is.kind_is tt

begun_plain : (w : Work) (x : ℕ) (rs : List Record) → IsBegunWork w x rs → AreNoCommits rs
begun_plain w x [] is = tt
begun_plain w x (b ∷ done) is =
    (begin_plain x b is.0, front_plain done is.1.0 (work_plain w x (done ++ is.1.0) is.1.1))

pub refused_plain : (w : Work) (rs : List Record) → AreRefused w rs → AreNoCommits rs
refused_plain w rs (AreRefused.ended (AreAborted.none e)) = subst AreNoCommits (sym e) tt
refused_plain w rs (AreRefused.ended (AreAborted.aborted x begun e is abort order)) = subst AreNoCommits (sym order)
    (none_of_both begun (e ∷ []) (begun_plain w x begun is) (plain_of e kind.Abort abort.kind_is tt, tt))
refused_plain w rs (AreRefused.left x is) = begun_plain w x rs is
