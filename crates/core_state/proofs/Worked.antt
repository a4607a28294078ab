-- The definitions at a log whose bytes were worked out apart from them: on an empty store the head of
-- 'cat':1 'fat':2 is placed, whose keys are not in the index yet.
use Rattle.std.proofs.Common.{◌≡◌, ◌≢◌, ◌<◌, ◌≤◌, ◌⊎◌, ℕ, zero, suc, List, [], ◌∷◌, ◌++◌, replicate, refl, sym, ap}
use Rattle.std.proofs.Common.{subst, ◌∙◌, inl, inr, arith}
use Rattle.std.specs.Prelude.{Option, Some, None}
use Rattle.std.specs.List.{AllPairs}
use Rattle.std.proofs.lemmas.List.Elements.{All-cons, All-nil}
use Rattle.std.proofs.lemmas.List.Kept.{AllPairs-cons}
use Rattle.std.proofs.lemmas.Str.{IsUtf8-from_ascii}
use Rattle.std.proofs.lemmas.Str.Ascii.{IsAscii-nil, IsAscii-cons}
use Rattle.ts_base.specs.declared.Weight.TheVariants.{D}
use Rattle.ts_base.specs.Lexemes.{IsLexeme, IsBefore}
use Rattle.ts_base.specs.Vectors.{Position, Entry, Vector, IsPosition, IsEntry, IsNormal}
use Rattle.ts_base.specs.Keys.{Key, lexeme_key, placeholder, keys_of}
use Rattle.page_types.specs.Numbers.{page_limit, u16_bytes, u32_bytes, u64_bytes, zeros}
use Rattle.page_types.specs.Encoding.{page_bytes, front_bytes, framed, head_bytes}
use Rattle.page_types.specs.Pages.{IsPage, IsHead}
use Rattle.page_types.specs.Records.{IsChange, IsRecord}
use Rattle.page_types.specs.Edits.{edited, CanEdit}
use Rattle.page_types.proofs.PageLaws.{has_parts}
use Rattle.page_types.specs.Views.{free_page, entries_of, slots_of, slot_at}
use Rattle.page_types.specs.declared.page.Page.{Page}
use Rattle.page_types.specs.declared.page.Head.{Head}
use Rattle.page_types.specs.declared.page.Entry as on_page
use Rattle.page_types.specs.declared.page.Body.TheVariants as body
use Rattle.page_types.specs.declared.record.Change.{Change}
use Rattle.page_types.specs.declared.record.Edit.TheVariants.{Image}
use Rattle.page_types.specs.declared.record.Record.{Record}
use Rattle.page_types.specs.declared.record.Kind.{Kind}
use Rattle.page_types.specs.declared.record.Kind.TheVariants as kind
use Rattle.core_state.specs.Log.{Log, Pages, In, Shows, replay}
use Rattle.core_state.specs.Documents.{Doc, slot_of, IsChain}
use Rattle.core_state.specs.Index.{NoPair, IsIndexed}
use Rattle.core_state.specs.Known.{use_in}
use Rattle.core_state.specs.Changes.{IsNew}
use Rattle.core_state.specs.TransactionRules.{IsCommit}
use Rattle.core_state.specs.Legal.{RuleHolds, ChangesFrom, IsImageOf, ImagesFrom, RecordsAreValid, IsLegal}
use Rattle.core_state.specs.declared.answers.PageUse.TheVariants as usage
use Rattle.core_state.proofs.RulesByKind.{kind_rule}
use Rattle.core_state.proofs.Showing.{replay_kept, none_yet, free_is, shown_none}

-- the vector, and its bytes
abbrev place : ℕ → Position
place n = record { at = n; weight = D }

abbrev cat : List ℕ
cat = 99 ∷ 97 ∷ 116 ∷ []

abbrev fat : List ℕ
fat = 102 ∷ 97 ∷ 116 ∷ []

abbrev first_entry : Entry
first_entry = record { lexeme = cat; positions = place 1 ∷ [] }

abbrev second_entry : Entry
second_entry = record { lexeme = fat; positions = place 2 ∷ [] }

abbrev pub vector : Vector
vector = first_entry ∷ second_entry ∷ []

abbrev pub bytes : List ℕ
bytes = 2 ∷ 0 ∷ 0 ∷ 0 ∷ 3 ∷ 0 ∷ 99 ∷ 97 ∷ 116 ∷ 1 ∷ 0 ∷ 1 ∷ 0 ∷ 3 ∷ 0 ∷ 102 ∷ 97 ∷ 116 ∷ 1 ∷ 0 ∷ 2 ∷ 0 ∷ []

-- the pages that the records leave
abbrev pub meta_page : Page
meta_page = record { right = 0; stamp = 1; body = body.Meta 0 0 0 }

abbrev pub root_page : Page
root_page = record { right = 0; stamp = 1; body = body.EntryLeaf [] [] }

abbrev pub head : ℕ → Head
head xid = record {
  serial = 1;
  inserted_by = xid;
  deleted_by = 0;
  overflow = 0;
  private = 0;
  bytes = 22;
  vector =
      bytes;
}

abbrev pub heap_page : ℕ → Page
heap_page xid = record { right = 0; stamp = 3; body = body.Heap (Some (head xid) ∷ []) }

heap_bytes : page_bytes (heap_page 1) ≡ (2 ∷ 0 ∷ 1 ∷ 0 ∷ 0 ∷ 0 ∷ 0 ∷ 0 ∷ 3 ∷ 0 ∷ 0 ∷ 0 ∷ 0 ∷ 0 ∷ 0 ∷ 0 ∷ 51 ∷ 0 ∷ 0 ∷
    0 ∷ 0 ∷ 0 ∷ 0 ∷ 0 ∷ 1 ∷ 1 ∷ 0 ∷ 0 ∷ 0 ∷ 0 ∷ 0 ∷ 0 ∷ 0 ∷ 1 ∷ 0 ∷ 0 ∷ 0 ∷ 0 ∷ 0 ∷ 0 ∷ 0 ∷ 0 ∷ 0 ∷ 0 ∷ 0 ∷ 0 ∷ 0 ∷
    0 ∷ 0 ∷ 22 ∷ 0 ∷ 0 ∷ 0 ∷ 2 ∷ 0 ∷ 0 ∷ 0 ∷ 3 ∷ 0 ∷ 99 ∷ 97 ∷ 116 ∷ 1 ∷ 0 ∷ 1 ∷ 0 ∷ 3 ∷ 0 ∷ 102 ∷ 97 ∷ 116 ∷ 1 ∷ 0 ∷
    2 ∷ 0 ∷ []) ++ replicate 8117 0
unfolding page_bytes front_bytes framed u16_bytes u32_bytes u64_bytes zeros head_bytes
heap_bytes = refl

abbrev pub made : Pages
made zero = meta_page
made (suc zero) = root_page
made (suc (suc p)) = free_page

abbrev pub placed_by : ℕ → Pages
placed_by xid zero = meta_page
placed_by xid (suc zero) = root_page
placed_by xid (suc (suc zero)) = heap_page xid
placed_by xid (suc (suc (suc p))) = free_page

-- the records
abbrev pub image : ℕ → Page → Change
image p page = record { page = p; edit = Image (page_bytes page) }

abbrev create_record : Record
create_record = record {
  number = 1;
  xid = 0;
  kind = kind.Create;
  changes = image 0 meta_page ∷ image 1 root_page ∷
      [];
}

abbrev begin_record : ℕ → Record
begin_record xid = record { number = 2; xid = xid; kind = kind.Begin; changes = [] }

-- the head that is placed is of this transaction
abbrev pub head_record : ℕ → Record
head_record xid = record { number = 3; xid = 1; kind = kind.PlaceHead 4096 1; changes = image 2 (heap_page xid) ∷ [] }

-- a commit right behind it
abbrev early_record : Record
early_record = record { number = 4; xid = 1; kind = kind.Commit 1; changes = [] }

abbrev log_made : Log
log_made = create_record ∷ []

abbrev pub log_begun : Log
log_begun = begin_record 1 ∷ log_made

abbrev pub log_placed : Log
log_placed = head_record 1 ∷ log_begun

abbrev pub doc : Doc
doc = record { item = 4096; serial = 1 }

-- they are pages
pub meta_is : IsPage meta_page
unfolding u32_bytes
meta_is = record {
  right = omega arith;
  stamp = omega arith;
  body = record
      { first_page = omega arith; last_page = omega arith; number = omega arith };
  count = omega arith;
  fits = omega
      arith;
}

pub root_is : IsPage root_page
root_is = record {
  right = omega arith;
  stamp = omega arith;
  body =
      (inl (refl, refl), record { each = tt; rising = tt });
  count = omega arith;
  fits = omega arith;
}

pub head_is : IsHead (head 1)
head_is = record {
  serial = omega arith;
  inserted_by = omega arith;
  deleted_by = omega arith;
  overflow = omega arith;
  private = omega arith;
  bytes = omega arith;
  vector = inl (omega arith, refl);
}

heap_is : IsPage (heap_page 1)
unfolding head_bytes u32_bytes u64_bytes
heap_is = record {
  right = omega arith;
  stamp = omega arith;
  body =
      (omega arith, (head_is, tt));
  count = omega arith;
  fits = omega arith;
}

-- the pages are what the records leave
behind_two : (p : ℕ) → In (suc (suc p)) (0 ∷ 1 ∷ []) → ⊥
behind_two p (inl e) = omega (arith, e)
behind_two p (inr (inl e)) = omega (arith, e)
behind_two p (inr (inr e)) = absurd e

pub behind_three : (p : ℕ) → In (suc (suc (suc p))) (2 ∷ []) → ⊥
behind_three p (inl e) = omega (arith, e)
behind_three p (inr e) = absurd e

shown_made : Shows log_made made
unfolding replay edited
shown_made zero = (meta_is, refl)
shown_made (suc zero) = (root_is, refl)
shown_made (suc (suc p)) =
    (free_is, (shown_none (suc (suc p))).1 ∙ sym (replay_kept [] create_record (suc (suc p)) (behind_two p)))

pub shown_begun : Shows log_begun made
unfolding replay
shown_begun p = shown_made p

pub shown_placed : Shows log_placed (placed_by 1)
unfolding replay edited
shown_placed zero = (meta_is, refl)
shown_placed (suc zero) = (root_is, refl)
shown_placed (suc (suc zero)) = (heap_is, refl)
shown_placed (suc (suc (suc p))) = (
  free_is,
  (shown_begun (suc (suc (suc p)))).1
      ∙ sym (replay_kept log_begun (head_record 1) (suc (suc (suc p))) (behind_three p)),
)

-- no page of the index has anything on it
pub in_no_chain : (P : Pages) (qs : List ℕ) (q : ℕ) → IsChain P 0 qs → In q qs → ⊥
in_no_chain P [] q c i = absurd i
in_no_chain P (p ∷ qs) q c i = c.1 (sym c.0)

no_entry : (p : ℕ) (e : on_page.Entry) → In e (entries_of (made p)) → ⊥
no_entry zero e i = absurd i
no_entry (suc zero) e i = absurd i
no_entry (suc (suc p)) e i = absurd i

no_pair : (i : ℕ) → NoPair made i
no_pair i = record {
  no_row = λ r. in_no_chain made r.linked.line r.linked.page r.linked.is_line r.linked.on;
  no_posting = λ k m. no_entry m.page m.entry m.on;
}

no_more : (p : ℕ) (e : on_page.Entry) → In e (entries_of (placed_by 1 p)) → ⊥
no_more zero e i = absurd i
no_more (suc zero) e i = absurd i
no_more (suc (suc zero)) e i = absurd i
no_more (suc (suc (suc p))) e i = absurd i

pub none_placed : (i : ℕ) → NoPair (placed_by 1) i
none_placed i = record {
  no_row = λ r. in_no_chain (placed_by 1) r.linked.line r.linked.page r.linked.is_line r.linked.on;
  no_posting = λ k m. no_more m.page m.entry m.on;
}

-- the rules of the three records
create_row : (floor since : ℕ) → RuleHolds [] none_yet made create_record floor since
create_row floor since = RuleHolds.create
    (record { here = record { kind_is = refl; pages = refl; empty = refl; after_is = refl } })

begin_row : (floor since : ℕ) → RuleHolds log_made made made (begin_record 1) floor since
begin_row floor since = RuleHolds.begin
    (record { here = record { kind_is = refl; pages = refl; next = refl; bound = omega arith } })

used_below : (q : ℕ) → q < 2 → use_in made q ≢ usage.Unused
used_below zero l e = cc
used_below (suc zero) l e = cc
used_below (suc (suc q)) l e = absurd (omega (arith, l))

others_free : (j : ℕ) → j ≢ 0 → slot_at (Some (head 1) ∷ []) j ≡ slot_at [] j
others_free zero off = absurd (off refl)
others_free (suc j) off = refl

head_row : (floor since : ℕ) → RuleHolds log_begun made (placed_by 1) (head_record 1) floor since
head_row floor since = RuleHolds.place_head (record {
  here = record {
    doc = doc;
    head = head 1;
    old = free_page;
    slots = [];
    new_slots = Some (head 1) ∷ [];
    right = 0;
    kind_is = refl;
    pages = refl;
    runs = refl;
    next = refl;
    before_is = refl;
    page = inr (refl, refl, IsNew.unused refl used_below);
    was_free = refl;
    in_row = omega arith;
    new_head = record { serial_is = refl; inserted_by = refl; deleted_by = refl; overflow = refl; private = refl };
    put = record { put = refl; others = others_free; size = refl };
    after_is = refl;
  };
  rest = no_pair 4096;
})

pub cat_is : IsLexeme cat
cat_is = record {
  some = omega arith;
  most = omega arith;
  utf8 = IsUtf8-from_ascii cat
      (IsAscii-cons 99 (97 ∷ 116 ∷ []) (omega arith)
      (IsAscii-cons 97 (116 ∷ []) (omega arith) (IsAscii-cons 116 [] (omega arith) IsAscii-nil)));
}

pub fat_is : IsLexeme fat
fat_is = record {
  some = omega arith;
  most = omega arith;
  utf8 = IsUtf8-from_ascii fat
      (IsAscii-cons 102 (97 ∷ 116 ∷ []) (omega arith)
      (IsAscii-cons 97 (116 ∷ []) (omega arith) (IsAscii-cons 116 [] (omega arith) IsAscii-nil)));
}

one_alone : {A : Type 0} (Rel : A → A → Type 0) (x : A) → AllPairs Rel (x ∷ [])
one_alone Rel x i j d a b = absurd (omega (arith, a, b))

entry_is : (lexeme : List ℕ) (n : ℕ) → IsLexeme lexeme → IsPosition (place n)
    → IsEntry (record { lexeme = lexeme; positions = place n ∷ [] })
entry_is lexeme n l p = record {
  lexeme = l;
  positions = All-cons IsPosition (place n) [] p (All-nil IsPosition);
  rising = one_alone (λ (p q : Position). p.at < q.at) (place n);
  few = omega arith;
}

abbrev Before : Entry → Entry → Type 0
Before a b = IsBefore a.lexeme b.lexeme

pub vector_is : IsNormal vector
vector_is = record {
  entries = All-cons IsEntry first_entry (second_entry ∷ []) (entry_is cat 1 cat_is (omega arith, omega arith))
      (All-cons IsEntry second_entry [] (entry_is fat 2 fat_is (omega arith, omega arith)) (All-nil IsEntry));
  rising = AllPairs-cons Before first_entry (second_entry ∷ [])
      (All-cons (Before first_entry) second_entry [] refl (All-nil (Before first_entry)))
      (one_alone Before second_entry);
}

-- the commit right behind the head is not valid, since no pair of the index has the document
some_key : (v : Vector) → (k : Key) × In k (keys_of v)
some_key [] = (placeholder, inl refl)
some_key (e ∷ es) = (lexeme_key e.lexeme, inl refl)

not_indexed : IsIndexed (placed_by 1) doc → ⊥
not_indexed x =
    let k = some_key x.vector in
    elim x.there [
      | inl pending ↦
          let p = pending k.0 k.1 in
          (none_placed 4096).no_row (record { row = p.row; linked = p.linked; item = p.item })
      | inr main ↦ (none_placed 4096).no_posting k.0 (main k.0 k.1)
    ]

commit_too_early : (Q : Pages) (floor since : ℕ) → RuleHolds log_placed (placed_by 1) Q early_record floor since → ⊥
commit_too_early Q floor since x =
    let row : IsCommit log_placed (placed_by 1) Q early_record =
    kind_rule log_placed (placed_by 1) Q early_record floor since (kind.Commit 1) refl x in
    not_indexed (row.rest doc (inl refl))

-- each is a record
pub image_is : (p : ℕ) (page : Page) → p < page_limit → IsPage page → IsChange page.stamp (image p page)
image_is p page small is =
    let parts = has_parts page is in
    record { page = small; edit = record { size = parts.size; stamp = parts.stamp } }

create_is : IsRecord create_record
create_is = record {
  number = omega arith;
  xid = omega arith;
  kind = tt;
  count = omega arith;
  changes = (image_is 0 meta_page (omega arith) meta_is, (image_is 1 root_page (omega arith) root_is, tt));
  once = (((λ e. omega (arith, e)), tt), (tt, tt));
}

begin_is : IsRecord (begin_record 1)
begin_is = record { number = omega arith; xid = omega arith; kind = tt; count = omega arith; changes = tt; once = tt }

head_record_is : IsRecord (head_record 1)
head_record_is = record {
  number = omega arith;
  xid = omega arith;
  kind = (omega arith, omega arith);
  count = omega arith;
  changes = (image_is 2 (heap_page 1) (omega arith) heap_is, tt);
  once = (tt, tt);
}

-- each change can be made
pub can_image : (p : ℕ) (page : Page) (old : List ℕ) (c : Change) → c ≡ image p page → CanEdit c.edit old
can_image p page old c e = subst (λ (x : Change). CanEdit x.edit old) (sym e) tt

create_can : (c : Change) → In c create_record.changes → CanEdit c.edit (replay [] c.page)
create_can c (inl e) = can_image 0 meta_page (replay [] c.page) c e
create_can c (inr (inl e)) = can_image 1 root_page (replay [] c.page) c e
create_can c (inr (inr e)) = absurd e

head_record_can : (c : Change) → In c (head_record 1).changes → CanEdit c.edit (replay log_begun c.page)
head_record_can c (inl e) = can_image 2 (heap_page 1) (replay log_begun c.page) c e
head_record_can c (inr e) = absurd e

-- so the log is legal
pub rows_valid : RecordsAreValid log_placed
rows_valid = (
  (
    (
      tt,
      record {
        before = none_yet;
        after = made;
        shown = shown_none;
        shown_after = shown_made;
        is_record = create_is;
        can_edit = create_can;
        number = refl;
        started = inl refl;
        rule = create_row 0 1;
      },
    ),
    record {
      before = made;
      after = made;
      shown = shown_made;
      shown_after = shown_begun;
      is_record = begin_is;
      can_edit = λ c i. absurd i;
      number = refl;
      started = inr (λ e. cc);
      rule = begin_row 0 2;
    },
  ),
  record {
    before = made;
    after = placed_by 1;
    shown = shown_begun;
    shown_after = shown_placed;
    is_record = head_record_is;
    can_edit = λ c i. head_record_can c i;
    number = refl;
    started = inr (λ e. cc);
    rule = head_row 0 3;
  },
)

pub image_of : (p : ℕ) (page : Page) (c : Change) → c ≡ image p page → IsImageOf c
image_of p page c e = (page_bytes page, ap (λ (x : Change). x.edit) e)

pub are_images : ImagesFrom 1 log_placed
are_images = (((tt, made_by), λ c i l. absurd i), λ c i l. inr (image_of 2 (heap_page 1) c (only c i)))
  where
    made_by : (c : Change) → In c create_record.changes → 1 ≤ 1 → ChangesFrom 1 [] c.page ⊎ IsImageOf c
    made_by c (inl e) l = inr (image_of 0 meta_page c e)
    made_by c (inr (inl e)) l = inr (image_of 1 root_page c e)
    made_by c (inr (inr e)) l = absurd e

    only : (c : Change) → In c (head_record 1).changes → c ≡ image 2 (heap_page 1)
    only c (inl e) = e
    only c (inr e) = absurd e

pub no_checkpoint : (r : Record) (redo : ℕ) → In r log_placed → r.kind ≡ kind.Checkpoint redo → ⊥
no_checkpoint r redo (inl e) k = let f = sym (ap (λ (x : Record). x.kind) e) ∙ k in cc
no_checkpoint r redo (inr (inl e)) k = let f = sym (ap (λ (x : Record). x.kind) e) ∙ k in cc
no_checkpoint r redo (inr (inr (inl e))) k = let f = sym (ap (λ (x : Record). x.kind) e) ∙ k in cc
no_checkpoint r redo (inr (inr (inr e))) k = absurd e

pub legal : IsLegal log_placed
legal = record {
  valid = rows_valid;
  images = are_images;
  redo_images = λ r redo i k. absurd
      (no_checkpoint r redo i k);
}

-- the second record with the xid 2 is not valid
begin_of_two : (P Q : Pages) (floor since : ℕ) → RuleHolds log_made P Q (begin_record 2) floor since → ⊥
begin_of_two P Q floor since (RuleHolds.create x) = let f = x.here.kind_is in cc
begin_of_two P Q floor since (RuleHolds.begin x) = omega (arith, x.here.next)
begin_of_two P Q floor since (RuleHolds.commit x) = let f = x.here.kind_is in cc
begin_of_two P Q floor since (RuleHolds.abort x) = let f = x.here.kind_is in cc
begin_of_two P Q floor since (RuleHolds.place_head x) = let f = x.here.kind_is in cc
begin_of_two P Q floor since (RuleHolds.checkpoint x) = let f = x.here.kind_is in cc
begin_of_two P Q floor since (RuleHolds.put_overflow x) = let f = x.here.kind_is in cc
begin_of_two P Q floor since (RuleHolds.mark_deleted x) = let f = x.here.kind_is in cc
begin_of_two P Q floor since (RuleHolds.put_pending x) = let f = x.here.kind_is in cc
begin_of_two P Q floor since (RuleHolds.add_row x) = let f = x.here.kind_is in cc
begin_of_two P Q floor since (RuleHolds.link_pending x) = let f = x.here.kind_is in cc
begin_of_two P Q floor since (RuleHolds.shift x) = let f = x.here.kind_is in cc
begin_of_two P Q floor since (RuleHolds.add_items x) = let f = x.here.kind_is in cc
begin_of_two P Q floor since (RuleHolds.make_tree x) = let f = x.here.kind_is in cc
begin_of_two P Q floor since (RuleHolds.add_postings x) = let f = x.here.kind_is in cc
begin_of_two P Q floor since (RuleHolds.grow_root x) = let f = x.here.kind_is in cc
begin_of_two P Q floor since (RuleHolds.split x) = let f = x.here.kind_is in cc
begin_of_two P Q floor since (RuleHolds.remove_items x) = let f = x.here.kind_is in cc
begin_of_two P Q floor since (RuleHolds.delete_post x) = let f = x.here.kind_is in cc
begin_of_two P Q floor since (RuleHolds.drop_page x) = let f = x.here.kind_is in cc
begin_of_two P Q floor since (RuleHolds.free_slots x) = let f = x.here.kind_is in cc

abbrev pub item_in : Kind → ℕ
item_in (kind.PlaceHead item serial) = item
item_in _ = 0

abbrev pub first_slots : List Page → List (Option Head)
first_slots [] = []
first_slots (p ∷ ps) = slots_of p

abbrev inserted_in : Option Head → ℕ
inserted_in None = 0
inserted_in (Some h) = h.inserted_by

-- a head of xid 2 in the record of xid 1 is not valid
head_of_two : (P : Pages) (floor since : ℕ) → RuleHolds log_begun P (placed_by 2) (head_record 2) floor since → ⊥
head_of_two P floor since (RuleHolds.create x) = let f = x.here.kind_is in cc
head_of_two P floor since (RuleHolds.begin x) = let f = x.here.kind_is in cc
head_of_two P floor since (RuleHolds.commit x) = let f = x.here.kind_is in cc
head_of_two P floor since (RuleHolds.abort x) = let f = x.here.kind_is in cc
head_of_two P floor since (RuleHolds.checkpoint x) = let f = x.here.kind_is in cc
head_of_two P floor since (RuleHolds.put_overflow x) = let f = x.here.kind_is in cc
head_of_two P floor since (RuleHolds.mark_deleted x) = let f = x.here.kind_is in cc
head_of_two P floor since (RuleHolds.put_pending x) = let f = x.here.kind_is in cc
head_of_two P floor since (RuleHolds.add_row x) = let f = x.here.kind_is in cc
head_of_two P floor since (RuleHolds.link_pending x) = let f = x.here.kind_is in cc
head_of_two P floor since (RuleHolds.shift x) = let f = x.here.kind_is in cc
head_of_two P floor since (RuleHolds.add_items x) = let f = x.here.kind_is in cc
head_of_two P floor since (RuleHolds.make_tree x) = let f = x.here.kind_is in cc
head_of_two P floor since (RuleHolds.add_postings x) = let f = x.here.kind_is in cc
head_of_two P floor since (RuleHolds.grow_root x) = let f = x.here.kind_is in cc
head_of_two P floor since (RuleHolds.split x) = let f = x.here.kind_is in cc
head_of_two P floor since (RuleHolds.remove_items x) = let f = x.here.kind_is in cc
head_of_two P floor since (RuleHolds.delete_post x) = let f = x.here.kind_is in cc
head_of_two P floor since (RuleHolds.drop_page x) = let f = x.here.kind_is in cc
head_of_two P floor since (RuleHolds.free_slots x) = let f = x.here.kind_is in cc
head_of_two P floor since (RuleHolds.place_head x) =
    let item : 4096 ≡ x.here.doc.item = ap item_in x.here.kind_is in
    let slots : Some (head 2) ∷ [] ≡ x.here.new_slots = ap first_slots x.here.after_is in
    let there : Some (head 2) ≡ slot_at x.here.new_slots (slot_of x.here.doc.item) = ap (λ s. slot_at s 0) slots
    ∙ ap (λ i. slot_at x.here.new_slots (slot_of i)) item in
    let two : 2 ≡ x.here.head.inserted_by = ap inserted_in (there ∙ x.here.put.put) in
    omega (arith, two, x.here.new_head.inserted_by)
