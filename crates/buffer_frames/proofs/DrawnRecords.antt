-- The record of a step has an encoding, is made of the step after each legal log, and is short.
use Rattle.std.proofs.Common.{◌≡◌, ◌≢◌, ◌<◌, ◌≤◌, ◌+◌, ◌*◌, ◌^◌, ◌==◌, cond, ℕ, zero, suc, Bool, true, false, List, []}
use Rattle.std.proofs.Common.{◌∷◌, ◌++◌, length, map, refl, sym, ap, subst, ◌∙◌, inl, inr, arith, length-append}
use Rattle.std.specs.Prelude.{All, flat_map}
use Rattle.std.specs.List.{AllByRecursion}
use Rattle.page_types.specs.Numbers.{u32_bytes, u64_bytes}
use Rattle.page_types.specs.Keys.{Rising}
use Rattle.page_types.specs.Pages.{IsPage}
use Rattle.page_types.specs.Encoding.{page_bytes}
use Rattle.page_types.specs.Edits.{edited, CanEdit}
use Rattle.page_types.specs.Records.{IsKind, IsChange, IsRecord, kind_bytes, change_bytes, record_rest, record_bytes}
use Rattle.page_types.specs.declared.record.Change.{Change}
use Rattle.page_types.specs.declared.record.Kind.{Kind}
use Rattle.page_types.specs.declared.record.Kind.TheVariants as kind
use Rattle.page_types.specs.declared.record.Record.{Record}
use Rattle.page_types.proofs.Framing.{length-u32_bytes, length-u64_bytes}
use Rattle.page_types.proofs.PageLaws.{has_parts}
use Rattle.core_state.specs.Log.{Log, In, after_changes, replay, xid_bound}
use Rattle.core_state.specs.Legal.{IsLegal, ImagesFrom, IsImageOf}
use Rattle.core_state.specs.Allowed.{Sheet, Step, sheet_pages, made_by, drawn_kind, drawn_xid}
use Rattle.core_state.specs.Logged.{IsRecordOf, abort_all}
use Rattle.core_state.specs.States.{StateValue, StateTells}
use Rattle.core_state.specs.Laws.{MadeIsPage}
use Rattle.core_state.proofs.Showing.{untouched}
use Rattle.core_state.proofs.RunningOnes.{on_same, length-all_ended}
use Rattle.buffer_frames.specs.Drawing.{IsSheet, HasEncoding, kind_by, xid_by, value_by, drawn_by, front_of}
use Rattle.buffer_frames.specs.Drawing.{made_sheets, images_of, record_of}
use Rattle.buffer_frames.specs.Journals.{owed_abort, after_owed}
use Rattle.buffer_frames.specs.Opens.{IsLoggedKind}
use Rattle.buffer_frames.specs.declared.step.Drawn.{Drawn}

-- what the numbers of a record need
pub record Fits (s : StateValue) (step : Step) : Type 0 where
  pub number : suc s.records < 2 ^ 64
  pub kind : IsKind (kind_by s step.kind)
  pub xid : xid_by s step.kind step.xid < 2 ^ 32

pub front_is_record : (s : StateValue) (step : Step) → Fits s step → IsRecord (front_of s step)
front_is_record s step fits = record {
  number = fits.number;
  xid = fits.xid;
  kind = fits.kind;
  count = omega arith;
  changes = tt;
  once = tt;
}

-- pages as the record makes them have encodings
each_is : MadeIsPage → (r : Record) (xs : List Sheet) → IsRecord r → AllByRecursion IsSheet xs
    → AllByRecursion (λ (x : Sheet). IsPage x.content) (made_sheets r xs)
each_is law r [] is all = tt
each_is law r (x ∷ xs) is all = (law r x.content is (all.0).used (all.0).content, each_is law r xs is all.1)

pub all_from : {A : Type 0} (P : A → Type 0) (xs : List A) → AllByRecursion P xs → All P xs
all_from P [] all k d lt = absurd (omega (arith, lt))
all_from P (x ∷ xs) all zero d lt = all.0
all_from P (x ∷ xs) all (suc k) d lt = all_from P xs all.1 k d (omega (arith, lt))

pub sheets_are_pages : MadeIsPage → (s : StateValue) (step : Step) → HasEncoding step → Fits s step
    → All (λ (x : Sheet). IsPage x.content) (made_sheets (front_of s step) step.after)
sheets_are_pages law s step encoded fits =
    all_from (λ (x : Sheet). IsPage x.content) (made_sheets (front_of s step) step.after)
    (each_is law (front_of s step) step.after (front_is_record s step fits) encoded.each)

changes_fit : MadeIsPage → (r : Record) (xs : List Sheet) → IsRecord r → AllByRecursion IsSheet xs
    → AllByRecursion (IsChange r.number) (images_of (made_sheets r xs))
changes_fit law r [] is all = tt
changes_fit law r (x ∷ xs) is all =
    let parts = has_parts (made_by r x.content) (law r x.content is (all.0).used (all.0).content) in (
      record { page = (all.0).page; edit = record { size = parts.size; stamp = parts.stamp } },
      changes_fit law r xs is all.1,
    )

others_apart : (r : Record) (p : ℕ) (xs : List Sheet) → AllByRecursion (λ (q : ℕ). p ≢ q) (sheet_pages xs)
    → AllByRecursion (λ (c : Change). p ≢ c.page) (images_of (made_sheets r xs))
others_apart r p [] all = tt
others_apart r p (x ∷ xs) all = (all.0, others_apart r p xs all.1)

changes_once : (r : Record) (xs : List Sheet) → Rising (λ (p q : ℕ). p ≢ q) (sheet_pages xs)
    → Rising (λ (c d : Change). c.page ≢ d.page) (images_of (made_sheets r xs))
changes_once r [] once = tt
changes_once r (x ∷ xs) once = (others_apart r x.page xs once.0, changes_once r xs once.1)

count_same : (r : Record) (xs : List Sheet) → length (images_of (made_sheets r xs)) ≡ length xs
count_same r [] = refl
count_same r (x ∷ xs) = ap suc (count_same r xs)

pub pages_same : (r : Record) (xs : List Sheet)
    → map (λ (c : Change). c.page) (images_of (made_sheets r xs)) ≡ sheet_pages xs
pages_same r [] = refl
pages_same r (x ∷ xs) = ap (λ (l : List ℕ). x.page ∷ l) (pages_same r xs)

pub drawn_is_record : MadeIsPage → (s : StateValue) (step : Step) → HasEncoding step → Fits s step
    → IsRecord (record_of s step)
drawn_is_record law s step encoded fits =
    let front = front_is_record s step fits in
    record {
      number = fits.number;
      xid = fits.xid;
      kind = front.kind;
      count = omega (arith, count_same (front_of s step) step.after, encoded.few);
      changes = changes_fit law (front_of s step) step.after front encoded.each;
      once = changes_once (front_of s step) step.after encoded.once;
    }

-- the changes are images, and give the pages
are_images : (r : Record) (xs : List Sheet) (c : Change) → In c (images_of (made_sheets r xs)) → IsImageOf c
are_images r [] c i = absurd i
are_images r (x ∷ xs) c (inl e) = (page_bytes (made_by r x.content), ap (λ (z : Change). z.edit) e)
are_images r (x ∷ xs) c (inr i) = are_images r xs c i

image_can : (c : Change) (old : List ℕ) → IsImageOf c → CanEdit c.edit old
image_can c old i = subst (λ e. CanEdit e old) (sym i.1) tt

not_in : (p : ℕ) (ps : List ℕ) → AllByRecursion (λ (q : ℕ). p ≢ q) ps → In p ps → ⊥
not_in p [] all i = i
not_in p (q ∷ qs) all (inl e) = all.0 e
not_in p (q ∷ qs) all (inr i) = not_in p qs all.1 i

-- a page is once among the changes
after_images : (r : Record) (n : ℕ) (xs : List Sheet) (x : Sheet) (old : List ℕ)
    → Rising (λ (p q : ℕ). p ≢ q) (sheet_pages xs) → In x xs
    → after_changes n (images_of (made_sheets r xs)) x.page old ≡ page_bytes (made_by r x.content)
unfolding edited
after_images r n [] x old once i = absurd i
after_images r n (y ∷ ys) x old once (inl e) =
    let off : In x.page (map (λ (c : Change). c.page) (images_of (made_sheets r ys))) → ⊥ =
    λ j. not_in y.page (sheet_pages ys) once.0
    (subst (λ p. In p (sheet_pages ys)) (ap (λ (z : Sheet). z.page) e) (subst (In x.page) (pages_same r ys) j)) in
    untouched n (images_of (made_sheets r ys)) x.page
    (cond (y.page == x.page) (page_bytes (made_by r y.content)) old) off
    ∙ on_same y.page x.page (page_bytes (made_by r y.content)) old (ap (λ (z : Sheet). z.page) (sym e))
    ∙ ap (λ (z : Sheet). page_bytes (made_by r z.content)) (sym e)
after_images r n (y ∷ ys) x old once (inr i) =
    after_images r n ys x (cond (y.page == x.page) (page_bytes (made_by r y.content)) old) once.1 i

-- what is drawn of the state is drawn of the log
xid_told : (R : Log) (s : StateValue) → StateTells R s → (k : Kind) (x : ℕ) → xid_by s k x ≡ drawn_xid R k x
xid_told R s told kind.Begin x = told.next_xid
xid_told R s told _ x = refl

kind_told : (R : Log) (s : StateValue) → StateTells R s → (k : Kind) → kind_by s k ≡ drawn_kind R k
kind_told R s told (kind.Commit n) = ap (λ c. kind.Commit (suc c)) told.commits
kind_told R s told (kind.PlaceHead item serial) = ap (kind.PlaceHead item) told.next_serial
kind_told R s told _ = refl

images_more : (n : ℕ) (R : Log) (r : Record) → ImagesFrom n R → ((c : Change) → In c r.changes → IsImageOf c)
    → ImagesFrom n (r ∷ R)
images_more n R r images all = (images, λ c i low. inr (all c i))

not_checkpoint : (s : StateValue) (k : Kind) (redo : ℕ) → IsLoggedKind k → kind_by s k ≡ kind.Checkpoint redo → ⊥
not_checkpoint s (kind.Commit n) redo logged e = cc
not_checkpoint s (kind.PlaceHead item serial) redo logged e = cc
not_checkpoint s k redo logged e = subst IsLoggedKind e logged

pub drawn_is_made : (R : Log) (s : StateValue) (step : Step) → IsLegal R → StateTells R s → HasEncoding step
    → IsRecord (record_of s step)
    → (step.kind ≡ kind.Begin → xid_by s step.kind step.xid < xid_bound) → IsLoggedKind step.kind
    → IsRecordOf R step (record_of s step)
unfolding replay
drawn_is_made R s step legal told encoded is below logged =
    let r : Record = record_of s step in
    let all = are_images (front_of s step) step.after in
    record {
      drawn = record {
        number = ap suc told.records;
        fits = below;
        xid = xid_told R s told step.kind step.xid;
        kind = kind_told R s told step.kind;
        pages = pages_same (front_of s step) step.after;
      };
      is_record = is;
      can_edit = λ c i. image_can c (replay R c.page) (all c i);
      bytes = λ x i. after_images (front_of s step) r.number step.after x (replay R x.page) encoded.once i;
      images = images_more 1 R r legal.images all;
      redo_images = λ x redo i e. elim i [
        | inl same ↦ absurd (not_checkpoint s step.kind redo logged (ap (λ (z : Record). z.kind) (sym same) ∙ e))
        | inr j ↦ images_more redo R r (legal.redo_images x redo j e) all
      ];
    }

-- the owed Abort is made of its step
pub owed_is_made : (R : Log) → IsLegal R → 1 + length R < 2 ^ 64 → IsRecordOf R abort_all (owed_abort (1 + length R))
owed_is_made R legal small = record {
  drawn =
      record { number = omega arith; fits = λ e. absurd (let z : ⊥ = cc in z); xid = refl; kind = refl; pages = refl };
  is_record = record { number = small; xid = omega arith; kind = tt; count = omega arith; changes = tt; once = tt };
  can_edit = λ c i. absurd i;
  bytes = λ x i. absurd i;
  images = (legal.images, λ c i low. absurd i);
  redo_images = λ x redo i e. elim i [
    | inl same ↦ absurd
        (let f : kind.Abort ≡ kind.Checkpoint redo = ap (λ (z : Record). z.kind) (sym same) ∙ e in let z : ⊥ = cc in z)
    | inr j ↦ (legal.redo_images x redo j e, λ c k low. absurd k)
  ];
}

-- what a state draws after the owed Abort
pub record DrawsAlike (s t : StateValue) : Type 0 where
  pub fates : length t.fates ≡ length s.fates
  pub deleted : t.deleted ≡ s.deleted
  pub serial : t.next_serial ≡ s.next_serial
  pub xid_limit : t.xid_limit ≡ s.xid_limit

pub draws_alike : (owes : Bool) (s : StateValue) → DrawsAlike s (after_owed owes s)
draws_alike true s =
    record { fates = length-all_ended s.running s.fates; deleted = refl; serial = refl; xid_limit = refl }
draws_alike false s = record { fates = refl; deleted = refl; serial = refl; xid_limit = refl }

pub owed_number : (owes : Bool) (s : StateValue) → suc (after_owed owes s).records ≡ 1 + (s.records + cond owes 1 0)
owed_number true s = omega arith
owed_number false s = omega arith

kind_alike : (s t : StateValue) (k : Kind) → DrawsAlike s t → kind_by t k ≡ kind_by s k
kind_alike s t (kind.Commit n) a =
    ap (λ (l : List (List Rattle.page_types.specs.declared.page.Name.Name)). kind.Commit (suc (length l))) a.deleted
kind_alike s t (kind.PlaceHead item serial) a = ap (kind.PlaceHead item) a.serial
kind_alike s t _ a = refl

xid_alike : (s t : StateValue) (k : Kind) (x : ℕ) → DrawsAlike s t → xid_by t k x ≡ xid_by s k x
xid_alike s t kind.Begin x a = ap suc a.fates
xid_alike s t _ x a = refl

value_alike : (s t : StateValue) (k : Kind) → DrawsAlike s t → value_by t k ≡ value_by s k
value_alike s t kind.Begin a = ap suc a.fates
value_alike s t (kind.Commit n) a =
    ap (λ (l : List (List Rattle.page_types.specs.declared.page.Name.Name)). suc (length l)) a.deleted
value_alike s t (kind.PlaceHead item serial) a = a.serial
value_alike s t _ a = refl

-- what is drawn, of its parts
pub drawn_is : (owes : Bool) (s : StateValue) (k : Kind) (n v : ℕ) → n ≡ 1 + (s.records + cond owes 1 0)
    → v ≡ value_by s k → (let d : Drawn = record { number = n; value = v } in d) ≡ drawn_by (after_owed owes s) k
drawn_is owes s k n v number value =
    ap (λ (m : ℕ). let d : Drawn = record { number = m; value = v } in d) (number ∙ sym (owed_number owes s))
    ∙ ap (λ (w : ℕ). let d : Drawn = record { number = suc (after_owed owes s).records; value = w } in d)
    (value ∙ sym (value_alike s (after_owed owes s) k (draws_alike owes s)))

-- and its front
pub front_is : (owes : Bool) (s : StateValue) (step : Step) (n x : ℕ) (k : Kind) (cs : List Change)
    → n ≡ 1 + (s.records + cond owes 1 0) → x ≡ xid_by s step.kind step.xid → k ≡ kind_by s step.kind → cs ≡ []
    → (let r : Record = record { number = n; xid = x; kind = k; changes = cs } in r) ≡ front_of (after_owed owes s) step
front_is owes s step n x k cs number xid is none =
    let t : StateValue = after_owed owes s in
    ap (λ (m : ℕ). let r : Record = record { number = m; xid = x; kind = k; changes = cs } in r)
    (number ∙ sym (owed_number owes s))
    ∙ ap (λ (y : ℕ). let r : Record = record { number = suc t.records; xid = y; kind = k; changes = cs } in r)
    (xid ∙ sym (xid_alike s t step.kind step.xid (draws_alike owes s)))
    ∙ ap (λ (l : Kind). let r : Record = record {
      number = suc t.records;
      xid = xid_by t step.kind step.xid;
      kind = l;
      changes = cs;
    } in r) (is ∙ sym (kind_alike s t step.kind (draws_alike owes s)))
    ∙ ap (λ (ds : List Change). let r : Record = record {
      number = suc t.records;
      xid = xid_by t step.kind step.xid;
      kind = kind_by t step.kind;
      changes = ds;
    } in r) none

pub fits_owed : (owes : Bool) (s : StateValue) (step : Step) → s.records + 2 < 2 ^ 64 → IsKind (kind_by s step.kind)
    → xid_by s step.kind step.xid < 2 ^ 32 → Fits (after_owed owes s) step
fits_owed owes s step number is xid =
    let t : StateValue = after_owed owes s in
    record {
      number = number_fits owes (owed_number owes s);
      kind = subst IsKind (sym (kind_alike s t step.kind (draws_alike owes s))) is;
      xid = subst (λ (n : ℕ). n < 2 ^ 32) (sym (xid_alike s t step.kind step.xid (draws_alike owes s))) xid;
    }
  where
    number_fits : (b : Bool) → suc (after_owed b s).records ≡ 1 + (s.records + cond b 1 0)
        → suc (after_owed b s).records < 2 ^ 64
    number_fits true e = omega (arith, e, number)
    number_fits false e = omega (arith, e, number)

-- how long a record is
pub images_length : MadeIsPage → (r : Record) (xs : List Sheet) → IsRecord r → AllByRecursion IsSheet xs
    → length (flat_map change_bytes (images_of (made_sheets r xs))) ≡ 8197 * length xs
unfolding change_bytes
images_length law r [] is all = refl
images_length law r (x ∷ xs) is all =
    let size = (has_parts (made_by r x.content) (law r x.content is (all.0).used (all.0).content)).size in
    omega (
      arith,
      length-append (u32_bytes x.page ++ (0 ∷ page_bytes (made_by r x.content)))
          (flat_map change_bytes (images_of (made_sheets r xs))),
      length-append (u32_bytes x.page) (0 ∷ page_bytes (made_by r x.content)),
      length-u32_bytes x.page,
      size,
      images_length law r xs is all.1,
    )

kind_length : (k : Kind) → length (kind_bytes k) ≤ 12
kind_length (kind.Commit n) = omega (arith, length-u32_bytes n)
kind_length (kind.Checkpoint n) = omega (arith, length-u64_bytes n)
kind_length (kind.PlaceHead item serial) =
    omega (arith, length-append (u32_bytes item) (u64_bytes serial), length-u32_bytes item, length-u64_bytes serial)
kind_length (kind.PutOverflow item serial) =
    omega (arith, length-append (u32_bytes item) (u64_bytes serial), length-u32_bytes item, length-u64_bytes serial)
kind_length (kind.MarkDeleted item serial) =
    omega (arith, length-append (u32_bytes item) (u64_bytes serial), length-u32_bytes item, length-u64_bytes serial)
kind_length (kind.PutPending item serial) =
    omega (arith, length-append (u32_bytes item) (u64_bytes serial), length-u32_bytes item, length-u64_bytes serial)
kind_length (kind.AddRow item serial) =
    omega (arith, length-append (u32_bytes item) (u64_bytes serial), length-u32_bytes item, length-u64_bytes serial)
kind_length (kind.LinkPending item serial) =
    omega (arith, length-append (u32_bytes item) (u64_bytes serial), length-u32_bytes item, length-u64_bytes serial)
kind_length (kind.DropPage item serial) =
    omega (arith, length-append (u32_bytes item) (u64_bytes serial), length-u32_bytes item, length-u64_bytes serial)
kind_length _ = omega arith

rest_length : (k x n m : ℕ) (ks bs : List ℕ) → length ks ≤ 12
    → length (k ∷ (u32_bytes x ++ (u64_bytes n ++ (ks ++ (m ∷ bs))))) ≤ 26 + length bs
rest_length k x n m ks bs short = omega (
  arith,
  short,
  length-append (u32_bytes x) (u64_bytes n ++ (ks ++ (m ∷ bs))),
  length-u32_bytes x,
  length-append (u64_bytes n) (ks ++ (m ∷ bs)),
  length-u64_bytes n,
  length-append ks (m ∷ bs),
)

pub record_length : (r : Record) → length (record_bytes r) ≤ 30 + length (flat_map change_bytes r.changes)
unfolding record_bytes record_rest
record_length r = omega (
  arith,
  length-append (u32_bytes (length (record_rest r))) (record_rest r),
  length-u32_bytes (length (record_rest r)),
  let rest : length (record_rest r) ≤ 26 + length (flat_map change_bytes r.changes) =
      rest_length (Rattle.page_types.specs.Records.kind_number r.kind) r.xid r.number (length r.changes)
      (kind_bytes r.kind) (flat_map change_bytes r.changes) (kind_length r.kind) in
      rest,
)

owed_length : (owes : Bool) (n : ℕ) → length (cond owes (record_bytes (owed_abort n)) []) ≤ 30
owed_length true n = record_length (owed_abort n)
owed_length false n = omega arith

pub both_short : MadeIsPage → (owes : Bool) (n : ℕ) (s : StateValue) (step : Step) → HasEncoding step → Fits s step
    → length (cond owes (record_bytes (owed_abort n)) [] ++ record_bytes (record_of s step)) ≤ 4194304
both_short law owes n s step encoded fits = omega (
  arith,
  length-append (cond owes (record_bytes (owed_abort n)) []) (record_bytes (record_of s step)),
  owed_length owes n,
  record_length (record_of s step),
  images_length law (front_of s step) step.after (front_is_record s step fits) encoded.each,
  encoded.few,
)

-- what a call drew of a journal's state, for a step
pub record Drew (owes : Bool) (s : StateValue) (step : Step) (n x : ℕ) (k : Kind) (cs : List Change) : Type 0 where
  pub front : (let r : Record = record { number = n; xid = x; kind = k; changes = cs } in r)
      ≡ front_of (after_owed owes s) step
  pub fits : Fits (after_owed owes s) step

pub drew : (owes : Bool) (s t : StateValue) (step : Step) (n x y : ℕ) (k l m : Kind) (cs : List Change) → t ≡ s
    → n ≡ 1 + (s.records + cond owes 1 0) → s.records + 2 < 2 ^ 64 → l ≡ step.kind → m ≡ step.kind → y ≡ step.xid
    → x ≡ xid_by t l y → x < 2 ^ 32
    → k ≡ kind_by t m → (IsKind m → IsKind k) → cs ≡ [] → IsKind step.kind → Drew owes s step n x k cs
drew owes s t step n x y k l m cs state number small first second own xid low is encoded none fits =
    let xid_is : x ≡ xid_by s step.kind step.xid = xid ∙ ap (λ (z : Kind). xid_by t z y) first
    ∙ ap (xid_by t step.kind) own ∙ ap (λ (v : StateValue). xid_by v step.kind step.xid) state in
    let kind_is : k ≡ kind_by s step.kind =
    is ∙ ap (kind_by t) second ∙ ap (λ (v : StateValue). kind_by v step.kind) state in
    record {
      front = front_is owes s step n x k cs number xid_is kind_is none;
      fits = fits_owed owes s step small (subst IsKind kind_is (encoded (subst IsKind (sym second) fits)))
          (subst (λ (i : ℕ). i < 2 ^ 32) xid_is low);
    }

-- its sheets and its record
pub sheets_made : (owes : Bool) (s : StateValue) (step step' : Step) (n x : ℕ) (k : Kind) (cs : List Change)
    (sheets : List Sheet) → Drew owes s step n x k cs → sheets ≡ step'.after
    → step' ≡ record step { after = made_sheets (record { number = n; xid = x; kind = k; changes = cs }) step.after }
    → sheets ≡ made_sheets (front_of (after_owed owes s) step) step.after
sheets_made owes s step step' n x k cs sheets d is made =
    is ∙ ap (λ (z : Step). z.after) made ∙ ap (λ (r : Record). made_sheets r step.after) d.front

pub record_made : (owes : Bool) (s : StateValue) (step : Step) (n x : ℕ) (k : Kind)
    (cs ds : List Change) (sheets : List Sheet) → Drew owes s step n x k cs
    → sheets ≡ made_sheets (front_of (after_owed owes s) step) step.after → ds ≡ images_of sheets
    → (let r : Record = record { number = n; xid = x; kind = k; changes = ds } in r)
    ≡ record_of (after_owed owes s) step
record_made owes s step n x k cs ds sheets d made is =
    ap (λ (r : Record). record r { changes = ds }) d.front
    ∙ ap (λ (es : List Change). record (front_of (after_owed owes s) step) { changes = es }) (is ∙ ap images_of made)
