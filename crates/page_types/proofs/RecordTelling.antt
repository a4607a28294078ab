-- A record's encoding begins no other's.
use Rattle.std.proofs.Common.{◌≡◌, ℕ, ◌*◌, ◌^◌, ◌<◌, ◌≤◌, List, [], ◌∷◌, ◌++◌, length, refl, sym, ap, ◌∙◌, append_assoc}
use Rattle.std.proofs.Common.{arith}
use Rattle.std.specs.List.{flat_map, AllByRecursion}
use Rattle.std.proofs.lemmas.List.{length-append}
use Rattle.page_types.specs.Numbers.{u16_bytes, u32_bytes, u64_bytes}
use Rattle.page_types.specs.Records.{kind_number, document_bytes, kind_bytes, edit_bytes, change_bytes, record_rest}
use Rattle.page_types.specs.Records.{record_bytes, IsDocument, IsKind, IsEdit, IsChange, IsRecord}
use Rattle.page_types.specs.Laws.{EncodingTellsRecord, EncodingTellsRecords}
use Rattle.page_types.specs.declared.record.Record.{Record}
use Rattle.page_types.specs.declared.record.Change.{Change}
use Rattle.page_types.specs.declared.record.Edit.{Edit}
use Rattle.page_types.specs.declared.record.Edit.TheVariants.{Image, Delta}
use Rattle.page_types.specs.declared.record.Kind.{Kind}
use Rattle.page_types.specs.declared.record.Kind.TheVariants as kind
use Rattle.page_types.proofs.Framing.{length-u16_bytes, length-u32_bytes, length-u64_bytes}
use Rattle.page_types.proofs.Telling.{Tells, parts_told, u16_told, u32_told, u64_told, sized_told, each_told}

document_told : (make : ℕ → ℕ → Kind) (i s j t : ℕ) (a b : List ℕ) → IsDocument i s → IsDocument j t
    → document_bytes i s ++ a ≡ document_bytes j t ++ b → (make i s ≡ make j t) × (a ≡ b)
document_told make i s j t a b p q e =
    let opened = sym (append_assoc (u32_bytes i) (u64_bytes s) a) ∙ e ∙ append_assoc (u32_bytes j) (u64_bytes t) b in
    let t1 = u32_told i j (u64_bytes s ++ a) (u64_bytes t ++ b) (omega (arith, p.0)) (omega (arith, q.0)) opened in
    let t2 = u64_told s t a b p.1 q.1 t1.1 in
    (ap (λ x. make x s) t1.0 ∙ ap (make j) t2.0, t2.1)

kind_told : (x y : Kind) (a b : List ℕ) → kind_number x ≡ kind_number y → IsKind x → IsKind y
    → kind_bytes x ++ a ≡ kind_bytes y ++ b → (x ≡ y) × (a ≡ b)
kind_told kind.Create kind.Create a b k p q e = (refl, e)
kind_told kind.Begin kind.Begin a b k p q e = (refl, e)
kind_told (kind.Commit m) (kind.Commit n) a b k p q e =
    let t = u32_told m n a b p q e in
    (ap (λ x. kind.Commit x) t.0, t.1)
kind_told kind.Abort kind.Abort a b k p q e = (refl, e)
kind_told (kind.Checkpoint m) (kind.Checkpoint n) a b k p q e =
    let t = u64_told m n a b p q e in
    (ap (λ x. kind.Checkpoint x) t.0, t.1)
kind_told (kind.PlaceHead i s) (kind.PlaceHead j t) a b k p q e =
    document_told (λ x y. kind.PlaceHead x y) i s j t a b p q e
kind_told (kind.PutOverflow i s) (kind.PutOverflow j t) a b k p q e =
    document_told (λ x y. kind.PutOverflow x y) i s j t a b p q e
kind_told (kind.MarkDeleted i s) (kind.MarkDeleted j t) a b k p q e =
    document_told (λ x y. kind.MarkDeleted x y) i s j t a b p q e
kind_told (kind.PutPending i s) (kind.PutPending j t) a b k p q e =
    document_told (λ x y. kind.PutPending x y) i s j t a b p q e
kind_told (kind.AddRow i s) (kind.AddRow j t) a b k p q e = document_told (λ x y. kind.AddRow x y) i s j t a b p q e
kind_told (kind.LinkPending i s) (kind.LinkPending j t) a b k p q e =
    document_told (λ x y. kind.LinkPending x y) i s j t a b p q e
kind_told kind.Shift kind.Shift a b k p q e = (refl, e)
kind_told kind.AddItems kind.AddItems a b k p q e = (refl, e)
kind_told kind.MakeTree kind.MakeTree a b k p q e = (refl, e)
kind_told kind.AddPostings kind.AddPostings a b k p q e = (refl, e)
kind_told kind.GrowRoot kind.GrowRoot a b k p q e = (refl, e)
kind_told kind.Split kind.Split a b k p q e = (refl, e)
kind_told kind.RemoveItems kind.RemoveItems a b k p q e = (refl, e)
kind_told kind.DeletePost kind.DeletePost a b k p q e = (refl, e)
kind_told (kind.DropPage i s) (kind.DropPage j t) a b k p q e =
    document_told (λ x y. kind.DropPage x y) i s j t a b p q e
kind_told kind.FreeSlots kind.FreeSlots a b k p q e = (refl, e)
kind_told _ _ a b k p q e = absurd (omega (arith, k))

delta_regrouped : (f s c n x t : List ℕ) → (f ++ (s ++ (c ++ (n ++ x)))) ++ t ≡ f ++ (s ++ (c ++ (n ++ (x ++ t))))
delta_regrouped f s c n x t = simp append_assoc

edit_told : (number : ℕ) → Tells edit_bytes (IsEdit number)
edit_told number (Image x) (Image y) a b p q e =
    let tails : x ++ a ≡ y ++ b = cc in
    let t = parts_told x y a b (p.size ∙ sym q.size) tails in
    (ap (λ (z : List ℕ). Image z) t.0, t.1)
edit_told number (Image x) (Delta g t d y) a b p q e = absurd cc
edit_told number (Delta f s c x) (Image y) a b p q e = absurd cc
edit_told number (Delta f s c x) (Delta g t d y) a b p q e =
    let tails : (f ++ (u16_bytes s ++ (u16_bytes c ++ (u16_bytes (length x) ++ x)))) ++ a
    ≡ (g ++ (u16_bytes t ++ (u16_bytes d ++ (u16_bytes (length y) ++ y)))) ++ b = cc in
    let opened = sym (delta_regrouped f (u16_bytes s) (u16_bytes c) (u16_bytes (length x)) x a) ∙ tails
    ∙ delta_regrouped g (u16_bytes t) (u16_bytes d) (u16_bytes (length y)) y b in
    let t1 = parts_told f g _ _ (p.front_size ∙ sym q.front_size) opened in
    let t2 = u16_told s t _ _ p.start_fits q.start_fits t1.1 in
    let t3 = u16_told c d _ _ p.cut_fits q.cut_fits t2.1 in
    let t4 = sized_told x y a b p.size_fits q.size_fits t3.1 in
    let P : List ℕ → ℕ → ℕ → List ℕ → Edit = λ f s c x. Delta f s c x in
    (ap (λ z. P z s c x) t1.0 ∙ ap (λ z. P g z c x) t2.0 ∙ ap (λ z. P g t z x) t3.0 ∙ ap (P g t d) t4.0, t4.1)

change_of : ℕ → Edit → Change
change_of page edit = record { page = page; edit = edit }

change_parts : (c : Change) → c ≡ change_of c.page c.edit
unfolding change_of
change_parts c = refl

change_told : (number : ℕ) → Tells change_bytes (IsChange number)
unfolding change_bytes
change_told number x y a b p q e =
    let opened = sym (append_assoc (u32_bytes x.page) (edit_bytes x.edit) a) ∙ e
    ∙ append_assoc (u32_bytes y.page) (edit_bytes y.edit) b in
    let t1 = u32_told x.page y.page _ _ (omega (arith, p.page)) (omega (arith, q.page)) opened in
    let t2 = edit_told number x.edit y.edit a b p.edit q.edit t1.1 in
    (change_parts x ∙ cc (t1.0, t2.0) ∙ sym (change_parts y), t2.1)

record_of : ℕ → ℕ → Kind → List Change → Record
record_of number xid kind changes = record { number = number; xid = xid; kind = kind; changes = changes }

record_parts : (r : Record) → r ≡ record_of r.number r.xid r.kind r.changes
unfolding record_of
record_parts r = refl

rest_regrouped : (x n k : List ℕ) (c : ℕ) (cs t : List ℕ)
    → (x ++ (n ++ (k ++ (c ∷ cs)))) ++ t ≡ x ++ (n ++ (k ++ (c ∷ (cs ++ t))))
rest_regrouped x n k c cs t = simp append_assoc

rest_told : (r s : Record) (a b : List ℕ) → IsRecord r → IsRecord s → record_rest r ++ a ≡ record_rest s ++ b
    → (r ≡ s) × (a ≡ b)
unfolding record_rest
rest_told r s a b p q e =
    let kinds : kind_number r.kind ≡ kind_number s.kind = cc in
    let tails : (u32_bytes r.xid
    ++ (u64_bytes r.number ++ (kind_bytes r.kind ++ (length r.changes ∷ flat_map change_bytes r.changes)))) ++ a
    ≡ (u32_bytes s.xid ++ (u64_bytes s.number
    ++ (kind_bytes s.kind ++ (length s.changes ∷ flat_map change_bytes s.changes)))) ++ b = cc in
    let opened = sym (rest_regrouped (u32_bytes r.xid) (u64_bytes r.number) (kind_bytes r.kind) (length r.changes)
    (flat_map change_bytes r.changes) a) ∙ tails
    ∙ rest_regrouped (u32_bytes s.xid) (u64_bytes s.number) (kind_bytes s.kind) (length s.changes)
    (flat_map change_bytes s.changes) b in
    let t1 = u32_told r.xid s.xid _ _ p.xid q.xid opened in
    let t2 = u64_told r.number s.number _ _ p.number q.number t1.1 in
    let t3 = kind_told r.kind s.kind (length r.changes ∷ (flat_map change_bytes r.changes ++ a))
    (length s.changes ∷ (flat_map change_bytes s.changes ++ b)) kinds p.kind q.kind t2.1 in
    let behind = t3.1 in
    let counts : length r.changes ≡ length s.changes = cc in
    let lists : flat_map change_bytes r.changes ++ a ≡ flat_map change_bytes s.changes ++ b = cc in
    let fits : AllByRecursion (IsChange r.number) s.changes = rw (t2.0) q.changes in
    let t4 = each_told change_bytes (IsChange r.number)
    (change_told r.number) r.changes s.changes a b counts p.changes fits lists in
    (record_parts r ∙ cc (t1.0, t2.0, t3.0, t4.0) ∙ sym (record_parts s), t4.1)

length-document : (item serial : ℕ) → length (document_bytes item serial) ≤ 12
length-document item serial =
    omega (arith, length-append (u32_bytes item) (u64_bytes serial), length-u32_bytes item, length-u64_bytes serial)

length-kind_bytes : (k : Kind) → length (kind_bytes k) ≤ 12
length-kind_bytes (kind.Commit commit) = omega (arith, length-u32_bytes commit)
length-kind_bytes (kind.Checkpoint redo) = omega (arith, length-u64_bytes redo)
length-kind_bytes (kind.PlaceHead item serial) = length-document item serial
length-kind_bytes (kind.PutOverflow item serial) = length-document item serial
length-kind_bytes (kind.MarkDeleted item serial) = length-document item serial
length-kind_bytes (kind.PutPending item serial) = length-document item serial
length-kind_bytes (kind.AddRow item serial) = length-document item serial
length-kind_bytes (kind.LinkPending item serial) = length-document item serial
length-kind_bytes (kind.DropPage item serial) = length-document item serial
length-kind_bytes _ = omega arith

length-edit_bytes : (number : ℕ) (e : Edit) → IsEdit number e → length (edit_bytes e) ≤ 65564
length-edit_bytes number (Image bytes) p = omega (arith, p.size)
length-edit_bytes number (Delta front start cut bytes) p =
    omega (
      arith,
      p.front_size,
      p.size_fits,
      length-append front (u16_bytes start ++ (u16_bytes cut ++ (u16_bytes (length bytes) ++ bytes))),
      length-append (u16_bytes start) (u16_bytes cut ++ (u16_bytes (length bytes) ++ bytes)),
      length-append (u16_bytes cut) (u16_bytes (length bytes) ++ bytes),
      length-append (u16_bytes (length bytes)) bytes,
      length-u16_bytes start,
      length-u16_bytes cut,
      length-u16_bytes (length bytes),
    )

length-changes : (number : ℕ) (cs : List Change) → AllByRecursion (IsChange number) cs
    → length (flat_map change_bytes cs) ≤ 65568 * length cs
unfolding change_bytes
length-changes number [] p = omega arith
length-changes number (c ∷ cs) p =
    omega (
      arith,
      length-append (change_bytes c) (flat_map change_bytes cs),
      length-append (u32_bytes c.page) (edit_bytes c.edit),
      length-u32_bytes c.page,
      length-edit_bytes number c.edit p.0.edit,
      length-changes number cs p.1,
    )

-- the length of the rest fits its field
pub length-record_rest : (r : Record) → IsRecord r → length (record_rest r) < 2 ^ 32
unfolding record_rest
length-record_rest r p =
    let tail : List ℕ = length r.changes ∷ flat_map change_bytes r.changes in
    omega (
      arith,
      length-append (u32_bytes r.xid)
          (u64_bytes r.number ++ (kind_bytes r.kind ++ (length r.changes ∷ flat_map change_bytes r.changes))),
      length-append (u64_bytes r.number) (kind_bytes r.kind ++ (length r.changes ∷ flat_map change_bytes r.changes)),
      length-append (kind_bytes r.kind) (length r.changes ∷ flat_map change_bytes r.changes),
      length-u32_bytes r.xid,
      length-u64_bytes r.number,
      length-kind_bytes r.kind,
      length-changes r.number r.changes p.changes,
      p.count,
    )

pub record_told : EncodingTellsRecord
unfolding record_bytes
record_told r s a b p q e =
    let opened = sym (append_assoc (u32_bytes (length (record_rest r))) (record_rest r) a) ∙ e
    ∙ append_assoc (u32_bytes (length (record_rest s))) (record_rest s) b in
    let sizes = u32_told (length (record_rest r)) (length (record_rest s)) (record_rest r ++ a) (record_rest s ++ b)
    (length-record_rest r p) (length-record_rest s q) opened in
    rest_told r s a b p q sizes.1

some_bytes : (r : Record) (rs : List Record) → [] ≡ flat_map record_bytes (r ∷ rs) → ⊥
unfolding record_bytes
some_bytes r rs e =
    absurd (omega (
      arith,
      ap length e,
      length-append (record_bytes r) (flat_map record_bytes rs),
      length-append (u32_bytes (length (record_rest r))) (record_rest r),
      length-u32_bytes (length (record_rest r)),
    ))

pub records_told : EncodingTellsRecords
records_told [] [] p q e = refl
records_told [] (s ∷ ss) p q e = absurd (some_bytes s ss e)
records_told (r ∷ rs) [] p q e = absurd (some_bytes r rs (sym e))
records_told (r ∷ rs) (s ∷ ss) p q e =
    let t = record_told r s (flat_map record_bytes rs) (flat_map record_bytes ss) p.0 q.0 e in
    let rest = records_told rs ss p.1 q.1 t.1 in
    let P : Record → List Record → List Record = λ h t. h ∷ t in
    ap (λ h. P h rs) t.0 ∙ ap (P s) rest
