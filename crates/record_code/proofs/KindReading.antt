-- Kinds that are read, and kinds that are read again.
use Rattle.std.proofs.Common.{◌≡◌, ℕ, zero, suc, ◌+◌, ◌-◌, ◌^◌, ◌<◌, List, [], ◌∷◌, ◌++◌, length, Option, Some, None}
use Rattle.std.proofs.Common.{Ok, Err, true, cond, ltb, refl, sym, ap, subst, ◌∙◌, append_assoc, arith}
use Rattle.std.specs.Prelude.{⊤}
use Rattle.std.specs.List.{slice_get}
use Rattle.std.specs.Option.{option_copied}
use Rattle.std.specs.Slice.{IsItemAt}
use denote.Ref.{Bor}
use Rattle.std.proofs.lemmas.Option.{slice_get_past, slice_get_read}
use Rattle.std.proofs.lemmas.Bool.{ltb-true, lt-ltb}
use Rattle.page_types.specs.Numbers.{u32_bytes, u64_bytes}
use Rattle.page_types.specs.Records.{kind_number, document_bytes, kind_bytes, IsDocument, IsKind}
use Rattle.page_types.specs.declared.record.Kind.{Kind}
use Rattle.page_types.specs.declared.record.Kind.TheVariants as kind
use Rattle.record_code.specs.Laws.{AreBytes}
use Rattle.page_types.specs.Fields.{◌>>=◌, number_at}
use Rattle.page_types.proofs.FieldReading.{bind_ok, Takes, Takes-then, u32_takes, u64_takes, u32_again, u64_again}
use Rattle.record_code.specs.Reading.{kinds, kind_with_number, known_at, kind_at, item_at, document_at, named_at}
use Rattle.record_code.specs.Reading.{fields_at}
use Rattle.record_code.proofs.Steps.{guard_held, done, ok_is}

-- kinds with the numbers from this one on
abbrev AreNumbered : ℕ → List Kind → Type 0
AreNumbered i [] = ⊤
AreNumbered i (k ∷ ks) = (kind_number k ≡ i) × AreNumbered (suc i) ks

number_of : (i j : ℕ) (ks : List Kind) (k : Kind) → AreNumbered i ks → slice_get ks j ≡ Some k → kind_number k ≡ i + j
number_of i j [] k h e = absurd cc
number_of i zero (x ∷ ks) k h e =
    let same : x ≡ k = cc in
    subst (λ (y : Kind). kind_number y ≡ i + 0) same (h.0 ∙ omega arith)
number_of i (suc j) (x ∷ ks) k h e = number_of (suc i) j ks k h.1 e ∙ omega arith

numbered : AreNumbered 1 kinds
numbered = (
  refl,
  (
    refl,
    (
      refl,
      (
        refl,
        (
          refl,
          (
            refl,
            (
              refl,
              (
                refl,
                (
                  refl,
                  (
                    refl,
                    (refl, (refl, (refl, (refl, (refl, (refl, (refl, (refl, (refl, (refl, (refl, tt))))))))))),
                  ),
                ),
              ),
            ),
          ),
        ),
      ),
    ),
  ),
)

kind_named : (b : ℕ) (k : Kind) → kind_with_number b ≡ Some k → kind_number k ≡ b
kind_named zero k e = absurd cc
kind_named (suc j) k e = number_of 1 j kinds k numbered e ∙ omega arith

-- the kind at a place of the table, by the number that names it
pub kind_at_place : (n i : ℕ) → (n ≡ 0 → ⊥) → i ≡ n - 1 → slice_get kinds i ≡ kind_with_number n
kind_at_place zero i h e = absurd (h refl)
kind_at_place (suc k) i h e =
    let is : i ≡ k = omega arith in
    ap (slice_get kinds) is

pub item_copied : (ks : List Kind) (i : ℕ) (r : Option (Bor Kind)) → IsItemAt ks i r → option_copied r ≡ slice_get ks i
item_copied ks i None p = sym (slice_get_past ks i p.3)
item_copied ks i (Some b) p = sym (slice_get_read ks (length ks) i b.now refl p.3.0 p.1)

known : (bytes : List ℕ) (o : Option Kind) (rest : List ℕ) (k : Kind) (behind : List ℕ)
    → known_at bytes o rest ≡ Ok (k, behind) → (o ≡ Some k) × (rest ≡ behind)
known bytes None rest k behind e = absurd cc
known bytes (Some x) rest k behind e =
    let g = ok_is (x, rest) (k, behind) e in
    (ap (λ (p : Kind × List ℕ). Some p.0) g, ap (λ (p : Kind × List ℕ). p.1) g)

pub kind_takes : (bytes : List ℕ) (k : Kind) (rest : List ℕ) → AreBytes bytes → kind_at bytes ≡ Ok (k, rest)
    → Takes bytes (kind_number k ∷ []) rest
kind_takes [] k rest fits e = absurd cc
kind_takes (b ∷ bytes) k rest fits e =
    let g = known (b ∷ bytes) (kind_with_number b) bytes k rest e in
    let later : AreBytes bytes = λ i. fits (suc i) in
    record { parts = rw (kind_named b k g.0, g.1) refl; rest_fits = subst AreBytes g.1 later }

item_takes : (bytes : List ℕ) (i : ℕ) (rest : List ℕ) → AreBytes bytes → item_at bytes ≡ Ok (i, rest)
    → Takes bytes (u32_bytes i) rest × (i < 2147483648)
unfolding item_at
item_takes bytes i rest fits e =
    let a =
    bind_ok (number_at 4 bytes) (λ item. cond (ltb item.0 2147483648) (Ok item) (Err (length bytes))) (i, rest) e in
    let g = guard_held (ltb a.0.0 2147483648) (length bytes) (Ok a.0) (i, rest) a.2 in
    let t = u32_takes bytes a.0.0 a.0.1 fits a.1 in
    let below : a.0.0 < 2147483648 = ltb-true _ _ g.0 in
    subst (λ (x : ℕ × List ℕ). Takes bytes (u32_bytes x.0) x.1 × (x.0 < 2147483648)) (ok_is a.0 (i, rest) g.1)
    (t.0, below)

item_again : (i : ℕ) (rest : List ℕ) → i < 2147483648 → item_at (u32_bytes i ++ rest) ≡ Ok (i, rest)
unfolding item_at
item_again i rest lt =
    let below : ltb i 2147483648 ≡ true = lt-ltb i 2147483648 lt in
    rw (u32_again i rest (omega arith), below) refl

document_takes : (bytes : List ℕ) (x : (ℕ × ℕ) × List ℕ) → AreBytes bytes → document_at bytes ≡ Ok x
    → Takes bytes (document_bytes x.0.0 x.0.1) x.1 × IsDocument x.0.0 x.0.1
unfolding document_at
document_takes bytes x fits e =
    let a = bind_ok (item_at bytes) (λ item. number_at 8 item.1 >>= λ serial. Ok ((item.0, serial.0), serial.1)) x e in
    let b = bind_ok (number_at 8 a.0.1) (λ serial. Ok ((a.0.0, serial.0), serial.1)) x a.2 in
    let t0 = item_takes bytes a.0.0 a.0.1 fits a.1 in
    let t1 = u64_takes a.0.1 b.0.0 b.0.1 t0.0.rest_fits b.1 in
    let both = Takes-then bytes (u32_bytes a.0.0) a.0.1 (u64_bytes b.0.0) b.0.1 t0.0 t1.0 in
    let made : (ℕ × ℕ) × List ℕ = ((a.0.0, b.0.0), b.0.1) in
    subst (λ (y : (ℕ × ℕ) × List ℕ). Takes bytes (document_bytes y.0.0 y.0.1) y.1 × IsDocument y.0.0 y.0.1)
    (ok_is made x b.2) (both, (t0.1, t1.1))

document_again : (i s : ℕ) (rest : List ℕ) → IsDocument i s
    → document_at (document_bytes i s ++ rest) ≡ Ok ((i, s), rest)
unfolding document_at
document_again i s rest h =
    ap document_at (append_assoc (u32_bytes i) (u64_bytes s) rest)
    ∙ rw (item_again i (u64_bytes s ++ rest) h.0, u64_again s rest h.1) refl

-- a kind that is read has its bytes in front, fits, and has this number
pub record TakesKind (number : ℕ) (bytes : List ℕ) (k : Kind) (rest : List ℕ) : Type 0 where
  pub takes : Takes bytes (kind_bytes k) rest
  pub fits : IsKind k
  pub number_is : kind_number k ≡ number

-- how a kind is made of a document
record IsMade (make : ℕ → ℕ → Kind) (number : ℕ) : Type 0 where
  number_is : (i s : ℕ) → kind_number (make i s) ≡ number
  bytes_are : (i s : ℕ) → kind_bytes (make i s) ≡ document_bytes i s
  fits : (i s : ℕ) → IsDocument i s → IsKind (make i s)

named_takes : (make : ℕ → ℕ → Kind) (number : ℕ) (bytes : List ℕ) (x : Kind × List ℕ) → IsMade make number
    → AreBytes bytes → named_at make bytes ≡ Ok x → TakesKind number bytes x.0 x.1
named_takes make number bytes x made fits e =
    let a = bind_ok (document_at bytes) (λ d. Ok (make d.0.0 d.0.1, d.1)) x e in
    let t = document_takes bytes a.0 fits a.1 in
    let is : Takes bytes (kind_bytes (make a.0.0.0 a.0.0.1)) a.0.1 = rw (made.bytes_are a.0.0.0 a.0.0.1) t.0 in
    let whole : TakesKind number bytes (make a.0.0.0 a.0.0.1) a.0.1 =
    record { takes = is; fits = made.fits a.0.0.0 a.0.0.1 t.1; number_is = made.number_is a.0.0.0 a.0.0.1 } in
    let one : Kind × List ℕ = (make a.0.0.0 a.0.0.1, a.0.1) in
    subst (λ (y : Kind × List ℕ). TakesKind number bytes y.0 y.1) (ok_is one x a.2) whole

plain_takes : (k : Kind) (bytes : List ℕ) (x : Kind × List ℕ) → kind_bytes k ≡ [] → IsKind k → AreBytes bytes
    → done (k, bytes) ≡ done x → TakesKind (kind_number k) bytes x.0 x.1
plain_takes k bytes x none is fits e =
    let whole : TakesKind (kind_number k) bytes k bytes =
    record { takes = record { parts = rw none refl; rest_fits = fits }; fits = is; number_is = refl } in
    let one : Kind × List ℕ = (k, bytes) in
    subst (λ (y : Kind × List ℕ). TakesKind (kind_number k) bytes y.0 y.1) (ok_is one x e) whole

commit_takes : (bytes : List ℕ) (x : Kind × List ℕ) → AreBytes bytes
    → (number_at 4 bytes >>= λ n. Ok (kind.Commit n.0, n.1)) ≡ Ok x → TakesKind 3 bytes x.0 x.1
commit_takes bytes x fits e =
    let a = bind_ok (number_at 4 bytes) (λ n. Ok (kind.Commit n.0, n.1)) x e in
    let t = u32_takes bytes a.0.0 a.0.1 fits a.1 in
    let whole : TakesKind 3 bytes (kind.Commit a.0.0) a.0.1 = record { takes = t.0; fits = t.1; number_is = refl } in
    let one : Kind × List ℕ = (kind.Commit a.0.0, a.0.1) in
    subst (λ (y : Kind × List ℕ). TakesKind 3 bytes y.0 y.1) (ok_is one x a.2) whole

checkpoint_takes : (bytes : List ℕ) (x : Kind × List ℕ) → AreBytes bytes
    → (number_at 8 bytes >>= λ n. Ok (kind.Checkpoint n.0, n.1)) ≡ Ok x → TakesKind 5 bytes x.0 x.1
checkpoint_takes bytes x fits e =
    let a = bind_ok (number_at 8 bytes) (λ n. Ok (kind.Checkpoint n.0, n.1)) x e in
    let t = u64_takes bytes a.0.0 a.0.1 fits a.1 in
    let whole : TakesKind 5 bytes (kind.Checkpoint a.0.0) a.0.1 =
    record { takes = t.0; fits = t.1; number_is = refl } in
    let one : Kind × List ℕ = (kind.Checkpoint a.0.0, a.0.1) in
    subst (λ (y : Kind × List ℕ). TakesKind 5 bytes y.0 y.1) (ok_is one x a.2) whole

pub fields_take : (k : Kind) (bytes : List ℕ) (x : Kind × List ℕ) → AreBytes bytes → fields_at k bytes ≡ Ok x
    → TakesKind (kind_number k) bytes x.0 x.1
unfolding fields_at
fields_take (kind.Commit c) bytes x fits e = commit_takes bytes x fits e
fields_take (kind.Checkpoint c) bytes x fits e = checkpoint_takes bytes x fits e
fields_take (kind.PlaceHead i s) bytes x fits e = named_takes (λ i s. kind.PlaceHead i s) 6 bytes x
    (record { number_is = λ i s. refl; bytes_are = λ i s. refl; fits = λ i s h. h }) fits e
fields_take (kind.PutOverflow i s) bytes x fits e = named_takes (λ i s. kind.PutOverflow i s) 7 bytes x
    (record { number_is = λ i s. refl; bytes_are = λ i s. refl; fits = λ i s h. h }) fits e
fields_take (kind.MarkDeleted i s) bytes x fits e = named_takes (λ i s. kind.MarkDeleted i s) 8 bytes x
    (record { number_is = λ i s. refl; bytes_are = λ i s. refl; fits = λ i s h. h }) fits e
fields_take (kind.PutPending i s) bytes x fits e = named_takes (λ i s. kind.PutPending i s) 9 bytes x
    (record { number_is = λ i s. refl; bytes_are = λ i s. refl; fits = λ i s h. h }) fits e
fields_take (kind.AddRow i s) bytes x fits e = named_takes (λ i s. kind.AddRow i s) 10 bytes x
    (record { number_is = λ i s. refl; bytes_are = λ i s. refl; fits = λ i s h. h }) fits e
fields_take (kind.LinkPending i s) bytes x fits e = named_takes (λ i s. kind.LinkPending i s) 11 bytes x
    (record { number_is = λ i s. refl; bytes_are = λ i s. refl; fits = λ i s h. h }) fits e
fields_take (kind.DropPage i s) bytes x fits e = named_takes (λ i s. kind.DropPage i s) 20 bytes x
    (record { number_is = λ i s. refl; bytes_are = λ i s. refl; fits = λ i s h. h }) fits e
fields_take kind.Create bytes x fits e = plain_takes kind.Create bytes x refl tt fits e
fields_take kind.Begin bytes x fits e = plain_takes kind.Begin bytes x refl tt fits e
fields_take kind.Abort bytes x fits e = plain_takes kind.Abort bytes x refl tt fits e
fields_take kind.Shift bytes x fits e = plain_takes kind.Shift bytes x refl tt fits e
fields_take kind.AddItems bytes x fits e = plain_takes kind.AddItems bytes x refl tt fits e
fields_take kind.MakeTree bytes x fits e = plain_takes kind.MakeTree bytes x refl tt fits e
fields_take kind.AddPostings bytes x fits e = plain_takes kind.AddPostings bytes x refl tt fits e
fields_take kind.GrowRoot bytes x fits e = plain_takes kind.GrowRoot bytes x refl tt fits e
fields_take kind.Split bytes x fits e = plain_takes kind.Split bytes x refl tt fits e
fields_take kind.RemoveItems bytes x fits e = plain_takes kind.RemoveItems bytes x refl tt fits e
fields_take kind.DeletePost bytes x fits e = plain_takes kind.DeletePost bytes x refl tt fits e
fields_take kind.FreeSlots bytes x fits e = plain_takes kind.FreeSlots bytes x refl tt fits e

-- a kind is read again: its number names a kind, with which its fields are read
pub record IsAgain (k : Kind) (blank : Kind) : Type 0 where
  pub named : kind_with_number (kind_number k) ≡ Some blank
  pub fields : (rest : List ℕ) → IsKind k → fields_at blank (kind_bytes k ++ rest) ≡ Ok (k, rest)

named_again : (make : ℕ → ℕ → Kind) (i s : ℕ) (rest : List ℕ) → IsDocument i s
    → named_at make (document_bytes i s ++ rest) ≡ Ok (make i s, rest)
named_again make i s rest h = rw (document_again i s rest h) refl

commit_again : (n : ℕ) (rest : List ℕ) → n < 2 ^ 32
    → fields_at (kind.Commit 0) (u32_bytes n ++ rest) ≡ Ok (kind.Commit n, rest)
unfolding fields_at
commit_again n rest h = rw (u32_again n rest h) refl

checkpoint_again : (n : ℕ) (rest : List ℕ) → n < 2 ^ 64
    → fields_at (kind.Checkpoint 0) (u64_bytes n ++ rest) ≡ Ok (kind.Checkpoint n, rest)
unfolding fields_at
checkpoint_again n rest h = rw (u64_again n rest h) refl

pub kind_again : (k : Kind) → (blank : Kind) × IsAgain k blank
unfolding fields_at
kind_again kind.Create = (kind.Create, record { named = refl; fields = λ rest h. refl })
kind_again kind.Begin = (kind.Begin, record { named = refl; fields = λ rest h. refl })
kind_again (kind.Commit n) = (kind.Commit 0, record { named = refl; fields = λ rest h. commit_again n rest h })
kind_again kind.Abort = (kind.Abort, record { named = refl; fields = λ rest h. refl })
kind_again (kind.Checkpoint n) =
    (kind.Checkpoint 0, record { named = refl; fields = λ rest h. checkpoint_again n rest h })
kind_again (kind.PlaceHead i s) =
    (kind.PlaceHead 0 0, record { named = refl; fields = λ rest h. named_again (λ i s. kind.PlaceHead i s) i s rest h })
kind_again (kind.PutOverflow i s) = (
  kind.PutOverflow 0 0,
  record { named = refl; fields = λ rest h. named_again (λ i s. kind.PutOverflow i s) i s rest h },
)
kind_again (kind.MarkDeleted i s) = (
  kind.MarkDeleted 0 0,
  record { named = refl; fields = λ rest h. named_again (λ i s. kind.MarkDeleted i s) i s rest h },
)
kind_again (kind.PutPending i s) = (
  kind.PutPending 0 0,
  record { named = refl; fields = λ rest h. named_again (λ i s. kind.PutPending i s) i s rest h },
)
kind_again (kind.AddRow i s) =
    (kind.AddRow 0 0, record { named = refl; fields = λ rest h. named_again (λ i s. kind.AddRow i s) i s rest h })
kind_again (kind.LinkPending i s) = (
  kind.LinkPending 0 0,
  record { named = refl; fields = λ rest h. named_again (λ i s. kind.LinkPending i s) i s rest h },
)
kind_again kind.Shift = (kind.Shift, record { named = refl; fields = λ rest h. refl })
kind_again kind.AddItems = (kind.AddItems, record { named = refl; fields = λ rest h. refl })
kind_again kind.MakeTree = (kind.MakeTree, record { named = refl; fields = λ rest h. refl })
kind_again kind.AddPostings = (kind.AddPostings, record { named = refl; fields = λ rest h. refl })
kind_again kind.GrowRoot = (kind.GrowRoot, record { named = refl; fields = λ rest h. refl })
kind_again kind.Split = (kind.Split, record { named = refl; fields = λ rest h. refl })
kind_again kind.RemoveItems = (kind.RemoveItems, record { named = refl; fields = λ rest h. refl })
kind_again kind.DeletePost = (kind.DeletePost, record { named = refl; fields = λ rest h. refl })
kind_again (kind.DropPage i s) =
    (kind.DropPage 0 0, record { named = refl; fields = λ rest h. named_again (λ i s. kind.DropPage i s) i s rest h })
kind_again kind.FreeSlots = (kind.FreeSlots, record { named = refl; fields = λ rest h. refl })

pub kind_at-again : (k blank : Kind) (rest : List ℕ) → IsAgain k blank
    → kind_at (kind_number k ∷ rest) ≡ Ok (blank, rest)
kind_at-again k blank rest h = ap (λ (o : Option Kind). known_at (kind_number k ∷ rest) o rest) h.named
