-- A document is put: its records, and the commit that it is part of then.
use Rattle.std.proofs.Common.{◌≡◌, ◌<◌, ◌≤◌, ◌+◌, ℕ, zero, suc, List, [], ◌∷◌, ◌++◌, length, map}
use Rattle.std.proofs.Common.{refl, sym, ap, subst, ◌∙◌, inl, inr, arith}
use Rattle.std.specs.Prelude.{Bool, if◌then◌else◌}
use Rattle.std.proofs.lemmas.Bool.{le-leb}
use Rattle.disk_trait.specs.declared.device.Disk.{Ghosts as Disk}
use Rattle.ts_base.specs.Vectors.{Vector}
use Rattle.ts_base.specs.Encoding.{IsEncoding}
use Rattle.page_types.specs.Numbers.{most_short}
use Rattle.page_types.specs.Views.{free_page}
use Rattle.page_types.specs.declared.page.Name.{Name}
use Rattle.page_types.specs.declared.record.Record.{Record}
use Rattle.page_types.specs.declared.record.Kind.TheVariants as kind
use Rattle.core_state.specs.Log.{Log, Pages, In, Shows, cut, fate}
use Rattle.core_state.specs.Documents.{Doc, HasBytes, HasVector, IsWhole, name_of, placed, marked}
use Rattle.core_state.specs.Index.{IsIndexed}
use Rattle.core_state.specs.PagesTold.{IsLastOf}
use Rattle.core_state.specs.History.{Commit, Document, AreInserts, IsCommitOf}
use Rattle.core_state.specs.Steps.{sheet}
use Rattle.core_state.specs.declared.answers.Fate.TheVariants.{Running}
use Rattle.core_state.proofs.Showing.{free_is}
use Rattle.buffer_frames.specs.Drawing.{images_of}
use Rattle.buffer_frames.specs.declared.pass.Pass.{Pass}
use Rattle.engine.specs.Db.{DbValue}
use Rattle.engine.specs.Finding.{document}
use Rattle.engine.specs.Places.{bytes_in_head}
use Rattle.engine.specs.Work.{IsPlaceOf, IsPartOf, AreParts, ArePut, parts_for}
use Rattle.engine.specs.Inner.Parts.{IsPlacedSoFar, IsRowedSoFar, AreIndexed, HasPlaced, HasRows, with_inserted}

-- ── records that might come ──

pub some_place : (x : ℕ) (d : Doc) → (r : Record) × IsPlaceOf x d r
some_place x d = (
  record { number = 0; xid = x; kind = kind.PlaceHead d.item d.serial; changes = images_of (sheet 0 free_page ∷ []) },
  record { xid = refl; kind_is = refl; images = (sheet 0 free_page ∷ [], refl, (free_is, tt), refl) },
)

pub some_part : (x : ℕ) (d : Doc) → (r : Record) × IsPartOf x d r
some_part x d = (
  record {
    number = 0;
    xid = x;
    kind = kind.PutOverflow d.item d.serial;
    changes = images_of (sheet 0 free_page ∷ sheet 0 free_page ∷ []);
  },
  record {
    xid = refl;
    kind_is = refl;
    images = (sheet 0 free_page ∷ sheet 0 free_page ∷ [], refl, (free_is, (free_is, tt)), refl);
  },
)

pub some_parts : (x : ℕ) (d : Doc) (n : ℕ) → (rs : List Record) × AreParts d x n rs
some_parts x d zero = ([], refl)
some_parts x d (suc n) =
    let r = some_part x d in
    let rs = some_parts x d n in
    (r.0 ∷ rs.0, (r.1, (n, omega arith, rs.1)))

-- a document's records, none of which is logged
pub some_put : (x : ℕ) (bytes : List ℕ) (d : Doc) → (rs : List Record) × ArePut bytes x d rs
some_put x bytes d =
    let r = some_place x d in
    let rs = some_parts x d (parts_for (length bytes)) in
    (r.0 ∷ rs.0, (r.1, rs.1))

-- parts and more parts
pub parts_more : (d : Doc) (x n m : ℕ) (rs qs : List Record) → AreParts d x n rs → AreParts d x m qs
    → AreParts d x (n + m) (rs ++ qs)
parts_more d x n m [] qs none are = subst (λ (k : ℕ). AreParts d x k qs) (omega (arith, none)) are
parts_more d x n m (r ∷ rs) qs one are = (
  one.0,
  (one.1.0 + m, omega (arith, one.1.1), parts_more d x one.1.0 m rs qs one.1.2 are),
)

-- a document that is placed, with its first parts, and those that come
pub put_so_far : (x : ℕ) (bytes : List ℕ) (d : Doc) (n m : ℕ) (r : Record) (rs qs : List Record)
    → n + m ≡ parts_for (length bytes) → IsPlaceOf x d r → AreParts d x n rs → AreParts d x m qs
    → ArePut bytes x d ((r ∷ rs) ++ qs)
put_so_far x bytes d n m r rs qs all place first rest =
    (place, subst (λ (k : ℕ). AreParts d x k (rs ++ qs)) all (parts_more d x n m rs qs first rest))

-- ── a document that is whole ──

-- all its bytes are there
pub data AllThere (bytes behind : List ℕ) : Type 0 where
  short : length bytes ≤ most_short → AllThere bytes behind
  long : most_short < length bytes → behind ≡ bytes → AllThere bytes behind

in_head : (bytes : List ℕ) → length bytes ≤ most_short → bytes_in_head bytes ≡ bytes
in_head bytes le =
    ap (λ (b : Bool). if b then bytes else []) (le-leb (length bytes) most_short le)

whole_here : (S : Log) (P : Pages) (x : ℕ) (d : Doc) (bytes behind : List ℕ) (v : Vector)
    → (p : IsPlacedSoFar S P x d bytes behind) → AllThere bytes behind → IsEncoding bytes v → IsWhole P p.head v
whole_here S P x d bytes behind v p (AllThere.short le) is = record {
  bytes = bytes;
  there = subst (HasBytes P p.head) (p.short ∙ in_head bytes le)
      (HasBytes.short (omega (arith, p.length_is, le)));
  size = sym p.length_is;
  encodes = is;
}
whole_here S P x d bytes behind v p (AllThere.long lt all) is = record {
  bytes = bytes;
  there = subst (HasBytes P p.head) (p.there ∙ all)
      (HasBytes.long (omega (arith, p.length_is, lt)) p.chain p.is_chain);
  size = sym p.length_is;
  encodes = is;
}

-- so its rows may be put
whole_so_far : (S : Log) (P : Pages) (x : ℕ) (d : Doc) (bytes behind : List ℕ) (v : Vector) → AllThere bytes behind
    → IsEncoding bytes v → IsPlacedSoFar S P x d bytes behind → IsRowedSoFar S P x d v [] 0
whole_so_far S P x d bytes behind v all is p = record {
  runs = p.runs;
  placed_one = p.placed_one;
  head = p.head;
  has = p.has;
  by = p.by;
  whole = whole_here S P x d bytes behind v p all is;
  no_row = p.no_row;
  chain = [];
  is_chain = p.no_rows;
  rows = refl;
  many = refl;
  ends = IsLastOf.none;
}

-- where it is indexed the transaction inserts it
pub inserts_it : (S : Log) (P : Pages) (x : ℕ) (d : Doc) (n : Name) (v : Vector) (c : Commit) → Shows S P
    → n ≡ name_of d → c.inserted ≡ [] → fate S x ≡ Running → placed S x ≡ d ∷ []
    → map name_of (marked S x) ≡ c.deleted → HasVector P d v → IsIndexed P d
    → (fate S x ≡ Running) × IsCommitOf S x (with_inserted (document n v) c) × AreIndexed S P x
inserts_it S P x d n v c shown named none runs one names has indexed = (
  runs,
  record {
    pages = P;
    shown = shown;
    deleted = sym names;
    inserted = subst (λ (l : List Document). AreInserts P (placed S x) (l ++ document n v ∷ [])) (sym none)
        (subst (λ (ds : List Doc). AreInserts P ds (document n v ∷ [])) (sym one) (named, has, tt));
  },
  λ e i. alone e (subst (In e) one i),
)
  where
    alone : (e : Doc) → In e (d ∷ []) → IsIndexed P e
    alone e (inl same) = subst (IsIndexed P) (sym same) indexed
    alone e (inr z) = absurd z

module _ {D : Type 0} (device : Disk D) (s : DbValue D) (pass : Pass) (x : ℕ) (d : Doc)
    (bytes behind : List ℕ) (v : Vector) (names : List Name) where
  pub put_done : AllThere bytes behind → IsEncoding bytes v → HasPlaced device s pass x d bytes behind names
      → HasRows device s pass x d v [] 0 names
  put_done all is placed t up R stands legal P shown =
      let had = placed t up R stands legal P shown in
      (whole_so_far (cut pass.seen R) P x d bytes behind v all is had.0, had.1)
