-- Pages that are put where they lie.
use Rattle.std.proofs.Common.{◌≡◌, ◌≢◌, ◌<◌, ℕ, List, [], ◌∷◌, ◌++◌, length, refl, sym, ap, subst, ◌∙◌, inl, inr, arith}
use Rattle.std.proofs.Common.{append_assoc, length-append}
use Rattle.std.specs.Prelude.{set, All}
use Rattle.std.specs.List.{AllByRecursion}
use Rattle.std.proofs.lemmas.List.{get_or-set_other, get_or_at, length-set}
use Rattle.std.proofs.lemmas.Grind.{get_or-set_at}
use Rattle.page_types.specs.Keys.{Rising}
use Rattle.page_types.specs.Pages.{IsPage}
use Rattle.page_types.specs.Encoding.{page_bytes}
use Rattle.core_state.specs.Log.{Log, Pages, In, Shows, replay}
use Rattle.core_state.specs.Allowed.{Sheet, AreHeld, sheet_pages}
use Rattle.core_state.proofs.PageLists.{in_or_not}
use Rattle.core_state.proofs.Steps.Making.{page_in}
use Rattle.buffer_frames.specs.Homes.{home_at, ShowsBytes, HasPage, HavePages, HasPut}
use Rattle.buffer_frames.specs.Frames.{HomesShow}
use Rattle.buffer_frames.specs.declared.home.Home.{Home}
use Rattle.buffer_frames.specs.declared.home.Home.TheVariants.{Free, Content}

pub none_put : (homes : List Home) → HasPut homes homes []
none_put homes = record { here = λ x i. absurd i; elsewhere = λ p off. refl; size = refl }

-- a page more
pub put_more : (old mid : List Home) (x : Sheet) (done : List Sheet) → HasPut old mid done → x.page < length mid
    → (In x.page (sheet_pages done) → ⊥) → HasPut old (set mid x.page (Content x.content)) (x ∷ done)
put_more old mid x done put lt off = record {
  here = λ y i. elim i [
    | inl e ↦ get_or-set_at mid x.page y.page (Content x.content) Free (ap (λ (z : Sheet). z.page) e) lt
        ∙ ap (λ (z : Sheet). Content z.content) (sym e)
    | inr j ↦ get_or-set_other mid x.page y.page (Content x.content) Free
        (λ e. off (subst (λ p. In p (sheet_pages done)) e (page_in done y j))) ∙ put.here y j
  ];
  elsewhere = λ p out. get_or-set_other mid x.page p (Content x.content) Free (λ e. out (inl e))
      ∙ put.elsewhere p (λ i. out (inr i));
  size = length-set mid x.page (Content x.content) ∙ put.size;
}

-- the last page is once
pub last_apart : (rest : List Sheet) (x : Sheet) (done : List Sheet)
    → Rising (λ (p q : ℕ). p ≢ q) (sheet_pages (rest ++ x ∷ done)) → In x.page (sheet_pages done) → ⊥
last_apart [] x done once i = apart (sheet_pages done) once.0 i
  where
    apart : (ps : List ℕ) → AllByRecursion (λ (q : ℕ). x.page ≢ q) ps → In x.page ps → ⊥
    apart [] all i = i
    apart (p ∷ ps) all (inl e) = all.0 e
    apart (p ∷ ps) all (inr i) = apart ps all.1 i
last_apart (y ∷ rest) x done once i = last_apart rest x done once.1 i

-- what is left of some pages, but for the last, which is put now
pub last_split : (all left rest : List Sheet) (x : Sheet) (done : List Sheet) → all ≡ left ++ done
    → left ≡ rest ++ x ∷ [] → all ≡ rest ++ x ∷ done
last_split all left rest x done e last =
    e ∙ ap (λ (l : List Sheet). l ++ done) last ∙ append_assoc rest (x ∷ []) done

last_meets : (P : Sheet → Type 0) (rest : List Sheet) (x : Sheet) (done : List Sheet) → All P (rest ++ x ∷ done) → P x
last_meets P rest x done all =
    subst P (get_or_at rest x done x (length rest) refl)
    (all (length rest) x (omega (arith, length-append rest (x ∷ done))))

pub last_there : (old mid : List Home) (all left rest : List Sheet) (x : Sheet) (done : List Sheet)
    → all ≡ left ++ done → left ≡ rest ++ x ∷ [] → HasPut old mid done
    → All (λ (y : Sheet). y.page < length old) all → x.page < length mid
last_there old mid all left rest x done e last put there =
    let P : Sheet → Type 0 = λ y. y.page < length old in
    let lt : x.page < length old =
    last_meets P rest x done (subst (λ (l : List Sheet). All P l) (last_split all left rest x done e last) there) in
    omega (arith, lt, put.size)

pub last_put : (old mid : List Home) (all left rest : List Sheet) (x : Sheet) (done : List Sheet)
    → all ≡ left ++ done → left ≡ rest ++ x ∷ [] → HasPut old mid done
    → All (λ (y : Sheet). y.page < length old) all → Rising (λ (p q : ℕ). p ≢ q) (sheet_pages all)
    → HasPut old (set mid x.page (Content x.content)) (x ∷ done)
last_put old mid all left rest x done e last put there once =
    put_more old mid x done put (last_there old mid all left rest x done e last put there)
    (last_apart rest x done (subst (λ (l : List Sheet). Rising (λ (p q : ℕ). p ≢ q) (sheet_pages l))
    (last_split all left rest x done e last) once))

-- the sheet of a page
pub sheet_of : (xs : List Sheet) (p : ℕ) → In p (sheet_pages xs) → (x : Sheet) × In x xs × (x.page ≡ p)
sheet_of [] p i = absurd i
sheet_of (y ∷ ys) p (inl e) = (y, inl refl, sym e)
sheet_of (y ∷ ys) p (inr i) = let x = sheet_of ys p i in (x.0, inr x.1, x.2)

-- what was put shows these bytes
pub put_shows : (old new : List Home) (xs : List Sheet) (S : Log) → HasPut old new xs
    → ((x : Sheet) → In x xs → replay S x.page ≡ page_bytes x.content)
    → ((p : ℕ) → (In p (sheet_pages xs) → ⊥) → ShowsBytes (home_at old p) (replay S p)) → HomesShow new S
put_shows old new xs S put here else p = elim (in_or_not p (sheet_pages xs)) [
  | inl i ↦
      let x = sheet_of xs p i in
      let home : home_at new p ≡ Content (x.0).content = ap (home_at new) (sym x.2) ∙ put.here x.0 x.1 in
      subst (λ (h : Home). ShowsBytes h (replay S p)) (sym home) (ap (replay S) (sym x.2) ∙ here x.0 x.1)
  | inr off ↦ subst (λ (h : Home). ShowsBytes h (replay S p)) (sym (put.elsewhere p off)) (else p off)
]

pub put_pages : (old new : List Home) (xs : List Sheet) → HasPut old new xs
    → ((x : Sheet) → In x xs → IsPage x.content) → HavePages old → HavePages new
put_pages old new xs put are have p = elim (in_or_not p (sheet_pages xs)) [
  | inl i ↦
      let x = sheet_of xs p i in
      let home : home_at new p ≡ Content (x.0).content = ap (home_at new) (sym x.2) ∙ put.here x.0 x.1 in
      subst HasPage (sym home) (are x.0 x.1)
  | inr off ↦ subst HasPage (sym (put.elsewhere p off)) (have p)
]

-- the pages of a log show what the pass holds
pub held_bytes : (R : Log) (P : Pages) (xs : List Sheet) → Shows R P → AreHeld P xs → (x : Sheet) → In x xs
    → replay R x.page ≡ page_bytes x.content
held_bytes R P [] shown held x i = absurd i
held_bytes R P (y ∷ ys) shown held x (inl e) =
    ap (λ (z : Sheet). replay R z.page) e ∙ sym (shown y.page).1 ∙ ap page_bytes held.0
    ∙ ap (λ (z : Sheet). page_bytes z.content) (sym e)
held_bytes R P (y ∷ ys) shown held x (inr i) = held_bytes R P ys shown held.1 x i
