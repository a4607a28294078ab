-- The pages that a step leaves have their places in memory, and encodings.
use Rattle.std.proofs.Common.{◌≡◌, ◌≢◌, ◌<◌, ℕ, List, [], ◌∷◌, length, refl, sym, ap, subst, ◌∙◌, inl, inr}
use Rattle.std.proofs.Common.{arith}
use Rattle.std.specs.Prelude.{All}
use Rattle.std.specs.List.{AllByRecursion}
use Rattle.page_types.specs.Keys.{Rising}
use Rattle.page_types.specs.Pages.{IsPage}
use Rattle.page_types.specs.Records.{IsRecord}
use Rattle.page_types.specs.declared.record.Record.{Record}
use Rattle.core_state.specs.Laws.{MadeIsPage}
use Rattle.core_state.specs.Log.{In}
use Rattle.core_state.specs.Allowed.{Sheet, Step, View, Owes, sheet_pages}
use Rattle.buffer_frames.specs.Drawing.{IsSheet, HasEncoding, made_sheet, made_sheets}
use Rattle.buffer_frames.specs.Homes.{IsAway, HasPut}
use Rattle.buffer_frames.specs.declared.home.Home.{Home}
use Rattle.buffer_frames.proofs.DrawnRecords.{all_from}
use Rattle.buffer_frames.proofs.HomesPut.{sheet_of}

-- a sheet that is made is made of one
pub made_in : (r : Record) (xs : List Sheet) (x : Sheet) → In x (made_sheets r xs)
    → (y : Sheet) × In y xs × (x ≡ made_sheet r y)
made_in r [] x i = absurd i
made_in r (y ∷ ys) x (inl e) = (y, inl refl, e)
made_in r (y ∷ ys) x (inr i) = let z = made_in r ys x i in (z.0, inr z.1, z.2)

pub made_pages : (r : Record) (xs : List Sheet) → sheet_pages (made_sheets r xs) ≡ sheet_pages xs
made_pages r [] = refl
made_pages r (x ∷ xs) = ap (λ (l : List ℕ). x.page ∷ l) (made_pages r xs)

in_all : {A : Type 0} (P : A → Type 0) (xs : List A) (x : A) → AllByRecursion P xs → In x xs → P x
in_all P [] x all i = absurd i
in_all P (y ∷ ys) x all (inl e) = subst P (sym e) all.0
in_all P (y ∷ ys) x all (inr i) = in_all P ys x all.1 i

-- held pages have theirs
there_only : (homes : List Home) (xs : List Sheet) → AllByRecursion (λ (x : Sheet). IsAway homes x.page
    × (x.page < length homes)) xs → AllByRecursion (λ (x : Sheet). x.page < length homes) xs
there_only homes [] all = tt
there_only homes (x ∷ xs) all = ((all.0).1, there_only homes xs all.1)

pub held_there : (homes : List Home) (xs : List Sheet) → AllByRecursion (λ (x : Sheet). IsAway homes x.page
    × (x.page < length homes)) xs → All (λ (x : Sheet). x.page < length homes) xs
held_there homes xs all = all_from (λ (x : Sheet). x.page < length homes) xs (there_only homes xs all)

-- and so have those that a step leaves
left_there : (homes mid : List Home) (held xs : List Sheet)
    → AllByRecursion (λ (x : Sheet). IsAway homes x.page × (x.page < length homes)) held
    → length mid ≡ length homes → ((p : ℕ) → In p (sheet_pages xs) → In p (sheet_pages held))
    → AllByRecursion (λ (x : Sheet). x.page < length mid) xs
left_there homes mid held [] away size within = tt
left_there homes mid held (x ∷ xs) away size within =
    let y = sheet_of held x.page (within x.page (inl refl)) in
    let lt : (y.0).page < length homes =
    (in_all (λ (z : Sheet). IsAway homes z.page × (z.page < length homes)) held y.0 away y.1).1 in
    (omega (arith, lt, size, y.2), left_there homes mid held xs away size (λ p i. within p (inr i)))

pub made_there : (homes mid : List Home) (held : List Sheet) (v : View) (step : Step) (r : Record) (sheets : List Sheet)
    → sheets ≡ made_sheets r step.after → v.held ≡ held → AllByRecursion (λ (x : Sheet). IsAway homes x.page
    × (x.page < length homes)) held → HasPut homes mid held → Owes v step
    → All (λ (x : Sheet). x.page < length mid) sheets
made_there homes mid held v step r sheets is same away put owes =
    all_from (λ (x : Sheet). x.page < length mid) sheets
    (left_there homes mid held sheets away put.size
    (λ p i. subst (λ (xs : List Sheet). In p (sheet_pages xs)) same
    (owes.pages p (subst (In p) (ap sheet_pages is ∙ made_pages r step.after) i))))

pub made_once : (step : Step) (r : Record) (sheets : List Sheet) → sheets ≡ made_sheets r step.after → HasEncoding step
    → Rising (λ (p q : ℕ). p ≢ q) (sheet_pages sheets)
made_once step r sheets is encoded = subst (λ (ps : List ℕ). Rising (λ (p q : ℕ). p ≢ q) ps)
    (sym (ap sheet_pages is ∙ made_pages r step.after)) encoded.once

-- as the record makes them they have encodings
pub made_are : MadeIsPage → (step : Step) (r : Record) → IsRecord r → HasEncoding step → (x : Sheet)
    → In x (made_sheets r step.after) → IsPage x.content
made_are law step r is encoded x i =
    let y = made_in r step.after x i in
    let z = in_all IsSheet step.after y.0 encoded.each y.1 in
    subst (λ (s : Sheet). IsPage s.content) (sym y.2) (law r (y.0).content is z.used z.content)
