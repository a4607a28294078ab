-- The pages that a record of a step leaves.
use Rattle.std.proofs.Common.{◌≡◌, ◌≢◌, ◌==◌, cond, ℕ, List, [], ◌∷◌, refl, sym, ap, subst, ◌∙◌, inl, inr}
use Rattle.std.specs.List.{AllByRecursion}
use Rattle.page_types.specs.Keys.{Rising}
use Rattle.page_types.specs.Encoding.{page_bytes}
use Rattle.page_types.specs.Pages.{IsPage}
use Rattle.page_types.specs.declared.page.Page.{Page}
use Rattle.page_types.specs.declared.page.Body.TheVariants as body
use Rattle.page_types.specs.declared.record.Record.{Record}
use Rattle.page_types.specs.declared.record.Kind.{Kind}
use Rattle.page_types.specs.declared.record.Kind.TheVariants as kind
use Rattle.core_state.specs.Log.{Log, Pages, In, Shows, replay}
use Rattle.core_state.specs.Legal.{RuleHolds}
use Rattle.core_state.specs.Allowed.{Sheet, View, IsAllowed, Step, Leaves, AreMade, MayLog, sheet_pages, made_by}
use Rattle.core_state.specs.Allowed.{drawn_body}
use Rattle.core_state.specs.Logged.{IsRecordOf}
use Rattle.core_state.proofs.Showing.{replay_kept}
use Rattle.core_state.proofs.Leaving.{made_is_page}
use Rattle.core_state.proofs.PageLists.{in_or_not}
use Rattle.core_state.proofs.RunningOnes.{on_same, on_other}
use Rattle.core_state.proofs.TouchedPages.{none_free, touched}
use Rattle.core_state.proofs.LivePages.{body_not_free}

-- page p as the record makes it, where it was `old`
abbrev pub left_in : Record → List Sheet → ℕ → Page → Page
left_in r [] p old = old
left_in r (x ∷ xs) p old = cond (x.page == p) (made_by r x.content) (left_in r xs p old)

apart_from : (p : ℕ) (xs : List Sheet) → AllByRecursion (λ (q : ℕ). p ≢ q) (sheet_pages xs) → (x : Sheet) → In x xs
    → p ≢ x.page
apart_from p [] all x i = absurd i
apart_from p (y ∷ ys) all x (inl e) = λ f. all.0 (f ∙ ap (λ (z : Sheet). z.page) e)
apart_from p (y ∷ ys) all x (inr i) = apart_from p ys all.1 x i

left_here : (r : Record) (xs : List Sheet) → Rising (λ (p q : ℕ). p ≢ q) (sheet_pages xs) → (x : Sheet) → In x xs
    → (old : Page) → left_in r xs x.page old ≡ made_by r x.content
left_here r [] once x i old = absurd i
left_here r (y ∷ ys) once x (inl e) old =
    on_same y.page x.page (made_by r y.content) (left_in r ys x.page old) (ap (λ (z : Sheet). z.page) (sym e))
    ∙ ap (λ (z : Sheet). made_by r z.content) (sym e)
left_here r (y ∷ ys) once x (inr i) old =
    on_other y.page x.page (made_by r y.content) (left_in r ys x.page old) (apart_from y.page ys once.0 x i)
    ∙ left_here r ys once.1 x i old

left_else : (r : Record) (xs : List Sheet) (p : ℕ) (old : Page) → (In p (sheet_pages xs) → ⊥)
    → left_in r xs p old ≡ old
left_else r [] p old off = refl
left_else r (y ∷ ys) p old off =
    on_other y.page p (made_by r y.content) (left_in r ys p old) (λ e. off (inl (sym e)))
    ∙ left_else r ys p old (λ i. off (inr i))

pub page_in : (xs : List Sheet) (x : Sheet) → In x xs → In x.page (sheet_pages xs)
page_in [] x i = absurd i
page_in (y ∷ ys) x (inl e) = inl (ap (λ (z : Sheet). z.page) e)
page_in (y ∷ ys) x (inr i) = inr (page_in ys x i)

of_page : (xs : List Sheet) (p : ℕ) → In p (sheet_pages xs) → (x : Sheet) × In x xs × (x.page ≡ p)
of_page [] p i = absurd i
of_page (y ∷ ys) p (inl e) = (y, inl refl, sym e)
of_page (y ∷ ys) p (inr i) = let x = of_page ys p i in (x.0, inr x.1, x.2)

are_left : (Q : Pages) (r : Record) (xs : List Sheet) → ((x : Sheet) → In x xs → Q x.page ≡ made_by r x.content)
    → AreMade Q r xs
are_left Q r [] each = tt
are_left Q r (x ∷ xs) each = (each x (inl refl), are_left Q r xs (λ y i. each y (inr i)))

drawn_free : (k : Kind) → drawn_body k body.Free ≡ body.Free
drawn_free (kind.PlaceHead item serial) = refl
drawn_free _ = refl

module _ (v : View) (s : Step) (R : Log) (r : Record) (a : IsAllowed v R) (may : MayLog v s)
    (made : IsRecordOf R s r) (once : Rising (λ (p q : ℕ). p ≢ q) (sheet_pages s.after))
    (fits : (x : Sheet) → In x s.after → IsPage x.content) where
  abbrev pub after : Pages
  after p = left_in r s.after p (a.pages p)

  here : (x : Sheet) → In x s.after → after x.page ≡ made_by r x.content
  here x i = left_here r s.after once x i (a.pages x.page)

  pub leaves : Leaves a.pages after r s
  leaves = record {
    here = are_left after r s.after here;
    elsewhere = λ p off. left_else r s.after p (a.pages p) off;
  }

  pub rule : RuleHolds R a.pages after r v.floor v.since
  rule = may R a r after made.drawn leaves

  -- no page is left free
  not_free_left : (x : Sheet) → In x s.after → x.content.body ≢ body.Free
  not_free_left x i e =
      body_not_free a.pages after r v.since x.page (touched R a.pages after r v.floor v.since
      (none_free R a.pages a.shown) rule x.page (subst (In x.page) (sym made.drawn.pages) (page_in s.after x i)))
      (ap (λ (p : Page). p.body) (here x i) ∙ ap (drawn_body r.kind) e ∙ drawn_free r.kind)

  abbrev IsShown : ℕ → Type 0
  IsShown p = IsPage (after p) × (page_bytes (after p) ≡ replay (r ∷ R) p)

  pub shown_after : Shows (r ∷ R) after
  shown_after p = elim (in_or_not p (sheet_pages s.after)) [
    | inl i ↦
        let x = of_page s.after p i in
        subst IsShown x.2 (
          subst IsPage (sym (here x.0 x.1)) (made_is_page r x.0.content made.is_record
              (not_free_left x.0 x.1) (fits x.0 x.1)),
          ap page_bytes (here x.0 x.1) ∙ sym (made.bytes x.0 x.1),
        )
    | inr off ↦
        let same = left_else r s.after p (a.pages p) off in (
          subst IsPage (sym same) (a.shown p).0,
          ap page_bytes same ∙ (a.shown p).1
              ∙ sym (replay_kept R r p (λ i. off (subst (In p) made.drawn.pages i))),
        )
  ]
