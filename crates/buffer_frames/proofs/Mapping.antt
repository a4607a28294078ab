-- Changes of the pages in a map.
use Rattle.std.proofs.Common.{◌≡◌, ◌≢◌, ◌⊎◌, ◌<◌, ◌||◌, ◌==◌, ℕ, zero, suc, ◌+◌, Bool, true, false, cond, List, [], ◌∷◌}
use Rattle.std.proofs.Common.{◌++◌, length, get_or, take, refl, sym, ap, subst, ◌∙◌, inl, inr, arith}
use Rattle.std.specs.Prelude.{Some, unwrap_or, is_some}
use Rattle.std.specs.List.{AllByRecursion}
use Rattle.std.proofs.lemmas.List.{take_more}
use Rattle.page_types.specs.Edits.{CanEdit, edited}
use Rattle.page_types.specs.Keys.{Rising}
use Rattle.page_types.specs.declared.record.Change.{Change}
use Rattle.page_types.specs.declared.record.Edit.{Edit}
use Rattle.page_types.specs.declared.record.Edit.TheVariants.{Image, Delta}
use Rattle.core_state.specs.Log.{In, after_changes}
use Rattle.core_state.proofs.RunningOnes.{same_or_other, is_same, is_other, on_same, on_other}
use Rattle.buffer_frames.specs.Applied.{page_or_zeros}
use Rattle.buffer_frames.specs.Maps.{lookup}
use Rattle.buffer_frames.specs.Inner.Reads.{stands, bytes_over, BeginsAs, MakesChanges}
use Rattle.buffer_frames.specs.declared.page_map.PageMap.{PageMap}

-- an edit goes by the bytes that matter to it
pub same_edit : (number : ℕ) (e : Edit) (old bytes : List ℕ) → BeginsAs e old bytes
    → edited number e old ≡ edited number e bytes
unfolding edited
same_edit number (Image image) old bytes begins = refl
same_edit number (Delta front start cut new) old bytes begins = ap (edited number (Delta front start cut new)) begins

pub can_edit_there : (e : Edit) (old bytes : List ℕ) → BeginsAs e old bytes → CanEdit e old → CanEdit e bytes
can_edit_there (Image image) old bytes begins can = tt
can_edit_there (Delta front start cut new) old bytes begins can = subst (CanEdit (Delta front start cut new)) begins can

pub can_edit_here : (e : Edit) (old bytes : List ℕ) → BeginsAs e old bytes → CanEdit e bytes → CanEdit e old
can_edit_here (Image image) old bytes begins can = tt
can_edit_here (Delta front start cut new) old bytes begins can =
    subst (CanEdit (Delta front start cut new)) (sym begins) can

-- one change of a page, which was put into the map before
pub one_made : (file : List ℕ) (map mid map' : PageMap) (number : ℕ) (c : Change) (b : List ℕ)
    → lookup mid c.page ≡ Some b → BeginsAs c.edit b (bytes_over file map c.page)
    → ((p : ℕ) → c.page ≢ p → lookup mid p ≡ lookup map p) → CanEdit c.edit b
    → ((p : ℕ) → lookup map' p ≡ cond (c.page == p) (Some (edited number c.edit b)) (lookup mid p))
    → MakesChanges file map map' number (c ∷ [])
one_made file map mid map' number c b here begins others can made = record {
  can = λ d i. elim i [
    | inl e ↦ subst (λ (x : Change). CanEdit x.edit (bytes_over file map x.page)) (sym e)
        (can_edit_there c.edit b (bytes_over file map c.page) begins can)
    | inr none ↦ absurd none
  ];
  bytes = λ p. elim (same_or_other c.page p) [
    | inl e ↦ on_it p e
    | inr off ↦ off_it p off
  ];
  there = λ p. elim (same_or_other c.page p) [
    | inl e ↦ ap is_some (made p ∙ on_same c.page p _ _ e) ∙ sym
        (ap (λ x. (x || false) || is_some (lookup map p)) (is_same c.page p e))
    | inr off ↦ ap is_some (made p ∙ on_other c.page p _ _ off ∙ others p off)
        ∙ sym (ap (λ x. (x || false) || is_some (lookup map p)) (is_other c.page p off))
  ];
}
  where
    on_it : (p : ℕ) → c.page ≡ p → bytes_over file map' p ≡ cond (c.page == p)
        (edited number c.edit (bytes_over file map p)) (bytes_over file map p)
    on_it p e =
        ap (λ o. unwrap_or o (page_or_zeros file p)) (made p ∙ on_same c.page p _ _ e)
        ∙ same_edit number c.edit b (bytes_over file map c.page) begins
        ∙ ap (λ q. edited number c.edit (bytes_over file map q)) e
        ∙ sym (on_same c.page p _ _ e)

    off_it : (p : ℕ) → c.page ≢ p → bytes_over file map' p ≡ cond (c.page == p)
        (edited number c.edit (bytes_over file map p)) (bytes_over file map p)
    off_it p off =
        ap (λ o. unwrap_or o (page_or_zeros file p)) (made p ∙ on_other c.page p _ _ off ∙ others p off)
        ∙ sym (on_other c.page p _ _ off)

-- before the first change
pub none_made : (file : List ℕ) (map : PageMap) (number : ℕ) → MakesChanges file map map number []
none_made file map number = record { can = λ c i. absurd i; bytes = λ p. refl; there = λ p. refl }

-- changes of other pages leave a page alone
pub others_alone : (number : ℕ) (cs : List Change) (p : ℕ) (old : List ℕ) → ((c : Change) → In c cs → c.page ≢ p)
    → after_changes number cs p old ≡ old
others_alone number [] p old off = refl
others_alone number (c ∷ cs) p old off =
    ap (after_changes number cs p) (on_other c.page p (edited number c.edit old) old (off c (inl refl)))
    ∙ others_alone number cs p old (λ d i. off d (inr i))

after_push : (number : ℕ) (cs : List Change) (c : Change) (p : ℕ) (old : List ℕ)
    → after_changes number (cs ++ c ∷ []) p old ≡ after_changes number (c ∷ []) p (after_changes number cs p old)
after_push number [] c p old = refl
after_push number (d ∷ cs) c p old = after_push number cs c p (cond (d.page == p) (edited number d.edit old) old)

stands_push : (p : ℕ) (cs : List Change) (c : Change) (b : Bool)
    → (stands p (cs ++ c ∷ []) || b) ≡ (stands p (c ∷ []) || (stands p cs || b))
stands_push p [] c b = refl
stands_push p (d ∷ cs) c b =
    either (d.page == p) (stands p (cs ++ c ∷ [])) (stands p (c ∷ [])) (stands p cs) b (stands_push p cs c b)
  where
    either : (x y z w b : Bool) → (y || b) ≡ (z || (w || b)) → ((x || y) || b) ≡ (z || ((x || w) || b))
    either true y true w b e = refl
    either true y false w b e = refl
    either false y z w b e = e

in_push : (c d : Change) (cs : List Change) → In d (cs ++ c ∷ []) → In d cs ⊎ (d ≡ c)
in_push c d [] i = elim i [ inl e ↦ inr e | inr none ↦ absurd none ]
in_push c d (x ∷ cs) i = elim i [
  | inl e ↦ inl (inl e)
  | inr later ↦ elim (in_push c d cs later) [ inl there ↦ inl (inr there) | inr e ↦ inr e ]
]

-- a page that the changes so far leave alone
pub still : (file : List ℕ) (map mid : PageMap) (number : ℕ) (cs : List Change) (p : ℕ)
    → MakesChanges file map mid number cs → ((d : Change) → In d cs → d.page ≢ p)
    → bytes_over file mid p ≡ bytes_over file map p
still file map mid number cs p so_far off = so_far.bytes p ∙ others_alone number cs p (bytes_over file map p) off

-- one change more
pub more_made : (file : List ℕ) (map mid map' : PageMap) (number : ℕ) (cs : List Change) (c : Change)
    → ((d : Change) → In d cs → d.page ≢ c.page)
    → MakesChanges file map mid number cs → MakesChanges file mid map' number (c ∷ [])
    → MakesChanges file map map' number (cs ++ c ∷ [])
more_made file map mid map' number cs c off so_far now = record {
  can = λ d i. elim (in_push c d cs i) [
    | inl there ↦ so_far.can d there
    | inr e ↦ subst (λ (x : Change). CanEdit x.edit (bytes_over file map x.page)) (sym e)
        (subst (CanEdit c.edit) (still file map mid number cs c.page so_far off) (now.can c (inl refl)))
  ];
  bytes =
      λ p. now.bytes p ∙ ap (after_changes number (c ∷ []) p) (so_far.bytes p)
      ∙ sym (after_push number cs c p (bytes_over file map p));
  there =
      λ p. now.there p ∙ ap (λ b. stands p (c ∷ []) || b) (so_far.there p)
      ∙ sym (stands_push p cs c (is_some (lookup map p)));
}

-- what is at a place of a list
pub in_at : (xs : List Change) (k : ℕ) (d : Change) → k < length xs → In (get_or xs k d) xs
in_at [] k d l = absurd (omega arith)
in_at (x ∷ xs) zero d l = inl refl
in_at (x ∷ xs) (suc k) d l = inr (in_at xs k d (omega arith))

all_at : (P : Change → Type 0) (xs : List Change) (k : ℕ) (d : Change) → AllByRecursion P xs → k < length xs
    → P (get_or xs k d)
all_at P [] k d all l = absurd (omega arith)
all_at P (x ∷ xs) zero d all l = all.0
all_at P (x ∷ xs) (suc k) d all l = all_at P xs k d all.1 (omega arith)

-- no page is twice
pub before_apart : (xs : List Change) (k : ℕ) (d : Change) → Rising (λ (a b : Change). a.page ≢ b.page) xs
    → k < length xs → (c : Change) → In c (take k xs) → c.page ≢ (get_or xs k d).page
before_apart [] k d once l c i = absurd (omega arith)
before_apart (x ∷ xs) zero d once l c i = absurd i
before_apart (x ∷ xs) (suc k) d once l c i = elim i [
  | inl e ↦ λ same. all_at (λ (b : Change). x.page ≢ b.page) xs k d once.0 (omega arith)
      (ap (λ (y : Change). y.page) (sym e) ∙ same)
  | inr later ↦ before_apart xs k d once.1 (omega arith) c later
]

-- one change more of a list of changes, of which no page is twice
pub next_made : (file file' : List ℕ) (map mid map' : PageMap) (number k : ℕ) (xs : List Change) (c : Change)
    → file' ≡ file → Rising (λ (a b : Change). a.page ≢ b.page) xs → k < length xs → c ≡ get_or xs k c
    → MakesChanges file map mid number (take k xs) → MakesChanges file' mid map' number (c ∷ [])
    → MakesChanges file map map' number (take (k + 1) xs)
next_made file file' map mid map' number k xs c same once l is so_far now =
    subst (MakesChanges file map map' number)
    (sym (take_more xs k c l ∙ ap (λ (d : Change). take k xs ++ d ∷ []) (sym is)))
    (more_made file map mid map' number (take k xs) c
    (λ d i. subst (λ (x : Change). d.page ≢ x.page) (sym is) (before_apart xs k c once l d i)) so_far
    (subst (λ (f : List ℕ). MakesChanges f mid map' number (c ∷ [])) same now))

-- a change that can't be made now could not be made before them all
pub not_before : (file file' : List ℕ) (map mid : PageMap) (number k : ℕ) (xs : List Change) (c : Change)
    → file' ≡ file → Rising (λ (a b : Change). a.page ≢ b.page) xs → k < length xs → c ≡ get_or xs k c
    → MakesChanges file map mid number (take k xs) → (CanEdit c.edit (bytes_over file' mid c.page) → ⊥)
    → ((d : Change) → In d xs → CanEdit d.edit (bytes_over file map d.page)) → ⊥
not_before file file' map mid number k xs c same once l is so_far off can =
    off (subst (λ (f : List ℕ). CanEdit c.edit (bytes_over f mid c.page)) (sym same)
    (subst (CanEdit c.edit)
    (sym (still file map mid number (take k xs) c.page so_far
    (λ d i. subst (λ (x : Change). d.page ≢ x.page) (sym is) (before_apart xs k c once l d i))))
    (can c (subst (λ (x : Change). In x xs) (sym is) (in_at xs k c l)))))
