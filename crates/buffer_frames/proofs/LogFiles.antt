-- Page files beside a log whose first change of each page is an image.
use Rattle.std.proofs.Common.{◌≡◌, ◌⊎◌, ◌≤◌, ◌-◌, ◌*◌, ℕ, zero, suc, cond, List, [], ◌∷◌, ◌++◌, length, map, take, drop}
use Rattle.std.proofs.Common.{replicate, refl, sym, ap, ap₂, subst, ◌∙◌, inl, inr, arith}
use Rattle.std.specs.List.{AllByRecursion}
use Rattle.std.proofs.lemmas.List.{length-take}
use Rattle.std.proofs.Math.Seq.{drop-nil}
use Rattle.page_types.specs.Numbers.{zeros, page_size}
use Rattle.page_types.specs.Edits.{edited, CanEdit}
use Rattle.page_types.specs.declared.record.Change.{Change}
use Rattle.page_types.specs.declared.record.Edit.{Edit}
use Rattle.page_types.specs.declared.record.Edit.TheVariants.{Image}
use Rattle.page_types.specs.declared.record.Record.{Record}
use Rattle.page_types.specs.declared.record.Kind.{Kind}
use Rattle.page_types.specs.declared.record.Kind.TheVariants as kind
use Rattle.core_state.specs.Log.{Log, In, changed, after_changes, redo_with, redo_of, replay}
use Rattle.core_state.specs.Legal.{ChangesFrom, IsImageOf, ImagesFrom, RecordsAreValid}
use Rattle.core_state.specs.Stores.{page_in, PagesStand}
use Rattle.core_state.specs.History.{History}
use Rattle.core_state.proofs.Showing.{untouched}
use Rattle.core_state.proofs.RunningOnes.{same_or_other, is_same, is_other}
use Rattle.buffer_frames.specs.Applied.{page_or_zeros, applied, CanApply}
use Rattle.buffer_frames.specs.Opens.{IsEarlyKind, IsLogOf}
use Rattle.buffer_frames.specs.Inner.LogFiles.{EarlyRedo, StandsBesideMore, AppliesAsReplayed, OpensIsStore}
use Rattle.buffer_frames.proofs.HistoryParts.{still_in}

-- no kind of an early log is a checkpoint
early_kind : (k : Kind) (n : ℕ) → IsEarlyKind k → redo_with k n ≡ n
early_kind (kind.Checkpoint redo) n e = absurd e
early_kind _ n e = refl

pub early_redo : EarlyRedo
early_redo [] early = refl
early_redo (r ∷ R) early = early_kind r.kind (redo_of R) (early r (inl refl)) ∙ early_redo R (λ s i. early s (inr i))

-- records are numbered from 1
pub numbered_in : (R : Log) (r : Record) → RecordsAreValid R → In r R → 1 ≤ r.number
numbered_in [] r v i = absurd i
numbered_in (s ∷ R) r v (inl e) = omega (arith, v.1.number, ap (λ (x : Record). x.number) e)
numbered_in (s ∷ R) r v (inr i) = numbered_in R r v.0 i

-- each page that the log changes is changed from its redo number on
pub changed_since : (R : Log) (H : History) (p : ℕ) → IsLogOf R H → ChangesFrom 0 R p → ChangesFrom (redo_of R) R p
changed_since R H p l c = (c.0, c.1, omega (arith, early_redo R l.early, numbered_in R c.0 l.legal.valid c.1), c.3)

pub stands_beside_more : StandsBesideMore
stands_beside_more more R H file l s = record {
  settled = λ p c off. absurd (off (changed_since (more ++ R) H p l c));
  untouched = λ p off. s.untouched p (λ c. off (c.0, still_in c.0 more R c.1, c.2, c.3));
}

-- the pages of an empty file
none_in : (p : ℕ) → page_in [] p ≡ []
none_in p = ap (take page_size) (drop-nil {A = ℕ} (p * page_size))

pub empty_stands : (R : Log) (H : History) → IsLogOf R H → PagesStand R []
empty_stands R H l = record {
  settled = λ p c off. absurd (off (changed_since R H p l c));
  untouched = λ p off. subst (AllByRecursion (λ (b : ℕ). b ≡ 0)) (sym (none_in p)) tt;
}

-- zeros with zeros after them
zeros_more : (n : ℕ) (xs : List ℕ) → AllByRecursion (λ (b : ℕ). b ≡ 0) xs → length xs ≤ n
    → xs ++ replicate (n - length xs) 0 ≡ replicate n 0
zeros_more n [] all le = ap (λ k. replicate k 0) (omega arith)
zeros_more zero (x ∷ xs) all le = absurd (omega (arith, le))
zeros_more (suc n) (x ∷ xs) all le =
    ap₂ ◌∷◌ all.0 (ap (λ k. xs ++ replicate k 0) (omega arith) ∙ zeros_more n xs all.1 (omega (arith, le)))

pub zeros_page : (file : List ℕ) (p : ℕ) → AllByRecursion (λ (b : ℕ). b ≡ 0) (page_in file p)
    → page_or_zeros file p ≡ zeros page_size
unfolding page_or_zeros zeros
zeros_page file p all =
    zeros_more page_size (page_in file p) all (omega (arith, length-take page_size (drop (p * page_size) file)))

-- an image leaves the same of all bytes
image_same : (number : ℕ) (e : Edit) (a b : List ℕ) → (bytes : List ℕ) × (e ≡ Image bytes)
    → edited number e a ≡ edited number e b
unfolding edited
image_same number e a b i = ap (λ x. edited number x a) i.1 ∙ sym (ap (λ x. edited number x b) i.1)

-- changes of a page by images leave the same, or none of them is of the page
after_alike : (number : ℕ) (cs : List Change) (p : ℕ) (a b : List ℕ)
    → ((c : Change) → In c cs → c.page ≡ p → IsImageOf c)
    → (after_changes number cs p a ≡ after_changes number cs p b) ⊎ (In p (map (λ (c : Change). c.page) cs) → ⊥)
after_alike number [] p a b images = inr (λ i. i)
after_alike number (c ∷ cs) p a b images = elim (same_or_other c.page p) [
  | inl e ↦ inl (
      ap (λ t. after_changes number cs p (cond t (edited number c.edit a) a)) (is_same c.page p e)
      ∙ ap (after_changes number cs p) (image_same number c.edit a b (images c (inl refl) e))
      ∙ sym (ap (λ t. after_changes number cs p (cond t (edited number c.edit b) b)) (is_same c.page p e))
      )
  | inr d ↦ elim (after_alike number cs p a b (λ x i. images x (inr i))) [
    | inl alike ↦ inl (
        ap (λ t. after_changes number cs p (cond t (edited number c.edit a) a)) (is_other c.page p d)
        ∙ alike
        ∙ sym (ap (λ t. after_changes number cs p (cond t (edited number c.edit b) b)) (is_other c.page p d))
        )
    | inr off ↦ inr (λ i. elim i [ inl e ↦ d (sym e) | inr j ↦ off j ])
  ]
]

-- a page that no record changes
pub record IsUntouched (R : Log) (file : List ℕ) (p : ℕ) : Type 0 where
  pub off : ChangesFrom 0 R p → ⊥
  pub in_file : applied file R p ≡ page_or_zeros file p
  pub shown : replay R p ≡ zeros page_size

-- an untouched page goes on so where the next record leaves it out
untouched_on : (r : Record) (R : Log) (file : List ℕ) (p : ℕ) → IsUntouched R file p → (In p (changed r) → ⊥)
    → IsUntouched (r ∷ R) file p
unfolding applied replay
untouched_on r R file p u off = record {
  off =
      λ c. elim c.1 [ inl e ↦ off (subst (λ (s : Record). In p (changed s)) e c.3) | inr i ↦ u.off (c.0, i, c.2, c.3) ];
  in_file = untouched r.number r.changes p (applied file R p) off ∙ u.in_file;
  shown = untouched r.number r.changes p (replay R p) off ∙ u.shown;
}

-- where no record before changes the page the first changes of it are images
only_images : (r : Record) (R : Log) (file : List ℕ) (p : ℕ)
    → ((c : Change) → In c r.changes → 1 ≤ r.number → ChangesFrom 1 R c.page ⊎ IsImageOf c) → 1 ≤ r.number
    → IsUntouched R file p
    → (c : Change) → In c r.changes → c.page ≡ p → IsImageOf c
only_images r R file p images low u c i e = elim (images c i low) [
  | inl before ↦ absurd (u.off (before.0, before.1, omega arith, subst (λ q. In q (changed before.0)) e before.3))
  | inr image ↦ image
]

-- what the records leave of a page over a page file and over zeros is the same, or none changes it
pub applied_told : (R : Log) (file : List ℕ) (p : ℕ) → ImagesFrom 1 R → ((r : Record) → In r R → 1 ≤ r.number)
    → (applied file R p ≡ replay R p) ⊎ IsUntouched R file p
unfolding applied replay
applied_told [] file p images numbers = inr (record { off = λ c. c.1; in_file = refl; shown = refl })
applied_told (r ∷ R) file p images numbers = elim (applied_told R file p images.0 (λ s i. numbers s (inr i))) [
  | inl e ↦ inl (ap (after_changes r.number r.changes p) e)
  | inr u ↦
      let are_images = only_images r R file p images.1 (numbers r (inl refl)) u in
      elim (after_alike r.number r.changes p (applied file R p) (replay R p) are_images) [
        | inl e ↦ inl e
        | inr off ↦ inr (untouched_on r R file p u off)
      ]
]

pub applies_as_replayed : AppliesAsReplayed
applies_as_replayed R H file l s p =
    elim (applied_told R file p l.legal.images (λ r i. numbered_in R r l.legal.valid i)) [
      | inl e ↦ e
      | inr u ↦ u.in_file ∙ zeros_page file p (s.untouched p u.off) ∙ sym u.shown
    ]

-- the changes of a legal log can be made to each page file
can_apply : (R : Log) (file : List ℕ) → RecordsAreValid R → ImagesFrom 1 R → CanApply file R
can_apply [] file v images = tt
can_apply (r ∷ R) file v images = (
  can_apply R file v.0 images.0,
  λ c i. elim (images.1 c i (numbered_in (r ∷ R) r v (inl refl))) [
    | inl before ↦ elim (applied_told R file c.page images.0 (λ s j. numbered_in R s v.0 j)) [
      | inl e ↦ subst (CanEdit c.edit) (sym e) (v.1.can_edit c i)
      | inr u ↦ absurd (u.off (before.0, before.1, omega arith, before.3))
    ]
    | inr image ↦ subst (λ (e : Edit). CanEdit e (applied file R c.page)) (sym image.1) tt
  ],
)

pub opens_is_store : OpensIsStore
opens_is_store files H o =
    record { counted = o.counted; applies = can_apply o.records files.pages o.log_of.legal.valid o.log_of.legal.images }
