-- Worked rows: which slot is the lowest free one, and how many documents a page takes.
use Rattle.std.proofs.Common.{◌≡◌, ℕ, zero, suc, ◌+◌, ◌*◌, ◌<◌, ◌≤◌, [], ◌∷◌, ◌++◌, length, replicate, refl, inr, arith}
use Rattle.std.specs.Prelude.{Some, None}
use Rattle.std.proofs.lemmas.List.{length-replicate}
use Rattle.page_types.specs.Numbers.{most_body}
use Rattle.page_types.specs.Encoding.{body_bytes}
use Rattle.page_types.specs.Views.{slot_at}
use Rattle.page_types.specs.declared.page.Page.{Page}
use Rattle.page_types.specs.declared.page.Head.{Head}
use Rattle.page_types.specs.declared.page.Body.TheVariants as body
use Rattle.page_types.proofs.Joining.{slot_past}
use Rattle.page_types.proofs.BodySizes.{length-slot_bytes}
use Rattle.doc_heap.specs.HeapPages.{IsLowestFree, GetsHead, HasNoRoom}
use Rattle.doc_heap.proofs.SlotLists.{puts_last}
use Rattle.doc_heap.proofs.SlotSizes.{bytes_of, size_more, size_last}

-- slots 0 and 2 are used: slot 1 is the lowest free one
below_one : (h : Head) (j : ℕ) → j < 1 → slot_at (Some h ∷ None ∷ Some h ∷ []) j ≡ None → ⊥
below_one h zero lt e = absurd cc
below_one h (suc j) lt e = omega arith

between_two : (h : Head) → IsLowestFree (Some h ∷ None ∷ Some h ∷ []) 1
between_two h = record { free = refl; lower = λ j lt e. below_one h j lt e }

-- where all are used it is the next
used_at : (n j : ℕ) (h : Head) → j < n → slot_at (replicate n (Some h)) j ≡ Some h
used_at zero j h lt = absurd (omega arith)
used_at (suc n) zero h lt = refl
used_at (suc n) (suc j) h lt = used_at n j h (omega arith)

behind_all : (n : ℕ) (h : Head) → IsLowestFree (replicate n (Some h)) n
behind_all n h = record {
  free = slot_past (replicate n (Some h)) n (omega (arith, length-replicate n (Some h)));
  lower = λ j lt e. absurd (cc (e, used_at n j h lt));
}

-- the page with so many documents, whose vectors have 11 bytes, as `a:1` has
abbrev page_with : ℕ → Head → Page
page_with n h = record { right = 0; stamp = 0; body = body.Heap (replicate n (Some h)) }

size_of : (n : ℕ) (h : Head) → length h.vector ≡ 11 → length (bytes_of (replicate n (Some h))) ≡ n * 40
size_of zero h e = omega arith
size_of (suc n) h e = omega (arith, e, size_more (Some h) (replicate n (Some h)), length-slot_bytes h, size_of n h e)

one_more : (n : ℕ) (h : Head) → length h.vector ≡ 11
    → length (bytes_of (replicate n (Some h) ++ Some h ∷ [])) ≡ n * 40 + 40
one_more n h e = omega (arith, e, size_last (replicate n (Some h)) (Some h), size_of n h e, length-slot_bytes h)

gets_one : (n : ℕ) (h : Head) → GetsHead (page_with n h) h n (replicate n (Some h) ++ Some h ∷ [])
gets_one n h = record {
  lowest = behind_all n h;
  in_row = omega (arith, length-replicate n (Some h));
  put = puts_last (replicate n (Some h)) n (Some h) (omega (arith, length-replicate n (Some h)));
}

-- a page with 203 of them takes one more
takes_last : (n : ℕ) (h : Head) → n ≡ 203 → length h.vector ≡ 11
    → length (body_bytes (body.Heap (replicate n (Some h) ++ Some h ∷ []))) ≤ most_body
takes_last n h is e = omega (arith, is, one_more n h e)

-- a page with 204 of them takes no more
takes_none : (n : ℕ) (h : Head) → n ≡ 204 → length h.vector ≡ 11 → HasNoRoom (page_with n h) h
takes_none n h is e = record {
  slot = n;
  slots = replicate n (Some h) ++ Some h ∷ [];
  gets = gets_one n h;
  over = inr (omega (arith, is, one_more n h e));
}
