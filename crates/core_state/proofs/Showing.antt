-- The pages that a log shows.
use Rattle.std.proofs.Common.{◌≡◌, ℕ, ◌==◌, false, cond, List, [], ◌∷◌, map, replicate, refl, sym, ap, ◌∙◌, inl, inr}
use Rattle.std.proofs.Common.{arith}
use Rattle.std.proofs.Math.Path.{fun_ext}
use Rattle.page_types.specs.Numbers.{u16_bytes, u32_bytes, u64_bytes, zeros}
use Rattle.page_types.specs.Encoding.{page_bytes, front_bytes, framed}
use Rattle.page_types.specs.Pages.{IsPage}
use Rattle.page_types.specs.Views.{free_page}
use Rattle.page_types.specs.Edits.{edited}
use Rattle.page_types.specs.declared.record.Change.{Change}
use Rattle.page_types.specs.declared.record.Record.{Record}
use Rattle.page_types.proofs.PageLaws.{page_told}
use Rattle.core_state.specs.Log.{Log, Pages, In, Shows, changed, after_changes, replay}
use Rattle.core_state.specs.Laws.{ShownAreOne, OthersStay}

pub shown_one : ShownAreOne
shown_one R P Q f g = fun_ext (λ p. page_told (P p) (Q p) (f p).0 (g p).0 ((f p).1 ∙ sym (g p).1))

is_other : (a b : ℕ) → (b ≡ a → ⊥) → (a == b) ≡ false
is_other a b off = grind (arith, off)

-- changes of other pages leave a page's bytes
pub untouched : (number : ℕ) (cs : List Change) (p : ℕ) (old : List ℕ) → (In p (map (λ (c : Change). c.page) cs) → ⊥)
    → after_changes number cs p old ≡ old
untouched number [] p old off = refl
untouched number (c ∷ cs) p old off =
    ap (λ b. after_changes number cs p (cond b (edited number c.edit old) old)) (is_other c.page p (λ e. off (inl e)))
    ∙ untouched number cs p old (λ i. off (inr i))

-- a record that doesn't name a page leaves its bytes
pub replay_kept : (R : Log) (r : Record) (p : ℕ) → (In p (changed r) → ⊥) → replay (r ∷ R) p ≡ replay R p
unfolding replay
replay_kept R r p off = untouched r.number r.changes p (replay R p) off

pub others_stay : OthersStay
others_stay R r P Q f g p off = page_told (Q p) (P p) (g p).0 (f p).0 ((g p).1 ∙ replay_kept R r p off ∙ sym (f p).1)

-- an empty log shows free pages
abbrev pub none_yet : Pages
none_yet p = free_page

pub free_is : IsPage free_page
free_is = record {
  right = omega arith;
  stamp = omega arith;
  body =
      (refl, refl);
  count = omega arith;
  fits = omega arith;
}

free_bytes : page_bytes free_page ≡ replicate 8192 0
unfolding page_bytes front_bytes framed u16_bytes u32_bytes u64_bytes zeros
free_bytes = refl

pub shown_none : Shows [] none_yet
unfolding replay zeros
shown_none p = (free_is, free_bytes)
