-- A table may be laid over an empty store.
use Rattle.std.proofs.Common.{◌≡◌, ℕ, [], replicate, refl, sym, ap, subst, ◌∙◌, arith}
use Rattle.page_types.specs.Numbers.{zeros, page_size, u16_bytes, u32_bytes, u64_bytes}
use Rattle.page_types.specs.Encoding.{page_bytes, front_bytes, framed}
use Rattle.page_types.specs.Pages.{IsPage}
use Rattle.page_types.specs.Views.{free_page}
use Rattle.core_state.specs.Log.{Pages, Shows, commits, cut, replay}
use Rattle.latch_table.specs.declared.slots.Framed.{Ghosts as Framed}
use Rattle.latch_table.specs.declared.slots.Journaled.{Ghosts as Journaled}
use Rattle.latch_table.specs.Laying.{EmptyStoresLie}

none_yet : Pages
none_yet p = free_page

free_is : IsPage free_page
free_is = record {
  right = omega arith;
  stamp = omega arith;
  body =
      (refl, refl);
  count = omega arith;
  fits = omega arith;
}

free_bytes : page_bytes free_page ≡ replicate 8192 0
unfolding page_bytes front_bytes framed u16_bytes u32_bytes u64_bytes zeros
free_bytes = refl

shown_none : Shows [] none_yet
unfolding replay zeros none_yet
shown_none p = (free_is, free_bytes)

nothing : (p : ℕ) → replay [] p ≡ zeros page_size
unfolding replay
nothing p = refl

pub empty_stores_lie : {F J : Type 0} (frame : Framed F) (journal : Journaled J) → EmptyStoresLie frame journal
empty_stores_lie frame journal frames b e = record {
  log = [];
  pages = none_yet;
  store = record {
    stands = e.stands;
    length_is = e.length_is;
    opened = (let n = e.length_is in omega arith);
    counted = (let n = e.counted in omega arith);
    flushed = λ l. e.flushed ∙ ap (λ n. commits (cut n [])) (sym e.counted);
    reached = (e.reached.0, λ l. subst (journal.reaches b e.reached.0) (sym e.flushed) (e.reached.1 l));
    legal = λ l. record { valid = tt; images = tt; redo_images = λ r n i. absurd i };
    shown = λ l. shown_none;
  };
  placed = e.placed;
  lie = λ i f at. record { page = e.page i f at; bytes = λ l lt. e.bytes i f at l lt ∙ sym (nothing (frame.page f)) };
  no_pins = e.no_pins;
  now = λ l. record { within = omega arith; counted = (let n = e.flushed in omega arith); each = tt };
}
