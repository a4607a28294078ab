-- Items of dead documents that are out of the index are so still, and slots that were free once.
use Rattle.std.proofs.Common.{◌≡◌, ◌≤◌, ℕ, ◌∷◌, ◌++◌, length, sym, ap, subst, ◌∙◌, inl, inr, arith}
use Rattle.std.proofs.Common.{length-append}
use Rattle.std.specs.Prelude.{Option, Some, None}
use Rattle.page_types.specs.declared.page.Head.{Head}
use Rattle.page_types.specs.declared.record.Record.{Record}
use Rattle.core_state.specs.Log.{Log, Pages, Shows, cut}
use Rattle.core_state.specs.Documents.{Doc, IsDead, head_of}
use Rattle.core_vacuum.specs.Leaving.{IsOut}
use Rattle.core_vacuum.specs.Keeping.{VacuumKeeps}
use Rattle.gin_place.proofs.Logs.{cut_front}
use Rattle.gin_vacuum.specs.Freeing.{WasFree}

dead_more : (R : Log) (n m : ℕ) (d : Doc) → n ≤ m → IsDead R n d → IsDead R m d
dead_more R n m d le (IsDead.insert_aborted x e p) = IsDead.insert_aborted x e p
dead_more R n m d le (IsDead.delete_counted x k e l p) = IsDead.delete_counted x k e (omega (arith, l, le)) p

-- by a higher floor
pub out_more : (S : Log) (P : Pages) (n m i : ℕ) → n ≤ m → IsOut S P n i → IsOut S P m i
out_more S P n m i le o = record {
  may = record {
    doc = (o.may).doc;
    head = (o.may).head;
    item = (o.may).item;
    has = (o.may).has;
    dead = dead_more S n m (o.may).doc le (o.may).dead;
    no_row = (o.may).no_row;
  };
  swept = o.swept;
}

pub none_some : (h : Head) (s : Option Head) → s ≡ None → s ≡ Some h → ⊥
none_some h s e f = cc

-- the head of an item that is out
pub head_out : (S : Log) (P : Pages) (n i : ℕ) (o : IsOut S P n i) → head_of P i ≡ Some (o.may).head
head_out S P n i o = subst (λ (j : ℕ). head_of P j ≡ Some (o.may).head) (o.may).item ((o.may).has).at

-- over a record of the kinds 18 to 21 an item is out still, where its slot is used then
pub out_used : (R : Log) (r : Record) (P Q : Pages) → VacuumKeeps R r P Q → (floor i : ℕ)
    → (head_of Q i ≡ None → ⊥) → IsOut R P floor i → IsOut (r ∷ R) Q floor i
out_used R r P Q keep floor i used o = elim (keep.leave floor i o.may) [
  | inl m ↦ record { may = m; swept = λ k main. o.swept k (keep.no_pair k i main) }
  | inr none ↦ absurd (used none)
]

-- as it is where its head is the same
pub out_elsewhere : (R : Log) (r : Record) (P Q : Pages) → VacuumKeeps R r P Q → (floor i : ℕ)
    → head_of Q i ≡ head_of P i → IsOut R P floor i → IsOut (r ∷ R) Q floor i
out_elsewhere R r P Q keep floor i same o =
    out_used R r P Q keep floor i
    (λ none. none_some (o.may).head (head_of P i) (sym same ∙ none) (head_out R P floor i o)) o

-- what was free was so also for a log that goes on
pub was_free_on : (began i : ℕ) (S later S' : Log) → S' ≡ later ++ S → WasFree began S i → WasFree began S' i
was_free_on began i S later S' on w = record {
  length_then = w.length_then;
  since = w.since;
  within = omega (arith, w.within, ap length on, length-append later S);
  pages = w.pages;
  shown = subst (λ (T : Log). Shows T w.pages)
      (sym (ap (cut w.length_then) on ∙ cut_front w.length_then later S w.within)) w.shown;
  free = w.free;
}
