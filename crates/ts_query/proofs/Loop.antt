-- The loop over a text's characters.
use Rattle.std.proofs.Common.{◌≡◌, ℕ, ◌+◌, ◌<◌, List, [], ◌∷◌, ◌++◌, length, take, get_or, refl, sym, subst, ap, ◌∙◌}
use Rattle.std.proofs.Common.{append_assoc, arith}
use Rattle.std.proofs.lemmas.List.{append-nil, length-append}
use Rattle.std.proofs.Math.Seq.{take-append_seam, get_or-append_seam, take-length}
use Rattle.ts_base.specs.Fault.{FaultAt, Stands}
use Rattle.ts_base.specs.Inner.Leads.{Leads}
use Rattle.ts_base.proofs.Places.{fault_here, fault_ending, leads_read}
use Rattle.ts_query.specs.Inner.Reader.{Reading, ReadsPair, Stand, QueryRest, Moved, EndsAs, IsOutcome, ReadTo}
use Rattle.ts_base.specs.Inner.Machine.{Stuck, Unfinished, RestAt}
use Rattle.ts_query.specs.declared.reader.Reader.{Reader}
use Rattle.ts_query.specs.declared.reader.Outcome.{Outcome}
use Rattle.ts_query.proofs.Completions.{completes}

-- ── a character more ──
longer : (front bytes : List ℕ) (at next : ℕ) → length front ≡ at → next ≡ at + length bytes
    → length (front ++ bytes) ≡ next
longer front bytes at next e f = let g = length-append front bytes in omega arith

pub read_more : (text rest more bytes : List ℕ) (at next : ℕ) (r r2 : Reader) (h : ReadTo text rest at r)
    → rest ≡ bytes ++ more → next ≡ at + length bytes → Moved at h.stand bytes r2 → ReadTo text more next r2
read_more text rest more bytes at next r r2 h e f m = record {
  front = h.front ++ bytes;
  split = h.split ∙ ap (λ x. h.front ++ x) e ∙ sym (append_assoc h.front bytes more);
  place = longer h.front bytes at next h.place f;
  stand = m.new;
  holds = m.holds;
  leads = leads_read Reading ReadsPair Stand QueryRest h.front bytes at next h.stand m.new f h.leads m.moves;
}

-- ── a fault ──
front_is : (text front : List ℕ) (b : ℕ) (more : List ℕ) (at : ℕ) → text ≡ front ++ b ∷ more → length front ≡ at
    → front ≡ take at text
front_is text front b more at e f =
    sym (ap (λ n. take n text) (sym f) ∙ ap (λ t. take (length front) t) e ∙ take-append_seam front (b ∷ more))

byte_is : (text front : List ℕ) (b : ℕ) (more : List ℕ) (at : ℕ) → text ≡ front ++ b ∷ more → length front ≡ at
    → b ≡ get_or text at 0
byte_is text front b more at e f =
    sym (ap (λ n. get_or text n 0) (sym f) ∙ ap (λ t. get_or t (length front) 0) e ∙ get_or-append_seam front b more 0)

within : (text front : List ℕ) (b : ℕ) (more : List ℕ) (at : ℕ) → text ≡ front ++ b ∷ more → length front ≡ at
    → at < length text
within text front b more at e f = let g = ap length e in let h = length-append front (b ∷ more) in omega arith

pub read_fault : (text rest more bytes : List ℕ) (b : ℕ) (bs : List ℕ) (at : ℕ) (r : Reader) (h : ReadTo text rest at r)
    → rest ≡ bytes ++ more → bytes ≡ b ∷ bs → Stuck Stand Reading QueryRest h.stand bytes
    → FaultAt (Stands Reading ReadsPair) text at
read_fault text rest more bytes b bs at r h e f stuck =
    let g : text ≡ h.front ++ b ∷ (bs ++ more) = h.split ∙ ap (λ x. h.front ++ x) (e ∙ ap (λ x. x ++ more) f) in
    let k = completes r h.stand h.holds in
    let n = at + length k.bytes in
    fault_here Reading ReadsPair text at (RestAt Reading (QueryRest h.stand) at)
    (within text h.front b (bs ++ more) at g h.place)
    (subst (λ x. Leads Reading ReadsPair x (RestAt Reading (QueryRest h.stand) at))
    (front_is text h.front b (bs ++ more) at g h.place) h.leads)
    k.bytes (k.value (at + length k.bytes)) (k.rest (at + length k.bytes))
    (λ u w x. stuck.never b bs f (at + length (get_or text at 0 ∷ u)) u w (subst (λ c. QueryRest h.stand
    (at + length (get_or text at 0 ∷ u)) (c ∷ u) w) (sym (byte_is text h.front b (bs ++ more) at g h.place)) x))

-- ── the end ──
none_left : (rest : List ℕ) → length rest ≡ 0 → rest ≡ []
none_left [] h = refl
none_left (x ∷ rest) h = absurd (let no : ⊥ = omega arith in no)

whole_is : (text front rest : List ℕ) → text ≡ front ++ rest → length rest ≡ 0 → front ≡ text
whole_is text front rest e f = sym (append-nil front) ∙ ap (λ x. front ++ x) (sym (none_left rest f)) ∙ sym e

pub read_whole : (text rest : List ℕ) (at : ℕ) (r : Reader) (o : Outcome) (h : ReadTo text rest at r) → length rest ≡ 0
    → EndsAs h.stand o → IsOutcome text o
read_whole text rest at r o h e w = record {
  tokens = w.tokens;
  query = w.query;
  entries = w.entries;
  far = w.far;
  long = w.long;
  reads = subst (λ t. ReadsPair t (w.tokens, w.query)) (append-nil h.front ∙ whole_is text h.front rest h.split e)
      (h.leads.goes_on [] (w.tokens, w.query) (w.found (at + 0)));
}

pub read_unfinished : (text rest : List ℕ) (at : ℕ) (r : Reader) (h : ReadTo text rest at r) → length rest ≡ 0
    → Unfinished Stand Reading QueryRest h.stand → FaultAt (Stands Reading ReadsPair) text (length text)
read_unfinished text rest at r h e w =
    let k = completes r h.stand h.holds in
    fault_ending Reading ReadsPair text (RestAt Reading (QueryRest h.stand) at)
    (subst (λ x. Leads Reading ReadsPair x (RestAt Reading (QueryRest h.stand) at))
    (whole_is text h.front rest h.split e ∙ sym (take-length text)) h.leads)
    k.bytes (k.value (at + length k.bytes)) (k.rest (at + length k.bytes))
    (λ v x. w.never (at + 0) v x)
