-- A record that is read is encoded so, and a record that is encoded so is read.
use Rattle.std.proofs.Common.{◌≡◌, ℕ, suc, ◌+◌, ◌^◌, ◌<◌, ◌≤◌, Bool, true, false, cond, ltb, eqb, List, [], ◌∷◌, ◌++◌}
use Rattle.std.proofs.Common.{length, take, drop, Result, Ok, Err, refl, sym, ap, subst, ◌∙◌, append_assoc, arith}
use Rattle.std.specs.Prelude.{◌&&◌, IfOk}
use Rattle.std.specs.List.{flat_map, AllByRecursion}
use Rattle.std.proofs.lemmas.Bool.{ltb-false, le-ltb, eqb-true, eq-eqb}
use Rattle.std.proofs.lemmas.List.{length-append, append-nil, take_at, take-append-drop, nil_from_length}
use Rattle.byteorder.specs.Endian.{little_number}
use Rattle.page_types.specs.Numbers.{u32_bytes, u64_bytes}
use Rattle.page_types.specs.Records.{kind_number, kind_bytes, change_bytes, record_rest, record_bytes, IsChange}
use Rattle.page_types.specs.Records.{IsRecord}
use Rattle.page_types.specs.declared.record.Record.{Record}
use Rattle.page_types.specs.declared.record.Change.{Change}
use Rattle.page_types.specs.declared.record.Kind.{Kind}
use Rattle.page_types.proofs.Framing.{length-u32_bytes}
use Rattle.page_types.proofs.RecordTelling.{length-record_rest}
use Rattle.record_code.specs.declared.error.RecordError.{RecordError}
use Rattle.record_code.specs.Decoding.{Answers}
use Rattle.record_code.specs.Laws.{AreBytes, Begins, ReadingIsEncoded, EncodingIsRead}
use Rattle.page_types.specs.Fields.{◌>>=◌, number_at}
use Rattle.page_types.proofs.FieldReading.{bind_ok, IsBytes-take, IsBytes-drop, Takes, Takes-then, u32_takes, u64_takes}
use Rattle.page_types.proofs.FieldReading.{u32_again, u64_again}
use Rattle.record_code.specs.Fields.{byte_at}
use Rattle.record_code.specs.Reading.{kind_at, fields_at, changes_at, rest_at, whole_at, placed, record_in, record_at}
use Rattle.record_code.proofs.Steps.{guard_held, ok_is}
use Rattle.record_code.proofs.KindReading.{TakesKind, kind_takes, fields_take, kind_again, kind_at-again}
use Rattle.record_code.proofs.ChangeReading.{TakesChanges, changes_take, changes_again}

byte_takes : (bytes : List ℕ) (b : ℕ) (rest : List ℕ) → AreBytes bytes → byte_at bytes ≡ Ok (b, rest)
    → Takes bytes (b ∷ []) rest × (b < 256)
byte_takes [] b rest fits e = absurd cc
byte_takes (x ∷ bytes) b rest fits e =
    let g = ok_is (x, bytes) (b, rest) e in
    let b-is : x ≡ b = ap (λ (p : ℕ × List ℕ). p.0) g in
    let rest-is : bytes ≡ rest = ap (λ (p : ℕ × List ℕ). p.1) g in
    let later : AreBytes bytes = λ i. fits (suc i) in
    (record { parts = rw (b-is, rest-is) refl; rest_fits = rw (← rest-is) later }, rw (← b-is) (fits 0))

-- the fields of a record, each taken in its turn
rest_encoded : (bytes r0 r1 r2 r3 r4 rest : List ℕ) (blank kind : Kind) (xid number count : ℕ) (changes : List Change)
    → Takes bytes (kind_number blank ∷ []) r0
    → Takes r0 (u32_bytes xid) r1 → xid < 2 ^ 32 → Takes r1 (u64_bytes number) r2 → number < 2 ^ 64
    → TakesKind (kind_number blank) r2 kind r3
    → Takes r3 (count ∷ []) r4 → count < 256 → TakesChanges number count [] r4 changes rest
    → Takes bytes (record_rest (record { number = number; xid = xid; kind = kind; changes = changes })) rest
    × IsRecord (record { number = number; xid = xid; kind = kind; changes = changes })
unfolding record_rest
rest_encoded bytes r0 r1 r2 r3 r4 rest blank kind xid number count changes t0 t1 small t2 fits t3 t4 few t5 =
    let front : Takes bytes (kind_number kind ∷ []) r0 = rw (t3.number_is) t0 in
    let all : t5.new ≡ changes = sym t5.all_are in
    let body : Takes r4 (flat_map change_bytes changes) rest =
    subst (λ (l : List Change). Takes r4 (flat_map change_bytes l) rest) all t5.takes in
    let fit : AllByRecursion (IsChange number) changes = subst (AllByRecursion (IsChange number)) all t5.fit in
    let many : length changes ≡ count = ap length t5.all_are ∙ t5.count in
    let counted : Takes r3 (length changes ∷ []) r4 = rw many t4 in
    let e45 = Takes-then r3 (length changes ∷ []) r4 (flat_map change_bytes changes) rest counted body in
    let e35 = Takes-then r2 (kind_bytes kind) r3 (length changes ∷ flat_map change_bytes changes) rest t3.takes e45 in
    let e25 = Takes-then r1 (u64_bytes number) r2
    (kind_bytes kind ++ (length changes ∷ flat_map change_bytes changes)) rest t2 e35 in
    let e15 = Takes-then r0 (u32_bytes xid) r1
    (u64_bytes number ++ (kind_bytes kind ++ (length changes ∷ flat_map change_bytes changes))) rest t1 e25 in
    let e05 = Takes-then bytes (kind_number kind ∷ []) r0
    (u32_bytes xid ++ (u64_bytes number ++ (kind_bytes kind ++ (length changes ∷ flat_map change_bytes changes))))
    rest front e15 in (
      e05,
      record {
        number = fits;
        xid = small;
        kind = t3.fits;
        count = omega (arith, many, few);
        changes = fit;
        once = t5.once;
      },
    )

rest_takes : (bytes : List ℕ) (x : Record × List ℕ) → AreBytes bytes → rest_at bytes ≡ Ok x
    → Takes bytes (record_rest x.0) x.1 × IsRecord x.0
unfolding rest_at record_rest
rest_takes bytes x fits e =
    let a = bind_ok (kind_at bytes) (λ k. number_at 4 k.1 >>= λ i. number_at 8 i.1
    >>= λ n. fields_at k.0 n.1 >>= λ f. byte_at f.1 >>= λ c. changes_at n.0 c.0 [] c.1 >>= λ s. Ok
    (record { number = n.0; xid = i.0; kind = f.0; changes = s.0 }, s.1)) x e in
    let b = bind_ok (number_at 4 a.0.1)
    (λ i. number_at 8 i.1 >>= λ n. fields_at a.0.0 n.1 >>= λ f. byte_at f.1 >>= λ c. changes_at n.0 c.0 [] c.1
    >>= λ s. Ok (record { number = n.0; xid = i.0; kind = f.0; changes = s.0 }, s.1)) x a.2 in
    let c = bind_ok (number_at 8 b.0.1) (λ n. fields_at a.0.0 n.1 >>= λ f. byte_at f.1 >>= λ c. changes_at n.0 c.0 []
    c.1 >>= λ s. Ok (record { number = n.0; xid = b.0.0; kind = f.0; changes = s.0 }, s.1)) x b.2 in
    let d = bind_ok (fields_at a.0.0 c.0.1) (λ f. byte_at f.1 >>= λ k. changes_at c.0.0 k.0 [] k.1 >>= λ s. Ok
    (record { number = c.0.0; xid = b.0.0; kind = f.0; changes = s.0 }, s.1)) x c.2 in
    let k = bind_ok (byte_at d.0.1) (λ k. changes_at c.0.0 k.0 [] k.1 >>= λ s. Ok
    (record { number = c.0.0; xid = b.0.0; kind = d.0.0; changes = s.0 }, s.1)) x d.2 in
    let s = bind_ok (changes_at c.0.0 k.0.0 [] k.0.1)
    (λ s. Ok (record { number = c.0.0; xid = b.0.0; kind = d.0.0; changes = s.0 }, s.1)) x k.2 in
    let t0 = kind_takes bytes a.0.0 a.0.1 fits a.1 in
    let t1 = u32_takes a.0.1 b.0.0 b.0.1 t0.rest_fits b.1 in
    let t2 = u64_takes b.0.1 c.0.0 c.0.1 t1.0.rest_fits c.1 in
    let t3 = fields_take a.0.0 c.0.1 d.0 t2.0.rest_fits d.1 in
    let t4 = byte_takes d.0.1 k.0.0 k.0.1 t3.takes.rest_fits k.1 in
    let t5 = changes_take c.0.0 k.0.0 [] k.0.1 s.0 t4.0.rest_fits tt s.1 in
    let made : Record × List ℕ = (record { number = c.0.0; xid = b.0.0; kind = d.0.0; changes = s.0.0 }, s.0.1) in
    let whole = rest_encoded bytes a.0.1 b.0.1 c.0.1 d.0.1 k.0.1 s.0.1 a.0.0 d.0.0 b.0.0 c.0.0 k.0.0 s.0.0 t0 t1.0 t1.1
    t2.0 t2.1 t3 t4.0 t4.1 t5 in
    subst (λ (y : Record × List ℕ). Takes bytes (record_rest y.0) y.1 × IsRecord y.0) (ok_is made x s.2) whole

rest_regrouped : (x n k : List ℕ) (c : ℕ) (cs t : List ℕ)
    → (x ++ (n ++ (k ++ (c ∷ cs)))) ++ t ≡ x ++ (n ++ (k ++ (c ∷ (cs ++ t))))
rest_regrouped x n k c cs t = simp append_assoc

rest_again : (r : Record) (rest : List ℕ) → IsRecord r → rest_at (record_rest r ++ rest) ≡ Ok (r, rest)
unfolding rest_at record_rest
rest_again r rest is =
    let changes : List ℕ = flat_map change_bytes r.changes in
    let k = kind_again r.kind in
    let regrouped : record_rest r ++ rest ≡ kind_number r.kind ∷ (u32_bytes r.xid ++ (u64_bytes r.number
    ++ (kind_bytes r.kind ++ (length r.changes ∷ (flat_map change_bytes r.changes ++ rest))))) =
    ap (λ (l : List ℕ). kind_number r.kind ∷ l) (rest_regrouped (u32_bytes r.xid) (u64_bytes r.number)
    (kind_bytes r.kind) (length r.changes) (flat_map change_bytes r.changes) rest) in
    ap rest_at regrouped
    ∙ rw (
      kind_at-again r.kind k.0 (u32_bytes r.xid ++ (u64_bytes r.number
          ++ (kind_bytes r.kind ++ (length r.changes ∷ (flat_map change_bytes r.changes ++ rest))))) k.1,
      u32_again r.xid (u64_bytes r.number
          ++ (kind_bytes r.kind ++ (length r.changes ∷ (flat_map change_bytes r.changes ++ rest)))) is.xid,
      u64_again r.number (kind_bytes r.kind ++ (length r.changes ∷ (flat_map change_bytes r.changes ++ rest)))
          is.number,
      k.1.fields (length r.changes ∷ (flat_map change_bytes r.changes ++ rest)) is.kind,
      changes_again r.number [] r.changes rest is.number is.changes is.once,
    ) refl

and_parts : (a b : Bool) → (a && b) ≡ true → (a ≡ true) × (b ≡ true)
and_parts true b e = (refl, e)
and_parts false b e = absurd cc

whole_takes : (size : ℕ) (bytes : List ℕ) (r : Record) → AreBytes bytes → whole_at size bytes ≡ Ok r
    → (bytes ≡ record_rest r) × (length bytes ≡ size) × IsRecord r
unfolding whole_at
whole_takes size bytes r fits e =
    let a = bind_ok (rest_at bytes)
    (λ x. cond (eqb (length x.1) 0 && eqb (length bytes) size) (Ok x.0) (Err (length x.1))) r e in
    let g = guard_held (eqb (length a.0.1) 0 && eqb (length bytes) size) (length a.0.1) (Ok a.0.0) r a.2 in
    let both = and_parts (eqb (length a.0.1) 0) (eqb (length bytes) size) g.0 in
    let t = rest_takes bytes a.0 fits a.1 in
    let nothing : a.0.1 ≡ [] = nil_from_length a.0.1 (eqb-true _ _ both.0) in
    let all : bytes ≡ record_rest a.0.0 =
    t.0.parts ∙ ap (λ (l : List ℕ). record_rest a.0.0 ++ l) nothing ∙ append-nil (record_rest a.0.0) in
    let sized : length bytes ≡ size = eqb-true _ _ both.1 in
    subst (λ (y : Record). (bytes ≡ record_rest y) × (length bytes ≡ size) × IsRecord y) (ok_is a.0.0 r g.1)
    (all, sized, t.1)

whole_again : (r : Record) → IsRecord r → whole_at (length (record_rest r)) (record_rest r) ≡ Ok r
unfolding whole_at
whole_again r is =
    let read : rest_at (record_rest r) ≡ Ok (r, []) =
    ap rest_at (sym (append-nil (record_rest r))) ∙ rest_again r [] is in
    let same : eqb (length (record_rest r)) (length (record_rest r)) ≡ true =
    eq-eqb (length (record_rest r)) (length (record_rest r)) refl in
    rw (read, same) refl

placed_ok : (size end : ℕ) (read : Result Record ℕ) (r : Record) (n : ℕ) → placed size end read ≡ Ok (r, n)
    → (read ≡ Ok r) × (4 + size ≡ n)
placed_ok size end (Ok x) r n e =
    let g = ok_is (x, 4 + size) (r, n) e in
    (ap (λ (p : Record × ℕ). Ok p.0) g, ap (λ (p : Record × ℕ). p.1) g)
placed_ok size end (Err left) r n e = absurd cc

number-front : (bytes : List ℕ) → AreBytes bytes → 4 ≤ length bytes
    → bytes ≡ u32_bytes (little_number 4 bytes) ++ drop 4 bytes
unfolding number_at
number-front bytes fits long =
    let read : number_at 4 bytes ≡ Ok (little_number 4 bytes, drop 4 bytes) = rw (le-ltb (length bytes) 4 long) refl in
    (u32_takes bytes (little_number 4 bytes) (drop 4 bytes) fits read).0.parts

begins : (bytes body behind : List ℕ) (size n : ℕ) (r : Record) → bytes ≡ u32_bytes size ++ (body ++ behind)
    → body ≡ record_rest r → length body ≡ size → 4 + size ≡ n → IsRecord r → Begins bytes r n
unfolding record_bytes
begins bytes body behind size n r cut is len sum fits =
    let sized : size ≡ length (record_rest r) = sym len ∙ ap length is in
    let total : length (u32_bytes (length (record_rest r)) ++ record_rest r) ≡ n = omega (
      arith,
      length-append (u32_bytes (length (record_rest r))) (record_rest r),
      length-u32_bytes (length (record_rest r)),
      sized,
      sum,
    ) in
    let P : List ℕ → List ℕ → List ℕ = λ f b. f ++ (b ++ behind) in
    let encoded : bytes ≡ (u32_bytes (length (record_rest r)) ++ record_rest r) ++ behind =
    cut ∙ ap (λ m. P (u32_bytes m) body) sized ∙ ap (P (u32_bytes (length (record_rest r)))) is
    ∙ sym (append_assoc (u32_bytes (length (record_rest r))) (record_rest r) behind) in
    record { is_record = fits; size = total; encoded = (behind, encoded) }

short_or : {A : Type 0} (b : Bool) (d : ℕ) (r : Result A ℕ) (y : A) → cond b (Err d) r ≡ Ok y → (b ≡ false) × (r ≡ Ok y)
short_or true d r y e = absurd cc
short_or false d r y e = (refl, e)

pub reading_is_encoded : ReadingIsEncoded
unfolding record_at
reading_is_encoded bytes r n fits e =
    let size : ℕ = little_number 4 bytes in
    let body : List ℕ = take (little_number 4 bytes) (drop 4 bytes) in
    let g = short_or (ltb (length bytes) 4) (length bytes)
    (record_in (little_number 4 bytes) (take (little_number 4 bytes) (drop 4 bytes))) (r, n) e in
    let long : 4 ≤ length bytes = ltb-false _ _ g.0 in
    let p = placed_ok (little_number 4 bytes) (4 + length (take (little_number 4 bytes) (drop 4 bytes)))
    (whole_at (little_number 4 bytes) (take (little_number 4 bytes) (drop 4 bytes))) r n g.1 in
    let w = whole_takes (little_number 4 bytes) (take (little_number 4 bytes) (drop 4 bytes)) r
    (IsBytes-take (little_number 4 bytes) (drop 4 bytes) (IsBytes-drop 4 bytes fits)) p.0 in
    let cut : bytes ≡ u32_bytes (little_number 4 bytes)
    ++ (take (little_number 4 bytes) (drop 4 bytes) ++ drop (little_number 4 bytes) (drop 4 bytes)) =
    number-front bytes fits long ∙ ap (λ (l : List ℕ). u32_bytes (little_number 4 bytes) ++ l)
    (sym (take-append-drop (little_number 4 bytes) (drop 4 bytes))) in
    begins bytes (take (little_number 4 bytes) (drop 4 bytes)) (drop (little_number 4 bytes) (drop 4 bytes))
    (little_number 4 bytes) n r cut w.0 w.1 p.1 w.2

-- reading, where the number and the body in front are known
read_in : (bytes body : List ℕ) (size : ℕ) → 4 ≤ length bytes → little_number 4 bytes ≡ size
    → take size (drop 4 bytes) ≡ body → record_at bytes ≡ record_in size body
unfolding record_at
read_in bytes body size long sized cut =
    let enough : ltb (length bytes) 4 ≡ false = le-ltb (length bytes) 4 long in
    let P : ℕ → List ℕ → Result (Record × ℕ) ℕ = λ n b. record_in n b in
    rw enough (ap (λ n. P n (take n (drop 4 bytes))) sized ∙ ap (P size) cut)

number-again : (n : ℕ) (rest : List ℕ) → n < 2 ^ 32
    → (little_number 4 (u32_bytes n ++ rest) ≡ n) × (drop 4 (u32_bytes n ++ rest) ≡ rest)
unfolding number_at
number-again n rest lt =
    let long : ltb (length (u32_bytes n ++ rest)) 4 ≡ false =
    le-ltb _ _ (omega (arith, length-append (u32_bytes n) rest, length-u32_bytes n)) in
    let read : number_at 4 (u32_bytes n ++ rest) ≡ Ok (n, rest) = u32_again n rest lt in
    let opened : number_at 4 (u32_bytes n ++ rest)
    ≡ Ok (little_number 4 (u32_bytes n ++ rest), drop 4 (u32_bytes n ++ rest)) = rw long refl in
    let both =
    ok_is (little_number 4 (u32_bytes n ++ rest), drop 4 (u32_bytes n ++ rest)) (n, rest) (sym opened ∙ read) in
    (ap (λ (p : ℕ × List ℕ). p.0) both, ap (λ (p : ℕ × List ℕ). p.1) both)

placed-again : (size end n : ℕ) (read : Result Record ℕ) (r : Record) → read ≡ Ok r → 4 + size ≡ n
    → placed size end read ≡ Ok (r, n)
placed-again size end n read r e sum = ap (placed size end) e ∙ ap (λ m. Ok (r, m)) sum

pub encoding_is_read : EncodingIsRead
unfolding record_bytes
encoding_is_read r behind is =
    let rest : List ℕ = record_rest r in
    let few = length-record_rest r is in
    let regrouped : (u32_bytes (length (record_rest r)) ++ record_rest r) ++ behind ≡ u32_bytes (length (record_rest r))
    ++ (record_rest r ++ behind) = append_assoc (u32_bytes (length (record_rest r))) (record_rest r) behind in
    let front = number-again (length (record_rest r)) (record_rest r ++ behind) few in
    let long : 4 ≤ length (u32_bytes (length (record_rest r)) ++ (record_rest r ++ behind)) = omega (
      arith,
      length-append (u32_bytes (length (record_rest r))) (record_rest r ++ behind),
      length-u32_bytes (length (record_rest r)),
    ) in
    let cut : take (length (record_rest r)) (drop 4 (u32_bytes (length (record_rest r)) ++ (record_rest r ++ behind)))
    ≡ record_rest r =
    ap (take (length (record_rest r))) front.1 ∙ take_at (record_rest r) behind (length (record_rest r)) refl in
    let sum : 4 + length (record_rest r) ≡ length (u32_bytes (length (record_rest r)) ++ record_rest r) = omega (
      arith,
      length-append (u32_bytes (length (record_rest r))) (record_rest r),
      length-u32_bytes (length (record_rest r)),
    ) in
    ap record_at regrouped
    ∙ read_in (u32_bytes (length (record_rest r)) ++ (record_rest r ++ behind)) (record_rest r)
    (length (record_rest r)) long front.0 cut
    ∙ placed-again (length (record_rest r)) (4 + length (record_rest r))
    (length (u32_bytes (length (record_rest r)) ++ record_rest r))
    (whole_at (length (record_rest r)) (record_rest r)) r (whole_again r is) sum

-- what a call answered, by the laws
pub is_found : (bytes : List ℕ) (answer : Result (Record × ℕ) RecordError) → AreBytes bytes
    → Answers answer (record_at bytes) → IfOk answer (λ x. Begins bytes x.0 x.1)
is_found bytes (Ok x) fits given = reading_is_encoded bytes x.0 x.1 fits given
is_found bytes (Err e) fits given = tt

pub is_read : (bytes : List ℕ) (answer : Result (Record × ℕ) RecordError) → Answers answer (record_at bytes)
    → (r : Record) (behind : List ℕ) → IsRecord r → bytes ≡ record_bytes r ++ behind
    → Answers answer (Ok (r, length (record_bytes r)))
is_read bytes answer given r behind is e =
    subst (λ (f : Result (Record × ℕ) ℕ). Answers answer f) (ap record_at e ∙ encoding_is_read r behind is) given
