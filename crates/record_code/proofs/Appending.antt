-- What is after a record's length, appended in parts.
use Rattle.std.proofs.Common.{◌≡◌, ℕ, List, [], ◌∷◌, ◌++◌, length, Result, Ok, Err, ap, ◌∙◌, append_assoc}
use Rattle.std.specs.Prelude.{OnOk}
use Rattle.std.specs.List.{flat_map}
use Rattle.page_types.specs.Numbers.{u32_bytes, u64_bytes}
use Rattle.page_types.specs.Records.{kind_number, kind_bytes, change_bytes, record_rest}
use Rattle.page_types.specs.declared.record.Record.{Record}
use Rattle.page_types.specs.declared.record.Change.{Change}

pub on_ok : {A E : Type 0} {P Q : Type 0} (r : Result A E) → OnOk r P → (P → Q) → OnOk r Q
on_ok (Ok x) h f = f h
on_ok (Err e) h f = tt

pub regrouped : (old x n k cs : List ℕ) (number count : ℕ) → (((((old ++ number ∷ []) ++ x) ++ n) ++ k) ++ count
    ∷ []) ++ cs ≡ old ++ (number ∷ (x ++ (n ++ (k ++ (count ∷ cs)))))
regrouped old x n k cs number count = simp append_assoc

pub rest_put : (old o1 o2 o3 o4 o5 o6 : List ℕ) (r : Record) (number count : ℕ) (changes : List Change)
    → number ≡ kind_number r.kind → o1 ≡ old ++ number ∷ [] → o2 ≡ o1 ++ u32_bytes r.xid
    → o3 ≡ o2 ++ u64_bytes r.number → o4 ≡ o3 ++ kind_bytes r.kind → count ≡ length r.changes → o5 ≡ o4 ++ count ∷ []
    → changes ≡ r.changes → o6 ≡ o5 ++ flat_map change_bytes changes → o6 ≡ old ++ record_rest r
unfolding record_rest
rest_put old o1 o2 o3 o4 o5 o6 r number count changes named e1 e2 e3 e4 counted e5 same e6 =
    let all : o6 ≡ (((((old ++ number ∷ []) ++ u32_bytes r.xid) ++ u64_bytes r.number) ++ kind_bytes r.kind) ++ count
    ∷ []) ++ flat_map change_bytes changes = cc in
    let P : ℕ → ℕ → List Change → List ℕ = λ m k cs. old ++ (m
    ∷ (u32_bytes r.xid ++ (u64_bytes r.number ++ (kind_bytes r.kind ++ (k ∷ flat_map change_bytes cs))))) in
    all ∙ regrouped old (u32_bytes r.xid) (u64_bytes r.number) (kind_bytes r.kind)
    (flat_map change_bytes changes) number count
    ∙ ap (λ m. P m count changes) named ∙ ap (λ k. P (kind_number r.kind) k changes) counted
    ∙ ap (P (kind_number r.kind) (length r.changes)) same
