-- A head and a slot that are read were encoded, and what is encoded is read.
use Rattle.std.proofs.Common.{◌≡◌, ℕ, zero, suc, ◌^◌, ◌<◌, Bool, true, false, cond, List, [], ◌∷◌, ◌++◌, Option, Some}
use Rattle.std.proofs.Common.{None, Ok, refl, sym, ap, subst, ◌∙◌, append_assoc, arith, inl, inr}
use Rattle.std.specs.Prelude.{nat_le}
use Rattle.std.proofs.lemmas.Bool.{leb-true, leb-false, le-leb, lt-leb}
use Rattle.page_types.specs.Numbers.{u32_bytes, u64_bytes}
use Rattle.page_types.specs.Encoding.{head_bytes, slot_bytes}
use Rattle.page_types.specs.Pages.{IsVectorIn, IsHead, IsSlot}
use Rattle.page_types.specs.Fields.{◌>>=◌, number_at, bytes_at}
use Rattle.page_types.specs.declared.page.Head.{Head}
use Rattle.page_types.proofs.FieldReading.{IsBytes, bind_ok, Takes, Takes-then, bytes_take, bytes_again, u32_takes}
use Rattle.page_types.proofs.FieldReading.{u64_takes, u32_again, u64_again}
use Rattle.page_code.specs.Fields.{Read, below_at}
use Rattle.page_code.specs.Bodies.{vector_at, head_at, used_slot_at, heap_slot_at}
use Rattle.page_code.proofs.FieldLaws.{below_takes, below_again}
use Rattle.page_code.proofs.Lists.{ok_is, IsReader}

vector_by : (b : Bool) (size : ℕ) (bytes : List ℕ) (x : List ℕ × List ℕ) → nat_le size 2000 ≡ b → IsBytes bytes
    → cond b (bytes_at size bytes) (Ok ([], bytes)) ≡ Ok x → Takes bytes x.0 x.1 × IsVectorIn size x.0
vector_by true size bytes x is fits e =
    let t = bytes_take size bytes x.0 x.1 fits e in
    (t.0, inl (leb-true size 2000 is, t.1))
vector_by false size bytes x is fits e =
    let made : List ℕ × List ℕ = ([], bytes) in
    subst (λ (y : List ℕ × List ℕ). Takes bytes y.0 y.1 × IsVectorIn size y.0) (ok_is made x e)
    (record { parts = refl; rest_fits = fits }, inr (leb-false size 2000 is, refl))

vector_takes : (size : ℕ) (bytes : List ℕ) (x : List ℕ × List ℕ) → IsBytes bytes → vector_at size bytes ≡ Ok x
    → Takes bytes x.0 x.1 × IsVectorIn size x.0
vector_takes size bytes x fits e = vector_by (nat_le size 2000) size bytes x refl fits e

vector_again : (size : ℕ) (v rest : List ℕ) → IsVectorIn size v → vector_at size (v ++ rest) ≡ Ok (v, rest)
vector_again size v rest (inl p) = rw (le-leb size 2000 p.0) (bytes_again size v rest p.1)
vector_again size v rest (inr p) =
    let large : nat_le size 2000 ≡ false = lt-leb size 2000 p.0 in
    rw large (rw (p.1) refl)

-- a head by its fields, each taken in its turn
head_encoded : (b0 b1 b2 b3 b4 b5 b6 b7 : List ℕ) (serial inserted_by deleted_by overflow private size : ℕ)
    (vector : List ℕ) → Takes b0 (u64_bytes serial) b1 → serial < 2 ^ 64 → Takes b1 (u32_bytes inserted_by) b2
    → inserted_by < 2 ^ 32
    → Takes b2 (u32_bytes deleted_by) b3 → deleted_by < 2 ^ 32 → Takes b3 (u32_bytes overflow) b4 → overflow < 1048576
    → Takes b4 (u32_bytes private) b5 → private < 1048576
    → Takes b5 (u32_bytes size) b6 → size < 2 ^ 32 → Takes b6 vector b7 → IsVectorIn size vector
    → Takes b0 (head_bytes (record {
      serial = serial;
      inserted_by = inserted_by;
      deleted_by = deleted_by;
      overflow = overflow;
      private = private;
      bytes = size;
      vector = vector;
    })) b7
    × IsHead (record {
      serial = serial;
      inserted_by = inserted_by;
      deleted_by = deleted_by;
      overflow = overflow;
      private = private;
      bytes = size;
      vector = vector;
    })
unfolding head_bytes
head_encoded b0 b1 b2 b3 b4 b5 b6 b7 serial inserted_by deleted_by overflow private size vector t0 f0 t1 f1 t2 f2 t3 f3
    t4 f4 t5 f5 t6 f6 =
    let e5 = Takes-then b5 (u32_bytes size) b6 vector b7 t5 t6 in
    let e4 = Takes-then b4 (u32_bytes private) b5 (u32_bytes size ++ vector) b7 t4 e5 in
    let e3 = Takes-then b3 (u32_bytes overflow) b4 (u32_bytes private ++ (u32_bytes size ++ vector)) b7 t3 e4 in
    let e2 = Takes-then b2 (u32_bytes deleted_by) b3
    (u32_bytes overflow ++ (u32_bytes private ++ (u32_bytes size ++ vector))) b7 t2 e3 in
    let e1 = Takes-then b1 (u32_bytes inserted_by) b2
    (u32_bytes deleted_by ++ (u32_bytes overflow ++ (u32_bytes private ++ (u32_bytes size ++ vector)))) b7 t1 e2 in
    let e0 = Takes-then b0 (u64_bytes serial) b1 (u32_bytes inserted_by ++ (u32_bytes deleted_by
    ++ (u32_bytes overflow ++ (u32_bytes private ++ (u32_bytes size ++ vector))))) b7 t0 e1 in (
      e0,
      record { serial = f0; inserted_by = f1; deleted_by = f2; overflow = f3; private = f4; bytes = f5; vector = f6 },
    )

-- the last fields of a head
record TakesTail (serial inserted_by deleted_by overflow : ℕ) (bytes : List ℕ) (x : Head × List ℕ) : Type 0 where
  private : ℕ
  size : ℕ
  vector : List ℕ
  b5 : List ℕ
  b6 : List ℕ
  head_is : x.0 ≡ record {
    serial = serial;
    inserted_by = inserted_by;
    deleted_by = deleted_by;
    overflow = overflow;
    private = private;
    bytes = size;
    vector = vector;
  }
  private_takes : Takes bytes (u32_bytes private) b5
  private_fits : private < 1048576
  size_takes : Takes b5 (u32_bytes size) b6
  size_fits : size < 2 ^ 32
  vector_takes : Takes b6 vector x.1
  vector_fits : IsVectorIn size vector

tail_takes : (serial inserted_by deleted_by overflow : ℕ) (bytes : List ℕ) (x : Head × List ℕ) → IsBytes bytes
    → (below_at 1048576 bytes >>= λ p. number_at 4 p.1 >>= λ n. vector_at n.0 n.1 >>= λ v. Ok (
      record {
        serial = serial;
        inserted_by = inserted_by;
        deleted_by = deleted_by;
        overflow = overflow;
        private = p.0;
        bytes = n.0;
        vector = v.0;
      },
      v.1,
    )) ≡ Ok x
    → TakesTail serial inserted_by deleted_by overflow bytes x
tail_takes serial inserted_by deleted_by overflow bytes x fits e =
    let p = bind_ok (below_at 1048576 bytes) (λ p. number_at 4 p.1 >>= λ n. vector_at n.0 n.1 >>= λ v. Ok (
      record {
        serial = serial;
        inserted_by = inserted_by;
        deleted_by = deleted_by;
        overflow = overflow;
        private = p.0;
        bytes = n.0;
        vector = v.0;
      },
      v.1,
    )) x e in
    let n = bind_ok (number_at 4 p.0.1) (λ n. vector_at n.0 n.1 >>= λ v. Ok (
      record {
        serial = serial;
        inserted_by = inserted_by;
        deleted_by = deleted_by;
        overflow = overflow;
        private = p.0.0;
        bytes = n.0;
        vector = v.0;
      },
      v.1,
    )) x p.2 in
    let v = bind_ok (vector_at n.0.0 n.0.1) (λ v. Ok (
      record {
        serial = serial;
        inserted_by = inserted_by;
        deleted_by = deleted_by;
        overflow = overflow;
        private = p.0.0;
        bytes = n.0.0;
        vector = v.0;
      },
      v.1,
    )) x n.2 in
    let t4 = below_takes 1048576 bytes p.0 fits p.1 in
    let t5 = u32_takes p.0.1 n.0.0 n.0.1 t4.0.rest_fits n.1 in
    let t6 = vector_takes n.0.0 n.0.1 v.0 t5.0.rest_fits v.1 in
    let made : Head × List ℕ = (
      record {
        serial = serial;
        inserted_by = inserted_by;
        deleted_by = deleted_by;
        overflow = overflow;
        private = p.0.0;
        bytes = n.0.0;
        vector = v.0.0;
      },
      v.0.1,
    ) in
    let same : made ≡ x = ok_is made x v.2 in
    let rests : v.0.1 ≡ x.1 = ap (λ (y : Head × List ℕ). y.1) same in
    record {
      private = p.0.0;
      size = n.0.0;
      vector = v.0.0;
      b5 = p.0.1;
      b6 = n.0.1;
      head_is = sym (ap (λ (y : Head × List ℕ). y.0) same);
      private_takes = t4.0;
      private_fits = t4.1;
      size_takes = t5.0;
      size_fits = t5.1;
      vector_takes = subst (λ (r : List ℕ). Takes n.0.1 v.0.0 r) rests t6.0;
      vector_fits = t6.1;
    }

pub head_takes : (bytes : List ℕ) (x : Head × List ℕ) → IsBytes bytes → head_at bytes ≡ Ok x
    → Takes bytes (head_bytes x.0) x.1 × IsHead x.0
unfolding head_at
head_takes bytes x fits e =
    let s = bind_ok (number_at 8 bytes) (λ s. number_at 4 s.1 >>= λ i. number_at 4 i.1 >>= λ d. below_at 1048576 d.1
    >>= λ o. below_at 1048576 o.1 >>= λ p. number_at 4 p.1 >>= λ n. vector_at n.0 n.1 >>= λ v. Ok (
      record {
        serial = s.0;
        inserted_by = i.0;
        deleted_by = d.0;
        overflow = o.0;
        private = p.0;
        bytes = n.0;
        vector = v.0;
      },
      v.1,
    )) x e in
    let i = bind_ok (number_at 4 s.0.1) (λ i. number_at 4 i.1 >>= λ d. below_at 1048576 d.1
    >>= λ o. below_at 1048576 o.1 >>= λ p. number_at 4 p.1 >>= λ n. vector_at n.0 n.1 >>= λ v. Ok (
      record {
        serial = s.0.0;
        inserted_by = i.0;
        deleted_by = d.0;
        overflow = o.0;
        private = p.0;
        bytes = n.0;
        vector = v.0;
      },
      v.1,
    )) x s.2 in
    let d = bind_ok (number_at 4 i.0.1) (λ d. below_at 1048576 d.1 >>= λ o. below_at 1048576 o.1
    >>= λ p. number_at 4 p.1 >>= λ n. vector_at n.0 n.1 >>= λ v. Ok (
      record {
        serial = s.0.0;
        inserted_by = i.0.0;
        deleted_by = d.0;
        overflow = o.0;
        private = p.0;
        bytes = n.0;
        vector = v.0;
      },
      v.1,
    )) x i.2 in
    let o = bind_ok (below_at 1048576 d.0.1)
    (λ o. below_at 1048576 o.1 >>= λ p. number_at 4 p.1 >>= λ n. vector_at n.0 n.1 >>= λ v. Ok (
      record {
        serial = s.0.0;
        inserted_by = i.0.0;
        deleted_by = d.0.0;
        overflow = o.0;
        private = p.0;
        bytes = n.0;
        vector = v.0;
      },
      v.1,
    )) x d.2 in
    let t0 = u64_takes bytes s.0.0 s.0.1 fits s.1 in
    let t1 = u32_takes s.0.1 i.0.0 i.0.1 t0.0.rest_fits i.1 in
    let t2 = u32_takes i.0.1 d.0.0 d.0.1 t1.0.rest_fits d.1 in
    let t3 = below_takes 1048576 d.0.1 o.0 t2.0.rest_fits o.1 in
    let t = tail_takes s.0.0 i.0.0 d.0.0 o.0.0 o.0.1 x t3.0.rest_fits o.2 in
    let whole = head_encoded bytes s.0.1 i.0.1 d.0.1 o.0.1 t.b5 t.b6 x.1 s.0.0 i.0.0 d.0.0 o.0.0 t.private t.size
    t.vector t0.0 t0.1 t1.0 t1.1 t2.0 t2.1 t3.0 t3.1 t.private_takes t.private_fits t.size_takes t.size_fits
    t.vector_takes t.vector_fits in
    subst (λ (h : Head). Takes bytes (head_bytes h) x.1 × IsHead h) (sym t.head_is) whole

head_regrouped : (a b c d e f v t : List ℕ)
    → (a ++ (b ++ (c ++ (d ++ (e ++ (f ++ v)))))) ++ t ≡ a ++ (b ++ (c ++ (d ++ (e ++ (f ++ (v ++ t))))))
head_regrouped a b c d e f v t = simp append_assoc

pub head_again : (h : Head) (rest : List ℕ) → IsHead h → head_at (head_bytes h ++ rest) ≡ Ok (h, rest)
unfolding head_at head_bytes
head_again h rest is =
    ap head_at (head_regrouped (u64_bytes h.serial) (u32_bytes h.inserted_by) (u32_bytes h.deleted_by)
    (u32_bytes h.overflow) (u32_bytes h.private) (u32_bytes h.bytes) h.vector rest)
    ∙ rw (
      u64_again h.serial (u32_bytes h.inserted_by ++ (u32_bytes h.deleted_by
          ++ (u32_bytes h.overflow ++ (u32_bytes h.private ++ (u32_bytes h.bytes ++ (h.vector ++ rest)))))) is.serial,
      u32_again h.inserted_by (u32_bytes h.deleted_by ++ (u32_bytes h.overflow
          ++ (u32_bytes h.private ++ (u32_bytes h.bytes ++ (h.vector ++ rest))))) is.inserted_by,
      u32_again h.deleted_by
          (u32_bytes h.overflow ++ (u32_bytes h.private ++ (u32_bytes h.bytes ++ (h.vector ++ rest)))) is.deleted_by,
      below_again 1048576 h.overflow (u32_bytes h.private ++ (u32_bytes h.bytes ++ (h.vector ++ rest))) is.overflow
          (omega arith),
      below_again 1048576 h.private (u32_bytes h.bytes ++ (h.vector ++ rest)) is.private (omega arith),
      u32_again h.bytes (h.vector ++ rest) is.bytes,
    ) (ap (λ (r : Read (List ℕ)). r >>= λ v. Ok (
      record {
        serial = h.serial;
        inserted_by = h.inserted_by;
        deleted_by = h.deleted_by;
        overflow = h.overflow;
        private = h.private;
        bytes = h.bytes;
        vector = v.0;
      },
      v.1,
    )) (vector_again h.bytes h.vector rest is.vector))

used_takes : (bytes : List ℕ) (x : Option Head × List ℕ) → IsBytes bytes → used_slot_at bytes ≡ Ok x
    → Takes (1 ∷ bytes) (slot_bytes x.0) x.1 × IsSlot x.0
unfolding used_slot_at
used_takes bytes x fits e =
    let h = bind_ok (head_at bytes) (λ h. Ok (Some h.0, h.1)) x e in
    let t = head_takes bytes h.0 fits h.1 in
    let made : Option Head × List ℕ = (Some h.0.0, h.0.1) in
    let whole : Takes (1 ∷ bytes) (slot_bytes (Some h.0.0)) h.0.1 =
    record { parts = ap (λ (l : List ℕ). 1 ∷ l) t.0.parts; rest_fits = t.0.rest_fits } in
    subst (λ (y : Option Head × List ℕ). Takes (1 ∷ bytes) (slot_bytes y.0) y.1 × IsSlot y.0) (ok_is made x h.2)
    (whole, t.1)

slot_takes : (bytes : List ℕ) (x : Option Head × List ℕ) → IsBytes bytes → heap_slot_at bytes ≡ Ok x
    → Takes bytes (slot_bytes x.0) x.1 × IsSlot x.0
slot_takes [] x fits e = absurd cc
slot_takes (zero ∷ bytes) x fits e =
    let made : Option Head × List ℕ = (None, bytes) in
    subst (λ (y : Option Head × List ℕ). Takes (0 ∷ bytes) (slot_bytes y.0) y.1 × IsSlot y.0) (ok_is made x e)
    (record { parts = refl; rest_fits = λ i. fits (suc i) }, tt)
slot_takes (suc zero ∷ bytes) x fits e = used_takes bytes x (λ i. fits (suc i)) e
slot_takes (suc (suc b) ∷ bytes) x fits e = absurd cc

slot_again : (s : Option Head) (rest : List ℕ) → IsSlot s → heap_slot_at (slot_bytes s ++ rest) ≡ Ok (s, rest)
unfolding used_slot_at
slot_again None rest is = refl
slot_again (Some h) rest is = ap (λ (r : Read Head). r >>= λ h. Ok (Some h.0, h.1)) (head_again h rest is)

pub slot_reader : IsReader (λ (_ : ℕ) _ rest. heap_slot_at rest) slot_bytes (λ _ _ s. IsSlot s)
slot_reader = record {
  takes = λ last k bytes x fits e. slot_takes bytes x fits e;
  again = λ last k x rest is. slot_again x rest is;
}
