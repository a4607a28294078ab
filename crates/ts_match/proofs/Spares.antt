-- Bit sets that move between the stack and those that are not in use.
use Rattle.std.proofs.Common.{◌≡◌, ℕ, ◌+◌, ◌-◌, ◌/◌, ◌≤◌, None, List, [], ◌∷◌, ◌++◌, length, reverse, vec_len, refl}
use Rattle.std.proofs.Common.{sym, ap, subst, ◌∙◌, arith, length-append}
use Rattle.std.specs.Prelude.{All, min, slice_get}
use Rattle.std.proofs.lemmas.List.Elements.{All-push}
use Rattle.ts_base.specs.declared.TheConstants.{LAST_POSITION}
use Rattle.ts_match.specs.declared.bit_sets.BitSet.{BitSet}
use Rattle.ts_match.specs.declared.bit_sets.TheConstants.{WORD, WIDEST}
use Rattle.ts_match.specs.Inner.BitSets.{IsWide, words_for}
use Rattle.ts_match.specs.Inner.Heights.{AreWide, SameBitSets}
use Rattle.ts_match.proofs.Laid.{pop_wide, pushed}

pub same_refl : (stack spare : List BitSet) → SameBitSets stack spare stack spare
same_refl stack spare = record { count = refl; wide = λ n a. a }

pub same_trans : (a b c d e f : List BitSet) → SameBitSets a b c d → SameBitSets c d e f → SameBitSets a b e f
same_trans a b c d e f r s = record { count = s.count ∙ r.count; wide = λ n w. s.wide n (r.wide n w) }

pub narrower : (n m : ℕ) (stack spare : List BitSet) → m ≤ n → AreWide n stack spare → AreWide m stack spare
narrower n m stack spare l a = record {
  stack = λ k d h. (let x = a.stack k d h in omega arith);
  spare = λ k d h. (let x = a.spare k d h in omega arith);
}

-- a bit set that was not in use, on top
pub taken : (stack stack' spare spare' : List BitSet) (bits bits' : BitSet) → spare ≡ spare' ++ bits ∷ []
    → reverse stack' ≡ bits' ∷ reverse stack → vec_len bits'.words ≡ vec_len bits.words
    → SameBitSets stack spare stack' spare'
taken stack stack' spare spare' bits bits' e p l =
    let q = pushed stack stack' bits' p in record {
      count = (let a = ap length e in let b = ap length q in
          let x = length-append spare' (bits ∷ []) in let y = length-append stack (bits' ∷ []) in omega arith);
      wide = λ n a.
          let w = pop_wide n spare spare' bits e a.spare in record {
            stack = subst (λ (z : List BitSet). All (IsWide n) z) (sym q)
                (All-push (IsWide n) stack bits' a.stack (let x = w.1 in omega arith));
            spare = w.0;
          };
    }

-- the bit set on top no longer in use
pub freed : (stack stack' spare spare' : List BitSet) (bits : BitSet) → stack ≡ stack' ++ bits ∷ []
    → spare' ≡ spare ++ bits ∷ [] → SameBitSets stack spare stack' spare'
freed stack stack' spare spare' bits e q = record {
  count = (let a = ap length e in let b = ap length q in
      let x = length-append stack' (bits ∷ []) in let y = length-append spare (bits ∷ []) in omega arith);
  wide = λ n a.
      let w = pop_wide n stack stack' bits e a.stack in record {
        stack = w.0;
        spare = subst (λ (z : List BitSet). All (IsWide n) z) (sym q) (All-push (IsWide n) spare bits a.spare w.1);
      };
}

-- the bit set on top with other truths
pub changed : (stack below stack' spare : List BitSet) (bits bits' : BitSet) → stack ≡ below ++ bits ∷ []
    → reverse stack' ≡ bits' ∷ reverse below → vec_len bits'.words ≡ vec_len bits.words
    → SameBitSets stack spare stack' spare
changed stack below stack' spare bits bits' e p l =
    let q = pushed below stack' bits' p in record {
      count = (let a = ap length e in let b = ap length q in
          let x = length-append below (bits ∷ []) in let y = length-append below (bits' ∷ []) in omega arith);
      wide = λ n a.
          let w = pop_wide n stack below bits e a.stack in record {
            stack = subst (λ (z : List BitSet). All (IsWide n) z) (sym q)
                (All-push (IsWide n) below bits' w.0 (let x = w.1 in omega arith));
            spare = a.spare;
          };
    }

pub height_pushed : (old new : List BitSet) (bits : BitSet) → reverse new ≡ bits ∷ reverse old
    → length new ≡ length old + 1
height_pushed old new bits p = ap length (pushed old new bits p) ∙ length-append old (bits ∷ [])

pub height_popped : (old new : List BitSet) (bits : BitSet) → old ≡ new ++ bits ∷ [] → length old ≡ length new + 1
height_popped old new bits e = ap length e ∙ length-append new (bits ∷ [])

pub height_joined : (old mid low new : List BitSet) (right left bits : BitSet) → old ≡ mid ++ right ∷ []
    → mid ≡ low ++ left ∷ [] → reverse new ≡ bits ∷ reverse low → length new ≡ length old - 1
height_joined old mid low new right left bits e f p =
    let a = height_popped old mid right e in
    let b = height_popped mid low left f in
    let d = height_pushed low new bits p in
    omega arith

-- bit sets that are made for a plan are wide enough for each of its phrases
pub wide_enough : (last reach most : ℕ) (stack spare : List BitSet) → last ≤ LAST_POSITION → reach ≤ WIDEST
    → reach ≤ most → AreWide (words_for (min most WIDEST)) stack spare → AreWide ((last + reach) / WORD + 1) stack spare
wide_enough last reach most stack spare l w m a =
    narrower (words_for (min most WIDEST)) ((last + reach) / WORD + 1) stack spare (omega arith) a

-- the bit set that is alone
pub wide_alone : (count : ℕ) (bit_sets : List BitSet) (bits : BitSet) → bit_sets ≡ bits ∷ []
    → All (IsWide count) bit_sets → IsWide count bits
wide_alone count bit_sets bits e a = subst (λ (z : List BitSet). All (IsWide count) z) e a 0 bits (omega arith)

pub one_is_last : (bit_sets : List BitSet) (bits : BitSet) → bit_sets ≡ bits ∷ []
    → None ≡ slice_get bit_sets (length bit_sets - 1) → ⊥
one_is_last bit_sets bits e h = let k : None ≡ slice_get (bits ∷ []) (length (bits ∷ []) - 1) =
    subst (λ (z : List BitSet). None ≡ slice_get z (length z - 1)) e h in let x : ⊥ = cc in x
