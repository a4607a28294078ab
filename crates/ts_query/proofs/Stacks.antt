-- The two stacks of a parser, and the tokens that may follow.
use Rattle.std.proofs.Common.{◌≡◌, ◌≢◌, ℕ, suc, ◌<◌, ◌≤◌, List, [], ◌∷◌, ◌++◌, map, refl, sym, subst, ap, ◌∙◌, Some}
use Rattle.std.proofs.Common.{None, append_assoc, arith}
use Rattle.ts_query.specs.Queries.{Operand, Joint, or_joint, and_joint, phrase_joint, Tree, leaf, negated, joined}
use Rattle.ts_query.specs.Queries.{Query}
use Rattle.ts_query.specs.Tokens.{QueryToken, word, bang, opening, closing, sign}
use Rattle.ts_query.specs.Grammar.{level, Expr}
use Rattle.ts_query.specs.Postfix.{Item, operand_item, not_item, joint_item, postfix}
use Rattle.ts_query.specs.Inner.Frames.{Frame, open_frame, not_frame, joint_frame, need, After, at_end, On, Want, want}
use Rattle.ts_query.specs.Inner.Frames.{NoTighter, Spot, start, due, held, IsDue, IsHeld, SpotRest, outs_of}
use Rattle.ts_query.specs.Inner.Parsing.{link_joint, joint_link, word_operand, entry_item, ops_of, ShowsHeld, Shows}
use Rattle.ts_query.specs.Inner.Parsing.{Takes, Took, Never, Same, Applied, Over, AppliedAll, SpellsOut, NeverEnds}
use Rattle.ts_query.specs.declared.parser.Link.{Link}
use Rattle.ts_query.specs.declared.parser.Link.TheVariants.{Or, And, Phrase}
use Rattle.ts_query.specs.declared.parser.Op.{Op}
use Rattle.ts_query.specs.declared.parser.Op.TheVariants.{Open, Not, Pending}
use Rattle.ts_query.specs.declared.parser.Word.{Word}
use Rattle.ts_query.specs.declared.parser.Entry.{Entry}
use Rattle.ts_query.specs.declared.parser.Entry.TheVariants as entry
use Rattle.ts_query.specs.declared.parser.Place.TheVariants.{Start, Due, Held}
use Rattle.ts_query.specs.declared.parser.Parser.{Parser}
use Rattle.ts_query.proofs.Climbs.{level_3, want_word, word_want, want_open, open_want, want_not, not_want, want_sign}
use Rattle.ts_query.proofs.Climbs.{want_close, want_nil, pop_not, push_not, pop_joint, push_joint, close_on, on_close}
use Rattle.ts_query.proofs.Climbs.{bottom_close, bottom_end, end_bottom, open_end, on_joint, joint_on, Begin, on_begin}

-- ── lists ──
pub push_not_nil : {X : Type 0} → (xs : List X) (a : X) → (xs ++ a ∷ []) ≢ []
push_not_nil [] a e = cc
push_not_nil (x ∷ xs) a e = cc

-- lists with one more at their ends
pub same_ends : {X : Type 0} → (xs ys : List X) (a b : X) → xs ++ a ∷ [] ≡ ys ++ b ∷ [] → (xs ≡ ys) × (a ≡ b)
same_ends [] [] a b e = (refl, cc)
same_ends [] (y ∷ ys) a b e = absurd (push_not_nil ys b (let f : ys ++ b ∷ [] ≡ [] = cc in f))
same_ends (x ∷ xs) [] a b e = absurd (push_not_nil xs a (let f : xs ++ a ∷ [] ≡ [] = cc in f))
same_ends (x ∷ xs) (y ∷ ys) a b e =
    let t : xs ++ a ∷ [] ≡ ys ++ b ∷ [] = cc in
    let h : x ≡ y = cc in
    let r = same_ends xs ys a b t in
    (let p : xs ≡ ys = r.0 in let g : x ∷ xs ≡ y ∷ ys = cc in g, r.1)

pub items_push : (xs : List Entry) (e : Entry) → map entry_item (xs ++ e ∷ []) ≡ map entry_item xs ++ entry_item e ∷ []
items_push [] e = refl
items_push (x ∷ xs) e = ap (λ l. entry_item x ∷ l) (items_push xs e)

out_more : (xs ys : List Entry) (e : Entry) → ys ≡ xs ++ e ∷ []
    → map entry_item ys ≡ map entry_item xs ++ entry_item e ∷ []
out_more xs ys e h = ap (λ l. map entry_item l) h ∙ items_push xs e

link_back : (k : Link) → joint_link (link_joint k) ≡ k
link_back Or = refl
link_back And = refl
link_back (Phrase n) = refl

pub joint_back : (j : Joint) → link_joint (joint_link j) ≡ j
joint_back or_joint = refl
joint_back and_joint = refl
joint_back (phrase_joint n) = refl

-- ── levels ──
pub need_3 : (fs : List Frame) → need fs ≤ 3
need_3 [] = omega arith
need_3 (open_frame ∷ fs) = omega arith
need_3 (not_frame ∷ fs) = omega arith
need_3 (joint_frame i x ∷ fs) = let b = level_3 i in omega arith

pub need_4 : (fs : List Frame) → need fs ≤ 4
need_4 fs = let b = need_3 fs in omega arith

stops_up : (l k : ℕ) (u : List QueryToken) → l ≤ k → NoTighter l u → NoTighter k u
stops_up l k [] h s = tt
stops_up l k (word a o ∷ u) h s = tt
stops_up l k (bang ∷ u) h s = tt
stops_up l k (opening ∷ u) h s = tt
stops_up l k (closing ∷ u) h s = tt
stops_up l k (sign a j ∷ u) h s = let b : level j < l = s in omega arith

-- ── operators are applied ──
pub applied_start : (l j : ℕ) (fs : List Frame) (y : Tree) (p : Parser) → ShowsHeld p j fs y → Applied l j fs y p
applied_start l j fs y p s = record {
  j' = j;
  fs' = fs;
  y' = y;
  shows = s;
  tight = λ h. h;
  same = record { to = λ u t _ o. o; from = λ u t _ o. o };
}

pub applied_next : (l j : ℕ) (fs : List Frame) (y : Tree) (p q : Parser) → Applied l j fs y p
    → ((k : ℕ) (gs : List Frame) (z : Tree) → ShowsHeld p k gs z → Applied l k gs z q) → Applied l j fs y q
applied_next l j fs y p q a f = let b = f a.j' a.fs' a.y' a.shows in record {
  j' = b.j';
  fs' = b.fs';
  y' = b.y';
  shows = b.shows;
  tight = λ h. b.tight (a.tight h);
  same = record {
    to = λ u t s o. b.same.to u t s (a.same.to u t s o);
    from = λ u t s o. a.same.from u t s (b.same.from u t s o);
  };
}

pub applied_over : (l j : ℕ) (fs : List Frame) (y : Tree) (p q : Parser) → Applied l j fs y p
    → ((k : ℕ) (gs : List Frame) (z : Tree) → ShowsHeld p k gs z → Over l k gs z q) → AppliedAll l j fs y q
applied_over l j fs y p q a f = let b = f a.j' a.fs' a.y' a.shows in record {
  applied = record { j' = a.j'; fs' = a.fs'; y' = a.y'; shows = b.shows; tight = a.tight; same = a.same };
  over = b.over;
}

pub applied_not : (l j : ℕ) (fs : List Frame) (y : Tree) (p q : Parser) (front : List Op) → l < 3 → ShowsHeld p j fs y
    → p.ops.items ≡ front ++ Not ∷ []
    → q.place ≡ p.place → q.ops.items ≡ front → q.out.items ≡ p.out.items ++ entry.Not ∷ [] → Applied l j fs y q
applied_not l j [] y p q front b s e d o out = absurd (push_not_nil front Not (sym e ∙ s.ops))
applied_not l j (open_frame ∷ fs) y p q front b s e d o out =
    absurd (let n = (same_ends front (ops_of fs) Not Open (sym e ∙ s.ops)).1 in let x : ⊥ = cc in x)
applied_not l j (joint_frame i w ∷ fs) y p q front b s e d o out =
    absurd (let n = (same_ends front (ops_of fs) Not (Pending (joint_link i)) (sym e ∙ s.ops)).1 in let x : ⊥ = cc in x)
applied_not l j (not_frame ∷ fs) y p q front b s e d o out =
    let n = (same_ends front (ops_of fs) Not Not (sym e ∙ s.ops)).0 in
    let above : 3 ≤ j = s.above in
    let below : j ≤ 4 = s.below in
    let more = out_more p.out.items q.out.items entry.Not out in
    record {
      j' = 3;
      fs' = fs;
      y' = negated y;
      shows = record {
        place = d ∙ s.place;
        ops = o ∙ n;
        out = more ∙ ap (λ v. v ++ not_item ∷ []) s.out ∙ append_assoc (outs_of fs) (postfix y) (not_item ∷ []);
        sorted = s.sorted;
        above = need_3 fs;
        below = omega arith;
      };
      tight = λ _. b;
      same = record {
        to = λ u t st h. pop_not j fs y t u (stops_up (suc l) 3 u (omega arith) st) h;
        from = λ u t st h. push_not j fs y t u above below h;
      };
    }

out_joint : (a b c d : List Item) → ((a ++ b) ++ c) ++ d ≡ a ++ ((b ++ c) ++ d)
out_joint a b c d = simp append_assoc

-- the same pending operator
pending_one : (i : Link) (k : Joint) → Pending i ≡ Pending (joint_link k) → link_joint i ≡ k
pending_one i k e = let f : i ≡ joint_link k = cc in ap link_joint f ∙ joint_back k

pub applied_joint : (i : Link) (l j : ℕ) (fs : List Frame) (y : Tree) (p q : Parser) (front : List Op)
    → l ≤ level (link_joint i) → ShowsHeld p j fs y → p.ops.items ≡ front ++ Pending i ∷ []
    → q.place ≡ p.place → q.ops.items ≡ front → q.out.items ≡ p.out.items ++ entry.Joined i ∷ [] → Applied l j fs y q
applied_joint i l j [] y p q front b s e d o out = absurd (push_not_nil front (Pending i) (sym e ∙ s.ops))
applied_joint i l j (open_frame ∷ fs) y p q front b s e d o out =
    absurd (let n = (same_ends front (ops_of fs) (Pending i) Open (sym e ∙ s.ops)).1 in let x : ⊥ = cc in x)
applied_joint i l j (not_frame ∷ fs) y p q front b s e d o out =
    absurd (let n = (same_ends front (ops_of fs) (Pending i) Not (sym e ∙ s.ops)).1 in let x : ⊥ = cc in x)
applied_joint i l j (joint_frame k w ∷ fs) y p q front b s e d o out =
    let n = same_ends front (ops_of fs) (Pending i) (Pending (joint_link k)) (sym e ∙ s.ops) in
    let same_joint : link_joint i ≡ k = pending_one i k n.1 in
    let at : l ≤ level k = subst (λ v. l ≤ level v) same_joint b in
    let above : suc (level k) ≤ j = s.above in
    let below : j ≤ 4 = s.below in
    let under : need fs ≤ level k = s.sorted.0 in
    let three = level_3 k in
    let more = out_more p.out.items q.out.items (entry.Joined i) out in
    record {
      j' = suc (level k);
      fs' = fs;
      y' = joined k w y;
      shows = record {
        place = d ∙ s.place;
        ops = o ∙ n.0;
        out = more ∙ ap (λ v. v ++ joint_item (link_joint i) ∷ []) s.out
            ∙ out_joint (outs_of fs) (postfix w) (postfix y) (joint_item (link_joint i) ∷ [])
            ∙ ap (λ v. outs_of fs ++ ((postfix w ++ postfix y) ++ joint_item v ∷ [])) same_joint;
        sorted = s.sorted.1;
        above = omega arith;
        below = omega arith;
      };
      tight = λ _. omega arith;
      same = record {
        to = λ u t st h. pop_joint j fs k w y t u (stops_up (suc l) (suc (level k)) u (omega arith) st) h;
        from = λ u t st h. push_joint j fs k w y t u above below h;
      };
    }

-- ── an operand is due ──
-- at the start, as after nothing
end_of : (y t : Tree) (u m : List QueryToken) → Expr 0 y u m → After [] y m t → Expr 0 t u []
end_of y t u m e (at_end _) = e

pub want_spelled : (u : List QueryToken) (t : Tree) → Want [] u t → Expr 0 t u []
want_spelled u t (want _ y _ _ m e a) = end_of y t u m e a

pub spelled_want : (u : List QueryToken) (t : Tree) → Expr 0 t u [] → Want [] u t
spelled_want u t e = want [] t t u [] e (at_end t)

no_token : (k : QueryToken) (u : List QueryToken) → (k ∷ u) ≢ []
no_token k u e = cc

start_to : (k : QueryToken) (u : List QueryToken) (q : Query) → SpotRest start (k ∷ u) q → SpotRest (due []) (k ∷ u) q
start_to k u None h = no_token k u h
start_to k u (Some t) h = spelled_want (k ∷ u) t h

pub start_from : (k : QueryToken) (u : List QueryToken) (q : Query) → SpotRest (due []) (k ∷ u) q
    → SpotRest start (k ∷ u) q
start_from k u None h = absurd h
start_from k u (Some t) h = want_spelled (k ∷ u) t h

from_start : (k : QueryToken) (new : Spot) → Takes (due []) k new → Takes start k new
from_start k new t = record {
  goes_on = λ u q r. start_from k u q (t.goes_on u q r);
  came_so = λ u q r. t.came_so u q (start_to k u q r);
}

word_goes : (fs : List Frame) (at : ℕ) (o : Operand) (u : List QueryToken) (q : Query) → SpotRest (held fs (leaf o)) u q
    → SpotRest (due fs) (word at o ∷ u) q
word_goes fs at o u None r = r
word_goes fs at o u (Some t) r = word_want fs at o u t r

word_came : (fs : List Frame) (at : ℕ) (o : Operand) (u : List QueryToken) (q : Query)
    → SpotRest (due fs) (word at o ∷ u) q → SpotRest (held fs (leaf o)) u q
word_came fs at o u None r = r
word_came fs at o u (Some t) r = want_word fs at o u t r

word_takes : (fs : List Frame) (at : ℕ) (o : Operand) → Takes (due fs) (word at o) (held fs (leaf o))
word_takes fs at o = record { goes_on = word_goes fs at o; came_so = word_came fs at o }

not_goes : (fs : List Frame) (u : List QueryToken) (q : Query) → SpotRest (due (not_frame ∷ fs)) u q
    → SpotRest (due fs) (bang ∷ u) q
not_goes fs u None r = r
not_goes fs u (Some t) r = not_want fs u t r

not_came : (fs : List Frame) (u : List QueryToken) (q : Query) → SpotRest (due fs) (bang ∷ u) q
    → SpotRest (due (not_frame ∷ fs)) u q
not_came fs u None r = r
not_came fs u (Some t) r = want_not fs u t r

not_takes : (fs : List Frame) → Takes (due fs) bang (due (not_frame ∷ fs))
not_takes fs = record { goes_on = not_goes fs; came_so = not_came fs }

open_goes : (fs : List Frame) (u : List QueryToken) (q : Query) → SpotRest (due (open_frame ∷ fs)) u q
    → SpotRest (due fs) (opening ∷ u) q
open_goes fs u None r = r
open_goes fs u (Some t) r = open_want fs u t r

open_came : (fs : List Frame) (u : List QueryToken) (q : Query) → SpotRest (due fs) (opening ∷ u) q
    → SpotRest (due (open_frame ∷ fs)) u q
open_came fs u None r = r
open_came fs u (Some t) r = want_open fs u t r

open_takes : (fs : List Frame) → Takes (due fs) opening (due (open_frame ∷ fs))
open_takes fs = record { goes_on = open_goes fs; came_so = open_came fs }

pub word_took : (p q : Parser) (s : Spot) (at : ℕ) (w : Word) → IsDue s → Shows p s → q.place ≡ Held
    → q.ops.items ≡ p.ops.items → q.out.items ≡ p.out.items ++ entry.Operand w ∷ []
    → Took s (word at (word_operand w)) q
word_took p q start at w n s d o out = record {
  new = held [] (leaf (word_operand w));
  shows = record {
    place = d;
    ops = o ∙ s.ops;
    out = out_more p.out.items q.out.items (entry.Operand w) out
        ∙ ap (λ v. v ++ operand_item (word_operand w) ∷ []) s.out;
    sorted = tt;
    above = omega arith;
    below = omega arith;
  };
  takes = from_start (word at (word_operand w)) (held [] (leaf (word_operand w))) (word_takes [] at (word_operand w));
}
word_took p q (due fs) at w n s d o out = record {
  new = held fs (leaf (word_operand w));
  shows = record {
    place = d;
    ops = o ∙ s.ops;
    out = out_more p.out.items q.out.items (entry.Operand w) out
        ∙ ap (λ v. v ++ operand_item (word_operand w) ∷ []) s.out;
    sorted = s.sorted;
    above = need_4 fs;
    below = omega arith;
  };
  takes = word_takes fs at (word_operand w);
}
word_took p q (held fs y) at w n s d o out = absurd n

pub not_took : (p q : Parser) (s : Spot) → IsDue s → Shows p s → q.place ≡ Due → q.ops.items ≡ p.ops.items ++ Not ∷ []
    → q.out.items ≡ p.out.items → Took s bang q
not_took p q start n s d o out = record {
  new = due (not_frame ∷ []);
  shows = record {
    place = d;
    ops = o ∙ ap (λ v. v ++ Not ∷ []) s.ops;
    out = ap (λ v. map entry_item v) out ∙ s.out;
    sorted = tt;
  };
  takes = from_start bang (due (not_frame ∷ [])) (not_takes []);
}
not_took p q (due fs) n s d o out = record {
  new = due (not_frame ∷ fs);
  shows = record {
    place = d;
    ops = o ∙ ap (λ v. v ++ Not ∷ []) s.ops;
    out = ap (λ v. map entry_item v) out ∙ s.out;
    sorted = s.sorted;
  };
  takes = not_takes fs;
}
not_took p q (held fs y) n s d o out = absurd n

pub open_took : (p q : Parser) (s : Spot) → IsDue s → Shows p s → q.place ≡ Due → q.ops.items ≡ p.ops.items ++ Open ∷ []
    → q.out.items ≡ p.out.items → Took s opening q
open_took p q start n s d o out = record {
  new = due (open_frame ∷ []);
  shows = record {
    place = d;
    ops = o ∙ ap (λ v. v ++ Open ∷ []) s.ops;
    out = ap (λ v. map entry_item v) out ∙ s.out;
    sorted = tt;
  };
  takes = from_start opening (due (open_frame ∷ [])) (open_takes []);
}
open_took p q (due fs) n s d o out = record {
  new = due (open_frame ∷ fs);
  shows = record {
    place = d;
    ops = o ∙ ap (λ v. v ++ Open ∷ []) s.ops;
    out = ap (λ v. map entry_item v) out ∙ s.out;
    sorted = s.sorted;
  };
  takes = open_takes fs;
}
open_took p q (held fs y) n s d o out = absurd n

-- ── tokens that can't come ──
due_never : (fs : List Frame) (k : QueryToken) (u : List QueryToken) (q : Query) → ((t : Tree) → ¬ Want fs (k ∷ u) t)
    → ¬ SpotRest (due fs) (k ∷ u) q
due_never fs k u None f r = r
due_never fs k u (Some t) f r = f t r

-- an operator or a closing bracket where an operand is due
pub sign_never : (s : Spot) (at : ℕ) (j : Joint) → IsDue s → Never s (sign at j)
sign_never start at j n =
    record { never = λ u q r. due_never [] (sign at j) u q (λ t. want_sign [] at j u t) (start_to (sign at j) u q r) }
sign_never (due fs) at j n = record { never = λ u q r. due_never fs (sign at j) u q (λ t. want_sign fs at j u t) r }
sign_never (held fs y) at j n = absurd n

pub close_due : (s : Spot) → IsDue s → Never s closing
close_due start n =
    record { never = λ u q r. due_never [] closing u q (λ t. want_close [] u t) (start_to closing u q r) }
close_due (due fs) n = record { never = λ u q r. due_never fs closing u q (λ t. want_close fs u t) r }
close_due (held fs y) n = absurd n

held_never : (fs : List Frame) (y : Tree) (k : QueryToken) (u : List QueryToken) (q : Query)
    → ((t : Tree) → ¬ On 4 fs y (k ∷ u) t) → ¬ SpotRest (held fs y) (k ∷ u) q
held_never fs y k u None f r = r
held_never fs y k u (Some t) f r = f t r

-- what begins an operand, after one
pub begin_never : (s : Spot) (k : QueryToken) → IsHeld s → Begin k → Never s k
begin_never start k e b = absurd e
begin_never (due fs) k e b = absurd e
begin_never (held fs y) k e b = record { never = λ u q r. held_never fs y k u q (λ t. on_begin 4 fs k y t u b) r }

-- ── after an operand ──
sign_goes : (i : Joint) (at : ℕ) (fs gs : List Frame) (y z : Tree) (j : ℕ) → Same (level i) 4 fs y j gs z
    → need gs ≤ level i → level i < j → j ≤ 4
    → (u : List QueryToken) (q : Query) → SpotRest (due (joint_frame i z ∷ gs)) u q
    → SpotRest (held fs y) (sign at i ∷ u) q
sign_goes i at fs gs y z j m n t b u None r = r
sign_goes i at fs gs y z j m n t b u (Some q) r =
    m.from (sign at i ∷ u) q (omega arith) (joint_on j gs i at z q u n t b r)

sign_came : (i : Joint) (at : ℕ) (fs gs : List Frame) (y z : Tree) (j : ℕ) → Same (level i) 4 fs y j gs z
    → need gs ≤ level i
    → (u : List QueryToken) (q : Query) → SpotRest (held fs y) (sign at i ∷ u) q
    → SpotRest (due (joint_frame i z ∷ gs)) u q
sign_came i at fs gs y z j m n u None r = r
sign_came i at fs gs y z j m n u (Some q) r = on_joint j gs i at z q u n (m.to (sign at i ∷ u) q (omega arith) r)

sign_took_at : (k : Link) (at : ℕ) (fs : List Frame) (y : Tree) (q r : Parser)
    → AppliedAll (level (link_joint k)) 4 fs y q → r.place ≡ Due
    → r.ops.items ≡ q.ops.items ++ Pending k ∷ [] → r.out.items ≡ q.out.items
    → Took (held fs y) (sign at (link_joint k)) r
sign_took_at k at fs y q r a d o out =
    let i = link_joint k in
    let b = a.applied in
    let three = level_3 (link_joint k) in
    let tight : level (link_joint k) < b.j' = b.tight (omega arith) in
    record {
      new = due (joint_frame (link_joint k) b.y' ∷ b.fs');
      shows = record {
        place = d;
        ops = o ∙ ap (λ v. v ++ Pending k ∷ []) b.shows.ops
            ∙ ap (λ v. ops_of b.fs' ++ Pending v ∷ []) (sym (link_back k));
        out = ap (λ v. map entry_item v) out ∙ b.shows.out;
        sorted = (a.over, b.shows.sorted);
      };
      takes = record {
        goes_on = sign_goes (link_joint k) at fs b.fs' y b.y' b.j' b.same a.over tight b.shows.below;
        came_so = sign_came (link_joint k) at fs b.fs' y b.y' b.j' b.same a.over;
      };
    }

pub sign_took : (k : Link) (at : ℕ) (p q r : Parser) (s : Spot) → IsHeld s → Shows p s
    → ((j : ℕ) (fs : List Frame) (y : Tree) → ShowsHeld p j fs y → AppliedAll (level (link_joint k)) j fs y q)
    → r.place ≡ Due → r.ops.items ≡ q.ops.items ++ Pending k ∷ [] → r.out.items ≡ q.out.items
    → Took s (sign at (link_joint k)) r
sign_took k at p q r start e s a d o out = absurd e
sign_took k at p q r (due fs) e s a d o out = absurd e
sign_took k at p q r (held fs y) e s a d o out = sign_took_at k at fs y q r (a 4 fs y s) d o out

close_goes : (fs gs : List Frame) (y z : Tree) (j : ℕ) → Same 0 4 fs y j (open_frame ∷ gs) z → j ≤ 4
    → (u : List QueryToken) (q : Query) → SpotRest (held gs z) u q → SpotRest (held fs y) (closing ∷ u) q
close_goes fs gs y z j m b u None r = r
close_goes fs gs y z j m b u (Some t) r = m.from (closing ∷ u) t tt (on_close j gs z t u b r)

close_came : (fs gs : List Frame) (y z : Tree) (j : ℕ) → Same 0 4 fs y j (open_frame ∷ gs) z
    → (u : List QueryToken) (q : Query) → SpotRest (held fs y) (closing ∷ u) q → SpotRest (held gs z) u q
close_came fs gs y z j m u None r = r
close_came fs gs y z j m u (Some t) r = close_on j gs z t u (m.to (closing ∷ u) t tt r)

close_at : (j : ℕ) (fs gs : List Frame) (y z : Tree) (q r : Parser) (front : List Op) (op : Op) → need gs ≤ 0
    → ShowsHeld q j gs z → Same 0 4 fs y j gs z → q.ops.items ≡ front ++ op ∷ []
    → r.place ≡ q.place → r.ops.items ≡ front → r.out.items ≡ q.out.items → Took (held fs y) closing r
close_at j fs [] y z q r front op n s m e d o out = absurd (push_not_nil front op (sym e ∙ s.ops))
close_at j fs (not_frame ∷ gs) y z q r front op n s m e d o out = absurd (let x : ⊥ = omega arith in x)
close_at j fs (joint_frame i w ∷ gs) y z q r front op n s m e d o out = absurd (let x : ⊥ = omega arith in x)
close_at j fs (open_frame ∷ gs) y z q r front op n s m e d o out =
    let below : j ≤ 4 = s.below in
    record {
      new = held gs z;
      shows = record {
        place = d ∙ s.place;
        ops = o ∙ (same_ends front (ops_of gs) op Open (sym e ∙ s.ops)).0;
        out = ap (λ v. map entry_item v) out ∙ s.out;
        sorted = s.sorted;
        above = need_4 gs;
        below = omega arith;
      };
      takes = record { goes_on = close_goes fs gs y z j m below; came_so = close_came fs gs y z j m };
    }

pub close_took : (p q r : Parser) (s : Spot) (front : List Op) (op : Op) → IsHeld s → Shows p s
    → ((j : ℕ) (fs : List Frame) (y : Tree) → ShowsHeld p j fs y → AppliedAll 0 j fs y q)
    → q.ops.items ≡ front ++ op ∷ [] → r.place ≡ q.place → r.ops.items ≡ front → r.out.items ≡ q.out.items
    → Took s closing r
close_took p q r start front op h s a e d o out = absurd h
close_took p q r (due fs) front op h s a e d o out = absurd h
close_took p q r (held fs y) front op h s a e d o out =
    let f = a 4 fs y s in
    let b = f.applied in close_at b.j' fs b.fs' y b.y' q r front op f.over b.shows b.same e d o out

no_frames : (gs : List Frame) (ops : List Op) → ops ≡ ops_of gs → ops ≡ [] → gs ≡ []
no_frames [] ops e f = refl
no_frames (open_frame ∷ gs) ops e f = absurd (push_not_nil (ops_of gs) Open (sym e ∙ f))
no_frames (not_frame ∷ gs) ops e f = absurd (push_not_nil (ops_of gs) Not (sym e ∙ f))
no_frames (joint_frame i x ∷ gs) ops e f = absurd (push_not_nil (ops_of gs) (Pending (joint_link i)) (sym e ∙ f))

close_bottom : (fs : List Frame) (y : Tree) (q : Parser) → AppliedAll 0 4 fs y q → q.ops.items ≡ []
    → (u : List QueryToken) (t : Tree) → ¬ On 4 fs y (closing ∷ u) t
close_bottom fs y q a e u t w =
    let b = a.applied in
    let n : b.fs' ≡ [] = no_frames b.fs' q.ops.items b.shows.ops e in
    bottom_close b.j' b.y' t u (subst (λ gs. On b.j' gs b.y' (closing ∷ u) t) n (b.same.to (closing ∷ u) t tt w))

pub close_never : (p q : Parser) (s : Spot) → IsHeld s → Shows p s → ((j : ℕ) (fs : List Frame) (y : Tree)
    → ShowsHeld p j fs y → AppliedAll 0 j fs y q) → q.ops.items ≡ [] → Never s closing
close_never p q start h s a e = absurd h
close_never p q (due fs) h s a e = absurd h
close_never p q (held fs y) h s a e =
    record { never = λ u r w. held_never fs y closing u r (λ t. close_bottom fs y q (a 4 fs y s) e u t) w }

-- ── the end ──
start_only : (q : Query) → SpotRest start [] q → q ≡ None
start_only None r = refl
start_only (Some t) r = absurd (want_nil [] t (spelled_want [] t r))

pub start_whole : (p : Parser) (s : Spot) → p.place ≡ Start → Shows p s → SpellsOut s (map entry_item p.out.items)
start_whole p start e s = record { query = None; is = s.out; found = refl; only = start_only }
start_whole p (due fs) e s = absurd (let f : p.place ≡ Due = s.place in let x : ⊥ = cc in x)
start_whole p (held fs y) e s = absurd (let f : p.place ≡ Held = s.place in let x : ⊥ = cc in x)

due_end : (fs : List Frame) (q : Query) → ¬ SpotRest (due fs) [] q
due_end fs None r = r
due_end fs (Some t) r = want_nil fs t r

pub due_unfinished : (p : Parser) (s : Spot) → p.place ≡ Due → Shows p s → NeverEnds s
due_unfinished p start e s = absurd (let f : p.place ≡ Start = s.place in let x : ⊥ = cc in x)
due_unfinished p (due fs) e s = record { never = due_end fs }
due_unfinished p (held fs y) e s = absurd (let f : p.place ≡ Held = s.place in let x : ⊥ = cc in x)

held_only : (fs : List Frame) (y z : Tree) (q : Query) → ((t : Tree) → On 4 fs y [] t → t ≡ z)
    → SpotRest (held fs y) [] q → q ≡ Some z
held_only fs y z None f r = absurd r
held_only fs y z (Some t) f r = ap (λ v. Some v) (f t r)

held_whole_at : (fs : List Frame) (y : Tree) (q : Parser) → AppliedAll 0 4 fs y q → q.ops.items ≡ []
    → SpellsOut (held fs y) (map entry_item q.out.items)
held_whole_at fs y q a e =
    let b = a.applied in
    let n : b.fs' ≡ [] = no_frames b.fs' q.ops.items b.shows.ops e in
    record {
      query = Some b.y';
      is = b.shows.out ∙ ap (λ gs. outs_of gs ++ postfix b.y') n;
      found =
          b.same.from [] b.y' tt (subst (λ gs. On b.j' gs b.y' [] b.y') (sym n) (end_bottom b.j' b.y' b.shows.below));
      only = λ t w. held_only fs y b.y' t
          (λ v h. bottom_end b.j' b.y' v (subst (λ gs. On b.j' gs b.y' [] v) n (b.same.to [] v tt h))) w;
    }

pub held_whole : (p q : Parser) (s : Spot) → p.place ≡ Held → Shows p s → ((j : ℕ) (fs : List Frame) (y : Tree)
    → ShowsHeld p j fs y → AppliedAll 0 j fs y q) → q.ops.items ≡ [] → SpellsOut s (map entry_item q.out.items)
held_whole p q start h s a e = absurd (let f : p.place ≡ Start = s.place in let x : ⊥ = cc in x)
held_whole p q (due fs) h s a e = absurd (let f : p.place ≡ Due = s.place in let x : ⊥ = cc in x)
held_whole p q (held fs y) h s a e = held_whole_at fs y q (a 4 fs y s) e

never_end : (j : ℕ) (gs : List Frame) (y t : Tree) (q : Parser) (front : List Op) (op : Op) → need gs ≤ 0
    → ShowsHeld q j gs y → q.ops.items ≡ front ++ op ∷ [] → ¬ On j gs y [] t
never_end j [] y t q front op n s e w = push_not_nil front op (sym e ∙ s.ops)
never_end j (open_frame ∷ gs) y t q front op n s e w = open_end j gs y t w
never_end j (not_frame ∷ gs) y t q front op n s e w = omega arith
never_end j (joint_frame i x ∷ gs) y t q front op n s e w = omega arith

held_end : (fs : List Frame) (y : Tree) (q : Parser) (front : List Op) (op : Op) → AppliedAll 0 4 fs y q
    → q.ops.items ≡ front ++ op ∷ [] → (r : Query) → ¬ SpotRest (held fs y) [] r
held_end fs y q front op a e None w = w
held_end fs y q front op a e (Some t) w =
    let b = a.applied in never_end b.j' b.fs' b.y' t q front op a.over b.shows e (b.same.to [] t tt w)

pub held_unfinished : (p q : Parser) (s : Spot) (front : List Op) (op : Op) → p.place ≡ Held → Shows p s
    → ((j : ℕ) (fs : List Frame) (y : Tree) → ShowsHeld p j fs y → AppliedAll 0 j fs y q)
    → q.ops.items ≡ front ++ op ∷ [] → NeverEnds s
held_unfinished p q start front op h s a e = absurd (let f : p.place ≡ Start = s.place in let x : ⊥ = cc in x)
held_unfinished p q (due fs) front op h s a e = absurd (let f : p.place ≡ Due = s.place in let x : ⊥ = cc in x)
held_unfinished p q (held fs y) front op h s a e = record { never = held_end fs y q front op (a 4 fs y s) e }
