-- The bytes of a printed query.
use Rattle.std.proofs.Common.{◌≡◌, ℕ, suc, List, [], ◌∷◌, ◌++◌, refl, sym, ap, ◌∙◌, append_assoc, Bool, true, false}
use Rattle.std.proofs.Common.{nat_lt, codes}
use Rattle.std.proofs.lemmas.List.{append-nil}
use Rattle.ts_query.specs.Queries.{Operand, Tree, leaf, negated, joined, operands_in}
use Rattle.ts_query.specs.Grammar.{level}
use Rattle.ts_query.specs.Printing.{joint_text, bracketed, printed_at}
use Rattle.ts_query.specs.Inner.Parsing.{joint_link}
use Rattle.ts_query.specs.Inner.Pieces.{in_brackets, pieces_at, text_of}
use Rattle.ts_query.specs.declared.print.Piece.{Piece}
use Rattle.ts_query.specs.declared.print.Piece.TheVariants.{Bang, Joint as joint_piece, Close}
use Rattle.ts_query.proofs.Stacks.{joint_back}

-- ── parts ──
wrapped_text : (ps qs : List Piece) (os : List Operand)
    → text_of ((ps ++ Close ∷ []) ++ qs) os ≡ text_of (ps ++ (Close ∷ qs)) os
wrapped_text ps qs os = ap (λ l. text_of l os) (append_assoc ps (Close ∷ []) qs)

-- the parts of a tree, and others after them
abbrev Writes : List Piece → List Operand → List ℕ → Type 0
Writes ps os text = (qs : List Piece) (more : List Operand) → text_of (ps ++ qs) (os ++ more) ≡ text ++ text_of qs more

brackets_write : (b : Bool) (ps : List Piece) (os : List Operand) (text : List ℕ) → Writes ps os text
    → Writes (in_brackets b ps) os (bracketed b text)
brackets_write true ps os text h qs more =
    ap (λ l. 40 ∷ 32 ∷ l)
    (wrapped_text ps qs (os ++ more) ∙ h (Close ∷ qs) more ∙ sym (append_assoc text (codes " )") (text_of qs more)))
brackets_write false ps os text h qs more = h qs more

joined_assoc : (a b c d : List ℕ) → a ++ (b ++ (c ++ d)) ≡ (a ++ (b ++ c)) ++ d
joined_assoc a b c d = simp append_assoc

pub writes : (t : Tree) (l : ℕ) → Writes (pieces_at t l) (operands_in t) (printed_at t l)
writes (leaf o) l = λ qs more. refl
writes (negated x) l = brackets_write (nat_lt 3 l) (Bang ∷ pieces_at x 3) (operands_in x) (33 ∷ printed_at x 3)
    (λ qs more. ap (λ v. 33 ∷ v) (writes x 3 qs more))
writes (joined j x y) l =
    brackets_write (nat_lt (level j) l)
    (pieces_at x (level j) ++ joint_piece (joint_link j) ∷ pieces_at y (suc (level j)))
    (operands_in x ++ operands_in y) (printed_at x (level j) ++ (joint_text j ++ printed_at y (suc (level j))))
    (λ qs more.
    ap (λ v. text_of v ((operands_in x ++ operands_in y) ++ more))
    (append_assoc (pieces_at x (level j)) (joint_piece (joint_link j) ∷ pieces_at y (suc (level j))) qs)
    ∙ ap (λ v. text_of (pieces_at x (level j) ++ (joint_piece (joint_link j) ∷ (pieces_at y (suc (level j)) ++ qs))) v)
    (append_assoc (operands_in x) (operands_in y) more)
    ∙ writes x (level j) (joint_piece (joint_link j) ∷ (pieces_at y (suc (level j)) ++ qs)) (operands_in y ++ more)
    ∙ ap (λ v. printed_at x (level j)
    ++ (joint_text v ++ text_of (pieces_at y (suc (level j)) ++ qs) (operands_in y ++ more))) (joint_back j)
    ∙ ap (λ v. printed_at x (level j) ++ (joint_text j ++ v)) (writes y (suc (level j)) qs more)
    ∙ joined_assoc (printed_at x (level j)) (joint_text j) (printed_at y (suc (level j))) (text_of qs more))

pub writes_all : (t : Tree) → text_of (pieces_at t 0) (operands_in t) ≡ printed_at t 0
writes_all t =
    ap (λ v. text_of v (operands_in t)) (sym (append-nil (pieces_at t 0))) ∙ ap (λ v. text_of (pieces_at t 0 ++ []) v)
    (sym (append-nil (operands_in t))) ∙ writes t 0 [] [] ∙ append-nil (printed_at t 0)
