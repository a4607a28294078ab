-- A query from the postfix list of a parser.
use Rattle.std.proofs.Common.{◌≡◌, ℕ, suc, ◌<◌, List, [], ◌∷◌, ◌++◌, length, take, drop, get_or, map, refl, sym, subst}
use Rattle.std.proofs.Common.{ap, ◌∙◌, All, arith}
use Rattle.std.proofs.lemmas.List.{length-append, take-append-drop}
use Rattle.std.proofs.Math.Seq.{get_or-append_seam, drop-cons}
use Rattle.ts_query.specs.Queries.{Operand, Query, operands_of, nodes_of, HasLexeme, IsSound}
use Rattle.ts_query.specs.Inner.Parsing.{word_operand, entry_item}
use Rattle.ts_query.specs.Postfix.{postfix_of}
use Rattle.ts_query.specs.Inner.Built.{operands_from, IsBuilt}
use Rattle.ts_query.specs.declared.parser.Word.{Word}
use Rattle.ts_query.specs.declared.parser.Entry.{Entry}
use Rattle.ts_query.specs.declared.parser.Entry.TheVariants as entry
use Rattle.ts_query.specs.declared.query.Builder.{Builder}
use Rattle.ts_query.proofs.Built.{operands_from-append, operands_from-postfix_of, length-postfix_of, operands_fewer}

items_append : (xs ys : List Entry) → map entry_item (xs ++ ys) ≡ map entry_item xs ++ map entry_item ys
items_append [] ys = refl
items_append (x ∷ xs) ys = ap (λ l. entry_item x ∷ l) (items_append xs ys)

items_length : (xs : List Entry) → length (map entry_item xs) ≡ length xs
items_length [] = refl
items_length (x ∷ xs) = ap suc (items_length xs)

-- the entries after an index, the one there, and the others
parted : (entries : List Entry) (i : ℕ) (d e : Entry) → i < length entries → get_or entries i d ≡ e
    → entries ≡ take i entries ++ e ∷ drop (suc i) entries
parted entries i d e h g = sym (take-append-drop i entries) ∙ ap (λ l. take i entries ++ l) (drop-cons entries i d h)
    ∙ ap (λ x. take i entries ++ x ∷ drop (suc i) entries) g

operand_there : (entries : List Entry) (i : ℕ) (d : Entry) (w : Word) (q : Query) → i < length entries
    → get_or entries i d ≡ entry.Operand w → map entry_item entries ≡ postfix_of q
    → operands_of q ≡ operands_from (map entry_item (take i entries)) ++ word_operand w
    ∷ operands_from (map entry_item (drop (suc i) entries))
operand_there entries i d w q h g e =
    sym (operands_from-postfix_of q) ∙ ap operands_from (sym e)
    ∙ ap (λ l. operands_from (map entry_item l)) (parted entries i d (entry.Operand w) h g)
    ∙ ap operands_from (items_append (take i entries) (entry.Operand w ∷ drop (suc i) entries)) ∙ operands_from-append
    (map entry_item (take i entries)) (map entry_item (entry.Operand w ∷ drop (suc i) entries))

all_at : (before behind : List Operand) (o : Operand) → All HasLexeme (before ++ o ∷ behind) → HasLexeme o
all_at before behind o a =
    let n : length before < length (before ++ o ∷ behind) = omega (arith, length-append before (o ∷ behind)) in
    subst HasLexeme (get_or-append_seam before o behind o) (a (length before) o n)

pub entry_length : (entries : List Entry) (i : ℕ) (d : Entry) (w : Word) (q : Query) → i < length entries
    → get_or entries i d ≡ entry.Operand w → map entry_item entries ≡ postfix_of q → IsSound q
    → HasLexeme (word_operand w)
entry_length entries i d w q h g e s =
    all_at (operands_from (map entry_item (take i entries))) (operands_from (map entry_item (drop (suc i) entries)))
    (word_operand w) (subst (λ l. All HasLexeme l) (operand_there entries i d w q h g e) s.lexemes)

pub entry_few : (entries : List Entry) (i : ℕ) (q : Query) (b : Builder) → map entry_item entries ≡ postfix_of q
    → IsSound q → IsBuilt b (map entry_item (take i entries)) → length b.operands.items < 65536
entry_few entries i q b e s h =
    let f = ap length h.has_operands in
    let g = operands_fewer (map entry_item (take i entries)) in
    let m = items_length (take i entries) in
    let n = items_length entries in
    let z = ap length (sym (take-append-drop i entries)) in
    let y = length-append (take i entries) (drop i entries) in
    let p = ap length e in
    let r = length-postfix_of q in
    let few = s.nodes in
    omega arith

pub entries_nodes : (entries : List Entry) (q : Query) → map entry_item entries ≡ postfix_of q
    → length entries ≡ nodes_of q
entries_nodes entries q e = sym (items_length entries) ∙ ap length e ∙ length-postfix_of q
