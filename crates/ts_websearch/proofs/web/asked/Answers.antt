use Rattle.std.proofs.Common.{ap}
use Rattle.ts_websearch.specs.Made.{item_tree}
use Rattle.ts_websearch.specs.Inner.Pieces.{piece_item}
use Rattle.ts_websearch.proofs.web.asked.Goals as goal

pub returns-in-Quoted : goal.returns-in-Quoted
returns-in-Quoted c = ap (λ p. item_tree (piece_item p)) c.in-Quoted.is

pub returns-in-Row : goal.returns-in-Row
returns-in-Row c = ap (λ p. item_tree (piece_item p)) c.in-Row.is

pub returns-in-Hyphen : goal.returns-in-Hyphen
returns-in-Hyphen c = ap (λ p. item_tree (piece_item p)) c.in-Hyphen.is
