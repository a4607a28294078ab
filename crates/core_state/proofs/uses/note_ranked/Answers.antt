use Rattle.core_state.proofs.PageRanks.{ranks_put}
use Rattle.core_state.specs.Inner.Ranks.{AreRanks}
use Rattle.std.proofs.Common.{List, ℕ, sym, subst}
use Rattle.core_state.specs.declared.answers.PageUse.{PageUse}
use Rattle.core_state.proofs.uses.note_ranked.Goals as goal

pub note_use-requires-clause-small : goal.note_use-requires-clause-small
note_use-requires-clause-small c = c.requires.small

pub note_rank-requires : goal.note_rank-requires
note_rank-requires c = c.requires.ranks

pub returns-clause-items : goal.returns-clause-items
returns-clause-items c = c.note_use.ensures.items

pub returns-clause-ranked : goal.returns-clause-ranked
returns-clause-ranked c =
    subst (λ (us : List PageUse). AreRanks us c.note_rank.new.ranks) (sym c.note_use.ensures.items)
    (ranks_put c.args.uses.now.items c.args.ranks.now c.note_rank.new.ranks c.args.page c.args.new c.requires.ranked
    c.note_rank.ensures.here c.note_rank.ensures.others)

pub returns-clause-room : goal.returns-clause-room
returns-clause-room c = c.note_use.ensures.room

pub returns-clause-size : goal.returns-clause-size
returns-clause-size c = c.note_rank.ensures.size
