-- Each stage has its part.
use Rattle.gin_scan.proofs.scan_core.ScanCore.go_on.Goals as goal

pub returns-in-Meta : goal.returns-in-Meta
returns-in-Meta g c = record { serves = c.requires.serves; is_step = c.read_meta.ensures.is_step }

pub returns-in-Pending : goal.returns-in-Pending
returns-in-Pending g c = record { serves = c.go_on_list.ensures.serves; is_step = c.go_on_list.ensures.is_step }

pub returns-in-Down : goal.returns-in-Down
returns-in-Down g c = record { serves = c.go_on_way.ensures.serves; is_step = c.go_on_way.ensures.is_step }

pub returns-in-Leaf : goal.returns-in-Leaf
returns-in-Leaf g c = record { serves = c.requires.serves; is_step = c.go_on_leaves.ensures.is_step }

pub returns-in-Posting : goal.returns-in-Posting
returns-in-Posting g c = record { serves = c.requires.serves; is_step = c.go_on_trees.ensures.is_step }

pub returns-in-Heads : goal.returns-in-Heads
returns-in-Heads g c = record { serves = c.go_on_heads.ensures.serves; is_step = c.go_on_heads.ensures.is_step }

pub returns-in-Parts : goal.returns-in-Parts
returns-in-Parts g c = record { serves = c.go_on_long.ensures.serves; is_step = c.go_on_long.ensures.is_step }

pub returns-in-Done : goal.returns-in-Done
returns-in-Done g c = record { serves = c.requires.serves; is_step = absurd (c.requires.more c.in-Done.is) }

pub go_on_trees-requires : goal.go_on_trees-requires
go_on_trees-requires g c = record { may = c.requires.may; stage = c.in-Posting.is }

pub go_on_list-requires : goal.go_on_list-requires
go_on_list-requires g c = record { may = c.requires.may; stage = c.in-Pending.is; serves = c.requires.serves }

pub go_on_way-requires : goal.go_on_way-requires
go_on_way-requires g c = record { may = c.requires.may; stage = c.in-Down.is; serves = c.requires.serves }

pub go_on_leaves-requires : goal.go_on_leaves-requires
go_on_leaves-requires g c = record { may = c.requires.may; stage = c.in-Leaf.is }

pub go_on_heads-requires : goal.go_on_heads-requires
go_on_heads-requires g c = record { may = c.requires.may; stage = c.in-Heads.is; serves = c.requires.serves }

pub go_on_long-requires : goal.go_on_long-requires
go_on_long-requires g c = record { may = c.requires.may; stage = c.in-Parts.is; serves = c.requires.serves }

pub read_meta-requires : goal.read_meta-requires
read_meta-requires g c = record { may = c.requires.may; stage = c.in-Meta.is }
