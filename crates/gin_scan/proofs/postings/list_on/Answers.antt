use Rattle.gin_scan.proofs.PostingNoted.{no_list}
use Rattle.gin_scan.proofs.postings.list_on.Goals as goal

pub returns-in-PostInner-clause-list : goal.returns-in-PostInner-clause-list
returns-in-PostInner-clause-list c = no_list

pub returns-in-Deleted-PostLeaf-clause-list : goal.returns-in-Deleted-PostLeaf-clause-list
returns-in-Deleted-PostLeaf-clause-list c = no_list
