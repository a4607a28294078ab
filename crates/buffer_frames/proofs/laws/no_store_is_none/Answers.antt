use Rattle.buffer_frames.proofs.Deciding.{no_store_there}
use Rattle.buffer_frames.proofs.laws.no_store_is_none.Goals as goal

pub returns : goal.returns
returns c =
    λ files bytes. (
      λ no R store. c.stores_are_known.ensures files R store no,
      λ none. no_store_there files none
          bytes,
    )
