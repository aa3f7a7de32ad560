-- `first_deep` meets its contract: the rows that are not too deep lose their links.
use Rattle.trees.specs.Pool.{fault}
use Rattle.trees.proofs.Sound.{holds_if}
use Rattle.json_writer.proofs.DeepFirst.{first_kept}
use Rattle.json_writer.proofs.deep.first_deep.Goals as goal

pub clear_list-requires-clause-begins : goal.clear_list-requires-clause-begins
clear_list-requires-clause-begins c n = (c.requires.fact, λ q h. holds_if _ (λ f. c.requires.none_bad q h (fault f)))

pub returns : goal.returns
returns c = first_kept _ _ c.requires.fact c.requires.none_bad c.requires.tied c.clear_list.ensures c.first_linked.ensures
