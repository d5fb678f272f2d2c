-- `is_new` meets its contract: each tree is one of the pool, and each test is of one of them. Assumes nothing.
use Rattle.survey.proofs.Founds.{limits}
use Rattle.index_pack.proofs.Finds.{found_tree}
use Rattle.index_pack.proofs.is_new.Goals as goal

pub handed-first-requires : goal.handed-first-requires
handed-first-requires c = limits c.requires

pub handed-second-requires : goal.handed-second-requires
handed-second-requires c = limits c.requires

pub is_bare-requires-then-is_bare : goal.is_bare-requires-then-is_bare
is_bare-requires-then-is_bare c = found_tree c.requires 1 c.handed-second.result c.handed-second.ensures
