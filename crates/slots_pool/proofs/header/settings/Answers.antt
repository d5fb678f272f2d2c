-- `settings` meets its contract: its answer is the words that it reads. Assumes nothing.
use Rattle.slots_pool.proofs.header.settings.Goals as goal

pub returns : goal.returns
returns c = λ j. record { nodes = c.get-nodes.ensures j; first = c.limits_at-first.ensures j; second = c.limits_at-second.ensures j }
