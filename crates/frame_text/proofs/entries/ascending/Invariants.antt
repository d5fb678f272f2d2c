-- `ascending` meets its contract. The loop's invariant: the keys rise exactly if they rise from place i - 1 on. Assumes nothing.
use mathlib.Core.List.{map}
use mathlib.Core.Path.{◌≡◌}
use Prim.Native.Nat.{◌-◌, ◌≤◌}
use lib.ListN.{drop}
use Rattle.model.specs.Frame.{rising}
use Rattle.frame_text.specs.Contents.{first}
use Rattle.frame_text.proofs.entries.ascending.Given as goal

abbrev pub invariant-loop-i : goal.invariant-loop-i
invariant-loop-i l = (1 ≤ l.i) × (rising (drop (l.i - 1) (map (λ e. e.key) (first l.n l.entries))) ≡ rising (map (λ e. e.key) (first l.n l.entries)))
