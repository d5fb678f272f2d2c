-- `list_row` meets its contract: there is room, or the output is full. Assumes nothing.
use mathlib.Core.Path.{ap, ◌∙◌}
use Prim.Native.Nat.{ℕ, ◌+◌}
use mathlib.Core.Bool.{false}
use mathlib.Core.List.{List}
use Rattle.tree.specs.Bridge.{entry_of}
use Rattle.look_output.specs.Output.{page}
use Rattle.look_output.proofs.Outputs.{enlist_put, enlist_full}
use Rattle.look_output.proofs.list_row.Goals as goal

pub returns-then-written-room : goal.returns-then-written-room
returns-then-written-room c =
    let a = c.args in
    ap (λ (o : List ℕ). page o (record { written = a.l.written + 1; more = false })) c.put_row.ensures
    ∙ enlist_put a.room (entry_of a.row) a.out.now a.l c.requires.unfilled c.if-written-room.true

pub returns : goal.returns
returns c =
    let a = c.args in
    enlist_full a.room (entry_of a.row) a.out.now a.l c.requires.unfilled c.if-written-room.false
