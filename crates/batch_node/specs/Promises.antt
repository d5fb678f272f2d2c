-- What a node of any height, changed by some keys of a batch, asks and answers: the model's `change`. Assumes nothing.
use Rattle.std.specs.Prelude.{ℕ, suc, ◌+◌, ◌<◌, ◌≡◌, List, length, drop}
use Rattle.slots_raw.specs.Slots.{head_in}
use Rattle.slots.specs.Nodes.{Held, nodes}
use Rattle.slots.specs.Nodes as S
use Rattle.model.specs.declared.Settings.{Settings}
use Rattle.model.specs.declared.Counts.{Counts}
use Rattle.model.specs.Lists.{All}
use Rattle.model.specs.Tree.{Tree, slots}
use Rattle.model.specs.Plain.{Task}
use Rattle.model.specs.Refuse.{Call, tasks_of}
use Rattle.model.specs.declared.ChangeResult.{ChangeResult}
use Rattle.model.specs.Change.{Outcome, change}
use Rattle.model.specs.Change as M
use Rattle.model.specs.Sound.{Fits}
use Rattle.model.specs.Promises.{flat, Due, Grants, Given, Ready, Enough}
use Rattle.tree_spare.specs.declared.Spare.{Spare}
use Rattle.tree_spare.specs.Spared.{Spared}
use Rattle.batch_leaf.specs.declared.Run.{Run}
use Rattle.batch_leaf.specs.declared.Subtree.{Subtree}
use Rattle.batch_leaf.specs.Promises.{Underway}
use Rattle.tree.specs.Bridge.{tree_at, unused_of, Holds, Blank, Apart, Frame}
use Rattle.batch_node.specs.declared.Reply.{Reply}

-- what a batch carries beside its tasks
abbrev pub run_of : List S.Node → Counts → M.Run
run_of ns c = record { unused = unused_of ns; counts = c }

-- WHAT IS ASKED of the nodes ns that hold the tree t, and of the tasks
pub record Asked (st : Settings) (h ceiling : ℕ) (ns : List S.Node) (t : Tree h) (ts : List Task) (spare : Spare) : Type 0 where
  pub holds : Holds ns h t
  pub apart : Apart h t
  pub given : Given st h t ts
  pub enough : Enough h ts (unused_of ns)
  pub ready : Ready st h t
  pub due : Due ceiling ts
  -- totals fit their places in a row
  pub small : length (flat h t.items) + length ts < 1048576
  pub fit : All Fits (flat h t.items)
  -- what the tasks set fits its places too
  pub sets : All (Grants Fits) ts
  pub empty : Blank ns
  pub spared : Spared ns spare

pub record ToChange (st : Settings) (W : List ℕ) (h : ℕ) (node : Subtree) (b : Call) (run : Run) : Type 0 where
  pub held : Held st W
  pub asked : Asked st h node.ceiling (nodes st W) (tree_at (nodes st W) h node.slot) (drop run.next (tasks_of b)) run.spare
  pub batch : Underway b run

-- WHAT IS ANSWERED: the model's outcome o, and every slot in use outside the tree as it was
pub record Answers (h : ℕ) (ns ms : List S.Node) (t : Tree h) (o : Outcome (Tree h)) (ts : List Task) (r : ChangeResult)
    (c : Counts) : Type 0 where
  pub holds : Holds ms h o.node
  pub unused : unused_of ms ≡ o.run.unused
  pub frame : Frame ns ms (slots (suc h) t)
  pub empty : Blank ms
  pub left : ts ≡ o.tasks
  pub result : r ≡ o.result
  pub counts : c ≡ o.run.counts

pub record NodeChanged (st : Settings) (W W' : List ℕ) (h : ℕ) (node : Subtree) (b : Call) (run : Run) (r : Reply) : Type 0 where
  pub held : Held st W'
  pub header : head_in W' ≡ head_in W
  pub answers :
      let t = tree_at (nodes st W) h node.slot in
      let o = change st h node.ceiling t (drop run.next (tasks_of b)) (run_of (nodes st W) run.counts) in
      Answers h (nodes st W) (nodes st W') t o (drop r.run.next (tasks_of b)) r.result r.run.counts
  pub batch : Underway b r.run
  pub spared : Spared (nodes st W') r.run.spare
