-- `split_root` meets its contract: what each call asks is there, and the last leaves the model's split (`proofs/Grows`). Assumes nothing.
use Rattle.batch_root.proofs.Grows.{to_move, lower_taken, lower_at, keeps_half, to_split, to_crown, upper_taken, split_done}
use Rattle.batch_root.proofs.grow.split_root.Goals as goal

pub move_root-requires : goal.move_root-requires
move_root-requires c = to_move c.requires

pub after_taking-rest-requires : goal.after_taking-rest-requires
after_taking-rest-requires c =
    lower_taken c.requires c.move_root.ensures

pub count-n-requires : goal.count-n-requires
count-n-requires c =
    lower_at c.requires c.move_root.ensures

pub split-requires : goal.split-requires
split-requires c =
    to_split c.requires c.move_root.ensures c.after_taking-rest.ensures
    (keeps_half c.requires c.move_root.ensures c.after_taking-rest.ensures c.count-n.ensures.is c.half-keep.ensures)

pub crown-requires : goal.crown-requires
crown-requires c =
    to_crown c.requires c.move_root.ensures c.after_taking-rest.ensures
    (keeps_half c.requires c.move_root.ensures c.after_taking-rest.ensures c.count-n.ensures.is c.half-keep.ensures)
    c.split.ensures

pub after_taking-requires : goal.after_taking-requires
after_taking-requires c =
    upper_taken c.requires c.move_root.ensures c.after_taking-rest.ensures
    (keeps_half c.requires c.move_root.ensures c.after_taking-rest.ensures c.count-n.ensures.is c.half-keep.ensures)
    c.split.ensures c.crown.ensures

pub returns : goal.returns
returns c =
    record {
      becomes = split_done c.requires c.move_root.ensures c.after_taking-rest.ensures
          (keeps_half c.requires c.move_root.ensures c.after_taking-rest.ensures c.count-n.ensures.is c.half-keep.ensures)
          c.split.ensures c.crown.ensures;
      spared = c.after_taking.ensures;
    }
