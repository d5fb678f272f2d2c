-- A frame's kind and entries by value, and the model's frame that they stand for. Assumes nothing.
use Rattle.std.specs.Prelude.{List, [], ◌∷◌, ◌++◌, map, ℕ, zero, suc, ◌-◌, length, replicate}
use Rattle.model.specs.declared.Entry.{Entry}
use Rattle.model.specs.Tree.{no_totals}
use Rattle.model.specs.Frame.{Branch, Frame, leaf, interior}
use Rattle.frame_text.specs.declared.Kind.{Kind}
use Rattle.frame_text.specs.declared.Kind.TheVariants.{Leaf, Interior}
use Rattle.frame_text.specs.declared.FrameEntry.{FrameEntry}
use Rattle.frame_text.specs.declared.Contents.{Contents}

-- ENTRIES

-- a place that holds none
abbrev pub no_entry : FrameEntry
no_entry = record { key = 0; reference = record { place = 0; size = 0 }; child = 0; totals = no_totals }

-- what a leaf's entry says, and one that says this and nothing else
abbrev pub entry_of : FrameEntry → Entry
entry_of e = record { key = e.key; place = e.reference.place; size = e.reference.size }

abbrev pub of_entry : Entry → FrameEntry
of_entry e = record { key = e.key; reference = record { place = e.place; size = e.size }; child = 0; totals = no_totals }

-- what an interior's entry says, and one that says this and nothing else
abbrev pub branch_of : FrameEntry → Branch
branch_of e = record { key = e.key; child = e.child; totals = e.totals }

abbrev pub of_branch : Branch → FrameEntry
of_branch b = record { key = b.key; reference = record { place = 0; size = 0 }; child = b.child; totals = b.totals }

-- FROM VALUES TO A FRAME

-- the first n of some places; past the last one nothing is held
abbrev pub first : ℕ → List FrameEntry → List FrameEntry
first zero es = []
first (suc n) [] = no_entry ∷ first n []
first (suc n) (e ∷ es) = e ∷ first n es

abbrev pub framed : Kind → List FrameEntry → Frame
framed Leaf es = leaf (map entry_of es)
framed Interior es = interior (map branch_of es)

abbrev pub frame_of : Contents → Frame
frame_of c = framed c.kind (first c.count c.entries)

-- FROM A FRAME TO VALUES: the places past its entries are zero, and so is what its kind of entry has not

abbrev pub padded : List FrameEntry → List FrameEntry
padded es = es ++ replicate (32 - length es) no_entry

abbrev pub held : Kind → List FrameEntry → Contents
held k es = record { kind = k; count = length es; entries = padded es }

abbrev pub contents_of : Frame → Contents
contents_of (leaf es) = held Leaf (map of_entry es)
contents_of (interior bs) = held Interior (map of_branch bs)
