-- The buffers of a frame: kind and count, then a list for each field of its places. Assumes nothing.
use Rattle.std.specs.Prelude.{ℕ, List, [], ◌∷◌, get_or}
use Rattle.model.specs.Frame.{Frame}
use Rattle.frame_text.specs.declared.Kind.{Kind}
use Rattle.frame_text.specs.declared.Kind.TheVariants.{Leaf, Interior}
use Rattle.frame_text.specs.declared.FrameEntry.{FrameEntry}
use Rattle.frame_text.specs.declared.Contents.{Contents}
use Rattle.frame_text.specs.Contents.{no_entry, contents_of}
use Rattle.frame_text.specs.Entries.{header_of}
use Rattle.index_c_given.specs.Places.{places}

pub record Fields : Type 0 where
  pub head : List ℕ
  pub keys : List ℕ
  pub wide : List ℕ
  pub narrow : List ℕ
  pub live : List ℕ
  pub dead : List ℕ

-- the place of a leaf's entry, the size sum of an interior's
abbrev pub wide_of : Kind → FrameEntry → ℕ
wide_of Leaf e = e.reference.place
wide_of Interior e = e.totals.size

-- the size of a leaf's entry, the child number of an interior's
abbrev pub narrow_of : Kind → FrameEntry → ℕ
narrow_of Leaf e = e.reference.size
narrow_of Interior e = e.child

-- a field of each place
abbrev pub field : (FrameEntry → ℕ) → Contents → List ℕ
field g c = places (λ i. g (get_or c.entries i no_entry))

abbrev pub fields_of : Contents → Fields
fields_of c =
    record {
      head = header_of c.kind ∷ c.count ∷ [];
      keys = field (λ e. e.key) c;
      wide = field (wide_of c.kind) c;
      narrow = field (narrow_of c.kind) c;
      live = field (λ e. e.totals.live) c;
      dead = field (λ e. e.totals.dead) c;
    }

abbrev pub frame_fields : Frame → Fields
frame_fields f = fields_of (contents_of f)
