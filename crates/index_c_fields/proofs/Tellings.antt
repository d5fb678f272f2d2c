-- What the loop of `put_contents` keeps. Assumes nothing.
use mathlib.Core.List.{List}
use Prim.Native.Nat.{ℕ}
use lib.ListN.{get_or}
use Rattle.frame_text.specs.declared.Kind.{Kind}
use Rattle.frame_text.specs.declared.FrameEntry.{FrameEntry}
use Rattle.frame_text.specs.Contents.{no_entry}
use Rattle.index_c_fields.specs.Fields.{wide_of, narrow_of}
use Rattle.index_c_given.proofs.Fills.{Filling}

-- a field of the entry at place i
abbrev pub at : (FrameEntry → ℕ) → List FrameEntry → ℕ → ℕ
at g es i = g (get_or es i no_entry)

-- what is left to put, from place i on, makes each array its field of the entries
pub record Telling (k : Kind) (es : List FrameEntry) (key high low alive gone : List ℕ) (i : ℕ) : Type 0 where
  pub keys : Filling (at (λ (e : FrameEntry). e.key) es) 32 key i
  pub wide : Filling (at (wide_of k) es) 32 high i
  pub narrow : Filling (at (narrow_of k) es) 32 low i
  pub live : Filling (at (λ (e : FrameEntry). e.totals.live) es) 32 alive i
  pub dead : Filling (at (λ (e : FrameEntry). e.totals.dead) es) 32 gone i
