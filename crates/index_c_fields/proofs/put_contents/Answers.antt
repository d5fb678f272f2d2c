-- `put_contents` meets its contract. The loop's invariant: what is left to put makes each array its field of the 32 places. Assumes nothing.
use mathlib.Core.Path.{◌≡◌, refl}
use mathlib.Core.List.{List, [], ◌∷◌}
use Prim.Native.Nat.{ℕ}
use lib.ListN.{length, replicate, length-replicate}
use Rattle.frame_text.specs.declared.FrameEntry.{FrameEntry}
use Rattle.index_c_fields.specs.Fields.{wide_of, narrow_of}
use Rattle.index_c_given.proofs.Fills.{fill_start, fill_turn, fill_end}
use Rattle.index_c_fields.proofs.Tellings.{at}
use Rattle.index_c_fields.proofs.put_contents.Goals as goal

pub loop-i-init : goal.loop-i-init
loop-i-init c =
    let x = c.args.contents in
    let none : List ℕ = replicate 32 0 in
    let n : length none ≡ 32 = length-replicate {A = ℕ} 32 0 in
    record {
      keys = fill_start (at (λ (e : FrameEntry). e.key) x.entries) 32 none n;
      wide = fill_start (at (wide_of x.kind) x.entries) 32 none n;
      narrow = fill_start (at (narrow_of x.kind) x.entries) 32 none n;
      live = fill_start (at (λ (e : FrameEntry). e.totals.live) x.entries) 32 none n;
      dead = fill_start (at (λ (e : FrameEntry). e.totals.dead) x.entries) 32 none n;
    }

pub loop-i-preserved : goal.loop-i-preserved
loop-i-preserved c =
    let x = c.args.contents in
    let h = c.loop-i in
    let n = c.loop-i-test.true in
    record {
      keys = fill_turn (at (λ (e : FrameEntry). e.key) x.entries) 32 h.key h.i _ n refl h.invariant.keys;
      wide = fill_turn (at (wide_of x.kind) x.entries) 32 h.high h.i _ n c.wide_of.ensures h.invariant.wide;
      narrow = fill_turn (at (narrow_of x.kind) x.entries) 32 h.low h.i _ n c.narrow_of.ensures h.invariant.narrow;
      live = fill_turn (at (λ (e : FrameEntry). e.totals.live) x.entries) 32 h.alive h.i _ n c.live_of.ensures h.invariant.live;
      dead = fill_turn (at (λ (e : FrameEntry). e.totals.dead) x.entries) 32 h.gone h.i _ n c.dead_of.ensures h.invariant.dead;
    }

pub returns : goal.returns
returns c =
    let x = c.args.contents in
    let h = c.loop-i in
    let n = c.loop-i-test.false in
    let key = fill_end (at (λ (e : FrameEntry). e.key) x.entries) 32 h.key h.i n h.invariant.keys in
    let high = fill_end (at (wide_of x.kind) x.entries) 32 h.high h.i n h.invariant.wide in
    let low = fill_end (at (narrow_of x.kind) x.entries) 32 h.low h.i n h.invariant.narrow in
    let alive = fill_end (at (λ (e : FrameEntry). e.totals.live) x.entries) 32 h.alive h.i n h.invariant.live in
    let gone = fill_end (at (λ (e : FrameEntry). e.totals.dead) x.entries) 32 h.gone h.i n h.invariant.dead in
    λ j. record {
      head = c.into.ensures j ∷ x.count ∷ [];
      keys = key j;
      wide = high j;
      narrow = low j;
      live = alive j;
      dead = gone j;
    }
