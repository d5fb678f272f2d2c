-- `contents_at` meets its contract. The loop's invariant: the first j rows are entered, and `child` counts the nodes before the next child. Assumes nothing.
use mathlib.Core.List.{List, [], ◌∷◌, ◌++◌}
use mathlib.Core.Path.{◌≡◌, sym, ap, subst, ◌∙◌}
use Prim.Native.Nat.{◌+◌, ◌<◌}
use native.Mathlib.Omega.{arith}
use lib.Seq.{take_all, length-take-le}
use lib.ListN.{length, take, get_or, set, replicate}
use Rattle.words.specs.Words.{words}
use Rattle.slots.specs.Nodes.{nodes, nth}
use Rattle.slots_raw.specs.Slots.{blank}
use Rattle.slots_raw.specs.declared.Row.{Row}
use Rattle.frame.specs.Frames.{entry_for}
use Rattle.frame_text.specs.Contents.{padded}
use Rattle.frame_text.specs.declared.FrameEntry.{FrameEntry}
use Rattle.frame.proofs.Noded.{numbered, numbered_long, numbered_more, contents_numbered, size_fits}
use Rattle.frame.proofs.Walks.{passed, passed_more, passed_few, nodes_tree, standing_at}
use Rattle.frame_text.proofs.Coded.{padded_more}
use Rattle.frame.proofs.node.contents_at.Goals as goal

pub count-n-requires : goal.count-n-requires
count-n-requires c = let a = c.args in standing_at a.st (words a.pool.now) a.height a.s c.requires.stands

pub loop-j-init : goal.loop-j-init
loop-j-init c =
    let z : c.args.i + 1 + 0 ≡ c.args.i + 1 = omega arith in
    (omega arith, (sym z, ap (λ (e : FrameEntry). replicate 32 e) c.no_entry-entries.ensures))

pub row_at-row-requires : goal.row_at-row-requires
row_at-row-requires c =
    record {
      held = c.requires.stands.held;
      slot = (standing_at c.args.st (words c.args.pool.now) c.args.height c.args.s c.requires.stands).slot;
      within = omega arith;
    }

pub entry_for-requires : goal.entry_for-requires
entry_for-requires c =
    let a = c.args in
    let W = words a.pool.now in
    let ns = nodes a.st W in
    let rs = (nth ns a.s).rows in
    let h = c.loop-j in
    let few = passed_few ns a.height rs h.j in record {
      numbered = omega (arith, h.invariant.1.0, c.requires.stands.few, few, nodes_tree ns a.height a.s);
      sized = λ e. subst (λ (r : Row). r.size < 4294967296) (sym c.row_at-row.ensures)
          (size_fits a.st W a.height a.s h.j c.requires.stands (omega arith) e);
    }

pub offset_bounds-entries-j : goal.offset_bounds-entries-j
offset_bounds-entries-j c = omega (arith, (let it : c.loop-j.j < 32 = omega (arith, c.loop-j-test.true, c.requires.stands.narrow c.args.s) in it))

pub bounds-entries-j : goal.bounds-entries-j
bounds-entries-j c = (let it : c.loop-j.j < 32 = omega (arith, c.loop-j-test.true, c.requires.stands.narrow c.args.s) in it)

pub nodes_under-child-requires : goal.nodes_under-child-requires
nodes_under-child-requires c = record { stands = c.requires.stands; within = omega arith }

pub overflow_add-child-in-loop-j : goal.overflow_add-child-in-loop-j
overflow_add-child-in-loop-j c =
    let a = c.args in
    let ns = nodes a.st (words a.pool.now) in
    let all = passed_few ns a.height (nth ns a.s).rows (c.loop-j.j + 1) in
    omega (
      arith,
      c.loop-j.invariant.1.0,
      (let it : let a = c.args in
          let ns = nodes a.st (words a.pool.now) in
          let rs = (nth ns a.s).rows in
          passed ns a.height (take (c.loop-j.j + 1) rs) ≡ passed ns a.height (take c.loop-j.j rs) + c.nodes_under-child.result = let a = c.args in
          let ns = nodes a.st (words a.pool.now) in
          omega (arith, c.nodes_under-child.ensures, passed_more ns a.height (nth ns a.s).rows c.loop-j.j (omega arith)) in it),
      c.requires.stands.few,
      all,
      nodes_tree ns a.height a.s,
    )

pub loop-j-preserved : goal.loop-j-preserved
loop-j-preserved c =
    let a = c.args in
    let W = words a.pool.now in
    let ns = nodes a.st W in
    let rs = (nth ns a.s).rows in
    let h = c.loop-j in
    let r = get_or rs h.j blank in
    let made = numbered ns a.height (a.i + 1) (take h.j rs) in
    let long : length made ≡ h.j =
    numbered_long ns a.height (a.i + 1) (take h.j rs) ∙ length-take-le h.j rs (omega arith) in
    let new : c.entry_for.result ≡ entry_for a.height r (a.i + 1 + passed ns a.height (take h.j rs)) =
    c.entry_for.ensures ∙ ap (λ (x : Row). entry_for a.height x h.child) c.row_at-row.ensures
    ∙ ap (entry_for a.height r) h.invariant.1.0 in (
      omega arith,
      (
        omega (
          arith,
          h.invariant.1.0,
          (let it : let a = c.args in
              let ns = nodes a.st (words a.pool.now) in
              let rs = (nth ns a.s).rows in
              passed ns a.height (take (c.loop-j.j + 1) rs) ≡ passed ns a.height (take c.loop-j.j rs) + c.nodes_under-child.result = let a = c.args in
              let ns = nodes a.st (words a.pool.now) in
              omega (arith, c.nodes_under-child.ensures, passed_more ns a.height (nth ns a.s).rows c.loop-j.j (omega arith)) in it),
        ),
        ap (λ (l : List FrameEntry). set l h.j c.entry_for.result) h.invariant.1.1
            ∙ padded_more made h.j c.entry_for.result long (let it : c.loop-j.j < 32 = omega (arith, c.loop-j-test.true, c.requires.stands.narrow c.args.s) in it)
            ∙ ap (λ (e : FrameEntry). padded (made ++ (e ∷ []))) new
            ∙ ap padded (sym (numbered_more ns a.height (a.i + 1) rs h.j (omega arith))),
      ),
    )

pub returns : goal.returns
returns c =
    let a = c.args in
    let W = words a.pool.now in
    let ns = nodes a.st W in
    let rs = (nth ns a.s).rows in
    let h = c.loop-j in
    let all : take h.j rs ≡ rs = take_all h.j rs (omega arith) in
    let made : h.entries ≡ padded (numbered ns a.height (a.i + 1) rs) =
    h.invariant.1.1 ∙ ap (λ (l : List Row). padded (numbered ns a.height (a.i + 1) l)) all in
    let number : c.count-n.result ≡ length (numbered ns a.height (a.i + 1) rs) =
    c.count-n.ensures.is ∙ sym (numbered_long ns a.height (a.i + 1) rs) in
    let kind = c.kind_at.ensures in
    (λ j. record { kind = kind j; count = number j; entries = made j })
    ∙ sym (contents_numbered a.st W a.height a.s a.i c.requires.stands)
