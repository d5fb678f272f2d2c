-- THE LOOP OF A BATCH: the model's calls of the root from here are its calls from the start, and the pool holds the index so far. Assumes nothing.
use mathlib.Core.Path.{◌≡◌, refl, sym, ap, ◌∙◌, subst}
use mathlib.Core.Bool.{true, false, not, ◌&&◌}
use mathlib.Core.List.{List, [], ◌∷◌}
use Prim.Native.Nat.{ℕ, ◌+◌, ◌≤◌, ◌<◌}
use native.Mathlib.Omega.{arith}
use lib.Dec.{eqb}
use lib.ListN.{length, drop, length-map, length-drop}
use borrow.Author.Tests.{eqb-true, not-false}
use Rattle.slots_raw.specs.Slots.{head_in}
use Rattle.slots.specs.Nodes.{Held, nodes}
use Rattle.slots.specs.Nodes as S
use Rattle.model.specs.declared.Counts.{Counts}
use Rattle.model.specs.declared.Operation.{Operation}
use Rattle.model.specs.declared.Operation.TheVariants as Op
use Rattle.model.specs.declared.Settings.{Settings}
use Rattle.model.specs.Lists.{times}
use Rattle.model.specs.Tree.{Tree, Index, slots_of, entries_of}
use Rattle.model.specs.Plain.{Task, no_counts}
use Rattle.model.specs.declared.ChangeResult.{ChangeResult}
use Rattle.model.specs.Change.{Outcome, Batched, change, no_ceiling, settle_root, change_root}
use Rattle.model.specs.Refuse.{is_each}
use Rattle.model.specs.Refuse as M
use Rattle.model.specs.Sound.{InLimits}
use Rattle.model.proofs.Lists.{all_head, both_left, both_right}
use Rattle.model.proofs.Calls.{Admitted, admitted, Passes, passes}
use Rattle.model.proofs.Demands.{sound_fine}
use Rattle.batch_leaf.specs.declared.Run.{Run}
use Rattle.batch_leaf.specs.declared.Subtree.{Subtree}
use Rattle.batch_leaf.specs.Promises.{Underway, ToWish}
use Rattle.tree.specs.Bridge.{tree_at, unused_of, HoldsIndex, Frame}
use Rattle.tree.proofs.Few.{entries_most, slot_once}
use Rattle.tree_spare.specs.Spared.{Spared}
use Rattle.batch_node.specs.declared.Reply.{Reply}
use Rattle.batch_node.specs.Promises.{run_of, Asked, ToChange, Answers, NodeChanged}
use Rattle.batch_root.specs.declared.Root.{Root}
use Rattle.batch_root.specs.Roots.{index_at, collapsed}
use Rattle.batch_root.specs.Promises.{Holding, ToSettleRoot, RootLeft, RootSettled}
use Rattle.batch_root.proofs.Indexes.{root_read, index_read}
use Rattle.batch_root.proofs.Outside.{Outside, outside_start, frame_then, outside_then}
use Rattle.batch.specs.Promises.{ToBatch, Changed}
use Rattle.batch.proofs.Rooms.{Going}
use Rattle.batch.proofs.Rooms as R

-- the model's calls of the root, on the index that the pool held at first
abbrev whole : Settings → List ℕ → ℕ → List Task → Batched
whole st W₀ h₀ ts = change_root st (length ts) (index_at st.root (nodes st W₀) h₀) ts no_counts

pub record Running (st : Settings) (W₀ : List ℕ) (h₀ : ℕ) (b : M.Call) (W : List ℕ) (h : ℕ) (run : Run) : Type 0 where
  pub held : Held st W
  pub header : head_in W ≡ head_in W₀
  pub holds : HoldsIndex (nodes st W) (index_at st.root (nodes st W) h)
  pub spared : Spared (nodes st W) run.spare
  pub outside : Outside (nodes st W₀) (nodes st W) (index_at st.root (nodes st W₀) h₀) (index_at st.root (nodes st W) h)
  pub long : length (M.tasks_of b) ≡ length b.keys
  pub batch : Underway b run
  pub going : Going st (index_at st.root (nodes st W) h) (drop run.next (M.tasks_of b))
  pub calls : ℕ
  pub enough : length (drop run.next (M.tasks_of b)) ≤ calls
  pub same : change_root st calls (index_at st.root (nodes st W) h) (drop run.next (M.tasks_of b)) run.counts ≡ whole st W₀ h₀ (M.tasks_of b)

-- THE START

lent_each : (o : Operation) (ps zs ks : List ℕ) → (is_each o && not (eqb (length ps) (length ks) && eqb (length zs) (length ks))) ≡ false
    → ToWish o ps zs (length ks)
lent_each (Op.Set r) ps zs ks e = tt
lent_each Op.SetEach ps zs ks e =
    let both : (eqb (length ps) (length ks) && eqb (length zs) (length ks)) ≡ true = not-false _ e in
    let p : length ps ≡ length ks = eqb-true _ _ (both_left (eqb (length ps) (length ks)) (eqb (length zs) (length ks)) both) in
    let z : length zs ≡ length ks = eqb-true _ _ (both_right (eqb (length ps) (length ks)) (eqb (length zs) (length ks)) both) in
    (omega arith, omega arith)
lent_each Op.Remove ps zs ks e = tt
lent_each (Op.Compare x a) ps zs ks e = tt

module _ {st : Settings} {W₀ : List ℕ} {root : Root} {b : M.Call} where
  pub start : {c : Counts} → c ≡ no_counts → ToBatch st W₀ root b
      → Running st W₀ root.height b W₀ root.height (record { next = 0; counts = c; spare = root.spare })
  start ec a =
      let x : Index = index_at st.root (nodes st W₀) root.height in
      let adm : Admitted st b x = admitted st b x a.accepted in
      let p : Passes st b x = passes st b x a.sound a.lent a.accepted in
      record {
        held = a.held;
        header = refl;
        holds = a.holds;
        spared = a.spared;
        outside = outside_start _ _;
        long = sym (length-map (M.tasks_of b) (λ t. t.key)) ∙ ap length p.keys;
        batch = record {
          lent = lent_each b.operation b.places b.sizes b.keys adm.matched;
          short = omega (arith, adm.few, a.sound.settings.narrow);
          within = omega arith;
          few = record { few = omega (arith, ap (λ (d : Counts). d.added + d.replaced + d.removed + d.nothing) ec) };
        };
        going = record {
          fine = sound_fine st x a.sound;
          root = a.sound.root_slot;
          once = slot_once st x a.sound;
          rising = p.rising;
          short = p.short;
          low = p.low;
          room = p.room;
          sets = p.grants;
          fit = a.sound.fit;
          small = omega (arith, entries_most st x a.sound, p.short, a.sound.settings.narrow);
          shallow = omega (arith, a.sound.shallow, p.short, a.sound.settings.narrow);
        };
        calls = length (M.tasks_of b);
        enough = omega arith;
        same = ap (change_root st (length (M.tasks_of b)) x (M.tasks_of b)) ec;
      }

-- A TURN

pub record Next (ts : List Task) : Type 0 where
  pub task : Task
  pub tasks : List Task
  pub left : ts ≡ task ∷ tasks

module _ {st : Settings} {W₀ : List ℕ} {h₀ : ℕ} {b : M.Call} {W : List ℕ} {h : ℕ} {run : Run}
    (m : Running st W₀ h₀ b W h run) where
  abbrev T : List Task
  T = M.tasks_of b

  abbrev c : Counts
  c = run.counts

  abbrev ns : List S.Node
  ns = nodes st W

  abbrev x₀ : Index
  x₀ = index_at st.root (nodes st W₀) h₀

  abbrev x : Index
  x = index_at st.root (nodes st W) h

  lim : InLimits st
  lim = m.held.shape.limits

  pub keeps : Holding st W x
  keeps =
      record {
        held = m.held;
        holds = m.holds;
        apart = λ s. omega (arith, m.going.once s);
        small = omega (arith, m.going.small);
        fit = m.going.fit;
      }

  pub next : run.next < length b.keys → Next (drop run.next T)
  next lt = by (drop run.next T) refl
    where
      by : (us : List Task) → drop run.next T ≡ us → Next (drop run.next T)
      by [] e = absurd (omega (arith, ap length e, length-drop run.next T, m.long))
      by (u ∷ us) e = record { task = u; tasks = us; left = e }

  module _ (n : Next (drop run.next T)) where
    g : Going st x (n.task ∷ n.tasks)
    g = subst (Going st x) n.left m.going

    -- the node that is called: the root, which has no ceiling
    abbrev called_node : Subtree
    called_node = record { height = h; slot = st.root; ceiling = no_ceiling }

    -- what the call asks
    pub ask : ToChange st W h called_node b run
    ask =
        record {
          held = m.held;
          asked = subst (λ (us : List Task). Asked st h no_ceiling ns (tree_at ns h st.root) us run.spare) (sym n.left) (record {
            holds = m.holds.tree;
            apart = keeps.apart;
            given = R.given lim c g;
            enough = R.enough lim c g;
            ready = g.fine.ready;
            due = all_head g.low;
            small = omega (arith, g.small);
            fit = g.fit;
            sets = g.sets;
            empty = m.holds.blank;
            spared = m.spared;
          });
          batch = m.batch;
        }

    abbrev o : Outcome (Tree h)
    o = R.call lim c g

    abbrev y : Index
    y = R.after lim c g

    -- THE ROOT CALLED
    module _ {W₁ : List ℕ} {r : Reply} (came : NodeChanged st W W₁ h called_node b run r) where
      abbrev ms : List S.Node
      ms = nodes st W₁

      answers : Answers h ns ms (tree_at ns h st.root) o (drop r.run.next T) r.result r.run.counts
      answers =
          subst (λ (us : List Task). Answers h ns ms (tree_at ns h st.root) (change st h no_ceiling (tree_at ns h st.root) us (run_of ns c)) (drop r.run.next T)
          r.result r.run.counts)
          n.left came.answers

      -- the pool holds the root as the call left it
      abbrev x₁ : Index
      x₁ = record { height = h; root = o.node; unused = o.run.unused }

      called : HoldsIndex ms x₁
      called = record { tree = answers.holds; unused = answers.unused; blank = answers.empty }

      light : length (entries_of x₁) < 1048576
      light = omega (arith, R.node_small lim c g)

      root_is : tree_at ms h st.root ≡ o.node
      root_is = root_read st.root ms h o.node (R.node_root lim c g) light answers.holds

      called_is : index_at st.root ms h ≡ x₁
      called_is = index_read st.root ms h x₁ refl (R.node_root lim c g) light called

      called_outside : Outside (nodes st W₀) ms x₀ x₁
      called_outside = outside_then m.outside ms answers.frame x₁ (λ s. omega (arith, R.node_slots lim c g s))

      pub returned : ToSettleRoot st W₁ (record { height = h; spare = r.run.spare }) r.result
      returned =
          record {
            keeps = subst (Holding st W₁) (sym called_is) (record {
              held = came.held;
              holds = called;
              apart = R.node_apart lim c g;
              small = light;
              fit = R.node_fit lim c g;
            });
            spared = came.spared;
            two = λ e. omega (arith, ap length answers.unused, R.two lim c g (sym answers.result ∙ e));
            gone = λ e. ap (λ (z : Tree h). z.items) root_is ∙ R.gone lim c g (sym answers.result ∙ e);
            bounded = omega (arith, g.shallow);
          }

      -- a key is taken at least
      pub further : run.next < r.run.next
      further =
          omega (arith, R.fewer lim c g, ap length answers.left, ap length n.left, length-drop r.run.next T, length-drop run.next T)

      -- AND ITS RESULT SETTLED
      module _ {W₂ : List ℕ} {q : Root} (done : RootSettled st W₁ W₂ h r.result q) where
        is : settle_root r.result h (tree_at ms h st.root) (unused_of ms) ≡ y
        is =
            ap (λ (v : ChangeResult). settle_root v h (tree_at ms h st.root) (unused_of ms)) answers.result
            ∙ ap (λ (z : Tree h). settle_root o.result h z (unused_of ms)) root_is ∙ ap (settle_root o.result h o.node) answers.unused

        on : Going st y o.tasks
        on = R.going_on lim c g

        holds_y : HoldsIndex (nodes st W₂) y
        holds_y = subst (HoldsIndex (nodes st W₂)) is done.becomes.holds

        read_y : index_at st.root (nodes st W₂) q.height ≡ y
        read_y = index_read st.root (nodes st W₂) q.height y (done.height ∙ ap (λ (z : Index). z.height) is) on.root (omega (arith, on.small)) holds_y

        outside_y : Outside (nodes st W₀) (nodes st W₂) x₀ y
        outside_y =
            let settled : Frame ms (nodes st W₂) (slots_of x₁) = subst (λ (z : Index). Frame ms (nodes st W₂) (slots_of z)) called_is done.becomes.frame in
            outside_then called_outside (nodes st W₂) settled y (λ s. omega (arith, R.after_slots lim c g s, ap (times s) answers.unused))

        off : R.Calls lim c g (whole st W₀ h₀ T)
        off =
            R.call_off lim c g m.calls (whole st W₀ h₀ T) (omega (arith, m.enough, ap length n.left))
            (ap (λ (us : List Task). change_root st m.calls x us c) (sym n.left) ∙ m.same)

        pub again : Running st W₀ h₀ b W₂ q.height (record { next = r.run.next; counts = r.run.counts; spare = q.spare })
        again =
            record {
              held = done.becomes.held;
              header = done.becomes.header ∙ came.header ∙ m.header;
              holds = subst (HoldsIndex (nodes st W₂)) (sym read_y) holds_y;
              spared = done.spared;
              outside = subst (Outside (nodes st W₀) (nodes st W₂) x₀) (sym read_y) outside_y;
              long = m.long;
              batch = record { lent = came.batch.lent; short = came.batch.short; within = came.batch.within; few = came.batch.few };
              going = subst (λ (z : Index). Going st z (drop r.run.next T)) (sym read_y) (subst (Going st y) (sym answers.left) on);
              calls = off.calls;
              enough = omega (arith, off.enough, ap length answers.left);
              same = ap (λ (z : Index). change_root st off.calls z (drop r.run.next T) r.run.counts) read_y
                  ∙ ap (λ (us : List Task). change_root st off.calls y us r.run.counts) answers.left
                  ∙ ap (change_root st off.calls y o.tasks) answers.counts ∙ off.same;
            }

  -- THE END: no key is left
  pub finish : {W' : List ℕ} {q : Root} → length b.keys ≤ run.next → RootLeft st W W' x (collapsed x) q
      → Changed st W₀ W' h₀ b (record { counts = run.counts; root = q })
  finish {W'} {q} ge d =
      record {
        held = d.becomes.held;
        header = d.becomes.header ∙ m.header;
        holds = subst (λ (z : Batched). HoldsIndex (nodes st W') (collapsed z.index)) all d.becomes.holds;
        frame = frame_then m.outside (nodes st W') d.becomes.frame;
        counts = ap (λ (z : Batched). z.counts) all;
        height = d.height ∙ ap (λ (z : Batched). (collapsed z.index).height) all;
        spared = d.spared;
      }
    where
      none_by : (us : List Task) → drop run.next T ≡ us → drop run.next T ≡ []
      none_by [] e = e
      none_by (u ∷ us) e = absurd (omega (arith, ap length e, length-drop run.next T, m.long))

      all : record { index = x; tasks = []; counts = c } ≡ whole st W₀ h₀ T
      all = sym (R.no_call st m.calls x c) ∙ ap (λ (us : List Task). change_root st m.calls x us c) (sym (none_by (drop run.next T) refl)) ∙ m.same
