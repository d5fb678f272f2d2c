-- THE ROOT'S CALLS in the model: each takes a task at least, has slots enough, two of them left for a split, and leaves an index that can take the
-- tasks left. Assumes nothing.
use mathlib.Core.Path.{◌≡◌, refl, sym, ap, ◌∙◌}
use mathlib.Core.Bool.{true≢false}
use mathlib.Core.List.{List, [], ◌∷◌}
use Prim.Native.Nat.{ℕ, zero, suc, ◌+◌, ◌≤◌, ◌<◌}
use native.Mathlib.Omega.{arith}
use lib.ListN.{length, length-append}
use Rattle.model.specs.declared.Counts.{Counts}
use Rattle.model.specs.declared.Settings.{Settings}
use Rattle.model.specs.Lists.{All, times}
use Rattle.model.specs.Tree.{Tree, Index, slots, slots_of, entries_of}
use Rattle.model.specs.Plain.{Task}
use Rattle.model.specs.declared.ChangeResult.TheVariants.{Remove, Split}
use Rattle.model.specs.Change.{is_change, Outcome, change, no_ceiling, settle_root, Batched, change_root}
use Rattle.model.specs.Sound.{InLimits, Fits}
use Rattle.model.specs.Promises.{flat, Rising, Grants, Given, Enough}
use Rattle.model.proofs.Lists.{all_left}
use Rattle.model.proofs.Plain.{list_all, list_long}
use Rattle.model.proofs.Changes.{did_left, did_rising, Owes}
use Rattle.model.proofs.Batches.{Fine, RootSettled, Room, calling, called, after_call}
use Rattle.model.proofs.Batches.{call_given, call_owes, call_settled, call_fewer, call_enough, call_two, call_room}
use Rattle.tree.specs.Bridge.{Apart}

-- AN INDEX THAT CAN TAKE THE TASKS ts
pub record Going (st : Settings) (x : Index) (ts : List Task) : Type 0 where
  pub fine : Fine st x
  pub root : x.root.slot ≡ st.root
  pub once : (s : ℕ) → times s (slots_of x) + times s x.unused ≤ 1
  pub rising : Rising ts
  pub short : length ts ≤ st.order
  pub low : All (λ t. t.key ≤ no_ceiling) ts
  pub room : Room x ts
  pub sets : All (Grants Fits) ts
  pub fit : All Fits (entries_of x)
  pub small : length (entries_of x) + length ts ≤ 600000
  -- each call takes a task at least, and adds a level at most
  pub shallow : x.height + length ts ≤ 40

-- ONE CALL
module _ {st : Settings} {x : Index} {t : Task} {ts : List Task} (lim : InLimits st) (c : Counts) (g : Going st x (t ∷ ts)) where
  abbrev pub call : Outcome (Tree x.height)
  call = change st x.height no_ceiling x.root (t ∷ ts) (record { unused = x.unused; counts = c })

  abbrev pub after : Index
  after = settle_root call.result x.height call.node call.run.unused

  pub given : Given st x.height x.root (t ∷ ts)
  given = call_given st lim x t ts c g.fine g.rising g.short g.low

  owes : Owes st x.height no_ceiling x.root (t ∷ ts) (record { unused = x.unused; counts = c }) call
  unfolding calling called
  owes = call_owes st lim x t ts c g.fine g.rising g.short g.low

  settled : RootSettled st lim call.result x.height call.node call.run.unused after
  unfolding calling called after_call
  settled = call_settled st lim x t ts c g.fine g.rising g.short g.low

  pub fewer : length call.tasks < suc (length ts)
  unfolding calling called
  fewer = call_fewer st lim x t ts c g.fine g.rising g.short g.low

  pub gone : call.result ≡ Remove → call.node.items ≡ []
  gone e = rw e at (owes.says (λ q. absurd (true≢false (sym (ap is_change e) ∙ q))))

  pub enough : Enough x.height (t ∷ ts) x.unused
  enough = call_enough st lim x t ts c g.fine g.rising g.short g.low g.room

  pub two : call.result ≡ Split → 2 ≤ length call.run.unused
  unfolding calling called
  two = call_two st lim x t ts c g.fine g.rising g.short g.low g.room

  -- THE ROOT THAT THE CALL LEAVES

  pub node_root : call.node.slot ≡ st.root
  node_root = owes.slot ∙ g.root

  -- no slot is lost and none comes in
  pub node_slots : (s : ℕ)
      → times s (slots (suc x.height) call.node) + times s call.run.unused ≡ times s (slots_of x) + times s x.unused
  node_slots s = owes.slots enough s

  pub node_apart : Apart x.height call.node
  node_apart s = omega (arith, node_slots s, g.once s)

  parted : length owes.did.taken + length call.tasks ≡ suc (length ts)
  parted = sym (length-append owes.did.taken call.tasks) ∙ ap length (sym owes.did.split)

  pub node_small : length (flat x.height call.node.items) + length call.tasks ≤ 600000
  node_small = omega (arith, ap length owes.did.list, list_long owes.did.taken (entries_of x), parted, g.small)

  pub node_fit : All Fits (flat x.height call.node.items)
  node_fit =
      let taken : All (Grants Fits) owes.did.taken = all_left owes.did.taken call.tasks (rw owes.did.split at g.sets) in
      rw owes.did.list (list_all Fits taken g.fit)

  -- AND THE INDEX, once its result is settled
  pub after_slots : (s : ℕ)
      → times s (slots_of after) + times s after.unused ≡ times s (slots (suc x.height) call.node) + times s call.run.unused
  after_slots s = settled.slots two s

  pub going_on : Going st after call.tasks
  unfolding calling called after_call
  going_on =
      record {
        fine = settled.fine;
        root = settled.root_slot ∙ node_root;
        once = λ s. omega (arith, after_slots s, node_slots s, g.once s);
        rising = did_rising owes.did g.rising;
        short = omega (arith, fewer, g.short);
        low = did_left owes.did g.low;
        room = call_room st lim x t ts c g.fine g.rising g.short g.low g.room;
        sets = did_left owes.did g.sets;
        fit = rw settled.list node_fit;
        small = omega (arith, ap length settled.list, node_small);
        shallow = omega (arith, settled.height, fewer, g.shallow);
      }

  -- the calls from there on are one fewer
  pub record Calls (b : Batched) : Type 0 where
    pub calls : ℕ
    pub enough : length call.tasks ≤ calls
    pub same : change_root st calls after call.tasks call.run.counts ≡ b

  pub call_off : (n : ℕ) (b : Batched) → suc (length ts) ≤ n → change_root st n x (t ∷ ts) c ≡ b → Calls b
  call_off zero b le e = absurd (omega arith)
  call_off (suc n) b le e = record { calls = n; enough = omega (arith, fewer); same = e }

-- NO TASK LEFT
pub no_call : (st : Settings) (n : ℕ) (x : Index) (c : Counts) → change_root st n x [] c ≡ record { index = x; tasks = []; counts = c }
no_call st zero x c = refl
no_call st (suc n) x c = refl
