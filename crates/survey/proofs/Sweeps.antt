-- The pass over the slots: where it stands after some of them. Assumes nothing.
use mathlib.Core.Path.{◌≡◌, sym, ap, ◌∙◌, subst}
use mathlib.Core.Logic.{◌≢◌}
use Rattle.std.specs.Prelude.{Some, None}
use Rattle.std.proofs.lemmas.Option.{none-some, same_Some}
use mathlib.Core.List.{List, ◌∷◌}
use Prim.Native.Nat.{ℕ, suc, ◌+◌, ◌-◌, ◌≤◌, ◌<◌}
use native.Mathlib.Omega.{arith}
use native.Mathlib.Decide.{dec_lt, ℕ_discrete}
use lib.ListN.{length, drop, drop_of_length-le}
use lib.Seq.{drop-cons}
use borrow.Author.Tests.{eq-eqb, ne_eqb}
use Rattle.slots_raw.specs.Slots.{raw_at}
use Rattle.slots.specs.Nodes.{unused_kind, nodes, nth, unused, raw_for}
use Rattle.slots.specs.Nodes as S
use Rattle.slots.proofs.Nodes.{kind_node, length_nodes}
use Rattle.slots_pool.proofs.Canons.{past_raw}
use Rattle.model.specs.declared.Settings.{Settings}
use Rattle.model.proofs.Answers.{tells_no, tells_yes}
use Rattle.tree.specs.Bridge.{unused_from}
use Rattle.tree_spare.specs.Spared.{Spared}
use Rattle.survey.specs.Promises.{Idle, SlotsTold}

-- where the pass stands when it has come down to slot s
pub record Swept (st : Settings) (W : List ℕ) (free least s : ℕ) : Type 0 where
  pub within : s ≤ st.nodes
  pub idle : (t : ℕ) → s ≤ t → t < st.nodes → Idle st W t
  pub unused : free ≡ length (unused_from s (drop s (nodes st W)))
  pub few : free + s ≤ st.nodes
  pub low : least ≤ st.nodes
  pub before : (t : ℕ) → s ≤ t → t < least → (nth (nodes st W) t).kind ≢ unused_kind
  pub here : least < st.nodes → (nth (nodes st W) least).kind ≡ unused_kind

module _ (st : Settings) (W : List ℕ) where
  pub swept_none : Swept st W 0 st.nodes st.nodes
  swept_none =
      let all : length (nodes st W) ≤ st.nodes = omega (arith, length_nodes st W) in
      record {
        within = omega arith;
        idle = λ t le lt. absurd (omega arith);
        unused = ap (λ (l : List S.Node). length (unused_from st.nodes l)) (sym (drop_of_length-le (nodes st W) all));
        few = omega arith;
        low = omega arith;
        before = λ t le lt. absurd (omega arith);
        here = λ lt. absurd (omega arith);
      }

  module _ (free least s : ℕ) (g : Swept st W free least s) (some : 0 < s) where
    more_idle : Idle st W (s - 1) → (t : ℕ) → s - 1 ≤ t → t < st.nodes → Idle st W t
    more_idle z t le lt = by (ℕ_discrete (s - 1) t)
      where
        by : Dec (s - 1 ≡ t) → Idle st W t
        by (yes e) = subst (Idle st W) e z
        by (no ne) = g.idle t (omega arith) lt

    next : drop (s - 1) (nodes st W) ≡ nth (nodes st W) (s - 1) ∷ drop s (nodes st W)
    next =
        let e : suc (s - 1) ≡ s = omega arith in
        drop-cons (nodes st W) (s - 1) unused (omega (arith, length_nodes st W, g.within)) ∙ ap (λ (j : ℕ). nth (nodes st W) (s - 1) ∷ drop j (nodes st W)) e

    pub swept_unused : (raw_at st W (s - 1)).kind ≡ unused_kind → raw_at st W (s - 1) ≡ raw_for st.rows unused → Swept st W (free + 1) (s - 1) (s - 1)
    swept_unused k z =
        let kind : (nth (nodes st W) (s - 1)).kind ≡ unused_kind = sym (kind_node st W (s - 1)) ∙ k in
        let e : suc (s - 1) ≡ s = omega arith in
        record {
          within = omega (arith, g.within);
          idle = more_idle (λ q. z);
          unused = rw (next, eq-eqb (nth (nodes st W) (s - 1)).kind unused_kind kind, e) (omega (arith, g.unused));
          few = omega (arith, g.few);
          low = omega (arith, g.within);
          before = λ t le lt. absurd (omega arith);
          here = λ lt. kind;
        }

    pub swept_used : ((raw_at st W (s - 1)).kind ≡ unused_kind → ⊥) → Swept st W free least (s - 1)
    swept_used k =
        let kind : (nth (nodes st W) (s - 1)).kind ≢ unused_kind = λ q. k (kind_node st W (s - 1) ∙ q) in
        let e : suc (s - 1) ≡ s = omega arith in
        record {
          within = omega (arith, g.within);
          idle = more_idle (λ q. absurd (kind q));
          unused = rw (next, ne_eqb (nth (nodes st W) (s - 1)).kind unused_kind kind, e) g.unused;
          few = omega (arith, g.few);
          low = g.low;
          before = λ t le lt. by kind t le lt (ℕ_discrete (s - 1) t);
          here = g.here;
        }
      where
        by : (nth (nodes st W) (s - 1)).kind ≢ unused_kind → (t : ℕ) → s - 1 ≤ t → t < least → Dec (s - 1 ≡ t) → (nth (nodes st W) t).kind ≢ unused_kind
        by kind t le lt (yes e) = rw (sym e) kind
        by kind t le lt (no ne) = g.before t (omega arith) lt

  -- at slot 0 every slot has been seen
  pub swept_end : (free least s : ℕ) → s ≤ 0 → Swept st W free least s → SlotsTold st W (Some (record { low = least; unused = free }))
  swept_end free least s z g =
      let e : s ≡ 0 = omega arith in
      let spared : Spared (nodes st W) (record { low = least; unused = free }) =
      record {
        lowest = record {
          within = omega (arith, length_nodes st W, g.low);
          before = λ t lt. g.before t (omega arith) lt;
          here = λ lt. g.here (omega (arith, length_nodes st W));
        };
        count = g.unused ∙ ap (λ (j : ℕ). length (unused_from j (drop j (nodes st W)))) e;
      } in
      record { idle = tells_yes each; spared = λ x q. subst (Spared (nodes st W)) (same_Some _ x q) spared }
    where
      each : (t : ℕ) → Idle st W t
      each t = by (dec_lt t st.nodes)
        where
          by : Dec (t < st.nodes) → Idle st W t
          by (yes lt) = g.idle t (omega arith) lt
          by (no ge) = λ q. past_raw st W t ge

  -- at an unused slot that is not all zero
  pub swept_not : (s : ℕ) → (Idle st W s → ⊥) → SlotsTold st W None
  swept_not s f = record { idle = tells_no (λ z. f (z s)); spared = λ x q. absurd (none-some x q) }
