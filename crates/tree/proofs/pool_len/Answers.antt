-- `pool_len` meets its contract: settings in limits have few words, so that no product wraps. Assumes nothing.
use mathlib.Core.Path.{◌≡◌, sym, ap, ◌∙◌, subst}
use Prim.Native.Nat.{ℕ, ◌+◌, ◌*◌, ◌≤◌}
use native.Mathlib.Omega.{arith}
use Rattle.slots_raw.specs.Slots.{head_len, width}
use Rattle.model.specs.declared.Settings.{Settings}
use Rattle.model.specs.Sound.{rows_for}
use Rattle.model.proofs.Layers.{handed_most}
use Rattle.tree.proofs.Opening.{slots_small}
use Rattle.tree.proofs.pool_len.Goals as goal

pub width-requires : goal.width-requires
width-requires c =
    omega (arith, ap (λ (st : Settings). st.rows) c.handed-st.ensures, handed_most c.args.given c.requires)

pub overflow_mul-result : goal.overflow_mul-result
overflow_mul-result c = omega (arith, (let it : c.args.given.nodes * c.width.result ≤ 3178496 = subst (λ (w : ℕ). c.args.given.nodes * w ≤ 3178496) (sym (let it : c.width.result ≡ width (rows_for c.args.given) = c.width.ensures ∙ ap (λ (st : Settings). width st.rows) c.handed-st.ensures in it)) (slots_small c.args.given c.requires) in it))

pub overflow_add-result : goal.overflow_add-result
overflow_add-result c = omega (arith, (let it : c.args.given.nodes * c.width.result ≤ 3178496 = subst (λ (w : ℕ). c.args.given.nodes * w ≤ 3178496) (sym (let it : c.width.result ≡ width (rows_for c.args.given) = c.width.ensures ∙ ap (λ (st : Settings). width st.rows) c.handed-st.ensures in it)) (slots_small c.args.given c.requires) in it))

pub overflow_mul-result-2 : goal.overflow_mul-result-2
overflow_mul-result-2 c = omega (arith, (let it : c.args.given.nodes * c.width.result ≤ 3178496 = subst (λ (w : ℕ). c.args.given.nodes * w ≤ 3178496) (sym (let it : c.width.result ≡ width (rows_for c.args.given) = c.width.ensures ∙ ap (λ (st : Settings). width st.rows) c.handed-st.ensures in it)) (slots_small c.args.given c.requires) in it))

pub returns : goal.returns
returns c = ap (λ (w : ℕ). 8 * (head_len + c.args.given.nodes * w)) (let it : c.width.result ≡ width (rows_for c.args.given) = c.width.ensures ∙ ap (λ (st : Settings). width st.rows) c.handed-st.ensures in it)
