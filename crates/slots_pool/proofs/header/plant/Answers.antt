-- `plant` meets its contract: the settings are those that the tree is handed, and its root stands within the pool. Assumes nothing.
use mathlib.Core.Path.{sym, subst}
use Rattle.words.specs.Words.{words}
use Rattle.model.specs.declared.Settings.{Settings}
use Rattle.model.proofs.Layers.{handed_root}
use Rattle.slots.specs.Nodes.{leaf_kind, nodes, put_kind}
use Rattle.slots.specs.Promises.{ToTouch, NodesPut}
use Rattle.slots_pool.proofs.header.plant.Goals as goal

pub set_kind-requires : goal.set_kind-requires
set_kind-requires c =
    let a = c.args in
    subst (λ (st : Settings). ToTouch st (words a.pool.now) st.root) (sym c.handed-st.ensures)
    (record { held = c.requires.held; slot = handed_root a.given c.requires.limits a.tree })

pub returns : goal.returns
returns c =
    let W = words c.args.pool.now in
    let X = words c.set_kind.new.pool in
    subst (λ (st : Settings). NodesPut st W X (put_kind (nodes st W) st.root leaf_kind)) c.handed-st.ensures c.set_kind.ensures
