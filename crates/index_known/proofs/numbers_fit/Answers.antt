-- `numbers_fit` meets its contract: each slice holds numbers of its type (`lends`). Assumes nothing.
use Rattle.model.specs.Refuse.{call}
use Rattle.index_known.proofs.Lends.{lends}
use Rattle.index_known.proofs.numbers_fit.Goals as goal

pub returns : goal.returns
returns c =
    let a = c.args in
    lends (call a.op a.places.now a.sizes.now a.keys.now) c.operation_fits.ensures
    (λ i. (c.type_inv.places i).fits) (λ i. (c.type_inv.sizes i).fits) (λ i. (c.type_inv.keys i).fits)
