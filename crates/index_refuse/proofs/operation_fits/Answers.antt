-- `operation_fits` meets its contract: what an operation carries is known in the arm that matches it. Assumes nothing.
use mathlib.Core.Path.{sym, subst}
use Rattle.model.specs.Demands.{OperationFits, ActionFits}
use Rattle.index_refuse.proofs.operation_fits.Goals as goal

pub returns-in-Set : goal.returns-in-Set
returns-in-Set c = subst OperationFits (sym c.in-Set.is) c.reference_fits.ensures

pub returns-in-SetEach : goal.returns-in-SetEach
returns-in-SetEach c = subst OperationFits (sym c.in-SetEach.is) tt

pub returns-in-Remove : goal.returns-in-Remove
returns-in-Remove c = subst OperationFits (sym c.in-Remove.is) tt

pub returns-in-Set-a : goal.returns-in-Set-a
returns-in-Set-a c =
    subst OperationFits (sym c.in-Compare.is) (subst ActionFits (sym c.in-Set-a.is) c.reference_fits-in-Set-a.ensures)

pub returns-in-Remove-a : goal.returns-in-Remove-a
returns-in-Remove-a c = subst OperationFits (sym c.in-Compare.is) (subst ActionFits (sym c.in-Remove-a.is) tt)
