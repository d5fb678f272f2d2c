-- `get` meets its contract: a sound pool can be searched, and the page that is filled shows what the model lists. Assumes nothing.
use native.Mathlib.Omega.{arith}
use Rattle.look.proofs.Sounds.{pool_grown, pool_got}
use Rattle.look.proofs.calls.get.Goals as goal

pub get_keys-requires : goal.get_keys-requires
get_keys-requires c =
    let a = c.args in record { grown = pool_grown a.pool.now a.st a.height c.requires; space = omega arith }

pub returns : goal.returns
returns c =
    let a = c.args in
    let got = c.get_keys in
    pool_got a.pool.now a.st a.height c.requires a.keys.now a.out.now got.new.out got.result got.ensures
