-- `split_over` meets its contract: a child that fits stays (`fits_rowed`), and one that does not is split (`over_rowed`). Assumes nothing.
use native.Mathlib.Omega.{arith}
use Rattle.batch_share.proofs.Focuses.{poise_focus, focus_sits}
use Rattle.batch_share.proofs.Shares.{fits_rowed, over_rowed}
use Rattle.batch_share.proofs.share.split_over.Goals as goal

pub child_len-requires : goal.child_len-requires
child_len-requires c = focus_sits (poise_focus c.requires)

pub returns-then-child_len-st : goal.returns-then-child_len-st
returns-then-child_len-st c = fits_rowed c.requires (omega (arith, c.if-child_len-st.true, c.child_len.ensures))

pub returns : goal.returns
returns c =
    over_rowed c.requires _ _ (omega (arith, c.if-child_len-st.false, c.child_len.ensures))
    c.split_child.ensures
