-- What `times` gives. Assumes nothing.
use Rattle.std.specs.Prelude.{ℕ, ◌*◌, cond, ◌||◌, nat_lt}

-- the product of numbers below 65,536; of greater ones it is 0
abbrev pub product : ℕ → ℕ → ℕ
product a b = cond (nat_lt 65535 a || nat_lt 65535 b) 0 (a * b)
