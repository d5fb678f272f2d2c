-- What the functions on runs of words leave, and the test for zeros, of any list W. Assumes nothing.
use Rattle.std.specs.Prelude.{ℕ, ◌+◌, Bool, true, ◌&&◌, List, [], ◌∷◌, ◌++◌, take, drop, replicate, eqb}

-- W with the n words of U from `from` on copied to `to`
unfoldable pub brought : List ℕ → List ℕ → ℕ → ℕ → ℕ → List ℕ
brought U W from to n = take to W ++ take n (drop from U) ++ drop (to + n) W

-- W with the n words from `from` on copied to `to`
abbrev pub moved : List ℕ → ℕ → ℕ → ℕ → List ℕ
moved W from to n = brought W W from to n

-- W with the n words from `from` on set to 0
unfoldable pub cleared : List ℕ → ℕ → ℕ → List ℕ
cleared W from n = take from W ++ replicate n 0 ++ drop (from + n) W

-- whether every element is 0
unfoldable pub all_zero : List ℕ → Bool
all_zero [] = true
all_zero (x ∷ l) = eqb x 0 && all_zero l
