-- The words of a list of bytes: eight bytes to a word, the lowest first. Assumes nothing.
use Rattle.std.specs.Prelude.{ℕ, zero, suc, ◌+◌, ◌*◌, ◌/◌, ◌%◌, ◌≤◌, ◌≡◌, List, [], ◌∷◌, ◌++◌, length, take, drop}

-- the number that some bytes spell
unfoldable pub word : List ℕ → ℕ
word [] = 0
word (b ∷ r) = b + 256 * word r

-- the first n words of l
unfoldable pub words_n : ℕ → List ℕ → List ℕ
words_n zero l = []
words_n (suc n) l = word (take 8 l) ∷ words_n n (drop 8 l)

-- the words of l, without the bytes after the last whole one
unfoldable pub words : List ℕ → List ℕ
words l = words_n (length l / 8) l

-- the bytes after the last whole one
unfoldable pub behind : List ℕ → List ℕ
behind l = drop (8 * (length l / 8)) l

-- the other way: the n bytes that spell v, and the bytes of some words
unfoldable pub spell : ℕ → ℕ → List ℕ
spell zero v = []
spell (suc n) v = v % 256 ∷ spell n (v / 256)

unfoldable pub bytes_of : List ℕ → List ℕ
bytes_of [] = []
bytes_of (w ∷ ws) = spell 8 w ++ bytes_of ws

-- a pool that was l₀ and is l has kept its size, and the bytes behind its words; `small` is for a caller's sums of indices
pub record Same (l₀ l : List ℕ) : Type 0 where
  pub bytes : length l ≡ length l₀
  pub count : length (words l) ≡ length (words l₀)
  pub small : length (words l₀) ≤ length l₀
  pub rest : behind l ≡ behind l₀
