-- The output of get, scan and portion: entries of three words, one behind the other; and how it fills, an entry at a time. Assumes nothing.
use Rattle.std.specs.Prelude.{ℕ, zero, suc, ◌+◌, ◌*◌, ◌/◌, true, false, cond, List, [], ◌∷◌, ◌++◌, length, take, drop, get_or, ltb}
use Rattle.words.specs.Words.{bytes_of}
use Rattle.model.specs.declared.Entry.{Entry}
use Rattle.look_output.specs.declared.Listed.{Listed}

-- key, place and size of each entry
abbrev pub entry_words : List Entry → List ℕ
entry_words [] = []
entry_words (e ∷ es) = e.key ∷ e.place ∷ e.size ∷ entry_words es

-- the other way: the first n entries that stand in some words
abbrev pub read_entries : ℕ → List ℕ → List Entry
read_entries zero ws = []
read_entries (suc n) ws = record { key = get_or ws 0 0; place = get_or ws 1 0; size = get_or ws 2 0 } ∷ read_entries n (drop 3 ws)

-- how many entries fit whole
abbrev pub room_in : List ℕ → ℕ
room_in out = length out / 24

-- an output that begins with some entries, and is as it was behind them
abbrev pub output_of : List Entry → List ℕ → List ℕ
output_of es out = bytes_of (entry_words es) ++ drop (24 * length es) out

-- HOW IT FILLS

-- an output, and what was listed in it
pub record Page : Type 0 where
  pub bytes : List ℕ
  pub listed : Listed

abbrev pub page : List ℕ → Listed → Page
page out l = record { bytes = out; listed = l }

-- nothing is listed yet
abbrev pub fresh_page : List ℕ → Page
fresh_page out = page out (record { written = 0; more = false })

-- the bytes with e for entry n
abbrev pub put_entry : ℕ → Entry → List ℕ → List ℕ
put_entry n e out = take (24 * n) out ++ (bytes_of (entry_words (e ∷ [])) ++ drop (24 * n + 24) out)

-- another entry is due: it is written, or the output is full and more was due; then the listing has ended
abbrev pub enlist : ℕ → Entry → Page → Page
enlist room e p =
    cond p.listed.more p
    (cond (ltb p.listed.written room)
    (page (put_entry p.listed.written e p.bytes) (record { written = p.listed.written + 1; more = false }))
    (page p.bytes (record { written = p.listed.written; more = true })))

abbrev pub enlist_all : ℕ → List Entry → Page → Page
enlist_all room [] p = p
enlist_all room (e ∷ es) p = enlist_all room es (enlist room e p)
