-- What stands between the gadgets: shares read, cut and put together. None of it enters anything.
use Rattle.std.specs.Prelude.{List, [], ◌++◌, ℕ, ◌+◌, ◌/◌, ◌%◌, get_or, length, replicate}
use Rattle.words.specs.Digit.{digit}
use Rattle.words.specs.LittleEndian.{words_to_bytes}
use Rattle.words.specs.Tab.{tab}
use Rattle.worksheet.specs.Shares.{Shares}
use Rattle.worksheet.specs.Sharing.{shares}
use Rattle.worksheet.specs.SharedList.{SharedList, shared_list, shared_at, unzip}

abbrev pub nothing : SharedList
nothing = shared_list [] []

-- one share of the polynomials of a list
abbrev pub shares0 : List SharedList → ℕ → List ℕ
shares0 l i = (get_or l i nothing).s0

abbrev pub shares1 : List SharedList → ℕ → List ℕ
shares1 l i = (get_or l i nothing).s1

-- bit i of a string of words
abbrev pub string_bit : SharedList → ℕ → Shares
string_bit w i = shares (digit (i % 64) (get_or w.s0 (i / 64) 0)) (digit (i % 64) (get_or w.s1 (i / 64) 0))

-- the first four words
abbrev pub four : List ℕ → List ℕ
four l = tab 4 (λ i. get_or l i 0)

-- four words and a public string behind them, in bytes; the string stands in share 0
abbrev pub with_public : SharedList → List ℕ → SharedList
with_public w public =
    shared_list (words_to_bytes 8 (four w.s0) ++ public) (words_to_bytes 8 (four w.s1) ++ replicate (length public) 0)

-- of the eight words of SHA3-512 the last four
abbrev pub coins_of : SharedList → SharedList
coins_of g = unzip 4 (λ i. shared_at g (4 + i))
