-- Two lists as n sharings.
use Rattle.std.specs.Prelude.{List, ℕ}
use Rattle.words.specs.Tab.{tab}
use Rattle.worksheet.specs.Shares.{Shares}
use Rattle.worksheet.specs.SharedList.{SharedList, shared_at}

unfoldable pub zip : ℕ → SharedList → List Shares
zip n s = tab n (shared_at s)
