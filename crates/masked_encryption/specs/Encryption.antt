-- Parts of masked encryption.
use mathlib.Core.List.{List, flatten}
use Rattle.std.specs.Prelude.{ℕ}
use Rattle.worksheet.specs.Shares.{Shares}
use Rattle.worksheet.specs.Prog.{Prog, ret, ◌>>=◌, times}
use Rattle.worksheet.specs.SharedList.{SharedList}
use Rattle.parameters.specs.declared.Parameters.{Parameters}
use Rattle.stages.specs.Worksheet.{compress_poly, stage6, stage7}
use Rattle.stages.specs.Layout.{part_of}

-- masked compression of k polynomials to depth d
unfoldable pub compress_polys : ℕ → ℕ → SharedList → Prog (List Shares)
compress_polys d k f = do
  u ← times k (λ i. compress_poly d (part_of 256 f i))
  ret (flatten u)

-- stages 6 and 7, for the noise n and the message's polynomial mu
unfoldable pub encrypt_with : Parameters → List ℕ → List SharedList → SharedList → Prog (List Shares)
encrypt_with p ek n mu = do
  r ← stage6 p ek n mu
  stage7 p r
