-- Iota on two shares: the constant goes into share 0 of lane 0, and all other lanes stay as chi gave them.
use mathlib.Core.Path.{◌≡◌}
use mathlib.Core.List.{List}
use Prim.Native.Nat.{ℕ}
use native.Mathlib.Omega.{arith}
use lib.ListN.{length, get_or, set}
use Rattle.words.specs.Word.{xor}
use Rattle.keccak_constants.specs.RoundConstants.{constant}
use Rattle.worksheet.specs.declared.Recorder.{Recorder}
use Rattle.worksheet.specs.Shares.{Shares}
use Rattle.worksheet.specs.Prog.{Prog, ret, ◌>>=◌, entry}
use Rattle.worksheet.specs.Ran.{Ran, Makes, bind, over}
use Rattle.worksheet.specs.Sharing.{none}
use Rattle.worksheet.specs.SharedList.{SharedList, shared_list, unzip}
use Rattle.worksheet.specs.Zip.{zip}
use Rattle.worksheet.specs.SharedListLaws.{get_d_zip, unzip-zip}

-- what follows chi in a round
abbrev iota : ℕ → List Shares → Prog SharedList
iota i c = do
  k ← entry (xor (get_or c 0 none).s0 (constant i))
  ret (let t = unzip 25 (λ j. get_or c j none) in shared_list (set t.s0 0 k) t.s1)

pub iota-ran : (i : ℕ) (a b : List ℕ) {k v : ℕ} {r r' : Recorder} {ws cs : List ℕ}
    → length a ≡ 25 → length b ≡ 25 → k ≡ constant i → Makes (entry (xor (get_or a 0 0) k)) r v r'
    → Ran (iota i (zip 25 (shared_list a b))) r ws cs (shared_list (set a 0 v) b) r' ws cs
iota-ran i a b {ws = ws} {cs = cs} e0 e1 e m =
    let s = shared_list a b in
    let z = get_d_zip 25 s 0 none (omega arith) in
    rw (z, unzip-zip 25 s none e0 e1) (bind _ (rw e at (m ws cs)) over)
