-- What the hash calls on two shares answer, and what the lent outputs then hold.
use Rattle.std.specs.Prelude.{◌≡◌, not, List, [], ◌∷◌, ℕ, length}
use Rattle.worksheet.specs.Prog.{Prog}
use Rattle.worksheet.specs.Run.{run}
use Rattle.worksheet.specs.SharedList.{SharedList}
use Rattle.refusals.specs.declared.Refusal.TheVariants.{WrongLength}
use Rattle.refusals.specs.Refusals.{Answer, number, row, answer, after, Lent, lent, sized}
use Rattle.masked_sponge.specs.MaskedSponge.{permutations, hash_mask_words}
use Rattle.masked_sponge.specs.MaskedBytes.{masked_hash}

-- SHA3-512 and SHAKE256 of a message in two shares, the output of d bytes in two shares too
unfoldable pub masked_sha3_512 : List ℕ → List ℕ → Prog SharedList
masked_sha3_512 in0 in1 = masked_hash 72 0x06 in0 in1 64

unfoldable pub masked_shake256 : List ℕ → List ℕ → ℕ → Prog SharedList
masked_shake256 in0 in1 d = masked_hash 136 0x1f in0 in1 d

-- ---- answers

-- both inputs have one length, both outputs one, and there are 25 masks and 600 for each permutation
abbrev pub lengths : ℕ → List ℕ → List ℕ → List ℕ → List ℕ → List ℕ → List Lent
lengths rate in0 in1 masks out0 out1 =
    lent in0 (length in1)
    ∷ lent out0 (length out1)
    ∷ lent masks (hash_mask_words (permutations rate (length in0) (length out0)))
    ∷ []

unfoldable pub hash_answer : ℕ → List ℕ → List ℕ → List ℕ → List ℕ → List ℕ → Answer
hash_answer rate in0 in1 masks out0 out1 =
    answer (row (not (sized (lengths rate in0 in1 masks out0 out1))) WrongLength ∷ [])

unfoldable pub sha3_512_answer : List ℕ → List ℕ → List ℕ → List ℕ → List ℕ → Answer
sha3_512_answer in0 in1 masks out0 out1 =
    answer (row (not (sized (lent out0 64 ∷ lengths 72 in0 in1 masks out0 out1))) WrongLength ∷ [])

-- ---- what a call leaves

-- it answers r, whose number is n, and its outputs, which held old0 and old1, then hold new0 and new1: the shares of
-- what p gives on the lent masks where n is 0
pub record MaskedHashed (r : Answer) (p : Prog SharedList) (masks old0 old1 : List ℕ) (n : ℕ)
    (new0 new1 : List ℕ) : Type 0 where
  pub answer : n ≡ number r
  pub out0 : new0 ≡ after n (run p masks []).value.s0 old0
  pub out1 : new1 ≡ after n (run p masks []).value.s1 old1

-- the two calls: of the inputs, the masks and the outputs, as they were and as they are
abbrev pub masked_sha3_512_call : List ℕ → List ℕ → List ℕ → List ℕ → List ℕ → ℕ → List ℕ → List ℕ → Type 0
masked_sha3_512_call in0 in1 masks out0 out1 n out0' out1' =
    MaskedHashed (sha3_512_answer in0 in1 masks out0 out1) (masked_sha3_512 in0 in1) masks out0 out1 n out0' out1'

abbrev pub masked_shake256_call : List ℕ → List ℕ → List ℕ → List ℕ → List ℕ → ℕ → List ℕ → List ℕ → Type 0
masked_shake256_call in0 in1 masks out0 out1 n out0' out1' =
    MaskedHashed (hash_answer 136 in0 in1 masks out0 out1)
    (masked_shake256 in0 in1 (length out0)) masks out0 out1 n out0' out1'
