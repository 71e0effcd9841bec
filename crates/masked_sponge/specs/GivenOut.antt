-- Output given out of the states that a sponge on two shares goes through: elements of any kind, of which each block
-- has so many. Bytes and words are the two kinds.
use mathlib.Core.Path.{◌≡◌, ap, ap₂, ◌∙◌, subst}
use mathlib.Core.List.{List}
use Prim.Native.Nat.{ℕ, suc, ◌+◌, ◌-◌, ◌*◌, ◌/◌, ◌%◌, ◌<◌}
use native.Mathlib.Nat.{div-div-eq-div-mul}
use native.Mathlib.Omega.{arith}
use lib.ListN.{get_or}
use Rattle.words.specs.Tab.{tab}
use Rattle.words.specs.TabLaws.{get_or-tab, tab_cong}
use Rattle.worksheet.specs.declared.Recorder.{Recorder}
use Rattle.worksheet.specs.declared.Shared.{Shared}
use Rattle.worksheet.specs.Prog.{Prog, loop}
use Rattle.worksheet.specs.Run.{run}
use Rattle.worksheet.specs.Ran.{Ran, bind, over}
use Rattle.worksheet.specs.RanChain.{state_after, chain-ran}
use Rattle.worksheet.specs.SharedList.{SharedList, shared_list, unzip}
use Rattle.masked_keccak.specs.MaskedKeccak.{masked_keccak_p}
use Rattle.fips202.specs.Sponge.{byte_of}
use Rattle.fips202.specs.Lanes.{byte_place, block_lt}
use Rattle.fips202.proofs.Output.{Reading, output_of}
use Rattle.masked_sponge.specs.MaskedSponge.{further_blocks, masked_squeeze}
use Rattle.masked_sponge.specs.MaskedSteps.{squeeze_bytes, lane}

-- the state behind q permutations
abbrev pub states_of : SharedList → List ℕ → List ℕ → ℕ → SharedList
states_of s ws cs q = (run (loop q (λ _. masked_keccak_p) s) ws cs).value

-- n elements of output from s and the states that follow it
abbrev pub outputs : {A : Type 0} → Reading A → ℕ → ℕ → SharedList → List ℕ → List ℕ → Shared (List A)
outputs read per n s ws cs =
    record {
      s0 = tab n (output_of read per (λ q. (states_of s ws cs q).s0));
      s1 = tab n (output_of read per (λ q. (states_of s ws cs q).s1));
    }

-- a definition of squeezing gives out what the states give, in blocks of whole lanes, in_lane elements each, and does
-- nothing but their permutations
abbrev pub GivesOut : {A : Type 0} → ℕ → Reading A → (ℕ → ℕ → SharedList → Prog (Shared (List A))) → Type 0
GivesOut in_lane read squeezed =
    (per n : ℕ) (s₀ s : SharedList) (r r' : Recorder) (ws cs ws' : List ℕ) → 0 < per → per % in_lane ≡ 0
    → Ran (loop (further_blocks per n) (λ _. masked_keccak_p) s₀) r ws cs s r' ws' cs
    → Ran (squeezed per n s₀) r ws cs (outputs read per n s₀ ws cs) r' ws' cs

-- ---- words

pub words_given_out : GivesOut 1 lane masked_squeeze
unfolding masked_squeeze unzip
words_given_out lanes n s₀ s r r' ws cs ws' h d a =
    let k = further_blocks lanes n in
    let f : ℕ → SharedList → Prog SharedList = λ _. masked_keccak_p in
    let st = state_after f s₀ r ws cs in
    let at : (i : ℕ) → i < n → get_or (tab (suc k) st) (i / lanes) s₀ ≡ st (i / lanes) =
    λ i g. get_or-tab (suc k) st (i / lanes) s₀ (block_lt lanes n i h g) in
    let e0 = tab_cong n (λ i g. ap (λ (z : SharedList). get_or z.s0 (i % lanes) 0) (at i g)) in
    let e1 = tab_cong n (λ i g. ap (λ (z : SharedList). get_or z.s1 (i % lanes) 0) (at i g)) in
    subst (λ (z : SharedList). Ran (masked_squeeze lanes n s₀) r ws cs z r' ws' cs) (ap₂ shared_list e0 e1)
    (bind _ (chain-ran f s₀ r ws cs k a) over)

-- ---- bytes

output_words : (rate n : ℕ) (s : ℕ → List ℕ) → 0 < rate → rate % 8 ≡ 0
    → tab n (byte_of (tab ((n + 7) / 8) (output_of lane (rate / 8) s))) ≡ tab n (output_of byte_of rate s)
output_words rate n s h d =
    tab_cong n (λ x g.
    let p = byte_place rate x h d in
    rw (get_or-tab ((n + 7) / 8) (output_of lane (rate / 8) s) (x / 8) 0 (omega arith), p.0, p.1, p.2))

further_words : (rate n : ℕ) → rate % 8 ≡ 0 → further_blocks (rate / 8) ((n + 7) / 8) ≡ further_blocks rate n
further_words rate n d =
    let w : 8 * (rate / 8) ≡ rate = omega arith in
    let v : (n + 7) / 8 - 1 ≡ (n - 1) / 8 = omega arith in
    rw v (div-div-eq-div-mul (n - 1) 8 (rate / 8) ∙ ap (λ (k : ℕ). (n - 1) / k) w)

pub bytes_given_out : GivesOut 8 byte_of (λ per n s. squeeze_bytes (per / 8) n s)
unfolding squeeze_bytes
bytes_given_out rate n s₀ s r r' ws cs ws' h d a =
    let m = (n + 7) / 8 in
    let b : Ran (loop (further_blocks (rate / 8) m) (λ _. masked_keccak_p) s₀) r ws cs s r' ws' cs =
    rw (further_words rate n d) a in
    subst (λ (z : SharedList). Ran (squeeze_bytes (rate / 8) n s₀) r ws cs z r' ws' cs)
    (ap₂ shared_list (output_words rate n (λ q. (states_of s₀ ws cs q).s0) h d)
    (output_words rate n (λ q. (states_of s₀ ws cs q).s1) h d))
    (bind _ (words_given_out (rate / 8) m s₀ s r r' ws cs ws' (omega arith) (omega arith) b) over)
