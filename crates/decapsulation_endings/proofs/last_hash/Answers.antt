-- h holds the ciphertext's digest, and the hash of 64 bytes draws 625 words.
use mathlib.Core.Path.{◌≡◌, refl, ap, ◌∙◌}
use mathlib.Core.List.{List}
use Prim.Native.Nat.{ℕ, ◌+◌}
use native.Mathlib.Omega.{arith}
use lib.ListN.{length, drop}
use Rattle.fips202.specs.Sponge.{sha3_256}
use Rattle.fips202.specs.OutputLaws.{length_sha3_256}
use Rattle.worksheet.specs.declared.Recorder.{Recorder}
use Rattle.worksheet.specs.Ran.{Ran}
use Rattle.worksheet.specs.SharedList.{SharedList}
use Rattle.masked_fips202.specs.MaskedWords.{shake256_mask_words}
use Rattle.stages.specs.Counts.{last_hash_words}
use Rattle.stages.specs.Worksheet.{masked_j}
use Rattle.decapsulation_endings.proofs.last_hash.Goals as goal

-- ---- facts, where h is the digest of c
module _ (c : List ℕ) {h : List ℕ} (e : h ≡ sha3_256 c) where
  digest-long : length h ≡ 32
  digest-long = ap length e ∙ length_sha3_256 c

  digest-words : shake256_mask_words (32 + length h) 4 ≡ last_hash_words
  digest-words = ap (λ (n : ℕ). shake256_mask_words (32 + n) 4) digest-long

  digest-ran : (w : SharedList) {v : SharedList} {r r' : Recorder} {ws cs : List ℕ}
      → Ran (masked_j w h) r ws cs v r' (drop (shake256_mask_words (32 + length h) 4) ws) cs
      → Ran (masked_j w (sha3_256 c)) r ws cs v r' (drop last_hash_words ws) cs
  digest-ran w x = rw (← e) (rw digest-words at x)

pub masked_j-requires : goal.masked_j-requires
masked_j-requires c =
    let e = c.hash_h.ensures in
    let words = digest-words c.args.c.now e in
    let long = digest-long c.args.c.now e in
    record {
      hash = record {
        input = c.requires.input;
        public = refl;
        words = omega (arith, c.requires.words, words);
        out = c.requires.out;
      };
      most = omega (arith, long);
    }

pub returns : goal.returns
returns c cs =
    digest-ran c.args.c.now c.hash_h.ensures _ (c.masked_j.ensures cs)
