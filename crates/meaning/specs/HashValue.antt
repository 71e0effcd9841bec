-- Stages 3 and 9, and Kyber's last hash: the hash of shared words and a public string behind them joins to FIPS 202's
-- of the joined string.
use Rattle.std.specs.Prelude.{◌≡◌, List, ◌++◌, ℕ, ◌+◌, ◌*◌, ◌<◌, length, get_or, drop, replicate}
use Rattle.std.proofs.Common.{sym, ap, ap₂, ◌∙◌, arith, length-append, length-drop, get_or-drop}
use Rattle.std.proofs.lemmas.List.{length-replicate}
use Rattle.words.specs.Word.{xor}
use Rattle.words.specs.Bounded.{Below}
use Rattle.words.specs.LittleEndian.{words_to_bytes}
use Rattle.words.specs.LittleEndianLaws.{length-words_to_bytes, drop-words_to_bytes}
use Rattle.words.specs.TabLaws.{length-tab, get_or-tab, tab_of}
use Rattle.worksheet.specs.Gives.{Gives}
use Rattle.worksheet.specs.SharedList.{SharedList, shared_list, shared_at, unzip, joined_list}
use Rattle.worksheet.specs.SharedListLaws.{shared_at-unzip}
use Rattle.fips202.specs.Sponge.{sha3_512, shake256}
use Rattle.masked_fips202.specs.MaskedWords.{masked_shake256_words}
use Rattle.hash_functions.specs.Functions.{J}
use Rattle.stages.specs.Moves.{four, with_public, coins_of}
use Rattle.stages.specs.MovesLaws.{below_with_public0, below_with_public1}
use Rattle.stages.specs.Worksheet.{stage3, masked_j}
use Rattle.meaning.specs.HashWords.{gives_masked_sha3_512_words, gives-masked_shake256_words}
use Rattle.meaning.specs.JoinedLists.{joined_append, joined_bytes, joined_zeros}
use Rattle.masked_fips202.specs.MaskedSpongeValue.{WordSharing}
use Rattle.meaning.specs.StageSharing.{BytesSharing}

-- ---- the input: four words, in bytes, and a public string

joined_four : {l : List ℕ} {s : SharedList} → WordSharing 4 l s
    → joined_list (shared_list (four s.s0) (four s.s1)) ≡ l
unfolding joined_list
joined_four {l} {s} a =
    let at : (m : List ℕ) (i : ℕ) → i < 4 → get_or (four m) i 0 ≡ get_or m i 0 = λ m i h.
    get_or-tab 4 (λ i. get_or m i 0) i 0 h in
    rw (length-tab 4 (λ i. get_or s.s0 i 0))
    (sym (tab_of 0 l 4 a.long (λ i h. sym (ap₂ xor (at s.s0 i h) (at s.s1 i h) ∙ (a.at i h).joins))))

length_bytes : (m : List ℕ) → length (words_to_bytes 8 (four m)) ≡ 32
length_bytes m = length-words_to_bytes 8 (four m) ∙ ap (λ (n : ℕ). 8 * n) (length-tab 4 (λ i. get_or m i 0))

module _ {b : List ℕ} {s : SharedList} (public : List ℕ) (bytes : Below 256 public) (a : BytesSharing 4 b s) where
  joined_with_public : joined_list (with_public s public) ≡ b ++ public
  joined_with_public =
      joined_append (words_to_bytes 8 (four s.s0)) (words_to_bytes 8 (four s.s1)) public (replicate (length public) 0)
      (length_bytes s.s0 ∙ sym (length_bytes s.s1))
      ∙ ap₂ (λ (x y : List ℕ). x ++ y)
      (joined_bytes (four s.s0) (four s.s1) ∙ ap (words_to_bytes 8) (joined_four a.sharing) ∙ a.bytes)
      (joined_zeros public)

  same_length : length (with_public s public).s0 ≡ length (with_public s public).s1
  same_length =
      length-append (words_to_bytes 8 (four s.s0)) public
      ∙ sym
      (length-append (words_to_bytes 8 (four s.s1)) (replicate (length public) 0)
      ∙ ap₂ (λ (x y : ℕ). x + y)
      (length_bytes s.s1 ∙ sym (length_bytes s.s0)) (length-replicate {A = ℕ} (length public) 0))

  -- SHAKE256 of shared words and a public string, n words of output
  pub gives_shake : (n : ℕ) → Gives (BytesSharing n (shake256 (b ++ public) (8 * n)))
      (masked_shake256_words (with_public s public).s0 (with_public s public).s1 n)
  gives_shake n =
      rw joined_with_public at
      (gives-masked_shake256_words same_length (below_with_public0 s public bytes) (below_with_public1 s public) n)

  -- ---- the stages

  pub gives-stage3 : Gives (BytesSharing 8 (sha3_512 (b ++ public))) (stage3 s public)
  unfolding stage3
  gives-stage3 =
      rw joined_with_public at
      (gives_masked_sha3_512_words same_length (below_with_public0 s public bytes) (below_with_public1 s public))

  -- stage 9, and Kyber's last hash
  pub gives-masked_j : Gives (BytesSharing 4 (J (b ++ public))) (masked_j s public)
  unfolding masked_j
  gives-masked_j = gives_shake 4

-- the coins are the last half of stage 3's words
pub coins_sharing : {b : List ℕ} {g : SharedList} → BytesSharing 8 b g → BytesSharing 4 (drop 32 b) (coins_of g)
unfolding unzip
coins_sharing {g = g} a =
    let w = a.sharing in
    record {
      words = drop 4 a.words;
      sharing = record {
        long = length-drop 4 a.words ∙ omega (arith, w.long);
        long0 = length-tab 4 _;
        at = λ i h.
            rw (get_or-drop 4 a.words i 0, shared_at-unzip 4 (λ i. shared_at g (4 + i)) i h)
            (w.at (4 + i) (omega arith));
      };
      bytes = sym (drop-words_to_bytes 8 4 a.words (omega (arith, w.long))) ∙ ap (drop 32) a.bytes;
    }
